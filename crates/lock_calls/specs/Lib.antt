-- What the code tests, and laws that join it to the model's calls.
pub mod Names
pub mod LockCalls
