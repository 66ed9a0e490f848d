-- What the drain's code loops over, and laws that join it to the model's drain.
pub mod Names
pub mod DrainState
