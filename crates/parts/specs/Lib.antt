-- What the code does to arrays, and laws that join it to the model's definitions over lists.
pub mod Names
pub mod Arrays
pub mod Writes
pub mod Scans
pub mod Search
pub mod Sought
