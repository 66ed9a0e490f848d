-- What the search for a reason comes to.
pub mod Searching
