-- What a test of two elements says.
pub mod Tests
