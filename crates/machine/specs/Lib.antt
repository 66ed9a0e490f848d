-- Who is admitted from a queue, waiter by waiter.
pub mod Names
pub mod Admits
