-- The model's declared types and their constructors: a facade passes on no `pub use`, so each crate has this list.
pub use Rattle.model.specs.declared.{Mode.Mode, Waiter.Waiter, Queue.Queue}
