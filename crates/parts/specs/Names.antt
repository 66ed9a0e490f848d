-- The model's declared types and their constructors: a facade passes on no `pub use`, so each crate has this list.
pub use Rattle.model.specs.declared.{Waiter.Waiter, Queue.Queue}
pub use Rattle.model.specs.declared.{Packet.Packet, Wire.Wire}
pub use Rattle.model.specs.declared.{ClientState.ClientState}
