-- The model's declared types and their constructors: a facade passes on no `pub use`, so each crate has this list.
pub use Rattle.model.specs.declared.{MachineId.MachineId, ClientId.ClientId, Packet.Packet, Wire.Wire, LockState.LockState}
pub use Rattle.model.specs.declared.{Refusal.Refusal, Refusal.TheVariants.{WireFull}, Handling.Handling, Stepped.Stepped}
pub use Rattle.model.specs.Names.{Accepted}
