-- The model's declared types and their constructors: a facade passes on no `pub use`, so each crate has this list.
pub use Rattle.model.specs.declared.{LockId.LockId, ClientId.ClientId, Packet.Packet, ClientState.ClientState, LockState.LockState, Cluster.Cluster}
pub use Rattle.model.specs.declared.{Call.Call, Call.TheVariants.{Release as ReleaseCall, Deliver as DeliverCall, GiveUp as GiveUpCall}}
pub use Rattle.model.specs.declared.{Refusal.Refusal, Refusal.TheVariants.{Malformed, LockRange, NotQuiescent}}
pub use Rattle.model.specs.declared.{Handling.Handling, Stepped.Stepped}
pub use Rattle.model.specs.Names.{Answer, Accepted, Refused}
