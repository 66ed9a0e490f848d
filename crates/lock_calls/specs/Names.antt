-- The model's declared types and their constructors: a facade passes on no `pub use`, so each crate has this list.
pub use Rattle.model.specs.declared.{LockId.LockId, MachineId.MachineId, TaskId.TaskId, ClientId.ClientId}
pub use Rattle.model.specs.declared.{ClientState.ClientState, LockState.LockState, Cluster.Cluster}
pub use Rattle.model.specs.declared.{Call.Call, Call.TheVariants.{Acquire as AcquireCall, Release as ReleaseCall, Deliver as DeliverCall, Lose as LoseCall}}
pub use Rattle.model.specs.declared.{Call.TheVariants.{GiveUp as GiveUpCall}}
pub use Rattle.model.specs.declared.{Refusal.Refusal}
pub use Rattle.model.specs.declared.{Refusal.TheVariants.{Malformed, LockRange, MachineRange, TaskRange, ModeRange, NotIdle, StillNamed, NotHolding}}
pub use Rattle.model.specs.declared.{Refusal.TheVariants.{IndexRange, CannotGiveUp, CannotLose}}
pub use Rattle.model.specs.declared.{Stepped.Stepped, Outcome.Outcome}
pub use Rattle.model.specs.Names.{Answer, Accepted, Refused}
