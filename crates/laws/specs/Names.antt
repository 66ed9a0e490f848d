-- The model's declared types and their constructors: a facade passes on no `pub use`, so each crate has this list.
pub use Rattle.model.specs.declared.{LockId.LockId, MachineId.MachineId, TaskId.TaskId, ClientId.ClientId}
pub use Rattle.model.specs.declared.{Mode.Mode, Mode.TheVariants.{Exclusive, Shared}, Owner.Owner, Owner.TheVariants.{Free as Unowned, Owned}}
pub use Rattle.model.specs.declared.{Waiter.Waiter, Queue.Queue, Agent.Agent, AgentSlot.AgentSlot}
pub use Rattle.model.specs.declared.{Address.Address, Address.TheVariants.{Decider as ToDecider, Machine as ToMachine}, Message.Message}
pub use Rattle.model.specs.declared.{Message.TheVariants.{Free, Acquire, Grant, Release}, Packet.Packet, Wire.Wire}
pub use Rattle.model.specs.declared.{Status.Status, Status.TheVariants.{Idle, Waiting, Holding}, ClientState.ClientState, Site.Site, LockState.LockState}
pub use Rattle.model.specs.declared.{Cluster.Cluster}
pub use Rattle.model.specs.declared.{Call.Call, Call.TheVariants.{Acquire as AcquireCall, Release as ReleaseCall, Deliver as DeliverCall}}
pub use Rattle.model.specs.declared.{Call.TheVariants.{Lose as LoseCall, GiveUp as GiveUpCall}}
pub use Rattle.model.specs.declared.{Refusal.Refusal}
pub use Rattle.model.specs.declared.{Refusal.TheVariants.{Malformed}}
pub use Rattle.model.specs.Names.{Answer, Accepted, Refused, None}
pub use Rattle.model.specs.declared.{Handling.Handling}
pub use Rattle.model.specs.declared.{Stepped.Stepped, Outcome.Outcome}
