-- The declared types and their constructors, so that a file names them in one line; and what an answer and a search come to, in this field's words.
use Rattle.std.specs.Prelude.{ℕ, ⊤}
pub use Rattle.std.specs.Prelude.{Option, Some, None, Some as At, None as Nowhere, Result, Ok, Err, Err as Refused, Ok as Because, Err as NoReason}
pub use Rattle.model.specs.declared.{LockId.LockId, MachineId.MachineId, TaskId.TaskId, ClientId.ClientId}
pub use Rattle.model.specs.declared.{Mode.Mode, Mode.TheVariants.{Exclusive, Shared}, Owner.Owner, Owner.TheVariants.{Free as Unowned, Owned}}
pub use Rattle.model.specs.declared.{Decider.Decider}
pub use Rattle.model.specs.declared.{Waiter.Waiter, Queue.Queue, Agent.Agent, AgentSlot.AgentSlot}
pub use Rattle.model.specs.declared.{Address.Address, Address.TheVariants.{Decider as ToDecider, Machine as ToMachine}, Message.Message}
pub use Rattle.model.specs.declared.{Message.TheVariants.{Free, Acquire, Grant, Release}, Packet.Packet, Wire.Wire}
pub use Rattle.model.specs.declared.{Status.Status, Status.TheVariants.{Idle, Waiting, Holding}, ClientState.ClientState, Site.Site, LockState.LockState}
pub use Rattle.model.specs.declared.{Cluster.Cluster}
pub use Rattle.model.specs.declared.{Call.Call, Call.TheVariants.{Acquire as AcquireCall, Release as ReleaseCall, Deliver as DeliverCall}}
pub use Rattle.model.specs.declared.{Call.TheVariants.{Lose as LoseCall, GiveUp as GiveUpCall}}
pub use Rattle.model.specs.declared.{Reading.Reading, Reading.TheVariants.{Record, Bad, End}}
pub use Rattle.model.specs.declared.{Refusal.Refusal}
pub use Rattle.model.specs.declared.{Refusal.TheVariants.{Malformed, LockRange, MachineRange, TaskRange, ModeRange, NotIdle, StillNamed, NotHolding}}
pub use Rattle.model.specs.declared.{Refusal.TheVariants.{IndexRange, CannotPlace, WireFull, BadRecord, TranscriptLength, NotQuiescent, NotWaiting}}
pub use Rattle.model.specs.declared.{Refusal.TheVariants.{PreferenceRange, CannotGiveUp, CannotLose}}
pub use Rattle.model.specs.declared.{Reason.Reason, Reason.TheVariants.{Requested, Granted, Rejected, Queued, Carried, GrantLost}}
pub use Rattle.model.specs.declared.{Handling.Handling, Handling.TheVariants.{NoAgent, NotHolder, Taken}}
pub use Rattle.model.specs.declared.{Stepped.Stepped, Outcome.Outcome, Drained.Drained, Replayed.Replayed}

-- accepted, or refused
abbrev pub Answer : Type 0
Answer = Result ⊤ Refusal

abbrev pub Accepted : Answer
Accepted = Ok tt

-- to the question why a client waits
abbrev pub ReasonAnswer : Type 0
ReasonAnswer = Result Reason Refusal

-- what a search comes to: the index of what it found, or nowhere
abbrev pub Found : Type 0
Found = Option ℕ
