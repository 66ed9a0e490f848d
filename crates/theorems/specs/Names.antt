-- One header for all files: the model's declared types and constructors, and the names of the library, the model and its laws.
pub use Rattle.model.specs.declared.{LockId.LockId, MachineId.MachineId, TaskId.TaskId, ClientId.ClientId}
pub use Rattle.model.specs.declared.{Mode.Mode, Mode.TheVariants.{Exclusive, Shared}, Owner.Owner, Owner.TheVariants.{Free as Unowned, Owned}}
pub use Rattle.model.specs.declared.{Decider.Decider}
pub use Rattle.model.specs.declared.{Waiter.Waiter, Queue.Queue, Agent.Agent, AgentSlot.AgentSlot}
pub use Rattle.model.specs.declared.{Address.Address, Address.TheVariants.{Decider as ToDecider, Machine as ToMachine}, Message.Message}
pub use Rattle.model.specs.declared.{Message.TheVariants.{Free, Acquire, Grant, Release}, Packet.Packet, Wire.Wire}
pub use Rattle.model.specs.declared.{Status.Status, Status.TheVariants.{Idle, Waiting, Holding}, ClientState.ClientState, Site.Site, LockState.LockState}
pub use Rattle.model.specs.declared.{Cluster.Cluster}
pub use Rattle.model.specs.declared.{Call.Call, Call.TheVariants.{Acquire as AcquireCall, Release as ReleaseCall, Deliver as DeliverCall}}
pub use Rattle.model.specs.declared.{Call.TheVariants.{Lose as LoseCall, GiveUp as GiveUpCall}}
pub use Rattle.model.specs.declared.{Refusal.Refusal}
pub use Rattle.model.specs.declared.{Refusal.TheVariants.{Malformed, LockRange, MachineRange, TaskRange, ModeRange, NotIdle, StillNamed, NotHolding}}
pub use Rattle.model.specs.declared.{Refusal.TheVariants.{IndexRange, CannotPlace, WireFull, BadRecord, TranscriptLength, NotQuiescent, NotWaiting}}
pub use Rattle.model.specs.declared.{Refusal.TheVariants.{PreferenceRange, CannotGiveUp, CannotLose}}
pub use Rattle.model.specs.Names.{Answer, Accepted, Refused, ReasonAnswer, Because, NoReason, Found, Nowhere, At, None}
pub use Rattle.model.specs.declared.{Reason.Reason, Reason.TheVariants.{Requested, Granted, Rejected, Queued, Carried, GrantLost}}
pub use Rattle.model.specs.declared.{Handling.Handling, Handling.TheVariants.{NoAgent, NotHolder, Taken}}
pub use Rattle.model.specs.declared.{Stepped.Stepped, Outcome.Outcome, Drained.Drained}
-- ---- the library
pub use Rattle.std.specs.Prelude.{refl, Bool, true, false, not, List, [], map, ℕ, zero, suc, min, max, length, get_or, set, replicate, eqb, leb, ltb}
pub use Rattle.std.proofs.Common.{sym, ap, ◌∙◌, true≢false, arith, length-set, length-append, get_or-set_same, get_or-set_other, eqb-true, eq-eqb, ne_eqb}
pub use Rattle.std.proofs.Common.{ltb-true, ltb-false, lt-ltb, leb-true, leb-false, le-leb}
pub use Rattle.std.proofs.Math.Bool.{and-true, and-false}
pub use Rattle.std.proofs.lemmas.Bool.{false≢true, eqb-false, lt-leb}
pub use Rattle.std.proofs.Math.Decide.{ℕ_discrete}
pub use Rattle.std.proofs.Math.ListN.{get_or-eq_default}
pub use Rattle.std.proofs.lemmas.List.{set-get_or}
-- ---- the model and its laws
pub use Rattle.model.specs.Lists.{pick, any, all, IsFirst}
unfoldable pub use Rattle.model.specs.Lists.{count, is_at, indices, removed}
pub use Rattle.model.specs.States.{locks, machines, tasks, clients, queue_capacity, wire_capacity, client_of, machine_of, mode_of, is_shared, no_holders}
pub use Rattle.model.specs.States.{new_agent}
pub use Rattle.model.specs.States.{some_agent, agent_on, listed, idle, status_of, note_of, is_waiting, plain, carrying, resent, unowned, lock_in, preferences}
pub use Rattle.model.specs.States.{prefers_writers}
unfoldable pub use Rattle.model.specs.States.{queue_of, waiters, no_agent, blank_packet, wire_of, packets, fresh_lock, fresh_with}
pub use Rattle.model.specs.WellFormed.{is_client, is_free, circled_formed, to_decider}
unfoldable pub use Rattle.model.specs.WellFormed.{client_formed, lock_formed, well_formed}
pub use Rattle.model.specs.Changes.{site_of, with_decider, with_slot, with_status, with_note, Verdict, cannot_place, does, apply, accepted}
unfoldable pub use Rattle.model.specs.Changes.{finish}
pub use Rattle.model.specs.Asking.{changed, joining, queuing, no_room, with_room, any_holder, without, departing, leaves, lists, writer_in}
unfoldable pub use Rattle.model.specs.Asking.{may_join, client_asks, client_acquires, hand_over, stays_if, client_releases, client_gives_up, grant_is_lost}
pub use Rattle.model.specs.AtDecider.{next, sent_on, owned_shared, grants_with, grants_first, shares, noting, current, rejects, passes_on}
unfoldable pub use Rattle.model.specs.AtDecider.{may_share, to_owner, decides_release, decides_acquire, decides_free, decides_grant, decides, at_decider}
pub use Rattle.model.specs.AtMachine.{sent_back, sends_back, grant_of, installed, requeued, granted_in, queues, unqueuing}
unfoldable pub use Rattle.model.specs.AtMachine.{admitted, staying, joined, taken_off, installs, grant_arrives, rejected_grant_arrives, marked, unmarked}
unfoldable pub use Rattle.model.specs.AtMachine.{acquire_arrives}
unfoldable pub use Rattle.model.specs.AtMachine.{release_arrives, free_arrives, arrives, at_machine, handles}
pub use Rattle.model.specs.Calls.{refusing, is_holding, message_names, names, machine_at, client_named, packet_at, answers_of, after, lock_of}
pub use Rattle.model.specs.Calls.{handlings_of, latest, is_grant}
unfoldable pub use Rattle.model.specs.Calls.{delivers, acquire_step, release_step, takes, deliver_step, settled}
unfoldable pub use Rattle.model.specs.Calls.{unless, acquire, release, deliver, perform, run}
unfoldable pub use Rattle.model.specs.Calls.{give_up_step, drops, lose_step, can_be_lost, lose, give_up}
unfoldable pub use Rattle.model.specs.Calls.{handled_at, last_told, fresh}
pub use Rattle.model.specs.Refusals.{refusal_number, number}
pub use Rattle.model.specs.Counts.{agents_in, is_marked, marks_in, uncounted}
pub use Rattle.model.specs.Trace.{View, unseen, is_accepted, to_machine, is_grant_for, shows_grant, after_acquire}
pub use Rattle.model.specs.Trace.{after_grant, after_release, after_give_up, after_loss, viewed, phase_after, lost_after}
unfoldable pub use Rattle.model.specs.Trace.{sees, watch}
pub use Rattle.model.specs.History.{message_numbers, same_message, number_of, sent_behind, own_numbers, history_after}
unfoldable pub use Rattle.model.specs.History.{same_numbers, numbers_after, numbers_of}
pub use Rattle.model.specs.Reasons.{is_request_of, requests, grants, grant_rejected, queued_in, reason_tests, reason_number, reason_values}
unfoldable pub use Rattle.model.specs.Reasons.{is_true, in_queues, reasons_in, first_true, reason_in, reason_unless, reason}
pub use Rattle.laws.specs.Tests.{and_left, and_right, both, or_left, or_right, bool_cases}
pub use Rattle.laws.specs.Shapes.{packets_of, waiters_of}
pub use Rattle.laws.specs.Formed.{slot_in, in_parts}
pub use Rattle.laws.specs.Parting.{Parting, done, first_leaves, first_stays, parting, none_leaves, length_joined}
