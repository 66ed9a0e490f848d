-- A step is about one machine and one client, fixed before its rule runs. It takes a packet off the wire or none, writes the decider,
-- the machine's agent and the client's status and note, and appends packets: nothing else moves.
use Rattle.std.specs.Prelude.{Bool, false, List, ◌++◌, ℕ, ◌+◌, length, set, leb, Option, Ok}
use Rattle.model.specs.Lists.{pick}
use Rattle.model.specs.Names.{MachineId, ClientId, Decider, AgentSlot, Packet, Status, Site, LockState, Refusal, CannotPlace, WireFull, Answer}
use Rattle.model.specs.Names.{Accepted, Refused, Handling, None, Stepped}
use Rattle.model.specs.States.{wire_capacity, wire_of, agent_on, status_of, note_of}

-- The site: what a rule looks at and, but for the preference, may write.
abbrev pub site_of : ℕ → LockState → MachineId → ClientId → Site
site_of n s k c = record { preference = n; decider = s.decider; slot = agent_on s k; status = status_of s c; lost = note_of s c }

abbrev pub with_decider : Site → Decider → Site
with_decider v d = record { preference = v.preference; decider = d; slot = v.slot; status = v.status; lost = v.lost }

abbrev pub with_slot : Site → AgentSlot → Site
with_slot v x = record { preference = v.preference; decider = v.decider; slot = x; status = v.status; lost = v.lost }

-- A status that is written has no note: a client gets one only while it waits (request 8 of document 02).
abbrev pub with_status : Site → Status → Site
with_status v st = record { preference = v.preference; decider = v.decider; slot = v.slot; status = st; lost = false }

abbrev pub with_note : Site → Bool → Site
with_note v b = record { preference = v.preference; decider = v.decider; slot = v.slot; status = v.status; lost = b }

-- A rule says that the step cannot be placed, or gives the site after it and the packets sent.
pub data Verdict : Type 0 where
  cannot_place : Verdict
  does : Site → List Packet → Verdict

-- New packets go to the wire's end, after the rest that stays on it.
abbrev pub apply : MachineId → ClientId → Site → List Packet → List Packet → LockState → LockState
apply k c v sends rest s =
    record {
      decider = v.decider;
      agents = set s.agents k.0 v.slot;
      clients = set s.clients c.0 (record { status = v.status; lost = v.lost });
      wire = wire_of (rest ++ sends);
    }

abbrev pub accepted : LockState → Stepped
accepted s = record { answer = Accepted; handling = None; state = s }

abbrev pub refused : Refusal → LockState → Stepped
refused n s = record { answer = Refused n; handling = None; state = s }

-- Refusal 9 is the rule's own, and 10 comes where the packets that stay and those sent are too many for the wire. Both leave the state.
unfoldable pub finish : MachineId → ClientId → Verdict → List Packet → LockState → Stepped
finish k c cannot_place rest s = refused CannotPlace s
finish k c (does v sends) rest s =
    pick (leb (length rest + length sends) wire_capacity) (accepted (apply k c v sends rest s)) (refused WireFull s)

-- A step that is accepted may tell a handling beside its answer; one that is refused tells none.
abbrev pub told_by : Answer → Option Handling → Option Handling
told_by (Ok tt) h = h
told_by (Refused r) h = None

abbrev pub telling : Option Handling → Stepped → Stepped
telling h t = record { answer = t.answer; handling = told_by t.answer h; state = t.state }
