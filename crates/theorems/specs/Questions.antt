-- The question for the reason at worked states: the number and the values of each answer written by hand, one theorem by computation; and the search of a wire
-- for a client, in the same way. It stands on the model alone, so that a fault in a definition shows here as a wrong figure. Clients 0/0, 0/1, 1/0 and 2/0
-- are 0, 1, 4 and 8.
use Rattle.std.specs.Prelude.{◌≡◌, refl, List, [], ◌∷◌, ℕ, set}
use Rattle.model.specs.Lists.{padded, is_at, IsFirst, indices}
use Rattle.theorems.specs.Names.{false, Shared, AgentSlot, ToDecider, Free, Acquire, Grant, Release, Packet, LockState, ReasonAnswer, carrying, plain}
use Rattle.theorems.specs.Names.{Found, Nowhere, At}
use Rattle.model.specs.States.{queue_of, waiters, some_agent, no_agent, blank_packet, wire_of, packets, fresh_lock}
use Rattle.model.specs.WellFormed.{shaped, is_blank_waiter, distinct, queue_formed, agent_formed, is_blank_agent, slot_formed, message_formed, packet_formed}
use Rattle.model.specs.WellFormed.{is_blank_packet, wire_formed, client_formed, lock_formed, well_formed}
use Rattle.model.specs.Refusals.{first}
use Rattle.model.specs.Calls.{names}
use Rattle.model.specs.Reasons.{is_true, in_queues, reasons_in, first_true, reason_in, reason_unless, reason, reason_number, reason_values}
use Rattle.theorems.specs.Scenarios.{machine, client, on, owned, queue, agent, returning, nowhere, others, lock, with0, d1, d1_held, d2, d6, waits}
use Rattle.theorems.specs.Scenarios.{waiting4, d8_queued, f_unmarked, f_rejected, f_requeued, grant_to1, marked_to0, lost_by, lost_noted_is, gave_up_is}

-- with lock 0 in this state: asked of a lock, a machine and a task, it is answered with this number and these values
pub data Question : Type 0 where
  asks : LockState → ℕ → ℕ → ℕ → List ℕ → Question

abbrev pub told : ReasonAnswer → List ℕ
told a = reason_number a ∷ reason_values a

abbrev pub Answered : Question → Type 0
Answered (asks s l k t ns) = told (reason (with0 s) (on l) (machine k) (record { 0 = t })) ≡ ns

-- ---- states made by hand, in which 1/0 waits
abbrev by_hand : List AgentSlot → List Packet → LockState
by_hand slots ps = lock (owned Shared 0 0) slots (waiting4 Shared others) ps

abbrev asked4 : Packet
asked4 = plain (Acquire (client 4) Shared false) ToDecider

abbrev asked8 : Packet
asked8 = plain (Acquire (client 8) Shared false) ToDecider

abbrev rejected4 : Packet
rejected4 = returning (Grant (client 4) Shared) 0 (agent Shared [] 0)

-- agents with 1/0 in the queue, behind one other and at the front, and without it
abbrev behind : AgentSlot
behind = some_agent (queue (waits 8 ∷ waits 4 ∷ []) (agent Shared [] 0))

abbrev front : AgentSlot
front = some_agent (queue (waits 4 ∷ []) (agent Shared [] 0))

abbrev without : AgentSlot
without = some_agent (queue (waits 8 ∷ []) (agent Shared [] 0))

abbrev freeing : AgentSlot → Packet
freeing x = carrying Free ToDecider x.agent

-- no wire has 50 packets
abbrev too_long : LockState
too_long = record { decider = fresh_lock.decider; agents = nowhere; clients = others; wire = record { slots = (wire_of []).slots; len = 50 } }

pub data Name : Type 0 where
  requested granted granted-marked rejected queued queued-second carried : Name
  idle idle-marked holding no-lock no-machine no-task lock-first machine-first malformed : Name
  request-first grant-first rejected-first machine-queue-first : Name
  lowest-request lowest-grant lowest-rejected lowest-machine lowest-packet : Name
  marked-none other_none nothing : Name
  lost lost_last gave_up : Name

abbrev pub questions : Name → Question
-- in runs: the scenarios' states
questions requested = asks f_unmarked 0 1 0 (0 ∷ 1 ∷ 0 ∷ [])
questions granted = asks d1 0 0 0 (0 ∷ 2 ∷ 0 ∷ [])
questions granted-marked = asks d2 0 1 0 (0 ∷ 2 ∷ 0 ∷ [])
questions rejected = asks f_rejected 0 1 0 (0 ∷ 3 ∷ 0 ∷ [])
questions queued = asks d8_queued 0 1 0 (0 ∷ 4 ∷ 0 ∷ 0 ∷ [])
questions queued-second = asks f_requeued 0 2 0 (0 ∷ 4 ∷ 0 ∷ 1 ∷ [])
questions carried = asks f_rejected 0 2 0 (0 ∷ 5 ∷ 0 ∷ 0 ∷ [])
-- refused: 1/0 is idle at D6, with a RELEASE and a mark under way; 0/0 holds
questions idle = asks fresh_lock 0 0 0 (15 ∷ [])
questions idle-marked = asks d6 0 1 0 (15 ∷ [])
questions holding = asks d1_held 0 0 0 (15 ∷ [])
questions no-lock = asks d1 8 0 0 (1 ∷ [])
questions no-machine = asks d1 0 4 0 (2 ∷ [])
questions no-task = asks d1 0 0 4 (3 ∷ [])
questions lock-first = asks d1 8 4 4 (1 ∷ [])
questions machine-first = asks d1 0 4 4 (2 ∷ [])
questions malformed = asks too_long 8 4 4 (11 ∷ [])
-- made by hand: of two that are true the first in order, though it stands last
questions request-first = asks (by_hand nowhere (grant_to1 ∷ asked4 ∷ [])) 0 1 0 (0 ∷ 1 ∷ 1 ∷ [])
questions grant-first = asks (by_hand nowhere (rejected4 ∷ grant_to1 ∷ [])) 0 1 0 (0 ∷ 2 ∷ 1 ∷ [])
questions rejected-first = asks (by_hand (set nowhere 0 front) (rejected4 ∷ [])) 0 1 0 (0 ∷ 3 ∷ 0 ∷ [])
questions machine-queue-first = asks (by_hand (set nowhere 3 behind) (freeing front ∷ [])) 0 1 0 (0 ∷ 4 ∷ 3 ∷ 1 ∷ [])
-- the lowest index, the lowest machine
questions lowest-request = asks (by_hand nowhere (marked_to0 ∷ asked4 ∷ asked4 ∷ [])) 0 1 0 (0 ∷ 1 ∷ 1 ∷ [])
questions lowest-grant = asks (by_hand nowhere (marked_to0 ∷ grant_to1 ∷ grant_to1 ∷ [])) 0 1 0 (0 ∷ 2 ∷ 1 ∷ [])
questions lowest-rejected = asks (by_hand nowhere (marked_to0 ∷ rejected4 ∷ rejected4 ∷ [])) 0 1 0 (0 ∷ 3 ∷ 1 ∷ [])
questions lowest-machine = asks (by_hand (without ∷ no_agent ∷ behind ∷ front ∷ []) []) 0 1 0 (0 ∷ 4 ∷ 2 ∷ 1 ∷ [])
questions lowest-packet = asks (by_hand (set nowhere 0 without) (freeing without ∷ freeing behind ∷ freeing front ∷ [])) 0 1 0 (0 ∷ 5 ∷ 1 ∷ 1 ∷ [])
-- and none: a mark and a RELEASE; packets and queues of others; nothing
questions marked-none = asks (by_hand nowhere (marked_to0 ∷ plain (Release (client 4)) ToDecider ∷ [])) 0 1 0 (15 ∷ [])
questions other_none = asks (by_hand (set nowhere 0 without) (asked8 ∷ plain (Grant (client 0) Shared) ToDecider ∷ freeing without ∷ [])) 0 1 0 (15 ∷ [])
questions nothing = asks (by_hand nowhere []) 0 1 0 (15 ∷ [])
-- 1/0's GRANT was lost; by hand, it stands in a queue too; and it gave up
questions lost = asks lost_noted_is 0 1 0 (0 ∷ 6 ∷ [])
questions lost_last = asks (lock (owned Shared 0 0) nowhere (lost_by 4 others) (freeing front ∷ [])) 0 1 0 (0 ∷ 5 ∷ 0 ∷ 0 ∷ [])
questions gave_up = asks gave_up_is 0 1 0 (15 ∷ [])

pub questions_answered : (n : Name) → Answered (questions n)
unfolding reason reason_unless reason_in first_true reasons_in in_queues is_true is_at indices first
    client_formed
    well_formed lock_formed wire_formed packet_formed message_formed slot_formed agent_formed is_blank_agent is_blank_packet is_blank_waiter queue_formed
    distinct shaped
    padded queue_of waiters no_agent blank_packet wire_of packets fresh_lock
questions_answered requested = refl
questions_answered granted = refl
questions_answered granted-marked = refl
questions_answered rejected = refl
questions_answered queued = refl
questions_answered queued-second = refl
questions_answered carried = refl
questions_answered idle = refl
questions_answered idle-marked = refl
questions_answered holding = refl
questions_answered no-lock = refl
questions_answered no-machine = refl
questions_answered no-task = refl
questions_answered lock-first = refl
questions_answered machine-first = refl
questions_answered malformed = refl
questions_answered request-first = refl
questions_answered grant-first = refl
questions_answered rejected-first = refl
questions_answered machine-queue-first = refl
questions_answered lowest-request = refl
questions_answered lowest-grant = refl
questions_answered lowest-rejected = refl
questions_answered lowest-machine = refl
questions_answered lowest-packet = refl
questions_answered marked-none = refl
questions_answered other_none = refl
questions_answered nothing = refl
questions_answered lost = refl
questions_answered lost_last = refl
questions_answered gave_up = refl

-- ---- on this wire, the first packet that names this client is found there
pub data Search : Type 0 where
  finds : List Packet → ℕ → Found → Search

abbrev pub Comes : Search → Type 0
Comes (finds ps c f) = IsFirst (names (client c)) ps f

-- a FREE, in whose agent's queue 1/0 stands, and a request of 2/0
abbrev pub free_first : List Packet
free_first = freeing front ∷ asked8 ∷ []

pub data Wire : Type 0 where
  D7 behind-others free-of-0 free-of-4 behind-free empty : Wire

abbrev pub wires : Wire → Search
-- the marked ACQUIRE of 1/0, with its RELEASE behind it
wires D7 = finds (packets d6.wire) 4 (At 0)
wires behind-others = finds (asked8 ∷ freeing front ∷ grant_to1 ∷ marked_to0 ∷ asked4 ∷ []) 4 (At 2)
-- FREE names nobody: not 0/0, and not who stands in that queue
wires free-of-0 = finds free_first 0 Nowhere
wires free-of-4 = finds free_first 4 Nowhere
wires behind-free = finds free_first 8 (At 1)
wires empty = finds [] 0 Nowhere

pub wires_searched : (w : Wire) → Comes (wires w)
unfolding is_at padded blank_packet wire_of packets
wires_searched D7 = (refl, refl)
wires_searched behind-others = (refl, refl)
wires_searched free-of-0 = refl
wires_searched free-of-4 = refl
wires_searched behind-free = (refl, refl)
wires_searched empty = refl
