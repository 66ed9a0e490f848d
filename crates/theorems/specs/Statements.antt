-- What is proved, in Theorems, Drains, Listings, Counts, Reasons, ReasonOrder, FirstCome, Handlings, TakenRequests, Preferences, WritersFirst, DeciderBit,
-- Naming, Circling, Uncircled, GivingUp and Remains: of the numbers of answers, and of every list of calls on a fresh cluster, made with any preference n, as
-- given: one above 1 is refused, and the cluster beside that prefers readers. Past the last, a lock reads as fresh and a client as idle.
use Rattle.std.specs.Prelude.{◌≡◌, ◌∷◌, ◌≤◌, ◌<◌, ◌+◌, ◌-◌, ◌*◌, ◌++◌, ◌||◌, ◌&&◌, Option, Some, Ok, is_none}
use Rattle.model.specs.Drain.{allowance, Quiescent, drain_calls, drain}
use Rattle.model.specs.Trace.{is_accepted, grants_in, given_up_in}
use Rattle.model.specs.Refusals.{first}
use Rattle.model.specs.declared.Reading.TheVariants.{Record}
use Rattle.model.specs.Transcripts.{short, read_record, replay_tests, replayed, replay, calls_of}
use Rattle.model.specs.Listing.{Row, kind_of, row_of, header, line_of, refused_line, listing}
use Rattle.theorems.specs.Names.{LockId, ClientId, Mode, Exclusive, Status, Waiting, Holding, Cluster, Call, Refusal, Answer, Accepted, Refused}
use Rattle.theorems.specs.Names.{true, List, [], ℕ, length, eqb, leb, all, status_of, lock_in, packets, fresh_lock, fresh, well_formed}
use Rattle.theorems.specs.Names.{current, packet_at, run, answers_of, perform, lock_of, number, phase_after, locks, clients, wire_capacity}
use Rattle.theorems.specs.Names.{after, map, Packet, MachineId, Unowned, Owned, LockState, Bool, false, not, count, agent_on, owned_shared}
use Rattle.theorems.specs.Names.{names, is_free, agents_in, marks_in, uncounted, TaskId, Reason, ReasonAnswer, Because, machines, tasks, client_of, is_true}
use Rattle.theorems.specs.Names.{reason_in, reason, reason_number, reason_values, Waiter, Agent, ToMachine, Grant, is_shared, waiters, carrying}
use Rattle.theorems.specs.Names.{removed, grant_of, acquire, release, deliver, preferences, prefers_writers, fresh_with, writer_in, Shared, ToDecider}
use Rattle.theorems.specs.Names.{Message, Free, Acquire, Release, Handling, None, NoAgent, NotHolder, Taken, sent_back, lists, handlings_of, last_told}
use Rattle.theorems.specs.Names.{wire_of, Site, site_of, may_share, may_join, noting, grants_first, grants_with, passes_on, new_agent, changed, Found, Nowhere}
use Rattle.theorems.specs.Names.{At, any, IsFirst, min, get_or, history_after, note_of, lost_after, queues, unqueuing, give_up, lose, set, idle}
use Rattle.theorems.specs.Names.{ClientState, some_agent, Idle, is_waiting, plain, installed, admitted, Owner, Decider, Wire, AcquireCall, ReleaseCall}
use Rattle.theorems.specs.Names.{DeliverCall, LoseCall, GiveUpCall, to_decider, sent_on, machine_of, next, listed}
use Rattle.std.specs.Prelude.{take}

-- Different answers have different numbers, and 0 is the number of the accepted alone.
pub record Numbered : Type 0 where
  pub apart : (a b : Answer) → number a ≡ number b → a ≡ b
  pub accepts : (a : Answer) → number a ≡ 0 → a ≡ Accepted

-- The cluster is well formed after the list, so refusal 11 does not occur.
abbrev pub StaysFormed : ℕ → List Call → Type 0
StaysFormed n cs = well_formed (after n cs) ≡ true

-- No call of the list gets another number than 0 to 8, 17 and 18: the other refusals do not occur.
abbrev pub from_tests : Answer → Bool
from_tests a = leb (number a) 8 || (eqb (number a) 17 || eqb (number a) 18)

abbrev pub NeverRefusedInside : ℕ → List Call → Type 0
NeverRefusedInside n cs = all from_tests (answers_of cs (fresh n).cluster) ≡ true

-- No wire holds more packets than it has slots.
abbrev pub WireBounded : ℕ → List Call → Type 0
WireBounded n cs = (l : LockId) → length (packets (lock_in (after n cs) l).wire) ≤ wire_capacity

-- One more call changes the state of its own lock alone.
abbrev pub OthersUntouched : ℕ → List Call → Type 0
OthersUntouched n cs = (a : Call) (l : LockId) → (l.0 ≡ (lock_of a).0 → ⊥) → lock_in (perform a (after n cs)).cluster l ≡ lock_in (after n cs) l

-- That is so of a call on any cluster, made by hand or not.
abbrev pub OthersUntouchedOnAny : Cluster → Type 0
OthersUntouchedOnAny x = (a : Call) (l : LockId) → (l.0 ≡ (lock_of a).0 → ⊥) → lock_in (perform a x).cluster l ≡ lock_in x l

-- An exclusive holder is the only holder, by the statuses.
abbrev pub Exclusion : ℕ → List Call → Type 0
Exclusion n cs =
    (l : LockId) (c d : ClientId) (m : Mode) → (c.0 ≡ d.0 → ⊥)
    → status_of (lock_in (after n cs) l) c ≡ Holding Exclusive → status_of (lock_in (after n cs) l) d ≡ Holding m → ⊥

-- Every status is the phase in the trace, which goes by what the calls do.
abbrev pub TraceAgrees : ℕ → List Call → Type 0
TraceAgrees n cs = (l : LockId) (c : ClientId) → status_of (lock_in (after n cs) l) c ≡ phase_after n l c cs

-- Every note of a lost GRANT is one in the trace, too.
abbrev pub NotesAgree : ℕ → List Call → Type 0
NotesAgree n cs = (l : LockId) (c : ClientId) → note_of (lock_in (after n cs) l) c ≡ lost_after n l c cs

-- And so by the trace.
abbrev pub ExclusionOfTrace : ℕ → List Call → Type 0
ExclusionOfTrace n cs =
    (l : LockId) (c d : ClientId) (m : Mode) → (c.0 ≡ d.0 → ⊥) → phase_after n l c cs ≡ Holding Exclusive → phase_after n l d cs ≡ Holding m → ⊥

-- The steps that a drain takes at most, as proved: 14 for each client and 2 for the agent, and 4 for each two clients, since the RELEASE of one can send the
-- requests of the other round again.
abbrev pub proved_bound : ℕ
proved_bound = 14 * clients + 2 + 2 * clients * (clients - 1)

-- A drain of the lock l on the cluster x, in which each client's phase is given, and whether its grant was lost.
pub record Drains (x : Cluster) (l : LockId) (phase : ClientId → Status) (lost : ClientId → Bool) : Type 0 where
  -- It answers 0, and each of its calls is accepted; they alone make its cluster, and its count is theirs.
  pub answered : number (drain x l).answer ≡ 0
  pub counted : (drain x l).count ≡ length (drain_calls l x)
  pub runs : (drain x l).cluster ≡ run (drain_calls l x) x
  pub accepted : all is_accepted (answers_of (drain_calls l x) x) ≡ true
  -- Its calls are within the model's allowance, and within the bound above.
  pub allowed : (drain x l).count ≤ allowance
  pub bounded : (drain x l).count ≤ proved_bound
  -- The lock ends quiescent and fresh, and no other lock's state changes.
  pub quiescent : Quiescent l (lock_in (drain x l).cluster l)
  pub fresh : lock_in (drain x l).cluster l ≡ fresh_lock
  pub others : (j : LockId) → (j.0 ≡ l.0 → ⊥) → lock_in (drain x l).cluster j ≡ lock_in x j
  -- Each client that waited sees one grant during it, and does not give up; or it had lost its own, sees none, and gives up once.
  pub granted : (c : ClientId) (m : Mode) → phase c ≡ Waiting m → lost c ≡ false
      → (grants_in l c (drain_calls l x) x (phase c) (lost c) ≡ 1) × (given_up_in l c (drain_calls l x) x (phase c) (lost c) ≡ 0)
  pub gave_up : (c : ClientId) (m : Mode) → phase c ≡ Waiting m → lost c ≡ true
      → (grants_in l c (drain_calls l x) x (phase c) (lost c) ≡ 0) × (given_up_in l c (drain_calls l x) x (phase c) (lost c) ≡ 1)

-- Demand 3: the trace gives the statuses and the notes, it shows exclusion, and each lock drains.
pub record Demand3 (n : ℕ) (cs : List Call) : Type 0 where
  pub trace : TraceAgrees n cs
  pub notes : NotesAgree n cs
  pub exclusion : ExclusionOfTrace n cs
  pub drains : (l : LockId) → l.0 < locks → Drains (after n cs) l (λ c. phase_after n l c cs) (λ c. lost_after n l c cs)

-- The rows of a list of calls on x, in their order: what each call is answered, and the packets then on its lock's wire.
abbrev pub rows_of : List Call → Cluster → List Row
rows_of [] x = []
rows_of (c ∷ cs) x = row_of c x ∷ rows_of cs (perform c x).cluster

-- Their lines, with the numbers that follow n.
abbrev pub lines_of : ℕ → List Row → List ℕ
lines_of n [] = []
lines_of n (r ∷ rs) = line_of (n + 1) r ++ lines_of (n + 1) rs

-- The line behind them, and how many records it stands for: one for a bad record, none where the transcript ends.
abbrev pub last_line : Answer → ℕ → List ℕ
last_line (Ok tt) n = []
last_line (Refused r) n = refused_line n r

abbrev pub last_records : Answer → ℕ
last_records (Ok tt) = 0
last_records (Refused r) = 1

-- A transcript that passes the two tests: its run makes the calls of its records, each once and in order, and tells the last handling of theirs. The listing
-- has a line for each of them, with that call's outcome, and one more for a bad record: as many lines as the run counts records.
pub record Listed (x : Cluster) (bytes : List ℕ) : Type 0 where
  pub runs : (replay x bytes).cluster ≡ run (calls_of bytes) x
  pub told : (replay x bytes).handling ≡ last_told None (handlings_of (calls_of bytes) x)
  pub counts : (replay x bytes).records ≡ length (calls_of bytes) + last_records (replay x bytes).answer
  pub lines : listing x bytes ≡ header ++ (lines_of 0 (rows_of (calls_of bytes) x) ++ last_line (replay x bytes).answer (replay x bytes).records)
  pub rows : length (rows_of (calls_of bytes) x) ≡ length (calls_of bytes)
  pub answers : map (λ (r : Row). r.answer) (rows_of (calls_of bytes) x) ≡ answers_of (calls_of bytes) x

-- The bytes of a listing at most: the header's 19, 24 for a line, and a record has six bytes.
abbrev pub longest_listing : ℕ
longest_listing = 19 + (4 * 65535 + 24)

-- One that does not has a line with the number 0 and its refusal's. The kind that a line tells is that of the record, and no listing is longer than the
-- buffer of the program.
pub record ListsAll (x : Cluster) (bytes : List ℕ) : Type 0 where
  pub tested : first (replay_tests x bytes) ≡ Accepted → Listed x bytes
  pub refused : (r : Refusal) → first (replay_tests x bytes) ≡ Refused r
      → (replay x bytes ≡ replayed (Refused r) 0 None x) × (listing x bytes ≡ header ++ refused_line 0 r)
  pub kinds : (i : ℕ) (c : Call) (j : ℕ) → read_record bytes i ≡ Record c j → kind_of c ≡ short bytes (i + 2)
  pub fits : length (listing x bytes) ≤ longest_listing

-- The answer is neither 9, no place for what comes, nor 10, no room on the wire.
abbrev pub is_placed : Answer → Bool
is_placed a = not (eqb (number a) 9 || eqb (number a) 10)

-- Request 1 of document 02: the wire's places are enough, and why: thirty-three, and forty-nine since request 8. A lock's state s after a list, in counts
-- that can be made on the screen.
pub record Enough (n : ℕ) (cs : List Call) (l : LockId) (s : LockState) : Type 0 where
  -- There is no agent at a free lock, and exactly one at any other.
  pub free : s.decider.owner ≡ Unowned → agents_in s ≡ 0
  pub owned : (m : Mode) (k : MachineId) → s.decider.owner ≡ Owned m k → agents_in s ≡ 1
  -- Wherever it is, the decider's incarnation less its own, modulo 256, is the number of marked ACQUIREs on the wire. That is so in either mode; but while
  -- the lock is not shared there is none.
  pub on_its_machine : (k : MachineId) → (agent_on s k).present ≡ true → uncounted s.decider (agent_on s k).agent ≡ marks_in s
  pub in_packet : (i : ℕ) → i < length (packets s.wire) → (packet_at s i).carried.present ≡ true
      → uncounted s.decider (packet_at s i).carried.agent ≡ marks_in s
  pub unshared : owned_shared s.decider.owner ≡ false → marks_in s ≡ 0
  -- Three packets at most name a client, and one at most is a FREE, which names none: with sixteen clients that makes 49.
  pub named : (c : ClientId) → count (names c) (packets s.wire) ≤ 3
  pub frees : count (λ (p : Packet). is_free p.message) (packets s.wire) ≤ 1
  pub wire : length (packets s.wire) ≤ wire_capacity
  -- No call of the list is answered 9 or 10, nor is a drain after it, nor a step of that drain.
  pub calls : all is_placed (answers_of cs (fresh n).cluster) ≡ true
  pub drains : l.0 < locks → all is_placed ((drain (after n cs) l).answer ∷ answers_of (drain_calls l (after n cs)) (after n cs)) ≡ true

abbrev pub EnoughPlaces : ℕ → List Call → Type 0
EnoughPlaces n cs = (l : LockId) → Enough n cs l (lock_in (after n cs) l)

-- Eight bits do for an incarnation: a wire never has as many as 256 marks, so a carried agent's is the decider's exactly where it has none.
pub record IncarnationSound (n : ℕ) (cs : List Call) : Type 0 where
  pub bounded : (l : LockId) → marks_in (lock_in (after n cs) l) ≤ clients
  pub sound : (l : LockId) (i : ℕ) → i < length (packets (lock_in (after n cs) l).wire) → (packet_at (lock_in (after n cs) l) i).carried.present ≡ true
      → current (lock_in (after n cs) l).decider (packet_at (lock_in (after n cs) l) i) ≡ eqb (marks_in (lock_in (after n cs) l)) 0

-- Request 2 of document 02: where is my request. The answers to that question differ in number or values, and 0 is the number of a reason alone.
pub record ReasonsNumbered : Type 0 where
  pub apart : (a b : ReasonAnswer) → reason_number a ≡ reason_number b → reason_values a ≡ reason_values b → a ≡ b
  pub gives : (a : ReasonAnswer) → reason_number a ≡ 0 → (r : Reason) × (a ≡ Because r)

-- In any state, made by hand or not: what is given is true, and where a reason is true of a client that waits, one is given.
pub record Searches (s : LockState) (c : ClientId) : Type 0 where
  pub sound : (r : Reason) → reason_in s c ≡ Because r → is_true s c r ≡ true
  pub complete : (m : Mode) (r : Reason) → status_of s c ≡ Waiting m → is_true s c r ≡ true → reason_number (reason_in s c) ≡ 0

-- One reason is true of the client, with its index or machine and the number ahead, no other is, and it is the answer, with number 0.
pub record Explained (s : LockState) (c : ClientId) (a : ReasonAnswer) : Type 0 where
  pub why : Reason
  pub holds : is_true s c why ≡ true
  pub only : (r : Reason) → is_true s c r ≡ true → r ≡ why
  pub given : a ≡ Because why
  pub answered : reason_number a ≡ 0

-- After a list that is so of every client that waits by the trace, on any lock; any other client is answered 15.
pub record WhereIs (n : ℕ) (cs : List Call) (l : LockId) (k : MachineId) (t : TaskId) : Type 0 where
  pub waiting : (m : Mode) → phase_after n l (client_of k t) cs ≡ Waiting m → Explained (lock_in (after n cs) l) (client_of k t) (reason (after n cs) l k t)
  pub others : ((m : Mode) → phase_after n l (client_of k t) cs ≡ Waiting m → ⊥) → reason_number (reason (after n cs) l k t) ≡ 15

abbrev pub WhereIsMyRequest : ℕ → List Call → Type 0
WhereIsMyRequest n cs = (l : LockId) (k : MachineId) (t : TaskId) → l.0 < locks → k.0 < machines → t.0 < tasks → WhereIs n cs l k t

-- Of the values of a reason the first is its kind, the second the index or the machine, the third the number ahead; 0 where it has none.
abbrev pub value_of : ℕ → Reason → ℕ
value_of n r = get_or (reason_values (Because r)) n 0

-- One reason stands before another: by its kind, or within a kind by the index or the machine, or there by the number ahead.
pub data Before (q r : Reason) : Type 0 where
  by_kind : value_of 0 q < value_of 0 r → Before q r
  by_place : value_of 0 q ≡ value_of 0 r → value_of 1 q < value_of 1 r → Before q r
  by_ahead : value_of 0 q ≡ value_of 0 r → value_of 1 q ≡ value_of 1 r → value_of 2 q < value_of 2 r → Before q r

-- A reason is given of a client: it waits, the reason is true, and no true one stands before it.
pub record FirstGiven (s : LockState) (c : ClientId) (r : Reason) : Type 0 where
  pub waits : is_waiting (status_of s c) ≡ true
  pub holds : is_true s c r ≡ true
  pub first_of : (q : Reason) → is_true s c q ≡ true → Before q r → ⊥

-- On any cluster, made by hand or not: that is so of every reason that is given; and one is given to each client that waits, if the cluster is well formed, the
-- numbers are in range and any reason is true.
pub record FirstReason (x : Cluster) (l : LockId) (k : MachineId) (t : TaskId) : Type 0 where
  pub given : (r : Reason) → reason x l k t ≡ Because r → FirstGiven (lock_in x l) (client_of k t) r
  pub complete : well_formed x ≡ true → l.0 < locks → k.0 < machines → t.0 < tasks → is_waiting (status_of (lock_in x l) (client_of k t)) ≡ true
      → (r : Reason) → is_true (lock_in x l) (client_of k t) r ≡ true → reason_number (reason x l k t) ≡ 0

-- Request 3 of document 02: first come, first served. An agent that was under way with the index i is installed on machine k, in mode m: a is the agent as it
-- came, s and t are the lock's states before and after.
pub record FirstCome (s t : LockState) (i : ℕ) (k : MachineId) (m : Mode) (a : Agent) : Type 0 where
  pub left : List Waiter
  -- Whoever leaves the queue stood ahead of everyone who stays in it, and nobody changes places.
  pub ahead : waiters a.queue ≡ left ++ waiters (agent_on t k).agent.queue
  -- No exclusive waiter leaves, and with an exclusive agent nobody does.
  pub shared : all (λ (w : Waiter). is_shared w.mode) left ≡ true
  pub alone : is_shared m ≡ false → left ≡ []
  -- Nobody stays who could leave: the first who does, or the agent, is exclusive.
  pub barred : all (λ (w : Waiter). not (is_shared m && is_shared w.mode)) (take 1 (waiters (agent_on t k).agent.queue)) ≡ true
  -- To each who leaves a GRANT is sent, in the queue's order, and nothing else is sent.
  pub granted : packets t.wire ≡ removed (packets s.wire) i ++ map grant_of left

-- On any cluster, made by hand or not, that is so of every accepted delivery of a GRANT with its agent to a machine, if it was not rejected.
abbrev pub FirstServed : Cluster → LockId → ℕ → Type 0
FirstServed x l i =
    (k : MachineId) (c : ClientId) (m : Mode) (a : Agent) → packet_at (lock_in x l) i ≡ carrying (Grant c m) (ToMachine k) a
    → (deliver x l i).answer ≡ Accepted → FirstCome (lock_in x l) (lock_in (deliver x l i).cluster l) i k m a

-- Request 4 of document 02: why a request came back. The packet with the index i was delivered to machine k; s and t are the lock's states before and after.
abbrev pub is_request : Message → Bool
is_request (Acquire c m g) = true
is_request (Release c) = true
is_request (Grant c m) = false
is_request Free = false

-- the lock's state s, with just its clients and its wire written; and with an agent and the wire
abbrev pub written : LockState → List ClientState → List Packet → LockState
written s cs ps = record { decider = s.decider; agents = s.agents; clients = cs; wire = wire_of ps }

abbrev pub with_agent : LockState → MachineId → Agent → List Packet → LockState
with_agent s k a ps = record { decider = s.decider; agents = set s.agents k.0 (some_agent a); clients = s.clients; wire = wire_of ps }

-- It went back: the same packet, now for the decider and counted once more, is the last on the wire, and nothing else has changed.
abbrev pub WentBack : LockState → LockState → ℕ → Type 0
WentBack s t i = t ≡ written s s.clients (removed (packets s.wire) i ++ sent_back (packet_at s i) ∷ [])

-- It did not: no request was sent.
pub record Stayed (s t : LockState) (i : ℕ) : Type 0 where
  pub sent : List Packet
  pub wire : packets t.wire ≡ removed (packets s.wire) i ++ sent
  pub answers : all (λ (p : Packet). not (is_request p.message)) sent ≡ true

-- Its client, which gave up, was taken off the queue: the agent stays, nothing is sent, and nothing else has changed (request 8 of document 02).
abbrev pub Unqueued : LockState → LockState → ℕ → MachineId → ClientId → Type 0
Unqueued s t i k c = t ≡ with_agent s k (unqueuing (agent_on s k).agent c) (removed (packets s.wire) i)

-- Its message, and the handling that is told: each has a cause of its own.
pub data Handled (s t : LockState) (i : ℕ) (k : MachineId) : Message → Option Handling → Type 0 where
  told_no_agent : {m : Message} → is_request m ≡ true → (agent_on s k).present ≡ false → WentBack s t i → Handled s t i k m (Some NoAgent)
  not_holder : {c : ClientId} → (agent_on s k).present ≡ true → lists (agent_on s k) c ≡ false → queues (agent_on s k) c ≡ false → WentBack s t i
      → Handled s t i k (Release c) (Some NotHolder)
  acquire_taken : {c : ClientId} {m : Mode} {g : Bool} → (agent_on s k).present ≡ true → Stayed s t i → Handled s t i k (Acquire c m g) (Some Taken)
  release_taken : {c : ClientId} → lists (agent_on s k) c ≡ true → Stayed s t i → Handled s t i k (Release c) (Some Taken)
  release_unqueued : {c : ClientId} → lists (agent_on s k) c ≡ false → queues (agent_on s k) c ≡ true → Unqueued s t i k c
      → Handled s t i k (Release c) (Some Taken)
  no_request : {m : Message} → is_request m ≡ false → Handled s t i k m None

-- The last of a list of handlings that is one, or none.
pub data Last : List (Option Handling) → Option Handling → Type 0 where
  none_told : {hs : List (Option Handling)} → all is_none hs ≡ true → Last hs None
  told_last : {hs : List (Option Handling)} (before : List (Option Handling)) {h : Option Handling} (behind : List (Option Handling))
      → hs ≡ before ++ h ∷ behind → is_none h ≡ false → all is_none behind ≡ true → Last hs h

-- On any cluster, made by hand or not: what is told by a delivery to a machine, if it is accepted; and nothing by any other call, or a refused one. A drain
-- tells the last handling of its calls, and nothing where it is refused; a transcript the last of its records', and nothing where the two tests refuse it.
pub record TellsWhy (x : Cluster) : Type 0 where
  pub at_a_machine : (l : LockId) (i : ℕ) (k : MachineId) → (packet_at (lock_in x l) i).to ≡ ToMachine k → (deliver x l i).answer ≡ Accepted
      → Handled (lock_in x l) (lock_in (deliver x l i).cluster l) i k (packet_at (lock_in x l) i).message (deliver x l i).handling
  pub at_the_decider : (l : LockId) (i : ℕ) → (packet_at (lock_in x l) i).to ≡ ToDecider → (deliver x l i).handling ≡ None
  pub acquires : (l : LockId) (k : MachineId) (t : TaskId) (m : ℕ) → (acquire x l k t m).handling ≡ None
  pub releases : (l : LockId) (k : MachineId) (t : TaskId) → (release x l k t).handling ≡ None
  pub losses : (l : LockId) (i : ℕ) → (lose x l i).handling ≡ None
  pub givings_up : (l : LockId) (k : MachineId) (t : TaskId) → (give_up x l k t).handling ≡ None
  pub refused : (c : Call) (r : Refusal) → (perform c x).answer ≡ Refused r → (perform c x).handling ≡ None
  pub drains : (l : LockId) → (drain x l).answer ≡ Accepted → Last (handlings_of (drain_calls l x) x) (drain x l).handling
  pub drain_was_refused : (l : LockId) (r : Refusal) → (drain x l).answer ≡ Refused r → (drain x l).handling ≡ None
  pub transcripts : (bytes : List ℕ) → first (replay_tests x bytes) ≡ Accepted → Last (handlings_of (calls_of bytes) x) (replay x bytes).handling
  pub untested : (bytes : List ℕ) (r : Refusal) → first (replay_tests x bytes) ≡ Refused r → (replay x bytes).handling ≡ None

-- What *taken* says. The agent b lists whom a lists, but for the client c, which it lists or not, as told.
pub record ListsBut (a b : Agent) (c : ClientId) (now : Bool) : Type 0 where
  pub client : listed b c ≡ now
  pub others : (d : ClientId) → (d.0 ≡ c.0 → ⊥) → listed b d ≡ listed a d

-- An ACQUIRE of client c in mode m that machine k has taken: the agent is there still, and lists the client, or has it as the last in its queue.
pub data TakenIn (s t : LockState) (k : MachineId) (c : ClientId) (m : Mode) : Type 0 where
  then_listed : (agent_on t k).present ≡ true → ListsBut (agent_on s k).agent (agent_on t k).agent c true
      → waiters (agent_on t k).agent.queue ≡ waiters (agent_on s k).agent.queue → TakenIn s t k c m
  then_last : (agent_on t k).present ≡ true → (agent_on t k).agent.holders ≡ (agent_on s k).agent.holders
      → waiters (agent_on t k).agent.queue ≡ waiters (agent_on s k).agent.queue ++ record { client = c; mode = m } ∷ [] → TakenIn s t k c m

-- A RELEASE of client c that machine k has taken: the client is struck off the list of the agent, which stays, or is sent to the decider; or it is taken off
-- the queue, and stands in it no more.
pub data TakenOff (s t : LockState) (i : ℕ) (k : MachineId) (c : ClientId) : Type 0 where
  struck_off : (agent_on t k).present ≡ true → ListsBut (agent_on s k).agent (agent_on t k).agent c false
      → waiters (agent_on t k).agent.queue ≡ waiters (agent_on s k).agent.queue → packets t.wire ≡ removed (packets s.wire) i → TakenOff s t i k c
  struck_and_sent : (m : Message) (b : Agent) → (agent_on t k).present ≡ false → ListsBut (agent_on s k).agent b c false
      → packets t.wire ≡ removed (packets s.wire) i ++ carrying m ToDecider b ∷ [] → TakenOff s t i k c
  off_queue : lists (agent_on s k) c ≡ false → queues (agent_on s k) c ≡ true → queues (agent_on t k) c ≡ false → Unqueued s t i k c → TakenOff s t i k c

-- On any cluster, made by hand or not: that is so where a delivery to a machine tells *taken*.
pub record TakenTells (x : Cluster) : Type 0 where
  pub acquires : (l : LockId) (i : ℕ) (k : MachineId) (c : ClientId) (m : Mode) (g : Bool) → (packet_at (lock_in x l) i).to ≡ ToMachine k
      → (packet_at (lock_in x l) i).message ≡ Acquire c m g → (deliver x l i).handling ≡ Some Taken
      → TakenIn (lock_in x l) (lock_in (deliver x l i).cluster l) k c m
  pub releases : (l : LockId) (i : ℕ) (k : MachineId) (c : ClientId) → (packet_at (lock_in x l) i).to ≡ ToMachine k
      → (packet_at (lock_in x l) i).message ≡ Release c → (deliver x l i).handling ≡ Some Taken
      → TakenOff (lock_in x l) (lock_in (deliver x l i).cluster l) i k c

-- Request 5 of document 02: sites that prefer writers. Making a cluster: a preference is for readers or for writers, and it stays what it is.
pub record Prefers (n : ℕ) : Type 0 where
  pub made : n < preferences → (number (fresh n).answer ≡ 0) × ((fresh n).cluster ≡ fresh_with n)
  pub refused : (n < preferences → ⊥) → (number (fresh n).answer ≡ 16) × ((fresh n).cluster ≡ fresh_with 0)
  pub fixed : (cs : List Call) → (after n cs).preference ≡ (fresh n).cluster.preference
  -- where readers are preferred, no decider ever knows of a writer
  pub clear : (cs : List Call) (l : LockId) → prefers_writers (fresh n).cluster.preference ≡ false → (lock_in (after n cs) l).decider.writer ≡ false

-- With readers preferred every rule is what it was without a preference. At a site the tests ask only whether lock or agent and request are shared, a request
-- that is sent on leaves what the decider knows, and where the decider is written its bit is clear.
pub record AsBefore (v : Site) : Type 0 where
  pub shares : (m : Mode) → may_share v m ≡ (owned_shared v.decider.owner && is_shared m)
  pub joins : (m : Mode) → may_join v m ≡ (is_shared v.slot.agent.mode && is_shared m)
  pub when_sent_on : (m : Mode) → noting v m ≡ v
  pub first_granted : (c : ClientId) (m : Mode) → grants_first v c m ≡ grants_with v c m (new_agent m) false
  pub passed_on : (c : ClientId) (m : Mode) (a : Agent) → passes_on v c m a ≡ grants_with v c m (changed a a.holders a.queue 0) false

-- That is so at each site of a well-formed cluster with the preference 0, made by hand or not; no rule meets any other.
abbrev pub ReadersAsBefore : Cluster → Type 0
ReadersAsBefore x = well_formed x ≡ true → x.preference ≡ 0 → (l : LockId) (k : MachineId) (c : ClientId) → AsBefore (site_of 0 (lock_in x l) k c)

-- A shared client c goes to the end of the queue of the agent on machine k: it does not join the holders. s and t are the lock's states before and after, and
-- rest is what was on the wire and stays there: nothing is sent.
pub record StandsBehind (s t : LockState) (k : MachineId) (c : ClientId) (rest : List Packet) : Type 0 where
  pub there : (agent_on t k).present ≡ true
  pub holders : (agent_on t k).agent.holders ≡ (agent_on s k).agent.holders
  pub queue : waiters (agent_on t k).agent.queue ≡ waiters (agent_on s k).agent.queue ++ record { client = c; mode = Shared } ∷ []
  pub wire : packets t.wire ≡ rest

-- On any cluster that prefers writers, made by hand or not: while an exclusive waiter stands in the queue of the agent on machine k, that is so of every
-- unmarked shared request that arrives there, and of every client's own.
pub record NotPassed (x : Cluster) (l : LockId) (k : MachineId) : Type 0 where
  pub arriving : (i : ℕ) (c : ClientId) → (packet_at (lock_in x l) i).to ≡ ToMachine k → (packet_at (lock_in x l) i).message ≡ Acquire c Shared false
      → (deliver x l i).answer ≡ Accepted
      → StandsBehind (lock_in x l) (lock_in (deliver x l i).cluster l) k c (removed (packets (lock_in x l).wire) i)
  pub own : (t : TaskId) → (acquire x l k t 3).answer ≡ Accepted
      → StandsBehind (lock_in x l) (lock_in (acquire x l k t 3).cluster l) k (client_of k t) (packets (lock_in x l).wire)

abbrev pub WritersFirst : Cluster → Type 0
WritersFirst x =
    x.preference ≡ 1 → (l : LockId) (k : MachineId) → (agent_on (lock_in x l) k).present ≡ true → writer_in (agent_on (lock_in x l) k).agent ≡ true
    → NotPassed x l k

-- The decider's half: its bit, which says that an exclusive request waits. A packet is sent on as it is: it is the last on the wire, now for machine k, and
-- nothing else has changed.
abbrev pub SentOnAsItIs : LockState → LockState → ℕ → MachineId → Type 0
SentOnAsItIs s t i k =
    t ≡ record { decider = s.decider; agents = s.agents; clients = s.clients; wire = wire_of (removed (packets s.wire) i ++ sent_on (packet_at s i) k ∷ []) }

-- What moves the bit: the delivery, at the decider, of an unmarked exclusive ACQUIRE where the lock is not free; of a GRANT with agent, and of a FREE, where
-- the incarnations are equal.
abbrev pub is_owned : Owner → Bool
is_owned Unowned = false
is_owned (Owned m k) = true

abbrev pub moves_by : Message → Decider → Packet → Bool
moves_by (Acquire c m g) d p = is_owned d.owner && (not (is_shared m) && not g)
moves_by (Grant c m) d p = p.carried.present && current d p
moves_by (Release c) d p = false
moves_by Free d p = current d p

abbrev pub moves_bit : Call → LockState → Bool
moves_bit (DeliverCall l i) s = to_decider (packet_at s i).to && moves_by (packet_at s i).message s.decider (packet_at s i)
moves_bit (AcquireCall l k t m) s = false
moves_bit (ReleaseCall l k t) s = false
moves_bit (LoseCall l i) s = false
moves_bit (GiveUpCall l k t) s = false

-- The delivery of the packet with the index i at the decider is accepted; s and t are the lock's states before and after.
pub record BitMoves (s t : LockState) (i : ℕ) : Type 0 where
  -- While the bit is set, an unmarked shared ACQUIRE at a shared lock is sent on as it is.
  pub held_back : (c : ClientId) (k : MachineId) → (packet_at s i).message ≡ Acquire c Shared false → s.decider.owner ≡ Owned Shared k
      → s.decider.writer ≡ true → SentOnAsItIs s t i k
  -- While it is clear, it is granted and counted, and the bit stays clear.
  pub let_in : (c : ClientId) (k : MachineId) → (packet_at s i).message ≡ Acquire c Shared false → s.decider.owner ≡ Owned Shared k
      → s.decider.writer ≡ false
      → (packets t.wire
      ≡ removed (packets s.wire) i ++ plain (Grant c Shared) (ToMachine (machine_of c)) ∷ plain (Acquire c Shared true) (ToMachine k) ∷ [])
      × (t.decider ≡ record { owner = s.decider.owner; incarnation = next s.decider.incarnation; writer = false })
  -- An unmarked exclusive ACQUIRE that is sent on sets it,
  pub set : (c : ClientId) (m : Mode) (k : MachineId) → (packet_at s i).message ≡ Acquire c Exclusive false → s.decider.owner ≡ Owned m k
      → (packets t.wire ≡ removed (packets s.wire) i ++ sent_on (packet_at s i) k ∷ []) × (t.decider.writer ≡ true)
  -- a FREE that gives the lock back clears it,
  pub cleared : (packet_at s i).message ≡ Free → current s.decider (packet_at s i) ≡ true → t.decider.writer ≡ false
  -- and a GRANT that brings the agent, with equal incarnations, makes it say whether an exclusive waiter is in the carried queue.
  pub renewed : (c : ClientId) (m : Mode) → (packet_at s i).message ≡ Grant c m → (packet_at s i).carried.present ≡ true
      → current s.decider (packet_at s i) ≡ true → t.decider.writer ≡ writer_in (packet_at s i).carried.agent

-- On any cluster that prefers writers, made by hand or not: that is so, and no other accepted call moves a lock's bit.
pub record BitKnows (x : Cluster) : Type 0 where
  pub moved : (l : LockId) (i : ℕ) → (packet_at (lock_in x l) i).to ≡ ToDecider → (deliver x l i).answer ≡ Accepted
      → BitMoves (lock_in x l) (lock_in (deliver x l i).cluster l) i
  pub kept : (a : Call) (l : LockId) → (perform a x).answer ≡ Accepted → (l.0 ≡ (lock_of a).0 → moves_bit a (lock_in x l) ≡ false)
      → (lock_in (perform a x).cluster l).decider.writer ≡ (lock_in x l).decider.writer

abbrev pub DeciderKnows : Cluster → Type 0
DeciderKnows x = x.preference ≡ 1 → BitKnows x

-- Request 6 of document 02: the packet for which an acquire is refused with 6. f is what a search of the lock's wire for the client comes to: the first packet
-- that names it, or nowhere.
abbrev pub is_found : Found → Bool
is_found Nowhere = false
is_found (At i) = true

pub record NamedBy (x : Cluster) (l : LockId) (k : MachineId) (t : TaskId) (f : Found) : Type 0 where
  -- It can come to nothing else.
  pub alone : (g : Found) → IsFirst (names (client_of k t)) (packets (lock_in x l).wire) g → g ≡ f
  -- That it finds one is refusal 6's cause, as it stands among the tests.
  pub cause : any (names (client_of k t)) (packets (lock_in x l).wire) ≡ is_found f
  -- So an acquire that is answered 6, in any mode, has its packet, and to an accepted one no packet stands in the way.
  pub refused : (m : ℕ) → number (acquire x l k t m).answer ≡ 6 → (i : ℕ) × (f ≡ At i)
  pub accepted : (m : ℕ) → number (acquire x l k t m).answer ≡ 0 → f ≡ Nowhere

-- On any cluster, made by hand or not.
abbrev pub StillNamedBy : Cluster → Type 0
StillNamedBy x =
    (l : LockId) (k : MachineId) (t : TaskId) (f : Found) → IsFirst (names (client_of k t)) (packets (lock_in x l).wire) f → NamedBy x l k t f

-- Request 7 of document 02: how often a packet has circled. Beside a lock's wire stands the history, a number for each packet, and the packet's count is that
-- number, or 255 where it is more. Past the wire's end both are 0.
pub record Circled (n : ℕ) (cs : List Call) (l : LockId) : Type 0 where
  pub beside : length (history_after n l cs) ≡ length (packets (lock_in (after n cs) l).wire)
  pub counts : (i : ℕ) → (packet_at (lock_in (after n cs) l) i).circled ≡ min 255 (get_or (history_after n l cs) i 0)

abbrev pub HowOften : ℕ → List Call → Type 0
HowOften n cs = (l : LockId) → Circled n cs l

-- And no answer and no listing goes by a count, but for that of a GRANT or FREE, which makes a cluster malformed. A packet as if it had not circled: an ACQUIRE
-- or a RELEASE has the count 0; that of any other packet stays.
abbrev pub uncircled_count : Message → ℕ → ℕ
uncircled_count (Acquire c m g) n = 0
uncircled_count (Release c) n = 0
uncircled_count (Grant c m) n = n
uncircled_count Free n = n

abbrev pub uncircled : Packet → Packet
uncircled p =
    record { message = p.message; to = p.to; rejected = p.rejected; circled = uncircled_count p.message p.circled; carried = p.carried }

-- a wire, in use or not, a lock's state and a cluster with such packets alone
abbrev pub uncircled_wire : Wire → Wire
uncircled_wire w = record { slots = map uncircled w.slots; len = w.len }

abbrev pub uncircled_lock : LockState → LockState
uncircled_lock s = record { decider = s.decider; agents = s.agents; clients = s.clients; wire = uncircled_wire s.wire }

abbrev pub uncircled_cluster : Cluster → Cluster
uncircled_cluster x = record { preference = x.preference; locks = map uncircled_lock x.locks }

-- Two clusters are equal but for the counts of ACQUIREs and RELEASEs.
abbrev pub ButForCounts : Cluster → Cluster → Type 0
ButForCounts x y = uncircled_cluster x ≡ uncircled_cluster y

-- Then both are well formed or neither is; each call, each list of calls, each drain, each transcript and each question for a reason has the same answer on
-- both, tells the same handling, has the same count and the same listing, and leaves two clusters that are again equal but for these counts; and a search for
-- the packet that names a client finds the same.
pub record Alike (x y : Cluster) : Type 0 where
  pub formed : well_formed x ≡ well_formed y
  pub call_answered : (c : Call) → (perform c x).answer ≡ (perform c y).answer
  pub call_told : (c : Call) → (perform c x).handling ≡ (perform c y).handling
  pub call_left : (c : Call) → ButForCounts (perform c x).cluster (perform c y).cluster
  pub run_answered : (cs : List Call) → answers_of cs x ≡ answers_of cs y
  pub run_told : (cs : List Call) → handlings_of cs x ≡ handlings_of cs y
  pub run_left : (cs : List Call) → ButForCounts (run cs x) (run cs y)
  pub drain_answered : (l : LockId) → (drain x l).answer ≡ (drain y l).answer
  pub drain_counted : (l : LockId) → (drain x l).count ≡ (drain y l).count
  pub drain_told : (l : LockId) → (drain x l).handling ≡ (drain y l).handling
  pub drain_left : (l : LockId) → ButForCounts (drain x l).cluster (drain y l).cluster
  pub replay_answered : (bytes : List ℕ) → (replay x bytes).answer ≡ (replay y bytes).answer
  pub replay_counted : (bytes : List ℕ) → (replay x bytes).records ≡ (replay y bytes).records
  pub replay_told : (bytes : List ℕ) → (replay x bytes).handling ≡ (replay y bytes).handling
  pub replay_left : (bytes : List ℕ) → ButForCounts (replay x bytes).cluster (replay y bytes).cluster
  pub listed : (bytes : List ℕ) → listing x bytes ≡ listing y bytes
  pub reasoned : (l : LockId) (k : MachineId) (t : TaskId) → reason x l k t ≡ reason y l k t
  pub named : (l : LockId) (c : ClientId) (f : Found) → IsFirst (names c) (packets (lock_in x l).wire) f → IsFirst (names c) (packets (lock_in y l).wire) f

-- On any two clusters, made by hand or not.
abbrev pub NoCountDecides : Cluster → Cluster → Type 0
NoCountDecides x y = ButForCounts x y → Alike x y

-- Request 8 of document 02: lost grants and giving up. On any cluster, made by hand or not. What can be lost is a GRANT for c without agent, under way to k.
pub record CanBeLost (p : Packet) (k : MachineId) (c : ClientId) (m : Mode) : Type 0 where
  pub under_way : p.to ≡ ToMachine k
  pub grant : p.message ≡ Grant c m
  pub alone : p.carried.present ≡ false

-- Such a packet is lost, and no other: it is off the wire, and if its client waits that is noted. Nothing else has changed.
pub record Loses (x : Cluster) (l : LockId) (i : ℕ) : Type 0 where
  pub only : (lose x l i).answer ≡ Accepted → (k : MachineId) × ((c : ClientId) × ((m : Mode) × CanBeLost (packet_at (lock_in x l) i) k c m))
  pub always : well_formed x ≡ true → l.0 < locks → i < length (packets (lock_in x l).wire) → (k : MachineId) (c : ClientId) (m : Mode)
      → CanBeLost (packet_at (lock_in x l) i) k c m → (lose x l i).answer ≡ Accepted
  pub noted : (c : ClientId) (m : Mode) → (packet_at (lock_in x l) i).message ≡ Grant c m → (lose x l i).answer ≡ Accepted
      → lock_in (lose x l i).cluster l ≡ written (lock_in x l)
      (set (lock_in x l).clients c.0 (record { status = status_of (lock_in x l) c; lost = is_waiting (status_of (lock_in x l) c) }))
      (removed (packets (lock_in x l).wire) i)

-- Who waits gives up where the wire has room, and nobody else: it is idle, without a note, and its RELEASE is under way. Nothing else has changed.
pub record GivesUp (x : Cluster) (l : LockId) (k : MachineId) (t : TaskId) : Type 0 where
  pub only : (give_up x l k t).answer ≡ Accepted → (m : Mode) × (status_of (lock_in x l) (client_of k t) ≡ Waiting m)
  pub always : well_formed x ≡ true → l.0 < locks → k.0 < machines → t.0 < tasks → length (packets (lock_in x l).wire) < wire_capacity
      → (m : Mode) → status_of (lock_in x l) (client_of k t) ≡ Waiting m → (give_up x l k t).answer ≡ Accepted
  pub gone : (give_up x l k t).answer ≡ Accepted
      → lock_in (give_up x l k t).cluster l ≡ written (lock_in x l) (set (lock_in x l).clients (client_of k t).0 idle)
      (packets (lock_in x l).wire ++ plain (Release (client_of k t)) ToDecider ∷ [])

-- What is left of who gave up. A GRANT that comes to it leaves it idle; the agent inside is installed all the same, and lists it. s and t are the lock's states
-- before and after.
pub record StaysIdle (s t : LockState) (i : ℕ) (k : MachineId) (c : ClientId) (m : Mode) : Type 0 where
  pub told : (packet_at s i).carried.present ≡ false → t ≡ written s s.clients (removed (packets s.wire) i)
  pub installed : (packet_at s i).carried.present ≡ true
      → t ≡ with_agent s k (installed m c (packet_at s i).carried.agent)
      (removed (packets s.wire) i ++ map grant_of (admitted m (waiters (packet_at s i).carried.agent.queue)))

-- Its RELEASE that comes to a free decider is taken in any well-formed cluster: it is the last on the wire then, and nothing else has changed.
pub record GoesRound (x : Cluster) (l : LockId) (i : ℕ) : Type 0 where
  pub always : well_formed x ≡ true → l.0 < locks → i < length (packets (lock_in x l).wire) → (deliver x l i).answer ≡ Accepted
  pub last : (deliver x l i).answer ≡ Accepted
      → lock_in (deliver x l i).cluster l
      ≡ written (lock_in x l) (lock_in x l).clients (removed (packets (lock_in x l).wire) i ++ packet_at (lock_in x l) i ∷ [])

pub record LosesAndGivesUp (x : Cluster) (l : LockId) : Type 0 where
  pub loses : (i : ℕ) → Loses x l i
  pub gives_up : (k : MachineId) (t : TaskId) → GivesUp x l k t
  pub stays_idle : (i : ℕ) (k : MachineId) (c : ClientId) (m : Mode) → (packet_at (lock_in x l) i).to ≡ ToMachine k → (packet_at (lock_in x l) i).message
      ≡ Grant c m
      → (packet_at (lock_in x l) i).rejected ≡ false → status_of (lock_in x l) c ≡ Idle → (deliver x l i).answer ≡ Accepted
      → StaysIdle (lock_in x l) (lock_in (deliver x l i).cluster l) i k c m
  pub goes_round : (i : ℕ) (c : ClientId) → (lock_in x l).decider.owner ≡ Unowned → (packet_at (lock_in x l) i).to ≡ ToDecider
      → (packet_at (lock_in x l) i).message ≡ Release c → GoesRound x l i

-- And after a list, of an idle client that no packet on the lock's wire names nothing is left there: no agent, on a machine or in a packet, lists it or has it
-- in its queue. So who may ask again, since refusal 6 does not apply, begins afresh.
pub record NothingLeft (s : LockState) (c : ClientId) : Type 0 where
  pub on_its_machine : (k : MachineId) → (lists (agent_on s k) c ≡ false) × (queues (agent_on s k) c ≡ false)
  pub in_packet : (i : ℕ) → (lists (packet_at s i).carried c ≡ false) × (queues (packet_at s i).carried c ≡ false)

abbrev pub LeavesNothing : ℕ → List Call → Type 0
LeavesNothing n cs =
    (l : LockId) (c : ClientId) → c.0 < clients → phase_after n l c cs ≡ Idle → any (names c) (packets (lock_in (after n cs) l).wire) ≡ false
    → NothingLeft (lock_in (after n cs) l) c
