-- Why a client waits (document 02, "Where is my request"): what of it is under way, and where.
use Rattle.std.specs.Prelude.{Bool, false, ◌&&◌, not, List, [], ◌∷◌, ◌++◌, map, ℕ, suc, leb, Ok}
use Rattle.model.specs.Lists.{pick, is_at, indices}
use Rattle.model.specs.Names.{LockId, MachineId, TaskId, ClientId, AgentSlot, Message, Free, Acquire, Grant, Release, Packet, LockState, Cluster}
use Rattle.model.specs.Names.{Answer, Accepted, Refused, MachineRange, TaskRange, NotWaiting, Reason, Requested, Granted, Rejected, Queued, Carried}
use Rattle.model.specs.Names.{GrantLost, ReasonAnswer, Because, NoReason}
use Rattle.model.specs.States.{machines, tasks, client_of, status_of, note_of, is_waiting, waiters, packets, lock_in}
use Rattle.model.specs.WellFormed.{is_client}
use Rattle.model.specs.Refusals.{Cause, ◌when◌, first, refusal_number}
use Rattle.model.specs.Calls.{causes}
use Rattle.model.specs.Trace.{same_client, is_grant_for}

-- ---- what is true of a client c: a packet is its request, its grant, its grant that was rejected,
abbrev pub is_request_of : ClientId → Message → Bool
is_request_of c (Acquire d m g) = not g && same_client c d
is_request_of c (Grant d m) = false
is_request_of c (Release d) = false
is_request_of c Free = false

abbrev pub requests : ClientId → Packet → Bool
requests c p = is_request_of c p.message

abbrev pub grants : ClientId → Packet → Bool
grants c p = not p.rejected && is_grant_for c p.message

abbrev pub grant_rejected : ClientId → Packet → Bool
grant_rejected c p = p.rejected && is_grant_for c p.message

-- or an agent is there and has it in its queue, behind n others.
abbrev pub queued_in : ClientId → ℕ → AgentSlot → Bool
queued_in c n x = x.present && is_at (is_client c) (waiters x.agent.queue) n

-- A reason is true of a lock's state and a client. What it names is looked at, and nothing else.
unfoldable pub is_true : LockState → ClientId → Reason → Bool
is_true s c (Requested i) = is_at (requests c) (packets s.wire) i
is_true s c (Granted i) = is_at (grants c) (packets s.wire) i
is_true s c (Rejected i) = is_at (grant_rejected c) (packets s.wire) i
is_true s c (Queued k n) = is_at (queued_in c n) s.agents k.0
is_true s c (Carried i n) = is_at (λ (p : Packet). queued_in c n p.carried) (packets s.wire) i
is_true s c GrantLost = note_of s c

-- ---- the call: of all that could be a reason the first that is true. They are tried kind by kind, each from the lowest index or machine on.
unfoldable pub in_queues : (ℕ → ℕ → Reason) → ℕ → List AgentSlot → List Reason
in_queues f i [] = []
in_queues f i (x ∷ xs) = map (f i) (indices 0 (waiters x.agent.queue)) ++ in_queues f (suc i) xs

unfoldable pub reasons_in : LockState → List Reason
reasons_in s =
    map Requested (indices 0 (packets s.wire))
    ++ (map Granted (indices 0 (packets s.wire))
    ++ (map Rejected (indices 0 (packets s.wire))
    ++ (in_queues (λ k. Queued (record { 0 = k })) 0 s.agents
    ++ (in_queues Carried 0 (map (λ (p : Packet). p.carried) (packets s.wire)) ++ GrantLost ∷ []))))

unfoldable pub first_true : LockState → ClientId → List Reason → ReasonAnswer
first_true s c [] = NoReason NotWaiting
first_true s c (r ∷ rs) = pick (is_true s c r) (Because r) (first_true s c rs)

-- of a lock's state
unfoldable pub reason_in : LockState → ClientId → ReasonAnswer
reason_in s c = pick (is_waiting (status_of s c)) (first_true s c (reasons_in s)) (NoReason NotWaiting)

-- of a cluster, which is only read: 11 and the ranges come first
abbrev pub reason_tests : MachineId → TaskId → List Cause
reason_tests k t = (MachineRange when leb machines k.0) ∷ (TaskRange when leb tasks t.0) ∷ []

unfoldable pub reason_unless : Answer → LockState → ClientId → ReasonAnswer
reason_unless (Ok tt) s c = reason_in s c
reason_unless (Refused r) s c = NoReason r

unfoldable pub reason : Cluster → LockId → MachineId → TaskId → ReasonAnswer
reason x l k t = reason_unless (first (causes x l (reason_tests k t))) (lock_in x l) (client_of k t)

-- ---- The paper's number of an answer: 0 for a reason. Its values: which of the six it is, from 1 on; the index or the machine; how many are ahead.
abbrev pub reason_number : ReasonAnswer → ℕ
reason_number (Because r) = 0
reason_number (NoReason r) = refusal_number r

abbrev pub reason_values : ReasonAnswer → List ℕ
reason_values (Because (Requested i)) = 1 ∷ i ∷ []
reason_values (Because (Granted i)) = 2 ∷ i ∷ []
reason_values (Because (Rejected i)) = 3 ∷ i ∷ []
reason_values (Because (Queued k n)) = 4 ∷ k.0 ∷ n ∷ []
reason_values (Because (Carried i n)) = 5 ∷ i ∷ n ∷ []
reason_values (Because GrantLost) = 6 ∷ []
reason_values (NoReason r) = []
