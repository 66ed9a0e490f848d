-- The scenarios of document 01 that are marked to be proved (D1 to D10), D12 as request 3 of document 02 has it, one for each of the tempting faults, the
-- handlings of request 4, request 5's preference for writers, the counts of request 7, and request 8's lost grants and giving up: each a start state,
-- calls on lock 0, and the numbers of the answers
-- and the whole cluster that follow, or what is told. One list, by name, and one theorem, by computation.
use Rattle.std.specs.Prelude.{◌≡◌, refl, Bool, true, false, List, [], ◌∷◌, ◌++◌, map, ℕ, set, replicate, Option, Some}
use Rattle.model.specs.Lists.{padded, removed}
use Rattle.theorems.specs.Names.{LockId, MachineId, ClientId, Mode, Exclusive, Shared, Owned, Decider, Waiter, Agent, AgentSlot, ToDecider, ToMachine}
use Rattle.theorems.specs.Names.{Message, Free, Acquire, Grant, Release, Packet, Status, Idle, Waiting, Holding, ClientState, LockState, Cluster, Call}
use Rattle.theorems.specs.Names.{Handling, None, NoAgent, NotHolder, Taken, handlings_of, AcquireCall, ReleaseCall, DeliverCall, LoseCall, GiveUpCall}
use Rattle.theorems.specs.Names.{locks, machines, clients, carrying, resent, may_join, may_share, number}
use Rattle.model.specs.States.{queue_of, waiters, no_holders, new_agent, some_agent, no_agent, idle, plain, blank_packet, wire_of, packets, fresh_lock}
use Rattle.model.specs.States.{status_of}
use Rattle.model.specs.States.{note_of, unowned}
use Rattle.model.specs.WellFormed.{shaped, is_blank_waiter, distinct, queue_formed, agent_formed, is_blank_agent, slot_formed, message_formed, packet_formed}
use Rattle.model.specs.WellFormed.{is_blank_packet, wire_formed, client_formed, lock_formed, well_formed}
use Rattle.model.specs.Changes.{finish}
use Rattle.model.specs.Asking.{client_asks, client_acquires, hand_over, stays_if, client_releases, client_gives_up, grant_is_lost}
use Rattle.model.specs.AtDecider.{to_owner, decides_acquire, decides_release, decides_free, decides_grant, decides, at_decider}
use Rattle.model.specs.AtMachine.{admitted, staying, joined, installs, grant_arrives, rejected_grant_arrives, marked, unmarked, acquire_arrives}
use Rattle.model.specs.AtMachine.{release_arrives}
use Rattle.model.specs.AtMachine.{taken_off, free_arrives, arrives, at_machine, handles}
use Rattle.model.specs.Refusals.{first}
use Rattle.model.specs.Calls.{delivers, handled_at, acquire_step, release_step, takes, deliver_step, settled, unless, acquire, release, deliver, perform, run}
use Rattle.model.specs.Calls.{answers_of, lose, give_up, give_up_step, lose_step, drops, can_be_lost}
use Rattle.model.specs.Drain.{some, next_call, release_first, give_up_first, next_of, drainage, drain_ended, drain_unless, drain}
use Rattle.model.specs.Trace.{sees, watch, grants_in}
use Rattle.model.specs.History.{same_numbers, numbers_after, numbers_of}

-- ---- words for states and calls: clients 0/0, 0/1 and 1/0 are 0, 1 and 4, and 2/0 is 8
abbrev pub machine : ℕ → MachineId
machine k = record { 0 = k }

abbrev pub client : ℕ → ClientId
client c = record { 0 = c }

abbrev pub on : ℕ → LockId
on l = record { 0 = l }

abbrev pub acquires0 : ℕ → ℕ → ℕ → Call
acquires0 k t m = AcquireCall (on 0) (machine k) (record { 0 = t }) m

abbrev pub releases0 : ℕ → ℕ → Call
releases0 k t = ReleaseCall (on 0) (machine k) (record { 0 = t })

abbrev pub delivers0 : ℕ → Call
delivers0 i = DeliverCall (on 0) i

abbrev pub loses0 : ℕ → Call
loses0 i = LoseCall (on 0) i

abbrev pub gives_up0 : ℕ → ℕ → Call
gives_up0 k t = GiveUpCall (on 0) (machine k) (record { 0 = t })

-- no such lock, and no such mode
abbrev pub lock8 : Call
lock8 = AcquireCall (on 8) (machine 0) (record { 0 = 0 }) 1

abbrev pub owned : Mode → ℕ → ℕ → Decider
owned m k n = record { owner = Owned m (machine k); incarnation = n; writer = false }

-- the decider, which knows of a writer
abbrev knowing : Decider → Decider
knowing d = record { owner = d.owner; incarnation = d.incarnation; writer = true }

-- the agent with this queue
abbrev pub queue : List Waiter → Agent → Agent
queue ws a = record { mode = a.mode; holders = a.holders; queue = queue_of ws; incarnation = a.incarnation }

-- an agent with these holders, no queue and this incarnation
abbrev pub agent : Mode → List ℕ → ℕ → Agent
agent m cs n = record { mode = m; holders = list cs; queue = queue_of []; incarnation = n }
  where
    list : List ℕ → List Bool
    list [] = no_holders
    list (c ∷ cs) = set (list cs) c true

-- a rejected packet to the machine
abbrev pub returning : Message → ℕ → Agent → Packet
returning m k a = resent (carrying m ToDecider a) (ToMachine (machine k)) true

-- the packet, after machines have sent it back n times
abbrev circled : ℕ → Packet → Packet
circled n p = record { message = p.message; to = p.to; rejected = p.rejected; circled = n; carried = p.carried }

abbrev pub nowhere : List AgentSlot
nowhere = replicate machines no_agent

abbrev on0 : Agent → List AgentSlot
on0 a = set nowhere 0 (some_agent a)

abbrev status : ℕ → Status → List ClientState → List ClientState
status c st cs = set cs c (record { status = st; lost = false })

-- it waits, and its GRANT was lost
abbrev pub lost_by : ℕ → List ClientState → List ClientState
lost_by c cs = set cs c (record { status = Waiting Shared; lost = true })

abbrev pub others : List ClientState
others = replicate clients idle

abbrev pub lock : Decider → List AgentSlot → List ClientState → List Packet → LockState
lock d slots cs ps = record { decider = d; agents = slots; clients = cs; wire = wire_of ps }

-- lock 0 in this state, the others fresh, and readers are preferred
abbrev pub with0 : LockState → Cluster
with0 s = record { preference = 0; locks = s ∷ replicate 7 fresh_lock }

-- or writers
abbrev writing0 : LockState → Cluster
writing0 s = record { preference = 1; locks = s ∷ replicate 7 fresh_lock }

-- ---- what a scenario says
pub data Scenario : Type 0 where
  -- from this state of lock 0: calls, the numbers of their answers, and the state after them
  from : LockState → List Call → List ℕ → LockState → Scenario
  -- the same, where writers are preferred
  writing : LockState → List Call → List ℕ → LockState → Scenario
  -- from this state of lock 0: the number of its drain's answer, the drain's steps, and the state after it
  drained : LockState → ℕ → ℕ → LockState → Scenario
  -- from this state of lock 0: calls, and how many grants they show to each of these clients
  granted : LockState → List Call → List ℕ → List ℕ → Scenario
  -- from this state of lock 0: calls, and the handlings that they tell
  told : LockState → List Call → List (Option Handling) → Scenario
  -- from this state of lock 0, whose wire is empty: calls, and the numbers of the history then
  numbered : LockState → List Call → List ℕ → Scenario
  -- from this state of lock 0: the call that a drain makes first
  next : LockState → Call → Scenario

abbrev Leads : (LockState → Cluster) → LockState → List Call → List ℕ → LockState → Type 0
Leads f s cs ns t = (map number (answers_of cs (f s)) ≡ ns) × (run cs (f s) ≡ f t)

abbrev pub Holds : Scenario → Type 0
Holds (from s cs ns t) = Leads with0 s cs ns t
Holds (writing s cs ns t) = Leads writing0 s cs ns t
Holds (drained s n steps t) =
    (number (drain (with0 s) (on 0)).answer ≡ n) × ((drain (with0 s) (on 0)).count ≡ steps) × ((drain (with0 s) (on 0)).cluster ≡ with0 t)
Holds (told s cs hs) = handlings_of cs (with0 s) ≡ hs
Holds (next s a) = next_call (on 0) s ≡ some a
Holds (numbered s cs ns) = numbers_of (on 0) cs (with0 s) [] ≡ ns
Holds (granted s cs who ns) = map (λ (c : ℕ). grants_in (on 0) (client c) cs (with0 s) (status_of s (client c)) (note_of s (client c))) who ≡ ns

-- ---- the states that the scenarios reach
abbrev first_agent : Agent
first_agent = agent Shared (0 ∷ []) 0

-- D1: the new agent is under way to 0/0
abbrev pub d1 : LockState
d1 = lock (owned Shared 0 0) nowhere (status 0 (Waiting Shared) others) (carrying (Grant (client 0) Shared) (ToMachine (machine 0)) (new_agent Shared) ∷ [])

abbrev holding0 : List ClientState
holding0 = status 0 (Holding Shared) others

-- and there: 0/0 holds
abbrev pub d1_held : LockState
d1_held = lock (owned Shared 0 0) (on0 first_agent) holding0 []

abbrev pub grant_to1 : Packet
grant_to1 = plain (Grant (client 4) Shared) (ToMachine (machine 1))

abbrev pub marked_to0 : Packet
marked_to0 = plain (Acquire (client 4) Shared true) (ToMachine (machine 0))

abbrev pub waiting4 : Mode → List ClientState → List ClientState
waiting4 m = status 4 (Waiting m)

-- D2: 1/0 may share the lock: its GRANT and the agent's copy of its request are under way
abbrev pub d2 : LockState
d2 = lock (owned Shared 0 1) (on0 first_agent) (waiting4 Shared holding0) (grant_to1 ∷ marked_to0 ∷ [])

-- D3: 0/0 has released, and the agent leaves with the old incarnation
abbrev d3 : LockState
d3 = lock (owned Shared 0 1) nowhere (waiting4 Shared others) (grant_to1 ∷ marked_to0 ∷ carrying Free ToDecider (agent Shared [] 0) ∷ [])

-- so the decider rejects it
abbrev pub d3_rejected : LockState
d3_rejected = lock (owned Shared 0 1) nowhere (waiting4 Shared others) (grant_to1 ∷ marked_to0 ∷ returning Free 0 (agent Shared [] 0) ∷ [])

-- D4: the agent is where it was, and lists nobody
abbrev pub d4 : LockState
d4 = lock (owned Shared 0 1) (on0 (agent Shared [] 0)) (waiting4 Shared others) (grant_to1 ∷ marked_to0 ∷ [])

-- D5: it has taken the mark, and lists 1/0
abbrev d5 : LockState
d5 = lock (owned Shared 0 1) (on0 (agent Shared (4 ∷ []) 1)) (waiting4 Shared others) (grant_to1 ∷ [])

-- D6: 1/0's release came to the agent before the mark did, and was sent back, n times
abbrev d6_circled : ℕ → LockState
d6_circled n = lock (owned Shared 0 1) (on0 first_agent) holding0 (marked_to0 ∷ circled n (plain (Release (client 4)) ToDecider) ∷ [])

abbrev pub d6 : LockState
d6 = d6_circled 1

abbrev pub waits : ℕ → Waiter
waits c = record { client = client c; mode = Exclusive }

-- D8: an exclusive holder, and another client in its agent's queue
abbrev pub d8_queued : LockState
d8_queued = lock (owned Exclusive 0 0) (on0 (queue (waits 4 ∷ []) (agent Exclusive (0 ∷ []) 0))) (waiting4 Exclusive (status 0 (Holding Exclusive) others)) []

-- and the holder has released: the agent goes to the other
abbrev d8 : LockState
d8 = lock (owned Exclusive 1 0) nowhere (waiting4 Exclusive others) (carrying (Grant (client 4) Exclusive) (ToMachine (machine 1)) (agent Exclusive [] 0) ∷ [])

-- D9: incarnation 255 at decider and agent
abbrev pub d9_start : LockState
d9_start = lock (owned Shared 0 255) (on0 (agent Shared (0 ∷ []) 255)) holding0 []

-- the decider's wraps around with a mark,
abbrev d9 : LockState
d9 = lock (owned Shared 0 0) (on0 (agent Shared (0 ∷ []) 255)) (waiting4 Shared holding0) (grant_to1 ∷ marked_to0 ∷ [])

-- and the agent's when the mark arrives
abbrev d9_agent : LockState
d9_agent = lock (owned Shared 0 0) (on0 (agent Shared (4 ∷ 0 ∷ []) 0)) (waiting4 Shared holding0) (grant_to1 ∷ [])

-- D12: behind the exclusive holder 0/0 stand a, who asks shared, b, exclusive, and c, shared: 1/0, 2/0 and 3/0
abbrev reads : ℕ → Waiter
reads c = record { client = client c; mode = Shared }

abbrev three : Status → Status → Status → List ClientState
three a b c = status 4 a (status 8 b (status 12 c others))

abbrev pub d12_queued : LockState
d12_queued =
    lock (owned Exclusive 0 0) (on0 (queue (reads 4 ∷ waits 8 ∷ reads 12 ∷ []) (agent Exclusive (0 ∷ []) 0)))
    (status 0 (Holding Exclusive) (three (Waiting Shared) (Waiting Exclusive) (Waiting Shared))) []

-- the agent is on machine k, and nothing is under way
abbrev settled_on : ℕ → Agent → List ClientState → LockState
settled_on k a cs = lock (owned a.mode k 0) (set nowhere k (some_agent a)) cs []

-- a gets the agent; c waits behind b
abbrev d12 : LockState
d12 = settled_on 1 (queue (waits 8 ∷ reads 12 ∷ []) (agent Shared (4 ∷ []) 0)) (three (Holding Shared) (Waiting Exclusive) (Waiting Shared))

-- then b gets it, and then c
abbrev d12_second : LockState
d12_second = settled_on 2 (queue (reads 12 ∷ []) (agent Exclusive (8 ∷ []) 0)) (three Idle (Holding Exclusive) (Waiting Shared))

abbrev d12_third : LockState
d12_third = settled_on 3 (agent Shared (12 ∷ []) 0) (three Idle Idle (Holding Shared))

-- client k/0 releases, and the agent goes by way of the decider to the next
abbrev pub passes : ℕ → List Call
passes k = releases0 k 0 ∷ delivers0 0 ∷ delivers0 0 ∷ []

-- ---- the tempting faults
-- a marked ACQUIRE that comes back is not granted again: no incarnation, no second GRANT
abbrev f_marked : LockState
f_marked = lock (owned Shared 0 1) nowhere (waiting4 Shared others) (grant_to1 ∷ carrying Free ToDecider (agent Shared [] 0) ∷ circled 1 marked_to0 ∷ [])

-- a local shared grant moves no incarnation
abbrev f_local : LockState
f_local = lock (owned Shared 0 0) (on0 (agent Shared (1 ∷ 0 ∷ []) 0)) (status 1 (Holding Shared) holding0) []

-- an unmarked shared ACQUIRE at a shared agent
abbrev pub f_unmarked : LockState
f_unmarked = lock (owned Shared 0 0) (on0 first_agent) (waiting4 Shared holding0) (plain (Acquire (client 4) Shared false) (ToMachine (machine 0)) ∷ [])

-- adds a holder and sends a GRANT for it
abbrev f_granted : LockState
f_granted = lock (owned Shared 0 0) (on0 (agent Shared (4 ∷ 0 ∷ []) 0)) (waiting4 Shared holding0) (plain (Grant (client 4) Shared) ToDecider ∷ [])

abbrev asking : List ClientState
asking = status 8 (Waiting Exclusive) (waiting4 Exclusive others)

-- a rejected GRANT for 1/0, behind which 2/0 waits
abbrev pub f_rejected : LockState
f_rejected = lock (owned Shared 0 1) nowhere asking (returning (Grant (client 4) Exclusive) 0 (queue (waits 8 ∷ []) (agent Shared [] 0)) ∷ [])

-- has its waiter back at the queue's front
abbrev pub f_requeued : LockState
f_requeued = lock (owned Shared 0 1) (on0 (queue (waits 4 ∷ waits 8 ∷ []) (agent Shared [] 0))) asking []

-- ---- Writers first. 0/0 holds shared, and 1/0 has asked exclusively: the decider has sent that on, and knows of it
abbrev two : Status → Status → List ClientState → List ClientState
two a b cs = status 4 a (status 8 b cs)

abbrev asked4 : Packet
asked4 = plain (Acquire (client 4) Exclusive false) (ToMachine (machine 0))

abbrev asked8 : Packet
asked8 = plain (Acquire (client 8) Shared false) (ToMachine (machine 0))

abbrev w_noted : LockState
w_noted = lock (knowing (owned Shared 0 0)) (on0 first_agent) (waiting4 Exclusive holding0) (asked4 ∷ [])

-- so 2/0's shared request is sent on too, unmarked,
abbrev w_sent_on : LockState
w_sent_on = lock (knowing (owned Shared 0 0)) (on0 first_agent) (two (Waiting Exclusive) (Waiting Shared) holding0) (asked4 ∷ asked8 ∷ [])

-- and stands behind the writer in the agent's queue, as does 0/1, who asks on the agent's own machine
abbrev w_queued : LockState
w_queued =
    lock (knowing (owned Shared 0 0)) (on0 (queue (waits 4 ∷ reads 8 ∷ reads 1 ∷ []) first_agent))
    (status 1 (Waiting Shared) (two (Waiting Exclusive) (Waiting Shared) holding0)) []

-- 0/0 releases: the writer is served, nobody behind it is one, and the decider forgets
abbrev w_served : LockState
w_served =
    lock (owned Exclusive 1 0) nowhere (status 1 (Waiting Shared) (two (Waiting Exclusive) (Waiting Shared) others))
    (carrying (Grant (client 4) Exclusive) (ToMachine (machine 1)) (queue (reads 8 ∷ reads 1 ∷ []) (agent Shared [] 0)) ∷ [])

-- With readers preferred 0/1 holds at once, past a writer in the queue.
abbrev w_waiting : LockState
w_waiting = lock (owned Shared 0 0) (on0 (queue (waits 4 ∷ []) first_agent)) (waiting4 Exclusive holding0) []

abbrev w_passed : LockState
w_passed = lock (owned Shared 0 0) (on0 (queue (waits 4 ∷ []) (agent Shared (1 ∷ 0 ∷ []) 0))) (status 1 (Holding Shared) (waiting4 Exclusive holding0)) []

-- A reader goes ahead of a writer that waits behind it: the GRANT with the agent tells the decider of that one, which it did not know.
abbrev w_unknown : LockState
w_unknown =
    settled_on 0 (queue (reads 4 ∷ waits 8 ∷ []) (agent Exclusive (0 ∷ []) 0))
    (status 0 (Holding Exclusive) (two (Waiting Shared) (Waiting Exclusive) others))

abbrev w_told : LockState
w_told =
    lock (knowing (owned Shared 1 0)) nowhere (two (Waiting Shared) (Waiting Exclusive) others)
    (carrying (Grant (client 4) Shared) (ToMachine (machine 1)) (queue (waits 8 ∷ []) (agent Exclusive [] 0)) ∷ [])

-- The last holder is gone and a FREE is under way, with a bit that is set: it is cleared.
abbrev w_freeing : LockState
w_freeing = lock (knowing (owned Shared 0 0)) nowhere others (carrying Free ToDecider (agent Shared [] 0) ∷ [])

-- A marked request was granted by the decider before: it joins, past the writer in the queue.
abbrev w_marked : LockState
w_marked = lock (owned Shared 0 1) (on0 (queue (waits 8 ∷ []) first_agent)) (two (Waiting Shared) (Waiting Exclusive) holding0) (grant_to1 ∷ marked_to0 ∷ [])

abbrev w_joined : LockState
w_joined =
    lock (owned Shared 0 1) (on0 (queue (waits 8 ∷ []) (agent Shared (4 ∷ 0 ∷ []) 1))) (two (Waiting Shared) (Waiting Exclusive) holding0) (grant_to1 ∷ [])

-- ---- Counts. 1/0's request has come back three times when the lock is shared
abbrev c_circled : LockState
c_circled = lock (owned Shared 0 0) (on0 first_agent) (waiting4 Shared holding0) (circled 3 (plain (Acquire (client 4) Shared false) ToDecider) ∷ [])

-- to D6 from where 0/0 holds, and a RELEASE that circles once more
abbrev to_D6 : List Call
to_D6 = acquires0 1 0 3 ∷ delivers0 0 ∷ delivers0 0 ∷ releases0 1 0 ∷ delivers0 1 ∷ delivers0 1 ∷ []

abbrev circles : List Call
circles = delivers0 1 ∷ delivers0 1 ∷ []

-- 1/0's request comes to machine 0 ahead of 0/0's agent and goes back; 0/0 holds and releases, and 2/0 gets the free lock
abbrev before_copy : List Call
before_copy =
    acquires0 0 0 2 ∷ delivers0 0 ∷ acquires0 1 0 3 ∷ delivers0 1 ∷ delivers0 1 ∷ delivers0 0 ∷ releases0 0 0 ∷ delivers0 1 ∷ acquires0 2 0 3 ∷ delivers0 1 ∷ []

-- ---- request 8: from D2, 1/0's GRANT is lost; and then 1/0 gives up
abbrev pub lost_noted_is : LockState
lost_noted_is = lock (owned Shared 0 1) (on0 first_agent) (lost_by 4 holding0) (marked_to0 ∷ [])

abbrev pub gave_up_is : LockState
gave_up_is = lock (owned Shared 0 1) (on0 first_agent) holding0 (marked_to0 ∷ plain (Release (client 4)) ToDecider ∷ [])

-- from D8, who queues gives up: its RELEASE takes it off the queue, and the agent stays
abbrev unqueued_is : LockState
unqueued_is = lock (owned Exclusive 0 0) (on0 (agent Exclusive (0 ∷ []) 0)) (status 0 (Holding Exclusive) others) []

-- who asked for a free lock gives up: its RELEASE stays with the decider as long as its ACQUIRE is under way,
abbrev early_is : LockState
early_is = lock unowned nowhere others (plain (Acquire (client 0) Exclusive false) ToDecider ∷ plain (Release (client 0)) ToDecider ∷ [])

-- and the GRANT finds it idle: it is listed, and holds nothing
abbrev idle_listed_is : LockState
idle_listed_is = lock (owned Exclusive 0 0) (on0 (agent Exclusive (0 ∷ []) 0)) others (plain (Release (client 0)) ToDecider ∷ [])

-- by hand: a GRANT comes to who has the note
abbrev noted_granted : LockState
noted_granted = lock (owned Shared 0 1) (on0 first_agent) (lost_by 4 holding0) (grant_to1 ∷ [])

abbrev note_dropped_is : LockState
note_dropped_is = lock (owned Shared 0 1) (on0 first_agent) (status 4 (Holding Shared) holding0) []

-- by hand: an exclusive GRANT without agent, and it is lost
abbrev alone_granted : LockState
alone_granted = lock (owned Exclusive 0 0) nowhere (waiting4 Exclusive others) (plain (Grant (client 4) Exclusive) (ToMachine (machine 1)) ∷ [])

abbrev alone_lost : LockState
alone_lost = lock (owned Exclusive 0 0) nowhere (set others 4 (record { status = Waiting Exclusive; lost = true })) []

-- by hand: a full wire at a free lock, and 1/0 waits
abbrev full_is : LockState
full_is = lock unowned nowhere (waiting4 Shared others) (replicate 49 (plain (Release (client 0)) ToDecider))

-- 1/0's RELEASE comes to machine 0 ahead of 0/0's agent and goes back; 0/0 holds and releases, and the RELEASE comes to the decider of a free lock
abbrev to_circled : List Call
to_circled =
    acquires0 0 0 2 ∷ delivers0 0 ∷ acquires0 1 0 2 ∷ gives_up0 1 0 ∷ delivers0 2 ∷ delivers0 2 ∷ delivers0 0 ∷ releases0 0 0 ∷ delivers0 2 ∷ delivers0 1 ∷ []

abbrev early_circled_is : LockState
early_circled_is =
    lock unowned nowhere others (plain (Acquire (client 4) Exclusive false) ToDecider ∷ circled 1 (plain (Release (client 4)) ToDecider) ∷ [])

-- from D12, b gives up and is taken off the queue: c stays where it stood, and 1/1, which asks then, holds before it
abbrev passed_over_is : LockState
passed_over_is = settled_on 1 (queue (reads 12 ∷ []) (agent Shared (5 ∷ 4 ∷ []) 0)) (status 5 (Holding Shared) (three (Holding Shared) Idle (Waiting Shared)))

-- nothing is under way, 0/0 holds, and 1/0 and 2/0 have the note; and 0/0 is gone
abbrev two_noted : List ClientState → LockState
two_noted cs = lock (owned Shared 0 2) (on0 (agent Shared (8 ∷ 4 ∷ 0 ∷ []) 2)) (lost_by 8 (lost_by 4 cs)) []

-- ---- the list, and the theorem
pub data Name : Type 0 where
  D1 D1-arrived D1-drained D2 D3 D3-rejected D4 D5 D6 D7 D8-queued D8 D9 D9-agent D10 : Name
  D12-queued D12 D12-second D12-third D12-granted : Name
  marked-returns granted-locally unmarked-joins waiter-returns : Name
  D3-told D5-told D6-told D8-told : Name
  writer-noted reader-sent-on reader-queued writer-served reader-passes writer-told bit-cleared marked-joins : Name
  D6-again count-stays copy-afresh D6-numbered D6-again-numbered request-numbered copy-numbered : Name
  lost-noted lost-refused gave_up unwaiting lost-drained lost-granted unqueued unqueued-told early early-again idle-listed idle-drained early-numbered : Name
  lost-elsewhere lost-agent lost-idle lost-exclusive note-dropped no_room vacant-unqueued : Name
  early-circled early-circled-numbered releases-first lowest-first passed_over : Name

abbrev pub scenarios : Name → Scenario
scenarios D1 = from fresh_lock (acquires0 0 0 3 ∷ delivers0 0 ∷ []) (0 ∷ 0 ∷ []) d1
scenarios D1-arrived = from d1 (delivers0 0 ∷ []) (0 ∷ []) d1_held
-- the GRANT arrives, 0/0 releases, and the FREE ends it
scenarios D1-drained = drained d1 0 3 fresh_lock
scenarios D2 = from d1_held (acquires0 1 0 3 ∷ delivers0 0 ∷ []) (0 ∷ 0 ∷ []) d2
scenarios D3 = from d2 (releases0 0 0 ∷ []) (0 ∷ []) d3
scenarios D3-rejected = from d3 (delivers0 2 ∷ []) (0 ∷ []) d3_rejected
scenarios D4 = from d3_rejected (delivers0 2 ∷ []) (0 ∷ []) d4
scenarios D5 = from d4 (delivers0 1 ∷ []) (0 ∷ []) d5
scenarios D6 = from d2 (delivers0 0 ∷ releases0 1 0 ∷ delivers0 1 ∷ delivers0 1 ∷ []) (replicate 4 0) d6
-- as long as its RELEASE is under way, 1/0 may not ask again
scenarios D7 = from d6 (acquires0 1 0 3 ∷ []) (6 ∷ []) d6
scenarios D8-queued =
    from fresh_lock (acquires0 0 0 2 ∷ delivers0 0 ∷ delivers0 0 ∷ acquires0 1 0 2 ∷ delivers0 0 ∷ delivers0 0 ∷ []) (replicate 6 0) d8_queued
scenarios D8 = from d8_queued (releases0 0 0 ∷ delivers0 0 ∷ []) (0 ∷ 0 ∷ []) d8
scenarios D9 = from d9_start (acquires0 1 0 3 ∷ delivers0 0 ∷ []) (0 ∷ 0 ∷ []) d9
scenarios D9-agent = from d9 (delivers0 1 ∷ []) (0 ∷ []) d9_agent
-- of two wrong numbers, the lock's is answered
scenarios D10 = from fresh_lock (lock8 ∷ []) (1 ∷ []) fresh_lock
-- each of the three asks the decider, which sends it on to the agent
scenarios D12-queued =
    from fresh_lock
    (acquires0 0 0 2 ∷ delivers0 0 ∷ delivers0 0 ∷ acquires0 1 0 3 ∷ delivers0 0 ∷ delivers0 0 ∷ acquires0 2 0 2 ∷ delivers0 0 ∷ delivers0 0
    ∷ acquires0 3 0 3 ∷ delivers0 0 ∷ delivers0 0 ∷ [])
    (replicate 12 0) d12_queued
scenarios D12 = from d12_queued (passes 0) (replicate 3 0) d12
scenarios D12-second = from d12 (passes 1) (replicate 3 0) d12_second
scenarios D12-third = from d12_second (passes 2) (replicate 3 0) d12_third
-- each of them once
scenarios D12-granted = granted d12_queued (passes 0 ++ (passes 1 ++ passes 2)) (4 ∷ 8 ∷ 12 ∷ []) (1 ∷ 1 ∷ 1 ∷ [])
-- the tempting faults
scenarios marked-returns = from d3 (delivers0 1 ∷ delivers0 2 ∷ []) (0 ∷ 0 ∷ []) f_marked
scenarios granted-locally = from d1_held (acquires0 0 1 3 ∷ []) (0 ∷ []) f_local
scenarios unmarked-joins = from f_unmarked (delivers0 0 ∷ []) (0 ∷ []) f_granted
scenarios waiter-returns = from f_rejected (delivers0 0 ∷ []) (0 ∷ []) f_requeued
-- what a machine makes of a marked ACQUIRE without an agent and with one, of a RELEASE at an agent that does not list its client, of an unmarked ACQUIRE
scenarios D3-told = told d3 (delivers0 1 ∷ delivers0 2 ∷ []) ((Some NoAgent) ∷ None ∷ [])
scenarios D5-told = told d4 (delivers0 1 ∷ delivers0 0 ∷ []) ((Some Taken) ∷ None ∷ [])
scenarios D6-told = told d2 (delivers0 0 ∷ releases0 1 0 ∷ delivers0 1 ∷ delivers0 1 ∷ []) (None ∷ None ∷ None ∷ (Some NotHolder) ∷ [])
scenarios D8-told = told d1_held (acquires0 1 0 2 ∷ delivers0 0 ∷ delivers0 0 ∷ []) (None ∷ None ∷ (Some Taken) ∷ [])
-- the preference for writers
scenarios writer-noted = writing d1_held (acquires0 1 0 2 ∷ delivers0 0 ∷ []) (0 ∷ 0 ∷ []) w_noted
scenarios reader-sent-on = writing w_noted (acquires0 2 0 3 ∷ delivers0 1 ∷ []) (0 ∷ 0 ∷ []) w_sent_on
scenarios reader-queued = writing w_sent_on (delivers0 0 ∷ delivers0 0 ∷ acquires0 0 1 3 ∷ []) (replicate 3 0) w_queued
scenarios writer-served = writing w_queued (releases0 0 0 ∷ delivers0 0 ∷ []) (0 ∷ 0 ∷ []) w_served
scenarios reader-passes = from w_waiting (acquires0 0 1 3 ∷ []) (0 ∷ []) w_passed
scenarios writer-told = writing w_unknown (releases0 0 0 ∷ delivers0 0 ∷ []) (0 ∷ 0 ∷ []) w_told
scenarios bit-cleared = writing w_freeing (delivers0 0 ∷ []) (0 ∷ []) fresh_lock
scenarios marked-joins = writing w_marked (delivers0 1 ∷ []) (0 ∷ []) w_joined
-- counts: the decider keeps one and a machine adds one; at 255 it stays; the marked copy begins at 0
scenarios D6-again = from d6 circles (0 ∷ 0 ∷ []) (d6_circled 2)
scenarios count-stays = from (d6_circled 254) (circles ++ circles) (replicate 4 0) (d6_circled 255)
scenarios copy-afresh = from c_circled (delivers0 0 ∷ []) (0 ∷ []) d2
-- and the history of such runs
scenarios D6-numbered = numbered d1_held to_D6 (0 ∷ 1 ∷ [])
scenarios D6-again-numbered = numbered d1_held (to_D6 ++ (circles ++ circles)) (0 ∷ 3 ∷ [])
scenarios request-numbered = numbered fresh_lock before_copy (1 ∷ 0 ∷ [])
scenarios copy-numbered = numbered fresh_lock (before_copy ++ (delivers0 0 ∷ [])) (0 ∷ 0 ∷ 0 ∷ [])
-- lost grants and giving up
scenarios lost-noted = from d2 (loses0 0 ∷ []) (0 ∷ []) lost_noted_is
-- a marked ACQUIRE cannot be lost, nor what is not there; who does not wait cannot give up
scenarios lost-refused = from d2 (loses0 1 ∷ loses0 2 ∷ gives_up0 0 0 ∷ gives_up0 4 0 ∷ []) (18 ∷ 8 ∷ 17 ∷ 2 ∷ []) d2
scenarios gave_up = from lost_noted_is (gives_up0 1 0 ∷ []) (0 ∷ []) gave_up_is
scenarios unwaiting = from gave_up_is (gives_up0 1 0 ∷ acquires0 1 0 3 ∷ []) (17 ∷ 6 ∷ []) gave_up_is
-- the mark, 0/0's release, 1/0 gives up, its RELEASE twice, and the FREE
scenarios lost-drained = drained lost_noted_is 0 6 fresh_lock
scenarios lost-granted =
    granted lost_noted_is (delivers0 0 ∷ releases0 0 0 ∷ gives_up0 1 0 ∷ delivers0 0 ∷ delivers0 0 ∷ delivers0 0 ∷ []) (0 ∷ 4 ∷ []) (0 ∷ 0 ∷ [])
scenarios unqueued = from d8_queued (gives_up0 1 0 ∷ delivers0 0 ∷ delivers0 0 ∷ []) (replicate 3 0) unqueued_is
scenarios unqueued-told = told d8_queued (gives_up0 1 0 ∷ delivers0 0 ∷ delivers0 0 ∷ []) (None ∷ None ∷ (Some Taken) ∷ [])
scenarios early = from fresh_lock (acquires0 0 0 2 ∷ gives_up0 0 0 ∷ []) (0 ∷ 0 ∷ []) early_is
scenarios early-again = from early_is (delivers0 1 ∷ delivers0 1 ∷ []) (0 ∷ 0 ∷ []) early_is
scenarios idle-listed = from early_is (delivers0 0 ∷ delivers0 1 ∷ []) (0 ∷ 0 ∷ []) idle_listed_is
scenarios idle-drained = drained idle_listed_is 0 3 fresh_lock
scenarios early-numbered = numbered fresh_lock (acquires0 0 0 2 ∷ gives_up0 0 0 ∷ delivers0 1 ∷ delivers0 1 ∷ []) (0 ∷ 0 ∷ [])
-- a GRANT to the decider cannot be lost, nor one with an agent; one for an idle client leaves no note
scenarios lost-elsewhere = from f_granted (loses0 0 ∷ []) (18 ∷ []) f_granted
scenarios lost-agent = from d1 (loses0 0 ∷ []) (18 ∷ []) d1
scenarios lost-idle = from d2 (gives_up0 1 0 ∷ loses0 0 ∷ []) (0 ∷ 0 ∷ []) gave_up_is
scenarios lost-exclusive = from alone_granted (loses0 0 ∷ []) (0 ∷ []) alone_lost
-- there is no room for one more RELEASE, but one that is delivered goes to the wire's end
scenarios no_room = from full_is (gives_up0 1 0 ∷ delivers0 0 ∷ []) (10 ∷ 0 ∷ []) full_is
scenarios note-dropped = from noted_granted (delivers0 0 ∷ []) (0 ∷ []) note_dropped_is
-- an agent that lists nobody stays where it is, though its queue is empty again
scenarios vacant-unqueued = from d4 (acquires0 0 1 2 ∷ gives_up0 0 1 ∷ delivers0 2 ∷ delivers0 2 ∷ []) (replicate 4 0) d4
scenarios passed_over = from d12 (gives_up0 2 0 ∷ delivers0 0 ∷ delivers0 0 ∷ acquires0 1 1 3 ∷ []) (replicate 4 0) passed_over_is
scenarios early-circled = from fresh_lock to_circled (replicate 10 0) early_circled_is
scenarios early-circled-numbered = numbered fresh_lock to_circled (0 ∷ 1 ∷ [])
scenarios releases-first = next (two_noted holding0) (releases0 0 0)
scenarios lowest-first = next (two_noted others) (gives_up0 1 0)

pub scenarios_hold : (n : Name) → Holds (scenarios n)
unfolding lose give_up give_up_step lose_step drops can_be_lost client_gives_up grant_is_lost taken_off give_up_first
    run perform acquire release deliver unless settled first acquire_step release_step deliver_step takes finish delivers
    handled_at handles drain drain_unless drain_ended drainage next_of release_first
    client_formed
    well_formed lock_formed wire_formed packet_formed message_formed slot_formed agent_formed is_blank_agent is_blank_packet is_blank_waiter queue_formed
    distinct shaped
    at_decider decides decides_acquire decides_release decides_free decides_grant to_owner at_machine arrives acquire_arrives release_arrives free_arrives
    marked unmarked
    grant_arrives rejected_grant_arrives may_share may_join installs admitted staying joined client_acquires client_asks client_releases stays_if hand_over
    padded removed queue_of waiters no_agent blank_packet wire_of packets fresh_lock watch sees numbers_of numbers_after same_numbers
scenarios_hold D1 = (refl, refl)
scenarios_hold D1-arrived = (refl, refl)
scenarios_hold D1-drained = (refl, refl, refl)
scenarios_hold D2 = (refl, refl)
scenarios_hold D3 = (refl, refl)
scenarios_hold D3-rejected = (refl, refl)
scenarios_hold D4 = (refl, refl)
scenarios_hold D5 = (refl, refl)
scenarios_hold D6 = (refl, refl)
scenarios_hold D7 = (refl, refl)
scenarios_hold D8-queued = (refl, refl)
scenarios_hold D8 = (refl, refl)
scenarios_hold D9 = (refl, refl)
scenarios_hold D9-agent = (refl, refl)
scenarios_hold D10 = (refl, refl)
scenarios_hold D12-queued = (refl, refl)
scenarios_hold D12 = (refl, refl)
scenarios_hold D12-second = (refl, refl)
scenarios_hold D12-third = (refl, refl)
scenarios_hold D12-granted = refl
scenarios_hold marked-returns = (refl, refl)
scenarios_hold granted-locally = (refl, refl)
scenarios_hold unmarked-joins = (refl, refl)
scenarios_hold waiter-returns = (refl, refl)
scenarios_hold D3-told = refl
scenarios_hold D5-told = refl
scenarios_hold D6-told = refl
scenarios_hold D8-told = refl
scenarios_hold writer-noted = (refl, refl)
scenarios_hold reader-sent-on = (refl, refl)
scenarios_hold reader-queued = (refl, refl)
scenarios_hold writer-served = (refl, refl)
scenarios_hold reader-passes = (refl, refl)
scenarios_hold writer-told = (refl, refl)
scenarios_hold bit-cleared = (refl, refl)
scenarios_hold marked-joins = (refl, refl)
scenarios_hold D6-again = (refl, refl)
scenarios_hold count-stays = (refl, refl)
scenarios_hold copy-afresh = (refl, refl)
scenarios_hold D6-numbered = refl
scenarios_hold D6-again-numbered = refl
scenarios_hold request-numbered = refl
scenarios_hold copy-numbered = refl
scenarios_hold lost-noted = (refl, refl)
scenarios_hold lost-refused = (refl, refl)
scenarios_hold gave_up = (refl, refl)
scenarios_hold unwaiting = (refl, refl)
scenarios_hold lost-drained = (refl, refl, refl)
scenarios_hold lost-granted = refl
scenarios_hold unqueued = (refl, refl)
scenarios_hold unqueued-told = refl
scenarios_hold early = (refl, refl)
scenarios_hold early-again = (refl, refl)
scenarios_hold idle-listed = (refl, refl)
scenarios_hold idle-drained = (refl, refl, refl)
scenarios_hold early-numbered = refl
scenarios_hold lost-elsewhere = (refl, refl)
scenarios_hold lost-agent = (refl, refl)
scenarios_hold lost-idle = (refl, refl)
scenarios_hold lost-exclusive = (refl, refl)
scenarios_hold no_room = (refl, refl)
scenarios_hold note-dropped = (refl, refl)
scenarios_hold vacant-unqueued = (refl, refl)
scenarios_hold passed_over = (refl, refl)
scenarios_hold early-circled = (refl, refl)
scenarios_hold early-circled-numbered = refl
scenarios_hold releases-first = refl
scenarios_hold lowest-first = refl
