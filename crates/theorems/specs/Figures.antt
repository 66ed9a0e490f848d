-- The counts of request 1 at worked runs, as they are made on the screen: figures written by hand, one theorem by computation. It stands on the model
-- alone, so that a fault in a rule shows here as a wrong figure.
use Rattle.std.specs.Prelude.{◌≡◌, refl, List, [], ◌∷◌, ◌++◌, ℕ, zero, suc, ◌+◌, ◌*◌, ◌/◌, ◌%◌, length}
use Rattle.model.specs.Lists.{count, padded, removed}
use Rattle.theorems.specs.Names.{Agent, LockState, Call, may_join, may_share}
use Rattle.model.specs.States.{tasks, clients, agent_on, queue_of, waiters, no_agent, blank_packet, wire_of, packets, fresh_lock, lock_in}
use Rattle.model.specs.WellFormed.{shaped, is_blank_waiter, distinct, queue_formed, agent_formed, is_blank_agent, slot_formed, message_formed, packet_formed}
use Rattle.model.specs.WellFormed.{is_blank_packet, wire_formed, client_formed, lock_formed, well_formed}
use Rattle.model.specs.Changes.{finish}
use Rattle.model.specs.Asking.{client_asks, client_acquires, hand_over, stays_if, client_releases, client_gives_up}
use Rattle.model.specs.AtDecider.{to_owner, decides_acquire, decides_release, decides_free, decides_grant, decides, at_decider}
use Rattle.model.specs.AtMachine.{admitted, staying, joined, installs, grant_arrives, rejected_grant_arrives, marked, unmarked, acquire_arrives}
use Rattle.model.specs.AtMachine.{release_arrives}
use Rattle.model.specs.AtMachine.{free_arrives, arrives, at_machine}
use Rattle.model.specs.Refusals.{first}
use Rattle.model.specs.Calls.{delivers, acquire_step, release_step, takes, deliver_step, settled, unless, acquire, release, deliver, perform, run, packet_at}
use Rattle.model.specs.Calls.{give_up, give_up_step}
use Rattle.model.specs.Counts.{agents_in, marks_in, uncounted}
use Rattle.theorems.specs.Scenarios.{machine, on, acquires0, releases0, delivers0, gives_up0, with0, d9_start, d12_queued, passes}

-- where the agent is
pub data Where : Type 0 where
  on_its_machine : ℕ → Where
  in_packet : ℕ → Where

abbrev pub agent_at : Where → LockState → Agent
agent_at (on_its_machine k) s = (agent_on s (machine k)).agent
agent_at (in_packet i) s = (packet_at s i).carried.agent

-- what is counted: packets, agents, marked ACQUIREs, and the decider's incarnation less the agent's
abbrev pub counted : LockState → Where → List ℕ
counted s here = length (packets s.wire) ∷ agents_in s ∷ marks_in s ∷ uncounted s.decider (agent_at here s) ∷ []

-- from this state of lock 0: calls, where the agent is then, and what is counted
pub data Screen : Type 0 where
  shows : LockState → List Call → Where → List ℕ → Screen

abbrev pub Right : Screen → Type 0
Right (shows s cs here figures) = counted (lock_in (run cs (with0 s)) (on 0)) here ≡ figures

-- ---- the runs
abbrev to_D1 : List Call
to_D1 = acquires0 0 0 3 ∷ delivers0 0 ∷ []

-- 0/0 holds, and the decider grants 1/0
abbrev to_D2 : List Call
to_D2 = to_D1 ++ (delivers0 0 ∷ acquires0 1 0 3 ∷ delivers0 0 ∷ [])

abbrev to_D3 : List Call
to_D3 = to_D2 ++ (releases0 0 0 ∷ [])

abbrev to_D3_rejected : List Call
to_D3_rejected = to_D3 ++ (delivers0 2 ∷ [])

-- D13's client c: its ACQUIRE stands behind the FREE and two packets of each client before it
abbrev visit : ℕ → List Call
visit c = acquires0 (c / tasks) (c % tasks) 3 ∷ delivers0 (1 + 2 * c) ∷ delivers0 (1 + 2 * c) ∷ releases0 (c / tasks) (c % tasks) ∷ []

abbrev visits : ℕ → List Call
visits zero = []
visits (suc n) = visits n ++ visit n

-- the same where each gives up
abbrev call_off : ℕ → List Call
call_off c = acquires0 (c / tasks) (c % tasks) 3 ∷ delivers0 (1 + 3 * c) ∷ gives_up0 (c / tasks) (c % tasks) ∷ []

abbrev calls_off : ℕ → List Call
calls_off zero = []
calls_off (suc n) = calls_off n ++ call_off n

-- 0/1 and 0/2 wait, shared, for the exclusive 0/0: 0/1 gets the agent, and the agent grants 0/2
abbrev to_grant : List Call
to_grant = acquires0 0 0 2 ∷ delivers0 0 ∷ delivers0 0 ∷ acquires0 0 1 3 ∷ acquires0 0 2 3 ∷ releases0 0 0 ∷ delivers0 0 ∷ delivers0 0 ∷ []

pub data Name : Type 0 where
  D1 D2 D3 D3-rejected D5 D9 D12 D13 forty-nine agent-grants : Name

abbrev pub screens : Name → Screen
screens D1 = shows fresh_lock to_D1 (in_packet 0) (1 ∷ 1 ∷ 0 ∷ 0 ∷ [])
screens D2 = shows fresh_lock to_D2 (on_its_machine 0) (2 ∷ 1 ∷ 1 ∷ 1 ∷ [])
screens D3 = shows fresh_lock to_D3 (in_packet 2) (3 ∷ 1 ∷ 1 ∷ 1 ∷ [])
screens D3-rejected = shows fresh_lock to_D3_rejected (in_packet 2) (3 ∷ 1 ∷ 1 ∷ 1 ∷ [])
screens D5 = shows fresh_lock (to_D3_rejected ++ (delivers0 2 ∷ delivers0 1 ∷ [])) (on_its_machine 0) (1 ∷ 1 ∷ 0 ∷ 0 ∷ [])
-- 0 less 255, in eight bits
screens D9 = shows d9_start (acquires0 1 0 3 ∷ delivers0 0 ∷ []) (on_its_machine 0) (2 ∷ 1 ∷ 1 ∷ 1 ∷ [])
-- a gets the agent, and no GRANT is sent to c, who waits behind b
screens D12 = shows d12_queued (passes 0) (on_its_machine 1) (0 ∷ 1 ∷ 0 ∷ 0 ∷ [])
-- thirty-three packets; and the wire that fills all places: each has its GRANT, its mark and, since it gave up, a RELEASE
screens D13 = shows fresh_lock (to_D1 ++ (delivers0 0 ∷ releases0 0 0 ∷ visits clients)) (in_packet 0) (33 ∷ 1 ∷ 16 ∷ 16 ∷ [])
screens forty-nine = shows fresh_lock (to_D1 ++ (delivers0 0 ∷ releases0 0 0 ∷ calls_off clients)) (in_packet 0) (49 ∷ 1 ∷ 16 ∷ 16 ∷ [])
-- the decider sends on the GRANT of the agent, and does not count it
screens agent-grants = shows fresh_lock (to_grant ++ (delivers0 0 ∷ [])) (on_its_machine 0) (1 ∷ 1 ∷ 0 ∷ 0 ∷ [])

pub figures_hold : (n : Name) → Right (screens n)
unfolding give_up give_up_step client_gives_up
    run perform acquire release deliver unless settled first acquire_step release_step deliver_step takes finish delivers
    client_formed
    well_formed lock_formed wire_formed packet_formed message_formed slot_formed agent_formed is_blank_agent is_blank_packet is_blank_waiter queue_formed
    distinct shaped
    at_decider decides decides_acquire decides_release decides_free decides_grant to_owner at_machine arrives acquire_arrives release_arrives free_arrives
    marked unmarked
    grant_arrives rejected_grant_arrives may_share may_join installs admitted staying joined client_acquires client_asks client_releases stays_if hand_over
    count padded removed queue_of waiters no_agent blank_packet wire_of packets fresh_lock
figures_hold D1 = refl
figures_hold D2 = refl
figures_hold D3 = refl
figures_hold D3-rejected = refl
figures_hold D5 = refl
figures_hold D9 = refl
figures_hold D12 = refl
figures_hold D13 = refl
figures_hold forty-nine = refl
figures_hold agent-grants = refl
