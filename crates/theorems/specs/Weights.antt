-- What a packet, a slot or a status counts for. Every count is a sum over a lock's packets and machines, so there is no agent to search for.
-- Suffixes: M of a message, P of a packet, S of a slot, W of a waiter, F of a status or an owner. Clients and machines are numbers here.
use Rattle.std.specs.Prelude.{◌&&◌, ◌+◌, ◌*◌}
use Rattle.theorems.specs.Names.{Bool, true, false, not, ℕ, length, get_or, eqb, leb, ltb, MachineId, ClientId, Mode, Exclusive, Shared}
use Rattle.theorems.specs.Names.{Owner, Unowned, Owned, Waiter, Agent, AgentSlot, Address, ToDecider, ToMachine, Message, Acquire, Grant, Release, Free}
use Rattle.theorems.specs.Names.{Packet, Status, Idle, Waiting, Holding, ClientState, LockState, waiters, no_agent, idle, packets, machines, clients}
use Rattle.theorems.specs.Names.{machine_of, owned_shared, is_marked}
use Rattle.theorems.specs.Tally.{flag, gate, tally}

abbrev pub client_in : LockState → ℕ → ClientState
client_in s d = get_or s.clients d idle

abbrev pub status_at : LockState → ℕ → Status
status_at s d = (client_in s d).status

-- it has the note of a lost GRANT
abbrev pub note_at : LockState → ℕ → Bool
note_at s d = (client_in s d).lost

abbrev pub slot_at : LockState → ℕ → AgentSlot
slot_at s k = get_or s.agents k no_agent

unfoldable pub weight : (Packet → ℕ) → (AgentSlot → ℕ) → LockState → ℕ
weight f g s = tally f (packets s.wire) + tally g s.agents

-- ---- a client, in a mode
abbrev pub same_mode : Mode → Mode → Bool
same_mode Exclusive Exclusive = true
same_mode Exclusive Shared = false
same_mode Shared Exclusive = false
same_mode Shared Shared = true

-- 1 where the client is d
unfoldable pub one : ℕ → ClientId → ℕ
one d c = flag (eqb c.0 d)

-- 1 where the client is d and the mode m
unfoldable pub hit : ℕ → Mode → ClientId → Mode → ℕ
hit d m c n = flag (eqb c.0 d) * flag (same_mode n m)

abbrev pub one_w : ℕ → Waiter → ℕ
one_w d w = one d w.client

abbrev pub hit_w : ℕ → Mode → Waiter → ℕ
hit_w d m w = hit d m w.client w.mode

-- ---- d waits in the mode m: an unmarked ACQUIRE, a GRANT, a place in a queue
unfoldable pub ask_m : ℕ → Mode → Message → ℕ
ask_m d m (Acquire c n false) = hit d m c n
ask_m d m (Acquire c n true) = 0
ask_m d m (Grant c n) = hit d m c n
ask_m d m (Release c) = 0
ask_m d m Free = 0

unfoldable pub queued_s : ℕ → Mode → AgentSlot → ℕ
queued_s d m x = gate x.present (tally (hit_w d m) (waiters x.agent.queue))

abbrev pub waiting_p : ℕ → Mode → Packet → ℕ
waiting_p d m p = ask_m d m p.message + queued_s d m p.carried

-- ---- d is listed by an agent, or a marked ACQUIRE is to list it
unfoldable pub mark_m : ℕ → Message → ℕ
mark_m d (Acquire c n false) = 0
mark_m d (Acquire c n true) = one d c
mark_m d (Grant c n) = 0
mark_m d (Release c) = 0
mark_m d Free = 0

unfoldable pub listed_s : ℕ → AgentSlot → ℕ
listed_s d x = gate x.present (flag (get_or x.agent.holders d false))

abbrev pub listed_p : ℕ → Packet → ℕ
listed_p d p = mark_m d p.message + listed_s d p.carried

-- ---- what a listed client may still have under way: a GRANT without agent, a RELEASE
unfoldable pub owed_m : ℕ → Bool → Message → ℕ
owed_m d b (Acquire c n g) = 0
owed_m d true (Grant c n) = 0
owed_m d false (Grant c n) = one d c
owed_m d b (Release c) = one d c
owed_m d b Free = 0

abbrev pub owed_p : ℕ → Packet → ℕ
owed_p d p = owed_m d p.carried.present p.message

unfoldable pub release_m : ℕ → Message → ℕ
release_m d (Acquire c n g) = 0
release_m d (Grant c n) = 0
release_m d (Release c) = one d c
release_m d Free = 0

abbrev pub release_p : ℕ → Packet → ℕ
release_p d p = release_m d p.message

-- ---- agents, their incarnations, the marked ACQUIREs
unfoldable pub agent_s : AgentSlot → ℕ
agent_s x = flag x.present

abbrev pub agent_p : Packet → ℕ
agent_p p = agent_s p.carried

unfoldable pub incarnation_s : AgentSlot → ℕ
incarnation_s x = gate x.present x.agent.incarnation

abbrev pub incarnation_p : Packet → ℕ
incarnation_p p = incarnation_s p.carried

unfoldable pub mark_all : Message → ℕ
mark_all m = flag (is_marked m)

abbrev pub mark_p : Packet → ℕ
mark_p p = mark_all p.message

abbrev pub rejected_p : Packet → ℕ
rejected_p p = flag p.rejected

-- an agent that lists nobody
abbrev pub heads : Agent → ℕ
heads a = tally flag a.holders

unfoldable pub vacant_s : AgentSlot → ℕ
vacant_s x = gate x.present (flag (eqb (heads x.agent) 0))

-- ---- a status, an owner
unfoldable pub wait_f : Mode → Status → ℕ
wait_f m Idle = 0
wait_f m (Waiting n) = flag (same_mode n m)
wait_f m (Holding n) = 0

-- a GRANT that was lost was shared: so is the wait of whoever has the note
unfoldable pub note_f : Mode → Bool → ℕ
note_f Exclusive b = 0
note_f Shared b = flag b

-- in any mode
unfoldable pub waits_f : Status → ℕ
waits_f Idle = 0
waits_f (Waiting n) = 1
waits_f (Holding n) = 0

unfoldable pub hold_f : Status → ℕ
hold_f Idle = 0
hold_f (Waiting n) = 0
hold_f (Holding n) = 1

unfoldable pub idle_f : Status → ℕ
idle_f Idle = 1
idle_f (Waiting n) = 0
idle_f (Holding n) = 0

abbrev pub shared_f : Owner → ℕ
shared_f o = flag (owned_shared o)

unfoldable pub owned_f : Owner → ℕ
owned_f Unowned = 0
owned_f (Owned m k) = 1

-- the decider of a free lock knows of a writer
unfoldable pub waited_f : Owner → Bool → ℕ
waited_f Unowned b = flag b
waited_f (Owned m k) b = 0

-- a client holds in another mode than the lock's
unfoldable pub clash : Owner → Status → ℕ
clash o Idle = 0
clash o (Waiting n) = 0
clash Unowned (Holding n) = 1
clash (Owned m k) (Holding n) = flag (not (same_mode n m))

-- ---- machines' numbers are in range
unfoldable pub far_m : MachineId → ℕ
far_m k = flag (not (ltb k.0 machines))

abbrev pub far_a : Address → ℕ
far_a ToDecider = 0
far_a (ToMachine k) = far_m k

abbrev pub far_p : Packet → ℕ
far_p p = far_a p.to

abbrev pub far_f : Owner → ℕ
far_f Unowned = 0
far_f (Owned m k) = far_m k

-- ---- what an agent and a packet must be, beside the lock's owner
abbrev pub owned_mode : Owner → Mode → Bool
owned_mode Unowned n = false
owned_mode (Owned m k) n = same_mode n m

abbrev pub owned_at : Owner → ℕ → Bool
owned_at Unowned k = false
owned_at (Owned m j) k = eqb j.0 k

-- an exclusive agent lists at most one
abbrev pub few : Mode → ℕ → Bool
few Exclusive n = leb n 1
few Shared n = true

-- an agent on a machine: the owner's machine, the lock's mode
unfoldable pub fits_home : Owner → ℕ → Agent → Bool
fits_home o k a = owned_at o k && (owned_mode o a.mode && (eqb (length a.holders) clients && (few a.mode (heads a) && ltb a.incarnation 256)))

unfoldable pub misfit_s : Owner → ℕ → AgentSlot → ℕ
misfit_s o k x = gate x.present (flag (not (fits_home o k x.agent)))

-- an agent that travels lists nobody
unfoldable pub fits_away : Agent → Bool
fits_away a = eqb (length a.holders) clients && (eqb (heads a) 0 && ltb a.incarnation 256)

-- in a FREE its queue is empty
unfoldable pub fits_free : Agent → Bool
fits_free a = fits_away a && eqb a.queue.len 0

-- a packet with an agent: to the decider, or rejected to the owner's machine, in the lock's mode; or a GRANT, in the lock's mode, to
-- the owner's machine, which is its client's. Arguments: owner, address, rejected, agent.
abbrev pub fits_carried : Owner → Address → Bool → Agent → Message → Bool
fits_carried o t b a (Acquire c n g) = false
fits_carried o t b a (Release c) = false
fits_carried o ToDecider b a Free = not b && (owned_mode o a.mode && fits_free a)
fits_carried o (ToMachine k) b a Free = b && (owned_at o k.0 && (owned_mode o a.mode && fits_free a))
fits_carried o ToDecider b a (Grant c n) = not b && (owned_mode o a.mode && fits_away a)
fits_carried o (ToMachine k) true a (Grant c n) = owned_at o k.0 && (owned_mode o a.mode && fits_away a)
fits_carried o (ToMachine k) false a (Grant c n) = owned_at o k.0 && (eqb (machine_of c).0 k.0 && (owned_mode o n && fits_away a))

-- a packet without: marks only beside a shared lock, and every GRANT is shared
abbrev pub fits_plain : Owner → Message → Bool
fits_plain o (Acquire c n false) = true
fits_plain o (Acquire c n true) = owned_shared o
fits_plain o (Grant c n) = same_mode n Shared
fits_plain o (Release c) = true
fits_plain o Free = false

abbrev pub in_range : Message → Bool
in_range (Acquire c n g) = ltb c.0 clients
in_range (Grant c n) = ltb c.0 clients
in_range (Release c) = ltb c.0 clients
in_range Free = true

-- the Bools: an agent is carried; rejected
unfoldable pub fits : Owner → Bool → Address → Bool → Agent → Message → Bool
fits o true t b a m = in_range m && fits_carried o t b a m
fits o false t b a m = in_range m && (not b && fits_plain o m)

abbrev pub fits_p : Owner → Packet → Bool
fits_p o p = fits o p.carried.present p.to p.rejected p.carried.agent p.message

unfoldable pub misfit_p : Owner → Packet → ℕ
misfit_p o p = flag (not (fits_p o p))
