-- For each bound of document 01, pairs of clusters that differ in it alone: one is well formed, the other is not. The file stands on the model alone: a
-- fault in WellFormed breaks proofs in laws as well, and model-edits tries such faults on these pairs.
use Rattle.std.specs.Prelude.{◌≡◌, refl, Bool, true, false, List, [], ◌∷◌, ◌++◌, map, ℕ, zero, suc, ◌+◌, ◌-◌, ◌%◌, set, replicate}
use Rattle.model.specs.declared.{MachineId.MachineId, ClientId.ClientId, Mode.TheVariants.{Exclusive, Shared}, Owner.Owner}
use Rattle.model.specs.declared.{Owner.TheVariants.{Free as Unowned, Owned}, Waiter.Waiter, Agent.Agent, AgentSlot.AgentSlot, Address.Address}
use Rattle.model.specs.declared.{Address.TheVariants.{Decider as ToDecider, Machine as ToMachine}, Message.Message}
use Rattle.model.specs.declared.{Message.TheVariants.{Free, Acquire, Grant, Release}, Packet.Packet, Wire.Wire, Status.Status}
use Rattle.model.specs.declared.{Status.TheVariants.{Idle, Waiting, Holding}, ClientState.ClientState, LockState.LockState, Cluster.Cluster}
use Rattle.model.specs.Lists.{any, all, padded}
use Rattle.model.specs.States.{locks, machines, tasks, clients, queue_capacity, wire_capacity, blank_waiter, queue_of, no_holders, new_agent, some_agent}
use Rattle.model.specs.States.{no_agent}
use Rattle.model.specs.States.{idle, plain, blank_packet, wire_of, fresh_lock, preferences}
use Rattle.model.specs.Drain.{allowance}
use Rattle.model.specs.WellFormed.{shaped, is_blank_waiter, distinct, queue_formed, agent_formed, is_blank_agent, slot_formed, message_formed, packet_formed}
use Rattle.model.specs.WellFormed.{is_blank_packet, wire_formed, client_formed, lock_formed, well_formed}

-- The papers' numbers. Everything else goes by their names.
pub sizes_are : (locks ≡ 8) × (machines ≡ 4) × (tasks ≡ 4) × (clients ≡ 16) × (queue_capacity ≡ 16) × (wire_capacity ≡ 49) × (allowance ≡ 32768)
    × (preferences ≡ 2)
sizes_are = (refl, refl, refl, refl, refl, refl, refl, refl)

-- a well-formed cluster, and one that differs from it in one bound
pub record Bound : Type 0 where
  pub within : Cluster
  pub outside : Cluster

-- a cluster with the one value in it, and with the other
abbrev differ : {A : Type 0} → (A → Cluster) → A → A → Bound
differ f a b = record { within = f a; outside = f b }

-- an array of n, and those of one more and of one fewer; in code the array's type says n
abbrev sized : {A : Type 0} → (List A → Cluster) → ℕ → A → List Bound
sized f n z = differ f (replicate n z) (replicate (n + 1) z) ∷ differ f (replicate n z) (replicate (n - 1) z) ∷ []

-- the numbers below n
abbrev below : ℕ → List ℕ
below zero = []
below (suc n) = below n ++ (n ∷ [])

abbrev each : List ℕ → (ℕ → List Bound) → List Bound
each [] f = []
each (i ∷ is) f = f i ++ each is f

-- ---- words for states
abbrev machine : ℕ → MachineId
machine k = record { 0 = k }

abbrev client : ℕ → ClientId
client c = record { 0 = c }

abbrev state : Owner → List AgentSlot → List ClientState → Wire → LockState
state o xs cs w = record { decider = record { owner = o; incarnation = 0; writer = false }; agents = xs; clients = cs; wire = w }

-- the lock l is in this state, the others are fresh, and readers are preferred
abbrev lock : ℕ → LockState → Cluster
lock l s = record { preference = 0; locks = set (replicate 8 fresh_lock) l s }

abbrev nowhere : List AgentSlot
nowhere = replicate 4 no_agent

abbrev all_idle : List ClientState
all_idle = replicate 16 idle

abbrev owned_by : ℕ → LockState
owned_by k = state (Owned Shared (machine k)) nowhere all_idle (wire_of [])

-- lock 0, whose machine k has this slot
abbrev slot_on : ℕ → AgentSlot → Cluster
slot_on k x = lock 0 (state (Owned Shared (machine k)) (set nowhere k x) all_idle (wire_of []))

-- lock 0 with this wire: its slots and its length
abbrev on_wire : List Packet → ℕ → Cluster
on_wire ps n = lock 0 (state Unowned nowhere all_idle (record { slots = ps; len = n }))

-- a packet: message, address, rejected, what it carries; and one that a machine has sent back n times
abbrev circling : ℕ → Message → Address → Bool → AgentSlot → Packet
circling n m t b x = record { message = m; to = t; rejected = b; circled = n; carried = x }

abbrev packet : Message → Address → Bool → AgentSlot → Packet
packet m t b x = circling 0 m t b x

abbrev blank_wire : List Packet
blank_wire = replicate 49 blank_packet

-- such a packet alone on the wire
abbrev alone : Packet → Cluster
alone p = on_wire (set blank_wire 0 p) 1

abbrev sent : Message → Address → Bool → AgentSlot → Cluster
sent m t b x = alone (packet m t b x)

abbrev acquire : ℕ → Message
acquire c = Acquire (client c) Shared true

abbrev grant : ℕ → Message
grant c = Grant (client c) Exclusive

abbrev release : ℕ → Message
release c = Release (client c)

abbrev away : Address
away = ToMachine (machine 1)

abbrev waits : ℕ → Waiter
waits c = record { client = client c; mode = Shared }

abbrev everyone : List Waiter
everyone = map waits (below 16)

abbrev blank_queue : List Waiter
blank_queue = replicate 16 blank_waiter

-- an exclusive agent: holders, its queue's slots and length, incarnation
abbrev agent : List Bool → List Waiter → ℕ → ℕ → Agent
agent hs ws n i = record { mode = Exclusive; holders = hs; queue = record { slots = ws; len = n }; incarnation = i }

abbrev carried : AgentSlot
carried = some_agent (new_agent Exclusive)

-- ---- the bounds of an agent, wherever its slot is; those of a single place are shown at the places given
abbrev of_agent : List ℕ → (AgentSlot → Cluster) → List Bound
of_agent places f =
    sized (λ hs. f (some_agent (agent hs blank_queue 0 7))) 16 true
    ++ sized (λ ws. queued ws 0) 16 blank_waiter
    -- the queue's length: here all clients wait
    ++ (differ (queued everyone) 16 17 ∷ [])
    -- each client of it is in range and stands there once, and each slot past its end is blank
    ++ each places
    (λ i.
    differ (standing i) i 16
    ∷ differ (standing i) i ((i + 1) % 16)
    ∷ differ (past i) blank_waiter (waits 0)
    ∷ differ (past i) blank_waiter (record { client = client 1; mode = Exclusive })
    ∷ [])
  where
    queued : List Waiter → ℕ → Cluster
    queued ws n = f (some_agent (agent no_holders ws n 0))

    -- client c stands at i, where client i would
    standing : ℕ → ℕ → Cluster
    standing i c = queued (set everyone i (waits c)) 16

    past : ℕ → Waiter → Cluster
    past i w = queued (set blank_queue i w) 0

-- ---- and of a slot without agent, which is blank in everything
abbrev of_none : List ℕ → (AgentSlot → Cluster) → List Bound
of_none places f =
    map (differ none (new_agent Exclusive))
    (new_agent Shared
    ∷ agent no_holders blank_queue 1 0
    ∷ agent no_holders blank_queue 0 1
    ∷ map (λ i. agent (set no_holders i true) blank_queue 0 0) places
    ++ map (λ i. agent no_holders (set blank_queue i (waits 0)) 0 0) places)
    ++ sized (λ hs. none (agent hs blank_queue 0 0)) 16 false
    ++ sized (λ ws. none (agent no_holders ws 0 0)) 16 blank_waiter
  where
    none : Agent → Cluster
    none a = f (record { present = false; agent = a })

-- ---- the bounds
-- every lock, its owner, and how many there are of each thing
abbrev of_locks : List Bound
of_locks =
    map (λ l. differ (λ k. lock l (owned_by k)) 3 4) (below 8)
    ++ sized (λ ls. record { preference = 1; locks = ls }) 8 fresh_lock
    ++ sized (λ xs. lock 0 (state Unowned xs all_idle (wire_of []))) 4 no_agent
    ++ sized (λ cs. lock 0 (state Unowned nowhere cs (wire_of []))) 16 idle

-- the preference, and who may know of a writer: not the decider of a lock, owned or free, where readers are preferred
abbrev of_preferences : List Bound
of_preferences =
    differ preferring 0 2
    ∷ differ preferring 1 255
    ∷ map (λ l. differ (λ n. knowing n l Unowned) 1 0) (below 8)
    ++ (differ (λ n. knowing n 0 (Owned Exclusive (machine 1))) 1 0 ∷ [])
  where
    preferring : ℕ → Cluster
    preferring n = record { preference = n; locks = replicate 8 fresh_lock }

    knows : Owner → LockState
    knows o = record { decider = record { owner = o; incarnation = 0; writer = true }; agents = nowhere; clients = all_idle; wire = wire_of [] }

    knowing : ℕ → ℕ → Owner → Cluster
    knowing n l o = record { preference = n; locks = set (replicate 8 fresh_lock) l (knows o) }

abbrev last : List ℕ
last = 15 ∷ []

-- every machine's slot, and every place of one
abbrev of_slots : List Bound
of_slots = each (below 4) (λ k. of_agent last (slot_on k) ++ of_none last (slot_on k)) ++ of_agent (below 16) (slot_on 0) ++ of_none (below 16) (slot_on 0)

-- what packets carry
abbrev of_carried : List Bound
of_carried =
    of_agent last (sent Free ToDecider false)
    ++ of_agent last (sent (grant 0) ToDecider false)
    ++ of_agent last (sent (grant 0) away true)
    ++ of_none last (sent (acquire 0) away false)
    ++ of_none last (sent (grant 0) away false)
    ++ of_none last (sent (release 0) away false)

abbrev of_messages : List Bound
of_messages =
    -- machines 0 to 3, clients 0 to 15
    differ (λ k. sent (acquire 0) (ToMachine (machine k)) false no_agent) 3 4
    ∷ differ (λ c. sent (acquire c) ToDecider false no_agent) 15 16
    ∷ differ (λ c. sent (grant c) ToDecider false no_agent) 15 16
    ∷ differ (λ c. sent (release c) ToDecider false no_agent) 15 16
    -- which of them carry an agent
    ∷ differ (sent Free ToDecider false) carried no_agent
    ∷ differ (sent (acquire 0) ToDecider false) no_agent carried
    ∷ differ (sent (release 0) ToDecider false) no_agent carried
    -- what can be rejected, and where it goes
    ∷ differ (λ t. sent Free t true carried) away ToDecider
    ∷ differ (λ t. sent (grant 0) t true carried) away ToDecider
    ∷ differ (sent Free away true) carried no_agent
    ∷ differ (sent (grant 0) away true) carried no_agent
    ∷ differ (λ b. sent (acquire 0) away b no_agent) false true
    ∷ differ (λ b. sent (release 0) away b no_agent) false true
    -- where any other FREE goes
    ∷ differ (λ t. sent Free t false carried) ToDecider away
    -- what can have circled, and how often
    ∷ differ (λ n. alone (circling n (grant 0) ToDecider false no_agent)) 0 1
    ∷ differ (λ n. alone (circling n (grant 0) away true carried)) 0 1
    ∷ differ (λ n. alone (circling n Free ToDecider false carried)) 0 1
    ∷ differ (λ n. alone (circling n Free away true carried)) 0 255
    ∷ differ (λ m. alone (circling 255 m away false no_agent)) (acquire 0) (grant 0)
    ∷ differ (λ m. alone (circling 255 m ToDecider false no_agent)) (release 0) (grant 0)
    ∷ []

-- the wire's length, each packet on it, and the blanks past its end
abbrev of_wires : List Bound
of_wires =
    sized (λ ps. on_wire ps 0) 49 blank_packet
    ++ (differ (on_wire (replicate 49 (plain (Acquire (client 0) Exclusive false) ToDecider))) 49 50 ∷ [])
    ++ each (below 49)
    (λ i.
    differ (λ c. on_wire (set (replicate 49 (plain (release 0) ToDecider)) i (packet (grant c) away false carried)) 49) 15 16
    ∷ differ (past i) blank_packet (packet (acquire 0) ToDecider false no_agent)
    ∷ differ (past i) blank_packet (packet Free away false no_agent)
    ∷ differ (past i) blank_packet (packet Free ToDecider true no_agent)
    ∷ differ (past i) blank_packet (circling 1 Free ToDecider false no_agent)
    ∷ differ (past i) blank_packet (packet Free ToDecider false carried)
    ∷ [])
    ++ of_none last (λ x. past 48 (packet Free ToDecider false x))
  where
    past : ℕ → Packet → Cluster
    past i p = on_wire (set blank_wire i p) 0

-- only who waits has the note of a lost GRANT, in either mode
abbrev of_notes : List Bound
of_notes =
    each (below 16)
    (λ c.
    differ (noted c) (Waiting Shared) Idle
    ∷ differ (noted c) (Waiting Exclusive) (Holding Shared)
    ∷ differ (noted c) (Waiting Shared) (Holding Exclusive)
    ∷ [])
  where
    noted : ℕ → Status → Cluster
    noted c st = lock 0 (state (Owned Shared (machine 0)) nowhere (set all_idle c (record { status = st; lost = true })) (wire_of []))

abbrev Tested : List Bound → Type 0
Tested bs = (all (λ (b : Bound). well_formed b.within) bs ≡ true) × (any (λ (b : Bound). well_formed b.outside) bs ≡ false)

pub bounds_tested : Tested of_locks × Tested of_preferences × Tested of_slots × Tested of_carried × Tested of_messages × Tested of_wires × Tested of_notes
unfolding well_formed lock_formed wire_formed packet_formed message_formed slot_formed agent_formed is_blank_agent is_blank_packet is_blank_waiter
    queue_formed distinct
    client_formed shaped padded queue_of no_agent blank_packet wire_of fresh_lock
bounds_tested = ((refl, refl), (refl, refl), (refl, refl), (refl, refl), (refl, refl), (refl, refl), (refl, refl))
