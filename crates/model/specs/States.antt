-- The state of the simulated cluster (document 01, "What stands on the bench").
use Rattle.std.specs.Prelude.{Bool, true, false, List, [], ℕ, ◌+◌, ◌*◌, ◌/◌, length, take, get_or, replicate, eqb}
use Rattle.model.specs.Lists.{pick, padded}
use Rattle.model.specs.Names.{LockId, MachineId, TaskId, ClientId, Mode, Exclusive, Shared, Unowned, Decider, Waiter, Queue, Agent, AgentSlot, Address}
use Rattle.model.specs.Names.{ToDecider, Message, Free, Packet, Wire, Status, Idle, Waiting, Holding, ClientState, LockState, Cluster}

-- How many there are of each. All are numbered from 0.
abbrev pub locks : ℕ
locks = 8

abbrev pub machines : ℕ
machines = 4

abbrev pub tasks : ℕ
tasks = 4

abbrev pub clients : ℕ
clients = machines * tasks

-- A client is a task of a machine. The clients of a machine have numbers in a row.
abbrev pub client_of : MachineId → TaskId → ClientId
client_of k t = record { 0 = tasks * k.0 + t.0 }

abbrev pub machine_of : ClientId → MachineId
machine_of c = record { 0 = c.0 / tasks }

-- The modes by their numbers in Figure 6 of the source. Its third, free with number 0, is a decider's alone: here it is a lock without owner.
abbrev pub mode_number : Mode → ℕ
mode_number Exclusive = 2
mode_number Shared = 3

-- the mode of a number that is 2 or 3
abbrev pub mode_of : ℕ → Mode
mode_of n = pick (eqb n 2) Exclusive Shared

abbrev pub is_shared : Mode → Bool
is_shared Exclusive = false
is_shared Shared = true

-- A queue: the waiters stand in the first slots of an array, the other slots are blank.
abbrev pub queue_capacity : ℕ
queue_capacity = 16

abbrev pub blank_waiter : Waiter
blank_waiter = record { client = record { 0 = 0 }; mode = Exclusive }

unfoldable pub queue_of : List Waiter → Queue
queue_of ws = record { slots = padded queue_capacity blank_waiter ws; len = length ws }

unfoldable pub waiters : Queue → List Waiter
waiters q = take q.len q.slots

-- A machine has an agent or none. A new agent lists nobody and nobody waits for it.
abbrev pub no_holders : List Bool
no_holders = replicate clients false

abbrev pub new_agent : Mode → Agent
new_agent m = record { mode = m; holders = no_holders; queue = queue_of []; incarnation = 0 }

abbrev pub some_agent : Agent → AgentSlot
some_agent a = record { present = true; agent = a }

unfoldable pub no_agent : AgentSlot
no_agent = record { present = false; agent = new_agent Exclusive }

abbrev pub agent_on : LockState → MachineId → AgentSlot
agent_on s k = get_or s.agents k.0 no_agent

-- the agent has the client among its holders
abbrev pub listed : Agent → ClientId → Bool
listed a c = get_or a.holders c.0 false

-- A client is idle, waits or holds, the last two in a mode. Who waits may have a note that its GRANT was lost (request 8 of document 02).
abbrev pub idle : ClientState
idle = record { status = Idle; lost = false }

abbrev pub status_of : LockState → ClientId → Status
status_of s c = (get_or s.clients c.0 idle).status

abbrev pub note_of : LockState → ClientId → Bool
note_of s c = (get_or s.clients c.0 idle).lost

abbrev pub is_waiting : Status → Bool
is_waiting Idle = false
is_waiting (Waiting m) = true
is_waiting (Holding m) = false

-- The wire: the packets under way, in the first slots of an array, by age.
abbrev pub wire_capacity : ℕ
wire_capacity = 49

-- Packets are made in three ways: new and without agent; new, with the agent inside; and the same again, for another address, with
-- or without the mark of the rejected. A new one has not circled; the same again has, as often as before (request 7 of document 02).
abbrev pub plain : Message → Address → Packet
plain m t = record { message = m; to = t; rejected = false; circled = 0; carried = no_agent }

abbrev pub carrying : Message → Address → Agent → Packet
carrying m t a = record { message = m; to = t; rejected = false; circled = 0; carried = some_agent a }

abbrev pub resent : Packet → Address → Bool → Packet
resent p t b = record { message = p.message; to = t; rejected = b; circled = p.circled; carried = p.carried }

unfoldable pub blank_packet : Packet
blank_packet = plain Free ToDecider

unfoldable pub wire_of : List Packet → Wire
wire_of ps = record { slots = padded wire_capacity blank_packet ps; len = length ps }

unfoldable pub packets : Wire → List Packet
packets w = take w.len w.slots

-- A fresh cluster: nobody owns, holds or asks for a lock, and nothing is under way. Its preference is as given.
abbrev pub unowned : Decider
unowned = record { owner = Unowned; incarnation = 0; writer = false }

unfoldable pub fresh_lock : LockState
fresh_lock = record { decider = unowned; agents = replicate machines no_agent; clients = replicate clients idle; wire = wire_of [] }

unfoldable pub fresh_with : ℕ → Cluster
fresh_with n = record { preference = n; locks = replicate locks fresh_lock }

-- A cluster prefers readers, with the number 0, or writers, with 1 (request 5 of document 02; section 6 of the source).
abbrev pub preferences : ℕ
preferences = 2

abbrev pub prefers_writers : ℕ → Bool
prefers_writers n = eqb n 1

abbrev pub lock_in : Cluster → LockId → LockState
lock_in x l = get_or x.locks l.0 fresh_lock
