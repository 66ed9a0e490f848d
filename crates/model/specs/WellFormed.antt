-- Which states are well formed (document 01, "What stands on the bench"). What a declared type rules out needs no test: a decider that is free and has
-- a machine, a request that is neither exclusive nor shared. An incarnation is a u8 in code, so below 256, and so is a packet's count; in these
-- definitions they are numbers, and nothing here bounds them.
use Rattle.std.specs.Prelude.{Bool, true, false, ◌&&◌, ◌||◌, not, List, [], ◌∷◌, ℕ, length, take, drop, eqb, leb, ltb}
use Rattle.model.specs.Lists.{any, all}
use Rattle.model.specs.Names.{MachineId, ClientId, Owner, Unowned, Owned, Decider, Waiter, Queue, Agent, AgentSlot, Address, ToDecider, ToMachine}
use Rattle.model.specs.Names.{Message, Free, Acquire, Grant, Release, Packet, Wire, ClientState, LockState, Cluster}
use Rattle.model.specs.States.{locks, machines, clients, queue_capacity, wire_capacity, is_shared, is_waiting, preferences, prefers_writers}

-- numbers that are some machine's, some client's
abbrev pub machine_in_range : MachineId → Bool
machine_in_range k = ltb k.0 machines

abbrev pub client_in_range : ClientId → Bool
client_in_range c = ltb c.0 clients

abbrev pub owner_in_range : Owner → Bool
owner_in_range Unowned = true
owner_in_range (Owned m k) = machine_in_range k

-- A decider that knows of a writer is one of a cluster that prefers writers; n is the cluster's preference.
abbrev pub decider_formed : ℕ → Decider → Bool
decider_formed n d = owner_in_range d.owner && (not d.writer || prefers_writers n)

abbrev pub address_in_range : Address → Bool
address_in_range ToDecider = true
address_in_range (ToMachine k) = machine_in_range k

-- Of the n slots of an array the first len are in use, and the others are blank.
module _ {A : Type 0} where
  unfoldable pub shaped : ℕ → (A → Bool) → List A → ℕ → Bool
  shaped n blank slots len = eqb (length slots) n && (leb len n && all blank (drop len slots))

unfoldable pub is_blank_waiter : Waiter → Bool
is_blank_waiter w = eqb w.client.0 0 && not (is_shared w.mode)

-- A client stands in a queue once at most.
abbrev pub is_client : ClientId → Waiter → Bool
is_client c w = eqb w.client.0 c.0

unfoldable pub distinct : List Waiter → Bool
distinct [] = true
distinct (w ∷ ws) = not (any (is_client w.client) ws) && distinct ws

abbrev pub waiter_in_range : Waiter → Bool
waiter_in_range w = client_in_range w.client

unfoldable pub queue_formed : Queue → Bool
queue_formed q =
    shaped queue_capacity is_blank_waiter q.slots q.len && (all waiter_in_range (take q.len q.slots) && distinct (take q.len q.slots))

-- An agent has a flag for each client, and a queue.
unfoldable pub agent_formed : Agent → Bool
agent_formed a = eqb (length a.holders) clients && queue_formed a.queue

unfoldable pub is_blank_agent : Agent → Bool
is_blank_agent a =
    not (is_shared a.mode)
    && (eqb (length a.holders) clients
    && (all not a.holders && (shaped queue_capacity is_blank_waiter a.queue.slots 0 && (eqb a.queue.len 0 && eqb a.incarnation 0))))

-- Where there is no agent, its slot is blank.
abbrev pub slot_by : Bool → Agent → Bool
slot_by true a = agent_formed a
slot_by false a = is_blank_agent a

unfoldable pub slot_formed : AgentSlot → Bool
slot_formed s = slot_by s.present s.agent

-- Requests and releases travel without agent, a FREE with one, a GRANT with or without. Only what has an agent can be rejected, and it then goes
-- to a machine; a FREE goes to a machine in no other way. The arguments: carries an agent, rejected, address.
abbrev pub to_decider : Address → Bool
to_decider ToDecider = true
to_decider (ToMachine k) = false

unfoldable pub message_formed : Message → Bool → Bool → Address → Bool
message_formed (Acquire c m g) carries rejected t = client_in_range c && (not carries && not rejected)
message_formed (Release c) carries rejected t = client_in_range c && (not carries && not rejected)
message_formed (Grant c m) carries rejected t = client_in_range c && (not rejected || (carries && not (to_decider t)))
message_formed Free carries true t = carries && not (to_decider t)
message_formed Free carries false t = carries && to_decider t

-- A machine sends requests and releases back, and nothing else: so nothing else has circled (request 7 of document 02).
abbrev pub circled_formed : Message → ℕ → Bool
circled_formed (Acquire c m g) n = true
circled_formed (Release c) n = true
circled_formed (Grant c m) n = eqb n 0
circled_formed Free n = eqb n 0

unfoldable pub packet_formed : Packet → Bool
packet_formed p =
    message_formed p.message p.carried.present p.rejected p.to
    && (circled_formed p.message p.circled && (address_in_range p.to && slot_formed p.carried))

abbrev pub is_free : Message → Bool
is_free Free = true
is_free (Acquire c m g) = false
is_free (Grant c m) = false
is_free (Release c) = false

unfoldable pub is_blank_packet : Packet → Bool
is_blank_packet p =
    is_free p.message
    && (to_decider p.to && (not p.rejected && (eqb p.circled 0 && (not p.carried.present && is_blank_agent p.carried.agent))))

-- A wire and its packets.
unfoldable pub wire_formed : Wire → Bool
wire_formed w = shaped wire_capacity is_blank_packet w.slots w.len && all packet_formed (take w.len w.slots)

-- Only who waits has the note of a lost GRANT.
unfoldable pub client_formed : ClientState → Bool
client_formed x = not x.lost || is_waiting x.status

-- A lock's state: every part of it, and as many agents and statuses as there are machines and clients.
unfoldable pub lock_formed : ℕ → LockState → Bool
lock_formed n s =
    decider_formed n s.decider
    && (eqb (length s.agents) machines
    && (all slot_formed s.agents && (eqb (length s.clients) clients && (all client_formed s.clients && wire_formed s.wire))))

unfoldable pub well_formed : Cluster → Bool
well_formed x = ltb x.preference preferences && (eqb (length x.locks) locks && all (lock_formed x.preference) x.locks)
