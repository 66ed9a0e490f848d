-- The digest of bytes and the bytes of a cluster, as docs/random-runs.md lays them down.
use Rattle.std.specs.Prelude.{Bool, List, [], ◌∷◌, ◌++◌, ℕ, ◌+◌, ◌*◌, ◌%◌, Option, Some, None}
use Rattle.model.specs.declared.Owner.{Owner}
use Rattle.model.specs.declared.Owner.TheVariants.{Free as Unowned, Owned}
use Rattle.model.specs.declared.{Decider.Decider, Waiter.Waiter, Queue.Queue, Agent.Agent, AgentSlot.AgentSlot}
use Rattle.model.specs.declared.Mode.TheVariants.{Exclusive, Shared}
use Rattle.model.specs.declared.Address.{Address}
use Rattle.model.specs.declared.Address.TheVariants.{Decider as ToDecider, Machine as ToMachine}
use Rattle.model.specs.declared.Status.{Status}
use Rattle.model.specs.declared.Status.TheVariants.{Idle, Waiting, Holding}
use Rattle.model.specs.declared.Handling.{Handling}
use Rattle.model.specs.declared.Handling.TheVariants.{NoAgent, NotHolder, Taken}
use Rattle.model.specs.Names.{Found, Nowhere, At}
use Rattle.model.specs.declared.{Packet.Packet, Wire.Wire, ClientState.ClientState, LockState.LockState, Cluster.Cluster}
use Rattle.model.specs.Lists.{pick}
use Rattle.model.specs.States.{mode_number, waiters, packets}
use Rattle.model.specs.History.{message_numbers}

-- the digest h goes on over bytes
unfoldable pub digest_of : ℕ → List ℕ → ℕ
digest_of h [] = h
digest_of h (b ∷ bs) = digest_of ((h * 65599 + b + 1) % 4294967291) bs

-- the bytes of each of a list, one after the other
unfoldable pub each : {A : Type 0} → (A → List ℕ) → List A → List ℕ
each f [] = []
each f (x ∷ xs) = f x ++ each f xs

abbrev pub flag_number : Bool → ℕ
flag_number b = pick b 1 0

abbrev pub flag_bytes : Bool → List ℕ
flag_bytes b = flag_number b ∷ []

-- item 1
abbrev pub owner_bytes : Owner → List ℕ
owner_bytes Unowned = 0 ∷ 0 ∷ []
owner_bytes (Owned m k) = mode_number m ∷ k.0 ∷ []

unfoldable pub decider_bytes : Decider → List ℕ
decider_bytes d = owner_bytes d.owner ++ (d.incarnation ∷ flag_number d.writer ∷ [])

-- item 2; a queue's waiters are at most as many as its slots, whatever its length says, and so are a wire's packets
unfoldable pub waiter_bytes : Waiter → List ℕ
waiter_bytes w = w.client.0 ∷ mode_number w.mode ∷ []

unfoldable pub queue_bytes : Queue → List ℕ
queue_bytes q = q.len ∷ each waiter_bytes (waiters q)

unfoldable pub agent_bytes : Agent → List ℕ
agent_bytes a = mode_number a.mode ∷ a.incarnation ∷ (each flag_bytes a.holders ++ queue_bytes a.queue)

unfoldable pub slot_bytes : AgentSlot → List ℕ
slot_bytes x = pick x.present (1 ∷ agent_bytes x.agent) (0 ∷ [])

-- item 3: status, note
abbrev pub status_number : Status → ℕ
status_number Idle = 0
status_number (Waiting m) = mode_number m
status_number (Holding Exclusive) = 6
status_number (Holding Shared) = 7

unfoldable pub client_bytes : ClientState → List ℕ
client_bytes c = status_number c.status ∷ flag_number c.lost ∷ []

-- item 4: the message's numbers; address; rejected, count; agent slot
abbrev pub address_bytes : Address → List ℕ
address_bytes ToDecider = 0 ∷ 0 ∷ []
address_bytes (ToMachine k) = 1 ∷ k.0 ∷ []

unfoldable pub packet_bytes : Packet → List ℕ
packet_bytes p = message_numbers p.message ++ (address_bytes p.to ++ (flag_number p.rejected ∷ p.circled ∷ slot_bytes p.carried))

unfoldable pub wire_bytes : Wire → List ℕ
wire_bytes w = w.len ∷ each packet_bytes (packets w)

unfoldable pub lock_bytes : LockState → List ℕ
lock_bytes s = decider_bytes s.decider ++ (each slot_bytes s.agents ++ (each client_bytes s.clients ++ wire_bytes s.wire))

unfoldable pub cluster_bytes : Cluster → List ℕ
cluster_bytes x = x.preference ∷ each lock_bytes x.locks

-- a handling, as 'A step' writes it
abbrev pub handling_number : Option Handling → ℕ
handling_number None = 0
handling_number (Some NoAgent) = 1
handling_number (Some NotHolder) = 2
handling_number (Some Taken) = 3

-- and what a search of a wire comes to
abbrev pub found_bytes : Found → List ℕ
found_bytes Nowhere = 0 ∷ []
found_bytes (At i) = 1 ∷ i ∷ []
