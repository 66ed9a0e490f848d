-- A wire and a queue in their one form: as good as the list that they hold.
use Rattle.std.specs.Prelude.{◌≡◌, List, ℕ, ◌<◌, ◌≤◌, length, take, get_or}
use Rattle.std.proofs.Common.{sym, ◌∙◌, arith, get_or-take}
use Rattle.laws.specs.Names.{Waiter, Queue, Packet, Wire}
use Rattle.model.specs.States.{blank_waiter, queue_of, waiters, blank_packet, wire_of, packets, queue_capacity, wire_capacity}
use Rattle.laws.specs.Lists.{get_d_any, Canonical, take_padded, canonical_padded}

abbrev pub CanonicalWire : Wire → Type 0
CanonicalWire w = Canonical wire_capacity blank_packet w.slots w.len

abbrev pub CanonicalQueue : Queue → Type 0
CanonicalQueue q = Canonical queue_capacity blank_waiter q.slots q.len

pub packets_of : (ps : List Packet) → packets (wire_of ps) ≡ ps
unfolding packets wire_of
packets_of ps = take_padded wire_capacity blank_packet ps

pub waiters_of : (ws : List Waiter) → waiters (queue_of ws) ≡ ws
unfolding waiters queue_of
waiters_of ws = take_padded queue_capacity blank_waiter ws

pub canonical_wire : (ps : List Packet) → length ps ≤ wire_capacity → CanonicalWire (wire_of ps)
unfolding wire_of
canonical_wire ps h = canonical_padded wire_capacity blank_packet ps h

pub canonical_queue : (ws : List Waiter) → length ws ≤ queue_capacity → CanonicalQueue (queue_of ws)
unfolding queue_of
canonical_queue ws h = canonical_padded queue_capacity blank_waiter ws h

pub length_packets : (w : Wire) → CanonicalWire w → length (packets w) ≡ w.len
unfolding packets
length_packets w h = h.size

pub length_waiters : (q : Queue) → CanonicalQueue q → length (waiters q) ≡ q.len
unfolding waiters
length_waiters q h = h.size

pub wire_whole : (w : Wire) → CanonicalWire w → w ≡ wire_of (packets w)
unfolding packets wire_of
wire_whole w h = rw (h.size, ← h.shape)

pub queue_whole : (q : Queue) → CanonicalQueue q → q ≡ queue_of (waiters q)
unfolding waiters queue_of
queue_whole q h = rw (h.size, ← h.shape)

pub packet_is : (w : Wire) (i : ℕ) (d : Packet) → CanonicalWire w → i < w.len → get_or w.slots i d ≡ get_or (packets w) i blank_packet
unfolding packets
packet_is w i d h k = sym (get_or-take w.len w.slots i d k) ∙ get_d_any (take w.len w.slots) i d blank_packet (omega (arith, h.size))

pub waiter_is : (q : Queue) (i : ℕ) (d : Waiter) → CanonicalQueue q → i < q.len → get_or q.slots i d ≡ get_or (waiters q) i blank_waiter
unfolding waiters
waiter_is q i d h k = sym (get_or-take q.len q.slots i d k) ∙ get_d_any (take q.len q.slots) i d blank_waiter (omega (arith, h.size))
