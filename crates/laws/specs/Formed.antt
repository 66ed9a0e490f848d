-- What a well-formed state gives: wires and queues in their one form, blanks that are the blank values.
use Rattle.std.specs.Prelude.{◌≡◌, refl, Bool, true, false, ◌&&◌, not, List, ℕ, ◌-◌, ◌<◌, ◌≤◌, length, take, drop, get_or, replicate, eqb, leb, ltb}
use Rattle.std.proofs.lemmas.Bool.{false≢true, not-true}
use Rattle.std.proofs.Common.{arith, length-drop, take-append-drop, length-take-le, eqb-true, leb-true}
use Rattle.model.specs.Lists.{all, padded}
use Rattle.laws.specs.Names.{LockId, MachineId, Mode, Exclusive, Shared, Address, ToDecider, ToMachine, Message, Free, Acquire, Grant, Release, Waiter}
use Rattle.laws.specs.Names.{Queue, Agent, AgentSlot, Packet, Wire, LockState, Cluster}
use Rattle.model.specs.States.{blank_packet, blank_waiter, packets, agent_on, no_agent, new_agent, queue_of, no_holders, is_shared, fresh_lock, lock_in, locks}
use Rattle.model.specs.States.{machines, idle, clients, queue_capacity, wire_capacity, preferences}
use Rattle.model.specs.WellFormed.{shaped, is_blank_waiter, distinct, queue_formed, agent_formed, is_blank_agent, slot_by, slot_formed, is_free, to_decider}
use Rattle.model.specs.WellFormed.{is_blank_packet, message_formed, circled_formed, address_in_range, packet_formed, wire_formed, decider_formed, client_formed}
use Rattle.model.specs.WellFormed.{lock_formed, well_formed}
use Rattle.model.specs.Calls.{packet_at}
use Rattle.laws.specs.Tests.{and_left, and_right}
use Rattle.laws.specs.Lists.{get_d_any, all_at, all_get_d, all_same, Canonical}
use Rattle.laws.specs.Shapes.{CanonicalWire, CanonicalQueue}

pub record Ready (s : LockState) : Type 0 where
  pub wire : CanonicalWire s.wire
  pub agents : (k : MachineId) → CanonicalQueue (agent_on s k).agent.queue
  pub carried : (i : ℕ) → i < length (packets s.wire) → CanonicalQueue (get_or (packets s.wire) i blank_packet).carried.agent.queue

exclusive_of : (m : Mode) → not (is_shared m) ≡ true → m ≡ Exclusive
exclusive_of Exclusive e = refl
exclusive_of Shared e = absurd (false≢true e)

free_of : (m : Message) → is_free m ≡ true → m ≡ Free
free_of Free e = refl
free_of (Acquire c n g) e = absurd (false≢true e)
free_of (Grant c n) e = absurd (false≢true e)
free_of (Release c) e = absurd (false≢true e)

decider_of : (t : Address) → to_decider t ≡ true → t ≡ ToDecider
decider_of ToDecider e = refl
decider_of (ToMachine k) e = absurd (false≢true e)

pub shaped_canonical : {A : Type 0} (n : ℕ) (p : A → Bool) (z : A) → ((x : A) → p x ≡ true → x ≡ z) → (slots : List A) (len : ℕ)
    → shaped n p slots len ≡ true → Canonical n z slots len
unfolding shaped padded
shaped_canonical n p z f slots len e =
    let a : length slots ≡ n = eqb-true (length slots) n (and_left _ _ e) in
    let e2 : (leb len n && all p (drop len slots)) ≡ true = and_right (eqb (length slots) n) _ e in
    let b : len ≤ n = leb-true len n (and_left _ _ e2) in
    let c : all p (drop len slots) ≡ true = and_right (leb len n) _ e2 in
    let l : length (take len slots) ≡ len = length-take-le len slots (omega arith) in
    let m : length (drop len slots) ≡ n - length (take len slots) = omega (arith, length-drop len slots) in
    let d : drop len slots ≡ replicate (n - length (take len slots)) z = rw m at (all_same p z f (drop len slots) c) in
    record { shape = rw (← d, take-append-drop); size = l; short = b }

pub waiter_blank : (w : Waiter) → is_blank_waiter w ≡ true → w ≡ blank_waiter
unfolding is_blank_waiter
waiter_blank w e = rw (eqb-true w.client.0 0 (and_left _ _ e), exclusive_of w.mode (and_right (eqb w.client.0 0) _ e))

pub queue_canonical : (q : Queue) → queue_formed q ≡ true → CanonicalQueue q
unfolding queue_formed
queue_canonical q e = shaped_canonical queue_capacity is_blank_waiter blank_waiter waiter_blank q.slots q.len (and_left _ _ e)

pub agent_blank : (a : Agent) → is_blank_agent a ≡ true → a ≡ new_agent Exclusive
unfolding is_blank_agent queue_of
agent_blank a e =
    let e1 = and_right (not (is_shared a.mode)) _ e in
    let e2 = and_right (eqb (length a.holders) clients) _ e1 in
    let e3 = and_right (all not a.holders) _ e2 in
    let e4 = and_right (shaped queue_capacity is_blank_waiter a.queue.slots 0) _ e3 in
    let m : a.mode ≡ Exclusive = exclusive_of a.mode (and_left _ _ e) in
    let n : length a.holders ≡ clients = eqb-true (length a.holders) clients (and_left _ _ e1) in
    let h : a.holders ≡ no_holders = rw n at (all_same not false not-true a.holders (and_left _ _ e2)) in
    let q = shaped_canonical queue_capacity is_blank_waiter blank_waiter waiter_blank a.queue.slots 0 (and_left _ _ e3) in
    let l : a.queue.len ≡ 0 = eqb-true a.queue.len 0 (and_left _ _ e4) in
    let i : a.incarnation ≡ 0 = eqb-true a.incarnation 0 (and_right (eqb a.queue.len 0) _ e4) in
    rw (m, h, q.shape, l, i)

pub packet_blank : (p : Packet) → is_blank_packet p ≡ true → p ≡ blank_packet
unfolding is_blank_packet blank_packet no_agent
packet_blank p e =
    let e1 = and_right (is_free p.message) _ e in
    let e2 = and_right (to_decider p.to) _ e1 in
    let e3 = and_right (not p.rejected) _ e2 in
    let e4 = and_right (eqb p.circled 0) _ e3 in
    let m : p.message ≡ Free = free_of p.message (and_left _ _ e) in
    let t : p.to ≡ ToDecider = decider_of p.to (and_left _ _ e1) in
    let r : p.rejected ≡ false = not-true p.rejected (and_left _ _ e2) in
    let n : p.circled ≡ 0 = eqb-true p.circled 0 (and_left _ _ e3) in
    let c : p.carried.present ≡ false = not-true p.carried.present (and_left _ _ e4) in
    let a : p.carried.agent ≡ new_agent Exclusive = agent_blank p.carried.agent (and_right (not p.carried.present) _ e4) in
    rw (m, t, r, n, c, a)

pub wire_canonical : (w : Wire) → wire_formed w ≡ true → CanonicalWire w
unfolding wire_formed
wire_canonical w e = shaped_canonical wire_capacity is_blank_packet blank_packet packet_blank w.slots w.len (and_left _ _ e)

-- ---- an agent of a well-formed slot, a blank one too
pub record Fit (a : Agent) : Type 0 where
  pub all_clients : length a.holders ≡ clients
  pub queue : queue_formed a.queue ≡ true

pub new_fit : (m : Mode) → Fit (new_agent m)
unfolding queue_formed queue_of shaped padded is_blank_waiter distinct
new_fit m = record { all_clients = refl; queue = refl }

pub fit : (x : AgentSlot) → slot_formed x ≡ true → Fit x.agent
unfolding slot_formed agent_formed
fit x e = go x.present e
  where
    go : (b : Bool) → slot_by b x.agent ≡ true → Fit x.agent
    go true e = record { all_clients = eqb-true _ clients (and_left _ _ e); queue = and_right (eqb (length x.agent.holders) clients) _ e }
    go false e = rw (agent_blank x.agent e) (new_fit Exclusive)

pub slot_canonical : (x : AgentSlot) → slot_formed x ≡ true → CanonicalQueue x.agent.queue
slot_canonical x e = queue_canonical x.agent.queue (fit x e).queue

pub no_agent_formed : slot_formed no_agent ≡ true
unfolding slot_formed no_agent is_blank_agent queue_of shaped padded is_blank_waiter
no_agent_formed = refl

-- The packet p with these four parts, so that a proof can match on each: with its own message, address, rejected and present it is p.
abbrev pub slot_in : Bool → Packet → AgentSlot
slot_in x p = record { present = x; agent = p.carried.agent }

abbrev pub in_parts : Message → Address → Bool → Bool → Packet → Packet
in_parts m t b x p = record { message = m; to = t; rejected = b; circled = p.circled; carried = slot_in x p }

-- ---- the parts of a well-formed packet
pub record Whole (p : Packet) : Type 0 where
  pub message : message_formed p.message p.carried.present p.rejected p.to ≡ true
  pub circled : circled_formed p.message p.circled ≡ true
  pub address : address_in_range p.to ≡ true
  pub carried : slot_formed p.carried ≡ true

pub whole_packet : (p : Packet) → packet_formed p ≡ true → Whole p
unfolding packet_formed
whole_packet p e =
    let e1 = and_right (message_formed p.message p.carried.present p.rejected p.to) _ e in
    let e2 = and_right (circled_formed p.message p.circled) _ e1 in
    record { message = and_left _ _ e; circled = and_left _ _ e1; address = and_left _ _ e2; carried = and_right (address_in_range p.to) _ e2 }

-- ---- the parts of a well-formed lock
pub record Parts (n : ℕ) (s : LockState) : Type 0 where
  pub decider : decider_formed n s.decider ≡ true
  pub all_machines : length s.agents ≡ machines
  pub agents : all slot_formed s.agents ≡ true
  pub all_clients : length s.clients ≡ clients
  pub clients : all client_formed s.clients ≡ true
  pub wire : wire_formed s.wire ≡ true
  pub packets : all packet_formed (packets s.wire) ≡ true

pub parts : {n : ℕ} (s : LockState) → lock_formed n s ≡ true → Parts n s
unfolding lock_formed wire_formed packets
parts {n} s e =
    let e1 = and_right (decider_formed n s.decider) _ e in
    let e2 = and_right (eqb (length s.agents) machines) _ e1 in
    let e3 = and_right (all slot_formed s.agents) _ e2 in
    let e4 = and_right (eqb (length s.clients) clients) _ e3 in
    let w : wire_formed s.wire ≡ true = and_right (all client_formed s.clients) _ e4 in
    record {
      decider = and_left (decider_formed n s.decider) _ e;
      all_machines = eqb-true (length s.agents) machines (and_left _ _ e1);
      agents = and_left _ _ e2;
      all_clients = eqb-true (length s.clients) clients (and_left _ _ e3);
      clients = and_left _ _ e4;
      wire = w;
      packets = and_right (shaped wire_capacity is_blank_packet s.wire.slots s.wire.len) _ w;
    }

pub agent_on_lem : {n : ℕ} {s : LockState} → Parts n s → (k : MachineId) → slot_formed (agent_on s k) ≡ true
agent_on_lem {s = s} p k = all_get_d slot_formed s.agents k.0 no_agent p.agents no_agent_formed

-- past the last, a client is idle and has no note
pub client_of_lem : {n : ℕ} {s : LockState} → Parts n s → (d : ℕ) → client_formed (get_or s.clients d idle) ≡ true
unfolding client_formed
client_of_lem {s = s} p d = all_get_d client_formed s.clients d idle p.clients refl

pub packet_at_lem : {n : ℕ} {s : LockState} → Parts n s → (i : ℕ) → i < length (packets s.wire) → Whole (packet_at s i)
packet_at_lem {s = s} p i h = whole_packet (packet_at s i) (all_at packet_formed (packets s.wire) i blank_packet p.packets h)

pub ready : (n : ℕ) (s : LockState) → lock_formed n s ≡ true → Ready s
ready n s e =
    let p = parts s e in
    record {
      wire = wire_canonical s.wire p.wire;
      agents = λ k. slot_canonical (agent_on s k) (agent_on_lem p k);
      carried = λ i h. slot_canonical (packet_at s i).carried (packet_at_lem p i h).carried;
    }

-- ---- the parts of a well-formed cluster
pub record Cells (x : Cluster) : Type 0 where
  pub preference : ltb x.preference preferences ≡ true
  pub all_locks : length x.locks ≡ locks
  pub locks : all (lock_formed x.preference) x.locks ≡ true

pub cells : (x : Cluster) → well_formed x ≡ true → Cells x
unfolding well_formed
cells x w =
    let e = and_right (ltb x.preference preferences) _ w in
    record {
      preference = and_left _ _ w;
      all_locks = eqb-true _ locks (and_left (eqb (length x.locks) locks) _ e);
      locks = and_right (eqb (length x.locks) locks) _ e;
    }

pub lock_formed_lem : (x : Cluster) (l : LockId) → well_formed x ≡ true → l.0 < locks → lock_formed x.preference (lock_in x l) ≡ true
lock_formed_lem x l w h = all_at (lock_formed x.preference) x.locks l.0 fresh_lock (cells x w).locks (omega (arith, (cells x w).all_locks))

-- the lock's state as code reads it, with any default
pub lock_read : (x : Cluster) (l : LockId) (d : LockState) → well_formed x ≡ true → l.0 < locks → get_or x.locks l.0 d ≡ lock_in x l
lock_read x l d e h = get_d_any x.locks l.0 d fresh_lock (omega (arith, (cells x e).all_locks, h))

pub read_formed : (x : Cluster) (l : LockId) (d : LockState) → well_formed x ≡ true → l.0 < locks → lock_formed x.preference (get_or x.locks l.0 d) ≡ true
read_formed x l d e h = rw (lock_read x l d e h) (lock_formed_lem x l e h)
