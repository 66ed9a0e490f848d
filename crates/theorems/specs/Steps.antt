-- Every step that a call makes is accepted and keeps the invariant: no refusal 9, no refusal 10.
use Rattle.std.specs.Prelude.{◌≡◌, ◌∷◌, ◌++◌, ◌+◌, ◌<◌}
use Rattle.theorems.specs.Names.{MachineId, ClientId, Mode, Address, ToDecider, ToMachine, Packet, Idle, Holding, LockState, Accepted, Stepped}
use Rattle.theorems.specs.Names.{refl, ap, true, false, List, [], ℕ, arith, length, length-append, leb, ltb-true, le-leb, any}
use Rattle.theorems.specs.Names.{removed, agent_on, status_of, blank_packet, packets, Site, site_of, Verdict, cannot_place, does, apply, finish, at_decider}
use Rattle.theorems.specs.Names.{at_machine, names, machine_at, client_named, packet_at, delivers, acquire_step, release_step, takes, deliver_step, packets_of}
use Rattle.theorems.specs.Names.{machines, clients, wire_capacity, Bool, pick, resent, Message, Grant, Acquire, Release, Free, Waiting, give_up_step}
use Rattle.theorems.specs.Names.{lose_step, drops, can_be_lost, grant_is_lost, in_parts, false≢true, sym, ◌∙◌, and-false, not}
use Rattle.theorems.specs.Tally.{tally_at}
use Rattle.theorems.specs.Weights.{far_m, far_a, far_p}
use Rattle.theorems.specs.Invariant.{Inv}
use Rattle.theorems.specs.InvariantStep.{Split, split_at}
use Rattle.theorems.specs.Facts.{fit, wire_bound}
use Rattle.theorems.specs.Sent.{Good}
use Rattle.theorems.specs.AtDecider.{good_decides}
use Rattle.theorems.specs.AtMachine.{good_arrives, keep_lost}
use Rattle.theorems.specs.Clients.{names_none, good_client_acquires, good_client_releases, good_client_gives_up}

-- what the delivery of a packet comes to
abbrev pub verdict : ℕ → LockState → Packet → Verdict
verdict pref r p = delivers p.to (site_of pref r (machine_at p.to) (client_named p.message)) p

good_delivers : (pref : ℕ) (r : LockState) (rest : List Packet) (i : Inv r) (p : Packet) (t : Address) → far_a t ≡ 0
    → Split r (resent p t p.rejected ∷ []) rest
    → Good r (machine_at t) (client_named p.message) rest (verdict pref r (resent p t p.rejected))
unfolding delivers at_decider at_machine far_m
good_delivers pref r rest i p ToDecider e sp = good_decides pref r rest i _ _ (omega arith) p p.message r.decider.owner p.carried.present refl sp
good_delivers pref r rest i p (ToMachine k) e sp =
    good_arrives pref r rest i k (ltb-true k.0 machines (fit _ e)) _ p p.message (agent_on r k).present p.rejected p.carried.present refl sp

-- the packet at the index j
pub good_deliver : (pref : ℕ) (r : LockState) (i : Inv r) (j : ℕ) → j < length (packets r.wire)
    → Good r (machine_at (packet_at r j).to) (client_named (packet_at r j).message) (removed (packets r.wire) j) (verdict pref r (packet_at r j))
good_deliver pref r i j h =
    let p : Packet = packet_at r j in
    good_delivers pref r (removed (packets r.wire) j) i p p.to
    (omega (arith, i.reach, tally_at far_p blank_packet (packets r.wire) j h)) (split_at r j p h refl)

-- ---- from a good verdict to the step
pub record Sound (s : Stepped) : Type 0 where
  pub taken : s.answer ≡ Accepted
  pub inv : Inv s.state

-- a fact of the state after the step, from one of the site after it and the packets sent
abbrev pub Says : (Site → List Packet → Type 0) → Verdict → Type 0
Says P cannot_place = Unit {0}
Says P (does v qs) = P v qs

-- by a test, whatever it says
pub says_by : (P : Site → List Packet → Type 0) (b : Bool) (v w : Verdict) → Says P v → Says P w → Says P (pick b v w)
says_by P true v w f g = f
says_by P false v w f g = g

module _ (k : MachineId) (c : ClientId) where
  room_after : (v : Site) (qs rest : List Packet) (r : LockState) → Inv (apply k c v qs rest r) → leb (length rest + length qs) wire_capacity ≡ true
  room_after v qs rest r i =
      le-leb (length rest + length qs) wire_capacity
      (omega (arith, wire_bound (apply k c v qs rest r) i, ap length (packets_of (rest ++ qs)), length-append rest qs))

  pub kept_step : (P : Site → List Packet → Type 0) (Q : LockState → Type 0) (w : Verdict) (rest : List Packet) (r : LockState) → Good r k c rest w → Says P w
      → ((v : Site) (qs : List Packet) → P v qs → Inv (apply k c v qs rest r) → Q (apply k c v qs rest r)) → Q (finish k c w rest r).state
  unfolding finish
  kept_step P Q cannot_place rest r g p q = absurd g
  kept_step P Q (does v qs) rest r g p q = rw (room_after v qs rest r g.inv) (q v qs p g.inv)

  -- the same, where the invariant is not needed
  pub after_step : (P : Site → List Packet → Type 0) (Q : LockState → Type 0) (w : Verdict) (rest : List Packet) (r : LockState) → Good r k c rest w → Says P w
      → ((v : Site) (qs : List Packet) → P v qs → Q (apply k c v qs rest r)) → Q (finish k c w rest r).state
  after_step P Q w rest r g p q = kept_step P Q w rest r g p (λ v qs y i. q v qs y)

  sound : (w : Verdict) (rest : List Packet) (r : LockState) → Good r k c rest w → Sound (finish k c w rest r)
  unfolding finish
  sound cannot_place rest r g = absurd g
  sound (does v qs) rest r g = rw (room_after v qs rest r g.inv) (record { taken = refl; inv = g.inv })

pub sound_acquire : (pref : ℕ) (r : LockState) (i : Inv r) (c : ClientId) (m : Mode) → c.0 < clients → status_of r c ≡ Idle
    → any (names c) (packets r.wire) ≡ false
    → Sound (acquire_step pref r c m)
unfolding acquire_step
sound_acquire pref r i c m cl id u = sound _ _ _ (packets r.wire) r (good_client_acquires pref r i c cl id (names_none c (packets r.wire) u) m)

pub sound_release : (pref : ℕ) (r : LockState) (i : Inv r) (c : ClientId) (m : Mode) → c.0 < clients → status_of r c ≡ Holding m → Sound (release_step pref r c)
unfolding release_step
sound_release pref r i c m cl ho = sound _ _ _ (packets r.wire) r (good_client_releases pref r i c cl m ho)

pub sound_deliver : (pref : ℕ) (r : LockState) (i : Inv r) (j : ℕ) → j < length (packets r.wire) → Sound (deliver_step pref r j)
unfolding deliver_step takes
sound_deliver pref r i j h =
    let g = sound _ _ (verdict pref r (packet_at r j)) (removed (packets r.wire) j) r (good_deliver pref r i j h) in
    record { taken = g.taken; inv = g.inv }

pub sound_give_up : (pref : ℕ) (r : LockState) (i : Inv r) (c : ClientId) (m : Mode) → c.0 < clients → status_of r c ≡ Waiting m → Sound (give_up_step pref r c)
unfolding give_up_step
sound_give_up pref r i c m cl wa = sound _ _ _ (packets r.wire) r (good_client_gives_up pref r i c cl m wa)

-- a packet that can be lost
good_drops : (pref : ℕ) (r : LockState) (rest : List Packet) (i : Inv r) (p : Packet) (m : Message) (t : Address) (x : Bool) → far_a t ≡ 0
    → can_be_lost (in_parts m t p.rejected x p) ≡ true → Split r (in_parts m t p.rejected x p ∷ []) rest
    → Good r (machine_at t) (client_named m) rest (grant_is_lost (site_of pref r (machine_at t) (client_named m)))
unfolding can_be_lost far_m
good_drops pref r rest i p (Grant c n) (ToMachine k) false f e sp =
    keep_lost pref r rest i k (ltb-true k.0 machines (fit _ f)) c n p (ToMachine k) p.rejected sp
good_drops pref r rest i p (Grant c n) (ToMachine k) true f e sp = absurd (false≢true e)
good_drops pref r rest i p (Grant c n) ToDecider x f e sp = absurd (false≢true (sym (and-false (not x)) ∙ e))
good_drops pref r rest i p (Acquire c n g) t x f e sp = absurd (false≢true e)
good_drops pref r rest i p (Release c) t x f e sp = absurd (false≢true e)
good_drops pref r rest i p Free t x f e sp = absurd (false≢true e)

pub good_lose : (pref : ℕ) (r : LockState) (i : Inv r) (j : ℕ) → j < length (packets r.wire) → can_be_lost (packet_at r j) ≡ true
    → Good r (machine_at (packet_at r j).to) (client_named (packet_at r j).message) (removed (packets r.wire) j)
    (grant_is_lost (site_of pref r (machine_at (packet_at r j).to) (client_named (packet_at r j).message)))
good_lose pref r i j h e =
    let p : Packet = packet_at r j in
    good_drops pref r (removed (packets r.wire) j) i p p.message p.to p.carried.present
    (omega (arith, i.reach, tally_at far_p blank_packet (packets r.wire) j h)) e (split_at r j p h refl)

pub sound_lose : (pref : ℕ) (r : LockState) (i : Inv r) (j : ℕ) → j < length (packets r.wire) → can_be_lost (packet_at r j) ≡ true → Sound (lose_step pref r j)
unfolding lose_step drops
sound_lose pref r i j h e = sound _ _ _ (removed (packets r.wire) j) r (good_lose pref r i j h e)
