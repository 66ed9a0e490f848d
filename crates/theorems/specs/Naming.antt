-- The packet for which an acquire is refused with 6 (request 6 of document 02), on any cluster.
use Rattle.std.specs.Prelude.{◌≡◌, ◌∷◌, ◌+◌, Ok}
use Rattle.model.specs.Refusals.{Cause, ◌when◌, first}
use Rattle.laws.specs.Tests.{pick_by}
use Rattle.laws.specs.Lists.{at_any}
use Rattle.laws.specs.Finding.{first_is}
use Rattle.laws.specs.CallSteps.{Allowed, may_acquire, settled_answer, passes}
use Rattle.theorems.specs.Names.{LockId, MachineId, TaskId, ClientId, Packet, LockState, Cluster, AcquireCall, Refusal, Malformed, LockRange}
use Rattle.theorems.specs.Names.{MachineRange, TaskRange, ModeRange, NotIdle, StillNamed, Answer, Accepted, Refused, Stepped, Found, Nowhere, At}
use Rattle.theorems.specs.Names.{refl, sym, ◌∙◌, Bool, true, false, true≢false, List, [], ℕ, arith, length, eqb, eqb-false, leb, any}
use Rattle.theorems.specs.Names.{IsFirst, wire_capacity, client_of, lock_in, packets, Verdict, cannot_place, does, finish, names, acquire_step, unless}
use Rattle.theorems.specs.Names.{acquire, perform, refusal_number, number}
use Rattle.theorems.specs.Theorems.{numbered}
use Rattle.theorems.specs.Statements.{is_found, NamedBy, StillNamedBy}

-- ---- a number that the first cause does not have is that of the rest
next_cause : (r : Refusal) (b : Bool) (cs : List Cause) → eqb (refusal_number r) 6 ≡ false → number (first ((r when b) ∷ cs)) ≡ 6 → number (first cs) ≡ 6
unfolding first
next_cause r true cs n e = absurd (eqb-false (refusal_number r) 6 n e)
next_cause r false cs n e = e

last_cause : (b : Bool) → number (first ((StillNamed when b) ∷ [])) ≡ 6 → b ≡ true
unfolding first
last_cause true e = refl
last_cause false e = absurd (omega (arith, e))

-- and no step is answered 6 by its rule or the wire
finish_number : (k : MachineId) (c : ClientId) (w : Verdict) (rest : List Packet) (s : LockState) → number (finish k c w rest s).answer ≡ 6 → ⊥
unfolding finish
finish_number k c cannot_place rest s e = omega (arith, e)
finish_number k c (does v qs) rest s e =
    pick_by (λ (t : Stepped). number t.answer ≡ 6 → ⊥) (leb (length rest + length qs) wire_capacity) (λ q z. omega (arith, z)) (λ q z. omega (arith, z)) e

by_tests : (a : Answer) (x : Cluster) (l : LockId) (t : Stepped) → (number t.answer ≡ 6 → ⊥) → number (unless a x l t).answer ≡ 6 → number a ≡ 6
unfolding unless
by_tests (Ok tt) x l t n e = absurd (n (rw (settled_answer t.answer x l t) at e))
by_tests (Refused r) x l t n e = e

module _ (x : Cluster) (l : LockId) (k : MachineId) (t : TaskId) where
  abbrev named : Bool
  named = any (names (client_of k t)) (packets (lock_in x l).wire)

  refused_named : (m : ℕ) → number (acquire x l k t m).answer ≡ 6 → named ≡ true
  unfolding acquire acquire_step
  refused_named m e =
      let tests = by_tests _ x l _ (finish_number _ _ _ (packets (lock_in x l).wire) (lock_in x l)) e in
      let ranges = next_cause TaskRange _ _ refl (next_cause MachineRange _ _ refl (next_cause LockRange _ _ refl (next_cause Malformed _ _ refl tests))) in
      last_cause _ (next_cause NotIdle _ _ refl (next_cause ModeRange _ _ refl ranges))

  accepted_unnamed : (m : ℕ) → number (acquire x l k t m).answer ≡ 0 → named ≡ false
  unfolding perform
  accepted_unnamed m e = go (passes (AcquireCall l k t m) x (numbered.accepts _ e)).allowed
    where
      go : Allowed (AcquireCall l k t m) (lock_in x l) → named ≡ false
      go (may_acquire kb tb mb id un) = un

  by_search : (f : Found) → IsFirst (names (client_of k t)) (packets (lock_in x l).wire) f → named ≡ is_found f
  by_search Nowhere h = h
  by_search (At i) h = at_any _ (packets (lock_in x l).wire) i h.0

found : (f : Found) → is_found f ≡ true → (i : ℕ) × (f ≡ At i)
found Nowhere e = absurd (true≢false (sym e))
found (At i) e = (i, refl)

not_found : (f : Found) → is_found f ≡ false → f ≡ Nowhere
not_found Nowhere e = refl
not_found (At i) e = absurd (true≢false e)

pub still_named_by : (x : Cluster) → StillNamedBy x
still_named_by x l k t f h =
    let p = names (client_of k t) in
    let ps = packets (lock_in x l).wire in
    let c = by_search x l k t f h in
    record {
      alone = λ g j. first_is p ps g j ∙ sym (first_is p ps f h);
      cause = c;
      refused = λ m e. found f (sym c ∙ refused_named x l k t m e);
      accepted = λ m e. not_found f (sym c ∙ accepted_unnamed x l k t m e);
    }
