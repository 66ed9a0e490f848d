-- At most one client holds an exclusive lock.
use Rattle.std.specs.Prelude.{◌≡◌, ◌∷◌, ◌+◌, ◌≤◌}
use Rattle.theorems.specs.Names.{MachineId, Mode, Exclusive, Shared, Owner, Unowned, Owned, Agent, Address, ToDecider, ToMachine, Message, Free}
use Rattle.theorems.specs.Names.{Acquire, Grant, Release, Packet, Holding, LockState, refl, ap, Bool, true, false, not, List, [], ℕ, zero}
use Rattle.theorems.specs.Names.{suc, arith, get_or, eqb, ltb, leb-true, no_agent, packets, and_left, and_right, clients, machine_of}
use Rattle.theorems.specs.Tally.{flag, gate, tally, tally_any, tally_le_at, tally_none, tally_add}
use Rattle.theorems.specs.Weights.{status_at, slot_at, weight, same_mode, mark_m, listed_s, listed_p, agent_s, heads, hold_f, idle_f, clash, owned_mode}
use Rattle.theorems.specs.Weights.{owned_at}
use Rattle.theorems.specs.Weights.{few, misfit_s, fits_away, fits_free, fits, misfit_p}
use Rattle.theorems.specs.Invariant.{Inv}
use Rattle.theorems.specs.Facts.{fit, nobody, away_of, Home, home_of, owned_one}
use Rattle.theorems.specs.Sent.{no_marked}

two_flags : (hs : List Bool) (d e : ℕ) → (d ≡ e → ⊥) → flag (get_or hs d false) + flag (get_or hs e false) ≤ tally flag hs
unfolding tally
two_flags [] d e n = omega arith
two_flags (x ∷ xs) zero zero n = absurd (n refl)
two_flags (x ∷ xs) zero (suc e) n = omega (arith, tally_any flag false refl xs e)
two_flags (x ∷ xs) (suc d) zero n = omega (arith, tally_any flag false refl xs d)
two_flags (x ∷ xs) (suc d) (suc e) n = omega (arith, two_flags xs d e (λ q. n (ap suc q)))

-- a carried agent that fits lists nobody
pub carried_away : (o : Owner) (t : Address) (b : Bool) (a : Agent) (m : Message) → fits o true t b a m ≡ true → fits_away a ≡ true
unfolding fits fits_free
carried_away o t b a (Acquire c n g) e = let q : false ≡ true = and_right (ltb c.0 clients) false e in cc
carried_away o t b a (Release c) e = let q : false ≡ true = and_right (ltb c.0 clients) false e in cc
carried_away o ToDecider b a Free e = and_left (fits_away a) _ (and_right (owned_mode o a.mode) _ (and_right (not b) _ e))
carried_away o (ToMachine k) b a Free e = and_left (fits_away a) _ (and_right (owned_mode o a.mode) _ (and_right (owned_at o k.0) _ (and_right b _ e)))
carried_away o ToDecider b a (Grant c n) e = and_right (owned_mode o a.mode) _ (and_right (not b) _ (and_right (ltb c.0 clients) _ e))
carried_away o (ToMachine k) true a (Grant c n) e = and_right (owned_mode o a.mode) _ (and_right (owned_at o k.0) _ (and_right (ltb c.0 clients) _ e))
carried_away o (ToMachine k) false a (Grant c n) e =
    and_right (owned_mode o n) _ (and_right (eqb (machine_of c).0 k.0) _ (and_right (owned_at o k.0) _ (and_right (ltb c.0 clients) _ e)))

lists_carried : (o : Owner) (d : ℕ) (x : Bool) (t : Address) (b : Bool) (a : Agent) (m : Message) → fits o x t b a m ≡ true
    → gate x (flag (get_or a.holders d false)) ≡ 0
lists_carried o d true t b a m e = nobody a.holders d (away_of a (carried_away o t b a m e)).empty
lists_carried o d false t b a m e = refl

-- beside an exclusive lock nothing is marked
marks_exclusive : (k : MachineId) (d : ℕ) (x : Bool) (t : Address) (b : Bool) (a : Agent) (m : Message) → fits (Owned Exclusive k) x t b a m ≡ true
    → mark_m d m ≡ 0
marks_exclusive k d x t b a (Acquire c n true) e =
    let q : fits (Owned Exclusive k) x t b a (Acquire c n true) ≡ false = no_marked x t b a c n (Owned Exclusive k) refl in cc
marks_exclusive k d x t b a (Acquire c n false) e = unfold mark_m in refl
marks_exclusive k d x t b a (Grant c n) e = unfold mark_m in refl
marks_exclusive k d x t b a (Release c) e = unfold mark_m in refl
marks_exclusive k d x t b a Free e = unfold mark_m in refl

lists_none : (k : MachineId) (d : ℕ) (ps : List Packet) → tally (misfit_p (Owned Exclusive k)) ps ≡ 0 → tally (listed_p d) ps ≡ 0
unfolding misfit_p listed_s
lists_none k d =
    tally_none (misfit_p (Owned Exclusive k)) (listed_p d)
    (λ p e. let carried = lists_carried (Owned Exclusive k) d p.carried.present _ _ p.carried.agent _ (fit _ e) in
    omega (arith, marks_exclusive k d _ _ _ _ p.message (fit _ e), carried))

-- an agent of an exclusive lock, on a machine, lists at most one
slot_lists : (k : MachineId) (j d e : ℕ) (x : Bool) (a : Agent) → (d ≡ e → ⊥) → misfit_s (Owned Exclusive k) j (record { present = x; agent = a }) ≡ 0
    → listed_s d (record { present = x; agent = a }) + listed_s e (record { present = x; agent = a }) ≤ agent_s (record { present = x; agent = a })
unfolding listed_s agent_s
slot_lists k j d e false a n h = omega arith
slot_lists k j d e true a n h =
    let hm : Home (Owned Exclusive k) j a = home_of (Owned Exclusive k) j a h in
    omega (arith, two_flags a.holders d e n, one_head a.mode (heads a) hm.mode hm.few)
  where
    one_head : (m : Mode) (x : ℕ) → same_mode m Exclusive ≡ true → few m x ≡ true → x ≤ 1
    one_head Exclusive x q f = leb-true x 1 f
    one_head Shared x q f = let z : ◌≡◌ {A = ℕ} 0 1 = cc in absurd (omega arith)

owner_exclusive : (o : Owner) → clash o (Holding Exclusive) ≡ 0 → (k : MachineId) × (o ≡ Owned Exclusive k)
unfolding clash
owner_exclusive Unowned e = absurd (omega arith)
owner_exclusive (Owned Exclusive k) e = (k, refl)
owner_exclusive (Owned Shared k) e = absurd (omega arith)

pub one_exclusive : (r : LockState) (i : Inv r) (d e : ℕ) (m : Mode) → (d ≡ e → ⊥) → status_at r d ≡ Holding Exclusive → status_at r e ≡ Holding m → ⊥
unfolding weight hold_f
one_exclusive r i d e m n hd he =
    let (k, o) = owner_exclusive r.decider.owner (rw hd at (i.modes d)) in
    let none : (x : ℕ) → tally (listed_p x) (packets r.wire) ≡ 0 = λ x. lists_none k x (packets r.wire) (rw o at i.fitting) in
    let few : tally (listed_s d) r.agents + tally (listed_s e) r.agents ≤ tally agent_s r.agents =
    rw (← tally_add (listed_s d) (listed_s e) r.agents) (tally_le_at (λ s. listed_s d s + listed_s e s) agent_s no_agent r.agents
    (λ j l. slot_lists k j d e (slot_at r j).present (slot_at r j).agent n (rw o at (i.homes j)))) in
    omega (arith, none d, none e, few, listed_holder d Exclusive hd, listed_holder e m he, i.agent, owned_one r.decider.owner)
  where
    -- who holds asks for nothing, and so is listed
    listed_holder : (x : ℕ) (n : Mode) → status_at r x ≡ Holding n → 1 ≤ weight (listed_p x) (listed_s x) r
    listed_holder x n h = unfold hold_f idle_f in omega (arith, rw h at (i.presence x), rw h at (i.most x))
