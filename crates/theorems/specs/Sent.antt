-- What a step must come to, packets sent on, packets that never are on the wire, and what a yes of the rules' two tests says.
use Rattle.std.specs.Prelude.{◌≡◌, ◌∷◌, ◌<◌}
use Rattle.theorems.specs.Names.{refl, MachineId, ClientId, Mode, Exclusive, Shared, Owner, Unowned, Agent, Address, ToDecider, ToMachine, Message}
use Rattle.theorems.specs.Names.{Free, Acquire, Grant, Packet, Site, LockState, Bool, true, false, and-false, false≢true, List, arith, pick, machines}
use Rattle.theorems.specs.Names.{is_shared, Verdict, cannot_place, does, may_join, owned_shared, may_share, and_left, and_right, []}
use Rattle.laws.specs.Tests.{pick_by}
use Rattle.theorems.specs.Weights.{far_p, fits, fits_p, misfit_p}
use Rattle.theorems.specs.Invariant.{Inv}
use Rattle.theorems.specs.InvariantStep.{Keeps, Split, same_mark, Still, keep_resent}
use Rattle.theorems.specs.Facts.{Request, acquire_of, release_of, came_fits}

-- the step can be placed and keeps the invariant
abbrev pub Good : LockState → MachineId → ClientId → List Packet → Verdict → Type 0
Good r k c rest cannot_place = ⊥
Good r k c rest (does v qs) = Keeps r k c rest v qs

-- by the test of a choice
pub good_by : (r : LockState) (k : MachineId) (c : ClientId) (rest : List Packet) (b : Bool) (v w : Verdict)
    → (b ≡ true → Good r k c rest v) → (b ≡ false → Good r k c rest w) → Good r k c rest (pick b v w)
good_by r k c rest b v w = pick_by (Good r k c rest) b

-- ---- where a rule says that a request may share or join, lock or agent and request are shared
pub shared_is : (m : Mode) → is_shared m ≡ true → m ≡ Shared
shared_is Exclusive e = absurd (false≢true e)
shared_is Shared e = refl

pub may_share_lem : (v : Site) (m : Mode) → may_share v m ≡ true → (owned_shared v.decider.owner ≡ true) × (m ≡ Shared)
unfolding may_share
may_share_lem v m e =
    let s = and_right (owned_shared v.decider.owner) _ e in
    (and_left (owned_shared v.decider.owner) _ e, shared_is m (and_left (is_shared m) _ s))

pub may_join_lem : (v : Site) (m : Mode) → may_join v m ≡ true → (v.slot.agent.mode ≡ Shared) × (m ≡ Shared)
unfolding may_join
may_join_lem v m e =
    let s = and_right (is_shared v.slot.agent.mode) _ e in
    (shared_is _ (and_left (is_shared v.slot.agent.mode) _ e), shared_is m (and_left (is_shared m) _ s))

-- ---- what fits at one address fits at another
module _ (t t' : Address) (b : Bool) (a : Agent) (o : Owner) where
  pub plain_any : (m : Message) → fits o false t b a m ≡ fits o false t' b a m
  unfolding fits
  plain_any m = refl

  pub request_any : {c : ClientId} {m : Message} (x : Bool) → Request c m → fits o x t b a m ≡ fits o x t' b a m
  unfolding fits
  request_any true acquire_of = refl
  request_any true release_of = refl
  request_any false q = refl

-- ---- what never fits
module _ (x : Bool) (t : Address) (b : Bool) (a : Agent) where
  pub no_marked : (c : ClientId) (n : Mode) (o : Owner) → owned_shared o ≡ false → fits o x t b a (Acquire c n true) ≡ false
  unfolding fits
  no_marked c n o e = go x
    where
      go : (x : Bool) → fits o x t b a (Acquire c n true) ≡ false
      go true = simp and-false
      go false = rw e (simp and-false)

pub no_free : (o : Owner) (t : Address) (b : Bool) (a : Agent) → fits o false t b a Free ≡ false
unfolding fits
no_free o t b a = simp and-false

pub no_early : (o : Owner) (k : MachineId) (a : Agent) → fits o true (ToMachine k) false a Free ≡ false
unfolding fits
no_early o k a = refl

pub no_offer : (b : Bool) (a : Agent) (c : ClientId) (n : Mode) → fits Unowned true ToDecider b a (Grant c n) ≡ false
unfolding fits
no_offer b a c n = simp and-false

pub no_freed : (b : Bool) (a : Agent) → fits Unowned true ToDecider b a Free ≡ false
unfolding fits
no_freed b a = simp and-false

module _ {r : LockState} {rest : List Packet} (i : Inv r) where
  pub impossible : {A : Type 0} {p : Packet} → Split r (p ∷ []) rest → fits_p r.decider.owner p ≡ false → A
  unfolding misfit_p
  impossible {p = p} sp f = absurd (omega (arith, rw f at (came_fits r rest p i sp)))

  -- a packet whose fitting does not turn on its address
  pub keep_on : {k : MachineId} {c : ClientId} {v : Site} → Still r k c v → k.0 < machines → (p q : Packet) → q.message ≡ p.message → q.carried ≡ p.carried
      → q.rejected ≡ p.rejected → ((o : Owner) → fits_p o p ≡ fits_p o q) → far_p q ≡ 0 → Split r (p ∷ []) rest → Keeps r k c rest v (q ∷ [])
  unfolding misfit_p
  keep_on st kk p q m x b e fa sp = keep_resent i st kk p q m x sp (rw (e r.decider.owner) at (came_fits r rest p i sp)) (rw b (same_mark r p rest i sp)) fa
