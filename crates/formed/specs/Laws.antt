-- Well-formedness: the one pass over a queue that tests ranges and that no client stands twice.
use Rattle.std.specs.Prelude.{◌≡◌, refl, Bool, true, false, ◌&&◌, ◌||◌, Option, List, [], ◌∷◌, ◌++◌, ℕ, zero, suc, ◌+◌, ◌<◌, ◌≤◌}
use Rattle.std.specs.List.{list_all, FoldsTo}
use Rattle.std.specs.Fn.{Called}
use Rattle.std.specs.Iterator.{Drains, YieldsThen}
use Rattle.std.specs.Option.{MatchOption}
use Rattle.std.proofs.lemmas.Iterator.{YieldsList-from_slice}
use Rattle.std.proofs.lemmas.Iterator.Search.{all_from_yields_List}
use denote.Ref.{Bor}
use Rattle.std.proofs.lemmas.Fn.{fronts, fold_over, slice_gives}
use denote.Param.Members.{Mut}
use Rattle.std.specs.Prelude.{length, drop, get_or, set, replicate}
use Rattle.std.proofs.Common.{Iter, sym, ◌∙◌, arith, drop_of_length-le, length-set, get_or-set_same, get_or-set_other}
use Rattle.std.proofs.Math.Bool.{not, and-true, and-false, and_assoc}
use Rattle.std.proofs.Math.Decide.{ℕ_discrete}
use borrow.Author.Tests.{ltb-true, lt-ltb, le-ltb, eq-eqb, ne_eqb}
use Rattle.model.specs.declared.ClientId.{ClientId}
use Rattle.model.specs.declared.Waiter.{Waiter}
use Rattle.model.specs.Lists.{any, all}
use Rattle.model.specs.States.{clients}
use Rattle.model.specs.WellFormed.{is_client, distinct, waiter_in_range}
use Rattle.laws.specs.Tests.{bool_cases}
use Rattle.parts.specs.Scans.{all_more}

-- a chain that joins a test of each, and one that ends at the first that fails
all_snoc : {A : Type 0} (p : A → Bool) (xs : List A) (x : A) → all p (xs ++ x ∷ []) ≡ (all p xs && p x)
all_snoc p [] x = and-true (p x)
all_snoc p (y ∷ xs) x = rw (all_snoc p xs x) (sym (and_assoc (p y) (all p xs) (p x)))

pub fold_all : {A F : Type 0} (p : A → Bool) (s : Iter A) {g : Mut F (Bool × (Bor A × Unit {0})) Bool} {f : F} {r : Bool}
    → (ys : List (Bor A)) × (f' : F) × Drains fronts s ys × FoldsTo {P = F × Bool} (λ q y q'. Called g q.0 (q.1, (y, tt)) q'.1 q'.0) (f, true) ys (f', r)
    → ((a : Bool) (y : Bor A) (b : Bool) (f' : F) → Called g f (a, (y, tt)) b f' → (b ≡ (a && p y.now)) × (f' ≡ f))
    → r ≡ all p s.rest.now
fold_all p s {g = g} {f = f} {r = r} ran h =
    fold_over fronts (λ y. y.now) g (λ xs ok. ok ≡ all p xs) f
    (λ xs a y b f' j k. let e = h a y b f' k in (e.0 ∙ rw j (sym (all_snoc p xs y.now)), e.1))
    s s.rest.now true r (slice_gives s) refl ran

listed : {A : Type 0} (p : A → Bool) (xs : List A) → list_all p xs ≡ all p xs
listed p [] = refl
listed p (x ∷ xs) = rw (listed p xs)

pub all_all : {A F : Type 0} (p : A → Bool) (s : Iter A) {g : Mut F (Bor A × Unit {0}) Bool} {f : F} {r : Bool} {u : Iter A}
    → (ys : List (Bor A)) × (o : Option (Bor A)) × (f' : F) × YieldsThen fronts s ys o u × FoldsTo (λ q y q'. Called g q (y, tt) true q') f ys f'
    × MatchOption o (r ≡ true) (λ y. (r ≡ false) × ((h : F) × Called g f' (y, tt) false h))
    → ((y : Bor A) (b : Bool) (f' : F) → Called g f (y, tt) b f' → (f' ≡ f) × (b ≡ p y.now))
    → r ≡ all p s.rest.now
all_all p s {f = f} {r = r} {u = u} ran h = all_from_yields_List p u f r ran (YieldsList-from_slice s.rest.now refl) h ∙ listed p s.rest.now

-- the waiter's client is not in the set
abbrev pub is_new : List Bool → Waiter → Bool
is_new seen w = not (get_or seen w.client.0 false)

-- clients in range, each one new to those seen before it
unfoldable pub all_new : List Bool → List Waiter → Bool
all_new seen [] = true
all_new seen (w ∷ ws) = waiter_in_range w && (is_new seen w && all_new (set seen w.client.0 true) ws)

-- new to a set with one more client: another than that one, and new to the set
new_more : (seen : List Bool) (c : ClientId) (w : Waiter) → c.0 < length seen → is_new (set seen c.0 true) w ≡ (not (is_client c w) && is_new seen w)
new_more seen c w h = go (ℕ_discrete w.client.0 c.0)
  where
    go : Dec (w.client.0 ≡ c.0) → is_new (set seen c.0 true) w ≡ (not (is_client c w) && is_new seen w)
    go (yes q) = rw (q, eq-eqb c.0 c.0 refl, get_or-set_same seen c.0 true false h)
    go (no q) = rw (ne_eqb w.client.0 c.0 q, get_or-set_other seen c.0 w.client.0 true false q)

and_swap : (n b s a : Bool) → ((not n && s) && (not b && a)) ≡ (not (n || b) && (s && a))
and_swap true b s a = refl
and_swap false true s a = and-false s
and_swap false false s a = refl

all_new_more : (seen : List Bool) (c : ClientId) (ws : List Waiter) → c.0 < length seen
    → all (is_new (set seen c.0 true)) ws ≡ (not (any (is_client c) ws) && all (is_new seen) ws)
all_new_more seen c [] h = refl
all_new_more seen c (w ∷ ws) h =
    rw (new_more seen c w h, all_new_more seen c ws h) (and_swap (is_client c w) (any (is_client c) ws) (is_new seen w) (all (is_new seen) ws))

regroup : (s r d a n : Bool) → (s && (r && (d && (a && n)))) ≡ (r && ((a && d) && (s && n)))
regroup true true d true n = refl
regroup true true d false n = and-false d
regroup true false d a n = refl
regroup false true d a n = sym (and-false (a && d))
regroup false false d a n = refl

pub one_pass : (seen : List Bool) (ws : List Waiter) → length seen ≡ clients
    → all_new seen ws ≡ (all waiter_in_range ws && (distinct ws && all (is_new seen) ws))
unfolding all_new distinct
one_pass seen [] e = refl
one_pass seen (w ∷ ws) e =
    bool_cases
    (waiter_in_range w)
    (λ q.
    let h : w.client.0 < length seen = omega (arith, ltb-true w.client.0 clients q) in
    rw (q, one_pass (set seen w.client.0 true) ws (length-set seen w.client.0 true ∙ e), all_new_more seen w.client ws h)
    (regroup (is_new seen w) (all waiter_in_range ws) (distinct ws) (not (any (is_client w.client) ws)) (all (is_new seen) ws)))
    (λ q. rw q)

-- from no client seen
none_seen : (n k : ℕ) → get_or (replicate n false) k false ≡ false
none_seen zero k = refl
none_seen (suc n) zero = refl
none_seen (suc n) (suc k) = none_seen n k

all_unseen : (ws : List Waiter) → all (is_new (replicate clients false)) ws ≡ true
all_unseen [] = refl
all_unseen (w ∷ ws) = rw (none_seen clients w.client.0) (all_unseen ws)

pub pass_whole : (ws : List Waiter) → all_new (replicate clients false) ws ≡ (all waiter_in_range ws && distinct ws)
pass_whole ws = rw (one_pass (replicate clients false) ws refl, all_unseen ws, and-true (distinct ws))

-- a loop over xs keeps `all_new seen (drop j xs)`
module _ (xs : List Waiter) (j : ℕ) (d : Waiter) (seen : List Bool) {b : Bool} (i : all_new seen (drop j xs) ≡ b) where
  pub pass_far : j < length xs → clients ≤ (get_or xs j d).client.0 → false ≡ b
  unfolding all_new
  pass_far h q = rw (all_more xs j d h, le-ltb (get_or xs j d).client.0 clients q) at i

  module _ (h : j < length xs) (q : (get_or xs j d).client.0 < clients) where
    pub pass_twice : get_or seen (get_or xs j d).client.0 false ≡ true → false ≡ b
    unfolding all_new
    pass_twice e = rw (all_more xs j d h, lt-ltb (get_or xs j d).client.0 clients q, e) at i

    pub pass_next : get_or seen (get_or xs j d).client.0 false ≡ false → all_new (set seen (get_or xs j d).client.0 true) (drop (j + 1) xs) ≡ b
    unfolding all_new
    pass_next e = rw (all_more xs j d h, lt-ltb (get_or xs j d).client.0 clients q, e) at i

  pub pass_end : length xs ≤ j → true ≡ b
  unfolding all_new
  pass_end h = rw (drop_of_length-le xs h) at i
