-- Lists, lists in arrays, and tests over lists.
use Rattle.std.specs.Prelude.{◌≡◌, Bool, true, false, take, drop, get_or, set, replicate}
use Rattle.std.proofs.Math.Path.{refl, ap}
use mathlib.Core.List.{List, [], ◌∷◌, ◌++◌, map}
use Prim.Native.Nat.{ℕ, zero, suc, ◌+◌, ◌-◌, ◌<◌, ◌≤◌}
use native.Mathlib.Omega.{arith}
use Rattle.std.proofs.Math.ListN.{length}
use Rattle.std.proofs.Math.Seq.{take-append_seam}
use Rattle.model.specs.Lists.{any, all, is_at, padded, removed}
use Rattle.laws.specs.Tests.{and_left, and_right, both, or_left, or_right, neither, bool_cases}

module _ {A : Type 0} where
  -- past no end the default does not matter
  pub get_d_any : (l : List A) (i : ℕ) (d e : A) → i < length l → get_or l i d ≡ get_or l i e
  get_d_any [] i d e h = absurd (omega arith)
  get_d_any (x ∷ l) zero d e h = refl
  get_d_any (x ∷ l) (suc i) d e h = get_d_any l i d e (omega arith)

  pub removed_split : (xs : List A) (i : ℕ) → removed xs i ≡ take i xs ++ drop (suc i) xs
  unfolding removed
  removed_split [] zero = refl
  removed_split [] (suc i) = refl
  removed_split (x ∷ xs) zero = refl
  removed_split (x ∷ xs) (suc i) = ap (λ (l : List A). x ∷ l) (removed_split xs i)

  pub length_removed : (xs : List A) (i : ℕ) → i < length xs → length (removed xs i) + 1 ≡ length xs
  unfolding removed
  length_removed [] i h = absurd (omega arith)
  length_removed (x ∷ xs) zero h = omega arith
  length_removed (x ∷ xs) (suc i) h = omega (arith, length_removed xs i (omega arith))

  -- ---- a test that holds of each element
  pub all_at : (p : A → Bool) (xs : List A) (i : ℕ) (d : A) → all p xs ≡ true → i < length xs → p (get_or xs i d) ≡ true
  all_at p [] i d e h = absurd (omega arith)
  all_at p (x ∷ xs) zero d e h = and_left (p x) (all p xs) e
  all_at p (x ∷ xs) (suc i) d e h = all_at p xs i d (and_right (p x) (all p xs) e) (omega arith)

  pub all_append : (p : A → Bool) (xs ys : List A) → all p xs ≡ true → all p ys ≡ true → all p (xs ++ ys) ≡ true
  all_append p [] ys e f = f
  all_append p (x ∷ xs) ys e f = both (p x) _ (and_left (p x) _ e) (all_append p xs ys (and_right (p x) _ e) f)

  pub all_removed : (p : A → Bool) (xs : List A) (i : ℕ) → all p xs ≡ true → all p (removed xs i) ≡ true
  unfolding removed
  all_removed p [] i e = e
  all_removed p (x ∷ xs) zero e = and_right (p x) _ e
  all_removed p (x ∷ xs) (suc i) e = both (p x) _ (and_left (p x) _ e) (all_removed p xs i (and_right (p x) _ e))

  pub all_set : (p : A → Bool) (xs : List A) (i : ℕ) (y : A) → all p xs ≡ true → p y ≡ true → all p (set xs i y) ≡ true
  all_set p [] i y e f = e
  all_set p (x ∷ xs) zero y e f = both (p y) _ f (and_right (p x) _ e)
  all_set p (x ∷ xs) (suc i) y e f = both (p x) _ (and_left (p x) _ e) (all_set p xs i y (and_right (p x) _ e) f)

  -- an element past the end is the default
  pub all_get_d : (p : A → Bool) (xs : List A) (i : ℕ) (d : A) → all p xs ≡ true → p d ≡ true → p (get_or xs i d) ≡ true
  all_get_d p [] i d e f = f
  all_get_d p (x ∷ xs) zero d e f = and_left (p x) (all p xs) e
  all_get_d p (x ∷ xs) (suc i) d e f = all_get_d p xs i d (and_right (p x) (all p xs) e) f

  pub all_replicate : (p : A → Bool) (n : ℕ) (z : A) → p z ≡ true → all p (replicate n z) ≡ true
  all_replicate p zero z e = refl
  all_replicate p (suc n) z e = both (p z) _ e (all_replicate p n z e)

  -- where the test says which element it is, the list is a repeat
  pub all_same : (p : A → Bool) (z : A) → ((x : A) → p x ≡ true → x ≡ z) → (xs : List A) → all p xs ≡ true → xs ≡ replicate (length xs) z
  all_same p z f [] e = refl
  all_same p z f (x ∷ xs) e = rw (f x (and_left (p x) (all p xs) e), ← all_same p z f xs (and_right (p x) (all p xs) e))

  -- ---- a test that holds of no element
  pub none_end : (p : A → Bool) (xs : List A) (y : A) → any p xs ≡ false → p y ≡ false → any p (xs ++ y ∷ []) ≡ false
  none_end p [] y e f = neither (p y) false f refl
  none_end p (x ∷ xs) y e f = neither (p x) _ (or_left (p x) _ e) (none_end p xs y (or_right (p x) _ e) f)

  -- ---- a test of one element
  pub at_get_or : (p : A → Bool) (xs : List A) (i : ℕ) (d : A) → i < length xs → is_at p xs i ≡ p (get_or xs i d)
  unfolding is_at
  at_get_or p [] i d h = absurd (omega arith)
  at_get_or p (x ∷ xs) zero d h = refl
  at_get_or p (x ∷ xs) (suc i) d h = at_get_or p xs i d (omega arith)

  pub at_any : (p : A → Bool) (xs : List A) (i : ℕ) → is_at p xs i ≡ true → any p xs ≡ true
  unfolding is_at
  at_any p [] i e = e
  at_any p (x ∷ xs) zero e = rw e
  at_any p (x ∷ xs) (suc i) e = bool_cases (p x) (λ t. rw t) (λ t. rw t (at_any p xs i e))

  -- ---- a list with some of its elements left out
  pub data Sublist : List A → List A → Type 0 where
    empty : Sublist [] []
    kept : {x : A} {xs ys : List A} → Sublist xs ys → Sublist (x ∷ xs) (x ∷ ys)
    left_out : {x : A} {xs ys : List A} → Sublist xs ys → Sublist xs (x ∷ ys)

  pub whole : (xs : List A) → Sublist xs xs
  whole [] = empty
  whole (x ∷ xs) = kept (whole xs)

  pub sublist_length : {xs ys : List A} → Sublist xs ys → length xs ≤ length ys
  sublist_length empty = omega arith
  sublist_length (kept s) = omega (arith, sublist_length s)
  sublist_length (left_out s) = omega (arith, sublist_length s)

  pub sublist_all : (p : A → Bool) {xs ys : List A} → Sublist xs ys → all p ys ≡ true → all p xs ≡ true
  sublist_all p empty e = e
  sublist_all p (kept {x} s) e = both (p x) _ (and_left (p x) _ e) (sublist_all p s (and_right (p x) _ e))
  sublist_all p (left_out {x} s) e = sublist_all p s (and_right (p x) _ e)

  pub sublist_none : (p : A → Bool) {xs ys : List A} → Sublist xs ys → any p ys ≡ false → any p xs ≡ false
  sublist_none p empty e = e
  sublist_none p (kept {x} s) e = neither (p x) _ (or_left (p x) _ e) (sublist_none p s (or_right (p x) _ e))
  sublist_none p (left_out {x} s) e = sublist_none p s (or_right (p x) _ e)

  -- ---- slots and a length that hold a list in its one form
  pub record Canonical (n : ℕ) (z : A) (slots : List A) (len : ℕ) : Type 0 where
    pub shape : slots ≡ padded n z (take len slots)
    pub size : length (take len slots) ≡ len
    pub short : len ≤ n

  pub take_padded : (n : ℕ) (z : A) (xs : List A) → take (length xs) (padded n z xs) ≡ xs
  unfolding padded
  take_padded n z xs = take-append_seam xs (replicate (n - length xs) z)

  pub canonical_padded : (n : ℕ) (z : A) (xs : List A) → length xs ≤ n → Canonical n z (padded n z xs) (length xs)
  canonical_padded n z xs h = record { shape = rw (take_padded n z xs); size = rw (take_padded n z xs); short = h }

  pub more_room : (n : ℕ) (xs : List A) (z : A) → length xs < n → replicate (n - length xs) z ≡ z ∷ replicate (n - suc (length xs)) z
  more_room n xs z h = let e : n - length xs ≡ suc (n - suc (length xs)) = omega arith in rw e

-- a test of an element, through what is made of each
pub at_map : {A B : Type 0} (p : B → Bool) (f : A → B) (i : ℕ) (xs : List A) → is_at (λ (x : A). p (f x)) xs i ≡ is_at p (map f xs) i
unfolding is_at
at_map p f i [] = refl
at_map p f zero (x ∷ xs) = refl
at_map p f (suc i) (x ∷ xs) = at_map p f i xs
