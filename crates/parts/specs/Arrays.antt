-- What is done to an array, and what that does to the list in its first slots.
use Rattle.std.specs.Prelude.{◌≡◌, take, drop, set, get_or, replicate}
use Rattle.std.proofs.Common.{drop-cons}
use mathlib.Core.List.{List, [], ◌∷◌, ◌++◌, append_assoc}
use Prim.Native.Nat.{ℕ, suc, ◌+◌, ◌-◌, ◌<◌, ◌≤◌}
use Rattle.std.proofs.Math.Numerals.{add-one}
use native.Mathlib.Omega.{arith}
use Rattle.std.proofs.Math.ListN.{length, length-append, length-take, length-drop}
use Rattle.std.proofs.Math.Seq.{append_snoc, take-append_seam, drop-append_seam, set-append_seam}
use Rattle.std.proofs.Math.Seq.{drop-append-add}
use Rattle.std.specs.List.{copy_within}
use Rattle.std.proofs.lemmas.Slice.{between_is}
use Rattle.std.proofs.lemmas.List.{take-append-le}
use Rattle.model.specs.Lists.{padded, removed}
use Rattle.laws.specs.Lists.{removed_split, length_removed, Canonical, more_room}

module _ {A : Type 0} where
  -- the element at i is taken out of the first n, z stands at n - 1, and the rest stays
  unfoldable pub cut_used : List A → ℕ → ℕ → A → List A
  cut_used xs i n z = take i xs ++ (drop (i + 1) (take n xs) ++ (z ∷ drop n xs))

  -- z in the slot behind two parts
  set_behind : (xs ys zs : List A) (y z : A) (n : ℕ) → length (xs ++ ys) ≡ n → set ((xs ++ ys) ++ (y ∷ zs)) n z ≡ xs ++ (ys ++ (z ∷ zs))
  set_behind xs ys zs y z n e = rw (← e, set-append_seam, append_assoc)

  -- what lies behind i moves up by `copy_within`
  pub cut_copied : (xs : List A) (i n : ℕ) (z : A) → i < n → n ≤ length xs → set (copy_within xs (i + 1) n i) (n - 1) z ≡ cut_used xs i n z
  unfolding cut_used
  cut_copied xs i n z h k =
      let m : ℕ = n - (i + 1) in
      let ys : List A = take m (drop (i + 1) xs) in
      let past : i + m ≡ n - 1 = omega arith in
      let next : suc (n - 1) ≡ n = omega arith in
      let last : drop (n - 1) xs ≡ get_or xs (n - 1) z ∷ drop n xs = rw next at (drop-cons xs (n - 1) z (omega arith)) in
      let size : length (take i xs ++ ys) ≡ n - 1 = simp (length-append, length-take, length-drop) (omega arith) in
      rw (past, last, ← between_is xs (i + 1) n) (set_behind (take i xs) ys (drop n xs) (get_or xs (n - 1) z) z (n - 1) size)

  -- z is put in front of the first j, and the element at j is left out for it
  unfoldable pub slid : List A → ℕ → A → List A
  slid xs j z = z ∷ (take j xs ++ drop (j + 1) xs)

  -- the first j move down by `copy_within`
  pub slid_copied : (xs : List A) (j : ℕ) (z : A) → j < length xs → set (copy_within xs 0 j 1) 0 z ≡ slid xs j z
  unfolding slid
  slid_copied [] j z h = absurd (omega (arith, h))
  slid_copied (x ∷ xs) j z h = let all : j - 0 ≡ j = omega arith in let next : 1 + j ≡ suc j = omega arith in rw (all, add-one, next)

  -- ---- the list in the array
  padded_push : (n : ℕ) (z : A) (xs : List A) (a : A) → length xs < n → set (padded n z xs) (length xs) a ≡ padded n z (xs ++ a ∷ [])
  unfolding padded
  padded_push n z xs a h =
      let e : n - length (xs ++ a ∷ []) ≡ n - suc (length xs) = simp length-append (omega arith) in
      rw (more_room n xs z h, set-append_seam, e, append_snoc)

  padded_cut : (n : ℕ) (z : A) (xs : List A) (i : ℕ) → i < length xs → length xs ≤ n → cut_used (padded n z xs) i (length xs) z ≡ padded n z (removed xs i)
  unfolding padded cut_used
  padded_cut n z xs i h k =
      let q : i ≤ length xs = omega arith in
      let e : n - length (removed xs i) ≡ suc (n - length xs) = omega (arith, length_removed xs i h) in
      rw (take-append-le i xs (replicate (n - length xs) z) q, take-append_seam, drop-append_seam, e, removed_split, add-one, append_assoc)

  padded_front : (n : ℕ) (z : A) (xs : List A) (a : A) → length xs < n → slid (padded n z xs) (length xs) a ≡ padded n z (a ∷ xs)
  unfolding padded slid
  padded_front n z xs a h = rw (take-append_seam, drop-append-add, more_room n xs z h)

  -- ---- the same of slots in their one form
  module _ (n : ℕ) (z : A) (slots : List A) (len : ℕ) (h : Canonical n z slots len) where
    pub canonical_push : (a : A) → len < n → set slots len a ≡ padded n z (take len slots ++ a ∷ [])
    canonical_push a k = rw (← h.shape, h.size) at (padded_push n z (take len slots) a (omega (arith, h.size)))

    pub canonical_cut : (i : ℕ) → i < len → cut_used slots i len z ≡ padded n z (removed (take len slots) i)
    canonical_cut i k = rw (← h.shape, h.size) at (padded_cut n z (take len slots) i (omega (arith, h.size)) (omega (arith, h.size, h.short)))

    pub canonical_front : (a : A) → len < n → slid slots len a ≡ padded n z (a ∷ take len slots)
    canonical_front a k = rw (← h.shape, h.size) at (padded_front n z (take len slots) a (omega (arith, h.size)))
