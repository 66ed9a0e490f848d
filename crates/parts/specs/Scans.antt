-- Loops over the used part of an array, `take n xs`: what is left of it from j on, and a test over that.
use Rattle.std.specs.Prelude.{◌≡◌, Bool, ◌&&◌, List, [], ◌∷◌, ℕ, ◌+◌, ◌<◌, ◌≤◌, length, take, drop, get_or}
use Rattle.std.proofs.Common.{sym, ◌∙◌, add-one, arith, drop_of_length-le, drop-cons, get_or-take, length-take-le}
use Rattle.std.proofs.Math.Bool.{and_assoc, and-true}
use Rattle.model.specs.Lists.{all}

module _ {A : Type 0} where
  -- the first of what is left of an array from j on
  pub all_more : (xs : List A) (j : ℕ) (d : A) → j < length xs → drop j xs ≡ get_or xs j d ∷ drop (j + 1) xs
  all_more xs j d k = rw add-one (drop-cons xs j d k)

  -- and of its used part
  module _ (xs : List A) (n j : ℕ) (d : A) (k : n ≤ length xs) where
    pub used_more : j < n → drop j (take n xs) ≡ get_or xs j d ∷ drop (j + 1) (take n xs)
    used_more h =
        let room : j < length (take n xs) = omega (arith, length-take-le n xs k) in
        rw (sym (get_or-take n xs j d h)) (all_more (take n xs) j d room)

    pub used_end : n ≤ j → drop j (take n xs) ≡ []
    used_end h = let past : length (take n xs) ≤ j = omega (arith, length-take-le n xs k, h) in drop_of_length-le (take n xs) past

  -- a loop that joins a test of each of xs: what it has, with the tests of all that are left, is what it began with
  pub record Joins (p : A → Bool) (xs : List A) (ok₀ : Bool) (j₀ : ℕ) (ok : Bool) (j : ℕ) : Type 0 where
    pub same : (ok && all p (drop j xs)) ≡ (ok₀ && all p (drop j₀ xs))

  module _ {p : A → Bool} {xs : List A} {ok₀ ok : Bool} {j₀ j : ℕ} (i : Joins p xs ok₀ j₀ ok j) where
    pub joins_next : (d : A) → j < length xs → Joins p xs ok₀ j₀ (ok && p (get_or xs j d)) (j + 1)
    joins_next d h =
        let e : ((ok && p (get_or xs j d)) && all p (drop (j + 1) xs)) ≡ (ok && all p (drop j xs)) = rw (add-one, drop-cons xs j d) (and_assoc ok _ _) in
        record { same = e ∙ i.same }

    pub joins_all : length xs ≤ j → ok ≡ (ok₀ && all p (drop j₀ xs))
    joins_all h =
        let e : (ok && all p (drop j xs)) ≡ ok = rw drop_of_length-le (and-true ok) in
        sym e ∙ i.same

  -- and of the first n of an array
  module _ (xs : List A) (n : ℕ) (k : n ≤ length xs) {p : A → Bool} {ok₀ ok : Bool} {j₀ j : ℕ} (i : Joins p (take n xs) ok₀ j₀ ok j) where
    pub first_next : (d : A) → j < n → Joins p (take n xs) ok₀ j₀ (ok && p (get_or xs j d)) (j + 1)
    first_next d h =
        let e : ((ok && p (get_or xs j d)) && all p (drop (j + 1) (take n xs))) ≡ (ok && all p (drop j (take n xs))) =
        rw (used_more xs n j d k h) (and_assoc ok _ _) in
        record { same = e ∙ i.same }

    pub first_all : n ≤ j → ok ≡ (ok₀ && all p (drop j₀ (take n xs)))
    first_all h = joins_all i (omega (arith, length-take-le n xs k))
