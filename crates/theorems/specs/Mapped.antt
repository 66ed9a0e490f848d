-- Lists, each of whose elements is changed by a function f, beside what the kit has of `map`.
use Rattle.std.specs.Prelude.{◌≡◌, ◌∷◌, take, drop}
use Rattle.theorems.specs.Names.{refl, ap, Bool, List, [], map, ℕ, zero, suc, set, replicate, any, all, is_at, indices, removed}

module _ {A : Type 0} (f : A → A) where
  pub take_mapped : (n : ℕ) (xs : List A) → take n (map f xs) ≡ map f (take n xs)
  take_mapped zero xs = refl
  take_mapped (suc n) [] = refl
  take_mapped (suc n) (x ∷ xs) = ap (λ (l : List A). f x ∷ l) (take_mapped n xs)

  pub drop_mapped : (n : ℕ) (xs : List A) → drop n (map f xs) ≡ map f (drop n xs)
  drop_mapped zero xs = refl
  drop_mapped (suc n) [] = refl
  drop_mapped (suc n) (x ∷ xs) = drop_mapped n xs

  pub set_mapped : (xs : List A) (i : ℕ) (y : A) → set (map f xs) i (f y) ≡ map f (set xs i y)
  set_mapped [] i y = refl
  set_mapped (x ∷ xs) zero y = refl
  set_mapped (x ∷ xs) (suc i) y = ap (λ (l : List A). f x ∷ l) (set_mapped xs i y)

  pub removed_mapped : (xs : List A) (i : ℕ) → removed (map f xs) i ≡ map f (removed xs i)
  unfolding removed
  removed_mapped [] i = refl
  removed_mapped (x ∷ xs) zero = refl
  removed_mapped (x ∷ xs) (suc i) = ap (λ (l : List A). f x ∷ l) (removed_mapped xs i)

  pub replicate_mapped : (n : ℕ) (z : A) → f z ≡ z → map f (replicate n z) ≡ replicate n z
  replicate_mapped zero z e = refl
  replicate_mapped (suc n) z e = rw (e, replicate_mapped n z e)

  -- tests that f does not change
  pub any_mapped : (p : A → Bool) → ((x : A) → p (f x) ≡ p x) → (xs : List A) → any p (map f xs) ≡ any p xs
  any_mapped p e [] = refl
  any_mapped p e (x ∷ xs) = rw (e x, any_mapped p e xs)

  pub all_mapped : (p : A → Bool) → ((x : A) → p (f x) ≡ p x) → (xs : List A) → all p (map f xs) ≡ all p xs
  all_mapped p e [] = refl
  all_mapped p e (x ∷ xs) = rw (e x, all_mapped p e xs)

  pub at_mapped : (p : A → Bool) → ((x : A) → p (f x) ≡ p x) → (i : ℕ) (xs : List A) → is_at p (map f xs) i ≡ is_at p xs i
  unfolding is_at
  at_mapped p e i [] = refl
  at_mapped p e zero (x ∷ xs) = e x
  at_mapped p e (suc i) (x ∷ xs) = at_mapped p e i xs

  pub indices_mapped : (n : ℕ) (xs : List A) → indices n (map f xs) ≡ indices n xs
  unfolding indices
  indices_mapped n [] = refl
  indices_mapped n (x ∷ xs) = ap (λ (l : List ℕ). n ∷ l) (indices_mapped (suc n) xs)

-- what is made of each element, where f does not change it
pub made_mapped : {A B : Type 0} (f : A → A) (g : A → B) → ((x : A) → g (f x) ≡ g x) → (xs : List A) → map g (map f xs) ≡ map g xs
made_mapped f g e [] = refl
made_mapped f g e (x ∷ xs) = rw (e x, made_mapped f g e xs)
