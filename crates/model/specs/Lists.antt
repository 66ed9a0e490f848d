-- A choice by a test, and tests over lists.
use Rattle.std.specs.Prelude.{◌≡◌, Bool, true, false, ◌&&◌, ◌||◌, List, [], ◌∷◌, ◌++◌, ℕ, zero, suc, ◌+◌, ◌-◌, length, take, replicate}
use Rattle.model.specs.Names.{Found, Nowhere, At}

abbrev pub pick : {A : Type 0} → Bool → A → A → A
pick true a b = a
pick false a b = b

module _ {A : Type 0} where
  abbrev pub any : (A → Bool) → List A → Bool
  any p [] = false
  any p (x ∷ xs) = p x || any p xs

  abbrev pub all : (A → Bool) → List A → Bool
  all p [] = true
  all p (x ∷ xs) = p x && all p xs

  -- how many elements pass the test
  unfoldable pub count : (A → Bool) → List A → ℕ
  count p [] = 0
  count p (x ∷ xs) = pick (p x) 1 0 + count p xs

  -- the element at i is there and passes the test
  unfoldable pub is_at : (A → Bool) → List A → ℕ → Bool
  is_at p [] i = false
  is_at p (x ∷ xs) zero = p x
  is_at p (x ∷ xs) (suc i) = is_at p xs i

  -- What a search for the first that passes comes to (document 02, "The busy-client test"): the element at the index passes and none before it does; or
  -- nowhere, and none of them passes.
  abbrev pub IsFirst : (A → Bool) → List A → Found → Type 0
  IsFirst p xs (At i) = (is_at p xs i ≡ true) × (any p (take i xs) ≡ false)
  IsFirst p xs Nowhere = any p xs ≡ false

  -- the indices of its elements, counted from n on
  unfoldable pub indices : ℕ → List A → List ℕ
  indices n [] = []
  indices n (x ∷ xs) = n ∷ indices (suc n) xs

  -- an array of n: the list, and blanks to the end
  unfoldable pub padded : ℕ → A → List A → List A
  padded n z xs = xs ++ replicate (n - length xs) z

  -- the list without the element at i; later ones move up
  unfoldable pub removed : List A → ℕ → List A
  removed [] i = []
  removed (x ∷ xs) zero = xs
  removed (x ∷ xs) (suc i) = x ∷ removed xs i
