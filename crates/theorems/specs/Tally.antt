-- Sums over lists, and sums over the numbers below a bound.
use Rattle.std.specs.Prelude.{◌≡◌, ◌∷◌, ◌++◌, ◌+◌, ◌*◌, ◌≤◌, ◌<◌}
use Rattle.theorems.specs.Names.{refl, sym, ◌∙◌, Bool, true, false, List, [], map, ℕ, zero, suc, arith, ℕ_discrete}
use Rattle.theorems.specs.Names.{length, get_or, set, eqb, eq-eqb, ne_eqb, removed, count, pick}

abbrev pub flag : Bool → ℕ
flag true = 1
flag false = 0

-- n where the test holds, else 0
abbrev pub gate : Bool → ℕ → ℕ
gate true n = n
gate false n = 0

module _ {A : Type 0} where
  unfoldable pub tally : (A → ℕ) → List A → ℕ
  tally f [] = 0
  tally f (x ∷ xs) = f x + tally f xs

  pub tally_one : (f : A → ℕ) (x : A) → tally f (x ∷ []) ≡ f x
  unfolding tally
  tally_one f x = omega arith

  pub tally_append : (f : A → ℕ) (xs ys : List A) → tally f (xs ++ ys) ≡ tally f xs + tally f ys
  unfolding tally
  tally_append f [] ys = omega arith
  tally_append f (x ∷ xs) ys = omega (arith, tally_append f xs ys)

  pub tally_removed : (f : A → ℕ) (d : A) (xs : List A) (i : ℕ) → i < length xs → tally f xs ≡ f (get_or xs i d) + tally f (removed xs i)
  unfolding tally removed
  tally_removed f d [] i h = omega arith
  tally_removed f d (x ∷ xs) zero h = refl
  tally_removed f d (x ∷ xs) (suc i) h = omega (arith, tally_removed f d xs i (omega arith))

  pub tally_set : (f : A → ℕ) (d : A) (xs : List A) (i : ℕ) (y : A) → i < length xs → tally f (set xs i y) + f (get_or xs i d) ≡ tally f xs + f y
  unfolding tally
  tally_set f d [] i y h = omega arith
  tally_set f d (x ∷ xs) zero y h = omega arith
  tally_set f d (x ∷ xs) (suc i) y h = omega (arith, tally_set f d xs i y (omega arith))

  pub tally_at : (f : A → ℕ) (d : A) (xs : List A) (i : ℕ) → i < length xs → f (get_or xs i d) ≤ tally f xs
  tally_at f d xs i h = omega (arith, tally_removed f d xs i h)

  -- at any index, where the default counts nothing
  pub tally_any : (f : A → ℕ) (d : A) → f d ≡ 0 → (xs : List A) (i : ℕ) → f (get_or xs i d) ≤ tally f xs
  unfolding tally
  tally_any f d z [] i = omega (arith, z)
  tally_any f d z (x ∷ xs) zero = omega arith
  tally_any f d z (x ∷ xs) (suc i) = omega (arith, tally_any f d z xs i)

  pub tally_le : (f g : A → ℕ) → ((x : A) → f x ≤ g x) → (xs : List A) → tally f xs ≤ tally g xs
  unfolding tally
  tally_le f g h [] = omega arith
  tally_le f g h (x ∷ xs) = omega (arith, h x, tally_le f g h xs)

  -- the same, where only the elements of the list are compared
  pub tally_le_at : (f g : A → ℕ) (d : A) (xs : List A) → ((k : ℕ) → k < length xs → f (get_or xs k d) ≤ g (get_or xs k d)) → tally f xs ≤ tally g xs
  unfolding tally
  tally_le_at f g d [] h = omega arith
  tally_le_at f g d (x ∷ xs) h = omega (arith, h 0 (omega arith), tally_le_at f g d xs (λ k l. h (suc k) (omega arith)))

  pub tally_ext : (f g : A → ℕ) → ((x : A) → f x ≡ g x) → (xs : List A) → tally f xs ≡ tally g xs
  unfolding tally
  tally_ext f g h [] = refl
  tally_ext f g h (x ∷ xs) = omega (arith, h x, tally_ext f g h xs)

  pub tally_none : (f g : A → ℕ) → ((x : A) → f x ≡ 0 → g x ≡ 0) → (xs : List A) → tally f xs ≡ 0 → tally g xs ≡ 0
  unfolding tally
  tally_none f g h [] e = refl
  tally_none f g h (x ∷ xs) e = omega (arith, h x (omega arith), tally_none f g h xs (omega arith))

  pub tally_add : (f g : A → ℕ) (xs : List A) → tally (λ x. f x + g x) xs ≡ tally f xs + tally g xs
  unfolding tally
  tally_add f g [] = refl
  tally_add f g (x ∷ xs) = omega (arith, tally_add f g xs)

  pub tally_zero : (xs : List A) → tally (λ x. 0) xs ≡ 0
  unfolding tally
  tally_zero [] = refl
  tally_zero (x ∷ xs) = omega (arith, tally_zero xs)

  -- a count is a sum
  pub count_tally : (p : A → Bool) (xs : List A) → count p xs ≡ tally (λ x. flag (p x)) xs
  unfolding count tally
  count_tally p [] = refl
  count_tally p (x ∷ xs) = omega (arith, pick_flag (p x), count_tally p xs)
    where
      pick_flag : (b : Bool) → pick b 1 0 ≡ flag b
      pick_flag true = refl
      pick_flag false = refl

  pub tally_length : (xs : List A) → tally (λ x. 1) xs ≡ length xs
  unfolding tally
  tally_length [] = refl
  tally_length (x ∷ xs) = omega (arith, tally_length xs)

pub tally_map : {A B : Type 0} (f : B → ℕ) (h : A → B) (xs : List A) → tally f (map h xs) ≡ tally (λ x. f (h x)) xs
unfolding tally
tally_map f h [] = refl
tally_map f h (x ∷ xs) = omega (arith, tally_map f h xs)

-- ---- a sum over the numbers below n, exchanged with a sum over a list
unfoldable pub sum_to : ℕ → (ℕ → ℕ) → ℕ
sum_to zero f = 0
sum_to (suc n) f = f n + sum_to n f

pub sum_swap : {A : Type 0} (n : ℕ) (f : ℕ → A → ℕ) (xs : List A) → sum_to n (λ d. tally (f d) xs) ≡ tally (λ x. sum_to n (λ d. f d x)) xs
unfolding sum_to
sum_swap zero f xs = sym (tally_zero xs)
sum_swap (suc n) f xs = omega (arith, sum_swap n f xs, tally_add (f n) (λ x. sum_to n (λ d. f d x)) xs)

pub sum_le : (n b : ℕ) (f : ℕ → ℕ) → ((d : ℕ) → f d ≤ b) → sum_to n f ≤ n * b
unfolding sum_to
sum_le zero b f h = omega arith
sum_le (suc n) b f h = omega (arith, h n, sum_le n b f h)

pub sum_ext : (n : ℕ) (f g : ℕ → ℕ) → ((d : ℕ) → f d ≡ g d) → sum_to n f ≡ sum_to n g
unfolding sum_to
sum_ext zero f g h = refl
sum_ext (suc n) f g h = omega (arith, h n, sum_ext n f g h)

pub sum_add : (n : ℕ) (f g : ℕ → ℕ) → sum_to n (λ d. f d + g d) ≡ sum_to n f + sum_to n g
unfolding sum_to
sum_add zero f g = refl
sum_add (suc n) f g = omega (arith, sum_add n f g)

-- a number that stands at c alone is the whole sum
sum_gate_far : (n c m : ℕ) → n ≤ c → sum_to n (λ d. gate (eqb c d) m) ≡ 0
unfolding sum_to
sum_gate_far zero c m h = refl
sum_gate_far (suc n) c m h = rw (ne_eqb c n (λ q. omega (arith, q))) (omega (arith, sum_gate_far n c m (omega arith)))

pub sum_gate : (n c m : ℕ) → c < n → sum_to n (λ d. gate (eqb c d) m) ≡ m
unfolding sum_to
sum_gate zero c m h = absurd (omega arith)
sum_gate (suc n) c m h = go (ℕ_discrete c n) (λ l. sum_gate n c m l)
  where
    go : Dec (c ≡ n) → (c < n → sum_to n (λ d. gate (eqb c d) m) ≡ m) → gate (eqb c n) m + sum_to n (λ d. gate (eqb c d) m) ≡ m
    go (yes q) ih = rw (q, eq-eqb n n refl) (omega (arith, sum_gate_far n n m (omega arith)))
    go (no q) ih = rw (ne_eqb c n q) (omega (arith, ih (omega arith)))

-- one of the numbers below n is c
pub sum_one : (n c : ℕ) → c < n → sum_to n (λ d. flag (eqb c d)) ≡ 1
sum_one n c h = sum_ext n (λ d. flag (eqb c d)) (λ d. gate (eqb c d) 1) (λ d. as_gate (eqb c d)) ∙ sum_gate n c 1 h
  where
    as_gate : (b : Bool) → flag b ≡ gate b 1
    as_gate true = refl
    as_gate false = refl

-- what holds of the numbers holds of their sums
pub sum_shift : (n : ℕ) (f g h k : ℕ → ℕ) → ((d : ℕ) → f d + g d ≤ h d + k d) → sum_to n f + sum_to n g ≤ sum_to n h + sum_to n k
unfolding sum_to
sum_shift zero f g h k e = omega arith
sum_shift (suc n) f g h k e = omega (arith, e n, sum_shift n f g h k e)

pub sum_twice : (n : ℕ) (f g : ℕ → ℕ) → sum_to n (λ d. 2 * f d + 2 * g d) ≡ 2 * sum_to n f + 2 * sum_to n g
unfolding sum_to
sum_twice zero f g = refl
sum_twice (suc n) f g = omega (arith, sum_twice n f g)
