-- What a search for the first that passes comes to, as a function of the list; so it is one thing alone.
use Rattle.std.specs.Prelude.{◌≡◌, Bool, true, false, length, take}
use Rattle.std.proofs.Math.Path.{refl}
use Rattle.std.proofs.Common.{sym, ap}
use Rattle.std.proofs.lemmas.Bool.{false≢true}
use mathlib.Core.List.{List, [], ◌∷◌}
use Prim.Native.Nat.{ℕ, zero, suc, ◌+◌, ◌<◌}
use native.Mathlib.Omega.{arith}
use Rattle.model.specs.Names.{Found, Nowhere, At}
use Rattle.model.specs.Lists.{pick, any, is_at, removed, IsFirst}
use Rattle.model.specs.WellFormed.{is_client}
use Rattle.model.specs.AtMachine.{taken_off}
use Rattle.laws.specs.Names.{ClientId, Waiter}
use Rattle.laws.specs.Tests.{or_left, or_right}

module _ {A : Type 0} (p : A → Bool) where
  -- the index of the first that passes, where the list begins with index n
  unfoldable pub seek : ℕ → List A → Found
  seek n [] = Nowhere
  seek n (x ∷ xs) = pick (p x) (At n) (seek (suc n) xs)

  seek_none : (n : ℕ) (xs : List A) → any p xs ≡ false → seek n xs ≡ Nowhere
  unfolding seek
  seek_none n [] e = refl
  seek_none n (x ∷ xs) e = rw (or_left (p x) _ e) (seek_none (suc n) xs (or_right (p x) _ e))

  seek_at : (n i : ℕ) (xs : List A) → is_at p xs i ≡ true → any p (take i xs) ≡ false → seek n xs ≡ At (n + i)
  unfolding seek is_at
  seek_at n i [] e h = absurd (false≢true e)
  seek_at n zero (x ∷ xs) e h = let here : n + 0 ≡ n = omega arith in rw (e, here)
  seek_at n (suc i) (x ∷ xs) e h =
      let later : n + suc i ≡ suc n + i = omega arith in
      rw (later, or_left (p x) _ h) (seek_at (suc n) i xs e (or_right (p x) _ h))

  pub first_is : (xs : List A) (f : Found) → IsFirst p xs f → f ≡ seek 0 xs
  first_is xs Nowhere h = sym (seek_none 0 xs h)
  first_is xs (At i) h = let here : 0 + i ≡ i = omega arith in rw here at (sym (seek_at 0 i xs h.0 h.1))

  -- what is found is within the list
  pub first_below : (xs : List A) (i : ℕ) → IsFirst p xs (At i) → i < length xs
  unfolding is_at
  first_below [] i h = absurd (false≢true h.0)
  first_below (x ∷ xs) zero h = omega arith
  first_below (x ∷ xs) (suc i) h = let below = first_below xs i (h.0, or_right (p x) _ h.1) in omega (arith, below)

-- ---- a client is taken off a queue: the first who is it, or nobody
pub off_first : (c : ClientId) (ws : List Waiter) (i : ℕ) → IsFirst (is_client c) ws (At i) → taken_off c ws ≡ removed ws i
unfolding taken_off is_at removed
off_first c [] i h = absurd (false≢true h.0)
off_first c (w ∷ ws) zero h = rw h.0
off_first c (w ∷ ws) (suc i) h =
    let other : is_client c w ≡ false = or_left (is_client c w) _ h.1 in
    rw other (ap (λ (xs : List Waiter). w ∷ xs) (off_first c ws i (h.0, or_right (is_client c w) _ h.1)))

pub off_none : (c : ClientId) (ws : List Waiter) → any (is_client c) ws ≡ false → taken_off c ws ≡ ws
unfolding taken_off
off_none c [] e = refl
off_none c (w ∷ ws) e =
    rw (or_left (is_client c w) _ e) (ap (λ (xs : List Waiter). w ∷ xs) (off_none c ws (or_right (is_client c w) _ e)))
