-- What `position` and `any` come to, in the model's words.
use Rattle.std.specs.Prelude.{◌≡◌, refl, Bool, true, false, ◌||◌, List, [], ◌∷◌, ℕ, suc, ◌<◌, length, take, get_or, Option, Some, None, MatchOption, HoldsAt}
use Rattle.std.specs.List.{AllWithin, list_any}
use denote.Param.Members.{Shared}
use denote.Ref.{Bor}
use Rattle.std.proofs.Common.{ap, ◌∙◌, arith, get_or-take, length-take-le}
use Rattle.model.specs.Lists.{any, IsFirst}
use Rattle.laws.specs.Lists.{at_get_or}

-- p says what each call of f answers
pub record Decides {F A : Type 0} (g : Shared F (Bor A × Unit {0}) Bool) (f : F) (p : A → Bool) : Type 0 where
  pub each : (x : Bor A) (b : Bool) → g.post f (x, tt) b → b ≡ p x.now

module _ {A : Type 0} (p : A → Bool) where
  -- std's test of some element
  pub any_is : (xs : List A) → any p xs ≡ list_any p xs
  any_is [] = refl
  any_is (x ∷ xs) = ap (λ b. p x || b) (any_is xs)

  none_passes : (xs : List A) → ((k : ℕ) (d : A) → k < length xs → p (get_or xs k d) ≡ false) → any p xs ≡ false
  none_passes [] h = refl
  none_passes (x ∷ xs) h = rw (h 0 x (omega arith)) (none_passes xs (λ k d q. h (suc k) d (omega (arith, q))))

  none_before : (xs : List A) (i : ℕ) → i < length xs → ((k : ℕ) (d : A) → k < i → p (get_or xs k d) ≡ false) → any p (take i xs) ≡ false
  none_before xs i l h = none_passes (take i xs) (λ k d q.
      let within : k < i = omega (arith, q, length-take-le i xs) in
      rw (get_or-take i xs k d within) (h k d within))

  -- what `position` comes to
  pub found_first : (xs : List A) (r : Option ℕ)
      → MatchOption r (AllWithin (λ x. p x ≡ false) xs 0 (length xs))
      (λ i. (i < length xs) × HoldsAt (λ x. p x ≡ true) xs i × AllWithin (λ x. p x ≡ false) xs 0 i)
      → IsFirst p xs r
  found_first xs None h = none_passes xs (λ k d q. h k d (omega arith) q)
  found_first [] (Some i) h = absurd (omega (arith, h.0))
  found_first (x ∷ xs) (Some i) h =
      (at_get_or p (x ∷ xs) i x h.0 ∙ h.1 x, none_before (x ∷ xs) i (omega (arith, h.0)) (λ k d q. h.2 k d (omega arith) q))

  -- the same, of another word for the index
  pub found_as : (xs : List A) (i k : ℕ) → k ≡ i → IsFirst p xs (Some i) → IsFirst p xs (Some k)
  found_as xs i k e h = rw e h
