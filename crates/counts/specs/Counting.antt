-- The model's count is the library's.
use Rattle.std.specs.Prelude.{◌≡◌, refl, Bool, true, false, cond, ℕ, ◌+◌, List, count_by}
use Rattle.std.proofs.Common.{zero-add}
use Rattle.std.proofs.lemmas.List.Recursion.{is_count_by}
use Rattle.model.specs.Lists.{pick, count}

picked : (b : Bool) (n : ℕ) → pick b 1 0 + n ≡ cond b (1 + n) n
picked true n = refl
picked false n = zero-add n

pub counted : {A : Type 0} (p : A → Bool) (xs : List A) → count p xs ≡ count_by p xs
unfolding count
counted p xs = is_count_by (count p) p refl (λ x ys. picked (p x) (count p ys)) xs
