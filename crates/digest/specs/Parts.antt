-- A digest goes on over bytes part by part, and over a list from each of it to the next.
use Rattle.std.specs.Prelude.{◌≡◌, refl, List, [], ◌∷◌, ◌++◌, ℕ, ◌+◌, ◌*◌, ◌%◌}
use Rattle.std.specs.List.{fold}
use Rattle.std.proofs.Common.{◌∙◌}
use Rattle.digest.specs.Bytes.{digest_of, each}

pub parts : (h : ℕ) (xs ys : List ℕ) → digest_of (digest_of h xs) ys ≡ digest_of h (xs ++ ys)
unfolding digest_of
parts h [] ys = refl
parts h (x ∷ xs) ys = parts ((h * 65599 + x + 1) % 4294967291) xs ys

pub folded : {A : Type 0} (f : A → List ℕ) (h : ℕ) (xs : List A) → fold (λ g x. digest_of g (f x)) h xs ≡ digest_of h (each f xs)
unfolding digest_of each
folded f h [] = refl
folded f h (x ∷ xs) = folded f (digest_of h (f x)) xs ∙ parts h (f x) (each f xs)
