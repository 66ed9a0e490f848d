-- Bytes put into a buffer: one of them, one text behind another, and any where the buffer is full.
use Rattle.std.specs.Prelude.{◌≡◌, refl, List, [], ◌∷◌, ◌++◌, set}
use Prim.Native.Nat.{ℕ, suc, ◌+◌, ◌<◌, ◌≤◌, min}
use native.Mathlib.Omega.{arith}
use Rattle.std.proofs.Math.ListN.{length}
use Rattle.std.proofs.Math.Seq.{set_out}
use Rattle.model.specs.Listing.{Filled, filled, put}

module _ (o : List ℕ) (k b : ℕ) where
  pub put_inside : k < length o → filled (set o k b) (k + 1) ≡ put (b ∷ []) (filled o k)
  unfolding put
  put_inside h =
      let e : k + 1 ≡ min (length o) (suc k) = omega arith in
      rw e

  pub put_beyond : {m : ℕ} → length o ≤ k → m ≡ length o → filled o m ≡ put (b ∷ []) (filled o k)
  unfolding put
  put_beyond h q =
      let e : min (length o) (suc k) ≡ length o = omega arith in
      rw (q, set_out o k b h, e)

put_append : (bs cs : List ℕ) (f : Filled) → put (bs ++ cs) f ≡ put cs (put bs f)
unfolding put
put_append [] cs f = refl
put_append (b ∷ bs) cs f = put_append bs cs _

pub put_then : (bs cs : List ℕ) (f : Filled) {g h : Filled} → g ≡ put bs f → h ≡ put cs g → h ≡ put (bs ++ cs) f
put_then bs cs f e d = rw (put_append bs cs f, ← e) d

pub put_full : (bs o : List ℕ) → put bs (filled o (length o)) ≡ filled o (length o)
unfolding put
put_full [] o = refl
put_full (b ∷ bs) o =
    let e : min (length o) (suc (length o)) ≡ length o = omega arith in
    rw (set_out o (length o) b (omega arith), e) (put_full bs o)
