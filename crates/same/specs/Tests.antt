-- A test of two elements that is given to a function.
use Rattle.std.specs.Prelude.{◌≡◌, Bool}
use Rattle.std.specs.Bool.{Decides}
use denote.Param.Members.{Shared}
use denote.Ref.{Bor}

-- each answer of f says whether the two are the same
pub record Tests {F A : Type 0} (g : Shared F (Bor A × (Bor A × Unit {0})) Bool) (f : F) : Type 0 where
  pub each : (x y : Bor A) (b : Bool) → g.post f (x, (y, tt)) b → Decides b (x.now ≡ y.now)
