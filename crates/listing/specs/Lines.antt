-- What a step puts behind the lines that are there.
use Rattle.std.specs.Prelude.{◌≡◌, List, [], ◌++◌, ℕ, length}
use Rattle.std.proofs.Common.{refl, ◌∙◌, sym}
use Rattle.model.specs.Listing.{Filled, filled, put}
use Rattle.listing.specs.Put.{put_then, put_full}
use Rattle.listing.specs.declared.Lines.{Lines}

-- the buffer with the lines so far, and the position behind them
abbrev pub lines_in : Lines → Filled
lines_in l = filled l.out.now l.at

-- These bytes stand behind the lines, in the same buffer.
pub record Puts (bs : List ℕ) (old new : Lines) : Type 0 where
  pub behind : lines_in new ≡ put bs (lines_in old)
  pub same_buffer : new.out.ghost_name ≡ old.out.ghost_name

pub puts_none : (x : Lines) → Puts [] x x
unfolding put
puts_none x = record { behind = refl; same_buffer = refl }

pub puts_then : (bs cs : List ℕ) {x y z : Lines} → Puts bs x y → Puts cs y z → Puts (bs ++ cs) x z
puts_then bs cs {x} p q = record { behind = put_then bs cs (lines_in x) p.behind q.behind; same_buffer = q.same_buffer ∙ p.same_buffer }

-- at the buffer's end nothing more is written
pub puts_full : (bs : List ℕ) (x : Lines) → x.at ≡ length x.out.now → Puts bs x x
puts_full bs x e = record { behind = rw e (sym (put_full bs x.out.now)); same_buffer = refl }
