use Rattle.std.proofs.Common.{arith, refl}
use Rattle.listing.specs.Put.{put_inside, put_beyond}
use Rattle.listing.proofs.Lines.byte.Goals as goal

pub returns-then-self : goal.returns-then-self
returns-then-self c = record { behind = put_inside _ _ _ (omega arith); same_buffer = refl }

pub returns-else-self : goal.returns-else-self
returns-else-self c = record { behind = put_beyond _ _ _ (omega arith) (omega arith); same_buffer = refl }
