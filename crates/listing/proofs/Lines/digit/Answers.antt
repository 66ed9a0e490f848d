use Rattle.std.proofs.Common.{lt-ltb, le-ltb}
use Rattle.model.specs.Listing.{digit_of}
use Rattle.listing.specs.Lines.{puts_none}
use Rattle.listing.proofs.Lines.digit.Goals as goal

pub returns-then-d-n : goal.returns-then-d-n
unfolding digit_of
returns-then-d-n c = rw (← c.digit.ensures, le-ltb _ _ c.if-d-n.true) c.byte.ensures

pub returns-else-d-n : goal.returns-else-d-n
unfolding digit_of
returns-else-d-n c = rw (lt-ltb _ _ c.if-d-n.false) (puts_none _)
