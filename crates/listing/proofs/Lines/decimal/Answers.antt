use Rattle.model.specs.Listing.{decimal}
use Rattle.listing.specs.Lines.{puts_then}
use Rattle.listing.proofs.Lines.decimal.Goals as goal

pub returns : goal.returns
unfolding decimal
returns c =
    puts_then _ _ c.digit.ensures (puts_then _ _ c.digit-2.ensures (puts_then _ _ c.digit-3.ensures
    (puts_then _ _ c.digit-4.ensures (rw (← c.digit-5.ensures) c.byte.ensures))))
