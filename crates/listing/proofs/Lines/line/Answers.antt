use Rattle.model.specs.Listing.{line_of}
use Rattle.listing.specs.Lines.{puts_then, puts_full}
use Rattle.listing.proofs.Lines.line.Goals as goal

pub returns-then-self : goal.returns-then-self
returns-then-self c = puts_full _ _ c.if-self.true

pub returns : goal.returns
unfolding line_of
returns c =
    puts_then _ _ c.column.ensures (puts_then _ _ c.column-2.ensures (puts_then _ _ (rw c.number.ensures at c.column-3.ensures)
    (puts_then _ _ c.wire.ensures c.byte.ensures)))
