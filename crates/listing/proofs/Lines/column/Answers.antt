use Rattle.listing.specs.Lines.{puts_then}
use Rattle.listing.proofs.Lines.column.Goals as goal

pub returns : goal.returns
returns c = puts_then _ _ c.decimal.ensures c.byte.ensures
