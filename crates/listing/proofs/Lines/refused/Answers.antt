use Rattle.std.proofs.Common.{[], ◌∷◌}
use Rattle.model.specs.Listing.{refused_line}
use Rattle.listing.specs.Lines.{puts_then}
use Rattle.listing.proofs.Lines.refused.Goals as goal

pub returns : goal.returns
unfolding refused_line
returns c =
    rw (← c.number.ensures) (puts_then _ _ c.column.ensures (puts_then (45 ∷ 32 ∷ []) _ c.text.ensures
    (puts_then _ _ c.column-2.ensures c.text-2.ensures)))
