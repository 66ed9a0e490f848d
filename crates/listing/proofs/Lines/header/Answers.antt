use Rattle.model.specs.Listing.{header}
use Rattle.listing.proofs.Lines.header.Goals as goal

pub returns : goal.returns
unfolding header
returns c = c.text.ensures
