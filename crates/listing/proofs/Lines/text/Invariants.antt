-- As many bytes of the text are put as there were turns.
use Rattle.std.proofs.Common.{take}
use Rattle.listing.specs.Lines.{Puts}
use Rattle.listing.proofs.Lines.text.Given as goal

abbrev pub invariant-loop-b : goal.invariant-loop-b
invariant-loop-b l = Puts (take l.b-index l.s) l.initial.self l.self
