use Rattle.std.proofs.Common.{rules}
use Rattle.digest.specs.Parts.{folded}
use Rattle.digest.proofs.all.Goals as goal

pub returns : goal.returns
returns g c = rw (← folded g.T.Digest.bytes c.args.h c.args.xs.now) (search rules)
