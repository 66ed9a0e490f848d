use Rattle.std.proofs.Common.{rules, length}
use borrow.Author.Tests.{tests, eq-eqb}
use Rattle.model.specs.States.{locks}
use Rattle.model.specs.WellFormed.{lock_formed}
use Rattle.formed.specs.Laws.{all_all}
use Rattle.formed.proofs.locks_formed.Goals as goal

pub returns : goal.returns
returns c =
    rw (eq-eqb (length c.args.a.now) locks c.told-a, ← c.iter.ensures.rest)
    (all_all (lock_formed c.args.n) c.iter.result c.all.ensures.ran (λ x b f k. search (rules, tests)))
