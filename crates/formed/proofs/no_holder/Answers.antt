use Rattle.std.proofs.Common.{rules, length, not}
use borrow.Author.Tests.{tests, eq-eqb}
use Rattle.model.specs.States.{clients}
use Rattle.formed.specs.Laws.{fold_all}
use Rattle.formed.proofs.no_holder.Goals as goal

pub returns : goal.returns
returns c =
    rw (eq-eqb (length c.args.h.now) clients c.told-h, ← c.iter.ensures.rest)
    (fold_all not c.iter.result c.fold.ensures.ran (λ ok x b f k. search (rules, tests)))
