use Rattle.std.proofs.Common.{rules, length}
use borrow.Author.Tests.{tests, eq-eqb}
use Rattle.model.specs.States.{machines}
use Rattle.model.specs.WellFormed.{slot_formed}
use Rattle.formed.specs.Laws.{all_all}
use Rattle.formed.proofs.slots_formed.Goals as goal

pub returns : goal.returns
returns c =
    rw (eq-eqb (length c.args.a.now) machines c.told-a, ← c.iter.ensures.rest)
    (all_all slot_formed c.iter.result c.all.ensures.ran (λ x b f k. search (rules, tests)))
