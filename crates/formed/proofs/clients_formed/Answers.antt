use Rattle.std.proofs.Common.{rules, length}
use borrow.Author.Tests.{tests, eq-eqb}
use Rattle.model.specs.States.{clients}
use Rattle.model.specs.WellFormed.{client_formed}
use Rattle.formed.specs.Laws.{all_all}
use Rattle.formed.proofs.clients_formed.Goals as goal

pub returns : goal.returns
returns c =
    rw (eq-eqb (length c.args.a.now) clients c.told-a, ← c.iter.ensures.rest)
    (all_all client_formed c.iter.result c.all.ensures.ran (λ x b f k. search (rules, tests)))
