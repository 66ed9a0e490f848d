use Rattle.std.proofs.Common.{rules, tests}
use Rattle.model.specs.States.{waiters}
use Rattle.model.specs.WellFormed.{is_client}
use Rattle.parts.proofs.search.first_waiter.Goals as goal

pub returns : goal.returns
unfolding waiters
returns c = c.first_index.ensures (is_client c.args.c) (record { each = λ x b k. search (rules, tests) })
