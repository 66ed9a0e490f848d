use Rattle.std.proofs.Common.{rules}
use borrow.Author.Tests.{tests}
use Rattle.model.specs.WellFormed.{is_blank_waiter}
use Rattle.formed.specs.Laws.{fold_all}
use Rattle.formed.proofs.blank_waiters.Goals as goal

pub returns : goal.returns
returns c = rw c.iter.ensures.rest at (fold_all is_blank_waiter c.iter.result c.fold.ensures.ran (λ ok x b f k. search (rules, tests)))
