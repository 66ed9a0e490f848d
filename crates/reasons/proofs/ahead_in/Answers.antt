use Rattle.model.specs.States.{waiters}
use Rattle.laws.specs.Finding.{first_is}
use Rattle.reasons.proofs.ahead_in.Goals as goal

pub returns-then-x : goal.returns-then-x
unfolding waiters
returns-then-x c = rw c.if-x.true (first_is _ _ _ c.first_waiter.ensures)
