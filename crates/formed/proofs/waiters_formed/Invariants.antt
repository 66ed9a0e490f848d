use Rattle.std.proofs.Common.{◌≡◌, ◌&&◌, length, drop}
use Rattle.model.specs.Lists.{all}
use Rattle.model.specs.States.{clients}
use Rattle.model.specs.WellFormed.{waiter_in_range, distinct}
use Rattle.formed.specs.Laws.{all_new}
use Rattle.formed.proofs.waiters_formed.Given as goal

-- that what is left of the queue is in range and new to those seen is what is to be found of the whole queue
abbrev pub invariant-loop-w : goal.invariant-loop-w
invariant-loop-w l =
    (all_new l.seen (drop l.w-index l.a) ≡ (all waiter_in_range l.a && distinct l.a)) × (length l.seen ≡ clients)
