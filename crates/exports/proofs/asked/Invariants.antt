use Rattle.std.proofs.Common.{◌+◌, ◌-◌}
use Rattle.exports.specs.Counts.{answered}
use Rattle.exports.specs.Loops.{Repeats}
use Rattle.exports.proofs.asked.Given as goal

-- what is added so far, with what is left to add, is the whole
abbrev pub invariant-loop : goal.invariant-loop
invariant-loop l = Repeats (answered l.x l.lock l.client + 1) l.times l.total (l.times - l.counter)
