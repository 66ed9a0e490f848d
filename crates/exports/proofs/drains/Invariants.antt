use Rattle.std.proofs.Common.{◌-◌}
use Rattle.model.specs.Drain.{drain}
use Rattle.exports.specs.Loops.{Repeats}
use Rattle.exports.proofs.drains.Given as goal

-- the steps so far, with those that are left, are all of them
abbrev pub invariant-loop : goal.invariant-loop
invariant-loop l = Repeats (drain l.x (record { 0 = l.lock })).count l.times l.steps (l.times - l.counter)
