use Rattle.std.proofs.Common.{◌-◌, length}
use Rattle.exports.specs.Loops.{Counts}
use Rattle.exports.proofs.domezatsy_calls.Given as goal

-- the accepted so far, with those of the records that are left, are all of them
abbrev pub invariant-loop : goal.invariant-loop
invariant-loop l = Counts l.bytes l.x l.accepted l.at (length l.bytes - l.counter)
