use Rattle.std.proofs.Common.{◌-◌}
use Rattle.model.specs.Calls.{fresh}
use Rattle.model.specs.Transcripts.{replay}
use Rattle.exports.specs.Loops.{Repeats}
use Rattle.exports.proofs.domezatsy_replays.Given as goal

-- the records so far, with those of the runs that are left, are all of them
abbrev pub invariant-loop : goal.invariant-loop
invariant-loop l = Repeats (replay (fresh 0).cluster l.bytes).records l.times l.records (l.times - l.counter)
