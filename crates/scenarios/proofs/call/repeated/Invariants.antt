use Rattle.std.proofs.Common.{◌≤◌}
use Rattle.scenarios.proofs.call.repeated.Given as goal

abbrev pub invariant-loop-i : goal.invariant-loop-i
invariant-loop-i _ l = l.accepted ≤ l._i
