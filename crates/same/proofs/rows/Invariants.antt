use Rattle.std.proofs.Common.{◌≡◌, ◌≤◌, length, take}
use Rattle.same.specs.Tests.{Tests}
use Rattle.same.proofs.rows.Given as goal

-- what stands before i is the same
abbrev pub invariant-loop-i : goal.invariant-loop-i
invariant-loop-i g l = Tests (g.E.Fn) l.same → take l.i l.a ≡ take l.i l.b
