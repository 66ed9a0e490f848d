use Rattle.std.proofs.Common.{◌≡◌, ◌+◌, ◌-◌, ◌≤◌, ◌++◌, drop, length, map}
use Rattle.model.specs.States.{wire_capacity, packets}
use Rattle.model.specs.AtMachine.{grant_of}
use Rattle.laws.specs.Shapes.{CanonicalWire}
use Rattle.planning.proofs.plan.post_grants.Given as goal

-- with the GRANTs that are left the wire comes to what it comes to with all of them, and there is room for them
abbrev pub invariant-loop-waiter : goal.invariant-loop-waiter
invariant-loop-waiter l = record {
  whole : CanonicalWire l.w;
  sent : packets l.w ++ map grant_of (drop l.waiter-index l.waiter-items) ≡ packets l.initial.w ++ map grant_of l.waiter-items;
  room : l.w.len + (length l.waiter-items - l.waiter-index) ≤ wire_capacity;
}
