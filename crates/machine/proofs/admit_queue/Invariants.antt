use Rattle.std.proofs.Common.{◌≡◌, ◌-◌, length, drop}
use Rattle.machine.specs.Admits.{Room, admits}
use Rattle.machine.proofs.admit_queue.Given as goal

-- from t on, what is left of the waiters comes to what all of them come to, and there is room for it
abbrev pub invariant-loop-w : goal.invariant-loop-w
invariant-loop-w l =
    (admits l.m l.t (drop l.w-index l.w-items) ≡ admits l.m l.initial.t l.w-items) × Room l.t (length l.w-items - l.w-index)
