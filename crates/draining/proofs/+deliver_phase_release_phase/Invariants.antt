use Rattle.std.proofs.Common.{◌≡◌, ◌<◌}
use Rattle.draining.specs.DrainState.{Since}
use Rattle.draining.proofs.+deliver_phase_release_phase.Given as goal

-- each phase makes a step before it hands over
abbrev pub decreases-deliver_phase : goal.decreases-deliver_phase
decreases-deliver_phase l = l.d.now.left

abbrev pub decreases-release_phase : goal.decreases-release_phase
decreases-release_phase l = l.d.now.left

-- the drain has come to d, and where it made no step there is a packet still
abbrev pub invariant-deliver_phase-loop-d : goal.invariant-deliver_phase-loop-d
invariant-deliver_phase-loop-d l = Since (λ d. 0 < d.state.wire.len) l.initial.d l.d

abbrev pub decreases-deliver_phase-loop-d : goal.decreases-deliver_phase-loop-d
decreases-deliver_phase-loop-d l = l.d.left

-- and here the wire is empty still
abbrev pub invariant-release_phase-loop-d : goal.invariant-release_phase-loop-d
invariant-release_phase-loop-d l = Since (λ d. d.state.wire.len ≡ 0) l.initial.d l.d

abbrev pub decreases-release_phase-loop-d : goal.decreases-release_phase-loop-d
decreases-release_phase-loop-d l = l.d.left
