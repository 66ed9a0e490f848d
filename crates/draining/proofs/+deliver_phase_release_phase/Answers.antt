use Rattle.std.proofs.Common.{◌∙◌, sym}
use Rattle.draining.specs.DrainState.{turn_planned}
use Rattle.draining.proofs.+deliver_phase_release_phase.Goals as goal

pub release_phase-step-requires-clause-planned : goal.release_phase-step-requires-clause-planned
release_phase-step-requires-clause-planned t c =
    turn_planned _ _ c.loop-d.invariant.0.formed c.loop-d-test.true _ _ (sym c.turn_of.ensures ∙ c.in-Some.is) c.plan_turn-plan.ensures
