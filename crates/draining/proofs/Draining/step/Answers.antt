use Rattle.std.proofs.Common.{◌≡◌, rules}
use Rattle.model.specs.Names.{Err}
use Rattle.draining.specs.DrainState.{step_refused}
use Rattle.draining.proofs.Draining.step.Goals as goal

pub returns-in_err-plan : goal.returns-in_err-plan
returns-in_err-plan c =
    let e : c.from_residual.result ≡ Err c.in_err-plan.field-0.0 = search rules in
    step_refused _ _ c.requires.planned _ _ c.if-self-eq0.false c.in_err-plan.was e
