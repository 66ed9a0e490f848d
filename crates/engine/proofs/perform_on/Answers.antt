use Rattle.std.proofs.Common.{◌∙◌}
use Rattle.laws.specs.Formed.{ready, read_formed}
use Rattle.lock_calls.specs.LockCalls.{perform_accepts, perform_refuses}
use Rattle.engine.proofs.perform_on.Goals as goal

pub plan_call-requires : goal.plan_call-requires
plan_call-requires c = read_formed _ _ _ c.requires.0 c.requires.1.0

pub carry_out-requires : goal.carry_out-requires
carry_out-requires c = ((ready _ _ (read_formed c.args.x _ _ c.requires.0 c.requires.1.0)).wire, (rw c.in-Ok.is at c.plan_call.ensures).fits)

pub returns-in-Ok : goal.returns-in-Ok
returns-in-Ok c = rw c.carry_out.ensures (perform_accepts _ _ _ _ c.requires (rw c.in-Ok.is at c.plan_call.ensures))

pub returns-in-Err : goal.returns-in-Err
returns-in-Err c = c.refuse_call.ensures ∙ perform_refuses _ _ _ _ c.requires (rw c.in-Err.is at c.plan_call.ensures)
