use Rattle.std.proofs.Common.{arith, rules, ◌<◌, length, get_or, get_or-set_same}
use Rattle.laws.specs.Formed.{cells, ready, read_formed}
use Rattle.planning.specs.Plans.{carried_out}
use Rattle.transcript.specs.Run.{made_range, made_accepted, made_equal, made_refused}
use Rattle.transcript.proofs.run.make.Goals as goal

pub returns-then-l : goal.returns-then-l
returns-then-l c = made_range _ _ _ _ c.requires c.lock_of-l.ensures (omega (arith, c.if-l.true))

pub plan_call-requires : goal.plan_call-requires
plan_call-requires c = read_formed _ _ _ c.requires (omega (arith, c.if-l.false))

pub apply-requires : goal.apply-requires
apply-requires c =
    ((ready _ _ (read_formed c.args.y.now _ _ c.requires (omega (arith, c.if-l.false)))).wire, (rw c.in-Ok.is at c.plan_call.ensures).fits)

-- the wire's length and the cluster are found apart from the step that they are of
pub returns-in-Ok : goal.returns-in-Ok
returns-in-Ok c =
    let inside : c.lock_of-l.result.0 < length c.args.y.now.locks = omega (arith, (cells c.args.y.now c.requires).all_locks, c.if-l.false) in
    made_equal
    (made_accepted _ _ _ _ _ (c.requires, (omega (arith, c.if-l.false), c.lock_of-l.ensures)) (rw c.in-Ok.is at c.plan_call.ensures) (search rules))
    (search (rules, get_or-set_same, inside)) (search rules)

pub returns-in-Err : goal.returns-in-Err
returns-in-Err c = made_refused _ _ _ _ _ (c.requires, (omega (arith, c.if-l.false), c.lock_of-l.ensures)) (rw c.in-Err.is at c.plan_call.ensures)
