use Rattle.std.proofs.Common.{◌≡◌, refl, ◌+◌, ◌-◌, ◌∙◌, [], ◌∷◌, arith, length, take, drop, get_or, drop-cons, add-one}
use Rattle.std.proofs.Math.ListN.{drop_of_length-le}
use Rattle.model.specs.States.{blank_waiter, waiters}
use Rattle.machine.specs.Admits.{admits, room_start, room_next, admits_start}
use Rattle.machine.proofs.admit_queue.Goals as goal

pub loop-w-init : goal.loop-w-init
loop-w-init c = (refl, rw (c.empty_queue.ensures, c.empty_queue-2.ensures) (room_start c.args.holders _ (omega arith)))

pub loop-w-preserved : goal.loop-w-preserved
unfolding admits
loop-w-preserved c =
    let l = c.loop-w in
    let ws = take c.args.q.len c.args.q.slots in
    let o : drop l.w-index ws ≡ get_or ws l.w-index blank_waiter ∷ drop (l.w-index + 1) ws =
    rw add-one (drop-cons ws l.w-index blank_waiter c.loop-w-test.true) in
    let m : length ws - l.w-index ≡ 1 + (length ws - (l.w-index + 1)) = omega arith in
    rw c.admit.ensures (rw o at l.invariant.0, room_next c.args.m l.t _ _ (rw m at l.invariant.1))

pub returns : goal.returns
unfolding admits waiters
returns c =
    let l = c.loop-w in
    let ws = take c.args.q.len c.args.q.slots in
    let e : drop l.w-index ws ≡ [] = drop_of_length-le ws c.loop-w-test.false in
    rw e at l.invariant.0 ∙ rw (c.empty_queue.ensures, c.empty_queue-2.ensures) (admits_start c.args.m c.args.holders ws)
