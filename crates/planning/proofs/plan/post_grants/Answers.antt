use Rattle.std.proofs.Common.{◌≡◌, refl, ◌+◌, ◌≤◌, [], length, take, drop, append-nil, arith, rules}
use Rattle.std.proofs.Math.ListN.{drop_of_length-le}
use Rattle.model.specs.States.{queue_capacity, wire_capacity, waiters}
use Rattle.planning.specs.Sending.{used_slots}
use Rattle.planning.proofs.plan.post_grants.Goals as goal

pub loop-waiter-init : goal.loop-waiter-init
unfolding waiters
loop-waiter-init c =
    let q = c.args.q in
    let n : length q.slots ≡ queue_capacity = search rules in
    let e : take c.used.result q.slots ≡ take q.len q.slots = rw c.used.ensures (used_slots q.len queue_capacity q.slots n) in
    let r : c.args.w.now.len + length (take q.len q.slots) ≤ wire_capacity = c.requires.1 in
    record { whole = c.requires.0; sent = refl; room = rw e (omega arith) }

pub returns-clause-sent : goal.returns-clause-sent
unfolding waiters
returns-clause-sent c =
    let q = c.args.q in
    let l = c.loop-waiter in
    let n : length q.slots ≡ queue_capacity = search rules in
    let e : take c.used.result q.slots ≡ take q.len q.slots = rw c.used.ensures (used_slots q.len queue_capacity q.slots n) in
    let d : drop l.waiter-index (take c.used.result q.slots) ≡ [] = drop_of_length-le (take c.used.result q.slots) c.loop-waiter-test.false in
    rw (d, append-nil, e) at l.invariant.sent
