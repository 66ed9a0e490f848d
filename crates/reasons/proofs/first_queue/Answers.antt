use Rattle.std.proofs.Common.{arith, rules, sym, drop_of_length-le}
use Rattle.parts.specs.Scans.{all_more}
use Rattle.reasons.specs.Searching.{queue_hit, queue_miss, queue_end}
use Rattle.reasons.proofs.first_queue.Goals as goal

pub returns-in-Some : goal.returns-in-Some
returns-in-Some g c =
    let here = rw (← c.index-places-i.is) at (all_more c.args.places.now c.loop-i.i c.index-places-i.result c.loop-i-test.true) in
    rw c.reason.ensures (queue_hit _ _ _ c.loop-i.invariant here (rw c.slot.ensures at (sym c.in-Some.ensures)) (omega arith))

pub loop-i-preserved : goal.loop-i-preserved
loop-i-preserved g c =
    let here = rw (← c.index-places-i.is) at (all_more c.args.places.now c.loop-i.i c.index-places-i.result c.loop-i-test.true) in
    queue_miss _ _ _ c.loop-i.invariant here (rw c.slot.ensures at (sym c.in_default.ensures))

pub returns : goal.returns
returns g c = queue_end _ _ _ c.loop-i.invariant (drop_of_length-le c.args.places.now {i = c.loop-i.i} (search rules))
