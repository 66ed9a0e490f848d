use Rattle.std.proofs.Common.{rules, refl, ◌∙◌, length-set}
use Rattle.model.specs.States.{blank_waiter}
use Rattle.formed.specs.Laws.{pass_whole, pass_far, pass_twice, pass_next, pass_end}
use Rattle.formed.proofs.waiters_formed.Goals.{then-i-ge-CLIENTS-via-then-i-ge-CLIENTS, then-i-ge-CLIENTS-via-else-i-ge-CLIENTS+then-seen-i}
use Rattle.formed.proofs.waiters_formed.Goals as goal

pub loop-w-init : goal.loop-w-init
loop-w-init c = (pass_whole _, refl)

pub returns-then-i-ge-CLIENTS : goal.returns-then-i-ge-CLIENTS
returns-then-i-ge-CLIENTS c =
    let i = c.loop-w.invariant.0 in
    elim c.then-i-ge-CLIENTS.branch [
      | then-i-ge-CLIENTS-via-then-i-ge-CLIENTS w ↦ pass_far c.args.a.now _ blank_waiter _ i (search rules) w.if-i-ge-CLIENTS.true
      | then-i-ge-CLIENTS-via-else-i-ge-CLIENTS+then-seen-i w ↦
          pass_twice c.args.a.now _ blank_waiter _ i (search rules) w.if-i-ge-CLIENTS.false w.if-seen-i.true
    ]

pub loop-w-preserved : goal.loop-w-preserved
loop-w-preserved c =
    let i = c.loop-w.invariant in
    (pass_next c.args.a.now _ blank_waiter _ i.0 (search rules) c.if-i-ge-CLIENTS.false c.if-seen-i.false, length-set c.loop-w.seen _ _ ∙ i.1)

pub returns : goal.returns
returns c = pass_end c.args.a.now _ blank_waiter _ c.loop-w.invariant.0 (search rules)
