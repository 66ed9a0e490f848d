use Rattle.std.proofs.Common.{sym, ◌∙◌, rules}
use Rattle.exports.specs.Loops.{calls_other, calls_spent, counts_next, counts_all}
use Rattle.exports.proofs.domezatsy_calls.Goals as goal

pub returns-in_default : goal.returns-in_default
returns-in_default c = counts_all c.loop.invariant (calls_other _ _ _ (rw c.read_at.ensures at c.in_default.not-Record))

pub loop-preserved : goal.loop-preserved
loop-preserved c =
    let next = counts_next c.loop.invariant _ _ (search rules) (sym c.read_at.ensures ∙ c.in-Record.is) in
    rw (c.accepted_one-accepted.ensures, c.perform-o.ensures) (search (rules, next))

pub returns : goal.returns
returns c = counts_all c.loop.invariant (calls_spent _ _ _ (search rules))
