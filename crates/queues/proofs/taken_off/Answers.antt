use Rattle.std.proofs.Common.{sym, ◌∙◌, ap, arith}
use Rattle.std.specs.Prelude.{List}
use Rattle.model.specs.declared.{Waiter.Waiter}
use Rattle.model.specs.States.{waiters, queue_of}
use Rattle.laws.specs.Shapes.{queue_whole, length_waiters}
use Rattle.laws.specs.Finding.{off_first, off_none, first_below}
use Rattle.model.specs.WellFormed.{is_client}
use Rattle.queues.proofs.taken_off.Goals as goal

pub without_at-requires : goal.without_at-requires
unfolding waiters
without_at-requires c =
    let q = c.args.q in
    (c.requires, omega (arith, first_below (is_client c.args.c) (waiters q) _ c.in-Some.ensures, length_waiters q c.requires))

pub returns-in-None : goal.returns-in-None
unfolding waiters
returns-in-None c =
    let q = c.args.q in
    queue_whole q c.requires ∙ sym (ap (λ (ws : List Waiter). queue_of ws) (off_none c.args.c (waiters q) c.in-None.ensures))

pub returns-in-Some : goal.returns-in-Some
unfolding waiters
returns-in-Some c =
    c.without_at.ensures ∙ sym (ap (λ (ws : List Waiter). queue_of ws) (off_first c.args.c (waiters c.args.q) _ c.in-Some.ensures))
