use Rattle.std.proofs.Common.{rules, tests, sym, ◌∙◌, take}
use Rattle.std.proofs.lemmas.Iterator.{YieldsList-from_slice}
use Rattle.std.proofs.lemmas.Iterator.Search.{any_from_yields_List}
use Rattle.model.specs.States.{waiters}
use Rattle.model.specs.Asking.{is_writer}
use Rattle.parts.specs.Search.{any_is}
use Rattle.queues.proofs.writer_first.Goals as goal

pub returns-then-p-eq1 : goal.returns-then-p-eq1
unfolding waiters
returns-then-p-eq1 c =
    let ws = take c.args.a.queue.len c.args.a.queue.slots in
    rw c.if-p-eq1.true (
    any_from_yields_List is_writer _ _ c.any.result c.any.ensures.ran (YieldsList-from_slice ws cc) (λ x b q k. search (rules, tests))
    ∙ sym (any_is _ ws)
    )
