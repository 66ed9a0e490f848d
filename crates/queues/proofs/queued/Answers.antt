use Rattle.std.proofs.Common.{rules, tests, sym, ◌∙◌, take}
use Rattle.std.proofs.lemmas.Iterator.{YieldsList-from_slice}
use Rattle.std.proofs.lemmas.Iterator.Search.{any_from_yields_List}
use Rattle.model.specs.States.{waiters}
use Rattle.model.specs.WellFormed.{is_client}
use Rattle.parts.specs.Search.{any_is}
use Rattle.queues.proofs.queued.Goals as goal

pub returns : goal.returns
unfolding waiters
returns c =
    let ws = take c.args.a.queue.len c.args.a.queue.slots in
    any_from_yields_List (is_client c.args.c) _ _ c.any.result c.any.ensures.ran (YieldsList-from_slice ws cc) (λ x b q k. search (rules, tests))
    ∙ sym (any_is _ ws)
