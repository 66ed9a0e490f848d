use Rattle.std.proofs.Common.{rules, tests, sym, ◌∙◌, Bool}
use Rattle.std.proofs.lemmas.Iterator.{YieldsList-from_slice}
use Rattle.std.proofs.lemmas.Iterator.Search.{any_from_yields_List}
use Rattle.parts.specs.Search.{any_is}
use Rattle.parts.proofs.holders.any_holder.Goals as goal

pub returns : goal.returns
returns c =
    any_from_yields_List (λ (b : Bool). b) _ _ c.any.result c.any.ensures.ran (YieldsList-from_slice c.args.h cc) (λ x b q k. search (rules, tests))
    ∙ sym (any_is _ c.args.h)
