use Rattle.std.proofs.Common.{rules}
use borrow.Author.Tests.{tests}
use Rattle.model.specs.WellFormed.{packet_formed}
use Rattle.formed.specs.Laws.{all_all}
use Rattle.formed.proofs.packets_formed.Goals as goal

pub returns : goal.returns
returns c = rw c.iter.ensures.rest at (all_all packet_formed c.iter.result c.all.ensures.ran (λ x b f k. search (rules, tests)))
