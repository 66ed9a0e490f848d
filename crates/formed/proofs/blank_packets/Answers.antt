use Rattle.std.proofs.Common.{rules}
use borrow.Author.Tests.{tests}
use Rattle.model.specs.WellFormed.{is_blank_packet}
use Rattle.formed.specs.Laws.{all_all}
use Rattle.formed.proofs.blank_packets.Goals as goal

pub returns : goal.returns
returns c = rw c.iter.ensures.rest at (all_all is_blank_packet c.iter.result c.all.ensures.ran (λ x b f k. search (rules, tests)))
