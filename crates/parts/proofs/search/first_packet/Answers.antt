use Rattle.std.proofs.Common.{rules, tests}
use Rattle.model.specs.States.{packets}
use Rattle.parts.specs.Sought.{is_sought}
use Rattle.parts.proofs.search.first_packet.Goals as goal

pub returns : goal.returns
unfolding packets
returns c = c.first_index.ensures (is_sought c.args.k c.args.c) (record { each = λ x b k. search (rules, tests) })
