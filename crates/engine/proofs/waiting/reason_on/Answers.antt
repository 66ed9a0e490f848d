use Rattle.std.proofs.Common.{rules, []}
use Rattle.model.specs.Refusals.{first}
use Rattle.model.specs.Reasons.{reason_unless}
use Rattle.engine.proofs.waiting.reason_on.Goals as goal

pub returns-in_err-c : goal.returns-in_err-c
unfolding first reason_unless
returns-in_err-c c = let h = c.client_in_range.ensures [] in search rules

pub returns : goal.returns
unfolding first reason_unless
returns c = let h = c.client_in_range.ensures [] in search rules
