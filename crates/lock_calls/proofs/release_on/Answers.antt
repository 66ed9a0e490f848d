use Rattle.std.proofs.Common.{rules}
use Rattle.model.specs.States.{client_of}
use Rattle.model.specs.Refusals.{first}
use Rattle.model.specs.Calls.{holding_tests}
use Rattle.lock_calls.specs.LockCalls.{release_on, step_unless}
use Rattle.lock_calls.proofs.release_on.Goals as goal

pub returns-in_err-c : goal.returns-in_err-c
unfolding first release_on step_unless
returns-in_err-c c = let h = c.client_in_range.ensures (holding_tests c.args.s.now (client_of c.args.k c.args.t)) in search rules

pub returns-in_err-holding_test : goal.returns-in_err-holding_test
unfolding first release_on step_unless
returns-in_err-holding_test c = let h = c.client_in_range.ensures (holding_tests c.args.s.now (client_of c.args.k c.args.t)) in search rules

pub returns : goal.returns
unfolding first release_on step_unless
returns c = let h = c.client_in_range.ensures (holding_tests c.args.s.now (client_of c.args.k c.args.t)) in search rules
