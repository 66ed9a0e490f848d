use Rattle.std.proofs.Common.{rules, ◌∷◌}
use Rattle.model.specs.States.{client_of}
use Rattle.model.specs.Refusals.{first, ◌when◌}
use Rattle.model.specs.Calls.{idle_tests}
use Rattle.lock_calls.specs.LockCalls.{acquire_on, step_unless, mode_tests}
use Rattle.lock_calls.proofs.acquire_on.Goals as goal

pub returns-in_err-c : goal.returns-in_err-c
unfolding first acquire_on step_unless
returns-in_err-c c = let h = c.client_in_range.ensures (mode_tests c.args.s.now (client_of c.args.k c.args.t) c.args.m) in search rules

pub returns-in_err-mode : goal.returns-in_err-mode
unfolding first acquire_on step_unless
returns-in_err-mode c = let h = c.client_in_range.ensures (mode_tests c.args.s.now (client_of c.args.k c.args.t) c.args.m) in search rules

pub returns-in_err-idle_test : goal.returns-in_err-idle_test
unfolding first acquire_on step_unless
returns-in_err-idle_test c = let h = c.client_in_range.ensures (mode_tests c.args.s.now (client_of c.args.k c.args.t) c.args.m) in search rules

pub returns : goal.returns
unfolding first acquire_on step_unless
returns c = let h = c.client_in_range.ensures (mode_tests c.args.s.now (client_of c.args.k c.args.t) c.args.m) in search rules
