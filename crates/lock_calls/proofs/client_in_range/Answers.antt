use Rattle.std.proofs.Common.{[]}
use Rattle.model.specs.Refusals.{first}
use Rattle.lock_calls.specs.LockCalls.{in_range_lem}
use Rattle.lock_calls.proofs.client_in_range.Goals as goal

pub client_of-requires : goal.client_of-requires
unfolding first
client_of-requires c = in_range_lem _ _ [] (rw c.in_ok-range_test.was at (c.range_test.ensures []))
