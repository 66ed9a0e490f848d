-- Room in an agent's queue.
use Rattle.std.specs.Prelude.{◌≡◌, false, ◌<◌, length}
use Rattle.std.proofs.Common.{arith, leb-false}
use Rattle.rules.specs.Names.{ClientId, Agent}
use Rattle.model.specs.Lists.{any}
use Rattle.model.specs.States.{queue_capacity, waiters}
use Rattle.model.specs.WellFormed.{is_client}
use Rattle.model.specs.Asking.{no_room}
use Rattle.laws.specs.Tests.{or_right}
use Rattle.laws.specs.Shapes.{CanonicalQueue, length_waiters}

-- for one more waiter
pub room_left : (a : Agent) (c : ClientId) → CanonicalQueue a.queue → no_room a c ≡ false → a.queue.len < queue_capacity
room_left a c h e =
    let n : length (waiters a.queue) < queue_capacity = leb-false queue_capacity _ (or_right (any (is_client c) (waiters a.queue)) _ e) in
    omega (arith, length_waiters a.queue h)
