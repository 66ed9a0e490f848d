-- The packet in which an agent leaves its machine.
use Rattle.std.specs.Prelude.{◌≡◌, refl, Bool, List, [], ◌∷◌, ◌<◌, ◌≤◌, length, get_or}
use Rattle.std.proofs.Common.{ap, ◌∙◌, arith}
use Rattle.rules.specs.Names.{Waiter, Queue, Agent, ToDecider, Free, Grant, Packet}
use Rattle.model.specs.Lists.{removed}
use Rattle.model.specs.States.{blank_waiter, waiters, carrying}
use Rattle.model.specs.Asking.{changed, departing, hand_over}
use Rattle.laws.specs.Shapes.{CanonicalQueue, queue_whole, length_waiters}

hand_some : (a : Agent) (hs : List Bool) (ws : List Waiter) → 0 < length ws
    → departing (Grant (get_or ws 0 blank_waiter).client (get_or ws 0 blank_waiter).mode) a hs (removed ws 0) ≡ hand_over a hs ws
unfolding hand_over removed
hand_some a hs [] h = absurd (omega arith)
hand_some a hs (w ∷ ws) h = refl

pub hands_on : (a : Agent) (hs : List Bool) → CanonicalQueue a.queue → 0 < a.queue.len
    → departing (Grant (get_or (waiters a.queue) 0 blank_waiter).client (get_or (waiters a.queue) 0 blank_waiter).mode) a hs (removed (waiters a.queue) 0)
    ≡ hand_over a hs (waiters a.queue)
hands_on a hs h k = hand_some a hs (waiters a.queue) (omega (arith, length_waiters a.queue h))

hand_none : (a : Agent) (hs : List Bool) (ws : List Waiter) → length ws ≤ 0 → departing Free a hs ws ≡ hand_over a hs ws
unfolding hand_over
hand_none a hs [] h = refl
hand_none a hs (w ∷ ws) h = absurd (omega arith)

abbrev freeing : Agent → List Bool → Queue → Packet
freeing a hs q = carrying Free ToDecider (changed a hs q a.incarnation)

pub frees : (a : Agent) (hs : List Bool) → CanonicalQueue a.queue → a.queue.len ≤ 0 → freeing a hs a.queue ≡ hand_over a hs (waiters a.queue)
frees a hs h k =
    ap (λ (q : Queue). freeing a hs q) (queue_whole a.queue h)
    ∙ hand_none a hs (waiters a.queue) (omega (arith, length_waiters a.queue h))
