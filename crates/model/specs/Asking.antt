-- What a client's own calls do (document 01, "Asking and handing back"; Figure 6 of the source). An agent on the client's machine serves it there;
-- else the decider is asked.
use Rattle.std.specs.Prelude.{Bool, true, false, ◌&&◌, ◌||◌, not, List, [], ◌∷◌, ◌++◌, ℕ, length, set, leb}
use Rattle.model.specs.Lists.{pick, any}
use Rattle.model.specs.Names.{ClientId, Mode, Waiter, Queue, Agent, AgentSlot, ToDecider, Message, Free, Acquire, Grant, Release, Packet, Idle, Waiting}
use Rattle.model.specs.Names.{Holding, Site}
use Rattle.model.specs.States.{queue_capacity, queue_of, waiters, some_agent, no_agent, listed, plain, carrying, is_shared, is_waiting, prefers_writers}
use Rattle.model.specs.WellFormed.{is_client}
use Rattle.model.specs.Changes.{Verdict, cannot_place, does, with_slot, with_status, with_note}

-- the agent with other holders, queue and incarnation
abbrev pub changed : Agent → List Bool → Queue → ℕ → Agent
changed a hs q n = record { mode = a.mode; holders = hs; queue = q; incarnation = n }

-- the client joins the holders
abbrev pub joining : Agent → ClientId → Agent
joining a c = changed a (set a.holders c.0 true) a.queue a.incarnation

-- the client joins the queue's end
abbrev pub queuing : Agent → ClientId → Mode → Agent
queuing a c m = changed a a.holders (queue_of (waiters a.queue ++ record { client = c; mode = m } ∷ [])) a.incarnation

-- No room in the agent's queue: the client waits there already, or no slot is left.
abbrev pub no_room : Agent → ClientId → Bool
no_room a c = any (is_client c) (waiters a.queue) || leb queue_capacity (length (waiters a.queue))

abbrev pub with_room : Agent → ClientId → Verdict → Verdict
with_room a c w = pick (no_room a c) cannot_place w

-- a writer, who asks exclusively, waits in the agent's queue
abbrev pub is_writer : Waiter → Bool
is_writer w = not (is_shared w.mode)

abbrev pub writer_in : Agent → Bool
writer_in a = any is_writer (waiters a.queue)

-- May a request join the holders of the site's agent: only a shared one, and only where the agent is shared too. Where writers are preferred, it must
-- not pass one in the queue.
unfoldable pub may_join : Site → Mode → Bool
may_join v m = is_shared v.slot.agent.mode && (is_shared m && not (prefers_writers v.preference && writer_in v.slot.agent))

-- A client acquires. At an agent it holds at once, if it may join, or queues up: no packet is sent, and the agent counts no grant. Without an agent
-- here it sends its request to the decider. The Bool: the agent a is there.
unfoldable pub client_asks : Site → ClientId → Mode → Bool → Agent → Verdict
client_asks v c m true a =
    pick (may_join v m)
    (does (with_slot (with_status v (Holding m)) (some_agent (joining a c))) [])
    (with_room a c (does (with_slot (with_status v (Waiting m)) (some_agent (queuing a c m))) []))
client_asks v c m false a = does (with_status v (Waiting m)) (plain (Acquire c m false) ToDecider ∷ [])

unfoldable pub client_acquires : Site → ClientId → Mode → Verdict
client_acquires v c m = client_asks v c m v.slot.present v.slot.agent

-- An agent that has lost its last holder goes to the decider: in a GRANT for whoever waits first, and in a FREE where nobody waits.
abbrev pub any_holder : List Bool → Bool
any_holder hs = any (λ (b : Bool). b) hs

abbrev pub without : Agent → ClientId → List Bool
without a c = set a.holders c.0 false

abbrev pub departing : Message → Agent → List Bool → List Waiter → Packet
departing m a hs ws = carrying m ToDecider (changed a hs (queue_of ws) a.incarnation)

unfoldable pub hand_over : Agent → List Bool → List Waiter → Packet
hand_over a hs [] = departing Free a hs []
hand_over a hs (w ∷ ws) = departing (Grant w.client w.mode) a hs ws

-- the agent, now with the holders hs, stays or goes; the Bool: there is one
unfoldable pub stays_if : Bool → Site → Agent → List Bool → Verdict
stays_if true v a hs = does (with_slot v (some_agent (changed a hs a.queue a.incarnation))) []
stays_if false v a hs = does (with_slot v no_agent) (hand_over a hs (waiters a.queue) ∷ [])

-- the agent strikes the client off, and goes if that was the last
abbrev pub leaves : Site → Agent → ClientId → Verdict
leaves v a c = stays_if (any_holder (without a c)) v a (without a c)

-- A client releases: it is idle from now on. Where its own machine's agent does not list it, the agent that does is to be found by a RELEASE.
abbrev pub lists : AgentSlot → ClientId → Bool
lists x c = x.present && listed x.agent c

unfoldable pub client_releases : Site → ClientId → Verdict
client_releases v c =
    pick (lists v.slot c)
    (leaves (with_status v Idle) v.slot.agent c)
    (does (with_status v Idle) (plain (Release c) ToDecider ∷ []))

-- A client that waits gives up: it is idle from now on, and a RELEASE is to find whatever is left of its request (request 8 of document 02).
unfoldable pub client_gives_up : Site → ClientId → Verdict
client_gives_up v c = does (with_status v Idle) (plain (Release c) ToDecider ∷ [])

-- A GRANT is lost: its client is told nothing, and if it waits there is a note of that.
unfoldable pub grant_is_lost : Site → Verdict
grant_is_lost v = does (with_note v (is_waiting v.status)) []
