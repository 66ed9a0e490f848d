-- What a machine does with a packet (document 01, "At a machine"; Figure 7 and 4.2 of the source).
use Rattle.std.specs.Prelude.{Bool, true, false, ◌&&◌, ◌||◌, List, [], ◌∷◌, map, ℕ, ◌+◌, min, set, Option, Some}
use Rattle.model.specs.Lists.{pick, any}
use Rattle.model.specs.Names.{ClientId, Mode, Shared, Waiter, Agent, AgentSlot, ToDecider, Message, Free, Acquire, Grant, Release, Packet, Status, Idle}
use Rattle.model.specs.Names.{Waiting, Holding, Site, Handling, None, NoAgent, NotHolder, Taken}
use Rattle.model.specs.States.{queue_of, waiters, some_agent, plain, is_shared}
use Rattle.model.specs.WellFormed.{is_client}
use Rattle.model.specs.Changes.{Verdict, cannot_place, does, with_slot, with_status}
use Rattle.model.specs.Asking.{changed, joining, queuing, with_room, may_join, leaves, lists}
use Rattle.model.specs.AtDecider.{next}

-- What finds no agent that can serve it goes back to the decider, and from there to the owner of that time. Its count goes up by one, as far as 255, where it
-- stays (request 7 of document 02); else it is as it was.
abbrev pub one_more : ℕ → ℕ
one_more n = min 255 (n + 1)

abbrev pub sent_back : Packet → Packet
sent_back p = record { message = p.message; to = ToDecider; rejected = p.rejected; circled = one_more p.circled; carried = p.carried }

abbrev pub sends_back : Site → Packet → Verdict
sends_back v p = does v (sent_back p ∷ [])

-- Where an agent is installed with mode m, who of its queue is admitted to the holders: if m is shared, its first waiters, as far as all of them are shared;
-- else nobody. The others stay as they stood (request 3 of document 02: first come, first served).
abbrev pub may_leave : Mode → Waiter → Bool
may_leave m w = is_shared m && is_shared w.mode

unfoldable pub admitted : Mode → List Waiter → List Waiter
admitted m [] = []
admitted m (w ∷ ws) = pick (may_leave m w) (w ∷ admitted m ws) []

unfoldable pub staying : Mode → List Waiter → List Waiter
staying m [] = []
staying m (w ∷ ws) = pick (may_leave m w) (staying m ws) (w ∷ ws)

unfoldable pub joined : List Bool → List Waiter → List Bool
joined hs [] = hs
joined hs (w ∷ ws) = joined (set hs w.client.0 true) ws

abbrev pub grant_of : Waiter → Packet
grant_of w = plain (Grant w.client Shared) ToDecider

-- The agent takes the mode for which it was sent, and lists the client and whoever is admitted. These are told by way of the decider.
abbrev pub installed : Mode → ClientId → Agent → Agent
installed m c a =
    record {
      mode = m;
      holders = joined (set a.holders c.0 true) (admitted m (waiters a.queue));
      queue = queue_of (staying m (waiters a.queue));
      incarnation = a.incarnation;
    }

-- What a GRANT in mode m makes of its client: it holds, unless it is idle. Then it gave up, and stays idle (request 8 of document 02).
abbrev pub granted_in : Mode → Status → Status
granted_in m Idle = Idle
granted_in m (Waiting n) = Holding m
granted_in m (Holding n) = Holding m

unfoldable pub installs : Site → ClientId → Mode → Agent → Verdict
installs v c m a = does (with_slot (with_status v (granted_in m v.status)) (some_agent (installed m c a))) (map grant_of (admitted m (waiters a.queue)))

-- Back from a GRANT that was rejected, with its client as the first in the queue again.
abbrev pub requeued : Agent → ClientId → Mode → Agent
requeued a c m = changed a a.holders (queue_of (record { client = c; mode = m } ∷ waiters a.queue)) a.incarnation

-- A GRANT tells its client that it holds, and may bring the agent. A machine has no place for a second one. The Bools: an agent is here, one is
-- carried.
unfoldable pub grant_arrives : Bool → Bool → Site → Agent → ClientId → Mode → Verdict
grant_arrives here false v a c m = does (with_status v (granted_in m v.status)) []
grant_arrives true true v a c m = cannot_place
grant_arrives false true v a c m = installs v c m a

-- A rejected GRANT tells nobody. The Bool: an agent is here.
unfoldable pub rejected_grant_arrives : Bool → Site → Agent → ClientId → Mode → Verdict
rejected_grant_arrives true v a c m = cannot_place
rejected_grant_arrives false v a c m = with_room a c (does (with_slot v (some_agent (requeued a c m))) [])

-- A marked ACQUIRE is of a client that the decider has told: it is listed, and the agent counts what the decider counted. An exclusive agent has no
-- place for it.
unfoldable pub marked : Site → Agent → ClientId → Verdict
marked v a c =
    pick (is_shared a.mode)
    (does (with_slot v (some_agent (changed a (set a.holders c.0 true) a.queue (next a.incarnation)))) [])
    cannot_place

-- An unmarked one is served as a client of this machine would be, but whoever joins has to be told, by way of the decider.
unfoldable pub unmarked : Site → Agent → ClientId → Mode → Verdict
unmarked v a c m =
    pick (may_join v m)
    (does (with_slot v (some_agent (joining a c))) (plain (Grant c m) ToDecider ∷ []))
    (with_room a c (does (with_slot v (some_agent (queuing a c m))) []))

-- The first Bool: an agent is here; the last: marked.
unfoldable pub acquire_arrives : Bool → Site → Agent → Packet → ClientId → Mode → Bool → Verdict
acquire_arrives false v a p c m g = sends_back v p
acquire_arrives true v a p c m true = marked v a c
acquire_arrives true v a p c m false = unmarked v a c m

-- A RELEASE is for the agent that lists its client, or has it in its queue: then the client gave up, and is taken off it. No agent leaves for that, and
-- nobody behind it is admitted (request 8 of document 02).
abbrev pub queues : AgentSlot → ClientId → Bool
queues x c = x.present && any (is_client c) (waiters x.agent.queue)

unfoldable pub taken_off : ClientId → List Waiter → List Waiter
taken_off c [] = []
taken_off c (w ∷ ws) = pick (is_client c w) ws (w ∷ taken_off c ws)

abbrev pub unqueuing : Agent → ClientId → Agent
unqueuing a c = changed a a.holders (queue_of (taken_off c (waiters a.queue))) a.incarnation

unfoldable pub release_arrives : Site → Packet → ClientId → Verdict
release_arrives v p c =
    pick (lists v.slot c)
    (leaves v v.slot.agent c)
    (pick (queues v.slot c) (does (with_slot v (some_agent (unqueuing v.slot.agent c))) []) (sends_back v p))

-- A FREE comes to a machine only when it was rejected: the agent is back as it left. A machine has no place for a second one.
unfoldable pub free_arrives : Bool → Site → AgentSlot → Verdict
free_arrives true v carried = cannot_place
free_arrives false v carried = does (with_slot v carried) []

unfoldable pub arrives : Message → Site → Packet → Verdict
arrives (Acquire c m g) v p = acquire_arrives v.slot.present v v.slot.agent p c m g
arrives (Grant c m) v p =
    pick p.rejected
    (rejected_grant_arrives v.slot.present v p.carried.agent c m)
    (grant_arrives v.slot.present p.carried.present v p.carried.agent c m)
arrives (Release c) v p = release_arrives v p c
arrives Free v p = free_arrives v.slot.present v p.carried

unfoldable pub at_machine : Site → Packet → Verdict
at_machine v p = arrives p.message v p

-- Why a request comes back (request 4 of document 02): what a machine with this slot makes of it. An ACQUIRE is for any agent, a RELEASE for the one that lists
-- or queues its client. A GRANT and a FREE are no requests.
unfoldable pub handles : Message → AgentSlot → Option Handling
handles (Acquire c m g) x = pick x.present (Some Taken) (Some NoAgent)
handles (Release c) x = pick x.present (pick (lists x c || queues x c) (Some Taken) (Some NotHolder)) (Some NoAgent)
handles (Grant c m) x = None
handles Free x = None
