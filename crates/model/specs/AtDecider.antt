-- What the decider does with a packet (document 01, "At the decider"; Figure 8 and 4.2 of the source). It knows the owner, the machine to which all
-- that concerns the agent is sent, and counts in its incarnation the shared requests that it granted itself since it chose the owner. Where writers are
-- preferred it has a bit that says that one waits (request 5 of document 02): `noting` and `passes_on` set it, and a FREE clears it.
use Rattle.std.specs.Prelude.{Bool, true, false, ◌&&◌, ◌||◌, not, [], ◌∷◌, ℕ, ◌+◌, ◌%◌, eqb}
use Rattle.model.specs.Lists.{pick}
use Rattle.model.specs.Names.{MachineId, ClientId, Mode, Shared, Owner, Unowned, Owned, Decider, Agent, ToDecider, ToMachine, Message, Free, Acquire}
use Rattle.model.specs.Names.{Grant, Release, Packet, Site}
use Rattle.model.specs.States.{new_agent, plain, carrying, resent, machine_of, is_shared, unowned, prefers_writers}
use Rattle.model.specs.Changes.{Verdict, cannot_place, does, with_decider}
use Rattle.model.specs.Asking.{changed, writer_in}

-- Incarnations are counted in eight bits.
abbrev pub next : ℕ → ℕ
next n = (n + 1) % 256

-- a packet sent on to a machine, otherwise as it is, its count too
abbrev pub sent_on : Packet → MachineId → Packet
sent_on p k = resent p (ToMachine k) p.rejected

-- Sent on to the owner. Where the lock is free there is none, and the packet has no place.
unfoldable pub to_owner : Owner → Site → Packet → Verdict
to_owner Unowned v p = cannot_place
to_owner (Owned m k) v p = does v (sent_on p k ∷ [])

-- The client's machine becomes the owner and gets the agent, inside a GRANT; counting begins anew. The last Bool: the bit.
abbrev pub grants_with : Site → ClientId → Mode → Agent → Bool → Verdict
grants_with v c m a b =
    does (with_decider v (record { owner = Owned m (machine_of c); incarnation = 0; writer = b })) (carrying (Grant c m) (ToMachine (machine_of c)) a ∷ [])

-- A request for a free lock: the agent is a new one, and the bit stays as it is.
abbrev pub grants_first : Site → ClientId → Mode → Verdict
grants_first v c m = grants_with v c m (new_agent m) v.decider.writer

-- A shared request for a shared lock is granted here and counted: a GRANT tells the client, and behind it the request, now marked, tells the agent. Not so
-- while a writer is known to wait: the request is then for the agent to decide.
abbrev pub owned_shared : Owner → Bool
owned_shared Unowned = false
owned_shared (Owned m k) = is_shared m

unfoldable pub may_share : Site → Mode → Bool
may_share v m = owned_shared v.decider.owner && (is_shared m && not v.decider.writer)

abbrev pub shares : Site → ClientId → MachineId → Verdict
shares v c k =
    does (with_decider v (record { owner = v.decider.owner; incarnation = next v.decider.incarnation; writer = v.decider.writer }))
    (plain (Grant c Shared) (ToMachine (machine_of c)) ∷ plain (Acquire c Shared true) (ToMachine k) ∷ [])

-- What the decider knows once it has sent on an unmarked request in mode m: of a writer too, if it is exclusive and writers are preferred.
abbrev pub noting : Site → Mode → Site
noting v m =
    with_decider v (record {
      owner = v.decider.owner;
      incarnation = v.decider.incarnation;
      writer = v.decider.writer || (prefers_writers v.preference && not (is_shared m));
    })

-- Every other request is for the agent to decide. One that is marked has been granted before and is never granted again.
unfoldable pub decides_acquire : Owner → Site → Packet → ClientId → Mode → Bool → Verdict
decides_acquire Unowned v p c m false = grants_first v c m
decides_acquire (Owned n k) v p c m false = pick (may_share v m) (shares v c k) (to_owner (Owned n k) (noting v m) p)
decides_acquire Unowned v p c m true = to_owner Unowned v p
decides_acquire (Owned n k) v p c m true = to_owner (Owned n k) v p

-- A RELEASE is for the agent too. At a free lock there is none: its client gave up, and its request is still under way. So the RELEASE goes to the wire's
-- end, otherwise as it is, and comes to the decider again (request 8 of document 02).
unfoldable pub decides_release : Owner → Site → Packet → Verdict
decides_release Unowned v p = does v (resent p ToDecider p.rejected ∷ [])
decides_release (Owned m k) v p = does v (sent_on p k ∷ [])

-- the carried agent has counted as many grants as the decider
abbrev pub current : Decider → Packet → Bool
current d p = eqb p.carried.agent.incarnation d.incarnation

-- Where it has not, a marked request is still on its way to the agent: the owner gets the agent back, rejected, and nothing is written.
abbrev pub rejected_to : Packet → MachineId → Packet
rejected_to p k = resent p (ToMachine k) true

abbrev pub rejects : Site → Packet → MachineId → Verdict
rejects v p k = does v (rejected_to p k ∷ [])

-- A FREE gives the lock back, unless it is rejected, and then nobody waits. A lock that is free already has no place for it.
unfoldable pub decides_free : Owner → Site → Packet → Verdict
decides_free Unowned v p = cannot_place
decides_free (Owned n k) v p = pick (current v.decider p) (does (with_decider v unowned) []) (rejects v p k)

-- A GRANT that brings the agent makes its client's machine the owner, and agent and decider count anew. Of writers the decider knows what is in the
-- agent's queue.
abbrev pub passes_on : Site → ClientId → Mode → Agent → Verdict
passes_on v c m a = grants_with v c m (changed a a.holders a.queue 0) (prefers_writers v.preference && writer_in a)

-- A GRANT without agent is news for its client alone. The Bool: it carries one.
unfoldable pub decides_grant : Bool → Owner → Site → Packet → ClientId → Mode → Verdict
decides_grant false o v p c m = does v (sent_on p (machine_of c) ∷ [])
decides_grant true Unowned v p c m = cannot_place
decides_grant true (Owned n k) v p c m = pick (current v.decider p) (passes_on v c m p.carried.agent) (rejects v p k)

unfoldable pub decides : Message → Owner → Site → Packet → Verdict
decides (Acquire c m g) o v p = decides_acquire o v p c m g
decides (Grant c m) o v p = decides_grant p.carried.present o v p c m
decides (Release c) o v p = decides_release o v p
decides Free o v p = decides_free o v p

unfoldable pub at_decider : Site → Packet → Verdict
at_decider v p = decides p.message v.decider.owner v p
