-- What is left of an idle client that no packet names: nothing. What it asked for, its places in queues and lists and what it owes add up, so that without
-- a packet of it there is none (fact 'presence' of the invariant).
use Rattle.std.specs.Prelude.{◌≡◌, ◌&&◌, ◌+◌, ◌<◌}
use Rattle.theorems.specs.Names.{MachineId, ClientId, Exclusive, Shared, Waiter, AgentSlot, Packet, Idle, LockState, Call, refl, ◌∙◌, Bool, true}
use Rattle.theorems.specs.Names.{false, List, ℕ, arith, get_or, any, clients, agent_on, no_agent, blank_packet, waiters, packets, lock_in}
use Rattle.theorems.specs.Names.{after, lists, queues, names, packet_at, is_client}
use Rattle.theorems.specs.Tally.{flag, gate, tally, tally_any}
use Rattle.theorems.specs.Weights.{weight, hit_w, queued_s, waiting_p, listed_s, listed_p, mark_m, ask_m, status_at}
use Rattle.theorems.specs.Invariant.{Inv}
use Rattle.theorems.specs.Facts.{flag_none}
use Rattle.theorems.specs.Waiters.{any_none, line_once}
use Rattle.theorems.specs.Clients.{names_none, absent_now}
use Rattle.theorems.specs.Runs.{reached}
use Rattle.theorems.specs.Theorems.{trace_agrees}
use Rattle.theorems.specs.Statements.{NothingLeft, LeavesNothing}

-- ---- a slot that counts for none of its places
slot_without : (x : AgentSlot) (c : ClientId) → listed_s c.0 x + queued_s c.0 Exclusive x + queued_s c.0 Shared x ≡ 0
    → (lists x c ≡ false) × (queues x c ≡ false)
unfolding listed_s queued_s
slot_without x c none = go x.present (get_or x.agent.holders c.0 false) (waiters x.agent.queue) none
  where
    go : (b h : Bool) (ws : List Waiter) → gate b (flag h) + gate b (tally (hit_w c.0 Exclusive) ws) + gate b (tally (hit_w c.0 Shared) ws) ≡ 0
        → ((b && h) ≡ false) × ((b && any (is_client c) ws) ≡ false)
    go false h ws e = (refl, refl)
    go true h ws e = (flag_none h (omega (arith, e)), any_none c ws (omega (arith, e, line_once ws c.0)))

module _ (s : LockState) (i : Inv s) (c : ClientId) (below : c.0 < clients) (idle : status_at s c.0 ≡ Idle)
    (unnamed : any (names c) (packets s.wire) ≡ false) where
  none : weight (waiting_p c.0 Exclusive) (queued_s c.0 Exclusive) s + weight (waiting_p c.0 Shared) (queued_s c.0 Shared) s
      + weight (listed_p c.0) (listed_s c.0) s ≡ 0
  none = absent_now 0 s i c below idle (names_none c (packets s.wire) unnamed)

  -- no agent, and no message, of a blank slot or packet is any client's
  on_its_machine : (k : MachineId) → listed_s c.0 (agent_on s k) + queued_s c.0 Exclusive (agent_on s k) + queued_s c.0 Shared (agent_on s k) ≡ 0
  unfolding weight listed_s queued_s no_agent
  on_its_machine k =
      omega (
        arith,
        none,
        tally_any (listed_s c.0) no_agent refl s.agents k.0,
        tally_any (queued_s c.0 Exclusive) no_agent refl s.agents k.0,
        tally_any (queued_s c.0 Shared) no_agent refl s.agents k.0,
      )

  in_packet : (j : ℕ) → listed_p c.0 (packet_at s j) + waiting_p c.0 Exclusive (packet_at s j) + waiting_p c.0 Shared (packet_at s j) ≡ 0
  unfolding weight listed_s queued_s mark_m ask_m no_agent blank_packet
  in_packet j =
      let ps : List Packet = packets s.wire in
      omega (
        arith,
        none,
        tally_any (listed_p c.0) blank_packet refl ps j,
        tally_any (waiting_p c.0 Exclusive) blank_packet refl ps j,
        tally_any (waiting_p c.0 Shared) blank_packet refl ps j,
      )

  nothing_left : NothingLeft s c
  nothing_left =
      record {
        on_its_machine = λ k. slot_without (agent_on s k) c (on_its_machine k);
        in_packet = λ j. slot_without (packet_at s j).carried c (omega (arith, in_packet j));
      }

pub leaves_nothing : (n : ℕ) (cs : List Call) → LeavesNothing n cs
leaves_nothing n cs l c below idle unnamed = nothing_left (lock_in (after n cs) l) ((reached n cs).invs l) c below (trace_agrees n cs l c ∙ idle) unnamed
