-- The invariant of one lock's state.
use Rattle.std.specs.Prelude.{◌≡◌, ◌+◌, ◌≤◌, ◌%◌}
use Rattle.theorems.specs.Names.{ℕ, length, Mode, Exclusive, Shared, LockState, packets, machines, clients}
use Rattle.theorems.specs.Tally.{flag, tally}
use Rattle.theorems.specs.Weights.{status_at, slot_at, weight, waiting_p, queued_s, listed_p, listed_s, owed_p, release_p, agent_p, agent_s, incarnation_p}
use Rattle.theorems.specs.Weights.{incarnation_s, mark_p, rejected_p, vacant_s, wait_f, hold_f, idle_f, owned_f, note_at, note_f, shared_f, clash, far_f, far_p}
use Rattle.theorems.specs.Weights.{misfit_p, misfit_s, waited_f}

pub record Inv (r : LockState) : Type 0 where
  pub all_machines : length r.agents ≡ machines
  pub all_clients : length r.clients ≡ clients
  -- a client that waits in a mode has an unmarked ACQUIRE, a GRANT or a place in a queue for it, or the note that its GRANT was lost
  pub asks : (d : ℕ) (m : Mode) → wait_f m (status_at r d) ≤ weight (waiting_p d m) (queued_s d m) r + note_f m (note_at r d)
  -- nobody has two of these, and who holds has none; who is idle may have one, from before it gave up
  pub most : (d : ℕ) → weight (waiting_p d Exclusive) (queued_s d Exclusive) r + weight (waiting_p d Shared) (queued_s d Shared) r + flag (note_at r d)
      + hold_f (status_at r d) ≤ 1
  pub noted : (d : ℕ) → flag (note_at r d) ≤ wait_f Shared (status_at r d)
  -- It is present once: it asks, or is listed, or is to be listed by a marked ACQUIRE. Beside that it may be owed a GRANT. Who is idle is present as long as a
  -- RELEASE of it is under way.
  pub presence : (d : ℕ) → weight (waiting_p d Exclusive) (queued_s d Exclusive) r + weight (waiting_p d Shared) (queued_s d Shared) r
      + weight (listed_p d) (listed_s d) r + idle_f (status_at r d) ≡ 1 + tally (owed_p d) (packets r.wire)
  -- at a lock that is not shared only the idle are owed a GRANT, and nobody has lost one
  pub owed : (d : ℕ) → tally (owed_p d) (packets r.wire) + flag (note_at r d)
      ≤ tally (release_p d) (packets r.wire) + idle_f (status_at r d) + shared_f r.decider.owner
  -- at most one RELEASE, and of an idle client
  pub rels : (d : ℕ) → tally (release_p d) (packets r.wire) ≤ idle_f (status_at r d)
  -- an owned lock has one agent, somewhere, and a free one has none
  pub agent : weight agent_p agent_s r ≡ owned_f r.decider.owner
  -- the agent's incarnation and the marks under way make up the decider's
  pub incs : r.decider.incarnation ≡ (weight incarnation_p incarnation_s r + tally mark_p (packets r.wire)) % 256
  -- a client that holds, holds in the lock's mode
  pub modes : (d : ℕ) → clash r.decider.owner (status_at r d) ≡ 0
  -- packets and agents fit the lock's owner
  pub fitting : tally (misfit_p r.decider.owner) (packets r.wire) ≡ 0
  pub homes : (k : ℕ) → misfit_s r.decider.owner k (slot_at r k) ≡ 0
  pub reach : far_f r.decider.owner + tally far_p (packets r.wire) ≡ 0
  -- an agent on a machine that lists nobody, and a rejected packet, mean a mark on the wire
  pub vacancy : weight rejected_p vacant_s r ≤ tally mark_p (packets r.wire)
  -- at a free lock the decider knows of no writer
  pub quiet : waited_f r.decider.owner r.decider.writer ≡ 0
