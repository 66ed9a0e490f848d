-- A lock whose wire is empty, that nobody holds and of which no GRANT was lost is fresh.
use Rattle.std.specs.Prelude.{◌≡◌, ◌∷◌, ◌+◌}
use Rattle.laws.specs.Formed.{parts, agent_blank, wire_canonical}
use Rattle.laws.specs.Shapes.{wire_whole}
use Rattle.model.specs.WellFormed.{slot_formed}
use Rattle.theorems.specs.Names.{Mode, Exclusive, Shared, Owner, Unowned, Owned, AgentSlot, Packet, Status, Idle, Waiting, Holding, ClientState}
use Rattle.theorems.specs.Names.{LockState, refl, Bool, true, false, List, [], ℕ, suc, arith, length, get_or, replicate, eq-eqb, all, idle}
use Rattle.theorems.specs.Names.{no_agent, wire_of, packets, fresh_lock, lock_formed, and_left, and_right, bool_cases, machines, clients, ap}
use Rattle.theorems.specs.Tally.{flag, tally, tally_none}
use Rattle.theorems.specs.Weights.{status_at, weight, queued_s, waiting_p, listed_s, listed_p, owed_p, agent_s, agent_p, mark_p, rejected_p, heads, vacant_s}
use Rattle.theorems.specs.Weights.{wait_f, hold_f, owned_f, waited_f, note_at}
use Rattle.theorems.specs.Invariant.{Inv}
use Rattle.theorems.specs.Facts.{absent, nobody, absent_of, free_inc, statuses}
use Rattle.theorems.specs.InvariantStep.{note_below}

-- an agent that lists nobody is vacant
unlisted : (hs : List Bool) → ((d : ℕ) → flag (get_or hs d false) ≡ 0) → tally flag hs ≡ 0
unfolding tally
unlisted [] h = refl
unlisted (b ∷ hs) h = omega (arith, h 0, unlisted hs (λ d. h (suc d)))

no_agent_on : (x : AgentSlot) → vacant_s x ≡ 0 → ((d : ℕ) → listed_s d x ≡ 0) → agent_s x ≡ 0
unfolding vacant_s listed_s agent_s
no_agent_on x v h =
    bool_cases x.present
    (λ q. absurd (omega (arith, rw (q, eq-eqb (heads x.agent) 0 (unlisted x.agent.holders (λ d. rw q at (h d)))) at v)))
    (λ q. rw q)

no_agent_on_any : (xs : List AgentSlot) → tally vacant_s xs ≡ 0 → ((d : ℕ) → tally (listed_s d) xs ≡ 0) → tally agent_s xs ≡ 0
unfolding tally
no_agent_on_any [] v h = refl
no_agent_on_any (x ∷ xs) v h = omega (arith, no_agent_on x (omega arith) (λ d. omega (arith, h d)), no_agent_on_any xs (omega arith) (λ d. omega (arith, h d)))

-- a slot without an agent is blank
blank_slot : (x : AgentSlot) → slot_formed x ≡ true → x.present ≡ false → x ≡ no_agent
unfolding slot_formed no_agent
blank_slot x f q = rw (q, agent_blank x.agent (rw q at f))

blank_slots : (xs : List AgentSlot) → all slot_formed xs ≡ true → tally agent_s xs ≡ 0 → xs ≡ replicate (length xs) no_agent
unfolding tally
blank_slots [] f z = refl
blank_slots (x ∷ xs) f z =
    rw (blank_slot x (and_left (slot_formed x) _ f) (absent_of x (omega arith)), ← blank_slots xs (and_right (slot_formed x) _ f) (omega arith))

idle_clients : (cs : List ClientState) → ((d : ℕ) → (get_or cs d idle).status ≡ Idle) → ((d : ℕ) → (get_or cs d idle).lost ≡ false)
    → cs ≡ replicate (length cs) idle
idle_clients [] h n = refl
idle_clients (c ∷ cs) h n =
    let e : c.status ≡ Idle = h 0 in
    let f : c.lost ≡ false = n 0 in
    rw (e, f, ← idle_clients cs (λ d. h (suc d)) (λ d. n (suc d)))

idle_is : (s : Status) → wait_f Exclusive s + wait_f Shared s + hold_f s ≡ 0 → s ≡ Idle
unfolding wait_f hold_f
idle_is Idle e = refl
idle_is (Waiting Exclusive) e = absurd (omega arith)
idle_is (Waiting Shared) e = absurd (omega arith)
idle_is (Holding n) e = absurd (omega arith)

unowned_is : (o : Owner) → owned_f o ≡ 0 → o ≡ Unowned
unfolding owned_f
unowned_is Unowned e = refl
unowned_is (Owned m k) e = absurd (omega arith)

unflagged : (b : Bool) → flag b ≡ 0 → b ≡ false
unflagged true e = absurd (omega arith)
unflagged false e = refl

module _ (pref : ℕ) (r : LockState) (i : Inv r) (f : lock_formed pref r ≡ true) (empty : packets r.wire ≡ [])
    (nobody : (d : ℕ) → hold_f (status_at r d) ≡ 0) (unnoted : (d : ℕ) → note_at r d ≡ false) where
  -- with no packets a weight is that of the agents
  only_slots : (g : Packet → ℕ) (h : AgentSlot → ℕ) → weight g h r ≡ tally h r.agents
  unfolding weight tally
  only_slots g h = rw empty (omega arith)

  nothing : (g : Packet → ℕ) → tally g (packets r.wire) ≡ 0
  unfolding tally
  nothing g = rw empty

  no_agents : tally agent_s r.agents ≡ 0
  no_agents =
      no_agent_on_any r.agents (omega (arith, i.vacancy, only_slots rejected_p vacant_s, nothing mark_p))
      listed_none
    where
      -- who waits is in a queue, so nobody is listed
      listed_none : (d : ℕ) → tally (listed_s d) r.agents ≡ 0
      listed_none d =
          omega (
            arith,
            i.presence d,
            i.asks d Exclusive,
            i.asks d Shared,
            note_below Exclusive (note_at r d),
            note_below Shared (note_at r d),
            ap flag (unnoted d),
            nobody d,
            statuses (status_at r d),
            only_slots (listed_p d) (listed_s d),
            nothing (owed_p d),
          )

  owner : r.decider.owner ≡ Unowned
  owner = unowned_is _ (omega (arith, i.agent, only_slots agent_p agent_s, no_agents))

  waiting_none : (d : ℕ) (m : Mode) → wait_f m (status_at r d) ≡ 0
  waiting_none d m =
      let queued = tally_none agent_s (queued_s d m) (λ x z. (absent x (absent_of x z)).queued_s d m) r.agents no_agents in
      omega (arith, i.asks d m, only_slots (waiting_p d m) (queued_s d m), queued, note_below m (note_at r d), ap flag (unnoted d))

  agents : r.agents ≡ replicate machines no_agent
  agents = rw i.all_machines at (blank_slots r.agents (parts r f).agents no_agents)

  all_idle_lem : r.clients ≡ replicate clients idle
  all_idle_lem =
      rw i.all_clients at
      (idle_clients r.clients (λ d. idle_is _ (omega (arith, waiting_none d Exclusive, waiting_none d Shared, nobody d))) unnoted)

  wire : r.wire ≡ wire_of []
  wire = rw empty at (wire_whole r.wire (wire_canonical r.wire (parts r f).wire))

  no_writer : r.decider.writer ≡ false
  unfolding waited_f
  no_writer = unflagged r.decider.writer (rw owner at i.quiet)

  pub is_fresh : r ≡ fresh_lock
  unfolding fresh_lock
  is_fresh = rw (owner, free_inc r i owner, no_writer, agents, all_idle_lem, wire)
