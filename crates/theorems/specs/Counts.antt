-- The two counts of a lock's state (the model's Counts) are what the invariant says of agents, incarnations and marks.
use Rattle.std.specs.Prelude.{◌≡◌, ◌∷◌, ◌≤◌, ◌<◌, Ok}
use Rattle.model.specs.Drain.{drain_calls, drain}
use Rattle.theorems.specs.Names.{LockId, ClientId, Agent, AgentSlot, Packet, Status, LockState, Cluster, Call, Answer, refl, sym, ap, ◌∙◌, Bool}
use Rattle.theorems.specs.Names.{true, false≢true, List, [], ℕ, arith, length, eqb, ltb, eqb-true, eqb-false, eq-eqb, ne_eqb, ltb-true}
use Rattle.theorems.specs.Names.{ltb-false, get_or-eq_default, all, removed, count, some_agent, no_agent, lock_in, packets, current, packet_at, number}
use Rattle.theorems.specs.Names.{is_free, names, after, agents_in, is_marked, marks_in, uncounted, bool_cases, machines, blank_packet, Accepted, Refused}
use Rattle.theorems.specs.Names.{is_accepted, both, and_left, and_right, answers_of, fresh}
use Rattle.theorems.specs.Tally.{flag, tally, tally_removed, tally_ext, count_tally}
use Rattle.theorems.specs.Weights.{slot_at, weight, agent_s, incarnation_p, incarnation_s, mark_all, mark_p, owned_f, fits_p, misfit_p}
use Rattle.theorems.specs.Invariant.{Inv}
use Rattle.theorems.specs.InvariantStep.{Split, split_at}
use Rattle.theorems.specs.Facts.{fit, came_fits, away_of, slot_home, owned_one, no_incs, alone, marks_bound, frees, free_m, named_below, names_are}
use Rattle.theorems.specs.Facts.{wire_bound, names_m, silent_unshared}
use Rattle.theorems.specs.Exclusion.{carried_away}
use Rattle.theorems.specs.Runs.{reached}
use Rattle.theorems.specs.Statements.{from_tests, is_placed, Drains, EnoughPlaces, IncarnationSound}
use Rattle.theorems.specs.Theorems.{never_refused_inside}
use Rattle.theorems.specs.Drains.{demand3}

module _ (s : LockState) (i : Inv s) where
  abbrev ps : List Packet
  ps = packets s.wire

  agents_are : agents_in s ≡ owned_f s.decider.owner
  unfolding weight agent_s
  agents_are = omega (arith, count_tally (λ (x : AgentSlot). x.present) s.agents, count_tally (λ (p : Packet). p.carried.present) ps, i.agent)

  marks_are : marks_in s ≡ tally mark_p ps
  unfolding mark_all
  marks_are = count_tally (λ (p : Packet). is_marked p.message) ps

  -- where an agent's incarnation is all that is counted, the marks make up the difference
  marks_differ : (a : Agent) → weight incarnation_p incarnation_s s ≡ a.incarnation → a.incarnation < 256 → uncounted s.decider a ≡ marks_in s
  marks_differ a e b = omega (arith, i.incs, marks_are, marks_bound s i)

  -- ---- the agent on machine k
  module _ (k : ℕ) (e : (slot_at s k).present ≡ true) where
    within : k < machines
    unfolding no_agent
    within =
        bool_cases (ltb k machines) (λ q. ltb-true k machines q)
        (λ q.
        let far : slot_at s k ≡ no_agent = get_or-eq_default s.agents no_agent (omega (arith, i.all_machines, ltb-false k machines q)) in
        absurd (false≢true (sym (ap (λ (x : AgentSlot). x.present) far) ∙ e)))

    here : weight incarnation_p incarnation_s s ≡ (slot_at s k).agent.incarnation
    unfolding weight agent_s incarnation_s
    here =
        let room : k < length s.agents = omega (arith, i.all_machines, within) in
        let agents = rw e at (tally_removed agent_s no_agent s.agents k room) in
        let incs = rw e at (tally_removed incarnation_s no_agent s.agents k room) in
        omega (arith, no_incs ps (removed s.agents k) (omega (arith, i.agent, owned_one s.decider.owner)))

    on_its_machine : uncounted s.decider (slot_at s k).agent ≡ marks_in s
    on_its_machine =
        let is : slot_at s k ≡ some_agent (slot_at s k).agent = ap (λ (b : Bool). record { present = b; agent = (slot_at s k).agent }) e in
        marks_differ (slot_at s k).agent here (slot_home s k _ i is).small

  -- ---- the agent in the packet at index j
  module _ (j : ℕ) (h : j < length ps) (e : (packet_at s j).carried.present ≡ true) where
    abbrev p : Packet
    p = packet_at s j

    sp : Split s (p ∷ []) (removed ps j)
    sp = split_at s j p h refl

    away : weight incarnation_p incarnation_s s ≡ p.carried.agent.incarnation
    unfolding weight agent_s incarnation_s
    away =
        let incs = rw e at (tally_removed incarnation_p blank_packet ps j h) in
        omega (arith, no_incs (removed ps j) s.agents (alone s p _ i sp (rw e)))

    small : p.carried.agent.incarnation < 256
    unfolding misfit_p
    small =
        let f = fit (fits_p s.decider.owner p) (came_fits s _ p i sp) in
        (away_of p.carried.agent (carried_away s.decider.owner p.to p.rejected _ p.message (rw e at f))).small

    in_packet : uncounted s.decider p.carried.agent ≡ marks_in s
    in_packet = marks_differ p.carried.agent away small

    current_sound : current s.decider p ≡ eqb (marks_in s) 0
    current_sound =
        let a : ℕ = p.carried.agent.incarnation in
        let d : ℕ = s.decider.incarnation in
        bool_cases (eqb a d)
        (λ q. q ∙ sym (eq-eqb (marks_in s) 0 (omega (arith, in_packet, eqb-true a d q))))
        (λ q. q ∙ sym (ne_eqb (marks_in s) 0 (λ z. eqb-false a d q (omega (arith, in_packet, z, small, i.incs)))))

  -- ---- who is named
  named : (c : ClientId) → count (names c) ps ≤ 3
  named c =
      let same = tally_ext (λ (p : Packet). names_m c.0 p.message) (λ p. flag (names c p)) (λ p. names_are c p.message) ps in
      omega (arith, count_tally (names c) ps, named_below s i c.0)

  frees_one : count (λ (p : Packet). is_free p.message) ps ≤ 1
  unfolding free_m
  frees_one = omega (arith, count_tally (λ (p : Packet). is_free p.message) ps, frees s i)

pub incarnation_sound : (n : ℕ) (cs : List Call) → IncarnationSound n cs
incarnation_sound n cs =
    record {
      bounded = λ l. rw (marks_are _ ((reached n cs).invs l)) (marks_bound _ ((reached n cs).invs l));
      sound = λ l. current_sound _ ((reached n cs).invs l);
    }

-- ---- no answer is 9 or 10
tested_placed : (a : Answer) → from_tests a ≡ true → is_placed a ≡ true
tested_placed a e =
    rw (ne_eqb (number a) 9 (λ q. false≢true (rw q at e)), ne_eqb (number a) 10 (λ q. false≢true (rw q at e)))

accepted_placed : (a : Answer) → is_accepted a ≡ true → is_placed a ≡ true
accepted_placed (Ok tt) e = refl
accepted_placed (Refused r) e = absurd (false≢true e)

all_so : {A : Type 0} (p q : A → Bool) → ((x : A) → p x ≡ true → q x ≡ true) → (xs : List A) → all p xs ≡ true → all q xs ≡ true
all_so p q h [] e = refl
all_so p q h (x ∷ xs) e = both (q x) _ (h x (and_left (p x) _ e)) (all_so p q h xs (and_right (p x) _ e))

drain_placed : (x : Cluster) (l : LockId) (phase : ClientId → Status) (lost : ClientId → Bool) → Drains x l phase lost
    → all is_placed ((drain x l).answer ∷ answers_of (drain_calls l x) x) ≡ true
drain_placed x l phase lost d =
    both (is_placed (drain x l).answer) _ (rw (is_placed, d.answered))
    (all_so is_accepted is_placed accepted_placed (answers_of (drain_calls l x) x) d.accepted)

pub enough_places : (n : ℕ) (cs : List Call) → EnoughPlaces n cs
unfolding owned_f
enough_places n cs l =
    let s : LockState = lock_in (after n cs) l in
    let i : Inv s = (reached n cs).invs l in
    record {
      free = λ e. agents_are s i ∙ rw e;
      owned = λ m k e. agents_are s i ∙ rw e;
      on_its_machine = λ k. on_its_machine s i k.0;
      in_packet = in_packet s i;
      unshared = λ e. marks_are s i ∙ silent_unshared s i e;
      named = named s i;
      frees = frees_one s i;
      wire = wire_bound s i;
      calls = all_so from_tests is_placed tested_placed (answers_of cs (fresh n).cluster) (never_refused_inside n cs);
      drains = λ lb. drain_placed (after n cs) l _ _ ((demand3 n cs).drains l lb);
    }
