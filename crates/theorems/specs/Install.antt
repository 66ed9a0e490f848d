-- A GRANT with its agent comes to its client's machine: the agent is installed, and whoever is admitted from its queue joins.
use Rattle.std.specs.Prelude.{◌≡◌, ◌∷◌, ◌+◌, ◌*◌, ◌≤◌, ◌<◌}
use Rattle.theorems.specs.Names.{MachineId, ClientId, Mode, Shared, Owner, Waiter, Agent, AgentSlot, Address, ToMachine, Grant, Packet, Status, Waiting}
use Rattle.theorems.specs.Names.{Holding, LockState, refl, ◌∙◌, Bool, true, false, List, [], map, ℕ, arith, length, get_or}
use Rattle.theorems.specs.Names.{set, length-set, get_or-eq_default, eqb, ltb, eq-eqb, ne_eqb, ltb-true, ltb-false, waiters, no_agent, site_of}
use Rattle.theorems.specs.Names.{grant_of, admitted, staying, joined, installs, and_left, and_right, waiters_of, not, machines, clients, machine_of}
use Rattle.theorems.specs.Names.{in_parts, length_joined, Idle, Exclusive, owned_shared, with_slot, with_status, some_agent, installed, granted_in}
use Rattle.theorems.specs.Names.{none_leaves}
use Rattle.theorems.specs.Tally.{flag, tally}
use Rattle.theorems.specs.Weights.{status_at, slot_at, weight, one, hit, one_w, hit_w, ask_m, queued_s, waiting_p, mark_m, listed_s, listed_p, owed_m, owed_p}
use Rattle.theorems.specs.Weights.{release_m, release_p, agent_s, agent_p, incarnation_s, incarnation_p, mark_all, mark_p, rejected_p, vacant_s, wait_f, hold_f}
use Rattle.theorems.specs.Weights.{idle_f, far_p, owned_mode, owned_at, few, misfit_s, fits, misfit_p, note_at, client_in}
use Rattle.theorems.specs.Invariant.{Inv}
use Rattle.theorems.specs.InvariantStep.{Split, Keeps, keep, keep_mild, vacancy_by, framed, becoming, plainly, plainly_is}
use Rattle.theorems.specs.Facts.{fit, Zero, absent, list_on, nobody, came_fits, Away, away_of, home_fits, status_move, far_absent, clash_none, hits}
use Rattle.theorems.specs.Facts.{grant_waits, grant_unnoted, Awaits, awaits, gave_up, owner_exclusive, hit_idle}
use Rattle.theorems.specs.Sent.{Good}
use Rattle.theorems.specs.Waiters.{parted, grants_count, grants_none, join_count, admitted_below, single_of, grants_fit, few_joined, none_far}

-- ---- what is known of a GRANT with an agent that comes to a machine
record Coming (o : Owner) (k : MachineId) (c : ClientId) (n : Mode) (a : Agent) : Type 0 where
  below : c.0 < clients
  at : owned_at o k.0 ≡ true
  mode : owned_mode o n ≡ true
  away : Away a

coming : (o : Owner) (k : MachineId) (c : ClientId) (n : Mode) (a : Agent) → flag (not (fits o true (ToMachine k) false a (Grant c n))) ≡ 0 → Coming o k c n a
unfolding fits
coming o k c n a e =
    let f = fit _ e in
    let f1 = and_right (ltb c.0 clients) _ f in
    let f2 = and_right (eqb (machine_of c).0 k.0) _ (and_right (owned_at o k.0) _ f1) in
    let away = away_of a (and_right (owned_mode o n) _ f2) in
    record { below = ltb-true c.0 clients (and_left _ _ f); at = and_left _ _ f1; mode = and_left _ _ f2; away = away }

-- its client and those in the agent's queue are counted among what asks, so nobody is both the client and one who leaves the queue
module _ {r : LockState} {rest : List Packet} {c : ClientId} {n : Mode} {t : Address} {b : Bool} (p : Packet) (i : Inv r)
    (sp : Split r (in_parts (Grant c n) t b true p ∷ []) rest) (d : ℕ) where
  counted : (m : Mode) → hit d m c n + tally (hit_w d m) (waiters p.carried.agent.queue) ≤ weight (waiting_p d m) (queued_s d m) r
  unfolding weight tally ask_m queued_s
  counted m = omega (arith, sp.parts (waiting_p d m))

  pub single : one d c + tally (one_w d) (admitted n (waiters p.carried.agent.queue)) ≤ 1
  single = single_of d c n _ (omega (arith, counted Shared, i.most d))

-- the GRANT is the packet p
module _ (pref : ℕ) (r : LockState) (rest : List Packet) (k : MachineId) (c : ClientId) (n : Mode) (p : Packet) (old : AgentSlot) where
  abbrev a : Agent
  a = p.carried.agent

  abbrev came : Packet
  came = in_parts (Grant c n) (ToMachine k) false true p

  abbrev line : List Waiter
  line = waiters a.queue

  abbrev own : List Bool
  own = set a.holders c.0 true

  abbrev holders' : List Bool
  holders' = joined own (admitted n line)

  module _ (i : Inv r) (kk : k.0 < machines) (es : slot_at r k.0 ≡ old) (ab : old.present ≡ false) (sp : Split r (came ∷ []) rest) where
    known : Coming r.decider.owner k c n a
    unfolding misfit_p
    known = coming _ k c n a (came_fits r rest came i sp)

    asking : Awaits n (status_at r c.0)
    asking = grant_waits came i refl sp

    no_note : note_at r c.0 ≡ false
    no_note = grant_unnoted came i refl sp

    cl : c.0 < length a.holders
    cl = omega (arith, known.away.sized, known.below)

    all_clients : length holders' ≡ clients
    all_clients = length_joined own (admitted n line) ∙ length-set a.holders c.0 true ∙ known.away.sized

    lists : (d : ℕ) → flag (get_or holders' d false) ≡ one d c + tally (one_w d) (admitted n line)
    unfolding one wait_f
    lists d = go (ltb d clients) refl
      where
        go : (b : Bool) → ltb d clients ≡ b → flag (get_or holders' d false) ≡ one d c + tally (one_w d) (admitted n line)
        go true q =
            let dl : d < length a.holders = omega (arith, known.away.sized, ltb-true d clients q) in
            let e : flag (get_or own d false) ≡ one d c =
            omega (arith, list_on a.holders c.0 d cl (nobody a.holders c.0 known.away.empty), nobody a.holders d known.away.empty) in
            omega (arith, join_count own (admitted n line) d (omega (arith, length-set a.holders c.0 true)) (omega (arith, single p i sp d)))
        go false q =
            let dh : clients ≤ d = ltb-false d clients q in
            let hl : length holders' ≤ d = omega (arith, all_clients) in
            let e : flag (eqb c.0 d) ≡ 0 = rw (ne_eqb c.0 d (λ p. omega (arith, p, known.below))) in
            rw (get_or-eq_default holders' false hl) (omega (arith, counted p i sp d Shared, far_absent r d i dh, admitted_below d n line))

    bare : Zero old
    bare = absent old ab

    no_marks : tally mark_p (map grant_of (admitted n line)) ≡ 0
    unfolding mark_all
    no_marks = grants_none n mark_p (λ e. refl) line

    listed_now : eqb (tally flag holders') 0 ≡ false
    unfolding one
    listed_now =
        let e : one c.0 c ≡ 1 = rw (eq-eqb c.0 c.0 refl) in
        ne_eqb (tally flag holders') 0 (λ z. omega (arith, z, nobody holders' c.0 z, lists c.0))

    -- who is admitted is owed a GRANT: at an exclusive lock nobody
    none_owed : owned_shared r.decider.owner ≡ false → (d : ℕ) → tally (one_w d) (admitted n line) ≡ 0
    none_owed q d = go n known.mode
      where
        go : (m : Mode) → owned_mode r.decider.owner m ≡ true → tally (one_w d) (admitted m line) ≡ 0
        go m e = rw (owner_exclusive r.decider.owner m e q) (rw (none_leaves line).0 (unfold tally in refl))

    new_fits : misfit_s r.decider.owner k.0 (some_agent (installed n c a)) ≡ 0
    new_fits =
        home_fits r.decider.owner k.0 _
        (record {
          at = known.at;
          mode = known.mode;
          sized = all_clients;
          few = few_joined n a.holders c.0 line cl known.away.empty;
          small = known.away.small;
        })

    abbrev told_all : List Packet
    told_all = map grant_of (admitted n line)

    -- the vacancy and the rest
    filled : tally rejected_p rest + tally rejected_p told_all + tally vacant_s (set r.agents k.0 (some_agent (installed n c a)))
        ≤ tally mark_p rest + tally mark_p told_all
    unfolding tally vacant_s mark_all
    filled = vacancy_by _ told_all i sp kk es (rw listed_now (omega (arith, no_marks, grants_none n rejected_p (λ e. refl) line)))

    -- it waited, and holds from now on
    keep_holding : status_at r c.0 ≡ Waiting n
        → Keeps r k c rest (with_slot (with_status (site_of pref r k c) (Holding n)) (some_agent (installed n c a))) told_all
    unfolding tally ask_m mark_m owed_m release_m mark_all queued_s listed_s agent_s incarnation_s misfit_p misfit_s one hit wait_f hold_f idle_f no_agent
    keep_holding e =
        let moved = status_move i known.below e (plainly (Holding n)) in
        keep i
        (record {
          frame = framed sp kk es refl refl;
          client = becoming (Holding n) i known.below (clash_none r.decider.owner n known.mode) no_note (rw e (omega (arith, i.most c.0)));
          waits = λ d m.
              rw (waiters_of (staying n line))
              (omega (
                arith,
                bare.queued_s d m,
                moved (wait_f m) d,
                grants_count n (waiting_p d m) (hit_w d m) (λ e. omega arith) line,
                parted n (hit_w d m) line,
              ));
          holds = λ d.
              omega (
                arith,
                bare.listed_s d,
                nobody a.holders d known.away.empty,
                moved hold_f d,
                lists d,
                grants_none n (listed_p d) (λ e. refl) line,
                grants_count n (owed_p d) (one_w d) (λ e. refl) line,
              );
          rels = λ d. omega (arith, i.rels d, sp.parts (release_p d), grants_none n (release_p d) (λ e. refl) line, moved idle_f d);
          owed = λ q d.
              omega (
                arith,
                none_owed q d,
                grants_count n (owed_p d) (one_w d) (λ e. refl) line,
                rw q at (i.owed d),
                sp.parts (owed_p d),
                sp.parts (release_p d),
                moved idle_f d,
              );
          agent = omega (arith, bare.agent_s, grants_none n agent_p (λ e. refl) line);
          incs = λ x h. omega (arith, bare.incarnation_s, grants_none n incarnation_p (λ e. refl) line, no_marks);
          fitting = grants_fit r.decider.owner n known.mode line (none_far r i line (λ d m. omega (arith, counted p i sp d m)));
          slot = new_fits;
          reach = grants_none n far_p (λ e. refl) line;
          vacancy = filled;
        })

    -- it gave up, and stays idle: it is listed for the RELEASE that follows
    keep_idle : status_at r c.0 ≡ Idle → Keeps r k c rest (with_slot (with_status (site_of pref r k c) Idle) (some_agent (installed n c a))) told_all
    unfolding tally ask_m mark_m owed_m release_m mark_all queued_s listed_s agent_s incarnation_s misfit_p misfit_s one hit idle_f no_agent
    keep_idle e =
        keep_mild i
        (record {
          frame = framed sp kk es refl refl;
          status = plainly_is (client_in r c.0) Idle e no_note;
          asks = λ d m.
              rw (waiters_of (staying n line))
              (omega (
                arith,
                bare.queued_s d m,
                grants_count n (waiting_p d m) (hit_w d m) (λ e. omega arith) line,
                parted n (hit_w d m) line,
                idle_hit d m,
              ));
          fewer = λ d m.
              rw (waiters_of (staying n line))
              (omega (arith, bare.queued_s d m, grants_count n (waiting_p d m) (hit_w d m) (λ e. omega arith) line, parted n (hit_w d m) line));
          presence = λ d.
              rw (waiters_of (staying n line))
              (omega (
                arith,
                bare.queued_s d Exclusive,
                bare.queued_s d Shared,
                bare.listed_s d,
                nobody a.holders d known.away.empty,
                lists d,
                hits d c n,
                grants_none n (listed_p d) (λ e. refl) line,
                grants_count n (owed_p d) (one_w d) (λ e. refl) line,
                grants_count n (waiting_p d Exclusive) (hit_w d Exclusive) (λ e. omega arith) line,
                grants_count n (waiting_p d Shared) (hit_w d Shared) (λ e. omega arith) line,
                parted n (hit_w d Exclusive) line,
                parted n (hit_w d Shared) line,
              ));
          rels = λ d. omega (arith, grants_none n (release_p d) (λ e. refl) line);
          owed = λ q d. omega (arith, none_owed q d, grants_count n (owed_p d) (one_w d) (λ e. refl) line, grants_none n (release_p d) (λ e. refl) line);
          agent = omega (arith, bare.agent_s, grants_none n agent_p (λ e. refl) line);
          incs = λ x h. omega (arith, bare.incarnation_s, grants_none n incarnation_p (λ e. refl) line, no_marks);
          fitting = grants_fit r.decider.owner n known.mode line (none_far r i line (λ d m. omega (arith, counted p i sp d m)));
          slot = new_fits;
          reach = grants_none n far_p (λ e. refl) line;
          vacancy = filled;
        })
      where
        idle_hit : (d : ℕ) (m : Mode) → hit d m c n ≤ idle_f (status_at r d)
        idle_hit d m = hit_idle r i c n e d m

    pub keep_installs : Good r k c rest (installs (site_of pref r k c) c n a)
    unfolding installs
    keep_installs = go (status_at r c.0) asking refl
      where
        go : (st : Status) → Awaits n st → status_at r c.0 ≡ st
            → Keeps r k c rest (with_slot (with_status (site_of pref r k c) (granted_in n st)) (some_agent (installed n c a))) told_all
        go _ gave_up e = keep_idle e
        go _ awaits e = keep_holding e
