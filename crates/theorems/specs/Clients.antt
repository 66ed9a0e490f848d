-- Every acquire of a client that is idle and named by no packet, and every release of one that holds, can be placed and keeps the
-- invariant.
use Rattle.std.specs.Prelude.{◌≡◌, ◌∷◌, ◌+◌, ◌≤◌, ◌<◌, ◌*◌}
use Rattle.theorems.specs.Names.{MachineId, ClientId, Mode, Exclusive, Shared, Owner, Agent, ToDecider, Acquire, Release, Packet, Idle, Waiting}
use Rattle.theorems.specs.Names.{Holding, LockState, refl, ap, Bool, true, false, List, [], ℕ, arith, bool_cases, eqb}
use Rattle.theorems.specs.Names.{eqb-true, eq-eqb, lt-ltb, pick, any, machine_of, some_agent, agent_on, listed, plain, waiters, no_agent, packets, Verdict}
use Rattle.theorems.specs.Names.{does, Site, site_of, with_slot, with_status, joining, queuing, with_room, may_join, lists, client_asks, client_acquires}
use Rattle.theorems.specs.Names.{leaves, client_releases, names, or_left, or_right, machines, clients, Status, ClientState, set-get_or, owned_shared}
use Rattle.theorems.specs.Names.{client_gives_up}
use Rattle.theorems.specs.Tally.{flag, tally, tally_le}
use Rattle.theorems.specs.Weights.{status_at, slot_at, weight, one, hit, hit_w, ask_m, queued_s, waiting_p, mark_m, listed_s, listed_p, owed_m, release_m}
use Rattle.theorems.specs.Weights.{release_p, agent_s, incarnation_s, mark_all, vacant_s, wait_f, hold_f, idle_f, clash, misfit_s, fits_home, fits, misfit_p}
use Rattle.theorems.specs.Weights.{note_at, note_f, owed_p}
use Rattle.theorems.specs.Invariant.{Inv}
use Rattle.theorems.specs.InvariantStep.{Keeps, Split, told, told_by_lem, note_below, keep_step, keep, vacancy_by, framed, Becomes, becoming, plainly}
use Rattle.theorems.specs.Facts.{Home, slot_home, status_move, in_slot, clash_none, names_m, names_are, owes_list, joins_fits, joins_listed, joins_busy}
use Rattle.theorems.specs.Facts.{flag_none, flag_le, one_none, one_some}
use Rattle.theorems.specs.Sent.{Good, good_by, may_join_lem}
use Rattle.theorems.specs.Waiters.{room_idle, queued_one, good_room}
use Rattle.theorems.specs.Leaving.{Leaver, keep_leaves}

-- ---- nothing leaves the wire
split_none : (r : LockState) → Split r [] (packets r.wire)
unfolding tally
split_none r = record { parts = λ f. omega arith }

-- ---- no packet names the client
pub names_none : (c : ClientId) (ps : List Packet) → any (names c) ps ≡ false → tally (λ p. names_m c.0 p.message) ps ≡ 0
unfolding tally
names_none c [] e = refl
names_none c (p ∷ ps) e =
    let here = ap flag (or_left (names c p) (any (names c) ps) e) in
    omega (arith, names_are c p.message, names_none c ps (or_right (names c p) (any (names c) ps) e))

module _ (pref : ℕ) (r : LockState) (i : Inv r) (c : ClientId) (cl : c.0 < clients) (id : status_at r c.0 ≡ Idle)
    (unnamed : tally (λ p. names_m c.0 p.message) (packets r.wire) ≡ 0) where
  abbrev ps : List Packet
  ps = packets r.wire

  unreleased : tally (release_p c.0) ps ≡ 0
  unreleased = omega (arith, tally_le (release_p c.0) (λ p. names_m c.0 p.message) (λ p. omega arith) ps, unnamed)

  unasked : (n : Mode) → tally (λ p. ask_m c.0 n p.message) ps ≡ 0
  unasked Exclusive = omega (arith, tally_le (λ p. ask_m c.0 Exclusive p.message) (λ p. names_m c.0 p.message) (λ p. omega arith) ps, unnamed)
  unasked Shared = omega (arith, tally_le (λ p. ask_m c.0 Shared p.message) (λ p. names_m c.0 p.message) (λ p. omega arith) ps, unnamed)

  -- it asks for nothing, and no agent lists it
  pub absent_now : weight (waiting_p c.0 Exclusive) (queued_s c.0 Exclusive) r + weight (waiting_p c.0 Shared) (queued_s c.0 Shared) r
      + weight (listed_p c.0) (listed_s c.0) r ≡ 0
  unfolding idle_f
  absent_now = omega (arith, rw id at (i.presence c.0), owes_list c.0 ps, unasked Exclusive, unasked Shared, unreleased)

  pub unlisted : weight (listed_p c.0) (listed_s c.0) r ≡ 0
  unlisted = omega (arith, absent_now)

  unnoted : note_at r c.0 ≡ false
  unfolding wait_f
  unnoted = flag_none _ (omega (arith, rw id at (i.noted c.0)))

  becomes : (st : Status) → clash r.decider.owner st ≡ 0 → Becomes r c (plainly st)
  unfolding idle_f
  becomes st e = becoming st i cl e unnoted (rw id (omega (arith, absent_now)))

  owed_asker : owned_shared r.decider.owner ≡ false → (d : ℕ) → tally (owed_p d) ps + flag (note_at r d) + one d c
      ≤ tally (release_p d) ps + idle_f (status_at r d)
  unfolding one idle_f
  owed_asker z d =
      bool_cases (eqb c.0 d)
      (λ q. rw (← eqb-true c.0 d q, id, eq-eqb c.0 c.0 refl)
      (omega (arith, owes_list c.0 ps, unasked Exclusive, unasked Shared, unreleased, ap flag unnoted)))
      (λ q. rw q (omega (arith, rw z at (i.owed d))))

  rels_asker : (d : ℕ) → tally (release_p d) ps + one d c ≤ idle_f (status_at r d)
  unfolding one idle_f
  rels_asker d =
      bool_cases (eqb c.0 d) (λ q. rw (← eqb-true c.0 d q, id, eq-eqb c.0 c.0 refl) (omega (arith, unreleased)))
      (λ q. rw q (omega (arith, i.rels d)))

  -- no agent on its machine
  keep_asks : (k : MachineId) → k.0 < machines → (m : Mode)
      → Keeps r k c ps (with_status (site_of pref r k c) (Waiting m)) (plain (Acquire c m false) ToDecider ∷ [])
  unfolding tally ask_m mark_m owed_m release_m mark_all queued_s listed_s agent_s incarnation_s one hit wait_f hold_f idle_f clash misfit_p fits no_agent
  keep_asks k kk m =
      let move = status_move i cl id (plainly (Waiting m)) in
      keep i
      (record {
        frame = framed (split_none r) kk refl refl refl;
        client = becomes (Waiting m) refl;
        waits = λ d n. omega (arith, move (wait_f n) d);
        holds = λ d. omega (arith, move hold_f d);
        rels = λ d. omega (arith, move idle_f d, rels_asker d);
        owed = λ q d. omega (arith, move idle_f d, owed_asker q d);
        agent = refl;
        incs = λ x h. h;
        fitting = rw (lt-ltb c.0 clients cl);
        slot = i.homes k.0;
        reach = refl;
        vacancy = vacancy_by (slot_at r k.0) (plain (Acquire c m false) ToDecider ∷ []) i (split_none r) kk refl (omega arith);
      })

  module _ (k : MachineId) (kk : k.0 < machines) (h : Agent) (es : slot_at r k.0 ≡ some_agent h) where
    -- agent and request both shared
    keep_joins : h.mode ≡ Shared → Keeps r k c ps (with_slot (with_status (site_of pref r k c) (Holding Shared)) (some_agent (joining h c))) []
    unfolding tally weight queued_s listed_s agent_s incarnation_s one wait_f hold_f idle_f vacant_s
    keep_joins sh =
        let move = status_move i cl id (plainly (Holding Shared)) in
        let home : Home r.decider.owner k.0 h = slot_home r k.0 h i es in
        keep i
        (record {
          frame = framed (split_none r) kk es refl refl;
          client = becomes (Holding Shared) (clash_none r.decider.owner Shared (rw sh at home.mode));
          waits = λ d n. omega (arith, move (wait_f n) d);
          holds = λ d. omega (arith, move hold_f d, joins_listed i kk es c cl h.incarnation (omega (arith, unlisted)) d);
          rels = λ d. omega (arith, move idle_f d, rels_asker d);
          owed = λ q d. omega (arith, move idle_f d, owed_asker q d);
          agent = refl;
          incs = λ x e. e;
          fitting = refl;
          slot = joins_fits i kk es c cl h.incarnation sh home.small;
          reach = refl;
          vacancy = vacancy_by (some_agent (joining h c)) [] i (split_none r) kk es (omega (arith, joins_busy i kk es c cl h.incarnation));
        })

    -- else it joins the queue's end, which has room
    in_line : (d : ℕ) (m : Mode) → tally (hit_w d m) (waiters h.queue) ≤ weight (waiting_p d m) (queued_s d m) r
    unfolding queued_s
    in_line d m = in_slot r (waiting_p d m) (queued_s d m) k.0 (some_agent h) i kk es

    keep_queues : (m : Mode) → Keeps r k c ps (with_slot (with_status (site_of pref r k c) (Waiting m)) (some_agent (queuing h c m))) []
    unfolding tally listed_s agent_s incarnation_s one hit wait_f hold_f idle_f clash vacant_s misfit_s fits_home
    keep_queues m =
        let move = status_move i cl id (plainly (Waiting m)) in
        keep i
        (record {
          frame = framed (split_none r) kk es refl refl;
          client = becomes (Waiting m) refl;
          waits = λ d n. omega (arith, move (wait_f n) d, queued_one h c m d n);
          holds = λ d. omega (arith, move hold_f d);
          rels = λ d. omega (arith, move idle_f d, rels_asker d);
          owed = λ q d. omega (arith, move idle_f d, owed_asker q d);
          agent = refl;
          incs = λ x e. e;
          fitting = refl;
          slot = rw es at (i.homes k.0);
          reach = refl;
          vacancy = vacancy_by (some_agent (queuing h c m)) [] i (split_none r) kk es (omega arith);
        })

    abbrev queues : Mode → Verdict
    queues m = with_room h c (does (with_slot (with_status (site_of pref r k c) (Waiting m)) (some_agent (queuing h c m))) [])

    -- by the test of the site v, whose slot has the agent
    good_home : (v : Site) → v.slot ≡ some_agent h → (m : Mode)
        → Good r k c ps (pick (may_join v m) (does (with_slot (with_status (site_of pref r k c) (Holding m)) (some_agent (joining h c))) []) (queues m))
    good_home v e m =
        good_by r k c ps (may_join v m) _ (queues m) (λ q. let both = may_join_lem v m q in rw both.1 (keep_joins (rw e at both.0)))
        (λ q. good_room h (room_idle r i (waiters h.queue) in_line c cl (omega (arith, absent_now))) (keep_queues m))

  -- the site: y, h are its slot
  abbrev seen : Bool → Agent → Site
  seen y h = with_slot (site_of pref r (machine_of c) c) (record { present = y; agent = h })

  good_client_asks : (m : Mode) (y : Bool) (h : Agent) → slot_at r (machine_of c).0 ≡ record { present = y; agent = h }
      → Good r (machine_of c) c ps (client_asks (seen y h) c m y h)
  unfolding client_asks
  good_client_asks m false h es = rw (← es) (keep_asks (machine_of c) (omega arith) m)
  good_client_asks m true h es = good_home (machine_of c) (omega arith) h es (seen true h) refl m

  pub good_client_acquires : (m : Mode) → Good r (machine_of c) c ps (client_acquires (site_of pref r (machine_of c) c) c m)
  unfolding client_acquires
  good_client_acquires m = good_client_asks m (agent_on r (machine_of c)).present (agent_on r (machine_of c)).agent refl

-- ---- a RELEASE fits any lock
release_fits : (c : ClientId) → c.0 < clients → (o : Owner) → misfit_p o (plain (Release c) ToDecider) ≡ 0
unfolding misfit_p fits no_agent
release_fits c cl o = rw (lt-ltb c.0 clients cl)

-- ---- a client that holds lets go
module _ (pref : ℕ) (r : LockState) (i : Inv r) (c : ClientId) (cl : c.0 < clients) (m : Mode) (ho : status_at r c.0 ≡ Holding m) where
  -- every count of its status, which becomes idle
  move : (F : Status → ℕ) (d : ℕ) → F (told r c (plainly Idle) d).status + one d c * F (Holding m) ≡ F (status_at r d) + one d c * F Idle
  move = status_move i cl ho (plainly Idle)

  idles : Becomes r c (plainly Idle)
  unfolding idle_f wait_f clash
  idles = becoming Idle i cl refl (flag_none _ (omega (arith, rw ho at (i.noted c.0)))) (rw ho (omega (arith, i.most c.0)))

  -- no agent on its machine lists it
  keep_releases : (k : MachineId) → k.0 < machines → Keeps r k c (packets r.wire) (with_status (site_of pref r k c) Idle) (plain (Release c) ToDecider ∷ [])
  unfolding tally ask_m mark_m owed_m release_m mark_all queued_s listed_s agent_s incarnation_s one wait_f hold_f idle_f clash no_agent
  keep_releases k kk =
      keep i
      (record {
        frame = framed (split_none r) kk refl refl refl;
        client = idles;
        waits = λ d n. omega (arith, move (wait_f n) d);
        holds = λ d. omega (arith, move hold_f d);
        rels = λ d. omega (arith, i.rels d, move idle_f d);
        owed = λ q d. omega (arith, rw q at (i.owed d), move idle_f d);
        agent = refl;
        incs = λ x h. h;
        fitting = omega (arith, release_fits c cl r.decider.owner);
        slot = i.homes k.0;
        reach = refl;
        vacancy = vacancy_by (slot_at r k.0) (plain (Release c) ToDecider ∷ []) i (split_none r) kk refl (omega arith);
      })

  -- its machine's agent lists it
  holder_leaves : Leaver r c (plainly Idle) [] (packets r.wire)
  unfolding tally one wait_f hold_f idle_f clash
  holder_leaves =
      record {
        split = split_none r;
        waits = λ d n. omega (arith, move (wait_f n) d);
        lists = λ d. refl;
        holds = λ d. omega (arith, move hold_f d);
        rels = λ d. omega (arith, i.rels d, move idle_f d);
        agent = refl;
        incs = refl;
        marks = refl;
        client = idles;
        owed = λ q d. omega (arith, rw q at (i.owed d), move idle_f d);
      }

  good_lets_go : (y : Bool) (h : Agent) → slot_at r (machine_of c).0 ≡ record { present = y; agent = h }
      → Good r (machine_of c) c (packets r.wire) (client_releases (with_slot (site_of pref r (machine_of c) c) (record { present = y; agent = h })) c)
  unfolding client_releases
  good_lets_go false h es = rw (← es) (keep_releases (machine_of c) (omega arith))
  good_lets_go true h es =
      good_by r (machine_of c) c (packets r.wire) (listed h c) (leaves (with_slot (with_status (site_of pref r (machine_of c) c) Idle) (some_agent h)) h c) _
      (λ q. keep_leaves pref r i (machine_of c) (omega arith) h es c cl q (plainly Idle) [] (packets r.wire) holder_leaves)
      (λ q. rw (← es) (keep_releases (machine_of c) (omega arith)))

  pub good_client_releases : Good r (machine_of c) c (packets r.wire) (client_releases (site_of pref r (machine_of c) c) c)
  good_client_releases = good_lets_go (agent_on r (machine_of c)).present (agent_on r (machine_of c)).agent refl

-- ---- a client that waits gives up
module _ (pref : ℕ) (r : LockState) (i : Inv r) (c : ClientId) (cl : c.0 < clients) (n : Mode) (wa : status_at r c.0 ≡ Waiting n) where
  pub good_client_gives_up : Good r (machine_of c) c (packets r.wire) (client_gives_up (site_of pref r (machine_of c) c) c)
  unfolding client_gives_up tally ask_m mark_m owed_m release_m mark_all queued_s listed_s agent_s incarnation_s no_agent
  good_client_gives_up =
      let at : (F : Status → ℕ) (d : ℕ) → d ≡ c.0 → F (status_at r d) ≡ F (Waiting n) = λ F d q. rw (q, wa) in
      let un : (d : ℕ) → (d ≡ c.0 → ⊥) → one d c ≡ 0 = λ d q. one_none d c q in
      let is : (d : ℕ) → d ≡ c.0 → one d c ≡ 1 = λ d q. one_some d c q in
      let x : ClientState = plainly Idle in
      let s = slot_at r (machine_of c).0 in
      keep_step i
      (record {
        split = split_none r;
        machine = omega arith;
        was = refl;
        asks = λ d m.
            told_by_lem x i cl d
            (λ y. 0 + queued_s d m s + note_f m (note_at r d) + wait_f m y.status
            ≤ 0 + 0 + 0 + queued_s d m s + note_f m y.lost + wait_f m (status_at r d) + idle_f y.status)
            (λ q. omega (arith, note_below m (note_at r d), flag_le (note_at r d), now m)) (λ q. omega arith);
        most = λ d.
            told_by_lem x i cl d
            (λ y. weight (waiting_p d Exclusive) (queued_s d Exclusive) r + weight (waiting_p d Shared) (queued_s d Shared) r
            + (0 + 0 + 0 + queued_s d Exclusive s) + (0 + 0 + 0 + queued_s d Shared s) + flag y.lost + hold_f y.status
            ≤ 1 + (0 + queued_s d Exclusive s) + (0 + queued_s d Shared s))
            (λ q. omega (arith, i.most d, now Exclusive)) (λ q. omega (arith, i.most d));
        noted = λ d. told_by_lem x i cl d (λ y. flag y.lost ≤ wait_f Shared y.status) (λ q. omega arith) (λ q. i.noted d);
        presence = λ d.
            told_by_lem x i cl d
            (λ y. (0 + queued_s d Exclusive s) + (0 + queued_s d Shared s) + (0 + listed_s d s) + idle_f (status_at r d) + (one d c + 0)
            ≡ (0 + 0 + 0 + queued_s d Exclusive s) + (0 + 0 + 0 + queued_s d Shared s) + (0 + 0 + 0 + listed_s d s) + idle_f y.status + 0)
            (λ q. omega (arith, at idle_f d q, is d q, now Exclusive, waiting_not_idle)) (λ q. omega (arith, un d q));
        rels = λ d.
            told_by_lem x i cl d (λ y. tally (release_p d) (packets r.wire) + (one d c + 0) ≤ idle_f y.status)
            (λ q. omega (arith, i.rels d, at idle_f d q, is d q, now Exclusive, waiting_not_idle)) (λ q. omega (arith, i.rels d, un d q));
        owed = λ z d.
            told_by_lem x i cl d
            (λ y. tally (owed_p d) (packets r.wire) + (one d c + 0) + flag y.lost
            ≤ tally (release_p d) (packets r.wire) + (one d c + 0) + idle_f y.status)
            (λ q. omega (arith, rw z at (i.owed d), at idle_f d q, now Exclusive, waiting_not_idle)) (λ q. omega (arith, rw z at (i.owed d)));
        agent = omega arith;
        incs = λ x h. h;
        modes = λ d. told_by_lem x i cl d (λ y. clash r.decider.owner y.status ≡ 0) (λ q. unfold clash in refl) (λ q. i.modes d);
        fitting = omega (arith, i.fitting, release_fits c cl r.decider.owner);
        homes = λ j. rw (set-get_or r.agents (machine_of c).0 no_agent) (i.homes j);
        reach = omega (arith, i.reach);
        vacancy = vacancy_by s (plain (Release c) ToDecider ∷ []) i (split_none r) (omega arith) refl (omega arith);
        quiet = i.quiet;
      })
    where
      now : (m : Mode) → (wait_f m Idle ≡ 0) × (idle_f Idle ≡ 1) × (hold_f Idle ≡ 0)
      now m = unfold wait_f idle_f hold_f in (refl, refl, refl)

      waiting_not_idle : idle_f (Waiting n) ≡ 0
      waiting_not_idle = unfold idle_f in refl
