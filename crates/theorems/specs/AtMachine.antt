-- Every step at a machine can be placed and keeps the invariant.
use Rattle.std.specs.Prelude.{◌≡◌, ◌&&◌, ◌∷◌, ◌+◌, ◌≤◌, ◌<◌}
use Rattle.theorems.specs.Names.{MachineId, ClientId, Mode, Exclusive, Shared, Owner, Unowned, Owned, Queue, Agent, AgentSlot, Address, ToDecider}
use Rattle.theorems.specs.Names.{ToMachine, Message, Free, Acquire, Grant, Release, Packet, Holding, LockState, refl, Bool, true, false, not}
use Rattle.theorems.specs.Names.{List, [], ℕ, arith, eqb, ltb, ltb-true, is_shared, some_agent, listed, plain, queue_of, waiters}
use Rattle.theorems.specs.Names.{no_agent, cannot_place, does, Site, site_of, with_slot, with_status, changed, joining, queuing, with_room, may_join, lists}
use Rattle.theorems.specs.Names.{leaves, next, sends_back, requeued, installs, grant_arrives, rejected_grant_arrives, marked, unmarked, acquire_arrives}
use Rattle.theorems.specs.Names.{release_arrives, free_arrives, arrives, client_named, and_left, and_right, waiters_of, machines, clients, owned_shared}
use Rattle.theorems.specs.Names.{slot_in, in_parts, Waiter, Status, Idle, Waiting, bool_cases, true≢false, sym, ◌∙◌, any, is_client, granted_in, unqueuing}
use Rattle.theorems.specs.Names.{taken_off, with_note, is_waiting, grant_is_lost, ClientState, set-get_or, ap, false≢true}
use Rattle.theorems.specs.Tally.{tally, tally_at, flag}
use Rattle.theorems.specs.Weights.{status_at, slot_at, weight, same_mode, one, hit, hit_w, ask_m, queued_s, waiting_p, mark_m, listed_s, listed_p, owed_m}
use Rattle.theorems.specs.Weights.{release_m, release_p, agent_s, agent_p, incarnation_s, mark_all, rejected_p, heads, vacant_s, wait_f, hold_f, idle_f}
use Rattle.theorems.specs.Weights.{owned_mode}
use Rattle.theorems.specs.Weights.{owned_at, few, fits_home, misfit_s, fits_away, fits_free, fits, misfit_p, client_in, note_at, note_f, owed_p, clash}
use Rattle.theorems.specs.Invariant.{Inv}
use Rattle.theorems.specs.InvariantStep.{Keeps, Split, untold, told_by_lem, note_below, keep_step, keep, keep_calm, keep_mild, vacancy_by, framed, still}
use Rattle.theorems.specs.InvariantStep.{becoming, plainly, plainly_is, unchanged}
use Rattle.theorems.specs.Facts.{fit, Zero, absent, came_fits, Plain, Request, acquire_of, release_of, plain_request, Away, away_of, Home, home_fits}
use Rattle.theorems.specs.Facts.{slot_home, few_less, status_move, clash_none, shared_owner, none_away, rejected_carries_one, none_rejected}
use Rattle.theorems.specs.Facts.{none_vacant, one_self, lists_one, asker_unlisted, joins, joins_fits, joins_listed, joins_busy, few_zero, flag_le}
use Rattle.theorems.specs.Facts.{drop_last, grant_waits, grant_unnoted, Awaits, awaits, gave_up, hit_idle, hits, unshared, one_none, one_some, hit_one}
use Rattle.theorems.specs.Sent.{Good, good_by, may_join_lem, request_any, no_marked, no_free, no_early, impossible, keep_on, shared_is}
use Rattle.theorems.specs.Waiters.{room_waiting, queued_one, good_room, taken_off_one, taken_off_count, line_once}
use Rattle.theorems.specs.Leaving.{Leaver, keep_leaves}
use Rattle.theorems.specs.Install.{keep_installs}

-- ---- a GRANT without agent comes to its client
module _ (pref : ℕ) (r : LockState) (rest : List Packet) (i : Inv r) (k : MachineId) (kk : k.0 < machines) (c : ClientId) (n : Mode) (p : Packet)
    (t : Address) (b : Bool) (sp : Split r (in_parts (Grant c n) t b false p ∷ []) rest) where
  told_fits : (ltb c.0 clients && (not b && same_mode n Shared)) ≡ true
  unfolding misfit_p fits
  told_fits = fit _ (came_fits r rest _ i sp)

  pub told_below : c.0 < clients
  told_below = ltb-true c.0 clients (and_left (ltb c.0 clients) _ told_fits)

  -- beside a client that waits the lock is shared
  told_shared : {m : Mode} → status_at r c.0 ≡ Waiting m → owned_shared r.decider.owner ≡ true
  unfolding tally owed_m idle_f
  told_shared e =
      bool_cases (owned_shared r.decider.owner) (λ q. q)
      (λ q. absurd (omega (arith, rw (e, q) at (i.owed c.0), rw e at (i.rels c.0), sp.parts (owed_p c.0), one_self c)))

  told_mode : {m : Mode} → status_at r c.0 ≡ Waiting m → owned_mode r.decider.owner n ≡ true
  told_mode e = mode_shared r.decider.owner n (told_shared e) (and_right (not b) _ (and_right (ltb c.0 clients) _ told_fits))
    where
      mode_shared : (o : Owner) (m : Mode) → owned_shared o ≡ true → same_mode m Shared ≡ true → owned_mode o m ≡ true
      mode_shared Unowned m e f = e
      mode_shared (Owned Exclusive k) Exclusive e f = refl
      mode_shared (Owned Exclusive k) Shared e f = e
      mode_shared (Owned Shared k) m e f = f

  keep_holding : status_at r c.0 ≡ Waiting n → Keeps r k c rest (with_status (site_of pref r k c) (Holding n)) []
  unfolding tally ask_m mark_m owed_m release_m mark_all queued_s listed_s agent_s incarnation_s one hit wait_f hold_f idle_f
  keep_holding e =
      let move = status_move i told_below e (plainly (Holding n)) in
      keep i
      (record {
        frame = framed sp kk refl refl refl;
        client = becoming (Holding n) i told_below (clash_none r.decider.owner n (told_mode e)) (grant_unnoted _ i refl sp)
            (rw e (omega (arith, i.most c.0)));
        waits = λ d m. omega (arith, move (wait_f m) d);
        holds = λ d. omega (arith, move hold_f d);
        rels = λ d. omega (arith, i.rels d, sp.parts (release_p d), move idle_f d);
        owed = λ q d. absurd (true≢false (sym (told_shared e) ∙ q));
        agent = omega arith;
        incs = λ x h. omega (arith, h);
        fitting = refl;
        slot = i.homes k.0;
        reach = refl;
        vacancy = vacancy_by (slot_at r k.0) [] i sp kk refl (omega arith);
      })

  -- it gave up, and stays idle
  keep_idle : status_at r c.0 ≡ Idle → Keeps r k c rest (with_status (site_of pref r k c) Idle) []
  unfolding tally ask_m mark_m owed_m release_m mark_all queued_s listed_s agent_s incarnation_s
  keep_idle e =
      keep_mild i
      (record {
        frame = framed sp kk refl refl refl;
        status = plainly_is (client_in r c.0) Idle e (grant_unnoted _ i refl sp);
        asks = λ d m. omega (arith, hit_idle r i c n e d m);
        fewer = λ d m. omega arith;
        presence = λ d. omega (arith, hits d c n);
        rels = λ d. omega arith;
        owed = λ q d. omega arith;
        agent = omega arith;
        incs = λ x h. omega (arith, h);
        fitting = refl;
        slot = i.homes k.0;
        reach = refl;
        vacancy = vacancy_by (slot_at r k.0) [] i sp kk refl (omega arith);
      })

  pub keep_told : Keeps r k c rest (with_status (site_of pref r k c) (granted_in n (status_at r c.0))) []
  keep_told = go (status_at r c.0) (grant_waits _ i refl sp) refl
    where
      go : (st : Status) → Awaits n st → status_at r c.0 ≡ st → Keeps r k c rest (with_status (site_of pref r k c) (granted_in n st)) []
      go _ gave_up e = keep_idle e
      go _ awaits e = keep_holding e

  -- ---- or it is lost: whoever waits for it has a note of that
  lost_mode : n ≡ Shared
  lost_mode = go n (and_right (not b) _ (and_right (ltb c.0 clients) _ told_fits))
    where
      go : (m : Mode) → same_mode m Shared ≡ true → m ≡ Shared
      go Exclusive e = absurd (false≢true e)
      go Shared e = refl

  keep_noted : status_at r c.0 ≡ Waiting n → Keeps r k c rest (with_note (site_of pref r k c) true) []
  unfolding tally ask_m mark_m owed_m release_m mark_all queued_s listed_s agent_s incarnation_s note_f
  keep_noted e =
      let x : ClientState = record { status = status_at r c.0; lost = true } in
      let at : (d : ℕ) → d ≡ c.0 → status_at r d ≡ status_at r c.0 = λ d q. rw q in
      let un : (d : ℕ) → (d ≡ c.0 → ⊥) → one d c ≡ 0 = λ d q. one_none d c q in
      let no_note : (d : ℕ) → d ≡ c.0 → flag (note_at r d) ≡ 0 = λ d q. rw q (ap flag (grant_unnoted _ i refl sp)) in
      keep_step i
      (record {
        split = sp;
        machine = kk;
        was = refl;
        asks = λ d m.
            told_by_lem x i told_below d
            (λ y. hit d m c n + 0 + 0 + queued_s d m (slot_at r k.0) + note_f m (note_at r d) + wait_f m y.status
            ≤ 0 + queued_s d m (slot_at r k.0) + note_f m y.lost + wait_f m (status_at r d) + idle_f y.status)
            (λ q. omega (arith, ap (wait_f m) (at d q), no_note d q, note_below m (note_at r d), noted_hit m d))
            (λ q. omega (arith, un d q, hit_one d m c n));
        most = λ d.
            told_by_lem x i told_below d
            (λ y. weight (waiting_p d Exclusive) (queued_s d Exclusive) r + weight (waiting_p d Shared) (queued_s d Shared) r
            + (0 + queued_s d Exclusive (slot_at r k.0)) + (0 + queued_s d Shared (slot_at r k.0)) + flag y.lost + hold_f y.status
            ≤ 1 + (hit d Exclusive c n + 0 + 0 + queued_s d Exclusive (slot_at r k.0)) + (hit d Shared c n + 0 + 0 + queued_s d Shared (slot_at r k.0)))
            (λ q. omega (arith, i.most d, hits d c n, one_some d c q, held_none))
            (λ q. omega (arith, i.most d, hits d c n, un d q));
        noted = λ d.
            told_by_lem x i told_below d (λ y. flag y.lost ≤ wait_f Shared y.status) (λ q. rw (e, lost_mode) (unfold wait_f in omega arith)) (λ q. i.noted d);
        presence = λ d.
            told_by_lem x i told_below d
            (λ y. (hit d Exclusive c n + 0 + 0 + queued_s d Exclusive (slot_at r k.0)) + (hit d Shared c n + 0 + 0 + queued_s d Shared (slot_at r k.0))
            + (0 + 0 + 0 + listed_s d (slot_at r k.0)) + idle_f (status_at r d) + 0
            ≡ (0 + queued_s d Exclusive (slot_at r k.0)) + (0 + queued_s d Shared (slot_at r k.0)) + (0 + listed_s d (slot_at r k.0)) + idle_f y.status
            + (one d c + 0))
            (λ q. omega (arith, ap idle_f (at d q), hits d c n)) (λ q. omega (arith, hits d c n));
        rels = λ d.
            told_by_lem x i told_below d (λ y. tally (release_p d) rest + 0 ≤ idle_f y.status)
            (λ q. omega (arith, i.rels d, sp.parts (release_p d), ap idle_f (at d q))) (λ q. omega (arith, i.rels d, sp.parts (release_p d)));
        owed = λ q d. absurd (true≢false (sym (told_shared e) ∙ q));
        agent = omega arith;
        incs = λ x h. omega (arith, h);
        modes = λ d. told_by_lem x i told_below d (λ y. clash r.decider.owner y.status ≡ 0) (λ q. i.modes c.0) (λ q. i.modes d);
        fitting = omega (arith, i.fitting, sp.parts (misfit_p r.decider.owner));
        homes = λ j. rw (set-get_or r.agents k.0 no_agent) (i.homes j);
        reach = omega (arith, i.reach);
        vacancy = vacancy_by (slot_at r k.0) [] i sp kk refl (omega arith);
        quiet = i.quiet;
      })
    where
      noted_hit : (m : Mode) (d : ℕ) → hit d m c n ≤ note_f m true
      noted_hit m d = rw lost_mode (go m)
        where
          go : (m : Mode) → hit d m c Shared ≤ note_f m true
          go Exclusive = unfold hit note_f in omega arith
          go Shared = unfold hit note_f in omega (arith, flag_le (eqb c.0 d))

      held_none : hold_f (status_at r c.0) ≡ 0
      held_none = unfold hold_f in rw e

  keep_unnoted : status_at r c.0 ≡ Idle → Keeps r k c rest (with_note (site_of pref r k c) false) []
  keep_unnoted e = rw e (keep_idle e)

  pub keep_lost : Good r k c rest (grant_is_lost (site_of pref r k c))
  unfolding grant_is_lost
  keep_lost = go (status_at r c.0) (grant_waits _ i refl sp) refl
    where
      go : (st : Status) → Awaits n st → status_at r c.0 ≡ st → Keeps r k c rest (with_note (site_of pref r k c) (is_waiting st)) []
      go _ gave_up e = keep_unnoted e
      go _ awaits e = keep_noted e

-- ---- an ACQUIRE comes to the machine with the agent
module _ (pref : ℕ) (r : LockState) (rest : List Packet) (i : Inv r) (k : MachineId) (kk : k.0 < machines) (h : Agent) (es : slot_at r k.0 ≡ some_agent h)
    (c : ClientId) (n : Mode) (p : Packet) (b x : Bool) where
  -- the Bool: marked
  abbrev asking : Bool → Packet
  asking g = in_parts (Acquire c n g) (ToMachine k) b x p

  home : Home r.decider.owner k.0 h
  home = slot_home r k.0 h i es

  -- a marked one
  keep_marked : h.mode ≡ Shared → Split r (asking true ∷ []) rest → Keeps r k c rest (with_slot (site_of pref r k c) (joins h c (next h.incarnation))) []
  unfolding tally ask_m mark_m owed_m release_m mark_all queued_s listed_s agent_s incarnation_s vacant_s weight
  keep_marked sh sp =
      let pl : Plain c (slot_in x p) = plain_request i acquire_of sp in
      let z : Zero (slot_in x p) = pl.none in
      let new : ℕ = next h.incarnation in
      let un : tally (listed_s c.0) r.agents ≡ 0 = omega (arith, lists_one r i c.0, sp.parts (listed_p c.0), one_self c) in
      let busy = none_vacant r i k.0 kk h es (joins h c new) (joins_busy i kk es c pl.below new) refl in
      keep_calm i
      (record {
        frame = framed sp kk es refl refl;
        status = refl;
        waits = λ d m. omega (arith, z.queued_s d m);
        holds = λ d. omega (arith, z.listed_s d, joins_listed i kk es c pl.below new un d);
        rels = λ d. omega arith;
        owed = λ q d. omega arith;
        agent = omega (arith, z.agent_s);
        incs = λ x e. omega (arith, e, z.incarnation_s);
        fitting = refl;
        slot = joins_fits i kk es c pl.below new sh (omega arith);
        reach = refl;
        vacancy = omega (arith, none_rejected r i k.0 kk h es, sp.parts rejected_p, busy);
      })

  -- an unmarked one, agent and request both shared
  keep_joins : h.mode ≡ Shared → n ≡ Shared → Split r (asking false ∷ []) rest
      → Keeps r k c rest (with_slot (site_of pref r k c) (some_agent (joining h c))) (plain (Grant c n) ToDecider ∷ [])
  unfolding tally weight ask_m mark_m owed_m release_m mark_all queued_s listed_s agent_s incarnation_s vacant_s misfit_p fits no_agent
  keep_joins sh ns sp =
      let pl : Plain c (slot_in x p) = plain_request i acquire_of sp in
      let z : Zero (slot_in x p) = pl.none in
      let un : tally (listed_s c.0) r.agents ≡ 0 = omega (arith, asker_unlisted _ i refl sp) in
      let busy = joins_busy i kk es c pl.below h.incarnation in
      let os : owned_shared r.decider.owner ≡ true = shared_owner r.decider.owner (rw sh at home.mode) in
      keep_calm i
      (record {
        frame = framed sp kk es refl refl;
        status = refl;
        waits = λ d m. omega (arith, z.queued_s d m);
        holds = λ d. omega (arith, z.listed_s d, joins_listed i kk es c pl.below h.incarnation un d);
        rels = λ d. omega arith;
        owed = λ q d. absurd (true≢false (sym os ∙ q));
        agent = omega (arith, z.agent_s);
        incs = λ x e. omega (arith, e, z.incarnation_s);
        fitting = rw (pl.named, ns);
        slot = joins_fits i kk es c pl.below h.incarnation sh home.small;
        reach = refl;
        vacancy = vacancy_by (some_agent (joining h c)) (plain (Grant c n) ToDecider ∷ []) i sp kk es (omega (arith, busy));
      })

  -- else it joins the queue's end, which has room
  keep_queues : Split r (asking false ∷ []) rest → Keeps r k c rest (with_slot (site_of pref r k c) (some_agent (queuing h c n))) []
  unfolding tally ask_m mark_m owed_m release_m mark_all listed_s agent_s incarnation_s vacant_s misfit_s fits_home
  keep_queues sp =
      let z : Zero (slot_in x p) = (plain_request i acquire_of sp).none in
      keep_calm i
      (record {
        frame = framed sp kk es refl refl;
        status = refl;
        waits = λ d m. omega (arith, z.queued_s d m, queued_one h c n d m);
        holds = λ d. omega (arith, z.listed_s d);
        rels = λ d. omega arith;
        owed = λ q d. omega arith;
        agent = omega (arith, z.agent_s);
        incs = λ x e. omega (arith, e, z.incarnation_s);
        fitting = refl;
        slot = rw es at (i.homes k.0);
        reach = refl;
        vacancy = vacancy_by (some_agent (queuing h c n)) [] i sp kk es (omega arith);
      })

  good_queues : Split r (asking false ∷ []) rest → Good r k c rest (with_room h c (does (with_slot (site_of pref r k c) (some_agent (queuing h c n))) []))
  unfolding weight tally ask_m queued_s
  good_queues sp = good_room h (room_waiting r i (waiters h.queue) c n (plain_request i acquire_of sp).below in_line) (keep_queues sp)
    where
      in_line : (d : ℕ) (m : Mode) → hit d m c n + tally (hit_w d m) (waiters h.queue) ≤ weight (waiting_p d m) (queued_s d m) r
      in_line d m =
          let here = rw es at (tally_at (queued_s d m) no_agent r.agents k.0 (omega (arith, i.all_machines))) in
          omega (arith, sp.parts (waiting_p d m))

-- ---- a rejected packet comes home: the agent is installed, q its queue
module _ (pref : ℕ) (r : LockState) (rest : List Packet) (i : Inv r) (k : MachineId) (kk : k.0 < machines) (old : AgentSlot) (es : slot_at r k.0 ≡ old)
    (ab : old.present ≡ false) (p : Packet) where
  abbrev a : Agent
  a = p.carried.agent

  abbrev o : Owner
  o = r.decider.owner

  abbrev returns : Message → Packet
  returns m = in_parts m (ToMachine k) true true p

  back_home : (u : ClientId) (m : Message) (q : Queue) → Split r (returns m ∷ []) rest
      → ((d : ℕ) (n : Mode) → ask_m d n m + tally (hit_w d n) (waiters a.queue) ≡ tally (hit_w d n) (waiters q))
      → ((d : ℕ) → (mark_m d m ≡ 0) × (owed_m d true m ≡ 0) × (release_m d m ≡ 0)) → mark_all m ≡ 0
      → (owned_at o k.0 && (owned_mode o a.mode && fits_away a)) ≡ true
      → Keeps r k u rest (with_slot (site_of pref r k u) (some_agent (changed a a.holders q a.incarnation))) []
  unfolding tally queued_s listed_s agent_s incarnation_s vacant_s
  back_home u m q sp ask no-m ma f =
      let z : Zero old = absent old ab in
      let g = and_right (owned_at o k.0) (owned_mode o a.mode && fits_away a) f in
      let aw : Away a = away_of a (and_right (owned_mode o a.mode) _ g) in
      keep_calm i
      (record {
        frame = framed sp kk es refl refl;
        status = refl;
        waits = λ d n. omega (arith, z.queued_s d n, ask d n);
        holds = λ d. omega (arith, z.listed_s d, no-m d);
        rels = λ d. omega arith;
        owed = λ q d. omega (arith, no-m d);
        agent = omega (arith, z.agent_s);
        incs = λ x e. omega (arith, e, z.incarnation_s, ma);
        fitting = refl;
        slot =
            home_fits o k.0 _
            (record {
              at = and_left (owned_at o k.0) _ f;
              mode = and_left (owned_mode o a.mode) _ g;
              sized = aw.sized;
              few = few_less a.mode 0 (heads a) (omega (arith, aw.empty)) (few_zero a.mode);
              small = aw.small;
            });
        reach = refl;
        vacancy = vacancy_by _ [] i sp kk es (omega (arith, z.vacant_s, ma, flag_le (eqb (heads a) 0)));
      })

  keep_free_back : (u : ClientId) → Split r (returns Free ∷ []) rest → Keeps r k u rest (with_slot (site_of pref r k u) (some_agent a)) []
  unfolding tally ask_m mark_m owed_m release_m mark_all misfit_p fits fits_free
  keep_free_back u sp =
      let f : (owned_at o k.0 && (owned_mode o a.mode && (fits_away a && eqb a.queue.len 0))) ≡ true = fit _ (came_fits r rest _ i sp) in
      back_home u Free a.queue sp (λ d n. omega arith) (λ d. (refl, refl, refl)) refl (drop_last (owned_at o k.0) (owned_mode o a.mode) (fits_away a) _ f)

  module _ (c : ClientId) (n : Mode) (sp : Split r (returns (Grant c n) ∷ []) rest) where
    back_fits : (ltb c.0 clients && (owned_at o k.0 && (owned_mode o a.mode && fits_away a))) ≡ true
    unfolding misfit_p fits
    back_fits = fit _ (came_fits r rest _ i sp)

    keep_grant_back : Keeps r k c rest (with_slot (site_of pref r k c) (some_agent (requeued a c n))) []
    unfolding tally ask_m mark_m owed_m release_m mark_all
    keep_grant_back =
        let line : List Waiter = record { client = c; mode = n } ∷ waiters a.queue in
        back_home c (Grant c n) (queue_of line) sp (λ d m. rw (waiters_of line)) (λ d. (refl, refl, refl)) refl (and_right (ltb c.0 clients) _ back_fits)

    good_grant_back : Good r k c rest (with_room a c (does (with_slot (site_of pref r k c) (some_agent (requeued a c n))) []))
    unfolding weight tally ask_m queued_s
    good_grant_back =
        let below : c.0 < clients = ltb-true c.0 clients (and_left (ltb c.0 clients) _ back_fits) in
        good_room a (room_waiting r i (waiters a.queue) c n below (λ d m. omega (arith, sp.parts (waiting_p d m)))) keep_grant_back

-- ---- a RELEASE comes to the machine whose agent lists the client
release_leaves : (r : LockState) (rest : List Packet) (i : Inv r) (c : ClientId) (p : Packet) (t : Address) (b x : Bool)
    → Split r (in_parts (Release c) t b x p ∷ []) rest → Leaver r c (client_in r c.0) (in_parts (Release c) t b x p ∷ []) rest
unfolding tally ask_m mark_m owed_m release_m mark_all
release_leaves r rest i c p t b x sp =
    let z : Zero (slot_in x p) = (plain_request i release_of sp).none in
    record {
      split = sp;
      waits = λ d m. rw (untold r c d) (omega (arith, z.queued_s d m));
      lists = λ d. omega (arith, z.listed_s d);
      holds = λ d. rw (untold r c d) (omega arith);
      rels = λ d. rw (untold r c d) (omega (arith, i.rels d, sp.parts (release_p d)));
      agent = omega (arith, z.agent_s);
      incs = omega (arith, z.incarnation_s);
      marks = refl;
      client = unchanged i refl;
      owed = λ q d. rw (untold r c d) (omega (arith, rw q at (i.owed d), sp.parts (owed_p d), sp.parts (release_p d)));
    }

-- ---- or has it in its queue: it is taken off
module _ (pref : ℕ) (r : LockState) (rest : List Packet) (i : Inv r) (k : MachineId) (kk : k.0 < machines) (h : Agent) (es : slot_at r k.0 ≡ some_agent h)
    (c : ClientId) (p : Packet) (b x : Bool) (sp : Split r (in_parts (Release c) (ToMachine k) b x p ∷ []) rest)
    (qu : any (is_client c) (waiters h.queue) ≡ true) where
  abbrev gone_off : AgentSlot
  gone_off = some_agent (unqueuing h c)

  -- a place less at c, which is idle
  off_one : (d : ℕ) → queued_s d Exclusive (some_agent h) + queued_s d Shared (some_agent h)
      ≡ queued_s d Exclusive gone_off + queued_s d Shared gone_off + one d c
  unfolding queued_s
  off_one d =
      let ws = waiters h.queue in
      rw (waiters_of (taken_off c ws)) (omega (arith, taken_off_one c ws qu d, line_once ws d, line_once (taken_off c ws) d))

  off_fewer : (d : ℕ) (m : Mode) → queued_s d m gone_off ≤ queued_s d m (some_agent h)
  unfolding queued_s
  off_fewer d m = rw (waiters_of (taken_off c (waiters h.queue))) (taken_off_count (hit_w d m) c (waiters h.queue))

  off_idle : (d : ℕ) → one d c ≤ idle_f (status_at r d)
  unfolding tally release_m
  off_idle d = omega (arith, i.rels d, sp.parts (release_p d))

  asks_off : (d : ℕ) (m : Mode) → queued_s d m (some_agent h) ≤ queued_s d m gone_off + idle_f (status_at r d)
  asks_off d Exclusive = omega (arith, off_one d, off_fewer d Shared, off_idle d)
  asks_off d Shared = omega (arith, off_one d, off_fewer d Exclusive, off_idle d)

  keep_unqueued : Keeps r k c rest (with_slot (site_of pref r k c) gone_off) []
  unfolding tally ask_m mark_m owed_m release_m mark_all listed_s agent_s incarnation_s vacant_s misfit_s fits_home
  keep_unqueued =
      let z : Zero (slot_in x p) = (plain_request i release_of sp).none in
      keep_mild i
      (record {
        frame = framed sp kk es refl refl;
        status = refl;
        asks = λ d m. omega (arith, z.queued_s d m, asks_off d m);
        fewer = λ d m. omega (arith, z.queued_s d m, off_fewer d m);
        presence = λ d. omega (arith, z.queued_s d Exclusive, z.queued_s d Shared, z.listed_s d, off_one d);
        rels = λ d. omega arith;
        owed = λ q d. omega arith;
        agent = omega (arith, z.agent_s);
        incs = λ x e. omega (arith, e, z.incarnation_s);
        fitting = refl;
        slot = rw es at (i.homes k.0);
        reach = refl;
        vacancy = vacancy_by gone_off [] i sp kk es (omega arith);
      })

-- ---- every step at a machine, whose slot is y and h, of the packet p
module _ (pref : ℕ) (r : LockState) (rest : List Packet) (i : Inv r) (k : MachineId) (kk : k.0 < machines) (h : Agent) (p : Packet) where
  -- p with this message; the Bools: rejected, an agent is carried
  abbrev came : Message → Bool → Bool → Packet
  came m b x = in_parts m (ToMachine k) b x p

  -- an agent on the machine and one in the packet
  two : {A : Type 0} {q : Packet} → Split r (q ∷ []) rest → slot_at r k.0 ≡ some_agent h → agent_p q ≡ 1 → A
  unfolding tally
  two sp es e = absurd (omega (arith, none_away r i k.0 kk h es, sp.parts agent_p, e))

  -- the site
  abbrev seen : Bool → ClientId → Site
  seen y c = with_slot (site_of pref r k c) (record { present = y; agent = h })

  -- sent back to the decider
  good_back : (c : ClientId) (y : Bool) {m : Message} (b x : Bool) → Request c m → slot_at r k.0 ≡ record { present = y; agent = h }
      → Split r (came m b x ∷ []) rest → Good r k c rest (sends_back (seen y c) (came m b x))
  good_back c y b x q es sp = keep_on i (still es) kk _ _ refl refl refl (λ o. request_any _ _ b _ o x q) refl sp

  good_acquire_arrives : (y : Bool) (c : ClientId) (n : Mode) (g b x : Bool) → slot_at r k.0 ≡ record { present = y; agent = h }
      → Split r (came (Acquire c n g) b x ∷ []) rest → Good r k c rest (acquire_arrives y (seen y c) h (came (Acquire c n g) b x) c n g)
  unfolding acquire_arrives marked unmarked
  good_acquire_arrives false c n g b x es sp = good_back c false b x acquire_of es sp
  good_acquire_arrives true c n true b x es sp =
      good_by r k c rest (is_shared h.mode) _ cannot_place (λ q. keep_marked pref r rest i k kk h es c n p b x (shared_is h.mode q) sp)
      (λ q. impossible i sp (no_marked x (ToMachine k) b _ c n _ (unshared r.decider.owner h.mode q (slot_home r k.0 h i es).mode)))
  good_acquire_arrives true c n false b x es sp =
      good_by r k c rest (may_join (seen true c) n) _ (with_room h c (does (with_slot (site_of pref r k c) (some_agent (queuing h c n))) []))
      (λ q. let both = may_join_lem (seen true c) n q in keep_joins pref r rest i k kk h es c n p b x both.0 both.1 sp)
      (λ q. good_queues pref r rest i k kk h es c n p b x sp)

  good_release_arrives : (y : Bool) (c : ClientId) (b x : Bool) → slot_at r k.0 ≡ record { present = y; agent = h } → Split r (came (Release c) b x ∷ []) rest
      → Good r k c rest (release_arrives (seen y c) (came (Release c) b x) c)
  unfolding release_arrives
  good_release_arrives false c b x es sp = good_back c false b x release_of es sp
  good_release_arrives true c b x es sp =
      good_by r k c rest (listed h c) (leaves (seen true c) h c) _
      (λ q. keep_leaves pref r i k kk h es c (plain_request i release_of sp).below q (client_in r c.0) _ rest
      (release_leaves r rest i c p (ToMachine k) b x sp))
      (λ q. good_by r k c rest (any (is_client c) (waiters h.queue)) (does (with_slot (site_of pref r k c) (some_agent (unqueuing h c))) []) _
      (λ q. keep_unqueued pref r rest i k kk h es c p b x sp q) (λ q. good_back c true b x release_of es sp))

  pub good_arrives : (m : Message) (y b x : Bool) → slot_at r k.0 ≡ record { present = y; agent = h } → Split r (came m b x ∷ []) rest
      → Good r k (client_named m) rest (arrives m (seen y (client_named m)) (came m b x))
  unfolding arrives grant_arrives rejected_grant_arrives free_arrives installs agent_s
  good_arrives (Acquire c n g) y b x es sp = good_acquire_arrives y c n g b x es sp
  good_arrives (Release c) y b x es sp = good_release_arrives y c b x es sp
  good_arrives (Grant c n) y false false es sp = rw (← es) (keep_told pref r rest i k kk c n p (ToMachine k) false sp)
  good_arrives (Grant c n) y true false es sp = absurd (rejected_carries_one r i rest _ sp refl refl)
  good_arrives (Grant c n) true false true es sp = two sp es refl
  good_arrives (Grant c n) true true true es sp = two sp es refl
  good_arrives (Grant c n) false false true es sp = keep_installs pref r rest k c n p _ i kk es refl sp
  good_arrives (Grant c n) false true true es sp = good_grant_back pref r rest i k kk _ es refl p c n sp
  good_arrives Free true b true es sp = two sp es refl
  good_arrives Free y b false es sp = impossible i sp (no_free _ (ToMachine k) b _)
  good_arrives Free false false true es sp = impossible i sp (no_early _ k _)
  good_arrives Free false true true es sp = keep_free_back pref r rest i k kk _ es refl p _ sp
