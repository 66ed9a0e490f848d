-- Every step at the decider can be placed and keeps the invariant.
use Rattle.std.specs.Prelude.{◌≡◌, ◌&&◌, ◌∷◌, ◌+◌, ◌≤◌, ◌<◌, ◌%◌}
use Rattle.theorems.specs.Names.{MachineId, ClientId, Mode, Exclusive, Shared, Owner, Unowned, Owned, Agent, Address, ToDecider, ToMachine, Message}
use Rattle.theorems.specs.Names.{Free, Acquire, Grant, Release, Packet, Status, Idle, Waiting, Holding, LockState, refl, sym, Bool, true, false}
use Rattle.theorems.specs.Names.{not, List, [], ℕ, arith, set-get_or, ltb, eqb-true, eqb-false, eq-eqb, ltb-true, all}
use Rattle.theorems.specs.Names.{machine_of, no_holders, unowned, waiters, no_agent, packets, Site, site_of, with_decider, changed, lists, grants_first}
use Rattle.theorems.specs.Names.{shares, current, rejects, passes_on, to_owner, decides_acquire, decides_release, decides_free, decides_grant, decides}
use Rattle.theorems.specs.Names.{and_left, and_right, both, waiters_of, Decider, ◌∙◌, false≢true, machines, clients, owned_shared, may_share, slot_in}
use Rattle.theorems.specs.Names.{in_parts, plain, true≢false}
use Rattle.theorems.specs.Tally.{flag, tally, tally_any, tally_none, tally_add}
use Rattle.theorems.specs.Weights.{status_at, slot_at, weight, ask_m, queued_s, waiting_p, mark_m, listed_s, listed_p, owed_m, owed_p, release_m}
use Rattle.theorems.specs.Weights.{release_p, agent_s}
use Rattle.theorems.specs.Weights.{agent_p, incarnation_s, incarnation_p, mark_all, mark_p, rejected_p, vacant_s, hold_f, owned_f, clash, far_m, far_p, far_f}
use Rattle.theorems.specs.Weights.{waited_f, owned_mode, misfit_s, fits_away, fits_free, fits, misfit_p, client_in, idle_f}
use Rattle.theorems.specs.Invariant.{Inv}
use Rattle.theorems.specs.InvariantStep.{Keeps, Split, keep_step, told, untold, keep_calm, vacancy_by, Still, still, noted, keep_resent, framed}
use Rattle.theorems.specs.Facts.{fit, Zero, absent, nobody, came_fits, near_owner, near_home, named_of, Plain, Request, acquire_of, release_of}
use Rattle.theorems.specs.Facts.{plain_request, Away, away_of, away_fits, absent_of, silent_unshared, silent_equal, free_inc, same_mode_lem, no_others}
use Rattle.theorems.specs.Facts.{differ, statuses}
use Rattle.theorems.specs.Sent.{Good, good_by, may_share_lem, plain_any, request_any, no_marked, no_free, no_offer, no_freed, impossible, keep_on}

-- what is not marked, carries no agent and fits one owner fits any
any_owner : (o o' : Owner) (x : Bool) (t : Address) (b : Bool) (a : Agent) (m : Message) → flag (not (fits o x t b a m)) + flag x + mark_all m ≡ 0
    → flag (not (fits o' x t b a m)) ≡ 0
unfolding fits mark_all
any_owner o o' true t b a m e = absurd (omega arith)
any_owner o o' false t b a (Acquire c n false) e = omega arith
any_owner o o' false t b a (Acquire c n true) e = absurd (omega arith)
any_owner o o' false t b a (Grant c n) e = omega arith
any_owner o o' false t b a (Release c) e = omega arith
any_owner o o' false t true a Free e = absurd (omega arith)
any_owner o o' false t false a Free e = absurd (omega arith)

no_mark : (d : ℕ) (m : Message) → mark_all m ≡ 0 → mark_m d m ≡ 0
unfolding mark_all mark_m
no_mark d (Acquire c n false) e = refl
no_mark d (Acquire c n true) e = absurd (omega arith)
no_mark d (Grant c n) e = refl
no_mark d (Release c) e = refl
no_mark d Free e = refl

no_clash : (o : Owner) (s : Status) → hold_f s ≡ 0 → clash o s ≡ 0
unfolding hold_f clash
no_clash o Idle e = refl
no_clash o (Waiting n) e = refl
no_clash Unowned (Holding n) e = absurd (omega arith)
no_clash (Owned m k) (Holding n) e = absurd (omega arith)

-- ---- the lock gets another owner, or none: its one agent is in the packet p, or it has none, and no mark is on the wire
module _ (r : LockState) (p : Packet) (rest : List Packet) (i : Inv r) (sp : Split r (p ∷ []) rest)
    (all : agent_p p ≡ owned_f r.decider.owner) (silent : tally mark_p (packets r.wire) ≡ 0) (p-lists : (d : ℕ) → listed_p d p ≡ 0)
    (p-owes : (d : ℕ) → owed_p d p ≡ 0) where
  none_here : tally agent_p rest ≡ 0
  unfolding weight tally
  none_here = omega (arith, all, i.agent, sp.parts agent_p)

  no_agent_on_any : tally agent_s r.agents ≡ 0
  unfolding weight tally
  no_agent_on_any = omega (arith, all, i.agent, sp.parts agent_p)

  rest_silent : tally mark_p rest ≡ 0
  unfolding tally
  rest_silent = omega (arith, silent, sp.parts mark_p)

  lists_none : (d : ℕ) → tally (listed_p d) rest ≡ 0
  lists_none d =
      tally_none (λ q. mark_p q + agent_p q) (listed_p d)
      (λ q e. omega (arith, no_mark d q.message (omega (arith, e)), (absent q.carried (absent_of q.carried (omega (arith, e)))).listed_s d)) rest
      (omega (arith, tally_add mark_p agent_p rest, rest_silent, none_here))

  listed_none : (d : ℕ) → tally (listed_s d) r.agents ≡ 0
  listed_none d = tally_none agent_s (listed_s d) (λ s e. (absent s (absent_of s e)).listed_s d) r.agents no_agent_on_any

  -- so whoever is present asks
  asks_all : (d : ℕ) → weight (waiting_p d Exclusive) (queued_s d Exclusive) r + weight (waiting_p d Shared) (queued_s d Shared) r + idle_f (status_at r d)
      ≡ 1 + tally (owed_p d) (packets r.wire)
  unfolding weight tally
  asks_all d = omega (arith, i.presence d, lists_none d, listed_none d, sp.parts (listed_p d), p-lists d)

  rest_fits : tally (misfit_p r.decider.owner) rest ≡ 0
  unfolding tally
  rest_fits = omega (arith, i.fitting, sp.parts (misfit_p r.decider.owner))

  pub any_fits : (o : Owner) → tally (misfit_p o) rest ≡ 0
  unfolding misfit_p agent_s
  any_fits o =
      tally_none (λ q. misfit_p r.decider.owner q + agent_p q + mark_p q) (misfit_p o)
      (λ q e. any_owner r.decider.owner o q.carried.present q.to q.rejected q.carried.agent q.message e) rest
      (omega (
        arith,
        rest_fits,
        none_here,
        rest_silent,
        tally_add (λ q. misfit_p r.decider.owner q + agent_p q) mark_p rest,
        tally_add (misfit_p r.decider.owner) agent_p rest,
      ))

  pub any_mode : (o : Owner) (d : ℕ) → clash o (status_at r d) ≡ 0
  any_mode o d = no_clash o (status_at r d) (omega (arith, asks_all d, i.most d, statuses (status_at r d)))

  any_slot : (o : Owner) (k : ℕ) → misfit_s o k (slot_at r k) ≡ 0
  unfolding misfit_s no_agent
  any_slot o k = rw (absent_of (slot_at r k) (omega (arith, no_agent_on_any, tally_any agent_s no_agent (unfold agent_s in refl) r.agents k)))

  none_rejected : tally rejected_p rest + tally vacant_s r.agents ≡ 0
  unfolding weight tally
  none_rejected = omega (arith, i.vacancy, silent, sp.parts rejected_p)

  -- the decider becomes d
  pub record Reowned (d : Decider) (qs : List Packet) : Type 0 where
    pub waits : (c : ℕ) (m : Mode) → waiting_p c m p ≡ tally (waiting_p c m) qs
    pub lists : (c : ℕ) → tally (listed_p c) qs ≡ 0
    pub owes : (c : ℕ) → tally (owed_p c) qs ≡ 0
    pub rels : (c : ℕ) → tally (release_p c) qs ≡ 0
    pub agent : owned_f d.owner ≡ tally agent_p qs
    pub incs : (x : ℕ) → r.decider.incarnation ≡ (x + incarnation_p p) % 256 → d.incarnation ≡ (x + tally incarnation_p qs) % 256
    pub marks : tally mark_p qs ≡ 0
    pub unrejected : tally rejected_p qs ≡ 0
    pub reach : far_f d.owner + tally far_p qs ≡ 0
    pub fitting : tally (misfit_p d.owner) qs ≡ 0
    pub quiet : waited_f d.owner d.writer ≡ 0

  pub keep_reowned : {pref : ℕ} (j : MachineId) (u : ClientId) → j.0 < machines → (d : Decider) (qs : List Packet) → Reowned d qs
      → Keeps r j u rest (with_decider (site_of pref r j u) d) qs
  unfolding tally
  keep_reowned j u jj d qs l =
      let same : (c : ℕ) → told r u (client_in r u.0) c ≡ client_in r c = untold r u in
      keep_step i
      (record {
        split = sp;
        machine = jj;
        was = refl;
        asks = λ c m. rw (same c) (omega (arith, l.waits c m));
        most = λ c. rw (same c) (omega (arith, l.waits c Exclusive, l.waits c Shared, i.most c));
        noted = λ c. rw (same c) (i.noted c);
        presence = λ c. rw (same c) (omega (arith, l.waits c Exclusive, l.waits c Shared, l.lists c, l.owes c, p-lists c, p-owes c));
        owed = λ z c. rw (same c) (omega (arith, l.owes c, asks_all c, i.most c, sp.parts (owed_p c)));
        rels = λ c. rw (same c) (omega (arith, l.rels c, i.rels c, sp.parts (release_p c)));
        agent = omega (arith, l.agent, all);
        incs = λ x h. omega (arith, l.marks, l.incs (x + incarnation_s (slot_at r j.0)) (omega (arith, silent, sp.parts mark_p)));
        modes = λ c. rw (same c) (any_mode d.owner c);
        fitting = omega (arith, any_fits d.owner, l.fitting);
        homes = λ k. rw (set-get_or r.agents j.0 no_agent) (any_slot d.owner k);
        reach = l.reach;
        vacancy = rw (set-get_or r.agents j.0 no_agent) (omega (arith, none_rejected, l.unrejected));
        quiet = l.quiet;
      })

-- what is known of a GRANT with an agent at the decider
record Offer (o : Owner) (c : ClientId) (a : Agent) : Type 0 where
  named : ltb c.0 clients ≡ true
  mode : owned_mode o a.mode ≡ true
  away : fits_away a ≡ true

shared_owner_is : (n : Mode) (k : MachineId) → owned_shared (Owned n k) ≡ true → Owned n k ≡ Owned Shared k
shared_owner_is Exclusive k e = absurd (false≢true e)
shared_owner_is Shared k e = refl

-- ---- a step that is about machine j and client u, for the packet p at the decider
module _ (pref : ℕ) (r : LockState) (rest : List Packet) (i : Inv r) (j : MachineId) (u : ClientId) (jj : j.0 < machines) (p : Packet) where
  -- the site before it
  abbrev site : Site
  site = site_of pref r j u

  -- p with this message; the Bool: it carries an agent, which is a
  abbrev came : Message → Bool → Packet
  came m x = in_parts m ToDecider p.rejected x p

  abbrev a : Agent
  a = p.carried.agent

  -- ---- an ACQUIRE at a free lock
  pub keep_first : (c : ClientId) (m : Mode) (x : Bool) → r.decider.owner ≡ Unowned → Split r (came (Acquire c m false) x ∷ []) rest
      → Good r j u rest (grants_first site c m)
  unfolding tally ask_m mark_m owed_m release_m mark_all queued_s listed_s agent_s incarnation_s misfit_p fits owned_f fits_away waited_f
  keep_first c m x o sp =
      let pl : Plain c (slot_in x p) = plain_request i acquire_of sp in
      let z : Zero (slot_in x p) = pl.none in
      let al : agent_s (slot_in x p) ≡ owned_f r.decider.owner = rw o z.agent_s in
      keep_reowned r _ rest i sp al (silent_unshared r i (rw o)) (λ d. omega (arith, z.listed_s d)) (λ d. refl) j u jj _ _
      (record {
        waits = λ d n. rw (waiters_of []) (omega (arith, z.queued_s d n));
        lists = λ d. omega (arith, nobody no_holders d refl);
        owes = λ d. refl;
        rels = λ d. refl;
        agent = refl;
        incs = λ x h. omega (arith, z.incarnation_s, free_inc r i o);
        marks = refl;
        unrejected = refl;
        reach = omega (arith, near_home c pl.below);
        fitting = rw (pl.named, eq-eqb (machine_of c).0 (machine_of c).0 refl, same_mode_lem m);
        quiet = refl;
      })

  -- ---- an ACQUIRE, lock and request both shared
  pub keep_shares : (c : ClientId) (k : MachineId) (x : Bool) → r.decider.owner ≡ Owned Shared k
      → Split r (came (Acquire c Shared false) x ∷ []) rest → Good r j u rest (shares site c k)
  unfolding tally ask_m mark_m owed_m release_m mark_all queued_s listed_s agent_s incarnation_s misfit_p fits no_agent
  keep_shares c k x o sp =
      let pl : Plain c (slot_in x p) = plain_request i acquire_of sp in
      let z : Zero (slot_in x p) = pl.none in
      keep_calm i
      (record {
        frame = framed sp jj refl refl refl;
        status = refl;
        waits = λ d m. omega (arith, z.queued_s d m);
        holds = λ d. omega (arith, z.listed_s d);
        rels = λ d. omega arith;
        owed = λ q d. absurd (true≢false (rw o at q));
        agent = omega (arith, z.agent_s);
        incs = λ x h. omega (arith, z.incarnation_s);
        fitting = rw (o, pl.named);
        slot = i.homes j.0;
        reach = omega (arith, near_home c pl.below, near_owner r Shared k i o);
        vacancy = vacancy_by _ (plain (Grant c Shared) (ToMachine (machine_of c)) ∷ plain (Acquire c Shared true) (ToMachine k) ∷ []) i sp jj refl
            (omega arith);
      })

  -- ---- a FREE, a GRANT with agent
  came_free : Split r (came Free true ∷ []) rest → (owned_mode r.decider.owner a.mode && fits_free a) ≡ true
  unfolding misfit_p fits
  came_free sp = and_right (not p.rejected) _ (fit _ (came_fits r rest _ i sp))

  free_away : Split r (came Free true ∷ []) rest → Away a × (a.queue.len ≡ 0)
  unfolding fits_free
  free_away sp =
      let g : fits_free a ≡ true = and_right (owned_mode r.decider.owner a.mode) _ (came_free sp) in
      (away_of a (and_left (fits_away a) _ g), eqb-true a.queue.len 0 (and_right (fits_away a) _ g))

  came_grant : (c : ClientId) (m : Mode) → Split r (came (Grant c m) true ∷ []) rest → Offer r.decider.owner c a
  unfolding misfit_p fits
  came_grant c m sp =
      let f : (ltb c.0 clients && (not p.rejected && (owned_mode r.decider.owner a.mode && fits_away a))) ≡ true = fit _ (came_fits r rest _ i sp) in
      let g : (owned_mode r.decider.owner a.mode && fits_away a) ≡ true = and_right (not p.rejected) _ (and_right (ltb c.0 clients) _ f) in
      record { named = and_left _ _ f; mode = and_left _ _ g; away = and_right (owned_mode r.decider.owner a.mode) _ g }

  keep_freed : owned_f r.decider.owner ≡ 1 → a.incarnation ≡ r.decider.incarnation → Split r (came Free true ∷ []) rest
      → Keeps r j u rest (with_decider site unowned) []
  unfolding tally ask_m mark_m owed_m release_m mark_all queued_s listed_s agent_s incarnation_s owned_f waiters waited_f
  keep_freed ow e sp =
      let aw : Away a × (a.queue.len ≡ 0) = free_away sp in
      keep_reowned r _ rest i sp (sym ow) (silent_equal r _ rest i sp refl e) (λ d. omega (arith, nobody a.holders d aw.0.empty)) (λ d. refl) j u jj
      unowned []
      (record {
        waits = λ d n. rw (waiters, aw.1);
        lists = λ d. refl;
        owes = λ d. refl;
        rels = λ d. refl;
        agent = refl;
        incs = λ x h. omega (arith, e);
        marks = refl;
        unrejected = refl;
        reach = refl;
        fitting = refl;
        quiet = refl;
      })

  keep_passed_on : (c : ClientId) (m : Mode) → owned_f r.decider.owner ≡ 1 → a.incarnation ≡ r.decider.incarnation
      → Split r (came (Grant c m) true ∷ []) rest → Good r j u rest (passes_on site c m a)
  unfolding tally ask_m mark_m owed_m release_m mark_all queued_s listed_s agent_s incarnation_s misfit_p fits owned_f waited_f
  keep_passed_on c m ow e sp =
      let of : Offer r.decider.owner c a = came_grant c m sp in
      let aw : Away a = away_of a of.away in
      let anew : Agent = changed a a.holders a.queue 0 in
      let re : fits_away anew ≡ true = away_fits anew (record { sized = aw.sized; empty = aw.empty; small = omega arith }) in
      keep_reowned r _ rest i sp (sym ow) (silent_equal r _ rest i sp refl e) (λ d. omega (arith, nobody a.holders d aw.empty)) (λ d. refl) j u jj _ _
      (record {
        waits = λ d n. omega arith;
        lists = λ d. omega (arith, nobody a.holders d aw.empty);
        owes = λ d. refl;
        rels = λ d. refl;
        agent = refl;
        incs = λ x h. omega (arith, e);
        marks = refl;
        unrejected = refl;
        reach = omega (arith, near_home c (ltb-true c.0 clients of.named));
        fitting = rw (of.named, eq-eqb (machine_of c).0 (machine_of c).0 refl, same_mode_lem m, re);
        quiet = refl;
      })

  -- the incarnations differ: some mark is on the wire
  keep_rejected : (m : Message) (o : Mode) (k : MachineId) → r.decider.owner ≡ Owned o k → a.incarnation < 256
      → (a.incarnation ≡ r.decider.incarnation → ⊥) → fits (Owned o k) true (ToMachine k) true a m ≡ true
      → Split r (came m true ∷ []) rest → Good r j u rest (rejects site (came m true) k)
  unfolding misfit_p agent_s incarnation_s
  keep_rejected m o k eo s n f sp =
      keep_resent i (still refl) jj (came m true) _ refl refl sp (rw (eo, f))
      (omega (arith, no_others r _ rest i sp refl, differ r _ rest i sp refl s n)) (near_owner r o k i eo)

  keep_free_rejected : (o : Mode) (k : MachineId) → r.decider.owner ≡ Owned o k → (a.incarnation ≡ r.decider.incarnation → ⊥)
      → Split r (came Free true ∷ []) rest → Good r j u rest (rejects site (came Free true) k)
  unfolding fits
  keep_free_rejected o k e n sp = keep_rejected Free o k e (free_away sp).0.small n (both _ _ (eq-eqb k.0 k.0 refl) (rw e at (came_free sp))) sp

  keep_grant_rejected : (c : ClientId) (m : Mode) (o : Mode) (k : MachineId) → r.decider.owner ≡ Owned o k → (a.incarnation ≡ r.decider.incarnation → ⊥)
      → Split r (came (Grant c m) true ∷ []) rest → Good r j u rest (rejects site (came (Grant c m) true) k)
  unfolding fits
  keep_grant_rejected c m o k e n sp =
      let of : Offer (Owned o k) c a = rw e at (came_grant c m sp) in
      keep_rejected (Grant c m) o k e (away_of a of.away).small n (rw (of.named, eq-eqb k.0 k.0 refl, of.mode, of.away)) sp

  -- ---- every step at the decider
  owned_is : (o : Mode) (k : MachineId) → r.decider.owner ≡ Owned o k → owned_f r.decider.owner ≡ 1
  unfolding owned_f
  owned_is o k e = rw e

  near_grant : (c : ClientId) (m : Mode) → Split r (came (Grant c m) false ∷ []) rest → far_m (machine_of c) ≡ 0
  unfolding misfit_p
  near_grant c m sp = near_home c (ltb-true c.0 clients (named_of _ _ _ _ _ (Grant c m) (fit _ (came_fits r rest _ i sp))))

  -- sent on to the owner
  good_on : {c : ClientId} {m : Message} {v : Site} → Still r j u v → (o : Mode) (k : MachineId) (x : Bool) → Request c m → r.decider.owner ≡ Owned o k
      → Split r (came m x ∷ []) rest → Good r j u rest (to_owner (Owned o k) v (came m x))
  unfolding to_owner
  good_on st o k x q e sp = keep_on i st jj _ _ refl refl refl (λ w. request_any _ _ _ a w x q) (near_owner r o k i e) sp

  pub good_decides : (m : Message) (o : Owner) (x : Bool) → r.decider.owner ≡ o → Split r (came m x ∷ []) rest → Good r j u rest (decides m o site (came m x))
  unfolding decides decides_acquire decides_release decides_free decides_grant
  good_decides (Acquire c m false) Unowned x e sp = keep_first c m x e sp
  good_decides (Acquire c m true) Unowned x e sp = impossible i sp (rw e (no_marked x ToDecider _ a c m Unowned refl))
  good_decides (Acquire c m false) (Owned o k) x e sp = good_by r j u rest (may_share site m) _ _ yes (λ q. good_on (noted m e) o k x acquire_of e sp)
    where
      yes : may_share site m ≡ true → Good r j u rest (shares site c k)
      yes q =
          let both = may_share_lem site m q in
          keep_shares c k x (e ∙ shared_owner_is o k (rw e at both.0)) (rw both.1 at sp)
  good_decides (Acquire c m true) (Owned o k) x e sp = good_on (still refl) o k x acquire_of e sp
  good_decides (Release c) Unowned x e sp = keep_on i (still refl) jj _ _ refl refl refl (λ w. request_any _ _ _ a w x release_of) refl sp
  good_decides (Release c) (Owned o k) x e sp = keep_on i (still refl) jj _ _ refl refl refl (λ w. request_any _ _ _ a w x release_of) (near_owner r o k i e) sp
  good_decides Free o false e sp = impossible i sp (no_free _ ToDecider _ a)
  good_decides Free Unowned true e sp = impossible i sp (rw e (no_freed _ a))
  good_decides Free (Owned o k) true e sp =
      good_by r j u rest (current r.decider (came Free true)) _ _
      (λ q. keep_freed (owned_is o k e) (eqb-true _ _ q) sp) (λ q. keep_free_rejected o k e (eqb-false _ _ q) sp)
  good_decides (Grant c m) o false e sp = keep_on i (still refl) jj _ _ refl refl refl (λ w. plain_any _ _ _ a w (Grant c m)) (near_grant c m sp) sp
  good_decides (Grant c m) Unowned true e sp = impossible i sp (rw e (no_offer _ a c m))
  good_decides (Grant c m) (Owned o k) true e sp =
      good_by r j u rest (current r.decider (came (Grant c m) true)) _ _
      (λ q. keep_passed_on c m (owned_is o k e) (eqb-true _ _ q) sp) (λ q. keep_grant_rejected c m o k e (eqb-false _ _ q) sp)
