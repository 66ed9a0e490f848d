-- Each step of a drain lowers the number of StepsLeft by at least one. A delivery is of one of four kinds: no request is in it, a request goes on, an ACQUIRE
-- is taken, a RELEASE is taken. Of each it is shown what the packets and the clients' standing cost before and after (Cheaper), and that the requests have
-- fewer moves (Requests); then every rule is one of them.
use Rattle.std.specs.Prelude.{◌≡◌, ◌∷◌, ◌++◌, ◌+◌, ◌*◌, ◌≤◌, ◌<◌, ◌-◌}
use Rattle.theorems.specs.Names.{MachineId, ClientId, Mode, Owner, Address, Message, Acquire, Release, Packet, Status, LockState, refl, ap, Bool}
use Rattle.theorems.specs.Names.{false, List, [], ℕ, arith, eqb, packets, Site, apply, packets_of, clients, Shared}
use Rattle.theorems.specs.Names.{Unowned, Owned, Waiter, Agent, AgentSlot, ToDecider, ToMachine, Free, Grant, Idle, Waiting, Holding, sym, ◌∙◌, true}
use Rattle.theorems.specs.Names.{false≢true, map, zero, suc, max, lt-ltb, eqb-true, eq-eqb, ltb-true, removed, machine_of, some_agent, agent_on}
use Rattle.theorems.specs.Names.{status_of, plain, waiters, no_agent, site_of, with_slot, with_status, cannot_place, bool_cases, machines, in_parts, resent}
use Rattle.theorems.specs.Names.{decides_acquire, decides_free, decides_grant, decides, at_decider, to_owner, may_share, current, lists, sent_on, grants_first}
use Rattle.theorems.specs.Names.{shares, client_releases, release_step, installs, grant_arrives, grant_of, admitted, rejected_grant_arrives, free_arrives}
use Rattle.theorems.specs.Names.{arrives, delivers, at_machine, machine_at, deliver_step, takes, stays_if, leaves, any_holder, without, hand_over}
use Rattle.theorems.specs.Names.{release_arrives, and_left, and_right, acquire_arrives, marked, unmarked, sends_back, is_shared, may_join, no_room, slot_in}
use Rattle.theorems.specs.Names.{client_named, waiters_of, no_holders, any, is_client, or_left, or_right, joined, staying, get_or, set, get_or-set_other}
use Rattle.theorems.specs.Names.{eqb-false, length, pick, does, decides_release, queues, unqueuing, taken_off, granted_in, give_up_step, client_gives_up}
use Rattle.theorems.specs.Names.{note_of, Exclusive, installed}
use Rattle.theorems.specs.Tally.{flag, gate, tally, tally_one, tally_append, sum_to, sum_le, sum_gate, sum_shift, tally_le_at, tally_none, tally_zero}
use Rattle.theorems.specs.Weights.{status_at, waits_f, one, agent_p, hold_f, slot_at, weight, clash, listed_s, release_m, agent_s, owned_f, owned_at, misfit_s}
use Rattle.theorems.specs.Weights.{misfit_p, in_range, far_m, client_in, note_at, shared_f, idle_f, queued_s, one_w}
use Rattle.theorems.specs.Invariant.{Inv}
use Rattle.theorems.specs.InvariantStep.{Split, told, untold, told_by_lem, weight_after, client_at, plainly, Still, still, noted}
use Rattle.theorems.specs.StepsLeft.{early, claims, walk, trip_p, row, moves, acquires, releases, many, requests, laps, cost_p, queued, listed, share}
use Rattle.theorems.specs.StepsLeft.{steps_left, moves_most, cost_m, free_f, trips, free_or_owned, compare, queued_in, bears_none, present_once, places}
use Rattle.theorems.specs.Facts.{one_each, flag_le, hits, Request, acquire_of, release_of, plain_request, came_fits, fit, named_of, home_of, absent}
use Rattle.theorems.specs.Facts.{absent_of, alone, in_slot, none_away, some_agent_is, grant_waits, rejected_carries_one, Awaits, awaits, gave_up}
use Rattle.theorems.specs.Facts.{one_self, one_none, slot_home, nobody, list_off, statuses, Zero}
use Rattle.theorems.specs.Steps.{verdict, good_deliver, Says, says_by, after_step}
use Rattle.theorems.specs.Sent.{impossible, no_free, Good}
use Rattle.theorems.specs.Waiters.{grants_none, grants_count, parted, line_once, queued_one, taken_off_one}
use Rattle.theorems.specs.Clients.{good_client_releases, good_client_gives_up}
use Rattle.theorems.specs.Requests.{by_client, Frame, same_owner, other_owner, Quiet, Passes, passes_alone, passes_behind, Around, around, untouched}
use Rattle.theorems.specs.Requests.{request_on, acquire_off, release_off, laps_same, laps_fewer, laps_struck}

-- ---- a list of holders that one more joins, or some
set_most : (hs : List Bool) (c d : ℕ) → flag (get_or (set hs c true) d false) ≤ flag (get_or hs d false) + flag (eqb c d)
set_most hs c d =
    bool_cases (eqb c d) (λ q. rw q (omega (arith, flag_le (get_or (set hs c true) d false))))
    (λ q. rw (q, get_or-set_other hs c d true false (λ e. eqb-false c d q (sym e))) (omega arith))

joined_most : (hs : List Bool) (ws : List Waiter) (d : ℕ) → flag (get_or (joined hs ws) d false) ≤ flag (get_or hs d false) + tally (one_w d) ws
unfolding joined tally one
joined_most hs [] d = omega arith
joined_most hs (w ∷ ws) d = omega (arith, joined_most (set hs w.client.0 true) ws d, set_most hs w.client.0 d)

twice : {A : Type 0} (f : A → ℕ) (xs : List A) → tally (λ x. 2 * f x) xs ≡ 2 * tally f xs
unfolding tally
twice f [] = refl
twice f (x ∷ xs) = omega (arith, twice f xs)

none_off : (c : ClientId) (ws : List Waiter) → any (is_client c) ws ≡ false → tally (one_w c.0) ws ≡ 0
unfolding tally one
none_off c [] e = refl
none_off c (w ∷ ws) e =
    let here = or_left (is_client c w) (any (is_client c) ws) e in
    rw here (omega (arith, none_off c ws (or_right (is_client c w) (any (is_client c) ws) e)))

-- ---- a step: the packets gone leave the wire, qs are sent, rest stays
-- the number falls
record Falls (r : LockState) (rest : List Packet) (k : MachineId) (c : ClientId) (v : Site) (qs : List Packet) : Type 0 where
  falls : steps_left (apply k c v qs rest r) < steps_left r

-- what client d's places count for: in the queue and the list of a slot, and of the agents under way
abbrev places_s : ℕ → AgentSlot → ℕ
places_s d x = places (queued_in d x) (listed_s d x)

abbrev places_p : ℕ → Packet → ℕ
places_p d p = places_s d p.carried

mixed : {A : Type 0} (f g : A → ℕ) (xs : List A) → tally (λ x. places (f x) (g x)) xs ≡ places (tally f xs) (tally g xs)
unfolding tally
mixed f g [] = refl
mixed f g (x ∷ xs) = omega (arith, mixed f g xs)

places_are : (r : LockState) (d : ℕ) → weight (places_p d) (places_s d) r ≡ places (queued d r) (listed d r)
unfolding weight
places_are r d =
    omega (
      arith,
      mixed (λ p. queued_in d p.carried) (λ p. listed_s d p.carried) (packets r.wire),
      mixed (queued_in d) (listed_s d) r.agents,
    )

-- Packets, places and status of client d, whose status st becomes st', count for no more than before, and for g fewer if it is who. The slot old becomes new.
abbrev Costs : List Packet → List Packet → AgentSlot → AgentSlot → ClientId → ℕ → ℕ → Status → Status → Type 0
Costs gone qs old new who g d st st' =
    tally (cost_p d) qs + tally (places_p d) qs + places_s d new + 3 * (waits_f st' + hold_f st') + g * one d who
    ≤ tally (cost_p d) gone + tally (places_p d) gone + places_s d old + 3 * (waits_f st + hold_f st)

-- so of every client
record Cheaper (r : LockState) (k : MachineId) (c : ClientId) (v : Site) (gone qs : List Packet) (who : ClientId) (g : ℕ) : Type 0 where
  cheaper : (d : ℕ) → Costs gone qs (slot_at r k.0) v.slot who g d (status_at r d) (told r c (client_at v) d).status

-- and where no status changes
abbrev Cheap : List Packet → List Packet → AgentSlot → AgentSlot → ClientId → ℕ → Type 0
Cheap gone qs old new who g = (st : Status) (d : ℕ) → Costs gone qs old new who g d st st

calm : {r : LockState} {k : MachineId} {c : ClientId} {v : Site} {old : AgentSlot} {gone qs : List Packet} {who : ClientId} {g : ℕ} → slot_at r k.0 ≡ old
    → client_at v ≡ client_in r c.0 → Cheap gone qs old v.slot who g → Cheaper r k c v gone qs who g
calm {r} {k} {c} {v} es s ch =
    record { cheaper = λ d. let same : told r c (client_at v) d ≡ client_in r d = rw s (untold r c d) in rw (same, es) (ch (status_at r d) d) }

module _ (r : LockState) (i : Inv r) (gone rest : List Packet) (e : packets r.wire ≡ gone ++ rest) where
  split : Split r gone rest
  split = record { parts = λ f. rw e (tally_append f gone rest) }

  module _ (k : MachineId) (kk : k.0 < machines) (c : ClientId) (v : Site) (qs : List Packet) (who : ClientId) (g f : ℕ) (rises : ℕ → ℕ)
      (ch : Cheaper r k c v gone qs who g)
      (near : (d : ℕ) → requests d v.decider.owner (rest ++ qs) + f * one d who ≤ requests d r.decider.owner (gone ++ rest) + rises d) where
    abbrev after : LockState
    after = apply k c v qs rest r

    each_share : (d : ℕ) → share d after + gate (eqb who.0 d) (g + f) ≤ share d r + rises d
    unfolding share
    each_share d = by_client who d (λ q z w. rw q (omega (arith, rw z at both))) (λ q z. rw q (omega (arith, rw z at both)))
      where
        both : share d after + (g * one d who + f * one d who) ≤ share d r + rises d
        both =
            let places = weight_after (places_p d) (places_s d) r k c v gone qs rest (split.parts (places_p d)) (omega (arith, i.all_machines)) in
            rw (e, packets_of (rest ++ qs))
            (omega (
              arith,
              ch.cheaper d,
              places,
              places_are r d,
              places_are after d,
              near d,
              tally_append (cost_p d) gone rest,
              tally_append (cost_p d) rest qs,
            ))

    -- the requests have f fewer moves at who, and rises more
    fall : who.0 < clients → laps (rest ++ qs) + tally trip_p qs + sum_to clients rises < laps (gone ++ rest) + tally trip_p gone + (g + f)
        → Falls r rest k c v qs
    unfolding steps_left
    fall below less =
        record {
          falls = rw (e, packets_of (rest ++ qs))
              (omega (
                arith,
                less,
                tally_append trip_p gone rest,
                tally_append trip_p rest qs,
                sum_shift clients (λ d. share d after) (λ d. gate (eqb who.0 d) (g + f)) (λ d. share d r) rises each_share,
                sum_gate clients who.0 (g + f) below,
              ));
        }

no_rise : sum_to clients (λ d. 0) ≡ 0
no_rise = omega (arith, sum_le clients 0 (λ d. 0) (λ d. omega arith))

-- ---- the packet p leaves the wire, qs are sent, about machine k and client c
module _ (r : LockState) (i : Inv r) (p : Packet) (rest : List Packet) (e : packets r.wire ≡ p ∷ rest) (k : MachineId) (kk : k.0 < machines)
    (c : ClientId) (v : Site) (qs : List Packet) (who : ClientId) (below : who.0 < clients) (g : ℕ) (ch : Cheaper r k c v (p ∷ []) qs who g) where
  abbrev was : Owner
  was = r.decider.owner

  abbrev is : Owner
  is = v.decider.owner

  counted_quiet : Quiet qs → (d : ℕ) → Around p rest qs d (acquires d p.message) (releases d p.message)
  counted_quiet quiet d = around r i p rest e qs d refl refl (omega (arith, quiet d)) (omega (arith, quiet d))

  -- each client's requests, before and after
  abbrev acquiring : List Packet → ℕ → ℕ
  acquiring ps d = many (acquires d) ps

  abbrev releasing : List Packet → ℕ → ℕ
  releasing ps d = many (releases d) ps

  as_many : ((d : ℕ) → acquiring (rest ++ qs) d ≡ acquiring (p ∷ rest) d) → ((d : ℕ) → releasing (rest ++ qs) d ≡ releasing (p ∷ rest) d)
      → laps (rest ++ qs) ≡ laps (p ∷ rest)
  as_many ex er = laps_same (acquiring (p ∷ rest)) (acquiring (rest ++ qs)) (releasing (p ∷ rest)) (releasing (rest ++ qs)) ex er

  -- neither p nor what is sent is a request
  quiet_falls : Frame was is p rest qs → ((d : ℕ) → (acquires d p.message ≡ false) × (releases d p.message ≡ false)) → Quiet qs
      → tally trip_p qs < trip_p p + g → Falls r rest k c v qs
  quiet_falls fr np quiet less =
      let n = counted_quiet quiet in
      let same = as_many (λ d. omega (arith, n d, quiet d, ap flag (np d).0)) (λ d. omega (arith, n d, quiet d, ap flag (np d).1)) in
      fall r i (p ∷ []) rest e k kk c v qs who g 0 (λ d. 0) ch (λ d. omega (arith, untouched r i p rest e qs is fr d (np d).0 (np d).1 (quiet d))) below
      (omega (arith, less, no_rise, tally_one trip_p p, same))

  -- a request goes on
  passed_falls : {m : Message} {t : Address} → Request who m → p.message ≡ m → Passes m t qs → Frame was is p rest qs
      → let n = row is (rest ++ qs) - tally agent_p rest in let mv = moves was (row was (p ∷ rest)) p.to in
      ((releases who.0 m ≡ true → many (acquires who.0) rest ≡ 0) → moves is n t < mv) → moves is n t ≤ max 1 (mv - 1)
      → tally trip_p qs ≤ trip_p p → Falls r rest k c v qs
  passed_falls {m} rq pm pa fr strong weak trip =
      let n : (d : ℕ) → Around p rest qs d (acquires d m) (releases d m) =
      λ d. around r i p rest e qs d (ap (acquires d) pm) (ap (releases d) pm) (omega (arith, pa.acquiring d, flag_le (acquires d m)))
      (omega (arith, pa.releasing d, flag_le (releases d m))) in
      let same = as_many (λ d. omega (arith, n d, pa.acquiring d)) (λ d. omega (arith, n d, pa.releasing d)) in
      fall r i (p ∷ []) rest e k kk c v qs who g 1 (λ d. 0) ch (request_on r i p rest e qs is fr rq pm pa strong weak) below
      (omega (arith, trip, no_rise, tally_one trip_p p, same))

  -- an ACQUIRE is taken
  taken_falls : {m : Mode} {x : Bool} → Frame was is p rest qs → p.message ≡ Acquire who m x → Quiet qs → (f : ℕ)
      → f ≤ moves was (row was (p ∷ rest)) p.to → tally trip_p qs < trip_p p + (g + f) → Falls r rest k c v qs
  taken_falls fr pm quiet f most less =
      let nr : (d : ℕ) → flag (releases d p.message) ≡ 0 = λ d. rw pm in
      let fewer = laps_fewer (acquiring (p ∷ rest)) (acquiring (rest ++ qs)) (releasing (p ∷ rest)) (releasing (rest ++ qs))
      (λ d. omega (arith, counted_quiet quiet d, quiet d)) (λ d. omega (arith, counted_quiet quiet d, quiet d, nr d)) in
      fall r i (p ∷ []) rest e k kk c v qs who g f (λ d. 0) ch (acquire_off r i p rest e qs is fr pm quiet f most) below
      (omega (arith, less, no_rise, tally_one trip_p p, fewer))

  -- a RELEASE is taken, at an agent on its machine
  struck_falls : is ≡ was → p.message ≡ Release who → Quiet qs → row was (p ∷ rest) ≡ 0 → row was (rest ++ qs) ≤ 2 → tally agent_p rest ≡ 0
      → many (acquires who.0) rest ≡ 0 → tally trip_p qs < trip_p p + g → Falls r rest k c v qs
  unfolding one
  struck_falls same pm quiet home two none alone less =
      let x = acquiring (p ∷ rest) in
      let y = releasing (rest ++ qs) in
      let na : (d : ℕ) → flag (acquires d p.message) ≡ 0 = λ d. rw pm in
      let at : (d : ℕ) → flag (releases d p.message) ≡ one d who = λ d. rw pm in
      let struck = laps_struck who below x (acquiring (rest ++ qs)) (releasing (p ∷ rest)) y (λ d. omega (arith, counted_quiet quiet d, quiet d, na d))
      (λ d. omega (arith, counted_quiet quiet d, quiet d, at d)) (omega (arith, counted_quiet quiet who.0, na who.0, alone)) in
      fall r i (p ∷ []) rest e k kk c v qs who g 0 (λ d. 2 * max (x d) (y d) + 2 * y d) ch
      (λ d. rw same (release_off r i p rest e qs pm quiet home two none alone d)) below (omega (arith, less, tally_one trip_p p, struck))

-- ---- where the agent is
trip_none : (p : Packet) → agent_p p ≡ 0 → trip_p p ≡ 0
trip_none p z = omega (arith, z, (trips (p ∷ [])).1, tally_one trip_p p, tally_one agent_p p)

module _ (r : LockState) (i : Inv r) where
  abbrev ps : List Packet
  ps = packets r.wire

  same_place : (o : Owner) (j k : ℕ) → owned_at o j ≡ true → owned_at o k ≡ true → k ≡ j
  same_place Unowned j k e f = absurd (false≢true e)
  same_place (Owned m h) j k e f = sym (eqb-true h.0 k f) ∙ eqb-true h.0 j e

  -- what counts only agents counts nothing, if it does so on the owner's machine
  elsewhere : (g : AgentSlot → ℕ) → ((x : AgentSlot) → x.present ≡ false → g x ≡ 0) → (j : ℕ) → owned_at r.decider.owner j ≡ true
      → g (slot_at r j) ≡ 0 → tally g r.agents ≡ 0
  unfolding misfit_s
  elsewhere g z j at none = omega (arith, tally_le_at g (λ x. 0) no_agent r.agents (λ k h. go k (slot_at r k).present refl), tally_zero r.agents)
    where
      go : (k : ℕ) (b : Bool) → (slot_at r k).present ≡ b → g (slot_at r k) ≤ 0
      go k false q = omega (arith, z (slot_at r k) q)
      go k true q =
          let here = same_place r.decider.owner j k at (home_of r.decider.owner k (slot_at r k).agent (rw q at (i.homes k))).at in
          rw here (omega (arith, none))

  -- in row 0 no packet has it, so it is on the owner's machine, and whoever is listed is so there
  module _ (home : row r.decider.owner ps ≡ 0) (j : ℕ) (at : owned_at r.decider.owner j ≡ true) where
    none_carried : tally agent_p ps ≡ 0
    none_carried = omega (arith, home, (trips ps).0)

    is_home : (slot_at r j).present ≡ true
    unfolding weight agent_s
    is_home =
        bool_cases (slot_at r j).present (λ q. q)
        (λ q. absurd (omega (arith, home, none_carried, i.agent, free_or_owned r.decider.owner, elsewhere agent_s (λ x z. rw z) j at (rw q))))

    lists_there : (d : ℕ) → listed_s d (slot_at r j) ≡ 0 → listed d r ≡ 0
    unfolding weight
    lists_there d z =
        omega (
          arith,
          elsewhere (listed_s d) (λ x q. (absent x q).listed_s d) j at z,
          tally_none agent_p (λ p. listed_s d p.carried) (λ p q. (absent p.carried (absent_of p.carried q)).listed_s d) ps none_carried,
        )

    queues_there : (d : ℕ) → queued_in d (slot_at r j) ≡ 0 → queued d r ≡ 0
    unfolding weight
    queues_there d z =
        let zero : (x : AgentSlot) → x.present ≡ false → queued_in d x ≡ 0 =
        λ x q. omega (arith, (absent x q).queued_s d Exclusive, (absent x q).queued_s d Shared) in
        omega (
          arith,
          elsewhere (queued_in d) zero j at z,
          tally_none agent_p (λ p. queued_in d p.carried) (λ p q. zero p.carried (absent_of p.carried q)) ps none_carried,
        )

-- from the decider to the owner's machine, and from any other machine to the decider: w agents are on the wire
to_owner_lem : {m : Mode} {k : MachineId} (o : Owner) → o ≡ Owned m k → (n w : ℕ) → w ≤ n → n ≤ 2 * w → w ≤ 1
    → moves o (n - w) (ToMachine k) < moves o n ToDecider
unfolding moves
to_owner_lem {k = k} o e n w a b c = rw (e, eq-eqb k.0 k.0 refl) (omega arith)

to_decider_lem : (o : Owner) (k : MachineId) (n w : ℕ) → n - w ≤ 1 → (n ≡ 0 → owned_at o k.0 ≡ false) → moves o (n - w) ToDecider < moves o n (ToMachine k)
unfolding moves
to_decider_lem o k zero w h f = rw (f refl) (omega arith)
to_decider_lem o k (suc n) w h f = bool_cases (owned_at o k.0) (λ q. rw q (omega arith)) (λ q. rw q (omega arith))

-- ---- a request goes to t
cost_any : {c : ClientId} {m : Message} → Request c m → (d : ℕ) (x : Bool) (t t' : Address) → cost_m d x t m ≡ cost_m d x t' m
unfolding cost_m
cost_any (acquire_of {g = true}) d x t t' = refl
cost_any (acquire_of {g = false}) d x t t' = refl
cost_any release_of d x t t' = refl

module _ (r : LockState) (i : Inv r) (p : Packet) (rest : List Packet) (e : packets r.wire ≡ p ∷ rest) where
  abbrev owns : Owner
  owns = r.decider.owner

  abbrev comes : ℕ
  comes = row owns (p ∷ rest)

  -- what is known beside a request: it carries no agent, and where the agent is
  record Beside (c : ClientId) : Type 0 where
    below : c.0 < clients
    plain : agent_p p ≡ 0
    no_trip : trip_p p ≡ 0
    low : tally agent_p rest ≤ comes
    high : comes ≤ 2 * tally agent_p rest + free_f owns
    few : tally agent_p rest + free_f owns ≤ 1

  beside : {c : ClientId} → Request c p.message → Beside c
  unfolding weight tally
  beside {c} rq =
      let fits = plain_request i rq (split r i (p ∷ []) rest e) in
      let z = fits.none.agent_s in
      record {
        below = fits.below;
        plain = z;
        no_trip = trip_none p z;
        low = omega (arith, (trips rest).0);
        high = omega (arith, (trips rest).1, trip_none p z);
        few = omega (arith, rw e at i.agent, z, free_or_owned owns);
      }

  -- it goes to t; a RELEASE comes nearer if it is alone
  moved_falls : {c : ClientId} (k : MachineId) → k.0 < machines → (v : Site) (t : Address) (b : Bool) (n : ℕ) → Request c p.message → Still r k c v
      → ((releases c.0 p.message ≡ true → many (acquires c.0) rest ≡ 0) → moves owns (comes - tally agent_p rest) t < moves owns comes p.to)
      → moves owns (comes - tally agent_p rest) t ≤ max 1 (moves owns comes p.to - 1)
      → Falls r rest k c v (record { message = p.message; to = t; rejected = b; circled = n; carried = p.carried } ∷ [])
  unfolding tally
  moved_falls {c} k kk v t b n rq st strong weak =
      let q : Packet = record { message = p.message; to = t; rejected = b; circled = n; carried = p.carried } in
      let by = beside rq in
      let none : trip_p q ≡ 0 = trip_none q by.plain in
      let fr : Frame owns v.decider.owner p rest (q ∷ []) = same_owner st.owner (unfold tally in omega (arith, none, by.no_trip, by.plain)) in
      let same : row v.decider.owner (rest ++ q ∷ []) ≡ comes = omega (arith, fr.down, by.plain) in
      passed_falls r i p rest e k kk c v (q ∷ []) c by.below 0
      (calm refl st.status (λ s d. rw st.slot (omega (arith, cost_any rq d p.carried.present t p.to)))) rq refl (passes_alone q) fr
      (λ h. rw (same, st.owner) (strong h)) (rw (same, st.owner) weak) (omega (arith, none))

-- ---- a packet that brings the agent, and no request: nothing but its trip need be shorter
bears_falls : (r : LockState) (i : Inv r) (p : Packet) (rest : List Packet) (e : packets r.wire ≡ p ∷ rest) (k : MachineId) → k.0 < machines
    → (c : ClientId) (v : Site) (qs : List Packet) → ((d : ℕ) → (acquires d p.message ≡ false) × (releases d p.message ≡ false)) → Quiet qs
    → Frame r.decider.owner v.decider.owner p rest qs → Cheaper r k c v (p ∷ []) qs (record { 0 = 0 }) 0
    → tally trip_p qs < trip_p p → Falls r rest k c v qs
bears_falls r i p rest e k kk c v qs np quiet fr ch less =
    quiet_falls r i p rest e k kk c v qs (record { 0 = 0 }) (omega arith) 0 ch fr np quiet (omega (arith, less))

-- ---- an agent that strikes a client off stays, or leaves: the client's place in the list is gone, and every other counts for what it did
record Departs (a : Agent) (c : ClientId) (x : AgentSlot) (qs : List Packet) : Type 0 where
  quiet : Quiet qs
  trip : tally trip_p qs ≤ 2
  stands : (d : ℕ) → tally (cost_p d) qs + tally (places_p d) qs + places_s d x + 2 * one d c ≤ places_s d (some_agent a)

leaves_by : (P : Site → List Packet → Type 0) (v : Site) (a : Agent) (c : ClientId) → c.0 < length a.holders → get_or a.holders c.0 false ≡ true
    → ((x : AgentSlot) (qs : List Packet) → Departs a c x qs → P (with_slot v x) qs) → Says P (leaves v a c)
unfolding stays_if tally trip_p hand_over
leaves_by P v a c hl li f = go (any_holder (without a c))
  where
    off : (d : ℕ) → flag (get_or (without a c) d false) + one d c ≡ flag (get_or a.holders d false)
    off d = unfold one in list_off a.holders c.0 d hl li

    sent : (ws : List Waiter) → waiters a.queue ≡ ws → Departs a c no_agent (hand_over a (without a c) ws ∷ [])
    sent [] q =
        record {
          quiet = λ d. (refl, refl);
          trip = omega arith;
          stands = λ d. unfold queued_s listed_s no_agent cost_m tally in rw (q, waiters_of []) (omega (arith, off d));
        }
    sent (w ∷ ws) q =
        record {
          quiet = λ d. (refl, refl);
          trip = omega arith;
          stands = λ d. unfold queued_s listed_s no_agent cost_m tally in rw (q, waiters_of ws) (omega (arith, off d, hits d w.client w.mode));
        }

    go : (b : Bool) → Says P (stays_if b v a (without a c))
    go true =
        f _ []
        (record { quiet = λ d. (refl, refl); trip = omega arith; stands = λ d. unfold queued_s listed_s in omega (arith, off d) })
    go false = f _ _ (sent (waiters a.queue) refl)

-- ---- where no agent is, nobody has a place
no_places : (d : ℕ) (xs : List AgentSlot) → tally agent_s xs ≡ 0 → tally (queued_in d) xs + tally (listed_s d) xs ≡ 0
no_places d xs z =
    let zero : (x : AgentSlot) → agent_s x ≡ 0 → Zero x = λ x e. absent x (absent_of x e) in
    omega (
      arith,
      tally_none agent_s (queued_in d) (λ x e. omega (arith, (zero x e).queued_s d Exclusive, (zero x e).queued_s d Shared)) xs z,
      tally_none agent_s (listed_s d) (λ x e. (zero x e).listed_s d) xs z,
    )

no_carried : (d : ℕ) (ps : List Packet) → tally agent_p ps ≡ 0 → tally (λ q. queued_in d q.carried) ps + tally (λ q. listed_s d q.carried) ps ≡ 0
no_carried d ps z =
    let zero : (p : Packet) → agent_p p ≡ 0 → Zero p.carried = λ p e. absent p.carried (absent_of p.carried e) in
    omega (
      arith,
      tally_none agent_p (λ q. queued_in d q.carried) (λ p e. omega (arith, (zero p e).queued_s d Exclusive, (zero p e).queued_s d Shared)) ps z,
      tally_none agent_p (λ q. listed_s d q.carried) (λ p e. (zero p e).listed_s d) ps z,
    )

idle_most : (s : Status) → idle_f s ≤ 1
idle_most s = omega (arith, statuses s)

-- ---- the rules, for the first packet on the wire
module _ (pref : ℕ) (r : LockState) (i : Inv r) (rest : List Packet) where
  named : (p : Packet) → packets r.wire ≡ p ∷ rest → in_range p.message ≡ true
  unfolding misfit_p
  named p e = named_of _ _ _ _ _ p.message (fit _ (came_fits r rest p i (split r i (p ∷ []) rest e)))

  -- an agent is in this packet, and in no other
  no_other : (p : Packet) → packets r.wire ≡ p ∷ rest → agent_p p ≡ 1 → tally agent_p rest ≡ 0
  no_other p e h = omega (arith, alone r p rest i (split r i (p ∷ []) rest e) h)

  -- ---- at the decider
  module _ (j : MachineId) (jj : j.0 < machines) (p : Packet) where
    abbrev came : Message → Bool → Packet
    came m x = in_parts m ToDecider p.rejected x p

    nearer_owner : {c : ClientId} {m : Message} {n : Mode} {k : MachineId} (x : Bool) → Request c m → r.decider.owner ≡ Owned n k
        → packets r.wire ≡ came m x ∷ rest → let o = r.decider.owner in
        moves o (row o (came m x ∷ rest) - tally agent_p rest) (ToMachine k) < moves o (row o (came m x ∷ rest)) ToDecider
    unfolding free_f
    nearer_owner {m = m} x rq ew e =
        let b = beside r i (came m x) rest e rq in
        to_owner_lem r.decider.owner ew _ (tally agent_p rest) b.low (omega (arith, b.high, ap free_f ew)) (omega (arith, b.few))

    owner_falls : {c : ClientId} {m : Message} {n : Mode} {k : MachineId} {v : Site} (x : Bool) → Request c m → r.decider.owner ≡ Owned n k
        → packets r.wire ≡ came m x ∷ rest → Still r j c v → Falls r rest j c v (sent_on (came m x) k ∷ [])
    owner_falls {m = m} {k = k} {v} x rq ew e st =
        let near = nearer_owner x rq ew e in
        moved_falls r i (came m x) rest e j jj v (ToMachine k) p.rejected p.circled rq st (λ z. near) (omega (arith, near))

    -- a free lock has no agent
    first_falls : (c : ClientId) (n : Mode) (x : Bool) → r.decider.owner ≡ Unowned → packets r.wire ≡ came (Acquire c n false) x ∷ rest
        → Says (Falls r rest j c) (grants_first (site_of pref r j c) c n)
    unfolding weight tally owned_f free_f cost_m trip_p moves queued_s listed_s
    first_falls c n x ew e =
        let b = beside r i (came (Acquire c n false) x) rest e acquire_of in
        taken_falls r i (came (Acquire c n false) x) rest e j jj c _ _ c b.below 1
        (calm refl refl (λ st d. rw (waiters_of []) (omega (arith, nobody no_holders d refl))))
        (other_owner (omega (arith, rw (ew, e) at i.agent)) refl (omega (arith, ap free_f ew, b.plain, b.no_trip))) refl (λ d. (refl, refl)) 1 (omega arith)
        (omega arith)

    shares_falls : (c : ClientId) (n o : Mode) (x : Bool) (k : MachineId) → r.decider.owner ≡ Owned o k
        → packets r.wire ≡ came (Acquire c n false) x ∷ rest → Says (Falls r rest j c) (shares (site_of pref r j c) c k)
    unfolding tally cost_m trip_p no_agent queued_s listed_s
    shares_falls c n o x k ew e =
        let qs : List Packet = plain (Grant c Shared) (ToMachine (machine_of c)) ∷ plain (Acquire c Shared true) (ToMachine k) ∷ [] in
        let b = beside r i (came (Acquire c n false) x) rest e acquire_of in
        let fr : Frame r.decider.owner r.decider.owner (came (Acquire c n false) x) rest qs = same_owner refl (omega (arith, b.plain, b.no_trip)) in
        let same : row r.decider.owner (rest ++ qs) ≡ row r.decider.owner (came (Acquire c n false) x ∷ rest) = omega (arith, fr.down, b.plain) in
        let near = nearer_owner x acquire_of ew e in
        passed_falls r i (came (Acquire c n false) x) rest e j jj c _ qs c b.below 1 (calm refl refl (λ st d. omega arith)) acquire_of refl
        (passes_behind c n false (ToMachine k) (ToMachine (machine_of c))) fr (λ z. rw same near) (rw same (omega (arith, near))) (omega arith)

    -- a RELEASE at a free lock: its ACQUIRE is further on, and it is early no longer
    kept_falls : (c : ClientId) (x : Bool) → r.decider.owner ≡ Unowned → packets r.wire ≡ came (Release c) x ∷ rest
        → Falls r rest j c (site_of pref r j c) (resent (came (Release c) x) ToDecider p.rejected ∷ [])
    unfolding moves free_f weight owned_f tally
    kept_falls c x ew e =
        let b = beside r i (came (Release c) x) rest e release_of in
        let self : eqb c.0 c.0 ≡ true = eq-eqb c.0 c.0 refl in
        let none : tally agent_p (packets r.wire) + tally agent_s r.agents ≡ 0 = rw ew at i.agent in
        let slots : tally (queued_in c.0) r.agents + tally (listed_s c.0) r.agents ≡ 0 = no_places c.0 r.agents (omega (arith, none)) in
        let carried : tally (λ q. queued_in c.0 q.carried) (packets r.wire) + tally (λ q. listed_s c.0 q.carried) (packets r.wire) ≡ 0 =
        no_carried c.0 (packets r.wire) (omega (arith, none)) in
        let has : 1 ≤ many (releases c.0) (packets r.wire) = rw (e, self) (omega arith) in
        let asks : many (acquires c.0) (packets r.wire) ≡ many (acquires c.0) rest = rw e (omega arith) in
        let there : 1 ≤ many (acquires c.0) rest =
        omega (
          arith,
          present_once r i c.0,
          bears_none c.0 (packets r.wire) (omega (arith, none)),
          slots,
          carried,
          has,
          asks,
          idle_most (status_at r c.0),
        ) in
        moved_falls r i (came (Release c) x) rest e j jj _ ToDecider p.rejected p.circled release_of (still refl)
        (λ h. absurd (omega (arith, h self, there))) (omega (arith, b.low, b.high, b.few, ap free_f ew))

    decides_falls : (m : Message) (w : Owner) (x : Bool) → r.decider.owner ≡ w → packets r.wire ≡ came m x ∷ rest
        → Says (Falls r rest j (client_named m)) (decides m w (site_of pref r j (client_named m)) (came m x))
    unfolding decides decides_acquire decides_release decides_free decides_grant to_owner tally free_f cost_m trip_p agent_s queued_s listed_s
    decides_falls (Acquire c n false) Unowned x ew e = first_falls c n x ew e
    decides_falls (Acquire c n true) Unowned x ew e = tt
    decides_falls (Acquire c n true) (Owned m k) x ew e = owner_falls x acquire_of ew e (still refl)
    decides_falls (Acquire c n false) (Owned m k) x ew e =
        says_by _ (may_share (site_of pref r j c) n) _ _ (shares_falls c n m x k ew e) (owner_falls x acquire_of ew e (noted n ew))
    decides_falls (Release c) Unowned x ew e = kept_falls c x ew e
    decides_falls (Release c) (Owned m k) x ew e = owner_falls x release_of ew e (still refl)
    decides_falls (Grant c n) w false ew e =
        quiet_falls r i (came (Grant c n) false) rest e j jj c _ _ c (ltb-true c.0 clients (named (came (Grant c n) false) e)) 1
        (calm refl refl (λ st d. omega arith)) (same_owner refl refl) (λ d. (refl, refl)) (λ d. (refl, refl)) (omega arith)
    decides_falls (Grant c n) Unowned true ew e = tt
    decides_falls (Grant c n) (Owned m k) true ew e =
        says_by _ (current r.decider (came (Grant c n) true)) _ _
        (bears_falls r i _ rest e j jj _ _ _ (λ d. (refl, refl)) (λ d. (refl, refl)) (other_owner (no_other _ e refl) refl (omega (arith, ap free_f ew)))
        (calm refl refl (λ st d. omega arith)) (omega arith))
        (bears_falls r i _ rest e j jj _ _ _ (λ d. (refl, refl)) (λ d. (refl, refl)) (same_owner refl refl)
        (calm refl refl (λ st d. omega arith)) (omega arith))
    decides_falls Free Unowned x ew e = tt
    decides_falls Free (Owned m k) false ew e = impossible i (split r i (came Free false ∷ []) rest e) (no_free r.decider.owner _ _ _)
    decides_falls Free (Owned m k) true ew e =
        says_by _ (current r.decider (came Free true)) _ _
        (bears_falls r i _ rest e j jj _ _ [] (λ d. (refl, refl)) (λ d. (refl, refl)) (other_owner (no_other _ e refl) refl (omega (arith, ap free_f ew)))
        (calm refl refl (λ st d. omega arith)) (omega arith))
        (bears_falls r i _ rest e j jj _ _ _ (λ d. (refl, refl)) (λ d. (refl, refl)) (same_owner refl refl)
        (calm refl refl (λ st d. omega arith)) (omega arith))

  -- ---- at machine k
  module _ (k : MachineId) (kk : k.0 < machines) (p : Packet) where
    -- the site whose slot is x
    abbrev seen : AgentSlot → ClientId → Site
    seen x c = with_slot (site_of pref r k c) x

    -- p with this message; the Bools: rejected, it carries an agent
    abbrev arrived : Message → Bool → Bool → Packet
    arrived m b x = in_parts m (ToMachine k) b x p

    -- the slot does not serve the request: the agent cannot be at home here
    back_falls : {c : ClientId} {m : Message} {y : AgentSlot} (b x : Bool) → Request c m → slot_at r k.0 ≡ y → packets r.wire ≡ arrived m b x ∷ rest
        → ((releases c.0 m ≡ true → many (acquires c.0) rest ≡ 0) → row r.decider.owner (packets r.wire) ≡ 0
        → owned_at r.decider.owner k.0 ≡ true → ⊥) → Says (Falls r rest k c) (sends_back (seen y c) (arrived m b x))
    unfolding moves
    back_falls {c} {m} b x rq es e away =
        let few = beside r i (arrived m b x) rest e rq in
        moved_falls r i (arrived m b x) rest e k kk _ ToDecider b _ rq (still es)
        (λ h. to_decider_lem r.decider.owner k _ (tally agent_p rest) (omega (arith, few))
        (λ z. bool_cases (owned_at r.decider.owner k.0) (λ at. absurd (away h (rw e z) at)) (λ q. q))) (omega (arith, few))

    -- ---- an ACQUIRE at the agent
    served : {c : ClientId} {n : Mode} {g b x : Bool} {v : Site} {old : AgentSlot} (qs : List Packet) → packets r.wire ≡ arrived (Acquire c n g) b x ∷ rest
        → v.decider.owner ≡ r.decider.owner → slot_at r k.0 ≡ old → client_at v ≡ client_in r c.0 → Quiet qs → tally trip_p qs ≡ 0
        → Cheap (arrived (Acquire c n g) b x ∷ []) qs old v.slot c 1 → Falls r rest k c v qs
    served {c} {n} {g} {b} {x} {v} qs e ow es st quiet trip ch =
        let by = beside r i (arrived (Acquire c n g) b x) rest e acquire_of in
        taken_falls r i (arrived (Acquire c n g) b x) rest e k kk c v qs c by.below 1 (calm es st ch)
        (same_owner ow (omega (arith, trip, by.plain, by.no_trip))) refl quiet 0 (omega arith) (omega (arith, trip))

    -- a place in the list more, at most
    listed_more : (hs : List Bool) (c : ClientId) (d : ℕ) → flag (get_or (set hs c.0 true) d false) ≤ flag (get_or hs d false) + one d c
    unfolding one
    listed_more hs c d = set_most hs c.0 d

    acquire_falls : (here : Bool) (s : Agent) (c : ClientId) (n : Mode) (g b x : Bool) → slot_at r k.0 ≡ record { present = here; agent = s }
        → packets r.wire ≡ arrived (Acquire c n g) b x ∷ rest
        → Says (Falls r rest k c) (acquire_arrives here (seen (record { present = here; agent = s }) c) s (arrived (Acquire c n g) b x) c n g)
    unfolding acquire_arrives marked unmarked tally cost_m trip_p no_agent listed_s queued_s
    acquire_falls false s c n g b x es e = back_falls b x acquire_of es e (λ h z at. false≢true (rw es at (is_home r i z k.0 at)))
    acquire_falls true s c n true b x es e =
        says_by _ (is_shared s.mode) _ _ (served [] e refl es refl (λ d. (refl, refl)) refl (λ st d. omega (arith, listed_more s.holders c d))) tt
    acquire_falls true s c n false b x es e =
        says_by _ (may_join (seen (some_agent s) c) n) _ _
        (served _ e refl es refl (λ d. (refl, refl)) refl (λ st d. omega (arith, listed_more s.holders c d)))
        (says_by _ (no_room s c) cannot_place _ tt
        (served [] e refl es refl (λ d. (refl, refl)) refl
        (λ st d. omega (arith, queued_one s c n d Exclusive, queued_one s c n d Shared, hits d c n))))

    -- ---- a RELEASE at the agent that lists its client
    -- what is known where it is taken, by an agent that has the client in its list or queue: the agent is at home, and the client has no ACQUIRE
    record Taking (c : ClientId) : Type 0 where
      home : row r.decider.owner (packets r.wire) ≡ 0
      free : free_f r.decider.owner ≡ 0
      still : tally trip_p rest ≡ 0
      away : tally agent_p rest ≡ 0
      single : many (acquires c.0) rest ≡ 0

    taking : {y : AgentSlot} {c : ClientId} {b x : Bool} → slot_at r k.0 ≡ y → y.present ≡ true → 1 ≤ listed_s c.0 y + queued_in c.0 y
        → packets r.wire ≡ arrived (Release c) b x ∷ rest → Taking c
    unfolding tally agent_s weight
    taking {y} {c} {b} {x} es here on e =
        let o : Owner = r.decider.owner in
        let came : Packet = arrived (Release c) b x in
        let self : eqb c.0 c.0 ≡ true = eq-eqb c.0 c.0 refl in
        let lists = in_slot r (λ q. listed_s c.0 q.carried) (listed_s c.0) k.0 y i kk es in
        let queues = in_slot r (λ q. queued_in c.0 q.carried) (queued_in c.0) k.0 y i kk es in
        let agent : agent_s y ≤ weight agent_p agent_s r = in_slot r agent_p agent_s k.0 y i kk es in
        let away : tally agent_p (came ∷ rest) ≡ 0 = rw e at (none_away r i k.0 kk y.agent (es ∙ some_agent_is y here)) in
        let free : free_f o ≡ 0 = omega (arith, agent, ap flag here, i.agent, free_or_owned o) in
        let still : tally trip_p rest ≡ 0 = omega (arith, away, (trips rest).1) in
        let asks : many (acquires c.0) (packets r.wire) ≡ many (acquires c.0) rest = rw e (omega arith) in
        let once = present_once r i c.0 in
        record {
          home = rw e (omega (arith, free, still, away, (trips (came ∷ rest)).1));
          free = free;
          still = still;
          away = omega (arith, away);
          single = omega (arith, on, lists, queues, once, asks, idle_release c.0 (rw (e, self) (omega arith)));
        }
      where
        -- whose RELEASE is under way is idle, and has one
        idle_release : (d : ℕ) → 1 ≤ many (releases d) (packets r.wire) → (idle_f (status_at r d) ≡ 1) × (many (releases d) (packets r.wire) ≡ 1)
        idle_release d h = (
          omega (arith, h, i.rels d, (compare d (packets r.wire)).same, idle_most (status_at r d)),
          omega (arith, h, i.rels d, (compare d (packets r.wire)).same, idle_most (status_at r d)),
        )

    struck : {y : AgentSlot} {c : ClientId} {b x : Bool} → slot_at r k.0 ≡ y → lists y c ≡ true → packets r.wire ≡ arrived (Release c) b x ∷ rest
        → Says (Falls r rest k c) (leaves (seen y c) y.agent c)
    unfolding tally listed_s cost_m
    struck {y} {c} {b} {x} es li e =
        let o : Owner = r.decider.owner in
        let came : Packet = arrived (Release c) b x in
        let here : y.present ≡ true = and_left y.present _ li in
        let on : 1 ≤ listed_s c.0 y = rw (here, and_right y.present _ li) (omega arith) in
        let t = taking es here (omega (arith, on)) e in
        let sized = (slot_home r k.0 y.agent i (es ∙ some_agent_is y here)).sized in
        let below = (beside r i came rest e release_of).below in
        leaves_by _ (seen y c) y.agent c (omega (arith, sized, below)) (and_right y.present _ li)
        (λ s qs dp.
        struck_falls r i came rest e k kk c _ qs c below 3 (calm (es ∙ some_agent_is y here) refl (λ st d. omega (arith, dp.stands d))) refl refl dp.quiet
        (rw e at t.home) (omega (arith, tally_append trip_p rest qs, t.still, t.free, dp.trip)) t.away t.single (omega (arith, dp.trip)))

    -- or has it in its queue
    unqueued : {y : AgentSlot} {c : ClientId} {b x : Bool} → slot_at r k.0 ≡ y → queues y c ≡ true → packets r.wire ≡ arrived (Release c) b x ∷ rest
        → Falls r rest k c (with_slot (seen y c) (some_agent (unqueuing y.agent c))) []
    unfolding tally listed_s queued_s cost_m
    unqueued {y} {c} {b} {x} es qu e =
        let o : Owner = r.decider.owner in
        let came : Packet = arrived (Release c) b x in
        let here : y.present ≡ true = and_left y.present _ qu in
        let ws : List Waiter = waiters y.agent.queue in
        let inside : any (is_client c) ws ≡ true = and_right y.present _ qu in
        let off : (d : ℕ) → tally (one_w d) ws ≡ tally (one_w d) (taken_off c ws) + one d c = taken_off_one c ws inside in
        let on : 1 ≤ queued_in c.0 y = rw here (omega (arith, line_once ws c.0, off c.0, one_self c)) in
        let t = taking es here (omega (arith, on)) e in
        struck_falls r i came rest e k kk c _ [] c (beside r i came rest e release_of).below 3
        (calm (es ∙ some_agent_is y here) refl
        (λ st d. rw (waiters_of (taken_off c ws)) (omega (arith, off d, line_once ws d, line_once (taken_off c ws) d)))) refl refl (λ d. (refl, refl))
        (rw e at t.home) (omega (arith, tally_append trip_p rest [], t.still, t.free)) t.away t.single (omega arith)

    handed_falls : (y : AgentSlot) (c : ClientId) (b x : Bool) → slot_at r k.0 ≡ y → packets r.wire ≡ arrived (Release c) b x ∷ rest
        → Says (Falls r rest k c) (release_arrives (seen y c) (arrived (Release c) b x) c)
    unfolding release_arrives tally listed_s queued_s
    handed_falls y c b x es e =
        let self : eqb c.0 c.0 ≡ true = eq-eqb c.0 c.0 refl in
        let unlisted : lists y c ≡ false → listed_s c.0 y ≡ 0 = λ un. bool_cases y.present (λ q. rw q (ap flag (rw q at un))) (λ q. rw q) in
        let none : queues y c ≡ false → queued_in c.0 y ≡ 0 =
        λ un. bool_cases y.present
        (λ q. rw q (omega (arith, line_once (waiters y.agent.queue) c.0, none_off c (waiters y.agent.queue) (rw q at un)))) (λ q. rw q) in
        bool_cases (lists y c) (λ q. rw q (struck es q e))
        (λ q. rw q
        (bool_cases (queues y c) (λ u. rw u (unqueued es u e))
        (λ u. rw u
        (back_falls b x release_of es e
        (λ h z at. omega (
          arith,
          rw (e, self) at (present_once r i c.0),
          rw e at (bears_none c.0 (packets r.wire) (none_carried r i z k.0 at)),
          h self,
          lists_there r i z k.0 at c.0 (rw es (unlisted q)),
          queues_there r i z k.0 at c.0 (rw es (none u)),
          idle_most (status_at r c.0),
        ))))))

    -- ---- a GRANT: its client waited, and holds from now on; or it is idle and stays so
    module _ (c : ClientId) (n : Mode) (x : Bool) (e : packets r.wire ≡ arrived (Grant c n) false x ∷ rest) where
      granted : c.0 < clients
      granted = ltb-true c.0 clients (named (arrived (Grant c n) false x) e)

      held : (d : ℕ) → let st = (told r c (plainly (granted_in n (status_at r c.0))) d).status in
          waits_f st + hold_f st ≡ waits_f (status_at r d) + hold_f (status_at r d)
      held d =
          told_by_lem (plainly (granted_in n (status_at r c.0))) i granted d
          (λ y. waits_f y.status + hold_f y.status ≡ waits_f (status_at r d) + hold_f (status_at r d)) (λ q. rw q (same (status_at r c.0) awaited))
          (λ q. refl)
        where
          awaited : Awaits n (status_at r c.0)
          awaited = grant_waits (arrived (Grant c n) false x) i refl (split r i (arrived (Grant c n) false x ∷ []) rest e)

          same : (st : Status) → Awaits n st → waits_f (granted_in n st) + hold_f (granted_in n st) ≡ waits_f st + hold_f st
          same _ gave_up = refl
          same _ awaits = unfold waits_f hold_f in refl

    -- who is listed by the agent that is installed
    listed_new : (c : ClientId) (n : Mode) (d : ℕ) → listed_s d (some_agent (installed n c p.carried.agent))
        ≤ listed_s d (slot_in true p) + one d c + tally (one_w d) (admitted n (waiters p.carried.agent.queue))
    unfolding listed_s one
    listed_new c n d =
        let hs : List Bool = p.carried.agent.holders in
        let out : List Waiter = admitted n (waiters p.carried.agent.queue) in
        omega (arith, joined_most (set hs c.0 true) out d, set_most hs c.0 d)

    -- those who are admitted are told: each counts for its GRANT and its place in the list what it did for the one in the queue
    installs_falls : (c : ClientId) (n : Mode) (s : Agent) → slot_at r k.0 ≡ record { present = false; agent = s }
        → packets r.wire ≡ arrived (Grant c n) false true ∷ rest
        → Says (Falls r rest k c) (installs (seen (record { present = false; agent = s }) c) c n p.carried.agent)
    unfolding installs tally cost_m release_m trip_p agent_s no_agent queued_s listed_s
    installs_falls c n s es e =
        quiet_falls r i (arrived (Grant c n) false true) rest e k kk c _ qs c (granted c n true e) 2
        (record {
          cheaper = λ d.
              rw (es, waiters_of (staying n line))
              (omega (
                arith,
                held c n true e d,
                costs d,
                parted n (one_w d) line,
                line_once line d,
                line_once (staying n line) d,
                listed_new c n d,
                none (places_p d) (λ w. refl),
              ));
        }) (same_owner refl (omega (arith, none trip_p (λ w. refl)))) (λ d. (refl, refl)) quiet (omega (arith, none trip_p (λ w. refl)))
      where
        line : List Waiter
        line = waiters p.carried.agent.queue

        qs : List Packet
        qs = map grant_of (admitted n line)

        none : (f : Packet → ℕ) → ((d : ClientId) → f (plain (Grant d Shared) ToDecider) ≡ 0) → tally f qs ≡ 0
        none f h = grants_none n f h line

        quiet : Quiet qs
        quiet d = (none (λ q. flag (acquires d q.message)) (λ w. refl), none (λ q. flag (releases d q.message)) (λ w. refl))

        costs : (d : ℕ) → tally (cost_p d) qs ≡ 2 * tally (one_w d) (admitted n line)
        costs d = grants_count n (cost_p d) (λ w. 2 * one_w d w) (λ w. refl) line ∙ twice (one_w d) (admitted n line)

    grant_falls : (here : Bool) (s : Agent) (c : ClientId) (n : Mode) (x : Bool) → slot_at r k.0 ≡ record { present = here; agent = s }
        → packets r.wire ≡ arrived (Grant c n) false x ∷ rest
        → Says (Falls r rest k c) (grant_arrives here x (seen (record { present = here; agent = s }) c) p.carried.agent c n)
    unfolding grant_arrives tally cost_m trip_p agent_s queued_s listed_s
    grant_falls here s c n false es e =
        quiet_falls r i (arrived (Grant c n) false false) rest e k kk c _ [] c (granted c n false e) 1
        (record { cheaper = λ d. rw es (omega (arith, held c n false e d)) })
        (same_owner refl refl) (λ d. (refl, refl)) (λ d. (refl, refl)) (omega arith)
    grant_falls true s c n true es e = tt
    grant_falls false s c n true es e = installs_falls c n s es e

    -- ---- the agent is back as it left
    rejected_falls : (here : Bool) (s : Agent) (c : ClientId) (n : Mode) → slot_at r k.0 ≡ record { present = here; agent = s }
        → packets r.wire ≡ arrived (Grant c n) true true ∷ rest
        → Says (Falls r rest k c) (rejected_grant_arrives here (seen (record { present = here; agent = s }) c) p.carried.agent c n)
    unfolding rejected_grant_arrives tally trip_p agent_s cost_m queued_s listed_s
    rejected_falls true s c n es e = tt
    rejected_falls false s c n es e =
        says_by _ (no_room p.carried.agent c) cannot_place _ tt
        (bears_falls r i _ rest e k kk c _ [] (λ d. (refl, refl)) (λ d. (refl, refl)) (same_owner refl refl)
        (calm es refl
        (λ st d. rw (waiters_of (record { client = c; mode = n } ∷ waiters p.carried.agent.queue)) (omega (arith, hits d c n)))) (omega arith))

    free_falls : (here : Bool) (s : Agent) (b x : Bool) → slot_at r k.0 ≡ record { present = here; agent = s } → packets r.wire ≡ arrived Free b x ∷ rest
        → Says (Falls r rest k (client_named Free)) (free_arrives here (seen (record { present = here; agent = s }) (client_named Free)) (slot_in x p))
    unfolding free_arrives tally trip_p agent_s cost_m queued_s listed_s
    free_falls true s b x es e = tt
    free_falls false s b false es e = impossible i (split r i (arrived Free b false ∷ []) rest e) (no_free r.decider.owner _ _ _)
    free_falls false s b true es e =
        bears_falls r i _ rest e k kk _ _ [] (λ d. (refl, refl)) (λ d. (refl, refl)) (same_owner refl refl) (calm es refl (λ st d. omega arith)) (omega arith)

    arrives_falls : (m : Message) (b x : Bool) → packets r.wire ≡ arrived m b x ∷ rest
        → Says (Falls r rest k (client_named m)) (arrives m (site_of pref r k (client_named m)) (arrived m b x))
    unfolding arrives
    arrives_falls (Acquire c n g) b x e = acquire_falls (agent_on r k).present (agent_on r k).agent c n g b x refl e
    arrives_falls (Grant c n) false x e = grant_falls (agent_on r k).present (agent_on r k).agent c n x refl e
    arrives_falls (Grant c n) true true e = rejected_falls (agent_on r k).present (agent_on r k).agent c n refl e
    arrives_falls (Grant c n) true false e =
        absurd (rejected_carries_one r i rest (arrived (Grant c n) true false) (split r i (arrived (Grant c n) true false ∷ []) rest e) refl refl)
    arrives_falls (Release c) b x e = handed_falls (agent_on r k) c b x refl e
    arrives_falls Free b x e = free_falls (agent_on r k).present (agent_on r k).agent b x refl e

  delivers_falls : (p : Packet) (t : Address) → packets r.wire ≡ resent p t p.rejected ∷ rest
      → Says (Falls r rest (machine_at t) (client_named p.message)) (verdict pref r (resent p t p.rejected))
  unfolding delivers at_decider at_machine tally far_m
  delivers_falls p ToDecider e = decides_falls _ (omega arith) p p.message r.decider.owner p.carried.present refl e
  delivers_falls p (ToMachine k) e =
      arrives_falls k (ltb-true k.0 machines (fit _ (omega (arith, rw e at i.reach)))) p p.message p.rejected p.carried.present e

pub deliver_falls : (pref : ℕ) (r : LockState) → Inv r → (p : Packet) (ps : List Packet) → packets r.wire ≡ p ∷ ps
    → steps_left (deliver_step pref r 0).state < steps_left r
unfolding deliver_step takes removed
deliver_falls pref r i p ps e =
    let good : Good r (machine_at p.to) (client_named p.message) ps (verdict pref r p) = rw e at (good_deliver pref r i 0 (rw e (omega arith))) in
    rw e
    (after_step _ _ (Falls r ps (machine_at p.to) (client_named p.message)) (λ s. steps_left s < steps_left r) (verdict pref r p) ps r good
    (delivers_falls pref r i ps p p.to e) (λ v qs f. f.falls))

-- ---- a client that holds releases, where the wire is empty; or one that has lost its GRANT gives up
module _ (pref : ℕ) (r : LockState) (i : Inv r) (c : ClientId) (below : c.0 < clients) (empty : packets r.wire ≡ [])
    (counts : waits_f (status_at r c.0) + hold_f (status_at r c.0) ≡ 1) (is-owned : free_f r.decider.owner ≡ 0) where
  idled : (d : ℕ) → let st = (told r c (plainly Idle) d).status in 3 * (waits_f st + hold_f st) + 3 * one d c
      ≡ 3 * (waits_f (status_at r d) + hold_f (status_at r d))
  idled d =
      told_by_lem (plainly Idle) i below d
      (λ y. 3 * (waits_f y.status + hold_f y.status) + 3 * one d c ≡ 3 * (waits_f (status_at r d) + hold_f (status_at r d)))
      (λ q. rw q (unfold waits_f hold_f in omega (arith, one_self c, counts))) (λ q. omega (arith, one_none d c q))

  own_leaves : (v : Site) (a : Agent) (qs : List Packet) → v.decider.owner ≡ r.decider.owner → client_at v ≡ plainly Idle
      → slot_at r (machine_of c).0 ≡ some_agent a → Departs a c v.slot qs → Falls r [] (machine_of c) c v qs
  unfolding tally walk early claims
  own_leaves v a qs ow st es dp =
      let o : Owner = v.decider.owner in
      let two : row o qs ≤ 2 = omega (arith, dp.trip, ap free_f ow, is-owned) in
      fall r i [] [] empty (machine_of c) (omega arith) c v qs c 5 0 (λ d. 0) (record { cheaper = λ d. rw (es, st) (omega (arith, idled d, dp.stands d)) })
      (λ d. omega (arith, dp.quiet d, moves_most (acquires d) o (row o qs) qs two, moves_most (releases d) o (row o qs) qs two)) below
      (omega (
        arith,
        dp.trip,
        no_rise,
        laps_same (λ d. 0) (λ d. many (acquires d) qs) (λ d. 0) (λ d. many (releases d) qs) (λ d. (dp.quiet d).0) (λ d. (dp.quiet d).1),
      ))

  own_sends : Falls r [] (machine_of c) c (with_status (site_of pref r (machine_of c) c) Idle) (plain (Release c) ToDecider ∷ [])
  unfolding tally walk early claims moves trip_p no_agent cost_m queued_s listed_s one
  own_sends =
      fall r i [] [] empty (machine_of c) (omega arith) c _ (plain (Release c) ToDecider ∷ []) c 2 0 (λ d. one d c)
      (record { cheaper = λ d. omega (arith, idled d) })
      (λ d. by_client c d (λ q z w. rw q (omega (arith, is-owned))) (λ q z. rw q (omega arith))) below
      (omega (
        arith,
        one_each c (lt-ltb c.0 clients below),
        no_rise,
        laps_struck c below (λ d. 0) (λ d. 0) (λ d. many (releases d) (plain (Release c) ToDecider ∷ [])) (λ d. 0) (λ d. refl) (λ d. omega arith) refl,
      ))

  own_falls : Says (Falls r [] (machine_of c) c) (client_releases (site_of pref r (machine_of c) c) c)
  unfolding client_releases
  own_falls = go (lists (agent_on r (machine_of c)) c) refl
    where
      x : AgentSlot
      x = agent_on r (machine_of c)

      go : (b : Bool) → lists (agent_on r (machine_of c)) c ≡ b
          → Says (Falls r [] (machine_of c) c) (pick b (leaves (with_status (site_of pref r (machine_of c) c) Idle) x.agent c)
          (does (with_status (site_of pref r (machine_of c) c) Idle) (plain (Release c) ToDecider ∷ [])))
      go false q = own_sends
      go true q =
          let is : slot_at r (machine_of c).0 ≡ some_agent x.agent = some_agent_is x (and_left x.present _ q) in
          leaves_by _ _ x.agent c (omega (arith, (slot_home r (machine_of c).0 x.agent i is).sized, below)) (and_right x.present _ q)
          (λ y qs dp. own_leaves _ x.agent qs refl refl is dp)

held_owned : (r : LockState) (i : Inv r) (c : ClientId) (n : Mode) → status_at r c.0 ≡ Holding n → free_f r.decider.owner ≡ 0
unfolding free_f clash
held_owned r i c n h = go r.decider.owner (rw h at (i.modes c.0))
  where
    go : (o : Owner) → clash o (Holding n) ≡ 0 → free_f o ≡ 0
    go Unowned z = absurd (omega arith)
    go (Owned m k) z = refl

pub release_falls : (pref : ℕ) (r : LockState) → Inv r → (c : ClientId) (n : Mode) → c.0 < clients → status_of r c ≡ Holding n → packets r.wire ≡ []
    → steps_left (release_step pref r c).state < steps_left r
unfolding release_step
release_falls pref r i c n below h e =
    after_step _ _ (Falls r (packets r.wire) (machine_of c) c) (λ s. steps_left s < steps_left r) _ (packets r.wire) r
    (good_client_releases pref r i c below n h)
    (rw e (own_falls pref r i c below e (unfold waits_f hold_f in rw h) (held_owned r i c n h))) (λ v qs f. f.falls)

-- who has lost its GRANT waits, at a shared lock
noted_owned : (r : LockState) (i : Inv r) (c : ClientId) → note_at r c.0 ≡ true → packets r.wire ≡ [] → (n : Mode) → status_at r c.0 ≡ Waiting n
    → free_f r.decider.owner ≡ 0
unfolding tally idle_f
noted_owned r i c q e n w = go r.decider.owner (rw (e, q, w) at (i.owed c.0))
  where
    go : (o : Owner) → 0 + 1 ≤ 0 + 0 + shared_f o → free_f o ≡ 0
    go Unowned z = absurd (omega arith)
    go (Owned m k) z = unfold free_f in refl

pub give_up_falls : (pref : ℕ) (r : LockState) → Inv r → (c : ClientId) (n : Mode) → c.0 < clients → status_of r c ≡ Waiting n → note_of r c ≡ true
    → packets r.wire ≡ [] → steps_left (give_up_step pref r c).state < steps_left r
unfolding give_up_step client_gives_up
give_up_falls pref r i c n below h q e =
    after_step _ _ (Falls r (packets r.wire) (machine_of c) c) (λ s. steps_left s < steps_left r) _ (packets r.wire) r
    (good_client_gives_up pref r i c below n h)
    (rw e (own_sends pref r i c below e (unfold waits_f hold_f in rw h) (noted_owned r i c q e n h))) (λ v qs f. f.falls)
