-- How any weight changes under a step, and what a step has to show so that the invariant is kept. A step is about machine k, whose slot was old,
-- and client c; v is the site after it; the packets gone leave the wire, qs are sent, rest stays.
use Rattle.std.specs.Prelude.{◌*◌, ◌≡◌, ◌∷◌, ◌++◌, ◌+◌, ◌-◌, ◌≤◌, ◌<◌, ◌%◌}
use Rattle.theorems.specs.Names.{Exclusive, Shared, Message, Acquire, Grant, Release, Free, Idle, Waiting, Holding, ClientState, Bool, true, false}
use Rattle.theorems.specs.Names.{owned_shared, bool_cases, clients, MachineId, ClientId, Mode, AgentSlot, Packet, Status, LockState, refl, ap}
use Rattle.theorems.specs.Names.{◌∙◌, List, [], ℕ, arith, ℕ_discrete, length, get_or, set, length-set, set-get_or}
use Rattle.theorems.specs.Names.{get_or-set_same, get_or-set_other, removed, idle, no_agent, blank_packet, packets, Site, site_of, apply, wire_of, packets_of}
use Rattle.theorems.specs.Names.{machines, sym, with_slot, Owned, noting}
use Rattle.theorems.specs.Tally.{flag, tally, tally_le, tally_add, tally_one, tally_append, tally_removed, tally_set, tally_at}
use Rattle.theorems.specs.Weights.{status_at, slot_at, weight, queued_s, waiting_p, listed_s, listed_p, owed_p, release_p, agent_s, agent_p, incarnation_s}
use Rattle.theorems.specs.Weights.{incarnation_p, mark_p, rejected_p, vacant_s, wait_f, hold_f, idle_f, owned_f, clash, far_p, far_f, misfit_s, misfit_p}
use Rattle.theorems.specs.Weights.{waited_f}
use Rattle.theorems.specs.Weights.{client_in, note_at, note_f, shared_f, one, hit, ask_m, owed_m, release_m}
use Rattle.theorems.specs.Invariant.{Inv}

pub packets_after : (f : Packet → ℕ) (rest qs : List Packet) → tally f (packets (wire_of (rest ++ qs))) ≡ tally f rest + tally f qs
packets_after f rest qs = simp (packets_of, tally_append)

-- one law for every weight
pub weight_after : (f : Packet → ℕ) (g : AgentSlot → ℕ) (r : LockState) (k : MachineId) (c : ClientId) (v : Site) (gone qs rest : List Packet)
    → tally f (packets r.wire) ≡ tally f gone + tally f rest → k.0 < length r.agents
    → weight f g (apply k c v qs rest r) + tally f gone + g (slot_at r k.0) ≡ weight f g r + tally f qs + g v.slot
unfolding weight
weight_after f g r k c v gone qs rest e h = omega (arith, packets_after f rest qs, tally_set g no_agent r.agents k.0 v.slot h)

-- a client after a step that makes x of c: its status and its note
abbrev pub told : LockState → ClientId → ClientState → ℕ → ClientState
told r c x d = get_or (set r.clients c.0 x) d idle

pub untold : (r : LockState) (c : ClientId) (d : ℕ) → told r c (client_in r c.0) d ≡ client_in r d
untold r c d = rw (told, set-get_or r.clients c.0 idle)

-- what the site makes of its client
abbrev pub client_at : Site → ClientState
client_at v = record { status = v.status; lost = v.lost }

-- one with this status, and no note
abbrev pub plainly : Status → ClientState
plainly st = record { status = st; lost = false }

pub plainly_is : (x : ClientState) (st : Status) → x.status ≡ st → x.lost ≡ false → plainly st ≡ x
plainly_is x st e f = rw (← e, ← f)

-- ---- counts of a message, of a status
pub hits : (d : ℕ) (c : ClientId) (n : Mode) → hit d Exclusive c n + hit d Shared c n ≡ one d c
unfolding hit one
hits d c Exclusive = omega arith
hits d c Shared = omega arith

-- what is owed is a GRANT without agent or a RELEASE
pub owes_parts : (d : ℕ) (p : Packet) → owed_p d p ≤ ask_m d Exclusive p.message + ask_m d Shared p.message + release_p d p
owes_parts d p = go p.carried.present p.message
  where
    go : (x : Bool) (m : Message) → owed_m d x m ≤ ask_m d Exclusive m + ask_m d Shared m + release_m d m
    go x (Acquire c n g) = unfold owed_m in omega arith
    go true (Grant c n) = unfold owed_m in omega arith
    go false (Grant c n) = unfold owed_m ask_m in omega (arith, hits d c n)
    go x (Release c) = unfold owed_m release_m in omega arith
    go x Free = unfold owed_m in omega arith

pub owes_list : (d : ℕ) (qs : List Packet)
    → tally (owed_p d) qs ≤ tally (λ p. ask_m d Exclusive p.message) qs + tally (λ p. ask_m d Shared p.message) qs + tally (release_p d) qs
owes_list d qs =
    omega (
      arith,
      tally_le (owed_p d) _ (owes_parts d) qs,
      tally_add (λ p. ask_m d Exclusive p.message + ask_m d Shared p.message) (release_p d) qs,
      tally_add (λ p. ask_m d Exclusive p.message) (λ p. ask_m d Shared p.message) qs,
    )

pub statuses : (s : Status) → wait_f Exclusive s + wait_f Shared s + hold_f s + idle_f s ≡ 1
unfolding wait_f hold_f idle_f
statuses Idle = refl
statuses (Waiting Exclusive) = refl
statuses (Waiting Shared) = refl
statuses (Holding n) = refl

-- the packets that leave the wire, and those that stay
pub record Split (r : LockState) (gone rest : List Packet) : Type 0 where
  pub parts : (f : Packet → ℕ) → tally f (packets r.wire) ≡ tally f gone + tally f rest

pub split_at : (r : LockState) (i : ℕ) (p : Packet) → i < length (packets r.wire) → get_or (packets r.wire) i blank_packet ≡ p
    → Split r (p ∷ []) (removed (packets r.wire) i)
split_at r i p h e = record { parts = λ f. rw (tally_one, ← e) (omega (arith, tally_removed f blank_packet (packets r.wire) i h)) }

pub note_below : (m : Mode) (b : Bool) → note_f m b ≤ flag b
unfolding note_f
note_below Exclusive b = omega arith
note_below Shared b = omega arith

-- who is idle does not wait
waits_idle : (m : Mode) (s : Status) → wait_f m s + idle_f s ≤ 1
waits_idle Exclusive s = omega (arith, statuses s)
waits_idle Shared s = omega (arith, statuses s)

-- the state after a step has the invariant
pub record Keeps (r : LockState) (k : MachineId) (c : ClientId) (rest : List Packet) (v : Site) (qs : List Packet) : Type 0 where
  pub inv : Inv (apply k c v qs rest r)

-- what any step has to show
pub record Step (r : LockState) (k : MachineId) (c : ClientId) (old : AgentSlot) (v : Site) (gone qs rest : List Packet) : Type 0 where
  pub split : Split r gone rest
  pub machine : k.0 < machines
  pub was : slot_at r k.0 ≡ old
  pub asks : (d : ℕ) (m : Mode) → tally (waiting_p d m) gone + queued_s d m old + note_f m (note_at r d) + wait_f m (told r c (client_at v) d).status
      ≤ tally (waiting_p d m) qs + queued_s d m v.slot + note_f m (told r c (client_at v) d).lost + wait_f m (status_at r d)
      + idle_f (told r c (client_at v) d).status
  pub most : (d : ℕ) → weight (waiting_p d Exclusive) (queued_s d Exclusive) r + weight (waiting_p d Shared) (queued_s d Shared) r
      + (tally (waiting_p d Exclusive) qs + queued_s d Exclusive v.slot) + (tally (waiting_p d Shared) qs + queued_s d Shared v.slot)
      + flag (told r c (client_at v) d).lost + hold_f (told r c (client_at v) d).status
      ≤ 1 + (tally (waiting_p d Exclusive) gone + queued_s d Exclusive old) + (tally (waiting_p d Shared) gone + queued_s d Shared old)
  pub noted : (d : ℕ) → flag (told r c (client_at v) d).lost ≤ wait_f Shared (told r c (client_at v) d).status
  pub presence : (d : ℕ) → (tally (waiting_p d Exclusive) gone + queued_s d Exclusive old) + (tally (waiting_p d Shared) gone + queued_s d Shared old)
      + (tally (listed_p d) gone + listed_s d old) + idle_f (status_at r d) + tally (owed_p d) qs
      ≡ (tally (waiting_p d Exclusive) qs + queued_s d Exclusive v.slot) + (tally (waiting_p d Shared) qs + queued_s d Shared v.slot)
      + (tally (listed_p d) qs + listed_s d v.slot) + idle_f (told r c (client_at v) d).status + tally (owed_p d) gone
  pub rels : (d : ℕ) → tally (release_p d) rest + tally (release_p d) qs ≤ idle_f (told r c (client_at v) d).status
  pub owed : owned_shared v.decider.owner ≡ false → (d : ℕ) → tally (owed_p d) rest + tally (owed_p d) qs + flag (told r c (client_at v) d).lost
      ≤ tally (release_p d) rest + tally (release_p d) qs + idle_f (told r c (client_at v) d).status
  pub agent : tally agent_p gone + agent_s old + owned_f v.decider.owner ≡ tally agent_p qs + agent_s v.slot + owned_f r.decider.owner
  pub incs : (x : ℕ) → r.decider.incarnation ≡ (x + tally incarnation_p gone + incarnation_s old + tally mark_p gone) % 256
      → v.decider.incarnation ≡ (x + tally incarnation_p qs + incarnation_s v.slot + tally mark_p qs) % 256
  pub modes : (d : ℕ) → clash v.decider.owner (told r c (client_at v) d).status ≡ 0
  pub fitting : tally (misfit_p v.decider.owner) rest + tally (misfit_p v.decider.owner) qs ≡ 0
  pub homes : (j : ℕ) → misfit_s v.decider.owner j (slot_at (apply k c v qs rest r) j) ≡ 0
  pub reach : far_f v.decider.owner + tally far_p qs ≡ 0
  pub vacancy : tally rejected_p rest + tally rejected_p qs + tally vacant_s (set r.agents k.0 v.slot) ≤ tally mark_p rest + tally mark_p qs
  pub quiet : waited_f v.decider.owner v.decider.writer ≡ 0

module _ {r : LockState} {k : MachineId} {c : ClientId} {old : AgentSlot} {v : Site} {gone qs rest : List Packet}
    (i : Inv r) (l : Step r k c old v gone qs rest) where
  -- the number x of `incs`: the carried incarnations and marks that stay
  others : ℕ
  others = tally incarnation_p rest + tally mark_p rest + (tally incarnation_s r.agents - incarnation_s old)

  room : k.0 < length r.agents
  room = omega (arith, i.all_machines, l.machine)

  after : (f : Packet → ℕ) (g : AgentSlot → ℕ) → weight f g (apply k c v qs rest r) + tally f gone + g old ≡ weight f g r + tally f qs + g v.slot
  after f g = rw l.was at (weight_after f g r k c v gone qs rest (l.split.parts f) room)

  slot_below : incarnation_s old ≤ tally incarnation_s r.agents
  slot_below = rw l.was at (tally_at incarnation_s no_agent r.agents k.0 room)

  incs_old : r.decider.incarnation ≡ (others + tally incarnation_p gone + incarnation_s old + tally mark_p gone) % 256
  unfolding others weight
  incs_old = i.incs ∙ ap (λ (n : ℕ). n % 256) (omega (arith, slot_below, l.split.parts incarnation_p, l.split.parts mark_p))

  incs_new : others + tally incarnation_p qs + incarnation_s v.slot + tally mark_p qs
      ≡ weight incarnation_p incarnation_s (apply k c v qs rest r) + tally mark_p (packets (apply k c v qs rest r).wire)
  unfolding others weight
  incs_new =
      omega (
        arith,
        slot_below,
        packets_after incarnation_p rest qs,
        packets_after mark_p rest qs,
        rw l.was at (tally_set incarnation_s no_agent r.agents k.0 v.slot room),
      )

  vacant_after : weight rejected_p vacant_s (apply k c v qs rest r) ≤ tally mark_p (packets (apply k c v qs rest r).wire)
  unfolding weight
  vacant_after = omega (arith, packets_after mark_p rest qs, packets_after rejected_p rest qs, l.vacancy)

  asks_after : (d : ℕ) (m : Mode) → wait_f m (told r c (client_at v) d).status
      ≤ weight (waiting_p d m) (queued_s d m) (apply k c v qs rest r) + note_f m (told r c (client_at v) d).lost
  asks_after d m = omega (arith, after (waiting_p d m) (queued_s d m), i.asks d m, l.asks d m, waits_idle m (told r c (client_at v) d).status)

  -- what asks after the step, in any mode
  most_after : (d : ℕ) → weight (waiting_p d Exclusive) (queued_s d Exclusive) (apply k c v qs rest r)
      + weight (waiting_p d Shared) (queued_s d Shared) (apply k c v qs rest r) + flag (told r c (client_at v) d).lost
      + hold_f (told r c (client_at v) d).status ≤ 1
  most_after d =
      omega (
        arith,
        after (waiting_p d Exclusive) (queued_s d Exclusive),
        after (waiting_p d Shared) (queued_s d Shared),
        l.most d,
      )

  -- a GRANT that is owed asks too
  asked_after : (d : ℕ) → tally (owed_p d) rest + tally (owed_p d) qs ≤ weight (waiting_p d Exclusive) (queued_s d Exclusive) (apply k c v qs rest r)
      + weight (waiting_p d Shared) (queued_s d Shared) (apply k c v qs rest r) + tally (release_p d) rest + tally (release_p d) qs
  unfolding weight
  asked_after d =
      let below : (m : Mode) (xs : List Packet) → tally (λ p. ask_m d m p.message) xs ≤ tally (waiting_p d m) xs =
      λ m xs. tally_le (λ p. ask_m d m p.message) (waiting_p d m) (λ p. omega arith) xs in
      omega (
        arith,
        owes_list d rest,
        owes_list d qs,
        below Exclusive rest,
        below Shared rest,
        below Exclusive qs,
        below Shared qs,
        packets_after (waiting_p d Exclusive) rest qs,
        packets_after (waiting_p d Shared) rest qs,
      )

  owed_after : (d : ℕ) → tally (owed_p d) rest + tally (owed_p d) qs + flag (told r c (client_at v) d).lost
      ≤ tally (release_p d) rest + tally (release_p d) qs + idle_f (told r c (client_at v) d).status + shared_f v.decider.owner
  owed_after d =
      bool_cases (owned_shared v.decider.owner) (λ q. rw q (omega (arith, most_after d, asked_after d))) (λ q. rw q (omega (arith, l.owed q d)))

  presence_after : (d : ℕ) → weight (waiting_p d Exclusive) (queued_s d Exclusive) (apply k c v qs rest r)
      + weight (waiting_p d Shared) (queued_s d Shared) (apply k c v qs rest r) + weight (listed_p d) (listed_s d) (apply k c v qs rest r)
      + idle_f (told r c (client_at v) d).status ≡ 1 + tally (owed_p d) (packets (wire_of (rest ++ qs)))
  presence_after d =
      omega (
        arith,
        after (waiting_p d Exclusive) (queued_s d Exclusive),
        after (waiting_p d Shared) (queued_s d Shared),
        after (listed_p d) (listed_s d),
        packets_after (owed_p d) rest qs,
        i.presence d,
        l.presence d,
        l.split.parts (owed_p d),
      )

  pub keep_step : Keeps r k c rest v qs
  keep_step =
      record {
        inv = record {
          all_machines = length-set r.agents _ _ ∙ i.all_machines;
          all_clients = length-set r.clients _ _ ∙ i.all_clients;
          asks = asks_after;
          most = most_after;
          noted = l.noted;
          presence = presence_after;
          owed = λ d. omega (arith, packets_after (owed_p d) rest qs, packets_after (release_p d) rest qs, owed_after d);
          rels = λ d. omega (arith, packets_after (release_p d) rest qs, l.rels d);
          agent = omega (arith, after agent_p agent_s, i.agent, l.agent);
          incs = l.incs others incs_old ∙ ap (λ (n : ℕ). n % 256) incs_new;
          modes = l.modes;
          fitting = omega (arith, packets_after (misfit_p v.decider.owner) rest qs, l.fitting);
          homes = l.homes;
          reach = omega (arith, packets_after far_p rest qs, l.reach, i.reach, l.split.parts far_p);
          vacancy = vacant_after;
          quiet = l.quiet;
        };
      }

-- where a step takes place that leaves the owner
pub record Frame (r : LockState) (k : MachineId) (old : AgentSlot) (v : Site) (gone rest : List Packet) : Type 0 where
  pub split : Split r gone rest
  pub machine : k.0 < machines
  pub was : slot_at r k.0 ≡ old
  pub owner : v.decider.owner ≡ r.decider.owner
  pub quiet : waited_f r.decider.owner v.decider.writer ≡ waited_f r.decider.owner r.decider.writer

pub framed : {r : LockState} {k : MachineId} {old : AgentSlot} {v : Site} {gone rest : List Packet} → Split r gone rest → k.0 < machines
    → slot_at r k.0 ≡ old → v.decider.owner ≡ r.decider.owner
    → waited_f r.decider.owner v.decider.writer ≡ waited_f r.decider.owner r.decider.writer → Frame r k old v gone rest
framed sp kk es o q = record { split = sp; machine = kk; was = es; owner = o; quiet = q }

-- What becomes of the clients where c becomes x: nobody's note changes, and who is no longer idle asked for nothing before.
pub record Becomes (r : LockState) (c : ClientId) (x : ClientState) : Type 0 where
  pub note : (d : ℕ) → (told r c x d).lost ≡ note_at r d
  pub noted : (d : ℕ) → flag (told r c x d).lost ≤ wait_f Shared (told r c x d).status
  pub free : (d : ℕ) → weight (waiting_p d Exclusive) (queued_s d Exclusive) r + weight (waiting_p d Shared) (queued_s d Shared) r + flag (note_at r d)
      + idle_f (status_at r d) ≤ 1 + idle_f (told r c x d).status
  pub modes : (d : ℕ) → clash r.decider.owner (told r c x d).status ≡ 0

pub unchanged : {r : LockState} {c : ClientId} {x : ClientState} → Inv r → x ≡ client_in r c.0 → Becomes r c x
unchanged {r} {c} {x} i e =
    let same : (d : ℕ) → told r c x d ≡ client_in r d = λ d. rw e (untold r c d) in
    record {
      note = λ d. rw (same d);
      noted = λ d. rw (same d) (i.noted d);
      free = λ d. rw (same d) (omega (arith, i.most d));
      modes = λ d. rw (same d) (i.modes d);
    }

-- by cases: the client is c, or another
pub told_by_lem : {r : LockState} {c : ClientId} (x : ClientState) → Inv r → c.0 < clients → (d : ℕ) (P : ClientState → Type 0) → (d ≡ c.0 → P x)
    → ((d ≡ c.0 → ⊥) → P (client_in r d)) → P (told r c x d)
told_by_lem {r} {c} x i cl d P p q = go (ℕ_discrete d c.0)
  where
    go : Dec (d ≡ c.0) → P (told r c x d)
    go (yes e) = rw (e, get_or-set_same r.clients c.0 x idle (omega (arith, i.all_clients))) (p e)
    go (no n) = rw (get_or-set_other r.clients c.0 d x idle n) (q n)

-- c has no note, gets the status st, and asked for nothing if it was idle and is so no longer
pub becoming : {r : LockState} {c : ClientId} (st : Status) → Inv r → c.0 < clients → clash r.decider.owner st ≡ 0 → note_at r c.0 ≡ false
    → weight (waiting_p c.0 Exclusive) (queued_s c.0 Exclusive) r + weight (waiting_p c.0 Shared) (queued_s c.0 Shared) r + idle_f (status_at r c.0)
    ≤ 1 + idle_f st → Becomes r c (plainly st)
becoming {r} {c} st i cl cs nn fr =
    record {
      note = λ d. both_by d (λ x y. x.lost ≡ y.lost) (sym nn) refl;
      noted = λ d. both_by d (λ x y. flag x.lost ≤ wait_f Shared x.status) (omega arith) (i.noted d);
      free = λ d. free_by d (ℕ_discrete d c.0);
      modes = λ d. both_by d (λ x y. clash r.decider.owner x.status ≡ 0) cs (i.modes d);
    }
  where
    here : told r c (plainly st) c.0 ≡ plainly st
    here = get_or-set_same r.clients c.0 (plainly st) idle (omega (arith, i.all_clients))

    there : (d : ℕ) → (d ≡ c.0 → ⊥) → told r c (plainly st) d ≡ client_in r d
    there d n = get_or-set_other r.clients c.0 d (plainly st) idle n

    both_by : (d : ℕ) (P : ClientState → ClientState → Type 0) → P (plainly st) (client_in r c.0) → P (client_in r d) (client_in r d)
        → P (told r c (plainly st) d) (client_in r d)
    both_by d P p q = go (ℕ_discrete d c.0)
      where
        go : Dec (d ≡ c.0) → P (told r c (plainly st) d) (client_in r d)
        go (yes e) = rw (e, here) p
        go (no n) = rw (there d n) q

    free_by : (d : ℕ) → Dec (d ≡ c.0)
        → weight (waiting_p d Exclusive) (queued_s d Exclusive) r + weight (waiting_p d Shared) (queued_s d Shared) r
        + flag (note_at r d) + idle_f (status_at r d)
        ≤ 1 + idle_f (told r c (plainly st) d).status
    free_by d (yes e) = rw (e, here) (omega (arith, fr, ap flag nn))
    free_by d (no n) = rw (there d n) (omega (arith, i.most d))

-- What such a step has to show: nothing of it speaks of the wire's other packets.
pub record Local (r : LockState) (k : MachineId) (c : ClientId) (old : AgentSlot) (v : Site) (gone qs rest : List Packet) : Type 0 where
  pub frame : Frame r k old v gone rest
  pub client : Becomes r c (client_at v)
  pub waits : (d : ℕ) (m : Mode) → tally (waiting_p d m) gone + queued_s d m old + wait_f m (told r c (client_at v) d).status
      ≡ tally (waiting_p d m) qs + queued_s d m v.slot + wait_f m (status_at r d)
  pub holds : (d : ℕ) → tally (listed_p d) gone + listed_s d old + hold_f (told r c (client_at v) d).status + tally (owed_p d) qs
      ≡ tally (listed_p d) qs + listed_s d v.slot + hold_f (status_at r d) + tally (owed_p d) gone
  pub rels : (d : ℕ) → tally (release_p d) rest + tally (release_p d) qs ≤ idle_f (told r c (client_at v) d).status
  pub owed : owned_shared r.decider.owner ≡ false → (d : ℕ) → tally (owed_p d) rest + tally (owed_p d) qs + flag (note_at r d)
      ≤ tally (release_p d) rest + tally (release_p d) qs + idle_f (told r c (client_at v) d).status
  pub agent : tally agent_p gone + agent_s old ≡ tally agent_p qs + agent_s v.slot
  pub incs : (x : ℕ) → r.decider.incarnation ≡ (x + tally incarnation_p gone + incarnation_s old + tally mark_p gone) % 256
      → v.decider.incarnation ≡ (x + tally incarnation_p qs + incarnation_s v.slot + tally mark_p qs) % 256
  pub fitting : tally (misfit_p r.decider.owner) qs ≡ 0
  pub slot : misfit_s r.decider.owner k.0 v.slot ≡ 0
  pub reach : tally far_p qs ≡ 0
  pub vacancy : tally rejected_p rest + tally rejected_p qs + tally vacant_s (set r.agents k.0 v.slot) ≤ tally mark_p rest + tally mark_p qs

-- the slots of a step that leaves the owner
slots_by : {r : LockState} {k : MachineId} (x : AgentSlot) → Inv r → k.0 < machines → misfit_s r.decider.owner k.0 x ≡ 0
    → (j : ℕ) → misfit_s r.decider.owner j (get_or (set r.agents k.0 x) j no_agent) ≡ 0
slots_by {r} {k} x i kk fit j = go (ℕ_discrete j k.0)
  where
    go : Dec (j ≡ k.0) → misfit_s r.decider.owner j (get_or (set r.agents k.0 x) j no_agent) ≡ 0
    go (yes e) = rw e (rw (get_or-set_same r.agents k.0 x no_agent (omega (arith, i.all_machines))) fit)
    go (no n) = rw (get_or-set_other r.agents k.0 j x no_agent n) (i.homes j)

module _ {r : LockState} {k : MachineId} {c : ClientId} {old : AgentSlot} {v : Site} {gone qs rest : List Packet}
    (i : Inv r) (l : Local r k c old v gone qs rest) where
  pub keep : Keeps r k c rest v qs
  keep =
      keep_step i
      (record {
        split = l.frame.split;
        machine = l.frame.machine;
        was = l.frame.was;
        asks = λ d m. rw (l.client.note d) (omega (arith, l.waits d m));
        most = λ d.
            rw (l.client.note d)
            (omega (
              arith,
              l.waits d Exclusive,
              l.waits d Shared,
              l.client.free d,
              i.most d,
              statuses (status_at r d),
              statuses (told r c (client_at v) d).status,
            ));
        noted = l.client.noted;
        presence = λ d.
            omega (
              arith,
              l.waits d Exclusive,
              l.waits d Shared,
              l.holds d,
              statuses (status_at r d),
              statuses (told r c (client_at v) d).status,
            );
        rels = l.rels;
        owed = λ q d. rw (l.client.note d) (l.owed (rw l.frame.owner at q) d);
        agent = omega (arith, l.agent, ap owned_f l.frame.owner);
        incs = l.incs;
        modes = λ d. rw l.frame.owner (l.client.modes d);
        fitting = rw l.frame.owner (omega (arith, i.fitting, l.frame.split.parts (misfit_p r.decider.owner), l.fitting));
        homes = λ j. rw l.frame.owner (slots_by v.slot i l.frame.machine l.slot j);
        reach = omega (arith, l.reach, ap far_f l.frame.owner, i.reach);
        vacancy = l.vacancy;
        quiet = rw l.frame.owner (l.frame.quiet ∙ i.quiet);
      })

-- and that changes no client
pub record Calm (r : LockState) (k : MachineId) (c : ClientId) (old : AgentSlot) (v : Site) (gone qs rest : List Packet) : Type 0 where
  pub frame : Frame r k old v gone rest
  pub status : client_at v ≡ client_in r c.0
  pub waits : (d : ℕ) (m : Mode) → tally (waiting_p d m) gone + queued_s d m old ≡ tally (waiting_p d m) qs + queued_s d m v.slot
  pub holds : (d : ℕ) → tally (listed_p d) gone + listed_s d old + tally (owed_p d) qs
      ≡ tally (listed_p d) qs + listed_s d v.slot + tally (owed_p d) gone
  pub rels : (d : ℕ) → tally (release_p d) qs ≤ tally (release_p d) gone
  pub owed : owned_shared r.decider.owner ≡ false → (d : ℕ) → tally (owed_p d) qs + tally (release_p d) gone ≤ tally (owed_p d) gone + tally (release_p d) qs
  pub agent : tally agent_p gone + agent_s old ≡ tally agent_p qs + agent_s v.slot
  pub incs : (x : ℕ) → r.decider.incarnation ≡ (x + tally incarnation_p gone + incarnation_s old + tally mark_p gone) % 256
      → v.decider.incarnation ≡ (x + tally incarnation_p qs + incarnation_s v.slot + tally mark_p qs) % 256
  pub fitting : tally (misfit_p r.decider.owner) qs ≡ 0
  pub slot : misfit_s r.decider.owner k.0 v.slot ≡ 0
  pub reach : tally far_p qs ≡ 0
  pub vacancy : tally rejected_p rest + tally rejected_p qs + tally vacant_s (set r.agents k.0 v.slot) ≤ tally mark_p rest + tally mark_p qs

module _ {r : LockState} {k : MachineId} {c : ClientId} {old : AgentSlot} {v : Site} {gone qs rest : List Packet}
    (i : Inv r) (l : Calm r k c old v gone qs rest) where
  told_same : (d : ℕ) → told r c (client_at v) d ≡ client_in r d
  told_same d = rw l.status (untold r c d)

  pub keep_calm : Keeps r k c rest v qs
  keep_calm =
      keep i
      (record {
        frame = l.frame;
        client = unchanged i l.status;
        waits = λ d m. rw (told_same d) (omega (arith, l.waits d m));
        holds = λ d. rw (told_same d) (omega (arith, l.holds d));
        rels = λ d. rw (told_same d) (omega (arith, l.rels d, i.rels d, l.frame.split.parts (release_p d)));
        owed = λ q d.
            rw (told_same d)
            (omega (arith, l.owed q d, rw q at (i.owed d), l.frame.split.parts (release_p d), l.frame.split.parts (owed_p d)));
        agent = l.agent;
        incs = l.incs;
        fitting = l.fitting;
        slot = l.slot;
        reach = l.reach;
        vacancy = l.vacancy;
      })

-- and one that changes no client, where who is idle may ask no longer
pub record Mild (r : LockState) (k : MachineId) (c : ClientId) (old : AgentSlot) (v : Site) (gone qs rest : List Packet) : Type 0 where
  pub frame : Frame r k old v gone rest
  pub status : client_at v ≡ client_in r c.0
  pub asks : (d : ℕ) (m : Mode) → tally (waiting_p d m) gone + queued_s d m old ≤ tally (waiting_p d m) qs + queued_s d m v.slot + idle_f (status_at r d)
  pub fewer : (d : ℕ) (m : Mode) → tally (waiting_p d m) qs + queued_s d m v.slot ≤ tally (waiting_p d m) gone + queued_s d m old
  pub presence : (d : ℕ) → (tally (waiting_p d Exclusive) gone + queued_s d Exclusive old) + (tally (waiting_p d Shared) gone + queued_s d Shared old)
      + (tally (listed_p d) gone + listed_s d old) + tally (owed_p d) qs
      ≡ (tally (waiting_p d Exclusive) qs + queued_s d Exclusive v.slot) + (tally (waiting_p d Shared) qs + queued_s d Shared v.slot)
      + (tally (listed_p d) qs + listed_s d v.slot) + tally (owed_p d) gone
  pub rels : (d : ℕ) → tally (release_p d) qs ≤ tally (release_p d) gone
  pub owed : owned_shared r.decider.owner ≡ false → (d : ℕ) → tally (owed_p d) qs + tally (release_p d) gone ≤ tally (owed_p d) gone + tally (release_p d) qs
  pub agent : tally agent_p gone + agent_s old ≡ tally agent_p qs + agent_s v.slot
  pub incs : (x : ℕ) → r.decider.incarnation ≡ (x + tally incarnation_p gone + incarnation_s old + tally mark_p gone) % 256
      → v.decider.incarnation ≡ (x + tally incarnation_p qs + incarnation_s v.slot + tally mark_p qs) % 256
  pub fitting : tally (misfit_p r.decider.owner) qs ≡ 0
  pub slot : misfit_s r.decider.owner k.0 v.slot ≡ 0
  pub reach : tally far_p qs ≡ 0
  pub vacancy : tally rejected_p rest + tally rejected_p qs + tally vacant_s (set r.agents k.0 v.slot) ≤ tally mark_p rest + tally mark_p qs

pub keep_mild : {r : LockState} {k : MachineId} {c : ClientId} {old : AgentSlot} {v : Site} {gone qs rest : List Packet}
    → Inv r → Mild r k c old v gone qs rest → Keeps r k c rest v qs
keep_mild {r} {k} {c} {old} {v} {gone} {qs} {rest} i l =
    let same : (d : ℕ) → told r c (client_at v) d ≡ client_in r d = λ d. rw l.status (untold r c d) in
    keep_step i
    (record {
      split = l.frame.split;
      machine = l.frame.machine;
      was = l.frame.was;
      asks = λ d m. rw (same d) (omega (arith, l.asks d m));
      most = λ d. rw (same d) (omega (arith, i.most d, l.fewer d Exclusive, l.fewer d Shared));
      noted = λ d. rw (same d) (i.noted d);
      presence = λ d. rw (same d) (omega (arith, l.presence d));
      rels = λ d. rw (same d) (omega (arith, l.rels d, i.rels d, l.frame.split.parts (release_p d)));
      owed = λ q d.
          let z : owned_shared r.decider.owner ≡ false = rw l.frame.owner at q in
          rw (same d)
          (omega (arith, l.owed z d, rw z at (i.owed d), l.frame.split.parts (release_p d), l.frame.split.parts (owed_p d)));
      agent = omega (arith, l.agent, ap owned_f l.frame.owner);
      incs = l.incs;
      modes = λ d. rw l.frame.owner (rw (same d) (i.modes d));
      fitting = rw l.frame.owner (omega (arith, i.fitting, l.frame.split.parts (misfit_p r.decider.owner), l.fitting));
      homes = λ j. rw l.frame.owner (slots_by v.slot i l.frame.machine l.slot j);
      reach = omega (arith, l.reach, ap far_f l.frame.owner, i.reach);
      vacancy = l.vacancy;
      quiet = rw l.frame.owner (l.frame.quiet ∙ i.quiet);
    })

-- the vacancy, from the slot and the packets of the step alone
pub vacancy_by : {r : LockState} {old : AgentSlot} {k : MachineId} {gone rest : List Packet} (new : AgentSlot) (sends : List Packet) → Inv r → Split r gone rest
    → k.0 < machines → slot_at r k.0 ≡ old
    → tally rejected_p sends + vacant_s new + tally mark_p gone ≤ tally rejected_p gone + vacant_s old + tally mark_p sends
    → tally rejected_p rest + tally rejected_p sends + tally vacant_s (set r.agents k.0 new) ≤ tally mark_p rest + tally mark_p sends
unfolding weight
vacancy_by {r} {old} {k} new sends i sp kk e h =
    omega (arith, i.vacancy, sp.parts mark_p, sp.parts rejected_p, rw e at (tally_set vacant_s no_agent r.agents k.0 new (omega (arith, i.all_machines))))

-- ---- the packet p goes out again as q, for another address or rejected: the same message, with the same agent
pub same_mark : (r : LockState) (p : Packet) (rest : List Packet) → Inv r → Split r (p ∷ []) rest
    → rejected_p p + tally rejected_p rest + tally vacant_s r.agents ≤ tally mark_p (packets r.wire)
unfolding weight tally
same_mark r p rest i sp = omega (arith, i.vacancy, sp.parts rejected_p)

-- the site is as it was, as far as the invariant looks at it
pub record Still (r : LockState) (k : MachineId) (c : ClientId) (v : Site) : Type 0 where
  pub owner : v.decider.owner ≡ r.decider.owner
  pub incarnation : v.decider.incarnation ≡ r.decider.incarnation
  pub quiet : waited_f r.decider.owner v.decider.writer ≡ waited_f r.decider.owner r.decider.writer
  pub slot : v.slot ≡ slot_at r k.0
  pub status : client_at v ≡ client_in r c.0

pub still : {pref : ℕ} {r : LockState} {k : MachineId} {c : ClientId} {x : AgentSlot} → slot_at r k.0 ≡ x → Still r k c (with_slot (site_of pref r k c) x)
still es = record { owner = refl; incarnation = refl; quiet = refl; slot = sym es; status = refl }

-- and so it is where the decider of an owned lock may have noted a writer
pub noted : {pref : ℕ} {r : LockState} {k : MachineId} {c : ClientId} {o : Mode} {j : MachineId} (m : Mode) → r.decider.owner ≡ Owned o j
    → Still r k c (noting (site_of pref r k c) m)
unfolding waited_f
noted m e = record { owner = refl; incarnation = refl; quiet = rw e; slot = refl; status = refl }

pub keep_resent : {r : LockState} {rest : List Packet} {k : MachineId} {c : ClientId} {v : Site} (i : Inv r) → Still r k c v → k.0 < machines → (p q : Packet)
    → q.message ≡ p.message → q.carried ≡ p.carried → Split r (p ∷ []) rest → misfit_p r.decider.owner q ≡ 0
    → rejected_p q + tally rejected_p rest + tally vacant_s r.agents ≤ tally mark_p (packets r.wire) → far_p q ≡ 0 → Keeps r k c rest v (q ∷ [])
unfolding tally
keep_resent {r} {k = k} i st kk p q m x sp f v fa =
    keep_calm i
    (record {
      frame = framed sp kk refl st.owner st.quiet;
      status = st.status;
      waits = λ d n. rw (m, x, st.slot);
      holds = λ d. rw (m, x, st.slot) (omega arith);
      rels = λ d. rw m (omega arith);
      owed = λ z d. rw (m, x) (omega arith);
      agent = rw (x, st.slot);
      incs = λ n h. rw (m, x, st.incarnation, st.slot) h;
      fitting = omega (arith, f);
      slot = rw st.slot (i.homes k.0);
      reach = omega (arith, fa);
      vacancy = rw (m, st.slot, set-get_or r.agents k.0 no_agent) (omega (arith, v, sp.parts mark_p));
    })
