-- What the invariant gives: of packets, of agents, of counts.
use Rattle.std.specs.Prelude.{◌≡◌, ◌&&◌, ◌∷◌, ◌+◌, ◌*◌, ◌≤◌, ◌<◌}
use Rattle.theorems.specs.Names.{MachineId, ClientId, Mode, Exclusive, Shared, Owner, Unowned, Owned, Waiter, Agent, AgentSlot, Address, Message, Free}
use Rattle.theorems.specs.Names.{Acquire, Grant, Release, Packet, Status, Idle, Waiting, Holding, LockState, refl, sym, ap, ◌∙◌, Bool, true, false}
use Rattle.theorems.specs.Names.{not, and-false, false≢true, List, [], ℕ, arith, ℕ_discrete, length, get_or, set}
use Rattle.theorems.specs.Names.{length-set, get_or-eq_default, get_or-set_same, get_or-set_other, eqb, ltb, eqb-true, eq-eqb, ne_eqb, ltb-true}
use Rattle.theorems.specs.Names.{ltb-false, lt-ltb, leb-true, le-leb, some_agent, idle, no_agent, packets, changed, and_left, and_right, bool_cases}
use Rattle.theorems.specs.Names.{machines, clients, wire_capacity, machine_of, owned_shared, true≢false, is_shared, is_free, message_names, ClientState}
use Rattle.theorems.specs.Tally.{flag, tally, tally_set, tally_at, tally_le, tally_none, tally_add, tally_length, sum_to, sum_swap, sum_le, sum_ext}
use Rattle.theorems.specs.Tally.{sum_one}
use Rattle.theorems.specs.Weights.{status_at, slot_at, weight, same_mode, one, hit, hit_w, ask_m, queued_s, waiting_p, mark_m, listed_s, listed_p, owed_m}
use Rattle.theorems.specs.Weights.{owed_p}
use Rattle.theorems.specs.Weights.{release_m, release_p, agent_s, agent_p, incarnation_s, incarnation_p, mark_all, mark_p, rejected_p, heads, vacant_s, wait_f}
use Rattle.theorems.specs.Weights.{waits_f, hold_f, idle_f, owned_f, clash, far_m, far_f, owned_mode, owned_at, few, fits_home, misfit_s, fits_away}
use Rattle.theorems.specs.Weights.{in_range, fits}
use Rattle.theorems.specs.Weights.{fits_p, misfit_p, note_at, note_f}
use Rattle.theorems.specs.Invariant.{Inv}
use Rattle.theorems.specs.InvariantStep.{Split, told}
pub use Rattle.theorems.specs.InvariantStep.{hits, owes_parts, owes_list, statuses}

-- ---- tests: from a count of misfits to the test
pub fit : (b : Bool) → flag (not b) ≡ 0 → b ≡ true
fit true e = refl
fit false e = absurd (omega arith)

pub flag_none : (b : Bool) → flag b ≡ 0 → b ≡ false
flag_none true e = absurd (omega arith)
flag_none false e = refl

pub flag_le : (b : Bool) → flag b ≤ 1
flag_le true = omega arith
flag_le false = omega arith

pub some_agent_is : (x : AgentSlot) → x.present ≡ true → x ≡ some_agent x.agent
some_agent_is x e = ap (λ (b : Bool). record { present = b; agent = x.agent }) e

-- ---- a slot without an agent counts nothing
pub record Zero (s : AgentSlot) : Type 0 where
  pub queued_s : (d : ℕ) (m : Mode) → queued_s d m s ≡ 0
  pub listed_s : (d : ℕ) → listed_s d s ≡ 0
  pub agent_s : agent_s s ≡ 0
  pub incarnation_s : incarnation_s s ≡ 0
  pub vacant_s : vacant_s s ≡ 0

pub absent : (s : AgentSlot) → s.present ≡ false → Zero s
unfolding queued_s listed_s agent_s incarnation_s vacant_s
absent s e = record { queued_s = λ d m. rw e; listed_s = λ d. rw e; agent_s = rw e; incarnation_s = rw e; vacant_s = rw e }

-- a count of the element at d, after the one at c is set
pub set_at : {A : Type 0} (f : A → ℕ) (z : A) (xs : List A) (c d : ℕ) (y : A) → (d ≡ c → c < length xs)
    → f (get_or (set xs c y) d z) + flag (eqb c d) * f (get_or xs c z) ≡ f (get_or xs d z) + flag (eqb c d) * f y
set_at f z xs c d y h = go (ℕ_discrete d c)
  where
    go : Dec (d ≡ c) → f (get_or (set xs c y) d z) + flag (eqb c d) * f (get_or xs c z) ≡ f (get_or xs d z) + flag (eqb c d) * f y
    go (yes q) = rw (q, get_or-set_same xs c y z (h q), eq-eqb c c refl) (omega arith)
    go (no n) = rw (get_or-set_other xs c d y z n, ne_eqb c d (λ q. n (sym q))) (omega arith)

-- ---- holders
pub list_on : (hs : List Bool) (c d : ℕ) → c < length hs → flag (get_or hs c false) ≡ 0
    → flag (get_or (set hs c true) d false) ≡ flag (get_or hs d false) + flag (eqb c d)
list_on hs c d h e = omega (arith, rw e at (set_at flag false hs c d true (λ q. h)))

pub list_off : (hs : List Bool) (c d : ℕ) → c < length hs → get_or hs c false ≡ true
    → flag (get_or (set hs c false) d false) + flag (eqb c d) ≡ flag (get_or hs d false)
list_off hs c d h e = omega (arith, rw e at (set_at flag false hs c d false (λ q. h)))

pub nobody : (hs : List Bool) (d : ℕ) → tally flag hs ≡ 0 → flag (get_or hs d false) ≡ 0
nobody hs d e =
    bool_cases (ltb d (length hs)) (λ q. omega (arith, tally_at flag false hs d (ltb-true d (length hs) q)))
    (λ q. rw (get_or-eq_default hs false (ltb-false d (length hs) q)))

pub came_fits : (r : LockState) (rest : List Packet) (p : Packet) → Inv r → Split r (p ∷ []) rest → misfit_p r.decider.owner p ≡ 0
unfolding tally
came_fits r rest p i sp = omega (arith, i.fitting, sp.parts (misfit_p r.decider.owner))

-- the machines that a step may send to
pub near_owner : (r : LockState) (m : Mode) (k : MachineId) → Inv r → r.decider.owner ≡ Owned m k → far_m k ≡ 0
near_owner r m k i e = omega (arith, i.reach, ap far_f e)

pub near_home : (c : ClientId) → c.0 < clients → far_m (machine_of c) ≡ 0
unfolding far_m
near_home c h = rw (lt-ltb (machine_of c).0 machines (omega arith))

pub named_of : (o : Owner) (x : Bool) (t : Address) (b : Bool) (a : Agent) (m : Message) → fits o x t b a m ≡ true → in_range m ≡ true
unfolding fits
named_of o true t b a m e = and_left (in_range m) _ e
named_of o false t b a m e = and_left (in_range m) _ e

-- an ACQUIRE or a RELEASE of the client c, and what is known of one on the wire: it carries no agent
pub data Request (c : ClientId) : Message → Type 0 where
  acquire_of : {n : Mode} {g : Bool} → Request c (Acquire c n g)
  release_of : Request c (Release c)

carries_none : {c : ClientId} {m : Message} (o : Owner) (x : Bool) (t : Address) (b : Bool) (a : Agent) → Request c m → fits o x t b a m ≡ true → x ≡ false
unfolding fits
carries_none o false t b a q e = refl
carries_none {c} o true t b a acquire_of e = sym (and_right (ltb c.0 clients) false e)
carries_none {c} o true t b a release_of e = sym (and_right (ltb c.0 clients) false e)

named_in : {c : ClientId} {m : Message} → Request c m → in_range m ≡ true → ltb c.0 clients ≡ true
named_in acquire_of e = e
named_in release_of e = e

pub record Plain (c : ClientId) (s : AgentSlot) : Type 0 where
  pub none : Zero s
  pub named : ltb c.0 clients ≡ true
  pub below : c.0 < clients

pub plain_request : {r : LockState} {rest : List Packet} {c : ClientId} {p : Packet} → Inv r → Request c p.message → Split r (p ∷ []) rest
    → Plain c p.carried
unfolding misfit_p
plain_request {r} {rest} {c} {p} i q sp =
    let f : fits_p r.decider.owner p ≡ true = fit _ (came_fits r rest p i sp) in
    let nm : ltb c.0 clients ≡ true = named_in q (named_of _ _ _ _ _ p.message f) in
    record { none = absent p.carried (carries_none _ _ _ _ _ q f); named = nm; below = ltb-true c.0 clients nm }

-- ---- the agent in a packet
pub record Away (a : Agent) : Type 0 where
  pub sized : length a.holders ≡ clients
  pub empty : heads a ≡ 0
  pub small : a.incarnation < 256

pub away_of : (a : Agent) → fits_away a ≡ true → Away a
unfolding fits_away
away_of a h =
    let h1 = and_right (eqb (length a.holders) clients) _ h in
    record {
      sized = eqb-true (length a.holders) clients (and_left (eqb (length a.holders) clients) _ h);
      empty = eqb-true (heads a) 0 (and_left (eqb (heads a) 0) _ h1);
      small = ltb-true a.incarnation 256 (and_right (eqb (heads a) 0) _ h1);
    }

pub away_fits : (a : Agent) → Away a → fits_away a ≡ true
unfolding fits_away
away_fits a h = rw (eq-eqb (length a.holders) clients h.sized, eq-eqb (heads a) 0 h.empty, lt-ltb a.incarnation 256 h.small)

pub record Home (o : Owner) (k : ℕ) (a : Agent) : Type 0 where
  pub at : owned_at o k ≡ true
  pub mode : owned_mode o a.mode ≡ true
  pub sized : length a.holders ≡ clients
  pub few : few a.mode (heads a) ≡ true
  pub small : a.incarnation < 256

pub home_of : (o : Owner) (k : ℕ) (a : Agent) → misfit_s o k (some_agent a) ≡ 0 → Home o k a
unfolding misfit_s fits_home
home_of o k a e =
    let h : fits_home o k a ≡ true = fit (fits_home o k a) e in
    let h1 = and_right (owned_at o k) _ h in
    let h2 = and_right (owned_mode o a.mode) _ h1 in
    let h3 = and_right (eqb (length a.holders) clients) _ h2 in
    record {
      at = and_left (owned_at o k) _ h;
      mode = and_left (owned_mode o a.mode) _ h1;
      sized = eqb-true _ _ (and_left (eqb (length a.holders) clients) _ h2);
      few = and_left (few a.mode (heads a)) _ h3;
      small = ltb-true a.incarnation 256 (and_right (few a.mode (heads a)) _ h3);
    }

pub home_fits : (o : Owner) (k : ℕ) (a : Agent) → Home o k a → misfit_s o k (some_agent a) ≡ 0
unfolding misfit_s fits_home
home_fits o k a h = rw (h.at, h.mode, eq-eqb (length a.holders) clients h.sized, h.few, lt-ltb a.incarnation 256 h.small)

pub slot_home : (r : LockState) (k : ℕ) (a : Agent) → Inv r → slot_at r k ≡ some_agent a → Home r.decider.owner k a
slot_home r k a i e = home_of r.decider.owner k a (rw e at (i.homes k))

pub few_less : (m : Mode) (x y : ℕ) → y ≤ x → few m x ≡ true → few m y ≡ true
few_less Exclusive x y h e = le-leb y 1 (omega (arith, leb-true x 1 e))
few_less Shared x y h e = refl

-- ---- a client's status after a step, as a number
pub status_move : {r : LockState} {c : ClientId} {old : Status} → Inv r → c.0 < clients → status_at r c.0 ≡ old → (x : ClientState) (F : Status → ℕ) (d : ℕ)
    → F (told r c x d).status + one d c * F old ≡ F (status_at r d) + one d c * F x.status
unfolding one
status_move {r} {c} i cl e x F d = rw (← e) (set_at (λ y. F y.status) idle r.clients c.0 d x (λ q. omega (arith, i.all_clients)))

-- ---- who waits is a client
pub far_idle : (r : LockState) (d : ℕ) → Inv r → clients ≤ d → status_at r d ≡ Idle
far_idle r d i h = let l : length r.clients ≤ d = omega (arith, i.all_clients) in rw (status_at, get_or-eq_default r.clients idle l)

-- no packet that fits is about anyone else
far_one : (d : ℕ) (c : ClientId) → clients ≤ d → ltb c.0 clients ≡ true → one d c ≡ 0
unfolding one
far_one d c h q = rw (ne_eqb c.0 d (λ e. omega (arith, e, ltb-true c.0 clients q)))

far_owed : (d : ℕ) → clients ≤ d → (x : Bool) (m : Message) → in_range m ≡ true → owed_m d x m ≡ 0
unfolding owed_m
far_owed d h x (Acquire c n g) e = refl
far_owed d h true (Grant c n) e = refl
far_owed d h false (Grant c n) e = far_one d c h e
far_owed d h x (Release c) e = far_one d c h e
far_owed d h x Free e = refl

owed_one : (d : ℕ) (x : Bool) (m : Message) → owed_m d x m ≤ 1
unfolding owed_m one
owed_one d x (Acquire c n g) = omega arith
owed_one d true (Grant c n) = omega arith
owed_one d false (Grant c n) = flag_le (eqb c.0 d)
owed_one d x (Release c) = flag_le (eqb c.0 d)
owed_one d x Free = omega arith

far_fits : (o : Owner) (d : ℕ) → clients ≤ d → (p : Packet) → owed_p d p ≤ misfit_p o p
unfolding misfit_p
far_fits o d h p =
    bool_cases (fits_p o p)
    (λ q. omega (arith, far_owed d h p.carried.present p.message (named_of _ _ _ _ _ p.message q)))
    (λ q. rw q (omega (arith, owed_one d p.carried.present p.message)))

pub far_absent : (r : LockState) (d : ℕ) → Inv r → clients ≤ d
    → weight (waiting_p d Exclusive) (queued_s d Exclusive) r + weight (waiting_p d Shared) (queued_s d Shared) r ≡ 0
unfolding idle_f
far_absent r d i h =
    omega (
      arith,
      rw (far_idle r d i h) at (i.presence d),
      tally_le (owed_p d) (misfit_p r.decider.owner) (far_fits r.decider.owner d h) (packets r.wire),
      i.fitting,
    )

pub waiter_below : (r : LockState) (d : ℕ) (m : Mode) → Inv r → 0 < weight (waiting_p d m) (queued_s d m) r → d < clients
waiter_below r d Exclusive i h =
    bool_cases (ltb d clients) (λ q. ltb-true d clients q) (λ q. absurd (omega (arith, far_absent r d i (ltb-false d clients q))))
waiter_below r d Shared i h =
    bool_cases (ltb d clients) (λ q. ltb-true d clients q) (λ q. absurd (omega (arith, far_absent r d i (ltb-false d clients q))))

pub hit_self : (c : ClientId) (n : Mode) → hit c.0 n c n ≡ 1
unfolding hit
hit_self c Exclusive = rw (eq-eqb c.0 c.0 refl)
hit_self c Shared = rw (eq-eqb c.0 c.0 refl)

-- a count over the packets or the slots, from below
pub in_slot : (r : LockState) (f : Packet → ℕ) (g : AgentSlot → ℕ) (k : ℕ) (s : AgentSlot) → Inv r → k < machines → slot_at r k ≡ s → g s ≤ weight f g r
unfolding weight
in_slot r f g k s i kk e = omega (arith, rw e at (tally_at g no_agent r.agents k (omega (arith, i.all_machines))))

pub waiting_is : (n : Mode) (s : Status) → wait_f n s ≡ 1 → s ≡ Waiting n
unfolding wait_f
waiting_is n Idle e = absurd (omega arith)
waiting_is Exclusive (Waiting Exclusive) e = refl
waiting_is Exclusive (Waiting Shared) e = absurd (omega arith)
waiting_is Shared (Waiting Exclusive) e = absurd (omega arith)
waiting_is Shared (Waiting Shared) e = refl
waiting_is n (Holding m) e = absurd (omega arith)

pub one_le : (d : ℕ) (c : ClientId) → one d c ≤ 1
unfolding one
one_le d c = flag_le (eqb c.0 d)

abbrev pub far_w : Waiter → ℕ
far_w w = flag (not (ltb w.client.0 clients))

pub far_none : (ws : List Waiter) → ((d : ℕ) (m : Mode) → clients ≤ d → tally (hit_w d m) ws ≡ 0) → tally far_w ws ≡ 0
unfolding tally
far_none [] h = refl
far_none (w ∷ ws) h =
    let t : tally far_w ws ≡ 0 = far_none ws (λ d m g. omega (arith, h d m g)) in
    bool_cases (ltb w.client.0 clients) (λ q. rw q (omega arith))
    (λ q. absurd (omega (arith, h w.client.0 w.mode (ltb-false w.client.0 clients q), hit_self w.client w.mode)))

pub clash_none : (o : Owner) (n : Mode) → owned_mode o n ≡ true → clash o (Holding n) ≡ 0
unfolding clash
clash_none Unowned n e = cc
clash_none (Owned m k) n e = rw e

pub shared_owner : (o : Owner) → owned_mode o Shared ≡ true → owned_shared o ≡ true
shared_owner Unowned e = e
shared_owner (Owned Exclusive k) e = e
shared_owner (Owned Shared k) e = refl

-- ---- a packet names one client, but for FREE
abbrev pub names_m : ℕ → Message → ℕ
names_m d m = ask_m d Exclusive m + ask_m d Shared m + mark_m d m + release_m d m

unfoldable pub free_m : Message → ℕ
free_m m = flag (is_free m)

pub names_are : (c : ClientId) (m : Message) → names_m c.0 m ≡ flag (message_names c m)
unfolding ask_m mark_m release_m one
names_are c (Acquire d n false) = omega (arith, hits c.0 d n)
names_are c (Acquire d n true) = omega arith
names_are c (Grant d n) = omega (arith, hits c.0 d n)
names_are c (Release d) = omega arith
names_are c Free = refl

-- what counts c alone counts 1 over all clients
pub one_each : (c : ClientId) → ltb c.0 clients ≡ true → sum_to clients (λ d. one d c) ≡ 1
unfolding one
one_each c e = sum_one clients c.0 (ltb-true c.0 clients e)

as_one : (c : ClientId) → ltb c.0 clients ≡ true → (f : ℕ → ℕ) → ((d : ℕ) → f d ≡ one d c) → sum_to clients f ≡ 1
as_one c e f h = sum_ext clients f (λ d. one d c) h ∙ one_each c e

-- the message names one client below clients, or is FREE
names_sum : (m : Message) → in_range m ≡ true → free_m m + sum_to clients (λ d. names_m d m) ≡ 1
unfolding ask_m mark_m release_m free_m
names_sum (Acquire c n false) e = omega (arith, as_one c e (λ d. names_m d (Acquire c n false)) (λ d. omega (arith, hits d c n)))
names_sum (Acquire c n true) e = omega (arith, as_one c e (λ d. names_m d (Acquire c n true)) (λ d. omega arith))
names_sum (Grant c n) e = omega (arith, as_one c e (λ d. names_m d (Grant c n)) (λ d. omega (arith, hits d c n)))
names_sum (Release c) e = omega (arith, as_one c e (λ d. names_m d (Release c)) (λ d. omega arith))
names_sum Free e = omega (arith, sum_le clients 0 (λ d. names_m d Free) (λ d. omega arith))

-- a packet is a misfit, or carries an agent and is a FREE, or names one client
counts_one : (o : Owner) (p : Packet) → 1 ≤ misfit_p o p + free_m p.message + sum_to clients (λ d. names_m d p.message)
unfolding misfit_p
counts_one o p =
    bool_cases (fits_p o p)
    (λ q. omega (arith, names_sum p.message (named_of _ _ _ _ _ p.message q)))
    (λ q. let e : misfit_p o p ≡ 1 = rw q in omega arith)

free_fits : (o : Owner) (x : Bool) (t : Address) (b : Bool) (a : Agent) (m : Message) → free_m m ≤ flag (not (fits o x t b a m)) + flag x
unfolding free_m fits
free_fits o true t b a m = omega (arith, flag_le (is_free m))
free_fits o false t b a (Acquire c n g) = omega arith
free_fits o false t b a (Grant c n) = omega arith
free_fits o false t b a (Release c) = omega arith
free_fits o false t b a Free = simp and-false (omega arith)

free_carries : (o : Owner) (p : Packet) → free_m p.message ≤ misfit_p o p + agent_p p
unfolding misfit_p agent_s
free_carries o p = free_fits o p.carried.present p.to p.rejected p.carried.agent p.message

pub waits_are : (s : Status) → wait_f Exclusive s + wait_f Shared s ≡ waits_f s
unfolding wait_f waits_f
waits_are Idle = refl
waits_are (Waiting Exclusive) = refl
waits_are (Waiting Shared) = refl
waits_are (Holding n) = refl

pub waits_one : (m : Mode) (s : Status) → wait_f m s ≤ 1
waits_one Exclusive s = omega (arith, statuses s)
waits_one Shared s = omega (arith, statuses s)

pub owned_one : (o : Owner) → owned_f o ≤ 1
unfolding owned_f
owned_one Unowned = omega arith
owned_one (Owned m k) = omega arith

module _ (r : LockState) (i : Inv r) where
  abbrev ps : List Packet
  ps = packets r.wire

  -- what asks of a client's packets, in any mode
  pub asked : (d : ℕ) → tally (λ p. ask_m d Exclusive p.message) ps + tally (λ p. ask_m d Shared p.message) ps
      ≤ weight (waiting_p d Exclusive) (queued_s d Exclusive) r + weight (waiting_p d Shared) (queued_s d Shared) r
  unfolding weight
  asked d =
      omega (
        arith,
        tally_add (λ p. ask_m d Exclusive p.message) (λ p. queued_s d Exclusive p.carried) ps,
        tally_add (λ p. ask_m d Shared p.message) (λ p. queued_s d Shared p.carried) ps,
      )

  -- who is listed or marked is so once
  pub lists_one : (d : ℕ) → weight (listed_p d) (listed_s d) r ≤ 1
  lists_one d = omega (arith, i.presence d, i.rels d, owes_list d ps, asked d)

  pub marked_below : (d : ℕ) → tally (λ p. mark_m d p.message) ps ≤ 1
  unfolding weight
  marked_below d = omega (arith, lists_one d, tally_add (λ p. mark_m d p.message) (λ p. listed_s d p.carried) ps)

  idle_one : (d : ℕ) → idle_f (status_at r d) ≤ 1
  idle_one d = omega (arith, statuses (status_at r d))

  pub named_below : (d : ℕ) → tally (λ p. names_m d p.message) ps ≤ 3
  named_below d =
      let releases = tally_add (λ p. ask_m d Exclusive p.message + ask_m d Shared p.message + mark_m d p.message) (release_p d) ps in
      let marked = tally_add (λ p. ask_m d Exclusive p.message + ask_m d Shared p.message) (λ p. mark_m d p.message) ps in
      let both = tally_add (λ p. ask_m d Exclusive p.message) (λ p. ask_m d Shared p.message) ps in
      omega (arith, asked d, i.most d, marked_below d, i.rels d, idle_one d)

  pub frees : tally (λ p. free_m p.message) ps ≤ 1
  unfolding weight
  frees =
      let o : Owner = r.decider.owner in
      omega (arith, tally_le _ _ (free_carries o) ps, tally_add (misfit_p o) agent_p ps, i.fitting, i.agent, owned_one o)

  pub wire_bound : length ps ≤ wire_capacity
  wire_bound =
      omega (
        arith,
        tally_length ps,
        frees,
        i.fitting,
        tally_le (λ p. 1) _ (counts_one r.decider.owner) ps,
        tally_add (λ p. misfit_p r.decider.owner p + free_m p.message) (λ p. sum_to clients (λ d. names_m d p.message)) ps,
        tally_add (misfit_p r.decider.owner) (λ p. free_m p.message) ps,
        sum_swap clients (λ d p. names_m d p.message) ps,
        sum_le clients 3 (λ d. tally (λ p. names_m d p.message) ps) named_below,
      )

mark_in_range : (m : Message) → mark_all m ≤ flag (not (in_range m)) + sum_to clients (λ d. mark_m d m)
unfolding mark_all mark_m
mark_in_range (Acquire c n false) = omega arith
mark_in_range (Acquire c n true) = bool_cases (ltb c.0 clients) (λ q. omega (arith, one_each c q)) (λ q. rw q (omega arith))
mark_in_range (Grant c n) = omega arith
mark_in_range (Release c) = omega arith
mark_in_range Free = omega arith

mark_fits : (o : Owner) (p : Packet) → mark_p p ≤ misfit_p o p + sum_to clients (λ d. mark_m d p.message)
unfolding misfit_p
mark_fits o p =
    bool_cases (fits_p o p)
    (λ q. omega (arith, rw (named_of _ _ _ _ _ p.message q) at (mark_in_range p.message)))
    (λ q. let e : misfit_p o p ≡ 1 = rw q in omega (arith, mark_in_range p.message, flag_le (not (in_range p.message))))

pub absent_of : (s : AgentSlot) → agent_s s ≡ 0 → s.present ≡ false
unfolding agent_s
absent_of s e = bool_cases s.present (λ q. absurd (omega (arith, rw q at e))) (λ q. q)

zero_of : (s : AgentSlot) → agent_s s ≡ 0 → Zero s
zero_of s e = absent s (absent_of s e)

-- ---- at a lock that is not shared nothing is marked; where the incarnations agree nothing is
mark_shared : (o : Owner) → owned_shared o ≡ false → (x : Bool) (t : Address) (b : Bool) (a : Agent) (m : Message) → mark_all m ≤ flag (not (fits o x t b a m))
unfolding fits mark_all
mark_shared o e x t b a (Acquire c n false) = omega arith
mark_shared o e true t b a (Acquire c n true) = simp and-false (omega arith)
mark_shared o e false t b a (Acquire c n true) = rw e (simp and-false (omega arith))
mark_shared o e x t b a (Grant c n) = omega arith
mark_shared o e x t b a (Release c) = omega arith
mark_shared o e x t b a Free = omega arith

pub silent_unshared : (r : LockState) → Inv r → owned_shared r.decider.owner ≡ false → tally mark_p (packets r.wire) ≡ 0
unfolding misfit_p
silent_unshared r i e =
    let o : Owner = r.decider.owner in
    omega (
      arith,
      i.fitting,
      tally_le mark_p (misfit_p o) (λ p. mark_shared o e p.carried.present p.to p.rejected p.carried.agent p.message) (packets r.wire),
    )

-- where no agent is, no incarnation is counted
pub no_incs : (qs : List Packet) (xs : List AgentSlot) → tally agent_p qs + tally agent_s xs ≡ 0 → tally incarnation_p qs + tally incarnation_s xs ≡ 0
no_incs qs xs z =
    let here = tally_none agent_s incarnation_s (λ s e. (zero_of s e).incarnation_s) xs (omega arith) in
    omega (arith, tally_none agent_p incarnation_p (λ q e. (zero_of q.carried e).incarnation_s) qs (omega arith))

pub marks_bound : (r : LockState) → Inv r → tally mark_p (packets r.wire) ≤ clients
marks_bound r i =
    omega (
      arith,
      tally_le mark_p _ (mark_fits r.decider.owner) (packets r.wire),
      tally_add (misfit_p r.decider.owner) (λ p. sum_to clients (λ d. mark_m d p.message)) (packets r.wire),
      i.fitting,
      sum_swap clients (λ d p. mark_m d p.message) (packets r.wire),
      sum_le clients 1 (λ d. tally (λ p. mark_m d p.message) (packets r.wire)) (marked_below r i),
    )

pub free_inc : (r : LockState) → Inv r → r.decider.owner ≡ Unowned → r.decider.incarnation ≡ 0
unfolding weight owned_f
free_inc r i o = omega (arith, i.incs, silent_unshared r i (rw o), no_incs (packets r.wire) r.agents (rw o at i.agent))

pub same_mode_lem : (m : Mode) → same_mode m m ≡ true
same_mode_lem Exclusive = refl
same_mode_lem Shared = refl

-- ---- the agent in a packet: no other is anywhere
pub rejected_carries : (o : Owner) (x : Bool) (t : Address) (b : Bool) (a : Agent) (m : Message) → flag b ≤ flag (not (fits o x t b a m)) + flag x
unfolding fits
rejected_carries o true t b a m = omega (arith, flag_le b)
rejected_carries o false t true a m = simp and-false (omega arith)
rejected_carries o false t false a m = omega arith

rejected_below : (o : Owner) (qs : List Packet) → tally rejected_p qs ≤ tally (misfit_p o) qs + tally agent_p qs
unfolding misfit_p agent_s
rejected_below o qs = omega (arith, tally_le rejected_p (λ q. misfit_p o q + agent_p q) each qs, tally_add (misfit_p o) agent_p qs)
  where
    each : (q : Packet) → rejected_p q ≤ misfit_p o q + agent_p q
    each q = rejected_carries o q.carried.present q.to q.rejected q.carried.agent q.message

module _ (r : LockState) (p : Packet) (rest : List Packet) (i : Inv r) (sp : Split r (p ∷ []) rest) (h : agent_p p ≡ 1) where
  pub alone : tally agent_p rest + tally agent_s r.agents ≡ 0
  unfolding weight tally
  alone = omega (arith, i.agent, owned_one r.decider.owner, sp.parts agent_p)

  pub no_others : tally rejected_p rest + tally vacant_s r.agents ≡ 0
  unfolding tally
  no_others =
      let o : Owner = r.decider.owner in
      let vacant = tally_none agent_s vacant_s (λ s e. (zero_of s e).vacant_s) r.agents (omega (arith, alone)) in
      omega (arith, alone, vacant, rejected_below o rest, i.fitting, sp.parts (misfit_p o))

  pub differ : incarnation_p p < 256 → (incarnation_p p ≡ r.decider.incarnation → ⊥) → 1 ≤ tally mark_p (packets r.wire)
  unfolding weight tally
  differ s n = omega (arith, s, n, i.incs, sp.parts incarnation_p, no_incs rest r.agents alone)

  pub silent_equal : incarnation_p p ≡ r.decider.incarnation → tally mark_p (packets r.wire) ≡ 0
  unfolding weight tally
  silent_equal e = omega (arith, i.incs, marks_bound r i, sp.parts incarnation_p, no_incs rest r.agents alone)

-- ---- the agent at home: no packet carries one, no other machine has one
module _ (r : LockState) (i : Inv r) (k : ℕ) (kk : k < machines) (a : Agent) (es : slot_at r k ≡ some_agent a) where
  room : k < length r.agents
  room = omega (arith, i.all_machines)

  pub none_away : tally agent_p (packets r.wire) ≡ 0
  unfolding weight agent_s
  none_away = omega (arith, i.agent, owned_one r.decider.owner, rw es at (tally_at agent_s no_agent r.agents k room))

  pub none_rejected : tally rejected_p (packets r.wire) ≡ 0
  none_rejected = omega (arith, none_away, rejected_below r.decider.owner (packets r.wire), i.fitting)

  -- where the machine gets a slot that is not vacant, no agent is
  pub none_vacant : (s : AgentSlot) → vacant_s s ≡ 0 → agent_s s ≡ 1 → tally vacant_s (set r.agents k s) ≡ 0
  unfolding weight agent_s vacant_s no_agent
  none_vacant s v h =
      let th : tally agent_s r.agents ≤ 1 = omega (arith, i.agent, owned_one r.decider.owner) in
      let rest : tally agent_s (set r.agents k no_agent) ≡ 0 = omega (arith, rw es at (tally_set agent_s no_agent r.agents k no_agent room)) in
      let rs : tally vacant_s (set r.agents k no_agent) ≡ 0 = tally_none agent_s vacant_s (λ s e. (zero_of s e).vacant_s) _ rest in
      omega (arith, rs, v, rw es at (tally_set vacant_s no_agent r.agents k s room), rw es at (tally_set vacant_s no_agent r.agents k no_agent room))

pub one_self : (c : ClientId) → one c.0 c ≡ 1
unfolding one
one_self c = rw (eq-eqb c.0 c.0 refl)

pub one_none : (d : ℕ) (c : ClientId) → (d ≡ c.0 → ⊥) → one d c ≡ 0
unfolding one
one_none d c n = rw (ne_eqb c.0 d (λ e. n (sym e)))

pub one_some : (d : ℕ) (c : ClientId) → d ≡ c.0 → one d c ≡ 1
unfolding one
one_some d c e = rw (eq-eqb c.0 d (sym e))

pub hit_one : (d : ℕ) (m : Mode) (c : ClientId) (n : Mode) → hit d m c n ≤ one d c
hit_one d Exclusive c n = omega (arith, hits d c n)
hit_one d Shared c n = omega (arith, hits d c n)

-- who asks is neither listed nor marked
pub asker_unlisted : {r : LockState} {rest : List Packet} {c : ClientId} {n : Mode} (p : Packet) → Inv r → p.message ≡ Acquire c n false
    → Split r (p ∷ []) rest → weight (listed_p c.0) (listed_s c.0) r ≡ 0
unfolding tally ask_m owed_m release_m
asker_unlisted {r} {rest} {c} {n} p i e sp =
    let exclusive = rw e at (sp.parts (λ q. ask_m c.0 Exclusive q.message)) in
    let shared = rw e at (sp.parts (λ q. ask_m c.0 Shared q.message)) in
    let owed = rw e at (sp.parts (owed_p c.0)) in
    let released = rw e at (sp.parts (release_p c.0)) in
    omega (arith, i.presence c.0, asked r i c.0, hits c.0 c n, one_self c, owes_list c.0 rest, i.rels c.0)

-- a client that no agent lists joins the holders of the agent a, whose incarnation is n then
abbrev pub joins : Agent → ClientId → ℕ → AgentSlot
joins a c n = some_agent (changed a (set a.holders c.0 true) a.queue n)

module _ {r : LockState} {k : ℕ} {a : Agent} (i : Inv r) (kk : k < machines) (es : slot_at r k ≡ some_agent a) (c : ClientId) (cl : c.0 < clients) (n : ℕ) where
  home : Home r.decider.owner k a
  home = slot_home r k a i es

  below : c.0 < length a.holders
  below = omega (arith, home.sized)

  pub joins_fits : a.mode ≡ Shared → n < 256 → misfit_s r.decider.owner k (joins a c n) ≡ 0
  joins_fits m s =
      home_fits r.decider.owner k _
      (record { at = home.at; mode = home.mode; sized = length-set a.holders c.0 true ∙ home.sized; few = rw m; small = s })

  pub joins_listed : tally (listed_s c.0) r.agents ≡ 0 → (d : ℕ) → listed_s d (joins a c n) ≡ listed_s d (some_agent a) + one d c
  unfolding listed_s one
  joins_listed z d =
      let un = rw es at (tally_at (listed_s c.0) no_agent r.agents k (omega (arith, i.all_machines))) in
      list_on a.holders c.0 d below (omega (arith, z, un))

  pub joins_busy : vacant_s (joins a c n) ≡ 0
  unfolding vacant_s
  joins_busy =
      let here = tally_set flag false a.holders c.0 true below in
      rw (ne_eqb (tally flag (set a.holders c.0 true)) 0 (λ z. omega (arith, z, tally_at flag false a.holders c.0 below)))

pub few_zero : (m : Mode) → few m 0 ≡ true
few_zero Exclusive = refl
few_zero Shared = refl

pub drop_last : (a b c d : Bool) → (a && (b && (c && d))) ≡ true → (a && (b && c)) ≡ true
drop_last true true true d e = refl
drop_last true true false d e = e
drop_last true false c d e = e
drop_last false b c d e = e

-- who has a GRANT on the wire waits, in its mode, and has no note; or it is idle, since it gave up
pub data Awaits (n : Mode) : Status → Type 0 where
  gave_up : Awaits n Idle
  awaits : Awaits n (Waiting n)

awaits_by : (n : Mode) (s : Status) (x y : ℕ) → x + y + hold_f s ≤ 1 → wait_f Exclusive s ≤ x → wait_f Shared s ≤ y
    → 1 ≤ (wait_f n (Waiting Exclusive)) * x + (wait_f n (Waiting Shared)) * y → Awaits n s
unfolding wait_f hold_f
awaits_by n Idle x y m e f g = gave_up
awaits_by Exclusive (Waiting Exclusive) x y m e f g = awaits
awaits_by Exclusive (Waiting Shared) x y m e f g = absurd (omega arith)
awaits_by Shared (Waiting Exclusive) x y m e f g = absurd (omega arith)
awaits_by Shared (Waiting Shared) x y m e f g = awaits
awaits_by Exclusive (Holding n) x y m e f g = absurd (omega arith)
awaits_by Shared (Holding n) x y m e f g = absurd (omega arith)

-- what names an idle client names one that is idle
pub hit_idle : (r : LockState) (i : Inv r) (c : ClientId) (n : Mode) → status_at r c.0 ≡ Idle → (d : ℕ) (m : Mode) → hit d m c n ≤ idle_f (status_at r d)
unfolding hit idle_f
hit_idle r i c n e d m =
    bool_cases (eqb c.0 d)
    (λ q. let w : status_at r d ≡ Idle = rw (← eqb-true c.0 d q) e in rw (q, w) (omega (arith, flag_le (same_mode n m))))
    (λ q. rw q (omega arith))

pub grant_asks : {r : LockState} {rest : List Packet} {c : ClientId} {n : Mode} (p : Packet) → Inv r → p.message ≡ Grant c n → Split r (p ∷ []) rest
    → 1 ≤ weight (waiting_p c.0 n) (queued_s c.0 n) r
unfolding weight tally ask_m
grant_asks {r} {rest} {c} {n} p i e sp = omega (arith, rw e at (sp.parts (waiting_p c.0 n)), hit_self c n)

pub grant_unnoted : {r : LockState} {rest : List Packet} {c : ClientId} {n : Mode} (p : Packet) → Inv r → p.message ≡ Grant c n → Split r (p ∷ []) rest
    → note_at r c.0 ≡ false
grant_unnoted {r} {rest} {c} {n = Exclusive} p i e sp = flag_none _ (omega (arith, i.most c.0, grant_asks p i e sp))
grant_unnoted {r} {rest} {c} {n = Shared} p i e sp = flag_none _ (omega (arith, i.most c.0, grant_asks p i e sp))

pub grant_waits : {r : LockState} {rest : List Packet} {c : ClientId} {n : Mode} (p : Packet) → Inv r → p.message ≡ Grant c n → Split r (p ∷ []) rest
    → Awaits n (status_at r c.0)
unfolding wait_f note_f
grant_waits {r} {rest} {c} {n = Exclusive} p i e sp =
    let no_note = ap flag (grant_unnoted p i e sp) in
    awaits_by Exclusive _ (weight (waiting_p c.0 Exclusive) (queued_s c.0 Exclusive) r) (weight (waiting_p c.0 Shared) (queued_s c.0 Shared) r)
    (omega (arith, i.most c.0)) (omega (arith, i.asks c.0 Exclusive)) (omega (arith, i.asks c.0 Shared, no_note))
    (omega (arith, grant_asks p i e sp))
grant_waits {r} {rest} {c} {n = Shared} p i e sp =
    let no_note = ap flag (grant_unnoted p i e sp) in
    awaits_by Shared _ (weight (waiting_p c.0 Exclusive) (queued_s c.0 Exclusive) r) (weight (waiting_p c.0 Shared) (queued_s c.0 Shared) r)
    (omega (arith, i.most c.0)) (omega (arith, i.asks c.0 Exclusive)) (omega (arith, i.asks c.0 Shared, no_note))
    (omega (arith, grant_asks p i e sp))

-- at a lock that is not shared every mode is exclusive
pub owner_exclusive : (o : Owner) (n : Mode) → owned_mode o n ≡ true → owned_shared o ≡ false → n ≡ Exclusive
owner_exclusive o Exclusive e f = refl
owner_exclusive Unowned Shared e f = absurd (false≢true e)
owner_exclusive (Owned Exclusive k) Shared e f = absurd (false≢true e)
owner_exclusive (Owned Shared k) Shared e f = absurd (true≢false f)

-- a lock whose agent is not shared is not
pub unshared : (o : Owner) (n : Mode) → is_shared n ≡ false → owned_mode o n ≡ true → owned_shared o ≡ false
unshared Unowned n e f = refl
unshared (Owned Exclusive k) n e f = refl
unshared (Owned Shared k) Exclusive e f = absurd (false≢true f)
unshared (Owned Shared k) Shared e f = absurd (true≢false e)

-- a rejected packet on the wire carries an agent
pub rejected_carries_one : (r : LockState) (i : Inv r) (rest : List Packet) (p : Packet) → Split r (p ∷ []) rest → p.carried.present ≡ false
    → p.rejected ≡ true → ⊥
unfolding tally agent_s
rejected_carries_one r i rest p sp e f = omega (arith, came_fits r rest p i sp, rejected_below r.decider.owner (p ∷ []), ap flag e, ap flag f)
