-- The statuses and the notes are what the trace says: which client's each step writes, and as what.
use Rattle.std.specs.Prelude.{◌≡◌, ◌&&◌, ◌∷◌, ◌+◌, ◌<◌}
use Rattle.laws.specs.CallSteps.{step_of, Allowed, may_acquire, may_release, may_deliver, may_lose, may_give_up, perform_elsewhere}
use Rattle.theorems.specs.Names.{LockId, MachineId, ClientId, Mode, Owner, Unowned, Owned, Agent, AgentSlot, Address, ToDecider, ToMachine, Message}
use Rattle.theorems.specs.Names.{Free, Acquire, Grant, Release, Packet, Status, Idle, Waiting, Holding, ClientState, LockState, Cluster, Call}
use Rattle.theorems.specs.Names.{AcquireCall, ReleaseCall, DeliverCall, LoseCall, GiveUpCall, WireFull, refl, sym, ap, ◌∙◌, Bool, true, false}
use Rattle.theorems.specs.Names.{not, and-false, List, [], ℕ, arith, ℕ_discrete, length, get_or-set_same, get_or-set_other, leb}
use Rattle.theorems.specs.Names.{eq-eqb, ne_eqb, pick, any, removed, client_of, machine_of, mode_of, is_shared, some_agent, agent_on, listed, idle, status_of}
use Rattle.theorems.specs.Names.{plain, lock_in, no_agent, packets, Verdict, cannot_place, does, Site, site_of, with_slot, with_status, apply, accepted}
use Rattle.theorems.specs.Names.{finish, any_holder, without, stays_if, leaves, joining, queuing, no_room, may_join, lists, client_asks, client_acquires}
use Rattle.theorems.specs.Names.{client_releases, current, to_owner, decides_acquire, decides_free, decides_grant, decides, at_decider, installs}
use Rattle.theorems.specs.Names.{grant_arrives, rejected_grant_arrives, marked, unmarked, acquire_arrives, release_arrives, free_arrives, arrives, at_machine}
use Rattle.theorems.specs.Names.{names, machine_at, client_named, packet_at, delivers, acquire_step, release_step, takes, deliver_step, perform, lock_of, run}
use Rattle.theorems.specs.Names.{View, is_accepted, to_machine, is_grant_for, shows_grant, after_acquire, after_grant, sees, watch, bool_cases, clients}
use Rattle.theorems.specs.Names.{wire_capacity, in_parts, may_share, after_loss, is_waiting, granted_in, queues, give_up_step, client_gives_up, lose_step}
use Rattle.theorems.specs.Names.{drops}
use Rattle.theorems.specs.Names.{can_be_lost, grant_is_lost, decides_release, eqb, false≢true}
use Rattle.model.specs.Changes.{refused}
use Rattle.theorems.specs.Weights.{status_at, listed_s, listed_p, client_in}
use Rattle.theorems.specs.Invariant.{Inv}
use Rattle.theorems.specs.InvariantStep.{Split, split_at, told, untold, client_at, plainly}
use Rattle.model.specs.Trace.{after_grant_in}
use Rattle.theorems.specs.Facts.{flag_none, slot_home, waiter_below, in_slot, grant_waits, grant_asks, grant_unnoted, Awaits, awaits, gave_up}
use Rattle.theorems.specs.Sent.{Good}
use Rattle.theorems.specs.Clients.{names_none, unlisted, good_client_acquires, good_client_releases, good_client_gives_up}
use Rattle.theorems.specs.Steps.{verdict, good_deliver, good_lose, Says, says_by, after_step}
use Rattle.theorems.specs.Runs.{Reached, reached_next, Answered, answered, denied_by, accepted_by}

-- a client as its view has it
abbrev pub as_seen : View → ClientState
as_seen v = record { status = v.phase; lost = v.lost }

-- ---- a client after a step that is about client c
told_self : (s : LockState) (c : ClientId) (x : ClientState) → length s.clients ≡ clients → c.0 < clients → told s c x c.0 ≡ x
told_self s c x l b = get_or-set_same s.clients c.0 x idle (omega (arith, l))

told_other : (s : LockState) (c : ClientId) (x : ClientState) (d : ClientId) → (d.0 ≡ c.0 → ⊥) → told s c x d.0 ≡ client_in s d.0
told_other s c x d n = get_or-set_other s.clients c.0 d.0 x idle n

-- every other client is as it was
finish_other : (k : MachineId) (c : ClientId) (w : Verdict) (rest : List Packet) (s : LockState) (d : ClientId) → (d.0 ≡ c.0 → ⊥)
    → client_in (finish k c w rest s).state d.0 ≡ client_in s d.0
unfolding finish
finish_other k c cannot_place rest s d n = refl
finish_other k c (does v qs) rest s d n = go (leb (length rest + length qs) wire_capacity)
  where
    go : (b : Bool) → client_in (pick b (accepted (apply k c v qs rest s)) (refused WireFull s)).state d.0 ≡ client_in s d.0
    go true = told_other s c (client_at v) d n
    go false = refl

-- ---- acquire
module _ (pref : ℕ) (s : LockState) (i : Inv s) (c : ClientId) (cl : c.0 < clients) (id : status_of s c ≡ Idle) (un : any (names c) (packets s.wire) ≡ false)
    (m : Mode) where
  abbrev ps : List Packet
  ps = packets s.wire

  abbrev lists_home : LockState → Bool
  lists_home t = lists (agent_on t (machine_of c)) c

  -- holding exactly where the client's machine lists it now and did not before
  abbrev Now : View → LockState → Type 0
  Now v t = as_seen (after_acquire m (lists_home t && not (lists_home s)) v) ≡ client_in t c.0

  abbrev site : Site
  site = site_of pref s (machine_of c) c

  good : Good s (machine_of c) c ps (client_acquires site c m)
  good = good_client_acquires pref s i c cl id (names_none c ps un) m

  -- the state after the site's change
  abbrev then : Site → List Packet → LockState
  then v qs = apply (machine_of c) c v qs ps s

  -- the phase by the trace where the listing stays as it was, and where the client is listed anew
  waits_on : (b : Bool) (v : View) → as_seen (after_acquire m (b && not b) v) ≡ plainly (Waiting m)
  waits_on true v = refl
  waits_on false v = refl

  now : (st : Status) → told s c (plainly st) c.0 ≡ plainly st
  now st = told_self s c (plainly st) i.all_clients cl

  not_listed : lists_home s ≡ false
  unfolding listed_s
  not_listed =
      let x : AgentSlot = agent_on s (machine_of c) in
      let here = in_slot s (listed_p c.0) (listed_s c.0) (machine_of c).0 x i (omega arith) refl in
      let none = unlisted pref s i c cl id (names_none c ps un) in
      bool_cases x.present (λ q. rw q (flag_none (listed x.agent c) (omega (arith, rw q at here)))) (λ q. rw q refl)

  -- the machine gets the slot x
  lists_then : (x : AgentSlot) (v : Site) (qs : List Packet) → lists_home (then (with_slot v x) qs) ≡ lists x c
  lists_then x v qs = ap (λ (y : AgentSlot). lists y c) (get_or-set_same s.agents (machine_of c).0 x no_agent (omega (arith, i.all_machines)))

  joined_now : (v : View) (h : Agent) → agent_on s (machine_of c) ≡ some_agent h
      → Now v (then (with_slot (with_status site (Holding m)) (some_agent (joining h c))) [])
  joined_now v h e =
      let hl : c.0 < length h.holders = omega (arith, (slot_home s (machine_of c).0 h i e).sized) in
      let on = lists_then (some_agent (joining h c)) (with_status site (Holding m)) [] ∙ get_or-set_same h.holders c.0 true false hl in
      rw (on, not_listed) (sym (now (Holding m)))

  -- the slot x lists the client as before
  waits_now : (v : View) (x : AgentSlot) (qs : List Packet) → lists x c ≡ lists_home s → Now v (then (with_slot (with_status site (Waiting m)) x) qs)
  waits_now v x qs e = rw (lists_then x (with_status site (Waiting m)) qs ∙ e) (waits_on (lists_home s) v ∙ sym (now (Waiting m)))

  acquire_now : (v : View) → Says (λ w qs. Now v (then w qs)) (client_acquires site c m)
  unfolding client_acquires client_asks
  acquire_now v = go (agent_on s (machine_of c)).present (agent_on s (machine_of c)).agent refl
    where
      go : (y : Bool) (h : Agent) → agent_on s (machine_of c) ≡ record { present = y; agent = h } → Says (λ w qs. Now v (then w qs)) (client_asks site c m y h)
      go false h e = waits_now v site.slot (plain (Acquire c m false) ToDecider ∷ []) refl
      go true h e =
          says_by _ (may_join site m) _ _ (joined_now v h e)
          (says_by _ (no_room h c) cannot_place _ tt (waits_now v (some_agent (queuing h c m)) [] (sym (ap (λ (x : AgentSlot). lists x c) e))))

  pub acquired_now : (v : View) → Now v (acquire_step pref s c m).state
  unfolding acquire_step
  acquired_now v = after_step (machine_of c) c (λ w qs. Now v (then w qs)) (Now v) (client_acquires site c m) ps s good (acquire_now v) (λ w qs p. p)

pub acquired_other : (pref : ℕ) (s : LockState) (c : ClientId) (m : Mode) (d : ClientId) → (d.0 ≡ c.0 → ⊥)
    → client_in (acquire_step pref s c m).state d.0 ≡ client_in s d.0
unfolding acquire_step
acquired_other pref s c m d n = finish_other _ c _ _ s d n

-- ---- release: an agent that leaves or stays writes no status
left_quiet : (v : Site) (a : Agent) (c : ClientId) → Says (λ w qs. client_at w ≡ client_at v) (leaves v a c)
unfolding stays_if
left_quiet v a c = bool_cases (any_holder (without a c)) (λ q. rw q refl) (λ q. rw q refl)

release_idle : (v : Site) (c : ClientId) → Says (λ w qs. client_at w ≡ plainly Idle) (client_releases v c)
unfolding client_releases
release_idle v c = says_by _ (lists v.slot c) _ _ (left_quiet (with_status v Idle) v.slot.agent c) refl

pub released_now : (pref : ℕ) (s : LockState) (i : Inv s) (c : ClientId) (cl : c.0 < clients) (m : Mode) → status_of s c ≡ Holding m
    → client_in (release_step pref s c).state c.0 ≡ plainly Idle
unfolding release_step
released_now pref s i c cl m ho =
    after_step (machine_of c) c (λ w qs. client_at w ≡ plainly Idle) (λ t. client_in t c.0 ≡ plainly Idle) _ (packets s.wire) s
    (good_client_releases pref s i c cl m ho) (release_idle _ c) (λ w qs p. told_self s c (client_at w) i.all_clients cl ∙ p)

pub released_other : (pref : ℕ) (s : LockState) (c : ClientId) (d : ClientId) → (d.0 ≡ c.0 → ⊥)
    → client_in (release_step pref s c).state d.0 ≡ client_in s d.0
unfolding release_step
released_other pref s c d n = finish_other _ c _ _ s d n

-- ---- giving up
pub given_up_now : (pref : ℕ) (s : LockState) (i : Inv s) (c : ClientId) (cl : c.0 < clients) (m : Mode) → status_of s c ≡ Waiting m
    → client_in (give_up_step pref s c).state c.0 ≡ plainly Idle
unfolding give_up_step client_gives_up
given_up_now pref s i c cl m wa =
    after_step (machine_of c) c (λ w qs. client_at w ≡ plainly Idle) (λ t. client_in t c.0 ≡ plainly Idle) _ (packets s.wire) s
    (good_client_gives_up pref s i c cl m wa) refl (λ w qs p. told_self s c (client_at w) i.all_clients cl ∙ p)

pub given_up_other : (pref : ℕ) (s : LockState) (c : ClientId) (d : ClientId) → (d.0 ≡ c.0 → ⊥)
    → client_in (give_up_step pref s c).state d.0 ≡ client_in s d.0
unfolding give_up_step
given_up_other pref s c d n = finish_other _ c _ _ s d n

-- ---- deliver: only a GRANT that is not rejected, at a machine, writes a status
abbrev Tells : Address → Message → Bool → Site → Site → List Packet → Type 0
Tells ToDecider m b v w qs = client_at w ≡ client_at v
Tells (ToMachine k) (Grant d n) false v w qs = client_at w ≡ plainly (granted_in n v.status)
Tells (ToMachine k) (Grant d n) true v w qs = client_at w ≡ client_at v
Tells (ToMachine k) (Acquire d n g) b v w qs = client_at w ≡ client_at v
Tells (ToMachine k) (Release d) b v w qs = client_at w ≡ client_at v
Tells (ToMachine k) Free b v w qs = client_at w ≡ client_at v

module _ (v : Site) where
  abbrev Quiet : Site → List Packet → Type 0
  Quiet w qs = client_at w ≡ client_at v

  decider_quiet : (m : Message) (o : Owner) (p : Packet) → Says Quiet (decides m o v p)
  unfolding decides decides_acquire decides_release decides_free decides_grant to_owner
  decider_quiet (Acquire c m false) Unowned p = refl
  decider_quiet (Acquire c m true) Unowned p = tt
  decider_quiet (Acquire c m false) (Owned n k) p = says_by Quiet (may_share v m) _ _ refl refl
  decider_quiet (Acquire c m true) (Owned n k) p = refl
  decider_quiet (Release c) Unowned p = refl
  decider_quiet (Release c) (Owned n k) p = refl
  decider_quiet Free Unowned p = tt
  decider_quiet Free (Owned n k) p = says_by Quiet (current v.decider p) _ _ refl refl
  decider_quiet (Grant c m) o p = go p.carried.present o
    where
      go : (x : Bool) (o : Owner) → Says Quiet (decides_grant x o v p c m)
      go false o = refl
      go true Unowned = tt
      go true (Owned n k) = says_by Quiet (current v.decider p) _ _ refl refl

  acquire_quiet : (y : Bool) (h : Agent) (p : Packet) (c : ClientId) (m : Mode) (g : Bool) → Says Quiet (acquire_arrives y v h p c m g)
  unfolding acquire_arrives marked unmarked
  acquire_quiet false h p c m g = refl
  acquire_quiet true h p c m true = says_by Quiet (is_shared h.mode) _ _ refl tt
  acquire_quiet true h p c m false = says_by Quiet (may_join v m) _ _ refl (says_by Quiet (no_room h c) _ _ tt refl)

  release_quiet : (p : Packet) (c : ClientId) → Says Quiet (release_arrives v p c)
  unfolding release_arrives
  release_quiet p c = says_by Quiet (lists v.slot c) _ _ (left_quiet v v.slot.agent c) (says_by Quiet (queues v.slot c) _ _ refl refl)

  free_quiet : (y : Bool) (x : AgentSlot) → Says Quiet (free_arrives y v x)
  unfolding free_arrives
  free_quiet true x = tt
  free_quiet false x = refl

  grant_tells : (k : MachineId) (y x : Bool) (a : Agent) (c : ClientId) (m : Mode) → Says (Tells (ToMachine k) (Grant c m) false v) (grant_arrives y x v a c m)
  unfolding grant_arrives installs
  grant_tells k y false a c m = refl
  grant_tells k true true a c m = tt
  grant_tells k false true a c m = refl

  rejected_quiet : (y : Bool) (a : Agent) (c : ClientId) (m : Mode) → Says Quiet (rejected_grant_arrives y v a c m)
  unfolding rejected_grant_arrives
  rejected_quiet true a c m = tt
  rejected_quiet false a c m = says_by Quiet (no_room a c) _ _ tt refl

  delivers_tells : (p : Packet) (t : Address) (m : Message) (b x : Bool) → Says (Tells t m b v) (delivers t v (in_parts m t b x p))
  unfolding delivers at_decider at_machine arrives
  delivers_tells p ToDecider m b x = decider_quiet m v.decider.owner _
  delivers_tells p (ToMachine k) (Acquire c m g) b x = acquire_quiet v.slot.present v.slot.agent _ c m g
  delivers_tells p (ToMachine k) (Release c) b x = release_quiet _ c
  delivers_tells p (ToMachine k) Free b x = free_quiet v.slot.present _
  delivers_tells p (ToMachine k) (Grant c m) false x = grant_tells k v.slot.present x p.carried.agent c m
  delivers_tells p (ToMachine k) (Grant c m) true x = rejected_quiet v.slot.present p.carried.agent c m

-- what a GRANT makes of the view, where the client is as it is seen
granted_view : (n : Mode) (v : View) → Awaits n v.phase → v.lost ≡ false → as_seen (after_grant v) ≡ plainly (granted_in n v.phase)
granted_view n v a q = go v.phase a refl
  where
    go : (st : Status) → Awaits n st → v.phase ≡ st → as_seen (after_grant_in st v) ≡ plainly (granted_in n st)
    go _ gave_up e = rw (e, q)
    go _ awaits e = refl

module _ (s : LockState) (i : Inv s) (rest : List Packet) (c : ClientId) where
  -- the client by the trace, where the packet that is delivered has these parts
  abbrev Seen : Address → Message → Bool → View → ClientState → Type 0
  Seen t m b v x = as_seen (pick (to_machine t && (is_grant_for c m && not b)) (after_grant v) v) ≡ x

  quiet_seen : (v : View) → as_seen v ≡ client_in s c.0 → (d : ClientId) (x : ClientState) → x ≡ client_in s d.0 → as_seen v ≡ told s d x c.0
  quiet_seen v e d x q = e ∙ sym (rw q (untold s d c.0))

  tells_seen : (p : Packet) (t : Address) (m : Message) (b : Bool) (v : View) → as_seen v ≡ client_in s c.0
      → Split s (in_parts m t b p.carried.present p ∷ []) rest → (pref : ℕ) (k : MachineId) (w : Site) (qs : List Packet)
      → Tells t m b (site_of pref s k (client_named m)) w qs → Seen t m b v (told s (client_named m) (client_at w) c.0)
  tells_seen p ToDecider m b v e sp pref k w qs z = quiet_seen v e (client_named m) (client_at w) z
  tells_seen p (ToMachine j) (Acquire d n g) b v e sp pref k w qs z = quiet_seen v e d (client_at w) z
  tells_seen p (ToMachine j) (Release d) b v e sp pref k w qs z = quiet_seen v e d (client_at w) z
  tells_seen p (ToMachine j) Free b v e sp pref k w qs z = quiet_seen v e _ (client_at w) z
  tells_seen p (ToMachine j) (Grant d n) true v e sp pref k w qs z = rw (and-false) (quiet_seen v e d (client_at w) z)
  tells_seen p (ToMachine j) (Grant d n) false v e sp pref k w qs z = go (ℕ_discrete c.0 d.0)
    where
      db : d.0 < clients
      db = waiter_below s d.0 n i (grant_asks _ i refl sp)

      go : Dec (c.0 ≡ d.0) → Seen (ToMachine j) (Grant d n) false v (told s d (client_at w) c.0)
      go (yes q) =
          let here : as_seen v ≡ client_in s d.0 = e ∙ ap (λ (z : ℕ). client_in s z) q in
          let ph : v.phase ≡ status_at s d.0 = ap (λ (x : ClientState). x.status) here in
          let lo : v.lost ≡ false = ap (λ (x : ClientState). x.lost) here ∙ grant_unnoted _ i refl sp in
          let g : as_seen (after_grant v) ≡ plainly (granted_in n v.phase) = granted_view n v (rw ph (grant_waits _ i refl sp)) lo in
          let after : told s d (client_at w) c.0 ≡ plainly (granted_in n v.phase) =
          ap (λ (n : ℕ). told s d (client_at w) n) q ∙ told_self s d (client_at w) i.all_clients db ∙ z
          ∙ ap (λ (st : Status). plainly (granted_in n st)) (sym ph) in
          rw (eq-eqb c.0 d.0 q) (g ∙ sym after)
      go (no q) = rw (ne_eqb c.0 d.0 q) (e ∙ sym (told_other s d (client_at w) c q))

pub delivered_now : (pref : ℕ) (s : LockState) (i : Inv s) (j : ℕ) → j < length (packets s.wire) → (c : ClientId) (v : View) → as_seen v ≡ client_in s c.0
    → as_seen (pick (shows_grant c (packet_at s j)) (after_grant v) v) ≡ client_in (deliver_step pref s j).state c.0
unfolding deliver_step takes
delivered_now pref s i j h c v e =
    let p : Packet = packet_at s j in
    let rest : List Packet = removed (packets s.wire) j in
    let sp : Split s (p ∷ []) rest = split_at s j p h refl in
    after_step _ _ (Tells p.to p.message p.rejected (site_of pref s (machine_at p.to) (client_named p.message)))
    (λ u. Seen s i rest c p.to p.message p.rejected v (client_in u c.0)) (verdict pref s p) rest s (good_deliver pref s i j h)
    (delivers_tells _ p p.to p.message p.rejected p.carried.present)
    (tells_seen s i rest c p p.to p.message p.rejected v e sp pref (machine_at p.to))

-- ---- lose: the note is written, of the client of the GRANT
module _ (pref : ℕ) (s : LockState) (i : Inv s) (rest : List Packet) (c : ClientId) (v : View) (e : as_seen v ≡ client_in s c.0) where
  noted_view : (n : Mode) (d : ClientId) (p : Packet) (t : Address) (b x : Bool) → Split s (in_parts (Grant d n) t b x p ∷ []) rest → (k : MachineId) (w : Site)
      → client_at w ≡ record { status = status_of s d; lost = is_waiting (status_of s d) }
      → as_seen (pick (eqb c.0 d.0) (after_loss v) v) ≡ told s d (client_at w) c.0
  noted_view n d p t b x sp k w z = go (ℕ_discrete c.0 d.0)
    where
      db : d.0 < clients
      db = waiter_below s d.0 n i (grant_asks _ i refl sp)

      go : Dec (c.0 ≡ d.0) → as_seen (pick (eqb c.0 d.0) (after_loss v) v) ≡ told s d (client_at w) c.0
      go (yes q) =
          let here : as_seen v ≡ client_in s d.0 = e ∙ ap (λ (z : ℕ). client_in s z) q in
          let ph : v.phase ≡ status_at s d.0 = ap (λ (x : ClientState). x.status) here in
          let lo : v.lost ≡ false = ap (λ (x : ClientState). x.lost) here ∙ grant_unnoted _ i refl sp in
          let g : as_seen (after_loss v) ≡ record { status = status_of s d; lost = is_waiting (status_of s d) } = rw (lo, ph) in
          rw (eq-eqb c.0 d.0 q)
          (g ∙ sym (ap (λ (n : ℕ). told s d (client_at w) n) q ∙ told_self s d (client_at w) i.all_clients db ∙ z))
      go (no q) = rw (ne_eqb c.0 d.0 q) (e ∙ sym (told_other s d (client_at w) c q))

  lost_view : (p : Packet) (m : Message) (t : Address) (x : Bool) → can_be_lost (in_parts m t p.rejected x p) ≡ true
      → Split s (in_parts m t p.rejected x p ∷ []) rest → (k : MachineId) (w : Site)
      → client_at w ≡ record { status = status_of s (client_named m); lost = is_waiting (status_of s (client_named m)) }
      → as_seen (pick (is_grant_for c m) (after_loss v) v) ≡ told s (client_named m) (client_at w) c.0
  unfolding can_be_lost
  lost_view p (Grant d n) t x f sp k w z = noted_view n d p t p.rejected x sp k w z
  lost_view p (Acquire d n g) t x f sp k w z = absurd (false≢true f)
  lost_view p (Release d) t x f sp k w z = absurd (false≢true f)
  lost_view p Free t x f sp k w z = absurd (false≢true f)

pub lost_now : (pref : ℕ) (s : LockState) (i : Inv s) (j : ℕ) → j < length (packets s.wire) → can_be_lost (packet_at s j) ≡ true → (c : ClientId) (v : View)
    → as_seen v ≡ client_in s c.0
    → as_seen (pick (is_grant_for c (packet_at s j).message) (after_loss v) v) ≡ client_in (lose_step pref s j).state c.0
unfolding lose_step drops grant_is_lost
lost_now pref s i j h f c v e =
    let p : Packet = packet_at s j in
    let d : ClientId = client_named p.message in
    let rest : List Packet = removed (packets s.wire) j in
    let sp : Split s (p ∷ []) rest = split_at s j p h refl in
    after_step (machine_at p.to) d (λ w qs. client_at w ≡ record { status = status_of s d; lost = is_waiting (status_of s d) })
    (λ u. as_seen (pick (is_grant_for c p.message) (after_loss v) v) ≡ client_in u c.0) _ rest s (good_lose pref s i j h f) refl
    (λ w qs z. lost_view pref s i rest c v e p p.message p.to p.carried.present f sp (machine_at p.to) w z)

-- ---- one call, on its own lock
abbrev client_of_lem : ℕ → ClientId
client_of_lem n = record { 0 = n }

own : (pref : ℕ) (a : Call) (s : LockState) (x y : Cluster) (c : ClientId) (v : View) → Allowed a s → Inv s → lock_in x (lock_of a) ≡ s
    → lock_in y (lock_of a) ≡ (step_of pref a s).state → as_seen v ≡ client_in s c.0
    → as_seen (sees (lock_of a) c a x y v) ≡ client_in (lock_in y (lock_of a)) c.0
unfolding sees
own pref _ s x y c v (may_acquire {l = l} {k = k} {t = t} {m = m} kb tb n id un) i ex ey e = go (ℕ_discrete c.0 (client_of k t).0)
  where
    go : Dec (c.0 ≡ (client_of k t).0) → as_seen (sees l c (AcquireCall l k t m) x y v) ≡ client_in (lock_in y l) c.0
    go (yes q) =
        rw (ap client_of_lem q, eq-eqb l.0 l.0 refl, eq-eqb (client_of k t).0 (client_of k t).0 refl, ey, ex)
        (acquired_now pref s i (client_of k t) (omega arith) id un (mode_of m) v)
    go (no q) = rw (eq-eqb l.0 l.0 refl, ne_eqb c.0 (client_of k t).0 q, ey) (e ∙ sym (acquired_other pref s (client_of k t) (mode_of m) c q))
own pref _ s x y c v (may_release {l = l} {k = k} {t = t} kb tb n ho) i ex ey e = go (ℕ_discrete c.0 (client_of k t).0)
  where
    go : Dec (c.0 ≡ (client_of k t).0) → as_seen (sees l c (ReleaseCall l k t) x y v) ≡ client_in (lock_in y l) c.0
    go (yes q) =
        rw (ap client_of_lem q, eq-eqb l.0 l.0 refl, eq-eqb (client_of k t).0 (client_of k t).0 refl, ey)
        (sym (released_now pref s i (client_of k t) (omega arith) n ho))
    go (no q) = rw (eq-eqb l.0 l.0 refl, ne_eqb c.0 (client_of k t).0 q, ey) (e ∙ sym (released_other pref s (client_of k t) c q))
own pref _ s x y c v (may_deliver {l = l} {i = j} h) i ex ey e = rw (eq-eqb l.0 l.0 refl, ex, ey) (delivered_now pref s i j h c v e)
own pref _ s x y c v (may_lose {l = l} {i = j} h f) i ex ey e = rw (eq-eqb l.0 l.0 refl, ex, ey) (lost_now pref s i j h f c v e)
own pref _ s x y c v (may_give_up {l = l} {k = k} {t = t} kb tb n wa) i ex ey e = go (ℕ_discrete c.0 (client_of k t).0)
  where
    go : Dec (c.0 ≡ (client_of k t).0) → as_seen (sees l c (GiveUpCall l k t) x y v) ≡ client_in (lock_in y l) c.0
    go (yes q) =
        rw (ap client_of_lem q, eq-eqb l.0 l.0 refl, eq-eqb (client_of k t).0 (client_of k t).0 refl, ey)
        (sym (given_up_now pref s i (client_of k t) (omega arith) n wa))
    go (no q) = rw (eq-eqb l.0 l.0 refl, ne_eqb c.0 (client_of k t).0 q, ey) (e ∙ sym (given_up_other pref s (client_of k t) c q))

-- ---- any call, any lock
elsewhere : (a : Call) (l : LockId) (x y : Cluster) (c : ClientId) (v : View) → (l.0 ≡ (lock_of a).0 → ⊥) → sees l c a x y v ≡ v
unfolding sees
elsewhere (AcquireCall k m t n) l x y c v q = rw (ne_eqb l.0 k.0 q)
elsewhere (ReleaseCall k m t) l x y c v q = rw (ne_eqb l.0 k.0 q)
elsewhere (DeliverCall k i) l x y c v q = rw (ne_eqb l.0 k.0 q)
elsewhere (LoseCall k i) l x y c v q = rw (ne_eqb l.0 k.0 q)
elsewhere (GiveUpCall k m t) l x y c v q = rw (ne_eqb l.0 k.0 q)

abbrev pub lock_of_lem : ℕ → LockId
lock_of_lem n = record { 0 = n }

-- the view after one call, accepted or not
abbrev next_view : LockId → ClientId → Call → Cluster → View → View
next_view l c a x v = pick (is_accepted (perform a x).answer) (sees l c a x (perform a x).cluster v) v

pub agrees_call : (a : Call) (l : LockId) (c : ClientId) (x : Cluster) (v : View) → Reached x → as_seen v ≡ client_in (lock_in x l) c.0
    → as_seen (next_view l c a x v) ≡ client_in (lock_in (perform a x).cluster l) c.0
agrees_call a l c x v h e = go (answered a x h) (ℕ_discrete l.0 (lock_of a).0)
  where
    go : Answered a x → Dec (l.0 ≡ (lock_of a).0) → as_seen (next_view l c a x v) ≡ client_in (lock_in (perform a x).cluster l) c.0
    go (denied_by r n p) d = rw p e
    go (accepted_by al p q) (no n) = rw (p, elsewhere a l x (perform a x).cluster c v n, perform_elsewhere a x l n) e
    go (accepted_by al p q) (yes d) =
        rw (p, ap lock_of_lem d)
        (own x.preference a (lock_in x (lock_of a)) x (perform a x).cluster c v al (h.invs (lock_of a)) refl q
        (e ∙ ap (λ (z : ℕ). client_in (lock_in x (lock_of_lem z)) c.0) d))

pub agrees : (cs : List Call) (l : LockId) (c : ClientId) (x : Cluster) (v : View) → Reached x → as_seen v ≡ client_in (lock_in x l) c.0
    → as_seen (watch l c cs x v) ≡ client_in (lock_in (run cs x) l) c.0
unfolding watch run
agrees [] l c x v h e = e
agrees (a ∷ cs) l c x v h e = agrees cs l c (perform a x).cluster (next_view l c a x v) (reached_next a x h) (agrees_call a l c x v h e)
