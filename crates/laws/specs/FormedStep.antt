-- Every step keeps a lock's state well formed: one law for every change, then each rule gives a sound change.
use Rattle.std.specs.Prelude.{◌≡◌, Bool, ◌&&◌, ◌||◌, not, List, [], ◌∷◌, ◌++◌, map, ℕ, ◌+◌, ◌<◌, ◌≤◌, set, leb}
use Rattle.std.proofs.Math.Path.{refl}
use Rattle.std.proofs.Common.{◌∙◌, arith}
use Rattle.std.proofs.Math.Bool.{true, false}
use Rattle.std.proofs.Math.ListN.{length, length-append, length-set}
use borrow.Author.Tests.{eq-eqb, lt-ltb, leb-true, leb-false}
use Rattle.model.specs.Lists.{pick, any, all, removed}
use Rattle.laws.specs.Names.{MachineId, ClientId, Mode, Shared, Owner, Unowned, Owned, Waiter, Agent, AgentSlot, Address, ToDecider, ToMachine, Message}
use Rattle.laws.specs.Names.{Free, Acquire, Grant, Release, Packet, Status, Idle, Waiting, ClientState, Site, LockState, Stepped}
use Rattle.model.specs.States.{resent, queue_of, waiters, packets, some_agent, new_agent, machine_of, is_shared, machines, clients, queue_capacity}
use Rattle.model.specs.States.{wire_capacity}
use Rattle.model.specs.States.{prefers_writers, is_waiting}
use Rattle.model.specs.WellFormed.{client_in_range, owner_in_range, address_in_range, is_client, waiter_in_range, slot_formed, message_formed}
use Rattle.model.specs.WellFormed.{packet_formed, lock_formed}
use Rattle.model.specs.WellFormed.{decider_formed, client_formed}
use Rattle.model.specs.Changes.{site_of, with_slot, with_status, Verdict, cannot_place, does, apply, finish}
use Rattle.model.specs.Asking.{changed, queuing, no_room, with_room, may_join, client_asks, client_acquires, any_holder, without, hand_over, stays_if}
use Rattle.model.specs.Asking.{leaves, lists}
use Rattle.model.specs.Asking.{client_releases, writer_in, client_gives_up, grant_is_lost}
use Rattle.model.specs.AtDecider.{to_owner, decides_release, grants_with, may_share, decides_acquire, current, decides_free, decides_grant, decides, at_decider}
use Rattle.model.specs.AtMachine.{sent_back, admitted, grant_of, requeued, installs, grant_arrives, rejected_grant_arrives, marked, unmarked, acquire_arrives}
use Rattle.model.specs.AtMachine.{queues, release_arrives, free_arrives, arrives, at_machine}
use Rattle.model.specs.Calls.{delivers, packet_at, acquire_step, release_step, takes, deliver_step, give_up_step, drops, lose_step}
use Rattle.laws.specs.Tests.{and_left, and_right, both, or_left, or_right, pick_by}
use Rattle.laws.specs.Lists.{all_append, all_removed, all_set, left_out, whole, sublist_all}
use Rattle.laws.specs.Formed.{Fit, fit, new_fit, no_agent_formed, Whole, Parts, parts, agent_on_lem, client_of_lem, packet_at_lem, in_parts}
use Rattle.laws.specs.Making.{machine_in_range_lem, Line, line, line_sublist, line_end, line_front, fit_line, fit_holder, some_agent_formed, packet_formed_lem}
use Rattle.laws.specs.Making.{plain_whole, carrying_whole, resent_whole, back_whole, wire_formed_lem}
use Rattle.laws.specs.Parting.{parting, sublists, length_joined, taken_off_lem}

-- every packet sent is well formed
pub data Sends : List Packet → Type 0 where
  none : Sends []
  more : {p : Packet} {ps : List Packet} → Whole p → Sends ps → Sends (p ∷ ps)

sends_formed : {ps : List Packet} → Sends ps → all packet_formed ps ≡ true
sends_formed none = refl
sends_formed (more {p} w e) = both (packet_formed p) _ (packet_formed_lem w) (sends_formed e)

-- ---- one law for every change
-- the site's client
abbrev pub client_at : Site → ClientState
client_at v = record { status = v.status; lost = v.lost }

unnoted : (st : Status) → client_formed (record { status = st; lost = false }) ≡ true
unfolding client_formed
unnoted st = refl

pub data Sound (n : ℕ) : Verdict → Type 0 where
  refuses : Sound n cannot_place
  keeps : {v : Site} {qs : List Packet} → decider_formed n v.decider ≡ true → client_formed (client_at v) ≡ true
      → slot_formed v.slot ≡ true → Sends qs → Sound n (does v qs)

module _ (n : ℕ) (s : LockState) (k : MachineId) (c : ClientId) where
  pub apply_formed : (v : Site) (qs rest : List Packet) → Parts n s → all packet_formed rest ≡ true → Sound n (does v qs)
      → length rest + length qs ≤ wire_capacity
      → lock_formed n (apply k c v qs rest s) ≡ true
  unfolding lock_formed
  apply_formed v qs rest f g (keeps d y x e) h =
      let all_machines : length (set s.agents k.0 v.slot) ≡ machines = length-set s.agents _ _ ∙ f.all_machines in
      let all_clients : length (set s.clients c.0 (client_at v)) ≡ clients = length-set s.clients _ _ ∙ f.all_clients in
      rw (
        d,
        eq-eqb _ machines all_machines,
        all_set slot_formed s.agents k.0 v.slot f.agents x,
        eq-eqb _ clients all_clients,
        all_set client_formed s.clients c.0 (client_at v) f.clients y,
      )
      (wire_formed_lem (rest ++ qs) (all_append packet_formed rest qs g (sends_formed e)) (omega (arith, length-append rest qs)))

  pub finish_formed : (w : Verdict) (rest : List Packet) → lock_formed n s ≡ true → all packet_formed rest ≡ true → Sound n w
      → lock_formed n (finish k c w rest s).state ≡ true
  unfolding finish
  finish_formed cannot_place rest f g refuses = f
  finish_formed (does v qs) rest f g q =
      pick_by (λ (t : Stepped). lock_formed n t.state ≡ true) (leb (length rest + length qs) wire_capacity)
      (λ e. apply_formed v qs rest (parts s f) g q (leb-true _ wire_capacity e)) (λ e. f)

-- a rule that chooses by a test
choice : {n : ℕ} (b : Bool) {v w : Verdict} → (b ≡ true → Sound n v) → (b ≡ false → Sound n w) → Sound n (pick b v w)
choice {n} = pick_by (Sound n)

grants_sent : (ws : List Waiter) → all waiter_in_range ws ≡ true → Sends (map grant_of ws)
unfolding message_formed
grants_sent [] e = none
grants_sent (w ∷ ws) e =
    more (plain_whole (Grant w.client Shared) ToDecider (rw (and_left (waiter_in_range w) _ e)) refl)
    (grants_sent ws (and_right (waiter_in_range w) _ e))

hand_over_lem : (a : Agent) (hs : List Bool) (ws : List Waiter) → length hs ≡ clients → Line ws → Whole (hand_over a hs ws)
unfolding hand_over message_formed
hand_over_lem a hs [] n l = carrying_whole refl refl (fit_line n l)
hand_over_lem a hs (w ∷ ws) n l = carrying_whole (rw (and_left (waiter_in_range w) _ l.ranged)) refl (fit_line n (line_sublist (left_out (whole ws)) l))

-- the packet may go to any address
abbrev Anywhere : Packet → Type 0
Anywhere p = (t : Address) → address_in_range t ≡ true → Whole (resent p t p.rejected)

free_carries : (b r : Bool) (t : Address) → message_formed Free b r t ≡ true → b ≡ true
unfolding message_formed
free_carries b true t e = and_left b _ e
free_carries b false t e = and_left b _ e

-- What a decider knows of writers stays in order where they are preferred: p. It knows of one if it did, w, or if one is met, e.
in_order : (w p e : Bool) → (not w || p) ≡ true → (not (w || (p && e)) || p) ≡ true
in_order true p e h = h
in_order false true true h = refl
in_order false true false h = refl
in_order false false e h = refl

-- ---- the rules, clause by clause: of a site that is well formed
pub record Set (v : Site) : Type 0 where
  pub decider : decider_formed v.preference v.decider ≡ true
  pub note : client_formed (client_at v) ≡ true
  pub slot : slot_formed v.slot ≡ true

site_set : {n : ℕ} {s : LockState} → Parts n s → (k : MachineId) (c : ClientId) → Set (site_of n s k c)
site_set f k c = record { decider = f.decider; note = client_of_lem f c.0; slot = agent_on_lem f k }

module _ (v : Site) (f : Set v) where
  abbrev Safe : Verdict → Type 0
  Safe = Sound v.preference

  owner : owner_in_range v.decider.owner ≡ true
  owner = and_left (owner_in_range v.decider.owner) _ f.decider

  writer : (not v.decider.writer || prefers_writers v.preference) ≡ true
  writer = and_right (owner_in_range v.decider.owner) _ f.decider

  -- nothing but packets and a status
  sound_sends : {qs : List Packet} → Sends qs → Safe (does v qs)
  sound_sends e = keeps f.decider f.note f.slot e

  module _ (a : Agent) (q : Fit a) (c : ClientId) (m : Mode) (h : client_in_range c ≡ true) where
    -- the queue becomes ws, where there is room for the client
    sound_queue : (ws : List Waiter) → (any (is_client c) (waiters a.queue) ≡ false → length (waiters a.queue) < queue_capacity → Line ws)
        → Safe (with_room a c (does (with_slot v (some_agent (changed a a.holders (queue_of ws) a.incarnation))) []))
    sound_queue ws g =
        let old = any (is_client c) (waiters a.queue) in
        choice (no_room a c) (λ e. refuses)
        (λ e. keeps f.decider f.note
        (some_agent_formed (fit_line q.all_clients (g (or_left old _ e) (leb-false queue_capacity _ (or_right old _ e))))) none)

    sound_queuing : Safe (with_room a c (does (with_slot v (some_agent (queuing a c m))) []))
    sound_queuing = sound_queue _ (line_end (line a.queue q.queue) (record { client = c; mode = m }) h)

    sound_requeued : Safe (with_room a c (does (with_slot v (some_agent (requeued a c m))) []))
    sound_requeued = sound_queue _ (line_front (line a.queue q.queue) (record { client = c; mode = m }) h)

    sound_installs : Safe (installs v c m a)
    unfolding installs
    sound_installs =
        let l = line a.queue q.queue in
        let ws = waiters a.queue in
        let parted = sublists (parting m ws) in
        let n = length_joined _ (admitted m ws) ∙ (length-set a.holders c.0 true ∙ q.all_clients) in
        keeps f.decider (unnoted _) (some_agent_formed (fit_line n (line_sublist parted.1 l)))
        (grants_sent (admitted m ws) (sublist_all waiter_in_range parted.0 l.ranged))

  sound_leaves : (a : Agent) (c : ClientId) → Fit a → Safe (leaves v a c)
  unfolding stays_if
  sound_leaves a c q = go (any_holder (without a c))
    where
      go : (b : Bool) → Safe (stays_if b v a (without a c))
      go true = keeps f.decider f.note (some_agent_formed (fit_holder q c.0 false a.incarnation)) none
      go false =
          keeps f.decider f.note no_agent_formed
          (more (hand_over_lem a _ _ (fit_holder q c.0 false 0).all_clients (line a.queue q.queue)) none)

  -- at the decider: sent on, or granted with an agent
  sound_to_owner : (o : Owner) (p : Packet) → Anywhere p → owner_in_range o ≡ true → Safe (to_owner o v p)
  unfolding to_owner
  sound_to_owner Unowned p w h = refuses
  sound_to_owner (Owned n k) p w h = sound_sends (more (w (ToMachine k) h) none)

  sound_grants : (c : ClientId) (m : Mode) (a : Agent) (b : Bool) → client_in_range c ≡ true → Fit a → (not b || prefers_writers v.preference) ≡ true
      → Safe (grants_with v c m a b)
  unfolding message_formed
  sound_grants c m a b h q w =
      let k = machine_in_range_lem c h in
      keeps (both _ (not b || prefers_writers v.preference) k w) f.note f.slot (more (carrying_whole (both (client_in_range c) true h refl) k q) none)

  sound_decides_acquire : (o : Owner) (p : Packet) (c : ClientId) (m : Mode) (g : Bool) → client_in_range c ≡ true → Anywhere p → owner_in_range o ≡ true
      → Safe (decides_acquire o v p c m g)
  unfolding decides_acquire to_owner message_formed
  sound_decides_acquire Unowned p c m false h w i = sound_grants c m (new_agent m) v.decider.writer h (new_fit m) writer
  sound_decides_acquire (Owned n k) p c m false h w i =
      choice (may_share v m)
      (λ e. let g = both (client_in_range c) true h refl in
      keeps f.decider f.note f.slot (more (plain_whole _ _ g (machine_in_range_lem c h)) (more (plain_whole _ _ g i) none)))
      (λ e. keeps (both _ _ owner (in_order v.decider.writer (prefers_writers v.preference) (not (is_shared m)) writer)) f.note f.slot
      (more (w (ToMachine k) i) none))
  sound_decides_acquire Unowned p c m true h w i = sound_to_owner Unowned p w i
  sound_decides_acquire (Owned n k) p c m true h w i = sound_to_owner (Owned n k) p w i

  sound_decides_release : (o : Owner) (p : Packet) → Anywhere p → owner_in_range o ≡ true → Safe (decides_release o v p)
  unfolding decides_release
  sound_decides_release Unowned p w h = sound_sends (more (w ToDecider refl) none)
  sound_decides_release (Owned n k) p w h = sound_sends (more (w (ToMachine k) h) none)

  -- at a machine: sent back, or taken
  sound_grant_arrives : (here b : Bool) (a : Agent) (c : ClientId) (m : Mode) → Fit a → client_in_range c ≡ true → Safe (grant_arrives here b v a c m)
  unfolding grant_arrives
  sound_grant_arrives here false a c m q h = keeps f.decider (unnoted _) f.slot none
  sound_grant_arrives true true a c m q h = refuses
  sound_grant_arrives false true a c m q h = sound_installs a q c m h

  sound_rejected_arrives : (here : Bool) (a : Agent) (c : ClientId) (m : Mode) → Fit a → client_in_range c ≡ true → Safe (rejected_grant_arrives here v a c m)
  unfolding rejected_grant_arrives
  sound_rejected_arrives true a c m q h = refuses
  sound_rejected_arrives false a c m q h = sound_requeued a q c m h

  sound_acquire_arrives : (here : Bool) (a : Agent) (p : Packet) (c : ClientId) (m : Mode) (g : Bool) → Fit a → client_in_range c ≡ true → Whole (sent_back p)
      → Safe (acquire_arrives here v a p c m g)
  unfolding acquire_arrives marked unmarked message_formed
  sound_acquire_arrives false a p c m g q h w = sound_sends (more w none)
  sound_acquire_arrives true a p c m true q h w =
      choice (is_shared a.mode) (λ e. keeps f.decider f.note (some_agent_formed (fit_holder q c.0 true _)) none) (λ e. refuses)
  sound_acquire_arrives true a p c m false q h w =
      choice (may_join v m)
      (λ e. keeps f.decider f.note (some_agent_formed (fit_holder q c.0 true _)) (more (plain_whole (Grant c m) ToDecider (rw h) refl) none))
      (λ e. sound_queuing a q c m h)

  sound_release_arrives : (p : Packet) (c : ClientId) → Whole (sent_back p) → Safe (release_arrives v p c)
  unfolding release_arrives
  sound_release_arrives p c w =
      let q = fit _ f.slot in
      choice (lists v.slot c) (λ e. sound_leaves v.slot.agent c q)
      (λ e. choice (queues v.slot c)
      (λ e. keeps f.decider f.note (some_agent_formed (fit_line q.all_clients (line_sublist (taken_off_lem c _) (line _ q.queue)))) none)
      (λ e. sound_sends (more w none)))

  sound_free_arrives : (here : Bool) (x : AgentSlot) → slot_formed x ≡ true → Safe (free_arrives here v x)
  unfolding free_arrives
  sound_free_arrives true x h = refuses
  sound_free_arrives false x h = keeps f.decider f.note h none

  -- by the message, of the packet p; the Bool: it carries an agent
  module _ (p : Packet) where
    abbrev came : Message → Bool → Packet
    came m b = in_parts m p.to p.rejected b p

    sound_decides_grant : (b : Bool) (c : ClientId) (m : Mode) (o : Owner) → Whole (came (Grant c m) b) → owner_in_range o ≡ true
        → Safe (decides_grant b o v (came (Grant c m) b) c m)
    unfolding decides_grant message_formed
    sound_decides_grant false c m o w h = sound_sends (more (resent_whole w w.message (machine_in_range_lem c (and_left (client_in_range c) _ w.message))) none)
    sound_decides_grant true c m Unowned w h = refuses
    sound_decides_grant true c m (Owned n k) w h =
        let i = and_left (client_in_range c) _ w.message in
        let q = fit _ w.carried in
        choice (current v.decider (came (Grant c m) true)) (λ y. sound_grants c m _ _ i (record { all_clients = q.all_clients; queue = q.queue })
        (in_order false (prefers_writers v.preference) (writer_in p.carried.agent) refl))
        (λ y. sound_sends (more (resent_whole w (rw i) h) none))

    sound_decides_free : (b : Bool) (o : Owner) → Whole (came Free b) → owner_in_range o ≡ true → Safe (decides_free o v (came Free b))
    unfolding decides_free message_formed
    sound_decides_free b Unowned w h = refuses
    sound_decides_free b (Owned n k) w h =
        choice (current v.decider (came Free b)) (λ y. keeps refl f.note f.slot none)
        (λ y. sound_sends (more (resent_whole w (rw (free_carries b p.rejected p.to w.message)) h) none))

    sound_decides : (m : Message) (b : Bool) (o : Owner) → Whole (came m b) → owner_in_range o ≡ true → Safe (decides m o v (came m b))
    unfolding decides message_formed
    sound_decides (Acquire c m g) b o w h = sound_decides_acquire o _ c m g (and_left (client_in_range c) _ w.message) (λ t i. resent_whole w w.message i) h
    sound_decides (Grant c m) b o w h = sound_decides_grant b c m o w h
    sound_decides (Release c) b o w h = sound_decides_release o _ (λ t i. resent_whole w w.message i) h
    sound_decides Free b o w h = sound_decides_free b o w h

    sound_arrives : (m : Message) (b : Bool) → Whole (came m b) → Safe (arrives m v (came m b))
    unfolding arrives message_formed
    sound_arrives (Acquire c m g) b w =
        sound_acquire_arrives _ _ _ c m g (fit _ f.slot) (and_left (client_in_range c) _ w.message) (back_whole w w.message refl)
    sound_arrives (Grant c m) b w =
        let q = fit _ w.carried in
        let h = and_left (client_in_range c) _ w.message in
        choice p.rejected (λ e. sound_rejected_arrives _ _ c m q h) (λ e. sound_grant_arrives _ b _ c m q h)
    sound_arrives (Release c) b w = sound_release_arrives _ c (back_whole w w.message refl)
    sound_arrives Free b w = sound_free_arrives v.slot.present _ w.carried

    sound_delivers : Whole p → Safe (delivers p.to v p)
    unfolding delivers at_decider at_machine
    sound_delivers w = go p.to
      where
        go : (t : Address) → Safe (delivers t v p)
        go ToDecider = sound_decides p.message p.carried.present v.decider.owner w owner
        go (ToMachine k) = sound_arrives p.message p.carried.present w

-- asking and handing back
sound_client_asks : (v : Site) (f : Set v) (c : ClientId) (m : Mode) (b : Bool) (a : Agent) → client_in_range c ≡ true → Fit a
    → Sound v.preference (client_asks v c m b a)
unfolding client_asks message_formed
sound_client_asks v f c m true a h q =
    choice (may_join v m) (λ e. keeps f.decider (unnoted _) (some_agent_formed (fit_holder q c.0 true a.incarnation)) none)
    (λ e. sound_queuing (with_status v (Waiting m)) (record { decider = f.decider; note = unnoted _; slot = f.slot }) a q c m h)
sound_client_asks v f c m false a h q = keeps f.decider (unnoted _) f.slot (more (plain_whole (Acquire c m false) ToDecider (rw h) refl) none)

sound_client_releases : (v : Site) (f : Set v) (c : ClientId) → client_in_range c ≡ true → Sound v.preference (client_releases v c)
unfolding client_releases message_formed
sound_client_releases v f c h =
    choice (lists v.slot c) (λ e. sound_leaves (with_status v Idle) (record { decider = f.decider; note = unnoted _; slot = f.slot }) _ c (fit _ f.slot))
    (λ e. keeps f.decider (unnoted _) f.slot (more (plain_whole (Release c) ToDecider (rw h) refl) none))

sound_gives_up : (v : Site) (f : Set v) (c : ClientId) → client_in_range c ≡ true → Sound v.preference (client_gives_up v c)
unfolding client_gives_up message_formed
sound_gives_up v f c h = keeps f.decider (unnoted _) f.slot (more (plain_whole (Release c) ToDecider (rw h) refl) none)

sound_loses : (v : Site) (f : Set v) → Sound v.preference (grant_is_lost v)
unfolding grant_is_lost client_formed
sound_loses v f = keeps f.decider (noted (is_waiting v.status)) f.slot none
  where
    noted : (b : Bool) → (not b || b) ≡ true
    noted true = refl
    noted false = refl

-- ---- the steps
pub acquire_formed : (n : ℕ) (s : LockState) (c : ClientId) (m : Mode) → c.0 < clients → lock_formed n s ≡ true
    → lock_formed n (acquire_step n s c m).state ≡ true
unfolding acquire_step client_acquires
acquire_formed n s c m h f =
    let p = parts s f in
    let v = site_set p (machine_of c) c in
    finish_formed n s _ _ _ (packets s.wire) f p.packets (sound_client_asks _ v c m _ _ (lt-ltb c.0 clients h) (fit _ v.slot))

pub release_formed : (n : ℕ) (s : LockState) (c : ClientId) → c.0 < clients → lock_formed n s ≡ true → lock_formed n (release_step n s c).state ≡ true
unfolding release_step
release_formed n s c h f =
    let p = parts s f in
    finish_formed n s _ _ _ (packets s.wire) f p.packets (sound_client_releases _ (site_set p (machine_of c) c) c (lt-ltb c.0 clients h))

pub deliver_formed : (n : ℕ) (s : LockState) (i : ℕ) → i < length (packets s.wire) → lock_formed n s ≡ true
    → lock_formed n (deliver_step n s i).state ≡ true
unfolding deliver_step takes
deliver_formed n s i h f =
    let p = parts s f in
    finish_formed n s _ _ _ (removed (packets s.wire) i) f (all_removed packet_formed (packets s.wire) i p.packets)
    (sound_delivers _ (site_set p _ _) (packet_at s i) (packet_at_lem p i h))

pub give_up_formed : (n : ℕ) (s : LockState) (c : ClientId) → c.0 < clients → lock_formed n s ≡ true → lock_formed n (give_up_step n s c).state ≡ true
unfolding give_up_step
give_up_formed n s c h f =
    let p = parts s f in
    finish_formed n s _ _ _ (packets s.wire) f p.packets (sound_gives_up _ (site_set p (machine_of c) c) c (lt-ltb c.0 clients h))

pub lose_formed : (n : ℕ) (s : LockState) (i : ℕ) → lock_formed n s ≡ true → lock_formed n (lose_step n s i).state ≡ true
unfolding lose_step drops
lose_formed n s i f =
    let p = parts s f in
    finish_formed n s _ _ _ (removed (packets s.wire) i) f (all_removed packet_formed (packets s.wire) i p.packets) (sound_loses _ (site_set p _ _))
