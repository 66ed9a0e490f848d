-- How often a packet has circled (request 7 of document 02): after every list of calls the counts on a wire are the numbers of its history, as far as 255.
use Rattle.std.specs.Prelude.{◌≡◌, ◌&&◌, ◌∷◌, ◌++◌}
use Rattle.laws.specs.Formed.{parts, packet_at_lem}
use Rattle.laws.specs.Clusters.{each_lock_formed}
use Rattle.laws.specs.CallSteps.{step_of, Allowed, may_acquire, may_release, may_deliver, may_lose, may_give_up, perform_elsewhere}
use Rattle.model.specs.Trace.{same_lock}
use Rattle.std.specs.Prelude.{drop}
use mathlib.Core.List.{append-nil}
use Rattle.std.proofs.Math.Seq.{drop-append_seam}
use Rattle.theorems.specs.Names.{LockId, MachineId, ClientId, Mode, Owner, Unowned, Owned, Waiter, Agent, AgentSlot, Address, ToDecider, ToMachine}
use Rattle.theorems.specs.Names.{Message, Free, Acquire, Grant, Release, Packet, LockState, Cluster, Call, refl, sym, ap, ◌∙◌, Bool, true, false}
use Rattle.theorems.specs.Names.{Verdict, finish, carrying, leaves, and-false, false≢true, List, [], map, ℕ, zero, suc, arith, min}
use Rattle.theorems.specs.Names.{ℕ_discrete, length, get_or, eqb, eqb-true, eqb-false, eq-eqb, ne_eqb, pick, removed, client_of, machine_of, mode_of}
use Rattle.theorems.specs.Names.{is_shared, waiters, resent, blank_packet, wire_of, packets, packets_of, fresh_lock, lock_in, lock_formed, Idle, Site}
use Rattle.theorems.specs.Names.{with_status, any_holder, without, lists, may_join, no_room, client_asks, client_acquires, hand_over, stays_if, client_releases}
use Rattle.theorems.specs.Names.{may_share, current, to_owner, decides_acquire, decides_free, decides_grant, decides, at_decider, sent_back, grant_of, admitted}
use Rattle.theorems.specs.Names.{installs, grant_arrives, rejected_grant_arrives, marked, unmarked, acquire_arrives, release_arrives, free_arrives, arrives}
use Rattle.theorems.specs.Names.{at_machine, packet_at, delivers, acquire_step, release_step, takes, deliver_step, perform, lock_of, run, fresh, is_accepted}
use Rattle.theorems.specs.Names.{in_parts, circled_formed, message_numbers, same_numbers, same_message, number_of, sent_behind, own_numbers, numbers_after}
use Rattle.theorems.specs.Names.{numbers_of, decides_release, queues, give_up_step, client_gives_up, lose_step, drops, grant_is_lost}
use Rattle.theorems.specs.Tally.{tally}
use Rattle.theorems.specs.Weights.{one, one_w}
use Rattle.theorems.specs.Invariant.{Inv}
use Rattle.theorems.specs.InvariantStep.{Split, split_at}
use Rattle.theorems.specs.Facts.{flag_none, one_self}
use Rattle.theorems.specs.Sent.{Good}
use Rattle.theorems.specs.Clients.{names_none, good_client_acquires, good_client_releases, good_client_gives_up}
use Rattle.theorems.specs.Install.{single}
use Rattle.theorems.specs.Steps.{verdict, good_deliver, good_lose, Says, says_by, after_step}
use Rattle.theorems.specs.Runs.{Reached, lock_fresh, reached_fresh, reached_next, Answered, answered, denied_by, accepted_by}
use Rattle.theorems.specs.Traced.{lock_of_lem}
use Rattle.theorems.specs.Statements.{HowOften}

-- ---- packets and the numbers beside them
data Beside : List Packet → List ℕ → Type 0 where
  none : Beside [] []
  more : {p : Packet} {n : ℕ} {ps : List Packet} {ns : List ℕ} → p.circled ≡ min 255 n → Beside ps ns → Beside (p ∷ ps) (n ∷ ns)

beside_length : {ps : List Packet} {ns : List ℕ} → Beside ps ns → length ns ≡ length ps
beside_length none = refl
beside_length (more e b) = ap suc (beside_length b)

beside_at : {ps : List Packet} {ns : List ℕ} → Beside ps ns → (i : ℕ) → (get_or ps i blank_packet).circled ≡ min 255 (get_or ns i 0)
unfolding blank_packet
beside_at none i = refl
beside_at (more e b) zero = e
beside_at (more e b) (suc i) = beside_at b i

beside_removed : {ps : List Packet} {ns : List ℕ} → Beside ps ns → (i : ℕ) → Beside (removed ps i) (removed ns i)
unfolding removed
beside_removed none i = none
beside_removed (more e b) zero = b
beside_removed (more e b) (suc i) = more e (beside_removed b i)

beside_append : {ps qs : List Packet} {ns ms : List ℕ} → Beside ps ns → Beside qs ms → Beside (ps ++ qs) (ns ++ ms)
beside_append none c = c
beside_append (more e b) c = more e (beside_append b c)

-- ---- the same message
same_numbers_lem : (ns : List ℕ) → same_numbers ns ns ≡ true
unfolding same_numbers
same_numbers_lem [] = refl
same_numbers_lem (n ∷ ns) = rw (eq-eqb n n refl) (same_numbers_lem ns)

same_message_lem : (m : Message) → same_message m m ≡ true
same_message_lem m = same_numbers_lem (message_numbers m)

-- ---- what a step sends, where f gives the number of each packet sent
abbrev Counted : (Packet → ℕ) → Site → List Packet → Type 0
Counted f w qs = Beside qs (map f qs)

sends : (f : Packet → ℕ) (q : Packet) {qs : List Packet} → q.circled ≡ min 255 (f q) → Beside qs (map f qs) → Beside (q ∷ qs) (map f (q ∷ qs))
sends f q e b = more e b

-- an agent that goes sends a new packet
leaves_new : (f : Packet → ℕ) → ((a : Agent) → f (carrying Free ToDecider a) ≡ 0)
    → ((d : ClientId) (m : Mode) (a : Agent) → f (carrying (Grant d m) ToDecider a) ≡ 0)
    → (v : Site) (a : Agent) (c : ClientId) → Says (Counted f) (leaves v a c)
unfolding stays_if hand_over
leaves_new f free grant v a c = go (any_holder (without a c))
  where
    handed : (hs : List Bool) (ws : List Waiter) → Beside (hand_over a hs ws ∷ []) (f (hand_over a hs ws) ∷ [])
    handed hs [] = sends f _ (rw (free _)) none
    handed hs (w ∷ ws) = sends f _ (rw (grant _ _ _)) none

    go : (y : Bool) → Says (Counted f) (stays_if y v a (without a c))
    go true = none
    go false = handed (without a c) (waiters a.queue)

-- ---- a delivery of p, whose number is n
abbrev Right : Packet → ℕ → Site → List Packet → Type 0
Right p n = Counted (number_of p n)

module _ (v : Site) (p : Packet) (n : ℕ) (e : p.circled ≡ min 255 n) where
  -- at the decider
  module _ (b x : Bool) where
    abbrev came : Message → Packet
    came m = in_parts m ToDecider b x p

    when_sent_on : (m : Message) (k : MachineId) (d : Bool)
        → Beside (resent (came m) (ToMachine k) d ∷ []) (number_of (came m) n (resent (came m) (ToMachine k) d) ∷ [])
    when_sent_on m k d = sends (number_of (came m) n) _ (rw (same_message_lem m) e) none

    decider_counts : (m : Message) (o : Owner) → circled_formed m p.circled ≡ true → Says (Right (came m) n) (decides m o v (came m))
    unfolding decides decides_acquire decides_release decides_free decides_grant to_owner same_numbers
    decider_counts (Acquire c m false) Unowned f = more refl none
    decider_counts (Acquire c m true) Unowned f = tt
    decider_counts (Acquire c m false) (Owned o k) f =
        says_by _ (may_share v m) _ _ (more refl (sends (number_of (came (Acquire c m false)) n) _ (rw (and-false, and-false)) none))
        (when_sent_on (Acquire c m false) k b)
    decider_counts (Acquire c m true) (Owned o k) f = when_sent_on (Acquire c m true) k b
    decider_counts (Release c) Unowned f = sends (number_of (came (Release c)) n) _ (rw (same_message_lem (Release c)) e) none
    decider_counts (Release c) (Owned o k) f = when_sent_on (Release c) k b
    decider_counts Free Unowned f = tt
    decider_counts Free (Owned o k) f = says_by _ (current v.decider (came Free)) _ _ none (when_sent_on Free k true)
    decider_counts (Grant c m) o f = go x o
      where
        go : (y : Bool) (o : Owner) → Says (Right (came (Grant c m)) n) (decides_grant y o v (came (Grant c m)) c m)
        go false o = when_sent_on (Grant c m) (machine_of c) b
        go true Unowned = tt
        go true (Owned o k) =
            says_by _ (current v.decider (came (Grant c m))) _ _
            (sends (number_of (came (Grant c m)) n) _ (rw (same_message_lem (Grant c m)) (sym (eqb-true _ 0 f) ∙ e)) none) (when_sent_on (Grant c m) k true)

  -- at a machine
  module _ (k : MachineId) (b x : Bool) where
    abbrev arrived : Message → Packet
    arrived m = in_parts m (ToMachine k) b x p

    sent_back_lem : (m : Message) → Beside (sent_back (arrived m) ∷ []) (number_of (arrived m) n (sent_back (arrived m)) ∷ [])
    sent_back_lem m = sends (number_of (arrived m) n) _ (rw (same_message_lem m, e) (omega arith)) none

    acquire_counts : (y : Bool) (h : Agent) (c : ClientId) (m : Mode) (g : Bool)
        → Says (Right (arrived (Acquire c m g)) n) (acquire_arrives y v h (arrived (Acquire c m g)) c m g)
    unfolding acquire_arrives marked unmarked same_numbers
    acquire_counts false h c m g = sent_back_lem (Acquire c m g)
    acquire_counts true h c m true = says_by _ (is_shared h.mode) _ _ none tt
    acquire_counts true h c m false = says_by _ (may_join v m) _ _ (more refl none) (says_by _ (no_room h c) _ _ tt none)

    release_counts : (c : ClientId) → Says (Right (arrived (Release c)) n) (release_arrives v (arrived (Release c)) c)
    unfolding release_arrives same_numbers
    release_counts c =
        says_by _ (lists v.slot c) _ _ (leaves_new (number_of (arrived (Release c)) n) (λ a. refl) (λ d m a. refl) v v.slot.agent c)
        (says_by _ (queues v.slot c) _ _ none (sent_back_lem (Release c)))

    free_counts : (y : Bool) (s : AgentSlot) → Says (Right (arrived Free) n) (free_arrives y v s)
    unfolding free_arrives
    free_counts true s = tt
    free_counts false s = none

    rejected_counts : (y : Bool) (a : Agent) (c : ClientId) (m : Mode) → Says (Right (arrived (Grant c m)) n) (rejected_grant_arrives y v a c m)
    unfolding rejected_grant_arrives
    rejected_counts true a c m = tt
    rejected_counts false a c m = says_by _ (no_room a c) _ _ tt none

    -- the GRANTs of an agent that was installed are for other clients than the one whose GRANT brought it
    grants_new : (c : ClientId) (m : Mode) (ws : List Waiter) → tally (one_w c.0) ws ≡ 0
        → Beside (map grant_of ws) (map (number_of (arrived (Grant c m)) n) (map grant_of ws))
    unfolding tally one same_numbers
    grants_new c m [] z = none
    grants_new c m (w ∷ ws) z =
        let d : eqb w.client.0 c.0 ≡ false = flag_none _ (omega (arith, z)) in
        let r : eqb c.0 w.client.0 ≡ false = ne_eqb c.0 w.client.0 (λ q. eqb-false w.client.0 c.0 d (sym q)) in
        sends (number_of (arrived (Grant c m)) n) _ (rw r) (grants_new c m ws (omega (arith, z)))

    grant_counts : (y d : Bool) (a : Agent) (c : ClientId) (m : Mode) → (d ≡ true → tally (one_w c.0) (admitted m (waiters a.queue)) ≡ 0)
        → Says (Right (arrived (Grant c m)) n) (grant_arrives y d v a c m)
    unfolding grant_arrives installs
    grant_counts y false a c m z = none
    grant_counts true true a c m z = tt
    grant_counts false true a c m z = grants_new c m (admitted m (waiters a.queue)) (z refl)

  -- by the address and the message; the Bools: rejected, an agent is carried
  module _ (r : LockState) (rest : List Packet) (i : Inv r) where
    others : (c : ClientId) (m : Mode) (k : MachineId) (b x : Bool) → Split r (in_parts (Grant c m) (ToMachine k) b x p ∷ []) rest → x ≡ true
        → tally (one_w c.0) (admitted m (waiters p.carried.agent.queue)) ≡ 0
    others c m k b true sp q = omega (arith, single p i sp c.0, one_self c)
    others c m k b false sp q = absurd (false≢true q)

    delivers_counts : (t : Address) (m : Message) (b x : Bool) → circled_formed m p.circled ≡ true → Split r (in_parts m t b x p ∷ []) rest
        → Says (Right (in_parts m t b x p) n) (delivers t v (in_parts m t b x p))
    unfolding delivers at_decider at_machine arrives
    delivers_counts ToDecider m b x f sp = decider_counts b x m v.decider.owner f
    delivers_counts (ToMachine k) (Acquire c m g) b x f sp = acquire_counts k b x v.slot.present v.slot.agent c m g
    delivers_counts (ToMachine k) (Release c) b x f sp = release_counts k b x c
    delivers_counts (ToMachine k) Free b x f sp = free_counts k b x v.slot.present _
    delivers_counts (ToMachine k) (Grant c m) false x f sp = grant_counts k false x v.slot.present x p.carried.agent c m (others c m k false x sp)
    delivers_counts (ToMachine k) (Grant c m) true x f sp = rejected_counts k true x v.slot.present p.carried.agent c m

-- ---- the wire after a step: what stayed, and behind it what was sent
then_beside : (rest qs : List Packet) (f : Packet → ℕ) {ns : List ℕ} → Beside rest ns → Beside qs (map f qs)
    → Beside (packets (wire_of (rest ++ qs))) (ns ++ map f (drop (length rest) (packets (wire_of (rest ++ qs)))))
then_beside rest qs f b c = rw (packets_of (rest ++ qs), drop-append_seam rest qs) (beside_append b c)

-- ---- a client's own call sends packets that have not circled
abbrev new : Packet → ℕ
new q = 0

acquire_new : (v : Site) (c : ClientId) (m : Mode) → Says (Counted new) (client_acquires v c m)
unfolding client_acquires client_asks
acquire_new v c m = go v.slot.present v.slot.agent
  where
    go : (y : Bool) (a : Agent) → Says (Counted new) (client_asks v c m y a)
    go true a = says_by _ (may_join v m) _ _ none (says_by _ (no_room a c) _ _ tt none)
    go false a = more refl none

release_new : (v : Site) (c : ClientId) → Says (Counted new) (client_releases v c)
unfolding client_releases
release_new v c =
    says_by _ (lists v.slot c) _ _ (leaves_new new (λ a. refl) (λ d m a. refl) (with_status v Idle) v.slot.agent c) (more refl none)

module _ (s : LockState) (ns : List ℕ) (b : Beside (packets s.wire) ns) where
  own_counts : (c : ClientId) (w : Verdict) → Good s (machine_of c) c (packets s.wire) w → Says (Counted new) w
      → let t = (finish (machine_of c) c w (packets s.wire) s).state in Beside (packets t.wire) (own_numbers s t ns)
  own_counts c w g z =
      after_step (machine_of c) c (Counted new) (λ t. Beside (packets t.wire) (own_numbers s t ns)) w _ s g z
      (λ v qs y. then_beside (packets s.wire) qs new b y)

  step_counts : (pref : ℕ) (a : Call) → Allowed a s → lock_formed pref s ≡ true → Inv s
      → Beside (packets (step_of pref a s).state.wire) (numbers_after a s (step_of pref a s).state ns)
  unfolding numbers_after acquire_step release_step deliver_step takes give_up_step client_gives_up lose_step drops grant_is_lost
  step_counts pref _ (may_acquire {k = k} {t = t} {m = m} kb tb n id un) f i =
      let c : ClientId = client_of k t in
      own_counts c _ (good_client_acquires pref s i c (omega arith) id (names_none c (packets s.wire) un) (mode_of m)) (acquire_new _ c (mode_of m))
  step_counts pref _ (may_release {k = k} {t = t} kb tb n h) f i =
      let c : ClientId = client_of k t in
      own_counts c _ (good_client_releases pref s i c (omega arith) n h) (release_new _ c)
  step_counts pref _ (may_give_up {k = k} {t = t} kb tb n h) f i =
      let c : ClientId = client_of k t in
      own_counts c _ (good_client_gives_up pref s i c (omega arith) n h) (more refl none)
  step_counts pref _ (may_lose {i = j} h l) f i =
      let rest : List Packet = removed (packets s.wire) j in
      after_step _ _ (λ v qs. qs ≡ []) (λ t. Beside (packets t.wire) (removed ns j)) _ rest s (good_lose pref s i j h l) refl
      (λ v qs y. rw (y, append-nil, packets_of) (beside_removed b j))
  step_counts pref _ (may_deliver {i = j} h) f i =
      let p : Packet = packet_at s j in
      let rest : List Packet = removed (packets s.wire) j in
      let m : ℕ = get_or ns j 0 in
      after_step _ _ (Right p m) (λ t. Beside (packets t.wire) (removed ns j ++ map (number_of p m) (sent_behind (length rest) t))) (verdict pref s p) rest s
      (good_deliver pref s i j h)
      (delivers_counts _ p m (beside_at b j) s rest i p.to p.message p.rejected p.carried.present (packet_at_lem (parts s f) j h).circled
      (split_at s j p h refl))
      (λ v qs y. then_beside rest qs _ (beside_removed b j) y)

-- ---- any call, any lock, any list
abbrev next_numbers : LockId → Call → Cluster → List ℕ → List ℕ
next_numbers l a x ns =
    pick (is_accepted (perform a x).answer && same_lock l (lock_of a)) (numbers_after a (lock_in x l) (lock_in (perform a x).cluster l) ns) ns

call_counts : (a : Call) (l : LockId) (x : Cluster) (ns : List ℕ) → Reached x → Beside (packets (lock_in x l).wire) ns
    → Beside (packets (lock_in (perform a x).cluster l).wire) (next_numbers l a x ns)
call_counts a l x ns h b = go (answered a x h) (ℕ_discrete l.0 (lock_of a).0)
  where
    go : Answered a x → Dec (l.0 ≡ (lock_of a).0) → Beside (packets (lock_in (perform a x).cluster l).wire) (next_numbers l a x ns)
    go (denied_by r n p) d = rw p b
    go (accepted_by al p q) (no n) = rw (p, ne_eqb l.0 (lock_of a).0 n, perform_elsewhere a x l n) b
    go (accepted_by al p q) (yes d) =
        rw (p, ap lock_of_lem d, eq-eqb (lock_of a).0 (lock_of a).0 refl, q)
        (step_counts (lock_in x (lock_of a)) ns (rw (ap lock_of_lem d) at b) x.preference a al (each_lock_formed x (lock_of a) h.formed)
        (h.invs (lock_of a)))

run_counts : (cs : List Call) (l : LockId) (x : Cluster) (ns : List ℕ) → Reached x → Beside (packets (lock_in x l).wire) ns
    → Beside (packets (lock_in (run cs x) l).wire) (numbers_of l cs x ns)
unfolding run numbers_of
run_counts [] l x ns h b = b
run_counts (a ∷ cs) l x ns h b = run_counts cs l (perform a x).cluster (next_numbers l a x ns) (reached_next a x h) (call_counts a l x ns h b)

nothing_sent : Beside (packets fresh_lock.wire) []
unfolding fresh_lock wire_of packets
nothing_sent = none

pub how_often : (n : ℕ) (cs : List Call) → HowOften n cs
how_often n cs l =
    let b = run_counts cs l (fresh n).cluster [] (reached_fresh n) (rw (lock_fresh n l) nothing_sent) in
    record { beside = beside_length b; counts = beside_at b }
