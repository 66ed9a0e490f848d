-- No answer goes by the count of an ACQUIRE or a RELEASE, on any cluster. A cluster is held against the one whose requests have not circled: no test and no
-- rule tells them apart, and what they leave differs in such counts alone.
use Rattle.std.specs.Prelude.{◌≡◌, ◌∷◌, ◌++◌, ◌+◌, ◌-◌, take, drop, Option, Ok}
use Rattle.model.specs.Drain.{allowance, next_of, next_call, Next, none, some, drainage, Drainage, ending, after_one, drain_ended, drain_unless, drain}
use Rattle.model.specs.Refusals.{◌when◌, first}
use Rattle.model.specs.WellFormed.{shaped, packet_formed, is_blank_packet, wire_formed, lock_formed, well_formed}
use Rattle.model.specs.Lists.{padded}
use Rattle.model.specs.Changes.{telling, refused}
use Rattle.model.specs.Transcripts.{read_record, Given, goes_on, ends, given, replayed, replay_from, replay_unless, replay_tests, replay}
use Rattle.model.specs.Listing.{row_of, line_of, refused_line, header, lines_from, lines_unless, listing}
use Rattle.model.specs.declared.{Replayed.Replayed, Reading.Reading, Reading.TheVariants.{Record, Bad, End}}
use Rattle.theorems.specs.Names.{LockId, MachineId, TaskId, ClientId, Mode, Owner, Unowned, Owned, AgentSlot, Address, ToDecider, ToMachine, Message, Free}
use Rattle.theorems.specs.Names.{Acquire, Grant, Release, Packet, Wire, Site, LockState, Cluster, Call, AcquireCall, ReleaseCall, DeliverCall, LoseCall}
use Rattle.theorems.specs.Names.{GiveUpCall, Answer, Accepted, Refused, Handling, None, Stepped, Outcome, Drained, Reason, Requested, Granted, Rejected}
use Rattle.theorems.specs.Names.{Queued, Carried, GrantLost, refl, sym, ap, ◌∙◌, Bool, true, false, not, List, [], map, ℕ, zero, suc, length, set, leb}
use Rattle.theorems.specs.Names.{pick, any, is_at, removed, wire_capacity, blank_packet, wire_of, packets, fresh_lock, lock_in, site_of, Verdict}
use Rattle.theorems.specs.Names.{cannot_place, does, apply, finish, shares, may_share, to_owner, decides_release, decides_acquire, decides_free}
use Rattle.theorems.specs.Names.{decides_grant, decides, at_decider, sends_back, acquire_arrives, release_arrives, arrives, at_machine, lists, queues}
use Rattle.theorems.specs.Names.{leaves, names, packet_at, machine_at, client_named, delivers, acquire_step, release_step, takes, deliver_step}
use Rattle.theorems.specs.Names.{give_up_step, drops, lose_step, can_be_lost, settled, unless, acquire, release, deliver, lose, give_up, perform, lock_of}
use Rattle.theorems.specs.Names.{run, answers_of, handlings_of, latest, last_told, requests, grants, grant_rejected, queued_in, is_true, reasons_in}
use Rattle.theorems.specs.Names.{first_true, reason_in, reason_unless, reason, client_of, machine_of, handled_at, noting, with_slot, some_agent, unqueuing}
use Rattle.theorems.specs.Names.{accepted, WireFull, client_acquires, client_releases, client_gives_up, grant_is_lost, agent_on, mode_of, NotQuiescent}
use Rattle.theorems.specs.Names.{Malformed, LockRange, BadRecord, locks, Found, Nowhere, At, IsFirst}
use Rattle.std.proofs.Math.ListN.{length-map, get_or-map}
use mathlib.Core.List.{map-append}
use Rattle.theorems.specs.Mapped.{take_mapped, drop_mapped, set_mapped, removed_mapped, replicate_mapped, any_mapped, all_mapped, at_mapped}
use Rattle.theorems.specs.Mapped.{indices_mapped, made_mapped}
use Rattle.theorems.specs.Statements.{uncircled_count, uncircled, uncircled_wire, uncircled_lock, uncircled_cluster, ButForCounts, NoCountDecides}

-- ---- packets, wires, locks and clusters
count_twice : (m : Message) (n : ℕ) → uncircled_count m (uncircled_count m n) ≡ uncircled_count m n
count_twice (Acquire c m g) n = refl
count_twice (Release c) n = refl
count_twice (Grant c m) n = refl
count_twice Free n = refl

packet_twice : (p : Packet) → uncircled (uncircled p) ≡ uncircled p
packet_twice p = rw (count_twice p.message p.circled)

blank_uncircled : uncircled blank_packet ≡ blank_packet
unfolding blank_packet
blank_uncircled = refl

lock_twice : (s : LockState) → uncircled_lock (uncircled_lock s) ≡ uncircled_lock s
lock_twice s = rw (made_mapped uncircled uncircled packet_twice s.wire.slots)

cluster_twice : (x : Cluster) → uncircled_cluster (uncircled_cluster x) ≡ uncircled_cluster x
cluster_twice x = rw (made_mapped uncircled_lock uncircled_lock lock_twice x.locks)

packets_uncircled : (w : Wire) → packets (uncircled_wire w) ≡ map uncircled (packets w)
unfolding packets
packets_uncircled w = take_mapped uncircled w.len w.slots

wire_uncircled : (ps : List Packet) → uncircled_wire (wire_of ps) ≡ wire_of (map uncircled ps)
unfolding wire_of padded
wire_uncircled ps =
    rw (
      length-map,
      map-append,
      replicate_mapped uncircled (wire_capacity - length ps) blank_packet blank_uncircled,
    )

packet_uncircled : (s : LockState) (i : ℕ) → packet_at (uncircled_lock s) i ≡ uncircled (packet_at s i)
packet_uncircled s i = rw (packets_uncircled s.wire) (rw blank_uncircled at (get_or-map uncircled (packets s.wire) i blank_packet))

fresh_uncircled : uncircled_lock fresh_lock ≡ fresh_lock
unfolding fresh_lock
fresh_uncircled = rw (wire_uncircled [])

lock_uncircled : (x : Cluster) (l : LockId) → lock_in (uncircled_cluster x) l ≡ uncircled_lock (lock_in x l)
lock_uncircled x l = rw fresh_uncircled at (get_or-map uncircled_lock x.locks l.0 fresh_lock)

-- ---- no test of well-formedness looks at such a count
packet_formed_lem : (m : Message) (t : Address) (b : Bool) (n : ℕ) (a : AgentSlot)
    → packet_formed (uncircled (record { message = m; to = t; rejected = b; circled = n; carried = a }))
    ≡ packet_formed (record { message = m; to = t; rejected = b; circled = n; carried = a })
unfolding packet_formed
packet_formed_lem (Acquire c m g) t b n a = refl
packet_formed_lem (Release c) t b n a = refl
packet_formed_lem (Grant c m) t b n a = refl
packet_formed_lem Free t b n a = refl

packet_blank : (m : Message) (t : Address) (b : Bool) (n : ℕ) (a : AgentSlot)
    → is_blank_packet (uncircled (record { message = m; to = t; rejected = b; circled = n; carried = a }))
    ≡ is_blank_packet (record { message = m; to = t; rejected = b; circled = n; carried = a })
unfolding is_blank_packet
packet_blank (Acquire c m g) t b n a = refl
packet_blank (Release c) t b n a = refl
packet_blank (Grant c m) t b n a = refl
packet_blank Free t b n a = refl

wire_formed_lem : (w : Wire) → wire_formed (uncircled_wire w) ≡ wire_formed w
unfolding wire_formed shaped
wire_formed_lem w =
    rw (
      length-map,
      drop_mapped uncircled w.len w.slots,
      take_mapped uncircled w.len w.slots,
      all_mapped uncircled is_blank_packet (λ p. packet_blank p.message p.to p.rejected p.circled p.carried) (drop w.len w.slots),
      all_mapped uncircled packet_formed (λ p. packet_formed_lem p.message p.to p.rejected p.circled p.carried) (take w.len w.slots),
    )

lock_formed_lem : (n : ℕ) (s : LockState) → lock_formed n (uncircled_lock s) ≡ lock_formed n s
unfolding lock_formed
lock_formed_lem n s = rw (wire_formed_lem s.wire)

cluster_formed : (x : Cluster) → well_formed (uncircled_cluster x) ≡ well_formed x
unfolding well_formed
cluster_formed x = rw (length-map, all_mapped uncircled_lock (lock_formed x.preference) (lock_formed_lem x.preference) x.locks)

-- ---- the rules: what they say but for the counts of what they send
abbrev said : Verdict → Verdict
said cannot_place = cannot_place
said (does v ps) = does v (map uncircled ps)

-- a packet by its parts, and as if it had not circled
module _ (v : Site) (t : Address) (b : Bool) (n : ℕ) (a : AgentSlot) where
  abbrev came : Message → Packet
  came m = record { message = m; to = t; rejected = b; circled = n; carried = a }

  decides_alike : (m : Message) (o : Owner) → said (decides m o v (came m)) ≡ said (decides m o v (uncircled (came m)))
  unfolding decides decides_acquire decides_free decides_grant decides_release to_owner
  decides_alike (Acquire c m false) Unowned = refl
  decides_alike (Acquire c m true) Unowned = refl
  decides_alike (Acquire c m false) (Owned o k) = go (may_share v m)
    where
      go : (y : Bool) → said (pick y (shares v c k) (to_owner (Owned o k) (noting v m) (came (Acquire c m false))))
          ≡ said (pick y (shares v c k) (to_owner (Owned o k) (noting v m) (uncircled (came (Acquire c m false)))))
      go true = refl
      go false = refl
  decides_alike (Acquire c m true) (Owned o k) = refl
  decides_alike (Release c) Unowned = refl
  decides_alike (Release c) (Owned o k) = refl
  decides_alike (Grant c m) o = refl
  decides_alike Free o = refl

  arrives_alike : (m : Message) → said (arrives m v (came m)) ≡ said (arrives m v (uncircled (came m)))
  unfolding arrives acquire_arrives release_arrives
  arrives_alike (Acquire c m g) = go v.slot.present g
    where
      go : (h g : Bool) → said (acquire_arrives h v v.slot.agent (came (Acquire c m g)) c m g)
          ≡ said (acquire_arrives h v v.slot.agent (uncircled (came (Acquire c m g))) c m g)
      go false g = refl
      go true true = refl
      go true false = refl
  arrives_alike (Release c) = go (lists v.slot c) (queues v.slot c)
    where
      off : Verdict
      off = does (with_slot v (some_agent (unqueuing v.slot.agent c))) []

      go : (d q : Bool) → said (pick d (leaves v v.slot.agent c) (pick q off (sends_back v (came (Release c)))))
          ≡ said (pick d (leaves v v.slot.agent c) (pick q off (sends_back v (uncircled (came (Release c))))))
      go true q = refl
      go false true = refl
      go false false = refl
  arrives_alike (Grant c m) = refl
  arrives_alike Free = refl

  delivers_alike : (m : Message) → said (delivers t v (came m)) ≡ said (delivers t v (uncircled (came m)))
  unfolding delivers at_decider at_machine
  delivers_alike m = go t
    where
      go : (u : Address) → said (delivers u v (came m)) ≡ said (delivers u v (uncircled (came m)))
      go ToDecider = decides_alike m v.decider.owner
      go (ToMachine k) = arrives_alike m

-- ---- a step but for the counts that it leaves
abbrev step_but : Stepped → Stepped
step_but t = record { answer = t.answer; handling = t.handling; state = uncircled_lock t.state }

module _ (k : MachineId) (c : ClientId) where
  said_finish : (w : Verdict) (rest : List Packet) (s : LockState)
      → step_but (finish k c w rest s) ≡ step_but (finish k c (said w) (map uncircled rest) (uncircled_lock s))
  unfolding finish
  said_finish cannot_place rest s = rw (lock_twice s)
  said_finish (does v ps) rest s = rw (length-map rest uncircled, length-map ps uncircled) (go (leb (length rest + length ps) wire_capacity))
    where
      go : (b : Bool) → step_but (pick b (accepted (apply k c v ps rest s)) (refused WireFull s))
          ≡ step_but (pick b (accepted (apply k c v (map uncircled ps) (map uncircled rest) (uncircled_lock s))) (refused WireFull (uncircled_lock s)))
      go true =
          rw (
            wire_uncircled (rest ++ ps),
            wire_uncircled (map uncircled rest ++ map uncircled ps),
            ← map-append uncircled rest ps,
            made_mapped uncircled uncircled packet_twice (rest ++ ps),
          )
      go false = rw (lock_twice s)

  finish_alike : (w u : Verdict) (rest : List Packet) (s : LockState) → said w ≡ said u
      → step_but (finish k c w rest s) ≡ step_but (finish k c u (map uncircled rest) (uncircled_lock s))
  finish_alike w u rest s e =
      said_finish w rest s ∙ rw e refl
      ∙ sym (rw (made_mapped uncircled uncircled packet_twice rest, lock_twice s) at (said_finish u (map uncircled rest) (uncircled_lock s)))

-- ---- the steps on a lock's state
module _ (n : ℕ) (s : LockState) where
  abbrev un : LockState
  un = uncircled_lock s

  abbrev ps : List Packet
  ps = packets s.wire

  own_alike : (w : Verdict) (c : ClientId) → step_but (finish (machine_of c) c w ps s) ≡ step_but (finish (machine_of c) c w (packets un.wire) un)
  own_alike w c = rw (packets_uncircled s.wire) (finish_alike (machine_of c) c w w ps s refl)

  acquire_alike : (c : ClientId) (m : Mode) → step_but (acquire_step n s c m) ≡ step_but (acquire_step n un c m)
  unfolding acquire_step
  acquire_alike c m = own_alike (client_acquires (site_of n s (machine_of c) c) c m) c

  release_alike : (c : ClientId) → step_but (release_step n s c) ≡ step_but (release_step n un c)
  unfolding release_step
  release_alike c = own_alike (client_releases (site_of n s (machine_of c) c) c) c

  give_up_alike : (c : ClientId) → step_but (give_up_step n s c) ≡ step_but (give_up_step n un c)
  unfolding give_up_step
  give_up_alike c = own_alike (client_gives_up (site_of n s (machine_of c) c) c) c

  takes_alike : (p : Packet) (rest : List Packet) → step_but (takes n s p rest) ≡ step_but (takes n un (uncircled p) (map uncircled rest))
  unfolding takes
  takes_alike p rest =
      let k : MachineId = machine_at p.to in
      let c : ClientId = client_named p.message in
      let v : Site = site_of n s k c in
      ap (telling (handled_at p.to p.message (agent_on s k)))
      (finish_alike k c (delivers p.to v p) (delivers p.to v (uncircled p)) rest s
      (delivers_alike v p.to p.rejected p.circled p.carried p.message))

  drops_alike : (p : Packet) (rest : List Packet) → step_but (drops n s p rest) ≡ step_but (drops n un (uncircled p) (map uncircled rest))
  unfolding drops
  drops_alike p rest =
      let k : MachineId = machine_at p.to in
      let c : ClientId = client_named p.message in
      finish_alike k c (grant_is_lost (site_of n s k c)) (grant_is_lost (site_of n s k c)) rest s refl

  rest_uncircled : (i : ℕ) → removed (packets un.wire) i ≡ map uncircled (removed ps i)
  rest_uncircled i = rw (packets_uncircled s.wire) (removed_mapped uncircled ps i)

  deliver_alike : (i : ℕ) → step_but (deliver_step n s i) ≡ step_but (deliver_step n un i)
  unfolding deliver_step
  deliver_alike i = rw (packet_uncircled s i, rest_uncircled i) (takes_alike (packet_at s i) (removed ps i))

  lose_alike : (i : ℕ) → step_but (lose_step n s i) ≡ step_but (lose_step n un i)
  unfolding lose_step
  lose_alike i = rw (packet_uncircled s i, rest_uncircled i) (drops_alike (packet_at s i) (removed ps i))

-- ---- the calls
abbrev call_but : Outcome → Outcome
call_but o = record { answer = o.answer; handling = o.handling; cluster = uncircled_cluster o.cluster }

module _ (x : Cluster) (l : LockId) (t u : Stepped) (e : step_but t ≡ step_but u) where
  settled_alike : (a : Answer) → call_but (settled a x l t) ≡ call_but (settled a (uncircled_cluster x) l u)
  unfolding settled
  settled_alike (Refused r) = rw (cluster_twice x)
  settled_alike (Ok tt) =
      rw (
        ← set_mapped uncircled_lock x.locks l.0 t.state,
        ← set_mapped uncircled_lock (map uncircled_lock x.locks) l.0 u.state,
        made_mapped uncircled_lock uncircled_lock lock_twice x.locks,
      )
      (ap (λ (r : Stepped). record {
        answer = Accepted;
        handling = r.handling;
        cluster = record { preference = x.preference; locks = set (map uncircled_lock x.locks) l.0 r.state };
      }) e)

  unless_alike : (a : Answer) → call_but (unless a x l t) ≡ call_but (unless a (uncircled_cluster x) l u)
  unfolding unless
  unless_alike (Refused r) = rw (cluster_twice x)
  unless_alike (Ok tt) = settled_alike t.answer ∙ ap (λ (r : Stepped). call_but (settled r.answer (uncircled_cluster x) l u)) e

lost_alike : (p : Packet) → can_be_lost (uncircled p) ≡ can_be_lost p
unfolding can_be_lost
lost_alike p = refl

perform_uncircled : (c : Call) (x : Cluster) → call_but (perform c x) ≡ call_but (perform c (uncircled_cluster x))
unfolding perform acquire release deliver lose give_up
perform_uncircled (AcquireCall l k t m) x =
    let s : LockState = lock_in x l in
    rw (cluster_formed x, lock_uncircled x l, packets_uncircled s.wire, any_mapped uncircled (names (client_of k t)) (λ p. refl) (packets s.wire))
    (unless_alike x l _ _ (acquire_alike x.preference s (client_of k t) (mode_of m)) _)
perform_uncircled (ReleaseCall l k t) x =
    rw (cluster_formed x, lock_uncircled x l) (unless_alike x l _ _ (release_alike x.preference (lock_in x l) (client_of k t)) _)
perform_uncircled (GiveUpCall l k t) x =
    rw (cluster_formed x, lock_uncircled x l) (unless_alike x l _ _ (give_up_alike x.preference (lock_in x l) (client_of k t)) _)
perform_uncircled (DeliverCall l i) x =
    let s : LockState = lock_in x l in
    rw (cluster_formed x, lock_uncircled x l, packets_uncircled s.wire, length-map (packets s.wire) uncircled)
    (unless_alike x l _ _ (deliver_alike x.preference s i) _)
perform_uncircled (LoseCall l i) x =
    let s : LockState = lock_in x l in
    rw (
      cluster_formed x,
      lock_uncircled x l,
      packet_uncircled s i,
      lost_alike (packet_at s i),
      packets_uncircled s.wire,
      length-map (packets s.wire) uncircled,
    ) (unless_alike x l _ _ (lose_alike x.preference s i) _)

-- ---- What does not change where a cluster's counts are left out is the same on two that are equal but for them.
through : {B : Type 0} (g : Cluster → B) → ((x : Cluster) → g x ≡ g (uncircled_cluster x)) → (x y : Cluster) → ButForCounts x y → g x ≡ g y
through g e x y h = e x ∙ ap g h ∙ sym (e y)

wire_length : (l : LockId) (x : Cluster) → length (packets (lock_in x l).wire) ≡ length (packets (lock_in (uncircled_cluster x) l).wire)
wire_length l x = rw (lock_uncircled x l, packets_uncircled (lock_in x l).wire, length-map (packets (lock_in x l).wire) uncircled)

next_uncircled : (l : LockId) (x : Cluster) → next_call l (lock_in x l) ≡ next_call l (lock_in (uncircled_cluster x) l)
unfolding next_of
next_uncircled l x = rw (lock_uncircled x l, packets_uncircled (lock_in x l).wire) (go (packets (lock_in x l).wire))
  where
    go : (ps : List Packet) → next_of l ps (lock_in x l).clients ≡ next_of l (map uncircled ps) (lock_in x l).clients
    go [] = refl
    go (p ∷ ps) = refl

-- ---- why a client waits
module _ (s : LockState) (c : ClientId) where
  true_uncircled : (r : Reason) → is_true s c r ≡ is_true (uncircled_lock s) c r
  unfolding is_true
  true_uncircled (Requested i) = rw (packets_uncircled s.wire) (sym (at_mapped uncircled (requests c) (λ p. refl) i (packets s.wire)))
  true_uncircled (Granted i) = rw (packets_uncircled s.wire) (sym (at_mapped uncircled (grants c) (λ p. refl) i (packets s.wire)))
  true_uncircled (Rejected i) = rw (packets_uncircled s.wire) (sym (at_mapped uncircled (grant_rejected c) (λ p. refl) i (packets s.wire)))
  true_uncircled (Queued k n) = refl
  true_uncircled (Carried i n) =
      rw (packets_uncircled s.wire) (sym (at_mapped uncircled (λ (p : Packet). queued_in c n p.carried) (λ p. refl) i (packets s.wire)))
  true_uncircled GrantLost = refl

  search_uncircled : (rs : List Reason) → first_true s c rs ≡ first_true (uncircled_lock s) c rs
  unfolding first_true
  search_uncircled [] = refl
  search_uncircled (r ∷ rs) = rw (true_uncircled r, search_uncircled rs)

  reasons_uncircled : reasons_in s ≡ reasons_in (uncircled_lock s)
  unfolding reasons_in
  reasons_uncircled =
      rw (
        packets_uncircled s.wire,
        indices_mapped uncircled 0 (packets s.wire),
        made_mapped uncircled (λ (p : Packet). p.carried) (λ p. refl) (packets s.wire),
      )

  because_uncircled : (a : Answer) → reason_unless a s c ≡ reason_unless a (uncircled_lock s) c
  unfolding reason_unless reason_in
  because_uncircled (Refused r) = refl
  because_uncircled (Ok tt) = rw (← reasons_uncircled, search_uncircled (reasons_in s))

reason_uncircled : (l : LockId) (k : MachineId) (t : TaskId) (x : Cluster) → reason x l k t ≡ reason (uncircled_cluster x) l k t
unfolding reason
reason_uncircled l k t x = rw (cluster_formed x, lock_uncircled x l) (because_uncircled (lock_in x l) (client_of k t) _)

-- ---- two clusters that are equal but for counts
formed_alike : (x y : Cluster) → ButForCounts x y → well_formed x ≡ well_formed y
formed_alike = through well_formed (λ z. sym (cluster_formed z))

perform_alike : (c : Call) (x y : Cluster) → ButForCounts x y → call_but (perform c x) ≡ call_but (perform c y)
perform_alike c = through (λ (x : Cluster). call_but (perform c x)) (perform_uncircled c)

answer_alike : (c : Call) (x y : Cluster) → ButForCounts x y → (perform c x).answer ≡ (perform c y).answer
answer_alike c x y h = ap (λ (o : Outcome). o.answer) (perform_alike c x y h)

told_alike : (c : Call) (x y : Cluster) → ButForCounts x y → (perform c x).handling ≡ (perform c y).handling
told_alike c x y h = ap (λ (o : Outcome). o.handling) (perform_alike c x y h)

left_alike : (c : Call) (x y : Cluster) → ButForCounts x y → ButForCounts (perform c x).cluster (perform c y).cluster
left_alike c x y h = ap (λ (o : Outcome). o.cluster) (perform_alike c x y h)

run_left_alike : (cs : List Call) (x y : Cluster) → ButForCounts x y → ButForCounts (run cs x) (run cs y)
unfolding run
run_left_alike [] x y h = h
run_left_alike (c ∷ cs) x y h = run_left_alike cs (perform c x).cluster (perform c y).cluster (left_alike c x y h)

run_answered_alike : (cs : List Call) (x y : Cluster) → ButForCounts x y → answers_of cs x ≡ answers_of cs y
run_answered_alike [] x y h = refl
run_answered_alike (c ∷ cs) x y h =
    rw (answer_alike c x y h, run_answered_alike cs (perform c x).cluster (perform c y).cluster (left_alike c x y h))

run_told_alike : (cs : List Call) (x y : Cluster) → ButForCounts x y → handlings_of cs x ≡ handlings_of cs y
run_told_alike [] x y h = refl
run_told_alike (c ∷ cs) x y h = rw (told_alike c x y h, run_told_alike cs (perform c x).cluster (perform c y).cluster (left_alike c x y h))

-- ---- drains
abbrev drainage_but : Drainage → Drainage
drainage_but d = record { answer = d.answer; calls = d.calls; cluster = uncircled_cluster d.cluster }

next_alike : (l : LockId) (x y : Cluster) → ButForCounts x y → next_call l (lock_in x l) ≡ next_call l (lock_in y l)
next_alike l = through (λ (x : Cluster). next_call l (lock_in x l)) (next_uncircled l)

drainage_alike : (n : ℕ) (l : LockId) (x y : Cluster) → ButForCounts x y → drainage_but (drainage n l x) ≡ drainage_but (drainage n l y)
unfolding drainage
drainage_alike zero l x y h = rw (drainage, next_alike l x y h) (go (next_call l (lock_in y l)))
  where
    go : (n : Next) → drainage_but (elim n [ none ↦ ending Accepted x | some c ↦ ending (Refused NotQuiescent) x ])
        ≡ drainage_but (elim n [ none ↦ ending Accepted y | some c ↦ ending (Refused NotQuiescent) y ])
    go none = rw h
    go (some c) = rw h
drainage_alike (suc left) l x y h =
    rw (drainage, next_alike l x y h)
    (go (next_call l (lock_in y l)) (λ c. drainage_alike left l (perform c x).cluster (perform c y).cluster (left_alike c x y h)))
  where
    one : (c : Call) (a : Answer) → drainage_but (drainage left l (perform c x).cluster) ≡ drainage_but (drainage left l (perform c y).cluster)
        → drainage_but (elim a [ Ok tt ↦ after_one c (drainage left l (perform c x).cluster) | Refused r ↦ ending (Refused r) x ])
        ≡ drainage_but (elim a [ Ok tt ↦ after_one c (drainage left l (perform c y).cluster) | Refused r ↦ ending (Refused r) y ])
    one c (Ok tt) e = ap (after_one c) e
    one c (Refused r) e = rw h

    go : (n : Next) → ((c : Call) → drainage_but (drainage left l (perform c x).cluster) ≡ drainage_but (drainage left l (perform c y).cluster))
        → drainage_but (elim n [
          | none ↦ ending Accepted x
          | some c ↦ elim (perform c x).answer [ Ok tt ↦ after_one c (drainage left l (perform c x).cluster) | Refused r ↦ ending (Refused r) x ]
        ])
        ≡ drainage_but (elim n [
          | none ↦ ending Accepted y
          | some c ↦ elim (perform c y).answer [ Ok tt ↦ after_one c (drainage left l (perform c y).cluster) | Refused r ↦ ending (Refused r) y ]
        ])
    go none e = rw h
    go (some c) e = rw (answer_alike c x y h) (one c (perform c y).answer (e c))

abbrev drained_but : Drained → Drained
drained_but d = record { answer = d.answer; count = d.count; handling = d.handling; cluster = uncircled_cluster d.cluster }

drain_alike : (l : LockId) (x y : Cluster) → ButForCounts x y → drained_but (drain x l) ≡ drained_but (drain y l)
unfolding drain drain_unless drain_ended
drain_alike l x y h =
    rw (formed_alike x y h)
    (tests (first ((Malformed when not (well_formed y)) ∷ (LockRange when leb locks l.0) ∷ [])))
  where
    d : drainage_but (drainage allowance l x) ≡ drainage_but (drainage allowance l y)
    d = drainage_alike allowance l x y h

    calls : (drainage allowance l x).calls ≡ (drainage allowance l y).calls
    calls = ap (λ (z : Drainage). z.calls) d

    end : (a : Answer) → drained_but (drain_ended a x (drainage allowance l x)) ≡ drained_but (drain_ended a y (drainage allowance l y))
    end (Ok tt) =
        rw (calls, run_told_alike (drainage allowance l y).calls x y h)
        (ap (λ (z : Drainage). record {
          answer = Accepted;
          count = length (drainage allowance l y).calls;
          handling = last_told None (handlings_of (drainage allowance l y).calls y);
          cluster = z.cluster;
        }) d)
    end (Refused r) = rw h

    tests : (a : Answer) → drained_but (drain_unless a l x) ≡ drained_but (drain_unless a l y)
    tests (Ok tt) =
        end (drainage allowance l x).answer
        ∙ ap (λ (z : Drainage). drained_but (drain_ended z.answer y (drainage allowance l y))) d
    tests (Refused r) = rw h

-- ---- transcripts and their listings
abbrev replayed_but : Replayed → Replayed
replayed_but r = record { answer = r.answer; records = r.records; handling = r.handling; cluster = uncircled_cluster r.cluster }

replay_from_alike : (left : ℕ) (bytes : List ℕ) (i n : ℕ) (k : Option Handling) (x y : Cluster) → ButForCounts x y
    → replayed_but (replay_from left bytes i n k x) ≡ replayed_but (replay_from left bytes i n k y)
unfolding replay_from
replay_from_alike zero bytes i n k x y h = rw h
replay_from_alike (suc left) bytes i n k x y h =
    go (given (read_record bytes i)) (λ c j. replay_from_alike left bytes j (n + 1) (latest k (perform c y).handling) (perform c x).cluster
    (perform c y).cluster (left_alike c x y h))
  where
    go : (g : Given) → ((c : Call) (j : ℕ) → replayed_but (replay_from left bytes j (n + 1) (latest k (perform c y).handling) (perform c x).cluster)
        ≡ replayed_but (replay_from left bytes j (n + 1) (latest k (perform c y).handling) (perform c y).cluster))
        → replayed_but (elim g [
          | goes_on c j ↦ replay_from left bytes j (n + 1) (latest k (perform c x).handling) (perform c x).cluster
          | ends a counted ↦ replayed a (n + counted) k x
        ])
        ≡ replayed_but (elim g [
          | goes_on c j ↦ replay_from left bytes j (n + 1) (latest k (perform c y).handling) (perform c y).cluster
          | ends a counted ↦ replayed a (n + counted) k y
        ])
    go (goes_on c j) e = rw (told_alike c x y h) (e c j)
    go (ends a counted) e = rw h

tests_alike : (bytes : List ℕ) (x y : Cluster) → ButForCounts x y → first (replay_tests x bytes) ≡ first (replay_tests y bytes)
tests_alike bytes x y h = rw (formed_alike x y h)

replay_alike : (bytes : List ℕ) (x y : Cluster) → ButForCounts x y → replayed_but (replay x bytes) ≡ replayed_but (replay y bytes)
unfolding replay replay_unless
replay_alike bytes x y h = rw (tests_alike bytes x y h) (go (first (replay_tests y bytes)))
  where
    go : (a : Answer) → replayed_but (replay_unless a x bytes) ≡ replayed_but (replay_unless a y bytes)
    go (Ok tt) = replay_from_alike (length bytes + 1) bytes 0 0 None x y h
    go (Refused r) = rw h

row_alike : (c : Call) (x y : Cluster) → ButForCounts x y → row_of c x ≡ row_of c y
row_alike c x y h =
    rw (
      answer_alike c x y h,
      through (λ (z : Cluster). length (packets (lock_in z (lock_of c)).wire)) (wire_length (lock_of c)) (perform c x).cluster (perform c y).cluster
          (left_alike c x y h),
    )

lines_alike : (left : ℕ) (bytes : List ℕ) (i n : ℕ) (x y : Cluster) → ButForCounts x y → lines_from left bytes i n x ≡ lines_from left bytes i n y
unfolding lines_from
lines_alike zero bytes i n x y h = refl
lines_alike (suc left) bytes i n x y h =
    go (read_record bytes i) (λ c j. lines_alike left bytes j (n + 1) (perform c x).cluster (perform c y).cluster (left_alike c x y h))
  where
    go : (g : Reading) → ((c : Call) (j : ℕ) → lines_from left bytes j (n + 1) (perform c x).cluster ≡ lines_from left bytes j (n + 1) (perform c y).cluster)
        → Path (List ℕ) (elim g [
          | Record c j ↦ line_of (n + 1) (row_of c x) ++ lines_from left bytes j (n + 1) (perform c x).cluster
          | Bad ↦ refused_line (n + 1) BadRecord
          | End ↦ []
        ]) (elim g [
          | Record c j ↦ line_of (n + 1) (row_of c y) ++ lines_from left bytes j (n + 1) (perform c y).cluster
          | Bad ↦ refused_line (n + 1) BadRecord
          | End ↦ []
        ])
    go (Record c j) e = rw (row_alike c x y h, e c j)
    go Bad e = refl
    go End e = refl

listing_alike : (bytes : List ℕ) (x y : Cluster) → ButForCounts x y → listing x bytes ≡ listing y bytes
unfolding listing lines_unless
listing_alike bytes x y h = rw (tests_alike bytes x y h) (ap (λ (ls : List ℕ). header ++ ls) (go (first (replay_tests y bytes))))
  where
    go : (a : Answer) → lines_unless a x bytes ≡ lines_unless a y bytes
    go (Ok tt) = lines_alike (length bytes + 1) bytes 0 0 x y h
    go (Refused r) = refl

-- ---- the search for the packet that names a client
module _ (l : LockId) (c : ClientId) where
  named_at : (i : ℕ) (x : Cluster) → is_at (names c) (packets (lock_in x l).wire) i ≡ is_at (names c) (packets (lock_in (uncircled_cluster x) l).wire) i
  named_at i x =
      rw (lock_uncircled x l, packets_uncircled (lock_in x l).wire)
      (sym (at_mapped uncircled (names c) (λ p. refl) i (packets (lock_in x l).wire)))

  named_any : (x : Cluster) → any (names c) (packets (lock_in x l).wire) ≡ any (names c) (packets (lock_in (uncircled_cluster x) l).wire)
  named_any x =
      rw (lock_uncircled x l, packets_uncircled (lock_in x l).wire)
      (sym (any_mapped uncircled (names c) (λ p. refl) (packets (lock_in x l).wire)))

  named_before : (i : ℕ) (x : Cluster)
      → any (names c) (take i (packets (lock_in x l).wire)) ≡ any (names c) (take i (packets (lock_in (uncircled_cluster x) l).wire))
  named_before i x =
      rw (lock_uncircled x l, packets_uncircled (lock_in x l).wire, take_mapped uncircled i (packets (lock_in x l).wire))
      (sym (any_mapped uncircled (names c) (λ p. refl) (take i (packets (lock_in x l).wire))))

  named_alike : (f : Found) (x y : Cluster) → ButForCounts x y → IsFirst (names c) (packets (lock_in x l).wire) f
      → IsFirst (names c) (packets (lock_in y l).wire) f
  named_alike Nowhere x y h e = sym (through (λ (z : Cluster). any (names c) (packets (lock_in z l).wire)) named_any x y h) ∙ e
  named_alike (At i) x y h e = (
    sym (through (λ (z : Cluster). is_at (names c) (packets (lock_in z l).wire) i) (named_at i) x y h) ∙ e.0,
    sym (through (λ (z : Cluster). any (names c) (take i (packets (lock_in z l).wire))) (named_before i) x y h) ∙ e.1,
  )

-- ---- all of it
pub no_count_decides : (x y : Cluster) → NoCountDecides x y
no_count_decides x y h =
    record {
      formed = formed_alike x y h;
      call_answered = λ c. answer_alike c x y h;
      call_told = λ c. told_alike c x y h;
      call_left = λ c. left_alike c x y h;
      run_answered = λ cs. run_answered_alike cs x y h;
      run_told = λ cs. run_told_alike cs x y h;
      run_left = λ cs. run_left_alike cs x y h;
      drain_answered = λ l. ap (λ (d : Drained). d.answer) (drain_alike l x y h);
      drain_counted = λ l. ap (λ (d : Drained). d.count) (drain_alike l x y h);
      drain_told = λ l. ap (λ (d : Drained). d.handling) (drain_alike l x y h);
      drain_left = λ l. ap (λ (d : Drained). d.cluster) (drain_alike l x y h);
      replay_answered = λ bytes. ap (λ (r : Replayed). r.answer) (replay_alike bytes x y h);
      replay_counted = λ bytes. ap (λ (r : Replayed). r.records) (replay_alike bytes x y h);
      replay_told = λ bytes. ap (λ (r : Replayed). r.handling) (replay_alike bytes x y h);
      replay_left = λ bytes. ap (λ (r : Replayed). r.cluster) (replay_alike bytes x y h);
      listed = λ bytes. listing_alike bytes x y h;
      reasoned = λ l k t. through (λ (z : Cluster). reason z l k t) (reason_uncircled l k t) x y h;
      named = λ l c f e. named_alike l c f x y h e;
    }
