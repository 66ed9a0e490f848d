-- Every step of a drain is accepted and lowers the number of steps left, so a drain ends, with its lock fresh and the others as they were.
use Rattle.std.specs.Prelude.{◌≡◌, ◌&&◌, ◌∷◌, ◌+◌, ◌≤◌, ◌<◌, ◌-◌}
use Rattle.model.specs.Drain.{allowance, Next, none, some, next_call, Quiescent, Drainage, ending, after_one, drainage, drain_calls, drain_ended, drain_unless}
use Rattle.model.specs.Drain.{drain}
use Rattle.model.specs.Refusals.{first}
use Rattle.laws.specs.CallSteps.{step_of, perform_elsewhere, perform_here}
use Rattle.laws.specs.Next.{NextIs, delivers_first, releases_holder, gives_up, next_is, rests, Goes, goes}
use Rattle.laws.specs.Formed.{lock_formed_lem}
use Rattle.theorems.specs.Names.{LockId, MachineId, TaskId, ClientId, Mode, Address, ToDecider, ToMachine, Message, Free, Acquire, Grant, Release}
use Rattle.theorems.specs.Names.{Packet, Status, Idle, Waiting, Holding, LockState, Cluster, Call, ReleaseCall, DeliverCall, Accepted, Outcome}
use Rattle.theorems.specs.Names.{refl, sym, ap, ◌∙◌, Bool, true, false, not, false≢true, List, [], ℕ, zero, suc, arith}
use Rattle.theorems.specs.Names.{length, eqb, eqb-true, eq-eqb, lt-leb, pick, all, removed, client_of, status_of, lock_in, packets, fresh_lock, well_formed}
use Rattle.theorems.specs.Names.{is_holding, packet_at, after, answers_of, deliver_step, settled, perform, lock_of, run, View, is_accepted, to_machine, None}
use Rattle.theorems.specs.Names.{handlings_of, last_told, is_grant_for, shows_grant, after_grant, after_release, sees, watch, and_left, locks, fresh, in_parts}
use Rattle.theorems.specs.Names.{ClientState, GiveUpCall, Shared, note_of, viewed, after_give_up}
use Rattle.theorems.specs.Weights.{waits_f, hold_f, few, client_in, wait_f}
use Rattle.theorems.specs.Invariant.{Inv}
use Rattle.theorems.specs.InvariantStep.{Split, split_at}
use Rattle.theorems.specs.Facts.{grant_waits, grant_unnoted, Awaits, awaits, gave_up, waiting_is, waits_one, flag_none}
use Rattle.model.specs.Trace.{after_grant_in}
use Rattle.theorems.specs.Tally.{flag}
use Rattle.theorems.specs.Fresh.{clients_idle}
use Rattle.theorems.specs.Runs.{sound_step, Reached, reached_next, reached}
use Rattle.theorems.specs.Traced.{agrees_call, as_seen}
use Rattle.theorems.specs.Statements.{proved_bound, Drains, Demand3}
use Rattle.theorems.specs.Theorems.{trace_agrees, notes_agree, as_seen_lem, exclusion_of_trace}
use Rattle.theorems.specs.StepsLeft.{steps_left, steps_bound}
use Rattle.theorems.specs.StepsFall.{deliver_falls, release_falls, give_up_falls}
use Rattle.theorems.specs.Quiescence.{is_fresh}

-- ---- the view of a client along a drain: its grants, and 1 more while it waits and its grant is not lost, stay as many; so does, for the times it gave up,
-- 1 more while it is
abbrev awaits_f : ClientState → ℕ
awaits_f x = waits_f x.status - flag x.lost

abbrev count : View → ℕ
count v = v.grants + awaits_f (as_seen v)

abbrev losses : View → ℕ
losses v = v.given + flag v.lost

-- who holds has no note, and who has one waits, for a shared lock
held_unnoted : (s : LockState) → Inv s → (c : ClientId) (m : Mode) → status_of s c ≡ Holding m → note_of s c ≡ false
unfolding wait_f
held_unnoted s i c m h = flag_none _ (omega (arith, rw h at (i.noted c.0)))

noted_waiting : (s : LockState) → Inv s → (c : ClientId) → note_of s c ≡ true → status_of s c ≡ Waiting Shared
noted_waiting s i c q = waiting_is Shared _ (omega (arith, rw q at (i.noted c.0), waits_one Shared (status_of s c)))

-- the call on x, accepted, keeps both
Counted : LockId → Call → Cluster → Type 0
Counted l a x =
    (c : ClientId) (v : View) → as_seen v ≡ client_in (lock_in x l) c.0
    → (count (sees l c a x (perform a x).cluster v) ≡ count v) × (losses (sees l c a x (perform a x).cluster v) ≡ losses v)

-- a GRANT that is delivered finds its client waiting for it, or idle
counts_granted : (n : Mode) (v : View) → Awaits n v.phase → v.lost ≡ false → (count (after_grant v) ≡ count v) × (losses (after_grant v) ≡ losses v)
counts_granted n v a q = go v.phase a refl
  where
    go : (st : Status) → Awaits n st → v.phase ≡ st → (count (after_grant_in st v) ≡ count v) × (losses (after_grant_in st v) ≡ losses v)
    go _ gave_up e = (refl, refl)
    go _ awaits e = (unfold waits_f in rw (e, q) (omega arith), rw q)

grant_finds : (s : LockState) (i : Inv s) (rest : List Packet) (c : ClientId) (p : Packet) (t : Address) (m : Message) (b : Bool)
    → Split s (in_parts m t b p.carried.present p ∷ []) rest → (to_machine t && (is_grant_for c m && not b)) ≡ true
    → (n : Mode) × (Awaits n (status_of s c) × (note_of s c ≡ false))
grant_finds s i rest c p ToDecider m b sp e = absurd (false≢true e)
grant_finds s i rest c p (ToMachine k) (Acquire d n g) b sp e = absurd (false≢true e)
grant_finds s i rest c p (ToMachine k) (Release d) b sp e = absurd (false≢true e)
grant_finds s i rest c p (ToMachine k) Free b sp e = absurd (false≢true e)
grant_finds s i rest c p (ToMachine k) (Grant d n) b sp e =
    let same : c.0 ≡ d.0 = eqb-true c.0 d.0 (and_left (eqb c.0 d.0) _ e) in
    (n, (rw same (grant_waits _ i refl sp), rw same (grant_unnoted _ i refl sp)))

deliver_counted : (x : Cluster) (l : LockId) (j : ℕ) → Inv (lock_in x l) → j < length (packets (lock_in x l).wire) → Counted l (DeliverCall l j) x
unfolding Counted sees
deliver_counted x l j i b c v e = rw (eq-eqb l.0 l.0 refl) (go (shows_grant c (packet_at (lock_in x l) j)) refl)
  where
    p : Packet
    p = packet_at (lock_in x l) j

    go : (t : Bool) → shows_grant c (packet_at (lock_in x l) j) ≡ t
        → (count (pick t (after_grant v) v) ≡ count v) × (losses (pick t (after_grant v) v) ≡ losses v)
    go false q = (refl, refl)
    go true q =
        let w : (n : Mode) × (Awaits n (status_of (lock_in x l) c) × (note_of (lock_in x l) c ≡ false)) =
        grant_finds (lock_in x l) i (removed (packets (lock_in x l).wire) j) c p p.to p.message p.rejected (split_at (lock_in x l) j p b refl) q in
        let ph : v.phase ≡ status_of (lock_in x l) c = ap (λ (y : ClientState). y.status) e in
        counts_granted w.0 v (rw ph w.1.0) (ap (λ (y : ClientState). y.lost) e ∙ w.1.1)

-- who releases holds, and has no note
release_counted : (x : Cluster) (l : LockId) (k : MachineId) (t : TaskId) (m : Mode) → Inv (lock_in x l) → status_of (lock_in x l) (client_of k t) ≡ Holding m
    → Counted l (ReleaseCall l k t) x
unfolding Counted sees waits_f
release_counted x l k t m i ho c v e = rw (eq-eqb l.0 l.0 refl) (go (eqb c.0 (client_of k t).0) refl)
  where
    go : (b : Bool) → eqb c.0 (client_of k t).0 ≡ b → (count (pick b (after_release v) v) ≡ count v) × (losses (pick b (after_release v) v) ≡ losses v)
    go false q = (refl, refl)
    go true q =
        let same : c.0 ≡ (client_of k t).0 = eqb-true c.0 (client_of k t).0 q in
        let here : as_seen v ≡ client_in (lock_in x l) (client_of k t).0 = e ∙ ap (λ (z : ℕ). client_in (lock_in x l) z) same in
        let w : v.phase ≡ Holding m = ap (λ (y : ClientState). y.status) here ∙ ho in
        let n : v.lost ≡ false = ap (λ (y : ClientState). y.lost) here ∙ held_unnoted (lock_in x l) i (client_of k t) m ho in
        (rw (w, n), rw n)

-- who gives up had lost its grant
give_up_counted : (x : Cluster) (l : LockId) (k : MachineId) (t : TaskId) (m : Mode) → status_of (lock_in x l) (client_of k t) ≡ Waiting m
    → note_of (lock_in x l) (client_of k t) ≡ true → Counted l (GiveUpCall l k t) x
unfolding Counted sees waits_f
give_up_counted x l k t m wa nt c v e = rw (eq-eqb l.0 l.0 refl) (go (eqb c.0 (client_of k t).0) refl)
  where
    go : (b : Bool) → eqb c.0 (client_of k t).0 ≡ b → (count (pick b (after_give_up v) v) ≡ count v) × (losses (pick b (after_give_up v) v) ≡ losses v)
    go false q = (refl, refl)
    go true q =
        let same : c.0 ≡ (client_of k t).0 = eqb-true c.0 (client_of k t).0 q in
        let here : as_seen v ≡ client_in (lock_in x l) (client_of k t).0 = e ∙ ap (λ (z : ℕ). client_in (lock_in x l) z) same in
        let w : v.phase ≡ Waiting m = ap (λ (y : ClientState). y.status) here ∙ wa in
        let n : v.lost ≡ true = ap (λ (y : ClientState). y.lost) here ∙ nt in
        (rw (w, n) (omega arith), rw n (omega arith))

-- ---- what a drain does next on a cluster that calls lead to
data Onward (x : Cluster) (l : LockId) : Type 0 where
  stops : next_call l (lock_in x l) ≡ none → lock_in x l ≡ fresh_lock → Onward x l
  steps : (a : Call) → next_call l (lock_in x l) ≡ some a → lock_of a ≡ l → (perform a x).answer ≡ Accepted → Counted l a x
      → steps_left (lock_in (perform a x).cluster l) < steps_left (lock_in x l) → Onward x l

not_holding : (st : Status) → is_holding st ≡ false → hold_f st ≡ 0
unfolding hold_f
not_holding Idle e = refl
not_holding (Waiting m) e = refl
not_holding (Holding m) e = absurd (false≢true (sym e))

module _ (x : Cluster) (l : LockId) (lb : l.0 < locks) (h : Reached x) where
  abbrev s : LockState
  s = lock_in x l

  next_falls : (a : Call) → NextIs l s a → steps_left (step_of x.preference a s).state < steps_left s
  next_falls _ (delivers_first b) = go (packets s.wire) refl b
    where
      go : (ps : List Packet) → packets s.wire ≡ ps → 0 < length ps → steps_left (deliver_step x.preference s 0).state < steps_left s
      go [] e b = absurd (omega arith)
      go (p ∷ ps) e b = deliver_falls x.preference s (h.invs l) p ps e
  next_falls _ (releases_holder k t m i b e st) = release_falls x.preference s (h.invs l) (client_of k t) m (omega (arith, (h.invs l).all_clients)) st e
  next_falls _ (gives_up k t i b e nb nt) =
      let w = noted_waiting s (h.invs l) (client_of k t) nt in
      give_up_falls x.preference s (h.invs l) (client_of k t) Shared (omega (arith, (h.invs l).all_clients)) w nt e

  next_counted : (a : Call) → NextIs l s a → Counted l a x
  next_counted _ (delivers_first b) = deliver_counted x l 0 (h.invs l) b
  next_counted _ (releases_holder k t m i b e st) = release_counted x l k t m (h.invs l) st
  next_counted _ (gives_up k t i b e nb nt) = give_up_counted x l k t Shared (noted_waiting s (h.invs l) (client_of k t) nt) nt

  -- the call passes its tests, so it is its step
  onward : Onward x l
  unfolding settled
  onward = go (next_call l s) refl
    where
      stepping : (a : Call) → next_call l s ≡ some a → NextIs l s a → Goes l x a → Onward x l
      stepping a e n g =
          steps a e g.lock (ap (λ (o : Outcome). o.answer) g.step ∙ rw (g.lock, (sound_step x.preference a s g.allowed (h.invs l)).taken))
          (next_counted a n)
          (rw (← g.lock) (rw (perform_here a x h.formed (rw g.lock lb) g.step, g.lock) (next_falls a n)))

      go : (n : Next) → next_call l s ≡ n → Onward x l
      go none e =
          let r = rests l s e in
          stops e (is_fresh x.preference s (h.invs l) (lock_formed_lem x l h.formed lb) r.wire (λ d. not_holding _ (r.nobody d)) r.unnoted)
      go (some a) e = let n = next_is l s a e in stepping a e n (goes l x a h.formed lb n)

-- ---- the whole drain
record Ends (x : Cluster) (l : LockId) (n : ℕ) (d : Drainage) : Type 0 where
  answer : d.answer ≡ Accepted
  few : length d.calls ≤ n
  runs : d.cluster ≡ run d.calls x
  state : lock_in d.cluster l ≡ fresh_lock
  accepted : all is_accepted (answers_of d.calls x) ≡ true
  quiescent : Quiescent l (lock_in d.cluster l)
  others : (j : LockId) → (j.0 ≡ l.0 → ⊥) → lock_in d.cluster j ≡ lock_in x j
  counted : (c : ClientId) (v : View) → as_seen v ≡ client_in (lock_in x l) c.0
      → ((watch l c d.calls x v).grants ≡ v.grants + awaits_f (client_in (lock_in x l) c.0))
      × ((watch l c d.calls x v).given ≡ v.given + flag (note_of (lock_in x l) c))

drainage_stops : (n : ℕ) (l : LockId) (x : Cluster) → next_call l (lock_in x l) ≡ none → drainage n l x ≡ ending Accepted x
unfolding drainage
drainage_stops zero l x e = rw (e, drainage)
drainage_stops (suc n) l x e = rw (e, drainage)

drainage_steps : (n : ℕ) (l : LockId) (x : Cluster) (a : Call) → next_call l (lock_in x l) ≡ some a → (perform a x).answer ≡ Accepted
    → drainage (suc n) l x ≡ after_one a (drainage n l (perform a x).cluster)
unfolding drainage
drainage_steps n l x a e q = rw (e, q, drainage)

idle_waits : (x : Cluster) (l : LockId) → lock_in x l ≡ fresh_lock → (c : ClientId) (v : View) → as_seen v ≡ client_in (lock_in x l) c.0
    → (v.grants ≡ v.grants + awaits_f (client_in (lock_in x l) c.0)) × (v.given ≡ v.given + flag (note_of (lock_in x l) c))
unfolding waits_f fresh_lock
idle_waits x l f c v p = (rw (f, clients_idle c.0) (omega arith), rw (f, clients_idle c.0) (omega arith))

-- nothing is left to do
ends_now : (m n : ℕ) (x : Cluster) (l : LockId) → next_call l (lock_in x l) ≡ none → lock_in x l ≡ fresh_lock → Ends x l m (drainage n l x)
unfolding watch run
ends_now m n x l e f =
    rw (drainage_stops n l x e)
    (record { answer = refl; few = omega arith; runs = refl; state = f; accepted = refl; quiescent = e; others = λ j z. refl; counted = idle_waits x l f })

-- one step, and the drain of what it leaves
module _ (x : Cluster) (l : LockId) (h : Reached x) (a : Call) (q : lock_of a ≡ l) (t : (perform a x).answer ≡ Accepted) (cn : Counted l a x) where
  abbrev y : Cluster
  y = (perform a x).cluster

  count_on : (m : ℕ) (d : Drainage) → Ends y l m d → (c : ClientId) (v : View) → as_seen v ≡ client_in (lock_in x l) c.0
      → ((watch l c (a ∷ d.calls) x v).grants ≡ v.grants + awaits_f (client_in (lock_in x l) c.0))
      × ((watch l c (a ∷ d.calls) x v).given ≡ v.given + flag (note_of (lock_in x l) c))
  unfolding watch Counted
  count_on m d ih c v p =
      let v' : View = sees l c a x y v in
      let p' : as_seen v' ≡ client_in (lock_in y l) c.0 = rw t at (agrees_call a l c x v h p) in
      let e : pick (is_accepted (perform a x).answer) v' v ≡ v' = rw t in
      let lost : ClientState → ℕ = λ x. flag x.lost in (
        ap (λ (w : View). (watch l c d.calls y w).grants) e ∙ omega (arith, ih.counted c v' p', cn c v p, ap awaits_f p, ap awaits_f p'),
        ap (λ (w : View). (watch l c d.calls y w).given) e ∙ omega (arith, ih.counted c v' p', cn c v p, ap lost p, ap lost p'),
      )

  ends_after : (m n : ℕ) (d : Drainage) → m < n → Ends y l m d → Ends x l n (after_one a d)
  unfolding run
  ends_after m n d b ih =
      record {
        answer = ih.answer;
        few = omega (arith, ih.few);
        runs = ih.runs;
        state = ih.state;
        accepted = rw t ih.accepted;
        quiescent = ih.quiescent;
        others = λ j z. ih.others j z ∙ perform_elsewhere a x j (λ w. z (w ∙ ap (λ (k : LockId). k.0) q));
        counted = count_on m d ih;
      }

-- by induction on the steps allowed: that number bounds those that are taken
ends : (n : ℕ) (x : Cluster) (l : LockId) → l.0 < locks → Reached x → steps_left (lock_in x l) ≤ n → Ends x l (steps_left (lock_in x l)) (drainage n l x)
ends zero x l lb h b = go (onward x l lb h)
  where
    go : Onward x l → Ends x l (steps_left (lock_in x l)) (drainage 0 l x)
    go (stops e f) = ends_now _ 0 x l e f
    go (steps a e q t cn r) = absurd (omega arith)
ends (suc n) x l lb h b = go (onward x l lb h) (λ y i. ends n y l lb i)
  where
    go : Onward x l → ((y : Cluster) → Reached y → steps_left (lock_in y l) ≤ n → Ends y l (steps_left (lock_in y l)) (drainage n l y))
        → Ends x l (steps_left (lock_in x l)) (drainage (suc n) l x)
    go (stops e f) ih = ends_now _ (suc n) x l e f
    go (steps a e q t cn r) ih = rw (drainage_steps n l x a e t) (ends_after x l h a q t cn _ _ _ r (ih _ (reached_next a x h) (omega arith)))

-- ---- the call itself
drain_is : (x : Cluster) (l : LockId) → well_formed x ≡ true → l.0 < locks → (drainage allowance l x).answer ≡ Accepted
    → drain x l
    ≡ record {
      answer = Accepted;
      count = length (drain_calls l x);
      handling = last_told None (handlings_of (drain_calls l x) x);
      cluster = (drainage allowance l x).cluster;
    }
unfolding drain drain_unless drain_ended first
drain_is x l w lb e = rw (w, lt-leb locks l.0 lb, e)

-- the phases and what was lost are the statuses and the notes, however given
drains_by : (x : Cluster) (l : LockId) → l.0 < locks → Reached x → (phase : ClientId → Status) (lost : ClientId → Bool)
    → ((c : ClientId) → record { status = phase c; lost = lost c } ≡ client_in (lock_in x l) c.0) → Drains x l phase lost
unfolding waits_f
drains_by x l lb h phase lost same =
    let few : steps_left (lock_in x l) ≤ proved_bound = steps_bound (lock_in x l) (h.invs l) in
    let e : Ends x l (steps_left (lock_in x l)) (drainage allowance l x) = ends allowance x l lb h (omega arith) in
    let d = drain_is x l h.formed lb e.answer in
    let note : ClientState → ℕ = λ x. flag x.lost in
    record {
      answered = rw d;
      counted = rw d;
      runs = rw d e.runs;
      accepted = e.accepted;
      allowed = rw d (omega (arith, few, e.few));
      bounded = rw d (omega (arith, few, e.few));
      quiescent = rw d e.quiescent;
      fresh = rw d e.state;
      others = λ j n. rw d (e.others j n);
      granted = λ c m q u.
          let counts = e.counted c (viewed (phase c) (lost c)) (same c) in
          let one : awaits_f (record { status = phase c; lost = lost c }) ≡ 1 = rw (q, u) in
          (omega (arith, counts, ap awaits_f (same c), one), omega (arith, counts, ap note (same c), ap flag u));
      gave_up = λ c m q u.
          let counts = e.counted c (viewed (phase c) (lost c)) (same c) in
          let none : awaits_f (record { status = phase c; lost = lost c }) ≡ 0 = rw (q, u) in
          (omega (arith, counts, ap awaits_f (same c), none), omega (arith, counts, ap note (same c), ap flag u));
    }

pub drains_reached : (x : Cluster) (l : LockId) → l.0 < locks → Reached x → Drains x l (λ c. status_of (lock_in x l) c) (λ c. note_of (lock_in x l) c)
drains_reached x l lb h = drains_by x l lb h _ _ (λ c. refl)

-- ---- demand 3, for every list of calls
pub demand3 : (n : ℕ) (cs : List Call) → Demand3 n cs
demand3 n cs =
    record {
      trace = trace_agrees n cs;
      notes = notes_agree n cs;
      exclusion = exclusion_of_trace n cs;
      drains = λ l lb. drains_by (after n cs) l lb (reached n cs) _ _ (as_seen_lem n cs l);
    }
