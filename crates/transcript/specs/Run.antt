-- The run of a transcript, record by record: what a record's call makes, and what is left of the run and its listing behind it.
use Rattle.std.specs.Prelude.{◌≡◌, true, false, List, ◌++◌, ℕ, suc, ◌+◌, ◌-◌, ◌*◌, ◌<◌, ◌≤◌, length, get_or}
use Rattle.std.proofs.Math.Path.{refl}
use Rattle.std.proofs.Common.{sym, ap, ◌∙◌, arith, get_or-set_same}
use Rattle.std.proofs.Math.ListN.{get_or-eq_default}
use borrow.Author.Tests.{lt-ltb, le-ltb}
use Rattle.model.specs.declared.LockId.{LockId}
use Rattle.model.specs.declared.LockState.{LockState}
use Rattle.model.specs.declared.Cluster.{Cluster}
use Rattle.model.specs.declared.Call.{Call}
use Rattle.model.specs.declared.Refusal.{Refusal}
use Rattle.model.specs.declared.Refusal.TheVariants.{Malformed, LockRange, BadRecord, TranscriptLength}
use Rattle.model.specs.declared.Handling.{Handling}
use Rattle.model.specs.Names.{Option, Result, Ok, Err, None, Answer, Accepted, Refused}
use Rattle.model.specs.declared.Outcome.{Outcome}
use Rattle.model.specs.declared.Reading.TheVariants.{Record, Bad, End}
use Rattle.model.specs.declared.Replayed.{Replayed}
use Rattle.model.specs.States.{locks, packets, wire_of, fresh_lock, lock_in}
use Rattle.model.specs.WellFormed.{lock_formed, well_formed}
use Rattle.model.specs.Refusals.{first}
use Rattle.model.specs.Calls.{with_lock, perform, lock_of, latest}
use Rattle.model.specs.Transcripts.{read_record, replayed, replay_from, replay_unless, replay_tests, replay}
use Rattle.model.specs.Listing.{kind_of, row_of, header, line_of, refused_line, lines_from, lines_unless, listing, Filled, put}
use Rattle.laws.specs.Records.{record_ends, at_record, at_bad, at_end}
use Rattle.laws.specs.Shapes.{length_packets}
use Rattle.laws.specs.Formed.{cells, lock_formed_lem, lock_read, read_formed, ready}
use Rattle.laws.specs.Clusters.{perform_formed}
use Rattle.planning.specs.declared.plan.Plan.{Plan}
use Rattle.planning.specs.Plans.{Plans, carried_out}
use Rattle.lock_calls.specs.LockCalls.{call_on, perform_range, perform_accepts, perform_refuses}
use Rattle.listing.specs.Put.{put_then}

-- ---- What a record's call c makes of the cluster y and of v, the last handling told: its answer a, v' and the cluster z, and w packets on its lock's wire.
pub record Made (c : Call) (v : Option Handling) (y : Cluster) (a : Answer) (w : ℕ) (v' : Option Handling) (z : Cluster) : Type 0 where
  pub row : record { kind = kind_of c; answer = a; wire = w } ≡ row_of c y
  pub told : v' ≡ latest v (perform c y).handling
  pub cluster : z ≡ (perform c y).cluster

module _ (c : Call) (v : Option Handling) (y : Cluster) where
  made_by : {a : Answer} {u v' : Option Handling} {w : ℕ} {z : Cluster} → record { answer = a; handling = u; cluster = z } ≡ perform c y → v' ≡ latest v u
      → length (packets (lock_in z (lock_of c)).wire) ≡ w → Made c v y a w v' z
  made_by e h q = record { row = rw (← e, q); told = rw (← e) h; cluster = ap (λ (o : Outcome). o.cluster) e }

  -- there is no such lock, so no wire
  pub made_range : (l : LockId) → well_formed y ≡ true → l ≡ lock_of c → locks ≤ l.0 → Made c v y (Refused LockRange) 0 v y
  unfolding fresh_lock packets wire_of
  made_range l e q h =
      let k : locks ≤ (lock_of c).0 = rw (← q) h in
      made_by (sym (perform_range c y e k)) refl (rw (get_or-eq_default y.locks fresh_lock {n = (lock_of c).0} (omega (arith, (cells y e).all_locks))))

  -- the call by its plan on the state of its lock l, read with any default
  module _ (l : LockId) (d : LockState) (f : (well_formed y ≡ true) × ((l.0 < locks) × (l ≡ lock_of c))) where
    abbrev pub read : LockState
    read = get_or y.locks l.0 d

    counted : (z : Cluster) (s : LockState) → well_formed z ≡ true → lock_in z l ≡ s → length (packets (lock_in z (lock_of c)).wire) ≡ s.wire.len
    counted z s w e = rw (← f.1.1, ← e) (length_packets (lock_in z l).wire (ready _ (lock_in z l) (lock_formed_lem z l w f.1.0)).wire)

    pub made_accepted : {v' : Option Handling} {p : Plan} → Plans (Ok p) read (call_on y.preference c read) → v' ≡ latest v p.handling
        → Made c v y Accepted (carried_out p read).wire.len v' (with_lock y l (carried_out p read))
    made_accepted {p = p} g h =
        let e = perform_accepts c y l d f g in
        let w : well_formed (with_lock y l (carried_out p read)) ≡ true = rw (ap (λ (o : Outcome). o.cluster) e) (perform_formed c y f.0) in
        made_by e h (counted _ _ w (get_or-set_same y.locks l.0 (carried_out p read) fresh_lock (omega (arith, (cells y f.0).all_locks, f.1.0))))

    pub made_refused : {n : Refusal} → Plans (Err n) read (call_on y.preference c read) → Made c v y (Refused n) read.wire.len v y
    made_refused g = made_by (perform_refuses c y l d f g) refl (counted y _ f.0 (sym (lock_read y l d f.0 f.1.0)))

-- of what is equal to what it makes, too
pub made_equal : {c : Call} {v v' : Option Handling} {y z z' : Cluster} {a : Answer} {w w' : ℕ} → Made c v y a w v' z → w' ≡ w → z' ≡ z → Made c v y a w' v' z'
made_equal m e f = rw (e, f) m

-- ---- the run from the start, and its lines
abbrev pub whole_run : List ℕ → Cluster → Replayed
whole_run bytes x = replay_from (length bytes + 1) bytes 0 0 None x

abbrev pub all_lines : List ℕ → Cluster → List ℕ
all_lines bytes x = lines_from (length bytes + 1) bytes 0 0 x

-- ---- At the position i with n records behind it v is the last handling told, the cluster is y and the buffer g, which began as f. The rest of the run from
-- there is the whole run, and the rest of the lines, put into g, are all of them put into f.
pub record Progress (bytes : List ℕ) (x : Cluster) (f : Filled) (i n : ℕ) (v : Option Handling) (y : Cluster) (g : Filled) : Type 0 where
  pub left : replay_from (suc (length bytes - n)) bytes i n v y ≡ whole_run bytes x
  pub lines : put (lines_from (suc (length bytes - n)) bytes i n y) g ≡ put (all_lines bytes x) f
  pub formed : well_formed y ≡ true
  pub behind : 6 * n ≤ i
  pub inside : i ≤ length bytes

pub progress_start : (bytes : List ℕ) (x : Cluster) (f : Filled) → well_formed x ≡ true → Progress bytes x f 0 0 None x f
progress_start bytes x f w =
    let e : suc (length bytes - 0) ≡ length bytes + 1 = omega arith in
    record { left = rw e; lines = rw e; formed = w; behind = omega arith; inside = omega arith }

module _ {bytes : List ℕ} {x : Cluster} {f : Filled} {i n : ℕ} {v : Option Handling} {y : Cluster} {g : Filled} (p : Progress bytes x f i n v y g)
  where
    -- the state that a call is planned on, read from the cluster with any default
    pub progress_lock : (l : LockId) (d : LockState) → l.0 < locks → lock_formed y.preference (get_or y.locks l.0 d) ≡ true
    progress_lock l d h = read_formed y l d p.formed h

    pub progress_on : (c : Call) (j : ℕ) (a : Answer) (w : ℕ) {v' : Option Handling} {z : Cluster} {h : Filled} → read_record bytes i ≡ Record c j
        → Made c v y a w v' z → h ≡ put (line_of (n + 1) (record { kind = kind_of c; answer = a; wire = w })) g → Progress bytes x f j (n + 1) v' z h
    progress_on c j a w {z = z} {h = h} e m q =
        let b = record_ends bytes i c j e in
        let r : suc (length bytes - (n + 1)) ≡ length bytes - n = omega (arith, p.behind, b) in
        let q' : h ≡ put (line_of (n + 1) (row_of c y)) g = rw m.row at q in
        let s = at_record (length bytes - n) bytes i n v y c j e in
        record {
          left = rw (r, m.told, m.cluster) (sym s.run ∙ p.left);
          lines = rw (r, m.cluster) (put_then _ _ g q' refl ∙ (rw s.lines at p.lines));
          formed = rw m.cluster (perform_formed c y p.formed);
          behind = omega (arith, p.behind, b);
          inside = b.1;
        }

    pub progress_bad : {h : Filled} → read_record bytes i ≡ Bad → h ≡ put (refused_line (n + 1) BadRecord) g
        → (replayed (Refused BadRecord) (n + 1) v y ≡ whole_run bytes x) × (h ≡ put (all_lines bytes x) f)
    progress_bad e q =
        let s = at_bad (length bytes - n) bytes i n v y e in
        (sym s.run ∙ p.left, q ∙ (rw s.lines at p.lines))

    pub progress_end : read_record bytes i ≡ End → (replayed Accepted n v y ≡ whole_run bytes x) × (g ≡ put (all_lines bytes x) f)
    unfolding put
    progress_end e =
        let s = at_end (length bytes - n) bytes i n v y e in
        (sym s.run ∙ p.left, rw s.lines at p.lines)

-- ---- 11, then 13, before any record is run: the run and its listing by the answer a of the two tests
pub record Begins (x : Cluster) (bytes : List ℕ) (a : Answer) : Type 0 where
  pub outcome : replay x bytes ≡ replay_unless a x bytes
  pub lines : listing x bytes ≡ header ++ lines_unless a x bytes

module _ (x : Cluster) (bytes : List ℕ) where
  begins : {a : Answer} → first (replay_tests x bytes) ≡ a → Begins x bytes a
  unfolding replay listing
  begins e = record { outcome = rw e; lines = rw e }

  pub begins_malformed : well_formed x ≡ false → Begins x bytes (Refused Malformed)
  unfolding first
  begins_malformed e = begins (rw e)

  pub begins_long : well_formed x ≡ true → 65535 < length bytes → Begins x bytes (Refused TranscriptLength)
  unfolding first
  begins_long e h = begins (rw (e, lt-ltb 65535 (length bytes) h))

  pub begins_runs : well_formed x ≡ true → length bytes ≤ 65535 → Begins x bytes Accepted
  unfolding first
  begins_runs e h = begins (rw (e, le-ltb 65535 (length bytes) h))

  -- what is put behind the header, and the outcome beside it
  pub listed_refused : (f : Filled) {g h : Filled} {r : Refusal} → Begins x bytes (Refused r) → g ≡ put header f → h ≡ put (refused_line 0 r) g
      → (replayed (Refused r) 0 None x ≡ replay x bytes) × (h ≡ put (listing x bytes) f)
  unfolding replay_unless lines_unless
  listed_refused f b e d = (sym b.outcome, rw b.lines (put_then _ _ f e d))

  pub listed_run : (f : Filled) {g h : Filled} → Begins x bytes Accepted → g ≡ put header f → h ≡ put (all_lines bytes x) g
      → (whole_run bytes x ≡ replay x bytes) × (h ≡ put (listing x bytes) f)
  unfolding replay_unless lines_unless
  listed_run f b e d = (sym b.outcome, rw b.lines (put_then _ _ f e d))
