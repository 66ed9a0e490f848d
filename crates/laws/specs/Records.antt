-- Records of a transcript: where one ends, its kind, and what the run, its listing and its calls are from one on.
use Rattle.std.specs.Prelude.{◌≡◌, ◌&&◌, List, [], ◌∷◌, ◌++◌, ℕ, suc, ◌+◌, ◌-◌, ◌≤◌, eqb, leb, ltb, Option}
use Rattle.std.proofs.Common.{sym}
use native.Mathlib.Omega.{arith}
use Rattle.std.proofs.Math.ListN.{length}
use borrow.Author.Tests.{eqb-true, leb-true, leb-false, le-leb}
use Rattle.laws.specs.Names.{Cluster, Call, Accepted, Refused, Handling}
use Rattle.model.specs.declared.Refusal.TheVariants.{BadRecord}
use Rattle.model.specs.declared.Replayed.{Replayed}
use Rattle.model.specs.declared.Reading.{Reading}
use Rattle.model.specs.declared.Reading.TheVariants.{Record, Bad, End}
use Rattle.model.specs.Calls.{perform, latest}
use Rattle.model.specs.Transcripts.{short, acquire_at, release_at, deliver_at, lose_at, give_up_at, whole_record, read_record, replayed, replay_from}
use Rattle.model.specs.Transcripts.{calls_from}
use Rattle.model.specs.Listing.{kind_of, row_of, line_of, refused_line, lines_from}
use Rattle.laws.specs.Tests.{and_right, pick_by}

-- ---- a record has at least six bytes, ends within the transcript, and is of its call's kind
data Ends (bytes : List ℕ) (i : ℕ) : Reading → Type 0 where
  inside : {c : Call} {j : ℕ} → i + 6 ≤ j → j ≤ length bytes → kind_of c ≡ short bytes (i + 2) → Ends bytes i (Record c j)
  bad : Ends bytes i Bad
  end : Ends bytes i End

module _ (bytes : List ℕ) (i : ℕ) where
  whole_ends : (n : ℕ) (c : Call) → 6 ≤ n → i ≤ length bytes → kind_of c ≡ short bytes (i + 2) → Ends bytes i (whole_record n bytes i c)
  whole_ends n c h k q =
      pick_by (Ends bytes i) (eqb (short bytes i) n && leb n (length bytes - i))
      (λ e. let m : n ≤ length bytes - i = leb-true n _ (and_right (eqb (short bytes i) n) _ e) in inside (omega arith) (omega arith) q) (λ e. bad)

  reading_ends : Ends bytes i (read_record bytes i)
  unfolding read_record
  reading_ends =
      let P = Ends bytes i in
      let kind = short bytes (i + 2) in
      pick_by P (leb (length bytes) i) (λ e. end) (λ e.
      let h : i ≤ length bytes = omega (arith, leb-false (length bytes) i e) in
      pick_by P (ltb (length bytes - i) 4) (λ e. bad) (λ e.
      pick_by P (eqb kind 1) (λ e. whole_ends 8 (acquire_at bytes i) (omega arith) h (sym (eqb-true kind 1 e))) (λ e.
      pick_by P (eqb kind 2) (λ e. whole_ends 7 (release_at bytes i) (omega arith) h (sym (eqb-true kind 2 e))) (λ e.
      pick_by P (eqb kind 3) (λ e. whole_ends 6 (deliver_at bytes i) (omega arith) h (sym (eqb-true kind 3 e))) (λ e.
      pick_by P (eqb kind 6) (λ e. whole_ends 6 (lose_at bytes i) (omega arith) h (sym (eqb-true kind 6 e))) (λ e.
      pick_by P (eqb kind 7) (λ e. whole_ends 7 (give_up_at bytes i) (omega arith) h (sym (eqb-true kind 7 e))) (λ e. bad)))))))

  module _ (c : Call) (j : ℕ) (e : read_record bytes i ≡ Record c j) where
    pub record_ends : (i + 6 ≤ j) × (j ≤ length bytes)
    record_ends = go (rw e at reading_ends)
      where
        go : Ends bytes i (Record c j) → (i + 6 ≤ j) × (j ≤ length bytes)
        go (inside h k q) = (h, k)

    pub record_kind : kind_of c ≡ short bytes (i + 2)
    record_kind = go (rw e at reading_ends)
      where
        go : Ends bytes i (Record c j) → kind_of c ≡ short bytes (i + 2)
        go (inside h k q) = q

pub end_at : (bytes : List ℕ) (i : ℕ) → length bytes ≤ i → read_record bytes i ≡ End
unfolding read_record
end_at bytes i h = rw (le-leb (length bytes) i h)

-- ---- the run, the lines and the calls from position i on, with one record more to read than so many
pub record Reads (left : ℕ) (bytes : List ℕ) (i n : ℕ) (h : Option Handling) (x : Cluster) (r : Replayed) (bs : List ℕ) (cs : List Call) : Type 0 where
  pub run : replay_from (suc left) bytes i n h x ≡ r
  pub lines : lines_from (suc left) bytes i n x ≡ bs
  pub calls : calls_from (suc left) bytes i ≡ cs

module _ (left : ℕ) (bytes : List ℕ) (i n : ℕ) (h : Option Handling) (x : Cluster) where
  pub at_record : (c : Call) (j : ℕ) → read_record bytes i ≡ Record c j
      → Reads left bytes i n h x (replay_from left bytes j (n + 1) (latest h (perform c x).handling) (perform c x).cluster)
      (line_of (n + 1) (row_of c x) ++ lines_from left bytes j (n + 1) (perform c x).cluster) (c ∷ calls_from left bytes j)
  unfolding replay_from lines_from calls_from
  at_record c j e = record { run = rw (e, replay_from); lines = rw (e, lines_from); calls = rw (e, calls_from) }

  pub at_bad : read_record bytes i ≡ Bad → Reads left bytes i n h x (replayed (Refused BadRecord) (n + 1) h x) (refused_line (n + 1) BadRecord) []
  unfolding replay_from lines_from calls_from
  at_bad e = record { run = rw (e, replay_from); lines = rw (e, lines_from); calls = rw (e, calls_from) }

  pub at_end : read_record bytes i ≡ End → Reads left bytes i n h x (replayed Accepted n h x) [] []
  unfolding replay_from lines_from calls_from
  at_end e = let z : n + 0 ≡ n = omega arith in record { run = rw (e, replay_from, z); lines = rw (e, lines_from); calls = rw (e, calls_from) }
