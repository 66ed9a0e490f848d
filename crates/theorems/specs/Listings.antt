-- The run of a transcript and its listing, by the transcript's calls.
use Rattle.std.specs.Prelude.{◌≡◌, ◌∷◌, ◌++◌, ◌+◌, ◌-◌, ◌*◌, ◌≤◌, Option}
use Rattle.model.specs.declared.Reading.{Reading}
use Rattle.model.specs.declared.Reading.TheVariants.{Record, Bad, End}
use Rattle.std.specs.Prelude.{◌/◌}
use Rattle.model.specs.Refusals.{◌when◌, first}
use Rattle.model.specs.Transcripts.{read_record, replay_from, replay_unless, replay_tests, replay, calls_from}
use Rattle.model.specs.Listing.{Row, row_of, digit, digit_of, decimal, header, wire_column, line_of, refused_line, lines_from, lines_unless, listing}
use Rattle.laws.specs.Records.{record_ends, record_kind, end_at, at_record, at_bad, at_end}
use Rattle.theorems.specs.Names.{Cluster, Call, Refusal, Answer, Accepted, Refused, refl, sym, ap, ◌∙◌, List, [], map, ℕ, zero, suc}
use Rattle.theorems.specs.Names.{arith, Bool, true, false, not, pick, eqb, ltb, ltb-false, length, length-append, perform, run}
use Rattle.theorems.specs.Names.{answers_of, number, refusal_number, well_formed, Malformed, TranscriptLength, BadRecord, Handling, None, handlings_of}
use Rattle.theorems.specs.Names.{latest, last_told}
use Rattle.theorems.specs.Statements.{rows_of, lines_of, last_line, last_records, Listed, longest_listing, ListsAll}
use Rattle.std.proofs.Common.{append_assoc}

-- ---- From position i on, with n records read: so many calls are left at most, and each record takes some of the bytes.
record From (left : ℕ) (bytes : List ℕ) (i n : ℕ) (h : Option Handling) (x : Cluster) : Type 0 where
  runs : (replay_from (suc left) bytes i n h x).cluster ≡ run (calls_from left bytes i) x
  told : (replay_from (suc left) bytes i n h x).handling ≡ last_told h (handlings_of (calls_from left bytes i) x)
  counts : (replay_from (suc left) bytes i n h x).records ≡ n + (length (calls_from left bytes i) + last_records (replay_from (suc left) bytes i n h x).answer)
  lines : lines_from (suc left) bytes i n x
      ≡ lines_of n (rows_of (calls_from left bytes i) x)
      ++ last_line (replay_from (suc left) bytes i n h x).answer (replay_from (suc left) bytes i n h x).records

module _ (bytes : List ℕ) where
  from_end : (left i n : ℕ) (h : Option Handling) (x : Cluster) → calls_from left bytes i ≡ [] → read_record bytes i ≡ End → From left bytes i n h x
  unfolding run last_told
  from_end left i n h x q e =
      let s = at_end left bytes i n h x e in
      record { runs = rw (s.run, q); told = rw (s.run, q); counts = rw (s.run, q) (omega arith); lines = rw (s.lines, s.run, q) }

  from_bad : (left i n : ℕ) (h : Option Handling) (x : Cluster) → read_record bytes i ≡ Bad → From (suc left) bytes i n h x
  unfolding run last_told
  from_bad left i n h x e =
      let s = at_bad (suc left) bytes i n h x e in
      let q = (at_bad left bytes i n h x e).calls in
      record { runs = rw (s.run, q); told = rw (s.run, q); counts = rw (s.run, q) (omega arith); lines = rw (s.lines, s.run, q) }

  from_record : (left i n : ℕ) (h : Option Handling) (x : Cluster) (c : Call) (j : ℕ) → read_record bytes i ≡ Record c j
      → From left bytes j (n + 1) (latest h (perform c x).handling) (perform c x).cluster → From (suc left) bytes i n h x
  unfolding run last_told
  from_record left i n h x c j e f =
      let s = at_record (suc left) bytes i n h x c j e in
      let q = (at_record left bytes i n h x c j e).calls in
      record {
        runs = rw (s.run, q) f.runs;
        told = rw (s.run, q) f.told;
        counts = rw (s.run, q) (omega (arith, f.counts));
        lines = rw (s.lines, s.run, q, f.lines) (sym (append_assoc (line_of (n + 1) (row_of c x)) _ _));
      }

  from : (left i n : ℕ) (h : Option Handling) (x : Cluster) → length bytes ≤ i + left → From left bytes i n h x
  unfolding calls_from
  from zero i n h x b = from_end zero i n h x refl (end_at bytes i (omega arith))
  from (suc left) i n h x b = go (read_record bytes i) refl (λ c j e. from left j (n + 1) _ _ (omega (arith, record_ends bytes i c j e)))
    where
      go : (r : Reading) → read_record bytes i ≡ r
          → ((c : Call) (j : ℕ) → read_record bytes i ≡ Record c j → From left bytes j (n + 1) (latest h (perform c x).handling) (perform c x).cluster)
          → From (suc left) bytes i n h x
      go (Record c j) e f = from_record left i n h x c j e (f c j e)
      go Bad e f = from_bad left i n h x e
      go End e f = from_end (suc left) i n h x (at_end left bytes i n h x e).calls e

rows_length : (cs : List Call) (x : Cluster) → length (rows_of cs x) ≡ length cs
rows_length [] x = refl
rows_length (c ∷ cs) x = ap suc (rows_length cs (perform c x).cluster)

rows_answers : (cs : List Call) (x : Cluster) → map (λ (r : Row). r.answer) (rows_of cs x) ≡ answers_of cs x
rows_answers [] x = refl
rows_answers (c ∷ cs) x = ap (λ (l : List Answer). (perform c x).answer ∷ l) (rows_answers cs (perform c x).cluster)

tested : (x : Cluster) (bytes : List ℕ) → first (replay_tests x bytes) ≡ Accepted → Listed x bytes
unfolding replay replay_unless listing lines_unless
tested x bytes e =
    let z : length bytes + 1 ≡ suc (length bytes) = omega arith in
    let f = from bytes (length bytes) 0 0 None x (omega arith) in
    record {
      runs = rw (e, z) f.runs;
      told = rw (e, z) f.told;
      counts = rw (e, z) (omega (arith, f.counts));
      lines = rw (e, z, f.lines);
      rows = rows_length (calls_from (length bytes) bytes 0) x;
      answers = rows_answers (calls_from (length bytes) bytes 0) x;
    }

-- ---- how long a listing can be
digit_short : (d n : ℕ) → length (digit_of d n) ≤ 1
unfolding digit_of
digit_short d n = go (ltb n d)
  where
    go : (b : Bool) → length (pick b [] (digit (n / d) ∷ [])) ≤ 1
    go true = omega arith
    go false = omega arith

decimal_short : (n : ℕ) → length (decimal n) ≤ 5
unfolding decimal
decimal_short n = simp length-append (omega (arith, digit_short 10000 n, digit_short 1000 n, digit_short 100 n, digit_short 10 n))

wire_short : (a w : ℕ) → length (wire_column a w) ≤ 5
wire_short a w = go (eqb a 1)
  where
    go : (b : Bool) → length (pick b (45 ∷ []) (decimal w)) ≤ 5
    go true = omega arith
    go false = decimal_short w

line_short : (n : ℕ) (r : Row) → length (line_of n r) ≤ 24
unfolding line_of
line_short n r =
    simp length-append (omega (arith, decimal_short n, decimal_short r.kind, decimal_short (number r.answer), wire_short (number r.answer) r.wire))

refused_short : (n : ℕ) (r : Refusal) → length (refused_line n r) ≤ 24
unfolding refused_line
refused_short n r = simp length-append (omega (arith, decimal_short n, decimal_short (refusal_number r)))

module _ (bytes : List ℕ) where
  lines_short : (left i n : ℕ) (x : Cluster) → i ≤ length bytes → length (lines_from left bytes i n x) ≤ 4 * (length bytes - i) + 24
  unfolding lines_from
  lines_short zero i n x h = omega arith
  lines_short (suc left) i n x h = go (read_record bytes i) refl (λ c j k. lines_short left j (n + 1) (perform c x).cluster k)
    where
      go : (r : Reading) → read_record bytes i ≡ r
          → ((c : Call) (j : ℕ) → j ≤ length bytes → length (lines_from left bytes j (n + 1) (perform c x).cluster) ≤ 4 * (length bytes - j) + 24)
          → length (lines_from (suc left) bytes i n x) ≤ 4 * (length bytes - i) + 24
      go (Record c j) e f =
          let b = record_ends bytes i c j e in
          rw (at_record left bytes i n None x c j e).lines (simp length-append (omega (arith, line_short (n + 1) (row_of c x), f c j b.1, b)))
      go Bad e f = rw (at_bad left bytes i n None x e).lines (omega (arith, refused_short (n + 1) BadRecord))
      go End e f = rw (at_end left bytes i n None x e).lines (omega arith)

listing_short : (x : Cluster) (bytes : List ℕ) → length (listing x bytes) ≤ longest_listing
unfolding listing lines_unless header first
listing_short x bytes = go (well_formed x) (ltb 65535 (length bytes)) refl
  where
    go : (b c : Bool) → ltb 65535 (length bytes) ≡ c
        → length (header ++ lines_unless (first ((Malformed when not b) ∷ (TranscriptLength when c) ∷ [])) x bytes) ≤ longest_listing
    go false c e = omega (arith, refused_short 0 Malformed)
    go true true e = omega (arith, refused_short 0 TranscriptLength)
    go true false e = omega (arith, lines_short bytes (length bytes + 1) 0 0 x (omega arith), ltb-false 65535 (length bytes) e)

pub lists_all : (x : Cluster) (bytes : List ℕ) → ListsAll x bytes
unfolding replay replay_unless listing lines_unless
lists_all x bytes =
    record { tested = tested x bytes; refused = λ r e. (rw e, rw e); kinds = record_kind bytes; fits = listing_short x bytes }
