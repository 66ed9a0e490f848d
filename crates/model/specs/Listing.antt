-- The listing of a transcript, as bytes (document 01, "Transcripts and the desk program"): a header, and a line for each record of the run.
use Rattle.std.specs.Prelude.{List, [], ◌∷◌, ◌++◌, ℕ, zero, suc, ◌+◌, ◌/◌, ◌%◌, min, length, set, eqb, ltb, Ok}
use Rattle.model.specs.Lists.{pick}
use Rattle.model.specs.Names.{Cluster, Call, AcquireCall, ReleaseCall, DeliverCall, LoseCall, GiveUpCall, Refusal, BadRecord, Answer, Accepted, Refused}
use Rattle.model.specs.Names.{Record, Bad, End}
use Rattle.model.specs.States.{packets, lock_in}
use Rattle.model.specs.Refusals.{number, refusal_number, first}
use Rattle.model.specs.Calls.{perform, lock_of}
use Rattle.model.specs.Transcripts.{read_record, replay_tests}

-- A number below 100,000 in decimal: each digit by its code, and none before the first that counts.
abbrev pub digit : ℕ → ℕ
digit n = 48 + n % 10

unfoldable pub digit_of : ℕ → ℕ → List ℕ
digit_of d n = pick (ltb n d) [] (digit (n / d) ∷ [])

unfoldable pub decimal : ℕ → List ℕ
decimal n = digit_of 10000 n ++ (digit_of 1000 n ++ (digit_of 100 n ++ (digit_of 10 n ++ digit n ∷ [])))

-- a number and a blank: a column that others follow
abbrev pub column : ℕ → List ℕ
column n = decimal n ++ 32 ∷ []

-- "n kind answer wire" and a line's end
unfoldable pub header : List ℕ
header = 110 ∷ 32 ∷ 107 ∷ 105 ∷ 110 ∷ 100 ∷ 32 ∷ 97 ∷ 110 ∷ 115 ∷ 119 ∷ 101 ∷ 114 ∷ 32 ∷ 119 ∷ 105 ∷ 114 ∷ 101 ∷ 10 ∷ []

-- What a line tells of a record's step: its kind, its answer, and the packets then on the wire of its lock.
pub record Row : Type 0 where
  pub kind : ℕ
  pub answer : Answer
  pub wire : ℕ

-- the kind of the record that makes the call
abbrev pub kind_of : Call → ℕ
kind_of (AcquireCall l k t m) = 1
kind_of (ReleaseCall l k t) = 2
kind_of (DeliverCall l i) = 3
kind_of (LoseCall l i) = 6
kind_of (GiveUpCall l k t) = 7

abbrev pub row_of : Call → Cluster → Row
row_of c x = record { kind = kind_of c; answer = (perform c x).answer; wire = length (packets (lock_in (perform c x).cluster (lock_of c)).wire) }

-- For answer 1 there is no such lock, so no wire: a dash.
abbrev pub wire_column : ℕ → ℕ → List ℕ
wire_column a w = pick (eqb a 1) (45 ∷ []) (decimal w)

-- the line of the record with number n
unfoldable pub line_of : ℕ → Row → List ℕ
line_of n r = column n ++ (column r.kind ++ (column (number r.answer) ++ (wire_column (number r.answer) r.wire ++ 10 ∷ [])))

-- A run that is refused has a line with the number of the bad record, or 0, and its own number between dashes.
unfoldable pub refused_line : ℕ → Refusal → List ℕ
refused_line n r = column n ++ 45 ∷ 32 ∷ (column (refusal_number r) ++ 45 ∷ 10 ∷ [])

-- The lines from position i on, with n records read. The first number bounds the records that are left.
unfoldable pub lines_from : ℕ → List ℕ → ℕ → ℕ → Cluster → List ℕ
lines_from zero bytes i n x = []
lines_from (suc left) bytes i n x =
    elim (read_record bytes i) [
      | Record c j ↦ line_of (n + 1) (row_of c x) ++ lines_from left bytes j (n + 1) (perform c x).cluster
      | Bad ↦ refused_line (n + 1) BadRecord
      | End ↦ []
    ]

unfoldable pub lines_unless : Answer → Cluster → List ℕ → List ℕ
lines_unless (Refused r) x bytes = refused_line 0 r
lines_unless (Ok tt) x bytes = lines_from (length bytes + 1) bytes 0 0 x

-- The listing of a transcript that is run on x. The program's is that of a fresh cluster that prefers readers.
unfoldable pub listing : Cluster → List ℕ → List ℕ
listing x bytes = header ++ lines_unless (first (replay_tests x bytes)) x bytes

-- A buffer, and the position behind what is put into it. Bytes are put one behind the other; past its end a buffer keeps what it has (`set` there does
-- nothing), and the position stays at the end.
pub record Filled : Type 0 where
  pub bytes : List ℕ
  pub at : ℕ

abbrev pub filled : List ℕ → ℕ → Filled
filled o k = record { bytes = o; at = k }

unfoldable pub put : List ℕ → Filled → Filled
put [] f = f
put (b ∷ bs) f = put bs (filled (set f.bytes f.at b) (min (length f.bytes) (suc f.at)))
