-- Transcripts: bytes that are a row of records, each a call (document 01, "Transcripts and the desk program").
use Rattle.std.specs.Prelude.{◌&&◌, not, List, [], ◌∷◌, ℕ, zero, suc, ◌+◌, ◌-◌, ◌*◌, length, get_or, eqb, leb, ltb, Option, Ok}
use Rattle.model.specs.Lists.{pick}
use Rattle.model.specs.Names.{Cluster, Call, AcquireCall, ReleaseCall, DeliverCall, LoseCall, GiveUpCall, Malformed, BadRecord, TranscriptLength}
use Rattle.model.specs.Names.{Answer, Accepted, Refused, Handling, None, Reading, Record, Bad, End, Replayed}
use Rattle.model.specs.WellFormed.{well_formed}
use Rattle.model.specs.Refusals.{Cause, ◌when◌, first}
use Rattle.model.specs.Calls.{perform, latest}

-- a number in two bytes, the low one first
abbrev pub short : List ℕ → ℕ → ℕ
short bytes i = get_or bytes i 0 + 256 * get_or bytes (i + 1) 0

abbrev pub byte_at : List ℕ → ℕ → ℕ
byte_at bytes i = get_or bytes i 0

-- A record begins with its length and its kind, two bytes each. Its fields follow, a byte each, in the order of the call's arguments.
abbrev pub acquire_at : List ℕ → ℕ → Call
acquire_at bytes i =
    AcquireCall (record { 0 = byte_at bytes (i + 4) }) (record { 0 = byte_at bytes (i + 5) }) (record { 0 = byte_at bytes (i + 6) }) (byte_at bytes (i + 7))

abbrev pub release_at : List ℕ → ℕ → Call
release_at bytes i = ReleaseCall (record { 0 = byte_at bytes (i + 4) }) (record { 0 = byte_at bytes (i + 5) }) (record { 0 = byte_at bytes (i + 6) })

abbrev pub deliver_at : List ℕ → ℕ → Call
deliver_at bytes i = DeliverCall (record { 0 = byte_at bytes (i + 4) }) (byte_at bytes (i + 5))

abbrev pub lose_at : List ℕ → ℕ → Call
lose_at bytes i = LoseCall (record { 0 = byte_at bytes (i + 4) }) (byte_at bytes (i + 5))

abbrev pub give_up_at : List ℕ → ℕ → Call
give_up_at bytes i = GiveUpCall (record { 0 = byte_at bytes (i + 4) }) (record { 0 = byte_at bytes (i + 5) }) (record { 0 = byte_at bytes (i + 6) })

-- a record of n bytes, where so many are left and its length says so
abbrev pub whole_record : ℕ → List ℕ → ℕ → Call → Reading
whole_record n bytes i c = pick (eqb (short bytes i) n && leb n (length bytes - i)) (Record c (i + n)) Bad

-- What stands at position i; past the last byte, the end. Bad are too few bytes for a length and a kind, a kind that is none, a length that is not
-- its kind's, and a record that is cut off.
unfoldable pub read_record : List ℕ → ℕ → Reading
read_record bytes i =
    pick (leb (length bytes) i) End
    (pick (ltb (length bytes - i) 4) Bad
    (pick (eqb (short bytes (i + 2)) 1) (whole_record 8 bytes i (acquire_at bytes i))
    (pick (eqb (short bytes (i + 2)) 2) (whole_record 7 bytes i (release_at bytes i))
    (pick (eqb (short bytes (i + 2)) 3) (whole_record 6 bytes i (deliver_at bytes i))
    (pick (eqb (short bytes (i + 2)) 6) (whole_record 6 bytes i (lose_at bytes i))
    (pick (eqb (short bytes (i + 2)) 7) (whole_record 7 bytes i (give_up_at bytes i)) Bad))))))

-- What a reading gives the run. A record has no number of its own: its call is run, whatever that answers, and the run goes on at the position behind it.
-- The other two end the run with an answer (a bad record's number is 12, the end's is 0) and add so many to the records counted.
pub data Given : Type 0 where
  goes_on : Call → ℕ → Given
  ends : Answer → ℕ → Given

abbrev pub given : Reading → Given
given (Record c j) = goes_on c j
given Bad = ends (Refused BadRecord) 1
given End = ends Accepted 0

abbrev pub replayed : Answer → ℕ → Option Handling → Cluster → Replayed
replayed a n h x = record { answer = a; records = n; handling = h; cluster = x }

-- From position i on, with n records read and the last handling that they told. The first number bounds the records that are left.
unfoldable pub replay_from : ℕ → List ℕ → ℕ → ℕ → Option Handling → Cluster → Replayed
replay_from zero bytes i n h x = replayed Accepted n h x
replay_from (suc left) bytes i n h x =
    elim (given (read_record bytes i)) [
      | goes_on c j ↦ replay_from left bytes j (n + 1) (latest h (perform c x).handling) (perform c x).cluster
      | ends a counted ↦ replayed a (n + counted) h x
    ]

unfoldable pub replay_unless : Answer → Cluster → List ℕ → Replayed
replay_unless (Refused r) x bytes = replayed (Refused r) 0 None x
replay_unless (Ok tt) x bytes = replay_from (length bytes + 1) bytes 0 0 None x

-- Two tests come before any record.
abbrev pub replay_tests : Cluster → List ℕ → List Cause
replay_tests x bytes = (Malformed when not (well_formed x)) ∷ (TranscriptLength when ltb 65535 (length bytes)) ∷ []

unfoldable pub replay : Cluster → List ℕ → Replayed
replay x bytes = replay_unless (first (replay_tests x bytes)) x bytes

-- The calls of the records from position i on, until a bad one or the end; of a whole transcript, in which each takes some of the bytes.
unfoldable pub calls_from : ℕ → List ℕ → ℕ → List Call
calls_from zero bytes i = []
calls_from (suc left) bytes i = elim (read_record bytes i) [ Record c j ↦ c ∷ calls_from left bytes j | Bad ↦ [] | End ↦ [] ]

abbrev pub calls_of : List ℕ → List Call
calls_of bytes = calls_from (length bytes) bytes 0
