-- How many calls of a transcript are accepted, and the number that a question for a reason is answered.
use Rattle.std.specs.Prelude.{ℕ, ◌+◌, ◌/◌, ◌%◌, List, [], ◌∷◌}
use Rattle.model.specs.declared.Cluster.{Cluster}
use Rattle.model.specs.Names.{Answer, Ok, Refused}
use Rattle.model.specs.Calls.{answers_of, fresh}
use Rattle.model.specs.Transcripts.{calls_of}
use Rattle.model.specs.Reasons.{reason, reason_number}

abbrev pub accepted_one : Answer → ℕ
accepted_one (Ok tt) = 1
accepted_one (Refused r) = 0

unfoldable pub count_accepted : List Answer → ℕ
count_accepted [] = 0
count_accepted (a ∷ later) = accepted_one a + count_accepted later

-- the accepted calls of a transcript from a fresh cluster
abbrev pub accepted_calls : List ℕ → ℕ
accepted_calls bytes = count_accepted (answers_of (calls_of bytes) (fresh 0).cluster)

-- of this lock and client
abbrev pub answered : Cluster → ℕ → ℕ → ℕ
answered x l c = reason_number (reason x (record { 0 = l }) (record { 0 = c / 4 }) (record { 0 = c % 4 }))
