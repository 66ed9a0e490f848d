-- Answers, and the numbers by which they are known (document 01, "Zero and the refusals").
use Rattle.std.specs.Prelude.{Bool, true, false, List, [], ◌∷◌, ℕ, Ok, Err, Result}
use Rattle.model.specs.Names.{Refusal, Malformed, LockRange, MachineRange, TaskRange, ModeRange, NotIdle, StillNamed, NotHolding, IndexRange}
use Rattle.model.specs.Names.{CannotPlace, WireFull, BadRecord, TranscriptLength, NotQuiescent, NotWaiting, PreferenceRange, CannotGiveUp, CannotLose}
use Rattle.model.specs.Names.{Answer, Accepted, Refused}

abbrev pub refusal_number : Refusal → ℕ
-- the cluster is not well formed
refusal_number Malformed = 11
-- there is no such lock
refusal_number LockRange = 1
-- there is no such machine
refusal_number MachineRange = 2
-- a machine has no such task
refusal_number TaskRange = 3
-- a request is exclusive or shared
refusal_number ModeRange = 4
-- the client waits for this lock or holds it already
refusal_number NotIdle = 5
-- something of its last use is still under way
refusal_number StillNamed = 6
-- only a holder can release
refusal_number NotHolding = 7
-- no packet has this index
refusal_number IndexRange = 8
-- a rule has no place for what comes
refusal_number CannotPlace = 9
-- the wire is too short for what is sent
refusal_number WireFull = 10
-- what stands here is no record
refusal_number BadRecord = 12
-- the transcript is too long
refusal_number TranscriptLength = 13
-- the drain has no step left, and the lock is not quiescent
refusal_number NotQuiescent = 14
-- the client does not wait for this lock, or no reason for it is found
refusal_number NotWaiting = 15
-- a preference is for readers or for writers
refusal_number PreferenceRange = 16
-- only who waits can give up
refusal_number CannotGiveUp = 17
-- only a GRANT without agent that is on its way to a machine can be lost
refusal_number CannotLose = 18

-- 0 is the number of Accepted alone; and of what else a call gives where it refuses nothing.
abbrev pub number : {A : Type 0} → Result A Refusal → ℕ
number (Ok x) = 0
number (Err r) = refusal_number r

infixl 20 ◌when◌
-- A refusal with its cause. Of the causes of a call, in their order, the first that holds decides; where none holds, the call is accepted.
pub data Cause : Type 0 where
  ◌when◌ : Refusal → Bool → Cause

unfoldable pub first : List Cause → Answer
first [] = Accepted
first ((r when true) ∷ cs) = Refused r
first ((r when false) ∷ cs) = first cs
