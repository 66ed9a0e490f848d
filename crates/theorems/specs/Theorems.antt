-- The proofs of the statements: the numbers, then for every list of calls.
use Rattle.std.specs.Prelude.{◌≡◌, ◌∷◌, Ok, Err}
use Rattle.model.specs.declared.{Mode.Mode, Mode.TheVariants.{Exclusive, Shared}}
use Rattle.model.specs.Names.{ReasonAnswer}
use Rattle.model.specs.States.{mode_of, mode_number}
use Rattle.model.specs.Reasons.{reason_number}
use Rattle.laws.specs.CallSteps.{perform_elsewhere}
use Rattle.theorems.specs.Names.{LockState, Cluster, Call, Answer, refl, sym, ap, ◌∙◌, true, List, [], ℕ, all, lock_in, fresh, answers_of}
use Rattle.theorems.specs.Names.{after, perform, number, unseen, both, map, get_or, Accepted, Refused, Malformed, LockRange, MachineRange, TaskRange}
use Rattle.theorems.specs.Names.{ModeRange, NotIdle, StillNamed, NotHolding, IndexRange, CannotPlace, WireFull, BadRecord, TranscriptLength}
use Rattle.theorems.specs.Names.{NotQuiescent, NotWaiting, PreferenceRange, CannotGiveUp, CannotLose, ClientState, LockId, ClientId, watch}
use Rattle.theorems.specs.Facts.{wire_bound}
use Rattle.theorems.specs.Fresh.{clients_idle}
use Rattle.theorems.specs.Exclusion.{one_exclusive}
use Rattle.theorems.specs.Runs.{Reached, lock_fresh, reached_fresh, reached_next, reached, number_early}
use Rattle.theorems.specs.Traced.{agrees, as_seen}
use Rattle.theorems.specs.Weights.{client_in}
use Rattle.theorems.specs.Statements.{Numbered, StaysFormed, NeverRefusedInside, WireBounded, OthersUntouched, Exclusion, TraceAgrees, ExclusionOfTrace}
use Rattle.theorems.specs.Statements.{proved_bound, from_tests, NotesAgree, OthersUntouchedOnAny}

-- the answers in the order of their numbers
abbrev table : List Answer
table =
    Accepted
    ∷ map Refused
    (LockRange ∷ MachineRange ∷ TaskRange ∷ ModeRange ∷ NotIdle ∷ StillNamed ∷ NotHolding ∷ IndexRange ∷ CannotPlace ∷ WireFull ∷ Malformed ∷ BadRecord
    ∷ TranscriptLength ∷ NotQuiescent ∷ NotWaiting ∷ PreferenceRange ∷ CannotGiveUp ∷ CannotLose ∷ [])

stands : (a : Answer) → get_or table (number a) Accepted ≡ a
stands (Ok tt) = refl
stands (Refused Malformed) = refl
stands (Refused LockRange) = refl
stands (Refused MachineRange) = refl
stands (Refused TaskRange) = refl
stands (Refused ModeRange) = refl
stands (Refused NotIdle) = refl
stands (Refused StillNamed) = refl
stands (Refused NotHolding) = refl
stands (Refused IndexRange) = refl
stands (Refused CannotPlace) = refl
stands (Refused WireFull) = refl
stands (Refused BadRecord) = refl
stands (Refused TranscriptLength) = refl
stands (Refused NotQuiescent) = refl
stands (Refused NotWaiting) = refl
stands (Refused PreferenceRange) = refl
stands (Refused CannotGiveUp) = refl
stands (Refused CannotLose) = refl

numbers_apart : (a b : Answer) → number a ≡ number b → a ≡ b
numbers_apart a b e = sym (stands a) ∙ ap (λ (n : ℕ). get_or table n Accepted) e ∙ stands b

-- a mode is read back from its number
pub mode_back : (m : Mode) → mode_of (mode_number m) ≡ m
mode_back Exclusive = refl
mode_back Shared = refl

-- and what the question for the reason is answered has one number, by either definition
pub one_number : (a : ReasonAnswer) → number a ≡ reason_number a
one_number (Ok r) = refl
one_number (Err r) = refl

pub numbered : Numbered
numbered = record { apart = numbers_apart; accepts = λ a e. numbers_apart a Accepted e }

-- the number that README gives for the drain's bound
pub proved_bound_is : proved_bound ≡ 706
proved_bound_is = refl

pub stays_formed : (n : ℕ) (cs : List Call) → StaysFormed n cs
stays_formed n cs = (reached n cs).formed

answers_below : (cs : List Call) (x : Cluster) → Reached x → all from_tests (answers_of cs x) ≡ true
answers_below [] x h = refl
answers_below (a ∷ cs) x h = both (from_tests (perform a x).answer) _ (number_early a x h) (answers_below cs (perform a x).cluster (reached_next a x h))

pub never_refused_inside : (n : ℕ) (cs : List Call) → NeverRefusedInside n cs
never_refused_inside n cs = answers_below cs (fresh n).cluster (reached_fresh n)

pub wire_bounded : (n : ℕ) (cs : List Call) → WireBounded n cs
wire_bounded n cs l = wire_bound (lock_in (after n cs) l) ((reached n cs).invs l)

pub others_untouched : (n : ℕ) (cs : List Call) → OthersUntouched n cs
others_untouched n cs a l other = perform_elsewhere a (after n cs) l other

pub others_untouched_on_any : (x : Cluster) → OthersUntouchedOnAny x
others_untouched_on_any x a l other = perform_elsewhere a x l other

pub exclusion : (n : ℕ) (cs : List Call) → Exclusion n cs
exclusion n cs l c d m other hc hd = one_exclusive (lock_in (after n cs) l) ((reached n cs).invs l) c.0 d.0 m other hc hd

pub as_seen_lem : (n : ℕ) (cs : List Call) (l : LockId) (c : ClientId) → as_seen (watch l c cs (fresh n).cluster unseen)
    ≡ client_in (lock_in (after n cs) l) c.0
as_seen_lem n cs l c =
    agrees cs l c (fresh n).cluster unseen (reached_fresh n) (sym (ap (λ (s : LockState). client_in s c.0) (lock_fresh n l) ∙ clients_idle c.0))

pub trace_agrees : (n : ℕ) (cs : List Call) → TraceAgrees n cs
trace_agrees n cs l c = sym (ap (λ (x : ClientState). x.status) (as_seen_lem n cs l c))

pub notes_agree : (n : ℕ) (cs : List Call) → NotesAgree n cs
notes_agree n cs l c = sym (ap (λ (x : ClientState). x.lost) (as_seen_lem n cs l c))

pub exclusion_of_trace : (n : ℕ) (cs : List Call) → ExclusionOfTrace n cs
exclusion_of_trace n cs l c d m other hc hd = exclusion n cs l c d m other (trace_agrees n cs l c ∙ hc) (trace_agrees n cs l d ∙ hd)
