-- Why a client waits (the model's Reasons). Where it waits, one reason is true of it; and the search tries all that can be true, so it comes to that one.
use Rattle.std.specs.Prelude.{◌≡◌, ◌∷◌, ◌+◌, ◌≤◌, Ok}
use Rattle.std.proofs.Math.Logic.{inl, inr}
use Rattle.theorems.specs.Names.{ClientId, Mode, Exclusive, Shared, Status, Idle, Waiting, Holding, LockState}
use Rattle.theorems.specs.Names.{Call, Refusal, Answer, Accepted, Refused, NotWaiting, Reason, Requested, Granted, Rejected, Queued, Carried, GrantLost}
use Rattle.theorems.specs.Names.{ReasonAnswer, Because, NoReason, refl, sym, ap, ◌∙◌, Bool, true, false≢true, List, [], ℕ}
use Rattle.theorems.specs.Names.{arith, get_or, status_of, lock_in, after, phase_after}
use Rattle.theorems.specs.Names.{client_of, bool_cases, is_true}
use Rattle.theorems.specs.Names.{reasons_in, first_true, is_waiting, reason_in, reason_number, reason_values, refusal_number}
use Rattle.theorems.specs.Names.{is_accepted}
use Rattle.theorems.specs.Tally.{flag, tally}
use Rattle.theorems.specs.Weights.{wait_f, same_mode, note_at, note_f}
use Rattle.theorems.specs.Invariant.{Inv}
use Rattle.theorems.specs.ReasonWeights.{passing, true_in, reasons_are}
use Rattle.theorems.specs.Runs.{reached}
use Rattle.theorems.specs.Theorems.{numbered, trace_agrees}
use Rattle.theorems.specs.Statements.{ReasonsNumbered, Searches, Explained, WhereIsMyRequest}
use Rattle.theorems.specs.ReasonOrder.{Among, is_because, because, tried, found_true, Finds, found_later, asked}

-- ---- what is among a list
module _ {A : Type 0} where
  among_passes : (t : A → Bool) (r : A) (xs : List A) → Among r xs → t r ≡ true → 1 ≤ passing t xs
  unfolding Among tally
  among_passes t r [] h e = absurd h
  among_passes t r (x ∷ xs) (inl q) e = omega (arith, ap flag (ap t (sym q) ∙ e))
  among_passes t r (x ∷ xs) (inr h) e = omega (arith, among_passes t r xs h e)

-- ---- the search
module _ (s : LockState) (c : ClientId) where
  -- of one that is true, if no other is
  only_found : (rs : List Reason) (r : Reason) → true_in s c rs ≤ 1 → Among r rs → is_true s c r ≡ true → first_true s c rs ≡ Because r
  unfolding first_true Among tally
  only_found [] r b h e = absurd h
  only_found (q ∷ rs) r b (inl same) e = rw (sym same, e)
  only_found (q ∷ rs) r b (inr h) e =
      bool_cases (is_true s c q)
      (λ t. absurd (omega (arith, b, ap flag t, among_passes (is_true s c) r rs h e)))
      (λ t. rw t (only_found rs r (omega (arith, b)) h e))

  -- one is found where any is true
  some_found : (rs : List Reason) → 1 ≤ true_in s c rs → Finds s c rs
  unfolding first_true tally
  some_found [] b = absurd (omega (arith, b))
  some_found (q ∷ rs) b =
      bool_cases (is_true s c q) (λ t. (q, rw t)) (λ t. found_later s c q rs t (some_found rs (omega (arith, b, ap flag t))))

-- ---- the statements
waiting_searched : (s : LockState) (c : ClientId) (m : Mode) → status_of s c ≡ Waiting m → reason_in s c ≡ first_true s c (reasons_in s)
unfolding reason_in
waiting_searched s c m e = rw e

pub searches : (s : LockState) (c : ClientId) → Searches s c
unfolding reason_in
searches s c = record { sound = sound; complete = complete }
  where
    sound : (r : Reason) → reason_in s c ≡ Because r → is_true s c r ≡ true
    sound r e = bool_cases (is_waiting (status_of s c)) (λ w. found_true s c (reasons_in s) r (rw w at e))
        (λ w. absurd (false≢true (ap is_because (rw w at e))))

    complete : (m : Mode) (r : Reason) → status_of s c ≡ Waiting m → is_true s c r ≡ true → reason_number (reason_in s c) ≡ 0
    complete m r w h =
        let f = some_found s c (reasons_in s) (among_passes (is_true s c) r (reasons_in s) (tried s c r h) h) in
        rw (waiting_searched s c m w, f.1)

-- exactly one, of a state that keeps the invariant
one_true : (s : LockState) (c : ClientId) (m : Mode) → Inv s → status_of s c ≡ Waiting m → true_in s c (reasons_in s) ≡ 1
unfolding wait_f
one_true s c m i w =
    omega (
      arith,
      reasons_are s c,
      i.asks c.0 Exclusive,
      i.asks c.0 Shared,
      note_apart (note_at s c.0),
      i.most c.0,
      ap (wait_f Exclusive) w,
      ap (wait_f Shared) w,
      once m,
    )
  where
    note_apart : (b : Bool) → note_f Exclusive b + note_f Shared b ≡ flag b
    note_apart b = unfold note_f in omega arith

    once : (m : Mode) → flag (same_mode m Exclusive) + flag (same_mode m Shared) ≡ 1
    once Exclusive = refl
    once Shared = refl

explained : (s : LockState) (c : ClientId) (m : Mode) → Inv s → status_of s c ≡ Waiting m → Explained s c (reason_in s c)
explained s c m i w =
    let one = one_true s c m i w in
    let f = some_found s c (reasons_in s) (omega (arith, one)) in
    record {
      why = f.0;
      holds = found_true s c (reasons_in s) f.0 f.1;
      only = λ r h. ap (because r) (sym (only_found s c (reasons_in s) r (omega (arith, one)) (tried s c r h) h) ∙ f.1);
      given = waiting_searched s c m w ∙ f.1;
      answered = ap reason_number (waiting_searched s c m w ∙ f.1);
    }

others_are : (s : LockState) (c : ClientId) (st : Status) → status_of s c ≡ st → ((m : Mode) → st ≡ Waiting m → ⊥) → reason_number (reason_in s c) ≡ 15
unfolding reason_in
others_are s c Idle e h = rw e
others_are s c (Waiting m) e h = absurd (h m refl)
others_are s c (Holding m) e h = rw e

pub where_is : (n : ℕ) (cs : List Call) → WhereIsMyRequest n cs
where_is n cs l k t lb kb tb =
    let s : LockState = lock_in (after n cs) l in
    let c : ClientId = client_of k t in
    let is = asked (after n cs) l k t (reached n cs).formed lb kb tb in
    let agrees = trace_agrees n cs l c in
    record {
      waiting = λ m w. rw is (explained s c m ((reached n cs).invs l) (agrees ∙ w));
      others = λ h. rw is (others_are s c (phase_after n l c cs) agrees h);
    }

-- ---- the numbers: a reason is what its values say
from_values : List ℕ → Reason
from_values vs =
    let at : ℕ = get_or vs 1 0 in
    let ahead : ℕ = get_or vs 2 0 in
    get_or
    (Requested 0 ∷ Requested at ∷ Granted at ∷ Rejected at ∷ Queued (record { 0 = at }) ahead ∷ Carried at ahead ∷ GrantLost ∷ []) (get_or vs 0 0) (Requested 0)

values_stand : (r : Reason) → from_values (reason_values (Because r)) ≡ r
unfolding from_values
values_stand (Requested i) = refl
values_stand (Granted i) = refl
values_stand (Rejected i) = refl
values_stand (Queued k n) = refl
values_stand (Carried i n) = refl
values_stand GrantLost = refl

no_zero : (r : Refusal) → refusal_number r ≡ 0 → ⊥
no_zero r e = false≢true (ap is_accepted (numbered.accepts (Refused r) e))

abbrev refused_with : Answer → ReasonAnswer
refused_with (Ok tt) = NoReason NotWaiting
refused_with (Refused r) = NoReason r

pub reasons_numbered : ReasonsNumbered
reasons_numbered = record { apart = apart; gives = gives }
  where
    apart : (a b : ReasonAnswer) → reason_number a ≡ reason_number b → reason_values a ≡ reason_values b → a ≡ b
    apart (Because r) (Because q) n v = ap Because (sym (values_stand r) ∙ ap from_values v ∙ values_stand q)
    apart (Because r) (NoReason q) n v = absurd (no_zero q (sym n))
    apart (NoReason r) (Because q) n v = absurd (no_zero r n)
    apart (NoReason r) (NoReason q) n v = ap refused_with (numbered.apart (Refused r) (Refused q) n)

    gives : (a : ReasonAnswer) → reason_number a ≡ 0 → (r : Reason) × (a ≡ Because r)
    gives (Because r) e = (r, refl)
    gives (NoReason r) e = absurd (no_zero r e)
