-- A call on a well-formed cluster, by cases: refused by a test, or every test passed and the call is its step on one lock.
use Rattle.std.specs.Prelude.{◌≡◌, refl, Bool, true, false, ◌&&◌, ◌||◌, not, List, [], ◌∷◌, ℕ, ◌+◌, ◌<◌, ◌≤◌, length, eqb, leb, Option, Ok}
use Rattle.std.proofs.Common.{sym, ap, ◌∙◌, true≢false, arith, get_or-set_same, get_or-set_other, eqb-true, leb-false}
use Rattle.std.proofs.lemmas.Bool.{false≢true, not-false}
use Rattle.model.specs.Lists.{any, all, removed}
use Rattle.laws.specs.Names.{LockId, MachineId, TaskId, ClientId, Mode, Packet, Status, Idle, Waiting, Holding, LockState, Cluster, Call, AcquireCall}
use Rattle.laws.specs.Names.{ReleaseCall, DeliverCall, LoseCall, GiveUpCall, Refusal, Malformed, Answer, Accepted, Refused, Handling, None, Stepped}
use Rattle.laws.specs.Names.{Outcome}
use Rattle.model.specs.States.{client_of, mode_of, mode_number, status_of, packets, lock_in, fresh_lock, locks, machines, tasks, wire_capacity, is_waiting}
use Rattle.model.specs.WellFormed.{well_formed}
use Rattle.model.specs.Changes.{Verdict, cannot_place, does, refused, finish, told_by, telling}
use Rattle.model.specs.Refusals.{refusal_number, Cause, ◌when◌, first}
use Rattle.model.specs.Calls.{is_idle, is_holding, names, acquire_step, release_step, takes, deliver_step, refusing, settled, unless, acquire, release, deliver}
use Rattle.model.specs.Calls.{lose, give_up, perform, lock_of, give_up_step, drops, lose_step, can_be_lost, packet_at}
use Rattle.laws.specs.Tests.{and_left, and_right, bool_cases, pick_by}
use Rattle.laws.specs.Formed.{cells}

-- ---- a call's step on its lock's state, in a cluster with the preference n
abbrev pub step_of : ℕ → Call → LockState → Stepped
step_of n (AcquireCall l k t m) s = acquire_step n s (client_of k t) (mode_of m)
step_of n (ReleaseCall l k t) s = release_step n s (client_of k t)
step_of n (DeliverCall l i) s = deliver_step n s i
step_of n (LoseCall l i) s = lose_step n s i
step_of n (GiveUpCall l k t) s = give_up_step n s (client_of k t)

-- in its cluster
abbrev pub step_in : Call → Cluster → Stepped
step_in c x = step_of x.preference c (lock_in x (lock_of c))

-- the step's outcome, put back into the cluster
abbrev pub outcome_of : Call → Cluster → Outcome
outcome_of c x = settled (step_in c x).answer x (lock_of c) (step_in c x)

-- what the passed tests say of the lock's state
pub data Allowed : Call → LockState → Type 0 where
  may_acquire : {l : LockId} {k : MachineId} {t : TaskId} {m : ℕ} {s : LockState} → k.0 < machines → t.0 < tasks → mode_number (mode_of m) ≡ m
      → status_of s (client_of k t) ≡ Idle → any (names (client_of k t)) (packets s.wire) ≡ false → Allowed (AcquireCall l k t m) s
  may_release : {l : LockId} {k : MachineId} {t : TaskId} {s : LockState} → k.0 < machines → t.0 < tasks → (n : Mode) → status_of s (client_of k t) ≡ Holding n
      → Allowed (ReleaseCall l k t) s
  may_deliver : {l : LockId} {i : ℕ} {s : LockState} → i < length (packets s.wire) → Allowed (DeliverCall l i) s
  may_lose : {l : LockId} {i : ℕ} {s : LockState} → i < length (packets s.wire) → can_be_lost (packet_at s i) ≡ true → Allowed (LoseCall l i) s
  may_give_up : {l : LockId} {k : MachineId} {t : TaskId} {s : LockState} → k.0 < machines → t.0 < tasks → (n : Mode) → status_of s (client_of k t) ≡ Waiting n
      → Allowed (GiveUpCall l k t) s

-- the refusals that a test gives: 1 to 8, 17 and 18
abbrev pub is_early : ℕ → Bool
is_early n = (leb 1 n && leb n 8) || (eqb n 17 || eqb n 18)

pub data CallCases (c : Call) (x : Cluster) : Type 0 where
  denied : (r : Refusal) → is_early (refusal_number r) ≡ true → perform c x ≡ refusing r x → CallCases c x
  passed : (lock_of c).0 < locks → Allowed c (lock_in x (lock_of c)) → perform c x ≡ outcome_of c x → CallCases c x

-- ---- the first cause that holds
abbrev NoneHolds : List Cause → Type 0
NoneHolds [] = Unit {0}
NoneHolds ((r when b) ∷ cs) = (b ≡ false) × NoneHolds cs

abbrev early : Cause → Bool
early (r when b) = is_early (refusal_number r)

data Tested (cs : List Cause) : Type 0 where
  stops : (r : Refusal) → early (r when true) ≡ true → first cs ≡ Refused r → Tested cs
  goes_on : NoneHolds cs → first cs ≡ Accepted → Tested cs

tested : (cs : List Cause) → all early cs ≡ true → Tested cs
unfolding first
tested [] e = goes_on tt refl
tested ((r when true) ∷ cs) e = stops r (and_left (early (r when true)) _ e) refl
tested ((r when false) ∷ cs) e = go (tested cs (and_right (early (r when false)) _ e))
  where
    go : Tested cs → Tested ((r when false) ∷ cs)
    go (stops q h f) = stops q h f
    go (goes_on n f) = goes_on (refl, n) f

-- with every cause false, the call is its step
cases_by : (c : Call) (x : Cluster) (cs : List Cause) → well_formed x ≡ true → all early cs ≡ true
    → perform c x ≡ unless (first ((Malformed when not (well_formed x)) ∷ cs)) x (lock_of c) (step_in c x)
    → (NoneHolds cs → ((lock_of c).0 < locks) × Allowed c (lock_in x (lock_of c))) → CallCases c x
unfolding first unless
cases_by c x cs w e q g = go (tested cs e)
  where
    go : Tested cs → CallCases c x
    go (stops r h f) = denied r h (q ∙ rw (w, f))
    go (goes_on n f) = passed (g n).0 (g n).1 (q ∙ rw (w, f))

is_idle_lem : (st : Status) → not (is_idle st) ≡ false → st ≡ Idle
is_idle_lem Idle e = refl
is_idle_lem (Waiting m) e = absurd (true≢false e)
is_idle_lem (Holding m) e = absurd (true≢false e)

pub holds : (st : Status) → is_holding st ≡ true → (n : Mode) × (st ≡ Holding n)
holds Idle e = absurd (false≢true e)
holds (Waiting m) e = absurd (false≢true e)
holds (Holding m) e = (m, refl)

pub waits : (st : Status) → is_waiting st ≡ true → (n : Mode) × (st ≡ Waiting n)
waits Idle e = absurd (false≢true e)
waits (Waiting m) e = (m, refl)
waits (Holding m) e = absurd (false≢true e)

mode_number_lem : (m : ℕ) → not (eqb m 2 || eqb m 3) ≡ false → mode_number (mode_of m) ≡ m
mode_number_lem m e =
    pick_by (λ (n : Mode). mode_number n ≡ m) (eqb m 2) (λ q. sym (eqb-true m 2 q)) (λ q. sym (eqb-true m 3 (rw q at (not-false (eqb m 2 || eqb m 3) e))))

pub call_cases : (c : Call) (x : Cluster) → well_formed x ≡ true → CallCases c x
unfolding perform acquire release deliver lose give_up
call_cases (AcquireCall l k t m) x w =
    cases_by (AcquireCall l k t m) x _ w refl refl (λ n. (
      leb-false locks _ n.0,
      may_acquire (leb-false machines _ n.1.0) (leb-false tasks _ n.1.1.0) (mode_number_lem m n.1.1.1.0)
          (is_idle_lem _ n.1.1.1.1.0) n.1.1.1.1.1.0,
    ))
call_cases (ReleaseCall l k t) x w =
    cases_by (ReleaseCall l k t) x _ w refl refl (λ n.
    let h = holds _ (not-false _ n.1.1.1.0) in
    (leb-false locks _ n.0, may_release (leb-false machines _ n.1.0) (leb-false tasks _ n.1.1.0) h.0 h.1))
call_cases (DeliverCall l i) x w = cases_by (DeliverCall l i) x _ w refl refl (λ n. (leb-false locks _ n.0, may_deliver (leb-false _ i n.1.0)))
call_cases (LoseCall l i) x w =
    cases_by (LoseCall l i) x _ w refl refl (λ n. (leb-false locks _ n.0, may_lose (leb-false _ i n.1.0) (not-false _ n.1.1.0)))
call_cases (GiveUpCall l k t) x w =
    cases_by (GiveUpCall l k t) x _ w refl refl (λ n.
    let h = waits _ (not-false _ n.1.1.1.0) in
    (leb-false locks _ n.0, may_give_up (leb-false machines _ n.1.0) (leb-false tasks _ n.1.1.0) h.0 h.1))

-- ---- the frame: of other locks, and of the call's own
settled_elsewhere : (a : Answer) (x : Cluster) (l : LockId) (t : Stepped) (j : LockId) → (j.0 ≡ l.0 → ⊥) → lock_in (settled a x l t).cluster j ≡ lock_in x j
unfolding settled
settled_elsewhere (Ok tt) x l t j n = get_or-set_other x.locks l.0 j.0 t.state fresh_lock n
settled_elsewhere (Refused r) x l t j n = refl

unless_elsewhere : (a : Answer) (x : Cluster) (l : LockId) (t : Stepped) (j : LockId) → (j.0 ≡ l.0 → ⊥) → lock_in (unless a x l t).cluster j ≡ lock_in x j
unfolding unless
unless_elsewhere (Ok tt) x l t j n = settled_elsewhere t.answer x l t j n
unless_elsewhere (Refused r) x l t j n = refl

-- and no call changes the preference
settled_preference : (a : Answer) (x : Cluster) (l : LockId) (t : Stepped) → (settled a x l t).cluster.preference ≡ x.preference
unfolding settled
settled_preference (Ok tt) x l t = refl
settled_preference (Refused r) x l t = refl

unless_preference : (a : Answer) (x : Cluster) (l : LockId) (t : Stepped) → (unless a x l t).cluster.preference ≡ x.preference
unfolding unless
unless_preference (Ok tt) x l t = settled_preference t.answer x l t
unless_preference (Refused r) x l t = refl

pub perform_preference : (c : Call) (x : Cluster) → (perform c x).cluster.preference ≡ x.preference
unfolding perform acquire release deliver lose give_up
perform_preference (AcquireCall l k t m) x = unless_preference _ x l _
perform_preference (ReleaseCall l k t) x = unless_preference _ x l _
perform_preference (DeliverCall l i) x = unless_preference _ x l _
perform_preference (LoseCall l i) x = unless_preference _ x l _
perform_preference (GiveUpCall l k t) x = unless_preference _ x l _

pub perform_elsewhere : (c : Call) (x : Cluster) (j : LockId) → (j.0 ≡ (lock_of c).0 → ⊥) → lock_in (perform c x).cluster j ≡ lock_in x j
unfolding perform acquire release deliver lose give_up
perform_elsewhere (AcquireCall l k t m) x j n = unless_elsewhere _ x l _ j n
perform_elsewhere (ReleaseCall l k t) x j n = unless_elsewhere _ x l _ j n
perform_elsewhere (DeliverCall l i) x j n = unless_elsewhere _ x l _ j n
perform_elsewhere (LoseCall l i) x j n = unless_elsewhere _ x l _ j n
perform_elsewhere (GiveUpCall l k t) x j n = unless_elsewhere _ x l _ j n

-- a refused step leaves the state as it was, and tells no handling
finish_refused : (k : MachineId) (c : ClientId) (w : Verdict) (rest : List Packet) (s : LockState) (r : Refusal) → (finish k c w rest s).answer ≡ Refused r
    → finish k c w rest s ≡ refused r s
unfolding finish
finish_refused k c w rest s r e = go w e
  where
    by_answer : {a : Answer} → a ≡ Refused r → record { answer = a; handling = None; state = s } ≡ refused r s
    by_answer z = ap (λ (a : Answer). record { answer = a; handling = None; state = s }) z

    go : (w : Verdict) → (finish k c w rest s).answer ≡ Refused r → finish k c w rest s ≡ refused r s
    go cannot_place e = by_answer e
    go (does v qs) e =
        pick_by (λ (t : Stepped). t.answer ≡ Refused r → t ≡ refused r s) (leb (length rest + length qs) wire_capacity) (λ q z. cc) (λ q z. by_answer z) e

-- a rule by itself tells none
pub finish_tells : (k : MachineId) (c : ClientId) (w : Verdict) (rest : List Packet) (s : LockState) → (finish k c w rest s).handling ≡ None
unfolding finish
finish_tells k c cannot_place rest s = refl
finish_tells k c (does v qs) rest s = pick_by (λ (t : Stepped). t.handling ≡ None) (leb (length rest + length qs) wire_capacity) (λ q. refl) (λ q. refl)

pub told_none : (a : Answer) {h : Option Handling} → h ≡ None → told_by a h ≡ None
told_none (Ok tt) e = e
told_none (Refused r) e = refl

pub telling_none : (k : MachineId) (c : ClientId) (w : Verdict) (rest : List Packet) (s : LockState) → telling None (finish k c w rest s) ≡ finish k c w rest s
telling_none k c w rest s =
    let t = finish k c w rest s in
    ap (λ (h : Option Handling). record { answer = t.answer; handling = h; state = t.state }) (told_none t.answer refl ∙ sym (finish_tells k c w rest s))

pub step_refused : (n : ℕ) (c : Call) (s : LockState) (r : Refusal) → (step_of n c s).answer ≡ Refused r → step_of n c s ≡ refused r s
unfolding acquire_step release_step deliver_step takes give_up_step lose_step drops
step_refused n (AcquireCall l k t m) s r e = finish_refused _ _ _ (packets s.wire) s r e
step_refused n (ReleaseCall l k t) s r e = finish_refused _ _ _ (packets s.wire) s r e
step_refused n (GiveUpCall l k t) s r e = finish_refused _ _ _ (packets s.wire) s r e
step_refused n (LoseCall l i) s r e = finish_refused _ _ _ (removed (packets s.wire) i) s r e
step_refused n (DeliverCall l i) s r e = ap (telling _) (finish_refused _ _ _ (removed (packets s.wire) i) s r e)

settled_here : (a : Answer) (x : Cluster) (l : LockId) (t : Stepped) → l.0 < length x.locks → ((r : Refusal) → a ≡ Refused r → t ≡ refused r (lock_in x l))
    → lock_in (settled a x l t).cluster l ≡ t.state
unfolding settled
settled_here (Ok tt) x l t h f = get_or-set_same x.locks l.0 t.state fresh_lock h
settled_here (Refused r) x l t h f = sym (ap (λ (u : Stepped). u.state) (f r refl))

pub settled_answer : (a : Answer) (x : Cluster) (l : LockId) (t : Stepped) → (settled a x l t).answer ≡ a
unfolding settled
settled_answer (Ok tt) x l t = refl
settled_answer (Refused r) x l t = refl

pub perform_here : (c : Call) (x : Cluster) → well_formed x ≡ true → (lock_of c).0 < locks → perform c x ≡ outcome_of c x
    → lock_in (perform c x).cluster (lock_of c) ≡ (step_in c x).state
perform_here c x w h e = rw e (settled_here _ x (lock_of c) _ (rw (cells x w).all_locks h) (step_refused x.preference c (lock_in x (lock_of c))))

-- ---- An accepted call passed every test, and its step is accepted.
pub not_accepted : {r : Refusal} → Refused r ≡ Accepted → ⊥
not_accepted e = let z : ◌≡◌ {A = ℕ} 0 1 = cc in absurd (omega arith)

pub record Passes (c : Call) (x : Cluster) : Type 0 where
  pub formed : well_formed x ≡ true
  pub inside : (lock_of c).0 < locks
  pub allowed : Allowed c (lock_in x (lock_of c))
  pub call : perform c x ≡ outcome_of c x
  pub step : (step_in c x).answer ≡ Accepted

malformed : (c : Call) (x : Cluster) → well_formed x ≡ false → (perform c x).answer ≡ Refused Malformed
unfolding perform acquire release deliver lose give_up unless first
malformed (AcquireCall l k t m) x e = rw e
malformed (ReleaseCall l k t) x e = rw e
malformed (DeliverCall l i) x e = rw e
malformed (LoseCall l i) x e = rw e
malformed (GiveUpCall l k t) x e = rw e

pub passes : (c : Call) (x : Cluster) → (perform c x).answer ≡ Accepted → Passes c x
passes c x e = go (call_cases c x w)
  where
    w : well_formed x ≡ true
    w = bool_cases (well_formed x) (λ f. f) (λ f. absurd (not_accepted (sym (malformed c x f) ∙ e)))

    go : CallCases c x → Passes c x
    go (denied r m q) = absurd (not_accepted (sym (ap (λ (o : Outcome). o.answer) q) ∙ e))
    go (passed h a q) =
        let s = step_in c x in
        let f : s.answer ≡ Accepted = sym (settled_answer s.answer x (lock_of c) s) ∙ sym (ap (λ (o : Outcome). o.answer) q) ∙ e in
        record { formed = w; inside = h; allowed = a; call = q; step = f }
