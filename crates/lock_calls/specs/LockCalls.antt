-- The calls on one lock of a cluster that is known to be well formed, when the lock's number is in range: what is left of each call
-- is a step on that lock's state.
use Rattle.std.specs.Prelude.{◌≡◌, refl, Bool, true, false, List, ◌∷◌, ℕ, ◌<◌, ◌≤◌, get_or, leb, Ok, Err, not, ◌||◌, eqb}
use Rattle.std.proofs.Common.{ap, le-leb, leb-false, arith}
use Rattle.std.proofs.lemmas.List.{set-get_or}
use Rattle.std.proofs.lemmas.Bool.{lt-leb}
use Rattle.lock_calls.specs.Names.{LockId, MachineId, TaskId, ClientId, Refusal, Malformed, LockRange, MachineRange, TaskRange, ModeRange}
use Rattle.lock_calls.specs.Names.{Answer, Accepted, Refused, LockState, Cluster, Call, AcquireCall, ReleaseCall}
use Rattle.lock_calls.specs.Names.{DeliverCall, LoseCall, GiveUpCall, Stepped, Outcome}
use Rattle.model.specs.States.{locks, machines, tasks, client_of, mode_of, fresh_lock, lock_in}
use Rattle.model.specs.WellFormed.{well_formed}
use Rattle.model.specs.Changes.{refused}
use Rattle.model.specs.Refusals.{Cause, ◌when◌, first}
use Rattle.model.specs.Calls.{idle_tests, acquire_step, release_step, deliver_step, acquire_tests, release_tests, deliver_tests, causes, refusing}
use Rattle.model.specs.Calls.{with_lock, settled}
use Rattle.model.specs.Calls.{unless, acquire, release, deliver, lose, give_up, perform, lock_of, lose_step, give_up_step, lose_tests, give_up_tests}
use Rattle.laws.specs.Formed.{lock_read}
use Rattle.laws.specs.CallSteps.{step_of, step_in, step_refused}
use Rattle.laws.specs.Clusters.{perform_formed}
use Rattle.planning.specs.declared.plan.Plan.{Plan}
use Rattle.planning.specs.Plans.{carried_out, Plans}

-- ---- the tests that are left to a call on a lock's state, and then the step, in a cluster with the preference n
-- the step r where the tests' answer accepts, else a refusal that leaves s
unfoldable pub step_unless : Answer → LockState → Stepped → Stepped
step_unless (Ok tt) s r = r
step_unless (Refused n) s r = refused n s

unfoldable pub acquire_on : ℕ → LockState → MachineId → TaskId → ℕ → Stepped
acquire_on n s k t m = step_unless (first (acquire_tests s k t m)) s (acquire_step n s (client_of k t) (mode_of m))

unfoldable pub release_on : ℕ → LockState → MachineId → TaskId → Stepped
release_on n s k t = step_unless (first (release_tests s k t)) s (release_step n s (client_of k t))

unfoldable pub deliver_on : ℕ → LockState → ℕ → Stepped
deliver_on n s i = step_unless (first (deliver_tests s i)) s (deliver_step n s i)

unfoldable pub lose_on : ℕ → LockState → ℕ → Stepped
lose_on n s i = step_unless (first (lose_tests s i)) s (lose_step n s i)

unfoldable pub give_up_on : ℕ → LockState → MachineId → TaskId → Stepped
give_up_on n s k t = step_unless (first (give_up_tests s k t)) s (give_up_step n s (client_of k t))

-- ---- the tests of machine and task, and those that follow
abbrev pub range_tests : MachineId → TaskId → List Cause → List Cause
range_tests k t cs = (MachineRange when leb machines k.0) ∷ (TaskRange when leb tasks t.0) ∷ cs

-- what follows them in an acquire
abbrev pub mode_tests : LockState → ClientId → ℕ → List Cause
mode_tests s c m = (ModeRange when not (eqb m 2 || eqb m 3)) ∷ idle_tests s c

-- the answer where the first tests answer the one and those that follow the other
abbrev pub further : Answer → Answer → Answer
further (Ok tt) a = a
further (Refused n) a = Refused n

-- ---- a cause that does not hold
pub first_no : (n : Refusal) {b : Bool} (cs : List Cause) {a : Answer} → b ≡ false → a ≡ first cs → a ≡ first ((n when b) ∷ cs)
unfolding first
first_no n cs e h = rw e h

pub all_no : (n : Refusal) (b : Bool) (cs : List Cause) → first ((n when b) ∷ cs) ≡ Accepted → (b ≡ false) × (first cs ≡ Accepted)
unfolding first
all_no n true cs e = let z : ◌≡◌ {A = ℕ} 0 1 = cc in absurd (omega arith)
all_no n false cs e = (refl, e)

-- where nothing refuses, machine and task are in range
pub in_range_lem : (k : MachineId) (t : TaskId) (cs : List Cause)
    → first (range_tests k t cs) ≡ Accepted → (k.0 < machines) × (t.0 < tasks)
in_range_lem k t cs e =
    let p = all_no MachineRange (leb machines k.0) ((TaskRange when leb tasks t.0) ∷ cs) e in
    let q = all_no TaskRange (leb tasks t.0) cs p.1 in
    (leb-false machines k.0 p.0, leb-false tasks t.0 q.0)

-- ---- a call as data: its tests on the cluster, those on its lock's state, and then its step
abbrev pub tests_of : Call → LockState → List Cause
tests_of (AcquireCall l k t m) s = acquire_tests s k t m
tests_of (ReleaseCall l k t) s = release_tests s k t
tests_of (DeliverCall l i) s = deliver_tests s i
tests_of (LoseCall l i) s = lose_tests s i
tests_of (GiveUpCall l k t) s = give_up_tests s k t

unfoldable pub call_on : ℕ → Call → LockState → Stepped
call_on n c s = step_unless (first (tests_of c s)) s (step_of n c s)

-- in its cluster
abbrev call_in : Call → Cluster → Stepped
call_in c x = call_on x.preference c (lock_in x (lock_of c))

abbrev causes_of : Call → Cluster → List Cause
causes_of c x = causes x (lock_of c) (tests_of c (lock_in x (lock_of c)))

perform_by : (c : Call) (x : Cluster) → perform c x ≡ unless (first (causes_of c x)) x (lock_of c) (step_in c x)
unfolding perform acquire release deliver lose give_up
perform_by (AcquireCall l k t m) x = refl
perform_by (ReleaseCall l k t) x = refl
perform_by (DeliverCall l i) x = refl
perform_by (LoseCall l i) x = refl
perform_by (GiveUpCall l k t) x = refl

pub perform_malformed : (c : Call) (x : Cluster) → well_formed x ≡ false → perform c x ≡ refusing Malformed x
unfolding unless first
perform_malformed c x e = rw (perform_by c x) (rw e)

pub perform_range : (c : Call) (x : Cluster) → well_formed x ≡ true → locks ≤ (lock_of c).0 → perform c x ≡ refusing LockRange x
unfolding unless first
perform_range c x e h = rw (perform_by c x) (rw (e, le-leb locks (lock_of c).0 h))

-- A call writes its lock's state in its place, accepted or refused.
abbrev pub written_by : Call → Cluster → Cluster
written_by c x = with_lock x (lock_of c) (call_in c x).state

pub perform_whole : (c : Call) (x : Cluster) → well_formed x ≡ true → (lock_of c).0 < locks
    → perform c x ≡ record { answer = (call_in c x).answer; handling = (call_in c x).handling; cluster = written_by c x }
unfolding unless settled first call_on step_unless
perform_whole c x e h = rw (perform_by c x) (rw (e, lt-leb locks (lock_of c).0 h) (tested (first (tests_of c s))))
  where
    s : LockState
    s = lock_in x (lock_of c)

    written : Stepped → Outcome
    written r = record { answer = r.answer; handling = r.handling; cluster = with_lock x (lock_of c) r.state }

    stepped : (a : Answer) → (step_in c x).answer ≡ a → settled a x (lock_of c) (step_in c x) ≡ written (step_in c x)
    stepped (Ok tt) q = rw q
    stepped (Refused r) q = rw (step_refused x.preference c s r q, set-get_or x.locks (lock_of c).0 fresh_lock)

    tested : (a : Answer) → unless a x (lock_of c) (step_in c x) ≡ written (step_unless a s (step_in c x))
    tested (Ok tt) = stepped (step_in c x).answer refl
    tested (Refused n) = rw (set-get_or x.locks (lock_of c).0 fresh_lock)

-- the call by its plan on the state of its lock l, read with any default: written where it accepts, the cluster left where it refuses
module _ (c : Call) (x : Cluster) (l : LockId) (d : LockState) (f : (well_formed x ≡ true) × ((l.0 < locks) × (l ≡ lock_of c))) where
  abbrev read : LockState
  read = get_or x.locks l.0 d

  abbrev called : Stepped
  called = call_on x.preference c read

  whole : perform c x ≡ record { answer = called.answer; handling = called.handling; cluster = with_lock x l called.state }
  whole = rw (lock_read x l d f.0 f.1.0, f.1.1) (perform_whole c x f.0 (rw f.1.1 at f.1.0))

  pub perform_accepts : {p : Plan} → Plans (Ok p) read called
      → record { answer = Accepted; handling = p.handling; cluster = with_lock x l (carried_out p read) } ≡ perform c x
  perform_accepts g = rw (whole, ← g.ends)

  pub perform_refuses : {n : Refusal} → Plans (Err n) read called → refusing n x ≡ perform c x
  perform_refuses g = rw (whole, ← g) (rw (lock_read x l d f.0 f.1.0, set-get_or x.locks l.0 fresh_lock))

pub perform_written : (c : Call) (x : Cluster) → well_formed x ≡ true → (lock_of c).0 < locks → (perform c x).cluster ≡ written_by c x
perform_written c x e h = ap (λ (o : Outcome). o.cluster) (perform_whole c x e h)

pub written_formed : (c : Call) (x : Cluster) → well_formed x ≡ true → (lock_of c).0 < locks → well_formed (written_by c x) ≡ true
written_formed c x e h = rw (← perform_written c x e h) (perform_formed c x e)
