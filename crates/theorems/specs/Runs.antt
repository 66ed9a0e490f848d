-- Calls and lists of calls: each keeps the invariant of every lock, and no call is refused with 9 to 16.
use Rattle.std.specs.Prelude.{◌≡◌, ◌∷◌, ◌≤◌, ◌||◌, ◌&&◌}
use Rattle.laws.specs.Tests.{pick_by}
use Rattle.laws.specs.CallSteps.{step_of, step_in, Allowed, may_acquire, may_release, may_deliver, may_lose, may_give_up, is_early, CallCases, denied, passed}
use Rattle.laws.specs.CallSteps.{call_cases, perform_here}
use Rattle.laws.specs.Clusters.{fresh_formed, perform_formed, perform_keeps}
use Rattle.theorems.specs.Names.{LockId, LockState, Cluster, Call, Refusal, Accepted, Outcome, refl, ap, ◌∙◌, true, List, [], ℕ, zero, suc}
use Rattle.theorems.specs.Names.{arith, get_or, ltb, replicate, client_of, mode_of, lock_in, fresh_lock, fresh_with, fresh, preferences, lock_formed}
use Rattle.theorems.specs.Names.{well_formed, refusing, after, settled, Bool, false, eqb, leb, and_right, bool_cases, perform, lock_of, run}
use Rattle.theorems.specs.Names.{refusal_number, number, locks}
use Rattle.theorems.specs.Invariant.{Inv}
use Rattle.theorems.specs.Fresh.{inv_fresh}
use Rattle.theorems.specs.Steps.{Sound, sound_acquire, sound_release, sound_deliver, sound_lose, sound_give_up}

pub sound_step : (pref : ℕ) (a : Call) (s : LockState) → Allowed a s → Inv s → Sound (step_of pref a s)
sound_step pref _ s (may_acquire {l = l} {k = k} {t = t} {m = m} kb tb n id u) i = sound_acquire pref s i (client_of k t) (mode_of m) (omega arith) id u
sound_step pref _ s (may_release {k = k} {t = t} kb tb n h) i = sound_release pref s i (client_of k t) n (omega arith) h
sound_step pref _ s (may_deliver {i = j} h) i = sound_deliver pref s i j h
sound_step pref _ s (may_lose {i = j} h e) i = sound_lose pref s i j h e
sound_step pref _ s (may_give_up {k = k} {t = t} kb tb n h) i = sound_give_up pref s i (client_of k t) n (omega arith) h

pub step_keeps : (pref : ℕ) (a : Call) (s : LockState) → Allowed a s → lock_formed pref s ≡ true → Inv s → Inv (step_of pref a s).state
step_keeps pref a s al f i = (sound_step pref a s al i).inv

-- ---- a cluster that a list of calls leads to
pub record Reached (x : Cluster) : Type 0 where
  pub formed : well_formed x ≡ true
  pub invs : (l : LockId) → Inv (lock_in x l)

same_lock_lem : (n d : ℕ) → get_or (replicate n fresh_lock) d fresh_lock ≡ fresh_lock
same_lock_lem zero d = refl
same_lock_lem (suc n) zero = refl
same_lock_lem (suc n) (suc d) = same_lock_lem n d

pub lock_fresh : (n : ℕ) (l : LockId) → lock_in (fresh n).cluster l ≡ fresh_lock
unfolding fresh fresh_with
lock_fresh n l = pick_by (λ (o : Outcome). lock_in o.cluster l ≡ fresh_lock) (ltb n preferences) (λ e. same_lock_lem locks l.0) (λ e. same_lock_lem locks l.0)

pub reached_fresh : (n : ℕ) → Reached (fresh n).cluster
reached_fresh n = record { formed = fresh_formed n; invs = λ l. rw (lock_fresh n l) inv_fresh }

pub reached_next : (a : Call) (x : Cluster) → Reached x → Reached (perform a x).cluster
reached_next a x h = record { formed = perform_formed a x h.formed; invs = λ l. perform_keeps Inv step_keeps a x l h.formed (h.invs l) }

pub reached_run : (cs : List Call) (x : Cluster) → Reached x → Reached (run cs x)
unfolding run
reached_run [] x h = h
reached_run (a ∷ cs) x h = reached_run cs (perform a x).cluster (reached_next a x h)

pub reached : (n : ℕ) (cs : List Call) → Reached (after n cs)
reached n cs = reached_run cs (fresh n).cluster (reached_fresh n)

-- ---- a call on such a cluster: denied by a test, or accepted
pub data Answered (a : Call) (x : Cluster) : Type 0 where
  denied_by : (r : Refusal) → is_early (refusal_number r) ≡ true → perform a x ≡ refusing r x → Answered a x
  accepted_by : Allowed a (lock_in x (lock_of a)) → (perform a x).answer ≡ Accepted
      → lock_in (perform a x).cluster (lock_of a) ≡ (step_in a x).state → Answered a x

pub answered : (a : Call) (x : Cluster) → Reached x → Answered a x
unfolding settled
answered a x h = go (call_cases a x h.formed)
  where
    go : CallCases a x → Answered a x
    go (denied r n e) = denied_by r n e
    go (passed b al e) =
        accepted_by al (ap (λ (o : Outcome). o.answer) e ∙ rw (sound_step x.preference a _ al (h.invs (lock_of a))).taken)
        (perform_here a x h.formed b e)

-- the number of each answer is 0 to 8, 17 or 18
pub number_early : (a : Call) (x : Cluster) → Reached x
    → (leb (number (perform a x).answer) 8 || (eqb (number (perform a x).answer) 17 || eqb (number (perform a x).answer) 18)) ≡ true
number_early a x h = go (answered a x h)
  where
    early : (n : ℕ) → is_early n ≡ true → (leb n 8 || (eqb n 17 || eqb n 18)) ≡ true
    early n e =
        bool_cases (leb 1 n && leb n 8) (λ q. rw (and_right (leb 1 n) _ q))
        (λ q. let late : (eqb n 17 || eqb n 18) ≡ true = rw q at e in rw late (or_true (leb n 8)))
      where
        or_true : (b : Bool) → (b || true) ≡ true
        or_true true = refl
        or_true false = refl

    go : Answered a x → (leb (number (perform a x).answer) 8 || (eqb (number (perform a x).answer) 17 || eqb (number (perform a x).answer) 18)) ≡ true
    go (denied_by r n e) = rw e (early (refusal_number r) n)
    go (accepted_by al e q) = rw e refl
