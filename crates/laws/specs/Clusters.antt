-- Every call keeps a cluster well formed.
use Rattle.std.specs.Prelude.{◌≡◌, refl, true, [], ℕ, ltb, Ok}
use Rattle.std.proofs.Common.{◌∙◌, arith, length-set, eq-eqb}
use Rattle.std.proofs.Math.Decide.{ℕ_discrete}
use Rattle.laws.specs.Names.{LockId, LockState, Cluster, Call, Answer, Accepted, Refused, Stepped, Outcome}
use Rattle.model.specs.States.{fresh_lock, fresh_with, lock_in, locks, preferences}
use Rattle.model.specs.WellFormed.{client_formed, lock_formed, well_formed}
use Rattle.model.specs.Calls.{settled, perform, lock_of, fresh}
use Rattle.laws.specs.Tests.{pick_by}
use Rattle.laws.specs.Formed.{no_agent_formed, cells, lock_formed_lem}
use Rattle.laws.specs.Lists.{all_get_d, all_set, all_replicate}
use Rattle.laws.specs.Making.{wire_formed_lem}
use Rattle.laws.specs.FormedStep.{acquire_formed, release_formed, deliver_formed, give_up_formed, lose_formed}
use Rattle.laws.specs.CallSteps.{step_of, Allowed, may_acquire, may_release, may_deliver, may_lose, may_give_up, CallCases, denied, passed, call_cases}
use Rattle.laws.specs.CallSteps.{perform_elsewhere, perform_here}

fresh_lock_formed : (n : ℕ) → lock_formed n fresh_lock ≡ true
unfolding lock_formed fresh_lock client_formed
fresh_lock_formed n = rw no_agent_formed (wire_formed_lem [] refl (omega arith))

-- each lock's state, past the last a fresh one
pub each_lock_formed : (x : Cluster) (l : LockId) → well_formed x ≡ true → lock_formed x.preference (lock_in x l) ≡ true
each_lock_formed x l w = all_get_d (lock_formed x.preference) x.locks l.0 fresh_lock (cells x w).locks (fresh_lock_formed x.preference)

with_formed : (n : ℕ) → ltb n preferences ≡ true → well_formed (fresh_with n) ≡ true
unfolding well_formed fresh_with
with_formed n e = rw e (all_replicate (lock_formed n) locks fresh_lock (fresh_lock_formed n))

pub fresh_formed : (n : ℕ) → well_formed (fresh n).cluster ≡ true
unfolding fresh
fresh_formed n = pick_by (λ (o : Outcome). well_formed o.cluster ≡ true) (ltb n preferences) (with_formed n) (λ e. with_formed 0 refl)

-- the state of each lock after a call
pub step_formed : (w : ℕ) (c : Call) (s : LockState) → Allowed c s → lock_formed w s ≡ true → lock_formed w (step_of w c s).state ≡ true
step_formed w _ s (may_acquire {m = m} k t n i a) f = acquire_formed w s _ _ (omega arith) f
step_formed w _ s (may_release k t n e) f = release_formed w s _ (omega arith) f
step_formed w _ s (may_deliver {i = i} h) f = deliver_formed w s i h f
step_formed w _ s (may_lose {i = i} h c) f = lose_formed w s i f
step_formed w _ s (may_give_up k t n e) f = give_up_formed w s _ (omega arith) f

settled_formed : (a : Answer) (x : Cluster) (l : LockId) (t : Stepped) → well_formed x ≡ true → lock_formed x.preference t.state ≡ true
    → well_formed (settled a x l t).cluster ≡ true
unfolding settled well_formed
settled_formed (Ok tt) x l t w f =
    let p = cells x w in
    rw (p.preference, eq-eqb _ locks (length-set x.locks l.0 t.state ∙ p.all_locks))
    (all_set (lock_formed x.preference) x.locks l.0 t.state p.locks f)
settled_formed (Refused r) x l t w f = w

pub perform_formed : (c : Call) (x : Cluster) → well_formed x ≡ true → well_formed (perform c x).cluster ≡ true
perform_formed c x w = go (call_cases c x w)
  where
    go : CallCases c x → well_formed (perform c x).cluster ≡ true
    go (denied r m e) = rw e w
    go (passed h a e) = rw e (settled_formed _ x (lock_of c) _ w (step_formed x.preference c (lock_in x (lock_of c)) a (lock_formed_lem x (lock_of c) w h)))

-- A fact of a lock's state that each allowed step keeps, whatever the preference, is kept, of every lock, by each call.
module _ (P : LockState → Type 0) (step : (n : ℕ) (c : Call) (s : LockState) → Allowed c s → lock_formed n s ≡ true → P s → P (step_of n c s).state) where
  pub perform_keeps : (c : Call) (x : Cluster) (j : LockId) → well_formed x ≡ true → P (lock_in x j) → P (lock_in (perform c x).cluster j)
  perform_keeps c x j w p = go (call_cases c x w) (ℕ_discrete j.0 (lock_of c).0)
    where
      go : CallCases c x → Dec (j.0 ≡ (lock_of c).0) → P (lock_in (perform c x).cluster j)
      go (denied r m e) d = rw e p
      go (passed h a e) (yes q) = rw (q, perform_here c x w h e) (step x.preference c (lock_in x (lock_of c)) a (lock_formed_lem x (lock_of c) w h) (rw q at p))
      go (passed h a e) (no n) = rw (perform_elsewhere c x j n) p
