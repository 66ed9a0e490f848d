-- What a cluster prefers (request 5 of document 02): which preferences are accepted, that a cluster keeps its own, and that with readers preferred no decider
-- knows of a writer.
use Rattle.std.specs.Prelude.{◌≡◌, ◌||◌, ◌∷◌, ◌&&◌}
use Rattle.model.specs.WellFormed.{owner_in_range}
use Rattle.laws.specs.Formed.{parts}
use Rattle.laws.specs.Clusters.{each_lock_formed}
use Rattle.laws.specs.CallSteps.{perform_preference}
use Rattle.theorems.specs.Names.{LockId, Cluster, Call, refl, sym, ◌∙◌, Bool, true, false, not, false≢true, List, [], ℕ, ltb, ltb-true}
use Rattle.theorems.specs.Names.{lt-ltb, lock_in, preferences, prefers_writers, well_formed, perform, run, after, fresh, and_right, bool_cases, Site, ap}
use Rattle.theorems.specs.Names.{and-true, is_shared, site_of, may_join, owned_shared, may_share}
use Rattle.theorems.specs.Runs.{reached}
use Rattle.theorems.specs.Statements.{Prefers, AsBefore, ReadersAsBefore}

run_preference : (cs : List Call) (x : Cluster) → (run cs x).preference ≡ x.preference
unfolding run
run_preference [] x = refl
run_preference (c ∷ cs) x = run_preference cs (perform c x).cluster ∙ perform_preference c x

-- a bit that is in order is clear where readers are preferred
clear_bit : (b p : Bool) → (not b || p) ≡ true → p ≡ false → b ≡ false
clear_bit true p e q = absurd (false≢true (sym q ∙ e))
clear_bit false p e q = refl

no_writer : (x : Cluster) (l : LockId) → well_formed x ≡ true → prefers_writers x.preference ≡ false → (lock_in x l).decider.writer ≡ false
no_writer x l w q =
    let d = (parts (lock_in x l) (each_lock_formed x l w)).decider in
    clear_bit _ (prefers_writers x.preference) (and_right (owner_in_range (lock_in x l).decider.owner) _ d) q

pub prefers : (n : ℕ) → Prefers n
unfolding fresh
prefers n =
    record {
      made = λ h. rw (lt-ltb n preferences h) (refl, refl);
      refused = λ h. bool_cases (ltb n preferences) (λ e. absurd (h (ltb-true n preferences e))) (λ e. rw e (refl, refl));
      fixed = λ cs. run_preference cs (fresh n).cluster;
      clear = λ cs l q. no_writer (after n cs) l (reached n cs).formed (rw (run_preference cs (fresh n).cluster) q);
    }

-- ---- with readers preferred every rule is what it was
as_before : (v : Site) → v.preference ≡ 0 → v.decider.writer ≡ false → AsBefore v
unfolding may_share may_join
as_before v n w =
    record {
      shares = λ m. rw w (ap (λ (b : Bool). owned_shared v.decider.owner && b) (and-true (is_shared m)));
      joins = λ m. rw n (ap (λ (b : Bool). is_shared v.slot.agent.mode && b) (and-true (is_shared m)));
      when_sent_on = λ m. rw (n, w);
      first_granted = λ c m. rw w;
      passed_on = λ c m a. rw n;
    }

pub readers_as_before : (x : Cluster) → ReadersAsBefore x
readers_as_before x w n l k c = as_before (site_of 0 (lock_in x l) k c) refl (no_writer x l w (rw n))
