-- The fresh lock satisfies the invariant.
use Rattle.std.specs.Prelude.{◌≡◌}
use Rattle.theorems.specs.Names.{Idle, false, refl, [], ℕ, zero, suc, arith, get_or, replicate, idle, no_agent, fresh_lock, packets_of, machines}
use Rattle.theorems.specs.Names.{clients}
use Rattle.theorems.specs.Tally.{tally}
use Rattle.theorems.specs.Weights.{status_at, slot_at, weight, queued_s, listed_s, agent_s, incarnation_s, vacant_s, wait_f, hold_f, idle_f, owned_f, clash}
use Rattle.theorems.specs.Weights.{misfit_s, waited_f, client_in, note_at}
use Rattle.theorems.specs.Invariant.{Inv}

all_same : {A : Type 0} (x : A) (n d : ℕ) → get_or (replicate n x) d x ≡ x
all_same x zero d = refl
all_same x (suc n) zero = refl
all_same x (suc n) (suc d) = all_same x n d

pub clients_idle : (d : ℕ) → client_in fresh_lock d ≡ idle
unfolding fresh_lock
clients_idle d = all_same idle clients d

pub all_idle_lem : (d : ℕ) → status_at fresh_lock d ≡ Idle
unfolding fresh_lock
all_idle_lem d = rw (status_at, all_same idle clients d)

no_slot : (k : ℕ) → slot_at fresh_lock k ≡ no_agent
unfolding fresh_lock
no_slot k = all_same no_agent machines k

pub inv_fresh : Inv fresh_lock
unfolding fresh_lock no_agent tally weight queued_s listed_s agent_s incarnation_s wait_f hold_f idle_f owned_f clash misfit_s vacant_s waited_f
inv_fresh =
    record {
      all_machines = refl;
      all_clients = refl;
      asks = λ d m. rw (packets_of [], clients_idle d) (omega arith);
      most = λ d. rw (packets_of [], clients_idle d) (omega arith);
      noted = λ d. rw (clients_idle d) (omega arith);
      presence = λ d. rw (packets_of [], clients_idle d);
      owed = λ d. rw (packets_of [], clients_idle d) (omega arith);
      rels = λ d. rw (packets_of [], all_idle_lem d) (omega arith);
      agent = rw (packets_of []);
      incs = rw (packets_of []);
      modes = λ d. rw (all_idle_lem d);
      fitting = rw (packets_of []);
      homes = λ k. rw (no_slot k);
      reach = rw (packets_of []);
      vacancy = rw (packets_of []) (omega arith);
      quiet = refl;
    }
