-- The loops count modulo 2^32: what is counted so far and what is left to count are together the whole.
use Rattle.std.specs.Prelude.{◌≡◌, ℕ, zero, suc, ◌+◌, ◌-◌, ◌*◌, ◌%◌, ◌^◌, ◌<◌, ◌≤◌, ◌⊎◌, List, [], ◌∷◌, length}
use Rattle.std.proofs.Common.{inl, inr}
use Rattle.std.proofs.Math.Path.{refl}
use Rattle.std.proofs.Math.Numerals.{sub-one}
use native.Mathlib.Omega.{arith}
use Rattle.model.specs.declared.Cluster.{Cluster}
use Rattle.model.specs.declared.Call.{Call}
use Rattle.model.specs.declared.Reading.{Reading}
use Rattle.model.specs.declared.Reading.TheVariants.{Record, Bad, End}
use Rattle.model.specs.Calls.{perform, answers_of, fresh}
use Rattle.model.specs.Transcripts.{read_record, calls_from}
use Rattle.exports.specs.Counts.{accepted_one, count_accepted, accepted_calls}

-- ---- m is added so many times
pub record Repeats (m times total left : ℕ) : Type 0 where
  pub same : (total + left * m) % 2 ^ 32 ≡ (times * m) % 2 ^ 32
  pub small : total < 2 ^ 32

pub repeats_start : (m times : ℕ) → Repeats m times 0 times
repeats_start m times = record { same = omega arith; small = omega arith }

module _ {m times total left : ℕ} (i : Repeats m times total left) where
  pub repeats_next : 0 < left → Repeats m times ((total + m) % 2 ^ 32) (left - 1)
  repeats_next h =
      let e : left ≡ suc (left - 1) = omega arith in
      record { same = omega (arith, rw e at i.same); small = omega arith }

  pub repeats_all : left ≤ 0 → total ≡ (times * m) % 2 ^ 32
  repeats_all h =
      let e : left ≡ 0 = omega arith in
      omega (arith, rw e at i.same, i.small)

-- ---- the calls of the records from position i on
no_record : (r : Reading) → ((c : Call) (j : ℕ) → ¬ (r ≡ Record c j)) → (r ≡ Bad) ⊎ (r ≡ End)
no_record (Record c j) h = absurd (h c j refl)
no_record Bad h = inl refl
no_record End h = inr refl

module _ (bytes : List ℕ) (i : ℕ) where
  calls_record : (left : ℕ) (c : Call) (j : ℕ) → 0 < left → read_record bytes i ≡ Record c j → calls_from left bytes i ≡ c ∷ calls_from (left - 1) bytes j
  unfolding calls_from
  calls_record zero c j h e = absurd (omega arith)
  calls_record (suc left) c j h e = rw sub-one (rw (e, calls_from))

  pub calls_bad : (left : ℕ) → read_record bytes i ≡ Bad → calls_from left bytes i ≡ []
  unfolding calls_from
  calls_bad zero e = refl
  calls_bad (suc left) e = rw (e, calls_from)

  pub calls_end : (left : ℕ) → read_record bytes i ≡ End → calls_from left bytes i ≡ []
  unfolding calls_from
  calls_end zero e = refl
  calls_end (suc left) e = rw (e, calls_from)

  pub calls_other : (left : ℕ) → ((c : Call) (j : ℕ) → ¬ (read_record bytes i ≡ Record c j)) → calls_from left bytes i ≡ []
  calls_other left h = elim (no_record _ h) [ inl e ↦ calls_bad left e | inr e ↦ calls_end left e ]

  pub calls_spent : (left : ℕ) → left ≤ 0 → calls_from left bytes i ≡ []
  unfolding calls_from
  calls_spent zero h = refl
  calls_spent (suc left) h = absurd (omega arith)

-- ---- n are accepted so far, and the calls of so many records are left
pub record Counts (bytes : List ℕ) (x : Cluster) (n i left : ℕ) : Type 0 where
  pub same : (n + count_accepted (answers_of (calls_from left bytes i) x)) % 2 ^ 32 ≡ accepted_calls bytes % 2 ^ 32
  pub small : n < 2 ^ 32

pub counts_start : (bytes : List ℕ) → Counts bytes (fresh 0).cluster 0 0 (length bytes)
counts_start bytes = record { same = omega arith; small = omega arith }

module _ {bytes : List ℕ} {x : Cluster} {n i left : ℕ} (s : Counts bytes x n i left) where
  pub counts_next : (c : Call) (j : ℕ) → 0 < left → read_record bytes i ≡ Record c j
      → Counts bytes (perform c x).cluster ((n + accepted_one (perform c x).answer) % 2 ^ 32) j (left - 1)
  unfolding count_accepted
  counts_next c j h e = record { same = omega (arith, rw (calls_record bytes i left c j h e) at s.same); small = omega arith }

  pub counts_all : calls_from left bytes i ≡ [] → n ≡ accepted_calls bytes % 2 ^ 32
  unfolding count_accepted
  counts_all e = omega (arith, rw e at s.same, s.small)
