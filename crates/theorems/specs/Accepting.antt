-- An accepted step does what its rule says: whatever holds of the state that the rule's verdict writes, holds of the state after the step.
use Rattle.std.specs.Prelude.{◌≡◌, ◌+◌}
use Rattle.laws.specs.Tests.{pick_by}
use Rattle.laws.specs.CallSteps.{not_accepted}
use Rattle.theorems.specs.Names.{MachineId, ClientId, Packet, Site, LockState, Accepted, Stepped, List, length, leb, wire_capacity, Verdict, cannot_place}
use Rattle.theorems.specs.Names.{does, apply, finish}

-- P holds of what the verdict writes and sends, if it can be placed
abbrev pub Does : Verdict → (Site → List Packet → Type 0) → Type 0
Does cannot_place P = Unit {0}
Does (does u qs) P = P u qs

module _ (k : MachineId) (c : ClientId) (rest : List Packet) (s : LockState) where
  pub accepts : (w : Verdict) (Q : LockState → Type 0) → Does w (λ u qs. Q (apply k c u qs rest s)) → (finish k c w rest s).answer ≡ Accepted
      → Q (finish k c w rest s).state
  unfolding finish
  accepts cannot_place Q h e = absurd (not_accepted e)
  accepts (does u qs) Q h e =
      pick_by (λ (t : Stepped). t.answer ≡ Accepted → Q t.state) (leb (length rest + length qs) wire_capacity) (λ q z. h) (λ q z. absurd (not_accepted z)) e
