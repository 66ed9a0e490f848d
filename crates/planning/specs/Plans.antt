-- What a plan leads to: the step that it plans.
use Rattle.std.specs.Prelude.{◌≡◌, List, ℕ, ◌+◌, ◌<◌, ◌≤◌, length, Option, Some, None, Result, Ok, Err}
use Rattle.std.proofs.Math.Path.{sym, ap}
use Rattle.std.proofs.Common.{le-leb}
use Rattle.std.proofs.lemmas.Bool.{lt-leb}
use Rattle.rules.specs.declared.effect.Effect.{Effect}
use Rattle.planning.specs.declared.plan.Plan.{Plan}
use Rattle.planning.specs.Names.{MachineId, ClientId, Packet, Wire, LockState, Refusal, WireFull, Accepted, Handling, Stepped}
use Rattle.model.specs.Lists.{removed}
use Rattle.model.specs.States.{wire_capacity, packets}
use Rattle.model.specs.Changes.{Verdict, apply, refused, finish, telling}
use Rattle.laws.specs.Tests.{pick_yes, pick_no}
use Rattle.laws.specs.CallSteps.{telling_none}
use Rattle.rules.specs.Effects.{sent_by, verdict_of}

-- the packets that stay on the wire: all, or all but the one at an index
abbrev pub left_by : Option ℕ → Wire → List Packet
left_by None w = packets w
left_by (Some i) w = removed (packets w) i

abbrev pub carried_out : Plan → LockState → LockState
carried_out p s = apply p.machine p.client p.effect.site (sent_by p.effect.sends) (left_by p.index s.wire) s

-- carried out on s, the plan p gives the step t, and what it sends has room on the wire
pub record Accepts (p : Plan) (s : LockState) (t : Stepped) : Type 0 where
  pub ends : record { answer = Accepted; handling = p.handling; state = carried_out p s } ≡ t
  pub fits : length (left_by p.index s.wire) + length (sent_by p.effect.sends) ≤ wire_capacity

-- the step t on s is planned: accepted, as the plan says, or refused
abbrev pub Plans : Result Plan Refusal → LockState → Stepped → Type 0
Plans (Ok p) s t = Accepts p s t
Plans (Err n) s t = refused n s ≡ t

-- ---- the plan of a rule's effect
module _ (k : MachineId) (c : ClientId) (e : Effect) (h : Option Handling) (s : LockState) where
  pub plans_full : (i : Option ℕ) → wire_capacity < length (left_by i s.wire) + length (sent_by e.sends)
      → refused WireFull s ≡ telling h (finish k c (verdict_of (Some e)) (left_by i s.wire) s)
  unfolding finish
  plans_full i q = ap (telling h) (sym (pick_no _ (lt-leb _ _ q)))

  pub plans_effect : (i : Option ℕ) → length (left_by i s.wire) + length (sent_by e.sends) ≤ wire_capacity
      → Accepts (record { handling = h; index = i; machine = k; client = c; effect = e }) s
      (telling h (finish k c (verdict_of (Some e)) (left_by i s.wire) s))
  unfolding finish
  plans_effect i q = record { ends = ap (telling h) (sym (pick_yes _ (le-leb _ _ q))); fits = q }

-- a step that tells no handling
pub plans_quiet : (r : Result Plan Refusal) (s : LockState) (k : MachineId) (c : ClientId) (v : Verdict) (rest : List Packet)
    → Plans r s (telling None (finish k c v rest s)) → Plans r s (finish k c v rest s)
plans_quiet r s k c v rest h = rw (telling_none k c v rest s) at h
