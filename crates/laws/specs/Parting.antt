-- Who leaves a queue when an agent is installed, and who stays in it.
use Rattle.std.specs.Prelude.{◌≡◌, refl, Bool, true, false, List, [], ◌∷◌, length, set}
use Rattle.std.proofs.Common.{ap, ◌∙◌, length-set}
use Rattle.model.specs.States.{is_shared}
use Rattle.model.specs.AtMachine.{admitted, staying, joined, may_leave, taken_off}
use Rattle.model.specs.WellFormed.{is_client}
use Rattle.laws.specs.Names.{ClientId, Mode, Exclusive, Shared, Waiter}
use Rattle.laws.specs.Tests.{bool_cases, and_right}
use Rattle.laws.specs.Lists.{Sublist, empty, kept, left_out, whole}

-- A queue parted in two, each in the queue's order: those who leave are shared.
pub data Parting : List Waiter → List Waiter → List Waiter → Type 0 where
  done : Parting [] [] []
  first_leaves : {w : Waiter} {out stay ws : List Waiter} → is_shared w.mode ≡ true → Parting out stay ws → Parting (w ∷ out) stay (w ∷ ws)
  first_stays : {w : Waiter} {out stay ws : List Waiter} → Parting out stay ws → Parting out (w ∷ stay) (w ∷ ws)

-- nobody leaves
all_stay : (ws : List Waiter) → Parting [] ws ws
all_stay [] = done
all_stay (w ∷ ws) = first_stays (all_stay ws)

-- This and `none_leaves` are all that demand 3 uses of the rule; the code's proofs use the laws at the queue's head. Whoever changes it proves these anew.
pub parting : (m : Mode) (ws : List Waiter) → Parting (admitted m ws) (staying m ws) ws
unfolding admitted staying
parting m [] = done
parting m (w ∷ ws) = bool_cases (may_leave m w) (λ e. rw e (first_leaves (and_right (is_shared m) _ e) (parting m ws))) (λ e. rw e (all_stay (w ∷ ws)))

-- with an exclusive agent nobody leaves
pub none_leaves : (ws : List Waiter) → (admitted Exclusive ws ≡ []) × (staying Exclusive ws ≡ ws)
unfolding admitted staying
none_leaves [] = (refl, refl)
none_leaves (w ∷ ws) = (refl, refl)

-- with a shared one, from the queue's head on
pub none_queued : (admitted Shared [] ≡ []) × (staying Shared [] ≡ [])
unfolding admitted staying
none_queued = (refl, refl)

pub shared_leaves : (w : Waiter) (ws : List Waiter) → is_shared w.mode ≡ true
    → (admitted Shared (w ∷ ws) ≡ w ∷ admitted Shared ws) × (staying Shared (w ∷ ws) ≡ staying Shared ws)
unfolding admitted staying
shared_leaves w ws e = (rw e, rw e)

pub exclusive_stays : (w : Waiter) (ws : List Waiter) → is_shared w.mode ≡ false
    → (admitted Shared (w ∷ ws) ≡ []) × (staying Shared (w ∷ ws) ≡ w ∷ ws)
unfolding admitted staying
exclusive_stays w ws e = (rw e, rw e)

pub sublists : {out stay ws : List Waiter} → Parting out stay ws → Sublist out ws × Sublist stay ws
sublists done = (empty, empty)
sublists (first_leaves e p) = (kept (sublists p).0, left_out (sublists p).1)
sublists (first_stays p) = (left_out (sublists p).0, kept (sublists p).1)

pub length_joined : (hs : List Bool) (ws : List Waiter) → length (joined hs ws) ≡ length hs
unfolding joined
length_joined hs [] = refl
length_joined hs (w ∷ ws) = length_joined (set hs w.client.0 true) ws ∙ length-set hs w.client.0 true

-- who is left when a client is taken off
pub taken_off_lem : (c : ClientId) (ws : List Waiter) → Sublist (taken_off c ws) ws
unfolding taken_off
taken_off_lem c [] = empty
taken_off_lem c (w ∷ ws) = bool_cases (is_client c w) (λ e. rw e (left_out (whole ws))) (λ e. rw e (kept (taken_off_lem c ws)))
