-- What the search looks for, and that so it comes to the first reason that is true.
use Rattle.std.specs.Prelude.{◌≡◌, Bool, true, false, ◌&&◌, ℕ, suc, ◌+◌, drop}
use Rattle.std.proofs.Math.Path.{refl}
use mathlib.Core.List.{List, [], ◌∷◌, ◌++◌, map}
use Rattle.std.proofs.Math.Numerals.{add-one}
use Rattle.std.proofs.Common.{arith}
use Rattle.model.specs.declared.{ClientId.ClientId, Waiter.Waiter, AgentSlot.AgentSlot, Packet.Packet, LockState.LockState}
use Rattle.model.specs.Names.{Found, Nowhere, At, ReasonAnswer, Because, NoReason}
use Rattle.model.specs.declared.{Refusal.TheVariants.{NotWaiting}, Reason.Reason}
use Rattle.model.specs.declared.{Reason.TheVariants.{Requested, Granted, Rejected, Queued, Carried, GrantLost}}
use Rattle.model.specs.Lists.{pick, is_at, indices}
use Rattle.model.specs.States.{waiters, packets, note_of}
use Rattle.model.specs.WellFormed.{is_client}
use Rattle.model.specs.Reasons.{requests, grants, grant_rejected, queued_in, is_true, in_queues, reasons_in, first_true}
use Rattle.laws.specs.Lists.{at_map}
use Rattle.laws.specs.Tests.{bool_cases}
use Rattle.laws.specs.Finding.{seek}

-- how many are ahead of the client in a slot's queue, where it stands there
abbrev pub ahead_in : ClientId → AgentSlot → Found
ahead_in c x = pick x.present (seek (is_client c) 0 (waiters x.agent.queue)) Nowhere

-- the reason for what is found
abbrev pub as_reason : (ℕ → Reason) → Found → ReasonAnswer
as_reason f Nowhere = NoReason NotWaiting
as_reason f (At i) = Because (f i)

abbrev pub or_else : ReasonAnswer → ReasonAnswer → ReasonAnswer
or_else (Because r) a = Because r
or_else (NoReason n) a = a

-- the first slot in whose queue it stands, where g gives each element's slot
module _ {A : Type 0} (c : ClientId) (g : A → AgentSlot) (f : ℕ → ℕ → Reason) where
  unfoldable pub seek_queues : ℕ → List A → ReasonAnswer
  seek_queues n [] = NoReason NotWaiting
  seek_queues n (x ∷ xs) = or_else (as_reason (f n) (ahead_in c (g x))) (seek_queues (suc n) xs)

  -- a loop through xs has come to j, and the client stands in no queue before it
  pub record Queueing (xs : List A) (j : ℕ) : Type 0 where
    pub same : seek_queues j (drop j xs) ≡ seek_queues 0 xs

  pub queueing : (xs : List A) → Queueing xs 0
  queueing xs = record { same = refl }

  module _ {xs : List A} {j : ℕ} (i : Queueing xs j) {x : A} (l : drop j xs ≡ x ∷ drop (j + 1) xs) where
    pub queue_hit : {n k : ℕ} → ahead_in c (g x) ≡ At n → k ≡ n → Because (f j k) ≡ seek_queues 0 xs
    unfolding seek_queues
    queue_hit t e = rw e (rw (l, t) at i.same)

    pub queue_miss : ahead_in c (g x) ≡ Nowhere → Queueing xs (j + 1)
    unfolding seek_queues
    queue_miss t = record { same = rw add-one (rw (l, t, add-one) at i.same) }

  pub queue_end : {xs : List A} {j : ℕ} → Queueing xs j → drop j xs ≡ [] → NoReason NotWaiting ≡ seek_queues 0 xs
  unfolding seek_queues
  queue_end i l = rw l at i.same

abbrev pub on_machine : ℕ → ℕ → Reason
on_machine k = Queued (record { 0 = k })

abbrev pub itself : AgentSlot → AgentSlot
itself x = x

abbrev pub inside : Packet → AgentSlot
inside p = p.carried

-- of all queues
abbrev pub queue_reason : LockState → ClientId → ReasonAnswer
queue_reason s c = or_else (seek_queues c itself on_machine 0 s.agents) (seek_queues c inside Carried 0 (packets s.wire))

-- of the note; and of both, where the client has no packet
abbrev pub lost_reason : Bool → ReasonAnswer
lost_reason b = pick b (Because GrantLost) (NoReason NotWaiting)

abbrev pub other_reason : LockState → ClientId → ReasonAnswer
other_reason s c = or_else (queue_reason s c) (lost_reason (note_of s c))

else_assoc : (x y z : ReasonAnswer) → or_else (or_else x y) z ≡ or_else x (or_else y z)
else_assoc (Because r) y z = refl
else_assoc (NoReason n) y z = refl

module _ (s : LockState) (c : ClientId) where
  first_append : (xs ys : List Reason) → first_true s c (xs ++ ys) ≡ or_else (first_true s c xs) (first_true s c ys)
  unfolding first_true
  first_append [] ys = refl
  first_append (x ∷ xs) ys = bool_cases (is_true s c x) (λ t. rw t) (λ t. rw t (first_append xs ys))

  -- reasons made of the indices of a list, each true by the element there
  first_sought : {A : Type 0} (f : ℕ → Reason) (p : A → Bool) (n : ℕ) (xs : List A) → ((i j : ℕ) → j ≡ n + i → is_true s c (f j) ≡ is_at p xs i)
      → first_true s c (map f (indices n xs)) ≡ as_reason f (seek p n xs)
  unfolding first_true is_at indices seek
  first_sought f p n [] h = refl
  first_sought f p n (x ∷ xs) h =
      let this : is_true s c (f n) ≡ p x = h 0 n (omega arith) in
      bool_cases (p x) (λ t. rw (this, t)) (λ t. rw (this, t) (first_sought f p (suc n) xs (λ i j q. h (suc i) j (omega (arith, q)))))

  -- those of one queue, and of the queues of a list of slots
  none_true : {A : Type 0} (f : ℕ → Reason) (n : ℕ) (xs : List A) → ((j : ℕ) → is_true s c (f j) ≡ false)
      → first_true s c (map f (indices n xs)) ≡ NoReason NotWaiting
  unfolding first_true indices
  none_true f n [] h = refl
  none_true f n (x ∷ xs) h = rw (h n) (none_true f (suc n) xs h)

  first_ahead : (f : ℕ → Reason) (b : Bool) (ws : List Waiter) → ((a : ℕ) → is_true s c (f a) ≡ (b && is_at (is_client c) ws a))
      → first_true s c (map f (indices 0 ws)) ≡ as_reason f (pick b (seek (is_client c) 0 ws) Nowhere)
  first_ahead f true ws h = first_sought f (is_client c) 0 ws (λ i j q. let same : j ≡ i = omega (arith, q) in rw same (h i))
  first_ahead f false ws h = none_true f 0 ws h

  first_queued : (f : ℕ → ℕ → Reason) (n : ℕ) (xs : List AgentSlot) → ((i j a : ℕ) → j ≡ n + i → is_true s c (f j a) ≡ is_at (queued_in c a) xs i)
      → first_true s c (in_queues f n xs) ≡ seek_queues c itself f n xs
  unfolding first_true is_at in_queues seek_queues
  first_queued f n [] h = refl
  first_queued f n (x ∷ xs) h =
      let ws : List Waiter = waiters x.agent.queue in
      rw (
        first_append (map (f n) (indices 0 ws)) (in_queues f (suc n) xs),
        first_ahead (f n) x.present ws (λ a. h 0 n a (omega arith)),
        first_queued f (suc n) xs (λ i j a q. h (suc i) j a (omega (arith, q))),
      )

  -- through the packets
  queues_inside : (f : ℕ → ℕ → Reason) (n : ℕ) (xs : List Packet) → seek_queues c itself f n (map inside xs) ≡ seek_queues c inside f n xs
  unfolding seek_queues
  queues_inside f n [] = refl
  queues_inside f n (x ∷ xs) = rw (queues_inside f (suc n) xs)

  -- ---- so, kind by kind
  abbrev ps : List Packet
  ps = packets s.wire

  sought : (f : ℕ → Reason) (p : Packet → Bool) → ((i : ℕ) → is_true s c (f i) ≡ is_at p ps i)
      → first_true s c (map f (indices 0 ps)) ≡ as_reason f (seek p 0 ps)
  sought f p h = first_sought f p 0 ps (λ i j q. let same : j ≡ i = omega (arith, q) in rw same (h i))

  queued : (f : ℕ → ℕ → Reason) (xs : List AgentSlot) → ((a i : ℕ) → is_true s c (f i a) ≡ is_at (queued_in c a) xs i)
      → first_true s c (in_queues f 0 xs) ≡ seek_queues c itself f 0 xs
  queued f xs h = first_queued f 0 xs (λ i j a q. let same : j ≡ i = omega (arith, q) in rw same (h a i))

  by_note : first_true s c (GrantLost ∷ []) ≡ lost_reason (note_of s c)
  unfolding first_true is_true
  by_note = refl

  pub by_kind : first_true s c (reasons_in s)
      ≡ or_else (as_reason Requested (seek (requests c) 0 ps)) (or_else (as_reason Granted (seek (grants c) 0 ps))
      (or_else (as_reason Rejected (seek (grant_rejected c) 0 ps)) (other_reason s c)))
  unfolding is_true reasons_in
  by_kind =
      let requested : List Reason = map Requested (indices 0 ps) in
      let granted : List Reason = map Granted (indices 0 ps) in
      let rejected : List Reason = map Rejected (indices 0 ps) in
      let on : List Reason = in_queues on_machine 0 s.agents in
      let carried : List Reason = in_queues Carried 0 (map inside ps) in
      let lost : List Reason = GrantLost ∷ [] in
      rw (
        first_append requested (granted ++ (rejected ++ (on ++ (carried ++ lost)))),
        first_append granted (rejected ++ (on ++ (carried ++ lost))),
        first_append rejected (on ++ (carried ++ lost)),
        first_append on (carried ++ lost),
        first_append carried lost,
        sought Requested (requests c) (λ i. refl),
        sought Granted (grants c) (λ i. refl),
        sought Rejected (grant_rejected c) (λ i. refl),
        queued on_machine s.agents (λ a i. refl),
        queued Carried (map inside ps) (λ a i. at_map (queued_in c a) inside i ps),
        queues_inside Carried 0 ps,
        by_note,
        else_assoc (seek_queues c itself on_machine 0 s.agents) (seek_queues c inside Carried 0 ps) (lost_reason (note_of s c)),
      )
