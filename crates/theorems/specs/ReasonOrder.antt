-- Of all reasons that are true of a client the first is given: by kind, then by index or machine, then by those ahead, on any cluster.
use Rattle.std.specs.Prelude.{◌≡◌, ◌∷◌, ◌++◌, ◌≤◌, ◌<◌, ◌+◌, ◌⊎◌, Ok}
use Rattle.std.proofs.Math.Logic.{inl, inr}
use Rattle.model.specs.Refusals.{first}
use Rattle.model.specs.Calls.{causes}
use Rattle.model.specs.Reasons.{reason_tests}
use Rattle.theorems.specs.Names.{ClientId, AgentSlot, Packet, LockState, Cluster, Answer, Accepted, Refused, Reason, Requested, Granted, Rejected, Queued}
use Rattle.theorems.specs.Names.{Carried, GrantLost, Because, refl, ap, true, false≢true, List, [], map, ℕ, suc, arith, indices, waiters, packets}
use Rattle.theorems.specs.Names.{status_of, lock_in, client_of, bool_cases, is_true, in_queues, reasons_in, first_true, is_waiting, reason_in}
use Rattle.theorems.specs.Names.{reason_unless, reason, ReasonAnswer, NoReason, sym, ◌∙◌, Bool, false, zero, is_at, is_client, and_right, requests, grants}
use Rattle.theorems.specs.Names.{grant_rejected, queued_in, reason_number, well_formed, lt-leb, locks, machines, tasks, LockId, MachineId, TaskId}
use Rattle.laws.specs.Lists.{at_map}
use Rattle.theorems.specs.Statements.{value_of, Before, by_kind, by_place, by_ahead, FirstGiven, FirstReason}

-- ---- what is among a list
module _ {A : Type 0} where
  unfoldable pub Among : A → List A → Type 0
  Among r [] = ⊥
  Among r (q ∷ qs) = (r ≡ q) ⊎ Among r qs

  among_left : (r : A) (xs ys : List A) → Among r xs → Among r (xs ++ ys)
  unfolding Among
  among_left r [] ys h = absurd h
  among_left r (x ∷ xs) ys (inl e) = inl e
  among_left r (x ∷ xs) ys (inr h) = inr (among_left r xs ys h)

  among_right : (r : A) (xs ys : List A) → Among r ys → Among r (xs ++ ys)
  unfolding Among
  among_right r [] ys h = h
  among_right r (x ∷ xs) ys h = inr (among_right r xs ys h)

-- things made of the indices of a list
module _ {A B : Type 0} (f : ℕ → B) where
  among_indices : (p : A → Bool) (n i j : ℕ) (xs : List A) → j ≡ n + i → is_at p xs i ≡ true → Among (f j) (map f (indices n xs))
  unfolding Among is_at indices
  among_indices p n i j [] e h = absurd (false≢true h)
  among_indices p n zero j (x ∷ xs) e h = inl (ap f (omega (arith, e)))
  among_indices p n (suc i) j (x ∷ xs) e h = inr (among_indices p (suc n) i j xs (omega (arith, e)) h)

module _ (c : ClientId) (f : ℕ → ℕ → Reason) where
  among_queues : (n i j a : ℕ) (xs : List AgentSlot) → j ≡ n + i → is_at (queued_in c a) xs i ≡ true → Among (f j a) (in_queues f n xs)
  unfolding is_at in_queues
  among_queues n i j a [] e h = absurd (false≢true h)
  among_queues n zero j a (x ∷ xs) e h =
      let same : j ≡ n = omega (arith, e) in
      rw same (among_left _ _ _ (among_indices (f n) (is_client c) 0 a a (waiters x.agent.queue) (omega arith) (and_right x.present _ h)))
  among_queues n (suc i) j a (x ∷ xs) e h =
      among_right _ (map (f n) (indices 0 (waiters x.agent.queue))) _ (among_queues (suc n) i j a xs (omega (arith, e)) h)

lost_last : Among GrantLost (GrantLost ∷ [])
unfolding Among
lost_last = inl refl

-- ---- the search
abbrev pub is_because : ReasonAnswer → Bool
is_because (Because r) = true
is_because (NoReason r) = false

abbrev pub because : Reason → ReasonAnswer → Reason
because q (Because r) = r
because q (NoReason r) = q

module _ (s : LockState) (c : ClientId) where
  abbrev ps : List Packet
  ps = packets s.wire

  abbrev wired : (ℕ → Reason) → List Reason
  wired f = map f (indices 0 ps)

  abbrev on : ℕ → ℕ → Reason
  on k = Queued (record { 0 = k })

  abbrev inside : List AgentSlot
  inside = map (λ (p : Packet). p.carried) ps

  -- what is true is tried
  pub tried : (r : Reason) → is_true s c r ≡ true → Among r (reasons_in s)
  unfolding is_true reasons_in
  tried (Requested i) h = among_left _ _ _ (among_indices Requested (requests c) 0 i i ps (omega arith) h)
  tried (Granted i) h = among_right _ (wired Requested) _ (among_left _ _ _ (among_indices Granted (grants c) 0 i i ps (omega arith) h))
  tried (Rejected i) h =
      among_right _ (wired Requested) _ (among_right _ (wired Granted) _
      (among_left _ _ _ (among_indices Rejected (grant_rejected c) 0 i i ps (omega arith) h)))
  tried (Queued k n) h =
      among_right _ (wired Requested) _ (among_right _ (wired Granted) _ (among_right _ (wired Rejected) _
      (among_left _ _ _ (among_queues c on 0 k.0 k.0 n s.agents (omega arith) h))))
  tried (Carried i n) h =
      among_right _ (wired Requested) _ (among_right _ (wired Granted) _ (among_right _ (wired Rejected) _
      (among_right _ (in_queues on 0 s.agents) _
      (among_left _ _ _ (among_queues c Carried 0 i i n inside (omega arith) (sym (at_map (queued_in c n) (λ (p : Packet). p.carried) i ps) ∙ h))))))
  tried GrantLost h =
      among_right _ (wired Requested) _ (among_right _ (wired Granted) _ (among_right _ (wired Rejected) _
      (among_right _ (in_queues on 0 s.agents) _ (among_right _ (in_queues Carried 0 inside) _ lost_last))))

  -- one is found
  abbrev pub Finds : List Reason → Type 0
  Finds rs = (r : Reason) × (first_true s c rs ≡ Because r)

  pub found_later : (q : Reason) (rs : List Reason) → is_true s c q ≡ false → Finds rs → Finds (q ∷ rs)
  unfolding first_true
  found_later q rs t f = (f.0, rw t f.1)

  -- where any that is tried is true
  found_among : (rs : List Reason) (r : Reason) → Among r rs → is_true s c r ≡ true → Finds rs
  unfolding first_true Among
  found_among [] r a h = absurd a
  found_among (q ∷ rs) r (inl same) h = (q, rw (← same, h))
  found_among (q ∷ rs) r (inr a) h = bool_cases (is_true s c q) (λ t. (q, rw t)) (λ t. found_later q rs t (found_among rs r a h))

  -- what is found is true
  pub found_true : (rs : List Reason) (r : Reason) → first_true s c rs ≡ Because r → is_true s c r ≡ true
  unfolding first_true
  found_true [] r e = absurd (false≢true (ap is_because e))
  found_true (q ∷ rs) r e =
      bool_cases (is_true s c q)
      (λ h. let same : q ≡ r = ap (because q) (rw h at e) in rw (sym same) h)
      (λ h. found_true rs r (rw h at e))

-- ---- the order
abbrev NotBefore : Reason → Reason → Type 0
NotBefore q r = Before q r → ⊥

not_itself : (r : Reason) → NotBefore r r
not_itself r (by_kind h) = omega (arith, h)
not_itself r (by_place e h) = omega (arith, h)
not_itself r (by_ahead e f h) = omega (arith, h)

later_kind : (q r : Reason) → value_of 0 r < value_of 0 q → NotBefore q r
later_kind q r l (by_kind h) = omega (arith, h, l)
later_kind q r l (by_place e h) = omega (arith, e, l)
later_kind q r l (by_ahead e f h) = omega (arith, e, l)

later_place : (q r : Reason) → value_of 0 q ≡ value_of 0 r → value_of 1 r < value_of 1 q → NotBefore q r
later_place q r e l (by_kind h) = omega (arith, e, h)
later_place q r e l (by_place f h) = omega (arith, l, h)
later_place q r e l (by_ahead f g h) = omega (arith, l, g)

later_ahead : (q r : Reason) → value_of 0 q ≡ value_of 0 r → value_of 1 q ≡ value_of 1 r → value_of 2 r < value_of 2 q → NotBefore q r
later_ahead q r e f l (by_kind h) = omega (arith, e, h)
later_ahead q r e f l (by_place g h) = omega (arith, f, h)
later_ahead q r e f l (by_ahead g k h) = omega (arith, l, h)

-- ---- Lists in which none stands before an earlier one.
unfoldable Sorted : List Reason → Type 0
Sorted [] = Unit {0}
Sorted (r ∷ rs) = ((q : Reason) → Among q rs → NotBefore q r) × Sorted rs

among_split : {A : Type 0} (r : A) (xs ys : List A) → Among r (xs ++ ys) → Among r xs ⊎ Among r ys
unfolding Among
among_split r [] ys h = inr h
among_split r (x ∷ xs) ys (inl e) = inl (inl e)
among_split {A} r (x ∷ xs) ys (inr h) = go (among_split r xs ys h)
  where
    go : Among r xs ⊎ Among r ys → Among r (x ∷ xs) ⊎ Among r ys
    go (inl a) = inl (inr a)
    go (inr b) = inr b

either : {A B C : Type 0} → (A → C) → (B → C) → A ⊎ B → C
either f g (inl a) = f a
either f g (inr b) = g b

sorted_append : (xs ys : List Reason) → Sorted xs → Sorted ys → ((x y : Reason) → Among x xs → Among y ys → NotBefore y x) → Sorted (xs ++ ys)
unfolding Sorted Among
sorted_append [] ys s t h = t
sorted_append (x ∷ xs) ys s t h =
    (λ q a. either (s.0 q) (h x q (inl refl)) (among_split q xs ys a), sorted_append xs ys s.1 t (λ z y a b. h z y (inr a) b))

-- ---- things made of the indices of a list, from n on
module _ {A : Type 0} (f : ℕ → Reason) where
  made : (n : ℕ) (xs : List A) (q : Reason) → Among q (map f (indices n xs)) → (j : ℕ) × ((n ≤ j) × (q ≡ f j))
  unfolding Among indices
  made n [] q a = absurd a
  made n (x ∷ xs) q (inl e) = (n, (omega arith, e))
  made n (x ∷ xs) q (inr a) = let m = made (suc n) xs q a in (m.0, (omega (arith, m.1.0), m.1.1))

  sorted_made : ((i j : ℕ) → i < j → NotBefore (f j) (f i)) → (n : ℕ) (xs : List A) → Sorted (map f (indices n xs))
  unfolding Sorted indices
  sorted_made h n [] = tt
  sorted_made h n (x ∷ xs) =
      (λ q a. let m = made (suc n) xs q a in rw m.1.1 (h n m.0 (omega (arith, m.1.0))), sorted_made h (suc n) xs)

-- and of queues
module _ (f : ℕ → ℕ → Reason) where
  queued : (n : ℕ) (xs : List AgentSlot) (q : Reason) → Among q (in_queues f n xs) → (j : ℕ) × ((a : ℕ) × ((n ≤ j) × (q ≡ f j a)))
  unfolding Among in_queues
  queued n [] q a = absurd a
  queued n (x ∷ xs) q a =
      either (λ h. let m = made (f n) 0 (waiters x.agent.queue) q h in (n, (m.0, (omega arith, m.1.1))))
      (λ h. let m = queued (suc n) xs q h in (m.0, (m.1.0, (omega (arith, m.1.1.0), m.1.1.1))))
      (among_split q (map (f n) (indices 0 (waiters x.agent.queue))) (in_queues f (suc n) xs) a)

  sorted_queues : ((i a b : ℕ) → a < b → NotBefore (f i b) (f i a)) → ((i j a b : ℕ) → i < j → NotBefore (f j b) (f i a)) → (n : ℕ) (xs : List AgentSlot)
      → Sorted (in_queues f n xs)
  unfolding Sorted in_queues
  sorted_queues h g n [] = tt
  sorted_queues h g n (x ∷ xs) =
      sorted_append (map (f n) (indices 0 (waiters x.agent.queue))) (in_queues f (suc n) xs) (sorted_made (f n) (h n) 0 (waiters x.agent.queue))
      (sorted_queues h g (suc n) xs)
      (λ y z a b. let m = made (f n) 0 (waiters x.agent.queue) y a in
      let k = queued (suc n) xs z b in
      rw (m.1.1, k.1.1.1) (g n k.0 m.0 k.1.0 (omega (arith, k.1.1.0))))

-- ---- kind by kind
record From (k : ℕ) (rs : List Reason) : Type 0 where
  sorted : Sorted rs
  least : (r : Reason) → Among r rs → k ≤ value_of 0 r

kind_first : (k : ℕ) (xs ys : List Reason) → Sorted xs → ((x : Reason) → Among x xs → value_of 0 x ≡ k) → From (suc k) ys → From k (xs ++ ys)
kind_first k xs ys s e t =
    record {
      sorted = sorted_append xs ys s t.sorted (λ x y a b. later_kind y x (omega (arith, e x a, t.least y b)));
      least = λ r a. either (λ h. omega (arith, e r h)) (λ h. omega (arith, t.least r h)) (among_split r xs ys a);
    }

lost_only : From 6 (GrantLost ∷ [])
unfolding Sorted Among
lost_only = record { sorted = (λ q a. absurd a, tt); least = λ r a. either (λ e. rw e (omega arith)) (λ h. absurd h) a }

tried_in_order : (s : LockState) → From 1 (reasons_in s)
unfolding reasons_in
tried_in_order s =
    kind_first 1 _ _ (sorted_made Requested (λ i j h. later_place (Requested j) (Requested i) refl h) 0 (packets s.wire))
    (λ x a. ap (value_of 0) (made Requested 0 (packets s.wire) x a).1.1)
    (kind_first 2 _ _ (sorted_made Granted (λ i j h. later_place (Granted j) (Granted i) refl h) 0 (packets s.wire))
    (λ x a. ap (value_of 0) (made Granted 0 (packets s.wire) x a).1.1)
    (kind_first 3 _ _ (sorted_made Rejected (λ i j h. later_place (Rejected j) (Rejected i) refl h) 0 (packets s.wire))
    (λ x a. ap (value_of 0) (made Rejected 0 (packets s.wire) x a).1.1)
    (kind_first 4 _ _
    (sorted_queues on (λ i a b h. later_ahead (on i b) (on i a) refl refl h) (λ i j a b h. later_place (on j b) (on i a) refl h) 0 s.agents)
    (λ x a. ap (value_of 0) (queued on 0 s.agents x a).1.1.1)
    (kind_first 5 _ _
    (sorted_queues Carried (λ i a b h. later_ahead (Carried i b) (Carried i a) refl refl h) (λ i j a b h. later_place (Carried j b) (Carried i a) refl h) 0
    inside)
    (λ x a. ap (value_of 0) (queued Carried 0 inside x a).1.1.1) lost_only))))
  where
    on : ℕ → ℕ → Reason
    on k = Queued (record { 0 = k })

    inside : List AgentSlot
    inside = map (λ (p : Packet). p.carried) (packets s.wire)

-- ---- the first that is true
module _ (s : LockState) (c : ClientId) where
  first_true_lem : (rs : List Reason) (r q : Reason) → Sorted rs → first_true s c rs ≡ Because r → Among q rs → is_true s c q ≡ true → NotBefore q r
  unfolding first_true Sorted Among
  first_true_lem [] r q o e a h = absurd a
  first_true_lem (x ∷ rs) r q o e (inl same) h = let t : q ≡ r = ap (because x) (rw (← same, h) at e) in rw t (not_itself r)
  first_true_lem (x ∷ rs) r q o e (inr a) h =
      bool_cases (is_true s c x)
      (λ y. let t : x ≡ r = ap (because x) (rw y at e) in rw (← t) (o.0 q a))
      (λ y. first_true_lem rs r q o.1 (rw y at e) a h)

  given_first : (r : Reason) → reason_in s c ≡ Because r → FirstGiven s c r
  unfolding reason_in
  given_first r e =
      bool_cases (is_waiting (status_of s c))
      (λ w. record {
        waits = w;
        holds = found_true s c (reasons_in s) r (rw w at e);
        first_of = λ q h. first_true_lem (reasons_in s) r q (tried_in_order s).sorted (rw w at e) (tried s c q h) h;
      })
      (λ w. absurd (false≢true (ap is_because (rw w at e))))

  some_given : (r : Reason) → is_waiting (status_of s c) ≡ true → is_true s c r ≡ true → reason_number (reason_in s c) ≡ 0
  unfolding reason_in
  some_given r w h = rw (w, (found_among s c (reasons_in s) r (tried s c r h) h).1)

-- ---- of the call: in range it comes to the search
pub asked : (x : Cluster) (l : LockId) (k : MachineId) (t : TaskId) → well_formed x ≡ true → l.0 < locks → k.0 < machines → t.0 < tasks
    → reason x l k t ≡ reason_in (lock_in x l) (client_of k t)
unfolding reason reason_unless first
asked x l k t w lb kb tb = rw (w, lt-leb locks l.0 lb, lt-leb machines k.0 kb, lt-leb tasks t.0 tb)

pub first_reason : (x : Cluster) (l : LockId) (k : MachineId) (t : TaskId) → FirstReason x l k t
unfolding reason reason_unless
first_reason x l k t =
    record {
      given = λ r e. go r (first (causes x l (reason_tests k t))) e;
      complete = λ w lb kb tb st r h. rw (asked x l k t w lb kb tb) (some_given (lock_in x l) (client_of k t) r st h);
    }
  where
    go : (r : Reason) (a : Answer) → reason_unless a (lock_in x l) (client_of k t) ≡ Because r → FirstGiven (lock_in x l) (client_of k t) r
    go r (Ok tt) e = given_first (lock_in x l) (client_of k t) r e
    go r (Refused n) e = absurd (false≢true (ap is_because e))
