-- The reasons that are true of a client (the model's Reasons), counted: as many as the invariant counts of its waiting.
use Rattle.std.specs.Prelude.{◌≡◌, ◌&&◌, ◌∷◌, ◌++◌, ◌+◌}
use Rattle.theorems.specs.Names.{ClientId, Mode, Exclusive, Shared, Waiter, AgentSlot, Message, Acquire, Grant, Release, Free, Packet, LockState}
use Rattle.theorems.specs.Names.{Reason, Requested, Granted, Rejected, Queued, Carried, refl, sym, ap, ◌∙◌, Bool, true, false, not, List, []}
use Rattle.theorems.specs.Names.{map, ℕ, zero, suc, arith, eqb, eqb-true, eqb-false, eq-eqb, ne_eqb, is_at, indices, is_client, waiters}
use Rattle.theorems.specs.Names.{packets, bool_cases, is_request_of, requests, grants, grant_rejected, queued_in, is_true, in_queues, reasons_in, is_grant_for}
use Rattle.theorems.specs.Names.{GrantLost, note_of}
use Rattle.laws.specs.Lists.{at_map}
use Rattle.theorems.specs.Tally.{flag, gate, tally, tally_append, tally_map, tally_ext, tally_add, tally_zero}
use Rattle.theorems.specs.Weights.{weight, hit, hit_w, ask_m, queued_s, waiting_p}

-- ---- how many pass a test
module _ {A : Type 0} where
  abbrev pub passing : (A → Bool) → List A → ℕ
  passing t xs = tally (λ (x : A). flag (t x)) xs

  at_none : (xs : List A) (i : ℕ) → is_at (λ (x : A). false) xs i ≡ false
  unfolding is_at
  at_none [] i = refl
  at_none (x ∷ xs) zero = refl
  at_none (x ∷ xs) (suc i) = at_none xs i

-- things made of the indices of a list, and a test of them that looks at the element
module _ {A B : Type 0} (f : ℕ → B) where
  passing_indices : (t : B → Bool) (p : A → Bool) (n : ℕ) (xs : List A)
      → ((i j : ℕ) → j ≡ n + i → t (f j) ≡ is_at p xs i) → passing t (map f (indices n xs)) ≡ passing p xs
  unfolding tally is_at indices
  passing_indices t p n [] h = refl
  passing_indices t p n (x ∷ xs) h =
      omega (arith, ap flag (h 0 n (omega arith)), passing_indices t p (suc n) xs (λ i j e. h (suc i) j (omega (arith, e))))

-- ---- the same for queues
abbrev lined : ClientId → AgentSlot → ℕ
lined c x = gate x.present (passing (is_client c) (waiters x.agent.queue))

module _ (c : ClientId) (f : ℕ → ℕ → Reason) where
  passing_queue : (t : Reason → Bool) (n : ℕ) (b : Bool) (ws : List Waiter) → ((a : ℕ) → t (f n a) ≡ (b && is_at (is_client c) ws a))
      → passing t (map (f n) (indices 0 ws)) ≡ gate b (passing (is_client c) ws)
  passing_queue t n true ws h = passing_indices (f n) t (is_client c) 0 ws (λ i j e. let same : j ≡ i = omega (arith, e) in rw same (h i))
  passing_queue t n false ws h = passing_indices (f n) t (λ w. false) 0 ws (λ i j e. h j ∙ sym (at_none ws i)) ∙ tally_zero ws

  passing_queues : (t : Reason → Bool) (n : ℕ) (xs : List AgentSlot)
      → ((i j a : ℕ) → j ≡ n + i → t (f j a) ≡ is_at (queued_in c a) xs i) → passing t (in_queues f n xs) ≡ tally (lined c) xs
  unfolding tally is_at in_queues
  passing_queues t n [] h = refl
  passing_queues t n (x ∷ xs) h =
      omega (
        arith,
        tally_append (λ (r : Reason). flag (t r)) (map (f n) (indices 0 (waiters x.agent.queue))) (in_queues f (suc n) xs),
        passing_queue t n x.present (waiters x.agent.queue) (λ a. h 0 n a (omega arith)),
        passing_queues t (suc n) xs (λ i j a e. h (suc i) j a (omega (arith, e))),
      )

-- ---- what is true of a client, and the invariant's weights: both modes together
same_sides : (a b : ℕ) → eqb a b ≡ eqb b a
same_sides a b = bool_cases (eqb a b) (λ q. q ∙ sym (eq-eqb b a (sym (eqb-true a b q)))) (λ q. q ∙ sym (ne_eqb b a (λ z. eqb-false a b q (sym z))))

either_mode : (d : ℕ) (c : ClientId) (n : Mode) → hit d Exclusive c n + hit d Shared c n ≡ flag (eqb c.0 d)
unfolding hit
either_mode d c Exclusive = omega arith
either_mode d c Shared = omega arith

asks : (c : ClientId) (b : Bool) (m : Message)
    → flag (is_request_of c m) + (flag (not b && is_grant_for c m) + flag (b && is_grant_for c m)) ≡ ask_m c.0 Exclusive m + ask_m c.0 Shared m
unfolding ask_m
asks c true (Acquire d n true) = refl
asks c false (Acquire d n true) = refl
asks c true (Acquire d n false) = omega (arith, either_mode c.0 d n, ap flag (same_sides c.0 d.0))
asks c false (Acquire d n false) = omega (arith, either_mode c.0 d n, ap flag (same_sides c.0 d.0))
asks c true (Grant d n) = omega (arith, either_mode c.0 d n, ap flag (same_sides c.0 d.0))
asks c false (Grant d n) = omega (arith, either_mode c.0 d n, ap flag (same_sides c.0 d.0))
asks c true (Release d) = refl
asks c false (Release d) = refl
asks c true Free = refl
asks c false Free = refl

lines_up : (c : ClientId) (x : AgentSlot) → lined c x ≡ queued_s c.0 Exclusive x + queued_s c.0 Shared x
unfolding queued_s
lines_up c x =
    let ws = waiters x.agent.queue in
    let both = tally_add (hit_w c.0 Exclusive) (hit_w c.0 Shared) ws in
    let same = tally_ext (λ (w : Waiter). hit_w c.0 Exclusive w + hit_w c.0 Shared w) _ (λ w. either_mode c.0 w.client w.mode) ws in
    gated x.present _ _ _ (sym same ∙ both)
  where
    gated : (b : Bool) (k m n : ℕ) → k ≡ m + n → gate b k ≡ gate b m + gate b n
    gated true k m n e = e
    gated false k m n e = refl

-- a packet's reasons: of itself, and of the queue inside
abbrev own_p : ClientId → Packet → ℕ
own_p c p = flag (requests c p) + (flag (grants c p) + flag (grant_rejected c p))

waits_twice : (c : ClientId) (ps : List Packet)
    → tally (own_p c) ps + tally (λ (p : Packet). lined c p.carried) ps ≡ tally (waiting_p c.0 Exclusive) ps + tally (waiting_p c.0 Shared) ps
waits_twice c ps =
    let added : (p : Packet) → own_p c p + lined c p.carried ≡ waiting_p c.0 Exclusive p + waiting_p c.0 Shared p =
    (λ p. omega (arith, asks c p.rejected p.message, lines_up c p.carried)) in
    sym (tally_add (own_p c) (λ p. lined c p.carried) ps) ∙ tally_ext _ _ added ps ∙ tally_add (waiting_p c.0 Exclusive) (waiting_p c.0 Shared) ps

module _ (s : LockState) (c : ClientId) where
  abbrev pub ps : List Packet
  ps = packets s.wire

  -- the lists of what is tried
  abbrev pub wired : (ℕ → Reason) → List Reason
  wired f = map f (indices 0 ps)

  abbrev pub on : ℕ → ℕ → Reason
  on k = Queued (record { 0 = k })

  abbrev pub carried : Packet → AgentSlot
  carried p = p.carried

  abbrev pub inside : List AgentSlot
  inside = map carried ps

  abbrev pub true_in : List Reason → ℕ
  true_in = passing (is_true s c)

  of_six : (v w x y z u : List Reason) → true_in (v ++ (w ++ (x ++ (y ++ (z ++ u)))))
      ≡ true_in v + (true_in w + (true_in x + (true_in y + (true_in z + true_in u))))
  of_six v w x y z u =
      let g : Reason → ℕ = (λ r. flag (is_true s c r)) in
      omega (
        arith,
        tally_append g v (w ++ (x ++ (y ++ (z ++ u)))),
        tally_append g w (x ++ (y ++ (z ++ u))),
        tally_append g x (y ++ (z ++ u)),
        tally_append g y (z ++ u),
        tally_append g z u,
      )

  on_wire_lem : (f : ℕ → Reason) (p : Packet → Bool) → ((i : ℕ) → is_true s c (f i) ≡ is_at p ps i) → true_in (wired f) ≡ passing p ps
  on_wire_lem f p h = passing_indices f (is_true s c) p 0 ps (λ i j e. let same : j ≡ i = omega (arith, e) in rw same (h i))

  in_queues_lem : (f : ℕ → ℕ → Reason) (xs : List AgentSlot) → ((i a : ℕ) → is_true s c (f i a) ≡ is_at (queued_in c a) xs i)
      → true_in (in_queues f 0 xs) ≡ tally (lined c) xs
  in_queues_lem f xs h = passing_queues c f (is_true s c) 0 xs (λ i j a e. let same : j ≡ i = omega (arith, e) in rw same (h i a))

  -- as many reasons are true as there is of the client that asks, in either mode, and one more where it has the note of a lost GRANT
  pub reasons_are : true_in (reasons_in s)
      ≡ weight (waiting_p c.0 Exclusive) (queued_s c.0 Exclusive) s + weight (waiting_p c.0 Shared) (queued_s c.0 Shared) s + flag (note_of s c)
  unfolding is_true reasons_in weight tally
  reasons_are =
      let parts = of_six (wired Requested) (wired Granted) (wired Rejected) (in_queues on 0 s.agents) (in_queues Carried 0 inside) (GrantLost ∷ []) in
      let machines-are = in_queues_lem on s.agents (λ i a. refl) in
      let packets-are = in_queues_lem Carried inside (λ i a. at_map (queued_in c a) carried i ps) ∙ tally_map (lined c) carried ps in
      let slots = tally_ext (lined c) _ (lines_up c) s.agents ∙ tally_add (queued_s c.0 Exclusive) (queued_s c.0 Shared) s.agents in
      let own = tally_add (λ p. flag (requests c p)) (λ p. flag (grants c p) + flag (grant_rejected c p)) ps in
      let granted = tally_add (λ p. flag (grants c p)) (λ p. flag (grant_rejected c p)) ps in
      omega (
        arith,
        parts,
        machines-are,
        packets-are,
        slots,
        own,
        granted,
        waits_twice c ps,
        on_wire_lem Requested (requests c) (λ i. refl),
        on_wire_lem Granted (grants c) (λ i. refl),
        on_wire_lem Rejected (grant_rejected c) (λ i. refl),
      )
