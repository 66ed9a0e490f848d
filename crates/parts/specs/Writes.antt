-- What the code writes into a wire or a queue, as what is done to its list.
use Rattle.std.specs.Prelude.{◌≡◌, refl, List, [], ◌∷◌, ◌++◌, ℕ, zero, suc, ◌+◌, ◌-◌, ◌<◌, ◌≤◌, length, take, set}
use Rattle.std.proofs.Common.{ap, arith, length-append}
use Rattle.parts.specs.Names.{Waiter, Queue, Packet, Wire}
use Rattle.model.specs.Lists.{removed}
use Rattle.model.specs.States.{queue_capacity, blank_waiter, queue_of, waiters, wire_capacity, blank_packet, wire_of, packets}
use Rattle.laws.specs.Lists.{length_removed}
use Rattle.laws.specs.Shapes.{CanonicalWire, CanonicalQueue, length_packets, wire_whole}
use Rattle.parts.specs.Arrays.{cut_used, slid, canonical_push, canonical_cut, canonical_front}

-- the length of a list with one more, and with one less
sized_more : {A : Type 0} (xs : List A) (a : A) (n : ℕ) → length xs ≡ n → length (xs ++ a ∷ []) ≡ n + 1
sized_more xs a n e = simp length-append (omega (arith, e))

pub sized_less : {A : Type 0} (xs : List A) (i n : ℕ) → length xs ≡ n → i < n → length (removed xs i) ≡ n - 1
sized_less xs i n e h = omega (arith, length_removed xs i (omega (arith, e)), e)

pub sent_at : (w : Wire) (p : Packet) → CanonicalWire w → w.len < wire_capacity
    → record { slots = set w.slots w.len p; len = w.len + 1 } ≡ wire_of (packets w ++ p ∷ [])
unfolding packets wire_of
sent_at w p h k = rw (sized_more (take w.len w.slots) p w.len h.size, canonical_push wire_capacity blank_packet w.slots w.len h p k)

pub queued_at : (q : Queue) (a : Waiter) → CanonicalQueue q → q.len < queue_capacity
    → record { slots = set q.slots q.len a; len = q.len + 1 } ≡ queue_of (waiters q ++ a ∷ [])
unfolding waiters queue_of
queued_at q a h k = rw (sized_more (take q.len q.slots) a q.len h.size, canonical_push queue_capacity blank_waiter q.slots q.len h a k)

pub cut_off : (w : Wire) (i : ℕ) → CanonicalWire w → i < w.len
    → record { slots = cut_used w.slots i w.len blank_packet; len = w.len - 1 } ≡ wire_of (removed (packets w) i)
unfolding packets wire_of
cut_off w i h k = rw (sized_less (take w.len w.slots) i w.len h.size k, canonical_cut wire_capacity blank_packet w.slots w.len h i k)

pub removed_none : (ps : List Packet) (i : ℕ) → length ps ≤ i → removed ps i ≡ ps
unfolding removed
removed_none [] i h = refl
removed_none (p ∷ ps) zero h = absurd (omega arith)
removed_none (p ∷ ps) (suc i) h = ap (λ (qs : List Packet). p ∷ qs) (removed_none ps i (omega arith))

pub none_off : (w : Wire) (i : ℕ) → CanonicalWire w → w.len ≤ i → w ≡ wire_of (removed (packets w) i)
none_off w i h k = rw (removed_none (packets w) i (omega (arith, length_packets w h))) (wire_whole w h)

pub cut_out : (q : Queue) (i : ℕ) → CanonicalQueue q → i < q.len
    → record { slots = cut_used q.slots i q.len blank_waiter; len = q.len - 1 } ≡ queue_of (removed (waiters q) i)
unfolding waiters queue_of
cut_out q i h k = rw (sized_less (take q.len q.slots) i q.len h.size k, canonical_cut queue_capacity blank_waiter q.slots q.len h i k)

pub fronted : (q : Queue) (a : Waiter) → CanonicalQueue q → q.len < queue_capacity
    → record { slots = slid q.slots q.len a; len = q.len + 1 } ≡ queue_of (a ∷ waiters q)
unfolding waiters queue_of
fronted q a h k =
    let e : length (a ∷ take q.len q.slots) ≡ q.len + 1 = omega (arith, h.size) in
    rw (canonical_front queue_capacity blank_waiter q.slots q.len h a k, ← e)
