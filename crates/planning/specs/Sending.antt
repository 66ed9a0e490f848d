-- Packets sent on a wire.
use Rattle.std.specs.Prelude.{◌≡◌, List, [], ◌∷◌, ◌++◌, ℕ, ◌+◌, ◌<◌, ◌≤◌, length, take, drop, set, min}
use Rattle.std.proofs.Math.Path.{sym, ap}
use Rattle.std.proofs.Common.{subst, ◌∙◌, arith, length-append, take-append-drop}
use Rattle.std.proofs.Math.Seq.{take-append_seam}
use Rattle.std.proofs.lemmas.List.{length-take}
use Rattle.planning.specs.Names.{Packet, Wire}
use Rattle.model.specs.States.{wire_capacity, wire_of, packets}
use Rattle.laws.specs.Shapes.{CanonicalWire, canonical_wire, packets_of, length_packets}
use Rattle.parts.specs.Writes.{sent_at}

-- one packet, at the wire's end
abbrev pub sending : Wire → Packet → Wire
sending w p = record { slots = set w.slots w.len p; len = w.len + 1 }

pub sent_whole : (w : Wire) (p : Packet) → CanonicalWire w → w.len < wire_capacity → CanonicalWire (sending w p)
sent_whole w p h k =
    let m : length (packets w ++ p ∷ []) ≤ wire_capacity = simp length-append (omega (arith, length_packets w h)) in
    subst (λ (v : Wire). CanonicalWire v) (sym (sent_at w p h k)) (canonical_wire (packets w ++ p ∷ []) m)

pub sent_last : (w : Wire) (p : Packet) → CanonicalWire w → w.len < wire_capacity → packets (sending w p) ≡ packets w ++ p ∷ []
sent_last w p h k = ap packets (sent_at w p h k) ∙ packets_of (packets w ++ p ∷ [])

-- the slots that a length means, by their number
pub used_slots : {A : Type 0} (n k : ℕ) (xs : List A) → length xs ≡ k → take (min n k) xs ≡ take n xs
used_slots {A = A} n k xs h =
    let e : take (length (take n xs)) xs ≡ take n xs =
    ap (λ (ys : List A). take (length (take n xs)) ys) (sym (take-append-drop n xs)) ∙ take-append_seam (take n xs) (drop n xs) in
    rw (length-take n xs, h) at e

-- the wire without the packet taken off has room for those sent
pub rest_fits : (w : Wire) (ps : List Packet) (k : ℕ) → w ≡ wire_of ps → length ps + k ≤ wire_capacity → (CanonicalWire w) × (w.len + k ≤ wire_capacity)
unfolding wire_of
rest_fits w ps k e h = rw e (canonical_wire ps (omega arith), h)
