-- A queue's waiters where an agent is installed, one after the other; and room in a queue.
use Rattle.std.specs.Prelude.{◌≡◌, ℕ, ◌+◌, ◌≤◌, Bool, true, ◌&&◌, List, [], ◌∷◌, ◌++◌, length, ◌==◌, slice_set}
use Rattle.std.proofs.Common.{◌∙◌, append-nil, arith, length-append, ne_eqb}
use Rattle.std.proofs.Math.Seq.{append_snoc}
use Rattle.machine.specs.declared.Admission.{Admission}
use Rattle.machine.specs.Names.{Mode, Waiter, Queue}
use Rattle.model.specs.Lists.{pick}
use Rattle.model.specs.States.{queue_capacity, queue_of, waiters}
use Rattle.model.specs.AtMachine.{may_leave, admitted, staying, joined}
use Rattle.laws.specs.Tests.{bool_cases}
use Rattle.laws.specs.Shapes.{CanonicalQueue, waiters_of, canonical_queue, length_waiters}

-- ---- room for n more waiters
abbrev Fits : Queue → ℕ → Type 0
Fits q n = (CanonicalQueue q) × (q.len + n ≤ queue_capacity)

abbrev pub Room : Admission → ℕ → Type 0
Room t n = (Fits t.staying n) × (Fits t.admitted n)

-- the queue with one more
abbrev more : Queue → Waiter → Queue
more q w = queue_of (waiters q ++ w ∷ [])

more_fits : (q : Queue) (w : Waiter) (n : ℕ) → Fits q (1 + n) → Fits (more q w) n
unfolding queue_of
more_fits q w n h =
    let e : length (waiters q ++ w ∷ []) ≡ q.len + 1 = simp length-append (omega (arith, length_waiters q h.0)) in
    (canonical_queue (waiters q ++ w ∷ []) (omega (arith, e, h.1)), omega (arith, e, h.1))

abbrev opening : List Bool → Admission
opening hs = record { holders = hs; staying = queue_of []; admitted = queue_of [] }

-- ---- one waiter, and the waiters ws, one after the other, where an agent with mode m is installed
module _ (m : Mode) where
  abbrev pub leaves_next : Admission → Waiter → Bool
  leaves_next t w = t.staying.len == 0 && may_leave m w

  unfoldable pub admits_one : Admission → Waiter → Admission
  admits_one t w =
      pick (leaves_next t w)
      (record { holders = slice_set t.holders w.client.0 true; staying = t.staying; admitted = more t.admitted w })
      (record { holders = t.holders; staying = more t.staying w; admitted = t.admitted })

  unfoldable pub admits : Admission → List Waiter → Admission
  admits t [] = t
  admits t (w ∷ ws) = admits (admits_one t w) ws

  pub room_next : (t : Admission) (w : Waiter) (n : ℕ) → Room t (1 + n) → Room (admits_one t w) n
  unfolding admits_one
  room_next t w n r =
      bool_cases (leaves_next t w)
      (λ e. rw e ((r.0.0, omega (arith, r.0.1)), more_fits t.admitted w n r.1))
      (λ e. rw e (more_fits t.staying w n r.0, (r.1.0, omega (arith, r.1.1))))

  -- ---- all waiters of a queue
  abbrev pub admission : List Bool → List Waiter → Admission
  admission hs ws = record { holders = joined hs (admitted m ws); staying = queue_of (staying m ws); admitted = queue_of (admitted m ws) }

  -- behind one who stays, all stay
  closed : (hs : List Bool) (w : Waiter) (ss : List Waiter) (out : Queue) (ws : List Waiter)
      → admits (record { holders = hs; staying = queue_of (w ∷ ss); admitted = out }) ws
      ≡ record { holders = hs; staying = queue_of (w ∷ ss ++ ws); admitted = out }
  unfolding admits admits_one queue_of
  closed hs w ss out [] = rw (append-nil ss)
  closed hs w ss out (v ∷ ws) =
      rw (ne_eqb (length (w ∷ ss)) 0 (λ e. omega (arith, e)), waiters_of (w ∷ ss)) (closed hs w (ss ++ v ∷ []) out ws ∙ rw append_snoc)

  -- until then, those leave who may
  going : (hs : List Bool) (out ws : List Waiter)
      → admits (record { holders = hs; staying = queue_of []; admitted = queue_of out }) ws
      ≡ record { holders = joined hs (admitted m ws); staying = queue_of (staying m ws); admitted = queue_of (out ++ admitted m ws) }
  unfolding admits admits_one admitted staying joined queue_of
  going hs out [] = rw append-nil
  going hs out (w ∷ ws) =
      bool_cases (may_leave m w)
      (λ e. rw (e, waiters_of out) (going (slice_set hs w.client.0 true) (out ++ w ∷ []) ws ∙ rw append_snoc))
      (λ e. rw (e, append-nil, waiters_of []) (closed hs w [] (queue_of out) ws))

  pub admits_start : (hs : List Bool) (ws : List Waiter) → admits (opening hs) ws ≡ admission hs ws
  admits_start hs ws = going hs [] ws

pub room_start : (hs : List Bool) (n : ℕ) → n ≤ queue_capacity → Room (opening hs) n
unfolding queue_of
room_start hs n h = let e = canonical_queue [] (omega arith) in ((e, omega (arith, h)), (e, omega (arith, h)))
