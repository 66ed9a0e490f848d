-- The drain of a lock (document 01, "Draining a lock"): its packets are delivered, its holders release, and those whose GRANT was lost give up, until nothing
-- is left to do.
use Rattle.std.specs.Prelude.{not, List, [], ◌∷◌, ℕ, zero, suc, ◌/◌, ◌%◌, length, leb, Ok}
use Rattle.model.specs.Lists.{pick}
use Rattle.model.specs.Names.{LockId, Packet, ClientState, LockState, Cluster, Call, ReleaseCall, DeliverCall, GiveUpCall, Refusal, Malformed}
use Rattle.model.specs.Names.{LockRange, NotQuiescent, Answer, Accepted, Refused, None, Drained}
use Rattle.model.specs.States.{locks, tasks, packets, lock_in}
use Rattle.model.specs.WellFormed.{well_formed}
use Rattle.model.specs.Refusals.{◌when◌, first}
use Rattle.model.specs.Calls.{is_holding, perform, handlings_of, last_told}

-- the steps that it may take
abbrev pub allowance : ℕ
allowance = 32768

-- the drain's next call, or none
pub data Next : Type 0 where
  none : Next
  some : Call → Next

-- the release by the first holder of a list whose clients are numbered from n
unfoldable pub release_first : LockId → ℕ → List ClientState → Next
release_first l n [] = none
release_first l n (c ∷ cs) =
    pick (is_holding c.status) (some (ReleaseCall l (record { 0 = n / tasks }) (record { 0 = n % tasks }))) (release_first l (suc n) cs)

-- the giving up by the first of them who has the note of a lost GRANT (request 8 of document 02)
unfoldable pub give_up_first : LockId → ℕ → List ClientState → Next
give_up_first l n [] = none
give_up_first l n (c ∷ cs) = pick c.lost (some (GiveUpCall l (record { 0 = n / tasks }) (record { 0 = n % tasks }))) (give_up_first l (suc n) cs)

abbrev pub or_else : Next → Next → Next
or_else none n = n
or_else (some c) n = some c

-- Packets come first, from the front of the wire; releases when there are none; and giving up when nobody holds.
unfoldable pub next_of : LockId → List Packet → List ClientState → Next
next_of l [] cs = or_else (release_first l 0 cs) (give_up_first l 0 cs)
next_of l (p ∷ ps) cs = some (DeliverCall l 0)

abbrev pub next_call : LockId → LockState → Next
next_call l s = next_of l (packets s.wire) s.clients

-- A lock is quiescent when that leaves nothing.
abbrev pub Quiescent : LockId → LockState → Type 0
Quiescent l s = Path Next (next_call l s) none

-- the calls of a drain, and how it ends
pub record Drainage : Type 0 where
  pub answer : Answer
  pub calls : List Call
  pub cluster : Cluster

abbrev pub ending : Answer → Cluster → Drainage
ending a x = record { answer = a; calls = []; cluster = x }

abbrev pub after_one : Call → Drainage → Drainage
after_one c d = record { answer = d.answer; calls = c ∷ d.calls; cluster = d.cluster }

-- Call after call, with so many steps left; a refused one ends the drain.
unfoldable pub drainage : ℕ → LockId → Cluster → Drainage
drainage zero l x = elim (next_call l (lock_in x l)) [ none ↦ ending Accepted x | some c ↦ ending (Refused NotQuiescent) x ]
drainage (suc left) l x =
    elim (next_call l (lock_in x l)) [
      | none ↦ ending Accepted x
      | some c ↦ elim (perform c x).answer [ Ok tt ↦ after_one c (drainage left l (perform c x).cluster) | Refused r ↦ ending (Refused r) x ]
    ]

-- the calls that a drain makes
abbrev pub drain_calls : LockId → Cluster → List Call
drain_calls l x = (drainage allowance l x).calls

-- A drain that comes to its end counts its steps, and tells the last handling that one of them told. Any other leaves the cluster that it was given, counts
-- none and tells none.
abbrev pub drain_refused : Refusal → Cluster → Drained
drain_refused r x = record { answer = Refused r; count = 0; handling = None; cluster = x }

unfoldable pub drain_ended : Answer → Cluster → Drainage → Drained
drain_ended (Ok tt) x d =
    record { answer = Accepted; count = length d.calls; handling = last_told None (handlings_of d.calls x); cluster = d.cluster }
drain_ended (Refused r) x d = drain_refused r x

unfoldable pub drain_unless : Answer → LockId → Cluster → Drained
drain_unless (Refused r) l x = drain_refused r x
drain_unless (Ok tt) l x = drain_ended (drainage allowance l x).answer x (drainage allowance l x)

unfoldable pub drain : Cluster → LockId → Drained
drain x l = drain_unless (first ((Malformed when not (well_formed x)) ∷ (LockRange when leb locks l.0) ∷ [])) l x
