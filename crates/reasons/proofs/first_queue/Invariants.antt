use Rattle.reasons.specs.Searching.{Queueing}
use Rattle.reasons.proofs.first_queue.Given as goal

-- the client stands in no queue before i
abbrev pub invariant-loop-i : goal.invariant-loop-i
invariant-loop-i g l = Queueing l.c (g.P.Place.slot_of) (g.P.Place.reason_of) l.places l.i
