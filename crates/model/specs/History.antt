-- How often each packet on a wire came back from a machine, by what the calls of a run did (document 02, "How often has this packet circled"). Beside a lock's
-- wire stands a list of numbers, one for each packet and without a bound. The packets' counts are not looked at: that they agree is a theorem.
use Rattle.std.specs.Prelude.{Bool, true, false, ◌&&◌, List, [], ◌∷◌, ◌++◌, map, ℕ, ◌+◌, length, get_or, drop, eqb}
use Rattle.model.specs.Lists.{pick, removed}
use Rattle.model.specs.Names.{LockId, Address, ToDecider, ToMachine, Message, Free, Acquire, Grant, Release, Packet, LockState, Cluster, Call}
use Rattle.model.specs.Names.{AcquireCall, ReleaseCall, DeliverCall, LoseCall, GiveUpCall}
use Rattle.model.specs.States.{mode_number, packets, lock_in}
use Rattle.model.specs.Calls.{packet_at, perform, lock_of, fresh}
use Rattle.model.specs.Trace.{same_lock, is_accepted}

-- a message in numbers: kind, client, mode, mark; 0 for what it does not have
abbrev pub message_numbers : Message → List ℕ
message_numbers (Acquire c m g) = 1 ∷ c.0 ∷ mode_number m ∷ pick g 1 0 ∷ []
message_numbers (Grant c m) = 2 ∷ c.0 ∷ mode_number m ∷ 0 ∷ []
message_numbers (Release c) = 3 ∷ c.0 ∷ 0 ∷ 0 ∷ []
message_numbers Free = 4 ∷ 0 ∷ 0 ∷ 0 ∷ []

unfoldable pub same_numbers : List ℕ → List ℕ → Bool
same_numbers [] [] = true
same_numbers [] (n ∷ ns) = false
same_numbers (m ∷ ms) [] = false
same_numbers (m ∷ ms) (n ∷ ns) = eqb m n && same_numbers ms ns

abbrev pub same_message : Message → Message → Bool
same_message m n = same_numbers (message_numbers m) (message_numbers n)

-- A message that was delivered at one address and is sent to another: from a machine to the decider it comes back once more; from the decider it is sent on to
-- a machine, or to the wire's end, as a RELEASE at a free lock is.
abbrev pub onward : Address → Address → ℕ → ℕ
onward (ToMachine k) ToDecider n = n + 1
onward ToDecider (ToMachine k) n = n
onward (ToMachine k) (ToMachine j) n = 0
onward ToDecider ToDecider n = n

-- What the delivery of p, with the number n, sends: the same message again, or a new packet, as a marked copy is.
abbrev pub number_of : Packet → ℕ → Packet → ℕ
number_of p n q = pick (same_message p.message q.message) (onward p.to q.to n) 0

-- the packets that a step sent stand behind the n that stayed
abbrev pub sent_behind : ℕ → LockState → List Packet
sent_behind n t = drop n (packets t.wire)

-- The numbers after an accepted call, where s and t are the lock's states before and after it. What a client's own call sends is new; a delivery takes the
-- number of its packet out.
abbrev pub own_numbers : LockState → LockState → List ℕ → List ℕ
own_numbers s t ns = ns ++ map (λ (q : Packet). 0) (sent_behind (length (packets s.wire)) t)

unfoldable pub numbers_after : Call → LockState → LockState → List ℕ → List ℕ
numbers_after (AcquireCall l k c m) s t ns = own_numbers s t ns
numbers_after (ReleaseCall l k c) s t ns = own_numbers s t ns
numbers_after (GiveUpCall l k c) s t ns = own_numbers s t ns
numbers_after (LoseCall l i) s t ns = removed ns i
numbers_after (DeliverCall l i) s t ns =
    removed ns i ++ map (number_of (packet_at s i) (get_or ns i 0)) (sent_behind (length (removed (packets s.wire) i)) t)

-- the numbers of lock l after a list of calls on x; a refused call, and one on another lock, leaves them
unfoldable pub numbers_of : LockId → List Call → Cluster → List ℕ → List ℕ
numbers_of l [] x ns = ns
numbers_of l (a ∷ cs) x ns =
    numbers_of l cs (perform a x).cluster
    (pick (is_accepted (perform a x).answer && same_lock l (lock_of a)) (numbers_after a (lock_in x l) (lock_in (perform a x).cluster l) ns) ns)

-- from a fresh cluster, made with the preference n, whose wires are empty
abbrev pub history_after : ℕ → LockId → List Call → List ℕ
history_after n l cs = numbers_of l cs (fresh n).cluster []
