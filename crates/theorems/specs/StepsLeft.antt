-- The most steps that a drain of a lock can still take: a number that falls at each of its steps (StepsFall), is at most 706, and 0 at a fresh lock. Each
-- client counts for what it still has to do. Requests are ACQUIREs and RELEASEs; what they have to move turns on where the agent is.
use Rattle.std.specs.Prelude.{◌≡◌, ◌∷◌, ◌+◌, ◌-◌, ◌*◌, ◌≤◌}
use Rattle.theorems.specs.Names.{Exclusive, Shared, Owner, Unowned, Owned, AgentSlot, Address, ToDecider, ToMachine, Message, Free, Acquire, Grant}
use Rattle.theorems.specs.Names.{Release, Packet, Status, LockState, refl, Bool, true, false, List, [], ℕ, zero, suc, min}
use Rattle.theorems.specs.Names.{max, arith, eqb, pick, packets, bool_cases, clients, fresh_lock, wire_of, no_agent}
use Rattle.theorems.specs.Tally.{flag, gate, tally, tally_add, tally_none, sum_to, sum_le}
use Rattle.theorems.specs.Weights.{status_at, weight, one, ask_m, queued_s, mark_m, listed_s, owed_m, owed_p, release_m, release_p, agent_s, agent_p, waits_f}
use Rattle.theorems.specs.Weights.{hold_f, idle_f, owned_f, owned_at, waiting_p, listed_p}
use Rattle.theorems.specs.Invariant.{Inv}
use Rattle.theorems.specs.Facts.{hits, statuses, waits_are}
use Rattle.theorems.specs.Statements.{proved_bound}

-- ---- where the agent is
-- the deliveries of its packet before it is on a machine, or gone
abbrev pub trip_a : Address → ℕ
trip_a ToDecider = 2
trip_a (ToMachine k) = 1

unfoldable pub trip_p : Packet → ℕ
trip_p p = gate p.carried.present (trip_a p.to)

unfoldable pub free_f : Owner → ℕ
free_f Unowned = 1
free_f (Owned m k) = 0

-- 0 where the agent is on its machine, 1 where its packet goes to a machine or the lock is free, 2 where its packet goes to the decider
abbrev pub row : Owner → List Packet → ℕ
row o ps = tally trip_p ps + free_f o

-- The moves of a request to this address before the one that takes it:
--   row  to the owner's machine  to the decider  to another machine
--    0             0                   1                 2
--    1             2                   1                 2
--    2             2                   3                 2
unfoldable pub moves : Owner → ℕ → Address → ℕ
moves o n ToDecider = 1 + 2 * (n - 1)
moves o n (ToMachine k) = pick (owned_at o k.0) (2 * min 1 n) 2

-- a sum along the wire, which is split at the agent's packet: what is behind it is in the row below
unfoldable pub walk : (ℕ → Packet → ℕ) → ℕ → List Packet → ℕ
walk f n [] = 0
walk f n (p ∷ ps) = f n p + walk f (n - agent_p p) ps

-- ---- the requests of client d on the wire
abbrev pub acquires : ℕ → Message → Bool
acquires d (Acquire c n g) = eqb c.0 d
acquires d (Grant c n) = false
acquires d (Release c) = false
acquires d Free = false

abbrev pub releases : ℕ → Message → Bool
releases d (Acquire c n g) = false
releases d (Grant c n) = false
releases d (Release c) = eqb c.0 d
releases d Free = false

-- how many there are, and their moves, where the first packet is in the row n
abbrev pub many : (Message → Bool) → List Packet → ℕ
many b ps = tally (λ p. flag (b p.message)) ps

abbrev pub moves_of : (Message → Bool) → Owner → ℕ → List Packet → ℕ
moves_of b o n ps = walk (λ k p. gate (b p.message) (moves o k p.to)) n ps

-- the RELEASEs whose ACQUIRE is further on
unfoldable pub early : ℕ → List Packet → ℕ
early d [] = 0
early d (p ∷ ps) = gate (releases d p.message) (many (acquires d) ps) + early d ps

-- What one client's requests have to move: x ACQUIREs with a moves, r RELEASEs with m, of which e are early. Where there are both, the RELEASE is not taken
-- before the ACQUIRE: it moves at least once more than that one, and once more again where it is early. That is 5 at most.
unfoldable pub claims : ℕ → ℕ → ℕ → ℕ → ℕ → ℕ
claims x r a m e = a + max m (min (5 * min x r) (a + e + 1))

abbrev pub requests : ℕ → Owner → List Packet → ℕ
requests d o ps =
    claims (many (acquires d) ps) (many (releases d) ps) (moves_of (acquires d) o (row o ps) ps) (moves_of (releases d) o (row o ps) ps) (early d ps)

-- How often requests may move again: a RELEASE that is taken can send the agent away, and then every other request moves twice more. It was its client's last
-- request; of the n other clients that have one, each has at most one ACQUIRE, and r have a RELEASE.
unfoldable pub again : ℕ → ℕ → ℕ
again zero n = 0
again (suc r) zero = 0
again (suc r) (suc n) = again r n + (2 * r + 2 * n)

-- x and r: each client's ACQUIREs and RELEASEs
abbrev pub laps_of : (ℕ → ℕ) → (ℕ → ℕ) → ℕ
laps_of x r = again (sum_to clients r) (sum_to clients (λ d. max (x d) (r d)))

abbrev pub laps : List Packet → ℕ
laps ps = laps_of (λ d. many (acquires d) ps) (λ d. many (releases d) ps)

-- ---- what else client d counts for: its packets, its place in a queue or a list, and its status
unfoldable pub cost_m : ℕ → Bool → Address → Message → ℕ
cost_m d x t (Acquire c n false) = 5 * one d c
cost_m d x t (Acquire c n true) = 3 * one d c
cost_m d true t (Grant c n) = 4 * one d c
cost_m d false ToDecider (Grant c n) = 2 * one d c
cost_m d false (ToMachine k) (Grant c n) = one d c
cost_m d x t (Release c) = one d c
cost_m d x t Free = 0

abbrev pub cost_p : ℕ → Packet → ℕ
cost_p d p = cost_m d p.carried.present p.to p.message

-- a waiter in a queue, a holder in a list, a client that is not idle
abbrev pub places : ℕ → ℕ → ℕ
places queued listed = 4 * queued + 2 * listed

abbrev pub standing : ℕ → ℕ → Status → ℕ
standing queued listed st = places queued listed + 3 * (waits_f st + hold_f st)

abbrev pub queued_in : ℕ → AgentSlot → ℕ
queued_in d x = queued_s d Exclusive x + queued_s d Shared x

abbrev pub queued : ℕ → LockState → ℕ
queued d r = weight (λ p. queued_in d p.carried) (queued_in d) r

abbrev pub listed : ℕ → LockState → ℕ
listed d r = weight (λ p. listed_s d p.carried) (listed_s d) r

unfoldable pub share : ℕ → LockState → ℕ
share d r =
    tally (cost_p d) (packets r.wire) + standing (queued d r) (listed d r) (status_at r d) + requests d r.decider.owner (packets r.wire)

-- the agent's trip and the clients' shares
unfoldable pub steps_left : LockState → ℕ
steps_left r = laps (packets r.wire) + tally trip_p (packets r.wire) + sum_to clients (λ d. share d r)

pub fresh_none : steps_left fresh_lock ≡ 0
unfolding steps_left share claims again tally walk early sum_to weight packets fresh_lock wire_of queued_s no_agent listed_s waits_f hold_f
fresh_none = refl

-- ---- the agent's row
trip_one : (x : Bool) (t : Address) → (flag x ≤ gate x (trip_a t)) × (gate x (trip_a t) ≤ 2 * flag x)
trip_one true ToDecider = (omega arith, omega arith)
trip_one true (ToMachine k) = (omega arith, omega arith)
trip_one false t = (omega arith, omega arith)

pub trips : (ps : List Packet) → (tally agent_p ps ≤ tally trip_p ps) × (tally trip_p ps ≤ 2 * tally agent_p ps)
unfolding tally agent_s trip_p
trips [] = (omega arith, omega arith)
trips (p ∷ ps) =
    let here = trip_one p.carried.present p.to in
    let behind = trips ps in
    (omega (arith, here.0, behind.0), omega (arith, here.1, behind.1))

pub free_or_owned : (o : Owner) → free_f o + owned_f o ≡ 1
unfolding free_f owned_f
free_or_owned Unowned = refl
free_or_owned (Owned m k) = refl

pub row_two : (r : LockState) → Inv r → row r.decider.owner (packets r.wire) ≤ 2
unfolding weight
row_two r i = omega (arith, i.agent, (trips (packets r.wire)).1, free_or_owned r.decider.owner)

moves_three : (o : Owner) (n : ℕ) (t : Address) → n ≤ 2 → moves o n t ≤ 3
unfolding moves
moves_three o n ToDecider h = omega arith
moves_three o n (ToMachine k) h = bool_cases (owned_at o k.0) (λ q. rw q (omega arith)) (λ q. rw q (omega arith))

pub moves_most : (b : Message → Bool) (o : Owner) (n : ℕ) (ps : List Packet) → n ≤ 2 → moves_of b o n ps ≤ 3 * many b ps
unfolding walk tally
moves_most b o n [] h = omega arith
moves_most b o n (p ∷ ps) h =
    let behind = moves_most b o (n - agent_p p) ps (omega arith) in
    bool_cases (b p.message) (λ q. rw q (omega (arith, behind, moves_three o n p.to h))) (λ q. rw q (omega (arith, behind)))

-- ---- each client's requests
pub early_most : (d : ℕ) (ps : List Packet) → many (acquires d) ps ≤ 1 → many (releases d) ps ≤ 1
    → (early d ps ≤ many (acquires d) ps) × (early d ps ≤ many (releases d) ps)
unfolding early tally
early_most d [] x r = (omega arith, omega arith)
early_most d (p ∷ ps) x r =
    let behind = early_most d ps (omega arith) (omega arith) in
    bool_cases (releases d p.message) (λ q. rw q (omega (arith, behind, rw q at r), omega (arith, behind, rw q at r)))
    (λ q. rw q (omega (arith, behind), omega (arith, behind)))

abbrev pub asked_p : ℕ → Packet → ℕ
asked_p d p = ask_m d Exclusive p.message + ask_m d Shared p.message

abbrev pub marked_p : ℕ → Packet → ℕ
marked_p d p = mark_m d p.message

-- a GRANT with the agent
unfoldable pub bears_m : ℕ → Bool → Message → ℕ
bears_m d x (Acquire c n g) = 0
bears_m d true (Grant c n) = one d c
bears_m d false (Grant c n) = 0
bears_m d x (Release c) = 0
bears_m d x Free = 0

abbrev pub bears_p : ℕ → Packet → ℕ
bears_p d p = bears_m d p.carried.present p.message

-- how the counts of a message compare: ACQUIREs and RELEASEs with the others, and its cost with all of them
pub record Compared (released acquired asked marked release owed bears cost : ℕ) : Type 0 where
  pub same : released ≡ release
  pub whole : asked + marked + release ≡ acquired + owed + bears
  pub paid : cost + 2 * owed ≤ acquired + 4 * asked + 2 * marked + 3 * release

compared : (d : ℕ) (x : Bool) (t : Address) (m : Message)
    → Compared (flag (releases d m)) (flag (acquires d m)) (ask_m d Exclusive m + ask_m d Shared m) (mark_m d m) (release_m d m) (owed_m d x m) (bears_m d x m)
    (cost_m d x t m)
unfolding ask_m mark_m release_m owed_m bears_m cost_m one
compared d x t (Acquire c n false) = record { same = refl; whole = omega (arith, hits d c n); paid = omega (arith, hits d c n) }
compared d x t (Acquire c n true) = record { same = refl; whole = omega arith; paid = omega arith }
compared d true t (Grant c n) = record { same = refl; whole = omega (arith, hits d c n); paid = omega (arith, hits d c n) }
compared d false ToDecider (Grant c n) = record { same = refl; whole = omega (arith, hits d c n); paid = omega (arith, hits d c n) }
compared d false (ToMachine k) (Grant c n) = record { same = refl; whole = omega (arith, hits d c n); paid = omega (arith, hits d c n) }
compared d x t (Release c) = record { same = refl; whole = omega arith; paid = omega arith }
compared d x t Free = record { same = refl; whole = omega arith; paid = omega arith }

pub compare : (d : ℕ) (ps : List Packet)
    → Compared (many (releases d) ps) (many (acquires d) ps) (tally (asked_p d) ps) (tally (marked_p d) ps) (tally (release_p d) ps) (tally (owed_p d) ps)
    (tally (bears_p d) ps) (tally (cost_p d) ps)
unfolding tally
compare d [] = record { same = refl; whole = refl; paid = omega arith }
compare d (p ∷ ps) =
    let here = compared d p.carried.present p.to p.message in
    let rest = compare d ps in
    record {
      same = omega (arith, here.same, rest.same);
      whole = omega (arith, here.whole, rest.whole);
      paid = omega (arith, here.paid, rest.paid);
    }

-- where no agent is under way, no GRANT brings one
pub bears_none : (d : ℕ) (ps : List Packet) → tally agent_p ps ≡ 0 → tally (bears_p d) ps ≡ 0
unfolding agent_s
bears_none d ps = tally_none agent_p (bears_p d) (λ p e. go p.carried.present p.message e) ps
  where
    go : (x : Bool) (m : Message) → flag x ≡ 0 → bears_m d x m ≡ 0
    go x (Acquire c n g) e = unfold bears_m in refl
    go true (Grant c n) e = absurd (omega arith)
    go false (Grant c n) e = unfold bears_m in refl
    go x (Release c) e = unfold bears_m in refl
    go x Free e = unfold bears_m in refl

module _ (r : LockState) (i : Inv r) (d : ℕ) where
  abbrev ps : List Packet
  ps = packets r.wire

  -- what asks: by packets, and in queues
  asking : tally (asked_p d) ps + queued d r ≡ weight (waiting_p d Exclusive) (queued_s d Exclusive) r + weight (waiting_p d Shared) (queued_s d Shared) r
  unfolding weight
  asking =
      omega (
        arith,
        tally_add (λ p. ask_m d Exclusive p.message) (λ p. queued_s d Exclusive p.carried) ps,
        tally_add (λ p. ask_m d Shared p.message) (λ p. queued_s d Shared p.carried) ps,
        tally_add (λ p. ask_m d Exclusive p.message) (λ p. ask_m d Shared p.message) ps,
        tally_add (λ p. queued_s d Exclusive p.carried) (λ p. queued_s d Shared p.carried) ps,
        tally_add (queued_s d Exclusive) (queued_s d Shared) r.agents,
      )

  listing : tally (marked_p d) ps + listed d r ≡ weight (listed_p d) (listed_s d) r
  unfolding weight
  listing = omega (arith, tally_add (marked_p d) (λ p. listed_s d p.carried) ps)

  -- it is present once, if not idle, or as long as its RELEASE is under way: by an ACQUIRE, a GRANT with the agent, in a queue or in a list
  pub present_once : many (acquires d) ps + tally (bears_p d) ps + queued d r + listed d r + idle_f (status_at r d) ≡ 1 + many (releases d) ps
  present_once = omega (arith, asking, listing, i.presence d, compare d ps)

  status_one : waits_f (status_at r d) + hold_f (status_at r d) + idle_f (status_at r d) ≡ 1
  status_one = omega (arith, statuses (status_at r d), waits_are (status_at r d))

  releases_one : many (releases d) ps ≤ idle_f (status_at r d)
  releases_one = omega (arith, (compare d ps).same, i.rels d)

  pub one_each_way : (many (acquires d) ps ≤ 1) × (many (releases d) ps ≤ 1)
  one_each_way = (omega (arith, present_once, releases_one), omega (arith, releases_one, status_one))

  share_most : share d r ≤ 14
  unfolding share claims
  share_most =
      omega (
        arith,
        compare d ps,
        asking,
        i.most d,
        present_once,
        status_one,
        releases_one,
        early_most d ps one_each_way.0 one_each_way.1,
        moves_most (acquires d) r.decider.owner (row r.decider.owner ps) ps (row_two r i),
        moves_most (releases d) r.decider.owner (row r.decider.owner ps) ps (row_two r i),
      )

-- ---- the laps are most where every client has both requests
pub again_more : (r r' n n' : ℕ) → r ≤ r' → n ≤ n' → again r n ≤ again r' n'
unfolding again
again_more zero r' n n' h k = omega arith
again_more (suc r) r' zero n' h k = omega arith
again_more (suc r) zero (suc n) n' h k = absurd (omega arith)
again_more (suc r) (suc r') (suc n) zero h k = absurd (omega arith)
again_more (suc r) (suc r') (suc n) (suc n') h k = omega (arith, again_more r r' n n' (omega arith) (omega arith))

module _ (r : LockState) (i : Inv r) where
  laps_most : laps (packets r.wire) ≤ again clients clients
  laps_most =
      again_more _ clients _ clients (omega (arith, sum_le clients 1 (λ d. many (releases d) (packets r.wire)) (λ d. (one_each_way r i d).1)))
      (omega (
        arith,
        sum_le clients 1 (λ d. max (many (acquires d) (packets r.wire)) (many (releases d) (packets r.wire)))
            (λ d. omega (arith, (one_each_way r i d).0, (one_each_way r i d).1)),
      ))

  pub steps_bound : steps_left r ≤ proved_bound
  unfolding steps_left
  steps_bound =
      let full : again clients clients ≡ 480 = unfold again in refl in
      omega (arith, laps_most, full, row_two r i, sum_le clients 14 (λ d. share d r) (share_most r i))
