-- How the requests of a lock's clients come nearer as the first packet p leaves the wire and qs are sent: sums along the wire, then client by client.
use Rattle.std.specs.Prelude.{◌≡◌, ◌∷◌, ◌++◌, ◌+◌, ◌-◌, ◌*◌, ◌≤◌, ◌<◌}
use Rattle.theorems.specs.Names.{ClientId, Mode, Shared, Owner, Address, ToDecider, ToMachine, Message, Acquire, Grant, Release, Packet, LockState}
use Rattle.theorems.specs.Names.{refl, ap, ◌∙◌, Bool, true, false, false≢true, List, [], ℕ, zero, suc, min, max}
use Rattle.theorems.specs.Names.{arith, eqb, eqb-true, eqb-false, lt-ltb, pick, plain, no_agent, packets, bool_cases, clients}
use Rattle.theorems.specs.Tally.{flag, gate, tally, tally_append, sum_to, sum_ext, sum_add, sum_shift, sum_twice}
use Rattle.theorems.specs.Weights.{one, agent_s, agent_p, owned_at}
use Rattle.theorems.specs.Invariant.{Inv}
use Rattle.theorems.specs.Facts.{Request, acquire_of, release_of, one_each}
use Rattle.theorems.specs.StepsLeft.{trip_p, free_f, row, moves, walk, acquires, releases, many, moves_of, early, claims, requests, again, laps_of, trips}
use Rattle.theorems.specs.StepsLeft.{row_two, moves_most, early_most, one_each_way, again_more}

-- ---- sums along the wire
walk_append : (f : ℕ → Packet → ℕ) (n : ℕ) (xs ys : List Packet) → walk f n (xs ++ ys) ≡ walk f n xs + walk f (n - tally agent_p xs) ys
unfolding walk tally
walk_append f n [] ys = let z : n - 0 ≡ n = omega arith in rw z (omega arith)
walk_append f n (x ∷ xs) ys =
    let z : n - agent_p x - tally agent_p xs ≡ n - (agent_p x + tally agent_p xs) = omega arith in
    omega (arith, rw z at (walk_append f (n - agent_p x) xs ys))

early_append : (d : ℕ) (xs ys : List Packet) → many (releases d) xs ≤ 1 → many (acquires d) ys ≤ 1
    → early d (xs ++ ys) ≤ early d xs + early d ys + min (many (releases d) xs) (many (acquires d) ys)
unfolding early tally
early_append d [] ys r x = omega arith
early_append d (p ∷ ps) ys r x =
    let behind = early_append d ps ys (omega arith) x in
    let asked = tally_append (λ q. flag (acquires d q.message)) ps ys in
    bool_cases (releases d p.message) (λ q. rw q (omega (arith, behind, asked, rw q at r))) (λ q. rw q (omega (arith, behind, asked, rw q at r)))

-- without an agent all are in one row: in row 1 the owner does not matter, and in no row does a request have more than two moves beyond those of row 0
module _ (b : Message → Bool) (o : Owner) where
  at_one : (o' : Owner) (t : Address) → moves o' 1 t ≡ moves o 1 t
  unfolding moves
  at_one o' ToDecider = refl
  at_one o' (ToMachine k) = rw (two (owned_at o' k.0), two (owned_at o k.0))
    where
      two : (x : Bool) → pick x (2 * min 1 1) 2 ≡ 2
      two true = refl
      two false = refl

  along_one : (o' : Owner) (ps : List Packet) → tally agent_p ps ≡ 0 → moves_of b o' 1 ps ≡ moves_of b o 1 ps
  unfolding walk tally
  along_one o' [] h = refl
  along_one o' (p ∷ ps) h =
      let z : 1 - agent_p p ≡ 1 = omega arith in
      rw (z, at_one o' p.to) (omega (arith, along_one o' ps (omega arith)))

  two_more : (n : ℕ) (t : Address) → n ≤ 2 → moves o n t ≤ moves o 0 t + 2
  unfolding moves
  two_more n ToDecider h = omega arith
  two_more n (ToMachine k) h = bool_cases (owned_at o k.0) (λ q. rw q (omega arith)) (λ q. rw q (omega arith))

  rise : (n : ℕ) (ps : List Packet) → n ≤ 2 → tally agent_p ps ≡ 0 → moves_of b o n ps ≤ moves_of b o 0 ps + 2 * many b ps
  unfolding walk tally
  rise n [] h z = omega arith
  rise n (p ∷ ps) h z =
      let here : n - agent_p p ≡ n = omega arith in
      let zero : 0 - agent_p p ≡ 0 = omega arith in
      let behind = rise n ps h (omega arith) in
      rw (here, zero) (bool_cases (b p.message) (λ q. rw q (omega (arith, behind, two_more n p.to h))) (λ q. rw q (omega (arith, behind))))

-- ---- one client's requests: before a step x ACQUIREs with a moves and r RELEASEs with m, e of them early
module _ (x x' r r' a a' m m' e e' : ℕ) where
  claims_by : x' ≡ x → r' ≡ r → a' ≤ a → m' ≤ m → e' ≤ e → claims x' r' a' m' e' ≤ claims x r a m e
  unfolding claims
  claims_by ex er ha hm he = rw (ex, er) (omega arith)

  -- its ACQUIRE is taken
  claims_taken : (f : ℕ) → x ≡ 1 → x' ≡ 0 → r' ≡ r → r ≤ 1 → a' ≡ 0 → f ≤ a → m' ≤ m → claims x' r' a' m' e' + f ≤ claims x r a m e
  unfolding claims
  claims_taken f ex ex' er hr ha hf hm = rw (ex, ex', er, ha) (omega arith)

  -- its ACQUIRE moves to the wire's end, or its RELEASE
  claims_acquire : x ≡ 1 → x' ≡ 1 → r' ≡ r → r ≤ 1 → a' < a → m' ≤ m → e' ≤ 1 → claims x' r' a' m' e' + 1 ≤ claims x r a m e
  unfolding claims
  claims_acquire ex ex' er hr ha hm he = rw (ex, ex', er) (omega arith)

  claims_release : x' ≡ x → x ≤ 1 → r ≡ 1 → r' ≡ 1 → a' ≤ a → a ≤ 3 → (x ≡ 0 → m' < m) → m' ≤ max 1 (m - 1) → x ≤ e → e ≤ 1 → e' ≡ 0
      → claims x' r' a' m' e' + 1 ≤ claims x r a m e
  unfolding claims
  claims_release ex hx er er' ha most h hm he he' z =
      bool_cases (eqb x 0) (λ q. let w = eqb-true x 0 q in rw (ex, w, er, er') (omega (arith, h w, z)))
      (λ q. let w : x ≡ 1 = omega (arith, hx, eqb-false x 0 q) in rw (ex, w, er, er') (omega (arith, w, hm, z)))

  -- it has none
  claims_none : x' ≡ 0 → r' ≡ 0 → a' ≡ 0 → m' ≡ 0 → claims x' r' a' m' e' ≡ 0
  unfolding claims
  claims_none ex er ha hm = rw (ex, er, ha, hm) (omega arith)

  -- the agent leaves
  claims_rise : x' ≡ x → r' ≡ r → x ≤ 1 → r ≤ 1 → a' ≤ a + 2 * x → m' ≤ m + 2 * r → e' ≤ e → a ≤ 3 → claims x' r' a' m' e' ≤ claims x r a m e + (2 * x + 2 * r)
  unfolding claims
  claims_rise ex er hx hr ha hm he most = rw (ex, er) (omega arith)

-- ---- laps
pub by_client : {G : Type 0} (c : ClientId) (d : ℕ) → (eqb c.0 d ≡ true → one d c ≡ 1 → c.0 ≡ d → G) → (eqb c.0 d ≡ false → one d c ≡ 0 → G) → G
unfolding one
by_client c d f g = bool_cases (eqb c.0 d) (λ q. f q (rw q) (eqb-true c.0 d q)) (λ q. g q (rw q))

pub laps_same : (x x' r r' : ℕ → ℕ) → ((d : ℕ) → x' d ≡ x d) → ((d : ℕ) → r' d ≡ r d) → laps_of x' r' ≡ laps_of x r
laps_same x x' r r' ex er =
    rw (sum_ext clients r' r er, sum_ext clients (λ d. max (x' d) (r' d)) (λ d. max (x d) (r d)) (λ d. rw (ex d, er d)))

-- an ACQUIRE fewer
pub laps_fewer : (x x' r r' : ℕ → ℕ) → ((d : ℕ) → x' d ≤ x d) → ((d : ℕ) → r' d ≡ r d) → laps_of x' r' ≤ laps_of x r
laps_fewer x x' r r' hx er =
    again_more _ _ _ _ (omega (arith, sum_ext clients r' r er))
    (omega (arith, sum_shift clients (λ d. max (x' d) (r' d)) (λ d. 0) (λ d. max (x d) (r d)) (λ d. 0) (λ d. omega (arith, hx d, er d))))

-- the RELEASE of c, which has no ACQUIRE, is taken: every other request may move twice more
pub laps_struck : (c : ClientId) → c.0 < clients → (x x' r r' : ℕ → ℕ) → ((d : ℕ) → x' d ≡ x d) → ((d : ℕ) → r d ≡ r' d + one d c) → x c.0 ≡ 0
    → laps_of x r ≡ laps_of x' r' + sum_to clients (λ d. 2 * max (x d) (r' d) + 2 * r' d)
unfolding again
laps_struck c below x x' r r' ex er z =
    let one_more : (f g : ℕ → ℕ) → ((d : ℕ) → f d ≡ g d + one d c) → sum_to clients f ≡ suc (sum_to clients g) =
    λ f g h. omega (arith, sum_ext clients f (λ d. g d + one d c) h, sum_add clients g (λ d. one d c), one_each c (lt-ltb c.0 clients below)) in
    let struck : (d : ℕ) → max (x d) (r d) ≡ max (x d) (r' d) + one d c =
    λ d. by_client c d (λ q w e. omega (arith, er d, w, rw e at z)) (λ q w. omega (arith, er d, w)) in
    rw (
      one_more r r' er,
      one_more (λ d. max (x d) (r d)) (λ d. max (x d) (r' d)) struck,
      sum_ext clients (λ d. max (x' d) (r' d)) (λ d. max (x d) (r' d)) (λ d. rw (ex d)),
    )
    (omega (arith, sum_twice clients (λ d. max (x d) (r' d)) r'))

-- ---- the wire's rest keeps its row, though the packet p is gone and qs are behind it
pub record Frame (o o' : Owner) (p : Packet) (rest qs : List Packet) : Type 0 where
  pub down : row o' (rest ++ qs) + agent_p p ≡ row o (p ∷ rest)
  pub along : (b : Message → Bool) → moves_of b o' (row o' (rest ++ qs)) rest ≡ moves_of b o (row o' (rest ++ qs)) rest

-- with the owner as it was
pub same_owner : {o o' : Owner} {p : Packet} {rest qs : List Packet} → o' ≡ o → tally trip_p qs + agent_p p ≡ trip_p p → Frame o o' p rest qs
unfolding tally
same_owner {rest = rest} {qs} w h = record { down = omega (arith, h, ap free_f w, tally_append trip_p rest qs); along = λ b. rw w }

-- or where the agent was in p, or nowhere, and the row is 1 from now on
pub other_owner : {o o' : Owner} {p : Packet} {rest qs : List Packet} → tally agent_p rest ≡ 0 → tally trip_p qs + free_f o' ≡ 1
    → agent_p p + 1 ≡ trip_p p + free_f o
    → Frame o o' p rest qs
unfolding tally
other_owner {o} {o'} {p} {rest} {qs} z h was =
    let row_one : row o' (rest ++ qs) ≡ 1 = omega (arith, h, z, (trips rest).1, tally_append trip_p rest qs) in
    record { down = omega (arith, row_one, was, z, (trips rest).1); along = λ b. rw row_one (along_one b o o' rest z) }

-- nothing of this is a request
abbrev pub Quiet : List Packet → Type 0
Quiet qs = (d : ℕ) → (many (acquires d) qs ≡ 0) × (many (releases d) qs ≡ 0)

-- a request with the message m goes to t, alone or behind a GRANT
pub record Passes (m : Message) (t : Address) (qs : List Packet) : Type 0 where
  pub acquiring : (d : ℕ) → many (acquires d) qs ≡ flag (acquires d m)
  pub releasing : (d : ℕ) → many (releases d) qs ≡ flag (releases d m)
  pub acquire_moves : (d : ℕ) (o : Owner) (n : ℕ) → moves_of (acquires d) o n qs ≡ gate (acquires d m) (moves o n t)
  pub release_moves : (d : ℕ) (o : Owner) (n : ℕ) → moves_of (releases d) o n qs ≡ gate (releases d m) (moves o n t)

pub passes_alone : (q : Packet) → Passes q.message q.to (q ∷ [])
unfolding tally walk
passes_alone q =
    record { acquiring = λ d. omega arith; releasing = λ d. omega arith; acquire_moves = λ d o n. omega arith; release_moves = λ d o n. omega arith }

pub passes_behind : (c : ClientId) (n : Mode) (g : Bool) (t u : Address)
    → Passes (Acquire c n g) t (plain (Grant c Shared) u ∷ plain (Acquire c Shared true) t ∷ [])
unfolding tally walk agent_s no_agent
passes_behind c n g t u =
    record {
      acquiring = λ d. omega arith;
      releasing = λ d. refl;
      acquire_moves = λ d o k. let z : k - 0 ≡ k = omega arith in rw z (omega arith);
      release_moves = λ d o k. refl;
    }

-- ---- client d, before and after: the packet p leaves the wire, which is an ACQUIRE of it, or a RELEASE, or neither, and qs are sent
pub record Around (p : Packet) (rest qs : List Packet) (d : ℕ) (acquire release : Bool) : Type 0 where
  pub acquires_before : many (acquires d) (p ∷ rest) ≡ flag acquire + many (acquires d) rest
  pub releases_before : many (releases d) (p ∷ rest) ≡ flag release + many (releases d) rest
  pub few_acquires : many (acquires d) (p ∷ rest) ≤ 1
  pub few_releases : many (releases d) (p ∷ rest) ≤ 1
  pub acquires_after : many (acquires d) (rest ++ qs) ≡ many (acquires d) rest + many (acquires d) qs
  pub releases_after : many (releases d) (rest ++ qs) ≡ many (releases d) rest + many (releases d) qs
  pub early_before : early d (p ∷ rest) ≡ gate release (many (acquires d) rest) + early d rest
  pub early_after : early d (rest ++ qs) ≤ early d rest + early d qs + min (many (releases d) rest) (many (acquires d) qs)
  pub early_staying : (early d rest ≤ many (acquires d) rest) × (early d rest ≤ many (releases d) rest)
  pub early_sent : (early d qs ≤ many (acquires d) qs) × (early d qs ≤ many (releases d) qs)

-- the moves of its ACQUIREs, or of its RELEASEs; the Bool: p is one
record Moving (was is : Owner) (p : Packet) (rest qs : List Packet) (b : Message → Bool) (here : Bool) : Type 0 where
  before : moves_of b was (row was (p ∷ rest)) (p ∷ rest) ≡ gate here (moves was (row was (p ∷ rest)) p.to) + moves_of b was (row is (rest ++ qs)) rest
  after : moves_of b is (row is (rest ++ qs)) (rest ++ qs)
      ≡ moves_of b was (row is (rest ++ qs)) rest + moves_of b is (row is (rest ++ qs) - tally agent_p rest) qs
  staying : moves_of b was (row is (rest ++ qs)) rest ≤ 3 * many b rest
  sent : moves_of b is (row is (rest ++ qs) - tally agent_p rest) qs ≤ 3 * many b qs

module _ (r : LockState) (i : Inv r) (p : Packet) (rest : List Packet) (e : packets r.wire ≡ p ∷ rest) (qs : List Packet) where
  abbrev was : Owner
  was = r.decider.owner

  pub around : (d : ℕ) {acquire release : Bool} → acquires d p.message ≡ acquire → releases d p.message ≡ release → many (acquires d) qs ≤ 1
      → many (releases d) qs ≤ 1 → Around p rest qs d acquire release
  unfolding tally early
  around d ea er xq rq =
      let few : (many (acquires d) (p ∷ rest) ≤ 1) × (many (releases d) (p ∷ rest) ≤ 1) = rw e at (one_each_way r i d) in
      record {
        acquires_before = rw ea;
        releases_before = rw er;
        few_acquires = few.0;
        few_releases = few.1;
        acquires_after = tally_append (λ q. flag (acquires d q.message)) rest qs;
        releases_after = tally_append (λ q. flag (releases d q.message)) rest qs;
        early_before = rw er;
        early_after = early_append d rest qs (omega (arith, few.1)) xq;
        early_staying = early_most d rest (omega (arith, few.0)) (omega (arith, few.1));
        early_sent = early_most d qs xq rq;
      }

  module _ (is : Owner) (fr : Frame was is p rest qs) where
    moving : (b : Message → Bool) {here : Bool} → b p.message ≡ here → Moving was is p rest qs b here
    unfolding walk
    moving b e' =
        let n : ℕ = row is (rest ++ qs) in
        let z : row was (p ∷ rest) - agent_p p ≡ n = omega (arith, fr.down) in
        let two : n ≤ 2 = omega (arith, fr.down, rw e at (row_two r i)) in
        record {
          before = rw (z, e');
          after = walk_append _ n rest qs ∙ ap (λ (m : ℕ). m + moves_of b is (n - tally agent_p rest) qs) (fr.along b);
          staying = moves_most b was n rest two;
          sent = moves_most b is (n - tally agent_p rest) qs (omega (arith, two));
        }

    -- a client of which no request is gone or sent
    pub untouched : (d : ℕ) → acquires d p.message ≡ false → releases d p.message ≡ false → (many (acquires d) qs ≡ 0) × (many (releases d) qs ≡ 0)
        → requests d is (rest ++ qs) ≤ requests d was (p ∷ rest)
    untouched d na nr z =
        let n = around d na nr (omega (arith, z)) (omega (arith, z)) in
        claims_by _ _ _ _ _ _ _ _ _ _ (omega (arith, n, z)) (omega (arith, n, z)) (omega (arith, z, moving (acquires d) na))
        (omega (arith, z, moving (releases d) nr)) (omega (arith, n, z))

    -- f fewer moves at one client
    at_who : (who : ClientId) (f d : ℕ) → (eqb who.0 d ≡ true → who.0 ≡ d → requests d is (rest ++ qs) + f ≤ requests d was (p ∷ rest))
        → (eqb who.0 d ≡ false → requests d is (rest ++ qs) ≤ requests d was (p ∷ rest))
        → requests d is (rest ++ qs) + f * one d who ≤ requests d was (p ∷ rest) + 0
    at_who who f d here there = by_client who d (λ q z w. rw z (omega (arith, here q w))) (λ q z. rw z (omega (arith, there q)))

    -- its ACQUIRE is taken
    pub acquire_off : {who : ClientId} {m : Mode} {g : Bool} → p.message ≡ Acquire who m g → Quiet qs → (f : ℕ) → f ≤ moves was (row was (p ∷ rest)) p.to
        → (d : ℕ) → requests d is (rest ++ qs) + f * one d who ≤ requests d was (p ∷ rest) + 0
    acquire_off {who} pm quiet f most d =
        let nr = ap (releases d) pm in
        at_who who f d
        (λ q w.
        let at = ap (acquires d) pm ∙ q in
        let n = around d at nr (omega (arith, quiet d)) (omega (arith, quiet d)) in
        claims_taken _ _ _ _ _ _ _ _ _ _ f (omega (arith, n)) (omega (arith, n, quiet d)) (omega (arith, n, quiet d)) n.few_releases
        (omega (arith, n, quiet d, moving (acquires d) at)) (omega (arith, most, moving (acquires d) at)) (omega (arith, quiet d, moving (releases d) nr)))
        (λ q. untouched d (ap (acquires d) pm ∙ q) nr (quiet d))

    -- its request goes to t
    passing : {m : Message} {t : Address} → Passes m t qs → (d : ℕ) {acquire release : Bool} → acquires d m ≡ acquire → releases d m ≡ release
        → let n = row is (rest ++ qs) - tally agent_p rest in (many (acquires d) qs ≡ flag acquire) × (many (releases d) qs ≡ flag release)
        × (moves_of (acquires d) is n qs ≡ gate acquire (moves is n t)) × (moves_of (releases d) is n qs ≡ gate release (moves is n t))
    passing pa d ea er =
        let n : ℕ = row is (rest ++ qs) - tally agent_p rest in
        (pa.acquiring d ∙ rw ea, pa.releasing d ∙ rw er, pa.acquire_moves d is n ∙ rw ea, pa.release_moves d is n ∙ rw er)

    -- and comes nearer, unless it is a RELEASE whose ACQUIRE is further on
    pub request_on : {who : ClientId} {m : Message} {t : Address} → Request who m → p.message ≡ m → Passes m t qs
        → let n = row is (rest ++ qs) - tally agent_p rest in let mv = moves was (row was (p ∷ rest)) p.to in
        ((releases who.0 m ≡ true → many (acquires who.0) rest ≡ 0) → moves is n t < mv) → moves is n t ≤ max 1 (mv - 1)
        → (d : ℕ) → requests d is (rest ++ qs) + 1 * one d who ≤ requests d was (p ∷ rest) + 0
    request_on {who} acquire_of pm pa strong weak d =
        let nr = ap (releases d) pm in
        at_who who 1 d
        (λ q w.
        let at = ap (acquires d) pm ∙ q in
        let on = passing pa d q refl in
        let n = around d at nr (omega (arith, on)) (omega (arith, on)) in
        claims_acquire _ _ _ _ _ _ _ _ _ _ (omega (arith, n)) (omega (arith, n, on)) (omega (arith, n, on)) n.few_releases
        (omega (arith, n, on, strong (λ u. absurd (false≢true u)), moving (acquires d) at)) (omega (arith, on, moving (releases d) nr)) (omega (arith, n, on)))
        (λ q. let on = passing pa d q refl in untouched d (ap (acquires d) pm ∙ q) nr (on.0, on.1))
    request_on {who} release_of pm pa strong weak d =
        let na = ap (acquires d) pm in
        at_who who 1 d
        (λ q w.
        let at = ap (releases d) pm ∙ q in
        let on = passing pa d refl q in
        let n = around d na at (omega (arith, on)) (omega (arith, on)) in
        let came : moves_of (releases d) was (row was (p ∷ rest)) (p ∷ rest) ≡ moves was (row was (p ∷ rest)) p.to =
        omega (arith, n, moving (releases d) at) in
        let goes : moves_of (releases d) is (row is (rest ++ qs)) (rest ++ qs) ≡ moves is (row is (rest ++ qs) - tally agent_p rest) _ =
        omega (arith, n, on, moving (releases d) at) in
        claims_release _ _ _ _ _ _ _ _ _ _ (omega (arith, n, on)) n.few_acquires (omega (arith, n)) (omega (arith, n, on))
        (omega (arith, on, moving (acquires d) na)) (omega (arith, n, moving (acquires d) na))
        (λ x. rw (came, goes) (strong (λ u. rw w (omega (arith, n, x))))) (rw (came, goes) weak) (omega (arith, n))
        (omega (arith, n)) (omega (arith, n, on)))
        (λ q. let on = passing pa d refl q in untouched d na (ap (releases d) pm ∙ q) (on.0, on.1))

  -- ---- its RELEASE is taken, where the agent is on its machine; then it may leave, and every other request may have two moves more
  further : row was (p ∷ rest) ≡ 0 → row was (rest ++ qs) ≤ 2 → tally agent_p rest ≡ 0 → (b : Message → Bool)
      → moves_of b was (row was (rest ++ qs)) (rest ++ qs) ≤ moves_of b was (row was (p ∷ rest)) (p ∷ rest) + 2 * many b rest + 3 * many b qs
  unfolding walk
  further home two none b =
      let n : ℕ = row was (rest ++ qs) in
      let z : 0 - agent_p p ≡ 0 = omega arith in
      let sent = moves_most b was (n - tally agent_p rest) qs (omega (arith, two)) in
      rw (home, z) (omega (arith, walk_append (λ k q. gate (b q.message) (moves was k q.to)) n rest qs, rise b was n rest two none, sent))

  pub release_off : {who : ClientId} → p.message ≡ Release who → Quiet qs → row was (p ∷ rest) ≡ 0 → row was (rest ++ qs) ≤ 2 → tally agent_p rest ≡ 0
      → many (acquires who.0) rest ≡ 0 → (d : ℕ) → let r' = many (releases d) (rest ++ qs) in
      requests d was (rest ++ qs) + 0 * one d who ≤ requests d was (p ∷ rest) + (2 * max (many (acquires d) (p ∷ rest)) r' + 2 * r')
  release_off {who} pm quiet home two none alone d =
      let na = ap (acquires d) pm in
      let most : (b : Message → Bool) → moves_of b was (row was (rest ++ qs)) (rest ++ qs) ≤ 3 * many b (rest ++ qs) =
      λ b. moves_most b was (row was (rest ++ qs)) (rest ++ qs) two in
      by_client who d
      (λ q z w.
      let n = around d na (ap (releases d) pm ∙ q) (omega (arith, quiet d)) (omega (arith, quiet d)) in
      let x : many (acquires d) (rest ++ qs) ≡ 0 = omega (arith, n, quiet d, rw w at alone) in
      let y : many (releases d) (rest ++ qs) ≡ 0 = omega (arith, n, quiet d) in
      let gone : requests d was (rest ++ qs) ≡ 0 =
      claims_none 0 _ 0 _ 0 _ 0 _ 0 _ x y (omega (arith, x, most (acquires d))) (omega (arith, y, most (releases d))) in
      omega (arith, gone))
      (λ q z.
      let n = around d na (ap (releases d) pm ∙ q) (omega (arith, quiet d)) (omega (arith, quiet d)) in
      let same : many (releases d) (rest ++ qs) ≡ many (releases d) (p ∷ rest) = omega (arith, n, quiet d) in
      let more : requests d was (rest ++ qs) ≤ requests d was (p ∷ rest) + (2 * many (acquires d) (p ∷ rest) + 2 * many (releases d) (p ∷ rest)) =
      claims_rise _ _ _ _ _ _ _ _ _ _ (omega (arith, n, quiet d)) same n.few_acquires n.few_releases
      (omega (arith, n, quiet d, further home two none (acquires d))) (omega (arith, n, quiet d, further home two none (releases d)))
      (omega (arith, n, quiet d)) (omega (arith, n, moves_most (acquires d) was (row was (p ∷ rest)) (p ∷ rest) (omega (arith, home)))) in
      omega (arith, more, same))
