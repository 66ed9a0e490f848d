-- The waiters that leave a queue and those that stay, holders that join, and room in a queue.
use Rattle.std.specs.Prelude.{◌≡◌, ◌||◌, ◌∷◌, ◌+◌, ◌≤◌, ◌<◌, ◌*◌, ◌++◌}
use Rattle.theorems.specs.Names.{ClientId, Mode, Exclusive, Shared, Owner, Waiter, ToDecider, Grant, Packet, LockState, refl, sym, ◌∙◌, Bool, true}
use Rattle.theorems.specs.Names.{false, and-true, false≢true, List, [], map, ℕ, arith, length, get_or, set, length-set, eqb}
use Rattle.theorems.specs.Names.{leb, ltb, eq-eqb, le-leb, lt-leb, any, is_shared, plain, no_agent, is_client, grant_of, admitted, staying, joined}
use Rattle.theorems.specs.Names.{bool_cases, clients, queue_capacity, Parting, done, first_leaves, first_stays, parting, none_leaves, eqb-true}
use Rattle.theorems.specs.Names.{lt-ltb, MachineId, Agent, Site, some_agent, waiters, waiters_of, queuing, no_room, with_room, cannot_place, does}
use Rattle.theorems.specs.Names.{true≢false, taken_off}
use Rattle.theorems.specs.Tally.{flag, tally, tally_set, tally_le, tally_ext, tally_add, tally_zero, tally_length, tally_map, sum_to, sum_swap, sum_le}
use Rattle.theorems.specs.Tally.{sum_add, tally_append}
use Rattle.theorems.specs.Weights.{one, hit, one_w, hit_w, owned_mode, few, fits, misfit_p, queued_s, weight, waiting_p}
use Rattle.theorems.specs.Invariant.{Inv}
use Rattle.theorems.specs.InvariantStep.{Keeps}
use Rattle.theorems.specs.Sent.{Good, good_by}
use Rattle.theorems.specs.Facts.{far_absent, one_le, far_w, far_none, hits, one_self, set_at, one_each}

-- ---- who leaves the queue and who stays are the queue, and those who leave are shared
parted_by : {out stay ws : List Waiter} → Parting out stay ws → (f : Waiter → ℕ) → tally f ws ≡ tally f stay + tally f out
unfolding tally
parted_by done f = refl
parted_by (first_leaves e p) f = omega (arith, parted_by p f)
parted_by (first_stays p) f = omega (arith, parted_by p f)

pub parted : (n : Mode) (f : Waiter → ℕ) (ws : List Waiter) → tally f ws ≡ tally f (staying n ws) + tally f (admitted n ws)
parted n f ws = parted_by (parting n ws) f

-- two counts that agree on shared waiters agree on those who leave
module _ (f g : Waiter → ℕ) (h : (c : ClientId) → f (record { client = c; mode = Shared }) ≡ g (record { client = c; mode = Shared })) where
  of_shared : (c : ClientId) (m : Mode) → is_shared m ≡ true → f (record { client = c; mode = m }) ≡ g (record { client = c; mode = m })
  of_shared c Exclusive e = absurd (false≢true e)
  of_shared c Shared e = h c

  leavers_ext : {out stay ws : List Waiter} → Parting out stay ws → tally f out ≡ tally g out
  unfolding tally
  leavers_ext done = refl
  leavers_ext (first_leaves {w} e p) = omega (arith, leavers_ext p, of_shared w.client w.mode e)
  leavers_ext (first_stays p) = leavers_ext p

pub admitted_ext : (n : Mode) (f g : Waiter → ℕ) → ((c : ClientId) → f (record { client = c; mode = Shared }) ≡ g (record { client = c; mode = Shared }))
    → (ws : List Waiter) → tally f (admitted n ws) ≡ tally g (admitted n ws)
admitted_ext n f g h ws = leavers_ext f g h (parting n ws)

pub grants_count : (n : Mode) (f : Packet → ℕ) (g : Waiter → ℕ)
    → ((c : ClientId) → f (plain (Grant c Shared) ToDecider) ≡ g (record { client = c; mode = Shared }))
    → (ws : List Waiter) → tally f (map grant_of (admitted n ws)) ≡ tally g (admitted n ws)
grants_count n f g h ws = tally_map f grant_of (admitted n ws) ∙ admitted_ext n (λ w. f (grant_of w)) g h ws

pub grants_none : (n : Mode) (f : Packet → ℕ) → ((c : ClientId) → f (plain (Grant c Shared) ToDecider) ≡ 0)
    → (ws : List Waiter) → tally f (map grant_of (admitted n ws)) ≡ 0
grants_none n f h ws = grants_count n f (λ w. 0) h ws ∙ tally_zero (admitted n ws)

-- ---- holders that join
list_on_at : (hs : List Bool) (c d : ℕ) → d < length hs → flag (get_or hs d false) + flag (eqb c d) ≤ 1
    → flag (get_or (set hs c true) d false) ≡ flag (get_or hs d false) + flag (eqb c d)
list_on_at hs c d h u =
    let off : flag (eqb c d) * flag (get_or hs c false) ≡ 0 =
    bool_cases (eqb c d) (λ q. rw (eqb-true c d q, eq-eqb d d refl) (omega (arith, rw q at u))) (λ q. rw q (omega arith)) in
    omega (arith, set_at flag false hs c d true (λ q. omega (arith, q)))

pub join_count : (hs : List Bool) (ws : List Waiter) (d : ℕ) → d < length hs → flag (get_or hs d false) + tally (one_w d) ws ≤ 1
    → flag (get_or (joined hs ws) d false) ≡ flag (get_or hs d false) + tally (one_w d) ws
unfolding joined tally one
join_count hs [] d h u = omega arith
join_count hs (w ∷ ws) d h u =
    let e = list_on_at hs w.client.0 d h (omega arith) in
    let l : d < length (set hs w.client.0 true) = omega (arith, length-set hs w.client.0 true) in
    omega (arith, join_count (set hs w.client.0 true) ws d l (omega arith))

pub admitted_below : (d : ℕ) (n : Mode) (ws : List Waiter) → tally (one_w d) (admitted n ws) ≤ tally (hit_w d Shared) ws
unfolding hit one
admitted_below d n ws = omega (arith, admitted_ext n (one_w d) (hit_w d Shared) (λ e. omega arith) ws, parted n (hit_w d Shared) ws)

pub single_of : (d : ℕ) (c : ClientId) (n : Mode) (ws : List Waiter) → hit d Shared c n + tally (hit_w d Shared) ws ≤ 1
    → one d c + tally (one_w d) (admitted n ws) ≤ 1
unfolding hit one
single_of d c Exclusive ws h = rw (none_leaves ws).0 (unfold tally in omega (arith, one_le d c))
single_of d c Shared ws h = omega (arith, admitted_below d Shared ws)

pub grants_fit : (o : Owner) (n : Mode) → owned_mode o n ≡ true → (ws : List Waiter) → tally far_w ws ≡ 0
    → tally (misfit_p o) (map grant_of (admitted n ws)) ≡ 0
grants_fit o Exclusive e ws h = rw (none_leaves ws).0 (unfold tally in refl)
grants_fit o Shared e ws h =
    omega (arith, grants_count Shared (misfit_p o) far_w (λ c. unfold misfit_p fits no_agent in rw (and-true)) ws, parted Shared far_w ws)

pub few_joined : (n : Mode) (hs : List Bool) (c : ℕ) (ws : List Waiter) → c < length hs → tally flag hs ≡ 0
    → few n (tally flag (joined (set hs c true) (admitted n ws))) ≡ true
unfolding joined
few_joined Exclusive hs c ws h z = rw (none_leaves ws).0 (le-leb (tally flag (set hs c true)) 1 (omega (arith, tally_set flag false hs c true h)))
few_joined Shared hs c ws h z = refl

-- ---- room in a queue: each of all-clients clients stands in it at most once, and the client that comes not at all
pub any_none : (c : ClientId) (ws : List Waiter) → tally (one_w c.0) ws ≡ 0 → any (is_client c) ws ≡ false
unfolding tally one
any_none c [] e = refl
any_none c (w ∷ ws) e = bool_cases (eqb w.client.0 c.0) (λ q. absurd (omega (arith, rw q at e))) (λ q. rw q (any_none c ws (omega (arith, rw q at e))))

-- a waiter is far, or is one of all clients
line_length : (ws : List Waiter) → tally far_w ws ≡ 0 → length ws ≤ sum_to clients (λ d. tally (one_w d) ws)
line_length ws z =
    let each : Waiter → ℕ = λ w. sum_to clients (λ d. one_w d w) in
    omega (arith, tally_length ws, tally_le (λ w. 1) (λ w. far_w w + each w) here ws, tally_add far_w each ws, sum_swap clients one_w ws)
  where
    here : (w : Waiter) → 1 ≤ far_w w + sum_to clients (λ d. one_w d w)
    here w = bool_cases (ltb w.client.0 clients) (λ q. omega (arith, one_each w.client q)) (λ q. rw q (omega arith))

pub line_once : (ws : List Waiter) (d : ℕ) → tally (one_w d) ws ≡ tally (hit_w d Exclusive) ws + tally (hit_w d Shared) ws
line_once ws d = tally_ext (one_w d) _ (λ w. sym (hits d w.client w.mode)) ws ∙ tally_add (hit_w d Exclusive) (hit_w d Shared) ws

-- the list is counted among what asks
module _ (r : LockState) (i : Inv r) (line : List Waiter) (counted : (d : ℕ) (m : Mode) → tally (hit_w d m) line ≤ weight (waiting_p d m) (queued_s d m) r)
  where
    pub none_far : tally far_w line ≡ 0
    none_far =
        far_none line (λ d m h. let w : weight (waiting_p d m) (queued_s d m) r ≡ 0 = none m d (far_absent r d i h) in omega (arith, counted d m))
      where
        none : (m : Mode) (d : ℕ) → weight (waiting_p d Exclusive) (queued_s d Exclusive) r + weight (waiting_p d Shared) (queued_s d Shared) r ≡ 0
            → weight (waiting_p d m) (queued_s d m) r ≡ 0
        none Exclusive d e = omega arith
        none Shared d e = omega arith

    pub room : (c : ClientId) → c.0 < clients → ((d : ℕ) → tally (one_w d) line + one d c ≤ 1)
        → (any (is_client c) line || leb queue_capacity (length line)) ≡ false
    room c cl once =
        let sums = sum_add clients (λ d. tally (one_w d) line) (λ d. one d c) in
        let few : length line < clients =
        omega (arith, line_length line none_far, sum_le clients 1 (λ d. tally (one_w d) line + one d c) once, one_each c (lt-ltb c.0 clients cl)) in
        rw (any_none c line (omega (arith, once c.0, one_self c)), lt-leb queue_capacity (length line) few)

    -- the client that comes asks for nothing else
    pub room_idle : (c : ClientId) → c.0 < clients
        → weight (waiting_p c.0 Exclusive) (queued_s c.0 Exclusive) r + weight (waiting_p c.0 Shared) (queued_s c.0 Shared) r ≡ 0
        → (any (is_client c) line || leb queue_capacity (length line)) ≡ false
    unfolding one
    room_idle c cl none = room c cl once
      where
        once : (d : ℕ) → tally (one_w d) line + one d c ≤ 1
        once d =
            bool_cases (eqb c.0 d)
            (λ q. let e : c.0 ≡ d = eqb-true c.0 d q in
            omega (arith, line_once line d, counted d Exclusive, counted d Shared, rw e at none, one_le d c))
            (λ q. rw q (omega (arith, line_once line d, counted d Exclusive, counted d Shared, i.most d)))

-- the client that comes asks by its packet, which is counted too
pub room_waiting : (r : LockState) (i : Inv r) (line : List Waiter) (c : ClientId) (n : Mode) → c.0 < clients
    → ((d : ℕ) (m : Mode) → hit d m c n + tally (hit_w d m) line ≤ weight (waiting_p d m) (queued_s d m) r)
    → (any (is_client c) line || leb queue_capacity (length line)) ≡ false
room_waiting r i line c n cl h =
    room r i line (λ d m. omega (arith, h d m)) c cl (λ d. omega (arith, h d Exclusive, h d Shared, hits d c n, i.most d, line_once line d))

-- ---- a client joins a queue's end
pub queued_one : (a : Agent) (c : ClientId) (n : Mode) (d : ℕ) (m : Mode) → queued_s d m (some_agent (queuing a c n))
    ≡ queued_s d m (some_agent a) + hit d m c n
unfolding queued_s tally
queued_one a c n d m =
    let last : List Waiter = record { client = c; mode = n } ∷ [] in
    rw (waiters_of (waiters a.queue ++ last)) (omega (arith, tally_append (hit_w d m) (waiters a.queue) last))

-- where there is room, the step can be placed
pub good_room : {r : LockState} {k : MachineId} {c : ClientId} {rest qs : List Packet} {v : Site} (a : Agent) → no_room a c ≡ false → Keeps r k c rest v qs
    → Good r k c rest (with_room a c (does v qs))
good_room {r} {k} {c} {rest} {qs} {v} a e h = good_by r k c rest (no_room a c) cannot_place (does v qs) (λ q. true≢false (sym q ∙ e)) (λ q. h)

-- ---- a client is taken off a queue
pub taken_off_count : (f : Waiter → ℕ) (c : ClientId) (ws : List Waiter) → tally f (taken_off c ws) ≤ tally f ws
unfolding tally taken_off
taken_off_count f c [] = omega arith
taken_off_count f c (w ∷ ws) = bool_cases (is_client c w) (λ q. rw q (omega arith)) (λ q. rw q (omega (arith, taken_off_count f c ws)))

-- one waiter goes, who is c
pub taken_off_one : (c : ClientId) (ws : List Waiter) → any (is_client c) ws ≡ true → (d : ℕ)
    → tally (one_w d) ws ≡ tally (one_w d) (taken_off c ws) + one d c
unfolding tally taken_off one
taken_off_one c [] e d = absurd (false≢true e)
taken_off_one c (w ∷ ws) e d =
    bool_cases (is_client c w) (λ q. let same : w.client.0 ≡ c.0 = eqb-true _ _ q in rw q (rw same (omega arith)))
    (λ q. rw q (omega (arith, taken_off_one c ws (rw q at e) d)))
