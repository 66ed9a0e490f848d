-- What makes a queue, an agent, a packet and a wire well formed.
use Rattle.std.specs.Prelude.{◌≡◌, refl, Bool, true, false, not, List, [], ◌∷◌, ◌++◌, ℕ, ◌-◌, ◌<◌, ◌≤◌, length, take, replicate, set, eqb}
use Rattle.std.proofs.Common.{sym, arith, length-append, length-set, ltb-true, lt-ltb, le-leb, eq-eqb, ne_eqb}
use Rattle.std.proofs.lemmas.List.{length-replicate}
use Rattle.std.proofs.Math.Seq.{drop-append_seam}
use Rattle.std.proofs.lemmas.Bool.{eqb-false, not-true}
use Rattle.model.specs.Lists.{any, all, padded}
use Rattle.laws.specs.Names.{ClientId, Mode, Address, ToDecider, Message, Free, Acquire, Grant, Release, Waiter, Queue, Agent, Packet}
use Rattle.model.specs.States.{plain, blank_waiter, blank_packet, queue_of, waiters, wire_of, some_agent, no_agent, machine_of, machines, clients}
use Rattle.model.specs.States.{queue_capacity}
use Rattle.model.specs.States.{wire_capacity, carrying, resent}
use Rattle.model.specs.WellFormed.{client_in_range, machine_in_range, address_in_range, shaped, is_blank_waiter, is_client, distinct, waiter_in_range}
use Rattle.model.specs.WellFormed.{queue_formed}
use Rattle.model.specs.WellFormed.{agent_formed, is_blank_agent, slot_formed, message_formed, circled_formed, packet_formed, is_blank_packet, wire_formed}
use Rattle.model.specs.Asking.{changed}
use Rattle.model.specs.AtMachine.{one_more, sent_back}
use Rattle.laws.specs.Tests.{and_left, and_right, both, or_left, or_right}
use Rattle.laws.specs.Lists.{take_padded, all_append, all_replicate, none_end, Sublist, empty, kept, left_out, sublist_length, sublist_all, sublist_none}
use Rattle.laws.specs.Formed.{queue_canonical, Fit, no_agent_formed, Whole}

pub machine_in_range_lem : (c : ClientId) → client_in_range c ≡ true → machine_in_range (machine_of c) ≡ true
machine_in_range_lem c h = lt-ltb (machine_of c).0 machines (omega (arith, ltb-true c.0 clients h))

pub shaped_padded : {A : Type 0} (n : ℕ) (p : A → Bool) (z : A) → p z ≡ true → (xs : List A) → length xs ≤ n → shaped n p (padded n z xs) (length xs) ≡ true
unfolding shaped padded
shaped_padded n p z e xs h =
    let pad = replicate (n - length xs) z in
    let l : length (xs ++ pad) ≡ n = omega (arith, length-append xs pad, length-replicate (n - length xs) z) in
    rw (eq-eqb _ n l, le-leb _ n h, drop-append_seam xs pad) (all_replicate p (n - length xs) z e)

-- ---- no client twice
first_new : (w : Waiter) (ws : List Waiter) → distinct (w ∷ ws) ≡ true → any (is_client w.client) ws ≡ false
unfolding distinct
first_new w ws d = not-true _ (and_left (not (any (is_client w.client) ws)) _ d)

rest_distinct : (w : Waiter) (ws : List Waiter) → distinct (w ∷ ws) ≡ true → distinct ws ≡ true
unfolding distinct
rest_distinct w ws d = and_right (not (any (is_client w.client) ws)) _ d

distinct_front : (w : Waiter) (ws : List Waiter) → any (is_client w.client) ws ≡ false → distinct ws ≡ true → distinct (w ∷ ws) ≡ true
unfolding distinct
distinct_front w ws e d = rw e d

distinct_end : (ws : List Waiter) (w : Waiter) → any (is_client w.client) ws ≡ false → distinct ws ≡ true → distinct (ws ++ w ∷ []) ≡ true
unfolding distinct
distinct_end [] w e d = refl
distinct_end (v ∷ ws) w e d =
    let v≢w : eqb w.client.0 v.client.0 ≡ false = ne_eqb _ _ (λ q. eqb-false v.client.0 w.client.0 (or_left _ _ e) (sym q)) in
    distinct_front v (ws ++ w ∷ []) (none_end (is_client v.client) ws w (first_new v ws d) v≢w)
    (distinct_end ws w (or_right (is_client w.client v) _ e) (rest_distinct v ws d))

distinct_sublist : {vs ws : List Waiter} → Sublist vs ws → distinct ws ≡ true → distinct vs ≡ true
distinct_sublist empty d = d
distinct_sublist (kept {x = w} {xs = vs} {ys = ws} s) d =
    distinct_front w vs (sublist_none (is_client w.client) s (first_new w ws d)) (distinct_sublist s (rest_distinct w ws d))
distinct_sublist (left_out {x = w} {ys = ws} s) d = distinct_sublist s (rest_distinct w ws d)

-- ---- what a queue may hold
pub record Line (ws : List Waiter) : Type 0 where
  pub short : length ws ≤ queue_capacity
  pub ranged : all waiter_in_range ws ≡ true
  pub once : distinct ws ≡ true

pub line : (q : Queue) → queue_formed q ≡ true → Line (waiters q)
unfolding queue_formed waiters
line q e =
    let c = queue_canonical q e in
    let e1 = and_right (shaped queue_capacity is_blank_waiter q.slots q.len) _ e in
    record {
      short = omega (arith, c.size, c.short);
      ranged = and_left (all waiter_in_range (take q.len q.slots)) _ e1;
      once = and_right (all waiter_in_range (take q.len q.slots)) _ e1;
    }

pub queue_formed_lem : {ws : List Waiter} → Line ws → queue_formed (queue_of ws) ≡ true
unfolding queue_formed queue_of is_blank_waiter
queue_formed_lem {ws} l =
    rw (shaped_padded queue_capacity is_blank_waiter blank_waiter refl ws l.short, take_padded queue_capacity blank_waiter ws, l.ranged) l.once

pub line_sublist : {vs ws : List Waiter} → Sublist vs ws → Line ws → Line vs
line_sublist s l = record { short = omega (arith, sublist_length s); ranged = sublist_all waiter_in_range s l.ranged; once = distinct_sublist s l.once }

-- one more waiter, at the end or in front
module _ {ws : List Waiter} (l : Line ws) (w : Waiter) (h : waiter_in_range w ≡ true) (new : any (is_client w.client) ws ≡ false)
    (room : length ws < queue_capacity) where
  pub line_end : Line (ws ++ w ∷ [])
  line_end =
      record {
        short = omega (arith, length-append ws (w ∷ []));
        ranged = all_append waiter_in_range ws (w ∷ []) l.ranged (both (waiter_in_range w) true h refl);
        once = distinct_end ws w new l.once;
      }

  pub line_front : Line (w ∷ ws)
  line_front = record { short = omega arith; ranged = both (waiter_in_range w) _ h l.ranged; once = distinct_front w ws new l.once }

-- ---- an agent
pub some_agent_formed : {a : Agent} → Fit a → slot_formed (some_agent a) ≡ true
unfolding slot_formed agent_formed
some_agent_formed {a} f = both (eqb (length a.holders) clients) _ (eq-eqb _ clients f.all_clients) f.queue

pub fit_line : {m : Mode} {hs : List Bool} {ws : List Waiter} {n : ℕ} → length hs ≡ clients → Line ws
    → Fit (record { mode = m; holders = hs; queue = queue_of ws; incarnation = n })
fit_line e l = record { all_clients = e; queue = queue_formed_lem l }

-- one holder more or less
pub fit_holder : {a : Agent} → Fit a → (i : ℕ) (b : Bool) (n : ℕ) → Fit (changed a (set a.holders i b) a.queue n)
fit_holder {a} f i b n = record { all_clients = omega (arith, f.all_clients, length-set a.holders i b); queue = f.queue }

-- ---- a packet
pub packet_formed_lem : {p : Packet} → Whole p → packet_formed p ≡ true
unfolding packet_formed
packet_formed_lem {p} w = rw (w.message, w.circled, w.address, w.carried)

-- the three ways in which a packet is made: a new one has not circled
new_circled : (m : Message) → circled_formed m 0 ≡ true
new_circled (Acquire c n g) = refl
new_circled (Grant c n) = refl
new_circled (Release c) = refl
new_circled Free = refl

pub plain_whole : (m : Message) (t : Address) → message_formed m false false t ≡ true → address_in_range t ≡ true → Whole (plain m t)
unfolding no_agent
plain_whole m t e h = record { message = e; circled = new_circled m; address = h; carried = no_agent_formed }

pub carrying_whole : {m : Message} {t : Address} {a : Agent} → message_formed m true false t ≡ true → address_in_range t ≡ true → Fit a → Whole (carrying m t a)
carrying_whole {m} e h q = record { message = e; circled = new_circled m; address = h; carried = some_agent_formed q }

pub resent_whole : {p : Packet} {t : Address} {b : Bool} → Whole p → message_formed p.message p.carried.present b t ≡ true
    → address_in_range t ≡ true → Whole (resent p t b)
resent_whole w e h = record { message = e; circled = w.circled; address = h; carried = w.carried }

-- and a packet that a machine sends back
pub back_whole : {p : Packet} → Whole p → message_formed p.message p.carried.present p.rejected ToDecider ≡ true
    → circled_formed p.message (one_more p.circled) ≡ true → Whole (sent_back p)
back_whole w e n = record { message = e; circled = n; address = refl; carried = w.carried }

blank_packet_lem : is_blank_packet blank_packet ≡ true
unfolding is_blank_packet blank_packet no_agent is_blank_agent queue_of shaped padded is_blank_waiter
blank_packet_lem = refl

pub wire_formed_lem : (ps : List Packet) → all packet_formed ps ≡ true → length ps ≤ wire_capacity → wire_formed (wire_of ps) ≡ true
unfolding wire_formed wire_of
wire_formed_lem ps e h = rw (shaped_padded wire_capacity is_blank_packet blank_packet blank_packet_lem ps h, take_padded wire_capacity blank_packet ps) e
