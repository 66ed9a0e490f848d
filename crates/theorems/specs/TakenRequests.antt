-- What it says of a request that a machine has taken it: the client of an ACQUIRE is then listed or queued, that of a RELEASE struck off, on any cluster.
use Rattle.std.specs.Prelude.{◌≡◌, ◌∷◌, ◌<◌, ◌⊎◌, Option, Some, Ok}
use Rattle.std.proofs.Common.{append-nil, inl, inr}
use Rattle.model.specs.WellFormed.{distinct, queue_formed, shaped, waiter_in_range, is_blank_waiter, message_formed, client_in_range}
use Rattle.laws.specs.Tests.{pick_by}
use Rattle.laws.specs.Formed.{parts, agent_on_lem, fit, packet_at_lem, lock_formed_lem}
use Rattle.laws.specs.CallSteps.{Allowed, may_deliver, perform_here, Passes, passes}
use Rattle.theorems.specs.Names.{LockId, MachineId, ClientId, Mode, Waiter, Agent, AgentSlot, ToMachine, Message, Free, Acquire, Grant, Release, Packet}
use Rattle.theorems.specs.Names.{Site, LockState, Cluster, DeliverCall, Answer, Accepted, Refused, Handling, None, NoAgent, NotHolder, Taken, refl, sym, ap}
use Rattle.theorems.specs.Names.{◌∙◌, Bool, true, false, not, false≢true, List, [], ℕ, arith, length, set, get_or-set_same, get_or-set_other, eqb-true}
use Rattle.theorems.specs.Names.{ltb-true, any, all, removed, machines, clients, is_client, is_shared, some_agent, no_agent, agent_on, packets, packets_of}
use Rattle.theorems.specs.Names.{waiters, waiters_of, queue_of, lock_in, site_of, with_slot, apply, changed, queuing, no_room, any_holder, without}
use Rattle.theorems.specs.Names.{stays_if, hand_over, leaves, lists, queues, may_join, marked, unmarked, acquire_arrives, release_arrives, arrives}
use Rattle.theorems.specs.Names.{at_machine, taken_off, packet_at, delivers, takes, deliver_step, deliver, perform, bool_cases, and_left, and_right}
use Rattle.theorems.specs.Names.{unqueuing}
use Rattle.theorems.specs.Accepting.{Does, accepts}
use Rattle.theorems.specs.Handlings.{tells_why}
use Rattle.theorems.specs.Statements.{Handled, told_no_agent, not_holder, acquire_taken, release_taken, release_unqueued, no_request, Unqueued, ListsBut}
use Rattle.theorems.specs.Statements.{TakenIn, then_listed, then_last, TakenOff, struck_off, struck_and_sent, off_queue, TakenTells}

-- ---- who is taken off a queue, in which a client stands once, stands in it no more
first_once : (w : Waiter) (ws : List Waiter) → distinct (w ∷ ws) ≡ true → any (is_client w.client) ws ≡ false
unfolding distinct
first_once w ws d = bool_cases (any (is_client w.client) ws) (λ e. absurd (false≢true (rw e at d))) (λ e. e)

gone_off : (c : ClientId) (ws : List Waiter) → distinct ws ≡ true → any (is_client c) (taken_off c ws) ≡ false
unfolding distinct taken_off
gone_off c [] d = refl
gone_off c (w ∷ ws) d =
    bool_cases (is_client c w)
    (λ e. let same : w.client.0 ≡ c.0 = eqb-true w.client.0 c.0 e in rw (e, ← same) (first_once w ws d))
    (λ e. rw (e, e) (gone_off c ws (and_right (not (any (is_client w.client) ws)) _ d)))

-- ---- the step of a machine with an agent
module _ (n : ℕ) (s : LockState) (i : ℕ) (k : MachineId) (c : ClientId) (kk : k.0 < length s.agents) where
  abbrev a : Agent
  a = (agent_on s k).agent

  abbrev p : Packet
  p = packet_at s i

  abbrev v : Site
  v = site_of n s k c

  abbrev rest : List Packet
  rest = removed (packets s.wire) i

  module _ (cc : c.0 < length a.holders) where
    -- the agent with other holders
    lists_but : (b : Bool) (y : Agent) → y.holders ≡ set a.holders c.0 b → ListsBut a y c b
    lists_but b y e =
        record {
          client = rw e (get_or-set_same a.holders c.0 b false cc);
          others = λ d ne. rw e (get_or-set_other a.holders c.0 d.0 b false ne);
        }

    listed_now : (m : Mode) (j : ℕ) (qs : List Packet)
        → TakenIn s (apply k c (with_slot v (some_agent (changed a (set a.holders c.0 true) a.queue j))) qs rest s) k c m
    listed_now m j qs =
        let y : AgentSlot = some_agent (changed a (set a.holders c.0 true) a.queue j) in
        let e = get_or-set_same s.agents k.0 y no_agent kk in
        then_listed (rw e refl) (rw e (lists_but true y.agent refl)) (rw e refl)

    last_now : (m : Mode) → TakenIn s (apply k c (with_slot v (some_agent (queuing a c m))) [] rest s) k c m
    last_now m =
        let e = get_or-set_same s.agents k.0 (some_agent (queuing a c m)) no_agent kk in
        then_last (rw e refl) (rw e refl) (rw e (waiters_of _))

    taken_in : (m : Mode) (g : Bool) → Does (acquire_arrives true v a p c m g) (λ u qs. TakenIn s (apply k c u qs rest s) k c m)
    unfolding acquire_arrives marked unmarked
    taken_in m true = pick_by (λ w. Does w (λ u qs. TakenIn s (apply k c u qs rest s) k c m)) (is_shared a.mode) (λ q. listed_now m _ []) (λ q. tt)
    taken_in m false =
        pick_by (λ w. Does w (λ u qs. TakenIn s (apply k c u qs rest s) k c m)) (may_join v m) (λ q. listed_now m _ _)
        (λ q. pick_by (λ w. Does w (λ u qs. TakenIn s (apply k c u qs rest s) k c m)) (no_room a c) (λ z. tt) (λ z. last_now m))

    leaving : (b : Bool) → Does (stays_if b v a (without a c)) (λ u qs. TakenOff s (apply k c u qs rest s) i k c)
    unfolding stays_if hand_over no_agent
    leaving true =
        let y : AgentSlot = some_agent (changed a (without a c) a.queue a.incarnation) in
        let e = get_or-set_same s.agents k.0 y no_agent kk in
        struck_off (rw e refl) (rw e (lists_but false y.agent refl)) (rw e refl) (rw (append-nil rest, packets_of rest))
    leaving false = go (waiters a.queue)
      where
        e : agent_on (apply k c (with_slot v no_agent) [] rest s) k ≡ no_agent
        e = get_or-set_same s.agents k.0 no_agent no_agent kk

        go : (ws : List Waiter) → TakenOff s (apply k c (with_slot v no_agent) (hand_over a (without a c) ws ∷ []) rest s) i k c
        go [] = struck_and_sent Free (changed a (without a c) (queue_of []) a.incarnation) (rw e refl) (lists_but false _ refl) (packets_of _)
        go (w ∷ ws) =
            struck_and_sent (Grant w.client w.mode) (changed a (without a c) (queue_of ws) a.incarnation) (rw e refl) (lists_but false _ refl)
            (packets_of _)

-- ---- what is told says of the agent
abbrev is_taken : Option Handling → Bool
is_taken None = false
is_taken (Some NoAgent) = false
is_taken (Some NotHolder) = false
is_taken (Some Taken) = true

here_by : {s t : LockState} {i : ℕ} {k : MachineId} {m : Message} {h : Option Handling} → Handled s t i k m h → h ≡ (Some Taken) → (agent_on s k).present ≡ true
here_by (told_no_agent r e w) q = absurd (false≢true (ap is_taken q))
here_by (not_holder e l u w) q = e
here_by (acquire_taken e st) q = e
here_by {s = s} {k = k} (release_taken l st) q = and_left (agent_on s k).present _ l
here_by {s = s} {k = k} (release_unqueued l u un) q = and_left (agent_on s k).present _ u
here_by (no_request r) q = absurd (false≢true (ap is_taken q))

abbrev releaser : ClientId → Message → ClientId
releaser d (Acquire c m g) = d
releaser d (Grant c m) = d
releaser d (Release c) = c
releaser d Free = d

abbrev is_release : Message → Bool
is_release (Acquire c m g) = false
is_release (Grant c m) = false
is_release (Release c) = true
is_release Free = false

released_by : {s t : LockState} {i : ℕ} {k : MachineId} {m : Message} {h : Option Handling} (c : ClientId) → Handled s t i k m h → m ≡ Release c
    → h ≡ Some Taken
    → (lists (agent_on s k) c ≡ true) ⊎ ((lists (agent_on s k) c ≡ false) × ((queues (agent_on s k) c ≡ true) × Unqueued s t i k c))
released_by c (told_no_agent r e w) z q = absurd (false≢true (ap is_taken q))
released_by c (not_holder e l u w) z q = absurd (false≢true (ap is_taken q))
released_by c (acquire_taken e st) z q = absurd (false≢true (ap is_release z))
released_by c (release_taken {c = d} l st) z q = let same : d ≡ c = ap (releaser c) z in inl (rw same at l)
released_by c (release_unqueued {c = d} l u un) z q = let same : d ≡ c = ap (releaser c) z in inr (rw same at l, (rw same at u, rw same at un))
released_by c (no_request r) z q = absurd (false≢true (ap is_taken q))

-- ---- of a delivery
module _ (x : Cluster) (l : LockId) (i : ℕ) (k : MachineId) (t : (packet_at (lock_in x l) i).to ≡ ToMachine k)
    (told : (deliver x l i).handling ≡ Some Taken) where
  abbrev s : LockState
  s = lock_in x l

  abbrev t' : LockState
  t' = lock_in (deliver x l i).cluster l

  -- only what is accepted tells anything
  accepted_is : (deliver x l i).answer ≡ Accepted
  unfolding perform
  accepted_is = go (deliver x l i).answer refl
    where
      go : (a : Answer) → (deliver x l i).answer ≡ a → (deliver x l i).answer ≡ Accepted
      go (Ok tt) e = e
      go (Refused r) e = absurd (false≢true (ap is_taken (sym ((tells_why x).refused (DeliverCall l i) r e) ∙ told)))

  handled : Handled s t' i k (packet_at s i).message (deliver x l i).handling
  handled = (tells_why x).at_a_machine l i k t accepted_is

  here : (agent_on s k).present ≡ true
  here = here_by handled told

  record Known (c : ClientId) : Type 0 where
    machine : k.0 < length s.agents
    client : c.0 < length (agent_on s k).agent.holders
    once : distinct (waiters (agent_on s k).agent.queue) ≡ true

  abbrev names_it : ClientId → Message → Type 0
  names_it c m = message_formed m (packet_at s i).carried.present (packet_at s i).rejected (packet_at s i).to ≡ true → client_in_range c ≡ true

  passed : Passes (DeliverCall l i) x
  unfolding perform
  passed = passes (DeliverCall l i) x accepted_is

  known : (c : ClientId) → names_it c (packet_at s i).message → Known c
  unfolding queue_formed waiters
  known c f = go passed.allowed
    where
      go : Allowed (DeliverCall l i) s → Known c
      go (may_deliver h) =
          let p = parts s (lock_formed_lem x l passed.formed passed.inside) in
          let w = packet_at_lem p i h in
          let y = fit (agent_on s k) (agent_on_lem p k) in
          let q = (agent_on s k).agent.queue in
          let kk : k.0 < machines = ltb-true k.0 machines (rw t at w.address) in
          let cc : c.0 < clients = ltb-true c.0 clients (f w.message) in
          record {
            machine = omega (arith, p.all_machines, kk);
            client = omega (arith, y.all_clients, cc);
            once = and_right (all waiter_in_range (waiters q)) _ (and_right (shaped 16 is_blank_waiter q.slots q.len) _ y.queue);
          }

  acquire_in : (c : ClientId) (m : Mode) (g : Bool) → (packet_at s i).message ≡ Acquire c m g → TakenIn s t' k c m
  unfolding perform deliver_step takes delivers at_machine arrives message_formed
  acquire_in c m g e =
      let b = known c (λ h. and_left (client_in_range c) _ (rw e at h)) in
      rw (perform_here (DeliverCall l i) x passed.formed passed.inside passed.call)
      (rw (t, e, here) (accepts k c (removed (packets s.wire) i) s
      (acquire_arrives true (site_of x.preference s k c) (agent_on s k).agent (packet_at s i) c m g)
      (λ u. TakenIn s u k c m) (taken_in x.preference s i k c b.machine b.client m g) (rw (t, e, here) at passed.step)))

  release_off : (c : ClientId) → (packet_at s i).message ≡ Release c → TakenOff s t' i k c
  unfolding perform deliver_step takes delivers at_machine arrives message_formed release_arrives
  release_off c e = go (released_by c handled e told)
    where
      b : Known c
      b = known c (λ h. and_left (client_in_range c) _ (rw e at h))

      go : (lists (agent_on s k) c ≡ true) ⊎ ((lists (agent_on s k) c ≡ false) × ((queues (agent_on s k) c ≡ true) × Unqueued s t' i k c)) → TakenOff s t' i k c
      go (inl y) =
          rw (perform_here (DeliverCall l i) x passed.formed passed.inside passed.call)
          (rw (t, e, y) (accepts k c (removed (packets s.wire) i) s (leaves (site_of x.preference s k c) (agent_on s k).agent c)
          (λ u. TakenOff s u i k c) (leaving x.preference s i k c b.machine b.client (any_holder (without (agent_on s k).agent c)))
          (rw (t, e, y) at passed.step)))
      go (inr h) =
          let a : Agent = unqueuing (agent_on s k).agent c in
          let there : agent_on t' k ≡ some_agent a =
          ap (λ (u : LockState). agent_on u k) h.1.1 ∙ get_or-set_same s.agents k.0 (some_agent a) no_agent b.machine in
          off_queue h.0 h.1.0
          (rw (there, waiters_of (taken_off c (waiters (agent_on s k).agent.queue))) (gone_off c (waiters (agent_on s k).agent.queue) b.once)) h.1.1

pub taken_tells : (x : Cluster) → TakenTells x
taken_tells x =
    record {
      acquires = λ l i k c m g t e h. acquire_in x l i k t h c m g e;
      releases = λ l i k c t e h. release_off x l i k t h c e;
    }
