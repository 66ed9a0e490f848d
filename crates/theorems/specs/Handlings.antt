-- Why a request came back: what a delivery to a machine tells, and what a drain and a transcript tell last (request 4 of document 02), on any cluster.
use Rattle.std.specs.Prelude.{◌≡◌, ◌∷◌, ◌++◌, ◌+◌, ◌&&◌, ◌<◌, ◌||◌, Option, Some, Ok, is_none}
use Rattle.model.specs.Drain.{allowance, drainage, drain_calls, drain_refused, drain_ended, drain_unless, drain}
use Rattle.model.specs.Refusals.{◌when◌, first}
use Rattle.laws.specs.Lists.{all_append}
use Rattle.laws.specs.Tests.{pick_by}
use Rattle.laws.specs.CallSteps.{finish_tells, told_none, perform_here, not_accepted, passes}
use Rattle.theorems.specs.Names.{LockId, MachineId, ClientId, Mode, Agent, ToDecider, ToMachine, Message, Free, Acquire, Grant, Release, Packet, Site}
use Rattle.theorems.specs.Names.{LockState, Cluster, Call, AcquireCall, ReleaseCall, DeliverCall, Refusal, Answer, Accepted, Refused, Handling, None}
use Rattle.theorems.specs.Names.{NoAgent, NotHolder, Taken, Stepped, Outcome, refl, sym, ap, Bool, true, false, not, List, [], ℕ}
use Rattle.theorems.specs.Names.{length, leb, set-get_or, pick, all, removed, wire_capacity, agent_on, no_agent, idle, packets, packets_of, lock_in, site_of}
use Rattle.theorems.specs.Names.{Verdict, cannot_place, does, finish, sends_back, leaves, hand_over, stays_if, marked, unmarked, acquire_arrives}
use Rattle.theorems.specs.Names.{release_arrives, arrives, at_machine, handles, packet_at, lists, delivers, handled_at, acquire_step, release_step, takes}
use Rattle.theorems.specs.Names.{deliver_step, settled, unless, acquire, release, deliver, perform, handlings_of, latest, last_told, machine_at}
use Rattle.theorems.specs.Names.{client_named, may_join, no_room, any_holder, without, waiters, Waiter, is_shared, false≢true, Drained, well_formed}
use Rattle.theorems.specs.Names.{locks, Malformed, LockRange, LoseCall, GiveUpCall, lose, give_up, give_up_step, lose_step, drops, queues, unqueuing}
use Rattle.theorems.specs.Names.{with_slot, some_agent, ltb, ltb-true, ltb-false, get_or-eq_default, get_or-set_same, waiters_of, bool_cases}
use Rattle.model.specs.Changes.{told_by}
use Rattle.std.proofs.Common.{append-nil, append_assoc}
use Rattle.std.proofs.Math.Seq.{append_snoc}
use Rattle.theorems.specs.Listings.{lists_all}
use Rattle.theorems.specs.Statements.{is_request, WentBack, Stayed, Handled, told_no_agent, not_holder, acquire_taken, release_taken, no_request}
use Rattle.theorems.specs.Statements.{Last, none_told, told_last, TellsWhy, Unqueued, release_unqueued}

-- ---- What a rule's verdict leads to, where its step is accepted: the packet goes back, or no request is sent.
abbrev NoRequests : Verdict → Type 0
NoRequests cannot_place = Unit {0}
NoRequests (does v qs) = all (λ (p : Packet). not (is_request p.message)) qs ≡ true

module _ (pref : ℕ) (s : LockState) (i : ℕ) (k : MachineId) (c : ClientId) where
  abbrev rest : List Packet
  rest = removed (packets s.wire) i

  abbrev p : Packet
  p = packet_at s i

  abbrev v : Site
  v = site_of pref s k c

  went_back : (finish k c (sends_back v p) rest s).answer ≡ Accepted → WentBack s (finish k c (sends_back v p) rest s).state i
  unfolding finish
  went_back e =
      pick_by (λ (t : Stepped). t.answer ≡ Accepted → WentBack s t.state i) (leb (length rest + 1) wire_capacity)
      (λ q z. rw (set-get_or s.agents k.0 no_agent, set-get_or s.clients c.0 idle)) (λ q z. absurd (not_accepted z)) e

  stayed : (w : Verdict) → NoRequests w → (finish k c w rest s).answer ≡ Accepted → Stayed s (finish k c w rest s).state i
  unfolding finish
  stayed cannot_place n e = absurd (not_accepted e)
  stayed (does u qs) n e =
      pick_by (λ (t : Stepped). t.answer ≡ Accepted → Stayed s t.state i) (leb (length rest + length qs) wire_capacity)
      (λ q z. record { sent = qs; wire = packets_of _; answers = n }) (λ q z. absurd (not_accepted z)) e

  -- an agent that takes a request sends none
  takes_acquire : (a : Agent) (m : Mode) (g : Bool) → NoRequests (acquire_arrives true v a p c m g)
  unfolding acquire_arrives marked unmarked
  takes_acquire a m true = pick_by NoRequests (is_shared a.mode) (λ q. refl) (λ q. tt)
  takes_acquire a m false = pick_by NoRequests (may_join v m) (λ q. refl) (λ q. pick_by NoRequests (no_room a c) (λ z. tt) (λ z. refl))

  takes_release : (a : Agent) → NoRequests (leaves v a c)
  unfolding stays_if hand_over
  takes_release a = go (any_holder (without a c))
    where
      handed : (hs : List Bool) (ws : List Waiter) → not (is_request (hand_over a hs ws).message) && true ≡ true
      handed hs [] = refl
      handed hs (w ∷ ws) = refl

      go : (b : Bool) → NoRequests (stays_if b v a (without a c))
      go true = refl
      go false = handed (without a c) (waiters a.queue)

  -- the Bools: there is an agent, it lists the client
  acquired : (m : Mode) (g b : Bool) → (agent_on s k).present ≡ b → (finish k c (acquire_arrives b v v.slot.agent p c m g) rest s).answer ≡ Accepted
      → Handled s (finish k c (acquire_arrives b v v.slot.agent p c m g) rest s).state i k (Acquire c m g) (pick b (Some Taken) (Some NoAgent))
  unfolding acquire_arrives
  acquired m g false h e = told_no_agent refl h (went_back e)
  acquired m g true h e = acquire_taken h (stayed _ (takes_acquire _ m g) e)

  abbrev unqueues : Verdict
  unqueues = does (with_slot v (some_agent (unqueuing v.slot.agent c))) []

  unqueued : (finish k c unqueues rest s).answer ≡ Accepted → Unqueued s (finish k c unqueues rest s).state i k c
  unfolding finish
  unqueued e =
      pick_by (λ (t : Stepped). t.answer ≡ Accepted → Unqueued s t.state i k c) (leb (length rest + 0) wire_capacity)
      (λ q z. rw (set-get_or s.clients c.0 idle, append-nil)) (λ q z. absurd (not_accepted z)) e

  -- d: the agent lists the client; q: it queues it
  abbrev hands : Bool → Bool → Verdict
  hands d q = pick d (leaves v v.slot.agent c) (pick q unqueues (sends_back v p))

  released : (b d q : Bool) → (agent_on s k).present ≡ b → lists v.slot c ≡ d → queues v.slot c ≡ q → (finish k c (hands d q) rest s).answer ≡ Accepted
      → Handled s (finish k c (hands d q) rest s).state i k (Release c) (pick b (pick (d || q) (Some Taken) (Some NotHolder)) (Some NoAgent))
  released true true q h j u e = release_taken j (stayed _ (takes_release v.slot.agent) e)
  released true false true h j u e = release_unqueued j u (unqueued e)
  released true false false h j u e = not_holder h j u (went_back e)
  released false true q h j u e = absurd (false≢true (rw h at j))
  released false false true h j u e = absurd (false≢true (rw h at u))
  released false false false h j u e = told_no_agent refl h (went_back e)

-- ---- of a delivery to a machine, by its packet's message
delivered : (pref : ℕ) (s : LockState) (i : ℕ) (k : MachineId) → (packet_at s i).to ≡ ToMachine k → (deliver_step pref s i).answer ≡ Accepted
    → Handled s (deliver_step pref s i).state i k (packet_at s i).message (deliver_step pref s i).handling
unfolding deliver_step takes delivers handled_at at_machine arrives release_arrives handles
delivered pref s i k t e = rw t (by_answer _ (rw t at e) (go (packet_at s i).message (rw t at e)))
  where
    step : Message → Stepped
    step m = finish k (client_named m) (arrives m (site_of pref s k (client_named m)) (packet_at s i)) (removed (packets s.wire) i) s

    go : (m : Message) → (step m).answer ≡ Accepted → Handled s (step m).state i k m (handles m (agent_on s k))
    go (Acquire c m g) e = acquired pref s i k c m g (agent_on s k).present refl e
    go (Release c) e = released pref s i k c (agent_on s k).present (lists (agent_on s k) c) (queues (agent_on s k) c) refl refl refl e
    go (Grant c m) e = no_request refl
    go Free e = no_request refl

    by_answer : (m : Message) → (step m).answer ≡ Accepted → Handled s (step m).state i k m (handles m (agent_on s k))
        → Handled s (step m).state i k m (told_by (step m).answer (handles m (agent_on s k)))
    by_answer m e h = rw e h

-- ---- no other step tells one, and no refused call
decider_tells : (pref : ℕ) (s : LockState) (i : ℕ) → (packet_at s i).to ≡ ToDecider → (deliver_step pref s i).handling ≡ None
unfolding deliver_step takes handled_at
decider_tells pref s i t =
    let h : handled_at (packet_at s i).to (packet_at s i).message (agent_on s (machine_at (packet_at s i).to)) ≡ None = rw t in
    told_none (deliver_step pref s i).answer h

module _ (x : Cluster) (l : LockId) (t : Stepped) where
  unless_tells : (a : Answer) → t.handling ≡ None → (unless a x l t).handling ≡ None
  unfolding unless settled
  unless_tells (Refused r) e = refl
  unless_tells (Ok tt) e = go t.answer
    where
      go : (b : Answer) → (settled b x l t).handling ≡ None
      go (Ok tt) = e
      go (Refused r) = refl

  unless_refused : (a : Answer) (r : Refusal) → (unless a x l t).answer ≡ Refused r → (unless a x l t).handling ≡ None
  unfolding unless settled
  unless_refused (Refused q) r e = refl
  unless_refused (Ok tt) r e = go t.answer e
    where
      go : (b : Answer) → (settled b x l t).answer ≡ Refused r → (settled b x l t).handling ≡ None
      go (Ok tt) e = absurd (not_accepted (sym e))
      go (Refused q) e = refl

refused_call : (c : Call) (x : Cluster) (r : Refusal) → (perform c x).answer ≡ Refused r → (perform c x).handling ≡ None
unfolding perform acquire release deliver lose give_up
refused_call (AcquireCall l k t m) x r e = unless_refused x l _ _ r e
refused_call (ReleaseCall l k t) x r e = unless_refused x l _ _ r e
refused_call (DeliverCall l i) x r e = unless_refused x l _ _ r e
refused_call (LoseCall l i) x r e = unless_refused x l _ _ r e
refused_call (GiveUpCall l k t) x r e = unless_refused x l _ _ r e

-- ---- the last of a list
next_told : {hs : List (Option Handling)} {h : Option Handling} (g : Option Handling) → Last hs h → Last (hs ++ g ∷ []) (latest h g)
next_told {hs = hs} (Some g) l = told_last hs [] refl refl refl
next_told {hs = hs} None (none_told e) = none_told (all_append is_none hs (None ∷ []) e refl)
next_told {hs = hs} None (told_last before {h = h} behind q n e) =
    let s : hs ++ None ∷ [] ≡ before ++ h ∷ (behind ++ None ∷ []) = rw q (append_assoc before (h ∷ behind) (None ∷ [])) in
    told_last before (behind ++ None ∷ []) s n (all_append is_none behind (None ∷ []) e refl)

last_after : {hs : List (Option Handling)} {h : Option Handling} (gs : List (Option Handling)) → Last hs h → Last (hs ++ gs) (last_told h gs)
unfolding last_told
last_after [] l = rw append-nil l
last_after {hs = hs} (g ∷ gs) l = rw (← append_snoc hs g gs) (last_after gs (next_told g l))

last_of : (gs : List (Option Handling)) → Last gs (last_told None gs)
last_of gs = last_after {hs = []} gs (none_told refl)

-- ---- of a drain, by its tests and how it ends
module _ (x : Cluster) (l : LockId) where
  by_end : (P : Drained → Type 0) → ((r : Refusal) → P (drain_refused r x)) → P (drain_ended Accepted x (drainage allowance l x)) → P (drain x l)
  unfolding drain drain_unless drain_ended
  by_end P f g = tests (first ((Malformed when not (well_formed x)) ∷ (LockRange when leb locks l.0) ∷ []))
    where
      end : (a : Answer) → P (drain_ended a x (drainage allowance l x))
      end (Ok tt) = g
      end (Refused r) = f r

      tests : (a : Answer) → P (drain_unless a l x)
      tests (Ok tt) = end (drainage allowance l x).answer
      tests (Refused r) = f r

  drain_tells : (drain x l).answer ≡ Accepted → Last (handlings_of (drain_calls l x) x) (drain x l).handling
  unfolding drain_ended
  drain_tells =
      by_end (λ d. d.answer ≡ Accepted → Last (handlings_of (drain_calls l x) x) d.handling) (λ r e. absurd (not_accepted e)) (λ e. last_of _)

  drain_stops : (r : Refusal) → (drain x l).answer ≡ Refused r → (drain x l).handling ≡ None
  unfolding drain_ended
  drain_stops r = by_end (λ d. d.answer ≡ Refused r → d.handling ≡ None) (λ q e. refl) (λ e. absurd (not_accepted (sym e)))

-- ---- of each call
pub tells_why : (x : Cluster) → TellsWhy x
unfolding perform acquire release deliver lose give_up acquire_step release_step give_up_step lose_step drops settled
tells_why x =
    record {
      at_a_machine = λ l i k t e.
          let g = passes (DeliverCall l i) x e in
          rw (perform_here (DeliverCall l i) x g.formed g.inside g.call, ap (λ (o : Outcome). o.handling) g.call, g.step)
          (delivered x.preference (lock_in x l) i k t g.step);
      at_the_decider = λ l i t. unless_tells x l _ _ (decider_tells x.preference (lock_in x l) i t);
      acquires = λ l k t m. unless_tells x l _ _ (finish_tells _ _ _ _ _);
      releases = λ l k t. unless_tells x l _ _ (finish_tells _ _ _ _ _);
      losses = λ l i. unless_tells x l _ _ (finish_tells _ _ _ _ _);
      givings_up = λ l k t. unless_tells x l _ _ (finish_tells _ _ _ _ _);
      refused = λ c r e. refused_call c x r e;
      drains = drain_tells x;
      drain_was_refused = drain_stops x;
      transcripts = λ bytes e. rw ((lists_all x bytes).tested e).told (last_of _);
      untested = λ bytes r e. rw ((lists_all x bytes).refused r e).0;
    }
