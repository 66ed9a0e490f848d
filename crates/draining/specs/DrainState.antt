-- The drain of one lock's state, by the same steps as the drain of a cluster, without its calls' tests.
use Rattle.std.specs.Prelude.{◌≡◌, refl, Bool, true, false, List, [], ◌∷◌, ℕ, zero, suc, ◌+◌, ◌-◌, ◌*◌, ◌/◌, ◌%◌, ◌<◌, ◌≤◌, length, get_or, position}
use Rattle.std.specs.Prelude.{Option, Some, None, Result, Ok, Err, IfSome}
use Rattle.std.specs.List.{position_from}
use Rattle.std.specs.Option.{option_or, option_map}
use Rattle.std.proofs.Math.Path.{sym}
use Rattle.std.proofs.Math.Numerals.{add-one, sub-one}
use Rattle.std.proofs.Common.{ap, ◌∙◌, arith, set-set, get_or-set_same}
use Rattle.std.proofs.lemmas.Bool.{lt-leb, le-leb}
use Rattle.std.proofs.lemmas.List.{set-get_or}
use Rattle.std.proofs.lemmas.List.Quantifiers.{position-Some}
use Rattle.std.proofs.lemmas.Iterator.Adapters.{position_from-zero}
use Rattle.draining.specs.Names.{LockId, ClientId, Packet, ClientState, LockState, Cluster, Call, ReleaseCall, DeliverCall, GiveUpCall}
use Rattle.draining.specs.Names.{Refusal, Malformed, LockRange, NotQuiescent, Answer, Accepted, Refused, Handling, Stepped}
use Rattle.model.specs.States.{locks, tasks, clients, idle, packets, lock_in, fresh_lock}
use Rattle.model.specs.WellFormed.{lock_formed, well_formed}
use Rattle.model.specs.Refusals.{first}
use Rattle.model.specs.Calls.{is_holding, release_step, give_up_step, deliver_step, with_lock, settled, perform, handlings_of, latest, last_told}
use Rattle.model.specs.Drain.{allowance, Next, none, some, release_first, give_up_first, or_else, next_of, next_call, Drainage, ending, drainage, drain_refused}
use Rattle.model.specs.Drain.{drain_ended, drain_unless, drain}
use Rattle.laws.specs.Tests.{bool_cases}
use Rattle.laws.specs.Formed.{cells, parts, ready, lock_read}
use Rattle.laws.specs.Shapes.{length_packets}
use Rattle.laws.specs.CallSteps.{step_of, settled_answer}
use Rattle.laws.specs.Clusters.{perform_formed}
use Rattle.laws.specs.FormedStep.{release_formed, give_up_formed, deliver_formed}
use Rattle.laws.specs.Next.{next_is, Goes, goes}
use Rattle.planning.specs.declared.plan.Plan.{Plan}
use Rattle.planning.specs.Plans.{Accepts, Plans, carried_out}
use Rattle.draining.specs.declared.Turn.{Turn}
use Rattle.draining.specs.declared.Turn.TheVariants.{Release, GiveUp}
use Rattle.draining.specs.declared.Draining.{Draining}

-- how the drain of a lock's state ends, and how far it came
pub record Ended : Type 0 where
  pub answer : Answer
  pub at : Draining

abbrev ends : Answer → ℕ → ℕ → Option Handling → LockState → Ended
ends a n left h s = record { answer = a; at = record { preference = n; left = left; told = h; state = s } }

-- in a cluster with the preference n, with so many steps left, and the last handling told
unfoldable pub drain_state : ℕ → ℕ → LockId → Option Handling → LockState → Ended
drain_state n zero l h s = elim (next_call l s) [ none ↦ ends Accepted n zero h s | some c ↦ ends (Refused NotQuiescent) n zero h s ]
drain_state n (suc left) l h s =
    elim (next_call l s) [
      | none ↦ ends Accepted n (suc left) h s
      | some c ↦ elim (step_of n c s).answer [
        | Ok tt ↦ drain_state n left l (latest h (step_of n c s).handling) (step_of n c s).state
        | Refused r ↦ ends (Refused r) n (suc left) h s
      ]
    ]

-- what is left to do of a drain that came so far
abbrev pub drain_on : LockId → Draining → Ended
drain_on l d = drain_state d.preference d.left l d.told d.state

-- the drain that came to d ends at e, with the answer
pub record Ends (d : Draining) (a : Answer) (e : Draining) : Type 0 where
  pub with : (l : LockId) → record { answer = a; at = e } ≡ drain_on l d

-- ---- each way on, as the code takes it
module _ (n : ℕ) (l : LockId) (h : Option Handling) (s : LockState) where
  state_quiescent : (left : ℕ) → next_call l s ≡ none → ends Accepted n left h s ≡ drain_state n left l h s
  unfolding drain_state
  state_quiescent zero e = rw (e, drain_state)
  state_quiescent (suc left) e = rw (e, drain_state)

  module _ (c : Call) (e : next_call l s ≡ some c) where
    state_spent : (left : ℕ) → left ≡ 0 → ends (Refused NotQuiescent) n left h s ≡ drain_state n left l h s
    unfolding drain_state
    state_spent zero z = rw (e, drain_state)
    state_spent (suc left) z = absurd (omega (arith, z))

    state_goes : (left : ℕ) → 0 < left → (step_of n c s).answer ≡ Accepted
        → drain_state n (left - 1) l (latest h (step_of n c s).handling) (step_of n c s).state ≡ drain_state n left l h s
    unfolding drain_state
    state_goes zero b a = absurd (omega arith)
    state_goes (suc left) b a = rw sub-one (sym (rw (e, drain_state) (rw a)))

    state_refuses : (left : ℕ) (r : Refusal) → 0 < left → (step_of n c s).answer ≡ Refused r → ends (Refused r) n left h s ≡ drain_state n left l h s
    unfolding drain_state
    state_refuses zero r b a = absurd (omega arith)
    state_refuses (suc left) r b a = rw (e, drain_state) (rw a)

-- ---- the drain of a cluster is that of its lock's state
record Agree (left : ℕ) (h : Option Handling) (x : Cluster) (l : LockId) (d : Drainage) (w : Ended) : Type 0 where
  answer : d.answer ≡ w.answer
  count : length d.calls + w.at.left ≡ left
  told : last_told h (handlings_of d.calls x) ≡ w.at.told
  cluster : d.cluster ≡ with_lock x l w.at.state

-- where neither makes a step
agree_here : (left : ℕ) (h : Option Handling) (x : Cluster) (l : LockId) (a : Answer) → Agree left h x l (ending a x) (ends a x.preference left h (lock_in x l))
unfolding last_told
agree_here left h x l a = record { answer = refl; count = omega arith; told = refl; cluster = rw (set-get_or x.locks l.0 fresh_lock) }

-- the next call is the lock's step, put in its place
module _ (l : LockId) (x : Cluster) (c : Call) (g : Goes l x c) where
  call_answer : (perform c x).answer ≡ (step_of x.preference c (lock_in x l)).answer
  call_answer = rw (g.step, g.lock) (settled_answer (step_of x.preference c (lock_in x l)).answer x l (step_of x.preference c (lock_in x l)))

  module _ (e : (step_of x.preference c (lock_in x l)).answer ≡ Accepted) where
    call_cluster : (perform c x).cluster ≡ with_lock x l (step_of x.preference c (lock_in x l)).state
    unfolding settled
    call_cluster = rw (g.step, g.lock, e)

    call_told : (perform c x).handling ≡ (step_of x.preference c (lock_in x l)).handling
    unfolding settled
    call_told = rw (g.step, g.lock, e)

agree : (left : ℕ) (u : Option Handling) (x : Cluster) (l : LockId) → well_formed x ≡ true → l.0 < locks
    → Agree left u x l (drainage left l x) (drain_state x.preference left l u (lock_in x l))
unfolding drainage drain_state last_told
agree zero u x l w h = go (next_call l (lock_in x l)) refl
  where
    go : (m : Next) → next_call l (lock_in x l) ≡ m → Agree zero u x l (drainage zero l x) (drain_state x.preference zero l u (lock_in x l))
    go none e = rw (e, drainage, drain_state) (agree_here zero u x l Accepted)
    go (some c) e = rw (e, drainage, drain_state) (agree_here zero u x l (Refused NotQuiescent))
agree (suc left) u x l w h = go (next_call l (lock_in x l)) refl (λ t y v. agree left t y l v h)
  where
    Now : Type 0
    Now = Agree (suc left) u x l (drainage (suc left) l x) (drain_state x.preference (suc left) l u (lock_in x l))

    Later : Type 0
    Later = (t : Option Handling) (y : Cluster) → well_formed y ≡ true → Agree left t y l (drainage left l y) (drain_state y.preference left l t (lock_in y l))

    by_step : (c : Call) → Goes l x c → next_call l (lock_in x l) ≡ some c → (a : Answer) → (step_of x.preference c (lock_in x l)).answer ≡ a → Later → Now
    by_step c g e (Ok tt) q ih =
        let s = (step_of x.preference c (lock_in x l)).state in
        let t = latest u (step_of x.preference c (lock_in x l)).handling in
        let y = with_lock x l s in
        let p : (perform c x).cluster ≡ y = call_cluster l x c g q in
        let here : lock_in y l ≡ s = get_or-set_same x.locks l.0 s fresh_lock (rw (cells x w).all_locks h) in
        let i : Agree left t y l (drainage left l y) (drain_state x.preference left l t s) = rw here at (ih t y (rw p at (perform_formed c x w))) in
        rw (e, drainage, drain_state) (rw (call_answer l x c g, q, p)
        (record {
          answer = i.answer;
          count = omega (arith, i.count);
          told = rw (call_told l x c g q, p) i.told;
          cluster = i.cluster ∙ rw (set-set x.locks l.0 s _);
        }))
    by_step c g e (Refused r) q ih = rw (e, drainage, drain_state) (rw (call_answer l x c g, q) (agree_here (suc left) u x l (Refused r)))

    go : (m : Next) → next_call l (lock_in x l) ≡ m → Later → Now
    go none e ih = rw (e, drainage, drain_state) (agree_here (suc left) u x l Accepted)
    go (some c) e ih = by_step c (goes l x c w h (next_is l (lock_in x l) c e)) e (step_of x.preference c (lock_in x l)).answer refl ih

-- what the drain gives, by how that of the lock's state, read with any default, ended
abbrev start : Cluster → LockState → Draining
start x s = record { preference = x.preference; left = allowance; told = None; state = s }

module _ (x : Cluster) (l : LockId) (d : LockState) (a : Answer) (e : Draining) (w : well_formed x ≡ true) (h : l.0 < locks)
    (q : Ends (start x (get_or x.locks l.0 d)) a e) where
  agreed : Agree allowance None x l (drainage allowance l x) (record { answer = a; at = e })
  agreed = rw (q.with l, lock_read x l d w h) (agree allowance None x l w h)

  pub made : length (drainage allowance l x).calls + e.left ≡ allowance
  made = agreed.count

  pub left_fits : e.left ≤ allowance
  left_fits = omega (arith, made)

  drain_by : drain x l ≡ drain_ended a x (drainage allowance l x)
  unfolding drain drain_unless first
  drain_by = rw (w, lt-leb locks l.0 h) (ap (λ (r : Answer). drain_ended r x (drainage allowance l x)) agreed.answer)

  pub drain_ends : a ≡ Accepted
      → record { answer = Accepted; count = allowance - e.left; handling = e.told; cluster = with_lock x l e.state } ≡ drain x l
  unfolding drain_ended
  drain_ends z =
      let n : length (drainage allowance l x).calls ≡ allowance - e.left = omega (arith, agreed.count) in
      sym (drain_by ∙ rw (z, n, agreed.told, agreed.cluster))

  pub drain_stops : (r : Refusal) → a ≡ Refused r → drain_refused r x ≡ drain x l
  unfolding drain_ended
  drain_stops r z = sym (drain_by ∙ rw z)

-- the tests before it
pub drain_malformed : (x : Cluster) (l : LockId) → well_formed x ≡ false → drain_refused Malformed x ≡ drain x l
unfolding drain drain_unless first
drain_malformed x l w = rw w

pub drain_range : (x : Cluster) (l : LockId) → well_formed x ≡ true → locks ≤ l.0 → drain_refused LockRange x ≡ drain x l
unfolding drain drain_unless first
drain_range x l w h = rw (w, le-leb locks l.0 h)

-- ---- what the drain does next, as the code finds it
abbrev pub holds : ClientState → Bool
holds c = is_holding c.status

abbrev pub noted : ClientState → Bool
noted c = c.lost

-- the turn is the first holder's or, where nobody holds, that of the first with a note
abbrev releasing : ℕ → Turn
releasing c = Release (record { 0 = c })

abbrev giving_up : ℕ → Turn
giving_up c = GiveUp (record { 0 = c })

unfoldable pub turn_of : List ClientState → Option Turn
turn_of cs = option_or (option_map releasing (position holds cs)) (option_map giving_up (position noted cs))

pub inside : (f : ClientState → Bool) (cs : List ClientState) (j : ℕ) → position f cs ≡ Some j → j < length cs
inside f cs j p = (position-Some f cs j idle p).0

-- whose it is, its call, and its step in a cluster with the preference n
abbrev client_of : Turn → ClientId
client_of (Release c) = c
client_of (GiveUp c) = c

abbrev pub call_of : LockId → Turn → Call
call_of l (Release c) = ReleaseCall l (record { 0 = c.0 / tasks }) (record { 0 = c.0 % tasks })
call_of l (GiveUp c) = GiveUpCall l (record { 0 = c.0 / tasks }) (record { 0 = c.0 % tasks })

unfoldable pub turn_step : ℕ → LockState → Turn → Stepped
turn_step n s (Release c) = release_step n s c
turn_step n s (GiveUp c) = give_up_step n s c

step_by : (l : LockId) (n : ℕ) (s : LockState) (t : Turn) → step_of n (call_of l t) s ≡ turn_step n s t
unfolding turn_step
step_by l n s (Release c) = let q : tasks * (c.0 / tasks) + c.0 % tasks ≡ c.0 = omega arith in rw q
step_by l n s (GiveUp c) = let q : tasks * (c.0 / tasks) + c.0 % tasks ≡ c.0 = omega arith in rw q

step_formed : (n : ℕ) (s : LockState) (t : Turn) → (client_of t).0 < clients → lock_formed n s ≡ true → lock_formed n (turn_step n s t).state ≡ true
unfolding turn_step
step_formed n s (Release c) h f = release_formed n s c h f
step_formed n s (GiveUp c) h f = give_up_formed n s c h f

turn_inside : (cs : List ClientState) → IfSome (turn_of cs) (λ t. (client_of t).0 < length cs)
unfolding turn_of
turn_inside cs = go (position holds cs) (position noted cs) refl refl
  where
    go : (a b : Option ℕ) → position holds cs ≡ a → position noted cs ≡ b
        → IfSome (option_or (option_map releasing a) (option_map giving_up b)) (λ t. (client_of t).0 < length cs)
    go (Some j) b p q = inside holds cs j p
    go None (Some j) p q = inside noted cs j q
    go None None p q = tt

-- the next call where no packet is on the wire
abbrev next_by : LockId → Option Turn → Next
next_by l None = none
next_by l (Some t) = some (call_of l t)

holder_is : (l : LockId) (n : ℕ) (cs : List ClientState) → release_first l n cs ≡ next_by l (option_map releasing (position_from holds n cs))
unfolding release_first
holder_is l n [] = refl
holder_is l n (c ∷ cs) = bool_cases (is_holding c.status) (λ q. rw q) (λ q. rw (q, add-one) (holder_is l (suc n) cs))

noted_is : (l : LockId) (n : ℕ) (cs : List ClientState) → give_up_first l n cs ≡ next_by l (option_map giving_up (position_from noted n cs))
unfolding give_up_first
noted_is l n [] = refl
noted_is l n (c ∷ cs) = bool_cases c.lost (λ q. rw q) (λ q. rw (q, add-one) (noted_is l (suc n) cs))

either_turn : (l : LockId) (a b : Option Turn) → or_else (next_by l a) (next_by l b) ≡ next_by l (option_or a b)
either_turn l None b = refl
either_turn l (Some t) b = refl

clients_next : (l : LockId) (cs : List ClientState) → or_else (release_first l 0 cs) (give_up_first l 0 cs) ≡ next_by l (turn_of cs)
unfolding turn_of
clients_next l cs =
    rw (holder_is l 0 cs, noted_is l 0 cs, ← position_from-zero holds cs, ← position_from-zero noted cs)
    (either_turn l (option_map releasing (position holds cs)) (option_map giving_up (position noted cs)))

module _ (l : LockId) (s : LockState) where
  pub next_delivers : 0 < length (packets s.wire) → next_call l s ≡ some (DeliverCall l 0)
  unfolding next_of
  next_delivers h = go (packets s.wire) h
    where
      go : (ps : List Packet) → 0 < length ps → next_of l ps s.clients ≡ some (DeliverCall l 0)
      go [] h = absurd (omega arith)
      go (p ∷ ps) h = refl

  next_turn : length (packets s.wire) ≡ 0 → next_call l s ≡ next_by l (turn_of s.clients)
  unfolding next_of
  next_turn e = go (packets s.wire) e
    where
      go : (ps : List Packet) → length ps ≡ 0 → next_of l ps s.clients ≡ next_by l (turn_of s.clients)
      go [] e = clients_next l s.clients
      go (p ∷ ps) e = absurd (omega arith)

-- the drain's next step on t, after which the state is well formed
pub record Due (n : ℕ) (t : LockState) : Type 0 where
  pub call : LockId → Call
  pub gives : Stepped
  pub next : (l : LockId) → next_call l t ≡ some (call l)
  pub step : (l : LockId) → step_of n (call l) t ≡ gives
  pub formed : lock_formed n gives.state ≡ true

-- p plans it
pub record Planned (n : ℕ) (t : LockState) (p : Result Plan Refusal) : Type 0 where
  pub due : Due n t
  pub plans : Plans p t due.gives

module _ (n : ℕ) (t : LockState) (f : lock_formed n t ≡ true) where
  wire_length : length (packets t.wire) ≡ t.wire.len
  wire_length = length_packets t.wire (ready n t f).wire

  pub delivery_planned : (p : Result Plan Refusal) → 0 < t.wire.len → Plans p t (deliver_step n t 0) → Planned n t p
  delivery_planned p h q =
      let b : 0 < length (packets t.wire) = omega (arith, wire_length) in
      record {
        due = record {
          call = λ l. DeliverCall l 0;
          gives = deliver_step n t 0;
          next = λ l. next_delivers l t b;
          step = λ l. refl;
          formed = deliver_formed n t 0 b f;
        };
        plans = q;
      }

  module _ (e : t.wire.len ≡ 0) where
    pub turn_planned : (p : Result Plan Refusal) (u : Turn) → turn_of t.clients ≡ Some u → Plans p t (turn_step n t u) → Planned n t p
    turn_planned p u q g =
        let h : (client_of u).0 < length t.clients = rw q at (turn_inside t.clients) in
        record {
          due = record {
            call = λ l. call_of l u;
            gives = turn_step n t u;
            next = λ l. next_turn l t (wire_length ∙ e) ∙ rw q;
            step = λ l. step_by l n t u;
            formed = step_formed n t u (omega (arith, h, (parts t f).all_clients)) f;
          };
          plans = g;
        }

    pub nobodys_turn : turn_of t.clients ≡ None → (l : LockId) → next_call l t ≡ none
    nobodys_turn q l = next_turn l t (wire_length ∙ e) ∙ rw q

-- ---- along a phase
-- d goes on from a well-formed state
abbrev pub Formed : Draining → Type 0
Formed d = lock_formed d.preference d.state ≡ true

-- the drain that came to d has come to e
pub record Along (d e : Draining) : Type 0 where
  pub same : (l : LockId) → drain_on l e ≡ drain_on l d
  pub formed : Formed e
  pub fewer : e.left ≤ d.left

-- by a step at least
abbrev pub Ahead : Draining → Draining → Type 0
Ahead d e = (Along d e) × (e.left < d.left)

-- a step of d leads on to e, or the drain ends there
abbrev pub Comes : Draining → Answer → Draining → Type 0
Comes d (Ok tt) e = Ahead d e
Comes d (Err r) e = Ends d (Refused r) e

ends_later : {d e f : Draining} {a : Answer} → Along d e → Ends e a f → Ends d a f
ends_later g q = record { with = λ l. q.with l ∙ g.same l }

-- with an empty wire and nobody's turn it ends well
pub turn_over : (d e : Draining) → Along d e → e.state.wire.len ≡ 0 → turn_of e.state.clients ≡ None → Ends d Accepted e
turn_over d e g z q =
    ends_later g (record { with = λ l. state_quiescent e.preference l e.told e.state e.left (nobodys_turn e.preference e.state g.formed z q l) })

-- along a phase: what holds at its start is lost by a step alone
abbrev pub Since : (Draining → Type 0) → Draining → Draining → Type 0
Since P d e = (Along d e) × (e.left ≡ d.left → P e)

-- ---- a step
-- as p plans it
abbrev pub stepped_by : Plan → Draining → Draining
stepped_by p d =
    record { preference = d.preference; left = d.left - 1; told = option_or p.handling d.told; state = carried_out p d.state }

told_latest : (h g : Option Handling) → option_or g h ≡ latest h g
told_latest h None = refl
told_latest h (Some g) = refl

pub step_accepts : {n : ℕ} {t : LockState} {p : Result Plan Refusal} (g : Planned n t p) (q : Plan) → p ≡ Ok q → Accepts q t g.due.gives
step_accepts g q e = rw e at g.plans

-- the step answers what its plan does
answers : {n : ℕ} {t : LockState} (g : Due n t) (a : Answer) → g.gives.answer ≡ a → (l : LockId) → (step_of n (g.call l) t).answer ≡ a
answers g a q l = rw (g.step l) q

pub step_spent : (d : Draining) → Due d.preference d.state → d.left ≡ 0 → Ends d (Refused NotQuiescent) d
step_spent d g z = record { with = λ l. state_spent d.preference l d.told d.state (g.call l) (g.next l) d.left z }

module _ (d : Draining) (p : Result Plan Refusal) (g : Planned d.preference d.state p) where
  pub step_refused : (r : Refusal) (a : Answer) → (d.left ≡ 0 → ⊥) → p ≡ Err r → a ≡ Refused r → Comes d a d
  step_refused r a h e q =
      let b = answers g.due (Refused r) (ap (λ (t : Stepped). t.answer) (sym (rw e at g.plans))) in
      rw q (
      record { with = λ l. state_refuses d.preference l d.told d.state (g.due.call l) (g.due.next l) d.left r (omega (arith, h)) (b l) }
      )

  pub step_made : (q : Plan) → (d.left ≡ 0 → ⊥) → p ≡ Ok q → Ahead d (stepped_by q d)
  step_made q h e =
      let t = (step_accepts g q e).ends in
      let a = answers g.due Accepted (ap (λ (t : Stepped). t.answer) (sym t)) in
      rw (told_latest d.told q.handling, ap (λ (t : Stepped). t.state) t, ap (λ (t : Stepped). t.handling) t) (
        record {
          same = λ l. rw (g.due.step l) at (state_goes d.preference l d.told d.state (g.due.call l) (g.due.next l) d.left (omega (arith, h)) (a l));
          formed = g.due.formed;
          fewer = omega arith;
        },
        omega (arith, h),
      )
