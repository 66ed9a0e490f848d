-- What the contracts rule out. An engine is what a program answers to each call on each cluster; it meets the contracts where it equals
-- the model. None of the following behaviours meets them, by the scenario that document 01 names for it. Likewise of drains, and of searches of a wire.
use Rattle.std.specs.Prelude.{unwrap_or, ◌≡◌, refl, not, List, [], ◌∷◌, ℕ, zero, suc, length, drop, get_or, leb, Ok}
use Rattle.std.proofs.Common.{sym, ap, ◌∙◌, true≢false, arith}
use Rattle.theorems.specs.Names.{LockId, MachineId, Mode, Shared, Unowned, Owned, AgentSlot, Cluster, Call, DeliverCall, LockRange, Refusal, Answer}
use Rattle.theorems.specs.Names.{Accepted, Refused, Outcome, Malformed, LockState, Drained, locks, number, ClientId, Packet, Found, Nowhere, At, any}
use Rattle.theorems.specs.Names.{IsFirst, is_at, is_free, names, true, false}
use Rattle.model.specs.Lists.{padded}
use Rattle.model.specs.States.{no_agent, wire_of, packets, lock_in, fresh_lock}
use Rattle.model.specs.WellFormed.{well_formed}
use Rattle.model.specs.Refusals.{◌when◌, first}
use Rattle.model.specs.Calls.{perform, lock_of, run}
use Rattle.model.specs.Drain.{allowance, Next, none, some, next_call, Quiescent, Drainage, drainage, drain_calls, drain_refused, drain_ended, drain_unless}
use Rattle.model.specs.Drain.{drain}
use Rattle.laws.specs.Finding.{first_is}
use Rattle.laws.specs.CallSteps.{perform_elsewhere}
use Rattle.laws.specs.Next.{NextIs, delivers_first, releases_holder, gives_up, next_is}
use Rattle.theorems.specs.Questions.{free_first, D7, free-of-0, wires_searched}
use Rattle.theorems.specs.Scenarios.{D1, D1-drained, D4, D10, scenarios_hold, machine, on, acquires0, delivers0, lock8, with0, d1, d3_rejected, d4}
use Rattle.theorems.specs.Scenarios.{client, d6}

abbrev pub Engine : Type 0
Engine = Call → Cluster → Outcome

abbrev pub Meets : Engine → Type 0
Meets e = (c : Call) (x : Cluster) → e c x ≡ perform c x

-- the number of its answer
abbrev pub answers : Engine → Call → Cluster → ℕ
answers e c x = number (e c x).answer

met : (e : Engine) → Meets e → (c : Call) (x : Cluster) → answers e c x ≡ number (perform c x).answer
met e m c x = ap (λ (o : Outcome). number o.answer) (m c x)

-- ---- what the scenarios say of single calls: D1's first is accepted, D10's lock 8 is refused
d1_accepted : number (perform (acquires0 0 0 3) (with0 fresh_lock)).answer ≡ 0
d1_accepted = let h = (scenarios_hold D1).0 in cc

d10_refused : number (perform lock8 (with0 fresh_lock)).answer ≡ 1
d10_refused = let h = (scenarios_hold D10).0 in cc

-- ---- an engine that refuses each step
pub refuses_each : (e : Engine) → Meets e → ((c : Call) (x : Cluster) → answers e c x ≡ 0 → ⊥) → ⊥
refuses_each e m f = f (acquires0 0 0 3) (with0 fresh_lock) (met e m _ _ ∙ d1_accepted)

-- ---- one that answers 0 and changes nothing
pub changes_nothing : (e : Engine) → Meets e → ((c : Call) (x : Cluster) → (e c x).cluster ≡ x) → ⊥
unfolding run fresh_lock wire_of
changes_nothing e m f =
    let still : (c : Call) (x : Cluster) → (perform c x).cluster ≡ x = λ c x. sym (ap (λ (o : Outcome). o.cluster) (m c x)) ∙ f c x in
    let x = with0 fresh_lock in
    let y = (perform (acquires0 0 0 3) x).cluster in
    let same : with0 d1 ≡ with0 fresh_lock = sym (scenarios_hold D1).1 ∙ still (delivers0 0) y ∙ still (acquires0 0 0 3) x in
    let z : ◌≡◌ {A = ℕ} 1 0 = ap (λ (x : Cluster). (lock_in x (on 0)).wire.len) same in
    omega arith

-- ---- one with a single fixed answer
pub answers_one : (e : Engine) (n : ℕ) → Meets e → ((c : Call) (x : Cluster) → answers e c x ≡ n) → ⊥
answers_one e n m f =
    let x = with0 fresh_lock in
    let accepted : n ≡ 0 = sym (f _ x) ∙ met e m _ x ∙ d1_accepted in
    let refused : n ≡ 1 = sym (f _ x) ∙ met e m _ x ∙ d10_refused in
    omega arith

-- ---- one that serves the first delivery of a lock and afterwards only shifts packets: a delivery on an owned lock leaves its agents
pub shifts_only : (e : Engine) → Meets e → ((l : LockId) (i : ℕ) (x : Cluster) → (o : Mode) (k : MachineId) → (lock_in x l).decider.owner ≡ Owned o k
    → (lock_in (e (DeliverCall l i) x).cluster l).agents ≡ (lock_in x l).agents) → ⊥
unfolding no_agent run
shifts_only e m f =
    let x = with0 d3_rejected in
    let same : (lock_in (e (delivers0 2) x).cluster (on 0)).agents ≡ d3_rejected.agents = f (on 0) 2 x Shared (machine 0) refl in
    let done : (e (delivers0 2) x).cluster ≡ with0 d4 = ap (λ (o : Outcome). o.cluster) (m (delivers0 2) x) ∙ (scenarios_hold D4).1 in
    true≢false (ap (λ (slots : List AgentSlot). (get_or slots 0 no_agent).present) (rw done at same))

-- ---- drains: what a program answers to each drain of each cluster, made by hand or not
abbrev pub Drainer : Type 0
Drainer = Cluster → LockId → Drained

abbrev pub MeetsDrain : Drainer → Type 0
MeetsDrain f = (x : Cluster) (l : LockId) → f x l ≡ drain x l

-- ---- the engine that only shifts packets, at the drain's end: it never writes the decider of an owned lock, so that no row of its calls frees one; the
-- drain of D1's cluster does
abbrev pub Shifts : Engine → Type 0
Shifts e =
    (c : Call) (x : Cluster) (l : LockId) (o : Mode) (k : MachineId) → (lock_in x l).decider.owner ≡ Owned o k
    → (lock_in (e c x).cluster l).decider.owner ≡ Owned o k

abbrev pub run_by : Engine → List Call → Cluster → Cluster
run_by e [] x = x
run_by e (c ∷ cs) x = run_by e cs (e c x).cluster

-- each drain is some row of the engine's calls
abbrev pub DrainsBy : Engine → Drainer → Type 0
DrainsBy e f = (x : Cluster) (l : LockId) → (cs : List Call) × ((f x l).cluster ≡ run_by e cs x)

stays_owned : (e : Engine) → Shifts e → (cs : List Call) (x : Cluster) (l : LockId) (o : Mode) (k : MachineId) → (lock_in x l).decider.owner ≡ Owned o k
    → (lock_in (run_by e cs x) l).decider.owner ≡ Owned o k
stays_owned e h [] x l o k q = q
stays_owned e h (c ∷ cs) x l o k q = stays_owned e h cs (e c x).cluster l o k (h c x l o k q)

pub shifts_only_drained : (e : Engine) (f : Drainer) → MeetsDrain f → Shifts e → DrainsBy e f → ⊥
unfolding fresh_lock
shifts_only_drained e f m h by =
    let x = with0 d1 in
    let made = by x (on 0) in
    let kept : (lock_in (run_by e made.0 x) (on 0)).decider.owner ≡ Owned Shared (machine 0) = stays_owned e h made.0 x (on 0) Shared (machine 0) refl in
    let freed : run_by e made.0 x ≡ with0 fresh_lock = sym made.1 ∙ ap (λ (d : Drained). d.cluster) (m x (on 0)) ∙ (scenarios_hold D1-drained).2 in
    let clash : Unowned ≡ Owned Shared (machine 0) = rw freed at kept in
    let z : ◌≡◌ {A = ℕ} 0 1 = cc in
    omega arith

-- ---- what holds of the calls of any drain
record Own (x : Cluster) (l : LockId) (d : Drainage) : Type 0 where
  quiescent : d.answer ≡ Accepted → Quiescent l (lock_in d.cluster l)
  others : (j : LockId) → (j.0 ≡ l.0 → ⊥) → lock_in d.cluster j ≡ lock_in x j

apart : (r : Refusal) → Accepted ≡ Refused r → ⊥
apart r e = let z : ◌≡◌ {A = ℕ} 0 1 = cc in omega arith

next_lock : {l : LockId} {s : LockState} {a : Call} → NextIs l s a → lock_of a ≡ l
next_lock (delivers_first b) = refl
next_lock (releases_holder k t m i b e st) = refl
next_lock (gives_up k t i b e nb nt) = refl

own : (n : ℕ) (l : LockId) (x : Cluster) → Own x l (drainage n l x)
unfolding drainage
own zero l x = go (next_call l (lock_in x l)) refl
  where
    go : (m : Next) → next_call l (lock_in x l) ≡ m → Own x l (drainage zero l x)
    go none e = rw (e, drainage) (record { quiescent = λ q. e; others = λ j h. refl })
    go (some a) e = rw (e, drainage) (record { quiescent = λ q. absurd (apart _ (sym q)); others = λ j h. refl })
own (suc n) l x = go (next_call l (lock_in x l)) refl (own n l)
  where
    step : (a : Call) → next_call l (lock_in x l) ≡ some a → (r : Answer) → (perform a x).answer ≡ r
        → Own (perform a x).cluster l (drainage n l (perform a x).cluster) → Own x l (drainage (suc n) l x)
    step a e (Ok tt) q o =
        rw (e, drainage) (rw q
        (record { quiescent = o.quiescent; others = λ j h. o.others j h ∙ perform_elsewhere a x j (rw (next_lock (next_is l (lock_in x l) a e)) h) }))
    step a e (Refused r) q o = rw (e, drainage) (rw q (record { quiescent = λ w. absurd (apart r (sym w)); others = λ j h. refl }))

    go : (m : Next) → next_call l (lock_in x l) ≡ m → ((y : Cluster) → Own y l (drainage n l y)) → Own x l (drainage (suc n) l x)
    go none e ih = rw (e, drainage) (record { quiescent = λ q. e; others = λ j h. refl })
    go (some a) e ih = step a e (perform a x).answer refl (ih (perform a x).cluster)

-- a drain that answers 0 counts the rule's own steps and ends where the rule has none left; and no drain touches another lock
pub record Honest (x : Cluster) (l : LockId) (d : Drained) : Type 0 where
  pub counted : d.answer ≡ Accepted → d.count ≡ length (drain_calls l x)
  pub ended : d.answer ≡ Accepted → Quiescent l (lock_in d.cluster l)
  pub others : (j : LockId) → (j.0 ≡ l.0 → ⊥) → lock_in d.cluster j ≡ lock_in x j

refused_honest : (x : Cluster) (l : LockId) (r : Refusal) → Honest x l (drain_refused r x)
refused_honest x l r = record { counted = λ e. absurd (apart r (sym e)); ended = λ e. absurd (apart r (sym e)); others = λ j h. refl }

drain_honest : (x : Cluster) (l : LockId) → Honest x l (drain x l)
unfolding drain drain_unless drain_ended
drain_honest x l = by_tests (first ((Malformed when not (well_formed x)) ∷ (LockRange when leb locks l.0) ∷ []))
  where
    by_end : (a : Answer) → (drainage allowance l x).answer ≡ a → Honest x l (drain_ended a x (drainage allowance l x))
    by_end (Ok tt) e = record { counted = λ q. refl; ended = λ q. (own allowance l x).quiescent e; others = (own allowance l x).others }
    by_end (Refused r) e = refused_honest x l r

    by_tests : (a : Answer) → Honest x l (drain_unless a l x)
    by_tests (Ok tt) = by_end (drainage allowance l x).answer refl
    by_tests (Refused r) = refused_honest x l r

-- so an invented step count, an early stop and a touched neighbour are each ruled out
pub drainers_honest : (f : Drainer) → MeetsDrain f → (x : Cluster) (l : LockId) → Honest x l (f x l)
drainers_honest f m x l = rw (m x l) (drain_honest x l)

-- ---- searches: what a program answers to each wire and client
abbrev pub Searcher : Type 0
Searcher = List Packet → ClientId → Found

abbrev pub MeetsSearch : Searcher → Type 0
MeetsSearch f = (ps : List Packet) (c : ClientId) → IsFirst (names c) ps (f ps c)

found_on : (f : Searcher) → MeetsSearch f → (ps : List Packet) (c : ClientId) (g : Found) → IsFirst (names c) ps g → f ps c ≡ g
found_on f m ps c g h = first_is (names c) ps _ (m ps c) ∙ sym (first_is (names c) ps g h)

-- one that gives the last packet that names the client; on D7's wire another stands behind the one that is found
pub finds_last : (f : Searcher) → MeetsSearch f → ((ps : List Packet) (c : ClientId) (i : ℕ) → f ps c ≡ At i → any (names c) (drop (suc i) ps) ≡ false) → ⊥
unfolding packets wire_of padded
finds_last f m h = true≢false (h (packets d6.wire) (client 4) 0 (found_on f m _ _ _ (wires_searched D7)))

-- one that gives the index behind it
pub finds_next : (f : Searcher) → MeetsSearch f → ((ps : List Packet) (c : ClientId) (i : ℕ) → IsFirst (names c) ps (At i) → f ps c ≡ At (suc i)) → ⊥
finds_next f m h =
    let clash : At 0 ≡ At 1 = sym (found_on f m _ _ _ (wires_searched D7)) ∙ h (packets d6.wire) (client 4) 0 (wires_searched D7) in
    let z : ◌≡◌ {A = ℕ} 0 1 = ap (λ (g : Found). unwrap_or g 0) clash in
    omega arith

-- one that takes a FREE to name client 0
pub finds_free : (f : Searcher) → MeetsSearch f
    → ((ps : List Packet) (i : ℕ) → is_at (λ (p : Packet). is_free p.message) ps i ≡ true → f ps (client 0) ≡ Nowhere → ⊥) → ⊥
unfolding is_at
finds_free f m h = h free_first 0 refl (found_on f m _ _ _ (wires_searched free-of-0))
