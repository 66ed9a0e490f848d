-- The drain's next call passes its tests: on a well-formed cluster it is its step.
use Rattle.std.specs.Prelude.{◌≡◌, refl, true, false, ◌||◌, List, [], ◌∷◌, ℕ, zero, suc, ◌+◌, ◌*◌, ◌/◌, ◌%◌, ◌<◌, length, get_or}
use Rattle.std.proofs.Common.{◌∙◌, arith}
use Rattle.std.proofs.lemmas.Bool.{lt-leb}
use Rattle.laws.specs.Names.{LockId, MachineId, TaskId, Mode, Packet, Holding, ClientState, LockState, Cluster, Call, ReleaseCall, DeliverCall}
use Rattle.laws.specs.Names.{GiveUpCall}
use Rattle.model.specs.States.{client_of, status_of, note_of, is_waiting, idle, packets, lock_in, locks, machines, tasks, clients}
use Rattle.model.specs.WellFormed.{client_formed, well_formed}
use Rattle.model.specs.Refusals.{first}
use Rattle.model.specs.Calls.{is_holding, unless, release, deliver, give_up, perform, lock_of}
use Rattle.model.specs.Drain.{Next, none, some, release_first, give_up_first, or_else, next_of, next_call}
use Rattle.laws.specs.Tests.{bool_cases, pick_by}
use Rattle.laws.specs.Formed.{parts, client_of_lem, lock_formed_lem}
use Rattle.laws.specs.CallSteps.{outcome_of, Allowed, may_release, may_deliver, may_give_up, holds, waits}

-- what the drain does next to a lock's state
pub data NextIs (l : LockId) (s : LockState) : Call → Type 0 where
  delivers_first : 0 < length (packets s.wire) → NextIs l s (DeliverCall l 0)
  releases_holder : (k : MachineId) (t : TaskId) (m : Mode) → (client_of k t).0 < length s.clients → t.0 < tasks → packets s.wire ≡ []
      → status_of s (client_of k t) ≡ Holding m → NextIs l s (ReleaseCall l k t)
  gives_up : (k : MachineId) (t : TaskId) → (client_of k t).0 < length s.clients → t.0 < tasks → packets s.wire ≡ []
      → ((d : ℕ) → is_holding (get_or s.clients d idle).status ≡ false) → note_of s (client_of k t) ≡ true → NextIs l s (GiveUpCall l k t)

-- the client found, counted from n
pub record Found (n : ℕ) (cs : List ClientState) (l : LockId) (a : Call) : Type 0 where
  pub at : ℕ
  pub inside : at < length cs
  pub mode : Mode
  pub holding : (get_or cs at idle).status ≡ Holding mode
  pub call : a ≡ ReleaseCall l (record { 0 = (n + at) / tasks }) (record { 0 = (n + at) % tasks })

found : (l : LockId) (n : ℕ) (cs : List ClientState) (a : Call) → release_first l n cs ≡ some a → Found n cs l a
unfolding release_first
found l n [] a e = absurd (let z : ◌≡◌ {A = ℕ} 0 1 = cc in omega arith)
found l n (c ∷ cs) a e =
    bool_cases (is_holding c.status)
    (λ q. let h = holds c.status q in
    let r = rw (release_first, q) at e in
    let z : n + 0 ≡ n = omega arith in
    record { at = 0; inside = omega arith; mode = h.0; holding = h.1; call = rw z (cc) })
    (λ q. let f = found l (suc n) cs a (rw (release_first, q) at e) in
    let z : suc n + f.at ≡ n + suc f.at = omega arith in
    record { at = suc f.at; inside = omega (arith, f.inside); mode = f.mode; holding = f.holding; call = rw z at f.call })

-- the one who gives up
pub record Gives (n : ℕ) (cs : List ClientState) (l : LockId) (a : Call) : Type 0 where
  pub at : ℕ
  pub inside : at < length cs
  pub noted : (get_or cs at idle).lost ≡ true
  pub call : a ≡ GiveUpCall l (record { 0 = (n + at) / tasks }) (record { 0 = (n + at) % tasks })

gives : (l : LockId) (n : ℕ) (cs : List ClientState) (a : Call) → give_up_first l n cs ≡ some a → Gives n cs l a
unfolding give_up_first
gives l n [] a e = absurd (let z : ◌≡◌ {A = ℕ} 0 1 = cc in omega arith)
gives l n (c ∷ cs) a e =
    bool_cases c.lost
    (λ q. let r = rw (give_up_first, q) at e in
    let z : n + 0 ≡ n = omega arith in
    record { at = 0; inside = omega arith; noted = q; call = rw z (cc) })
    (λ q. let f = gives l (suc n) cs a (rw (give_up_first, q) at e) in
    let z : suc n + f.at ≡ n + suc f.at = omega arith in
    record { at = suc f.at; inside = omega (arith, f.inside); noted = f.noted; call = rw z at f.call })

pub nobody_holds : (l : LockId) (n : ℕ) (cs : List ClientState) → release_first l n cs ≡ none → (c : ℕ) → is_holding (get_or cs c idle).status ≡ false
unfolding release_first
nobody_holds l n [] e c = refl
nobody_holds l n (x ∷ cs) e zero = pick_by (λ o. o ≡ none → is_holding x.status ≡ false) (is_holding x.status) (λ q r. cc) (λ q r. q) e
nobody_holds l n (x ∷ cs) e (suc c) =
    pick_by (λ o. o ≡ none → is_holding (get_or cs c idle).status ≡ false) (is_holding x.status) (λ q r. cc) (λ q r. nobody_holds l (suc n) cs r c) e

pub nobody_noted : (l : LockId) (n : ℕ) (cs : List ClientState) → give_up_first l n cs ≡ none → (c : ℕ) → (get_or cs c idle).lost ≡ false
unfolding give_up_first
nobody_noted l n [] e c = refl
nobody_noted l n (x ∷ cs) e zero = pick_by (λ o. o ≡ none → x.lost ≡ false) x.lost (λ q r. cc) (λ q r. q) e
nobody_noted l n (x ∷ cs) e (suc c) =
    pick_by (λ o. o ≡ none → (get_or cs c idle).lost ≡ false) x.lost (λ q r. cc) (λ q r. nobody_noted l (suc n) cs r c) e

pub next_is : (l : LockId) (s : LockState) (a : Call) → next_call l s ≡ some a → NextIs l s a
unfolding next_of
next_is l s a e = go (packets s.wire) refl e
  where
    releasing : packets s.wire ≡ [] → release_first l 0 s.clients ≡ some a → NextIs l s a
    releasing q r =
        let f = found l 0 s.clients a r in
        let z : 0 + f.at ≡ f.at = omega arith in
        let w : tasks * (f.at / tasks) + f.at % tasks ≡ f.at = omega arith in
        rw (f.call, z)
        (releases_holder (record { 0 = f.at / tasks }) (record { 0 = f.at % tasks }) f.mode (rw w f.inside) (omega arith) q (rw w f.holding))

    giving : packets s.wire ≡ [] → release_first l 0 s.clients ≡ none → give_up_first l 0 s.clients ≡ some a → NextIs l s a
    giving q n r =
        let f = gives l 0 s.clients a r in
        let z : 0 + f.at ≡ f.at = omega arith in
        let w : tasks * (f.at / tasks) + f.at % tasks ≡ f.at = omega arith in
        rw (f.call, z)
        (gives_up (record { 0 = f.at / tasks }) (record { 0 = f.at % tasks }) (rw w f.inside) (omega arith) q (nobody_holds l 0 s.clients n)
        (rw w f.noted))

    empty : (n : Next) → release_first l 0 s.clients ≡ n → packets s.wire ≡ [] → or_else n (give_up_first l 0 s.clients) ≡ some a → NextIs l s a
    empty none e q r = giving q e r
    empty (some b) e q r = releasing q (e ∙ r)

    go : (ps : List Packet) → packets s.wire ≡ ps → next_of l ps s.clients ≡ some a → NextIs l s a
    go [] q r = empty (release_first l 0 s.clients) refl q r
    go (p ∷ ps) q r = let z : a ≡ DeliverCall l 0 = cc in rw z (delivers_first (rw q (omega arith)))

-- nobody holds, no GRANT was lost, and the wire is empty
pub record Rests (s : LockState) : Type 0 where
  pub wire : packets s.wire ≡ []
  pub nobody : (c : ℕ) → is_holding (get_or s.clients c idle).status ≡ false
  pub unnoted : (c : ℕ) → (get_or s.clients c idle).lost ≡ false

pub rests : (l : LockId) (s : LockState) → next_call l s ≡ none → Rests s
unfolding next_of
rests l s e = go (packets s.wire) refl e
  where
    empty : (n : Next) → release_first l 0 s.clients ≡ n → packets s.wire ≡ [] → or_else n (give_up_first l 0 s.clients) ≡ none → Rests s
    empty none e q r = record { wire = q; nobody = nobody_holds l 0 s.clients e; unnoted = nobody_noted l 0 s.clients r }
    empty (some b) e q r = absurd (let z : ◌≡◌ {A = ℕ} 0 1 = cc in omega arith)

    go : (ps : List Packet) → packets s.wire ≡ ps → next_of l ps s.clients ≡ none → Rests s
    go [] q r = empty (release_first l 0 s.clients) refl q r
    go (p ∷ ps) q r = absurd (let z : ◌≡◌ {A = ℕ} 0 1 = cc in omega arith)

-- ---- on a well-formed cluster the call is its step
pub noted_waits : (x : ClientState) → client_formed x ≡ true → x.lost ≡ true → is_waiting x.status ≡ true
unfolding client_formed
noted_waits x f e = rw e at f

pub record Goes (l : LockId) (x : Cluster) (a : Call) : Type 0 where
  pub lock : lock_of a ≡ l
  pub allowed : Allowed a (lock_in x l)
  pub step : perform a x ≡ outcome_of a x

pub goes : (l : LockId) (x : Cluster) (a : Call) → well_formed x ≡ true → l.0 < locks → NextIs l (lock_in x l) a → Goes l x a
unfolding perform release deliver give_up unless first
goes l x _ w h (delivers_first n) =
    record { lock = refl; allowed = may_deliver n; step = rw (w, lt-leb locks l.0 h, lt-leb (length (packets (lock_in x l).wire)) 0 n) }
goes l x _ w h (releases_holder k t m i b z e) =
    let n : length (lock_in x l).clients ≡ clients = (parts (lock_in x l) (lock_formed_lem x l w h)).all_clients in
    let j : k.0 < machines = omega arith in
    record { lock = refl; allowed = may_release j b m e; step = rw (w, lt-leb locks l.0 h, lt-leb machines k.0 j, lt-leb tasks t.0 b, e) }
goes l x _ w h (gives_up k t i b z v e) =
    let p = parts (lock_in x l) (lock_formed_lem x l w h) in
    let n : length (lock_in x l).clients ≡ clients = p.all_clients in
    let j : k.0 < machines = omega arith in
    let m = waits _ (noted_waits (get_or (lock_in x l).clients (client_of k t).0 idle) (client_of_lem p (client_of k t).0) e) in
    record { lock = refl; allowed = may_give_up j b m.0 m.1; step = rw (w, lt-leb locks l.0 h, lt-leb machines k.0 j, lt-leb tasks t.0 b, m.1) }
