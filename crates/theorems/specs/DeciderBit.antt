-- The decider's bit, where writers are preferred: what it keeps from being granted, what moves it, and that nothing else does, on any cluster.
use Rattle.std.specs.Prelude.{◌≡◌, ◌&&◌, ◌∷◌, ◌++◌, ◌+◌}
use Rattle.std.proofs.Math.Bool.{or-true, or-false}
use Rattle.laws.specs.Tests.{pick_by}
use Rattle.laws.specs.CallSteps.{perform_here, perform_elsewhere, Passes, passes, step_of}
use Rattle.theorems.specs.Names.{LockId, MachineId, ClientId, Mode, Exclusive, Shared, Owner, Unowned, Owned, ToDecider, ToMachine, Address, Message, Free}
use Rattle.theorems.specs.Names.{Acquire, Grant, Release, Packet, Site, LockState, Cluster, Call, AcquireCall, ReleaseCall, DeliverCall, LoseCall}
use Rattle.theorems.specs.Names.{GiveUpCall, Accepted, refl, ap, ◌∙◌, Bool, true, false, and-false, true≢false, List, [], ℕ, set-get_or, removed, is_shared}
use Rattle.theorems.specs.Names.{no_agent, idle, packets, packets_of, lock_in, site_of, with_decider, Verdict, does, apply, finish, prefers_writers}
use Rattle.theorems.specs.Names.{writer_in, sent_on, owned_shared, shares, noting, current, may_share, to_owner, decides_release, decides_acquire}
use Rattle.theorems.specs.Names.{decides_free, decides_grant, decides, at_decider, may_join, no_room, any_holder, without, stays_if, client_asks}
use Rattle.theorems.specs.Names.{client_acquires, client_releases, client_gives_up, grant_is_lost, lists, queues, installs, grant_arrives}
use Rattle.theorems.specs.Names.{rejected_grant_arrives, marked, unmarked, acquire_arrives, release_arrives, free_arrives, arrives, at_machine, delivers}
use Rattle.theorems.specs.Names.{machine_at, client_named, packet_at, acquire_step, release_step, takes, deliver_step, give_up_step, drops, lose_step}
use Rattle.theorems.specs.Names.{perform, lock_of, machine_of, plain, next, to_decider, client_of, mode_of, ℕ_discrete, with_status, Idle}
use Rattle.theorems.specs.Accepting.{Does, accepts}
use Rattle.theorems.specs.Statements.{SentOnAsItIs, moves_by, moves_bit, BitMoves, DeciderKnows}

-- ---- no other rule writes the bit
abbrev Still : Site → Verdict → Type 0
Still v w = Does w (λ u qs. u.decider.writer ≡ v.decider.writer)

module _ (v : Site) (p : Packet) where
  noted_shared : (noting v Shared).decider.writer ≡ v.decider.writer
  noted_shared = rw (and-false (prefers_writers v.preference)) (or-false v.decider.writer)

  still_decides : (m : Message) (o : Owner) → v.decider.owner ≡ o → moves_by m v.decider p ≡ false → Still v (decides m o v p)
  unfolding decides decides_acquire decides_release decides_free decides_grant to_owner
  still_decides (Acquire c m true) Unowned e f = tt
  still_decides (Acquire c m true) (Owned n k) e f = refl
  still_decides (Acquire c m false) Unowned e f = refl
  still_decides (Acquire c Shared false) (Owned n k) e f = pick_by (Still v) (may_share v Shared) (λ q. refl) (λ q. noted_shared)
  still_decides (Acquire c Exclusive false) (Owned n k) e f = absurd (true≢false (rw e at f))
  still_decides (Release c) Unowned e f = refl
  still_decides (Release c) (Owned n k) e f = refl
  still_decides (Grant c m) o e f = go p.carried.present o f
    where
      go : (b : Bool) (o : Owner) → b && current v.decider p ≡ false → Still v (decides_grant b o v p c m)
      go false o f = refl
      go true Unowned f = tt
      go true (Owned n k) f = rw f refl
  still_decides Free Unowned e f = tt
  still_decides Free (Owned n k) e f = rw f refl

  still_arrives : (m : Message) → Still v (arrives m v p)
  unfolding arrives acquire_arrives marked unmarked release_arrives stays_if grant_arrives rejected_grant_arrives free_arrives installs
  still_arrives (Acquire c m g) = go v.slot.present g
    where
      go : (h g : Bool) → Still v (acquire_arrives h v v.slot.agent p c m g)
      go false g = refl
      go true true = pick_by (Still v) (is_shared v.slot.agent.mode) (λ q. refl) (λ q. tt)
      go true false =
          pick_by (Still v) (may_join v m) (λ q. refl) (λ q. pick_by (Still v) (no_room v.slot.agent c) (λ z. tt) (λ z. refl))
  still_arrives (Release c) =
      pick_by (Still v) (lists v.slot c) (λ q. leaving (any_holder (without v.slot.agent c)))
      (λ q. pick_by (Still v) (queues v.slot c) (λ z. refl) (λ z. refl))
    where
      leaving : (b : Bool) → Still v (stays_if b v v.slot.agent (without v.slot.agent c))
      leaving true = refl
      leaving false = refl
  still_arrives (Grant c m) = pick_by (Still v) p.rejected (λ q. back v.slot.present) (λ q. granted v.slot.present p.carried.present)
    where
      back : (b : Bool) → Still v (rejected_grant_arrives b v p.carried.agent c m)
      back true = tt
      back false = pick_by (Still v) (no_room p.carried.agent c) (λ z. tt) (λ z. refl)

      granted : (h b : Bool) → Still v (grant_arrives h b v p.carried.agent c m)
      granted h false = refl
      granted true true = tt
      granted false true = refl
  still_arrives Free = go v.slot.present
    where
      go : (b : Bool) → Still v (free_arrives b v p.carried)
      go true = tt
      go false = refl

  still_delivers : (t : Address) → to_decider t && moves_by p.message v.decider p ≡ false → Still v (delivers t v p)
  unfolding delivers at_decider at_machine
  still_delivers ToDecider f = still_decides p.message v.decider.owner refl f
  still_delivers (ToMachine k) f = still_arrives p.message

still_asks : (v : Site) (c : ClientId) (m : Mode) → Still v (client_acquires v c m)
unfolding client_acquires client_asks
still_asks v c m = go v.slot.present
  where
    go : (b : Bool) → Still v (client_asks v c m b v.slot.agent)
    go true = pick_by (Still v) (may_join v m) (λ q. refl) (λ q. pick_by (Still v) (no_room v.slot.agent c) (λ z. tt) (λ z. refl))
    go false = refl

still_releases : (v : Site) (c : ClientId) → Still v (client_releases v c)
unfolding client_releases stays_if
still_releases v c = pick_by (Still v) (lists v.slot c) (λ q. leaving (any_holder (without v.slot.agent c))) (λ q. refl)
  where
    leaving : (b : Bool) → Still v (stays_if b (with_status v Idle) v.slot.agent (without v.slot.agent c))
    leaving true = refl
    leaving false = refl

-- what a rule that writes no bit leads to
module _ (k : MachineId) (c : ClientId) (rest : List Packet) (n : ℕ) (s : LockState) where
  still_step : (w : Verdict) → Still (site_of n s k c) w → (finish k c w rest s).answer ≡ Accepted
      → (finish k c w rest s).state.decider.writer ≡ s.decider.writer
  still_step w h e = accepts k c rest s w (λ t. t.decider.writer ≡ s.decider.writer) h e

still_call : (n : ℕ) (a : Call) (s : LockState) → (step_of n a s).answer ≡ Accepted → moves_bit a s ≡ false
    → (step_of n a s).state.decider.writer ≡ s.decider.writer
unfolding acquire_step release_step give_up_step deliver_step takes lose_step drops client_gives_up grant_is_lost
still_call n (AcquireCall l k t m) s e f = still_step _ (client_of k t) (packets s.wire) n s _ (still_asks _ (client_of k t) (mode_of m)) e
still_call n (ReleaseCall l k t) s e f = still_step _ (client_of k t) (packets s.wire) n s _ (still_releases _ (client_of k t)) e
still_call n (GiveUpCall l k t) s e f =
    let c : ClientId = client_of k t in
    still_step (machine_of c) c (packets s.wire) n s (client_gives_up (site_of n s (machine_of c) c) c) refl e
still_call n (LoseCall l i) s e f =
    let k : MachineId = machine_at (packet_at s i).to in
    let c : ClientId = client_named (packet_at s i).message in
    still_step k c (removed (packets s.wire) i) n s (grant_is_lost (site_of n s k c)) refl e
still_call n (DeliverCall l i) s e f =
    let p = packet_at s i in
    let v : Site = site_of n s (machine_at p.to) (client_named p.message) in
    still_step (machine_at p.to) (client_named p.message) (removed (packets s.wire) i) n s (delivers p.to v p)
    (still_delivers v p p.to f) e

-- ---- the rules that do, and the one that the bit keeps from granting
module _ (v : Site) (p : Packet) where
  decided : (m : Message) (o : Owner) → p.to ≡ ToDecider → p.message ≡ m → v.decider.owner ≡ o → delivers p.to v p ≡ decides m o v p
  unfolding delivers at_decider
  decided m o t e f =
      ap (λ (a : Address). delivers a v p) t ∙ ap (λ (n : Message). decides n v.decider.owner v p) e ∙ ap (λ (q : Owner). decides m q v p) f

  held : (c : ClientId) (k : MachineId) → v.decider.writer ≡ true → decides (Acquire c Shared false) (Owned Shared k) v p ≡ does v (sent_on p k ∷ [])
  unfolding decides decides_acquire to_owner may_share
  held c k w =
      let no : may_share v Shared ≡ false = rw w (and-false (owned_shared v.decider.owner)) in
      rw no (ap (λ (b : Bool). does (with_decider v (record { owner = v.decider.owner; incarnation = v.decider.incarnation; writer = b })) (sent_on p k ∷ []))
      (noted_shared v p))

  let_in_by : (c : ClientId) (k : MachineId) → v.decider.owner ≡ Owned Shared k → v.decider.writer ≡ false
      → decides (Acquire c Shared false) (Owned Shared k) v p ≡ shares v c k
  unfolding decides decides_acquire may_share
  let_in_by c k o w = let yes : may_share v Shared ≡ true = rw (o, w) in rw yes refl

  sets : (c : ClientId) (n : Mode) (k : MachineId) → decides (Acquire c Exclusive false) (Owned n k) v p ≡ does (noting v Exclusive) (sent_on p k ∷ [])
  unfolding decides decides_acquire to_owner may_share
  sets c n k = let no : may_share v Exclusive ≡ false = and-false (owned_shared v.decider.owner) in rw no refl

module _ (n : ℕ) (s : LockState) (i : ℕ) (writers : n ≡ 1) (t : (packet_at s i).to ≡ ToDecider) (e : (deliver_step n s i).answer ≡ Accepted) where
  abbrev p : Packet
  p = packet_at s i

  abbrev k₀ : MachineId
  k₀ = machine_at p.to

  abbrev c₀ : ClientId
  c₀ = client_named p.message

  abbrev v : Site
  v = site_of n s k₀ c₀

  abbrev rest : List Packet
  rest = removed (packets s.wire) i

  by_rule : (Q : LockState → Type 0) (m : Message) (o : Owner) → p.message ≡ m → s.decider.owner ≡ o
      → Does (decides m o v p) (λ u qs. Q (apply k₀ c₀ u qs rest s)) → Q (deliver_step n s i).state
  unfolding deliver_step takes
  by_rule Q m o q f h = accepts k₀ c₀ rest s (delivers p.to v p) Q (rw (decided v p m o t q f) h) e

  bit_moves : BitMoves s (deliver_step n s i).state i
  unfolding decides decides_free decides_grant
  bit_moves =
      record {
        held_back = λ c k m o w. by_rule (λ (t : LockState). SentOnAsItIs s t i k) (Acquire c Shared false) (Owned Shared k) m o
            (rw (held v p c k w) (rw (set-get_or s.agents k₀.0 no_agent, set-get_or s.clients c₀.0 idle)));
        let_in = λ c k m o w. by_rule (λ (t : LockState).
            (packets t.wire ≡ rest ++ plain (Grant c Shared) (ToMachine (machine_of c)) ∷ plain (Acquire c Shared true) (ToMachine k) ∷ [])
            × (t.decider ≡ record { owner = s.decider.owner; incarnation = next s.decider.incarnation; writer = false }))
            (Acquire c Shared false) (Owned Shared k) m o (rw (let_in_by v p c k o w) (packets_of _, rw w));
        set = λ c m k q o. by_rule (λ (t : LockState). (packets t.wire ≡ rest ++ sent_on p k ∷ []) × (t.decider.writer ≡ true))
            (Acquire c Exclusive false) (Owned m k) q o (rw (sets v p c m k) (packets_of _, rw writers (or-true s.decider.writer)));
        cleared = λ q f. by_rule (λ (t : LockState). t.decider.writer ≡ false) Free s.decider.owner q refl (freed s.decider.owner f);
        renewed = λ c m q b f. by_rule (λ (t : LockState). t.decider.writer ≡ writer_in p.carried.agent) (Grant c m) s.decider.owner q refl
            (brought c m s.decider.owner b f);
      }
    where
      freed : (o : Owner) → current s.decider p ≡ true → Does (decides Free o v p) (λ u qs. u.decider.writer ≡ false)
      freed Unowned f = tt
      freed (Owned m k) f = rw f refl

      brought : (c : ClientId) (m : Mode) (o : Owner) → p.carried.present ≡ true → current s.decider p ≡ true
          → Does (decides (Grant c m) o v p) (λ u qs. u.decider.writer ≡ writer_in p.carried.agent)
      brought c m Unowned b f = rw b tt
      brought c m (Owned o k) b f = rw (b, f, writers) refl

-- ---- on any cluster
pub decider_knows : (x : Cluster) → DeciderKnows x
unfolding perform
decider_knows x n =
    record {
      moved = λ l i t e.
          let g = passes (DeliverCall l i) x e in
          rw (perform_here (DeliverCall l i) x g.formed g.inside g.call) (bit_moves x.preference (lock_in x l) i n t g.step);
      kept = λ a l e f. go a l (passes a x e) f (ℕ_discrete l.0 (lock_of a).0);
    }
  where
    go : (a : Call) (l : LockId) → Passes a x → (l.0 ≡ (lock_of a).0 → moves_bit a (lock_in x l) ≡ false) → Dec (l.0 ≡ (lock_of a).0)
        → (lock_in (perform a x).cluster l).decider.writer ≡ (lock_in x l).decider.writer
    go a l g f (yes q) =
        rw (q, perform_here a x g.formed g.inside g.call) (still_call x.preference a (lock_in x (lock_of a)) g.step (rw q at (f q)))
    go a l g f (no q) = rw (perform_elsewhere a x l q)
