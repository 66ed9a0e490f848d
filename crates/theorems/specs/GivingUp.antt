-- Lost grants and giving up: what each of the two calls changes, and what becomes of what a client that gave up has left (request 8 of document 02), on any
-- cluster.
use Rattle.std.specs.Prelude.{◌≡◌, ◌&&◌, ◌||◌, ◌∷◌, ◌++◌, ◌+◌, ◌≤◌, ◌<◌}
use Rattle.model.specs.Refusals.{first}
use Rattle.laws.specs.Tests.{pick_by}
use Rattle.laws.specs.Lists.{length_removed}
use Rattle.laws.specs.Formed.{parts, ready, client_of_lem, lock_formed_lem}
use Rattle.laws.specs.CallSteps.{Allowed, may_lose, may_give_up, may_deliver, perform_here, settled_answer, not_accepted, Passes, passes}
use Rattle.std.proofs.Common.{append-nil}
use Rattle.theorems.specs.Names.{LockId, MachineId, TaskId, ClientId, Mode, Agent, Address, ToDecider, ToMachine, Message, Free, Acquire, Grant, Release}
use Rattle.theorems.specs.Names.{Packet, Idle, Waiting, Unowned, ClientState, Site, LockState, Cluster, LoseCall, GiveUpCall, DeliverCall}
use Rattle.theorems.specs.Names.{Accepted, Stepped, refl, sym, ap, ◌∙◌, Bool, true, false, not, false≢true, List, [], map, ℕ}
use Rattle.theorems.specs.Names.{arith, length, get_or, set, set-get_or, leb, le-leb, lt-leb, removed, locks, machines, tasks, wire_capacity}
use Rattle.theorems.specs.Names.{client_of, agent_on, no_agent, idle, status_of, is_waiting, plain, resent, waiters, packets, lock_in, client_formed}
use Rattle.theorems.specs.Names.{well_formed}
use Rattle.theorems.specs.Names.{site_of, cannot_place, does, apply, finish, grant_of, admitted, installed, installs, grant_arrives, arrives, at_machine}
use Rattle.theorems.specs.Names.{at_decider, decides, decides_release, client_gives_up, grant_is_lost, packet_at, delivers, takes, deliver_step, give_up_step}
use Rattle.theorems.specs.Names.{drops, lose_step, is_grant}
use Rattle.theorems.specs.Names.{can_be_lost, to_decider, unless, lose, give_up, deliver, perform, and_left, and_right, wire_of}
use Rattle.theorems.specs.Statements.{written, with_agent, CanBeLost, Loses, GivesUp, StaysIdle, GoesRound, LosesAndGivesUp}

-- ---- a step that is accepted is written, and where the wire has room it is accepted
module _ (k : MachineId) (c : ClientId) (u : Site) (qs rest : List Packet) (s : LockState) where
  step_written : (finish k c (does u qs) rest s).answer ≡ Accepted → (finish k c (does u qs) rest s).state ≡ apply k c u qs rest s
  unfolding finish
  step_written e =
      pick_by (λ (t : Stepped). t.answer ≡ Accepted → t.state ≡ apply k c u qs rest s) (leb (length rest + length qs) wire_capacity)
      (λ q z. refl) (λ q z. absurd (not_accepted z)) e

  step_accepted : length rest + length qs ≤ wire_capacity → (finish k c (does u qs) rest s).answer ≡ Accepted
  unfolding finish
  step_accepted h = rw (le-leb (length rest + length qs) wire_capacity h)

-- ---- the wire of a well-formed cluster
room : (x : Cluster) (l : LockId) → well_formed x ≡ true → l.0 < locks → length (packets (lock_in x l).wire) ≤ wire_capacity
unfolding packets
room x l w h = let r = (ready _ (lock_in x l) (lock_formed_lem x l w h)).wire in omega (arith, r.size, r.short)

-- ---- what can be lost
lost_only : (p : Packet) → can_be_lost p ≡ true → (k : MachineId) × ((c : ClientId) × ((m : Mode) × CanBeLost p k c m))
unfolding can_be_lost
lost_only p e = go p.message refl p.to refl p.carried.present refl e
  where
    go : (m : Message) → p.message ≡ m → (a : Address) → p.to ≡ a → (b : Bool) → p.carried.present ≡ b → (is_grant m && (not b && not (to_decider a))) ≡ true
        → (k : MachineId) × ((c : ClientId) × ((n : Mode) × CanBeLost p k c n))
    go (Grant c m) q (ToMachine k) t false n z = (k, (c, (m, record { under_way = t; grant = q; alone = n })))
    go (Grant c m) q (ToMachine k) t true n z = absurd (false≢true z)
    go (Grant c m) q ToDecider t false n z = absurd (false≢true z)
    go (Grant c m) q ToDecider t true n z = absurd (false≢true z)
    go (Acquire c m g) q a t b n z = absurd (false≢true z)
    go (Release c) q a t b n z = absurd (false≢true z)
    go Free q a t b n z = absurd (false≢true z)

lost_always : {p : Packet} {k : MachineId} {c : ClientId} {m : Mode} → CanBeLost p k c m → can_be_lost p ≡ true
unfolding can_be_lost
lost_always h = rw (h.grant, h.alone, h.under_way)

-- ---- who is idle has no note, so writing that it is idle changes nothing
is_idle_lem : (y : ClientState) → client_formed y ≡ true → y.status ≡ Idle → idle ≡ y
unfolding client_formed
is_idle_lem y f e = go y.lost refl (rw e at f)
  where
    go : (b : Bool) → y.lost ≡ b → (not b || false) ≡ true → idle ≡ y
    go true n z = absurd (false≢true z)
    go false n z = let r : idle ≡ record { status = y.status; lost = y.lost } = rw (e, n) in r

unmoved : (s : LockState) (c : ClientId) → client_formed (get_or s.clients c.0 idle) ≡ true → status_of s c ≡ Idle → set s.clients c.0 idle ≡ s.clients
unmoved s c f e = ap (λ (y : ClientState). set s.clients c.0 y) (is_idle_lem _ f e) ∙ set-get_or s.clients c.0 idle

-- ---- A GRANT, not rejected, comes to who is idle. The Bools: an agent is here, one is carried.
module _ (pref : ℕ) (s : LockState) (i : ℕ) (k : MachineId) (c : ClientId) (m : Mode) (t : (packet_at s i).to ≡ ToMachine k)
    (q : (packet_at s i).message ≡ Grant c m) (n : (packet_at s i).rejected ≡ false) (d : status_of s c ≡ Idle) (y : set s.clients c.0 idle ≡ s.clients) where
  abbrev rest : List Packet
  rest = removed (packets s.wire) i

  abbrev inside : Agent
  inside = (packet_at s i).carried.agent

  no_place : (finish k c cannot_place rest s).answer ≡ Accepted → ⊥
  unfolding finish
  no_place e = not_accepted e

  abbrev arrival : Bool → Bool → Stepped
  arrival here b = finish k c (grant_arrives here b (site_of pref s k c) inside c m) rest s

  told : (here : Bool) → (arrival here false).answer ≡ Accepted → (arrival here false).state ≡ written s s.clients rest
  unfolding grant_arrives
  told true e = step_written _ _ _ _ _ _ e ∙ rw (d, set-get_or, y, append-nil)
  told false e = step_written _ _ _ _ _ _ e ∙ rw (d, set-get_or, y, append-nil)

  brought : (here : Bool) → (arrival here true).answer ≡ Accepted
      → (arrival here true).state ≡ with_agent s k (installed m c inside) (rest ++ map grant_of (admitted m (waiters inside.queue)))
  unfolding grant_arrives installs
  brought true e = absurd (no_place e)
  brought false e = step_written _ _ _ _ _ _ e ∙ rw (d, y)

  granted_idle : (deliver_step pref s i).answer ≡ Accepted → StaysIdle s (deliver_step pref s i).state i k c m
  unfolding deliver_step takes delivers at_machine arrives
  granted_idle e =
      record {
        told = λ b. rw (t, q, n, b) (told (agent_on s k).present (rw (t, q, n, b) at e));
        installed = λ b. rw (t, q, n, b) (brought (agent_on s k).present (rw (t, q, n, b) at e));
      }

-- ---- a packet that is sent to where it was delivered is the same again
same : (p : Packet) → p.to ≡ ToDecider → resent p ToDecider p.rejected ≡ p
same p t = ap (λ (a : Address). resent p a p.rejected) (sym t)

module _ (x : Cluster) (l : LockId) where
  abbrev s : LockState
  s = lock_in x l

  -- ---- a GRANT is lost
  loses : (i : ℕ) → Loses x l i
  unfolding perform lose first unless lose_step drops grant_is_lost
  loses i = record { only = λ e. only (passes (LoseCall l i) x e).allowed; always = always; noted = noted }
    where
      only : Allowed (LoseCall l i) s → (k : MachineId) × ((c : ClientId) × ((m : Mode) × CanBeLost (packet_at s i) k c m))
      only (may_lose h e) = lost_only (packet_at s i) e

      always : well_formed x ≡ true → l.0 < locks → i < length (packets s.wire) → (k : MachineId) (c : ClientId) (m : Mode) → CanBeLost (packet_at s i) k c m
          → (lose x l i).answer ≡ Accepted
      always w h j k c m b =
          let r : length (removed (packets s.wire) i) + 0 ≤ wire_capacity = omega (arith, room x l w h, length_removed (packets s.wire) i j) in
          rw (w, lt-leb locks l.0 h, lt-leb (length (packets s.wire)) i j, lost_always b)
          (settled_answer _ x l _ ∙ step_accepted _ _ _ [] (removed (packets s.wire) i) s r)

      noted : (c : ClientId) (m : Mode) → (packet_at s i).message ≡ Grant c m → (lose x l i).answer ≡ Accepted
          → lock_in (lose x l i).cluster l
          ≡ written s (set s.clients c.0 (record { status = status_of s c; lost = is_waiting (status_of s c) })) (removed (packets s.wire) i)
      noted c m q e =
          let g = passes (LoseCall l i) x e in
          rw (perform_here (LoseCall l i) x g.formed g.inside g.call, step_written _ _ _ _ _ _ g.step, q, set-get_or, append-nil)

  -- ---- a client gives up
  gives_up : (k : MachineId) (t : TaskId) → GivesUp x l k t
  unfolding perform give_up first unless give_up_step client_gives_up
  gives_up k t = record { only = λ e. only (passes (GiveUpCall l k t) x e).allowed; always = always; gone = gone }
    where
      only : Allowed (GiveUpCall l k t) s → (m : Mode) × (status_of s (client_of k t) ≡ Waiting m)
      only (may_give_up h j m e) = (m, e)

      always : well_formed x ≡ true → l.0 < locks → k.0 < machines → t.0 < tasks → length (packets s.wire) < wire_capacity
          → (m : Mode) → status_of s (client_of k t) ≡ Waiting m → (give_up x l k t).answer ≡ Accepted
      always w h j b r m e =
          let q : length (packets s.wire) + 1 ≤ wire_capacity = omega (arith, r) in
          rw (w, lt-leb locks l.0 h, lt-leb machines k.0 j, lt-leb tasks t.0 b, e)
          (settled_answer _ x l _ ∙ step_accepted _ _ _ (plain (Release (client_of k t)) ToDecider ∷ []) (packets s.wire) s q)

      gone : (give_up x l k t).answer ≡ Accepted
          → lock_in (give_up x l k t).cluster l
          ≡ written s (set s.clients (client_of k t).0 idle) (packets s.wire ++ plain (Release (client_of k t)) ToDecider ∷ [])
      gone e =
          let g = passes (GiveUpCall l k t) x e in
          rw (perform_here (GiveUpCall l k t) x g.formed g.inside g.call, step_written _ _ _ _ _ _ g.step, set-get_or)

  -- ---- a GRANT comes to a client that is idle
  stays_idle : (i : ℕ) (k : MachineId) (c : ClientId) (m : Mode) → (packet_at s i).to ≡ ToMachine k → (packet_at s i).message ≡ Grant c m
      → (packet_at s i).rejected ≡ false → status_of s c ≡ Idle → (deliver x l i).answer ≡ Accepted → StaysIdle s (lock_in (deliver x l i).cluster l) i k c m
  unfolding perform
  stays_idle i k c m t q n d e =
      let g = passes (DeliverCall l i) x e in
      let y = unmoved s c (client_of_lem (parts s (lock_formed_lem x l g.formed g.inside)) c.0) d in
      rw (perform_here (DeliverCall l i) x g.formed g.inside g.call) (granted_idle x.preference s i k c m t q n d y g.step)

  -- ---- a RELEASE comes to a free decider
  goes_round : (i : ℕ) (c : ClientId) → s.decider.owner ≡ Unowned → (packet_at s i).to ≡ ToDecider → (packet_at s i).message ≡ Release c → GoesRound x l i
  unfolding perform deliver first unless deliver_step takes delivers at_decider decides decides_release
  goes_round i c o t q = record { always = always; last = last }
    where
      always : well_formed x ≡ true → l.0 < locks → i < length (packets s.wire) → (deliver x l i).answer ≡ Accepted
      always w h j =
          let r : length (removed (packets s.wire) i) + 1 ≤ wire_capacity = omega (arith, room x l w h, length_removed (packets s.wire) i j) in
          rw (w, lt-leb locks l.0 h, lt-leb (length (packets s.wire)) i j)
          (settled_answer _ x l _ ∙ rw (t, q, o) (step_accepted _ _ _ _ (removed (packets s.wire) i) s r))

      last : (deliver x l i).answer ≡ Accepted
          → lock_in (deliver x l i).cluster l ≡ written s s.clients (removed (packets s.wire) i ++ packet_at s i ∷ [])
      last e =
          let g = passes (DeliverCall l i) x e in
          rw (perform_here (DeliverCall l i) x g.formed g.inside g.call, t, q, o)
          (step_written _ _ _ _ _ _ (rw (t, q, o) at g.step) ∙ rw (set-get_or, set-get_or s.clients c.0 idle, same (packet_at s i) t))

  pub loses_and_gives_up : LosesAndGivesUp x l
  loses_and_gives_up = record { loses = loses; gives_up = gives_up; stays_idle = stays_idle; goes_round = goes_round }
