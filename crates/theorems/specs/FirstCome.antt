-- First come, first served: who leaves a queue when its agent is installed (request 3 of document 02), on any cluster.
use Rattle.std.specs.Prelude.{◌≡◌, ◌&&◌, ◌∷◌, ◌++◌, ◌+◌, ◌<◌}
use Rattle.model.specs.AtMachine.{may_leave}
use Rattle.laws.specs.Tests.{pick_by}
use Rattle.laws.specs.Formed.{parts, packet_at_lem, lock_formed_lem}
use Rattle.laws.specs.CallSteps.{Allowed, may_deliver, perform_here, not_accepted, Passes, passes}
use Rattle.theorems.specs.Names.{granted_in, status_of, LockId, MachineId, ClientId, Mode, Exclusive, Shared, Waiter, Agent, ToMachine, Grant, Packet}
use Rattle.theorems.specs.Names.{LockState, Cluster, DeliverCall, Accepted, Stepped, refl, ap, Bool, true, false, not, true≢false, List, []}
use Rattle.theorems.specs.Names.{map, ℕ, arith, length, get_or-set_same, leb, ltb-true, all, removed, is_shared, waiters, some_agent}
use Rattle.theorems.specs.Names.{no_agent, agent_on, carrying, packets, lock_in, site_of, with_slot, with_status, apply, finish, grant_of, admitted, staying}
use Rattle.theorems.specs.Names.{installed, installs, grant_arrives, arrives, at_machine, packet_at, delivers, takes, deliver_step, deliver, perform}
use Rattle.theorems.specs.Names.{and_right, both, bool_cases, waiters_of, packets_of, none_leaves, machines, wire_capacity}
use Rattle.std.specs.Prelude.{take}
use Rattle.theorems.specs.Statements.{FirstCome, FirstServed}

-- ---- of a queue
module _ (m : Mode) where
  in_order : (ws : List Waiter) → ws ≡ admitted m ws ++ staying m ws
  unfolding admitted staying
  in_order [] = refl
  in_order (w ∷ ws) = bool_cases (may_leave m w) (λ e. rw e (ap (λ (vs : List Waiter). w ∷ vs) (in_order ws))) (λ e. rw e refl)

  all_shared : (ws : List Waiter) → all (λ (w : Waiter). is_shared w.mode) (admitted m ws) ≡ true
  unfolding admitted
  all_shared [] = refl
  all_shared (w ∷ ws) = bool_cases (may_leave m w) (λ e. rw e (both _ _ (and_right (is_shared m) _ e) (all_shared ws))) (λ e. rw e refl)

  barred : (ws : List Waiter) → all (λ (w : Waiter). not (may_leave m w)) (take 1 (staying m ws)) ≡ true
  unfolding staying
  barred [] = refl
  barred (w ∷ ws) = bool_cases (may_leave m w) (λ e. rw e (barred ws)) (λ e. rw e (ap (λ (b : Bool). not b && true) e))

-- ---- of a delivery
module _ (pref : ℕ) (s : LockState) (i : ℕ) (k : MachineId) (c : ClientId) (m : Mode) (a : Agent)
    (brings : packet_at s i ≡ carrying (Grant c m) (ToMachine k) a) where
  abbrev rest : List Packet
  rest = removed (packets s.wire) i

  abbrev line : List Waiter
  line = waiters a.queue

  alone : is_shared m ≡ false → admitted m line ≡ []
  alone e = go m e
    where
      go : (n : Mode) → is_shared n ≡ false → admitted n line ≡ []
      go Exclusive e = (none_leaves line).0
      go Shared e = absurd (true≢false e)

  abbrev sent : List Packet
  sent = map grant_of (admitted m line)

  abbrev then : LockState
  then = apply k c (with_slot (with_status (site_of pref s k c) (granted_in m (status_of s c))) (some_agent (installed m c a))) sent rest s

  installed_so : k.0 < length s.agents → FirstCome s then i k m a
  installed_so h =
      let e = get_or-set_same s.agents k.0 (some_agent (installed m c a)) no_agent h in
      record {
        left = admitted m line;
        ahead = rw (e, waiters_of (staying m line)) (in_order m line);
        shared = all_shared m line;
        alone = alone;
        barred = rw (e, waiters_of (staying m line)) (barred m line);
        granted = packets_of _;
      }

  -- where there was one already, or the wire has no room, the step is refused
  delivered_so : k.0 < length s.agents → (deliver_step pref s i).answer ≡ Accepted → FirstCome s (deliver_step pref s i).state i k m a
  unfolding deliver_step takes delivers at_machine arrives grant_arrives installs finish
  delivered_so h e = rw brings (go (agent_on s k).present (rw brings at e))
    where
      go : (here : Bool) → (finish k c (grant_arrives here true (site_of pref s k c) a c m) rest s).answer ≡ Accepted
          → FirstCome s (finish k c (grant_arrives here true (site_of pref s k c) a c m) rest s).state i k m a
      go true e = absurd (not_accepted e)
      go false e =
          pick_by (λ (t : Stepped). t.answer ≡ Accepted → FirstCome s t.state i k m a) (leb (length rest + length sent) wire_capacity)
          (λ q z. installed_so h) (λ q z. absurd (not_accepted z)) e

-- ---- of a call
pub first_come : (x : Cluster) (l : LockId) (i : ℕ) → FirstServed x l i
unfolding perform
first_come x l i k c m a brings e = go g.allowed
  where
    g : Passes (DeliverCall l i) x
    g = passes (DeliverCall l i) x e

    go : Allowed (DeliverCall l i) (lock_in x l) → FirstCome (lock_in x l) (lock_in (deliver x l i).cluster l) i k m a
    go (may_deliver h) =
        let s : LockState = lock_in x l in
        let p = parts s (lock_formed_lem x l g.formed g.inside) in
        let kk : k.0 < machines = ltb-true k.0 machines (rw brings at (packet_at_lem p i h).address) in
        rw (perform_here (DeliverCall l i) x g.formed g.inside g.call)
        (delivered_so x.preference s i k c m a brings (omega (arith, p.all_machines)) g.step)
