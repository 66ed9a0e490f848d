-- Where writers are preferred no unmarked reader passes one in a queue (request 5 of document 02), on any cluster.
use Rattle.std.specs.Prelude.{◌≡◌, ◌++◌, ◌+◌, ◌*◌, ◌<◌}
use Rattle.laws.specs.Tests.{pick_by}
use Rattle.laws.specs.Formed.{parts, packet_at_lem, lock_formed_lem}
use Rattle.laws.specs.CallSteps.{Allowed, may_acquire, may_deliver, perform_here, not_accepted, Passes, passes}
use Rattle.theorems.specs.Names.{LockId, MachineId, TaskId, ClientId, Shared, Agent, ToMachine, Acquire, Packet, Waiting, Site, LockState, Cluster}
use Rattle.theorems.specs.Names.{AcquireCall, DeliverCall, Accepted, Stepped, ◌∙◌, true, false, and-false, List, [], ℕ, arith}
use Rattle.theorems.specs.Names.{length, get_or-set_same, leb, ltb-true, removed, machines, tasks, wire_capacity, client_of, is_shared, some_agent, no_agent}
use Rattle.theorems.specs.Names.{agent_on, packets, lock_in, site_of, with_slot, with_status, Verdict, does, apply, finish, queuing, no_room, with_room}
use Rattle.theorems.specs.Names.{writer_in, may_join, client_asks, client_acquires, unmarked, acquire_arrives, arrives, at_machine, packet_at, delivers}
use Rattle.theorems.specs.Names.{acquire_step, takes, deliver_step, acquire, deliver, perform, waiters_of, packets_of}
use Rattle.std.proofs.Common.{append-nil}
use Rattle.std.specs.Prelude.{◌/◌}
use Rattle.theorems.specs.Statements.{StandsBehind, NotPassed, WritersFirst}

-- ---- a request that an agent queues
module _ (s : LockState) (k : MachineId) (c : ClientId) (rest : List Packet) (kk : k.0 < length s.agents) where
  abbrev a : Agent
  a = (agent_on s k).agent

  module _ (v : Site) where
    abbrev queued : Site
    queued = with_slot v (some_agent (queuing a c Shared))

    stands : StandsBehind s (apply k c queued [] rest s) k c rest
    stands =
        let e = get_or-set_same s.agents k.0 queued.slot no_agent kk in
        record { there = rw e; holders = rw e; queue = rw (e, waiters_of _); wire = packets_of (rest ++ []) ∙ append-nil rest }

    -- where it has no room, or the wire has none, the step is refused
    queues : (finish k c (with_room a c (does queued [])) rest s).answer ≡ Accepted
        → StandsBehind s (finish k c (with_room a c (does queued [])) rest s).state k c rest
    unfolding finish
    queues e =
        pick_by (λ (w : Verdict). (finish k c w rest s).answer ≡ Accepted → StandsBehind s (finish k c w rest s).state k c rest) (no_room a c)
        (λ q z. absurd (not_accepted z)) (λ q z. by_wire z) e
      where
        by_wire : (finish k c (does queued []) rest s).answer ≡ Accepted → StandsBehind s (finish k c (does queued []) rest s).state k c rest
        by_wire e =
            pick_by (λ (t : Stepped). t.answer ≡ Accepted → StandsBehind s t.state k c rest) (leb (length rest + 0) wire_capacity)
            (λ q z. stands) (λ q z. absurd (not_accepted z)) e

-- ---- and one that is not let in: where writers are preferred and one waits
not_joined : (v : Site) → v.preference ≡ 1 → writer_in v.slot.agent ≡ true → may_join v Shared ≡ false
unfolding may_join
not_joined v n w = rw (n, w) (and-false (is_shared v.slot.agent.mode))

module _ (x : Cluster) (l : LockId) (k : MachineId) (n : x.preference ≡ 1) (here : (agent_on (lock_in x l) k).present ≡ true)
    (writer : writer_in (agent_on (lock_in x l) k).agent ≡ true) where
  abbrev s : LockState
  s = lock_in x l

  arriving_stands : (i : ℕ) (c : ClientId) → (packet_at s i).to ≡ ToMachine k → (packet_at s i).message ≡ Acquire c Shared false
      → (deliver x l i).answer ≡ Accepted → StandsBehind s (lock_in (deliver x l i).cluster l) k c (removed (packets s.wire) i)
  unfolding perform deliver_step takes delivers at_machine arrives acquire_arrives unmarked
  arriving_stands i c t m e = go g.allowed
    where
      g : Passes (DeliverCall l i) x
      g = passes (DeliverCall l i) x e

      v : Site
      v = site_of x.preference s k c

      go : Allowed (DeliverCall l i) s → StandsBehind s (lock_in (deliver x l i).cluster l) k c (removed (packets s.wire) i)
      go (may_deliver h) =
          let p = parts s (lock_formed_lem x l g.formed g.inside) in
          let kk : k.0 < machines = ltb-true k.0 machines (rw t at (packet_at_lem p i h).address) in
          rw (perform_here (DeliverCall l i) x g.formed g.inside g.call)
          (rw (t, m, here, not_joined v n writer) (queues s k c (removed (packets s.wire) i) (omega (arith, p.all_machines)) v
          (rw (t, m, here, not_joined v n writer) at g.step)))

  own_stands : (t : TaskId) → (acquire x l k t 3).answer ≡ Accepted
      → StandsBehind s (lock_in (acquire x l k t 3).cluster l) k (client_of k t) (packets s.wire)
  unfolding perform acquire_step client_acquires client_asks
  own_stands t e = go g.allowed
    where
      g : Passes (AcquireCall l k t 3) x
      g = passes (AcquireCall l k t 3) x e

      go : Allowed (AcquireCall l k t 3) s → StandsBehind s (lock_in (acquire x l k t 3).cluster l) k (client_of k t) (packets s.wire)
      go (may_acquire kb tb m id un) =
          let c : ClientId = client_of k t in
          let v : Site = site_of x.preference s k c in
          let p = parts s (lock_formed_lem x l g.formed g.inside) in
          let home : (tasks * k.0 + t.0) / tasks ≡ k.0 = omega arith in
          rw (perform_here (AcquireCall l k t 3) x g.formed g.inside g.call)
          (rw (home, here, not_joined v n writer) (queues s k c (packets s.wire) (omega (arith, p.all_machines)) (with_status v (Waiting Shared))
          (rw (home, here, not_joined v n writer) at g.step)))

pub writers_first : (x : Cluster) → WritersFirst x
writers_first x n l k here writer = record { arriving = arriving_stands x l k n here writer; own = own_stands x l k n here writer }
