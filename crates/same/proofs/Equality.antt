-- The derived == of each type of the model decides whether two of its values are the same.
use Rattle.std.specs.Prelude.{◌≡◌, List}
use Rattle.std.specs.Bool.{Decides}
use Rattle.std.specs.Cmp.{booleans_Decides}
use Rattle.std.specs.Cmp.Lexicographic.{pointwise, pointwise_decides}
use Rattle.std.proofs.Common.{arith}
use Rattle.std.proofs.lemmas.Grind.{common_steps}
use Rattle.std.proofs.lemmas.Bool.Decides.{Decides-eqb}
use Rattle.model.specs.declared.{Mode.Mode, Owner.Owner, Decider.Decider, Waiter.Waiter, Queue.Queue, Agent.Agent, AgentSlot.AgentSlot, Address.Address}
use Rattle.model.specs.declared.{Message.Message, Packet.Packet, Wire.Wire, Status.Status, ClientState.ClientState, LockState.LockState, Cluster.Cluster}
use Rattle.model.specs.contracts.ModePartialEq.TheImpl as mode
use Rattle.model.specs.contracts.OwnerPartialEq.TheImpl as owner
use Rattle.model.specs.contracts.DeciderPartialEq.TheImpl as decider
use Rattle.model.specs.contracts.WaiterPartialEq.TheImpl as waiter
use Rattle.model.specs.contracts.QueuePartialEq.TheImpl as queue
use Rattle.model.specs.contracts.AgentPartialEq.TheImpl as agent
use Rattle.model.specs.contracts.AgentSlotPartialEq.TheImpl as slot
use Rattle.model.specs.contracts.AddressPartialEq.TheImpl as address
use Rattle.model.specs.contracts.MessagePartialEq.TheImpl as message
use Rattle.model.specs.contracts.PacketPartialEq.TheImpl as packet
use Rattle.model.specs.contracts.WirePartialEq.TheImpl as wire
use Rattle.model.specs.contracts.StatusPartialEq.TheImpl as status
use Rattle.model.specs.contracts.ClientStatePartialEq.TheImpl as client
use Rattle.model.specs.contracts.LockStatePartialEq.TheImpl as lock
use Rattle.model.specs.contracts.ClusterPartialEq.TheImpl as cluster

modes : (x y : Mode) → Decides (mode.ghosts.eq x y) (x ≡ y)
modes x y = grind (arith, common_steps)

owners : (x y : Owner) → Decides (owner.ghosts.eq x y) (x ≡ y)
owners x y = grind (arith, common_steps, Decides-eqb, modes)

pub deciders : (x y : Decider) → Decides (decider.ghosts.eq x y) (x ≡ y)
deciders x y = grind (arith, common_steps, Decides-eqb, booleans_Decides, owners)

waiters : (x y : Waiter) → Decides (waiter.ghosts.eq x y) (x ≡ y)
waiters x y = grind (arith, common_steps, Decides-eqb, modes)

queues : (x y : Queue) → Decides (queue.ghosts.eq x y) (x ≡ y)
queues x y = grind (arith, common_steps, Decides-eqb, pointwise_decides waiters x.slots y.slots)

agents : (x y : Agent) → Decides (agent.ghosts.eq x y) (x ≡ y)
agents x y = grind (arith, common_steps, Decides-eqb, modes, pointwise_decides booleans_Decides x.holders y.holders, queues)

pub slots : (x y : AgentSlot) → Decides (slot.ghosts.eq x y) (x ≡ y)
slots x y = grind (arith, common_steps, booleans_Decides, agents)

pub machines : (xs ys : List AgentSlot) → Decides (pointwise (slot.ghosts.eq) xs ys) (xs ≡ ys)
machines = pointwise_decides slots

pub addresses : (x y : Address) → Decides (address.ghosts.eq x y) (x ≡ y)
addresses x y = grind (arith, common_steps, Decides-eqb)

messages : (x y : Message) → Decides (message.ghosts.eq x y) (x ≡ y)
messages x y = grind (arith, common_steps, Decides-eqb, booleans_Decides, modes)

packets : (x y : Packet) → Decides (packet.ghosts.eq x y) (x ≡ y)
packets x y = grind (arith, common_steps, Decides-eqb, booleans_Decides, messages, addresses, slots)

wires : (x y : Wire) → Decides (wire.ghosts.eq x y) (x ≡ y)
wires x y = grind (arith, common_steps, Decides-eqb, pointwise_decides packets x.slots y.slots)

statuses : (x y : Status) → Decides (status.ghosts.eq x y) (x ≡ y)
statuses x y = grind (arith, common_steps, modes)

clients : (x y : ClientState) → Decides (client.ghosts.eq x y) (x ≡ y)
clients x y = grind (arith, common_steps, booleans_Decides, statuses)

locks : (x y : LockState) → Decides (lock.ghosts.eq x y) (x ≡ y)
locks x y = grind (arith, common_steps, wires, deciders, pointwise_decides slots x.agents y.agents, pointwise_decides clients x.clients y.clients)

pub clusters : (x y : Cluster) → Decides (cluster.ghosts.eq x y) (x ≡ y)
clusters x y = grind (arith, common_steps, Decides-eqb, pointwise_decides locks x.locks y.locks)
