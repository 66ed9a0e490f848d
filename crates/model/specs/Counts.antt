-- What can be counted in a lock's state as it stands on the screen (document 02, "Thirty-three places are enough").
use Rattle.std.specs.Prelude.{Bool, false, ℕ, ◌+◌, ◌-◌, ◌%◌}
use Rattle.model.specs.Lists.{count}
use Rattle.model.specs.Names.{Decider, Agent, AgentSlot, Message, Free, Acquire, Grant, Release, Packet, LockState}
use Rattle.model.specs.States.{packets}

-- the agents: on machines, and in packets
abbrev pub agents_in : LockState → ℕ
agents_in s = count (λ (x : AgentSlot). x.present) s.agents + count (λ (p : Packet). p.carried.present) (packets s.wire)

-- the marked ACQUIREs on the wire
abbrev pub is_marked : Message → Bool
is_marked (Acquire c m g) = g
is_marked (Grant c m) = false
is_marked (Release c) = false
is_marked Free = false

abbrev pub marks_in : LockState → ℕ
marks_in s = count (λ (p : Packet). is_marked p.message) (packets s.wire)

-- The decider's incarnation less the agent's, in eight bits: the grants that the decider has counted and the agent has not.
abbrev pub uncounted : Decider → Agent → ℕ
uncounted d a = (d.incarnation + 256 - a.incarnation) % 256
