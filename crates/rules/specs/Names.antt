-- The model's declared types and their constructors: a facade passes on no `pub use`, so each crate has this list.
pub use Rattle.model.specs.declared.{ClientId.ClientId, Waiter.Waiter, Queue.Queue, Agent.Agent}
pub use Rattle.model.specs.declared.{Address.TheVariants.{Decider as ToDecider}, Message.TheVariants.{Free, Grant}, Packet.Packet}
