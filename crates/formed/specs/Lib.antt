-- Laws of the passes over queues and wires.
pub mod Laws
