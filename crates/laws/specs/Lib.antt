-- Laws of the model's definitions, for the engine's proofs and the theorems alike.
pub mod Names
pub mod Tests
pub mod Lists
pub mod Finding
pub mod Shapes
pub mod Formed
pub mod Making
pub mod Parting
pub mod FormedStep
pub mod CallSteps
pub mod Clusters
pub mod Next
pub mod Records
