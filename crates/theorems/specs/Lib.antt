-- Why the model is right: the invariant of a lock's state, that every call keeps it, and what follows for every list of calls. A reader
-- starts at Statements, then Weights and Invariant; Scenarios and Bounds show the definitions at work; the rest are proofs.
pub mod Names
-- ---- the definitions at work: scenarios, the bounds of well-formedness, what the contracts rule out
pub mod Scenarios
pub mod Figures
pub mod Questions
pub mod Bounds
pub mod RuledOut
-- ---- the invariant
pub mod Tally
pub mod Weights
pub mod Invariant
-- ---- what a step has to show, and what the invariant gives
pub mod InvariantStep
pub mod Facts
pub mod Fresh
pub mod Accepting
-- ---- the rules
pub mod Sent
pub mod AtDecider
pub mod Waiters
pub mod Leaving
pub mod Install
pub mod AtMachine
pub mod Clients
pub mod Steps
-- ---- lists of calls
pub mod Exclusion
pub mod Runs
pub mod Traced
pub mod Statements
pub mod Theorems
pub mod Listings
-- ---- the drain: its bound, and how it ends
pub mod StepsLeft
pub mod Requests
pub mod StepsFall
pub mod Quiescence
pub mod Drains
-- ---- the counts that can be made on the screen
pub mod Counts
-- ---- why a client waits
pub mod ReasonWeights
pub mod ReasonOrder
pub mod Reasons
-- ---- first come, first served
pub mod FirstCome
-- ---- why a request came back
pub mod Handlings
pub mod TakenRequests
-- ---- what a cluster prefers, and writers first
pub mod Preferences
pub mod WritersFirst
pub mod DeciderBit
-- ---- which packet an acquire is refused for
pub mod Naming
-- ---- how often a packet has circled
pub mod Circling
-- ---- no answer goes by a count
pub mod Mapped
pub mod Uncircled
-- ---- lost grants and giving up, and what is left of who gave up
pub mod GivingUp
pub mod Remains
