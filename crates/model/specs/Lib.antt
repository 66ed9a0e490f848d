-- Everything that a reader of this project must believe, in the order of document 01, whose sections stand beside the modules. That paper says
-- bench for our cluster, record for a lock's state, place for an index, turned back for rejected, at rest for quiescent, drill for a scenario.
-- docs/protocol.md tells the same in prose.

-- the declared types under their names, and tests over lists
pub mod Names
pub mod Lists
-- "What stands on the bench"
pub mod States
pub mod WellFormed
-- "Asking and handing back", "At the decider", "At a machine"
pub mod Changes
pub mod Asking
pub mod AtDecider
pub mod AtMachine
-- "Zero and the refusals", and the calls
pub mod Refusals
pub mod Calls
-- "Draining a lock", "Runs, waits and holds"
pub mod Drain
pub mod Trace
-- "Transcripts and the desk program"
pub mod Transcripts
pub mod Listing
-- document 02, "Thirty-three places are enough"
pub mod Counts
-- "Where is my request"
pub mod Reasons
-- "How often has this packet circled"
pub mod History
