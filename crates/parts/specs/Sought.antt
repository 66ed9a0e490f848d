-- What a search of a wire looks for: a packet that names the client, for refusal 6; or one of the three that are a reason for its wait.
use Rattle.std.specs.Prelude.{Bool}
use Rattle.model.specs.declared.{ClientId.ClientId, Packet.Packet}
use Rattle.model.specs.Calls.{names}
use Rattle.model.specs.Reasons.{requests, grants, grant_rejected}
use Rattle.parts.specs.declared.search.{Sought.Sought, Sought.TheVariants.{Named, Request, Grant, RejectedGrant}}

abbrev pub is_sought : Sought → ClientId → Packet → Bool
is_sought Named c p = names c p
is_sought Request c p = requests c p
is_sought Grant c p = grants c p
is_sought RejectedGrant c p = grant_rejected c p
