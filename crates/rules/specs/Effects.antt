-- What the code's effect means.
use Rattle.std.specs.Prelude.{List, [], ◌∷◌, map, Option, Some, None}
use Rattle.rules.specs.declared.effect.Sends.{Sends}
use Rattle.rules.specs.declared.effect.Sends.TheVariants.{Nothing, One, Two, Grants}
use Rattle.rules.specs.declared.effect.Effect.{Effect}
use Rattle.rules.specs.Names.{Packet}
use Rattle.model.specs.States.{waiters}
use Rattle.model.specs.Changes.{Verdict, cannot_place, does}
use Rattle.model.specs.AtMachine.{grant_of}

-- the packets sent, in their order
abbrev pub sent_by : Sends → List Packet
sent_by Nothing = []
sent_by (One p) = p ∷ []
sent_by (Two p q) = p ∷ q ∷ []
sent_by (Grants q) = map grant_of (waiters q)

abbrev pub verdict_of : Option Effect → Verdict
verdict_of (Some e) = does e.site (sent_by e.sends)
verdict_of None = cannot_place
