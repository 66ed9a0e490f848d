-- A marked ACQUIRE at the decider, whoever owns the lock.
use Rattle.std.specs.Prelude.{◌≡◌, true, refl}
use Rattle.model.specs.declared.{ClientId.ClientId, Mode.Mode, Owner.Owner, Owner.TheVariants.{Free as Unowned, Owned}, Packet.Packet, Site.Site}
use Rattle.model.specs.AtDecider.{to_owner, decides_acquire}

pub marked_sent : (o : Owner) (v : Site) (p : Packet) (c : ClientId) (m : Mode) → decides_acquire o v p c m true ≡ to_owner o v p
unfolding decides_acquire
marked_sent Unowned v p c m = refl
marked_sent (Owned n k) v p c m = refl
