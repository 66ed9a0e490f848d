use Rattle.std.proofs.Common.{arith, length, ◌<◌}
use Rattle.model.specs.States.{packets}
use Rattle.laws.specs.Shapes.{length_packets}
use Rattle.planning.proofs.steps.plan_deliver.Goals as goal

pub deliver-requires : goal.deliver-requires
deliver-requires c =
    let w = c.args.s.now.wire in
    let n : c.args.i < length (packets w) = omega (arith, length_packets w c.requires.0.wire, c.requires.1) in
    (rw c.site_about-v.ensures (c.requires.0.agents _), rw c.packet_at-p.ensures (c.requires.0.carried c.args.i n))
