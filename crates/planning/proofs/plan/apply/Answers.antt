use Rattle.std.proofs.Common.{rules, tests, ◌≡◌, ◌++◌, ◌∙◌}
use Rattle.model.specs.States.{wire_of}
use Rattle.laws.specs.Shapes.{packets_of, wire_whole}
use Rattle.rules.specs.Effects.{sent_by}
use Rattle.planning.specs.Plans.{left_by}
use Rattle.planning.specs.Sending.{rest_fits}
use Rattle.planning.proofs.plan.apply.Goals as goal

pub post-requires : goal.post-requires
post-requires c = rest_fits _ _ _ c.take.ensures c.requires.1

pub returns : goal.returns
returns c =
    let p = c.args.p.now in
    let w : c.post.new.w ≡ wire_of (left_by p.index c.args.s.now.wire ++ sent_by p.effect.sends) =
    wire_whole _ c.post.ensures.whole ∙ rw (c.post.ensures.sent, c.take.ensures, packets_of) in
    rw (w, c.put_agent-s.ensures, c.put_client-s.ensures) (search (rules, tests))
