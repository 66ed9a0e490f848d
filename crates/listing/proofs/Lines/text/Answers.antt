use Rattle.std.proofs.Common.{arith, add-one, ◌≡◌, length}
use Rattle.std.proofs.Math.Seq.{take-suc, take-length}
use Rattle.listing.specs.Lines.{puts_none, puts_then}
use Rattle.listing.proofs.Lines.text.Goals as goal

pub loop-b-init : goal.loop-b-init
loop-b-init c = puts_none _

pub loop-b-preserved : goal.loop-b-preserved
loop-b-preserved c = rw (add-one, take-suc _ c.loop-b.b-index 0 c.loop-b-test.true) (puts_then _ _ c.loop-b.invariant c.byte.ensures)

pub returns : goal.returns
returns c =
    let e : c.loop-b.b-index ≡ length c.args.s.now = omega arith in
    rw (e, take-length) at c.loop-b.invariant
