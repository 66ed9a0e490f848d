use Rattle.std.proofs.Common.{sym}
use Rattle.model.specs.Names.{Nowhere, At}
use Rattle.model.specs.States.{packets}
use Rattle.model.specs.Reasons.{requests, grants, grant_rejected}
use Rattle.laws.specs.Finding.{first_is}
use Rattle.reasons.specs.Searching.{by_kind}
use Rattle.reasons.proofs.first_true.Goals as goal

-- what each search came to, joined with its contract, in the order of the kinds
pub returns-in-Some : goal.returns-in-Some
returns-in-Some c =
    let asked = first_is _ _ (At c.in-Some.index) c.in-Some.ensures in
    rw (by_kind _ _, sym asked)

pub returns-in-Some-first_packet : goal.returns-in-Some-first_packet
returns-in-Some-first_packet c =
    let ps = packets c.args.s.now.wire in
    let asked = first_is (requests c.args.c) ps Nowhere c.in_default.ensures in
    let granted = first_is _ _ (At c.in-Some-first_packet.index) c.in-Some-first_packet.ensures in
    rw (by_kind _ _, sym asked, sym granted)

pub returns-in-Some-first_packet-2 : goal.returns-in-Some-first_packet-2
returns-in-Some-first_packet-2 c =
    let ps = packets c.args.s.now.wire in
    let asked = first_is (requests c.args.c) ps Nowhere c.in_default.ensures in
    let granted = first_is (grants c.args.c) ps Nowhere c.in_default-first_packet.ensures in
    let rejected = first_is _ _ (At c.in-Some-first_packet-2.index) c.in-Some-first_packet-2.ensures in
    rw (by_kind _ _, sym asked, sym granted, sym rejected)

pub returns : goal.returns
returns c =
    let ps = packets c.args.s.now.wire in
    let asked = first_is (requests c.args.c) ps Nowhere c.in_default.ensures in
    let granted = first_is (grants c.args.c) ps Nowhere c.in_default-first_packet.ensures in
    let rejected = first_is (grant_rejected c.args.c) ps Nowhere c.in_default-first_packet-2.ensures in
    rw (by_kind _ _, sym asked, sym granted, sym rejected) c.first_in_state.ensures
