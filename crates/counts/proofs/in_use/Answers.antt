use Rattle.std.proofs.Common.{◌≡◌, arith, length, min}
use Rattle.std.proofs.lemmas.List.{take_min}
use Rattle.counts.proofs.in_use.Goals as goal

pub returns-clause-same : goal.returns-clause-same
returns-clause-same c =
    let all : c.used.result ≡ min c.args.len (length c.args.a.now) = omega (arith, c.used.ensures, c.told-a) in
    rw all (take_min c.args.len c.args.a.now)
