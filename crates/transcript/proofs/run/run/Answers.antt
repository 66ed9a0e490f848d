use Rattle.std.proofs.Common.{sym, ◌∙◌, arith, rules}
use Rattle.transcript.specs.Run.{begins_malformed, begins_long, begins_runs, listed_refused, listed_run}
use Rattle.transcript.proofs.run.run.Goals as goal

pub returns-then-not-well_formed-clause-outcome : goal.returns-then-not-well_formed-clause-outcome
returns-then-not-well_formed-clause-outcome c =
    let b = begins_malformed c.args.x c.args.bytes.now (search rules) in
    c.refuse_run.ensures.outcome ∙ (listed_refused _ _ _ b c.header.ensures.behind c.refuse_run.ensures.lines.behind).0

pub returns-then-not-well_formed-clause-lines : goal.returns-then-not-well_formed-clause-lines
returns-then-not-well_formed-clause-lines c =
    let b = begins_malformed c.args.x c.args.bytes.now (search rules) in
    let f = listed_refused _ _ _ b c.header.ensures.behind c.refuse_run.ensures.lines.behind in
    record { behind = f.1; same_buffer = c.refuse_run.ensures.lines.same_buffer ∙ c.header.ensures.same_buffer }

pub returns-then-bytes-le65535-clause-outcome : goal.returns-then-bytes-le65535-clause-outcome
returns-then-bytes-le65535-clause-outcome c =
    let b = begins_runs c.args.x c.args.bytes.now (search rules) (omega arith) in
    c.run_records.ensures.outcome ∙ (listed_run _ _ _ b c.header.ensures.behind c.run_records.ensures.lines.behind).0

pub returns-then-bytes-le65535-clause-lines : goal.returns-then-bytes-le65535-clause-lines
returns-then-bytes-le65535-clause-lines c =
    let b = begins_runs c.args.x c.args.bytes.now (search rules) (omega arith) in
    let f = listed_run _ _ _ b c.header.ensures.behind c.run_records.ensures.lines.behind in
    record { behind = f.1; same_buffer = c.run_records.ensures.lines.same_buffer ∙ c.header.ensures.same_buffer }

pub returns-else-bytes-le65535-clause-outcome : goal.returns-else-bytes-le65535-clause-outcome
returns-else-bytes-le65535-clause-outcome c =
    let b = begins_long c.args.x c.args.bytes.now (search rules) (omega arith) in
    let r = c.refuse_run-else-bytes-le65535.ensures in
    r.outcome ∙ (listed_refused _ _ _ b c.header.ensures.behind r.lines.behind).0

pub returns-else-bytes-le65535-clause-lines : goal.returns-else-bytes-le65535-clause-lines
returns-else-bytes-le65535-clause-lines c =
    let b = begins_long c.args.x c.args.bytes.now (search rules) (omega arith) in
    let r = c.refuse_run-else-bytes-le65535.ensures in
    let f = listed_refused _ _ _ b c.header.ensures.behind r.lines.behind in
    record { behind = f.1; same_buffer = r.lines.same_buffer ∙ c.header.ensures.same_buffer }
