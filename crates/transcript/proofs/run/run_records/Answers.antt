use Rattle.std.proofs.Common.{sym, ◌∙◌, arith}
use Rattle.laws.specs.Records.{record_ends}
use Rattle.transcript.specs.Run.{progress_on, progress_bad, progress_end}
use Rattle.transcript.proofs.run.run_records.Goals as goal

pub loop-call-smaller : goal.loop-call-smaller
loop-call-smaller c = omega (arith, record_ends _ _ _ _ (sym c.read_at.ensures ∙ c.in-Record.is))

pub loop-call-preserved : goal.loop-call-preserved
loop-call-preserved c =
    let p = c.line.ensures in
    let i = c.loop-call.invariant in
    record {
      progress = progress_on i.progress _ _ _ _ (sym c.read_at.ensures ∙ c.in-Record.is) c.make-answer.ensures (rw (← c.kind.ensures) p.behind);
      same_buffer = p.same_buffer ∙ i.same_buffer;
    }

pub returns-in-Bad-clause-outcome : goal.returns-in-Bad-clause-outcome
returns-in-Bad-clause-outcome c =
    (progress_bad c.loop-call.invariant.progress (sym c.read_at.ensures ∙ c.in-Bad.is) c.refused.ensures.behind).0

pub returns-in-Bad-clause-lines : goal.returns-in-Bad-clause-lines
returns-in-Bad-clause-lines c =
    let i = c.loop-call.invariant in
    let f = progress_bad i.progress (sym c.read_at.ensures ∙ c.in-Bad.is) c.refused.ensures.behind in
    record { behind = f.1; same_buffer = c.refused.ensures.same_buffer ∙ i.same_buffer }

pub returns-in-End-clause-outcome : goal.returns-in-End-clause-outcome
returns-in-End-clause-outcome c = (progress_end c.loop-call.invariant.progress (sym c.read_at.ensures ∙ c.in-End.is)).0

pub returns-in-End-clause-lines : goal.returns-in-End-clause-lines
returns-in-End-clause-lines c =
    let i = c.loop-call.invariant in
    record { behind = (progress_end i.progress (sym c.read_at.ensures ∙ c.in-End.is)).1; same_buffer = i.same_buffer }
