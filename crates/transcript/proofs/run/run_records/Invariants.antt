use Rattle.std.proofs.Common.{◌≡◌, ◌-◌, length}
use Rattle.listing.specs.Lines.{lines_in}
use Rattle.transcript.specs.Run.{Progress}
use Rattle.transcript.proofs.run.run_records.Given as goal

-- the rest of the run is the whole run, and the rest of the lines, put behind those that are there, are all lines
abbrev pub invariant-loop-call : goal.invariant-loop-call
invariant-loop-call l = record {
  progress : Progress l.bytes l.initial.cluster (lines_in l.initial.lines) l.at l.records l.handling l.cluster (lines_in l.lines);
  same_buffer : l.lines.out.ghost_name ≡ l.initial.lines.out.ghost_name;
}

abbrev pub decreases-loop-call : goal.decreases-loop-call
decreases-loop-call l = length l.bytes - l.at
