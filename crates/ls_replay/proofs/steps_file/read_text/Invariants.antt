use Rattle.std.proofs.Common.{◌≡◌, ◌+◌, ◌-◌, ◌≤◌, ◌++◌, length}
use Rattle.ls_frame.specs.View.Known.{Tells, known}
use Rattle.ls_replay.specs.View.Texts.{most_bytes}
use Rattle.ls_replay.proofs.steps_file.read_text.Given as goal

-- the text so far was given, and no read has failed
abbrev pub invariant-loop-chunk : goal.invariant-loop-chunk
invariant-loop-chunk g l = record {
  reads : g.R.Feed.failed_reads l.reader ≡ g.R.Feed.failed_reads l.fn.reader;
  few : length l.text.items ≤ most_bytes + 1;
  gave : Tells (g.R.Read.remaining l.fn.reader) → Tells (g.R.Read.remaining l.reader)
      × (known (g.R.Read.remaining l.fn.reader) ≡ l.text.items ++ known (g.R.Read.remaining l.reader));
}

abbrev pub decreases-loop-chunk : goal.decreases-loop-chunk
decreases-loop-chunk g l = most_bytes + 1 - length l.text.items
