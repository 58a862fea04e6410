use Rattle.std.proofs.Common.{◌≡◌, ◌+◌, inl, [], ◌∷◌, ◌++◌, length, sym, ap, subst, arith, rules}
use Rattle.std.proofs.lemmas.List.{length_push}
use Rattle.ls_archive.specs.View.Batches.{Place, line_of, IsTaken}
use Rattle.ls_archive.proofs.BatchLemmas.{taken-more}
use Rattle.ls_archive.proofs.CheckLemmas.{had-line}
use Rattle.ls_archive.proofs.checking.batches.take.Goals as goal

pub loop-number-preserved : goal.loop-number-preserved
loop-number-preserved g c =
    let i = c.loop-number.invariant in
    let job = c.in-Ok.job in
    let index = g.I.Read.remaining c.next_job.new.index in
    let recording = g.R.Read.remaining c.next_job.new.recording in
    let start : Place = record { index = g.I.Read.remaining c.args.index.now; recording = g.R.Read.remaining c.args.recording.now; number = c.args.so_far.number; offset = c.args.so_far.offset } in
    let mid : Place = record { index = g.I.Read.remaining c.loop-number.index; recording = g.R.Read.remaining c.loop-number.recording; number = c.loop-number.number; offset = c.loop-number.offset } in
    let next : Place = record { index = index; recording = recording; number = c.loop-number.number + 1; offset = c.loop-number.offset + c.from-offset.result } in
    let taken = c.in-Ok.ensures.taken in
    let is : IsTaken mid next job =
    subst (λ size. IsTaken mid (record { index = index; recording = recording; number = c.loop-number.number + 1; offset = c.loop-number.offset + size }) job) (sym c.from-offset.ensures) taken in
    let pushed : c.push.new.self.items ≡ c.loop-number.jobs.items ++ job ∷ [] = search rules in
    record {
      taken = rw pushed (taken-more start mid next c.loop-number.jobs.items job i.taken is);
      len = omega (arith, i.len, ap length pushed, length_push c.loop-number.jobs.items job);
      bounded = omega (arith, i.bounded, c.from-offset.ensures, taken.is.few);
      index_reads = search rules;
      reads = search rules;
    }

pub returns-in-Err-clause-batch : goal.returns-in-Err-clause-batch
returns-in-Err-clause-batch g c = record {
  mid = _;
  taken = c.loop-number.invariant.taken;
  after = c.in-Err.ensures.after;
}

pub returns-then-is_err-clause-batch : goal.returns-then-is_err-clause-batch
returns-then-is_err-clause-batch g c =
    let taken = c.in-Ok.ensures.taken in
    let unpushed : c.push.new.self.items ≡ c.loop-number.jobs.items = search rules in
    let mid : Place = record { index = g.I.Read.remaining c.loop-number.index; recording = g.R.Read.remaining c.loop-number.recording; number = c.loop-number.number; offset = c.loop-number.offset } in
    record {
      mid = mid;
      taken = rw unpushed c.loop-number.invariant.taken;
      after = inl (had-line mid.index (g.I.Read.remaining c.next_job.new.index) mid.number mid.offset (line_of c.in-Ok.job.line) taken.is taken.gave, tt);
    }
