use Rattle.std.proofs.Common.{◌≡◌, length, ap, subst, ◌∙◌, arith, rules}
use Rattle.std.proofs.lemmas.Result.{err_from_is_err_and}
use Rattle.ls_film.specs.Film.{most_frames}
use Rattle.ls_archive.specs.View.Indexing.{HasRun}
use Rattle.ls_archive.proofs.EntryLemmas.{some_outlined}
use Rattle.ls_archive.proofs.IndexLemmas.{HasRun-more, HasRun-most, stops-next, stops-memory, stops-line}
use Rattle.ls_archive.proofs.index.write_index.Goals as goal
use Rattle.ls_archive.proofs.index.write_index.Goals.{in-None, in-Some-2}

pub returns-in_err-indexed-clause-stops : goal.returns-in_err-indexed-clause-stops
returns-in_err-indexed-clause-stops g c =
    let p = err_from_is_err_and c.from_residual.result c.from_residual.ensures.1 in
    rw (p.1, p.2) (stops-next c.args.sums _ _ _ _ _ c.loop-number.number c.loop-number.offset c.loop-number.written _ c.loop-number.invariant.run c.in_err-indexed.ensures.stops)

pub returns-in_err-line-clause-stops : goal.returns-in_err-line-clause-stops
returns-in_err-line-clause-stops g c =
    let p = err_from_is_err_and c.from_residual-in_err-line.result c.from_residual-in_err-line.ensures.1 in
    let gave = rw c.in-Some.is at c.in_ok-indexed.ensures.entry in
    rw (p.1, p.2) (stops-memory c.args.sums _ _ _ _ _ c.loop-number.number c.loop-number.offset c.loop-number.written c.in-Some.indexed c.loop-number.invariant.run gave
    (λ is. some_outlined _ is.outline is.complete))

pub returns-in_err-written-clause-stops : goal.returns-in_err-written-clause-stops
returns-in_err-written-clause-stops g c =
    let p = err_from_is_err_and c.from_residual-in_err-written.result c.from_residual-in_err-written.ensures.1 in
    let gave = rw c.in-Some.is at c.in_ok-indexed.ensures.entry in
    let text = c.as_bytes.ensures.value ∙ c.in_ok-line.ensures.text in
    rw (p.1, p.2) (stops-line c.args.sums _ _ _ _ _ _ c.loop-number.number c.loop-number.offset c.loop-number.written c.in-Some.indexed c.as_bytes.result.now _ c.loop-number.invariant.run
    (omega arith) gave text c.in_err-written.ensures.stops)

pub loop-number-preserved : goal.loop-number-preserved
loop-number-preserved g c =
    let gave = rw c.in-Some.is at c.in_ok-indexed.ensures.entry in
    let text = c.as_bytes.ensures.value ∙ c.in_ok-line.ensures.text in
    let size = ap length c.bytes.ensures.value in
    record {
      run = rw c.in_ok-written.ensures.count
          (HasRun-more c.args.sums _ _ _ _ _ _ c.loop-number.number c.loop-number.offset c.loop-number.written (length c.bytes.result.now) c.in-Some.indexed c.as_bytes.result.now
          c.loop-number.invariant.run (omega arith) gave text c.in_ok-written.ensures.all size);
      small = omega (arith, c.loop-number.invariant.small, c.in_ok-written.ensures.count, c.in_ok-line.ensures.short, ap length c.as_bytes.ensures.value);
      bounded = omega (arith, c.loop-number.invariant.bounded, c.bytes.ensures.few);
      reads = search rules;
      writes = search rules;
    }

pub returns-in_err-next-clause-stops : goal.returns-in_err-next-clause-stops
returns-in_err-next-clause-stops g c =
    let p = err_from_is_err_and c.from_residual-in_err-next.result c.from_residual-in_err-next.ensures.1 in
    let all : c.loop-number.number ≡ most_frames = omega arith in
    let run = subst (λ n. HasRun c.args.sums (g.R.Read.remaining c.args.reader.now) (g.R.Read.remaining c.loop-number.reader)
    (g.W.Write.contents c.args.writer.now) (g.W.Write.contents c.loop-number.writer) n c.loop-number.offset c.loop-number.written) all c.loop-number.invariant.run in
    rw (p.1, p.2) (stops-next c.args.sums _ _ _ _ _ most_frames c.loop-number.offset c.loop-number.written _ run c.in_err-next.ensures.stops)

pub returns-clause-stops : goal.returns-clause-stops
returns-clause-stops g c =
    let all : c.loop-number.number ≡ most_frames = omega arith in
    let run = subst (λ n. HasRun c.args.sums (g.R.Read.remaining c.args.reader.now) (g.R.Read.remaining c.loop-number.reader)
    (g.W.Write.contents c.args.writer.now) (g.W.Write.contents c.loop-number.writer) n c.loop-number.offset c.loop-number.written) all c.loop-number.invariant.run in
    elim c.match-branch-6.branch [
      | in-None w ↦ rw w.result-is tt
      | in-Some-2 w ↦
          let gave = rw w.in-Some-2.is at c.in_ok-next.ensures.entry in
          rw w.result-is (HasRun-most c.args.sums _ _ _ _ _ c.loop-number.offset c.loop-number.written _ run gave)
    ]
