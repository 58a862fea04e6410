use Rattle.std.proofs.Common.{◌+◌, refl, arith, rules}
use Rattle.std.proofs.lemmas.Result.{err_from_is_err_and}
use Rattle.ls_archive.proofs.ListedLemmas.{shown-none, shown-more, shown-all, stops-next, stops-image}
use Rattle.ls_archive.proofs.listed.show_listed.Goals as goal

pub loop-number-init : goal.loop-number-init
loop-number-init g c = record {
  n = 0;
  number_is = omega arith;
  run = shown-none c.args.first c.args.offset (g.I.Read.remaining c.args.index.now) (g.R.Read.remaining c.args.recording.now) (g.W.Write.contents c.args.writer.now);
  small = omega arith;
  bounded = c.requires.bounded;
  index_reads = refl;
  reads = refl;
  writes = refl;
}

pub returns-in_err-size-clause-stops : goal.returns-in_err-size-clause-stops
returns-in_err-size-clause-stops g c =
    let i = c.loop-number.invariant in
    let p = err_from_is_err_and c.from_residual.result c.from_residual.ensures.1 in
    rw (p.1, p.2) (stops-next c.args.first c.args.offset _ _ _ _ _ _ _ _ c.loop-number.number i.n c.loop-number.offset c.loop-number.written _ i.number_is i.run c.in_err-size.ensures.stops)

pub returns-in_err-written-clause-stops : goal.returns-in_err-written-clause-stops
returns-in_err-written-clause-stops g c =
    let i = c.loop-number.invariant in
    let p = err_from_is_err_and c.from_residual-in_err-written.result c.from_residual-in_err-written.ensures.1 in
    rw (p.1, p.2) (stops-image c.args.first c.args.offset _ _ _ _ _ _ _ _ _ c.loop-number.number i.n c.loop-number.offset c.loop-number.written c.in_ok-size.size c.in_ok-size.image _ i.number_is i.run
    c.in_ok-size.ensures.gives c.in_err-written.ensures.stops)

pub loop-number-preserved : goal.loop-number-preserved
loop-number-preserved g c =
    let i = c.loop-number.invariant in
    record {
      n = i.n + 1;
      number_is = omega (arith, i.number_is);
      run = rw c.in_ok-written.ensures.count
          (shown-more c.args.first c.args.offset _ _ _ _ _ _ _ _ _ c.loop-number.number i.n c.loop-number.offset c.loop-number.written c.in_ok-size.size c.in_ok-size.image i.number_is i.run
          c.in_ok-size.ensures.gives c.in_ok-written.ensures.all);
      small = omega (arith, i.small, c.in_ok-written.ensures.count, c.in_ok-written.ensures.short);
      bounded = omega (arith, i.bounded, c.in_ok-size.ensures.small);
      index_reads = search rules;
      reads = search rules;
      writes = search rules;
    }

pub returns-clause-shows : goal.returns-clause-shows
returns-clause-shows g c =
    let i = c.loop-number.invariant in
    (i.n, omega (arith, i.number_is), shown-all c.args.first c.args.offset _ _ _ _ _ _ i.n c.loop-number.offset c.loop-number.written i.run)
