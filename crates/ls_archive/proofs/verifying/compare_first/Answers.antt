use Rattle.std.proofs.Common.{◌≡◌, subst, arith, rules, refl}
use Rattle.std.proofs.lemmas.Result.{err_from_is_err_and}
use Rattle.ls_archive.specs.View.Verifying.{HaveRun}
use Rattle.ls_archive.proofs.VerifyLemmas.{HaveRun-none, run-more, run-ends, run-stops, run-fails, number-below, number-at}
use Rattle.ls_archive.proofs.verifying.compare_first.Goals as goal

pub loop-number-init : goal.loop-number-init
loop-number-init g c = record {
  run = λ begun stands. (begun, stands, HaveRun-none (g.F.Read.remaining c.args.film.now) begun);
  few = omega arith;
  film_reads = refl;
  recording_reads = λ failed is. is;
}

pub returns-in-Some-clause-finds : goal.returns-in-Some-clause-finds
returns-in-Some-clause-finds g c = λ begun stands.
    let i = c.loop-number.invariant.run begun stands in
    let has = rw c.in-Some.is at (c.in_ok-compared.ensures.compared i.0 i.1) in (
      has.0,
      run-ends (g.F.Read.remaining c.args.film.now) (g.F.Read.remaining c.loop-number.film) (g.F.Read.remaining c.compare.new.film)
          begun i.0 has.0 c.loop-number.number i.2 c.in-Some.verdict has.1,
      has.3,
    )

pub returns-in-Some-clause-before : goal.returns-in-Some-clause-before
returns-in-Some-clause-before g c =
    let same = rw c.in-Some.is at c.in_ok-compared.ensures.number in
    number-at _ _ _ same (omega arith)

pub loop-number-preserved : goal.loop-number-preserved
loop-number-preserved g c = record {
  run = λ begun stands.
      let i = c.loop-number.invariant.run begun stands in
      let has = rw c.in_default.is at (c.in_ok-compared.ensures.compared i.0 i.1) in (
        has.0,
        has.2 refl,
        run-more (g.F.Read.remaining c.args.film.now) (g.F.Read.remaining c.loop-number.film) (g.F.Read.remaining c.compare.new.film)
            begun i.0 has.0 c.loop-number.number i.2 (omega (arith, c.requires.few)) has.1,
      );
  few = omega (arith, c.loop-number.invariant.few);
  film_reads = search rules;
  recording_reads = λ failed is. c.in_ok-compared.ensures.recording_reads failed (c.loop-number.invariant.recording_reads failed is);
}

pub returns-clause-same : goal.returns-clause-same
returns-clause-same g c = λ begun stands.
    let i = c.loop-number.invariant.run begun stands in
    let all : c.loop-number.number ≡ c.args.most = omega (arith, c.loop-number.invariant.few) in
    (i.0, i.1, subst (λ n. HaveRun (g.F.Read.remaining c.args.film.now) (g.F.Read.remaining c.loop-number.film) begun i.0 n) all i.2)

pub returns-in_err-compared-clause-stops : goal.returns-in_err-compared-clause-stops
returns-in_err-compared-clause-stops g c = λ begun stands.
    let p = err_from_is_err_and c.from_residual.result c.from_residual.ensures.1 in
    let i = c.loop-number.invariant.run begun stands in
    rw (p.1, p.2)
    (run-stops (g.F.Read.remaining c.args.film.now) (g.F.Read.remaining c.loop-number.film) (g.F.Read.remaining c.compare.new.film)
    begun i.0 (g.R.Read.remaining c.compare.new.recording)
    c.loop-number.number i.2 _ (c.in_err-compared.ensures.stops i.0 i.1))

pub returns-in_err-compared-clause-io : goal.returns-in_err-compared-clause-io
returns-in_err-compared-clause-io g c = λ begun stands.
    let p = err_from_is_err_and c.from_residual.result c.from_residual.ensures.1 in
    let i = c.loop-number.invariant.run begun stands in
    rw (p.1, p.2)
    (run-fails (g.F.Read.remaining c.args.film.now) (g.F.Read.remaining c.loop-number.film) begun i.0 (g.R.Read.remaining c.compare.new.recording)
    c.loop-number.number i.2 _ (c.in_err-compared.ensures.io i.0 i.1))

pub returns-in_err-compared-clause-number : goal.returns-in_err-compared-clause-number
returns-in_err-compared-clause-number g c =
    let p = err_from_is_err_and c.from_residual.result c.from_residual.ensures.1 in
    rw (p.1, p.2) (number-below _ _ _ c.in_err-compared.ensures.number (omega arith))
