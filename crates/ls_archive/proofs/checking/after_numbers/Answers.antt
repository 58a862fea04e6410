use Rattle.std.proofs.Common.{◌≡◌, ◌<◌, ◌-◌, ◌+◌, subst, arith}
use Rattle.ls_archive.specs.View.Checking.{AreNumbers}
use Rattle.ls_archive.proofs.ColumnLemmas.{numbers-none, numbers-push, numbers-first, numbers-nothing, columns-end}
use Rattle.ls_archive.proofs.checking.after_numbers.Goals as goal

pub columns-init : goal.columns-init
columns-init c = record {
  few = omega arith;
  some = numbers-none c.args.text.now;
  given = λ numbers rest are ends is. let all : c.args.count ≡ c.args.count - 0 = omega arith in (numbers, subst (λ k. AreNumbers k numbers) all are, is);
}

pub columns-preserved : goal.columns-preserved
columns-preserved c =
    let run = c.columns.invariant in
    record {
      few = omega arith;
      some = numbers-push c.columns.passed c.args.text.now c.columns.left.now c.in_ok-left.left.now run.some c.in_ok-left.ensures.some;
      given = λ numbers rest are ends is.
          let more = run.given numbers rest are ends is in
          let some : 0 < c.args.count - c.columns.passed = omega arith in
          let first = numbers-first (c.args.count - c.columns.passed) c.columns.left.now rest more.0 some more.1 more.2 in
          let fewer : (c.args.count - c.columns.passed) - 1 ≡ c.args.count - (c.columns.passed + 1) = omega arith in
          (first.1, subst (λ k. AreNumbers k first.1) fewer first.3, c.in_ok-left.ensures.given first.0 _ first.2 (columns-end first.1 rest ends) first.4);
    }

pub returns-in_err-left-clause-given : goal.returns-in_err-left-clause-given
returns-in_err-left-clause-given c numbers rest are ends is =
    let more = c.columns.invariant.given numbers rest are ends is in
    let some : 0 < c.args.count - c.columns.passed = omega arith in
    let first = numbers-first (c.args.count - c.columns.passed) c.columns.left.now rest more.0 some more.1 more.2 in
    absurd (c.in_err-left.ensures.given first.0 _ first.2 (columns-end first.1 rest ends) first.4)

pub returns-clause-some : goal.returns-clause-some
returns-clause-some c =
    let all : c.columns.passed ≡ c.args.count = omega (arith, c.columns.invariant.few) in
    let run = c.columns.invariant.some in
    (run.0, subst (λ k. AreNumbers k run.0) all run.1, run.2)

pub returns-clause-given : goal.returns-clause-given
returns-clause-given c numbers rest are ends is =
    let more = c.columns.invariant.given numbers rest are ends is in
    let none : c.args.count - c.columns.passed ≡ 0 = omega arith in
    numbers-nothing (c.args.count - c.columns.passed) c.columns.left.now rest more.0 none more.1 more.2
