use Rattle.std.proofs.Common.{◌≡◌, List, ℕ, Option, None, Some, refl, sym, subst, ◌∙◌}
use Rattle.ls_archive.specs.View.Checking.{AreColumns}
use Rattle.ls_archive.proofs.NextLineLemmas.{begins-otherwise}
use Rattle.ls_archive.proofs.FrontLineLemmas.{torn-ends, at-end, line-untorn}
use Rattle.std.proofs.lemmas.Result.{err_from_is_err_and}
use Rattle.ls_archive.specs.View.Checks.{IsTorn}
use Rattle.ls_archive.proofs.checking.next_written.Goals as goal

pub returns-in-None-clause-stops : goal.returns-in-None-clause-stops
returns-in-None-clause-stops g c =
    let gave = rw c.in-Ok-Some.field-0-is at c.in-Ok-Some.ensures.gave in
    let one = rw c.in-Ok-Some.field-0-is at c.in-Ok-Some.ensures.one in
    let front = rw c.in-Ok-Some.field-0-is at c.in-Ok-Some.ensures.front in (
      refl,
      begins-otherwise (g.I.Read.remaining c.args.index.now) (g.I.Read.remaining c.take_line.new.reader) c.args.number c.args.offset c.in-Ok-Some.text.items gave one front
          (λ l same is.
          let parts = rw c.in-Some.is at (c.in_ok-size.ensures.given l.size is.rest is.few (c.deref-2.ensures.value ∙ same ∙ is.text_is)) in
          let none : ◌≡◌ {A = Option (Option (List ℕ))} None (Some l.sum) = c.in-None.ensures.given l.sum (subst (λ r. AreColumns r l.sum) (sym parts.1) is.columns) in
          let clash : ⊥ = cc in absurd clash),
    )

pub returns-then-ends_within-clause-end : goal.returns-then-ends_within-clause-end
returns-then-ends_within-clause-end g c =
    let gave = rw c.in-Ok-Some.field-0-is at c.in-Ok-Some.ensures.gave in
    let end = rw c.in-Ok-Some.field-0-is at c.in-Ok-Some.ensures.torn in
    let torn = c.ends_within.ensures.some c.if-ends_within.true in
    torn-ends c.args.growing (g.I.Read.remaining c.args.index.now) (g.I.Read.remaining c.take_line.new.reader) c.in-Ok-Some.text.items torn.0 gave
    (subst IsTorn c.deref.ensures.value torn.1) end

pub returns-in_err-size-clause-untorn : goal.returns-in_err-size-clause-untorn
returns-in_err-size-clause-untorn g c =
    let p = err_from_is_err_and c.from_residual.result c.from_residual.ensures.1 in
    rw (p.1, p.2) tt

pub returns-in_default-clause-untorn : goal.returns-in_default-clause-untorn
returns-in_default-clause-untorn g c =
    let gave = rw c.in-Ok-Some.field-0-is at c.in-Ok-Some.ensures.gave in
    line-untorn c.args.growing (g.I.Read.remaining c.args.index.now) (g.I.Read.remaining c.take_line.new.reader) c.in-Ok-Some.text.items gave
    (λ grown torn. c.ends_within.ensures.none c.if-ends_within.false grown (subst IsTorn (sym c.deref.ensures.value) torn))

pub returns-in-None-clause-untorn : goal.returns-in-None-clause-untorn
returns-in-None-clause-untorn g c =
    let gave = rw c.in-Ok-Some.field-0-is at c.in-Ok-Some.ensures.gave in
    line-untorn c.args.growing (g.I.Read.remaining c.args.index.now) (g.I.Read.remaining c.take_line.new.reader) c.in-Ok-Some.text.items gave
    (λ grown torn. c.ends_within.ensures.none c.if-ends_within.false grown (subst IsTorn (sym c.deref.ensures.value) torn))
