use Rattle.std.proofs.Common.{◌≡◌, ℕ, ◌+◌, ◌<◌, [], ◌∷◌, ◌++◌, length, take, drop, get_or, sym, ap, subst, ◌∙◌, arith}
use Rattle.std.proofs.lemmas.List.{take_all}
use Rattle.ls_stream.specs.View.Outlines.{data_at, after_data}
use Rattle.ls_inspect.specs.Scans.{HaveData}
use Rattle.ls_inspect.proofs.ScanLemmas.{data_there, take_split, others, no_others}
use Rattle.ls_inspect.proofs.strict.first_other.Goals as goal

pub returns-in_default : goal.returns-in_default
returns-in_default c one other have have' size size' =
    let left = c.loop-component.invariant one other have have' size size' in
    let at = data_there c.loop-component.given.now c.loop-component.component one (omega (arith, c.loop-component-test.true, size)) left.0 in
    absurd (c.in_default.ensures at.0 at.1)

pub returns-in_default-after_header : goal.returns-in_default-after_header
returns-in_default-after_header c one other have have' size size' =
    let left = c.loop-component.invariant one other have have' size size' in
    let at = data_there c.loop-component.wanted.now c.loop-component.component other (omega (arith, c.loop-component-test.true, size')) left.1 in
    absurd (c.in_default-after_header.ensures at.0 at.1)

pub returns-then-ne : goal.returns-then-ne
returns-then-ne c one other have have' size size' =
    let place : ℕ = c.loop-component.component in
    let left = c.loop-component.invariant one other have have' size size' in
    let first = data_there c.loop-component.given.now place one (omega (arith, c.loop-component-test.true, size)) left.0 in
    let second = data_there c.loop-component.wanted.now place other (omega (arith, c.loop-component-test.true, size')) left.1 in
    let at_first : c.in-Ok.one.now ≡ first.0 = c.in-Ok.ensures first.0 first.1 in
    let at_second : c.in-Ok-after_header.other.now ≡ second.0 = c.in-Ok-after_header.ensures second.0 second.1 in (
      c.loop-component-test.true,
      left.2,
      λ e.
          others c.data_at.result.now c.data_at-in-loop-component.result.now (sym c.ne.ensures ∙ c.if-ne.true)
          (c.data_at.ensures ∙ ap data_at at_first ∙ sym first.2 ∙ e ∙ second.2 ∙ ap data_at (sym at_second) ∙ sym c.data_at-in-loop-component.ensures),
    )

pub loop-component-preserved : goal.loop-component-preserved
loop-component-preserved c one other have have' size size' =
    let place : ℕ = c.loop-component.component in
    let left = c.loop-component.invariant one other have have' size size' in
    let some : place < length one = omega (arith, c.loop-component-test.true, size) in
    let some' : place < length other = omega (arith, c.loop-component-test.true, size') in
    let first = data_there c.loop-component.given.now place one some left.0 in
    let second = data_there c.loop-component.wanted.now place other some' left.1 in
    let at_first : c.in-Ok.one.now ≡ first.0 = c.in-Ok.ensures first.0 first.1 in
    let at_second : c.in-Ok-after_header.other.now ≡ second.0 = c.in-Ok-after_header.ensures second.0 second.1 in
    let same : get_or one place [] ≡ get_or other place [] =
    first.2 ∙ ap data_at (sym at_first) ∙ sym c.data_at.ensures
    ∙ no_others c.data_at.result.now c.data_at-in-loop-component.result.now (sym c.ne.ensures ∙ c.if-ne.false)
    ∙ c.data_at-in-loop-component.ensures ∙ ap data_at at_second ∙ sym second.2 in (
      subst (λ bs. HaveData bs (drop (place + 1) one)) (ap after_data (sym at_first) ∙ sym c.after_data-given.ensures) first.3,
      subst (λ bs. HaveData bs (drop (place + 1) other)) (ap after_data (sym at_second) ∙ sym c.after_data-wanted.ensures) second.3,
      take_split place one some ∙ ap (λ xs. xs ++ get_or one place [] ∷ []) left.2 ∙ ap (λ d. take place other ++ d ∷ []) same ∙ sym (take_split place other some'),
    )

pub returns : goal.returns
returns c one other have have' size size' =
    let place : ℕ = c.loop-component.component in
    let left = c.loop-component.invariant one other have have' size size' in
    sym (take_all place one (omega (arith, c.loop-component-test.false, size))) ∙ left.2 ∙ take_all place other (omega (arith, c.loop-component-test.false, size'))
