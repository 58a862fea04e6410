use Rattle.std.proofs.Common.{◌≡◌, ℕ, ◌+◌, ◌*◌, ◌<◌, length, get_or, inl, inr, sym, ◌∙◌, ap, arith}
use Rattle.std.proofs.Math.ListN.{set}
use Rattle.std.proofs.lemmas.Bool.{cases_lt}
use Rattle.std.proofs.lemmas.List.{get_or-set_same, get_or-set_other, length-set}
use Rattle.ls_stream.proofs.StoringLemmas.{place_inside, place_of_the_only, steps_inside, other_column}
use Rattle.ls_stream.proofs.decode.scan.store_row.Goals as goal

pub overflow_mul-place : goal.overflow_mul-place
overflow_mul-place g c =
    let steps = steps_inside c.args.row c.args.shape.width c.args.shape.height c.loop-column.column c.args.shape.components c.args.component c.requires.row c.loop-column-test.true c.requires.component c.requires.few in
    omega (arith, steps.0)

pub overflow_add-place : goal.overflow_add-place
overflow_add-place g c =
    let steps = steps_inside c.args.row c.args.shape.width c.args.shape.height c.loop-column.column c.args.shape.components c.args.component c.requires.row c.loop-column-test.true c.requires.component c.requires.few in
    omega (arith, steps.1)

pub overflow_mul-place-in-loop-column : goal.overflow_mul-place-in-loop-column
overflow_mul-place-in-loop-column g c =
    let steps = steps_inside c.args.row c.args.shape.width c.args.shape.height c.loop-column.column c.args.shape.components c.args.component c.requires.row c.loop-column-test.true c.requires.component c.requires.few in
    omega (arith, steps.2)

pub overflow_add-place-in-loop-column : goal.overflow_add-place-in-loop-column
overflow_add-place-in-loop-column g c =
    let steps = steps_inside c.args.row c.args.shape.width c.args.shape.height c.loop-column.column c.args.shape.components c.args.component c.requires.row c.loop-column-test.true c.requires.component c.requires.few in
    omega (arith, steps.3)

pub put-requires-clause-inside : goal.put-requires-clause-inside
put-requires-clause-inside g c =
    omega (
      arith,
      place_inside c.args.row c.args.shape.width c.args.shape.height c.loop-column.column c.args.shape.components c.args.component c.requires.row c.loop-column-test.true c.requires.component,
      c.loop-column.invariant.whole,
      c.requires.samples,
    )

pub loop-column-preserved : goal.loop-column-preserved
loop-column-preserved g c =
    let width : ℕ = c.args.shape.width in
    let count : ℕ = c.args.shape.components in
    let component : ℕ = c.args.component in
    let row : ℕ = c.args.row in
    let column : ℕ = c.loop-column.column in
    let samples = g.S.Sample.numbers c.loop-column.samples in
    let place : ℕ = (row * width + column) * count + component in
    let sample : ℕ = get_or c.args.line.now (column + 1) 0 in
    let inside : place < length samples = omega (arith, place_inside row width c.args.shape.height column count component c.requires.row c.loop-column-test.true c.requires.component, c.loop-column.invariant.whole, c.requires.samples) in
    record {
      whole = ap length c.put.ensures ∙ length-set samples place sample ∙ c.loop-column.invariant.whole;
      stored = λ j h. elim (cases_lt j column) [
        | inl earlier ↦
            ap (λ xs. get_or xs ((row * width + j) * count + component) 0) c.put.ensures
            ∙ get_or-set_other samples place ((row * width + j) * count + component) sample 0 (other_column row width j column count component earlier c.requires.component)
            ∙ c.loop-column.invariant.stored j earlier
        | inr later ↦
            let same : j ≡ column = omega arith in
            ap (λ xs. get_or xs ((row * width + j) * count + component) 0) c.put.ensures
            ∙ ap (λ n. get_or (set samples place sample) ((row * width + n) * count + component) 0) same
            ∙ get_or-set_same samples place sample 0 inside ∙ ap (λ n. get_or c.args.line.now (n + 1) 0) (sym same)
      ];
      kept = λ k h. ap (λ xs. get_or xs k 0) c.put.ensures ∙ get_or-set_other samples place k sample 0 (λ e. h column c.loop-column-test.true e) ∙ c.loop-column.invariant.kept k h;
    }

pub returns-then-shape-eq1-clause-kept : goal.returns-then-shape-eq1-clause-kept
returns-then-shape-eq1-clause-kept g c k elsewhere =
    c.put_side_by_side.ensures.kept k
    (λ j low same. elsewhere j low (same ∙ sym (place_of_the_only (c.args.row * c.args.shape.width) j c.args.shape.components c.args.component c.if-shape-eq1.true c.requires.component)))
