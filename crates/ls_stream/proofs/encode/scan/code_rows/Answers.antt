use Rattle.std.proofs.Common.{◌≡◌, ℕ, suc, ◌+◌, ◌-◌, ◌*◌, ◌<◌, ◌≤◌, ◌++◌, List, length, get_or, refl, sym, ◌∙◌, ap, subst, append_assoc, arith}
use Rattle.std.proofs.lemmas.Nat.{mul-le, mul-add-lt}
use Rattle.ls_frame.specs.View.Numbers.{numbers}
use Rattle.ls_frame.specs.Parameters.{Parameters, limit_of}
use Rattle.ls_bits.specs.View.Room.{Fits}
use Rattle.ls_stream.specs.Planes.{Plane, Span, at, row_spans, rows_from}
use Rattle.ls_stream.specs.View.Coded.{all_from}
use Rattle.ls_stream.specs.Components.{component_plane}
use Rattle.ls_stream.specs.View.LineBuffers.{HoldsLine, ArePadded}
use Rattle.ls_stream.proofs.ComponentLemmas.{sample_at, has_row, all_samples}
use Rattle.ls_stream.proofs.FrameLemmas.{none_over, one_over}
use Rattle.ls_stream.proofs.LineLemmas.{filled, small_line, one_more_seen, all_seen, held_lines}
use Rattle.ls_stream.proofs.SpanLemmas.{row_from-start, rows_from-next}
use Rattle.ls_stream.proofs.RowLemmas.{spent}
use Rattle.ls_stream.proofs.encode.scan.code_rows.Goals as goal

pub code_row-requires-clause-lines : goal.code_row-requires-clause-lines
code_row-requires-clause-lines g c =
    subst (λ (p : Parameters). ArePadded p.maxval c.args.shape.width c.loop-row.above c.fill_line.new.line) (sym c.loop-row.invariant.parameters)
    (record {
      above_length = c.loop-row.invariant.above_length;
      line_length = omega (arith, c.fill_line.auto.line, c.loop-row.invariant.line_length);
      above_small = c.loop-row.invariant.small;
      line_small =
          let maxval : c.maxval-maxval.result ≡ c.args.coder.now.state.parameters.maxval = c.maxval-maxval.ensures.value ∙ ap (λ (p : Parameters). p.maxval) c.presets.ensures in
          subst (λ n. (k : ℕ) → get_or c.fill_line.new.line k 0 ≤ n) maxval (none_over c.maxval-maxval.result c.fill_line.new.line c.first_above.result c.first_above.ensures (sym c.is_some.ensures ∙ c.if-is_some.false));
    })

pub code_row-requires-clause-room : goal.code_row-requires-clause-room
code_row-requires-clause-room g c =
    let limit = limit_of c.args.coder.now.state.parameters.maxval in
    let rows : c.args.shape.width * 1 ≤ c.args.shape.width * (c.args.shape.height - c.loop-row.row) = mul-le c.args.shape.width 1 c.args.shape.width (c.args.shape.height - c.loop-row.row) (omega arith) (omega arith) in
    let one : limit * (c.args.shape.width * 1) ≤ limit * (c.args.shape.width * (c.args.shape.height - c.loop-row.row)) = mul-le limit (c.args.shape.width * 1) limit (c.args.shape.width * (c.args.shape.height - c.loop-row.row)) (omega arith) rows in
    subst (λ (q : Parameters). Fits (length c.loop-row.coder.bits + limit_of q.maxval * c.args.shape.width) c.loop-row.coder.capacity_left) (sym c.loop-row.invariant.parameters)
    (omega (arith, c.loop-row.invariant.cost, c.loop-row.invariant.room, c.requires.room))

pub loop-row-preserved : goal.loop-row-preserved
loop-row-preserved g c =
    let samples = numbers c.args.samples in
    let plane : Plane = component_plane c.args.shape.width c.args.shape.components c.args.component samples in
    let row = c.loop-row.row in
    let inside : row < c.args.shape.height = c.loop-row-test.true in
    let some : 1 ≤ c.args.shape.components = omega arith in
    let whole : length samples ≡ c.args.shape.width * c.args.shape.height * c.args.shape.components = omega (arith, c.requires.samples) in
    let next : suc row ≡ row + 1 = omega arith in
    let maxval = c.args.coder.now.state.parameters.maxval in
    let limit = limit_of maxval in
    let line_length : length c.fill_line.new.line ≡ c.args.shape.width + 2 = omega (arith, c.fill_line.auto.line, c.loop-row.invariant.line_length) in
    let small : (k : ℕ) → get_or c.fill_line.new.line k 0 ≤ maxval =
    subst (λ n. (k : ℕ) → get_or c.fill_line.new.line k 0 ≤ n) (c.maxval-maxval.ensures.value ∙ ap (λ (p : Parameters). p.maxval) c.presets.ensures)
    (none_over c.maxval-maxval.result c.fill_line.new.line c.first_above.result c.first_above.ensures (sym c.is_some.ensures ∙ c.if-is_some.false)) in
    let middle : (k : ℕ) → k < c.args.shape.width → get_or c.fill_line.new.line (k + 1) 0 ≡ at plane row k =
    λ k h. c.fill_line.ensures.samples k h
    ∙ c.row_of-pixels.ensures.samples (k * c.args.shape.components + c.args.component) (omega (arith, mul-add-lt k c.args.shape.components c.args.component c.args.shape.width h c.requires.component))
    ∙ ap (λ n. get_or samples n 0) (omega arith)
    ∙ sym (sample_at samples c.args.shape.width c.args.shape.height c.args.shape.components c.args.component row k some whole inside h) in
    let held : HoldsLine plane (suc row) c.fill_line.new.line =
    filled plane row c.loop-row.above c.fill_line.new.line c.requires.some (has_row samples c.args.shape.width c.args.shape.height c.args.shape.components c.args.component row some whole inside) c.loop-row.invariant.held
    c.fill_line.ensures.left middle c.fill_line.ensures.right in
    let lines = held_lines plane row c.loop-row.above c.fill_line.new.line (has_row samples c.args.shape.width c.args.shape.height c.args.shape.components c.args.component row some whole inside) c.loop-row.invariant.held held in
    record {
      rows = λ more.
          c.code_row.ensures.row plane row refl lines (rows_from plane (c.args.shape.height - (row + 1)) (row + 1) ++ more)
          ∙ ap (λ (xs : List Span). all_from plane c.loop-row.coder.bits c.loop-row.coder.state (xs ++ (rows_from plane (c.args.shape.height - (row + 1)) (row + 1) ++ more))) (sym (row_from-start plane row))
          ∙ ap (all_from plane c.loop-row.coder.bits c.loop-row.coder.state) (sym (append_assoc (row_spans plane row) (rows_from plane (c.args.shape.height - (row + 1)) (row + 1)) more))
          ∙ ap (λ (xs : List Span). all_from plane c.loop-row.coder.bits c.loop-row.coder.state (xs ++ more)) (sym (rows_from-next plane c.args.shape.height row inside))
          ∙ c.loop-row.invariant.rows more;
      held = λ k h. ap (λ xs. get_or xs k 0) c.copy_from_slice.ensures.after ∙ subst (λ i. HoldsLine plane i c.fill_line.new.line) next held k h;
      seen = one_more_seen plane maxval row c.fill_line.new.line c.loop-row.invariant.seen middle small;
      small = λ k. subst (λ xs. get_or xs k 0 ≤ maxval) (sym c.copy_from_slice.ensures.after) (small k);
      above_length = omega (arith, ap length c.copy_from_slice.ensures.after);
      line_length = line_length;
      cost =
          let left : c.args.shape.width + c.args.shape.width * (c.args.shape.height - (row + 1)) ≡ c.args.shape.width * (c.args.shape.height - row) = omega (arith, spent c.args.shape.width 1 (c.args.shape.height - (row + 1)) (c.args.shape.height - row) (omega arith)) in
          let spent_here : limit * c.args.shape.width + limit * (c.args.shape.width * (c.args.shape.height - (row + 1))) ≡ limit * (c.args.shape.width * (c.args.shape.height - row)) =
          spent limit c.args.shape.width (c.args.shape.width * (c.args.shape.height - (row + 1))) (c.args.shape.width * (c.args.shape.height - row)) left in
          let same_limit : limit_of c.loop-row.coder.state.parameters.maxval * c.args.shape.width ≡ limit * c.args.shape.width = ap (λ (q : Parameters). limit_of q.maxval * c.args.shape.width) c.loop-row.invariant.parameters in
          omega (arith, c.code_row.ensures.cost, c.loop-row.invariant.cost);
      uninterrupted = c.code_row.ensures.uninterrupted;
      parameters = c.code_row.ensures.parameters ∙ c.loop-row.invariant.parameters;
      front = c.code_row.ensures.front ∙ c.loop-row.invariant.front;
      room = c.code_row.ensures.room ∙ c.loop-row.invariant.room;
      grown = g.met.R.Room.grown_twice _ _ _ c.loop-row.invariant.grown c.code_row.ensures.grown;
    }

pub returns-then-is_some-clause-over : goal.returns-then-is_some-clause-over
returns-then-is_some-clause-over g c answer small =
    let maxval : c.maxval-maxval.result ≡ c.args.coder.now.state.parameters.maxval = c.maxval-maxval.ensures.value ∙ ap (λ (p : Parameters). p.maxval) c.presets.ensures in
    one_over c.maxval-maxval.result c.fill_line.new.line c.first_above.result c.first_above.ensures (sym c.is_some.ensures ∙ c.if-is_some.true)
    (subst (λ n. (k : ℕ) → get_or c.fill_line.new.line k 0 ≤ n) (sym maxval)
    (small_line c.args.coder.now.state.parameters.maxval c.args.shape.width c.args.shape.components c.args.component (c.loop-row.row * (c.args.shape.width * c.args.shape.components)) (numbers c.args.samples) (numbers c.row_of-pixels.result) _ _ c.requires.some
    (omega (arith, c.fill_line.auto.line, c.loop-row.invariant.line_length)) c.loop-row.invariant.small c.row_of-pixels.ensures.len c.row_of-pixels.ensures.samples small
    c.fill_line.ensures.left c.fill_line.ensures.samples c.fill_line.ensures.right))

pub returns-clause-within : goal.returns-clause-within
returns-clause-within g c answer =
    let samples = numbers c.args.samples in
    let some : 1 ≤ c.args.shape.components = omega arith in
    let whole : length samples ≡ c.args.shape.width * c.args.shape.height * c.args.shape.components = omega (arith, c.requires.samples) in
    let rows : c.loop-row.row ≡ c.args.shape.height = omega arith in
    let plane : Plane = component_plane c.args.shape.width c.args.shape.components c.args.component samples in
    all_seen plane c.args.coder.now.state.parameters.maxval c.args.shape.height (all_samples samples c.args.shape.width c.args.shape.height c.args.shape.components c.args.component some whole)
    (subst (λ n. (k : ℕ) → k < n * c.args.shape.width → get_or plane.samples k 0 ≤ c.args.coder.now.state.parameters.maxval) rows c.loop-row.invariant.seen)
