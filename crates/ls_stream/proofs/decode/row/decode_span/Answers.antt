use Rattle.std.proofs.Common.{◌≡◌, ℕ, ◌+◌, ◌-◌, ◌<◌, false, length, get_or, sym, ◌∙◌, ap, subst, arith}
use Rattle.std.proofs.Math.ListN.{set}
use Rattle.std.proofs.lemmas.List.{get_or-set_same, length-set}
use Rattle.ls_frame.specs.Parameters.{Parameters}
use Rattle.ls_bits.specs.View.Plain.{bits_at}
use Rattle.ls_coding.specs.declared.neighbours.Neighbours.{Neighbours}
use Rattle.ls_coding.specs.Contexts.{is_run}
use Rattle.ls_coding.specs.View.States.{Coding}
use Rattle.ls_stream.specs.View.LineBuffers.{ArePadded}
use Rattle.ls_stream.proofs.ContextLemmas.{regular_by}
use Rattle.std.proofs.lemmas.Result.{err_from_is_err_and}
use Rattle.ls_stream.proofs.RowBreakLemmas.{sample_malformed, sample_later}
use Rattle.ls_stream.proofs.DecodingLemmas.{sample_read, no_sample, is_longer, small_more}
use Rattle.ls_stream.proofs.decode.row.decode_span.Goals as goal

pub decode_sample-requires-clause-middle : goal.decode_sample-requires-clause-middle
decode_sample-requires-clause-middle c =
    let n : Neighbours = c.neighbours_of-neighbours.result in
    let same = c.neighbours_of-neighbours.ensures c.args.line.now c.requires.left in
    c.median_by-middle.ensures n.c n.d (c.requires.from.rise_is ∙ sym (ap (λ (m : Neighbours). m.b - m.c) same)) (c.requires.from.fall_is ∙ sym (ap (λ (m : Neighbours). m.c - m.b) same))

pub returns-in_err-sample-clause-stops : goal.returns-in_err-sample-clause-stops
returns-in_err-sample-clause-stops c =
    let maxval : ℕ = c.args.decoder.now.state.parameters.maxval in
    let n = c.neighbours_of-neighbours.result in
    let regular : is_run n ≡ false = regular_by n c.context_of-context.result c.context_of-context.ensures.run c.if-context-ne0.true in
    let fault = err_from_is_err_and c.from_residual.result c.from_residual.ensures.1 in
    rw (fault.1, fault.2) (record {
      none = no_sample maxval c.args.width c.args.reached.column c.args.above.now c.args.line.now c.args.decoder.now.state (bits_at c.args.decoder.now.source c.args.reached.bits) n
          c.requires.inside (c.neighbours_of-neighbours.ensures c.args.line.now c.requires.left) regular c.in_err-sample.ensures.none;
      breaks = sample_malformed maxval c.args.width c.args.reached.column c.args.above.now c.args.line.now c.args.decoder.now.state (bits_at c.args.decoder.now.source c.args.reached.bits) n _
          c.requires.inside (c.neighbours_of-neighbours.ensures c.args.line.now c.requires.left) regular c.requires.lines.line_small c.in_err-sample.ensures.fault;
    })

pub returns-then-context-ne0-clause-on : goal.returns-then-context-ne0-clause-on
returns-then-context-ne0-clause-on c =
    let s : Coding = c.args.decoder.now.state in
    let maxval : ℕ = s.parameters.maxval in
    let line = c.args.line.now in
    let column : ℕ = c.args.reached.column in
    let x : ℕ = c.in_ok-sample.sample in
    let n = c.neighbours_of-neighbours.result in
    let regular : is_run n ≡ false = regular_by n c.context_of-context.result c.context_of-context.ensures.run c.if-context-ne0.true in
    let inside : column + 1 < length line = omega (arith, c.requires.inside, c.requires.lines.line_length) in
    let longer = is_longer line column x in
    let there : get_or (set line (column + 1) x) (column + 1) 0 ≡ x = get_or-set_same line (column + 1) x 0 inside in
    let parameters = ap (λ (t : Coding). t.parameters) c.in_ok-sample.ensures.state in
    record {
      same = sample_read maxval c.args.width column x c.args.above.now line _ s _ (bits_at c.args.decoder.now.source c.args.reached.bits) _ n
          c.requires.inside (c.neighbours_of-neighbours.ensures c.args.line.now c.requires.left) regular c.in_ok-sample.ensures.bits c.in_ok-sample.ensures.state c.in_ok-sample.ensures.only longer there;
      later = sample_later maxval c.args.width column x c.args.above.now line _ s _ (bits_at c.args.decoder.now.source c.args.reached.bits) _ n
          c.requires.inside (c.neighbours_of-neighbours.ensures c.args.line.now c.requires.left) regular c.in_ok-sample.ensures.bits c.in_ok-sample.ensures.state longer there;
      lines = subst (λ (p : Parameters). ArePadded p.maxval c.args.width c.args.above.now (set line (column + 1) x)) (sym parameters) (record {
        above_length = c.requires.lines.above_length;
        line_length = length-set line (column + 1) x ∙ c.requires.lines.line_length;
        above_small = c.requires.lines.above_small;
        line_small = small_more maxval (column + 1) x line c.requires.lines.line_small c.in_ok-sample.ensures.within inside;
      });
      first = longer.before 0 (omega arith);
      uninterrupted = ap (λ (t : Coding). t.interrupted) c.in_ok-sample.ensures.state ∙ c.requires.uninterrupted;
      parameters = parameters;
    }
