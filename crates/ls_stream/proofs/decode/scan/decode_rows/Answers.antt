use Rattle.std.proofs.Common.{◌≡◌, ℕ, ◌+◌, ◌*◌, ◌<◌, ◌≤◌, length, get_or, sym, ◌∙◌, ap, subst, arith}
use Rattle.std.proofs.Math.ListN.{set}
use Rattle.std.proofs.Math.Nat.{le_trans}
use Rattle.std.proofs.lemmas.List.{get_or-set_same, get_or-set_other, length-set}
use Rattle.ls_coding.proofs.RegularLemmas.{err_always}
use Rattle.ls_frame.specs.Parameters.{Parameters}
use Rattle.ls_stream.specs.View.LineBuffers.{HoldsLine}
use Rattle.ls_stream.specs.View.Decoding.{place, AreSamePlanes, IsNoPlane}
use Rattle.ls_stream.proofs.DecodingLemmas.{small_more}
use Rattle.std.proofs.lemmas.Result.{err_from_is_err_and}
use Rattle.ls_stream.proofs.ScanBreakLemmas.{rows_later, row_malformed, rows_malformed}
use Rattle.ls_stream.proofs.ScanReadingLemmas.{IsStored, row_read, no_row, line_held}
use Rattle.ls_stream.proofs.StoringLemmas.{other_row, other_component, small_stored}
use Rattle.ls_stream.proofs.decode.scan.decode_rows.Goals as goal

pub returns-in_err-decode_row-clause-none : goal.returns-in_err-decode_row-clause-none
returns-in_err-decode_row-clause-none g c =
    let maxval : ℕ = c.args.decoder.now.state.parameters.maxval in
    let line = set c.loop-row.line 0 (get_or c.loop-row.above 1 0) in
    let first : get_or line 0 0 ≡ get_or c.loop-row.above 1 0 = get_or-set_same c.loop-row.line 0 (get_or c.loop-row.above 1 0) 0 (omega (arith, c.loop-row.invariant.line_length)) in
    err_always c.from_residual.result _
    (λ plane is rest m.
    no_row maxval c.args.shape.width c.args.shape.height c.args.shape.components c.args.component c.loop-row.row c.loop-row.above line (g.S.Sample.numbers c.loop-row.samples) c.loop-row.decoder.state c.loop-row.decoder.bits plane rest
    c.loop-row-test.true c.requires.some is (c.loop-row.invariant.held plane is)
    (subst (λ (p : Parameters). IsNoPlane p.maxval c.args.shape.width c.loop-row.above (place 0 line c.loop-row.decoder.state c.loop-row.decoder.bits)) c.loop-row.invariant.parameters c.in_err-decode_row.ensures.stops.none)
    first ((c.loop-row.invariant.same plane is rest).0 m))

pub loop-row-preserved : goal.loop-row-preserved
loop-row-preserved g c =
    let maxval : ℕ = c.args.decoder.now.state.parameters.maxval in
    let width : ℕ = c.args.shape.width in
    let height : ℕ = c.args.shape.height in
    let count : ℕ = c.args.shape.components in
    let component : ℕ = c.args.component in
    let row : ℕ = c.loop-row.row in
    let read = c.decode_row.new.line in
    let line = set c.loop-row.line 0 (get_or c.loop-row.above 1 0) in
    let inside : row < height = c.loop-row-test.true in
    let first : get_or line 0 0 ≡ get_or c.loop-row.above 1 0 = get_or-set_same c.loop-row.line 0 (get_or c.loop-row.above 1 0) 0 (omega (arith, c.loop-row.invariant.line_length)) in
    let same : AreSamePlanes maxval width c.loop-row.above (place 0 line c.loop-row.decoder.state c.loop-row.decoder.bits) (place width read c.decode_row.new.decoder.state c.decode_row.new.decoder.bits) =
    subst (λ (p : Parameters). AreSamePlanes p.maxval width c.loop-row.above (place 0 line c.loop-row.decoder.state c.loop-row.decoder.bits) (place width read c.decode_row.new.decoder.state c.decode_row.new.decoder.bits))
    c.loop-row.invariant.parameters c.in_ok-decode_row.ensures.on.same in
    let read_small : (k : ℕ) → get_or read k 0 ≤ maxval = subst (λ (p : Parameters). (k : ℕ) → get_or read k 0 ≤ p.maxval) (c.in_ok-decode_row.ensures.on.parameters ∙ c.loop-row.invariant.parameters) c.in_ok-decode_row.ensures.on.lines.line_small in
    let read_length : length read ≡ width + 2 = c.in_ok-decode_row.ensures.on.lines.line_length in
    let last = set read (width + 1) (get_or read width 0) in
    let same_places : (k : ℕ) → k ≤ width → get_or last k 0 ≡ get_or read k 0 = λ k h. get_or-set_other read (width + 1) k (get_or read width 0) 0 (λ e. absurd (omega arith)) in
    let stored : IsStored width count component row (g.S.Sample.numbers c.loop-row.samples) (g.S.Sample.numbers c.store_row.new.samples) read = record {
      stored = λ j h. c.store_row.ensures.stored j h ∙ same_places (j + 1) (omega arith);
      kept = λ r j h k. c.store_row.ensures.kept ((r * width + j) * count + component) (λ i l. other_row r row width j i count component h k c.requires.component);
    } in
    let last_small : (k : ℕ) → get_or last k 0 ≤ maxval = small_more maxval (width + 1) (get_or read width 0) read read_small (read_small width) (omega arith) in
    record {
      same = λ plane is rest.
          let one = row_read maxval width height count component row c.loop-row.above line read (g.S.Sample.numbers c.loop-row.samples) (g.S.Sample.numbers c.store_row.new.samples) c.loop-row.decoder.state c.decode_row.new.decoder.state c.loop-row.decoder.bits c.decode_row.new.decoder.bits plane rest
          inside c.requires.some is (c.loop-row.invariant.held plane is) same first c.in_ok-decode_row.ensures.on.first stored in
          (λ m. one.0 ((c.loop-row.invariant.same plane is rest).0 m), λ m. (c.loop-row.invariant.same plane is rest).1 (one.1 m));
      held = λ plane is rows.
          subst (λ xs. HoldsLine plane (row + 1) xs) (sym c.copy_from_slice.ensures.after)
          (line_held maxval width height count component row c.loop-row.above line read (g.S.Sample.numbers c.loop-row.samples) (g.S.Sample.numbers c.store_row.new.samples) plane
          inside c.requires.some is (c.loop-row.invariant.held plane is) first c.in_ok-decode_row.ensures.on.first read_length stored rows);
      breaks = λ plane is rows fault malformed.
          let before = rows_later c.args.decoder.now.state.parameters c.loop-row.decoder.state.parameters width height count component row c.loop-row.above line read (g.S.Sample.numbers c.loop-row.samples) (g.S.Sample.numbers c.store_row.new.samples)
          c.loop-row.decoder.state c.decode_row.new.decoder.state c.loop-row.decoder.bits c.decode_row.new.decoder.bits plane fault c.loop-row.invariant.parameters
          inside c.requires.some is (c.loop-row.invariant.held plane is) c.in_ok-decode_row.ensures.on.later first c.in_ok-decode_row.ensures.on.first stored rows malformed in
          c.loop-row.invariant.breaks plane is before.0 fault before.1;
      others = λ k other h differs.
          c.store_row.ensures.kept (k * count + other) (λ j l. other_component k other (row * width + j) count component h c.requires.component differs)
          ∙ c.loop-row.invariant.others k other h differs;
      small = small_stored maxval width count component row (g.S.Sample.numbers c.loop-row.samples) (g.S.Sample.numbers c.store_row.new.samples) last c.loop-row.invariant.small last_small c.store_row.ensures.stored c.store_row.ensures.kept;
      above_small = λ k. subst (λ xs. get_or xs k 0 ≤ maxval) (sym c.copy_from_slice.ensures.after) (last_small k);
      line_small = last_small;
      above_length = ap length c.copy_from_slice.ensures.after ∙ length-set read (width + 1) (get_or read width 0) ∙ read_length;
      line_length = length-set read (width + 1) (get_or read width 0) ∙ read_length;
      len = c.store_row.ensures.len ∙ c.loop-row.invariant.len;
      uninterrupted = c.in_ok-decode_row.ensures.on.uninterrupted;
      parameters = c.in_ok-decode_row.ensures.on.parameters ∙ c.loop-row.invariant.parameters;
    }

pub returns-in_err-decode_row-clause-breaks : goal.returns-in_err-decode_row-clause-breaks
returns-in_err-decode_row-clause-breaks g c =
    let p : Parameters = c.args.decoder.now.state.parameters in
    let width : ℕ = c.args.shape.width in
    let height : ℕ = c.args.shape.height in
    let line = set c.loop-row.line 0 (get_or c.loop-row.above 1 0) in
    let first : get_or line 0 0 ≡ get_or c.loop-row.above 1 0 = get_or-set_same c.loop-row.line 0 (get_or c.loop-row.above 1 0) 0 (omega (arith, c.loop-row.invariant.line_length)) in
    let fault = err_from_is_err_and c.from_residual.result c.from_residual.ensures.1 in
    rw (fault.1, fault.2)
    (rows_malformed p width height c.args.shape.components c.args.component c.loop-row.row (g.S.Sample.numbers c.loop-row.samples) c.args.decoder.now.state c.loop-row.decoder.state c.args.decoder.now.bits c.loop-row.decoder.bits _
    c.requires.some c.loop-row.invariant.breaks
    (row_malformed p c.loop-row.decoder.state.parameters width height c.args.shape.components c.args.component c.loop-row.row c.loop-row.above line (g.S.Sample.numbers c.loop-row.samples) c.loop-row.decoder.state c.loop-row.decoder.bits _
    c.loop-row.invariant.parameters c.loop-row-test.true c.requires.some c.loop-row.invariant.held c.loop-row.invariant.small first c.in_err-decode_row.ensures.stops.breaks))

-- what is stored of a row fits its places
pub store_row-requires-clause-fits : goal.store_row-requires-clause-fits
store_row-requires-clause-fits g c =
    let maxval : ℕ = c.args.decoder.now.state.parameters.maxval in
    let width : ℕ = c.args.shape.width in
    let read = c.decode_row.new.line in
    let read_small : (k : ℕ) → get_or read k 0 ≤ maxval = subst (λ (p : Parameters). (k : ℕ) → get_or read k 0 ≤ p.maxval) (c.in_ok-decode_row.ensures.on.parameters ∙ c.loop-row.invariant.parameters) c.in_ok-decode_row.ensures.on.lines.line_small in
    let read_length : length read ≡ width + 2 = c.in_ok-decode_row.ensures.on.lines.line_length in
    let last_small : (k : ℕ) → get_or (set read (width + 1) (get_or read width 0)) k 0 ≤ maxval = small_more maxval (width + 1) (get_or read width 0) read read_small (read_small width) (omega arith) in
    λ k. le_trans (last_small k) c.requires.fits
