use Rattle.std.proofs.Common.{◌≡◌, ℕ, ◌+◌, ◌-◌, ◌<◌, ◌≤◌, List, Bool, true, false, ◌++◌, length, sym, ap, subst, ◌∙◌, arith}
use Rattle.std.proofs.Math.ListN.{set}
use Rattle.std.proofs.lemmas.List.{get_or-set_same, length-set}
use Rattle.ls_frame.specs.Parameters.{Parameters}
use Rattle.ls_coding.specs.declared.neighbours.Neighbours.{Neighbours}
use Rattle.ls_coding.specs.Samples.{Interrupts}
use Rattle.ls_coding.specs.Interruptions.{ri_type_of, interruption_error}
use Rattle.ls_coding.specs.Events.{golomb_bits}
use Rattle.ls_coding.specs.Runs.{run_of, run_bits}
use Rattle.ls_coding.specs.View.States.{Coding, run_after, interruption_word_in, interruption_after}
use Rattle.std.proofs.lemmas.Result.{err_from_is_err_and}
use Rattle.ls_stream.specs.View.LineBuffers.{ArePadded}
use Rattle.ls_stream.proofs.RowBreakLemmas.{run_malformed, run_later_to_end, run_later_to_break, interruption_malformed, interruption_in}
use Rattle.ls_stream.proofs.DecodingLemmas.{IsOnlyRun, IsOnlyInterruption, no_run, run_read_to_end, run_read_to_break, no_break, longer_by_run, is_longer, small_more, small_repeated}
use Rattle.ls_stream.proofs.decode.row.decode_run_span.Goals as goal

pub returns-in_err-run-clause-stops : goal.returns-in_err-run-clause-stops
returns-in_err-run-clause-stops c =
    let s : Coding = c.args.decoder.now.state in
    let fault = err_from_is_err_and c.from_residual.result c.from_residual.ensures.1 in
    rw (fault.1, fault.2) (record {
      none = no_run s.parameters.maxval c.args.width c.args.column c.args.above.now c.args.line.now s c.args.decoder.now.bits
          c.requires.inside c.requires.run c.in_err-run.ensures.stops.none;
      breaks = run_malformed s.parameters.maxval c.args.width c.args.column c.args.above.now c.args.line.now s c.args.decoder.now.bits _
          c.requires.inside c.requires.run c.requires.lines.line_small c.in_err-run.ensures.stops.breaks;
    })

pub returns-then-not-run-clause-on : goal.returns-then-not-run-clause-on
returns-then-not-run-clause-on c =
    let old = c.args.decoder.now.bits in
    let bits = c.decode_run.new.self.bits in
    let above = c.args.above.now in
    let line = c.args.line.now in
    let filled = c.repeat_left.new.line in
    let s : Coding = c.args.decoder.now.state in
    let column : ℕ = c.args.column in
    let count : ℕ = c.in_ok-run.run'.count in
    let whole : c.in_ok-run.run'.interrupted ≡ false = c.if-not-run.true in
    let full : count ≡ c.args.width - column = c.in_ok-run.ensures.run.within.full whole in
    let few : column + count ≡ c.args.width = omega (arith, c.requires.inside) in
    let bits_are : old ≡ run_bits s.run_index (run_of count false) ++ bits = subst (λ b. old ≡ run_bits s.run_index (run_of count b) ++ bits) whole c.in_ok-run.ensures.run.bits in
    let after : c.decode_run.new.self.state ≡ run_after s (run_of count false) = subst (λ b. c.decode_run.new.self.state ≡ run_after s (run_of count b)) whole c.in_ok-run.ensures.run.state in
    let longer = longer_by_run column (column + count) line filled c.repeat_left.ensures in
    let parameters = ap (λ (t : Coding). t.parameters) after in
    record {
      same = run_read_to_end s.parameters.maxval c.args.width column count above line filled s c.decode_run.new.self.state old bits
          c.requires.inside few c.requires.run bits_are after
          (subst (λ b. IsOnlyRun (c.args.width - column) s.run_index old count b bits) whole c.in_ok-run.ensures.run.only)
          longer c.repeat_left.ensures.inside;
      later = run_later_to_end s.parameters.maxval c.args.width column count above line filled s c.decode_run.new.self.state old bits
          c.requires.inside few c.requires.run bits_are after longer c.repeat_left.ensures.inside;
      lines = subst (λ (p : Parameters). ArePadded p.maxval c.args.width above filled) (sym parameters) (record {
        above_length = c.requires.lines.above_length;
        line_length = c.repeat_left.ensures.whole ∙ c.requires.lines.line_length;
        above_small = c.requires.lines.above_small;
        line_small = small_repeated s.parameters.maxval column (column + count) line filled c.requires.lines.line_small c.repeat_left.ensures;
      });
      first = longer.before 0 (omega arith);
      uninterrupted = ap (λ (t : Coding). t.interrupted) after;
      parameters = parameters;
    }

pub returns-in_err-line-clause-stops : goal.returns-in_err-line-clause-stops
returns-in_err-line-clause-stops c =
    let old = c.args.decoder.now.bits in
    let mid = c.decode_run.new.self.bits in
    let above = c.args.above.now in
    let line = c.args.line.now in
    let filled = c.repeat_left.new.line in
    let s : Coding = c.args.decoder.now.state in
    let n : Neighbours = c.neighbours_in-around.result in
    let column : ℕ = c.args.column in
    let count : ℕ = c.in_ok-run.run'.count in
    let interrupted : c.in_ok-run.run'.interrupted ≡ true = c.if-not-run.false in
    let short : count < c.args.width - column = c.in_ok-run.ensures.run.within.short interrupted in
    let inside : column + count < c.args.width = omega (arith, c.requires.inside) in
    let after : c.decode_run.new.self.state ≡ run_after s (run_of count true) = subst (λ b. c.decode_run.new.self.state ≡ run_after s (run_of count b)) interrupted c.in_ok-run.ensures.run.state in
    let longer = longer_by_run column (column + count) line filled c.repeat_left.ensures in
    let fault = err_from_is_err_and c.from_residual-in_err-line.result c.from_residual-in_err-line.ensures.1 in
    rw (fault.1, fault.2) (record {
      none = no_break s.parameters.maxval c.args.width column count above line filled s old mid n
          c.requires.inside inside c.requires.run c.neighbours_in-around.ensures
          (subst (λ b. IsOnlyRun (c.args.width - column) s.run_index old count b mid) interrupted c.in_ok-run.ensures.run.only)
          (subst (λ (t : Coding). (other : ℕ) (rest : List Bool) → Interrupts t.parameters.maxval n.a other
          → mid ≡ golomb_bits t.parameters (interruption_word_in t n other) ++ rest → ⊥) after c.in_err-line.ensures.none)
          longer c.repeat_left.ensures.inside;
      breaks = interruption_malformed s.parameters.maxval c.args.width column count above line filled s old mid n _
          c.requires.inside inside c.requires.run c.neighbours_in-around.ensures
          (subst (λ b. old ≡ run_bits s.run_index (run_of count b) ++ mid) interrupted c.in_ok-run.ensures.run.bits)
          longer c.repeat_left.ensures.inside
          (small_repeated s.parameters.maxval column (column + count) line filled c.requires.lines.line_small c.repeat_left.ensures)
          (interruption_in c.decode_run.new.self.state (run_after s (run_of count true)) n mid _ after c.in_err-line.ensures.fault);
    })

pub returns-clause-on : goal.returns-clause-on
returns-clause-on c =
    let old = c.args.decoder.now.bits in
    let mid = c.decode_run.new.self.bits in
    let new = c.decode_interruption.new.self.bits in
    let above = c.args.above.now in
    let line = c.args.line.now in
    let filled = c.repeat_left.new.line in
    let s : Coding = c.args.decoder.now.state in
    let t : Coding = c.decode_interruption.new.self.state in
    let n : Neighbours = c.neighbours_in-around.result in
    let x : ℕ = c.in_ok-line.field-0 in
    let column : ℕ = c.args.column in
    let count : ℕ = c.in_ok-run.run'.count in
    let interrupted : c.in_ok-run.run'.interrupted ≡ true = c.if-not-run.false in
    let short : count < c.args.width - column = c.in_ok-run.ensures.run.within.short interrupted in
    let inside : column + count < c.args.width = omega (arith, c.requires.inside) in
    let place_in : column + count + 1 < length filled = omega (arith, c.requires.inside, c.repeat_left.ensures.whole, c.requires.lines.line_length) in
    let bits_are : old ≡ run_bits s.run_index (run_of count true) ++ mid = subst (λ b. old ≡ run_bits s.run_index (run_of count b) ++ mid) interrupted c.in_ok-run.ensures.run.bits in
    let after : c.decode_run.new.self.state ≡ run_after s (run_of count true) = subst (λ b. c.decode_run.new.self.state ≡ run_after s (run_of count b)) interrupted c.in_ok-run.ensures.run.state in
    let word_is : mid ≡ golomb_bits s.parameters (interruption_word_in (run_after s (run_of count true)) n x) ++ new =
    subst (λ (t : Coding). mid ≡ golomb_bits t.parameters (interruption_word_in t n x) ++ new) after c.in_ok-line.ensures.bits in
    let last : t ≡ interruption_after (run_after s (run_of count true)) (ri_type_of n) (interruption_error s.parameters n x) =
    subst (λ (u : Coding). t ≡ interruption_after u (ri_type_of n) (interruption_error u.parameters n x)) after c.in_ok-line.ensures.state in
    let small : x ≤ s.parameters.maxval = subst (λ (u : Coding). x ≤ u.parameters.maxval) after c.in_ok-line.ensures.interrupts.within in
    let by_run = longer_by_run column (column + count) line filled c.repeat_left.ensures in
    let by_one = is_longer filled (column + count) x in
    let there = get_or-set_same filled (column + count + 1) x 0 place_in in
    let parameters = ap (λ (u : Coding). u.parameters) last in
    record {
      same = run_read_to_break s.parameters.maxval c.args.width column count x above line filled _ s t old mid new n
          c.requires.inside inside c.requires.run c.neighbours_in-around.ensures bits_are word_is last
          (subst (λ b. IsOnlyRun (c.args.width - column) s.run_index old count b mid) interrupted c.in_ok-run.ensures.run.only)
          (subst (λ (u : Coding). IsOnlyInterruption u.parameters.maxval u n mid x new) after c.in_ok-line.ensures.only)
          c.in_ok-line.ensures.interrupts.other by_run c.repeat_left.ensures.inside by_one there;
      later = run_later_to_break s.parameters.maxval c.args.width column count x above line filled _ s t old mid new n
          c.requires.inside inside c.requires.run c.neighbours_in-around.ensures bits_are word_is last
          c.in_ok-line.ensures.interrupts.other by_run c.repeat_left.ensures.inside by_one there;
      lines = subst (λ (p : Parameters). ArePadded p.maxval c.args.width above (set filled (column + count + 1) x)) (sym parameters) (record {
        above_length = c.requires.lines.above_length;
        line_length = length-set filled (column + count + 1) x ∙ c.repeat_left.ensures.whole ∙ c.requires.lines.line_length;
        above_small = c.requires.lines.above_small;
        line_small = small_more s.parameters.maxval (column + count + 1) x filled
            (small_repeated s.parameters.maxval column (column + count) line filled c.requires.lines.line_small c.repeat_left.ensures) small place_in;
      });
      first = by_one.before 0 (omega arith) ∙ by_run.before 0 (omega arith);
      uninterrupted = ap (λ (u : Coding). u.interrupted) last;
      parameters = parameters;
    }
