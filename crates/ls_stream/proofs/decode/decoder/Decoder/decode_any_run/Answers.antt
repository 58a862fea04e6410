use Rattle.std.proofs.Common.{true≢false, sym, ◌≡◌, ℕ, ◌+◌, ◌-◌, ◌^◌, ◌<◌, ◌≤◌, true, false, ◌∷◌, ◌++◌, inl, inr, subst, ◌∙◌, ap, arith}
use Rattle.std.proofs.lemmas.Bool.{cases_lt}
use Rattle.ls_bits.specs.Bits.{bits_of}
use Rattle.ls_coding.specs.Runs.{order}
use Rattle.ls_coding.specs.View.States.{Coding}
use Rattle.std.proofs.lemmas.Result.{err_from_is_err_and}
use Rattle.ls_bits.specs.View.Plain.{bits_in}
use Rattle.ls_stream.specs.View.BitFaults.{bits_end, rest_ends, no_room}
use Rattle.ls_stream.proofs.BreakingLemmas.{run_later}
use Rattle.ls_stream.proofs.RunReadingLemmas.{no_bit, last_one, only_to_end, one_read, few_bits, break_read, only_break, states_on, next_index, bit_is_one, bit_is_zero, of_one, not_all}
use Rattle.ls_stream.proofs.decode.decoder.Decoder.decode_any_run.Goals as goal

pub returns-in_err-bit-clause-stops : goal.returns-in_err-bit-clause-stops
returns-in_err-bit-clause-stops c =
    let fault = err_from_is_err_and c.from_residual.result c.from_residual.ensures.1 in
    rw (fault.1, fault.2) (record {
      none = λ count interrupted rest ends e.
          no_bit c.args.left c.ones.count c.args.self.now.state.run_index c.ones.self-inside.state.now.run_index count interrupted c.args.self.now.bits (bits_in c.ones.self-inside.source.now) rest
          c.ones.invariant.in_run c.ones.invariant.short c.in_err-bit.ensures.fault.1 ends e;
      breaks = c.ones.invariant.breaks _ (bits_end c.in_err-bit.ensures.fault.1 c.in_err-bit.ensures.fault.0);
    })

pub returns-then-count-left-clause-run : goal.returns-then-count-left-clause-run
returns-then-count-left-clause-run c =
    let part = of_one c.ones.self-inside.state.now.run_index (c.args.left - c.ones.count) c.accept_one.result c.accept_one.ensures.count (omega (arith, c.ones.invariant.short)) in
    let one = bit_is_one _ _ _ c.in_ok-bit.ensures.ok c.if-branch-eq1.true in
    record {
      within = record { full = λ e. c.if-count-left.true; short = λ e. absurd (true≢false (sym e)) };
      bits = last_one c.args.left c.ones.count c.args.self.now.state.run_index c.ones.self-inside.state.now.run_index c.accept_one.result c.args.self.now.bits (bits_in c.ones.self-inside.source.now) (bits_in c.bit.new.self)
          c.ones.invariant.in_run one part.0 part.1;
      state = c.accept_one.ensures.state ∙ c.ones.invariant.states c.accept_one.result false;
      only = λ count interrupted rest ends e.
          only_to_end c.args.left c.ones.count c.args.self.now.state.run_index c.ones.self-inside.state.now.run_index c.accept_one.result count interrupted c.args.self.now.bits (bits_in c.ones.self-inside.source.now) (bits_in c.bit.new.self) rest
          c.ones.invariant.in_run c.ones.invariant.short one (omega (arith, c.if-count-left.true)) part.1 ends e;
    }

pub ones-preserved : goal.ones-preserved
ones-preserved c =
    let whole : c.accept_one.result ≡ 2 ^ order c.ones.self-inside.state.now.run_index =
    not_all c.ones.self-inside.state.now.run_index (c.args.left - c.ones.count) c.accept_one.result c.accept_one.ensures.count (λ e. c.if-count-left.false (omega (arith, c.ones.invariant.short))) in
    let part : c.accept_one.result ≤ c.args.left - c.ones.count = omega (arith, c.accept_one.ensures.count) in
    let more : c.ones.count + c.accept_one.result < c.args.left =
    elim (cases_lt (c.ones.count + c.accept_one.result) c.args.left) [
      | inl less ↦ less
      | inr all ↦ absurd (c.if-count-left.false (omega (arith, c.ones.invariant.short)))
    ] in
    record {
      short = more;
      uninterrupted = ap (λ (s : Coding). s.interrupted) c.accept_one.ensures.state;
      parameters = ap (λ (s : Coding). s.parameters) c.accept_one.ensures.state ∙ c.ones.invariant.parameters;
      qbpp = c.ones.invariant.qbpp;
      legal = c.ones.invariant.legal;
      regions = c.ones.invariant.regions;
      sure = c.ones.invariant.sure;
      breaks = λ fault malformed. c.ones.invariant.breaks fault
          (run_later c.ones.self-inside.state.now.run_index c.accept_one.new.self.run_index (c.args.left - c.ones.count) (c.args.left - (c.ones.count + c.accept_one.result)) (bits_in c.ones.self-inside.source.now) (bits_in c.bit.new.self) fault
          (bit_is_one _ _ _ c.in_ok-bit.ensures.ok c.if-branch-eq1.true) (next_index c.ones.self-inside.state.now c.accept_one.new.self c.accept_one.result c.accept_one.ensures.state whole)
          (omega (arith, whole, more)) (omega (arith, whole, more)) malformed);
      in_run = one_read c.args.left c.ones.count c.args.self.now.state.run_index c.ones.self-inside.state.now.run_index c.accept_one.result c.accept_one.new.self.run_index c.args.self.now.bits (bits_in c.ones.self-inside.source.now) (bits_in c.bit.new.self)
          c.ones.invariant.in_run c.ones.invariant.short (bit_is_one _ _ _ c.in_ok-bit.ensures.ok c.if-branch-eq1.true) whole
          (next_index c.ones.self-inside.state.now c.accept_one.new.self c.accept_one.result c.accept_one.ensures.state whole) more;
      states = states_on c.ones.self-inside.state.now c.accept_one.new.self c.args.self.now.state c.ones.count c.accept_one.result c.ones.invariant.states c.accept_one.ensures.state whole;
    }

pub returns-in_err-rest-clause-stops : goal.returns-in_err-rest-clause-stops
returns-in_err-rest-clause-stops c =
    let fault = err_from_is_err_and c.from_residual-in_err-rest.result c.from_residual-in_err-rest.ensures.1 in
    let zero = bit_is_zero _ _ _ c.in_ok-bit.ensures.ok c.in_ok-bit.ensures.value c.if-branch-eq1.false in
    rw (fault.1, fault.2) (record {
      none = λ count interrupted rest ends e.
          few_bits c.args.left c.ones.count c.args.self.now.state.run_index c.ones.self-inside.state.now.run_index count interrupted c.args.self.now.bits (bits_in c.ones.self-inside.source.now) (bits_in c.bit.new.self) rest
          c.ones.invariant.in_run c.ones.invariant.short zero (omega (arith, c.in_err-rest.ensures.fault.1, c.break_width.ensures.value)) ends e;
      breaks = c.ones.invariant.breaks _ (rest_ends (bits_in c.bit.new.self) zero (omega (arith, c.in_err-rest.ensures.fault.1, c.break_width.ensures.value)) c.in_err-rest.ensures.fault.0);
    })

pub returns-in_err-accept_break-clause-stops : goal.returns-in_err-accept_break-clause-stops
returns-in_err-accept_break-clause-stops c =
    let width : ℕ = order c.ones.self-inside.state.now.run_index in
    let mid = subst (λ n. (bits_in c.bit.new.self) ≡ bits_of n c.in_ok-rest.rest ++ (bits_in c.bits.new.self)) c.break_width.ensures.value c.in_ok-rest.ensures.ok in
    let small : c.in_ok-rest.rest < 2 ^ width = subst (λ n. c.in_ok-rest.rest < 2 ^ n) c.break_width.ensures.value c.in_ok-rest.ensures.value in
    let zero = bit_is_zero _ _ _ c.in_ok-bit.ensures.ok c.in_ok-bit.ensures.value c.if-branch-eq1.false in
    let fault = err_from_is_err_and c.from_residual-in_err-accept_break.result c.from_residual-in_err-accept_break.ensures.1 in
    rw (fault.1, fault.2) (record {
      none = λ count interrupted rest ends e.
          let same = only_break c.args.left c.ones.count c.args.self.now.state.run_index c.ones.self-inside.state.now.run_index c.in_ok-rest.rest count interrupted c.args.self.now.bits (bits_in c.ones.self-inside.source.now) (bits_in c.bit.new.self) (bits_in c.bits.new.self) rest
          c.ones.invariant.in_run c.ones.invariant.short zero mid small ends e in
          absurd (omega (arith, same.3, c.in_err-accept_break.ensures.fault.1));
      breaks = c.ones.invariant.breaks _ (no_room c.in_ok-rest.rest (bits_in c.bits.new.self) (zero ∙ ap (λ x. false ∷ x) mid) small
          c.in_err-accept_break.ensures.fault.1 c.in_err-accept_break.ensures.fault.0);
    })

pub returns-clause-run : goal.returns-clause-run
returns-clause-run c =
    let width : ℕ = order c.ones.self-inside.state.now.run_index in
    let mid = subst (λ n. (bits_in c.bit.new.self) ≡ bits_of n c.in_ok-rest.rest ++ (bits_in c.bits.new.self)) c.break_width.ensures.value c.in_ok-rest.ensures.ok in
    let small : c.in_ok-rest.rest < 2 ^ width = subst (λ n. c.in_ok-rest.rest < 2 ^ n) c.break_width.ensures.value c.in_ok-rest.ensures.value in
    let zero = bit_is_zero _ _ _ c.in_ok-bit.ensures.ok c.in_ok-bit.ensures.value c.if-branch-eq1.false in
    record {
      within = record { full = λ e. absurd (true≢false e); short = λ e. omega (arith, c.in_ok-accept_break.ensures.ok, c.ones.invariant.short) };
      bits = break_read c.args.left c.ones.count c.args.self.now.state.run_index c.ones.self-inside.state.now.run_index c.in_ok-rest.rest c.args.self.now.bits (bits_in c.ones.self-inside.source.now) (bits_in c.bit.new.self) (bits_in c.bits.new.self)
          c.ones.invariant.in_run zero mid small;
      state = c.in_ok-accept_break.ensures.state ∙ c.ones.invariant.states c.in_ok-rest.rest true;
      only = λ count interrupted rest ends e.
          let same = only_break c.args.left c.ones.count c.args.self.now.state.run_index c.ones.self-inside.state.now.run_index c.in_ok-rest.rest count interrupted c.args.self.now.bits (bits_in c.ones.self-inside.source.now) (bits_in c.bit.new.self) (bits_in c.bits.new.self) rest
          c.ones.invariant.in_run c.ones.invariant.short zero mid small ends e in
          (same.0, same.1, same.2);
    }
