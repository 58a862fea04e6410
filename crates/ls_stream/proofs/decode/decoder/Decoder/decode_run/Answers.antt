use Rattle.std.proofs.Common.{true, true≢false}
use Rattle.ls_stream.specs.View.Decoding.{EndsInLine}
use Rattle.ls_stream.proofs.PlaneLaws.{run_once}
use Rattle.ls_stream.proofs.decode.decoder.Decoder.decode_run.Goals as goal

pub returns-in-Some-clause-run : goal.returns-in-Some-clause-run
returns-in-Some-clause-run c =
    let ends : EndsInLine c.args.left c.in-Some.count true = record { full = λ e. absurd (true≢false e); short = λ e. c.in-Some.ensures.short } in
    record {
      within = ends;
      bits = c.in-Some.ensures.bits;
      state = c.in-Some.ensures.state;
      only = run_once c.args.self.now.state.run_index c.args.left c.in-Some.count true c.args.self.now.bits c.decode_short_run.new.self.bits ends c.in-Some.ensures.bits;
    }
