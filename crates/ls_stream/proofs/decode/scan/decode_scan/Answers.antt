use Rattle.std.proofs.Common.{◌≡◌, ℕ, ◌≤◌, ◌++◌, get_or, sym, ◌∙◌, subst, arith}
use Rattle.ls_frame.specs.Parameters.{Parameters}
use Rattle.ls_stream.specs.Planes.{plane_bits}
use Rattle.ls_stream.specs.Components.{component_plane}
use Rattle.ls_stream.proofs.ScanReadingLemmas.{is_sample_plane}
use Rattle.ls_stream.proofs.decode.scan.decode_scan.Goals as goal

pub returns-then-left-ge16-clause-fault : goal.returns-then-left-ge16-clause-fault
returns-then-left-ge16-clause-fault g c =
    let p : Parameters = c.args.presets.now in
    let width : ℕ = c.args.shape.width in
    let count : ℕ = c.args.shape.components in
    let component : ℕ = c.args.component in
    let new = (g.S.Sample.numbers c.decode_plane-read.new.samples) in
    let coder : c.new-decoder.result.state.parameters ≡ p = c.new-decoder.ensures.parameters in
    let some : 1 ≤ count = omega (arith, c.requires.component) in
    record {
      plane = component_plane width count component new;
      is_plane = is_sample_plane p.maxval width c.args.shape.height count component new some (c.in_default.ensures.len ∙ c.requires.samples)
          (subst (λ (q : Parameters). (k : ℕ) → get_or new k 0 ≤ q.maxval) coder c.in_default.ensures.small);
      more = c.decode_plane-read.new.decoder.bits;
      many = omega (arith, c.left.ensures, c.if-left-ge16.true);
      whole = sym (c.new-decoder.ensures.bits ∙ c.new-source.ensures)
          ∙ subst (λ (q : Parameters). c.new-decoder.result.bits ≡ plane_bits q (component_plane width count component new) ++ c.decode_plane-read.new.decoder.bits) coder c.in_default.ensures.plane;
    }
