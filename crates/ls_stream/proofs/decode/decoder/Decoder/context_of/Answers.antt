use Rattle.std.proofs.Common.{pos, neg_ℤ, ◌≤ℤ◌, sym, subst}
use Rattle.ls_coding.proofs.ContextLemmas.{half_range}
use Rattle.ls_stream.proofs.DecodingLemmas.{half_passed}
use Rattle.ls_stream.proofs.decode.decoder.Decoder.context_of.Goals as goal

pub whole_context-requires-clause-half_low : goal.whole_context-requires-clause-half_low
whole_context-requires-clause-half_low c =
    let p = c.args.self.now.state.parameters in
    let n = c.args.neighbours.now in
    subst (λ z. neg_ℤ (pos 360) ≤ℤ z) (sym (half_passed p n.b n.c n.d c.args.half c.requires.half)) (half_range p n.b n.c n.d).0

pub whole_context-requires-clause-half_high : goal.whole_context-requires-clause-half_high
whole_context-requires-clause-half_high c =
    let p = c.args.self.now.state.parameters in
    let n = c.args.neighbours.now in
    subst (λ z. z ≤ℤ pos 360) (sym (half_passed p n.b n.c n.d c.args.half c.requires.half)) (half_range p n.b n.c n.d).1
