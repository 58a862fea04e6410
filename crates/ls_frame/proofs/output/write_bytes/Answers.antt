use Rattle.std.proofs.Common.{◌≡◌, ◌+◌, ◌-◌, ◌++◌, length, take, drop, sym, ap, subst, ◌∙◌, arith, rules}
use Rattle.std.proofs.KnownBytes.{Appends-trans}
use Rattle.std.proofs.lemmas.List.{take_rest}
use Rattle.std.proofs.Math.Seq.{take-add}
use Rattle.std.specs.Io.KnownBytes.{Appends}
use Rattle.ls_frame.proofs.output.write_bytes.Goals as goal

pub loop-written-preserved : goal.loop-written-preserved
loop-written-preserved g c =
    let bytes = c.args.bytes.now in
    let written = c.loop-written.written in
    let taken = c.in-Ok.taken in
    let together : take written bytes ++ take taken (take (length bytes - written) (drop written bytes)) ≡ take (written + taken) bytes =
    ap (λ rest. take written bytes ++ take taken rest) (take_rest bytes written) ∙ sym (take-add written taken bytes) in
    let more = Appends-trans _ _ _ _ _ c.loop-written.invariant.out c.in-Ok.ensures.bytes in
    record {
      within = omega (arith, c.in-Ok.ensures.bound);
      out = subst (Appends (g.W.Write.contents c.args.writer.now) (g.W.Write.contents c.give.new.self)) together more;
      failures = search rules;
    }
