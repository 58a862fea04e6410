use Rattle.std.proofs.Common.{◌≡◌, ap, length, arith, drop, []}
use Rattle.std.proofs.lemmas.List.{drop_all}
use Rattle.ls_bits.specs.Stuffing.{unstuff_from}
use Rattle.ls_bits.specs.View.Packing.{BitsLeft, byte_bits, bits_left}
use Rattle.ls_bits.proofs.WindowLemmas.{length-held, length-byte_more}
use Rattle.ls_bits.proofs.stuffed.Stuffed.left.Goals as goal

pub loop-byte-init : goal.loop-byte-init
loop-byte-init c =
    let seen : length (bits_left c.self.inside.word c.self.inside.held c.self.inside.after_ff c.self.inside.rest.now) ≡ length c.args.self.now.bits =
    ap (λ (w : BitsLeft). length w.bits) c.self.view_is in
    (omega (arith, seen, length-held c.self.inside.word c.self.inside.held c.self.inside.after_ff c.self.inside.rest.now, c.from-left.ensures), omega arith)

pub loop-byte-preserved : goal.loop-byte-preserved
loop-byte-preserved c =
    (omega (arith, c.loop-byte.invariant.0, length-byte_more (byte_bits c.loop-byte.after_ff) c.loop-byte.byte-index c.self.inside.rest.now c.loop-byte-test.true), omega arith)

pub returns : goal.returns
returns c =
    let none : drop c.loop-byte.byte-index c.self.inside.rest.now ≡ [] = drop_all c.loop-byte.byte-index c.self.inside.rest.now c.loop-byte-test.false in
    let nothing : length (unstuff_from (byte_bits c.loop-byte.after_ff) (drop c.loop-byte.byte-index c.self.inside.rest.now)) ≡ 0 =
    ap (λ bytes. length (unstuff_from (byte_bits c.loop-byte.after_ff) bytes)) none in
    omega (arith, c.loop-byte.invariant.0, c.loop-byte.invariant.1)
