use Rattle.std.proofs.Common.{◌-◌, ◌++◌, length, take, drop, sym, ap, subst, ◌∙◌, arith, length-take}
use lib.Seq.{take-add, take-take}
use Rattle.std.specs.Io.KnownBytes.{Appends}
use Rattle.std.proofs.KnownBytes.{Appends-trans}
use Rattle.ls_console.proofs.lines.write_out.Goals as goal

pub loop-written-preserved : goal.loop-written-preserved
loop-written-preserved g c =
    let done = c.loop-written.written in
    let taken = c.in-Ok.taken in
    let bytes = c.args.bytes.now in
    let before = c.loop-written.invariant in
    let bound = c.in-Ok.ensures.bound in
    let most = length-take (length bytes - done) (drop done bytes) in
    let joined = ap (λ l. take done bytes ++ l) (take-take taken (length bytes - done) (drop done bytes) (omega arith)) ∙ sym (take-add done taken bytes) in
    (omega arith, subst (Appends _ _) joined (Appends-trans _ _ _ _ _ before.1 c.in-Ok.ensures.bytes))
