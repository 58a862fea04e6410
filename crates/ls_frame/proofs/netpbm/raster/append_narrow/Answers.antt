use Rattle.std.proofs.Common.{◌++◌, ap, ◌∙◌, arith}
use Rattle.std.proofs.lemmas.List.{take_all}
use Rattle.ls_frame.specs.View.Reading.{samples_of}
use Rattle.ls_frame.proofs.netpbm.raster.append_narrow.Goals as goal

pub returns-clause-items : goal.returns-clause-items
unfolding samples_of
returns-clause-items c =
    c.loop-byte.invariant.said ∙ ap (λ s. c.args.samples.now.items ++ s) (take_all c.loop-byte.byte-index c.args.bytes.now (omega arith))
