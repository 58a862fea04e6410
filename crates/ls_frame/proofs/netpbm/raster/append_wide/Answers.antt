use Rattle.std.proofs.Common.{◌*◌, ◌∙◌, ap, arith, rules}
use Rattle.std.proofs.lemmas.List.{take_rest}
use Rattle.byteorder.specs.Endian.{big_number}
use Rattle.ls_frame.proofs.RasterLemmas.{samples_of-more, samples_of-all}
use Rattle.ls_frame.proofs.netpbm.raster.append_wide.Goals as goal

pub loop-i-preserved : goal.loop-i-preserved
loop-i-preserved c = record {
  said = rw c.push_reserved.ensures.items
      (samples_of-more c.loop-i.samples.items c.args.bytes.now _ c.loop-i.i c.read_u16.result c.loop-i.invariant.said c.loop-i-test.true
      (c.read_u16.ensures ∙ ap (big_number 2) (take_rest c.args.bytes.now (2 * c.loop-i.i))));
  count = search rules;
  room = search rules;
}

pub returns-clause-items : goal.returns-clause-items
returns-clause-items c = samples_of-all c.loop-i.samples.items c.args.bytes.now _ c.loop-i.i c.loop-i.invariant.said (omega arith)
