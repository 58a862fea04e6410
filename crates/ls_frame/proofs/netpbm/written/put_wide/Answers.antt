use Rattle.std.proofs.Common.{true, refl, sym, arith, rules}
use Rattle.ls_frame.proofs.ChunkLemmas.{raster_bytes-nil, wide-more}
use Rattle.ls_frame.proofs.netpbm.written.put_wide.Goals as goal

pub loop-i-init : goal.loop-i-init
loop-i-init c = record { laid = sym (raster_bytes-nil true); room = refl }

pub loop-i-preserved : goal.loop-i-preserved
loop-i-preserved c = record {
  laid = wide-more c.loop-i.chunk c.args.samples.now c.loop-i.i c.loop-i-test.true (omega (arith, c.loop-i.invariant.room, c.requires)) c.loop-i.invariant.laid;
  room = search rules;
}
