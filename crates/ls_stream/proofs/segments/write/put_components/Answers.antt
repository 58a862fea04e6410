use Rattle.std.proofs.Common.{arith, rules}
use Rattle.ls_stream.proofs.LayoutLemmas.{component_more}
use Rattle.ls_stream.proofs.segments.write.put_components.Goals as goal

pub loop-component-preserved : goal.loop-component-preserved
loop-component-preserved g c = record {
  bytes = component_more (g.R.Room.items c.args.bytes.now) _ _ _ _ c.loop-component.component c.loop-component.invariant.bytes
      c.put_byte.ensures.items c.put_byte-in-loop-component.ensures.items c.put_byte-in-loop-component-2.ensures.items;
  len = omega (arith, c.loop-component.invariant.len);
  capacity = search rules;
  grown = g.met.R.Room.grown_twice _ _ _ c.loop-component.invariant.grown (g.met.R.Room.grown_twice _ _ _ c.put_byte.ensures.grown (g.met.R.Room.grown_twice _ _ _ c.put_byte-in-loop-component.ensures.grown c.put_byte-in-loop-component-2.ensures.grown));
}
