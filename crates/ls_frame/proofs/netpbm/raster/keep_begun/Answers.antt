use Rattle.std.proofs.Common.{sym, inl, inr, arith}
use Rattle.ls_frame.proofs.RasterLemmas.{begun_of-none, begun_of-one}
use Rattle.ls_frame.proofs.netpbm.raster.keep_begun.Goals as goal

pub returns-then-not-wide-clause-kept : goal.returns-then-not-wide-clause-kept
returns-then-not-wide-clause-kept c = sym (begun_of-none c.args.wide c.args.chunk.now c.args.filled c.requires.within (inl c.if-not-wide.true))

pub returns-then-filled-eq0-clause-kept : goal.returns-then-filled-eq0-clause-kept
returns-then-filled-eq0-clause-kept c = sym (begun_of-none c.args.wide c.args.chunk.now c.args.filled c.requires.within (inr c.if-filled-eq0.true))

pub returns-clause-kept : goal.returns-clause-kept
returns-clause-kept c = rw c.if-not-wide.false (begun_of-one c.args.chunk.now c.args.filled c.requires.some c.requires.within (omega arith))
