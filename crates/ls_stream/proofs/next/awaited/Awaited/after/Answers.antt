use Rattle.std.proofs.Common.{sym, subst}
use Rattle.ls_stream.specs.View.Places.{Ends}
use Rattle.ls_stream.proofs.PlaceLemmas.{start_other, start_other_code, marker_other, ends_high}
use Rattle.ls_stream.proofs.next.awaited.Awaited.after.Goals as goal

pub returns-else-byte-eq255-clause-ends : goal.returns-else-byte-eq255-clause-ends
returns-else-byte-eq255-clause-ends c = subst (λ place. Ends place c.args.byte) (sym c.in-Start.is) (start_other c.args.byte c.if-byte-eq255.false)

pub returns-else-byte-eq216-clause-ends : goal.returns-else-byte-eq216-clause-ends
returns-else-byte-eq216-clause-ends c = subst (λ place. Ends place c.args.byte) (sym c.in-StartCode.is) (start_other_code c.args.byte c.if-byte-eq216.false)

pub returns-else-byte-eq255-2-clause-ends : goal.returns-else-byte-eq255-2-clause-ends
returns-else-byte-eq255-2-clause-ends c = subst (λ place. Ends place c.args.byte) (sym c.in-Marker.is) (marker_other c.args.byte c.if-byte-eq255-2.false)

pub returns-else-byte-lt128-clause-ends : goal.returns-else-byte-lt128-clause-ends
returns-else-byte-lt128-clause-ends c =
    ends_high c.args.self c.args.byte c.after_code-else-byte-lt128.result c.in-DataCode.is c.if-byte-lt128.false c.after_code-else-byte-lt128.ensures.ends
