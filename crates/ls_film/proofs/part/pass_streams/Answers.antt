use Rattle.std.proofs.Common.{rules, arith}
use Rattle.ls_film.specs.View.Codestreams.{IsUnread}
use Rattle.ls_film.specs.declared.codestreams.Unread.TheVariants as unread
use Rattle.ls_film.proofs.PartLemmas.{passed-more, stops-passing}
use Rattle.ls_film.proofs.part.pass_streams.Goals as goal

pub loop-number-preserved : goal.loop-number-preserved
loop-number-preserved g c = record {
  passed = passed-more _ _ _ c.loop-number.number c.loop-number.invariant.passed (c.in-Ok-true.ensures.passed c.in-Ok-true.field-0-test);
  reads = search rules;
}

pub returns-in-Err-Stream-clause-stops : goal.returns-in-Err-Stream-clause-stops
returns-in-Err-Stream-clause-stops g c =
    let read = g.R.Read.remaining c.loop-number.reader in
    let read' = g.R.Read.remaining c.pass_codestream.new.reader in
    let fault = c.in-Err-Stream.fault in
    let why : IsUnread (unread.Stream fault) read read' = rw c.in-Err-Stream.field-0-is at c.in-Err-Stream.ensures.stops in
    rw (c.of.ensures, c.in-Err-Stream.field-0-is)
    (stops-passing (g.R.Read.remaining c.args.reader.now) read read' c.args.count c.loop-number.number fault (omega arith) c.loop-number.invariant.passed why)
