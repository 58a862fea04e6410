use Rattle.ls_film.specs.View.Codestreams.{IsTaken}
use Rattle.ls_film.proofs.CodestreamLemmas.{had-bytes}
use Rattle.ls_archive.proofs.EntryLemmas.{entry_given, breaks_by, stops_by, stops_untaken}
use Rattle.ls_archive.proofs.entry.Indexed.next.Goals as goal

pub returns-in-Err-Stream-clause-stops : goal.returns-in-Err-Stream-clause-stops
returns-in-Err-Stream-clause-stops g c =
    let untaken = rw c.in-Err-Stream.field-0-is at c.in-Err-Stream.ensures.untaken in
    rw c.of.ensures (stops_untaken (g.R.Read.remaining c.args.reader.now) (g.R.Read.remaining c.take_codestream.new.reader) c.args.number c.in-Err-Stream.fault untaken)

pub returns-in-Ok-clause-entry : goal.returns-in-Ok-clause-entry
returns-in-Ok-clause-entry g c =
    let taken : IsTaken (g.R.Read.remaining c.args.reader.now) (g.R.Read.remaining c.take_codestream.new.reader) c.in-Ok-Some.bytes.items = rw c.in-Ok-Some.field-0-is at c.in-Ok-Some.ensures.taken in
    let has = rw c.deref.ensures.value at c.in-Ok.ensures.ok in
    entry_given _ _ c.in-Ok-Some.bytes.items c.in-Ok.headers taken.gave has

pub returns-in-Err-clause-stops : goal.returns-in-Err-clause-stops
returns-in-Err-clause-stops g c =
    let read = g.R.Read.remaining c.args.reader.now in
    let read' = g.R.Read.remaining c.take_codestream.new.reader in
    let taken : IsTaken read read' c.in-Ok-Some.bytes.items = rw c.in-Ok-Some.field-0-is at c.in-Ok-Some.ensures.taken in
    let some = had-bytes read read' c.in-Ok-Some.bytes.items taken in
    rw c.of-in-Err.ensures (stops_by _ c.args.number c.in-Err.fault some
    (breaks_by read read' c.in-Ok-Some.bytes.items c.deref.result.now c.in-Err.fault c.deref.ensures.value some taken.complete taken.outline c.in-Err.ensures.none c.in-Err.ensures.fault))
