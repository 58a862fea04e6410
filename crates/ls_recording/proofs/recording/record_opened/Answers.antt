use Rattle.std.proofs.Common.{◌≡◌, sym, ◌∙◌}
use Rattle.ls_console.specs.declared.output.TheConstants.{DONE}
use Rattle.ls_recording.proofs.RecordedLemmas.{finished}
use Rattle.ls_recording.proofs.recording.record_opened.Goals.{in-Some, in-None}
use Rattle.ls_recording.proofs.recording.record_opened.Goals as goal

pub returns : goal.returns
returns g c = λ done.
    let status : c.finish_films-status.result.status ≡ DONE =
    elim c.match-report-15.branch [ in-Some w ↦ w.worse.ensures (sym w.result-is ∙ done) | in-None w ↦ sym w.result-is ∙ done ] in (
      c.finish_films-status.result.files.items,
      finished g.O.File.Read.remaining g.O.File.Write.contents g.O.Makes.kept c.args.asked.now.count c.args.opened.devices.items c.record_watched-recorded.result c.finish_films-status.result.files.items
          c.record_watched-recorded.ensures (c.finish_films-status.ensures status),
    )
