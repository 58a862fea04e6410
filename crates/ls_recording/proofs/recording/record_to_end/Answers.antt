use Rattle.std.proofs.lemmas.Result.{IfOk-weaker}
use Rattle.ls_recorder.proofs.RecordingLemmas.{each-track}
use Rattle.ls_recording.proofs.RecordedLemmas.{all-tracked}
use Rattle.ls_recording.proofs.recording.record_to_end.Goals as goal

pub returns : goal.returns
returns g c = record {
  tracks =
      IfOk-weaker c.record-recorded.result _ _
      (λ recording tracks. all-tracked g.F.Read.remaining g.F.Feed.failed_reads g.W.Write.contents g.W.Outlet.failed_writes c.args.films.items recording.tracks.items
      (each-track g.F.Read.remaining g.F.Feed.failed_reads g.W.Write.contents g.W.Outlet.failed_writes recording.account.counts 0 c.args.films.items recording.tracks.items tracks))
      c.record-recorded.ensures.tracks;
  refused = c.record-recorded.ensures.refused;
}
