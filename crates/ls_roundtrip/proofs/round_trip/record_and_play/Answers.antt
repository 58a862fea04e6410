use Rattle.std.proofs.Common.{◌≡◌, length, arith}
use Rattle.ls_roundtrip.proofs.RoundTripLemmas.{all_back}
use Rattle.ls_recorder.proofs.ListLemmas.{zip-length}
use Rattle.ls_recorder.proofs.RecordingLemmas.{each-track}
use Rattle.ls_roundtrip.proofs.round_trip.record_and_play.Goals as goal

pub play_all-requires-clause-room : goal.play_all-requires-clause-room
play_all-requires-clause-room g c =
    let many : length c.in-Ok-unrecorded.unrecorded.items ≡ length c.in-Ok-record.recording.tracks.items = zip-length _ _ _ (each-track _ _ _ _ _ _ _ _ c.in-Ok-record.ensures.tracks) in
    omega (arith, many, c.in-Ok-unrecorded.ensures.len, c.in-Ok.ensures.capacity, c.len.ensures)

pub returns-in-Ok-record-clause-comes_back : goal.returns-in-Ok-record-clause-comes_back
returns-in-Ok-record-clause-comes_back g c =
    all_back c.default_parameters_are_legal.ensures.maxval c.parameters_are_legal_or_at_fault.ensures.legal c.no_image_begins_another.ensures c.images_have_one_frame.ensures
    _ _ c.args.films.items _ _ _ _ _ c.in-Ok-unrecorded.ensures.are c.in-Ok-record.ensures.tracks c.play_all.ensures
