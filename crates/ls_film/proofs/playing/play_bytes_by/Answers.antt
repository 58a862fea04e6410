use Rattle.std.proofs.Common.{ap, ◌∙◌}
use Rattle.ls_film.proofs.PlayLemmas.{none-failed}
use Rattle.ls_film.proofs.RecordedLemmas.{plays-all, plays-stopped}
use Rattle.ls_film.proofs.playing.play_bytes_by.Goals as goal

pub returns-in-Ok : goal.returns-in-Ok
returns-in-Ok g c =
    plays-all c.no_codestream_begins_another.ensures c.one_frame_each.ensures c.codestreams_spell_their_frames.ensures c.args.recording.now _ _ c.into_inner.result.items _
    (ap (λ v. v.items) c.new-2.ensures.inner ∙ c.new.ensures.items) (ap (λ v. v.items) c.into_inner.ensures) c.in-Ok.frames c.in-Ok.ensures.completes

pub returns-in-Err : goal.returns-in-Err
returns-in-Err g c =
    plays-stopped c.no_codestream_begins_another.ensures c.one_frame_each.ensures c.codestreams_spell_their_frames.ensures c.args.recording.now _ _ c.into_inner-in-Err.result.items _
    (ap (λ v. v.items) c.new-2.ensures.inner ∙ c.new.ensures.items) (ap (λ v. v.items) c.into_inner-in-Err.ensures) c.in-Err.fault (none-failed c.in-Err.fault c.in-Err.ensures.reads) c.in-Err.ensures.stops.2
