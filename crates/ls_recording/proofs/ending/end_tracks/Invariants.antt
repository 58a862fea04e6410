use Rattle.ls_recording.specs.View.Films.{IsWhole}
use Rattle.ls_recording.proofs.RecordedLemmas.{ZippedIf}
use Rattle.ls_recording.proofs.ending.end_tracks.Given as goal

-- the files of the first tracks are there, which are whole if all are, and the other tracks remain
abbrev pub invariant-loop-film : goal.invariant-loop-film
invariant-loop-film g l = ZippedIf (IsWhole l.fn.count) l.are_whole l.fn.tracks.items l.tracks.items l.files.items
