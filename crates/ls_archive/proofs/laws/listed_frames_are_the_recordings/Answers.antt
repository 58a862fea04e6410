use Rattle.ls_archive.proofs.ListedLaws.{shown_are_frames}
use Rattle.ls_archive.proofs.laws.listed_frames_are_the_recordings.Goals as goal

pub returns : goal.returns
returns c = shown_are_frames
