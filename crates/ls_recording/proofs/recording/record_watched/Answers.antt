use contract.BorrowLft.{⊑_meet, ⊑_static}
use Rattle.ls_frame.specs.contracts.device.Counted.{the_row as counted_row}
use Rattle.ls_opening.specs.contracts.pieces.Cutting.{the_row as cutting_row}
use Rattle.ls_opening.specs.contracts.pieces.Pieces.{the_row as pieces_row}
use Rattle.ls_recording.specs.contracts.watching.times.TimesFile.{the_row as times_file_row}
use Rattle.ls_recording.proofs.LivesLemmas.{counted, cutting, film, named-so, over, pending, pieces, times-file, watch}
use Rattle.ls_recording.proofs.recording.record_watched.Goals as goal

pub record_beside-requires-lives-G : goal.record_beside-requires-lives-G
record_beside-requires-lives-G g c κs within =
    let κ = κs.1.1.1.1.1.1.1.0 in
    let r = within.1.1.0 in
    let o = within.1.1.1.0 in
    let d = within.1.1.1.1.0 in
    let f = within.1.1.1.1.1.0 in
    ⊑_meet κ _ _ (⊑_meet κ _ _ r (over κ g.row.O g.row.O-Finished g.row.O-File o d f)) (⊑_meet κ _ _ (⊑_meet κ _ _ within.0.0 (watch κ (named-so κs.1.1.1.1.1.1.1.1.1.1.1.1.1.0) g.row.R within.0.1.0 r))
    (⊑_meet κ _ _ (⊑_meet κ _ _ within.0.1.1.0 (⊑_static κ)) (⊑_meet κ _ _ (⊑_meet κ _ _ within.0.1.1.1.0
    (pending κ (times_file_row (named-so κs.1.1.1.1.1.1.1.1.1.1.1.1.1.1.1.1.0) g.row.O g.row.O-File) (cutting_row (named-so κs.1.1.1.1.1.1.1.1.1.1.1.1.1.1.1.1.0) g.row.O g.row.O-Finished g.row.O-File) (times-file κ (named-so κs.1.1.1.1.1.1.1.1.1.1.1.1.1.1.1.1.0) g.row.O g.row.O-Finished g.row.O-File within.0.1.1.1.1.0 o d f)
    (cutting κ (named-so κs.1.1.1.1.1.1.1.1.1.1.1.1.1.1.1.1.0) g.row.O g.row.O-Finished g.row.O-File within.0.1.1.1.1.0 o d f))) (⊑_static κ))))

pub record_beside-requires-lives-W : goal.record_beside-requires-lives-W
record_beside-requires-lives-W g c κs within =
    counted _ (pieces_row (named-so κs.1.1.1.1.1.1.1.1.1.1.1.1.1.1.1.1.1.1.1.0) g.row.O g.row.O-Finished g.row.O-File) (pieces _ (named-so κs.1.1.1.1.1.1.1.1.1.1.1.1.1.1.1.1.1.1.1.0) g.row.O g.row.O-Finished g.row.O-File
    within.0.1.1.1.1.1.1.1.0 within.1.1.1.1.1.1.1.1.0 within.1.1.1.1.1.1.1.1.1.0 within.1.1.1.1.1.1.1.1.1.1.0)

pub record_beside-requires-lives-K : goal.record_beside-requires-lives-K
record_beside-requires-lives-K g c κs within =
    let κ = κs.1.1.1.1.1.1.1.1.1.1.0 in
    let r = within.1.1.1.1.1.1.1.1.1.1.1.0 in
    let o = within.1.1.1.1.1.1.1.1.1.1.1.1.0 in
    let d = within.1.1.1.1.1.1.1.1.1.1.1.1.1.0 in
    let f = within.1.1.1.1.1.1.1.1.1.1.1.1.1.1.0 in
    let captured = ⊑_meet κ _ _ (⊑_meet κ _ _ within.0.1.1.1.1.1.1.1.1.0 r) (⊑_meet κ _ _ o (⊑_meet κ _ _ (⊑_meet κ _ _ within.0.1.1.1.1.1.1.1.1.1.0 (watch κ (named-so κs.1.1.1.1.1.1.1.1.1.1.1.1.1.1.1.1.1.1.1.1.1.1.0) g.row.R within.0.1.1.1.1.1.1.1.1.1.1.0 r))
    (⊑_meet κ _ _ (⊑_meet κ _ _ within.0.1.1.1.1.1.1.1.1.1.1.1.0 (film κ (named-so κs.1.1.1.1.1.1.1.1.1.1.1.1.1.1.1.1.1.1.1.1.1.1.1.1.0) g.row.O g.row.O-Finished g.row.O-File within.0.1.1.1.1.1.1.1.1.1.1.1.1.0 o d f)) (⊑_static κ)))) in
    ⊑_meet κ _ _ captured captured
