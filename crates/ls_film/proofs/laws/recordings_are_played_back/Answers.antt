use Rattle.std.proofs.Common.{◌≡◌, ◌≤◌, List, [], ℕ, Some, length, sym, ap, subst, ◌∙◌}
use Rattle.std.specs.Io.KnownBytes.{Appends}
use Rattle.std.proofs.lemmas.List.{length-map}
use Rattle.std.proofs.lemmas.Result.{IfOk-weaker, MatchResult-weaker}
use Rattle.ls_frame.specs.View.Devices.{wrapped}
use Rattle.ls_film.specs.Coding.{with_defaults, default_file}
use Rattle.ls_film.specs.Film.{most_frames}
use Rattle.ls_film.specs.Showing.{show}
use Rattle.ls_film.proofs.RecordedLemmas.{defaults_codable, defaults_frames}
use Rattle.ls_film.proofs.laws.recordings_are_played_back.Goals as goal

pub returns : goal.returns
returns g c = IfOk-weaker c.code_film-coded.result _ _ (λ n run.
    let law = c.default_parameters_are_legal.ensures in
    let frames = run.frames in
    let none : (wrapped c.new-writer.result).items ≡ [] = ap (λ v. v.items) c.new-writer.ensures.inner ∙ c.new.ensures.items in
    let out : (wrapped c.code_film-coded.new.writer).items ≡ c.into_inner-recording.result.items = sym (ap (λ v. v.items) c.into_inner-recording.ensures) in
    let wrote : c.into_inner-recording.result.items ≡ default_file frames =
    subst (λ (now : List ℕ). Appends (Some []) (Some now) (default_file frames)) out
    (subst (λ (start : List ℕ). Appends (Some start) (Some (wrapped c.code_film-coded.new.writer).items) (default_file frames)) none run.wrote) in
    let count : length (with_defaults frames) ≡ length frames = length-map frames _ in
    let codable = defaults_codable law.legal law.maxval frames run.lawful in
    let few : length (with_defaults frames) ≤ most_frames = rw count run.few in
    let played = c.play_bytes-shown.ensures.recorded (with_defaults frames) few codable (c.deref.ensures.value ∙ wrote) in
    let shown = MatchResult-weaker c.play_bytes-shown.result.1 played
    (λ m is. (is.0 ∙ count ∙ run.count, is.1 ∙ ap show (defaults_frames frames))) (λ fault refused. refused) in
    (frames, run.lawful, run.gave, shown)
    ) c.code_film-coded.ensures.completes
