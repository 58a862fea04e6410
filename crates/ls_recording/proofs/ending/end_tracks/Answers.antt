use Rattle.std.proofs.Common.{◌≡◌, ◌≢◌, ◌<◌, ◌∷◌, [], ◌++◌, false, true, length, rules, arith, refl, sym, subst, ◌∙◌}
use Rattle.std.specs.List.{AllZip}
use Rattle.std.specs.Vec.{vec_len}
use Rattle.std.proofs.lemmas.Bool.{eqb-true, eqb-false}
use Rattle.ls_recording.specs.View.Films.{IsWhole}
use Rattle.ls_recording.proofs.RecordedLemmas.{and_left, and_right, none-left, taken-first, zipped-if-more, zipped-if-all}
use Rattle.ls_recording.proofs.ending.end_tracks.Goals.{then-not-is_empty+in_ok-push, else-not-is_empty}
use Rattle.ls_recording.proofs.ending.end_tracks.Goals as goal

pub loop-film-init : goal.loop-film-init
loop-film-init g c = ([], refl, λ so. subst (λ l. AllZip (IsWhole c.args.count) [] l) (sym c.new-files.ensures.items) _)

pub remove-track-requires : goal.remove-track-requires
remove-track-requires g c =
    let is : c.is_empty.result ≡ false = search rules in
    let ne : vec_len c.loop-film.tracks ≢ 0 = eqb-false _ 0 (sym c.is_empty.ensures ∙ is) in
    omega (arith, ne)

pub loop-film-preserved : goal.loop-film-preserved
loop-film-preserved g c =
    let before = c.loop-film.invariant in
    elim c.if-not-is_empty.branch [
      | then-not-is_empty+in_ok-push w ↦
          let left = c.loop-film.tracks.items in
          let some : 0 < length left = omega (arith, w.remove-track.ensures.len, c.loop-film.tracks.ok) in
          let first : left ≡ w.remove-track.result ∷ w.remove-track.new.self.items = taken-first left _ _ some w.remove-track.ensures.value w.remove-track.ensures.items in
          let more : w.push.new.self.items ≡ c.loop-film.files.items ++ w.say_end-end.result.files ∷ [] = search rules in
          rw w.tracks-is (rw w.files-is (rw w.are_whole-is (rw more
          (zipped-if-more (IsWhole c.args.count) c.loop-film.are_whole w.say_end-end.result.is_whole c.args.tracks.items left w.remove-track.new.self.items c.loop-film.files.items w.remove-track.result
          w.say_end-end.result.files before first w.say_end-end.ensures.whole))))
      | else-not-is_empty w ↦ rw w.tracks-is (rw w.files-is (rw w.are_whole-is before))
    ]

pub returns : goal.returns
returns g c = λ so.
    let left = c.loop-film.tracks.items in
    let empty : c.is_empty-2.result ≡ true = and_right c.loop-film.are_whole c.is_empty-2.result so in
    let none : length left ≡ 0 = omega (arith, eqb-true _ 0 (sym c.is_empty-2.ensures ∙ empty), c.loop-film.tracks.ok) in
    zipped-if-all (IsWhole c.args.count) c.loop-film.are_whole c.args.tracks.items left c.loop-film.files.items c.loop-film.invariant (and_left c.loop-film.are_whole c.is_empty-2.result so) (none-left left none)
