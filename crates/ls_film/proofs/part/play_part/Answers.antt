use Rattle.std.specs.Prelude.{IsTrue}
use Rattle.std.proofs.KnownBytes.{Appends-nil}
use Rattle.std.proofs.Common.{◌+◌, inl, ap, arith, subst, rules}
use Rattle.ls_film.specs.declared.engine.Run.{Run}
use Rattle.ls_film.specs.View.Parts.{GavePassed, LacksPart}
use Rattle.ls_film.proofs.part.play_part.Goals.{then-is_none+else-run-gt0, else-is_none}
use Rattle.ls_film.proofs.PartLemmas.{lacks-first, lacks-last, ends-early, early-shown, part-shown, part-few, part-unpassed, part-unshown}
use Rattle.ls_film.proofs.part.play_part.Goals as goal

pub returns-in-Err-clause-stops : goal.returns-in-Err-clause-stops
returns-in-Err-clause-stops g c = inl (c.in-Err.ensures.stops, Appends-nil (g.W.Write.contents c.args.writer.now))

pub returns-in-Err-clause-film : goal.returns-in-Err-clause-film
returns-in-Err-clause-film g c = λ frames few told film.
    part-unpassed c.no_codestream_begins_another.ensures c.one_frame_each.ensures _ frames few told film _ c.args.part.first c.in-Err.fault c.in-Err.ensures.stops

pub returns-then-passed-clause-stops : goal.returns-then-passed-clause-stops
returns-then-passed-clause-stops g c = ends-early _ _ _ c.args.part.first c.in-Ok.run'.frames c.args.part.last (c.in-Ok.ensures.lacks c.if-passed.true) c.requires.last c.in-Ok.ensures.passed (c.in-Ok.ensures.ended c.if-passed.true)

pub returns-then-passed-clause-film : goal.returns-then-passed-clause-film
returns-then-passed-clause-film g c = λ frames few told film.
    part-few c.no_codestream_begins_another.ensures c.one_frame_each.ensures _ frames few told film _ _ _ c.args.part.first c.in-Ok.run'.frames c.args.part.last (returns-then-passed-clause-stops g c)

pub returns-in-Ok-show_next-clause-film : goal.returns-in-Ok-show_next-clause-film
returns-in-Ok-show_next-clause-film g c = λ frames few told film.
    let passed = subst (GavePassed (g.R.Read.remaining c.args.reader.now) (g.R.Read.remaining c.pass_streams.new.reader)) (c.in-Ok.ensures.most.1 c.if-passed.false) c.in-Ok.ensures.passed in
    part-shown c.no_codestream_begins_another.ensures c.one_frame_each.ensures _ frames few told film _ _ _ c.args.part.first c.in-Ok-show_next.run'.frames
    (record { mid = _; passed = passed; shows = c.in-Ok-show_next.ensures.shows })

pub returns-in-Ok-2-clause-film : goal.returns-in-Ok-2-clause-film
returns-in-Ok-2-clause-film g c = λ frames few told film.
    let passed = subst (GavePassed (g.R.Read.remaining c.args.reader.now) (g.R.Read.remaining c.pass_streams.new.reader)) (c.in-Ok.ensures.most.1 c.if-passed.false) c.in-Ok.ensures.passed in
    part-shown c.no_codestream_begins_another.ensures c.one_frame_each.ensures _ frames few told film _ _ _ c.args.part.first c.in-Ok-show_next.run'.frames
    (record { mid = _; passed = passed; shows = c.in-Ok-show_next.ensures.shows })

pub returns-in-Ok-3-clause-stops : goal.returns-in-Ok-3-clause-stops
returns-in-Ok-3-clause-stops g c =
    let passed = subst (GavePassed (g.R.Read.remaining c.args.reader.now) (g.R.Read.remaining c.pass_streams.new.reader)) (c.in-Ok.ensures.most.1 c.if-passed.false) c.in-Ok.ensures.passed in
    let at_end : IsTrue c.in-Ok-show_next.run'.ended = search rules in
    let lacks : LacksPart c.args.part.first c.args.part.last (c.args.part.first + c.in-Ok-show_next.run'.frames) = elim c.if-is_none.branch [
      | then-is_none+else-run-gt0 w ↦
          lacks-first _ _ c.args.part.last c.is_none.result c.is_none.ensures w.if-is_none.true (omega (arith, ap (λ (run : Run). run.frames) c.in-Ok-2.run-is))
      | else-is_none w ↦
          lacks-last _ _ c.args.part.last c.is_none.result c.in-Ok-show_next.run'.ended c.is_none.ensures w.if-is_none.false c.in-Ok-show_next.ensures.lacks at_end
    ] in
    early-shown _ _ _ _ _ c.args.part.first c.in-Ok-show_next.run'.frames c.args.part.last passed c.in-Ok-show_next.ensures.shows lacks (c.in-Ok-show_next.ensures.ended at_end)

pub returns-in-Ok-3-clause-film : goal.returns-in-Ok-3-clause-film
returns-in-Ok-3-clause-film g c = λ frames few told film.
    part-few c.no_codestream_begins_another.ensures c.one_frame_each.ensures _ frames few told film _ _ _ c.args.part.first (c.args.part.first + c.in-Ok-show_next.run'.frames) c.args.part.last
    (returns-in-Ok-3-clause-stops g c)

pub returns-in-Err-show_next-clause-film : goal.returns-in-Err-show_next-clause-film
returns-in-Err-show_next-clause-film g c = λ frames few told film.
    let passed = subst (GavePassed (g.R.Read.remaining c.args.reader.now) (g.R.Read.remaining c.pass_streams.new.reader)) (c.in-Ok.ensures.most.1 c.if-passed.false) c.in-Ok.ensures.passed in
    part-unshown c.no_codestream_begins_another.ensures c.one_frame_each.ensures _ frames few told film _ _ _ c.args.part.first c.later.result
    (record { mid = _; passed = passed; alone = c.in-Err-show_next.fault; numbered = c.later.ensures; stops = c.in-Err-show_next.ensures.stops })
