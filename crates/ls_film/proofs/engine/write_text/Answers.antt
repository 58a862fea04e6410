use Rattle.std.proofs.Common.{◌≡◌, subst}
use Rattle.ls_film.specs.Film.{most_frames}
use Rattle.ls_film.specs.View.Engine.{HasRun}
use Rattle.ls_film.proofs.EngineLemmas.{HasRun-most}
use Rattle.ls_film.proofs.engine.write_text.Goals as goal

pub returns-in-Ok-Some-clause-stops : goal.returns-in-Ok-Some-clause-stops
returns-in-Ok-Some-clause-stops g c = λ place stands.
    let all : c.in_ok-run.run'.frames ≡ most_frames = c.in_ok-run.ensures.most.1 c.if-run.false in
    let ran = c.in_ok-run.ensures.run place stands c.if-run.false in
    let i = ran.1 in
    let next = rw c.in-Ok-Some.field-0-is at (c.in-Ok-Some.ensures.gives i.0 i.1) in
    let run = subst (λ n. HasRun g.I.Images.image g.X.Text.text place i.0 (g.W.Write.contents c.args.writer.now) (g.W.Write.contents c.write_at_most.new.writer) n ran.0) all i.2 in
    (next.0, next.1, HasRun-most g.I.Images.image g.X.Text.text place i.0 next.0 _ _ ran.0 next.2 run next.3)
