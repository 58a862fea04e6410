use Rattle.std.proofs.Common.{ap, ◌∙◌}
use Rattle.ls_files.specs.View.Files.{held_by_target}
use Rattle.ls_reading.proofs.StatusLemmas.{concluded, done_before, flushed, has-coded}
use Rattle.ls_reading.proofs.films.code_made.Goals as goal

pub returns-clause-status : goal.returns-clause-status
returns-clause-status g c = flushed _ _ c.of.ensures.status (concluded _ _ c.conclude-status.ensures)

pub returns-clause-codes : goal.returns-clause-codes
returns-clause-codes g c = λ done.
    let coded = c.replace_with-result.ensures in
    has-coded _ _ _ _ _ _ _ _ _ c.conclude-status.result _
    (ap (held_by_target g.O.File.Write.contents) c.new.ensures.inner) (ap (held_by_target g.O.File.Write.contents) (c.of.ensures.index ∙ c.end_index-ended.ensures.target))
    c.conclude-status.ensures coded.0 (done_before _ _ c.of.ensures.status done) (c.end_index-ended.ensures.whole (c.of.ensures.whole done))
