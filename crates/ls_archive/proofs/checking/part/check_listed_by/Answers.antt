use Rattle.ls_film.specs.View.Steps.{failed_by}
use Rattle.ls_archive.specs.View.CheckedLines.{blames_index, blames_recording}
use Rattle.ls_archive.proofs.CheckedPartLemmas.{part-reads-several}
use Rattle.ls_archive.proofs.checking.part.check_listed_by.Goals as goal

pub returns-clause-index_reads : goal.returns-clause-index_reads
returns-clause-index_reads g c = part-reads-several _ (failed_by blames_index c.check_part.result) _ _ c.check_part.result c.check_part.ensures.index_reads

pub returns-clause-reads : goal.returns-clause-reads
returns-clause-reads g c = part-reads-several _ (failed_by blames_recording c.check_part.result) _ _ c.check_part.result c.check_part.ensures.reads
