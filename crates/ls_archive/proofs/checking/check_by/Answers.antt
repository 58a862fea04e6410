use Rattle.ls_film.specs.View.Steps.{failed_by}
use Rattle.ls_archive.specs.View.Checks.{blames_index, blames_recording}
use Rattle.ls_archive.proofs.BatchLemmas.{reads-several}
use Rattle.ls_archive.proofs.checking.check_by.Goals as goal

pub returns-clause-index_reads : goal.returns-clause-index_reads
returns-clause-index_reads g c = reads-several _ (failed_by blames_index c.check_all.result) _ _ c.check_all.result c.check_all.ensures.index_reads

pub returns-clause-reads : goal.returns-clause-reads
returns-clause-reads g c = reads-several _ (failed_by blames_recording c.check_all.result) _ _ c.check_all.result c.check_all.ensures.reads
