use Rattle.ls_program_tests.proofs.PlayedLemmas.{coded-in}
use Rattle.ls_program_tests.proofs.playing.code_in_memory.Goals as goal

pub returns : goal.returns
returns g c = coded-in _ _ _ (λ path bytes held. held) _ _ c.code_film.ensures
