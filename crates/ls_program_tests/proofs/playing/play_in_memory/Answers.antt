use Rattle.ls_program_tests.proofs.PlayedLemmas.{played-in}
use Rattle.ls_program_tests.proofs.playing.play_in_memory.Goals as goal

pub returns : goal.returns
returns g c = played-in _ _ _ (λ path bytes held. held) _ _ c.play.ensures
