use Rattle.ls_program_tests.proofs.PlayedLemmas.{same-in}
use Rattle.ls_program_tests.proofs.playing.verify_in_memory.Goals as goal

pub returns : goal.returns
returns g c = λ done. same-in _ _ _ (λ path bytes held. held) _ _ (c.verify.ensures done)
