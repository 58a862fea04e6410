use Rattle.std.proofs.Common.{rules, arith}
use Rattle.std.proofs.lemmas.Grind.{common_steps}
use Rattle.ls_stream.proofs.encode.coder.Coder.code_interrupted_run.Goals as goal

pub code_interruption-word-requires : goal.code_interruption-word-requires
code_interruption-word-requires g c = search rules

pub put_word-requires-clause-room : goal.put_word-requires-clause-room
put_word-requires-clause-room g c = grind (arith, common_steps)

pub returns-clause-bits : goal.returns-clause-bits
returns-clause-bits g c = grind (arith, common_steps)

pub returns-clause-cost : goal.returns-clause-cost
returns-clause-cost g c = grind (arith, common_steps)

pub returns-clause-state : goal.returns-clause-state
returns-clause-state g c = search rules

pub put_word-requires-clause-golomb : goal.put_word-requires-clause-golomb
put_word-requires-clause-golomb g c = search rules
