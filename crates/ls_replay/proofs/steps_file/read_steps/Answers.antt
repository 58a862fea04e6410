use Rattle.ls_replay.proofs.GrammarLaws.{answer-ok, answer-fault, answer-whole, answer-breaks}
use Rattle.ls_replay.proofs.steps_file.read_steps.Goals as goal

pub returns-clause-ok : goal.returns-clause-ok
returns-clause-ok c = answer-ok (λ v. v.items) c.args.text.now c.read_lines.result c.read_lines.ensures

pub returns-clause-fault : goal.returns-clause-fault
returns-clause-fault c = answer-fault (λ v. v.items) c.args.text.now c.read_lines.result c.read_lines.ensures

pub returns-clause-whole : goal.returns-clause-whole
returns-clause-whole c = answer-whole (λ v. v.items) c.args.text.now c.read_lines.result c.read_lines.ensures

pub returns-clause-breaks : goal.returns-clause-breaks
returns-clause-breaks c = answer-breaks (λ v. v.items) c.args.text.now c.read_lines.result c.read_lines.ensures
