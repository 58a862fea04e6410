use Rattle.ls_coding.proofs.counters.Counters.parameter.Goals as goal

pub returns : goal.returns
returns c = c.requires.sound.parameters c.args.number c.requires.number
