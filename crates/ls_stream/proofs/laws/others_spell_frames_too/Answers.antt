use Rattle.ls_stream.proofs.ExampleLemmas.{skipped_spelled, tables_spelled, more_bits_spelled, fill_spelled, identifier_spelled}
use Rattle.ls_stream.proofs.laws.others_spell_frames_too.Goals as goal

pub returns-clause-skipped : goal.returns-clause-skipped
returns-clause-skipped c = skipped_spelled

pub returns-clause-tables : goal.returns-clause-tables
returns-clause-tables c = tables_spelled

pub returns-clause-more_bits : goal.returns-clause-more_bits
returns-clause-more_bits c = more_bits_spelled

pub returns-clause-fill : goal.returns-clause-fill
returns-clause-fill c = fill_spelled

pub returns-clause-identifier : goal.returns-clause-identifier
returns-clause-identifier c = identifier_spelled
