use Rattle.std.proofs.Common.{rules}
use Rattle.ls_stream.proofs.segments.write.put_presets_if_needed.Goals as goal

pub returns-else-needs_presets-clause-bytes : goal.returns-else-needs_presets-clause-bytes
returns-else-needs_presets-clause-bytes g c = search rules

pub returns-else-needs_presets-clause-len : goal.returns-else-needs_presets-clause-len
returns-else-needs_presets-clause-len g c = search rules

pub returns-then-needs_presets-clause-bytes : goal.returns-then-needs_presets-clause-bytes
returns-then-needs_presets-clause-bytes g c = search rules

pub returns-then-needs_presets-clause-len : goal.returns-then-needs_presets-clause-len
returns-then-needs_presets-clause-len g c = search rules
