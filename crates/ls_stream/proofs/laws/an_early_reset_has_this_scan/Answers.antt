use Rattle.std.proofs.Common.{refl}
use Rattle.ls_frame.specs.Parameters.{default_parameters, ceil_log2}
use Rattle.ls_bits.specs.Stuffing.{groups}
use Rattle.ls_bits.specs.Golomb.{code_word}
use Rattle.ls_coding.specs.Numbers.{golomb_parameter}
use Rattle.ls_coding.specs.Contexts.{context_of}
use Rattle.ls_coding.specs.Stats.{stats_step}
use Rattle.ls_coding.specs.Interruptions.{counts_step}
use Rattle.ls_coding.specs.Runs.{walked, run_word}
use Rattle.ls_stream.specs.Examples.{scan, default_scan}
use Rattle.ls_stream.specs.Planes.{around, row_spans, spans, sample_event, sample_bits, interrupting_sample_event, interrupting_sample_bits, coded, plane_bits}
use Rattle.ls_stream.proofs.laws.an_early_reset_has_this_scan.Goals as goal

pub returns : goal.returns
unfolding scan default_scan default_parameters groups code_word ceil_log2 golomb_parameter context_of stats_step counts_step walked run_word around row_spans spans sample_event sample_bits interrupting_sample_event interrupting_sample_bits coded plane_bits
returns c = refl
