use Rattle.std.proofs.Common.{refl}
use Rattle.ls_frame.specs.Parameters.{default_parameters, ceil_log2}
use Rattle.ls_bits.specs.Stuffing.{groups}
use Rattle.ls_bits.specs.Golomb.{code_word}
use Rattle.ls_coding.specs.Numbers.{golomb_parameter}
use Rattle.ls_coding.specs.Contexts.{context_of}
use Rattle.ls_coding.specs.Stats.{stats_step}
use Rattle.ls_coding.specs.Interruptions.{counts_step}
use Rattle.ls_coding.specs.Runs.{walked, run_word}
use Rattle.ls_stream.specs.Examples.{scan, default_scan}
use Rattle.ls_stream.specs.Planes.{around, row_spans, spans, sample_event, sample_bits, interrupting_sample_event, interrupting_sample_bits, coded, plane_bits}
use Rattle.ls_stream.proofs.laws.small_planes_have_these_scans.Goals as goal

pub returns-clause-lone_zero : goal.returns-clause-lone_zero
unfolding scan default_scan default_parameters groups code_word ceil_log2 golomb_parameter context_of stats_step counts_step walked run_word around row_spans spans sample_event sample_bits interrupting_sample_event interrupting_sample_bits coded plane_bits
returns-clause-lone_zero c = refl

pub returns-clause-lone_greatest : goal.returns-clause-lone_greatest
unfolding scan default_scan default_parameters groups code_word ceil_log2 golomb_parameter context_of stats_step counts_step walked run_word around row_spans spans sample_event sample_bits interrupting_sample_event interrupting_sample_bits coded plane_bits
returns-clause-lone_greatest c = refl

pub returns-clause-run_of_twelve : goal.returns-clause-run_of_twelve
unfolding scan default_scan default_parameters groups code_word ceil_log2 golomb_parameter context_of stats_step counts_step walked run_word around row_spans spans sample_event sample_bits interrupting_sample_event interrupting_sample_bits coded plane_bits
returns-clause-run_of_twelve c = refl

pub returns-clause-run_of_thirteen : goal.returns-clause-run_of_thirteen
unfolding scan default_scan default_parameters groups code_word ceil_log2 golomb_parameter context_of stats_step counts_step walked run_word around row_spans spans sample_event sample_bits interrupting_sample_event interrupting_sample_bits coded plane_bits
returns-clause-run_of_thirteen c = refl

pub returns-clause-run_of_sixteen : goal.returns-clause-run_of_sixteen
unfolding scan default_scan default_parameters groups code_word ceil_log2 golomb_parameter context_of stats_step counts_step walked run_word around row_spans spans sample_event sample_bits interrupting_sample_event interrupting_sample_bits coded plane_bits
returns-clause-run_of_sixteen c = refl

pub returns-clause-two_values : goal.returns-clause-two_values
unfolding scan default_scan default_parameters groups code_word ceil_log2 golomb_parameter context_of stats_step counts_step walked run_word around row_spans spans sample_event sample_bits interrupting_sample_event interrupting_sample_bits coded plane_bits
returns-clause-two_values c = refl

pub returns-clause-sixteen_bits : goal.returns-clause-sixteen_bits
unfolding scan default_scan default_parameters groups code_word ceil_log2 golomb_parameter context_of stats_step counts_step walked run_word around row_spans spans sample_event sample_bits interrupting_sample_event interrupting_sample_bits coded plane_bits
returns-clause-sixteen_bits c = refl

pub returns-clause-runs_of_two_lines : goal.returns-clause-runs_of_two_lines
unfolding scan default_scan default_parameters groups code_word ceil_log2 golomb_parameter context_of stats_step counts_step walked run_word around row_spans spans sample_event sample_bits interrupting_sample_event interrupting_sample_bits coded plane_bits
returns-clause-runs_of_two_lines c = refl

pub returns-clause-escape_after_a_run : goal.returns-clause-escape_after_a_run
unfolding scan default_scan default_parameters groups code_word ceil_log2 golomb_parameter context_of stats_step counts_step walked run_word around row_spans spans sample_event sample_bits interrupting_sample_event interrupting_sample_bits coded plane_bits
returns-clause-escape_after_a_run c = refl

pub returns-clause-second_sample_regular : goal.returns-clause-second_sample_regular
unfolding scan default_scan default_parameters groups code_word ceil_log2 golomb_parameter context_of stats_step counts_step walked run_word around row_spans spans sample_event sample_bits interrupting_sample_event interrupting_sample_bits coded plane_bits
returns-clause-second_sample_regular c = refl

pub returns-clause-one_column : goal.returns-clause-one_column
unfolding scan default_scan default_parameters groups code_word ceil_log2 golomb_parameter context_of stats_step counts_step walked run_word around row_spans spans sample_event sample_bits interrupting_sample_event interrupting_sample_bits coded plane_bits
returns-clause-one_column c = refl
