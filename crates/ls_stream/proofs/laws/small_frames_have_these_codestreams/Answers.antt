use Rattle.std.proofs.Common.{refl}
use Rattle.ls_frame.specs.Parameters.{default_parameters, ceil_log2}
use Rattle.ls_bits.specs.Stuffing.{groups}
use Rattle.ls_bits.specs.Golomb.{code_word}
use Rattle.ls_coding.specs.Numbers.{golomb_parameter}
use Rattle.ls_coding.specs.Contexts.{context_of}
use Rattle.ls_coding.specs.Stats.{stats_step}
use Rattle.ls_coding.specs.Interruptions.{counts_step}
use Rattle.ls_coding.specs.Runs.{walked, run_word}
use Rattle.ls_stream.specs.Planes.{around, row_spans, spans, sample_event, sample_bits, interrupting_sample_event, interrupting_sample_bits, coded, plane_bits}
use Rattle.ls_stream.specs.Components.{component_of}
use Rattle.ls_stream.specs.Segments.{header_contents, presets_contents, scan_contents}
use Rattle.ls_stream.specs.Grammar.{codestream_bytes}
use Rattle.ls_stream.specs.Layout.{needs_presets, codestream}
use Rattle.ls_stream.specs.Examples.{lone_codestream}
use Rattle.ls_stream.proofs.laws.small_frames_have_these_codestreams.Goals as goal

pub returns-clause-gray : goal.returns-clause-gray
unfolding lone_codestream codestream codestream_bytes needs_presets header_contents presets_contents scan_contents component_of default_parameters groups code_word ceil_log2 golomb_parameter context_of stats_step counts_step walked run_word around row_spans spans sample_event sample_bits interrupting_sample_event interrupting_sample_bits coded plane_bits
returns-clause-gray c = refl

pub returns-clause-two_values : goal.returns-clause-two_values
unfolding lone_codestream codestream codestream_bytes needs_presets header_contents presets_contents scan_contents component_of default_parameters groups code_word ceil_log2 golomb_parameter context_of stats_step counts_step walked run_word around row_spans spans sample_event sample_bits interrupting_sample_event interrupting_sample_bits coded plane_bits
returns-clause-two_values c = refl

pub returns-clause-sixteen_bits : goal.returns-clause-sixteen_bits
unfolding lone_codestream codestream codestream_bytes needs_presets header_contents presets_contents scan_contents component_of default_parameters groups code_word ceil_log2 golomb_parameter context_of stats_step counts_step walked run_word around row_spans spans sample_event sample_bits interrupting_sample_event interrupting_sample_bits coded plane_bits
returns-clause-sixteen_bits c = refl

pub returns-clause-colour : goal.returns-clause-colour
unfolding lone_codestream codestream codestream_bytes needs_presets header_contents presets_contents scan_contents component_of default_parameters groups code_word ceil_log2 golomb_parameter context_of stats_step counts_step walked run_word around row_spans spans sample_event sample_bits interrupting_sample_event interrupting_sample_bits coded plane_bits
returns-clause-colour c = refl

pub returns-clause-written : goal.returns-clause-written
unfolding lone_codestream codestream codestream_bytes needs_presets header_contents presets_contents scan_contents component_of default_parameters groups code_word ceil_log2 golomb_parameter context_of stats_step counts_step walked run_word around row_spans spans sample_event sample_bits interrupting_sample_event interrupting_sample_bits coded plane_bits
returns-clause-written c = refl
