-- Codestreams as other programs may write them, each as a value of the grammar.
use Rattle.std.proofs.Common.{◌≡◌, ℕ, ◌<◌, ◌≤◌, ◌++◌, Bool, true, false, List, [], ◌∷◌, length, ltb, replicate, refl, ap, ◌∙◌, arith}
use Rattle.std.specs.Prelude.{◌&&◌, Ok}
use Rattle.std.proofs.lemmas.Bool.{ltb-true, and_parts}
use Rattle.std.specs.List.{AllByRecursion}
use Rattle.ls_frame.specs.Picture.{IsFrame}
use Rattle.ls_frame.specs.Parameters.{Parameters, default_parameters, explicit_parameters, ceil_log2}
use Rattle.ls_frame.specs.Tuning.{tuned}
use Rattle.ls_bits.specs.Bits.{AreBytes}
use Rattle.ls_bits.specs.Stuffing.{groups}
use Rattle.ls_bits.specs.Golomb.{code_word}
use Rattle.ls_coding.specs.Numbers.{golomb_parameter}
use Rattle.ls_coding.specs.Contexts.{context_of}
use Rattle.ls_coding.specs.Stats.{stats_step}
use Rattle.ls_coding.specs.Interruptions.{counts_step}
use Rattle.ls_coding.specs.Runs.{walked, run_word}
use Rattle.ls_stream.specs.declared.marker.Marker.TheVariants.{Application, Comment}
use Rattle.ls_stream.specs.Planes.{around, row_spans, spans, sample_event, sample_bits, interrupting_sample_event, interrupting_sample_bits, coded, plane_bits}
use Rattle.ls_stream.specs.Components.{component_of, plane_of}
use Rattle.ls_stream.specs.Segments.{header_contents, presets_contents, scan_contents, AreTwoByteFields}
use Rattle.ls_stream.specs.Grammar.{Miscellaneous, skipped, presets, Scan, Codestream, codestream_bytes, MayPrecedeScans, MayFollowScan, IsCoded, parameters_of, last_presets, no_presets, Says, Spells}
use Rattle.ls_stream.specs.Examples.{lone_zero, lone_grammar, lone_data, lone_scan, lone_header, lone_reset, soi, comment_a, empty_app8, last_marker}

all_bytes : List ℕ → Bool
all_bytes [] = true
all_bytes (byte ∷ bytes) = ltb byte 256 && all_bytes bytes

are_bytes : (bytes : List ℕ) → all_bytes bytes ≡ true → AreBytes bytes
unfolding all_bytes
are_bytes [] h = tt
are_bytes (byte ∷ bytes) h = let each = and_parts (ltb byte 256) (all_bytes bytes) h in (ltb-true byte 256 each.0, are_bytes bytes each.1)

frame : IsFrame lone_zero
frame = record {
  formed = record {
    some_width = omega arith;
    width = omega arith;
    some_height = omega arith;
    height = omega arith;
    some_maxval = omega arith;
    maxval = omega arith;
    few = omega arith;
    count = refl;
  };
  each = (omega arith, tt);
}

-- the bit of the sample, and those that fill the byte, or two
coded_in_one : IsCoded (default_parameters 255) (plane_of lone_zero 0) (128 ∷ [])
unfolding parameters_of explicit_parameters tuned default_parameters component_of groups code_word ceil_log2 golomb_parameter context_of stats_step counts_step walked run_word around row_spans spans sample_event sample_bits interrupting_sample_event interrupting_sample_bits coded plane_bits
coded_in_one = record { is_data = refl; more = replicate 7 false; few = omega arith; bits = refl }

coded_in_two : IsCoded (default_parameters 255) (plane_of lone_zero 0) (128 ∷ 0 ∷ [])
unfolding parameters_of explicit_parameters tuned default_parameters component_of groups code_word ceil_log2 golomb_parameter context_of stats_step counts_step walked run_word around row_spans spans sample_event sample_bits interrupting_sample_event interrupting_sample_bits coded plane_bits
coded_in_two = record { is_data = refl; more = replicate 15 false; few = omega arith; bits = refl }

by_default : parameters_of 8 no_presets ≡ Ok (default_parameters 255)
unfolding parameters_of explicit_parameters tuned default_parameters
by_default = refl

says : (before between : List Miscellaneous) (id table : ℕ) (scan : Scan) (fill : ℕ) → AllByRecursion MayPrecedeScans before → AllByRecursion MayPrecedeScans between
    → last_presets no_presets (before ++ between) ≡ no_presets → IsCoded (default_parameters 255) (plane_of lone_zero 0) scan.stuffed → AllByRecursion MayFollowScan scan.after
    → Says (lone_grammar before id table between scan fill) (default_parameters 255) lone_zero
unfolding default_parameters
says before between id table scan fill these those e coded after = record {
  before = these;
  header = record { some_bits = omega arith; bits = omega arith; height = refl; width = refl; count = refl; apart = (tt, tt) };
  between = those;
  parameters_are = ap (parameters_of 8) e ∙ by_default;
  maxval = refl;
  count = refl;
  coded = (coded, tt);
  after = (after, tt);
}

spelled : (bytes : List ℕ) (codestream : Codestream) → all_bytes bytes ≡ true → length bytes ≤ 1000 → bytes ≡ codestream_bytes codestream
    → Says codestream (default_parameters 255) lone_zero → Spells bytes lone_zero
spelled bytes codestream all short e say = record {
  frame = frame;
  are_bytes = are_bytes bytes all;
  short = omega arith;
  codestream = codestream;
  spelled = e;
  parameters = default_parameters 255;
  says = say;
}

pub skipped_spelled : Spells (soi ++ comment_a ++ empty_app8 ++ lone_header 1 0 ++ lone_scan 1 128 ++ last_marker) lone_zero
unfolding all_bytes codestream_bytes header_contents presets_contents scan_contents
skipped_spelled =
    let before = skipped 0 Comment (65 ∷ []) ∷ skipped 0 (Application 232) [] ∷ [] in
    spelled _ (lone_grammar before 1 0 [] (lone_data (128 ∷ []) []) 0) refl (omega arith) refl
    (says before [] 1 0 (lone_data (128 ∷ []) []) 0 (record { marker_is = refl; short = omega arith }, (record { marker_is = refl; short = omega arith }, tt)) tt refl coded_in_one tt)

reset_to : ℕ → Parameters
reset_to reset = record { maxval = 0; t1 = 0; t2 = 0; t3 = 0; reset = reset }

two_bytes_each : (reset : ℕ) → reset < 256 → AreTwoByteFields (reset_to reset)
unfolding reset_to
two_bytes_each reset small = record { maxval = omega arith; t1 = omega arith; t2 = omega arith; t3 = omega arith; reset = omega arith }

pub tables_spelled : Spells (soi ++ lone_reset 32 ++ lone_header 1 0 ++ lone_reset 0 ++ lone_scan 1 128 ++ last_marker) lone_zero
unfolding all_bytes reset_to codestream_bytes header_contents presets_contents scan_contents
tables_spelled =
    let before = presets 0 (reset_to 32) ∷ [] in
    let between = presets 0 (reset_to 0) ∷ [] in
    spelled _ (lone_grammar before 1 0 between (lone_data (128 ∷ []) []) 0) refl (omega arith) refl
    (says before between 1 0 (lone_data (128 ∷ []) []) 0 (two_bytes_each 32 (omega arith), tt) (two_bytes_each 0 (omega arith), tt) refl coded_in_one tt)

pub more_bits_spelled : Spells (soi ++ lone_header 1 0 ++ lone_scan 1 128 ++ (0 ∷ []) ++ last_marker) lone_zero
unfolding all_bytes codestream_bytes header_contents presets_contents scan_contents
more_bits_spelled =
    spelled _ (lone_grammar [] 1 0 [] (lone_data (128 ∷ 0 ∷ []) []) 0) refl (omega arith) refl (says [] [] 1 0 (lone_data (128 ∷ 0 ∷ []) []) 0 tt tt refl coded_in_two tt)

pub fill_spelled : Spells (soi ++ lone_header 1 0 ++ lone_scan 1 128 ++ (255 ∷ []) ++ last_marker) lone_zero
unfolding all_bytes codestream_bytes header_contents presets_contents scan_contents
fill_spelled =
    spelled _ (lone_grammar [] 1 0 [] (lone_data (128 ∷ []) []) 1) refl (omega arith) refl (says [] [] 1 0 (lone_data (128 ∷ []) []) 1 tt tt refl coded_in_one tt)

pub identifier_spelled : Spells (soi ++ lone_header 7 5 ++ lone_scan 7 128 ++ last_marker) lone_zero
unfolding all_bytes codestream_bytes header_contents presets_contents scan_contents
identifier_spelled =
    spelled _ (lone_grammar [] 7 5 [] (lone_data (128 ∷ []) []) 0) refl (omega arith) refl (says [] [] 7 5 (lone_data (128 ∷ []) []) 0 tt tt refl coded_in_one tt)
