use Rattle.std.proofs.Common.{◌≡◌, ℕ, ◌*◌, ◌≤◌, [], length, refl, ◌∙◌, ap, subst, arith}
use Rattle.ls_coding.specs.View.States.{Coding}
use Rattle.ls_coding.proofs.RegularLemmas.{ok_map, err_map}
use Rattle.ls_frame.specs.Parameters.{Parameters}
use Rattle.ls_stream.specs.View.BitFaults.{BreaksSpans}
use Rattle.ls_stream.specs.Planes.{Plane, spans}
use Rattle.ls_stream.specs.Components.{component_plane}
use Rattle.ls_stream.proofs.CodedLemmas.{uninterrupted_of}
use Rattle.ls_stream.proofs.ScanReadingLemmas.{starts, started, ended, ends, all_rows_are, rows_of_component, is_sample_plane}
use Rattle.ls_stream.proofs.decode.scan.decode_plane.Goals as goal

pub decode_rows-requires-clause-uninterrupted : goal.decode_rows-requires-clause-uninterrupted
decode_rows-requires-clause-uninterrupted g c = ap (λ (s : Coding). s.interrupted) c.requires.state ∙ uninterrupted_of c.args.decoder.now.state.parameters [] refl

pub returns-clause-plane : goal.returns-clause-plane
returns-clause-plane g c =
    let s : Coding = c.args.decoder.now.state in
    let maxval : ℕ = s.parameters.maxval in
    let width : ℕ = c.args.shape.width in
    let height : ℕ = c.args.shape.height in
    let count : ℕ = c.args.shape.components in
    let component : ℕ = c.args.component in
    let new = (g.S.Sample.numbers c.decode_rows.new.samples) in
    let bits = c.decode_rows.new.decoder.bits in
    let plane : Plane = component_plane width count component new in
    let some : 1 ≤ count = omega (arith, c.requires.component) in
    let whole : length new ≡ height * width * count = c.decode_rows.ensures.len ∙ c.requires.samples in
    let is = is_sample_plane maxval width height count component new some whole c.decode_rows.ensures.small in
    ok_map c.decode_rows.result _ _
    (λ x rows. started maxval width height count component plane (g.S.Sample.numbers c.args.samples.now) s c.args.decoder.now.bits bits c.requires.some is c.requires.state
    ((rows plane is bits).1 (ends plane height count component new c.decode_rows.new.decoder.state bits (rows_of_component width height count component new some whole))))
    c.decode_rows.ensures.rows

pub returns-clause-only : goal.returns-clause-only
returns-clause-only g c =
    let s : Coding = c.args.decoder.now.state in
    let maxval : ℕ = s.parameters.maxval in
    let width : ℕ = c.args.shape.width in
    let height : ℕ = c.args.shape.height in
    let count : ℕ = c.args.shape.components in
    let component : ℕ = c.args.component in
    let new = (g.S.Sample.numbers c.decode_rows.new.samples) in
    let some : 1 ≤ count = omega (arith, c.requires.component) in
    let whole : length new ≡ height * width * count = c.decode_rows.ensures.len ∙ c.requires.samples in
    ok_map c.decode_rows.result _ _
    (λ x rows plane is rest e.
    let after = (rows plane is rest).0 (starts maxval width height count component plane (g.S.Sample.numbers c.args.samples.now) s c.args.decoder.now.bits rest c.requires.some is c.requires.state e) in (
      all_rows_are maxval width height count component new plane c.requires.some some whole is after.rows,
      ended plane height count component new c.decode_rows.new.decoder.state c.decode_rows.new.decoder.bits rest after,
    ))
    c.decode_rows.ensures.rows

pub returns-clause-none : goal.returns-clause-none
returns-clause-none g c =
    let s : Coding = c.args.decoder.now.state in
    let maxval : ℕ = s.parameters.maxval in
    err_map c.decode_rows.result _ _
    (λ x none plane is rest e.
    none plane is rest (starts maxval c.args.shape.width c.args.shape.height c.args.shape.components c.args.component plane (g.S.Sample.numbers c.args.samples.now) s c.args.decoder.now.bits rest c.requires.some is c.requires.state e))
    c.decode_rows.ensures.none

pub returns-clause-breaks : goal.returns-clause-breaks
returns-clause-breaks g c =
    let p : Parameters = c.args.decoder.now.state.parameters in
    err_map c.decode_rows.result _ _
    (λ fault malformed. record {
      plane = malformed.0;
      is_plane = malformed.1;
      breaks = subst (λ (s : Coding). BreaksSpans malformed.0 (spans malformed.0) s c.args.decoder.now.bits fault) c.requires.state malformed.2;
    })
    c.decode_rows.ensures.breaks
