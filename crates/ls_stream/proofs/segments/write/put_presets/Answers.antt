use Rattle.std.proofs.Common.{List, ℕ, ◌++◌, ◌∷◌, [], ap, append_assoc, ◌∙◌}
use Rattle.ls_bits.specs.Bits.{two_bytes}
use Rattle.ls_stream.specs.Markers.{marker}
use Rattle.ls_stream.specs.declared.marker.Marker.TheVariants.{PresetParameters}
use Rattle.ls_stream.specs.Segments.{presets_contents}
use Rattle.ls_stream.proofs.segments.write.put_presets.Goals as goal

pub returns-clause-bytes : goal.returns-clause-bytes
unfolding presets_contents
returns-clause-bytes g c =
    let start : List ℕ = g.R.Room.items c.args.bytes.now in
    let p = c.args.presets.now in
    let fields : List ℕ = two_bytes p.maxval ++ two_bytes p.t1 ++ two_bytes p.t2 ++ two_bytes p.t3 ++ two_bytes p.reset in
    c.put_parameters.ensures.bytes
    ∙ ap (λ bytes. bytes ++ fields) (c.put_byte.ensures.items
    ∙ ap (λ bytes. bytes ++ 1 ∷ []) (c.put_field.ensures.bytes ∙ ap (λ bytes. bytes ++ two_bytes 13) c.put_marker.ensures.bytes))
    ∙ append_assoc ((start ++ marker PresetParameters) ++ two_bytes 13) (1 ∷ []) fields
    ∙ append_assoc (start ++ marker PresetParameters) (two_bytes 13) (1 ∷ fields)
    ∙ append_assoc start (marker PresetParameters) (two_bytes 13 ++ 1 ∷ fields)
