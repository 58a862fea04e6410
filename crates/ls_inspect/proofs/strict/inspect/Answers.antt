use Rattle.std.proofs.Common.{List, ℕ, get_or, Fits, w8, take, drop, sym, ap, ◌∙◌, take-append-drop, arith}
use Rattle.ls_bits.specs.Bits.{AreBytes}
use Rattle.ls_frame.specs.Parameters.{Parameters}
use Rattle.ls_frame.specs.Picture.{components}
use Rattle.ls_stream.proofs.FrameReadingLemmas.{are_bytes}
use Rattle.ls_inspect.proofs.StrictLemmas.{inspected, strict_by, loose_by, never_by}
use Rattle.ls_inspect.proofs.strict.inspect.Goals as goal

pub returns-in-Err-clause-complete : goal.returns-in-Err-clause-complete
returns-in-Err-clause-complete c front rest f e s = absurd (c.in-Err.ensures.none front rest f e s)

pub encode_with-requires : goal.encode_with-requires
encode_with-requires c =
    let used : ℕ = c.in-Ok-decode_frame.decoded.used in
    let bytes : List ℕ = c.args.bytes.now in
    let form = c.in-Ok.ensures.form (take used bytes) (drop used bytes) c.in-Ok-decode_frame.decoded.frame (sym (take-append-drop used bytes)) c.in-Ok-decode_frame.ensures.ok.1 in
    record { maxval = ap (λ (p : Parameters). p.maxval) c.presets.ensures ∙ sym form.maxval }

pub returns-clause-strict : goal.returns-clause-strict
returns-clause-strict c =
    let bytes : List ℕ = c.args.bytes.now in
    let used : ℕ = c.in-Ok-decode_frame.decoded.used in
    let are : AreBytes bytes = are_bytes bytes (λ i. let fits : Fits w8 (get_or bytes i 0) = c.type_inv.bytes i in omega arith) in
    strict_by bytes (take used bytes) (drop used bytes) c.in-Ok-decode_frame.decoded.frame c.in-Ok.opening c.first_other-loose.result
    (inspected bytes used c.components-count.result c.in-Ok-decode_frame.decoded.frame c.in-Ok.opening c.presets.result.now c.in-Ok-encode_with.encoded.items c.after_start.result.now
    c.after_start-2.result.now c.first_other-loose.result are c.in-Ok.ensures.bytes c.in-Ok.ensures.says c.in-Ok-decode_frame.ensures.ok.1 c.presets.ensures c.maxval.ensures.legal
    c.in-Ok-encode_with.ensures.bytes c.after_start.ensures (c.after_start-2.ensures ∙ ap (drop 2) c.deref.ensures.value) (c.components-count.ensures ∙ ap components c.kind.ensures.value)
    c.first_other-loose.ensures)

pub returns-clause-loose : goal.returns-clause-loose
returns-clause-loose c =
    let bytes : List ℕ = c.args.bytes.now in
    let used : ℕ = c.in-Ok-decode_frame.decoded.used in
    let are : AreBytes bytes = are_bytes bytes (λ i. let fits : Fits w8 (get_or bytes i 0) = c.type_inv.bytes i in omega arith) in
    loose_by bytes (take used bytes) (drop used bytes) c.in-Ok-decode_frame.decoded.frame c.in-Ok.opening c.first_other-loose.result
    (inspected bytes used c.components-count.result c.in-Ok-decode_frame.decoded.frame c.in-Ok.opening c.presets.result.now c.in-Ok-encode_with.encoded.items c.after_start.result.now
    c.after_start-2.result.now c.first_other-loose.result are c.in-Ok.ensures.bytes c.in-Ok.ensures.says c.in-Ok-decode_frame.ensures.ok.1 c.presets.ensures c.maxval.ensures.legal
    c.in-Ok-encode_with.ensures.bytes c.after_start.ensures (c.after_start-2.ensures ∙ ap (drop 2) c.deref.ensures.value) (c.components-count.ensures ∙ ap components c.kind.ensures.value)
    c.first_other-loose.ensures)

pub returns-clause-never : goal.returns-clause-never
returns-clause-never c =
    let bytes : List ℕ = c.args.bytes.now in
    let used : ℕ = c.in-Ok-decode_frame.decoded.used in
    let are : AreBytes bytes = are_bytes bytes (λ i. let fits : Fits w8 (get_or bytes i 0) = c.type_inv.bytes i in omega arith) in
    never_by c.parameters_are_legal_or_at_fault.ensures.legal bytes (take used bytes) (drop used bytes) c.in-Ok-decode_frame.decoded.frame c.in-Ok.opening c.first_other-loose.result
    (inspected bytes used c.components-count.result c.in-Ok-decode_frame.decoded.frame c.in-Ok.opening c.presets.result.now c.in-Ok-encode_with.encoded.items c.after_start.result.now
    c.after_start-2.result.now c.first_other-loose.result are c.in-Ok.ensures.bytes c.in-Ok.ensures.says c.in-Ok-decode_frame.ensures.ok.1 c.presets.ensures c.maxval.ensures.legal
    c.in-Ok-encode_with.ensures.bytes c.after_start.ensures (c.after_start-2.ensures ∙ ap (drop 2) c.deref.ensures.value) (c.components-count.ensures ∙ ap components c.kind.ensures.value)
    c.first_other-loose.ensures)

pub returns-clause-complete : goal.returns-clause-complete
returns-clause-complete c front rest f e s = (c.in-Ok-decode_frame.ensures.complete front rest f e s).1
