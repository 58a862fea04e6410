use Rattle.std.proofs.Common.{◌≡◌, ℕ, ◌+◌, ◌-◌, ◌*◌, ◌≤◌, ◌++◌, get_or, sym, length, take, drop, length-drop, ◌∙◌, ap, subst, arith}
use Rattle.std.proofs.lemmas.List.{take_all}
use Rattle.ls_stream.specs.Planes.{Plane, IsSamplePlane}
use Rattle.ls_stream.specs.Components.{component_plane, arranged}
use Rattle.ls_bits.specs.declared.data.Stop.{Stop}
use Rattle.ls_bits.specs.Data.{stop_at}
use Rattle.ls_bits.specs.Stuffing.{unstuff}
use Rattle.ls_stream.specs.Grammar.{IsCoded}
use Rattle.ls_stream.specs.View.Decoding.{ScanBreaks, fault_in}
use Rattle.ls_stream.specs.View.Outlines.{data_length, data_at, after_data}
use Rattle.std.proofs.lemmas.Nat.{mul-le}
use Rattle.ls_stream.proofs.ArrangedLemmas.{back_in, lent_inside, lent_length, lent_component, lent_small, given_length, given_small, given_plane, given_others}
use Rattle.ls_stream.proofs.StopLemmas.{breaks_data}
use Rattle.ls_stream.proofs.FrontLemmas.{data_length-only}
use Rattle.ls_stream.proofs.decode.decode_data.Goals as goal

pub returns-in-Ok-clause-rest : goal.returns-in-Ok-clause-rest
returns-in-Ok-clause-rest g c =
    let bytes = c.args.bytes.now in
    let same : c.data_of-found.result.len ≡ data_length bytes = data_length-only bytes c.data_of-found.result.len c.data_of-found.ensures.len in
    take_all (length bytes - c.data_of-found.result.len) (drop c.data_of-found.result.len bytes) (omega (arith, length-drop c.data_of-found.result.len bytes))
    ∙ ap (λ n. drop n bytes) same

pub returns-in-Ok-clause-coded : goal.returns-in-Ok-clause-coded
returns-in-Ok-clause-coded g c =
    let bytes = c.args.bytes.now in
    let numbers = g.S.Sample.numbers in
    let back = back_in c.area_of-area.result c.decode_scan-read.new.samples c.args.samples.now c.split_at_mut-rest.result.0.now c.split_at_mut-rest.result.1.now c.split_at_mut-rest.ensures.front c.split_at_mut-rest.ensures.back in
    let plane = given_plane numbers g.met.S.Sample.one_each g.met.S.Sample.in_parts c.args.arrangement c.args.shape c.args.component c.area_of-area.result c.decode_scan-read.new.samples c.args.samples.now
    c.area_of-area.ensures c.requires.component c.requires.samples (c.decode_scan-read.ensures.len ∙ ap (λ xs. length (numbers (take c.area_of-area.result.count xs))) c.split_at_mut-rest.ensures.back)
    ∙ ap (λ xs. component_plane c.args.shape.width c.args.shape.components c.args.component (arranged c.args.arrangement c.args.shape.components (numbers xs))) back in
    subst (λ n. IsCoded c.args.presets.now (component_plane c.args.shape.width c.args.shape.components c.args.component (arranged c.args.arrangement c.args.shape.components (numbers (c.split_at_mut-rest.result.0.now ++ (c.decode_scan-read.new.samples ++ drop c.area_of-area.result.count c.split_at_mut-rest.result.1.now))))) (take n bytes))
    (data_length-only bytes c.data_of-found.result.len c.data_of-found.ensures.len)
    (subst (λ (plane : Plane). IsCoded c.args.presets.now plane (take c.data_of-found.result.len bytes)) plane c.in-Ok.ensures.coded)

pub returns-in-Ok-clause-only : goal.returns-in-Ok-clause-only
returns-in-Ok-clause-only g c =
    let bytes = c.args.bytes.now in
    let numbers = g.S.Sample.numbers in
    let back = back_in c.area_of-area.result c.decode_scan-read.new.samples c.args.samples.now c.split_at_mut-rest.result.0.now c.split_at_mut-rest.result.1.now c.split_at_mut-rest.ensures.front c.split_at_mut-rest.ensures.back in
    let plane_is = given_plane numbers g.met.S.Sample.one_each g.met.S.Sample.in_parts c.args.arrangement c.args.shape c.args.component c.area_of-area.result c.decode_scan-read.new.samples c.args.samples.now
    c.area_of-area.ensures c.requires.component c.requires.samples (c.decode_scan-read.ensures.len ∙ ap (λ xs. length (numbers (take c.area_of-area.result.count xs))) c.split_at_mut-rest.ensures.back)
    ∙ ap (λ xs. component_plane c.args.shape.width c.args.shape.components c.args.component (arranged c.args.arrangement c.args.shape.components (numbers xs))) back in
    subst (λ n. (plane : Plane) → IsSamplePlane c.args.presets.now.maxval c.args.shape.width c.args.shape.height plane → IsCoded c.args.presets.now plane (take n bytes)
    → plane ≡ component_plane c.args.shape.width c.args.shape.components c.args.component (arranged c.args.arrangement c.args.shape.components (numbers (c.split_at_mut-rest.result.0.now ++ (c.decode_scan-read.new.samples ++ drop c.area_of-area.result.count c.split_at_mut-rest.result.1.now)))))
    (data_length-only bytes c.data_of-found.result.len c.data_of-found.ensures.len)
    (λ plane is coded. c.in-Ok.ensures.only plane is coded ∙ plane_is)

pub returns-in-Err-clause-none : goal.returns-in-Err-clause-none
returns-in-Err-clause-none g c =
    let bytes = c.args.bytes.now in
    subst (λ n. (plane : Plane) → IsSamplePlane c.args.presets.now.maxval c.args.shape.width c.args.shape.height plane → IsCoded c.args.presets.now plane (take n bytes) → ⊥)
    (data_length-only bytes c.data_of-found.result.len c.data_of-found.ensures.len) c.in-Err.ensures.none

pub returns-in-Err-clause-breaks : goal.returns-in-Err-clause-breaks
returns-in-Err-clause-breaks g c =
    let bytes = c.args.bytes.now in
    let same : c.data_of-found.result.len ≡ data_length bytes = data_length-only bytes c.data_of-found.result.len c.data_of-found.ensures.len in
    let stop : c.data_of-found.result.stop ≡ stop_at (after_data bytes) = c.data_of-found.ensures.stop ∙ ap (λ n. stop_at (drop n bytes)) same in
    breaks_data c.args.presets.now c.args.shape.width c.args.shape.height c.args.component (data_at bytes) (stop_at (after_data bytes)) c.in-Err.fault c.fault_in.result
    (subst (λ n. ScanBreaks c.args.presets.now c.args.shape.width c.args.shape.height (unstuff (take n bytes)) c.in-Err.fault) same c.in-Err.ensures.fault)
    (c.fault_in.ensures ∙ ap (λ (s : Stop). fault_in c.args.component s c.in-Err.fault) stop)

pub returns-in-Ok-clause-others : goal.returns-in-Ok-clause-others
returns-in-Ok-clause-others g c k other low differs =
    let numbers = g.S.Sample.numbers in
    let back = back_in c.area_of-area.result c.decode_scan-read.new.samples c.args.samples.now c.split_at_mut-rest.result.0.now c.split_at_mut-rest.result.1.now c.split_at_mut-rest.ensures.front c.split_at_mut-rest.ensures.back in
    ap (λ xs. get_or (arranged c.args.arrangement c.args.shape.components (numbers xs)) (k * c.args.shape.components + other) 0) (sym back)
    ∙ given_others numbers g.met.S.Sample.one_each g.met.S.Sample.in_parts c.args.arrangement c.args.shape c.args.component c.area_of-area.result c.decode_scan-read.new.samples c.args.samples.now
    c.area_of-area.ensures c.requires.component c.requires.samples (c.decode_scan-read.ensures.len ∙ ap (λ xs. length (numbers (take c.area_of-area.result.count xs))) c.split_at_mut-rest.ensures.back)
    (λ i o l d. c.decode_scan-read.ensures.others i o l d ∙ ap (λ xs. get_or (numbers (take c.area_of-area.result.count xs)) (i * c.area_of-area.result.components + o) 0) c.split_at_mut-rest.ensures.back)
    k other low differs

pub returns-in-Ok-clause-small : goal.returns-in-Ok-clause-small
returns-in-Ok-clause-small g c k =
    let numbers = g.S.Sample.numbers in
    let back = back_in c.area_of-area.result c.decode_scan-read.new.samples c.args.samples.now c.split_at_mut-rest.result.0.now c.split_at_mut-rest.result.1.now c.split_at_mut-rest.ensures.front c.split_at_mut-rest.ensures.back in
    let inside = lent_inside numbers g.met.S.Sample.one_each g.met.S.Sample.in_parts c.args.arrangement c.args.shape c.args.component c.area_of-area.result c.args.samples.now
    c.area_of-area.ensures c.requires.component c.requires.samples in
    subst (λ xs. get_or (numbers xs) k 0 ≤ c.args.presets.now.maxval) back
    (given_small numbers g.met.S.Sample.one_each g.met.S.Sample.in_parts c.area_of-area.result c.args.presets.now.maxval c.decode_scan-read.new.samples c.args.samples.now
    inside (c.decode_scan-read.ensures.len ∙ ap (λ xs. length (numbers (take c.area_of-area.result.count xs))) c.split_at_mut-rest.ensures.back) c.requires.small c.decode_scan-read.ensures.small k)

pub returns-in-Ok-clause-len : goal.returns-in-Ok-clause-len
returns-in-Ok-clause-len g c =
    let numbers = g.S.Sample.numbers in
    let back = back_in c.area_of-area.result c.decode_scan-read.new.samples c.args.samples.now c.split_at_mut-rest.result.0.now c.split_at_mut-rest.result.1.now c.split_at_mut-rest.ensures.front c.split_at_mut-rest.ensures.back in
    let inside = lent_inside numbers g.met.S.Sample.one_each g.met.S.Sample.in_parts c.args.arrangement c.args.shape c.args.component c.area_of-area.result c.args.samples.now
    c.area_of-area.ensures c.requires.component c.requires.samples in
    ap (λ xs. length (numbers xs)) (sym back)
    ∙ given_length numbers g.met.S.Sample.one_each g.met.S.Sample.in_parts c.area_of-area.result c.decode_scan-read.new.samples c.args.samples.now inside (c.decode_scan-read.ensures.len ∙ ap (λ xs. length (numbers (take c.area_of-area.result.count xs))) c.split_at_mut-rest.ensures.back)

pub returns-in-Err-clause-others : goal.returns-in-Err-clause-others
returns-in-Err-clause-others g c k other low differs =
    let numbers = g.S.Sample.numbers in
    let back = back_in c.area_of-area.result c.decode_scan-read.new.samples c.args.samples.now c.split_at_mut-rest.result.0.now c.split_at_mut-rest.result.1.now c.split_at_mut-rest.ensures.front c.split_at_mut-rest.ensures.back in
    ap (λ xs. get_or (arranged c.args.arrangement c.args.shape.components (numbers xs)) (k * c.args.shape.components + other) 0) (sym back)
    ∙ given_others numbers g.met.S.Sample.one_each g.met.S.Sample.in_parts c.args.arrangement c.args.shape c.args.component c.area_of-area.result c.decode_scan-read.new.samples c.args.samples.now
    c.area_of-area.ensures c.requires.component c.requires.samples (c.decode_scan-read.ensures.len ∙ ap (λ xs. length (numbers (take c.area_of-area.result.count xs))) c.split_at_mut-rest.ensures.back)
    (λ i o l d. c.decode_scan-read.ensures.others i o l d ∙ ap (λ xs. get_or (numbers (take c.area_of-area.result.count xs)) (i * c.area_of-area.result.components + o) 0) c.split_at_mut-rest.ensures.back)
    k other low differs

pub returns-in-Err-clause-small : goal.returns-in-Err-clause-small
returns-in-Err-clause-small g c k =
    let numbers = g.S.Sample.numbers in
    let back = back_in c.area_of-area.result c.decode_scan-read.new.samples c.args.samples.now c.split_at_mut-rest.result.0.now c.split_at_mut-rest.result.1.now c.split_at_mut-rest.ensures.front c.split_at_mut-rest.ensures.back in
    let inside = lent_inside numbers g.met.S.Sample.one_each g.met.S.Sample.in_parts c.args.arrangement c.args.shape c.args.component c.area_of-area.result c.args.samples.now
    c.area_of-area.ensures c.requires.component c.requires.samples in
    subst (λ xs. get_or (numbers xs) k 0 ≤ c.args.presets.now.maxval) back
    (given_small numbers g.met.S.Sample.one_each g.met.S.Sample.in_parts c.area_of-area.result c.args.presets.now.maxval c.decode_scan-read.new.samples c.args.samples.now
    inside (c.decode_scan-read.ensures.len ∙ ap (λ xs. length (numbers (take c.area_of-area.result.count xs))) c.split_at_mut-rest.ensures.back) c.requires.small c.decode_scan-read.ensures.small k)

pub returns-in-Err-clause-len : goal.returns-in-Err-clause-len
returns-in-Err-clause-len g c =
    let numbers = g.S.Sample.numbers in
    let back = back_in c.area_of-area.result c.decode_scan-read.new.samples c.args.samples.now c.split_at_mut-rest.result.0.now c.split_at_mut-rest.result.1.now c.split_at_mut-rest.ensures.front c.split_at_mut-rest.ensures.back in
    let inside = lent_inside numbers g.met.S.Sample.one_each g.met.S.Sample.in_parts c.args.arrangement c.args.shape c.args.component c.area_of-area.result c.args.samples.now
    c.area_of-area.ensures c.requires.component c.requires.samples in
    ap (λ xs. length (numbers xs)) (sym back)
    ∙ given_length numbers g.met.S.Sample.one_each g.met.S.Sample.in_parts c.area_of-area.result c.decode_scan-read.new.samples c.args.samples.now inside (c.decode_scan-read.ensures.len ∙ ap (λ xs. length (numbers (take c.area_of-area.result.count xs))) c.split_at_mut-rest.ensures.back)

-- ---- the samples that are lent

pub decode_scan-read-requires-clause-samples : goal.decode_scan-read-requires-clause-samples
decode_scan-read-requires-clause-samples g c =
    ap (λ xs. length (g.S.Sample.numbers (take c.area_of-area.result.count xs))) c.split_at_mut-rest.ensures.back
    ∙ lent_length g.S.Sample.numbers g.met.S.Sample.one_each g.met.S.Sample.in_parts c.args.arrangement c.args.shape c.args.component c.area_of-area.result c.args.samples.now
    c.area_of-area.ensures c.requires.component c.requires.samples

pub decode_scan-read-requires-clause-few : goal.decode_scan-read-requires-clause-few
decode_scan-read-requires-clause-few g c =
    let pixels : ℕ = c.args.shape.height * c.args.shape.width in
    let number = lent_component g.S.Sample.numbers g.met.S.Sample.one_each g.met.S.Sample.in_parts c.args.arrangement c.args.shape c.args.component c.area_of-area.result c.area_of-area.ensures c.requires.component in
    let fewer : pixels * c.area_of-area.result.components ≤ pixels * c.args.shape.components = mul-le pixels c.area_of-area.result.components pixels c.args.shape.components (omega arith) number.1 in
    omega (arith, fewer, c.requires.few)

pub decode_scan-read-requires-clause-small : goal.decode_scan-read-requires-clause-small
decode_scan-read-requires-clause-small g c k =
    let numbers = g.S.Sample.numbers in
    let inside = lent_inside numbers g.met.S.Sample.one_each g.met.S.Sample.in_parts c.args.arrangement c.args.shape c.args.component c.area_of-area.result c.args.samples.now
    c.area_of-area.ensures c.requires.component c.requires.samples in
    subst (λ xs. get_or (numbers (take c.area_of-area.result.count xs)) k 0 ≤ c.args.presets.now.maxval) (sym c.split_at_mut-rest.ensures.back)
    (lent_small numbers g.met.S.Sample.one_each g.met.S.Sample.in_parts c.area_of-area.result c.args.presets.now.maxval c.args.samples.now inside c.requires.small k)

pub decode_scan-read-requires-clause-component : goal.decode_scan-read-requires-clause-component
decode_scan-read-requires-clause-component g c =
    (lent_component g.S.Sample.numbers g.met.S.Sample.one_each g.met.S.Sample.in_parts c.args.arrangement c.args.shape c.args.component c.area_of-area.result c.area_of-area.ensures c.requires.component).0

-- the area lies within the samples
pub split_at_mut-rest-requires : goal.split_at_mut-rest-requires
split_at_mut-rest-requires g c =
    let inside = lent_inside g.S.Sample.numbers g.met.S.Sample.one_each g.met.S.Sample.in_parts c.args.arrangement c.args.shape c.args.component c.area_of-area.result c.args.samples.now
    c.area_of-area.ensures c.requires.component c.requires.samples in
    omega (arith, g.met.S.Sample.one_each c.args.samples.now)
