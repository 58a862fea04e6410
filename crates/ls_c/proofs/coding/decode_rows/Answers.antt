use Rattle.std.proofs.Common.{◌≡◌, ℕ, ◌+◌, ◌*◌, ◌<◌, ◌≤◌, ◌++◌, List, length, take, drop, get_or, sym, ap, subst, ◌∙◌, arith}
use Rattle.std.proofs.Math.Nat.{le_trans}
use Rattle.std.proofs.lemmas.List.{length-take, length-take-le}
use Rattle.ls_frame.specs.Picture.{Picture, IsFrame, picture_of, components, sample_count}
use Rattle.ls_stream.specs.Components.{arranged}
use Rattle.ls_stream.specs.Grammar.{Spells}
use Rattle.ls_stream.specs.View.Openings.{Opened, opened_form}
use Rattle.ls_stream.proofs.ArrangedLemmas.{arranged_length, small_arranged}
use Rattle.ls_stream.proofs.FrameLemmas.{samples_small}
use Rattle.ls_stream.proofs.FrameReadingLemmas.{written_back}
use Rattle.ls_c.specs.Forms.{rows_of, reach_of, KeepsGaps}
use Rattle.ls_c.proofs.OpeningLemmas.{front_numbers, laid_numbers, beyond_numbers}
use Rattle.ls_c.proofs.SpreadLemmas.{adjacent_rows, adjacent_gaps, spread_rows, all_inside}
use Rattle.ls_c.proofs.coding.decode_rows.Goals as goal

-- ---- rows without gaps

pub slice_bounds-decode_at-end-then-rows : goal.slice_bounds-decode_at-end-then-rows
slice_bounds-decode_at-end-then-rows g c =
    let rows = c.args.rows.now in
    let slots = c.args.samples.now in
    sym (length-take-le c.sample_count-count.result slots
    (omega (arith, all_inside rows.row rows.stride rows.height c.requires.some c.requires.wide, c.requires.enough, c.requires.count, c.sample_count-count.ensures.value, g.met.S.Sample.one_each slots)))

pub decode_at-requires-clause-samples : goal.decode_at-requires-clause-samples
decode_at-requires-clause-samples g c =
    let rows = c.args.rows.now in
    let slots = c.args.samples.now in
    front_numbers g.S.Sample.numbers g.met.S.Sample.one_each c.sample_count-count.result slots
    (omega (arith, all_inside rows.row rows.stride rows.height c.requires.some c.requires.wide, c.requires.enough, c.requires.count, c.sample_count-count.ensures.value, g.met.S.Sample.one_each slots))
    ∙ c.sample_count-count.ensures.value

pub returns-in-Ok-clause-ok : goal.returns-in-Ok-clause-ok
returns-in-Ok-clause-ok g c =
    let o : Opened = c.args.opening.now in
    let rows = c.args.rows.now in
    let slots = c.args.samples.now in
    let numbers = g.S.Sample.numbers in
    let places = c.decode_at.new.places in
    let count : ℕ = c.sample_count-count.result in
    let few : count ≤ length slots = omega (arith, all_inside rows.row rows.stride rows.height c.requires.some c.requires.wide, c.requires.enough, c.requires.count, c.sample_count-count.ensures.value, g.met.S.Sample.one_each slots) in
    let whole : count ≡ rows.height * rows.row = c.sample_count-count.ensures.value ∙ sym c.requires.count in
    let many : length (numbers places) ≡ rows.height * rows.row = omega (arith, whole, c.decode_at.auto.places, length-take count slots, g.met.S.Sample.one_each places, few) in
    let laid = laid_numbers numbers g.met.S.Sample.one_each g.met.S.Sample.in_parts count slots places few ∙ ap (λ n. numbers places ++ drop n (numbers slots)) whole in
    let all = ap (λ xs. rows_of rows.row rows.stride rows.height xs) laid ∙ adjacent_rows rows.row rows.stride rows.height (numbers places) (numbers slots) c.if-rows.true many in
    subst (λ xs. (c.in-Ok.used ≤ length o.bytes) × Spells (take c.in-Ok.used o.bytes) (picture_of (opened_form o) (arranged c.args.arrangement (components o.kind) xs))) (sym all) c.in-Ok.ensures.ok

pub returns-in-Ok-clause-complete : goal.returns-in-Ok-clause-complete
returns-in-Ok-clause-complete g c front rest f e s =
    let o : Opened = c.args.opening.now in
    let rows = c.args.rows.now in
    let slots = c.args.samples.now in
    let numbers = g.S.Sample.numbers in
    let places = c.decode_at.new.places in
    let count : ℕ = c.sample_count-count.result in
    let few : count ≤ length slots = omega (arith, all_inside rows.row rows.stride rows.height c.requires.some c.requires.wide, c.requires.enough, c.requires.count, c.sample_count-count.ensures.value, g.met.S.Sample.one_each slots) in
    let whole : count ≡ rows.height * rows.row = c.sample_count-count.ensures.value ∙ sym c.requires.count in
    let many : length (numbers places) ≡ rows.height * rows.row = omega (arith, whole, c.decode_at.auto.places, length-take count slots, g.met.S.Sample.one_each places, few) in
    let laid = laid_numbers numbers g.met.S.Sample.one_each g.met.S.Sample.in_parts count slots places few ∙ ap (λ n. numbers places ++ drop n (numbers slots)) whole in
    let all = ap (λ xs. rows_of rows.row rows.stride rows.height xs) laid ∙ adjacent_rows rows.row rows.stride rows.height (numbers places) (numbers slots) c.if-rows.true many in
    subst (λ xs. (picture_of (opened_form o) (arranged c.args.arrangement (components o.kind) xs) ≡ f) × (c.in-Ok.used ≡ length front)) (sym all) (c.in-Ok.ensures.complete front rest f e s)

pub returns-in-Ok-clause-gaps : goal.returns-in-Ok-clause-gaps
returns-in-Ok-clause-gaps g c =
    let rows = c.args.rows.now in
    let slots = c.args.samples.now in
    let numbers = g.S.Sample.numbers in
    let places = c.decode_at.new.places in
    let count : ℕ = c.sample_count-count.result in
    let few : count ≤ length slots = omega (arith, all_inside rows.row rows.stride rows.height c.requires.some c.requires.wide, c.requires.enough, c.requires.count, c.sample_count-count.ensures.value, g.met.S.Sample.one_each slots) in
    let whole : count ≡ rows.height * rows.row = c.sample_count-count.ensures.value ∙ sym c.requires.count in
    let many : length (numbers places) ≡ rows.height * rows.row = omega (arith, whole, c.decode_at.auto.places, length-take count slots, g.met.S.Sample.one_each places, few) in
    let laid = laid_numbers numbers g.met.S.Sample.one_each g.met.S.Sample.in_parts count slots places few ∙ ap (λ n. numbers places ++ drop n (numbers slots)) whole in
    subst (λ xs. KeepsGaps rows.row rows.stride rows.height (numbers slots) xs) (sym laid) (adjacent_gaps rows.row rows.stride rows.height (numbers places) (numbers slots) c.if-rows.true many)

pub returns-in-Err-clause-beyond : goal.returns-in-Err-clause-beyond
returns-in-Err-clause-beyond g c =
    let rows = c.args.rows.now in
    let slots = c.args.samples.now in
    let numbers = g.S.Sample.numbers in
    let places = c.decode_at.new.places in
    let count : ℕ = c.sample_count-count.result in
    let few : count ≤ length slots = omega (arith, all_inside rows.row rows.stride rows.height c.requires.some c.requires.wide, c.requires.enough, c.requires.count, c.sample_count-count.ensures.value, g.met.S.Sample.one_each slots) in
    let whole : count ≡ rows.height * rows.row = c.sample_count-count.ensures.value ∙ sym c.requires.count in
    let many : length (numbers places) ≡ rows.height * rows.row = omega (arith, whole, c.decode_at.auto.places, length-take count slots, g.met.S.Sample.one_each places, few) in
    beyond_numbers (rows.height * rows.row) (numbers places) (numbers slots) _ many
    (laid_numbers numbers g.met.S.Sample.one_each g.met.S.Sample.in_parts count slots places few ∙ ap (λ n. numbers places ++ drop n (numbers slots)) whole)

-- ---- rows with gaps

pub spread-requires-clause-fits : goal.spread-requires-clause-fits
spread-requires-clause-fits g c k =
    let o : Opened = c.args.opening.now in
    let apart : List ℕ = c.decode_at-2.new.places in
    let frame : IsFrame (picture_of (opened_form o) (arranged c.args.arrangement (components o.kind) apart)) = c.in-Ok-decode_at.ensures.ok.1.frame in
    let small = small_arranged c.args.arrangement (components o.kind) (o.width * o.height) o.parameters.maxval apart
    (sym (arranged_length c.args.arrangement (components o.kind) apart) ∙ frame.formed.count)
    (samples_small (picture_of (opened_form o) (arranged c.args.arrangement (components o.kind) apart)) frame) in
    let same : c.deref.result.now ≡ apart =
    c.deref.ensures.value ∙ written_back c.in_ok-apart.apart.len apart c.in_ok-apart.apart.items (omega (arith, c.decode_at-2.auto.places, c.deref_mut.ensures.len)) in
    subst (λ xs. get_or xs k 0 ≤ g.S.Sample.most) (sym same) (le_trans (small k) c.requires.fits)

pub returns-in-Ok-decode_at-clause-ok : goal.returns-in-Ok-decode_at-clause-ok
returns-in-Ok-decode_at-clause-ok g c =
    let o : Opened = c.args.opening.now in
    let rows = c.args.rows.now in
    let numbers = g.S.Sample.numbers in
    let apart : List ℕ = c.decode_at-2.new.places in
    let new = numbers c.spread.new.samples in
    let frame : IsFrame (picture_of (opened_form o) (arranged c.args.arrangement (components o.kind) apart)) = c.in-Ok-decode_at.ensures.ok.1.frame in
    let many : length apart ≡ rows.height * rows.row = sym (arranged_length c.args.arrangement (components o.kind) apart) ∙ frame.formed.count ∙ sym c.requires.count in
    let same : c.deref.result.now ≡ apart =
    c.deref.ensures.value ∙ written_back c.in_ok-apart.apart.len apart c.in_ok-apart.apart.items (omega (arith, c.decode_at-2.auto.places, c.deref_mut.ensures.len)) in
    let all = spread_rows rows.row rows.stride rows.height apart new c.requires.some c.requires.wide (omega (arith, c.requires.enough, c.spread.ensures.len)) many
    (λ i j h l. c.spread.ensures.stored i j h l ∙ ap (λ xs. get_or xs (i * rows.row + j) 0) same) in
    subst (λ xs. (c.in-Ok-decode_at.used ≤ length o.bytes) × Spells (take c.in-Ok-decode_at.used o.bytes) (picture_of (opened_form o) (arranged c.args.arrangement (components o.kind) xs))) (sym all) c.in-Ok-decode_at.ensures.ok

pub returns-in-Ok-decode_at-clause-complete : goal.returns-in-Ok-decode_at-clause-complete
returns-in-Ok-decode_at-clause-complete g c front rest f e s =
    let o : Opened = c.args.opening.now in
    let rows = c.args.rows.now in
    let numbers = g.S.Sample.numbers in
    let apart : List ℕ = c.decode_at-2.new.places in
    let new = numbers c.spread.new.samples in
    let frame : IsFrame (picture_of (opened_form o) (arranged c.args.arrangement (components o.kind) apart)) = c.in-Ok-decode_at.ensures.ok.1.frame in
    let many : length apart ≡ rows.height * rows.row = sym (arranged_length c.args.arrangement (components o.kind) apart) ∙ frame.formed.count ∙ sym c.requires.count in
    let same : c.deref.result.now ≡ apart =
    c.deref.ensures.value ∙ written_back c.in_ok-apart.apart.len apart c.in_ok-apart.apart.items (omega (arith, c.decode_at-2.auto.places, c.deref_mut.ensures.len)) in
    let all = spread_rows rows.row rows.stride rows.height apart new c.requires.some c.requires.wide (omega (arith, c.requires.enough, c.spread.ensures.len)) many
    (λ i j h l. c.spread.ensures.stored i j h l ∙ ap (λ xs. get_or xs (i * rows.row + j) 0) same) in
    subst (λ xs. (picture_of (opened_form o) (arranged c.args.arrangement (components o.kind) xs) ≡ f) × (c.in-Ok-decode_at.used ≡ length front)) (sym all) (c.in-Ok-decode_at.ensures.complete front rest f e s)
