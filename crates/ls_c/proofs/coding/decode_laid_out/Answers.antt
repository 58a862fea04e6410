use Rattle.std.proofs.Common.{◌≡◌, ◌⊎◌, ℕ, ◌+◌, ◌*◌, ◌<◌, ◌≤◌, Some, None, length, drop, refl, sym, ap, subst, ◌∙◌, arith}
use Rattle.ls_frame.specs.declared.frame.Form.{Form}
use Rattle.ls_frame.specs.Picture.{components, sample_count}
use Rattle.ls_stream.specs.declared.faults.StreamFault.TheVariants.{NoMemory}
use Rattle.ls_stream.specs.View.Outlines.{IsFirstFault}
use Rattle.ls_stream.specs.View.Openings.{Opened, opened_form}
use Rattle.ls_c.specs.declared.form.JlsrecForm.{JlsrecForm}
use Rattle.ls_c.specs.Forms.{row_of, height_of, reach_of}
use Rattle.ls_c.specs.Calls.{IsUnopened, HaveForm, form_by, samples_of, room_refusal, unfit, but_its}
use Rattle.ls_c.proofs.DecodingLemmas.{stopped}
use Rattle.ls_c.proofs.EncodingLemmas.{product, some_rows}
use Rattle.ls_c.proofs.LaidOutLemmas.{AreRowsOf, rows_are, room_by, not_opened, into_rows, stopped_in_rows}
use Rattle.ls_c.proofs.NumberLemmas.{fault_some}
use Rattle.ls_c.proofs.OpeningLemmas.{fitting, all_fit, form_samples}
use Rattle.ls_c.proofs.coding.decode_laid_out.Goals as goal

pub returns-in-Err : goal.returns-in-Err
returns-in-Err g c =
    let old = g.S.Sample.numbers c.args.samples.now in
    not_opened g.S.Sample.most c.args.bytes.now c.args.layout old c.open.new.form 0 c.open.new.fault c.in-Err.refused
    (subst (λ most. IsUnopened most (length old) c.args.bytes.now c.open.new.form c.open.new.fault c.in-Err.refused) c.greatest.ensures
    (subst (λ room. IsUnopened c.greatest.result room c.args.bytes.now c.open.new.form c.open.new.fault c.in-Err.refused) (sym (g.met.S.Sample.one_each c.args.samples.now)) c.in-Err.ensures.refused)) refl

pub returns-in-Err-rows_of : goal.returns-in-Err-rows_of
returns-in-Err-rows_of g c =
    let slots = c.args.samples.now in
    let old = g.S.Sample.numbers slots in
    let has = c.in-Ok.ensures.form in
    let form : JlsrecForm = c.open.new.form in
    let refused = c.in-Err-rows_of.refused in
    let fits = all_fit g.S.Sample.most (length old) c.args.bytes.now form c.in-Ok.opening
    (subst (λ most. c.in-Ok.opening.parameters.maxval ≤ most) c.greatest.ensures c.in-Ok.ensures.fits.0, omega (arith, g.met.S.Sample.one_each slots, c.in-Ok.ensures.fits.1)) has form has.0 in
    unfit refused
    (subst (λ room. room_refusal form c.args.layout room ≡ Some refused) (sym (g.met.S.Sample.one_each slots))
    (sym (room_by c.in-Ok.opening c.form.result form c.args.layout (length slots) c.form.ensures.value has.1) ∙ c.in-Err-rows_of.ensures.exactly))
    refl has.0 fits.0 fits.1 refl refl c.in-Ok.ensures.faultless

-- the rows of the opening's frame
pub decode_rows-requires-clause-count : goal.decode_rows-requires-clause-count
decode_rows-requires-clause-count g c =
    let o : Opened = c.in-Ok.opening in
    let are : AreRowsOf o c.args.layout c.in-Ok-rows_of.rows =
    rows_are o c.form.result c.args.layout c.in-Ok-rows_of.rows c.form.ensures.value c.in-Ok-rows_of.ensures.row c.in-Ok-rows_of.ensures.stride c.in-Ok-rows_of.ensures.height in
    ap (λ n. n * c.in-Ok-rows_of.rows.row) are.height ∙ ap (λ n. height_of c.args.layout.arrangement (components o.kind) o.height * n) are.row
    ∙ product c.args.layout.arrangement o.height o.width (components o.kind)

pub decode_rows-requires-clause-some : goal.decode_rows-requires-clause-some
decode_rows-requires-clause-some g c =
    omega (arith, c.in-Ok-rows_of.ensures.height, some_rows c.args.layout.arrangement c.form.result.kind c.form.result.height c.form.ensures.some_height)

pub decode_rows-requires-clause-enough : goal.decode_rows-requires-clause-enough
decode_rows-requires-clause-enough g c =
    subst (λ n. reach_of c.in-Ok-rows_of.rows.row c.in-Ok-rows_of.rows.stride c.in-Ok-rows_of.rows.height ≤ n) (sym (g.met.S.Sample.one_each c.args.samples.now)) c.in-Ok-rows_of.ensures.enough

pub returns-in-Ok-decode_rows : goal.returns-in-Ok-decode_rows
returns-in-Ok-decode_rows g c =
    let numbers = g.S.Sample.numbers in
    let slots = c.args.samples.now in
    let o : Opened = c.in-Ok.opening in
    let form : JlsrecForm = c.open.new.form in
    let has = c.in-Ok.ensures.form in
    let rows = c.in-Ok-rows_of.rows in
    into_rows g.S.Sample.most c.args.bytes.now c.args.layout (numbers slots) (numbers c.decode_rows.new.samples) form c.in-Ok-decode_rows.taken c.open.new.fault o rows
    c.in-Ok.ensures.bytes
    (subst (λ most. o.parameters.maxval ≤ most) c.greatest.ensures c.in-Ok.ensures.fits.0, omega (arith, g.met.S.Sample.one_each slots, c.in-Ok.ensures.fits.1))
    has c.in-Ok.ensures.spelled
    (rows_are o c.form.result c.args.layout rows c.form.ensures.value c.in-Ok-rows_of.ensures.row c.in-Ok-rows_of.ensures.stride c.in-Ok-rows_of.ensures.height)
    (subst (λ room. room_refusal form c.args.layout room ≡ None) (sym (g.met.S.Sample.one_each slots))
    (sym (room_by o c.form.result form c.args.layout (length slots) c.form.ensures.value has.1) ∙ c.in-Ok-rows_of.ensures.exactly))
    c.in-Ok-decode_rows.ensures.ok c.in-Ok-decode_rows.ensures.complete c.in-Ok.ensures.faultless c.decode_rows.ensures.len c.in-Ok-decode_rows.ensures.gaps

pub returns-in-Err-decode_rows : goal.returns-in-Err-decode_rows
returns-in-Err-decode_rows g c =
    let numbers = g.S.Sample.numbers in
    let slots = c.args.samples.now in
    let o : Opened = c.in-Ok.opening in
    let form : JlsrecForm = c.open.new.form in
    let has = c.in-Ok.ensures.form in
    let rows = c.in-Ok-rows_of.rows in
    let first = c.in-Err-decode_rows.first in
    let fits : (o.parameters.maxval ≤ g.S.Sample.most) × (sample_count o.kind o.width o.height ≤ length (numbers slots)) =
    (subst (λ most. o.parameters.maxval ≤ most) c.greatest.ensures c.in-Ok.ensures.fits.0, omega (arith, g.met.S.Sample.one_each slots, c.in-Ok.ensures.fits.1)) in
    let are : AreRowsOf o c.args.layout rows =
    rows_are o c.form.result c.args.layout rows c.form.ensures.value c.in-Ok-rows_of.ensures.row c.in-Ok-rows_of.ensures.stride c.in-Ok-rows_of.ensures.height in
    let count : rows.height * rows.row ≡ samples_of form =
    ap (λ n. n * rows.row) are.height ∙ ap (λ n. height_of c.args.layout.arrangement (components o.kind) o.height * n) are.row
    ∙ product c.args.layout.arrangement o.height o.width (components o.kind) ∙ sym (form_samples o form has.1) in
    stopped_in_rows g.S.Sample.most c.args.bytes.now c.args.layout (numbers slots) (numbers c.decode_rows.new.samples) form _ 0 _ _
    (stopped g.S.Sample.most c.args.bytes.now (numbers slots) (numbers c.decode_rows.new.samples) _ 0 _ first
    (λ front rest f e s. c.in-Err-decode_rows.ensures.complete front rest f (c.in-Ok.ensures.bytes ∙ e) s)
    (subst (λ bytes. (first ≡ NoMemory) ⊎ IsFirstFault bytes first) c.in-Ok.ensures.bytes c.in-Err-decode_rows.ensures.first)
    (all_fit g.S.Sample.most (length (numbers slots)) c.args.bytes.now form o fits has)
    (λ _. fitting g.S.Sample.most (length (numbers slots)) c.args.bytes.now form o fits has)
    (λ e. c.in-Err-decode_rows.ensures.kept e)
    (but_its form has.0 (subst (λ n. drop n (numbers c.decode_rows.new.samples) ≡ drop n (numbers slots)) count c.in-Err-decode_rows.ensures.beyond))
    c.details_of.ensures refl c.no_form.ensures)
    (omega (arith, fault_some first))
    has.0
    (subst (λ room. room_refusal form c.args.layout room ≡ None) (sym (g.met.S.Sample.one_each slots))
    (sym (room_by o c.form.result form c.args.layout (length slots) c.form.ensures.value has.1) ∙ c.in-Ok-rows_of.ensures.exactly))
    c.decode_rows.ensures.len
