-- What is decoded into rows.
use Rattle.std.proofs.Common.{◌≡◌, ◌≢◌, ℕ, ◌<◌, ◌≤◌, List, ◌++◌, length, take, drop, None, Some, refl, sym, ◌∙◌, ap, subst, arith}
use Rattle.ls_frame.specs.declared.frame.Form.{Form}
use Rattle.ls_frame.specs.declared.frame.Kind.{Kind}
use Rattle.ls_frame.specs.declared.frame.Kind.TheVariants.{Gray, Color}
use Rattle.ls_frame.specs.Picture.{Picture, picture_of, components, sample_count}
use Rattle.ls_stream.specs.Components.{arranged}
use Rattle.ls_stream.specs.Grammar.{Spells}
use Rattle.ls_stream.specs.View.Openings.{Opened, opened_form}
use Rattle.ls_c.specs.declared.form.JlsrecForm.{JlsrecForm}
use Rattle.ls_c.specs.declared.form.JlsrecFault.{JlsrecFault}
use Rattle.ls_c.specs.declared.refusal.Refusal.{Refusal}
use Rattle.ls_c.specs.declared.refusal.Refusal.TheVariants as refusal
use Rattle.ls_c.specs.declared.request.Layout.{Layout}
use Rattle.ls_c.specs.declared.request.Rows.{Rows}
use Rattle.ls_c.specs.Forms.{kind_of, row_of, height_of, stride_by, row_in, height_in, stride_in, rows_of, rows_in, rows_refusal, KeepsGaps, picture_in}
use Rattle.ls_c.specs.Refusals.{number_of, no_details}
use Rattle.ls_c.specs.Calls.{HaveForm, SaysForm, form_by, samples_of, HaveFitting, IsUnopened, too_deep, too_large, at_fault, IsDecoding, laid, room_refusal, IsLaidOut, unfit, decoded}
use Rattle.ls_c.proofs.DecodingLemmas.{same_form, unopened}
use Rattle.ls_c.proofs.NumberLemmas.{number_some}
use Rattle.ls_c.proofs.OpeningLemmas.{decoded_of}

kind_again : (kind : Kind) → kind_of (components kind) ≡ kind
kind_again Gray = refl
kind_again Color = refl

-- the rows of an opening's frame, laid out so
pub record AreRowsOf (o : Opened) (layout : Layout) (rows : Rows) : Type 0 where
  pub row : rows.row ≡ row_of layout.arrangement (components o.kind) o.width
  pub stride : rows.stride ≡ stride_by (row_of layout.arrangement (components o.kind) o.width) layout.stride
  pub height : rows.height ≡ height_of layout.arrangement (components o.kind) o.height

-- they are those of a call of rows_of
pub rows_are : (o : Opened) (form : Form) (layout : Layout) (rows : Rows) → form ≡ opened_form o → rows.row ≡ row_of layout.arrangement (components form.kind) form.width
    → rows.stride ≡ stride_by (row_of layout.arrangement (components form.kind) form.width) layout.stride
    → rows.height ≡ height_of layout.arrangement (components form.kind) form.height → AreRowsOf o layout rows
rows_are o form layout rows e row stride height = record {
  row = row ∙ ap (λ (x : Form). row_of layout.arrangement (components x.kind) x.width) e;
  stride = stride ∙ ap (λ (x : Form). stride_by (row_of layout.arrangement (components x.kind) x.width) layout.stride) e;
  height = height ∙ ap (λ (x : Form). height_of layout.arrangement (components x.kind) x.height) e;
}

-- the refusal that a call of rows_of gives
pub room_by : (o : Opened) (given : Form) (form : JlsrecForm) (layout : Layout) (room : ℕ) → given ≡ opened_form o → form ≡ form_by o
    → rows_refusal refusal.NoRoom (row_of layout.arrangement (components given.kind) given.width) layout.stride (height_of layout.arrangement (components given.kind) given.height) room
    ≡ room_refusal form layout room
room_by o given form layout room e by =
    ap (λ (x : Form). rows_refusal refusal.NoRoom (row_of layout.arrangement (components x.kind) x.width) layout.stride (height_of layout.arrangement (components x.kind) x.height) room) e
    ∙ sym (ap (λ (k : Kind). rows_refusal refusal.NoRoom (row_of layout.arrangement (components k) o.width) layout.stride (height_of layout.arrangement (components k) o.height) room) (kind_again o.kind))
    ∙ sym (ap (λ (x : JlsrecForm). room_refusal x layout room) by)

row_by : (o : Opened) (form : JlsrecForm) (layout : Layout) (rows : Rows) → form ≡ form_by o → AreRowsOf o layout rows → rows.row ≡ row_in form layout
row_by o form layout rows by are =
    are.row ∙ sym (ap (λ (k : Kind). row_of layout.arrangement (components k) o.width) (kind_again o.kind)) ∙ sym (ap (λ (x : JlsrecForm). row_in x layout) by)

height_by : (o : Opened) (form : JlsrecForm) (layout : Layout) (rows : Rows) → form ≡ form_by o → AreRowsOf o layout rows → rows.height ≡ height_in form layout
height_by o form layout rows by are =
    are.height ∙ sym (ap (λ (k : Kind). height_of layout.arrangement (components k) o.height) (kind_again o.kind)) ∙ sym (ap (λ (x : JlsrecForm). height_in x layout) by)

stride_of : (o : Opened) (form : JlsrecForm) (layout : Layout) (rows : Rows) → form ≡ form_by o → AreRowsOf o layout rows → rows.stride ≡ stride_in form layout
stride_of o form layout rows by are =
    are.stride ∙ sym (ap (λ (k : Kind). stride_by (row_of layout.arrangement (components k) o.width) layout.stride) (kind_again o.kind))
    ∙ sym (ap (λ (x : JlsrecForm). stride_in x layout) by)

count_by : (o : Opened) (form : JlsrecForm) → form ≡ form_by o → components o.kind ≡ components (kind_of form.components)
count_by o form by = sym (ap components (kind_again o.kind)) ∙ sym (ap (λ (x : JlsrecForm). components (kind_of x.components)) by)

samples_by : (o : Opened) (form : JlsrecForm) (layout : Layout) (rows : Rows) (new : List ℕ) → form ≡ form_by o → AreRowsOf o layout rows
    → arranged layout.arrangement (components o.kind) (rows_of rows.row rows.stride rows.height new) ≡ (picture_in form layout new).samples
samples_by o form layout rows new by are =
    ap (λ n. arranged layout.arrangement n (rows_of rows.row rows.stride rows.height new)) (count_by o form by)
    ∙ ap (λ n. arranged layout.arrangement (components (kind_of form.components)) (rows_of n rows.stride rows.height new)) (row_by o form layout rows by are)
    ∙ ap (λ n. arranged layout.arrangement (components (kind_of form.components)) (rows_of (row_in form layout) n rows.height new)) (stride_of o form layout rows by are)
    ∙ ap (λ n. arranged layout.arrangement (components (kind_of form.components)) (rows_of (row_in form layout) (stride_in form layout) n new)) (height_by o form layout rows by are)

gaps_by : (o : Opened) (form : JlsrecForm) (layout : Layout) (rows : Rows) (old new : List ℕ) → form ≡ form_by o → AreRowsOf o layout rows → KeepsGaps rows.row rows.stride rows.height old new
    → KeepsGaps (row_in form layout) (stride_in form layout) (height_in form layout) old new
gaps_by o form layout rows old new by are gaps =
    subst (λ n. KeepsGaps (row_in form layout) (stride_in form layout) n old new) (height_by o form layout rows by are)
    (subst (λ n. KeepsGaps (row_in form layout) n rows.height old new) (stride_of o form layout rows by are)
    (subst (λ n. KeepsGaps n rows.stride rows.height old new) (row_by o form layout rows by are) gaps))

-- where the rows of one form fit, those of each form that the bytes give do
fits_given : (bytes : List ℕ) (form : JlsrecForm) (layout : Layout) (room : ℕ) → HaveForm bytes form → room_refusal form layout room ≡ None
    → (given : JlsrecForm) → HaveForm bytes given → room_refusal given layout room ≡ None
fits_given bytes form layout room has none given other = ap (λ (x : JlsrecForm). room_refusal x layout room) (same_form bytes form given has other) ∙ none

-- ---- what the call leaves

-- what wasn't opened doesn't fit
unfitting : (most room : ℕ) (bytes : List ℕ) (form : JlsrecForm) (fault : JlsrecFault) (r : Refusal) → IsUnopened most room bytes form fault r → HaveFitting most room bytes → ⊥
unfitting most room bytes form fault r (too_deep e has deeper says none) fitting =
    let same = same_form bytes form fitting.0 has fitting.1 in
    omega (arith, ap (λ (x : JlsrecForm). x.maxval) same, deeper, fitting.2)
unfitting most room bytes form fault r (too_large e has shallow longer says none) fitting =
    let same = same_form bytes form fitting.0 has fitting.1 in
    omega (arith, ap samples_of same, longer, fitting.3)
unfitting most room bytes form fault r (at_fault first e other is closed none says formless) fitting = closed fitting.0 fitting.1

pub not_opened : (most : ℕ) (bytes : List ℕ) (layout : Layout) (old : List ℕ) (form : JlsrecForm) (used : ℕ) (fault : JlsrecFault) (r : Refusal)
    → IsUnopened most (length old) bytes form fault r → used ≡ 0 → IsLaidOut most bytes layout old old form used fault (number_of r)
not_opened most bytes layout old form used fault r closed unused =
    decoded old (unopened most bytes old form used fault r closed unused)
    (λ given fitting _. absurd (unfitting most (length old) bytes form fault r closed fitting))
    refl
    (λ zero. absurd (omega (arith, number_some r, zero)))
    (λ zero. absurd (omega (arith, number_some r, zero)))
    (λ _. refl)

pub into_rows : (most : ℕ) (bytes : List ℕ) (layout : Layout) (old new : List ℕ) (form : JlsrecForm) (used : ℕ) (fault : JlsrecFault) (o : Opened) (rows : Rows) → o.bytes ≡ bytes
    → (o.parameters.maxval ≤ most) × (sample_count o.kind o.width o.height ≤ length old) → HaveForm bytes form × (form ≡ form_by o) → SaysForm bytes form
    → AreRowsOf o layout rows → room_refusal form layout (length old) ≡ None
    → (used ≤ length o.bytes) × Spells (take used o.bytes) (picture_of (opened_form o) (arranged layout.arrangement (components o.kind) (rows_of rows.row rows.stride rows.height new)))
    → ((front rest : List ℕ) (g : Picture) → o.bytes ≡ front ++ rest → Spells front g
    → (picture_of (opened_form o) (arranged layout.arrangement (components o.kind) (rows_of rows.row rows.stride rows.height new)) ≡ g) × (used ≡ length front))
    → fault ≡ no_details → length new ≡ length old → KeepsGaps rows.row rows.stride rows.height old new
    → IsLaidOut most bytes layout old new form used fault 0
into_rows most bytes layout old new form used fault o rows same_bytes fits has says are none ok only faultless len gaps =
    let samples : List ℕ = arranged layout.arrangement (components o.kind) (rows_of rows.row rows.stride rows.height new) in
    decoded (laid samples old) (decoded_of most bytes old (laid samples old) form used fault o samples same_bytes fits has says ok only faultless refl)
    (λ given _ other. fits_given bytes form layout (length old) has.0 none given other)
    len
    (λ _. ap (λ xs. laid xs old) (samples_by o form layout rows new has.1 are))
    (λ _. gaps_by o form layout rows old new has.1 are gaps)
    (λ some. absurd (some refl))

pub stopped_in_rows : (most : ℕ) (bytes : List ℕ) (layout : Layout) (old new : List ℕ) (given form : JlsrecForm) (used : ℕ) (fault : JlsrecFault) (status : ℕ)
    → IsDecoding most bytes old new form used fault status → 0 < status → HaveForm bytes given → room_refusal given layout (length old) ≡ None → length new ≡ length old
    → IsLaidOut most bytes layout old new form used fault status
stopped_in_rows most bytes layout old new given form used fault status decoding some has none len =
    decoded new decoding
    (λ other _ has_other. fits_given bytes given layout (length old) has none other has_other)
    len
    (λ zero. absurd (omega (arith, some, zero)))
    (λ zero. absurd (omega (arith, some, zero)))
    (λ _. refl)
