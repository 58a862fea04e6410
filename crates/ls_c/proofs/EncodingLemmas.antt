-- The result of encoding, put together from its steps.
use Rattle.std.proofs.Common.{◌≡◌, ◌≢◌, ◌⊎◌, ℕ, ◌*◌, ◌<◌, ◌≤◌, Bool, true, false, List, ◌++◌, length, take, drop, Ok, Err, None, Some, OnOk, OnErr, IfErr, inl, inr, refl, sym, ◌∙◌, ap, subst, le-leb, arith}
use Rattle.std.specs.Prelude.{Option, Result, ◌&&◌, ◌||◌, ◌==◌, nat_le, nat_lt}
use Rattle.std.specs.List.{position}
use Rattle.std.proofs.lemmas.Bool.{lt-leb}
use Rattle.std.proofs.lemmas.Grind.{common_steps}
use Rattle.ls_frame.specs.declared.frame.Kind.{Kind}
use Rattle.ls_frame.specs.declared.frame.Kind.TheVariants.{Gray, Color}
use Rattle.ls_frame.specs.declared.presets.PresetFault.{PresetFault}
use Rattle.ls_frame.specs.Picture.{Picture, IsFormed, IsFrame, picture_of, components, sample_count, most_samples}
use Rattle.ls_frame.specs.Parameters.{Parameters, preset_fault}
use Rattle.ls_frame.proofs.SampleLemmas.{whole_frame}
use Rattle.ls_stream.specs.declared.faults.StreamFault.TheVariants as stream
use Rattle.ls_stream.specs.declared.arranged.Arrangement.{Arrangement}
use Rattle.ls_stream.specs.declared.arranged.Arrangement.TheVariants.{Pixels, Planes}
use Rattle.ls_stream.specs.Components.{arranged}
use Rattle.ls_stream.specs.Grammar.{Spells}
use Rattle.ls_stream.specs.Layout.{codestream}
use Rattle.ls_stream.proofs.FrameLemmas.{none_found, samples_small}
use Rattle.ls_c.specs.declared.form.JlsrecForm.{JlsrecForm}
use Rattle.ls_c.specs.declared.refusal.Refusal.{Refusal}
use Rattle.ls_c.specs.declared.refusal.Refusal.TheVariants as refusal
use Rattle.ls_c.specs.Forms.{is_none, unless_met, or_next, preset_refusal, form_refusal, rows_refusal, request_refusal, coding_refusal, encode_refusal, picture_in, parameters, row_of, height_of, stride_by, row_in, height_in, stride_in, kind_of, is_sixteen_bits, reach_of, rows_of}
use Rattle.ls_c.specs.Refusals.{number_of, status_of, status_by}
use Rattle.ls_c.specs.Calls.{IsEncoding}
use Rattle.ls_c.specs.declared.request.Layout.{Layout}
use Rattle.ls_c.specs.declared.request.Request.{Request}
use Rattle.ls_c.specs.Requests.{IsRequest}
use Rattle.ls_c.proofs.NumberLemmas.{preset_above, number_some, two_is_no_room}
use Rattle.ls_c.proofs.RowLemmas.{rows_length, rows_adjacent}

-- ---- why a request is refused

-- no refusal, or one with status 3 or above
IsAbove : Option Refusal → Type 0
IsAbove found = (r : Refusal) → found ≡ Some r → 3 ≤ number_of r

none_above : IsAbove None
unfolding IsAbove
none_above r e = absurd cc

some_above : (refused : Refusal) → 3 ≤ number_of refused → IsAbove (Some refused)
unfolding IsAbove
some_above refused above r e = let same : refused ≡ r = cc in subst (λ (x : Refusal). 3 ≤ number_of x) same above

unless_above : (met : Bool) (refused : Refusal) (next : Option Refusal) → 3 ≤ number_of refused → IsAbove next → IsAbove (unless_met met refused next)
unless_above true refused next above later = later
unless_above false refused next above later = some_above refused above

next_above : (first next : Option Refusal) → IsAbove first → IsAbove next → IsAbove (or_next first next)
next_above None next first_above later = later
next_above (Some refused) next first_above later = first_above

presets_above : (fault : Option PresetFault) (next : Option Refusal) → IsAbove next → IsAbove (preset_refusal fault next)
presets_above None next later = later
presets_above (Some fault) next later = some_above (refusal.Preset fault) (preset_above fault)

form_above : (form : JlsrecForm) → IsAbove (form_refusal form)
form_above form =
    unless_above (form.components == 1 || form.components == 3) refusal.Components _ (omega arith)
    (unless_above (is_sixteen_bits form.width && is_sixteen_bits form.height) refusal.Side _ (omega arith)
    (unless_above (nat_le (sample_count (kind_of form.components) form.width form.height) most_samples) refusal.TooManySamples _ (omega arith)
    (unless_above (is_sixteen_bits form.maxval) refusal.Maxval None (omega arith) none_above)))

rows_above : (row : ℕ) (stride : Option ℕ) (height count : ℕ) → IsAbove (rows_refusal refusal.TooFewSamples row stride height count)
rows_above row None height count = some_above refusal.Stride (omega arith)
rows_above row (Some stride) height count =
    unless_above (nat_le row (stride_by row (Some stride))) refusal.Stride _ (omega arith)
    (unless_above (nat_le (reach_of row (stride_by row (Some stride)) height) count) refusal.TooFewSamples None (omega arith) none_above)

request_above : (most : ℕ) (form : JlsrecForm) (layout : Layout) (count : ℕ) (r : Refusal) → request_refusal most form layout count ≡ Some r → 3 ≤ number_of r
unfolding IsAbove
request_above most form layout count =
    next_above (form_refusal form) _ (form_above form) (unless_above (nat_le form.maxval most) refusal.NotEightBits _ (omega arith)
    (presets_above (preset_fault (parameters form)) _ (rows_above (row_in form layout) layout.stride (height_in form layout) count)))

-- ---- encoding

not_zero : (r : Refusal) → number_of r ≢ 0
not_zero r = λ e. absurd (omega (arith, number_some r, e))

pub refused : (most : ℕ) (form : JlsrecForm) (layout : Layout) (samples old : List ℕ) (r : Refusal) → request_refusal most form layout (length samples) ≡ Some r
    → IsEncoding most form layout samples old old 0 (number_of r)
refused most form layout samples old r e =
    let above = request_above most form layout (length samples) r e in
    record {
      status_is = inr (ap status_by (sym (ap (λ (found : Option Refusal). or_next found (coding_refusal (picture_in form layout samples) (parameters form) (length old))) e)));
      memory = λ one. absurd (omega (arith, above, one));
      frame = λ none. absurd (omega (arith, above, none));
      spells = λ none. absurd (omega (arith, above, none));
      done = λ none. absurd (omega (arith, above, none));
      kept = λ _. refl;
      need = λ two. absurd (omega (arith, above, two));
      none = λ _ _. refl;
    }

pub no_memory : (most : ℕ) (form : JlsrecForm) (layout : Layout) (samples old : List ℕ) → request_refusal most form layout (length samples) ≡ None
    → IsEncoding most form layout samples old old 0 1
no_memory most form layout samples old e = record {
  status_is = inl refl;
  memory = λ _. e;
  frame = λ none. absurd (omega (arith, none));
  spells = λ none. absurd (omega (arith, none));
  done = λ none. absurd (omega (arith, none));
  kept = λ _. refl;
  need = λ two. absurd (omega (arith, two));
  none = λ _ _. refl;
}

-- the result of encoding samples that were copied together
pub record IsCoding (f : Picture) (p : Parameters) (old new : List ℕ) (written : ℕ) (result : Result (Unit {0}) Refusal) : Type 0 where
  pub exactly : (result ≡ Err (refusal.Stream stream.NoMemory)) ⊎ (status_of result ≡ status_by (coding_refusal f p (length old)))
  pub frame : OnOk result (IsFrame f)
  pub done : OnOk result (new ≡ codestream f p ++ drop written old)
  pub count : OnOk result (written ≡ length (codestream f p))
  pub spells : OnOk result (Spells (codestream f p) f)
  pub kept : OnErr result (new ≡ old)
  pub need : result ≡ Err refusal.NoRoom → (written ≡ length (codestream f p)) × (length old < written)
  pub none : IfErr result (λ (refused : Refusal). (refused ≡ refusal.NoRoom) ⊎ (written ≡ 0))

-- ---- why a picture is refused

pub frame_refusal : (f : Picture) (p : Parameters) (room : ℕ) → IsFrame f → coding_refusal f p room ≡ unless_met (nat_le (length (codestream f p)) room) refusal.NoRoom None
frame_refusal f p room frame =
    ap (λ found. unless_met (is_none found) refusal.SampleTooLarge (unless_met (nat_le (length (codestream f p)) room) refusal.NoRoom None))
    (none_found f.maxval f.samples (samples_small f frame))

-- and if the codestream fits, or doesn't
pub room : (f : Picture) (p : Parameters) (old : List ℕ) → length (codestream f p) ≤ length old → unless_met (nat_le (length (codestream f p)) (length old)) refusal.NoRoom None ≡ None
room f p old fits = ap (λ met. unless_met met refusal.NoRoom None) (le-leb (length (codestream f p)) (length old) fits)

pub no_room : (f : Picture) (p : Parameters) (old : List ℕ) → length old < length (codestream f p) → unless_met (nat_le (length (codestream f p)) (length old)) refusal.NoRoom None ≡ Some refusal.NoRoom
no_room f p old short = ap (λ met. unless_met met refusal.NoRoom None) (lt-leb (length (codestream f p)) (length old) short)

over_by : (f : Picture) (next : Option Refusal) (found : Option ℕ) → IsFormed f → (IsFrame f → ⊥) → position (λ sample. nat_lt f.maxval sample) f.samples ≡ found
    → unless_met (is_none found) refusal.SampleTooLarge next ≡ Some refusal.SampleTooLarge
over_by f next None formed over e = absurd (over (whole_frame f formed e))
over_by f next (Some place) formed over e = refl

pub over_refusal : (f : Picture) (p : Parameters) (room : ℕ) → IsFormed f → (IsFrame f → ⊥) → coding_refusal f p room ≡ Some refusal.SampleTooLarge
over_refusal f p room formed over = over_by f _ _ formed over refl

-- ---- the result

take_front : (front rest : List ℕ) → take (length front) (front ++ rest) ≡ front
take_front front rest = grind (arith, common_steps)

front_of : (written : ℕ) (front new rest : List ℕ) → new ≡ front ++ rest → written ≡ length front → take written new ≡ front
front_of written front new rest e same = rw e (rw same (take_front front rest))

status_in : (most : ℕ) (form : JlsrecForm) (layout : Layout) (samples old : List ℕ) (result : Result (Unit {0}) Refusal) → request_refusal most form layout (length samples) ≡ None
    → ((result ≡ Err (refusal.Stream stream.NoMemory)) ⊎ (status_of result ≡ status_by (coding_refusal (picture_in form layout samples) (parameters form) (length old))))
    → (status_of result ≡ 1) ⊎ (status_of result ≡ status_by (encode_refusal most form layout samples (length old)))
status_in most form layout samples old result none exactly =
    elim exactly [
      | inl memory ↦ inl (ap status_of memory)
      | inr same ↦ inr (same ∙ ap status_by (sym (ap (λ (found : Option Refusal). or_next found (coding_refusal (picture_in form layout samples) (parameters form) (length old))) none)))
    ]

pub coded_is : (most : ℕ) (form : JlsrecForm) (layout : Layout) (samples old new : List ℕ) (written : ℕ) (result : Result (Unit {0}) Refusal)
    → request_refusal most form layout (length samples) ≡ None
    → IsCoding (picture_in form layout samples) (parameters form) old new written result
    → IsEncoding most form layout samples old new written (status_of result)
coded_is most form layout samples old new written (Ok done) none coding = record {
  status_is = status_in most form layout samples old (Ok done) none coding.exactly;
  memory = λ _. none;
  frame = λ _. coding.frame;
  spells = λ _. subst (λ (bytes : List ℕ). Spells bytes (picture_in form layout samples)) (sym (front_of written (codestream (picture_in form layout samples) (parameters form)) new (drop written old) coding.done coding.count)) coding.spells;
  done = λ _. (coding.count, coding.done);
  kept = λ some. absurd (some refl);
  need = λ two. absurd (omega (arith, two));
  none = λ some _. absurd (some refl);
}
coded_is most form layout samples old new written (Err r) none coding = record {
  status_is = status_in most form layout samples old (Err r) none coding.exactly;
  memory = λ _. none;
  frame = λ zero. absurd (not_zero r zero);
  spells = λ zero. absurd (not_zero r zero);
  done = λ zero. absurd (not_zero r zero);
  kept = λ _. coding.kept;
  need = λ two. coding.need (ap (λ (x : Refusal). Err x) (two_is_no_room r two));
  none = λ _ not_two. elim coding.none [ inl room ↦ absurd (not_two (ap number_of room)) | inr nothing ↦ nothing ];
}

same_picture : (form : JlsrecForm) (layout : Layout) (count : ℕ) (samples joined : List ℕ) (request : Request) → IsRequest request form layout count
    → joined ≡ rows_of request.rows.row request.rows.stride request.rows.height samples
    → picture_of request.form (arranged layout.arrangement (components request.form.kind) joined) ≡ picture_in form layout samples
same_picture form layout count samples joined request is e = cc

pub answered : (most : ℕ) (form : JlsrecForm) (layout : Layout) (samples joined old new : List ℕ) (written : ℕ) (request : Request) (result : Result (Unit {0}) Refusal)
    → request_refusal most form layout (length samples) ≡ None → IsRequest request form layout (length samples)
    → joined ≡ rows_of request.rows.row request.rows.stride request.rows.height samples
    → IsCoding (picture_of request.form (arranged layout.arrangement (components request.form.kind) joined)) request.presets old new written result
    → IsEncoding most form layout samples old new written (status_of result)
answered most form layout samples joined old new written request result none is e coding =
    let by_picture = subst (λ (f : Picture). IsCoding f request.presets old new written result) (same_picture form layout (length samples) samples joined request is e) coding in
    coded_is most form layout samples old new written result none
    (subst (λ (p : Parameters). IsCoding (picture_in form layout samples) p old new written result) is.presets by_picture)

-- the rows of a picture have all its samples
pub product : (a : Arrangement) (h w k : ℕ) → height_of a k h * row_of a k w ≡ w * h * k
product Pixels h w k = omega arith
product Planes h w k = omega arith

pub some_rows : (a : Arrangement) (kind : Kind) (h : ℕ) → 0 < h → 0 < height_of a (components kind) h
some_rows Pixels kind h some = some
some_rows Planes Gray h some = omega arith
some_rows Planes Color h some = omega arith

rows_count : (form : JlsrecForm) (layout : Layout) (count : ℕ) (request : Request) → IsRequest request form layout count
    → request.rows.height * request.rows.row ≡ sample_count request.form.kind request.form.width request.form.height
rows_count form layout count request is =
    rw is.kind (rw is.width (rw is.height (rw is.rows (rw is.row (product layout.arrangement form.height form.width (components (kind_of form.components)))))))

pub joined_count : (form : JlsrecForm) (layout : Layout) (samples joined : List ℕ) (request : Request) → IsRequest request form layout (length samples)
    → joined ≡ rows_of request.rows.row request.rows.stride request.rows.height samples
    → length joined ≡ sample_count request.form.kind request.form.width request.form.height
joined_count form layout samples joined request is e =
    let some : 0 < form.height = omega (arith, is.some_height, is.height) in
    let rows = rows_length (row_in form layout) (stride_in form layout) (height_in form layout) samples (some_rows layout.arrangement (kind_of form.components) form.height some) is.enough in
    let same : rows_of request.rows.row request.rows.stride request.rows.height samples ≡ rows_of (row_in form layout) (stride_in form layout) (height_in form layout) samples = cc in
    ap length (e ∙ same) ∙ rows ∙ ap (λ h. h * row_in form layout) (sym is.rows) ∙ ap (λ w. request.rows.height * w) (sym is.row)
    ∙ rows_count form layout (length samples) request is

-- rows without gaps are the samples at the front, as many as the picture has
pub adjacent_rows : (form : JlsrecForm) (layout : Layout) (samples front : List ℕ) (request : Request) → IsRequest request form layout (length samples)
    → request.rows.stride ≡ request.rows.row → front ≡ take (sample_count request.form.kind request.form.width request.form.height) samples
    → front ≡ rows_of request.rows.row request.rows.stride request.rows.height samples
adjacent_rows form layout samples front request is adjacent e =
    e ∙ ap (λ n. take n samples) (sym (rows_count form layout (length samples) request is)) ∙ sym (rows_adjacent request.rows.row request.rows.height samples)
    ∙ ap (λ n. rows_of request.rows.row n request.rows.height samples) (sym adjacent)
