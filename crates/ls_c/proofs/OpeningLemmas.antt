-- Forms that openings give, and samples that are zeros.
use Rattle.std.proofs.Common.{◌≡◌, ℕ, ◌<◌, ◌≤◌, List, ◌++◌, [], ◌∷◌, length, take, drop, take-append-drop, get_or, zero, suc, refl, sym, ◌∙◌, ap, subst, inl, inr, arith}
use Rattle.std.specs.Prelude.{slice_index}
use Rattle.std.proofs.lemmas.Bool.{cases_lt}
use Rattle.std.proofs.lemmas.List.{length-take-le}
use Rattle.std.proofs.Math.Seq.{drop-append_seam}
use Rattle.ls_frame.specs.Picture.{Picture, picture_of, components, sample_count}
use Rattle.ls_stream.specs.Grammar.{Spells}
use Rattle.ls_stream.specs.View.Openings.{Opened, IsOfForm as HasForm, opened_form}
use Rattle.ls_c.specs.declared.form.JlsrecForm.{JlsrecForm}
use Rattle.ls_c.specs.declared.form.JlsrecFault.{JlsrecFault}
use Rattle.ls_c.specs.Forms.{IsOfForm}
use Rattle.ls_c.specs.Refusals.{no_details}
use Rattle.ls_c.specs.Calls.{HaveForm, SaysForm, form_by, samples_of, HaveFitting, IsDecoding, laid}
use Rattle.ls_c.proofs.DecodingLemmas.{decoded, same_form, AllFit}

-- a frame of the form of an opening has the form that is given for it
pub told : (opened : Opened) (form : JlsrecForm) (f : Picture) → form ≡ form_by opened → HasForm opened f → IsOfForm f form
told opened form f e is = record {
  components = ap components is.kind ∙ sym (ap (λ (x : JlsrecForm). x.components) e);
  width = is.width ∙ sym (ap (λ (x : JlsrecForm). x.width) e);
  height = is.height ∙ sym (ap (λ (x : JlsrecForm). x.height) e);
  maxval = is.maxval ∙ sym (ap (λ (x : JlsrecForm). x.maxval) e);
}

past_end : (xs : List ℕ) (k : ℕ) → length xs ≤ k → get_or xs k 0 ≡ 0
past_end [] k le = refl
past_end (x ∷ xs) zero le = absurd (omega (arith, le))
past_end (x ∷ xs) (suc k) le = past_end xs k (omega (arith, le))

-- zeros are at most anything
pub zeros_small : (most : ℕ) (samples : List ℕ) → ((k : ℕ) → k < length samples → slice_index samples k ≡ 0) → (k : ℕ) → slice_index samples k ≤ most
zeros_small most samples zeros k =
    elim (cases_lt k (length samples)) [
      | inl below ↦ omega (arith, zeros k below)
      | inr past ↦ omega (arith, past_end samples k past)
    ]

-- what was decoded, after an opening, into this number of places
pub decoded_of : (most : ℕ) (bytes old new : List ℕ) (form : JlsrecForm) (used : ℕ) (fault : JlsrecFault) (o : Opened) (places : List ℕ) → o.bytes ≡ bytes
    → (o.parameters.maxval ≤ most) × (sample_count o.kind o.width o.height ≤ length old) → HaveForm bytes form × (form ≡ form_by o) → SaysForm bytes form
    → (used ≤ length o.bytes) × Spells (take used o.bytes) (picture_of (opened_form o) places)
    → ((front rest : List ℕ) (g : Picture) → o.bytes ≡ front ++ rest → Spells front g → (picture_of (opened_form o) places ≡ g) × (used ≡ length front))
    → fault ≡ no_details → new ≡ laid places old → IsDecoding most bytes old new form used fault 0
decoded_of most bytes old new form used fault o places same_bytes fits has says ok only none laid_is =
    let f : Picture = picture_of (opened_form o) places in
    let whole = subst (λ b. (used ≤ length b) × Spells (take used b) f) same_bytes ok in
    decoded most bytes old new form used fault f fits.0 (omega (arith, whole.1.frame.formed.count, fits.1)) says
    (told o form f has.1 (record { kind = refl; width = refl; height = refl; maxval = refl })) has.0 whole.0 whole.1 none
    (λ front rest g e s. only front rest g (same_bytes ∙ e) s) laid_is

-- the opening is of a picture that fits
pub fitting : (most room : ℕ) (bytes : List ℕ) (form : JlsrecForm) (o : Opened) → (o.parameters.maxval ≤ most) × (sample_count o.kind o.width o.height ≤ room)
    → HaveForm bytes form × (form ≡ form_by o) → HaveFitting most room bytes
fitting most room bytes form o fits has = (
  form,
  has.0,
  subst (λ (x : JlsrecForm). x.maxval ≤ most) (sym has.1) fits.0,
  subst (λ (x : JlsrecForm). samples_of x ≤ room) (sym has.1) fits.1,
)

pub all_fit : (most room : ℕ) (bytes : List ℕ) (form : JlsrecForm) (o : Opened) → (o.parameters.maxval ≤ most) × (sample_count o.kind o.width o.height ≤ room)
    → HaveForm bytes form × (form ≡ form_by o) → AllFit most room bytes
all_fit most room bytes form o fits has given other =
    let same : given ≡ form_by o = same_form bytes form given has.0 other ∙ has.1 in
    (subst (λ (x : JlsrecForm). x.maxval ≤ most) (sym same) fits.0, subst (λ (x : JlsrecForm). samples_of x ≤ room) (sym same) fits.1)

-- the number of samples that an opening gives
pub form_samples : (o : Opened) (form : JlsrecForm) → form ≡ form_by o → samples_of form ≡ sample_count o.kind o.width o.height
form_samples o form e = ap samples_of e

-- ---- slots, seen as numbers

-- the numbers of the first slots; of the rest; of the first when they were written to; and of all when the first were not changed
pub front_numbers : {A : Type 0} (numbers : List A → List ℕ) → ((slots : List A) → length (numbers slots) ≡ length slots) → (count : ℕ) (slots : List A) → count ≤ length slots
    → length (numbers (take count slots)) ≡ count
front_numbers numbers one_each count slots few = one_each (take count slots) ∙ length-take-le count slots few

split_numbers : {A : Type 0} (numbers : List A → List ℕ) → ((front rest : List A) → numbers (front ++ rest) ≡ numbers front ++ numbers rest) → (count : ℕ) (slots : List A)
    → numbers slots ≡ numbers (take count slots) ++ numbers (drop count slots)
split_numbers numbers in_parts count slots = ap numbers (sym (take-append-drop count slots)) ∙ in_parts (take count slots) (drop count slots)

rest_numbers : {A : Type 0} (numbers : List A → List ℕ) → ((slots : List A) → length (numbers slots) ≡ length slots)
    → ((front rest : List A) → numbers (front ++ rest) ≡ numbers front ++ numbers rest) → (count : ℕ) (slots : List A) → count ≤ length slots
    → numbers (drop count slots) ≡ drop count (numbers slots)
rest_numbers numbers one_each in_parts count slots few =
    sym (ap (drop count) (split_numbers numbers in_parts count slots)
    ∙ ap (λ n. drop n (numbers (take count slots) ++ numbers (drop count slots))) (sym (front_numbers numbers one_each count slots few))
    ∙ drop-append_seam (numbers (take count slots)) (numbers (drop count slots)))

pub laid_numbers : {A : Type 0} (numbers : List A → List ℕ) → ((slots : List A) → length (numbers slots) ≡ length slots)
    → ((front rest : List A) → numbers (front ++ rest) ≡ numbers front ++ numbers rest) → (count : ℕ) (slots written : List A) → count ≤ length slots
    → numbers (written ++ drop count slots) ≡ numbers written ++ drop count (numbers slots)
laid_numbers numbers one_each in_parts count slots written few =
    in_parts written (drop count slots) ∙ ap (λ rest. numbers written ++ rest) (rest_numbers numbers one_each in_parts count slots few)

pub kept_numbers : {A : Type 0} (numbers : List A → List ℕ) → ((front rest : List A) → numbers (front ++ rest) ≡ numbers front ++ numbers rest) → (count : ℕ) (slots written : List A)
    → numbers written ≡ numbers (take count slots) → numbers (written ++ drop count slots) ≡ numbers slots
kept_numbers numbers in_parts count slots written e =
    in_parts written (drop count slots) ∙ ap (λ front. front ++ numbers (drop count slots)) e ∙ sym (split_numbers numbers in_parts count slots)

-- what is beyond slots that were written to
pub beyond_numbers : (count : ℕ) (written old new : List ℕ) → length written ≡ count → new ≡ written ++ drop count old → drop count new ≡ drop count old
beyond_numbers count written old new e is =
    ap (drop count) is ∙ ap (λ n. drop n (written ++ drop count old)) (sym e) ∙ drop-append_seam written (drop count old)
