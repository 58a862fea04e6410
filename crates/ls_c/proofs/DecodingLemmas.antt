-- The result of decoding, put together from its steps.
use Rattle.std.proofs.Common.{◌≡◌, ◌≢◌, ◌⊎◌, ℕ, ◌*◌, ◌<◌, ◌≤◌, List, ◌++◌, length, take, None, Some, inl, inr, refl, sym, ◌∙◌, ap, subst, arith}
use Rattle.std.proofs.lemmas.Bool.Decides.{nat_tests}
use Rattle.ls_frame.specs.Picture.{Picture, IsFrame}
use Rattle.ls_stream.specs.declared.faults.StreamFault.{StreamFault}
use Rattle.ls_stream.specs.declared.faults.StreamFault.TheVariants as stream
use Rattle.ls_stream.specs.Grammar.{Spells}
use Rattle.ls_stream.specs.View.Outlines.{IsFirstFault}
use Rattle.ls_c.specs.declared.form.JlsrecForm.{JlsrecForm}
use Rattle.ls_c.specs.declared.form.JlsrecFault.{JlsrecFault}
use Rattle.ls_c.specs.declared.refusal.Refusal.{Refusal}
use Rattle.ls_c.specs.declared.refusal.Refusal.TheVariants as refusal
use Rattle.ls_c.specs.Forms.{no_form, IsOfForm}
use Rattle.ls_c.specs.Refusals.{fault_number, number_of, status_by, details_of, no_details}
use Rattle.ls_c.specs.Calls.{HaveForm, SaysForm, samples_of, HaveFitting, KeepsBeyond, same, IsUnopened, too_deep, too_large, at_fault, IsDecoding, within, laid}
use Rattle.ls_c.proofs.NumberLemmas.{fault_above, fault_some, fault_not_two}

-- ---- a frame and its form

frame_samples : (f : Picture) (form : JlsrecForm) → IsFrame f → IsOfForm f form → length f.samples ≡ samples_of form
frame_samples f form frame is =
    frame.formed.count ∙ ap (λ n. f.width * f.height * n) is.components ∙ ap (λ w. w * f.height * form.components) is.width ∙ ap (λ h. form.width * h * form.components) is.height

within_all : (most : ℕ) (f : Picture) (room : ℕ) → f.maxval ≤ most → length f.samples ≤ room → within most f room ≡ None
within_all most f room shallow few = grind (arith, nat_tests)

deep_within : (most : ℕ) (f : Picture) (room : ℕ) → most < f.maxval → within most f room ≡ Some refusal.NotEightBits
deep_within most f room deep = grind (arith, nat_tests)

long_within : (most : ℕ) (f : Picture) (room : ℕ) → f.maxval ≤ most → room < length f.samples → within most f room ≡ Some refusal.NoRoom
long_within most f room shallow long = grind (arith, nat_tests)

-- bytes have one form
pub same_form : (bytes : List ℕ) (form given : JlsrecForm) → HaveForm bytes form → HaveForm bytes given → given ≡ form
same_form bytes form given has other = sym (has.form_is ∙ other.only has.opened has.of_bytes has.says)

-- if it fits, each of their forms does
abbrev pub AllFit : ℕ → ℕ → List ℕ → Type 0
AllFit most room bytes = (given : JlsrecForm) → HaveForm bytes given → (given.maxval ≤ most) × (samples_of given ≤ room)

-- ---- what was decoded

pub decoded : (most : ℕ) (bytes old new : List ℕ) (form : JlsrecForm) (used : ℕ) (fault : JlsrecFault) (f : Picture) → f.maxval ≤ most → length f.samples ≤ length old
    → SaysForm bytes form → IsOfForm f form → HaveForm bytes form → used ≤ length bytes → Spells (take used bytes) f → fault ≡ no_details
    → ((front rest : List ℕ) (g : Picture) → bytes ≡ front ++ rest → Spells front g → (f ≡ g) × (used ≡ length front))
    → new ≡ laid f.samples old → IsDecoding most bytes old new form used fault 0
decoded most bytes old new form used fault f shallow few says is has inside spelled none only laid_is = record {
  done = λ _. (f, inside, spelled, is, has, laid_is, few, shallow);
  complete = λ front rest g e s.
      let same_frame = only front rest g e s in
      inr (
        sym (ap status_by (subst (λ (h : Picture). within most h (length old) ≡ None) same_frame.0 (within_all most f (length old) shallow few))),
        says front rest g e s,
        λ _. (same_frame.1, laid_is ∙ ap (λ (h : Picture). laid h.samples old) same_frame.0),
      );
  faulty = λ high. absurd (omega (arith, high));
  no_room = λ two. absurd (omega (arith, two));
  too_deep = λ fourteen. absurd (omega (arith, fourteen));
  deep = λ given other deeper.
      let same = same_form bytes form given has other in
      absurd (omega (arith, ap (λ (x : JlsrecForm). x.maxval) same, is.maxval, shallow, deeper));
  long = λ given other low longer.
      let same = same_form bytes form given has other in
      absurd (omega (arith, ap samples_of same, frame_samples f form spelled.frame is, few, longer));
  memory = λ one. absurd (omega (arith, one));
  statuses = inl refl;
  kept = λ some _. absurd (some refl);
  beyond = λ high. absurd (omega (arith, high));
  unused = λ some. absurd (some refl);
  formless = λ some _ _. absurd (some refl);
  faultless = λ _. none;
}

-- ---- what wasn't opened

memory_is_one : (first : StreamFault) → fault_number first ≡ 1 → first ≡ stream.NoMemory
memory_is_one first one = elim (fault_above first) [ inl e ↦ e | inr above ↦ absurd (omega (arith, above, one)) ]

not_memory : (first : StreamFault) → 20 ≤ fault_number first → first ≢ stream.NoMemory
not_memory first high = λ e. absurd (omega (arith, high, ap fault_number e))

statuses_of : (first : StreamFault) → (fault_number first ≡ 0) ⊎ (fault_number first ≡ 1) ⊎ (fault_number first ≡ 2) ⊎ (fault_number first ≡ 14) ⊎ (20 ≤ fault_number first)
statuses_of first = elim (fault_above first) [ inl e ↦ inr (inl (ap fault_number e)) | inr above ↦ inr (inr (inr (inr above))) ]

low_details : (first : StreamFault) → fault_number first < 20 → details_of first ≡ no_details
low_details first low = elim (fault_above first) [ inl e ↦ ap details_of e | inr above ↦ absurd (omega (arith, low, above)) ]

not_fourteen : (first : StreamFault) → fault_number first ≢ 14
not_fourteen first = λ e. elim (fault_above first) [ inl one ↦ absurd (omega (arith, ap fault_number one, e)) | inr above ↦ absurd (omega (arith, above, e)) ]

first_in : (bytes : List ℕ) (first : StreamFault) → 20 ≤ fault_number first → (first ≡ stream.NoMemory) ⊎ IsFirstFault bytes first → IsFirstFault bytes first
first_in bytes first high found = elim found [ inl memory ↦ absurd (not_memory first high memory) | inr is ↦ is ]

-- a fault: of the opening, or after it, where an allocation may fail too
pub stopped : (most : ℕ) (bytes old new : List ℕ) (form : JlsrecForm) (used : ℕ) (fault : JlsrecFault) (first : StreamFault)
    → ((front rest : List ℕ) (f : Picture) → bytes ≡ front ++ rest → Spells front f → first ≡ stream.NoMemory)
    → (first ≡ stream.NoMemory) ⊎ IsFirstFault bytes first → AllFit most (length old) bytes → (first ≡ stream.NoMemory → HaveFitting most (length old) bytes)
    → (first ≡ stream.NoMemory → new ≡ old) → KeepsBeyond bytes old new → fault ≡ details_of first → used ≡ 0 → form ≡ no_form
    → IsDecoding most bytes old new form used fault (fault_number first)
stopped most bytes old new form used fault first only found fit memory kept beyond says unused formless = record {
  done = λ zero. absurd (omega (arith, fault_some first, zero));
  complete = λ front rest f e s. inl (ap fault_number (only front rest f e s));
  faulty = λ high. (first, refl, says, first_in bytes first high found, not_memory first high);
  no_room = λ two. absurd (fault_not_two first two);
  too_deep = λ fourteen. absurd (not_fourteen first fourteen);
  deep = λ given other deeper. let fits : given.maxval ≤ most = (fit given other).0 in absurd (omega (arith, fits, deeper));
  long = λ given other low longer. let fits : samples_of given ≤ length old = (fit given other).1 in absurd (omega (arith, fits, longer));
  memory = λ one. memory (memory_is_one first one);
  statuses = statuses_of first;
  kept = λ _ low. elim (fault_above first) [ inl e ↦ kept e | inr above ↦ absurd (omega (arith, low, above)) ];
  beyond = λ _. beyond;
  unused = λ _. unused;
  formless = λ _ _ _. formless;
  faultless = λ low. says ∙ low_details first low;
}

deep : (most : ℕ) (bytes old : List ℕ) (form : JlsrecForm) (used : ℕ) (fault : JlsrecFault) → HaveForm bytes form → most < form.maxval → SaysForm bytes form
    → fault ≡ no_details → used ≡ 0 → IsDecoding most bytes old old form used fault 14
deep most bytes old form used fault has deeper says none unused = record {
  done = λ zero. absurd (omega (arith, zero));
  complete = λ front rest f e s.
      let is = says front rest f e s in
      inr (sym (ap status_by (deep_within most f (length old) (omega (arith, is.maxval, deeper)))), is, λ zero. absurd (omega (arith, zero)));
  faulty = λ high. absurd (omega (arith, high));
  no_room = λ two. absurd (omega (arith, two));
  too_deep = λ _. (has, deeper);
  deep = λ _ _ _. refl;
  long = λ given other low longer.
      let same = same_form bytes form given has other in
      absurd (omega (arith, ap (λ (x : JlsrecForm). x.maxval) same, deeper, low));
  memory = λ one. absurd (omega (arith, one));
  statuses = inr (inr (inr (inl refl)));
  kept = λ _ _. refl;
  beyond = λ high. absurd (omega (arith, high));
  unused = λ _. unused;
  formless = λ _ _ other. absurd (other refl);
  faultless = λ _. none;
}

large : (most : ℕ) (bytes old : List ℕ) (form : JlsrecForm) (used : ℕ) (fault : JlsrecFault) → HaveForm bytes form → form.maxval ≤ most
    → length old < samples_of form → SaysForm bytes form → fault ≡ no_details → used ≡ 0 → IsDecoding most bytes old old form used fault 2
large most bytes old form used fault has shallow longer says none unused = record {
  done = λ zero. absurd (omega (arith, zero));
  complete = λ front rest f e s.
      let is = says front rest f e s in
      let long : length old < length f.samples = subst (λ n. length old < n) (sym (frame_samples f form s.frame is)) longer in
      inr (sym (ap status_by (long_within most f (length old) (omega (arith, is.maxval, shallow)) long)), is, λ zero. absurd (omega (arith, zero)));
  faulty = λ high. absurd (omega (arith, high));
  no_room = λ _. (has, shallow, longer);
  too_deep = λ fourteen. absurd (omega (arith, fourteen));
  deep = λ given other deeper.
      let same = same_form bytes form given has other in
      absurd (omega (arith, ap (λ (x : JlsrecForm). x.maxval) same, shallow, deeper));
  long = λ _ _ _ _. refl;
  memory = λ one. absurd (omega (arith, one));
  statuses = inr (inr (inl refl));
  kept = λ _ _. refl;
  beyond = λ high. absurd (omega (arith, high));
  unused = λ _. unused;
  formless = λ _ other _. absurd (other refl);
  faultless = λ _. none;
}

pub unopened : (most : ℕ) (bytes old : List ℕ) (form : JlsrecForm) (used : ℕ) (fault : JlsrecFault) (r : Refusal) → IsUnopened most (length old) bytes form fault r → used ≡ 0
    → IsDecoding most bytes old old form used fault (number_of r)
unopened most bytes old form used fault r (too_deep e has deeper says none) unused =
    subst (λ (x : Refusal). IsDecoding most bytes old old form used fault (number_of x)) (sym e) (deep most bytes old form used fault has deeper says none unused)
unopened most bytes old form used fault r (too_large e has shallow longer says none) unused =
    subst (λ (x : Refusal). IsDecoding most bytes old old form used fault (number_of x)) (sym e) (large most bytes old form used fault has shallow longer says none unused)
unopened most bytes old form used fault r (at_fault first e other is closed none says formless) unused =
    subst (λ (x : Refusal). IsDecoding most bytes old old form used fault (number_of x)) (sym e)
    (stopped most bytes old old form used fault first (λ front rest f same_bytes s. absurd (none front rest f same_bytes s)) (inr is) (λ given has. absurd (closed given has)) (λ memory. absurd (other memory)) (λ _. refl) (same refl) says unused formless)
