-- What comparing the data of a codestream shows.
use Rattle.std.proofs.Common.{◌≡◌, ◌≢◌, ◌⊎◌, ℕ, ◌<◌, ◌≤◌, List, ◌++◌, length, take, Option, None, Some, inl, inr, refl, sym, ap, subst, ◌∙◌, arith}
use Rattle.std.specs.Prelude.{IfSome, IfNone}
use Rattle.ls_frame.specs.Picture.{Picture}
use Rattle.ls_stream.specs.declared.faults.StreamFault.{StreamFault}
use Rattle.ls_stream.specs.declared.faults.StreamFault.TheVariants.{NoMemory}
use Rattle.ls_stream.specs.Grammar.{Spells, most_bytes}
use Rattle.ls_stream.specs.Faults.{BeginsWithOpening}
use Rattle.ls_stream.specs.View.Outlines.{IsFirstFault}
use Rattle.ls_inspect.specs.Strict.{SpellsStrictly, SpellsLoosely}
use Rattle.ls_c.specs.declared.form.JlsrecFault.{JlsrecFault}
use Rattle.ls_c.specs.Refusals.{fault_number, details, details_of, no_details}
use Rattle.ls_c.specs.Calls.{IsStrictness}
use Rattle.ls_c.proofs.NumberLemmas.{fault_above, fault_some}

-- a codestream at the front is the one that was looked at
abbrev Finds : List ℕ → ℕ → Type 0
Finds bytes used = (front rest : List ℕ) (f : Picture) → bytes ≡ front ++ rest → Spells front f → used ≡ length front

pub strict_is : (bytes : List ℕ) (used : ℕ) (loose : Option ℕ) (fault : JlsrecFault) → used ≤ length bytes → IfNone loose ((f : Picture) × SpellsStrictly (take used bytes) f) → loose ≡ None
    → Finds bytes used → fault ≡ no_details → IsStrictness bytes used fault 0
strict_is bytes used loose fault within strict none finds faultless = record {
  statuses = inl refl;
  within = within;
  strict = λ _. subst (λ (o : Option ℕ). IfNone o ((f : Picture) × SpellsStrictly (take used bytes) f)) none strict;
  loose = λ fifteen. absurd (omega (arith, fifteen));
  never = λ fifteen. absurd (omega (arith, fifteen));
  complete = λ front rest f e s. inr (inl refl, finds front rest f e s);
  faulty = λ high. absurd (omega (arith, high));
  memory = λ one. absurd (omega (arith, one));
  unused = λ some. absurd (some refl);
  faultless = λ _. faultless;
  details = λ fifteen. absurd (omega (arith, fifteen));
}

-- details of a component alone
alone : (fault : JlsrecFault) → fault.marker ≡ 0 → fault.number ≡ 0 → fault ≡ details fault.component 0 0
alone fault marker number = ap (λ n. details fault.component n fault.number) marker ∙ ap (λ n. details fault.component 0 n) number

pub loose_is : (bytes : List ℕ) (used component : ℕ) (loose : Option ℕ) (fault : JlsrecFault) → used ≤ length bytes
    → IfSome loose (λ place. (f : Picture) × SpellsLoosely (take used bytes) f place) → IfSome loose (λ place. (f : Picture) → SpellsStrictly (take used bytes) f → ⊥)
    → loose ≡ Some component → Finds bytes used → fault.component ≡ component → fault.marker ≡ 0 → fault.number ≡ 0 → IsStrictness bytes used fault 15
loose_is bytes used component loose fault within spells never some finds is marker number = record {
  statuses = inr (inr (inl refl));
  within = within;
  strict = λ zero. absurd (omega (arith, zero));
  loose = λ _. subst (λ place. (f : Picture) × SpellsLoosely (take used bytes) f place) (sym is)
      (subst (λ (o : Option ℕ). IfSome o (λ place. (f : Picture) × SpellsLoosely (take used bytes) f place)) some spells);
  never = λ _. subst (λ (o : Option ℕ). IfSome o (λ place. (f : Picture) → SpellsStrictly (take used bytes) f → ⊥)) some never;
  complete = λ front rest f e s. inr (inr refl, finds front rest f e s);
  faulty = λ high. absurd (omega (arith, high));
  memory = λ one. absurd (omega (arith, one));
  unused = λ _ other. absurd (other refl);
  faultless = λ low. absurd (omega (arith, low));
  details = λ _. alone fault marker number;
}

one_is_memory : (first : StreamFault) → fault_number first ≡ 1 → first ≡ NoMemory
one_is_memory first one = elim (fault_above first) [ inl e ↦ e | inr above ↦ absurd (omega (arith, one, above)) ]

fault_statuses : (first : StreamFault) → (fault_number first ≡ 0) ⊎ (fault_number first ≡ 1) ⊎ (fault_number first ≡ 15) ⊎ (20 ≤ fault_number first)
fault_statuses first = elim (fault_above first) [ inl e ↦ inr (inl (ap fault_number e)) | inr above ↦ inr (inr (inr above)) ]

not_fifteen : (first : StreamFault) → fault_number first ≡ 15 → ⊥
not_fifteen first fifteen = elim (fault_above first) [ inl e ↦ absurd (omega (arith, fifteen, ap fault_number e)) | inr above ↦ absurd (omega (arith, fifteen, above)) ]

not_memory : (first : StreamFault) → 20 ≤ fault_number first → first ≢ NoMemory
not_memory first high = λ e. absurd (omega (arith, high, ap fault_number e))

first_in : (bytes : List ℕ) (first : StreamFault) → 20 ≤ fault_number first → (first ≡ NoMemory) ⊎ IsFirstFault bytes first → IsFirstFault bytes first
first_in bytes first high (inl e) = absurd (not_memory first high e)
first_in bytes first high (inr is) = is

low_details : (first : StreamFault) → fault_number first < 15 → details_of first ≡ no_details
low_details first low = elim (fault_above first) [ inl e ↦ ap details_of e | inr above ↦ absurd (omega (arith, low, above)) ]

pub refused_is : (bytes : List ℕ) (first : StreamFault) (fault : JlsrecFault) → (first ≡ NoMemory) ⊎ IsFirstFault bytes first → (first ≡ NoMemory → BeginsWithOpening (take most_bytes bytes))
    → ((front rest : List ℕ) (f : Picture) → bytes ≡ front ++ rest → Spells front f → first ≡ NoMemory) → fault ≡ details_of first → IsStrictness bytes 0 fault (fault_number first)
refused_is bytes first fault found memory only is = record {
  statuses = fault_statuses first;
  within = omega arith;
  strict = λ zero. absurd (omega (arith, fault_some first, zero));
  loose = λ fifteen. absurd (not_fifteen first fifteen);
  never = λ fifteen. absurd (not_fifteen first fifteen);
  complete = λ front rest f e s. inl (ap fault_number (only front rest f e s));
  faulty = λ high. (first, refl, is, first_in bytes first high found, not_memory first high);
  memory = λ one. memory (one_is_memory first one);
  unused = λ _ _. refl;
  faultless = λ low. is ∙ low_details first low;
  details = λ fifteen. absurd (not_fifteen first fifteen);
}
