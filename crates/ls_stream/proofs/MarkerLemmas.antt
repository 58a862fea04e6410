-- Bytes and markers at the front of bytes, one by one, for the loops that read them; and the marker of a code.
use Rattle.std.proofs.Common.{◌≡◌, ℕ, zero, suc, ◌≤◌, Bool, true, false, cond, leb, eqb, List, [], ◌∷◌, ◌++◌, length, drop, get_or, replicate, Ok, Err, inl, inr, refl, sym, ap, subst, ◌∙◌, arith, append_assoc}
use Rattle.std.specs.Prelude.{IsTrue}
use Rattle.std.proofs.lemmas.Bool.{cases_Bool, cond_both, cond-false, cond-true, eq-eqb, ne_eqb, eqb-true, eqb-false, leb-true, and_parts}
use Rattle.ls_stream.specs.declared.faults.StreamFault.{StreamFault}
use Rattle.ls_stream.specs.declared.faults.StreamFault.TheVariants.{Truncated, BadSegment}
use Rattle.ls_stream.specs.declared.marker.Marker.{Marker}
use Rattle.ls_stream.specs.declared.marker.Marker.TheVariants.{StartOfImage, EndOfImage, StartOfScan, StartOfFrame, PresetParameters, Application, Comment, Other}
use Rattle.ls_stream.specs.Markers.{code_of, is_application, marker_of, IsMarker, marker}
use Rattle.ls_stream.specs.Grammar.{filled}
use Rattle.ls_stream.specs.View.Reading.{◌>>=◌, Take, byte_at, code_at, marker_at}
use Rattle.ls_stream.proofs.StepLemmas.{step_ok, test_ok, same_ok}

-- ---- a byte

pub byte_at-none : (bytes : List ℕ) → length bytes ≡ 0 → byte_at bytes ≡ Err Truncated
byte_at-none [] none = refl
byte_at-none (byte ∷ bytes) none = absurd (omega arith)

pub byte_at-some : (bytes : List ℕ) → (length bytes ≡ 0 → ⊥) → byte_at bytes ≡ Ok (get_or bytes 0 0, drop 1 bytes)
byte_at-some [] some = absurd (some refl)
byte_at-some (byte ∷ bytes) some = refl

pub ruleset byte_lemmas = (byte_at-none, byte_at-some)

-- ---- a code, byte by byte

code_step : ℕ × List ℕ → Take ℕ
code_step found = cond (eqb found.0 255) (code_at found.1) (cond (eqb found.0 0) (Err BadSegment) (Ok (found.0, found.1)))

code_at-byte : (bytes : List ℕ) → code_at bytes ≡ (byte_at bytes >>= code_step)
unfolding code_at code_step
code_at-byte [] = refl
code_at-byte (byte ∷ bytes) = refl

pub code_at-fault : (bytes : List ℕ) (fault : StreamFault) → byte_at bytes ≡ Err fault → code_at bytes ≡ Err fault
code_at-fault bytes fault found = rw (code_at-byte bytes, found) refl

pub code_at-fill : (bytes rest : List ℕ) (byte : ℕ) → byte_at bytes ≡ Ok (byte, rest) → byte ≡ 255 → code_at bytes ≡ code_at rest
unfolding code_step
code_at-fill bytes rest byte found is = rw (code_at-byte bytes, found, eq-eqb byte 255 is) refl

pub code_at-zero : (bytes rest : List ℕ) (byte : ℕ) → byte_at bytes ≡ Ok (byte, rest) → byte ≡ 0 → code_at bytes ≡ Err BadSegment
unfolding code_step
code_at-zero bytes rest byte found is = rw (code_at-byte bytes, found, is) refl

pub code_at-code : (bytes rest : List ℕ) (byte : ℕ) → byte_at bytes ≡ Ok (byte, rest) → (byte ≡ 0 → ⊥) → (byte ≡ 255 → ⊥) → code_at bytes ≡ Ok (byte, rest)
unfolding code_step
code_at-code bytes rest byte found some other = rw (code_at-byte bytes, found, ne_eqb byte 255 other, ne_eqb byte 0 some) refl

pub ruleset code_lemmas = (code_at-fault, code_at-fill, code_at-zero, code_at-code)

-- ---- the marker of a code

-- the code of the marker of a code is that code
pub code_back : (code : ℕ) → code_of (marker_of code) ≡ code
code_back code =
    let P : Marker → Type 0 = λ m. code_of m ≡ code in
    cond_both (eqb code 216) _ _ P (λ e. sym (eqb-true code 216 e)) (λ n0.
    cond_both (eqb code 217) _ _ P (λ e. sym (eqb-true code 217 e)) (λ n1.
    cond_both (eqb code 218) _ _ P (λ e. sym (eqb-true code 218 e)) (λ n2.
    cond_both (eqb code 247) _ _ P (λ e. sym (eqb-true code 247 e)) (λ n3.
    cond_both (eqb code 248) _ _ P (λ e. sym (eqb-true code 248 e)) (λ n4.
    cond_both (is_application code) _ _ P (λ e. refl) (λ n5.
    cond_both (eqb code 254) _ _ P (λ e. sym (eqb-true code 254 e)) (λ n6. refl)))))))

-- APPn has the codes of APPn
abbrev pub IsLawful : Marker → Type 0
IsLawful StartOfImage = Unit {0}
IsLawful EndOfImage = Unit {0}
IsLawful StartOfScan = Unit {0}
IsLawful StartOfFrame = Unit {0}
IsLawful PresetParameters = Unit {0}
IsLawful (Application code) = IsTrue (is_application code)
IsLawful Comment = Unit {0}
IsLawful (Other code) = Unit {0}

pub lawful : (code : ℕ) → IsLawful (marker_of code)
lawful code =
    cond_both (eqb code 216) _ _ IsLawful (λ e. tt) (λ n0.
    cond_both (eqb code 217) _ _ IsLawful (λ e. tt) (λ n1.
    cond_both (eqb code 218) _ _ IsLawful (λ e. tt) (λ n2.
    cond_both (eqb code 247) _ _ IsLawful (λ e. tt) (λ n3.
    cond_both (eqb code 248) _ _ IsLawful (λ e. tt) (λ n4.
    cond_both (is_application code) _ _ IsLawful (λ e. e) (λ n5.
    cond_both (eqb code 254) _ _ IsLawful (λ e. tt) (λ n6. tt)))))))

pub application_is : (code : ℕ) → IsTrue (is_application code) → (marker_of code ≡ Application code) × (224 ≤ code) × (code ≤ 239)
application_is code h =
    let parts = and_parts (leb 224 code) (leb code 239) h in
    let low : 224 ≤ code = leb-true 224 code parts.0 in
    let high : code ≤ 239 = leb-true code 239 parts.1 in (
      cond-false _ _ _ (ne_eqb code 216 (λ e. omega arith))
          ∙ cond-false _ _ _ (ne_eqb code 217 (λ e. omega arith))
          ∙ cond-false _ _ _ (ne_eqb code 218 (λ e. omega arith))
          ∙ cond-false _ _ _ (ne_eqb code 247 (λ e. omega arith))
          ∙ cond-false _ _ _ (ne_eqb code 248 (λ e. omega arith))
          ∙ cond-true _ _ _ h,
      low,
      high,
    )

-- ---- markers

-- one more FF at the front, or after other FFs
pub fill_moves : (fill : ℕ) (bytes : List ℕ) → 255 ∷ (replicate fill 255 ++ bytes) ≡ replicate fill 255 ++ 255 ∷ bytes
fill_moves zero bytes = refl
fill_moves (suc fill) bytes = ap (λ bs. 255 ∷ bs) (fill_moves fill bytes)

code_is : (test : Bool) (x y : ℕ × List ℕ) → cond test (Err BadSegment) (Ok x) ≡ Ok y → x ≡ y
code_is true x y e = absurd cc
code_is false x y e = same_ok x y e

-- a code that is read has FFs before it
code_read : (bytes : List ℕ) (found : ℕ × List ℕ) → code_at bytes ≡ Ok found → (fill : ℕ) × (bytes ≡ replicate fill 255 ++ found.0 ∷ found.1)
unfolding code_at
code_read [] found e = absurd cc
code_read (byte ∷ bytes) found e = elim (cases_Bool (eqb byte 255)) [
  | inl ff ↦
      let read = code_read bytes found (sym (cond-true (eqb byte 255) (code_at bytes) _ ff) ∙ e) in
      (suc read.0, ap (λ b. b ∷ bytes) (eqb-true byte 255 ff) ∙ ap (λ bs. 255 ∷ bs) read.1)
  | inr other ↦
      let rest : cond (eqb byte 0) (Err BadSegment) (Ok (byte, bytes)) ≡ Ok found = sym (cond-false (eqb byte 255) (code_at bytes) _ other) ∙ e in
      let same : ◌≡◌ {A = ℕ × List ℕ} (byte, bytes) found = code_is (eqb byte 0) (byte, bytes) found rest in
      (0, ap (λ (p : ℕ × List ℕ). p.0 ∷ p.1) same)
]

-- a marker that is read has fill bytes before it
pub marker_read : (bytes : List ℕ) (found : Marker × List ℕ) → marker_at bytes ≡ Ok found
    → (fill : ℕ) × (bytes ≡ filled fill (marker found.0) ++ found.1) × IsLawful found.0
unfolding marker_at
marker_read [] found e = absurd cc
marker_read (byte ∷ bytes) found e =
    let first = test_ok (eqb byte 255) BadSegment (code_at bytes >>= λ code. Ok (marker_of code.0, code.1)) found e in
    let second = step_ok (code_at bytes) (λ code. Ok (marker_of code.0, code.1)) found first.1 in
    let code = second.0 in
    let read = code_read bytes code second.1 in
    let same : ◌≡◌ {A = Marker × List ℕ} (marker_of code.0, code.1) found = same_ok (marker_of code.0, code.1) found second.2 in
    let P : Marker × List ℕ → Type 0 = λ m. (fill : ℕ) × (byte ∷ bytes ≡ filled fill (marker m.0) ++ m.1) × IsLawful m.0 in
    let whole : byte ∷ bytes ≡ replicate read.0 255 ++ (255 ∷ code_of (marker_of code.0) ∷ []) ++ code.1 =
    ap (λ b. b ∷ bytes) (eqb-true byte 255 first.0) ∙ ap (λ bs. 255 ∷ bs) read.1 ∙ fill_moves read.0 (code.0 ∷ code.1)
    ∙ ap (λ c. replicate read.0 255 ++ 255 ∷ c ∷ code.1) (sym (code_back code.0))
    ∙ sym (append_assoc (replicate read.0 255) (255 ∷ code_of (marker_of code.0) ∷ []) code.1) in
    subst P same (read.0, whole, lawful code.0)

-- a code that is read is neither 0 nor FF
code_kind : (bytes : List ℕ) (found : ℕ × List ℕ) → code_at bytes ≡ Ok found → (found.0 ≡ 0 → ⊥) × (found.0 ≡ 255 → ⊥)
unfolding code_at
code_kind [] found e = absurd cc
code_kind (byte ∷ bytes) found e = elim (cases_Bool (eqb byte 255)) [
  | inl ff ↦ code_kind bytes found (sym (cond-true (eqb byte 255) (code_at bytes) _ ff) ∙ e)
  | inr other ↦
      let rest : cond (eqb byte 0) (Err BadSegment) (Ok (byte, bytes)) ≡ Ok found = sym (cond-false (eqb byte 255) (code_at bytes) _ other) ∙ e in
      elim (cases_Bool (eqb byte 0)) [
        | inl none ↦
            let bad : ◌≡◌ {A = Take ℕ} (Err BadSegment) (Ok found) = sym (cond-true (eqb byte 0) (Err BadSegment) _ none) ∙ rest in
            absurd (let no : ⊥ = cc in no)
        | inr some ↦
            let same : ◌≡◌ {A = ℕ × List ℕ} (byte, bytes) found = code_is (eqb byte 0) (byte, bytes) found rest in
            subst (λ (p : ℕ × List ℕ). (p.0 ≡ 0 → ⊥) × (p.0 ≡ 255 → ⊥)) same (eqb-false byte 0 some, eqb-false byte 255 other)
      ]
]

-- a marker that is read is that of its code
pub marker_is : (bytes : List ℕ) (found : Marker × List ℕ) → marker_at bytes ≡ Ok found → IsMarker found.0
unfolding marker_at
marker_is [] found e = absurd cc
marker_is (byte ∷ bytes) found e =
    let first = test_ok (eqb byte 255) BadSegment (code_at bytes >>= λ code. Ok (marker_of code.0, code.1)) found e in
    let second = step_ok (code_at bytes) (λ code. Ok (marker_of code.0, code.1)) found first.1 in
    let code = second.0 in
    let kind = code_kind bytes code second.1 in
    let same : ◌≡◌ {A = Marker × List ℕ} (marker_of code.0, code.1) found = same_ok (marker_of code.0, code.1) found second.2 in
    let back = code_back code.0 in
    subst (λ (m : Marker × List ℕ). IsMarker m.0) same (record {
      back = ap marker_of back;
      some = λ e. kind.0 (sym back ∙ e);
      other = λ e. kind.1 (sym back ∙ e);
    })

-- a code after FFs is read
code_again : (fill code : ℕ) (rest : List ℕ) → (code ≡ 0 → ⊥) → (code ≡ 255 → ⊥) → code_at (replicate fill 255 ++ code ∷ rest) ≡ Ok (code, rest)
unfolding code_at
code_again zero code rest some other = rw (ne_eqb code 255 other, ne_eqb code 0 some) refl
code_again (suc fill) code rest some other = code_again fill code rest some other

-- a marker after fill bytes is read
pub marker_again : (fill : ℕ) (m : Marker) (rest : List ℕ) → IsMarker m → marker_at (filled fill (marker m) ++ rest) ≡ Ok (m, rest)
unfolding marker_at
marker_again fill m rest is =
    let moved : filled fill (marker m) ++ rest ≡ 255 ∷ (replicate fill 255 ++ code_of m ∷ rest) =
    append_assoc (replicate fill 255) (255 ∷ code_of m ∷ []) rest ∙ sym (fill_moves fill (code_of m ∷ rest)) in
    ap marker_at moved ∙ rw (code_again fill (code_of m) rest is.some is.other, is.back) refl
