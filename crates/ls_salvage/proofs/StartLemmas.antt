-- Where a codestream may begin, and that each codestream of a frame begins so.
use Rattle.std.proofs.Common.{◌⊎◌, ◌≡◌, inl, inr, eqb, ℕ, zero, suc, ◌<◌, ◌≤◌, Bool, true, false, ◌||◌, List, [], ◌∷◌, ◌++◌, length, drop, refl, ap, ◌∙◌, arith}
use Rattle.std.specs.Prelude.{IsTrue}
use Rattle.std.proofs.lemmas.Bool.{cases_Bool, cond-true, cond-false}
use Rattle.std.specs.List.{AllByRecursion}
use Rattle.ls_frame.specs.Picture.{Picture}
use Rattle.ls_stream.specs.declared.marker.Marker.{Marker}
use Rattle.ls_stream.specs.declared.marker.Marker.TheVariants.{StartOfImage, EndOfImage, StartOfScan, StartOfFrame, PresetParameters, Application, Comment, Other}
use Rattle.ls_stream.specs.Grammar.{Miscellaneous, skipped, presets, one_miscellaneous_bytes, miscellaneous_bytes, Codestream, codestream_bytes, filled, is_skipped, MayPrecedeScans, Spells}
use Rattle.ls_stream.specs.Markers.{is_application, code_of}
use Rattle.ls_stream.specs.Segments.{segment, header_contents}
use Rattle.ls_salvage.specs.Starts.{may_follow_soi, is_start, to_start, to_next}

-- ---- codestreams of frames

-- the bytes begin with a marker that may follow SOI
abbrev BeginHeaders : List ℕ → Type 0
BeginHeaders bytes = (code : ℕ) × (more : List ℕ) × (bytes ≡ 255 ∷ code ∷ more) × (may_follow_soi code ≡ true)

headers_more : (bytes more : List ℕ) → BeginHeaders bytes → BeginHeaders (bytes ++ more)
headers_more bytes more begin = (begin.0, begin.1 ++ more, ap (λ s. s ++ more) begin.2, begin.3)

headers_filled : (fill code : ℕ) (more : List ℕ) → may_follow_soi code ≡ true → BeginHeaders (filled fill (255 ∷ code ∷ more))
headers_filled zero code more may = (code, more, refl, may)
headers_filled (suc zero) code more may = (255, code ∷ more, refl, refl)
headers_filled (suc (suc fill)) code more may = (255, filled fill (255 ∷ code ∷ more), refl, refl)

or_last : (a b c d e : Bool) → e ≡ true → (a || (b || (c || (d || e)))) ≡ true
or_last true b c d e is = refl
or_last false true c d e is = refl
or_last false false true d e is = refl
or_last false false false true e is = refl
or_last false false false false e is = is

skipped_may : (m : Marker) → IsTrue (is_skipped m) → may_follow_soi (code_of m) ≡ true
skipped_may StartOfImage may = absurd (let clash : ⊥ = cc in clash)
skipped_may EndOfImage may = absurd (let clash : ⊥ = cc in clash)
skipped_may StartOfScan may = absurd (let clash : ⊥ = cc in clash)
skipped_may StartOfFrame may = absurd (let clash : ⊥ = cc in clash)
skipped_may PresetParameters may = absurd (let clash : ⊥ = cc in clash)
skipped_may (Application code) may = or_last (eqb code 247) (eqb code 248) (eqb code 254) (eqb code 255) (is_application code) may
skipped_may Comment may = refl
skipped_may (Other code) may = absurd (let clash : ⊥ = cc in clash)

headers_one : (one : Miscellaneous) → MayPrecedeScans one → BeginHeaders (one_miscellaneous_bytes one)
headers_one (skipped fill m contents) may = headers_filled fill (code_of m) _ (skipped_may m may.marker_is)
headers_one (presets fill p) may = headers_filled fill 248 _ refl

headers_of : (before : List Miscellaneous) (fill : ℕ) (contents : List ℕ) → AllByRecursion MayPrecedeScans before
    → BeginHeaders (miscellaneous_bytes before ++ filled fill (segment StartOfFrame contents))
headers_of [] fill contents may = headers_filled fill 247 _ refl
headers_of (one ∷ before) fill contents may = headers_more _ _ (headers_more _ _ (headers_one one may.0))

start_after : (bytes : List ℕ) → BeginHeaders bytes → is_start (255 ∷ 216 ∷ bytes) ≡ true
unfolding is_start
start_after bytes begin = rw (begin.2) begin.3

codestream_start : (stream : Codestream) → AllByRecursion MayPrecedeScans stream.before
    → (headers : List ℕ) × (codestream_bytes stream ≡ 255 ∷ 216 ∷ headers) × BeginHeaders headers
unfolding codestream_bytes
codestream_start stream may =
    (_, refl, headers_more _ _ (headers_more _ _ (headers_more _ _ (headers_of stream.before stream.fill (header_contents stream.header) may))))

-- a codestream of a frame is a start, whatever follows it
pub spelled_start : (front rest : List ℕ) (f : Picture) → Spells front f → is_start (front ++ rest) ≡ true
spelled_start front rest f spells =
    let start = codestream_start spells.codestream spells.says.before in
    ap (λ s. is_start (s ++ rest)) (spells.spelled ∙ start.1) ∙ start_after (start.0 ++ rest) (headers_more start.0 rest start.2)

-- ---- how far it is to a start

pub to_start-none : (byte : ℕ) (bytes : List ℕ) → is_start (byte ∷ bytes) ≡ false → to_start (byte ∷ bytes) ≡ suc (to_start bytes)
unfolding to_start
to_start-none byte bytes is = cond-false (is_start (byte ∷ bytes)) 0 (suc (to_start bytes)) is

pub to_start-here : (bytes : List ℕ) → is_start bytes ≡ true → to_start bytes ≡ 0
unfolding to_start
to_start-here [] is = refl
to_start-here (byte ∷ bytes) is = cond-true (is_start (byte ∷ bytes)) 0 (suc (to_start bytes)) is

pub to_start-most : (bytes : List ℕ) → to_start bytes ≤ length bytes
unfolding to_start
to_start-most [] = omega arith
to_start-most (byte ∷ bytes) = elim (cases_Bool (is_start (byte ∷ bytes))) [
  | inl here ↦ omega (arith, to_start-here (byte ∷ bytes) here)
  | inr none ↦ omega (arith, to_start-none byte bytes none, to_start-most bytes)
]

-- a start isn't passed over
pub to_start-within : (before bytes : List ℕ) → is_start bytes ≡ true → to_start (before ++ bytes) ≤ length before
to_start-within [] bytes is = omega (arith, to_start-here bytes is)
to_start-within (byte ∷ before) bytes is = elim (cases_Bool (is_start (byte ∷ (before ++ bytes)))) [
  | inl here ↦ omega (arith, to_start-here (byte ∷ (before ++ bytes)) here)
  | inr none ↦ omega (arith, to_start-none byte (before ++ bytes) none, to_start-within before bytes is)
]

pub to_next-most : (bytes : List ℕ) → to_next bytes ≤ length bytes
unfolding to_next
to_next-most [] = omega arith
to_next-most (byte ∷ bytes) = omega (arith, to_start-most bytes)

pub to_next-some : (bytes : List ℕ) → 0 < length bytes → 0 < to_next bytes
unfolding to_next
to_next-some [] some = absurd (omega arith)
to_next-some (byte ∷ bytes) some = omega arith

pub to_next-within : (before bytes : List ℕ) → 0 < length before → is_start bytes ≡ true → to_next (before ++ bytes) ≤ length before
unfolding to_next
to_next-within [] bytes some is = absurd (omega arith)
to_next-within (byte ∷ before) bytes some is = omega (arith, to_start-within before bytes is)

-- ---- it is the first

pub ends_at_start : (bytes : List ℕ) → (to_start bytes ≡ length bytes) ⊎ (is_start (drop (to_start bytes) bytes) ≡ true)
unfolding to_start
ends_at_start [] = inl refl
ends_at_start (byte ∷ bytes) = elim (cases_Bool (is_start (byte ∷ bytes))) [
  | inl here ↦ inr (ap (λ n. is_start (drop n (byte ∷ bytes))) (to_start-here (byte ∷ bytes) here) ∙ here)
  | inr none ↦ elim (ends_at_start bytes) [
    | inl all ↦ inl (to_start-none byte bytes none ∙ ap suc all)
    | inr start ↦ inr (ap (λ n. is_start (drop n (byte ∷ bytes))) (to_start-none byte bytes none) ∙ start)
  ]
]

pub none_before : (bytes : List ℕ) (count : ℕ) → count < to_start bytes → is_start (drop count bytes) ≡ false
unfolding to_start
none_before [] count less = absurd (omega arith)
none_before (byte ∷ bytes) zero less = elim (cases_Bool (is_start (byte ∷ bytes))) [
  | inl here ↦ absurd (omega (arith, less, to_start-here (byte ∷ bytes) here))
  | inr none ↦ none
]
none_before (byte ∷ bytes) (suc count) less = elim (cases_Bool (is_start (byte ∷ bytes))) [
  | inl here ↦ absurd (omega (arith, less, to_start-here (byte ∷ bytes) here))
  | inr none ↦ none_before bytes count (omega (arith, less, to_start-none byte bytes none))
]
