-- The contents of segments: what is read of bytes is what they are by the grammar, and what is so by the grammar is read.
use Rattle.std.proofs.Common.{◌≡◌, ℕ, zero, suc, ◌+◌, ◌-◌, ◌*◌, ◌/◌, ◌%◌, ◌^◌, ◌<◌, ◌≤◌, true, leb, eqb, List, [], ◌∷◌, ◌++◌, length, take, drop, get_or, Result, Ok, refl, sym, ap, subst, ◌∙◌, arith, take-append-drop, length-append, length-drop}
use Rattle.std.proofs.lemmas.Bool.{leb-true, le-leb, eqb-true, eq-eqb}
use Rattle.std.proofs.lemmas.List.{length-take, take_at, drop_at, drop_more, drop_all}
use Rattle.ls_frame.specs.Parameters.{Parameters}
use Rattle.ls_bits.specs.Bits.{AreBytes, two_bytes}
use Rattle.ls_stream.specs.declared.faults.StreamFault.{StreamFault}
use Rattle.ls_stream.specs.declared.faults.StreamFault.TheVariants.{Truncated, BadSegment, Unsupported}
use Rattle.ls_stream.specs.declared.faults.What.TheVariants as what
use Rattle.ls_stream.specs.Segments.{field_of, presets_contents, scan_contents, AreTwoByteFields}
use Rattle.ls_stream.specs.View.Reading.{◌>>=◌, wanted, contents_at, preset_fields_of, scan_header_of}
use Rattle.ls_stream.proofs.StepLemmas.{test_ok, passed_ok, same_ok}

-- ---- fields of two bytes

two_high : (high low : ℕ) → low < 256 → (256 * high + low) / 256 ≡ high
two_high high low l = omega arith

two_low : (high low : ℕ) → low < 256 → (256 * high + low) % 256 ≡ low
two_low high low l = omega arith

-- two bytes are those of their value
pub two_are : (high low : ℕ) → high < 256 → low < 256 → two_bytes (256 * high + low) ≡ high ∷ low ∷ []
two_are high low h l =
    ap (λ n. n ∷ (256 * high + low) % 256 ∷ []) (two_high high low l) ∙ ap (λ n. high ∷ n ∷ []) (two_low high low l)

pub two_small : (high low : ℕ) → high < 256 → low < 256 → 256 * high + low < 2 ^ 16
two_small high low h l = omega arith

-- and have it
pub two_again : (n : ℕ) → 256 * (n / 256) + n % 256 ≡ n
two_again n = omega arith

-- ---- bytes

pub bytes_of_front : (front rest : List ℕ) → AreBytes (front ++ rest) → AreBytes front
bytes_of_front [] rest are = tt
bytes_of_front (byte ∷ front) rest are = (are.0, bytes_of_front front rest are.1)

pub bytes_of_rest : (front rest : List ℕ) → AreBytes (front ++ rest) → AreBytes rest
bytes_of_rest [] rest are = are
bytes_of_rest (byte ∷ front) rest are = bytes_of_rest front rest are.1

pub bytes_along : {bytes : List ℕ} (front rest : List ℕ) → AreBytes bytes → bytes ≡ front ++ rest → AreBytes rest
bytes_along front rest are whole = bytes_of_rest front rest (subst AreBytes whole are)

-- ---- a segment's contents

-- bytes that start with a length and contents of that length
pub record ContentsRead (bytes contents rest : List ℕ) : Type 0 where
  pub whole : bytes ≡ (two_bytes (2 + length contents) ++ contents) ++ rest
  pub short : 2 + length contents < 2 ^ 16
  pub contents_are : AreBytes contents
  pub rest_are : AreBytes rest

contents_by : (high low : ℕ) (more : List ℕ) (n : ℕ) → AreBytes (high ∷ low ∷ more) → n ≡ 256 * high + low → 2 ≤ n → n ≤ suc (suc (length more))
    → ContentsRead (high ∷ low ∷ more) (take (n - 2) more) (drop (n - 2) more)
contents_by high low more n are n_is least within =
    let len : length (take (n - 2) more) ≡ n - 2 = omega (arith, length-take (n - 2) more) in
    let size : 2 + length (take (n - 2) more) ≡ 256 * high + low = omega arith in
    let split : take (n - 2) more ++ drop (n - 2) more ≡ more = take-append-drop (n - 2) more in
    let parts = subst AreBytes (sym split) are.1.1 in
    record {
      whole = sym (ap (λ bs. (bs ++ take (n - 2) more) ++ drop (n - 2) more) (ap two_bytes size ∙ two_are high low are.0 are.1.0) ∙ ap (λ bs. high ∷ low ∷ bs) split);
      short = omega (arith, size, two_small high low are.0 are.1.0);
      contents_are = bytes_of_front (take (n - 2) more) (drop (n - 2) more) parts;
      rest_are = bytes_of_rest (take (n - 2) more) (drop (n - 2) more) parts;
    }

drop_two : (high low n : ℕ) (more : List ℕ) → 2 ≤ n → drop n (high ∷ low ∷ more) ≡ drop (n - 2) more
drop_two high low n more least = let size : n ≡ suc (suc (n - 2)) = omega arith in ap (λ k. drop k (high ∷ low ∷ more)) size

pub contents_read : (bytes : List ℕ) (found : List ℕ × List ℕ) → AreBytes bytes → contents_at bytes ≡ Ok found → ContentsRead bytes found.0 found.1
unfolding contents_at field_of
contents_read [] found are e = absurd cc
contents_read (byte ∷ []) found are e = absurd cc
contents_read (high ∷ low ∷ more) found are e =
    let n : ℕ = 256 * high + low in
    let bytes : List ℕ = high ∷ low ∷ more in
    let last : Result (List ℕ × List ℕ) StreamFault = Ok (take (n - 2) more, drop n bytes) in
    let zeroth = test_ok (leb 2 (length bytes)) Truncated (wanted (leb 2 n) BadSegment >>= λ least. wanted (leb n (length bytes)) Truncated >>= λ whole. last) found e in
    let first = test_ok (leb 2 n) BadSegment (wanted (leb n (length bytes)) Truncated >>= λ whole. last) found zeroth.1 in
    let second = test_ok (leb n (length bytes)) Truncated last found first.1 in
    let least : 2 ≤ n = leb-true 2 n first.0 in
    let same : ◌≡◌ {A = List ℕ × List ℕ} (take (n - 2) more, drop n bytes) found = same_ok (take (n - 2) more, drop n bytes) found second.1 in
    subst (λ (p : List ℕ × List ℕ). ContentsRead bytes p.0 p.1) same
    (subst (λ rest. ContentsRead bytes (take (n - 2) more) rest) (sym (drop_two high low n more least))
    (contents_by high low more n are refl least (leb-true n (length bytes) second.0)))

-- the bytes that are left are no more
pub contents_shorter : (bytes : List ℕ) (found : List ℕ × List ℕ) → contents_at bytes ≡ Ok found → length found.1 ≤ length bytes
unfolding contents_at
contents_shorter bytes found e =
    let n = field_of bytes 0 in
    let last : Result (List ℕ × List ℕ) StreamFault = Ok (take (n - 2) (drop 2 bytes), drop n bytes) in
    let zeroth = test_ok (leb 2 (length bytes)) Truncated (wanted (leb 2 n) BadSegment >>= λ least. wanted (leb n (length bytes)) Truncated >>= λ whole. last) found e in
    let first = test_ok (leb 2 n) BadSegment (wanted (leb n (length bytes)) Truncated >>= λ whole. last) found zeroth.1 in
    let second = test_ok (leb n (length bytes)) Truncated last found first.1 in
    let same : ◌≡◌ {A = List ℕ × List ℕ} (take (n - 2) (drop 2 bytes), drop n bytes) found = same_ok (take (n - 2) (drop 2 bytes), drop n bytes) found second.1 in
    subst (λ (p : List ℕ × List ℕ). length p.1 ≤ length bytes) same (omega (arith, length-drop n bytes))

pub contents_again : (contents rest : List ℕ) → 2 + length contents < 2 ^ 16
    → contents_at ((two_bytes (2 + length contents) ++ contents) ++ rest) ≡ Ok (contents, rest)
unfolding contents_at field_of
contents_again contents rest short =
    let n : ℕ = 2 + length contents in
    let said : 256 * (n / 256) + n % 256 ≡ n = two_again n in
    let least : leb 2 n ≡ true = le-leb 2 n (omega arith) in
    let all : length (contents ++ rest) ≡ length contents + length rest = length-append contents rest in
    let whole : leb n (suc (suc (length (contents ++ rest)))) ≡ true = le-leb n _ (omega arith) in
    let size : n - 2 ≡ length contents = omega arith in
    let front : take (n - 2) (contents ++ rest) ≡ contents = take_at contents rest (n - 2) (sym size) in
    let back : drop n (n / 256 ∷ n % 256 ∷ (contents ++ rest)) ≡ rest = drop_two (n / 256) (n % 256) n (contents ++ rest) (omega arith) ∙ drop_at contents rest (n - 2) (sym size) in
    let some : leb 2 (suc (suc (length (contents ++ rest)))) ≡ true = le-leb 2 _ (omega arith) in
    rw (some, said, least, whole, front, back) refl

-- ---- contents by their places

-- the bytes from a place on
abbrev pub places : ℕ → ℕ → List ℕ → List ℕ
places i zero bytes = []
places i (suc n) bytes = get_or bytes i 0 ∷ places (i + 1) n bytes

pub places_are : (bytes : List ℕ) (i n : ℕ) → length bytes ≡ i + n → drop i bytes ≡ places i n bytes
places_are bytes i zero size = drop_all i bytes (omega arith)
places_are bytes i (suc n) size = drop_more bytes i 0 (omega arith) ∙ ap (λ bs. get_or bytes i 0 ∷ bs) (places_are bytes (i + 1) n (omega arith))

pub byte_small : (bytes : List ℕ) (i : ℕ) → AreBytes bytes → get_or bytes i 0 < 256
byte_small [] i are = omega arith
byte_small (byte ∷ bytes) zero are = are.0
byte_small (byte ∷ bytes) (suc i) are = byte_small bytes i are.1

-- the two bytes at a place are those of the field there
pub field_high : (bytes : List ℕ) (i : ℕ) → AreBytes bytes → (256 * get_or bytes i 0 + get_or bytes (i + 1) 0) / 256 ≡ get_or bytes i 0
field_high bytes i are = two_high (get_or bytes i 0) (get_or bytes (i + 1) 0) (byte_small bytes (i + 1) are)

pub field_low : (bytes : List ℕ) (i : ℕ) → AreBytes bytes → (256 * get_or bytes i 0 + get_or bytes (i + 1) 0) % 256 ≡ get_or bytes (i + 1) 0
field_low bytes i are = two_low (get_or bytes i 0) (get_or bytes (i + 1) 0) (byte_small bytes (i + 1) are)

pub field_small : (bytes : List ℕ) (i : ℕ) → AreBytes bytes → 256 * get_or bytes i 0 + get_or bytes (i + 1) 0 < 2 ^ 16
field_small bytes i are = two_small (get_or bytes i 0) (get_or bytes (i + 1) 0) (byte_small bytes i are) (byte_small bytes (i + 1) are)

-- ---- preset parameters

fields_in : List ℕ → Parameters
unfolding field_of
fields_in contents = record {
  maxval = field_of contents 1;
  t1 = field_of contents 3;
  t2 = field_of contents 5;
  t3 = field_of contents 7;
  reset = field_of contents 9;
}

spelled_fields : (contents : List ℕ) → AreBytes contents → length contents ≡ 11 → get_or contents 0 0 ≡ 1 → contents ≡ presets_contents (fields_in contents)
unfolding presets_contents field_of fields_in
spelled_fields contents are size one =
    places_are contents 0 11 size
    ∙ sym (rw (
      field_high contents 1 are,
      field_low contents 1 are,
      field_high contents 3 are,
      field_low contents 3 are,
      field_high contents 5 are,
      field_low contents 5 are,
      field_high contents 7 are,
      field_low contents 7 are,
      field_high contents 9 are,
      field_low contents 9 are,
      one,
    ) refl)

small_fields : (contents : List ℕ) → AreBytes contents → AreTwoByteFields (fields_in contents)
unfolding field_of fields_in
small_fields contents are = record {
  maxval = field_small contents 1 are;
  t1 = field_small contents 3 are;
  t2 = field_small contents 5 are;
  t3 = field_small contents 7 are;
  reset = field_small contents 9 are;
}

pub fields_are : (contents : List ℕ) (p : Parameters) → AreBytes contents → preset_fields_of contents ≡ Ok p → (contents ≡ presets_contents p) × AreTwoByteFields p
unfolding preset_fields_of fields_in
fields_are contents p are e =
    let all = fields_in contents in
    let id = get_or contents 0 0 in
    let zeroth = test_ok (leb 1 (length contents)) BadSegment
    (wanted (eqb id 1) (Unsupported (what.LseId id)) >>= λ one. wanted (eqb (length contents) 11) BadSegment >>= λ whole. Ok all) p e in
    let first = test_ok (eqb id 1) (Unsupported (what.LseId id)) (wanted (eqb (length contents) 11) BadSegment >>= λ whole. Ok all) p zeroth.1 in
    let second = test_ok (eqb (length contents) 11) BadSegment (Ok all) p first.1 in
    subst (λ (q : Parameters). (contents ≡ presets_contents q) × AreTwoByteFields q) (same_ok all p second.1)
    (spelled_fields contents are (eqb-true _ 11 second.0) (eqb-true id 1 first.0), small_fields contents are)

pub fields_again : (p : Parameters) → preset_fields_of (presets_contents p) ≡ Ok p
unfolding preset_fields_of presets_contents field_of
fields_again p = rw (two_again p.maxval, two_again p.t1, two_again p.t2, two_again p.t3, two_again p.reset) refl

-- ---- the header of a scan

pub scan_header_is : (id : ℕ) (contents : List ℕ) (x : Unit {0}) → scan_header_of id contents ≡ Ok x → contents ≡ scan_contents id
unfolding scan_header_of scan_contents
scan_header_is id contents x e =
    let at : ℕ → ℕ = λ i. get_or contents i 0 in
    let point : Result (Unit {0}) StreamFault = wanted (eqb (at 5) 0) (Unsupported what.PointTransform) in
    let plain : Result (Unit {0}) StreamFault = wanted (eqb (at 4) 0) (Unsupported what.Interleave) >>= λ passed. point in
    let lossless : Result (Unit {0}) StreamFault = wanted (eqb (at 3) 0) (Unsupported what.Near) >>= λ passed. plain in
    let unmapped : Result (Unit {0}) StreamFault = wanted (eqb (at 2) 0) (Unsupported what.Mapping) >>= λ passed. lossless in
    let next : Result (Unit {0}) StreamFault = wanted (eqb (at 1) id) (Unsupported what.ScanOrder) >>= λ passed. unmapped in
    let whole : Result (Unit {0}) StreamFault = wanted (eqb (length contents) 6) BadSegment >>= λ passed. next in
    let alone : Result (Unit {0}) StreamFault = wanted (eqb (at 0) 1) (Unsupported what.Interleave) >>= λ passed. whole in
    let h0 = test_ok (leb 4 (length contents)) BadSegment alone x e in
    let h1 = test_ok (eqb (at 0) 1) (Unsupported what.Interleave) whole x h0.1 in
    let h2 = test_ok (eqb (length contents) 6) BadSegment next x h1.1 in
    let h3 = test_ok (eqb (at 1) id) (Unsupported what.ScanOrder) unmapped x h2.1 in
    let h4 = test_ok (eqb (at 2) 0) (Unsupported what.Mapping) lossless x h3.1 in
    let h5 = test_ok (eqb (at 3) 0) (Unsupported what.Near) plain x h4.1 in
    let h6 = test_ok (eqb (at 4) 0) (Unsupported what.Interleave) point x h5.1 in
    let h7 = passed_ok (eqb (at 5) 0) (Unsupported what.PointTransform) x h6.1 in
    places_are contents 0 6 (eqb-true _ 6 h2.0)
    ∙ rw (eqb-true (at 0) 1 h1.0, eqb-true (at 1) id h3.0, eqb-true (at 2) 0 h4.0, eqb-true (at 3) 0 h5.0, eqb-true (at 4) 0 h6.0, eqb-true (at 5) 0 h7) refl

pub scan_header_again : (id : ℕ) → scan_header_of id (scan_contents id) ≡ Ok tt
unfolding scan_header_of scan_contents
scan_header_again id = rw (eq-eqb id id refl) refl
