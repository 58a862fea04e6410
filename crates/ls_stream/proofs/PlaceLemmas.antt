-- One more byte of a codestream: from where reading goes on with it, or what ends there.
use Rattle.std.proofs.Common.{◌≡◌, ℕ, zero, suc, ◌+◌, ◌-◌, ◌*◌, ◌<◌, ◌≤◌, true, leb, ltb, List, [], ◌∷◌, ◌⊎◌, length, drop, replicate, inl, inr, Option, None, Some, Result, Ok, Err, refl, sym, ap, subst, ◌∙◌, arith, length-append, length-drop}
use Rattle.std.specs.Prelude.{IfNone}
use Rattle.std.proofs.lemmas.Bool.{cases_Bool, eq-eqb, ne_eqb, le-leb, le-ltb, lt-ltb, lt-leb, ltb-true, ltb-false}
use Rattle.ls_stream.specs.declared.faults.StreamFault.{StreamFault}
use Rattle.ls_stream.specs.declared.faults.StreamFault.TheVariants.{Truncated, NotSoi, BadSegment, Unsupported}
use Rattle.ls_stream.specs.declared.faults.What.TheVariants as what
use Rattle.ls_stream.specs.declared.marker.Marker.{Marker}
use Rattle.ls_stream.specs.declared.marker.Marker.TheVariants.{StartOfImage, EndOfImage, StartOfScan, StartOfFrame, PresetParameters, Application, Comment, Other}
use Rattle.ls_stream.specs.declared.next.awaited.Awaited.{Awaited}
use Rattle.ls_stream.specs.declared.next.awaited.Awaited.TheVariants as awaited
use Rattle.ls_stream.specs.declared.next.awaited.Follows.{Follows}
use Rattle.ls_stream.specs.declared.next.awaited.Follows.TheVariants as follows
use Rattle.ls_stream.specs.Markers.{marker_of, marker}
use Rattle.ls_stream.specs.Segments.{field_of}
use Rattle.ls_stream.specs.Grammar.{filled}
use Rattle.ls_stream.specs.View.Reading.{◌>>=◌, wanted, start_at, code_at, marker_at, contents_at}
use Rattle.ls_stream.specs.View.Outlines.{data_length, after_data}
use Rattle.ls_stream.specs.View.Extents.{Left, after_segment, after_any, segments_within, segments_at, extent_at}
use Rattle.ls_stream.specs.View.Places.{following, read_on, GoesOn, Ends, follows_of, place_of}
use Rattle.ls_stream.proofs.MarkerLemmas.{marker_read}
use Rattle.ls_stream.proofs.SegmentLemmas.{contents_shorter}
use Rattle.ls_stream.proofs.FrontLemmas.{length-pair, length-marker, length-other}

-- ---- one more segment or scan

-- the same first step, and second steps that agree after it
pub same_steps : {A B : Type 0} (r : Result A StreamFault) (f g : A → Result B StreamFault) → ((x : A) → r ≡ Ok x → f x ≡ g x) → (r >>= f) ≡ (r >>= g)
same_steps (Ok x) f g same = same x refl
same_steps (Err fault) f g same = refl

same_segment : (bytes : List ℕ) (f g : List ℕ → Left) → ((rest : List ℕ) → length rest ≤ length bytes → f rest ≡ g rest) → after_segment f bytes ≡ after_segment g bytes
same_segment bytes f g same = same_steps (contents_at bytes) (λ c. f c.1) (λ c. g c.1) (λ c e. same c.1 (contents_shorter bytes c e))

pub data_shorter : (bytes : List ℕ) → length (after_data bytes) ≤ length bytes
data_shorter bytes = omega (arith, length-drop (data_length bytes) bytes)

same_after : (m : Marker) (bytes : List ℕ) (f g : List ℕ → Left) → ((rest : List ℕ) → length rest ≤ length bytes → f rest ≡ g rest) → after_any f m bytes ≡ after_any g m bytes
unfolding after_any
same_after StartOfImage bytes f g same = refl
same_after EndOfImage bytes f g same = refl
same_after StartOfScan bytes f g same =
    same_segment bytes (λ stuffed. f (after_data stuffed)) (λ stuffed. g (after_data stuffed)) (λ rest less. same (after_data rest) (let less_data = data_shorter rest in omega arith))
same_after StartOfFrame bytes f g same = same_segment bytes f g same
same_after PresetParameters bytes f g same = same_segment bytes f g same
same_after (Application code) bytes f g same = same_segment bytes f g same
same_after Comment bytes f g same = same_segment bytes f g same
same_after (Other code) bytes f g same = refl

pub marker_shorter : (bytes : List ℕ) (found : Marker × List ℕ) → marker_at bytes ≡ Ok found → length found.1 < length bytes
marker_shorter bytes found e =
    let read = marker_read bytes found e in
    omega (arith, ap length read.1, length-append (filled read.0 (marker found.0)) found.1, length-append (replicate read.0 255) (marker found.0))

-- the number of bytes is enough
enough : (a b : ℕ) (bytes : List ℕ) → length bytes ≤ a → length bytes ≤ b → segments_within a bytes ≡ segments_within b bytes
unfolding segments_within marker_at
enough zero zero bytes first second = refl
enough zero (suc b) [] first second = refl
enough zero (suc b) (byte ∷ bytes) first second = absurd (omega arith)
enough (suc a) zero [] first second = refl
enough (suc a) zero (byte ∷ bytes) first second = absurd (omega arith)
enough (suc a) (suc b) bytes first second =
    same_steps (marker_at bytes) (λ n. after_any (segments_within a) n.0 n.1) (λ n. after_any (segments_within b) n.0 n.1)
    (λ n e.
    let less = marker_shorter bytes n e in
    same_after n.0 n.1 (segments_within a) (segments_within b) (λ rest fewer. enough a b rest (omega arith) (omega arith)))

-- a marker, and what follows it
pub segments_at-next : (bytes : List ℕ) → segments_at bytes ≡ (marker_at bytes >>= λ next. after_any segments_at next.0 next.1)
unfolding segments_at segments_within marker_at
segments_at-next [] = refl
segments_at-next (byte ∷ bytes) =
    same_steps (marker_at (byte ∷ bytes)) (λ n. after_any (segments_within (length bytes)) n.0 n.1) (λ n. after_any segments_at n.0 n.1)
    (λ n e.
    let less = marker_shorter (byte ∷ bytes) n e in
    same_after n.0 n.1 (segments_within (length bytes)) segments_at (λ rest fewer. enough (length bytes) (length rest) rest (omega arith) (omega arith)))

-- ---- no more bytes

pub read_on-none : (place : Awaited) → read_on place [] ≡ Err Truncated
unfolding read_on extent_at start_at segments_at segments_within marker_at code_at contents_at data_length
read_on-none awaited.Start = refl
read_on-none awaited.StartCode = refl
read_on-none awaited.Marker = refl
read_on-none awaited.Code = refl
read_on-none (awaited.Length follows) = refl
read_on-none (awaited.LengthLow follows high) = refl
read_on-none (awaited.Contents follows more) = rw (le-ltb more 0 (omega arith)) refl
read_on-none awaited.Data = refl
read_on-none awaited.DataCode = refl

-- ---- SOI

no_soi : NotSoi ≡ Truncated → ⊥
no_soi e = cc

bad_segment : BadSegment ≡ Truncated → ⊥
bad_segment e = cc

pub start_ff : (byte : ℕ) → byte ≡ 255 → GoesOn awaited.Start byte awaited.StartCode
unfolding read_on
start_ff byte ff = record { on = λ bytes. ap (λ b. extent_at (b ∷ bytes)) ff }

pub start_other : (byte : ℕ) → (byte ≡ 255 → ⊥) → Ends awaited.Start byte
unfolding read_on extent_at start_at
start_other byte other = record { ends = inr (NotSoi, no_soi, λ bytes. rw (ne_eqb byte 255 other) refl) }

pub start_code : (byte : ℕ) → byte ≡ 216 → GoesOn awaited.StartCode byte awaited.Marker
unfolding read_on extent_at start_at
start_code byte is = record { on = λ bytes. rw (eq-eqb byte 216 is) refl }

pub start_other_code : (byte : ℕ) → (byte ≡ 216 → ⊥) → Ends awaited.StartCode byte
unfolding read_on extent_at start_at
start_other_code byte other = record { ends = inr (NotSoi, no_soi, λ bytes. rw (ne_eqb byte 216 other) refl) }

-- ---- a marker

pub marker_ff : (byte : ℕ) → byte ≡ 255 → GoesOn awaited.Marker byte awaited.Code
unfolding read_on
marker_ff byte ff = record { on = λ bytes. ap (λ b. segments_at (b ∷ bytes)) ff }

pub marker_other : (byte : ℕ) → (byte ≡ 255 → ⊥) → Ends awaited.Marker byte
unfolding read_on marker_at
marker_other byte other = record { ends = inr (BadSegment, bad_segment, λ bytes. segments_at-next (byte ∷ bytes) ∙ rw (ne_eqb byte 255 other) refl) }

pub code_fill : (byte : ℕ) → byte ≡ 255 → GoesOn awaited.Code byte awaited.Code
unfolding read_on marker_at code_at
code_fill byte ff = record { on = λ bytes. segments_at-next (255 ∷ byte ∷ bytes) ∙ rw (eq-eqb byte 255 ff) refl ∙ sym (segments_at-next (255 ∷ bytes)) }

pub code_zero : (byte : ℕ) → byte ≡ 0 → Ends awaited.Code byte
unfolding read_on marker_at code_at
code_zero byte is = record { ends = inr (BadSegment, bad_segment, λ bytes. segments_at-next (255 ∷ byte ∷ bytes) ∙ rw is refl) }

code_marker : (byte : ℕ) (bytes : List ℕ) → (byte ≡ 255 → ⊥) → (byte ≡ 0 → ⊥) → read_on awaited.Code (byte ∷ bytes) ≡ after_any segments_at (marker_of byte) bytes
unfolding read_on marker_at code_at
code_marker byte bytes other some = segments_at-next (255 ∷ byte ∷ bytes) ∙ rw (ne_eqb byte 255 other, ne_eqb byte 0 some) refl

same_some : (f g : Follows) → Some f ≡ Some g → f ≡ g
same_some f g e = cc

none_some : (f : Follows) → None ≡ Some f → ⊥
none_some f e = cc

pub after_follows : (m : Marker) (f : Follows) (bytes : List ℕ) → follows_of m ≡ Some f → after_any segments_at m bytes ≡ after_segment (following f) bytes
unfolding after_any
after_follows StartOfImage f bytes e = absurd (none_some f e)
after_follows EndOfImage f bytes e = absurd (none_some f e)
after_follows StartOfScan f bytes e = ap (λ g. after_segment (following g) bytes) (same_some _ f e)
after_follows StartOfFrame f bytes e = ap (λ g. after_segment (following g) bytes) (same_some _ f e)
after_follows PresetParameters f bytes e = ap (λ g. after_segment (following g) bytes) (same_some _ f e)
after_follows (Application code) f bytes e = ap (λ g. after_segment (following g) bytes) (same_some _ f e)
after_follows Comment f bytes e = ap (λ g. after_segment (following g) bytes) (same_some _ f e)
after_follows (Other code) f bytes e = absurd (none_some f e)

pub code_segment : (byte : ℕ) (f : Follows) → (byte ≡ 255 → ⊥) → (byte ≡ 0 → ⊥) → Some f ≡ follows_of (marker_of byte) → GoesOn awaited.Code byte (awaited.Length f)
unfolding read_on
code_segment byte f other some is = record { on = λ bytes. code_marker byte bytes other some ∙ after_follows (marker_of byte) f bytes (sym is) }

-- what a marker without a segment shows
abbrev Stops : Marker → Type 0
Stops m = ((bytes : List ℕ) → after_any segments_at m bytes ≡ Ok bytes)
    ⊎ ((fault : StreamFault) × (fault ≡ Truncated → ⊥) × ((bytes : List ℕ) → after_any segments_at m bytes ≡ Err fault))

some_none : (f : Follows) → Some f ≡ None → ⊥
some_none f e = cc

unsupported : (code : ℕ) → Unsupported (what.Marker code) ≡ Truncated → ⊥
unsupported code e = cc

after_stops : (m : Marker) → follows_of m ≡ None → Stops m
unfolding after_any
after_stops StartOfImage e = inr (Unsupported (what.Marker 216), unsupported 216, λ bytes. refl)
after_stops EndOfImage e = inl (λ bytes. refl)
after_stops StartOfScan e = absurd (some_none _ e)
after_stops StartOfFrame e = absurd (some_none _ e)
after_stops PresetParameters e = absurd (some_none _ e)
after_stops (Application code) e = absurd (some_none _ e)
after_stops Comment e = absurd (some_none _ e)
after_stops (Other code) e = inr (Unsupported (what.Marker code), unsupported code, λ bytes. refl)

pub code_stops : (byte : ℕ) → (byte ≡ 255 → ⊥) → (byte ≡ 0 → ⊥) → None ≡ follows_of (marker_of byte) → Ends awaited.Code byte
code_stops byte other some is = elim (after_stops (marker_of byte) (sym is)) [
  | inl whole ↦ record { ends = inl (λ bytes. code_marker byte bytes other some ∙ whole bytes) }
  | inr bad ↦ record { ends = inr (bad.0, bad.1, λ bytes. code_marker byte bytes other some ∙ bad.2 bytes) }
]

pub ruleset code_lemmas = (code_fill, code_zero, code_segment, code_stops)

-- ---- a segment

pub length_high : (f : Follows) (byte : ℕ) → GoesOn (awaited.Length f) byte (awaited.LengthLow f byte)
unfolding read_on
length_high f byte = record { on = λ bytes. refl }

pub length_small : (f : Follows) (high low : ℕ) → 256 * high + low < 2 → Ends (awaited.LengthLow f high) low
unfolding read_on contents_at field_of
length_small f high low small = record { ends = inr (BadSegment, bad_segment, λ bytes. rw (le-leb 2 (suc (suc (length bytes))) (omega arith), lt-leb 2 (256 * high + low) small) refl) }

length_read : (f : Follows) (high low : ℕ) (bytes : List ℕ) → 2 ≤ 256 * high + low
    → read_on (awaited.LengthLow f high) (low ∷ bytes) ≡ (wanted (leb (256 * high + low) (suc (suc (length bytes)))) Truncated >>= λ whole. following f (drop (256 * high + low) (high ∷ low ∷ bytes)))
unfolding read_on contents_at field_of
length_read f high low bytes some =
    let both : leb 2 (suc (suc (length bytes))) ≡ true = le-leb 2 (suc (suc (length bytes))) (omega arith) in
    let least : leb 2 (256 * high + low) ≡ true = le-leb 2 (256 * high + low) some in
    elim (cases_Bool (leb (256 * high + low) (suc (suc (length bytes))))) [
      | inl here ↦ rw (both, least, here) refl
      | inr past ↦ rw (both, least, past) refl
    ]

-- after the two bytes of a length, this number of bytes follows
later_bytes : (high low n more : ℕ) (bytes : List ℕ) → n ≡ suc (suc more) → drop n (high ∷ low ∷ bytes) ≡ drop more bytes
later_bytes high low n more bytes e = ap (λ k. drop k (high ∷ low ∷ bytes)) e

read_on-place : (f : Follows) (bytes : List ℕ) → read_on (place_of f) bytes ≡ following f bytes
unfolding read_on
read_on-place follows.Marker bytes = refl
read_on-place follows.Data bytes = refl

pub length_two : (f : Follows) (high low : ℕ) → 256 * high + low ≡ 2 → GoesOn (awaited.LengthLow f high) low (place_of f)
length_two f high low two = record {
  on = λ bytes.
      length_read f high low bytes (omega arith)
      ∙ ap (λ test. wanted test Truncated >>= λ whole. following f (drop (256 * high + low) (high ∷ low ∷ bytes)))
      (le-leb (256 * high + low) (suc (suc (length bytes))) (omega arith))
      ∙ ap (following f) (later_bytes high low (256 * high + low) 0 bytes two)
      ∙ sym (read_on-place f bytes);
}

-- whether all bytes of the contents follow, in two forms
same_test : (n more len : ℕ) → n ≡ more + 3 → leb n (suc (suc len)) ≡ ltb more len
same_test n more len e = elim (cases_Bool (ltb more len)) [
  | inl here ↦ let less : more < len = ltb-true more len here in le-leb n (suc (suc len)) (omega arith) ∙ sym here
  | inr past ↦ let most : len ≤ more = ltb-false more len past in lt-leb n (suc (suc len)) (omega arith) ∙ sym past
]

pub length_more : (f : Follows) (high low more : ℕ) → 256 * high + low ≡ more + 3 → GoesOn (awaited.LengthLow f high) low (awaited.Contents f more)
unfolding read_on
length_more f high low more size = record {
  on = λ bytes.
      length_read f high low bytes (omega arith)
      ∙ ap (λ test. wanted test Truncated >>= λ whole. following f (drop (256 * high + low) (high ∷ low ∷ bytes))) (same_test (256 * high + low) more (length bytes) size)
      ∙ ap (λ bs. wanted (ltb more (length bytes)) Truncated >>= λ whole. following f bs) (later_bytes high low (256 * high + low) (suc more) bytes (omega arith));
}

pub ruleset length_lemmas = (length_small, length_two, length_more)

pub contents_last : (f : Follows) (byte more : ℕ) → more ≡ 0 → GoesOn (awaited.Contents f more) byte (place_of f)
unfolding read_on
contents_last f byte more none = record {
  on = λ bytes.
      ap (λ k. wanted (ltb k (suc (length bytes))) Truncated >>= λ whole. following f (drop (suc k) (byte ∷ bytes))) none
      ∙ ap (λ test. wanted test Truncated >>= λ whole. following f bytes) (lt-ltb 0 (suc (length bytes)) (omega arith))
      ∙ sym (read_on-place f bytes);
}

fewer_test : (more len : ℕ) → (more ≡ 0 → ⊥) → ltb more (suc len) ≡ ltb (more - 1) len
fewer_test more len some = elim (cases_Bool (ltb (more - 1) len)) [
  | inl here ↦ let less : more - 1 < len = ltb-true (more - 1) len here in lt-ltb more (suc len) (omega arith) ∙ sym here
  | inr past ↦ let most : len ≤ more - 1 = ltb-false (more - 1) len past in le-ltb more (suc len) (omega arith) ∙ sym past
]

pub contents_more : (f : Follows) (byte more : ℕ) → (more ≡ 0 → ⊥) → GoesOn (awaited.Contents f more) byte (awaited.Contents f (more - 1))
unfolding read_on
contents_more f byte more some = record {
  on = λ bytes.
      let size : suc more ≡ suc (suc (more - 1)) = omega arith in
      ap (λ test. wanted test Truncated >>= λ whole. following f (drop (suc more) (byte ∷ bytes))) (fewer_test more (length bytes) some)
      ∙ ap (λ k. wanted (ltb (more - 1) (length bytes)) Truncated >>= λ whole. following f (drop k (byte ∷ bytes))) size;
}

-- ---- data

pub data_ff : (byte : ℕ) → byte ≡ 255 → GoesOn awaited.Data byte awaited.DataCode
unfolding read_on
data_ff byte ff = record { on = λ bytes. ap (λ b. segments_at (after_data (b ∷ bytes))) ff }

pub data_other : (byte : ℕ) → (byte ≡ 255 → ⊥) → GoesOn awaited.Data byte awaited.Data
unfolding read_on
data_other byte other = record { on = λ bytes. ap (λ n. segments_at (drop n (byte ∷ bytes))) (length-other byte bytes (ne_eqb byte 255 other)) }

pub code_low : (byte : ℕ) → byte < 128 → GoesOn awaited.DataCode byte awaited.Data
unfolding read_on
code_low byte low = record { on = λ bytes. ap (λ n. segments_at (drop n (255 ∷ byte ∷ bytes))) (length-pair 255 byte bytes refl (lt-ltb byte 128 low)) }

marker_after : (byte : ℕ) (bytes : List ℕ) → 128 ≤ byte → read_on awaited.DataCode (byte ∷ bytes) ≡ read_on awaited.Code (byte ∷ bytes)
unfolding read_on
marker_after byte bytes high = ap (λ n. segments_at (drop n (255 ∷ byte ∷ bytes))) (length-marker 255 byte bytes refl (le-ltb byte 128 high))

pub code_high : (byte : ℕ) (next : Awaited) → 128 ≤ byte → GoesOn awaited.Code byte next → GoesOn awaited.DataCode byte next
code_high byte next high goes = record { on = λ bytes. marker_after byte bytes high ∙ goes.on bytes }

pub code_high_stops : (byte : ℕ) → 128 ≤ byte → Ends awaited.Code byte → Ends awaited.DataCode byte
code_high_stops byte high stops = elim stops.ends [
  | inl whole ↦ record { ends = inl (λ bytes. marker_after byte bytes high ∙ whole bytes) }
  | inr bad ↦ record { ends = inr (bad.0, bad.1, λ bytes. marker_after byte bytes high ∙ bad.2 bytes) }
]

pub ends_high : (place : Awaited) (byte : ℕ) (r : Option Awaited) → place ≡ awaited.DataCode → 128 ≤ byte → IfNone r (Ends awaited.Code byte) → IfNone r (Ends place byte)
ends_high place byte None is high ends = subst (λ p. Ends p byte) (sym is) (code_high_stops byte high ends)
ends_high place byte (Some next) is high ends = ends

pub ruleset place_lemmas =
    (start_ff, start_other, start_code, start_other_code, marker_ff, marker_other, length_high, contents_last, contents_more, data_ff, data_other, code_low, code_high, code_high_stops)
