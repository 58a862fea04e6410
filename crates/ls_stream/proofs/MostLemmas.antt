-- Bytes after the most that a codestream may have: what is read of any bytes is a codestream, a codestream is read, and bytes that aren't
-- read break the grammar.
use Rattle.std.proofs.Common.{◌≡◌, ℕ, ◌+◌, ◌-◌, ◌<◌, ◌≤◌, List, ◌++◌, length, take, drop, Ok, Err, refl, sym, ap, subst, ◌∙◌, arith, append_assoc, take-append-drop, length-append}
use Rattle.std.proofs.Math.Seq.{take-append-add}
use Rattle.std.proofs.lemmas.List.{length-take, take_all, drop-drop, drop_at}
use Rattle.ls_bits.specs.Bits.{AreBytes}
use Rattle.ls_stream.specs.declared.faults.StreamFault.{StreamFault}
use Rattle.ls_stream.specs.declared.faults.StreamFault.TheVariants.{Truncated, NotSoi, BadSegment, Unsupported, BadPresets, TooLarge, BadCode, LeftoverBits, NoMemory}
use Rattle.ls_stream.specs.Grammar.{most_bytes}
use Rattle.ls_stream.specs.View.Reading.{Take}
use Rattle.ls_stream.specs.View.Outlines.{past_most, fault_of, of_all, outline_at, outline_of, BoundedOutlinesSpell, SpellingsHaveBoundedOutlines, BoundedFaultsBreak}
use Rattle.ls_stream.proofs.StepLemmas.{same_ok, same_fault}
use Rattle.ls_stream.proofs.SegmentLemmas.{bytes_of_front}
use Rattle.ls_stream.proofs.BreakLemmas.{no_err}
use Rattle.ls_stream.proofs.FaultLaws.{outline_faults_break}
use Rattle.ls_stream.proofs.OutlineLemmas.{outlines_spell, spellings_have_outlines}

-- what was read of all bytes was read of the first ones
pub of_all-ok : {X : Type 0} (bytes : List ℕ) (r : Take X) (found : X × List ℕ) → of_all bytes r ≡ Ok found
    → (left : List ℕ) × (r ≡ Ok (found.0, left)) × (left ++ drop most_bytes bytes ≡ found.1)
of_all-ok {X} bytes (Ok read) found e =
    let same : ◌≡◌ {A = X × List ℕ} (read.0, read.1 ++ drop most_bytes bytes) found = same_ok (read.0, read.1 ++ drop most_bytes bytes) found e in
    (read.1, ap (λ (p : X × List ℕ). Ok (p.0, read.1)) same, ap (λ (p : X × List ℕ). p.1) same)
of_all-ok bytes (Err fault) found e = absurd cc

-- the first bytes, with a complete front that is no longer than the most
pub first_of : (most : ℕ) (front rest : List ℕ) → length front ≤ most → take most (front ++ rest) ≡ front ++ take (most - length front) rest
first_of most front rest few =
    let size : most ≡ length front + (most - length front) = omega arith in
    ap (λ n. take n (front ++ rest)) size ∙ take-append-add front rest (most - length front)

pub left_of : (most : ℕ) (front rest : List ℕ) → length front ≤ most → take (most - length front) rest ++ drop most (front ++ rest) ≡ rest
left_of most front rest few =
    let more = most - length front in
    let size : most ≡ length front + more = omega arith in
    let back : drop most (front ++ rest) ≡ drop more rest =
    ap (λ n. drop n (front ++ rest)) size ∙ sym (drop-drop more (length front) (front ++ rest)) ∙ ap (drop more) (drop_at front rest (length front) refl) in
    ap (λ bs. take more rest ++ bs) back ∙ take-append-drop more rest

few_of : (most : ℕ) (front rest bytes : List ℕ) → take most bytes ≡ front ++ rest → length front ≤ most
few_of most front rest bytes e = omega (arith, ap length e, length-append front rest, length-take most bytes)

pub bounded_outlines_spell : BoundedOutlinesSpell
unfolding outline_of
bounded_outlines_spell bytes rest o are e =
    let first = take most_bytes bytes in
    let back = drop most_bytes bytes in
    let split : first ++ back ≡ bytes = take-append-drop most_bytes bytes in
    let read = of_all-ok bytes (outline_at first) (o, rest) e in
    let found = outlines_spell first read.0 o (bytes_of_front first back (subst AreBytes (sym split) are)) read.1 in (
      found.0,
      sym split ∙ ap (λ bs. bs ++ back) found.1 ∙ append_assoc found.0 read.0 back ∙ ap (λ bs. found.0 ++ bs) read.2,
      λ f frame is. found.2 f frame is (few_of most_bytes found.0 read.0 bytes found.1),
    )

pub spellings_have_bounded_outlines : SpellingsHaveBoundedOutlines
unfolding outline_of
spellings_have_bounded_outlines front rest f spells =
    let more = take (most_bytes - length front) rest in
    let found = spellings_have_outlines front more f spells in (
      found.0,
      ap (λ bs. of_all (front ++ rest) (outline_at bs)) (first_of most_bytes front rest spells.short)
          ∙ ap (of_all (front ++ rest)) found.1
          ∙ ap (λ bs. Ok (found.0, bs)) (left_of most_bytes front rest spells.short),
      found.2,
    )

-- a fault of all bytes is one of the first ones
pub of_all-err : {X : Type 0} (bytes : List ℕ) (r : Take X) (fault : StreamFault) → of_all bytes r ≡ Err fault → (cause : StreamFault) × (r ≡ Err cause) × (fault ≡ fault_of bytes cause)
of_all-err {X} bytes (Ok read) fault e = absurd (no_err (read.0, read.1 ++ drop most_bytes bytes) fault e)
of_all-err {X} bytes (Err cause) fault e = (cause, refl, sym (same_fault {A = X × List ℕ} (fault_of bytes cause) fault e))

pub bounded_faults_break : BoundedFaultsBreak
unfolding outline_of
bounded_faults_break bytes fault are e =
    let first = take most_bytes bytes in
    let back = drop most_bytes bytes in
    let cause = of_all-err bytes (outline_at first) fault e in
    let first_are = bytes_of_front first back (subst AreBytes (sym (take-append-drop most_bytes bytes)) are) in
    (cause.0, cause.2, outline_faults_break first cause.0 first_are cause.1)

-- ---- for the code

-- of more bytes, the first ones are `most`
pub first_full : (most : ℕ) (bytes : List ℕ) → most < length bytes → most ≡ length (take most bytes)
first_full most bytes more = omega (arith, length-take most bytes)

-- no more bytes than that are all among the first ones
pub first_all : (bytes : List ℕ) → length bytes ≤ most_bytes → take most_bytes bytes ≡ bytes
first_all bytes few = take_all most_bytes bytes few

-- another fault is unchanged
pub past_other : (fault : StreamFault) → (fault ≡ Truncated → ⊥) → past_most fault ≡ fault
past_other Truncated other = absurd (other refl)
past_other NotSoi other = refl
past_other BadSegment other = refl
past_other (Unsupported what) other = refl
past_other (BadPresets fault) other = refl
past_other TooLarge other = refl
past_other (BadCode component) other = refl
past_other (LeftoverBits component) other = refl
past_other NoMemory other = refl
