-- The sizes of the codestreams that stand one after the other.
use Rattle.std.proofs.Common.{◌≡◌, ℕ, ◌+◌, ◌<◌, ◌≤◌, true, false, eqb, List, [], ◌∷◌, ◌++◌, length, take, drop, set, Ok, Err, inl, inr, refl, sym, ◌∙◌, ap, subst, take-append-drop, length-drop, arith}
use Rattle.std.specs.Prelude.{◌↔◌}
use Rattle.std.proofs.lemmas.Bool.{eqb-true, eqb-false}
use Rattle.std.proofs.lemmas.Grind.{take-set_at}
use Rattle.std.proofs.lemmas.List.{length-take, drop-drop, drop-set-lt}
use Rattle.ls_bits.specs.Bits.{AreBytes}
use Rattle.ls_frame.specs.Picture.{Picture}
use Rattle.ls_stream.specs.declared.faults.StreamFault.{StreamFault}
use Rattle.ls_stream.specs.Grammar.{Spells}
use Rattle.ls_stream.specs.declared.faults.StreamFault.TheVariants.{Truncated}
use Rattle.ls_stream.specs.View.Extents.{extent_at}
use Rattle.ls_stream.specs.View.Reading.{start_at}
use Rattle.ls_stream.specs.View.Outlines.{IsFirstFault}
use Rattle.ls_stream.proofs.AlikeLaws.{next_has_the_first_fault}
use Rattle.ls_stream.proofs.BreakLemmas.{no_err}
use Rattle.ls_stream.proofs.SegmentLemmas.{bytes_of_rest}
use Rattle.ls_stream.proofs.ExtentLaws.{next_is, spellings_have_extents}
use Rattle.ls_inspect.specs.Ends.{EndsAfter, HasNoEnd}
use Rattle.ls_c.specs.declared.form.JlsrecFault.{JlsrecFault}
use Rattle.ls_c.specs.Refusals.{fault_number, details_of, no_details}
use Rattle.ls_c.specs.Calls.{IsExtent, AreExtents, IsExtents, at_end, full, no_end}

-- the front has the first fault of all bytes
abbrev FaultAlike : List ℕ → List ℕ → Type 0
FaultAlike front bytes = (cause : StreamFault) → IsFirstFault front cause ↔ IsFirstFault bytes cause

-- what `jlsrec_extent` gives
pub entry_is : (bytes : List ℕ) (size : ℕ) → AreBytes bytes → EndsAfter bytes size → IsExtent bytes size 0
entry_is bytes size are ends =
    let front : List ℕ = take size bytes in
    let rest : List ℕ = drop size bytes in
    let whole : front ++ rest ≡ bytes = take-append-drop size bytes in
    let alike : FaultAlike front (front ++ rest) = next_has_the_first_fault front rest (subst AreBytes (sym whole) are) ends.next in
    let count : size ≡ length front = omega (arith, ends.within, length-take size bytes) in
    record {
      statuses = inl refl;
      within = ends.within;
      next = λ _ _. ends.next;
      complete = λ given more f e s. inr (refl, count ∙ ap length (next_is front rest given more f ends.next (whole ∙ e) s));
      fault = λ _. subst (λ bs. FaultAlike front bs) whole alike;
      memory = λ one. absurd (omega (arith, one));
      too_large = λ large. absurd (omega (arith, large));
      none = λ some. absurd (some refl);
    }

-- one codestream more
pub one_more : (bytes sizes rest : List ℕ) (size : ℕ) → AreExtents bytes sizes rest → IsExtent rest size 0 → extent_at (take size rest) ≡ Ok []
    → AreExtents bytes (sizes ++ size ∷ []) (drop size rest)
one_more bytes [] rest size are is ends = subst (λ bs. AreExtents bs (size ∷ []) (drop size rest)) (sym are) (is, ends, refl)
one_more bytes (first ∷ sizes) rest size are is ends = (are.0, are.1, one_more (drop first bytes) sizes rest size are.2 is ends)

-- ---- a walk along codestreams

-- so many codestreams were passed, and their sizes written
pub record IsPast (bytes old new rest : List ℕ) (found count : ℕ) (fault : JlsrecFault) : Type 0 where
  pub are : AreBytes rest
  pub within : count ≤ length old
  pub found_is : found ≡ count
  pub fault_is : fault ≡ no_details
  pub sizes : AreExtents bytes (take count new) rest
  pub kept : drop count new ≡ drop count old

pub past_none : (bytes old : List ℕ) (fault : JlsrecFault) → AreBytes bytes → fault ≡ no_details → IsPast bytes old old bytes 0 0 fault
past_none bytes old fault are none = record { are = are; within = omega arith; found_is = refl; fault_is = none; sizes = refl; kept = refl }

drop_one_more : (n : ℕ) (xs ys : List ℕ) → drop n xs ≡ drop n ys → drop (n + 1) xs ≡ drop (n + 1) ys
drop_one_more n xs ys same = sym (drop-drop 1 n xs) ∙ ap (drop 1) same ∙ drop-drop 1 n ys

pub past_more : (bytes old new rest left : List ℕ) (found count size : ℕ) (fault : JlsrecFault) → IsPast bytes old new rest found count fault → length new ≡ length old → count < length new
    → EndsAfter rest size → left ≡ drop size rest → IsPast bytes old (set new count size) left (count + 1) (count + 1) fault
past_more bytes old new rest left found count size fault past same few ends is =
    let front : take (count + 1) (set new count size) ≡ take count new ++ size ∷ [] = take-set_at new count (count + 1) size refl few in
    let sizes : AreExtents bytes (take count new ++ size ∷ []) (drop size rest) = one_more bytes (take count new) rest size past.sizes (entry_is rest size past.are ends) ends.to_end in
    let are : AreBytes (drop size rest) = bytes_of_rest (take size rest) (drop size rest) (subst AreBytes (sym (take-append-drop size rest)) past.are) in
    record {
      are = subst AreBytes (sym is) are;
      within = omega (arith, same, few);
      found_is = refl;
      fault_is = past.fault_is;
      sizes = subst (λ bs. AreExtents bytes (take (count + 1) (set new count size)) bs) (sym is) (subst (λ ns. AreExtents bytes ns (drop size rest)) (sym front) sizes);
      kept = drop-set-lt (count + 1) new count size (omega arith) ∙ drop_one_more count new old past.kept;
    }

pub shorter : (rest left : List ℕ) (size : ℕ) → EndsAfter rest size → left ≡ drop size rest → length left < length rest
shorter rest left size ends is = omega (arith, ap length is, length-drop size rest, length-take size rest, ends.within, ends.next.some)

-- ---- where it stops

no_bytes : (bytes : List ℕ) → length bytes ≡ 0 → bytes ≡ []
no_bytes [] none = refl
no_bytes (byte ∷ bytes) none = absurd (omega (arith, none))

nothing_extends : extent_at [] ≡ Err Truncated
unfolding extent_at start_at
nothing_extends = refl

nothing_spelled : (front more : List ℕ) (f : Picture) → [] ≡ front ++ more → Spells front f → ⊥
nothing_spelled front more f same spelled = no_err more Truncated (sym (spellings_have_extents front more f spelled) ∙ ap extent_at (sym same) ∙ nothing_extends)

some_bytes : (rest : List ℕ) → eqb (length rest) 0 ≡ false → rest ≡ [] → ⊥
some_bytes rest some none = eqb-false (length rest) 0 some (ap length none)

pub stopped_at_end : (bytes old new rest : List ℕ) (found count : ℕ) (fault : JlsrecFault) → IsPast bytes old new rest found count fault → eqb (length rest) 0 ≡ true
    → IsExtents bytes old new found fault 0
stopped_at_end bytes old new rest found count fault past none =
    let empty : rest ≡ [] = no_bytes rest (eqb-true (length rest) 0 none) in
    rw past.found_is (record {
      within = past.within;
      rest = rest;
      sizes = past.sizes;
      kept = past.kept;
      stop = at_end refl empty past.fault_is;
      complete = λ front more f e s. absurd (nothing_spelled front more f (sym empty ∙ e) s);
    })

pub stopped_full : (bytes old new rest : List ℕ) (found count : ℕ) (fault : JlsrecFault) → IsPast bytes old new rest found count fault → length new ≡ length old
    → eqb (length rest) 0 ≡ false → length new ≤ count → IsExtents bytes old new found fault 2
stopped_full bytes old new rest found count fault past same some many =
    rw past.found_is (record {
      within = past.within;
      rest = rest;
      sizes = past.sizes;
      kept = past.kept;
      stop = full refl (some_bytes rest some) (omega (arith, same, many)) past.fault_is;
      complete = λ front more f e s. refl;
    })

pub stopped_by : (bytes old new rest : List ℕ) (found count : ℕ) (fault details : JlsrecFault) (first : StreamFault) → IsPast bytes old new rest found count fault
    → length new ≡ length old → eqb (length rest) 0 ≡ false → count < length new → HasNoEnd rest first
    → ((front more : List ℕ) (f : Picture) → rest ≡ front ++ more → Spells front f → ⊥) → details ≡ details_of first → IsExtents bytes old new found details (fault_number first)
stopped_by bytes old new rest found count fault details first past same some few ends none is =
    rw past.found_is (record {
      within = past.within;
      rest = rest;
      sizes = past.sizes;
      kept = past.kept;
      stop = no_end first refl (some_bytes rest some) (omega (arith, same, few)) ends is;
      complete = λ front more f e s. absurd (none front more f e s);
    })
