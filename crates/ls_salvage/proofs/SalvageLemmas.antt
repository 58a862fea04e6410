-- The parts of a recording: where each stands, and that the bytes determine them.
use Rattle.std.proofs.Common.{drop-drop, ◌≡◌, ◌⊎◌, inl, inr, ℕ, zero, suc, ◌+◌, ◌<◌, ◌≤◌, ltb, List, [], ◌∷◌, ◌++◌, length, take, drop, refl, sym, ap, subst, ◌∙◌, arith, append_assoc, append-nil}
use Rattle.std.proofs.lemmas.Bool.{cases_Bool, ltb-true, ltb-false}
use Rattle.std.proofs.lemmas.List.{length-append, length-drop, length-take-le, take-append-drop, drop-append-le}
use Rattle.std.specs.List.{AllByRecursion}
use Rattle.ls_frame.specs.Picture.{Picture}
use Rattle.ls_bits.specs.Bits.{AreBytes}
use Rattle.ls_stream.specs.Grammar.{codestream_bytes, Spells}
use Rattle.ls_stream.specs.View.Outlines.{OneFirstFault}
use Rattle.ls_film.specs.Film.{IsFilm}
use Rattle.ls_film.proofs.OneFilmLemmas.{two_fronts}
use Rattle.ls_salvage.specs.Starts.{to_next}
use Rattle.ls_salvage.specs.Salvage.{Part, frame, gap, size_of, bytes_of, frames_of, gaps_after, IsShownAt, IsHeld}
use Rattle.ls_salvage.specs.View.Salvaged.{FailsBy, IsGapOf, AreParts, IsSalvaged}
use Rattle.ls_salvage.proofs.StartLemmas.{spelled_start, to_next-most, to_next-within}

-- ---- one part after the other

-- parts, and then more of them
pub parts_then : (bytes mid rest : List ℕ) (parts more : List Part) → AreParts bytes parts mid → AreParts mid more rest → AreParts bytes (parts ++ more) rest
parts_then bytes mid rest [] more are then = rw are then
parts_then bytes mid rest (frame count f ∷ parts) more are then = (are.0, are.1, parts_then (drop count bytes) mid rest parts more are.2 then)
parts_then bytes mid rest (gap count fault ∷ parts) more are then = (are.0, are.1, parts_then (drop count bytes) mid rest parts more are.2 then)

pub bytes_of-append : (parts more : List Part) → bytes_of (parts ++ more) ≡ bytes_of parts + bytes_of more
bytes_of-append [] more = omega arith
bytes_of-append (part ∷ parts) more = omega (arith, bytes_of-append parts more)

pub frames_of-append : (parts more : List Part) → frames_of (parts ++ more) ≡ frames_of parts ++ frames_of more
frames_of-append [] more = refl
frames_of-append (frame count f ∷ parts) more = ap (λ s. f ∷ s) (frames_of-append parts more)
frames_of-append (gap count fault ∷ parts) more = frames_of-append parts more

gaps_at : (frames frames' place place' : ℕ) (parts : List Part) → frames ≡ frames' → place ≡ place' → gaps_after frames place parts ≡ gaps_after frames' place' parts
gaps_at frames frames' place place' parts same there = ap (λ n. gaps_after n place parts) same ∙ ap (λ n. gaps_after frames' n parts) there

pub gaps_after-append : (frames place : ℕ) (parts more : List Part)
    → gaps_after frames place (parts ++ more) ≡ gaps_after frames place parts ++ gaps_after (frames + length (frames_of parts)) (place + bytes_of parts) more
gaps_after-append frames place [] more = gaps_at _ _ _ _ more (omega arith) (omega arith)
gaps_after-append frames place (frame count f ∷ parts) more =
    gaps_after-append (frames + 1) (place + count) parts more
    ∙ ap (λ s. gaps_after (frames + 1) (place + count) parts ++ s) (gaps_at _ _ _ _ more (omega arith) (omega arith))
gaps_after-append frames place (gap count fault ∷ parts) more =
    ap (λ s. record { frame = frames; place = place; count = count; fault = fault } ∷ s)
    (gaps_after-append frames (place + count) parts more ∙ ap (λ s. gaps_after frames (place + count) parts ++ s) (gaps_at _ _ _ _ more refl (omega arith)))

-- the parts and the rest together are all bytes
pub parts_length : (bytes rest : List ℕ) (parts : List Part) → AreParts bytes parts rest → length bytes ≡ bytes_of parts + length rest
parts_length bytes rest [] are = omega (arith, ap length are)
parts_length bytes rest (frame count f ∷ parts) are = omega (arith, are.0, length-drop count bytes, parts_length (drop count bytes) rest parts are.2)
parts_length bytes rest (gap count fault ∷ parts) are =
    omega (arith, are.0, to_next-most bytes, length-drop count bytes, parts_length (drop count bytes) rest parts are.2)

-- the gaps are at their places in all bytes, from this place on
pub gaps_stand : (all bytes rest : List ℕ) (frames place : ℕ) (parts : List Part) → place ≤ length all → drop place all ≡ bytes → AreParts bytes parts rest
    → AllByRecursion (IsGapOf all) (gaps_after frames place parts)
gaps_stand all bytes rest frames place [] far here are = tt
gaps_stand all bytes rest frames place (frame count f ∷ parts) far here are =
    gaps_stand all (drop count bytes) rest (frames + 1) (place + count) parts (omega (arith, are.0, ap length here, length-drop place all))
    (sym (drop-drop count place all) ∙ ap (drop count) here) are.2
gaps_stand all bytes rest frames place (gap count fault ∷ parts) far here are = (
  record {
    within = omega (arith, are.1.none.some, ap length here, length-drop place all);
    breaks = subst (FailsBy fault) (sym here) are.1;
    count_is = are.0 ∙ ap to_next (sym here);
  },
  gaps_stand all (drop count bytes) rest frames (place + count) parts (omega (arith, are.0, to_next-most bytes, ap length here, length-drop place all))
      (sym (drop-drop count place all) ∙ ap (drop count) here) are.2,
)

-- ---- where a frame is shown

pub shown_stands : (bytes rest : List ℕ) (parts before after : List Part) (count : ℕ) (f : Picture) → AreParts bytes parts rest → parts ≡ before ++ frame count f ∷ after
    → (start : List ℕ) × (front : List ℕ) × (end : List ℕ) × (bytes ≡ start ++ (front ++ end)) × (length start ≡ bytes_of before) × (length front ≡ count) × Spells front f
shown_stands bytes rest parts [] after count f are is =
    let all : AreParts bytes (frame count f ∷ after) rest = subst (λ ps. AreParts bytes ps rest) is are in
    ([], take count bytes, drop count bytes, sym (take-append-drop count bytes), refl, length-take-le count bytes all.0, all.1)
shown_stands bytes rest parts (frame size g ∷ before) after count f are is =
    let all : AreParts bytes (frame size g ∷ (before ++ frame count f ∷ after)) rest = subst (λ ps. AreParts bytes ps rest) is are in
    let next = shown_stands (drop size bytes) rest (before ++ frame count f ∷ after) before after count f all.2 refl in (
      take size bytes ++ next.0,
      next.1,
      next.2,
      sym (take-append-drop size bytes) ∙ ap (λ s. take size bytes ++ s) next.3 ∙ sym (append_assoc (take size bytes) next.0 (next.1 ++ next.2)),
      length-append (take size bytes) next.0 ∙ (omega (arith, length-take-le size bytes all.0, next.4)),
      next.5,
      next.6,
    )
shown_stands bytes rest parts (gap size fault ∷ before) after count f are is =
    let all : AreParts bytes (gap size fault ∷ (before ++ frame count f ∷ after)) rest = subst (λ ps. AreParts bytes ps rest) is are in
    let next = shown_stands (drop size bytes) rest (before ++ frame count f ∷ after) before after count f all.2 refl in
    let few : size ≤ length bytes = omega (arith, all.0, to_next-most bytes) in (
      take size bytes ++ next.0,
      next.1,
      next.2,
      sym (take-append-drop size bytes) ∙ ap (λ s. take size bytes ++ s) next.3 ∙ sym (append_assoc (take size bytes) next.0 (next.1 ++ next.2)),
      length-append (take size bytes) next.0 ∙ (omega (arith, length-take-le size bytes few, next.4)),
      next.5,
      next.6,
    )

-- ---- determined by the bytes

no_start : (byte : ℕ) (bytes : List ℕ) → [] ≡ byte ∷ bytes → ⊥
no_start byte bytes is = let clash : ⊥ = cc in absurd clash

-- a codestream isn't empty
pub some_bytes : (bytes : List ℕ) (f : Picture) → Spells bytes f → 0 < length bytes
unfolding codestream_bytes
some_bytes [] f spells = absurd (no_start _ _ spells.spelled)
some_bytes (byte ∷ bytes) f spells = omega arith

bytes_after : (count : ℕ) (bytes : List ℕ) → AreBytes bytes → AreBytes (drop count bytes)
bytes_after zero bytes are = are
bytes_after (suc count) [] are = tt
bytes_after (suc count) (byte ∷ bytes) are = bytes_after count bytes are.1

-- two parts, each with what follows it
same_parts : {A : Type 0} (one other : A) (parts others : List A) → one ≡ other → parts ≡ others → one ∷ parts ≡ other ∷ others
same_parts one other parts others is are = cc

module _ (only : (one other rest : List ℕ) (f g : Picture) → Spells one f → Spells other g → other ≡ one ++ rest → rest ≡ [])
    (same : (bytes : List ℕ) (f g : Picture) → Spells bytes f → Spells bytes g → f ≡ g) where
  -- at most one codestream is at the front of bytes, and it is of one frame
  pub one_front : (front rest other more : List ℕ) (f g : Picture) → front ++ rest ≡ other ++ more → Spells front f → Spells other g → (f ≡ g) × (rest ≡ more)
  one_front front rest other more f g whole one two = elim (two_fronts front rest other more whole) [
    | inl first ↦
        let none : first.0 ≡ [] = only front other first.0 f g one two first.1 in
        let is : other ≡ front = first.1 ∙ ap (λ s. front ++ s) none ∙ append-nil front in
        (same front f g one (rw (sym is) two), first.2 ∙ ap (λ s. s ++ more) none)
    | inr second ↦
        let none : second.0 ≡ [] = only other front second.0 g f two one second.1 in
        let is : front ≡ other = second.1 ∙ ap (λ s. other ++ s) none ∙ append-nil other in
        (same other f g (rw (sym is) one) two, sym (second.2 ∙ ap (λ s. s ++ rest) none))
  ]

  -- at most one frame is at the front of bytes
  two_frames : (bytes : List ℕ) (count size : ℕ) (f g : Picture) → count ≤ length bytes → size ≤ length bytes → Spells (take count bytes) f → Spells (take size bytes) g
      → (f ≡ g) × (count ≡ size)
  two_frames bytes count size f g within within' one two =
      let alike = one_front (take count bytes) (drop count bytes) (take size bytes) (drop size bytes) f g
      (take-append-drop count bytes ∙ sym (take-append-drop size bytes)) one two in
      (alike.0, omega (arith, within, within', length-drop count bytes, length-drop size bytes, ap length alike.1))

  module _ (single : OneFirstFault) where
    pub one_salvage : (bytes : List ℕ) (parts others : List Part) → AreBytes bytes → IsSalvaged bytes parts → IsSalvaged bytes others → parts ≡ others
    one_salvage bytes [] [] are end end' = refl
    one_salvage bytes [] (frame size g ∷ others) are end other =
        absurd (omega (arith, ap length end, other.0, length-take-le size bytes other.0, some_bytes (take size bytes) g other.1))
    one_salvage bytes [] (gap size cause ∷ others) are end other = absurd (omega (arith, ap length end, other.1.none.some))
    one_salvage bytes (frame count f ∷ parts) [] are one end =
        absurd (omega (arith, ap length end, one.0, length-take-le count bytes one.0, some_bytes (take count bytes) f one.1))
    one_salvage bytes (frame count f ∷ parts) (frame size g ∷ others) are one other =
        let alike = two_frames bytes count size f g one.0 other.0 one.1 other.1 in
        let rest : parts ≡ others = one_salvage (drop count bytes) parts others (bytes_after count bytes are) one.2 (rw (alike.1) other.2) in
        same_parts _ _ _ _ (ap (λ h. frame count h) alike.0 ∙ ap (λ n. frame n g) alike.1) rest
    one_salvage bytes (frame count f ∷ parts) (gap size cause ∷ others) are one other =
        absurd (other.1.none.none (take count bytes) (drop count bytes) f (sym (take-append-drop count bytes)) one.1)
    one_salvage bytes (gap count fault ∷ parts) [] are one end = absurd (omega (arith, ap length end, one.1.none.some))
    one_salvage bytes (gap count fault ∷ parts) (frame size g ∷ others) are one other =
        absurd (one.1.none.none (take size bytes) (drop size bytes) g (sym (take-append-drop size bytes)) other.1)
    one_salvage bytes (gap count fault ∷ parts) (gap size cause ∷ others) are one other =
        let far : count ≡ size = one.0 ∙ sym other.0 in
        let why : fault ≡ cause = single bytes fault cause are (one.1.first are) (other.1.first are) in
        let rest : parts ≡ others = one_salvage (drop count bytes) parts others (bytes_after count bytes are) one.2 (rw far other.2) in
        same_parts _ _ _ _ (ap (λ h. gap count h) why ∙ ap (λ n. gap n cause) far) rest

  -- ---- complete codestreams

  -- what later parts show or hold
  shown_later : (part : Part) (parts : List Part) (place count : ℕ) (f : Picture) → IsShownAt parts place count f → IsShownAt (part ∷ parts) (size_of part + place) count f
  shown_later part parts place count f shown =
      (part ∷ shown.0, shown.1, ap (λ s. part ∷ s) shown.2, ap (λ n. size_of part + n) shown.3)

  later : (part : Part) (parts : List Part) (place before count : ℕ) (f : Picture) → before ≡ size_of part + place
      → IsShownAt parts place count f ⊎ IsHeld parts place → IsShownAt (part ∷ parts) before count f ⊎ IsHeld (part ∷ parts) before
  later part parts place before count f there (inl shown) = inl (rw there (shown_later part parts place count f shown))
  later part parts place before count f there (inr held) =
      inr (size_of part + held.0, held.1, held.2, shown_later part parts held.0 held.1 held.2 held.3, omega (arith, held.4, there), omega (arith, held.5, there))

  passed : (count : ℕ) (before bytes : List ℕ) → count ≤ length before → drop count (before ++ bytes) ≡ drop count before ++ bytes
  passed count before bytes few = drop-append-le count before bytes few

  no_bytes : (bytes : List ℕ) → length bytes ≡ 0 → bytes ≡ []
  no_bytes [] none = refl
  no_bytes (byte ∷ bytes) none = absurd (omega arith)

  pub whole_ones : (bytes before front rest : List ℕ) (f : Picture) (parts : List Part) → bytes ≡ before ++ (front ++ rest) → Spells front f → IsSalvaged bytes parts
      → IsShownAt parts (length before) (length front) f ⊎ IsHeld parts (length before)
  whole_ones bytes before front rest f [] whole spells end =
      absurd (omega (arith, ap length end, ap length whole, length-append before (front ++ rest), length-append front rest, some_bytes front f spells))
  whole_ones bytes before front rest f (frame count g ∷ parts) whole spells are = elim (cases_Bool (ltb (length before) count)) [
    | inl less ↦
        let inside : length before < count = ltb-true (length before) count less in
        elim (cases_Bool (ltb 0 (length before))) [
          | inl some ↦ inr (0, count, g, ([], parts, refl, refl), ltb-true 0 (length before) some, omega (arith, inside))
          | inr none ↦
              let start : before ≡ [] = no_bytes before (omega (arith, ltb-false 0 (length before) none)) in
              let here : front ++ rest ≡ take count bytes ++ drop count bytes = sym (take-append-drop count bytes ∙ whole ∙ ap (λ s. s ++ (front ++ rest)) start) in
              let alike = one_front front rest (take count bytes) (drop count bytes) f g here spells are.1 in
              let sizes : length front ≡ count =
              omega (arith, are.0, ap length here, length-append front rest, ap length alike.1, length-append (take count bytes) (drop count bytes), length-take-le count bytes are.0) in
              inl ([], parts, ap (λ h. frame count h ∷ parts) (sym alike.0) ∙ ap (λ n. frame n f ∷ parts) (sym sizes), sym (ap length start))
        ]
    | inr most ↦
        let few : count ≤ length before = ltb-false (length before) count most in
        let split : drop count bytes ≡ drop count before ++ (front ++ rest) = ap (drop count) whole ∙ passed count before (front ++ rest) few in
        later (frame count g) parts (length (drop count before)) (length before) (length front) f (omega (arith, few, length-drop count before))
        (whole_ones (drop count bytes) (drop count before) front rest f parts split spells are.2)
  ]
  whole_ones bytes before front rest f (gap count fault ∷ parts) whole spells are = elim (cases_Bool (ltb 0 (length before))) [
    | inl some ↦
        let within = to_next-within before (front ++ rest) (ltb-true 0 (length before) some) (spelled_start front rest f spells) in
        let few : count ≤ length before = omega (arith, are.0, ap to_next whole, within) in
        let split : drop count bytes ≡ drop count before ++ (front ++ rest) = ap (drop count) whole ∙ passed count before (front ++ rest) few in
        later (gap count fault) parts (length (drop count before)) (length before) (length front) f (omega (arith, few, length-drop count before))
        (whole_ones (drop count bytes) (drop count before) front rest f parts split spells are.2)
    | inr none ↦
        let start : before ≡ [] = no_bytes before (omega (arith, ltb-false 0 (length before) none)) in
        absurd (are.1.none.none front rest f (whole ∙ ap (λ s. s ++ (front ++ rest)) start) spells)
  ]

  -- ---- no damage

  pub undamaged : (bytes : List ℕ) (frames : List Picture) (parts : List Part) (count place : ℕ) → IsFilm Spells bytes frames → IsSalvaged bytes parts
      → (frames_of parts ≡ frames) × (gaps_after count place parts ≡ [])
  undamaged bytes [] [] count place film end = (refl, refl)
  undamaged bytes [] (frame size g ∷ parts) count place film are =
      absurd (omega (arith, ap length film, are.0, length-take-le size bytes are.0, some_bytes (take size bytes) g are.1))
  undamaged bytes [] (gap size fault ∷ parts) count place film are = absurd (omega (arith, ap length film, are.1.none.some))
  undamaged bytes (f ∷ frames) [] count place film end =
      absurd (omega (arith, ap length end, ap length film.2, length-append film.0 film.1, some_bytes film.0 f film.3))
  undamaged bytes (f ∷ frames) (frame size g ∷ parts) count place film are =
      let alike = one_front film.0 film.1 (take size bytes) (drop size bytes) f g (sym film.2 ∙ sym (take-append-drop size bytes)) film.3 are.1 in
      let next = undamaged (drop size bytes) frames parts (count + 1) (place + size) (rw (sym alike.1) film.4) are.2 in
      (same_parts _ _ _ _ (sym alike.0) next.0, next.1)
  undamaged bytes (f ∷ frames) (gap size fault ∷ parts) count place film are = absurd (are.1.none.none film.0 film.1 f film.2 film.3)
