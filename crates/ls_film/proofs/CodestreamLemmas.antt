-- The next codestream of a recording: what is made of it, or its fault, says the same of what the reader had left.
use Rattle.std.specs.Prelude.{Ok, Err}
use Rattle.std.proofs.Common.{◌≡◌, ◌⊎◌, ℕ, inl, inr, List, [], ◌∷◌, ◌++◌, take, drop, length, Option, refl, sym, ap, ◌∙◌, arith, append-nil}
use Rattle.std.proofs.lemmas.List.{take-append-drop}
use Rattle.std.proofs.lemmas.List.Concat.{flat_map-append}
use Rattle.ls_frame.specs.Canonical.{canonical}
use Rattle.ls_frame.specs.Picture.{Picture, IsFrame}
use Rattle.ls_frame.specs.View.Known.{Tells, Gave, HadBytes, known}
use Rattle.ls_stream.specs.declared.faults.StreamFault.{StreamFault}
use Rattle.ls_stream.specs.declared.faults.StreamFault.TheVariants as stream
use Rattle.ls_stream.specs.declared.next.NextFault.{NextFault}
use Rattle.ls_stream.specs.declared.next.NextFault.TheVariants as next
use Rattle.ls_stream.specs.Grammar.{Spells, most_bytes}
use Rattle.ls_stream.specs.View.Extents.{IsNext, BeginsEndless}
use Rattle.ls_stream.specs.View.Outlines.{outline_of, IsFirstFault, SpellingsHaveBoundedOutlines}
use Rattle.ls_film.specs.Showing.{show}
use Rattle.ls_film.specs.View.Codestreams.{BeginsWithNone, IsTaken, IsUnmade, IsUnread, IsUntaken, FailsReading, unread_of}
use Rattle.ls_film.specs.declared.codestreams.Unread.{Unread}
use Rattle.ls_film.specs.declared.codestreams.Unread.TheVariants.{Stream, Io}
use Rattle.ls_film.proofs.NextLemmas.{gave_codestream, gave_some, too_large, breaks_by}

-- bytes that are too large for a codestream begin with none of a frame
too-large : (read read' : Option (List ℕ)) → Gave read read' (λ bytes. length bytes ≡ most_bytes)
    → (Tells read → (front rest : List ℕ) (f : Picture) → known read ≡ front ++ rest → Spells front f → (next.TooLarge ≡ next.Io) ⊎ (next.TooLarge ≡ next.NoMemory))
    → (Tells read → BeginsEndless (known read)) → Tells read → BeginsWithNone (known read) × BeginsEndless (known read)
too-large read read' large complete endless told = (
  record {
    some = gave_some read read' _ large (λ bytes all. omega (arith, all)) told;
    none = λ front rest f split spells. too_large (complete told front rest f split spells);
  },
  endless told,
)

-- why the next can't be taken
pub untaken : (read read' : Option (List ℕ)) (fault : NextFault) → (fault ≡ next.TooLarge → Gave read read' (λ bytes. length bytes ≡ most_bytes))
    → (Tells read → (front rest : List ℕ) (f : Picture) → known read ≡ front ++ rest → Spells front f → (fault ≡ next.Io) ⊎ (fault ≡ next.NoMemory))
    → (fault ≡ next.TooLarge → Tells read → BeginsEndless (known read)) → (fault ≡ next.Io → FailsReading read read') → (fault ≡ next.NoMemory → HadBytes read)
    → IsUntaken (unread_of fault) read read'
untaken read read' next.TooLarge large complete endless io memory = inr (refl, too-large read read' (large refl) complete (endless refl))
untaken read read' next.Io large complete endless io memory = io refl
untaken read read' next.NoMemory large complete endless io memory = inl (refl, memory refl)

pub unread : (fault : Unread) (read read' : Option (List ℕ)) → IsUntaken fault read read' → IsUnread fault read read'
unread (Stream fault) read read' (inl memory) = inl memory
unread (Stream fault) read read' (inr large) = inr (λ told. let is = large.1 told in (is.0, inr (large.0, is.1)))
unread Io read read' is = is

module _ (read read' : Option (List ℕ)) (bytes : List ℕ) (taken : IsTaken read read' bytes) where
  -- what was taken had bytes
  pub had-bytes : HadBytes read
  had-bytes = gave_some read read' (λ front. (bytes ≡ front) × IsNext front (known read')) taken.gave (λ front next. next.1.some)

  -- a codestream at the front of what was taken is all that the reader gave
  pub taken_frame : (used : ℕ) (f : Picture) → Spells (take used bytes) f → IsFrame f × Gave read read' (λ image. Spells image f)
  taken_frame used f spells = (spells.frame, gave_codestream read read' bytes used f (λ front. IsNext front (known read')) taken.gave taken.complete spells)

  -- a fault of what was taken is one of all that the reader had
  pub taken_fault : (fault : StreamFault) (left : Option (List ℕ)) → IsUnmade bytes fault → IsUnread (Stream fault) read left
  taken_fault fault left (inl memory) = inl (memory, had-bytes)
  taken_fault fault left (inr why) =
      breaks_by (Tells read) ((fault ≡ stream.NoMemory) × HadBytes read) (known read) bytes fault had-bytes
      taken.complete taken.fault (inr why.0) (inr why.1)

-- what decoding says of its fault
pub fault-is : (bytes : List ℕ) (fault : StreamFault) → (fault ≡ stream.NoMemory) ⊎ ((front rest : List ℕ) (f : Picture) → bytes ≡ front ++ rest → Spells front f → ⊥)
    → (fault ≡ stream.NoMemory) ⊎ IsFirstFault bytes fault → IsUnmade bytes fault
fault-is bytes fault (inl memory) first = inl memory
fault-is bytes fault (inr none) (inl memory) = inl memory
fault-is bytes fault (inr none) (inr first) = inr (none, first)

-- bytes that have a fault in their markers or headers begin with no codestream of a frame
outlined_none : (bytes : List ℕ) (found : StreamFault) → SpellingsHaveBoundedOutlines → outline_of bytes ≡ Err found
    → (front rest : List ℕ) (f : Picture) → bytes ≡ front ++ rest → Spells front f → ⊥
outlined_none bytes found read is front rest f split spells =
    let has = read front rest f spells in
    let both : Err found ≡ Ok (has.0, rest) = sym is ∙ ap outline_of split ∙ has.1 in
    let clash : ⊥ = cc in
    clash

-- so they can't be decoded
pub outlined-decoded : (bytes : List ℕ) (found : StreamFault) → SpellingsHaveBoundedOutlines → outline_of bytes ≡ Err found → (used : ℕ) (f : Picture) → Spells (take used bytes) f
    → IsUnmade bytes found
outlined-decoded bytes found read is used f spells = absurd (outlined_none bytes found read is (take used bytes) (drop used bytes) f (sym (take-append-drop used bytes)) spells)

-- what is shown grows by the image of a frame
pub show-more : (frames : List Picture) (f : Picture) → show (frames ++ f ∷ []) ≡ show frames ++ canonical f
show-more frames f = flat_map-append canonical frames (f ∷ []) ∙ ap (λ s. show frames ++ s) (append-nil (canonical f))
