-- A recording that is followed, seen as one that is read.
use Rattle.std.proofs.Common.{◌≡◌, ◌+◌, ◌<◌, ℕ, true, List, [], ◌∷◌, ◌++◌, length, replicate, Option, None, Some, refl, sym, ap, subst, ◌∙◌, arith, append_assoc, append-nil, length-append}
use Rattle.std.specs.Prelude.{IfSome}
use Rattle.std.specs.Io.KnownBytes.{Appends, Keeps}
use Rattle.std.proofs.KnownBytes.{Appends-trans, Appends-kept}
use Rattle.ls_frame.specs.Picture.{Picture}
use Rattle.ls_stream.specs.declared.marker.Marker.TheVariants.{StartOfImage, EndOfImage, StartOfFrame}
use Rattle.ls_stream.specs.Markers.{marker}
use Rattle.ls_stream.specs.Segments.{segment, header_contents}
use Rattle.ls_stream.specs.Grammar.{miscellaneous_bytes, filled, scans_bytes, codestream_bytes, Spells}
use Rattle.ls_film.specs.Film.{most_frames}
use Rattle.ls_archive.specs.declared.faults.IndexFault.{IndexFault}
use Rattle.ls_archive.specs.declared.faults.IndexFault.TheVariants.{NoMemory, TooMany}
use Rattle.ls_archive.specs.Index.{Entry, line}
use Rattle.ls_archive.specs.View.Entries.{IsEntry, AreEntriesOf, GaveEntry}
use Rattle.ls_archive.specs.declared.following.Follower.{Follower}
use Rattle.ls_archive.specs.declared.following.Indexing.{Indexing}
use Rattle.ls_archive.specs.View.Following.{index_of, followed, recording_of, following, broken, HasFollowed, SpellNoFrame, IsTold, IsUntold, HasIndexed, HasRecorded, IsComplete}
use Rattle.ls_archive.specs.View.Indexing.{HasRun, Stops, StopsLine}
use Rattle.ls_archive.proofs.EntryLemmas.{some_outlined}
use Rattle.ls_archive.proofs.IndexLemmas.{HasRun-more, HasRun-most, stops-next, stops-memory, stops-line}

-- more bytes, at whose end no codestream ends
pub held_back : (before pending bytes : List ℕ) (index index' : Option (List ℕ)) (n offset written : ℕ)
    → HasRun true (Some before) (Some pending) index index' n offset written
    → HasRun true (Some (before ++ bytes)) (Some (pending ++ bytes)) index index' n offset written
held_back before pending bytes index index' n offset written run = record {
  entries = run.entries;
  count = run.count;
  few = run.few;
  gave = λ told.
      let front = run.gave refl in
      (refl, front.1, ap (λ s. s ++ bytes) front.2 ∙ append_assoc front.1 pending bytes, front.3);
  wrote = run.wrote;
  offset_is = run.offset_is;
  bytes_are = run.bytes_are;
}

-- bytes at whose end a codestream ends, and its line was written
pub ended : (before pending bytes : List ℕ) (index between new : Option (List ℕ)) (n offset written size : ℕ) (entry : Entry) (text : List ℕ)
    → HasRun true (Some before) (Some pending) index between n offset written → n < most_frames → IsEntry entry → entry.bytes ≡ pending ++ bytes
    → text ≡ line true n offset entry → Appends between new text → size ≡ length entry.bytes
    → HasRun true (Some (before ++ bytes)) (Some []) index new (n + 1) (offset + size) (written + length text)
ended before pending bytes index between new n offset written size entry text run room is whole text_is wrote sized =
    HasRun-more true (Some (before ++ bytes)) (Some (pending ++ bytes)) (Some []) index between new n offset written size entry text
    (held_back before pending bytes index between n offset written run) room
    (λ told. (refl, pending ++ bytes, sym (append-nil (pending ++ bytes)), (sym whole, is)))
    text_is wrote sized

-- ---- where a codestream ends

abbrev EndsWithEoi : List ℕ → Type 0
EndsWithEoi bytes = (front : List ℕ) × (bytes ≡ front ++ (255 ∷ 217 ∷ []))

after : (front bytes : List ℕ) → EndsWithEoi bytes → EndsWithEoi (front ++ bytes)
after front bytes ends = (front ++ ends.0, ap (λ s. front ++ s) ends.1 ∙ sym (append_assoc front ends.0 (255 ∷ 217 ∷ [])))

pub ends_with_eoi : (bytes : List ℕ) (f : Picture) → Spells bytes f → EndsWithEoi bytes
unfolding codestream_bytes
ends_with_eoi bytes f spells =
    let c = spells.codestream in
    let last : EndsWithEoi (filled c.last_fill (marker EndOfImage)) = (replicate c.last_fill 255, refl) in
    let all = after (marker StartOfImage ++ miscellaneous_bytes c.before ++ filled c.fill (segment StartOfFrame (header_contents c.header))
    ++ miscellaneous_bytes c.between ++ scans_bytes c.header.components c.scans) (filled c.last_fill (marker EndOfImage)) last in
    subst EndsWithEoi (sym spells.spelled) all

pub none_spells : SpellNoFrame []
none_spells f spells =
    let ends = ends_with_eoi [] f spells in
    absurd (omega (arith, ap length ends.1, length-append ends.0 (255 ∷ 217 ∷ [])))

-- ---- where an index stops

-- an allocation failed for the bytes
pub unheld : (before pending bytes : List ℕ) (index index' : Option (List ℕ)) (n offset written : ℕ) → 0 < length bytes
    → HasRun true (Some before) (Some pending) index index' n offset written → Stops true (Some (before ++ bytes)) (Some []) index index' NoMemory
unheld before pending bytes index index' n offset written some run =
    stops-next true (Some (before ++ bytes)) (Some (pending ++ bytes)) (Some []) index index' n offset written NoMemory
    (held_back before pending bytes index index' n offset written run) (λ told. omega (arith, some, length-append pending bytes))

-- the codestream that ends with the bytes, seen as one read after those before
next_given : (before pending bytes : List ℕ) (entry : Entry) → IsEntry entry → entry.bytes ≡ pending ++ bytes → GaveEntry (Some (pending ++ bytes)) (Some []) entry
next_given before pending bytes entry is all = λ told. (refl, pending ++ bytes, sym (append-nil (pending ++ bytes)), (sym all, is))

-- one codestream more than an index may have
pub one_more_than_most : (before pending bytes : List ℕ) (index index' : Option (List ℕ)) (n offset written : ℕ) (entry : Entry)
    → HasRun true (Some before) (Some pending) index index' n offset written → n ≡ most_frames → IsEntry entry → entry.bytes ≡ pending ++ bytes
    → Stops true (Some (before ++ bytes)) (Some []) index index' TooMany
one_more_than_most before pending bytes index index' n offset written entry run most is all =
    HasRun-most true (Some (before ++ bytes)) (Some (pending ++ bytes)) (Some []) index index' offset written entry
    (subst (λ k. HasRun true (Some (before ++ bytes)) (Some (pending ++ bytes)) index index' k offset written) most
    (held_back before pending bytes index index' n offset written run))
    (next_given before pending bytes entry is all)

-- an allocation failed for a line
pub no_line : (before pending bytes : List ℕ) (index index' : Option (List ℕ)) (n offset written : ℕ) (entry : Entry)
    → HasRun true (Some before) (Some pending) index index' n offset written → IsEntry entry → entry.bytes ≡ pending ++ bytes
    → Stops true (Some (before ++ bytes)) (Some []) index index' NoMemory
no_line before pending bytes index index' n offset written entry run is all =
    stops-memory true (Some (before ++ bytes)) (Some (pending ++ bytes)) (Some []) index index' n offset written entry
    (held_back before pending bytes index index' n offset written run) (next_given before pending bytes entry is all)
    (λ is. some_outlined entry.bytes is.outline is.complete)

-- a part of a line was written
pub line_cut : (before pending bytes : List ℕ) (index between new : Option (List ℕ)) (n offset written : ℕ) (entry : Entry) (text : List ℕ) (fault : IndexFault)
    → HasRun true (Some before) (Some pending) index between n offset written → n < most_frames → IsEntry entry → entry.bytes ≡ pending ++ bytes
    → text ≡ line true n offset entry → StopsLine between new written text fault → Stops true (Some (before ++ bytes)) (Some []) index new fault
line_cut before pending bytes index between new n offset written entry text fault run room is all text_is stops =
    stops-line true (Some (before ++ bytes)) (Some (pending ++ bytes)) (Some []) index between new n offset written entry text fault
    (held_back before pending bytes index between n offset written run) room (next_given before pending bytes entry is all) text_is stops

-- ---- over all calls

nothing-left : (front rest : List ℕ) → [] ≡ front ++ rest → rest ≡ []
nothing-left [] rest is = sym is
nothing-left (byte ∷ front) rest is = absurd (omega (arith, ap length is))

module _ {I : Type 0} (contents : I → Option (List ℕ)) (begun : Option (List ℕ)) where
  -- before the first byte
  pub indexed-none : (index : Option (Follower I)) → IfSome index (λ f. HasFollowed [] begun (contents (index_of f)) (followed f)) → HasIndexed contents begun [] index None
  indexed-none None begins = tt
  indexed-none (Some f) begins =
      let front = begins.gave refl in
      let none : (followed f).pending ≡ [] = nothing-left front.1 (followed f).pending front.2 in
      (begins, subst SpellNoFrame (sym none) none_spells)

  -- more bytes were written
  pub indexed-more : (bytes more : List ℕ) (old : Option (Follower I)) (why : Option IndexFault) (new : Option (Follower I)) (why' : Option IndexFault) → HasIndexed contents begun bytes old why
      → IsTold contents more old why new why' → HasIndexed contents begun (bytes ++ more) new why'
  indexed-more bytes more None None new why' is told = rw (told.0, told.1) tt
  indexed-more bytes more None (Some fault) new why' is told = absurd is
  indexed-more bytes more (Some f) (Some fault) new why' is told =
      rw (told.0, told.1) (is.0, is.1 ++ more, ap (λ s. s ++ more) is.2 ∙ append_assoc is.0 is.1 more, is.3, is.4)
  indexed-more bytes more (Some f) None None why' is told = absurd told
  indexed-more bytes more (Some f) None (Some g) None is told = (told.0 bytes begun is.0, told.1)
  indexed-more bytes more (Some f) None (Some g) (Some fault) is told =
      (bytes ++ more, [], sym (append-nil (bytes ++ more)), told.0 bytes begun is.0, told.1)

  -- without bytes that are held back it is complete
  pub indexed-complete : (bytes : List ℕ) (index : Option (Follower I)) (why : Option IndexFault) → HasIndexed contents begun bytes index why → IsComplete contents begun bytes index why
  indexed-complete bytes None why is = tt
  indexed-complete bytes (Some f) None is = λ none.
      let run = is.0 in
      record {
        entries = run.entries;
        count = run.count;
        few = run.few;
        gave = λ told.
            let front = run.gave refl in
            let whole : bytes ≡ front.1 = front.2 ∙ ap (λ s. front.1 ++ s) none ∙ append-nil front.1 in
            (refl, refl, subst (λ bs. AreEntriesOf bs run.entries) (sym whole) front.3);
        wrote = run.wrote;
      }
  indexed-complete bytes (Some f) (Some fault) is = tt

module _ {W I : Type 0} (recorded : W → Option (List ℕ)) (indexed : I → Option (List ℕ)) (start begun : Option (List ℕ)) (bytes : List ℕ) (old new : Indexing W I)
    (is : HasRecorded recorded indexed start begun bytes old) where
  -- bytes were written, and the index was told those that were taken
  pub recorded-more : (more : List ℕ) → Appends (recorded (recording_of old)) (recorded (recording_of new)) more
      → IsTold indexed more (following old) (broken old) (following new) (broken new) → HasRecorded recorded indexed start begun (bytes ++ more) new
  recorded-more more wrote told = record {
    recording = Appends-trans start (recorded (recording_of old)) (recorded (recording_of new)) bytes more is.recording wrote;
    index = indexed-more indexed begun bytes more (following old) (broken old) (following new) (broken new) is.index told;
  }

  -- nothing was written, and the index wasn't told anything
  pub recorded-kept : Keeps (recorded (recording_of old)) (recorded (recording_of new)) → IsUntold old new → HasRecorded recorded indexed start begun bytes new
  recorded-kept kept told = record {
    recording = Appends-kept start (recorded (recording_of old)) (recorded (recording_of new)) bytes is.recording kept;
    index = rw (told.0, told.1) is.index;
  }
