-- Frames that are shown by the lines of an index, one more at a time, and where that stops.
use Rattle.std.proofs.Common.{◌≡◌, ◌≢◌, inl, inr, ℕ, ◌+◌, List, [], ◌∷◌, ◌++◌, length, take, drop, flat_map, Option, None, Some, IfNone, ◌-◌, refl, sym, ap, subst, ◌∙◌, arith, append_assoc, append-nil, length-append, take-append-drop}
use Rattle.std.specs.Io.KnownBytes.{Appends}
use Rattle.std.proofs.KnownBytes.{Appends-nil, Appends-trans}
use Rattle.std.proofs.Math.Seq.{take-append-add}
use Rattle.std.proofs.lemmas.List.{length_push, map_push}
use Rattle.std.proofs.lemmas.List.Concat.{flat_map-append}
use Rattle.ls_frame.specs.Picture.{Picture}
use Rattle.ls_frame.specs.Canonical.{canonical}
use Rattle.ls_frame.specs.View.Known.{Tells, Gave, WasAtEnd, known}
use Rattle.ls_film.specs.View.Sources.{IsShown as IsImageOf}
use Rattle.ls_archive.specs.declared.checking.CheckFault.{CheckFault}
use Rattle.ls_archive.specs.declared.checking.CheckFault.TheVariants as check
use Rattle.ls_archive.specs.View.Checking.{Line as IndexLine, IsLine, AreLines, texts, HasLine}
use Rattle.ls_archive.specs.View.Checks.{GaveAtMost, StopsReading}
use Rattle.ls_archive.proofs.CheckLemmas.{had-line, texts-push, size-push}
use Rattle.ls_film.specs.Showing.{show}
use Rattle.ls_film.proofs.CodestreamLemmas.{show-more}
use Rattle.ls_film.specs.View.Codestreams.{IsUnmade}
use Rattle.ls_stream.specs.Grammar.{Spells}
use Rattle.ls_stream.specs.View.Outlines.{IsFirstFault}
use Rattle.ls_stream.specs.declared.faults.StreamFault.{StreamFault}
use Rattle.ls_stream.specs.declared.faults.StreamFault.TheVariants as stream
use Rattle.ls_archive.specs.declared.listed.ListedFault.{ListedFault}
use Rattle.ls_archive.specs.declared.listed.ListedFault.TheVariants.{Line, IndexIo, Damaged, Io, Output, NoMemory, TooFew}
use Rattle.ls_archive.specs.View.Listed.{Shown, AreShown, texts_of, codestreams_of, frames_of, HasShown, Shows, GivesShown, StopsNext, StopsAfter, StopsImage, Stops, HasPassed, listed_fault}

-- one more at the end
flat-push : {A : Type 0} (f : A → List ℕ) (xs : List A) (x : A) → flat_map f (xs ++ x ∷ []) ≡ flat_map f xs ++ f x
flat-push f xs x = flat_map-append f xs (x ∷ []) ∙ ap (λ s. flat_map f xs ++ s) (append-nil (f x))

show-push : (shown : List Shown) (s : Shown) → show (frames_of (shown ++ s ∷ [])) ≡ show (frames_of shown) ++ canonical s.frame
show-push shown s = ap show (map_push (λ (s : Shown). s.frame) shown s) ∙ show-more (frames_of shown) s.frame

-- what a reader gave, and what it gave then
gave-more : (old mid new : Option (List ℕ)) (bytes more all : List ℕ) → Gave old mid (λ read. read ≡ bytes) → Gave mid new (λ read. read ≡ more) → all ≡ bytes ++ more
    → Gave old new (λ read. read ≡ all)
gave-more old mid new bytes more all before next is = λ told.
    let front = before told in
    let last = next front.0 in (
      last.0,
      front.1 ++ last.1,
      front.2 ∙ ap (λ s. front.1 ++ s) last.2 ∙ sym (append_assoc front.1 last.1 (known new)),
      ap (λ s. s ++ last.1) front.3 ∙ ap (λ s. bytes ++ s) last.3 ∙ sym is,
    )

module _ (first offset : ℕ) where
  -- before the first frame
  pub shown-none : (index recording written : Option (List ℕ)) → HasShown index index recording recording written written first offset 0 offset 0
  shown-none index recording written = record {
    shown = [];
    count = refl;
    more = λ others are. let same : first + 0 ≡ first = omega arith in subst (λ k. AreShown k offset others) same are;
    next_is = omega arith;
    gave_lines = λ told. (told, [], refl, refl);
    gave = λ told. (told, [], refl, refl);
    wrote = Appends-nil written;
    bytes_are = refl;
  }

  -- one more frame
  pub shown-more : (index mid index' recording half recording' written midway out : Option (List ℕ)) (number n next bytes size : ℕ) (image : List ℕ) → number ≡ first + n
      → HasShown index mid recording half written midway first offset n next bytes → GivesShown mid index' half recording' number next size image → Appends midway out image
      → HasShown index index' recording recording' written out first offset (n + 1) (next + size) (bytes + length image)
  shown-more index mid index' recording half recording' written midway out number n next bytes size image number_is run gives wrote =
      let gives : GivesShown mid index' half recording' (first + n) next size image = subst (λ k. GivesShown mid index' half recording' k next size image) number_is gives in
      let s : Shown = gives.shown in
      let grows : show (frames_of (run.shown ++ s ∷ [])) ≡ show (frames_of run.shown) ++ image = show-push run.shown s ∙ ap (λ i. show (frames_of run.shown) ++ i) (sym gives.image_is) in
      let codestreams = flat-push (λ (s : Shown). s.codestream) run.shown s in
      record {
        shown = run.shown ++ s ∷ [];
        count = length_push run.shown s ∙ ap (λ k. k + 1) run.count;
        more = λ others are.
            let number : first + (n + 1) ≡ (first + n) + 1 = omega arith in
            let place : next + size ≡ next + length s.codestream = ap (λ k. next + k) gives.size_is in
            let after : AreShown ((first + n) + 1) (next + length s.codestream) others =
            subst (λ k. AreShown k (next + length s.codestream) others) number (subst (λ o. AreShown (first + (n + 1)) o others) place are) in
            subst (AreShown first offset) (sym (append_assoc run.shown (s ∷ []) others)) (run.more (s ∷ others) (gives.is, after));
        next_is = omega (arith, run.next_is, gives.size_is, ap length codestreams, length-append (codestreams_of run.shown) s.codestream);
        gave_lines = gave-more index mid index' (texts_of run.shown) s.text (texts_of (run.shown ++ s ∷ [])) run.gave_lines gives.gave_line (flat-push (λ (s : Shown). s.text) run.shown s);
        gave = gave-more recording half recording' (codestreams_of run.shown) s.codestream (codestreams_of (run.shown ++ s ∷ [])) run.gave gives.gave codestreams;
        wrote = subst (Appends written out) (sym grows) (Appends-trans written midway out (show (frames_of run.shown)) image run.wrote wrote);
        bytes_are = ap (λ k. k + length image) run.bytes_are ∙ sym (length-append (show (frames_of run.shown)) image) ∙ sym (ap length grows);
      }

  -- all were shown
  pub shown-all : (index index' recording recording' written written' : Option (List ℕ)) (n next bytes : ℕ) → HasShown index index' recording recording' written written' first offset n next bytes
      → Shows index index' recording recording' written written' first offset n
  shown-all index index' recording recording' written written' n next bytes run = record {
    shown = run.shown;
    count = run.count;
    are = subst (AreShown first offset) (append-nil run.shown) (run.more [] tt);
    gave_lines = run.gave_lines;
    gave = run.gave;
    wrote = run.wrote;
  }

  -- the next one can't be shown
  stops_next : (index mid index' recording half recording' written written' : Option (List ℕ)) (n next bytes : ℕ) (fault : ListedFault)
      → HasShown index mid recording half written written' first offset n next bytes → StopsNext mid index' half recording' (first + n) next fault
      → Stops index index' recording recording' written written' first offset fault
  stops_next index mid index' recording half recording' written written' n next bytes (Line m) run why =
      record { mid = mid; half = half; n = n; next = next; shows = shown-all index mid recording half written written' n next bytes run; why = why }
  stops_next index mid index' recording half recording' written written' n next bytes IndexIo run why =
      record { mid = mid; half = half; n = n; next = next; shows = shown-all index mid recording half written written' n next bytes run; why = why }
  stops_next index mid index' recording half recording' written written' n next bytes (Damaged m damage) run why =
      record { mid = mid; half = half; n = n; next = next; shows = shown-all index mid recording half written written' n next bytes run; why = why }
  stops_next index mid index' recording half recording' written written' n next bytes (Io m) run why =
      record { mid = mid; half = half; n = n; next = next; shows = shown-all index mid recording half written written' n next bytes run; why = why }
  stops_next index mid index' recording half recording' written written' n next bytes (Output count) run why = absurd why
  stops_next index mid index' recording half recording' written written' n next bytes NoMemory run why =
      record { mid = mid; half = half; n = n; next = next; shows = shown-all index mid recording half written written' n next bytes run; why = why }
  stops_next index mid index' recording half recording' written written' n next bytes (TooFew m) run why =
      record { mid = mid; half = half; n = n; next = next; shows = shown-all index mid recording half written written' n next bytes run; why = why }

  pub stops-next : (index mid index' recording half recording' written written' : Option (List ℕ)) (number n next bytes : ℕ) (fault : ListedFault) → number ≡ first + n
      → HasShown index mid recording half written written' first offset n next bytes → StopsNext mid index' half recording' number next fault
      → Stops index index' recording recording' written written' first offset fault
  stops-next index mid index' recording half recording' written written' number n next bytes fault is run why =
      stops_next index mid index' recording half recording' written written' n next bytes fault run (subst (λ k. StopsNext mid index' half recording' k next fault) is why)

  -- all lines that there are were shown
  pub shown-fewer : (index index' recording recording' written written' : Option (List ℕ)) (m : ℕ) → StopsAfter index index' recording recording' written written' first offset (TooFew m)
      → Shows index index' recording recording' written written' first offset (m - first) × (Tells index → known index' ≡ [])
  shown-fewer index index' recording recording' written written' m stops =
      let ends : (m ≡ first + stops.n) × WasAtEnd stops.mid index' × (recording' ≡ stops.half) = stops.why in
      let run = stops.shows in
      let n : stops.n ≡ m - first = omega (arith, ends.0) in (
        record {
          shown = run.shown;
          count = run.count ∙ n;
          are = run.are;
          gave_lines = λ told.
              let front = run.gave_lines told in
              let none = ends.1 front.0 in
              (none.0, front.1, front.2 ∙ ap (λ s. front.1 ++ s) (none.1 ∙ sym none.2), front.3);
          gave = subst (λ r. Gave recording r (λ read. read ≡ codestreams_of run.shown)) (sym ends.2) run.gave;
          wrote = run.wrote;
        },
        λ told. (ends.1 (run.gave_lines told).0).2,
      )

  -- a part of its image was written
  pub stops-image : (index mid index' recording half recording' written midway out : Option (List ℕ)) (number n next bytes size : ℕ) (image : List ℕ) (fault : ListedFault) → number ≡ first + n
      → HasShown index mid recording half written midway first offset n next bytes → GivesShown mid index' half recording' number next size image → StopsImage midway out bytes image fault
      → Stops index index' recording recording' written out first offset fault
  stops-image index mid index' recording half recording' written midway out number n next bytes size image (Output count) number_is run gives stop =
      let gives : GivesShown mid index' half recording' (first + n) next size image = subst (λ k. GivesShown mid index' half recording' k next size image) number_is gives in
      let s : Shown = gives.shown in
      let before : List ℕ = show (frames_of run.shown) in
      let grows : show (frames_of (run.shown ++ s ∷ [])) ≡ before ++ image = show-push run.shown s ∙ ap (λ i. before ++ i) (sym gives.image_is) in
      let k : ℕ = stop.0 in
      let part : take count (show (frames_of (run.shown ++ s ∷ []))) ≡ before ++ take k image =
      ap (take count) grows ∙ ap (λ c. take c (before ++ image)) (stop.1 ∙ ap (λ b. b + k) run.bytes_are) ∙ take-append-add before image k in
      record {
        shown = run.shown ++ s ∷ [];
        are = run.more (s ∷ []) (gives.is, tt);
        part = omega (arith, ap length grows, length-append before image, run.bytes_are, stop.1, stop.2);
        wrote = subst (Appends written out) (sym part) (Appends-trans written midway out before (take k image) run.wrote stop.3);
      }
  stops-image index mid index' recording half recording' written midway out number n next bytes size image (Line m) number_is run gives stop = absurd stop
  stops-image index mid index' recording half recording' written midway out number n next bytes size image IndexIo number_is run gives stop = absurd stop
  stops-image index mid index' recording half recording' written midway out number n next bytes size image (Damaged m damage) number_is run gives stop = absurd stop
  stops-image index mid index' recording half recording' written midway out number n next bytes size image (Io m) number_is run gives stop = absurd stop
  stops-image index mid index' recording half recording' written midway out number n next bytes size image NoMemory number_is run gives stop = absurd stop
  stops-image index mid index' recording half recording' written midway out number n next bytes size image (TooFew m) number_is run gives stop = absurd stop

-- ---- what couldn't be made of a codestream

pub unmade_whole : (bytes same : List ℕ) (fault : StreamFault) (f : Picture) → bytes ≡ same → IsUnmade bytes fault → fault ≢ stream.NoMemory → Spells same f → ⊥
unmade_whole bytes same fault f is (inl memory) other spells = other memory
unmade_whole bytes same fault f is (inr none) other spells = none.0 same [] f (is ∙ sym (append-nil same)) spells

pub unmade_first : (bytes : List ℕ) (fault : StreamFault) → IsUnmade bytes fault → fault ≢ stream.NoMemory → IsFirstFault bytes fault
unmade_first bytes fault (inl memory) other = absurd (other memory)
unmade_first bytes fault (inr none) other = none.1

-- ---- one line and its codestream

module _ (index index' recording recording' : Option (List ℕ)) (n offset : ℕ) (l : IndexLine) (is : IsLine n offset l) (gave : Gave index index' (λ read. l.text ≡ read)) where
  -- the line's bytes couldn't be read
  pub stops-reading : (fault : CheckFault) → StopsReading recording recording' l.size fault → StopsNext index index' recording recording' n offset (listed_fault n fault)
  stops-reading (check.Line m) stops = absurd stops
  stops-reading check.IndexIo stops = absurd stops
  stops-reading check.Io stops = (refl, (l.size, stops))
  stops-reading check.NoMemory stops = had-line index index' n offset l is gave
  stops-reading check.TooMany stops = absurd stops

  -- its codestream was read, and is one of a frame with this image
  pub gives-shown : (bytes image : List ℕ) (size : ℕ) → GaveAtMost recording recording' l.size bytes → HasLine n offset l.text bytes → (f : Picture) → Spells bytes f → IsImageOf f image
      → size ≡ length bytes → GivesShown index index' recording recording' n offset size image
  gives-shown bytes image size taken has f spells made sized = record {
    shown = record { text = l.text; codestream = bytes; frame = f };
    is = record { has = has; spells = spells };
    size_is = sized;
    gave_line = λ told. let read = gave told in (read.0, read.1, read.2, sym read.3);
    gave = λ told. (
      taken.tells told,
      bytes,
      sym (take-append-drop l.size (known recording)) ∙ ap (λ s. s ++ drop l.size (known recording)) (sym (taken.taken told)) ∙ ap (λ s. bytes ++ s) (sym (taken.left told)),
      refl,
    );
    image_is = made;
  }

-- ---- lines that are passed over

pub passed-none : (index : Option (List ℕ)) → HasPassed index index 0 0
passed-none index = record { lines = []; are_lines = λ more are. are; count_is = refl; size = refl; gave = λ told. (told, [], refl, refl) }

pub passed-more : (index mid index' : Option (List ℕ)) (n offset : ℕ) (l : IndexLine) → HasPassed index mid n offset → IsLine n offset l → Gave mid index' (λ read. l.text ≡ read)
    → HasPassed index index' (n + 1) (offset + l.size)
passed-more index mid index' n offset l run is gave =
    let lines : List IndexLine = run.lines in
    record {
      lines = lines ++ l ∷ [];
      are_lines = λ more are. subst (AreLines 0 0) (sym (append_assoc lines (l ∷ []) more)) (run.are_lines (l ∷ more) (is, are));
      count_is = length_push lines l ∙ ap (λ k. k + 1) run.count_is;
      size = size-push lines l ∙ ap (λ k. k + l.size) run.size;
      gave = λ told.
          let front = run.gave told in
          let one = gave front.0 in (
            one.0,
            front.1 ++ one.1,
            front.2 ∙ ap (λ s. front.1 ++ s) one.2 ∙ sym (append_assoc front.1 one.1 (known index')),
            ap (λ s. s ++ one.1) front.3 ∙ ap (λ s. texts lines ++ s) (sym one.3) ∙ sym (texts-push lines l),
          );
    }

pub if-none : (part : Option ℕ) (P : Type 0) → P → IfNone part P
if-none None P p = p
if-none (Some last) P p = tt
