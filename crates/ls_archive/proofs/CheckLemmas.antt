-- What is read from an index and from a recording, and which codestreams are good.
use Rattle.std.proofs.Common.{◌≡◌, ◌⊎◌, ◌<◌, ◌≤◌, ◌+◌, ℕ, Bool, true, false, inl, inr, List, [], ◌∷◌, ◌++◌, length, take, drop, Option, None, Some, Ok, Err, codes, refl, sym, ap, subst, ◌∙◌, arith, append_assoc, append-nil, length-append}
use Rattle.std.proofs.lemmas.List.{take_at, take_all, drop_at, drop_all, drop-drop, length_push, length-drop}
use Rattle.std.specs.Prelude.{◌↔◌, IsTrue}
use Rattle.ls_film.specs.Film.{most_frames}
use Rattle.ls_frame.specs.declared.frame.Kind.{Kind}
use Rattle.ls_frame.specs.Picture.{Picture}
use Rattle.ls_frame.specs.Parameters.{Parameters}
use Rattle.ls_frame.specs.View.Known.{Tells, Gave, HadBytes, WasAtEnd, known}
use Rattle.ls_stream.specs.declared.faults.StreamFault.{StreamFault}
use Rattle.ls_stream.specs.Grammar.{Spells}
use Rattle.ls_stream.specs.View.Reading.{Take}
use Rattle.ls_stream.specs.View.Outlines.{Outline, outline_of, SpellingsHaveBoundedOutlines}
use Rattle.ls_stream.proofs.StepLemmas.{same_ok}
use Rattle.ls_archive.specs.Index.{Entry, line}
use Rattle.ls_archive.specs.declared.checking.Finding.{Finding}
use Rattle.ls_archive.specs.View.Checking.{Line, beginning, IsLine, AreLines, texts, HasLine, IsGood, IsOf, AreFound, size_of}
use Rattle.ls_archive.specs.declared.checking.CheckFault.{CheckFault}
use Rattle.ls_archive.specs.declared.checking.CheckFault.TheVariants as fault
use Rattle.ls_archive.specs.View.Checks.{FindsMore, GaveAtMost, HasLooked, HasChecked, IsChecked, StopsAfter, BeginsOtherwise, BeginsWithLine, Anything, GoesOn, Stops, FailsInLine, FailsWithin, FailsInBytes, Fails, IsUntorn, StopsNextLine, StopsReading}
use Rattle.ls_archive.specs.View.CheckedLines.{IsMore, IsNoLine, FailsInCodestream, StopsLines, FailsLines}
use Rattle.ls_archive.specs.View.Entries.{IsEntry}

-- ---- reading

-- at most this many bytes were given: all that were asked for, or all that were left
pub gave_at_most : (old new : Option (List ℕ)) (most : ℕ) (bytes : List ℕ) → (Tells old → Tells new × (known old ≡ bytes ++ known new)) → length bytes ≤ most
    → (length bytes ≡ most) ⊎ (Tells old → known new ≡ []) → GaveAtMost old new most bytes
gave_at_most old new most bytes gave few (inl all) = record {
  tells = λ told. (gave told).0;
  taken = λ told. sym (ap (take most) (gave told).1 ∙ take_at bytes (known new) most all);
  left = λ told. sym (ap (drop most) (gave told).1 ∙ drop_at bytes (known new) most all);
}
gave_at_most old new most bytes gave few (inr end) = record {
  tells = λ told. (gave told).0;
  taken = λ told.
      let whole = (gave told).1 ∙ ap (λ s. bytes ++ s) (end told) ∙ append-nil bytes in
      sym (ap (take most) whole ∙ take_all most bytes few);
  left = λ told.
      let whole = (gave told).1 ∙ ap (λ s. bytes ++ s) (end told) ∙ append-nil bytes in
      end told ∙ sym (ap (drop most) whole ∙ drop_all most bytes few);
}

-- ---- codestreams

same_read : (a b : Outline) (rest more : List ℕ) → ◌≡◌ {A = Take Outline} (Ok (a, rest)) (Ok (b, more)) → (a ≡ b) × (rest ≡ more)
same_read a b rest more e =
    let same = same_ok {A = Outline × List ℕ} _ _ e in
    (ap (λ (p : Outline × List ℕ). p.0) same, ap (λ (p : Outline × List ℕ). p.1) same)

-- after a codestream of a frame nothing is left
pub spelled_whole : SpellingsHaveBoundedOutlines → (bytes left : List ℕ) (o : Outline) (f : Picture) → outline_of bytes ≡ Ok (o, left) → Spells bytes f → left ≡ []
spelled_whole law bytes left o f read spells =
    let found = law bytes [] f spells in
    (same_read o found.0 left [] (sym read ∙ ap outline_of (sym (append-nil bytes)) ∙ found.1)).1

-- nor after one that has an entry
pub entry_whole : (bytes left : List ℕ) (o : Outline) (entry : Entry) → outline_of bytes ≡ Ok (o, left) → IsEntry entry → entry.bytes ≡ bytes → left ≡ []
entry_whole bytes left o entry read is same = (same_read o is.outline left [] (sym read ∙ ap outline_of (sym same) ∙ is.complete)).1

read_or_not : (r : Take Outline) (o : Outline) (left : List ℕ) (fault : StreamFault) → r ≡ Ok (o, left) → r ≡ Err fault → ⊥
read_or_not r o left fault ok err = let clash : ⊥ = cc in absurd clash

-- if the outline has a fault, there is no entry
pub entry_read : (bytes : List ℕ) (fault : StreamFault) (entry : Entry) → outline_of bytes ≡ Err fault → IsEntry entry → entry.bytes ≡ bytes → ⊥
entry_read bytes fault entry breaks is same = read_or_not (outline_of bytes) is.outline [] fault (ap outline_of (sym same) ∙ is.complete) breaks

-- a codestream of a frame at the front is all of it
pub spelled_front : SpellingsHaveBoundedOutlines → (bytes front rest : List ℕ) (o : Outline) (f : Picture) → outline_of bytes ≡ Ok (o, []) → bytes ≡ front ++ rest → Spells front f
    → Spells bytes f
spelled_front law bytes front rest o f read whole spells =
    let found = law front rest f spells in
    let none : rest ≡ [] = sym (same_read o found.0 [] rest (sym read ∙ ap outline_of whole ∙ found.1)).1 in
    subst (λ bs. Spells bs f) (sym (whole ∙ ap (λ s. front ++ s) none ∙ append-nil front)) spells

-- bytes have at most one entry
abbrev made : List ℕ → Kind → ℕ → ℕ → ℕ → Parameters → Entry
made bytes kind width height precision parameters = record { bytes = bytes; kind = kind; width = width; height = height; precision = precision; parameters = parameters }

same_entry : (a b : Entry) → a.bytes ≡ b.bytes → a.kind ≡ b.kind → a.width ≡ b.width → a.height ≡ b.height → a.precision ≡ b.precision → a.parameters ≡ b.parameters → a ≡ b
same_entry a b bytes kind width height precision parameters =
    ap (λ (x : List ℕ). made x a.kind a.width a.height a.precision a.parameters) bytes
    ∙ ap (λ (x : Kind). made b.bytes x a.width a.height a.precision a.parameters) kind
    ∙ ap (λ (x : ℕ). made b.bytes b.kind x a.height a.precision a.parameters) width
    ∙ ap (λ (x : ℕ). made b.bytes b.kind b.width x a.precision a.parameters) height
    ∙ ap (λ (x : ℕ). made b.bytes b.kind b.width b.height x a.parameters) precision
    ∙ ap (λ (x : Parameters). made b.bytes b.kind b.width b.height b.precision x) parameters

pub has_line : (n offset : ℕ) (e : Entry) (text bytes : List ℕ) → IsEntry e → e.bytes ≡ bytes → (text ≡ line true n offset e) ⊎ (text ≡ line false n offset e)
    → HasLine n offset text bytes
has_line n offset e text bytes is bytes_are (inl with) = record { entry = e; is_entry = is; bytes_are = bytes_are; sums = true; text_is = with }
has_line n offset e text bytes is bytes_are (inr without) = record { entry = e; is_entry = is; bytes_are = bytes_are; sums = false; text_is = without }

-- ---- a check, line by line

finds-none : (found : Option (List Finding)) → FindsMore found found []
finds-none None = refl
finds-none (Some told) = ap (λ s. Some s) (sym (append-nil told))

finds-more : (found mid new : Option (List Finding)) (one more : List Finding) → FindsMore found mid one → FindsMore mid new more → FindsMore found new (one ++ more)
finds-more None mid new one more first second = subst (λ m. FindsMore m new more) first second
finds-more (Some told) mid new one more first second =
    let after : new ≡ Some ((told ++ one) ++ more) = subst (λ m. FindsMore m new more) first second in
    after ∙ ap (λ s. Some s) (append_assoc told one more)

-- before the first line
pub checked-none : (first start : ℕ) (index recording : Option (List ℕ)) (found : Option (List Finding)) → first ≤ most_frames
    → HasChecked first start index index recording recording found found first start 0
checked-none first start index recording found low = record {
  lines = [];
  count = omega arith;
  few = omega (arith, low);
  size = omega arith;
  more_lines = λ more are. are;
  gave = λ told. (told, [], refl, refl);
  findings = [];
  damaged_are = refl;
  told = finds-none found;
  tells = λ told. told;
  more_found = λ told more besides are. are;
  left = λ told. refl;
}

pub texts-push : (lines : List Line) (l : Line) → texts (lines ++ l ∷ []) ≡ texts lines ++ l.text
texts-push [] l = append-nil l.text
texts-push (first ∷ lines) l = ap (λ s. first.text ++ s) (texts-push lines l) ∙ sym (append_assoc first.text (texts lines) l.text)

pub size-push : (lines : List Line) (l : Line) → size_of (lines ++ l ∷ []) ≡ size_of lines + l.size
size-push [] l = omega arith
size-push (first ∷ lines) l = omega (arith, size-push lines l)

-- what is found for a line, and for those after it
found_by : (n offset : ℕ) (l : Line) (all bytes : List ℕ) (found found' : Option (List Finding)) (d : ℕ) → bytes ≡ take l.size all → (looked : HasLooked n offset l bytes found found' d)
    (more : List Line) (besides : List Finding) → AreFound (n + 1) (offset + l.size) more (drop l.size all) besides → AreFound n offset (l ∷ more) all (looked.findings ++ besides)
found_by n offset l all bytes found found' d same looked more besides are = elim looked.are [
  | inl good ↦
      inl (subst (IsGood n offset l.text) same good.0, subst (AreFound (n + 1) (offset + l.size) more (drop l.size all)) (ap (λ s. s ++ besides) (sym good.1)) are)
  | inr bad ↦
      inr (bad.1.0, besides, ap (λ s. s ++ besides) bad.1.1, subst (λ bs. IsOf n offset l bs bad.1.0) same bad.1.2, (λ good. bad.0 (subst (IsGood n offset l.text) (sym same) good)), are)
]

-- one more line
pub checked-more : (first start : ℕ) (index mid index' recording half recording' : Option (List ℕ)) (found some found' : Option (List Finding)) (n offset damaged d : ℕ) (l : Line) (bytes : List ℕ)
    → HasChecked first start index mid recording half found some n offset damaged → n < most_frames → IsLine n offset l
    → Gave mid index' (λ read. l.text ≡ read) → GaveAtMost half recording' l.size bytes → HasLooked n offset l bytes some found' d
    → HasChecked first start index index' recording recording' found found' (n + 1) (offset + l.size) (damaged + d)
checked-more first start index mid index' recording half recording' found some found' n offset damaged d l bytes run room begins line taken looked =
    let lines : List Line = run.lines in
    record {
      lines = lines ++ l ∷ [];
      count = omega (arith, length_push lines l, run.count);
      few = omega (arith, length_push lines l, run.count, room);
      size = omega (arith, size-push lines l, run.size);
      more_lines = λ more are. subst (AreLines first start) (sym (append_assoc lines (l ∷ []) more)) (run.more_lines (l ∷ more) (begins, are));
      gave = λ told.
          let front = run.gave told in
          let one = line front.0 in (
            one.0,
            front.1 ++ one.1,
            front.2 ∙ ap (λ s. front.1 ++ s) one.2 ∙ sym (append_assoc front.1 one.1 (known index')),
            ap (λ s. s ++ one.1) front.3 ∙ ap (λ s. texts lines ++ s) (sym one.3) ∙ sym (texts-push lines l),
          );
      findings = run.findings ++ looked.findings;
      damaged_are = length-append run.findings looked.findings ∙ ap (λ k. k + length looked.findings) run.damaged_are ∙ ap (λ k. damaged + k) looked.damaged_are;
      told = finds-more found some found' run.findings looked.findings run.told looked.told;
      tells = λ told. taken.tells (run.tells told);
      more_found = λ told more besides are.
          let half_told = run.tells told in
          let after = subst (λ bs. AreFound (n + 1) (offset + l.size) more bs besides) (taken.left half_told) are in
          let here = found_by n offset l (known half) bytes some found' d (taken.taken half_told) looked more besides after in
          let all = run.more_found told (l ∷ more) (looked.findings ++ besides) here in
          subst (λ ls. AreFound first start ls (known recording) ((run.findings ++ looked.findings) ++ besides)) (sym (append_assoc lines (l ∷ []) more))
          (subst (AreFound first start (lines ++ l ∷ more) (known recording)) (sym (append_assoc run.findings looked.findings besides)) all);
      left = λ told.
          taken.left (run.tells told) ∙ ap (drop l.size) (run.left told) ∙ drop-drop l.size (size_of lines) (known recording)
          ∙ ap (λ k. drop k (known recording)) (sym (size-push lines l));
    }

-- the lines so far, and what was found for them
pub lines-are : (first start : ℕ) (index mid recording half : Option (List ℕ)) (found found' : Option (List Finding)) (n offset damaged : ℕ)
    → (run : HasChecked first start index mid recording half found found' n offset damaged) → AreLines first start run.lines
lines-are first start index mid recording half found found' n offset damaged run = subst (AreLines first start) (append-nil run.lines) (run.more_lines [] tt)

pub found-are : (first start : ℕ) (index mid recording half : Option (List ℕ)) (found found' : Option (List Finding)) (n offset damaged : ℕ)
    → (run : HasChecked first start index mid recording half found found' n offset damaged) → Tells recording → AreFound first start run.lines (known recording) run.findings
found-are first start index mid recording half found found' n offset damaged run told =
    subst (λ ls. AreFound first start ls (known recording) run.findings) (append-nil run.lines)
    (subst (AreFound first start (run.lines ++ []) (known recording)) (append-nil run.findings) (run.more_found told [] [] refl))

-- the end of the index
pub checked-end : (index mid index' recording half : Option (List ℕ)) (found found' : Option (List Finding)) (n offset damaged : ℕ) (more : Bool) → HasChecked 0 0 index mid recording half found found' n offset damaged
    → WasAtEnd mid index' → (Tells half → IsTrue more ↔ (0 < length (known half))) → IsChecked index recording found found' (record { frames = n; damaged = damaged; bytes = offset; more = more })
checked-end index mid index' recording half found found' n offset damaged more run end goes_on = record {
  lines = run.lines;
  are_lines = lines-are 0 0 index mid recording half found found' n offset damaged run;
  count = omega (arith, run.count);
  few = omega (arith, run.few);
  index_is = λ told.
      let front = run.gave told in
      front.2 ∙ ap (λ s. front.1 ++ s) (end front.0).1 ∙ append-nil front.1 ∙ front.3;
  findings = run.findings;
  damaged = run.damaged_are;
  told = run.told;
  are_found = found-are 0 0 index mid recording half found found' n offset damaged run;
  bytes = omega (arith, run.size);
  more = λ told.
      let size = ap length (run.left told) ∙ length-drop (size_of run.lines) (known recording) in
      let both = goes_on (run.tells told) in
      ((λ is. let some = both.0 is in omega (arith, some, size)), (λ less. both.1 (omega (arith, less, size))));
}

-- ---- where a check stops

-- after the lines so far
pub stops-after : (first start : ℕ) (index mid recording half : Option (List ℕ)) (found some found' : Option (List Finding)) (n offset damaged : ℕ) (P : ℕ → List ℕ → Type 0)
    → (run : HasChecked first start index mid recording half found some n offset damaged) → found' ≡ some → (Tells mid → P (size_of run.lines) (known mid))
    → StopsAfter first start index recording found found' n P
stops-after first start index mid recording half found some found' n offset damaged P run same follows = record {
  lines = run.lines;
  are_lines = lines-are first start index mid recording half found some n offset damaged run;
  count = run.count;
  few = run.few;
  begins = λ told.
      let front = run.gave told in (
        known mid,
        front.2 ∙ ap (λ s. s ++ known mid) front.3,
        follows front.0,
      );
  findings = run.findings;
  told = subst (λ f. FindsMore found f run.findings) (sym same) run.told;
  are_found = found-are first start index mid recording half found some n offset damaged run;
}

-- what follows from what follows the lines
pub stops-weaker : (first start : ℕ) (index recording : Option (List ℕ)) (found found' : Option (List Finding)) (m : ℕ) (P Q : ℕ → List ℕ → Type 0)
    → ((size : ℕ) (rest : List ℕ) → P size rest → Q size rest) → StopsAfter first start index recording found found' m P → StopsAfter first start index recording found found' m Q
stops-weaker first start index recording found found' m P Q weaker stops = record {
  lines = stops.lines;
  are_lines = stops.are_lines;
  count = stops.count;
  few = stops.few;
  begins = λ told. let all = stops.begins told in (all.0, all.1, weaker (size_of stops.lines) all.0 all.2);
  findings = stops.findings;
  told = stops.told;
  are_found = stops.are_found;
}

-- a line has a byte
line-some : (n offset : ℕ) (l : Line) → IsLine n offset l → 0 < length l.text
line-some n offset l is = omega (arith, ap length is.text_is, length-append (beginning n offset l.size ++ is.rest) (codes "\n"))

pub had-line : (mid index' : Option (List ℕ)) (n offset : ℕ) (l : Line) → IsLine n offset l → Gave mid index' (λ bytes. l.text ≡ bytes) → HadBytes mid
had-line mid index' n offset l is gave told =
    let read = gave told in
    omega (arith, line-some n offset l is, ap length read.2, length-append read.1 (known index'), ap length read.3)

module _ (first start : ℕ) (index mid index' recording half half' : Option (List ℕ)) (found found' : Option (List Finding)) (n offset damaged : ℕ)
    (run : HasChecked first start index mid recording half found found' n offset damaged) where
  pub after-lines : (P : ℕ → List ℕ → Type 0) → (Tells mid → P (size_of run.lines) (known mid)) → StopsAfter first start index recording found found' n P
  after-lines P follows = stops-after first start index mid recording half found found' found' n offset damaged P run refl follows

  -- at the next line
  pub stops-next-line : (growing : Bool) (why : CheckFault) → StopsNextLine mid index' n offset why → IsUntorn growing mid why
      → StopsLines first start index index' recording half' found found' growing why
  stops-next-line growing (fault.Line m) stops untorn =
      subst (λ k. StopsAfter first start index recording found found' k (IsNoLine growing start k)) (sym stops.0)
      (after-lines (IsNoLine growing start n) (λ told. (subst (λ o. BeginsOtherwise n o (known mid)) (sym run.size) (stops.1 told), (λ grown torn. untorn grown told torn))))
  stops-next-line growing fault.IndexIo stops untorn = (n, after-lines Anything (λ told. tt))
  stops-next-line growing fault.Io stops untorn = absurd stops
  stops-next-line growing fault.NoMemory stops untorn = (n, after-lines IsMore stops)
  stops-next-line growing fault.TooMany stops untorn = absurd stops

  pub fails-next-line : (why : CheckFault) → StopsNextLine mid index' n offset why → FailsLines first start index index' recording half' found found' why
  fails-next-line (fault.Line m) stops = tt
  fails-next-line fault.IndexIo stops = (n, after-lines (FailsInLine index') stops)
  fails-next-line fault.Io stops = absurd stops
  fails-next-line fault.NoMemory stops = tt
  fails-next-line fault.TooMany stops = tt

  pub within : (most : ℕ) → Gave half half' (λ front. length front < most) → FailsWithin recording half' most (size_of run.lines)
  within most gave told =
      let read = gave (run.tells told) in
      (read.0, read.1, sym (run.left told) ∙ read.2, read.3)

  -- in the bytes of a line
  module _ (l : Line) (is : IsLine n offset l) (gave : Gave mid index' (λ bytes. l.text ≡ bytes)) where
    pub stops-in-bytes : (growing : Bool) (why : CheckFault) → StopsReading half half' l.size why → StopsLines first start index index' recording half' found found' growing why
    stops-in-bytes growing (fault.Line m) stops = absurd stops
    stops-in-bytes growing fault.IndexIo stops = absurd stops
    stops-in-bytes growing fault.Io stops = (n, after-lines Anything (λ told. tt))
    stops-in-bytes growing fault.NoMemory stops = (n, after-lines IsMore (had-line mid index' n offset l is gave))
    stops-in-bytes growing fault.TooMany stops = absurd stops

    pub fails-in-bytes : (why : CheckFault) → StopsReading half half' l.size why → FailsLines first start index index' recording half' found found' why
    fails-in-bytes (fault.Line m) stops = tt
    fails-in-bytes fault.IndexIo stops = absurd stops
    fails-in-bytes fault.Io stops = (
      n,
      after-lines (FailsInCodestream start index' recording half' n) (λ told.
          let read = gave told in
          (l, subst (λ o. IsLine n o l) (sym run.size) is, read.2 ∙ ap (λ s. s ++ known index') (sym read.3), within l.size stops)),
    )
    fails-in-bytes fault.NoMemory stops = tt
    fails-in-bytes fault.TooMany stops = tt

-- ---- a check of all lines

module _ (index index' recording recording' : Option (List ℕ)) (found found' : Option (List Finding)) where
  from_zero : (n size : ℕ) (rest : List ℕ) → IsNoLine false 0 n size rest → BeginsOtherwise n size rest
  from_zero n size rest none = let same : 0 + size ≡ size = omega arith in subst (λ o. BeginsOtherwise n o rest) same none.0

  -- it stops where a check of lines does
  pub stops-lines : (why : CheckFault) → StopsLines 0 0 index index' recording recording' found found' false why → Stops index recording found found' why
  stops-lines (fault.Line m) stops = stops-weaker 0 0 index recording found found' m (IsNoLine false 0 m) (BeginsOtherwise m) (from_zero m) stops
  stops-lines fault.IndexIo stops = stops
  stops-lines fault.Io stops = stops
  stops-lines fault.NoMemory stops = (stops.0, stops-weaker 0 0 index recording found found' stops.0 IsMore (GoesOn recording) (λ size rest more. inl more) stops.1)
  stops-lines fault.TooMany stops = absurd stops

  in_line : (m size : ℕ) (rest : List ℕ) → FailsInCodestream 0 index' recording recording' m size rest → FailsInBytes index' recording recording' m size rest
  in_line m size rest fails = let same : 0 + size ≡ size = omega arith in inl (fails.0, subst (λ o. IsLine m o fails.0) same fails.1, fails.2, fails.3)

  pub fails-lines : (why : CheckFault) → FailsLines 0 0 index index' recording recording' found found' why → Fails index index' recording recording' found found' why
  fails-lines (fault.Line m) fails = tt
  fails-lines fault.IndexIo fails = fails
  fails-lines fault.Io fails =
      (fails.0, stops-weaker 0 0 index recording found found' fails.0 (FailsInCodestream 0 index' recording recording' fails.0) (FailsInBytes index' recording recording' fails.0) (in_line fails.0) fails.1)
  fails-lines fault.NoMemory fails = tt
  fails-lines fault.TooMany fails = tt

module _ (index mid index' recording half half' : Option (List ℕ)) (found found' : Option (List Finding)) (n offset damaged : ℕ)
    (run : HasChecked 0 0 index mid recording half found found' n offset damaged) (end : WasAtEnd mid index') where
  -- at the byte after those of all lines
  pub stops-at-end : (why : CheckFault) → StopsReading half half' 1 why → Stops index recording found found' why
  stops-at-end (fault.Line m) stops = absurd stops
  stops-at-end fault.IndexIo stops = absurd stops
  stops-at-end fault.Io stops = (n, after-lines 0 0 index mid index' recording half half' found found' n offset damaged run Anything (λ told. tt))
  stops-at-end fault.NoMemory stops = (
    n,
    after-lines 0 0 index mid index' recording half half' found found' n offset damaged run (GoesOn recording)
        (λ known_index. inr (λ told. omega (arith, stops (run.tells told), ap length (run.left told), length-drop (size_of run.lines) (known recording)))),
  )
  stops-at-end fault.TooMany stops = absurd stops

  pub fails-at-end : (why : CheckFault) → StopsReading half half' 1 why → Fails index index' recording half' found found' why
  fails-at-end (fault.Line m) stops = tt
  fails-at-end fault.IndexIo stops = absurd stops
  fails-at-end fault.Io stops = (
    n,
    after-lines 0 0 index mid index' recording half half' found found' n offset damaged run (FailsInBytes index' recording half' n)
        (λ told. inr ((end told).1, within 0 0 index mid index' recording half half' found found' n offset damaged run 1 stops)),
  )
  fails-at-end fault.NoMemory stops = tt
  fails-at-end fault.TooMany stops = tt

-- a line was read after the most that an index may have
pub begins-with : (n offset : ℕ) (mid index' : Option (List ℕ)) (l : Line) → IsLine n offset l → Gave mid index' (λ read. l.text ≡ read) → Tells mid → BeginsWithLine n offset (known mid)
begins-with n offset mid index' l is gave told =
    let read = gave told in
    (l, known index', read.2 ∙ ap (λ s. s ++ known index') (sym read.3), is)

pub stops-at-most : (index mid index' recording half : Option (List ℕ)) (found found' : Option (List Finding)) (n offset damaged : ℕ) → HasChecked 0 0 index mid recording half found found' n offset damaged
    → n ≡ most_frames → (l : Line) → IsLine n offset l → Gave mid index' (λ read. l.text ≡ read) → StopsAfter 0 0 index recording found found' most_frames (BeginsWithLine most_frames)
stops-at-most index mid index' recording half found found' n offset damaged run most l is gave =
    subst (λ k. StopsAfter 0 0 index recording found found' k (BeginsWithLine k)) most
    (stops-after 0 0 index mid recording half found found' found' n offset damaged (BeginsWithLine n) run refl (λ told.
    let same : 0 + size_of run.lines ≡ size_of run.lines = omega arith in
    subst (λ o. BeginsWithLine n o (known mid)) (sym run.size ∙ same) (begins-with n offset mid index' l is gave told)))

-- a line of an index that isn't written any more
pub untorn-whole : (index : Option (List ℕ)) (why : CheckFault) → IsUntorn false index why
untorn-whole index (fault.Line n) = λ grown told torn. let clash : ⊥ = cc in clash
untorn-whole index fault.IndexIo = tt
untorn-whole index fault.Io = tt
untorn-whole index fault.NoMemory = tt
untorn-whole index fault.TooMany = tt
