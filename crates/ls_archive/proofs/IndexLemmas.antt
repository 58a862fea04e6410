-- The index of a recording, codestream by codestream.
use Rattle.std.proofs.Common.{◌≡◌, ℕ, ◌+◌, ◌<◌, Bool, List, [], ◌∷◌, ◌++◌, length, take, Option, refl, sym, ap, subst, ◌∙◌, arith, append_assoc, append-nil, length-append}
use Rattle.std.specs.Io.KnownBytes.{Appends}
use Rattle.std.proofs.KnownBytes.{Appends-nil, Appends-trans}
use Rattle.std.proofs.Math.Seq.{take-append-add}
use Rattle.std.proofs.lemmas.List.{length_push}
use Rattle.ls_frame.specs.View.Known.{Tells, WasAtEnd, known}
use Rattle.ls_film.specs.Film.{most_frames}
use Rattle.ls_film.proofs.FilmLemmas.{all-more}
use Rattle.ls_archive.specs.declared.faults.IndexFault.{IndexFault}
use Rattle.ls_archive.specs.declared.faults.IndexFault.TheVariants.{Stream, Io, Output, NoMemory, TooMany}
use Rattle.ls_archive.specs.Index.{Entry, joined, line, lines_from, lines}
use Rattle.ls_film.specs.View.Memory.{HasBytes}
use Rattle.ls_archive.specs.View.Entries.{IsEntry, AreEntriesOf, GaveEntries, GaveEntry}
use Rattle.ls_archive.specs.View.Indexing.{Completes, StopsAt, StopsAtMost, HasRun, Stops, StopsNext, StopsLine}

-- ---- lines, one more at a time

pub joined-push : (entries : List Entry) (entry : Entry) → joined (entries ++ entry ∷ []) ≡ joined entries ++ entry.bytes
joined-push [] entry = append-nil entry.bytes
joined-push (first ∷ entries) entry =
    ap (λ s. first.bytes ++ s) (joined-push entries entry) ∙ sym (append_assoc first.bytes (joined entries) entry.bytes)

lines_from-push : (sums : Bool) (n offset : ℕ) (entries : List Entry) (entry : Entry)
    → lines_from sums n offset (entries ++ entry ∷ []) ≡ lines_from sums n offset entries ++ line sums (n + length entries) (offset + length (joined entries)) entry
lines_from-push sums n offset [] entry =
    append-nil (line sums n offset entry)
    ∙ (let same : n ≡ n + 0 = omega arith in let place : offset ≡ offset + 0 = omega arith in ap (λ k. line sums k offset entry) same ∙ ap (λ o. line sums (n + 0) o entry) place)
lines_from-push sums n offset (first ∷ entries) entry =
    let rest : List ℕ = lines_from sums (n + 1) (offset + length first.bytes) entries in
    let number : (n + 1) + length entries ≡ n + length (first ∷ entries) = omega arith in
    let place : (offset + length first.bytes) + length (joined entries) ≡ offset + length (joined (first ∷ entries)) = omega (arith, length-append first.bytes (joined entries)) in
    ap (λ s. line sums n offset first ++ s)
    (lines_from-push sums (n + 1) (offset + length first.bytes) entries entry
    ∙ ap (λ k. rest ++ line sums k ((offset + length first.bytes) + length (joined entries)) entry) number
    ∙ ap (λ o. rest ++ line sums (n + length (first ∷ entries)) o entry) place)
    ∙ sym (append_assoc (line sums n offset first) rest (line sums (n + length (first ∷ entries)) (offset + length (joined (first ∷ entries))) entry))

-- one more line, of the codestream whose number is the count of those before, and which begins where these end
pub lines-push : (sums : Bool) (entries : List Entry) (entry : Entry) (n offset : ℕ) → length entries ≡ n → offset ≡ length (joined entries)
    → lines sums (entries ++ entry ∷ []) ≡ lines sums entries ++ line sums n offset entry
lines-push sums entries entry n offset count place =
    let number : 0 + length entries ≡ n = omega (arith, count) in
    let start : 0 + length (joined entries) ≡ offset = omega (arith, place) in
    lines_from-push sums 0 0 entries entry
    ∙ ap (λ k. lines sums entries ++ line sums k (0 + length (joined entries)) entry) number
    ∙ ap (λ o. lines sums entries ++ line sums n o entry) start

-- ---- what the reader gave

pub GaveEntries-none : (old : Option (List ℕ)) → GaveEntries old old []
GaveEntries-none old = λ told. (told, [], refl, record { joined_are = refl; each = tt })

-- one more codestream
are_more : (bytes more : List ℕ) (entries : List Entry) (entry : Entry) → AreEntriesOf bytes entries → (more ≡ entry.bytes) × IsEntry entry
    → AreEntriesOf (bytes ++ more) (entries ++ entry ∷ [])
are_more bytes more entries entry are next = record {
  joined_are = ap (λ s. s ++ more) are.joined_are ∙ ap (λ s. joined entries ++ s) next.0 ∙ sym (joined-push entries entry);
  each = all-more IsEntry entries entry are.each next.1;
}

pub GaveEntries-more : (old mid new : Option (List ℕ)) (entries : List Entry) (entry : Entry) → GaveEntries old mid entries → GaveEntry mid new entry
    → GaveEntries old new (entries ++ entry ∷ [])
GaveEntries-more old mid new entries entry before next = λ told.
    let front = before told in
    let last = next front.0 in (
      last.0,
      front.1 ++ last.1,
      front.2 ∙ ap (λ s. front.1 ++ s) last.2 ∙ sym (append_assoc front.1 last.1 (known new)),
      are_more front.1 last.1 entries entry front.3 last.3,
    )

module _ (sums : Bool) where
  -- before the first codestream
  pub HasRun-none : (read written : Option (List ℕ)) → HasRun sums read read written written 0 0 0
  HasRun-none read written = record {
    entries = [];
    count = refl;
    few = omega arith;
    gave = GaveEntries-none read;
    wrote = Appends-nil written;
    offset_is = refl;
    bytes_are = refl;
  }

  -- a codestream was read and its line written
  pub HasRun-more : (read mid new written midway out : Option (List ℕ)) (n offset bytes size : ℕ) (entry : Entry) (text : List ℕ) → HasRun sums read mid written midway n offset bytes
      → n < most_frames → GaveEntry mid new entry → text ≡ line sums n offset entry → Appends midway out text → size ≡ length entry.bytes
      → HasRun sums read new written out (n + 1) (offset + size) (bytes + length text)
  HasRun-more read mid new written midway out n offset bytes size entry text run room next is wrote sized =
      let grows : lines sums (run.entries ++ entry ∷ []) ≡ lines sums run.entries ++ text =
      lines-push sums run.entries entry n offset run.count run.offset_is ∙ ap (λ s. lines sums run.entries ++ s) (sym is) in
      record {
        entries = run.entries ++ entry ∷ [];
        count = length_push run.entries entry ∙ ap (λ k. k + 1) run.count;
        few = omega (arith, length_push run.entries entry, run.count, room);
        gave = GaveEntries-more read mid new run.entries entry run.gave next;
        wrote = subst (Appends written out) (sym grows) (Appends-trans written midway out (lines sums run.entries) text run.wrote wrote);
        offset_is = omega (arith, run.offset_is, sized, length-append (joined run.entries) entry.bytes, ap length (joined-push run.entries entry));
        bytes_are = ap (λ k. k + length text) run.bytes_are ∙ sym (length-append (lines sums run.entries) text) ∙ sym (ap length grows);
      }

  -- the end of the input
  pub HasRun-completes : (read mid new written out : Option (List ℕ)) (n offset bytes : ℕ) → HasRun sums read mid written out n offset bytes → WasAtEnd mid new
      → Completes sums read new written out n
  HasRun-completes read mid new written out n offset bytes run end = record {
    entries = run.entries;
    count = run.count;
    few = run.few;
    gave = λ told.
        let front = run.gave told in
        let none = end front.0 in
        let whole : known read ≡ front.1 = front.2 ∙ ap (λ s. front.1 ++ s) none.1 ∙ append-nil front.1 in
        (none.0, none.2, rw whole front.3);
    wrote = run.wrote;
  }

  -- the next codestream has no entry
  stops_at : (read mid new written out : Option (List ℕ)) (m offset bytes : ℕ) (P : List ℕ → Type 0) → HasRun sums read mid written out m offset bytes → (Tells mid → P (known mid))
      → StopsAt sums read new written out m P
  stops_at read mid new written out m offset bytes P run follows = record {
    entries = run.entries;
    count = run.count;
    few = run.few;
    begins = λ told. let front = run.gave told in (front.1, known mid, front.2, front.3, follows front.0);
    wrote = run.wrote;
  }

  pub stops-next : (read mid new written out : Option (List ℕ)) (n offset bytes : ℕ) (fault : IndexFault) → HasRun sums read mid written out n offset bytes
      → StopsNext mid n fault → Stops sums read new written out fault
  stops-next read mid new written out n offset bytes (Stream m fault) run why =
      (stops_at read mid new written out m offset bytes _ (rw why.0 run) why.2, why.1)
  stops-next read mid new written out n offset bytes (Io m) run why = stops_at read mid new written out m offset bytes _ (rw why run) (λ told. tt)
  stops-next read mid new written out n offset bytes (Output count) run why = absurd why
  stops-next read mid new written out n offset bytes NoMemory run why = (n, stops_at read mid new written out n offset bytes HasBytes run why)
  stops-next read mid new written out n offset bytes TooMany run why = absurd why

  -- an allocation failed for the line of a codestream that was read
  pub stops-memory : (read mid new written out : Option (List ℕ)) (n offset bytes : ℕ) (entry : Entry) → HasRun sums read mid written out n offset bytes → GaveEntry mid new entry
      → (IsEntry entry → 0 < length entry.bytes) → Stops sums read new written out NoMemory
  stops-memory read mid new written out n offset bytes entry run next some = (
    n,
    stops_at read mid new written out n offset bytes HasBytes run
        (λ told. let gave = next told in omega (arith, ap length gave.2, length-append gave.1 (known new), ap length gave.3.0, some gave.3.1)),
  )

  -- a part of a line was written
  pub stops-line : (read mid new written midway out : Option (List ℕ)) (n offset bytes : ℕ) (entry : Entry) (text : List ℕ) (fault : IndexFault)
      → HasRun sums read mid written midway n offset bytes → n < most_frames → GaveEntry mid new entry → text ≡ line sums n offset entry
      → StopsLine midway out bytes text fault → Stops sums read new written out fault
  stops-line read mid new written midway out n offset bytes entry text (Stream m fault) run room next is why = absurd why
  stops-line read mid new written midway out n offset bytes entry text (Io m) run room next is why = absurd why
  stops-line read mid new written midway out n offset bytes entry text (Output count) run room next is why =
      let grows : lines sums (run.entries ++ entry ∷ []) ≡ lines sums run.entries ++ text =
      lines-push sums run.entries entry n offset run.count run.offset_is ∙ ap (λ s. lines sums run.entries ++ s) (sym is) in
      let size : length (lines sums (run.entries ++ entry ∷ [])) ≡ bytes + length text =
      ap length grows ∙ length-append (lines sums run.entries) text ∙ ap (λ k. k + length text) (sym run.bytes_are) in
      let front : take count (lines sums (run.entries ++ entry ∷ [])) ≡ lines sums run.entries ++ take why.0 text =
      ap (λ k. take k (lines sums (run.entries ++ entry ∷ []))) why.1 ∙ ap (take (bytes + why.0)) grows
      ∙ ap (λ k. take (k + why.0) (lines sums run.entries ++ text)) run.bytes_are ∙ take-append-add (lines sums run.entries) text why.0 in
      record {
        entries = run.entries ++ entry ∷ [];
        few = omega (arith, length_push run.entries entry, run.count, room);
        gave = GaveEntries-more read mid new run.entries entry run.gave next;
        part = omega (arith, size, why.1, why.2);
        wrote = subst (Appends written out) (sym front) (Appends-trans written midway out (lines sums run.entries) (take why.0 text) run.wrote why.3);
      }
  stops-line read mid new written midway out n offset bytes entry text NoMemory run room next is why = absurd why
  stops-line read mid new written midway out n offset bytes entry text TooMany run room next is why = absurd why

  -- a codestream was read after the most that a recording may have
  pub HasRun-most : (read mid new written out : Option (List ℕ)) (offset bytes : ℕ) (entry : Entry) → HasRun sums read mid written out most_frames offset bytes → GaveEntry mid new entry
      → StopsAtMost sums read new written out
  HasRun-most read mid new written out offset bytes entry run next = record {
    entries = run.entries;
    last = entry;
    count = run.count;
    gave = GaveEntries-more read mid new run.entries entry run.gave next;
    wrote = run.wrote;
  }
