-- The next part of a recording: combining the reading of its bytes, their decoding and the search for the next start.
use Rattle.std.proofs.Common.{Some, None, Bool, true, false, cond, ◌≡◌, ◌⊎◌, inl, inr, ◌<◌, ◌+◌, ◌↔◌, ℕ, List, [], ◌∷◌, ◌++◌, length, take, drop, Option, refl, sym, ap, subst, ◌∙◌, arith, append_assoc, append-nil}
use Rattle.std.proofs.lemmas.List.{length-append, length-take, take-append-drop, drop_at}
use Rattle.std.specs.Io.KnownBytes.{prepend_known}
use Rattle.ls_bits.specs.Bits.{AreBytes}
use Rattle.ls_frame.specs.Picture.{Picture}
use Rattle.ls_frame.specs.View.Known.{Tells, Gave, HadBytes, known}
use Rattle.ls_stream.specs.Grammar.{Spells}
use Rattle.ls_stream.specs.View.Outlines.{IsFirstFault}
use Rattle.ls_stream.specs.declared.faults.StreamFault.{StreamFault}
use Rattle.ls_stream.specs.declared.faults.StreamFault.TheVariants as stream
use Rattle.ls_film.specs.View.Codestreams.{IsUntaken, is_io as unread_is_io}
use Rattle.ls_film.specs.declared.codestreams.Unread.{Unread}
use Rattle.ls_film.specs.declared.codestreams.Unread.TheVariants as unread
use Rattle.ls_salvage.specs.Starts.{to_start, to_next}
use Rattle.ls_salvage.specs.View.Salvaged.{FailsBy}
use Rattle.ls_salvage.specs.View.Parts.{HasPassed, HasNoEnd}
use Rattle.ls_salvage.specs.View.Ends.{is_refusal, read_fault, is_io}
use Rattle.ls_salvage.specs.declared.faults.ReadFault.TheVariants as read_faults
use Rattle.ls_salvage.specs.View.Skipping.{HasSkipped}
use Rattle.ls_salvage.proofs.SalvageLemmas.{some_bytes}

-- ---- a frame

-- a codestream at the front of the bytes that were read is all of these bytes
pub gave_frame : (read read' : Option (List ℕ)) (bytes : List ℕ) (used count : ℕ) (f : Picture) (P : List ℕ → Type 0)
    → Gave read read' (λ front. (bytes ≡ front) × P front)
    → (Tells read → (front rest : List ℕ) (g : Picture) → known read ≡ front ++ rest → Spells front g → bytes ≡ front)
    → Spells (take used bytes) f → length bytes ≡ count → Gave read read' (λ front. (length front ≡ count) × Spells front f)
gave_frame read read' bytes used count f P gives only spells size = λ told.
    let gave = gives told in
    let whole : known read ≡ bytes ++ known read' = gave.2 ∙ ap (λ s. s ++ known read') (sym gave.3.0) in
    let split : bytes ++ known read' ≡ take used bytes ++ (drop used bytes ++ known read') =
    ap (λ s. s ++ known read') (sym (take-append-drop used bytes)) ∙ append_assoc (take used bytes) (drop used bytes) (known read') in
    let is : bytes ≡ take used bytes = only told (take used bytes) (drop used bytes ++ known read') f (whole ∙ split) spells in
    (gave.0, bytes, whole, (size, subst (λ s. Spells s f) (sym is) spells))

pub some_taken : (bytes : List ℕ) (used : ℕ) (f : Picture) → Spells (take used bytes) f → 0 < length bytes
some_taken bytes used f spells = omega (arith, length-take used bytes, some_bytes (take used bytes) f spells)

-- ---- a fault

pub no_refusal : (fault : StreamFault) → is_refusal fault ≡ false → fault ≡ stream.NoMemory → ⊥
no_refusal fault other is = let refused : is_refusal fault ≡ true = ap is_refusal is in let clash : ⊥ = cc in absurd clash

-- if the bytes that were read begin with no codestream, neither do all bytes, and their first fault is the same
pub breaks : (read read' : Option (List ℕ)) (bytes : List ℕ) (fault : StreamFault) (P : List ℕ → Type 0)
    → Gave read read' (λ front. (bytes ≡ front) × P front) → ((front : List ℕ) → P front → 0 < length front)
    → (Tells read → (front rest : List ℕ) (f : Picture) → known read ≡ front ++ rest → Spells front f → bytes ≡ front)
    → (Tells read → AreBytes (known read) → (other : StreamFault) → IsFirstFault bytes other ↔ IsFirstFault (known read) other)
    → ((fault ≡ stream.NoMemory) ⊎ ((front rest : List ℕ) (f : Picture) → bytes ≡ front ++ rest → Spells front f → ⊥))
    → ((fault ≡ stream.NoMemory) ⊎ IsFirstFault bytes fault) → is_refusal fault ≡ false
    → Tells read → FailsBy fault (known read)
breaks read read' bytes fault P gives some only alike (inl memory) first other = absurd (no_refusal fault other memory)
breaks read read' bytes fault P gives some only alike (inr none) (inl memory) other = absurd (no_refusal fault other memory)
breaks read read' bytes fault P gives some only alike (inr none) (inr first) other = λ told.
    let gave = gives told in
    record {
      none = record {
        some = omega (arith, ap length gave.2, length-append gave.1 (known read'), some gave.1 gave.3.1);
        none = λ front rest f whole spells. none front [] f (only told front rest f whole spells ∙ sym (append-nil front)) spells;
      };
      first = λ are. (alike told are fault).0 first;
    }

-- the same of equal bytes
pub first_alike : (Memory : Type 0) (bytes others : List ℕ) (fault : StreamFault) → bytes ≡ others → Memory ⊎ IsFirstFault bytes fault → Memory ⊎ IsFirstFault others fault
first_alike Memory bytes others fault is first = subst (λ s. Memory ⊎ IsFirstFault s fault) is first

pub gave_bytes : (read read' : Option (List ℕ)) (bytes items : List ℕ) (P : List ℕ → Type 0) → Gave read read' (λ front. (bytes ≡ front) × P front)
    → ((front : List ℕ) → P front → 0 < length front) → items ≡ bytes → Gave read read' (λ front. (front ≡ items) × (0 < length front))
gave_bytes read read' bytes items P gives some is = λ told.
    let gave = gives told in (gave.0, gave.1, gave.2, (sym (is ∙ gave.3.0), some gave.1 gave.3.1))

-- ---- a codestream that can't be taken

pub no_end : (fault : Unread) (read read' : Option (List ℕ)) → IsUntaken fault read read' → read_fault fault ≡ read_faults.NoEnd → Tells read → HasNoEnd (known read)
no_end (unread.Stream fault) read read' (inl memory) is told = let no : ⊥ = cc in absurd no
no_end (unread.Stream fault) read read' (inr large) is told = large.1 told
no_end unread.Io read read' untaken is told = let no : ⊥ = cc in absurd no

-- an allocation failed, and there was a byte
pub no_memory : (fault : Unread) (read read' : Option (List ℕ)) → IsUntaken fault read read' → read_fault fault ≡ read_faults.NoMemory → HadBytes read
no_memory (unread.Stream fault) read read' (inl memory) is = memory.1
no_memory (unread.Stream fault) read read' (inr large) is = let no : ⊥ = cc in absurd no
no_memory unread.Io read read' untaken is = let no : ⊥ = cc in absurd no

not_too_much : (refused : Bool) → cond refused read_faults.NoMemory read_faults.NoEnd ≡ read_faults.TooMuch → ⊥
not_too_much true is = let no : ⊥ = cc in absurd no
not_too_much false is = let no : ⊥ = cc in absurd no

pub few : (fault : Unread) → read_fault fault ≡ read_faults.TooMuch → ⊥
few (unread.Stream fault) is = not_too_much (is_refusal fault) is
few unread.Io is = let no : ⊥ = cc in absurd no

not_io : (refused : Bool) → is_io (cond refused read_faults.NoMemory read_faults.NoEnd) ≡ false
not_io true = refl
not_io false = refl

-- a failed read stays one
pub same_io : (fault : Unread) → unread_is_io fault ≡ is_io (read_fault fault)
same_io (unread.Stream fault) = sym (not_io (is_refusal fault))
same_io unread.Io = refl

-- ---- a gap

put_bytes : (bytes : List ℕ) (old back : Option (List ℕ)) → back ≡ prepend_known bytes old → Tells old → Tells back × (known back ≡ bytes ++ known old)
put_bytes bytes (Some x) back is told = rw is (refl, refl)
put_bytes bytes None back is told = absurd (let clash : ⊥ = cc in clash)

-- the bytes up to the next start after the first were passed over
passed_gap : (first : ℕ) (more old back new : List ℕ) (count : ℕ) → back ≡ more ++ old → HasSkipped count back new
    → (count + 1 ≡ to_next ((first ∷ more) ++ old)) × (new ≡ drop (count + 1) ((first ∷ more) ++ old))
unfolding to_next
passed_gap first more old back new count put skipped =
    let size : length (first ∷ skipped.passed) ≡ count + 1 = omega (arith, skipped.count_is) in (
      omega (arith, skipped.far, ap to_start put),
      sym (ap (λ s. drop (count + 1) (first ∷ s)) (sym put ∙ skipped.split) ∙ drop_at (first ∷ skipped.passed) new (count + 1) size),
    )

pub gap_passed : (bytes more : List ℕ) (count : ℕ) (old back new : Option (List ℕ)) → more ≡ drop 1 bytes → back ≡ prepend_known more old
    → (Tells back → Tells new × HasSkipped count (known back) (known new))
    → Tells old → 0 < length bytes → HasPassed (bytes ++ known old) (count + 1) new
gap_passed [] more count old back new is put skips told some = absurd (omega arith)
gap_passed (first ∷ bytes) more count old back new is put skips told some =
    let stands = put_bytes more old back put told in
    let skipped = skips stands.0 in
    let passed = passed_gap first bytes (known old) (known back) (known new) count (stands.1 ∙ ap (λ s. s ++ known old) is) skipped.1 in
    (skipped.0, passed.0, passed.1)
