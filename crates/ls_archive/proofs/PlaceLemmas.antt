-- The lines of an index that is read, and the places that are given to their codestreams.
use Rattle.std.proofs.Common.{◌≡◌, ◌+◌, ◌<◌, ◌≤◌, ℕ, zero, suc, inl, inr, List, [], ◌∷◌, ◌++◌, length, drop, set, replicate, Option, None, Some, IfSome, refl, sym, ap, subst, ◌∙◌, arith, append_assoc, append-nil}
use Rattle.std.specs.Prelude.{slice_get}
use Rattle.std.specs.List.{AllByRecursion, AllZip}
use Rattle.std.proofs.lemmas.List.{drop_at, drop-drop, length_push}
use Rattle.sha2.specs.Sha256.{sha256}
use Rattle.ls_film.specs.Film.{most_frames}
use Rattle.ls_frame.specs.View.Known.{Tells, Gave, WasAtEnd, known}
use Rattle.ls_archive.specs.declared.checking.CheckFault.{CheckFault}
use Rattle.ls_archive.specs.declared.checking.CheckFault.TheVariants as fault
use Rattle.ls_archive.specs.declared.places.Standing.{Standing}
use Rattle.ls_archive.specs.declared.places.Standing.TheVariants.{Codestream, Gap}
use Rattle.ls_archive.specs.declared.places.Wanted.{Wanted}
use Rattle.ls_archive.specs.Index.{Entry}
use Rattle.ls_archive.specs.View.Checking.{Line, IsLine, AreLines, texts, size_of}
use Rattle.ls_archive.specs.View.Checks.{BeginsOtherwise, BeginsWithLine, FailsInLine, StopsNextLine}
use Rattle.ls_archive.specs.View.Entries.{IsEntry}
use Rattle.ls_archive.specs.View.Places.{said, said_from, IsSaidBy, BeginsWithLines, HasMore, StopsInIndex, GaveStanding, StandsAt, AreStanding, AreApart, GivesPlace, size_standing, GivesStanding}
use Rattle.ls_archive.proofs.EntryLemmas.{some_outlined}
use Rattle.ls_archive.proofs.CheckLemmas.{texts-push, size-push, had-line, begins-with}

-- ---- the lines of an index

-- So far n lines were read, the codestream of the next one begins at this offset, and this is what they say.
pub record HasReadLines (index index' : Option (List ℕ)) (n offset : ℕ) (wanted : List Wanted) : Type 0 where
  pub lines : List Line
  pub count : length lines ≡ n
  pub few : length lines ≤ most_frames
  pub size : size_of lines ≡ offset
  pub more_lines : (more : List Line) → AreLines n offset more → AreLines 0 0 (lines ++ more)
  pub gave : Gave index index' (λ bytes. bytes ≡ texts lines)
  pub said_are : wanted ≡ said_from 0 lines

-- before the first
pub read-none : (index : Option (List ℕ)) → HasReadLines index index 0 0 []
read-none index = record {
  lines = [];
  count = refl;
  few = omega arith;
  size = refl;
  more_lines = λ more are. are;
  gave = λ told. (told, [], refl, refl);
  said_are = refl;
}

said-push : (offset : ℕ) (lines : List Line) (l : Line) → said_from offset (lines ++ l ∷ []) ≡ said_from offset lines ++ said (offset + size_of lines) l ∷ []
said-push offset [] l = let same : offset ≡ offset + 0 = omega arith in ap (λ (o : ℕ). said o l ∷ []) same
said-push offset (first ∷ lines) l =
    let same : (offset + first.size) + size_of lines ≡ offset + (first.size + size_of lines) = omega arith in
    ap (λ (s : List Wanted). said offset first ∷ s)
    (said-push (offset + first.size) lines l ∙ ap (λ (o : ℕ). said_from (offset + first.size) lines ++ said o l ∷ []) same)

-- one more
pub read-more : (index mid index' : Option (List ℕ)) (n offset : ℕ) (wanted wanted' : List Wanted) (l : Line) → HasReadLines index mid n offset wanted → n < most_frames → IsLine n offset l
    → Gave mid index' (λ bytes. l.text ≡ bytes) → wanted' ≡ wanted ++ said offset l ∷ [] → HasReadLines index index' (n + 1) (offset + l.size) wanted'
read-more index mid index' n offset wanted wanted' l run room is line pushed =
    let lines : List Line = run.lines in
    record {
      lines = lines ++ l ∷ [];
      count = length_push lines l ∙ ap (λ k. k + 1) run.count;
      few = omega (arith, length_push lines l, run.count, room);
      size = size-push lines l ∙ ap (λ k. k + l.size) run.size;
      more_lines = λ more are. subst (AreLines 0 0) (sym (append_assoc lines (l ∷ []) more)) (run.more_lines (l ∷ more) (is, are));
      gave = λ told.
          let front = run.gave told in
          let one = line front.0 in (
            one.0,
            front.1 ++ one.1,
            front.2 ∙ ap (λ s. front.1 ++ s) one.2 ∙ sym (append_assoc front.1 one.1 (known index')),
            ap (λ s. s ++ one.1) front.3 ∙ ap (λ s. texts lines ++ s) (sym one.3) ∙ sym (texts-push lines l),
          );
      said_are =
          pushed ∙ ap (λ (s : List Wanted). s ++ said offset l ∷ []) run.said_are ∙ ap (λ (o : ℕ). said_from 0 lines ++ said o l ∷ []) (sym run.size)
          ∙ sym (said-push 0 lines l ∙ ap (λ (o : ℕ). said_from 0 lines ++ said o l ∷ []) (omega arith));
    }

module _ (index mid index' : Option (List ℕ)) (n offset : ℕ) (wanted : List Wanted) (run : HasReadLines index mid n offset wanted) where
  are-lines : AreLines 0 0 run.lines
  are-lines = subst (AreLines 0 0) (append-nil run.lines) (run.more_lines [] tt)

  -- the end of the index
  pub read-end : WasAtEnd mid index' → IsSaidBy index wanted
  read-end end = record {
    lines = run.lines;
    are_lines = are-lines;
    few = run.few;
    index_is = λ told.
        let front = run.gave told in
        front.2 ∙ ap (λ s. front.1 ++ s) (end front.0).1 ∙ append-nil front.1 ∙ front.3;
    said_are = run.said_are;
  }

  after-lines : (P : ℕ → List ℕ → Type 0) → (Tells mid → P offset (known mid)) → BeginsWithLines index n P
  after-lines P follows = record {
    lines = run.lines;
    are_lines = are-lines;
    count = run.count;
    few = run.few;
    begins = λ told.
        let front = run.gave told in (
          known mid,
          front.2 ∙ ap (λ s. s ++ known mid) front.3,
          subst (λ size. P size (known mid)) (sym run.size) (follows front.0),
        );
  }

  -- where reading stops: at the next line
  pub read-stops : (why : CheckFault) → StopsNextLine mid index' n offset why → StopsInIndex index index' why
  read-stops (fault.Line m) stops = subst (λ k. BeginsWithLines index k (BeginsOtherwise k)) (sym stops.0) (after-lines (BeginsOtherwise n) stops.1)
  read-stops fault.IndexIo stops = (n, after-lines (FailsInLine index') stops)
  read-stops fault.Io stops = absurd stops
  read-stops fault.NoMemory stops = (n, after-lines HasMore stops)
  read-stops fault.TooMany stops = absurd stops

  module _ (l : Line) (is : IsLine n offset l) (gave : Gave mid index' (λ bytes. l.text ≡ bytes)) where
    -- an allocation failed for what it says
    pub read-unheld : StopsInIndex index index' fault.NoMemory
    read-unheld = (n, after-lines HasMore (had-line mid index' n offset l is gave))

    -- it is one line too many
    pub read-most : n ≡ most_frames → StopsInIndex index index' fault.TooMany
    read-most most = subst (λ k. BeginsWithLines index k (BeginsWithLine k)) most (after-lines (BeginsWithLine n) (begins-with n offset mid index' l is gave))

-- ---- places

-- a place that was given is before this one
abbrev pub IsBefore : ℕ → Option ℕ → Type 0
IsBefore place given = IfSome given (λ other. other < place)

module _ {A : Type 0} (P : A → Type 0) where
  all-set : (xs : List A) (k : ℕ) (x : A) → AllByRecursion P xs → P x → AllByRecursion P (set xs k x)
  all-set [] k x all new = tt
  all-set (first ∷ xs) zero x all new = (new, all.1)
  all-set (first ∷ xs) (suc k) x all new = (all.0, all-set xs k x all.1 new)

  all-by : (Q : A → Type 0) (xs : List A) → ((x : A) → P x → Q x) → AllByRecursion P xs → AllByRecursion Q xs
  all-by Q [] implies all = tt
  all-by Q (first ∷ xs) implies all = (implies first all.0, all-by Q xs implies all.1)

module _ {A B : Type 0} (R : A → B → Type 0) where
  zip-set : (xs : List A) (ys : List B) (k : ℕ) (x : A) (y : B) → AllZip R xs ys → slice_get xs k ≡ Some x → R x y → AllZip R xs (set ys k y)
  zip-set [] [] k x y all is new = tt
  zip-set [] (other ∷ ys) k x y all is new = absurd all
  zip-set (first ∷ xs) [] k x y all is new = absurd all
  zip-set (first ∷ xs) (other ∷ ys) zero x y all is new = let same : first ≡ x = cc in (subst (λ a. R a y) (sym same) new, all.1)
  zip-set (first ∷ xs) (other ∷ ys) (suc k) x y all is new = (all.0, zip-set xs ys k x y all.1 is new)

-- none is given yet
pub none-standing : (recording : Option (List ℕ)) (wanted : List Wanted) → AreStanding recording wanted (replicate (length wanted) None)
none-standing recording [] told = tt
none-standing recording (one ∷ wanted) told = (tt, none-standing recording wanted told)

none-other : (n : ℕ) → AllByRecursion (λ (other : Option ℕ). other ≡ None → ◌≡◌ {A = Option ℕ} None None) (replicate n None)
none-other zero = tt
none-other (suc n) = ((λ same. refl), none-other n)

pub none-apart : (n : ℕ) → AreApart (replicate n None)
none-apart zero = tt
none-apart (suc n) = (none-other n, none-apart n)

pub none-before : (n place : ℕ) → AllByRecursion (IsBefore place) (replicate n None)
none-before zero place = tt
none-before (suc n) place = (tt, none-before n place)

-- one more is given
new-other : (place : ℕ) (other : Option ℕ) → IsBefore place other → other ≡ Some place → Some place ≡ None
new-other place None before same = let clash : ⊥ = cc in absurd clash
new-other place (Some given) before same = let equal : given ≡ place = cc in absurd (omega arith)

old-other : (place : ℕ) (old : Option ℕ) → IsBefore place old → Some place ≡ old → old ≡ None
old-other place None before same = refl
old-other place (Some given) before same = let equal : place ≡ given = cc in absurd (omega arith)

set-apart : (places : List (Option ℕ)) (k place : ℕ) → AreApart places → AllByRecursion (IsBefore place) places → AreApart (set places k (Some place))
set-apart [] k place apart before = tt
set-apart (old ∷ places) zero place apart before = (all-by (IsBefore place) (λ other. other ≡ Some place → Some place ≡ None) places (new-other place) before.1, apart.1)
set-apart (old ∷ places) (suc k) place apart before =
    (all-set (λ other. other ≡ old → old ≡ None) places k (Some place) apart.0 (old-other place old before.0), set-apart places k place apart.1 before.1)

before-more : (place place' : ℕ) → place ≤ place' → (given : Option ℕ) → IsBefore place given → IsBefore place' given
before-more place place' le None before = tt
before-more place place' le (Some given) before = omega arith

pub all-before-more : (place place' : ℕ) (places : List (Option ℕ)) → place ≤ place' → AllByRecursion (IsBefore place) places → AllByRecursion (IsBefore place') places
all-before-more place place' places le before = all-by (IsBefore place) (IsBefore place') places (before-more place place' le) before

module _ (wanted : List Wanted) (places places' : List (Option ℕ)) (picked place count : ℕ) (sum : List ℕ) where
  pub given-apart : GivesPlace wanted places places' picked place count sum → AreApart places → AllByRecursion (IsBefore place) places → AreApart places'
  given-apart (inl gives) apart before = subst AreApart (sym gives.1) (set-apart places picked place apart before)
  given-apart (inr same) apart before = subst AreApart (sym same) apart

  pub given-before : (place' : ℕ) → place < place' → GivesPlace wanted places places' picked place count sum → AllByRecursion (IsBefore place) places
      → AllByRecursion (IsBefore place') places'
  given-before place' less (inl gives) before =
      subst (AllByRecursion (IsBefore place')) (sym gives.1)
      (all-set (IsBefore place') places picked (Some place) (all-before-more place place' places (omega arith) before) less)
  given-before place' less (inr same) before =
      subst (AllByRecursion (IsBefore place')) (sym same) (all-before-more place place' places (omega arith) before)

  -- to a codestream that stands there
  pub given-standing : (recording : Option (List ℕ)) (entry : Entry) (rest : List ℕ) → IsEntry entry → count ≡ length entry.bytes → sum ≡ sha256 entry.bytes
      → (Tells recording → drop place (known recording) ≡ entry.bytes ++ rest) → GivesPlace wanted places places' picked place count sum
      → AreStanding recording wanted places → AreStanding recording wanted places'
  given-standing recording entry rest is size sum_is at (inl gives) standing told =
      let fits = gives.0 in
      let here : StandsAt (known recording) fits.one place = record {
        entry = entry;
        is_entry = is;
        rest = rest;
        at = at told;
        size = fits.size_is ∙ size;
        sum = fits.sum_is ∙ ap (λ (s : List ℕ). Some s) sum_is;
      } in
      subst (AllZip (λ one place. IfSome place (StandsAt (known recording) one)) wanted) (sym gives.1)
      (zip-set (λ one place. IfSome place (StandsAt (known recording) one)) wanted places picked fits.one (Some place) (standing told) fits.is here)
  given-standing recording entry rest is size sum_is at (inr same) standing told =
      subst (AllZip (λ one place. IfSome place (StandsAt (known recording) one)) wanted) (sym same) (standing told)

-- ---- the bytes from a place on

-- The reader's bytes are those from this place on.
abbrev pub IsAt : Option (List ℕ) → Option (List ℕ) → ℕ → Type 0
IsAt recording left place = Tells recording → Tells left × (known left ≡ drop place (known recording))

pub at-first : (recording : Option (List ℕ)) → IsAt recording recording 0
at-first recording told = (told, refl)

-- after a codestream
pub at-codestream : (recording left left' : Option (List ℕ)) (place : ℕ) (entry : Entry) → IsAt recording left place → Gave left left' (λ bytes. bytes ≡ entry.bytes) → Tells recording
    → drop place (known recording) ≡ entry.bytes ++ known left'
at-codestream recording left left' place entry at gave told =
    let here = at told in
    let read = gave here.0 in
    sym here.1 ∙ read.2 ∙ ap (λ s. s ++ known left') read.3

pub at-more : (recording left left' : Option (List ℕ)) (place size : ℕ) (entry : Entry) → IsAt recording left place → Gave left left' (λ bytes. bytes ≡ entry.bytes) → size ≡ length entry.bytes
    → IsAt recording left' (place + size)
at-more recording left left' place size entry at gave sized told =
    let here = at told in
    let read = gave here.0 in (
      read.0,
      sym (drop_at entry.bytes (known left') size (sym sized)) ∙ ap (drop size) (sym (at-codestream recording left left' place entry at gave told)) ∙ drop-drop size place (known recording),
    )

-- after a gap
pub at-gap : (recording left left' : Option (List ℕ)) (place count : ℕ) → IsAt recording left place → (Tells left → Tells left' × (known left' ≡ drop count (known left))) → IsAt recording left' (place + count)
at-gap recording left left' place count at gave told =
    let here = at told in
    let passed = gave here.0 in
    (passed.0, passed.1 ∙ ap (drop count) here.1 ∙ drop-drop count place (known recording))

-- ---- a step

module _ (recording left left' : Option (List ℕ)) (wanted : List Wanted) (places places' : List (Option ℕ)) (place : ℕ) where
  pub step-at : (s : Standing) → IsAt recording left place → GaveStanding left left' s → IsAt recording left' (place + size_standing s)
  step-at (Codestream entry) at gave = at-more recording left left' place (length entry.bytes) entry at gave.1 refl
  step-at (Gap count) at gave = at-gap recording left left' place count at gave

  pub step-apart : (s : Standing) → GivesStanding wanted places places' place s → AreApart places → AllByRecursion (IsBefore place) places → AreApart places'
  step-apart (Codestream entry) gives apart before =
      given-apart wanted places places' gives.0 place (length entry.bytes) (sha256 entry.bytes) gives.1 apart before
  step-apart (Gap count) same apart before = subst AreApart (sym same) apart

  pub step-before : (s : Standing) → GaveStanding left left' s → GivesStanding wanted places places' place s → AllByRecursion (IsBefore place) places
      → AllByRecursion (IsBefore (place + size_standing s)) places'
  step-before (Codestream entry) gave gives before =
      let some : 0 < length entry.bytes = some_outlined entry.bytes gave.0.outline gave.0.complete in
      given-before wanted places places' gives.0 place (length entry.bytes) (sha256 entry.bytes) (place + length entry.bytes) (omega arith) gives.1 before
  step-before (Gap count) gave same before =
      subst (AllByRecursion (IsBefore (place + count))) (sym same) (all-before-more place (place + count) places (omega arith) before)

  pub step-standing : (s : Standing) → IsAt recording left place → GaveStanding left left' s → GivesStanding wanted places places' place s
      → AreStanding recording wanted places → AreStanding recording wanted places'
  step-standing (Codestream entry) at gave gives standing =
      given-standing wanted places places' gives.0 place (length entry.bytes) (sha256 entry.bytes) recording entry (known left') gave.0 refl refl
      (at-codestream recording left left' place entry at gave.1) gives.1 standing
  step-standing (Gap count) at gave same standing = subst (λ p. AreStanding recording wanted p) (sym same) standing
