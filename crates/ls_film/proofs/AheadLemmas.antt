-- Codestreams that were taken off a reader ahead of their turn, the work on them, and the next of them.
use Rattle.std.proofs.Common.{◌≡◌, ◌<◌, ℕ, suc, List, [], ◌∷◌, ◌++◌, length, take, drop, append-nil, Option, Ok, Err, Some, refl, sym, ap, subst, ◌∙◌, arith}
use Rattle.std.specs.Prelude.{slice_index_or, remove}
use Rattle.std.specs.List.{AllByRecursion}
use Rattle.std.proofs.lemmas.List.{take_all, drop_all}
use Rattle.ls_frame.specs.Picture.{Picture}
use Rattle.ls_frame.specs.View.Known.{WasAtEnd}
use Rattle.ls_stream.specs.declared.faults.StreamFault.{StreamFault}
use Rattle.ls_film.specs.declared.ahead.Ahead.{Ahead}
use Rattle.ls_film.specs.declared.ahead.After.TheVariants.{More, End, Fault}
use Rattle.ls_film.specs.declared.ahead.Fetched.{Fetched}
use Rattle.ls_film.specs.declared.codestreams.Unread.{Unread}
use Rattle.ls_film.specs.declared.codestreams.Unread.TheVariants.{Stream}
use Rattle.ls_film.specs.View.Ahead.{IsMade, AreTaken, ComesAfter, IsBatch, IsAhead, GivesAhead, codestreams_of}
use Rattle.ls_film.specs.View.Codestreams.{IsTaken, IsMadeOf, IsUnmade, IsUnread}
use Rattle.ls_film.proofs.CodestreamLemmas.{taken_frame, taken_fault}

-- ---- codestreams that were taken one after the other

-- one more was taken
pub taken-more : (read mid read' : Option (List ℕ)) (taken : List (List ℕ)) (bytes : List ℕ) → AreTaken read mid taken → IsTaken mid read' bytes
    → AreTaken read read' (taken ++ bytes ∷ [])
taken-more read mid read' [] bytes are is = (read', subst (λ r. IsTaken r read' bytes) (sym are) is, refl)
taken-more read mid read' (first ∷ more) bytes are is = (are.0, are.1, taken-more are.0 mid read' more bytes are.2 is)

-- more doesn't come after an end, nor after a fault
pub no-more-after-end : End ≡ More → ⊥
no-more-after-end is = let clash : ⊥ = cc in clash

pub no-more-after-fault : (fault : Unread) → Fault fault ≡ More → ⊥
no-more-after-fault fault is = let clash : ⊥ = cc in clash

-- ---- the work on jobs

module _ {T : Type 0} (made : Picture → T → Type 0) where
  -- it was done on a job, whose codestream stays
  abbrev pub Works : Fetched T → Fetched T → Type 0
  Works job job' = (job'.bytes ≡ job.bytes) × IsMade made job'

  abbrev pub EachWorks : List (Fetched T) → List (Fetched T) → Type 0
  EachWorks jobs jobs' = (i : ℕ) (d : Fetched T) → i < length jobs → Works (slice_index_or jobs i d) (slice_index_or jobs' i d)

  later : (job job' : Fetched T) (jobs jobs' : List (Fetched T)) → EachWorks (job ∷ jobs) (job' ∷ jobs') → EachWorks jobs jobs'
  later job job' jobs jobs' each i d lt = each (suc i) d (omega arith)

  pub all-made : (jobs jobs' : List (Fetched T)) → length jobs' ≡ length jobs → EachWorks jobs jobs' → AllByRecursion (IsMade made) jobs' × (codestreams_of jobs' ≡ codestreams_of jobs)
  all-made [] [] len each = (tt, refl)
  all-made [] (job' ∷ jobs') len each = let no : ⊥ = omega arith in absurd no
  all-made (job ∷ jobs) [] len each = let no : ⊥ = omega arith in absurd no
  all-made (job ∷ jobs) (job' ∷ jobs') len each =
      let first : Works job job' = each 0 job (omega arith) in
      let rest = all-made jobs jobs' (omega arith) (later job job' jobs jobs' each) in
      ((first.1, rest.0), ap (λ bytes. bytes.items ∷ codestreams_of jobs') first.0 ∙ ap (λ more. job.bytes.items ∷ more) rest.1)

-- ---- jobs where they stand

-- what was lent as a slice stands where it stood
pub lent-back : {A : Type 0} (whole lent after : List A) (len : ℕ) → lent ≡ whole → length lent ≡ len → length after ≡ length lent → take len (after ++ drop (length after) whole) ≡ after
lent-back whole lent after len same size kept =
    let none : drop (length after) whole ≡ [] = drop_all (length after) whole (omega (arith, kept, ap length same)) in
    ap (λ rest. take len (after ++ rest)) none ∙ ap (take len) (append-nil after) ∙ take_all len after (omega (arith, kept, size))

module _ {T : Type 0} where
  -- the first is taken off
  pub first-and-rest : (jobs : List (Fetched T)) (job : Fetched T) (rest : List (Fetched T)) → 0 < length jobs → job ≡ slice_index_or jobs 0 job → rest ≡ remove jobs 0 → jobs ≡ job ∷ rest
  first-and-rest [] job rest some is are = let no : ⊥ = omega arith in absurd no
  first-and-rest (first ∷ more) job rest some is are = ap (λ j. j ∷ more) (sym is) ∙ ap (λ js. job ∷ js) (sym are)

  -- none
  pub none-left : (jobs : List (Fetched T)) → length jobs ≡ 0 → jobs ≡ []
  none-left [] is = refl
  none-left (job ∷ jobs) is = let no : ⊥ = omega arith in absurd no

-- ---- the next of them

module _ {T : Type 0} (made : Picture → T → Type 0) (place read : Option (List ℕ)) where
  -- nothing was taken yet
  pub ahead-none : (ahead : Ahead T) → ahead.jobs.items ≡ [] → ahead.after ≡ More → IsAhead made place place ahead
  ahead-none ahead none more = record {
    mid = place;
    taken = rw none refl;
    worked = rw none tt;
    after = rw more refl;
  }

  -- where nothing is left of what was taken, the place is where the reader is
  pub none-ahead : (ahead : Ahead T) → ahead.jobs.items ≡ [] → ahead.after ≡ More → IsAhead made place read ahead → place ≡ read
  none-ahead ahead none more is =
      let same : place ≡ is.mid = rw none at is.taken in
      let here : is.mid ≡ read = rw more at is.after in same ∙ here

  -- the next were taken there, and worked on
  pub ahead-more : (before : Option (List ℕ)) (batch ahead : Ahead T) → place ≡ before → IsBatch before read batch → codestreams_of ahead.jobs.items ≡ codestreams_of batch.jobs.items
      → ahead.after ≡ batch.after → AllByRecursion (IsMade made) ahead.jobs.items → IsAhead made place read ahead
  ahead-more before batch ahead here is kept after worked = record {
    mid = is.mid;
    taken = subst (AreTaken place is.mid) (sym kept) (subst (λ r. AreTaken r is.mid (codestreams_of batch.jobs.items)) (sym here) is.taken);
    worked = worked;
    after = subst (ComesAfter is.mid read) (sym after) is.after;
  }

  -- the end, or a fault, comes next
  pub ends-ahead : (ahead : Ahead T) → ahead.jobs.items ≡ [] → ahead.after ≡ End → IsAhead made place read ahead → WasAtEnd place read
  ends-ahead ahead none end is =
      let same : place ≡ is.mid = rw none at is.taken in
      let at : WasAtEnd is.mid read = rw end at is.after in
      subst (λ r. WasAtEnd r read) (sym same) at

  pub fault-ahead : (ahead : Ahead T) (fault : Unread) → ahead.jobs.items ≡ [] → ahead.after ≡ Fault fault → IsAhead made place read ahead → GivesAhead made place read ahead (Err fault)
  fault-ahead ahead fault none after is =
      let same : place ≡ is.mid = rw none at is.taken in
      let at : IsUnread fault is.mid read = rw after at is.after in
      (place, is, subst (λ r. IsUnread fault r read) (sym same) at)

  -- a job comes next
  module _ (ahead rest : Ahead T) (job : Fetched T) (are : ahead.jobs.items ≡ job ∷ rest.jobs.items) (same : rest.after ≡ ahead.after) (is : IsAhead made place read ahead) where
    taken-first : (mid : Option (List ℕ)) × IsTaken place mid job.bytes.items × AreTaken mid is.mid (codestreams_of rest.jobs.items)
    taken-first = rw are at is.taken

    worked-first : IsMade made job × AllByRecursion (IsMade made) rest.jobs.items
    worked-first = rw are at is.worked

    left : IsAhead made taken-first.0 read rest
    left = record {
      mid = is.mid;
      taken = taken-first.2;
      worked = worked-first.1;
      after = subst (ComesAfter is.mid read) (sym same) is.after;
    }

    pub gives-made : (x : T) → job.made ≡ Ok x → GivesAhead made place read rest (Ok (Some x))
    gives-made x ok =
        let of : IsMadeOf made job.bytes.items x = rw ok at worked-first.0 in
        (taken-first.0, left, of.0, taken_frame place taken-first.0 job.bytes.items taken-first.1 of.1 of.0 of.2, of.3)

    pub gives-fault : (fault : StreamFault) → job.made ≡ Err fault → GivesAhead made place read rest (Err (Stream fault))
    gives-fault fault err =
        let of : IsUnmade job.bytes.items fault = rw err at worked-first.0 in
        (taken-first.0, left, taken_fault place taken-first.0 job.bytes.items taken-first.1 fault read of)
