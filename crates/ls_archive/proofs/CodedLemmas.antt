-- A film that is coded while its index is written.
use Rattle.std.proofs.Common.{◌≡◌, ℕ, IsSome, List, [], ◌++◌, take, Option, None, Some, Result, Ok, Err, IfOk, OnErr, MatchResult, refl, sym, subst, ◌∙◌}
use Rattle.std.specs.Io.KnownBytes.{Appends}
use Rattle.std.proofs.lemmas.List.{append_cancel_left}
use Rattle.ls_frame.specs.Netpbm.{IsImageOf}
use Rattle.ls_frame.specs.View.Known.{Tells}
use Rattle.ls_film.specs.Coding.{default_file}
use Rattle.ls_film.specs.View.Engine.{Completes}
use Rattle.ls_film.specs.declared.faults.FilmFault.{FilmFault}
use Rattle.ls_archive.specs.declared.following.Follower.{Follower}
use Rattle.ls_archive.specs.declared.following.Indexing.{Indexing}
use Rattle.ls_archive.specs.declared.faults.IndexFault.{IndexFault}
use Rattle.ls_archive.specs.View.Coded.{HasWritten, WritesIndex, CodesWithIndex}
use Rattle.ls_archive.specs.View.Following.{followed, index_of, following, broken, IsUntold, IsTold, HasRecorded, IsComplete}

module _ {I : Type 0} (contents : I → Option (List ℕ)) where
  -- an index that is written goes on or stops
  pub told-follows : (bytes : List ℕ) (old new : Option (Follower I)) (why why' : Option IndexFault) → IsTold contents bytes old why new why' → IsSome old → IsSome new
  told-follows bytes old new (Some fault) why' told some = subst IsSome (sym told.0) some
  told-follows bytes None new None why' told some = subst IsSome (sym told.0) some
  told-follows bytes (Some f) None None why' told some = absurd told
  told-follows bytes (Some f) (Some g) None why' told some = refl

-- a write, which may have failed, keeps what was written
module _ {W I E : Type 0} (recorded : W → Option (List ℕ)) (indexed : I → Option (List ℕ)) (start begun : Option (List ℕ)) (old new : Indexing W I) (buf : List ℕ) where
  pub written-on : (r : Result ℕ E) → HasWritten recorded indexed start begun old
      → ((bytes : List ℕ) → HasRecorded recorded indexed start begun bytes old
      → MatchResult r (λ taken. HasRecorded recorded indexed start begun (bytes ++ take taken buf) new) (λ _. HasRecorded recorded indexed start begun bytes new))
      → IfOk r (λ taken. IsTold indexed (take taken buf) (following old) (broken old) (following new) (broken new)) → OnErr r (IsUntold old new)
      → HasWritten recorded indexed start begun new
  written-on (Ok taken) has keeps told untold = record {
    bytes = has.bytes ++ take taken buf;
    both = keeps has.bytes has.both;
    follows = told-follows indexed (take taken buf) (following old) (following new) (broken old) (broken new) told has.follows;
  }
  written-on (Err failed) has keeps told untold = record {
    bytes = has.bytes;
    both = keeps has.bytes has.both;
    follows = subst IsSome (sym untold.0) has.follows;
  }

-- known bytes grew by one text alone
one-text : (start new : Option (List ℕ)) (bytes text : List ℕ) → Tells start → Appends start new bytes → Appends start new text → bytes ≡ text
one-text None new bytes text told grown grown' = let clash : ⊥ = cc in absurd clash
one-text (Some s) None bytes text told grown grown' = absurd grown
one-text (Some s) (Some t) bytes text told grown grown' = append_cancel_left s bytes text (sym grown ∙ grown')

module _ {I : Type 0} (contents : I → Option (List ℕ)) (read left start written begun : Option (List ℕ)) (f : Follower I) (why why' : Option IndexFault) where
  is-index : (bytes text : List ℕ) → bytes ≡ text → IsComplete contents begun bytes (Some f) why → (why ≡ None) × ((followed f).pending ≡ [])
      → WritesIndex text begun (contents (index_of f))
  is-index bytes text same complete ended =
      let of_none = subst (λ w. IsComplete contents begun bytes (Some f) w) ended.0 complete in
      subst (λ s. WritesIndex s begun (contents (index_of f))) same ((followed f).number, of_none ended.1)

  -- a film was coded with its index
  pub codes-with-index : (coded : Result ℕ FilmFault) (start' written' : Option (List ℕ)) → start' ≡ start → written' ≡ written
      → IfOk coded (Completes IsImageOf default_file read left start' written')
      → ((bytes : List ℕ) × Appends start written bytes × IsComplete contents begun bytes (Some f) why)
      → IfOk coded (λ _. why' ≡ None → (why ≡ None) × ((followed f).pending ≡ []))
      → IfOk coded (CodesWithIndex read left start written begun (contents (index_of f)) why')
  codes-with-index (Ok n) start' written' same same' ran both ended =
      let run : Completes IsImageOf default_file read left start written n =
      subst (λ s. Completes IsImageOf default_file read left s written n) same (subst (λ w. Completes IsImageOf default_file read left start' w n) same' ran) in
      record {
        run = run;
        indexed = λ whole told.
            is-index both.0 (default_file run.frames) (one-text start written both.0 (default_file run.frames) told both.1 run.wrote) both.2 (ended whole);
      }
  codes-with-index (Err fault) start' written' same same' ran both ended = ran
