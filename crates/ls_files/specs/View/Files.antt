-- The files of sources and targets, and what is known of their bytes.
use Rattle.std.specs.Prelude.{◌≡◌, ◌⊎◌, ℕ, List, Option, None}
use Rattle.std.specs.Io.KnownBytes.{prepend_known}
use Rattle.ls_files.specs.declared.source.Source.{Source}
use Rattle.ls_files.specs.declared.target.Target.{Target}
use Rattle.ls_files.specs.View.Opened.{known_of}

module _ {O F : Type 0} where
  -- what is known of the bytes that a source has left
  abbrev pub left_in_source : (F → Option (List ℕ)) → Source O F → Option (List ℕ)
  left_in_source remaining source = known_of remaining source.file

  -- A source isn't open yet; or what is known of the bytes that it has left is what the file system says of the file at this path.
  abbrev pub ReadsFileAt : (O → List ℕ → Option (List ℕ) → Type 0) → (F → Option (List ℕ)) → O → List ℕ → Source O F → Type 0
  ReadsFileAt holds remaining opener path source = (source.file ≡ None) ⊎ holds opener path (left_in_source remaining source)

  -- what is known of the bytes in a target's file
  abbrev pub held_by_target : (F → Option (List ℕ)) → Target O F → Option (List ℕ)
  held_by_target contents target = known_of contents target.file

  -- the path of a target, as it was given
  abbrev pub path_of_target : Target O F → List ℕ
  path_of_target target = target.path.now

  -- what is known of the bytes of finished files, of which `kept` says these, and then of those in a target's file
  abbrev pub joined_in : {D : Type 0} → (D → List ℕ) → (F → Option (List ℕ)) → D → Target O F → Option (List ℕ)
  joined_in kept contents finished target = prepend_known (kept finished) (held_by_target contents target)
