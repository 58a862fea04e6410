-- What a generic callee asks of types that nest: a lifetime is within all that they live for. Each type has a lemma, since
-- what it lives for is listed twice at each level of nesting, too long for a search.
use base.Fml.{Lft}
use contract.BorrowLft.{◌⊑◌, ⊑_meet, ⊑_static}
use denote.RattleType.{RattleType}
use denote.Ref.{NamedLft}
use mir.Syntax.{named}
use borrow.Author.Rules.{in_lives}
use Rattle.std.proofs.Common.{rules, ◌++◌, []}
use Rattle.std.specs.contracts.option.Option.{the_row as option_row}
use Rattle.ls_frame.specs.contracts.device.Counted.{the_row as counted_row}
use Rattle.ls_files.specs.contracts.target.Target.{the_row as target_row}
use Rattle.ls_archive.specs.contracts.following.Indexing.{the_row as indexing_row}
use Rattle.ls_files.specs.contracts.keeper.Keeper.{the_row as keeper_row}
use Rattle.ls_opening.specs.contracts.names.Names.{the_row as names_row}
use Rattle.ls_opening.specs.contracts.film.Film.{the_row as film_row}
use Rattle.ls_opening.specs.contracts.pieces.Cutting.{the_row as cutting_row}
use Rattle.ls_opening.specs.contracts.pieces.Succession.{the_row as succession_row}
use Rattle.ls_opening.specs.contracts.pieces.BrokenIndex.{the_row as broken_index_row}
use Rattle.ls_opening.specs.contracts.pieces.Pieces.{the_row as pieces_row}
use Rattle.ls_recording.specs.contracts.watching.Watch.{the_row as watch_row}
use Rattle.ls_recording.specs.contracts.watching.times.TimesFile.{the_row as times_file_row}
use Rattle.ls_recording.specs.contracts.watching.times.PendingTimes.{the_row as pending_row}

-- a lifetime by itself, however the code names it
abbrev pub named-so : Lft → NamedLft
named-so l = record { mir = named 0; lft = l }

pub option : (κ : Lft) (T : RattleType) → κ ⊑ T.lives → κ ⊑ (option_row T).lives
option κ T p = simp (in_lives, p) (search rules)

pub counted : (κ : Lft) (T : RattleType) → κ ⊑ T.lives → κ ⊑ (counted_row T).lives
counted κ T p = simp (in_lives, p) (search rules)

pub indexing : (κ : Lft) (T U : RattleType) → κ ⊑ T.lives → κ ⊑ U.lives → κ ⊑ (indexing_row T U).lives
indexing κ T U p q = simp (in_lives, p, q) (search rules)

pub target : (κ : Lft) (a : NamedLft) (O F : RattleType) → κ ⊑ a.lft → κ ⊑ O.lives → κ ⊑ F.lives → κ ⊑ (target_row a O F).lives
target κ a O F p o f = simp (in_lives, p, o, f) (search rules)

pub watch : (κ : Lft) (a : NamedLft) (R : RattleType) → κ ⊑ a.lft → κ ⊑ R.lives → κ ⊑ (watch_row a R).lives
watch κ a R p r = simp (in_lives, p, r) (search rules)

pub keeper : (κ : Lft) (O D F : RattleType) → κ ⊑ O.lives → κ ⊑ D.lives → κ ⊑ F.lives → κ ⊑ (keeper_row O D F).lives
keeper κ O D F o d f = simp (in_lives, o, d, f) (search rules)

pub names : (κ : Lft) (a : NamedLft) → κ ⊑ a.lft → κ ⊑ (names_row a).lives
names κ a p = simp (in_lives, p) (search rules)

pub pending : (κ : Lft) (T U : RattleType) → κ ⊑ T.lives → κ ⊑ U.lives → κ ⊑ (pending_row T U).lives
pending κ T U p q = simp (in_lives, p, q) (search rules)

-- the parameters of a type over a file system
pub over : (κ : Lft) (O D F : RattleType) → κ ⊑ O.lives → κ ⊑ D.lives → κ ⊑ F.lives → κ ⊑ O.lives ++ (D.lives ++ (F.lives ++ []))
over κ O D F o d f = ⊑_meet κ _ _ o (⊑_meet κ _ _ d (⊑_meet κ _ _ f (⊑_static κ)))

module _ (κ : Lft) (a : NamedLft) (O D F : RattleType) (p : κ ⊑ a.lft) (o : κ ⊑ O.lives) (d : κ ⊑ D.lives) (f : κ ⊑ F.lives) where
  to-file : κ ⊑ (counted_row (target_row a O F)).lives
  to-file = counted κ (target_row a O F) (target κ a O F p o f)

  pub cutting : κ ⊑ (cutting_row a O D F).lives
  cutting = simp (in_lives, p, o, d, f) (search rules)

  pub succession : κ ⊑ (succession_row a O D F).lives
  succession = simp (in_lives, p, o, d, f) (search rules)

  pub broken-index : κ ⊑ (broken_index_row a O F).lives
  broken-index = simp (in_lives, p, o, f) (search rules)

  pub pieces : κ ⊑ (pieces_row a O D F).lives
  pieces = ⊑_meet κ _ _ (over κ O D F o d f) (⊑_meet κ _ _ (indexing κ (counted_row (target_row a O F)) (counted_row (target_row a O F)) to-file to-file)
      (⊑_meet κ _ _ d (⊑_meet κ _ _ (option κ (broken_index_row a O F) broken-index) (⊑_meet κ _ _ (option κ (succession_row a O D F) succession) (⊑_static κ)))))

  pub times-file : κ ⊑ (times_file_row a O F).lives
  times-file = simp (in_lives, p, o, f) (search rules)

  pub film : κ ⊑ (film_row a O D F).lives
  film = ⊑_meet κ _ _ (over κ O D F o d f) (⊑_meet κ _ _ (⊑_meet κ _ _ p (names κ a p)) (⊑_meet κ _ _ (keeper κ O D F o d f) (⊑_meet κ _ _ (option κ (cutting_row a O D F) cutting)
      (⊑_meet κ _ _ (option κ (keeper_row O D F) (keeper κ O D F o d f)) (⊑_meet κ _ _ (option κ (target_row a O F) (target κ a O F p o f)) (⊑_static κ))))))
