use Rattle.std.proofs.Common.{◌≡◌, ◌+◌, ◌*◌, ◌<◌, ℕ, length, pos, ◌-ℤ◌}
use Rattle.std.specs.Prelude.{slice_index_or}
use Rattle.ls_coding.specs.Contexts.{region}
use Rattle.ls_coding.proofs.regions.fill_table.Given as goal

abbrev pub invariant-loop-place : goal.invariant-loop-place
invariant-loop-place l = record {
  whole : length l.table ≡ 2 * l.presets.maxval + 1;
  regions : (place : ℕ) → place < l.place → slice_index_or l.table place (pos 0) ≡ region l.presets (pos place -ℤ pos l.presets.maxval);
}
