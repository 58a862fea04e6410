use Rattle.std.proofs.Common.{◌≡◌, ◌++◌, ◌-◌}
use Rattle.ls_c.specs.Forms.{rows_of}
use Rattle.ls_c.proofs.request.joined.Given as goal

abbrev pub invariant-loop-number : goal.invariant-loop-number
invariant-loop-number g l = l.joined.items ++ rows_of l.rows.row l.rows.stride (l.rows.height - l.number) l.rest ≡ rows_of l.rows.row l.rows.stride l.rows.height l.samples
