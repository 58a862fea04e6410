-- The magnitude of a gradient's region, by the gradient's magnitude alone.
use Rattle.std.specs.Prelude.{ℕ, nat_lt, nat_le, if◌then◌else◌}
use Rattle.ls_frame.specs.Parameters.{Parameters}

abbrev pub size_region : Parameters → ℕ → ℕ
size_region p size =
    if nat_le p.t3 size then 4
    else (if nat_le p.t2 size then 3
    else (if nat_le p.t1 size then 2
    else (if nat_lt 0 size then 1 else 0)))
