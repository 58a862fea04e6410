-- A context as the code has it: one signed number, which the decoder computes in two parts.
use Rattle.std.specs.Prelude.{ℕ, ℤ, pos, ◌+ℤ◌, ◌-ℤ◌, ◌*ℤ◌}
use Rattle.ls_frame.specs.Parameters.{Parameters}
use Rattle.ls_coding.specs.declared.neighbours.Neighbours.{Neighbours}
use Rattle.ls_coding.specs.Contexts.{d1, d2, d3, region, context_number}

-- the regions of a sample's gradients as one number, before A.3.4 changes any sign
unfoldable pub signed_context : Parameters → Neighbours → ℤ
signed_context p neighbours = context_number (region p (d1 neighbours)) (region p (d2 neighbours)) (region p (d3 neighbours))

-- the part of that number that the line above decides, by the gradients D1 and D2, from Rb, Rc and Rd; the region of D3 is the rest
unfoldable pub half_context : Parameters → ℕ → ℕ → ℕ → ℤ
half_context p b c d = pos 81 *ℤ region p (pos d -ℤ pos b) +ℤ pos 9 *ℤ region p (pos b -ℤ pos c)
