-- An order: a picture, and the parameters to code it with.
use Rattle.std.specs.Prelude.{◌≡◌, ℕ, ◌<◌, ◌^◌, Bool, ◌&&◌, List, length}
use Rattle.ls_frame.specs.Picture.{Picture, same_picture}
use Rattle.ls_frame.specs.Parameters.{Parameters}
use Rattle.ls_stream.specs.Layout.{codestream, same_parameters}

-- a picture with parameters
abbrev pub Ordered : Type 0
Ordered = Picture × Parameters

-- the parameters are for the picture's maxval
abbrev pub IsOrder : Ordered → Type 0
IsOrder order = order.1.maxval ≡ order.0.maxval

-- pictures and parameters are equal
abbrev pub same_order : Ordered → Ordered → Bool
same_order a b = same_picture a.0 b.0 && same_parameters a.1 b.1

-- the codestream of an order
abbrev pub coded : Ordered → List ℕ
coded order = codestream order.0 order.1

-- The bytes are the codestream of the order, and are fewer than 2^32.
pub record IsCoded (order : Ordered) (bytes : List ℕ) : Type 0 where
  pub bytes_are : bytes ≡ coded order
  pub short : length bytes < 2 ^ 32
