-- What `list` writes for a film.
use Rattle.std.specs.Prelude.{ℕ, ◌+◌, List, [], ◌∷◌, ◌++◌, flat_map, decimal, codes}
use Rattle.ls_frame.specs.declared.frame.Kind.{Kind}
use Rattle.ls_frame.specs.declared.frame.Kind.TheVariants.{Gray, Color}
use Rattle.ls_frame.specs.Picture.{Picture}
use Rattle.ls_frame.specs.Parameters.{bpp_of, limit_of, default_parameters}

abbrev pub kind_text : Kind → List ℕ
kind_text Gray = codes "gray"
kind_text Color = codes "color"

-- the numbers of a line after its kind: width, height, MAXVAL, P, T1, T2, T3, RESET, LIMIT
unfoldable pub columns : Picture → List ℕ
columns f = let p = default_parameters f.maxval in
    f.width ∷ f.height ∷ f.maxval ∷ bpp_of f.maxval ∷ p.t1 ∷ p.t2 ∷ p.t3 ∷ p.reset ∷ limit_of f.maxval ∷ []

-- a blank and the number
abbrev pub column : ℕ → List ℕ
column n = 32 ∷ decimal n

-- the line of frame n
unfoldable pub line : ℕ → Picture → List ℕ
line n f = decimal n ++ codes " " ++ kind_text f.kind ++ flat_map column (columns f) ++ codes "\n"

-- the lines of frames numbered from n on
abbrev pub lines_from : ℕ → List Picture → List ℕ
lines_from n [] = []
lines_from n (f ∷ frames) = line n f ++ lines_from (n + 1) frames

-- what `list` writes for a film
abbrev pub lines : List Picture → List ℕ
lines frames = lines_from 0 frames
