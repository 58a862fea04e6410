-- The codestreams of a film, one after another.
use Rattle.std.proofs.Common.{◌≡◌, List, [], ◌∷◌, ◌++◌, sym, ap, ◌∙◌, append_assoc, append-nil}
use Rattle.ls_frame.specs.Picture.{Picture}
use Rattle.ls_frame.specs.Parameters.{default_parameters}
use Rattle.ls_stream.specs.Layout.{codestream}
use Rattle.ls_film.specs.Coding.{default_file}

pub default_file-push : (frames : List Picture) (f : Picture) → default_file (frames ++ f ∷ []) ≡ default_file frames ++ codestream f (default_parameters f.maxval)
default_file-push [] f = append-nil (codestream f (default_parameters f.maxval))
default_file-push (g ∷ frames) f =
    ap (λ s. codestream g (default_parameters g.maxval) ++ s) (default_file-push frames f)
    ∙ sym (append_assoc (codestream g (default_parameters g.maxval)) (default_file frames) (codestream f (default_parameters f.maxval)))
