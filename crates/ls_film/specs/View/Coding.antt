-- What is made of a film's frame that is coded as soon as it is read.
use Rattle.std.specs.Prelude.{◌≡◌, ℕ, List, Result, IfOk}
use Rattle.ls_frame.specs.Parameters.{default_parameters}
use Rattle.ls_frame.specs.Picture.{Picture}
use Rattle.ls_stream.specs.Layout.{codestream}

-- its codestream, with the default parameters of its maxval; or nothing, where an allocation failed for it
abbrev pub IsAttempt : {E : Type 0} → Picture → Result (List ℕ) E → Type 0
IsAttempt f attempt = IfOk attempt (λ bytes. bytes ≡ codestream f (default_parameters f.maxval))
