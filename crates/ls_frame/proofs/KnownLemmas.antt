-- A reader's known bytes after a read.
use Rattle.std.proofs.Common.{◌≡◌, ℕ, ◌+◌, ◌<◌, ◌≤◌, List, [], ◌∷◌, ◌++◌, length, take, get_or, Option, None, Some, IsSome, refl, sym, ap, ◌∙◌, arith}
use Rattle.std.specs.Io.KnownBytes.{Consumes}
use Rattle.std.proofs.lemmas.List.{length-take-le, take-append-le, take_all}
use Rattle.std.proofs.Math.Seq.{take-append-add}
use Rattle.ls_frame.specs.View.Known.{known}

pub known-consumed : (old new : Option (List ℕ)) (bytes : List ℕ) → IsSome old → Consumes old new bytes → IsSome new × (known old ≡ bytes ++ known new)
known-consumed None new bytes told h = let never : ⊥ = cc in absurd never
known-consumed (Some xs) None bytes told h = absurd h
known-consumed (Some xs) (Some ys) bytes told h = (refl, h)

-- a read that wrote `given` bytes of `read` after the first `held` of `chunk`
pub chunk-read : (chunk read post : List ℕ) (held given : ℕ) → held ≤ length chunk → given ≤ length read
    → take (held + given) (take held chunk ++ (read ++ post)) ≡ take held chunk ++ take given read
chunk-read chunk read post held given within some =
    let front : length (take held chunk) ≡ held = length-take-le held chunk within in
    ap (λ n. take (n + given) (take held chunk ++ (read ++ post))) (sym front)
    ∙ take-append-add (take held chunk) (read ++ post) given
    ∙ ap (λ s. take held chunk ++ s) (take-append-le given read post some)

-- a read into a buffer of one byte
pub one_byte : (buf : List ℕ) (given : ℕ) → length buf ≡ 1 → 0 < given → take given buf ≡ get_or buf 0 0 ∷ []
one_byte [] given one some = absurd (omega (arith, one))
one_byte (c ∷ []) given one some = take_all given (c ∷ []) (omega (arith, some))
one_byte (c ∷ d ∷ bytes) given one some = absurd (omega (arith, one))
