-- Bytes that don't begin with the next line of an index.
use Rattle.std.proofs.Common.{◌≡◌, ℕ, ◌<◌, List, [], ◌∷◌, ◌++◌, length, codes, Option, sym, ap, ◌∙◌, arith, length-append}
use Rattle.ls_frame.specs.View.Known.{Tells, Gave, known}
use Rattle.ls_archive.specs.View.Checking.{Line, IsLine, beginning}
use Rattle.ls_archive.specs.View.Checks.{IsOneLine, IsFrontLine, BeginsOtherwise}

-- bytes whose first line isn't the next line of an index don't begin with that
pub begins-otherwise : (index index' : Option (List ℕ)) (n offset : ℕ) (text : List ℕ) → Gave index index' (λ bytes. text ≡ bytes) → IsOneLine text → (Tells index → IsFrontLine (known index) text)
    → ((l : Line) → text ≡ l.text → IsLine n offset l → ⊥) → Tells index → BeginsOtherwise n offset (known index)
begins-otherwise index index' n offset text gave one front never told =
    let read = gave told in
    let size = length-append read.1 (known index') in
    let whole = ap length one.text_is in
    let last = length-append one.first (one.last ∷ []) in
    let some : 0 < length (known index) = omega (arith, ap length read.2, size, ap length read.3, whole, last) in (
      some,
      λ begins.
          let l = begins.0 in
          let is = begins.3 in
          let all = beginning n offset l.size ++ is.rest in
          let few : length all < 1024 = omega (arith, is.short, ap length is.text_is, length-append all (codes "\n")) in
          never l (front told all begins.1 (begins.2 ∙ ap (λ s. s ++ begins.1) is.text_is) is.one few ∙ sym is.text_is) is,
    )
