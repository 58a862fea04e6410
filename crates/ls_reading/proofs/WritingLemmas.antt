-- What an engine wrote through a buffer for lines, told of the writer below it.
use Rattle.std.proofs.Common.{◌≡◌, ℕ, Bool, List, [], ◌++◌, Option, None, Some, ap, ◌∙◌, append-nil}
use Rattle.std.specs.Io.KnownBytes.{Appends, Keeps, append_known}
use Rattle.ls_frame.specs.Picture.{Picture}
use Rattle.ls_reading.specs.View.Commands.{WritesTextOf, WritesIndexOf}

-- the buffer was empty before, and was flushed in the end
pub flushed : (old mid new : Option (List ℕ)) (buffer bytes : List ℕ) → buffer ≡ [] → Keeps mid new → Appends (append_known old buffer) mid bytes
    → Appends old new bytes
flushed None mid new buffer bytes empty kept grown = _
flushed (Some known) None new buffer bytes empty kept grown = absurd grown
flushed (Some known) (Some all) None buffer bytes empty kept grown = absurd kept
flushed (Some known) (Some all) (Some more) buffer bytes empty kept grown =
    let unbuffered : known ++ buffer ≡ known = ap (λ (b : List ℕ). known ++ b) empty ∙ append-nil known in
    kept ∙ grown ∙ ap (λ (k : List ℕ). k ++ bytes) unbuffered

module _ {O : Type 0} (holds : O → List ℕ → Option (List ℕ) → Type 0) (opener : O) (path : List ℕ) (old mid new : Option (List ℕ)) (buffer : List ℕ)
    (empty : buffer ≡ []) (kept : Keeps mid new) where
  pub writes_text : (IsImage : List ℕ → Picture → Type 0) (text : List Picture → List ℕ) → WritesTextOf holds opener path (append_known old buffer) mid IsImage text
      → WritesTextOf holds opener path old new IsImage text
  writes_text IsImage text all = record {
    read = all.read;
    left = all.left;
    count = all.count;
    file = all.file;
    run = record {
      frames = all.run.frames;
      count = all.run.count;
      few = all.run.few;
      lawful = all.run.lawful;
      gave = all.run.gave;
      wrote = flushed old mid new buffer (text all.run.frames) empty kept all.run.wrote;
    };
  }

  pub writes_index : (sums : Bool) → WritesIndexOf holds opener path (append_known old buffer) mid sums → WritesIndexOf holds opener path old new sums
  writes_index sums all = record {
    read = all.read;
    left = all.left;
    count = all.count;
    file = all.file;
    run = record {
      entries = all.run.entries;
      count = all.run.count;
      few = all.run.few;
      gave = all.run.gave;
      wrote = flushed old mid new buffer _ empty kept all.run.wrote;
    };
  }
