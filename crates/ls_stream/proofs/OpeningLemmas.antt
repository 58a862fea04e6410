-- What an opening determines of the frame.
use Rattle.std.proofs.Common.{◌≡◌, ℕ, List, ◌++◌, take, Ok, get_or, refl, sym, ◌∙◌, ap}
use Rattle.ls_bits.specs.Bits.{AreBytes}
use Rattle.ls_frame.specs.Picture.{Picture, IsFrame, components}
use Rattle.ls_frame.specs.Parameters.{Parameters}
use Rattle.ls_stream.specs.declared.segments.read.FrameHeader.{FrameHeader}
use Rattle.ls_stream.specs.Segments.{header_contents}
use Rattle.ls_stream.specs.Grammar.{Spells, most_bytes}
use Rattle.ls_stream.specs.View.Reading.{opening_at}
use Rattle.ls_stream.specs.View.Outlines.{Outline, IsOutlineOf, outline_at}
use Rattle.ls_stream.specs.View.Openings.{IsOfForm, SaysSo}
use Rattle.ls_stream.proofs.HeaderLemmas.{HeaderRead}
use Rattle.ls_stream.proofs.OutlineLemmas.{opening_read}
use Rattle.ls_stream.proofs.FaultLaws.{opening_has, parameters_stand}
use Rattle.ls_stream.proofs.FrameReadingLemmas.{IsFoundAt, found_at, that_outline}

-- no front is a codestream if no outline fits a frame
pub no_front : (bytes first : List ℕ) → first ≡ take most_bytes bytes
    → ((o : Outline) (left : List ℕ) (f : Picture) → outline_at first ≡ Ok (o, left) → IsFrame f → IsOutlineOf f o → ⊥)
    → (front rest : List ℕ) (f : Picture) → bytes ≡ front ++ rest → Spells front f → ⊥
no_front bytes first same none front rest f e spelled =
    let there : IsFoundAt bytes front f = found_at bytes front rest f e spelled in
    none there.o there.left f (ap outline_at same ∙ there.outline_is) there.frame there.says

-- a frame that a front is a codestream of has the form of the opening
pub of_form : (bytes first : List ℕ) (header : FrameHeader) (p : Parameters) (opened : List ℕ) → first ≡ take most_bytes bytes
    → opening_at first ≡ Ok (header, p, opened) → (front rest : List ℕ) (f : Picture) → bytes ≡ front ++ rest → Spells front f
    → IsOfForm (record { bytes = bytes; precision = header.precision; kind = header.kind; width = header.width; height = header.height; parameters = p }) f
of_form bytes first header p opened same e front rest f split spelled =
    let there : IsFoundAt bytes front f = found_at bytes front rest f split spelled in
    let that = that_outline (take most_bytes bytes) header p opened there.left there.o (ap opening_at (sym same) ∙ e) there.outline_is in
    record {
      kind = sym there.says.kind ∙ ap (λ (h : FrameHeader). h.kind) that.header_is;
      width = sym there.says.width ∙ ap (λ (h : FrameHeader). h.width) that.header_is;
      height = sym there.says.height ∙ ap (λ (h : FrameHeader). h.height) that.header_is;
      maxval = sym there.says.maxval ∙ ap (λ (q : Parameters). q.maxval) that.parameters_are;
    }

-- how many components a frame header has
count_at : (contents : List ℕ) (h : FrameHeader) → HeaderRead contents h → components h.kind ≡ get_or contents 5 0
unfolding header_contents
count_at contents h read = sym read.count ∙ sym (ap (λ (bs : List ℕ). get_or bs 5 0) read.whole)

-- how many bits a sample has
bits_at : (contents : List ℕ) (h : FrameHeader) → HeaderRead contents h → h.precision ≡ get_or contents 0 0
unfolding header_contents
bits_at contents h read = sym read.precision ∙ sym (ap (λ (bs : List ℕ). get_or bs 0 0) read.whole)

-- an opening that was read has the values of the bytes
pub opening_says : (bytes : List ℕ) (h : FrameHeader) (p : Parameters) (opened : List ℕ) → AreBytes (take most_bytes bytes)
    → opening_at (take most_bytes bytes) ≡ Ok (h, p, opened)
    → SaysSo (record { bytes = bytes; precision = h.precision; kind = h.kind; width = h.width; height = h.height; parameters = p })
opening_says bytes h p opened are e =
    let read = opening_read (take most_bytes bytes) (h, p, opened) are e in
    record {
      begins = record {
        contents = read.contents;
        before = read.before;
        between = read.between;
        rest = opened;
        parameters = p;
        scan = opening_has (take most_bytes bytes) h p opened read;
        parameters_are = parameters_stand (take most_bytes bytes) h p opened read;
      };
      precision = bits_at read.contents h read.header;
      kind = count_at read.contents h read.header;
      height = sym read.header.height_at;
      width = sym read.header.width_at;
      parameters = refl;
    }
