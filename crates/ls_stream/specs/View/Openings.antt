-- An opening that was read: the part of a codestream before the data of its first scan.
use Rattle.std.specs.Prelude.{◌≡◌, ℕ, ◌<◌, ◌≤◌, List, take, slice_index, Ok}
use Rattle.ls_frame.specs.declared.frame.Kind.{Kind}
use Rattle.ls_frame.specs.declared.frame.Form.{Form}
use Rattle.ls_frame.specs.Picture.{Picture, components, sample_count, most_samples}
use Rattle.ls_frame.specs.Parameters.{Parameters}
use Rattle.ls_bits.specs.Bits.{AreBytes}
use Rattle.ls_stream.specs.declared.segments.read.FrameHeader.{FrameHeader}
use Rattle.ls_stream.specs.Segments.{field_of}
use Rattle.ls_stream.specs.Grammar.{most_bytes}
use Rattle.ls_stream.specs.Faults.{BeginsWithOpening}
use Rattle.ls_stream.specs.View.Outlines.{Outline}
use Rattle.ls_stream.specs.View.Reading.{opening_at}

-- the value of an opening in contracts: the bytes at whose front it is, the bits per sample, the form of its frame, and the coding
-- parameters
pub record Opened : Type 0 where
  pub bytes : List ℕ
  pub precision : ℕ
  pub kind : Kind
  pub width : ℕ
  pub height : ℕ
  pub parameters : Parameters

-- the bytes begin with a complete legal opening that has these values: bits per sample (P), components, lines (Y) and samples per line (X)
-- in its frame header, and the coding parameters
pub record SaysSo (opened : Opened) : Type 0 where
  pub begins : BeginsWithOpening (take most_bytes opened.bytes)
  pub precision : opened.precision ≡ slice_index begins.contents 0
  pub kind : components opened.kind ≡ slice_index begins.contents 5
  pub height : opened.height ≡ field_of begins.contents 1
  pub width : opened.width ≡ field_of begins.contents 3
  pub parameters : opened.parameters ≡ begins.parameters

-- it was read from the first bytes, no more than a codestream may have, and left these
pub record IsOpening (bytes : List ℕ) (header : FrameHeader) (p : Parameters) (rest : List ℕ) : Type 0 where
  pub are : AreBytes bytes
  pub read : opening_at (take most_bytes bytes) ≡ Ok (header, p, rest)
  pub width : 0 < header.width
  pub height : 0 < header.height
  pub few : sample_count header.kind header.width header.height ≤ most_samples

-- a frame of the form of an opening
pub record IsOfForm (opened : Opened) (f : Picture) : Type 0 where
  pub kind : f.kind ≡ opened.kind
  pub width : f.width ≡ opened.width
  pub height : f.height ≡ opened.height
  pub maxval : f.maxval ≡ opened.parameters.maxval

-- the form of an opening's frame
abbrev pub opened_form : Opened → Form
opened_form opened = record { kind = opened.kind; width = opened.width; height = opened.height; maxval = opened.parameters.maxval }

-- an outline whose headers agree with an opening
pub record IsOutlineFrom (opened : Opened) (o : Outline) : Type 0 where
  pub precision : o.header.precision ≡ opened.precision
  pub kind : o.header.kind ≡ opened.kind
  pub width : o.header.width ≡ opened.width
  pub height : o.header.height ≡ opened.height
  pub parameters : o.parameters ≡ opened.parameters
