-- Bytes begin with one opening: its values are those with which reading the bytes from the left ends.
use Rattle.std.proofs.Common.{◌≡◌, ℕ, List, take, get_or, Ok, refl, sym, ◌∙◌, ap, subst}
use Rattle.ls_frame.specs.Picture.{components}
use Rattle.ls_bits.specs.Bits.{AreBytes}
use Rattle.ls_stream.specs.declared.segments.read.FrameHeader.{FrameHeader}
use Rattle.ls_stream.specs.Segments.{header_contents}
use Rattle.ls_stream.specs.Grammar.{most_bytes}
use Rattle.ls_stream.specs.View.Reading.{opening_at}
use Rattle.ls_stream.specs.View.Openings.{Opened, SaysSo}
use Rattle.ls_stream.proofs.StepLemmas.{same_ok}
use Rattle.ls_stream.proofs.HeaderLemmas.{HeaderRead}
use Rattle.ls_stream.proofs.FrameReadingLemmas.{bytes_take}
use Rattle.ls_inspect.proofs.BeginLemmas.{Read, begin_read}
use Rattle.ls_c.specs.declared.form.JlsrecForm.{JlsrecForm}
use Rattle.ls_c.specs.Calls.{form_by, HaveForm}

-- ---- its form

-- the form that is read
abbrev form_read : Read → JlsrecForm
form_read found = record {
  components = components found.0.kind;
  width = found.0.width;
  height = found.0.height;
  maxval = found.1.maxval;
  t1 = found.1.t1;
  t2 = found.1.t2;
  t3 = found.1.t3;
  reset = found.1.reset;
}

-- how many components a frame header has
count_at : (contents : List ℕ) (h : FrameHeader) → HeaderRead contents h → components h.kind ≡ get_or contents 5 0
unfolding header_contents
count_at contents h read = sym read.count ∙ sym (ap (λ (bs : List ℕ). get_or bs 5 0) read.whole)

record IsReadSo (bytes : List ℕ) (form : JlsrecForm) : Type 0 where
  found : Read
  opening : opening_at (take most_bytes bytes) ≡ Ok found
  same : form ≡ form_read found

read_so : (bytes : List ℕ) (opened : Opened) → AreBytes bytes → opened.bytes ≡ bytes → SaysSo opened → IsReadSo bytes (form_by opened)
read_so bytes opened are same says =
    let begins = says.begins in
    let first_are : AreBytes (take most_bytes opened.bytes) = bytes_take most_bytes opened.bytes (subst AreBytes (sym same) are) in
    let read = begin_read (take most_bytes opened.bytes) first_are begins in
    let count : components opened.kind ≡ components read.h.kind = says.kind ∙ sym (count_at begins.contents read.h read.header) in
    let width : opened.width ≡ read.h.width = says.width ∙ read.header.width_at in
    let height : opened.height ≡ read.h.height = says.height ∙ read.header.height_at in
    record {
      found = (read.h, begins.parameters, begins.rest);
      opening = ap (λ bs. opening_at (take most_bytes bs)) (sym same) ∙ read.opening;
      same = rw count (rw width (rw height (rw says.parameters refl)));
    }

one_form : (bytes : List ℕ) (form other : JlsrecForm) → IsReadSo bytes form → IsReadSo bytes other → other ≡ form
one_form bytes form other read again =
    again.same ∙ ap form_read (same_ok again.found read.found (sym again.opening ∙ read.opening)) ∙ sym read.same

-- the form of an opening that was read
pub has_form : (bytes : List ℕ) (opened : Opened) (form : JlsrecForm) → AreBytes bytes → opened.bytes ≡ bytes → SaysSo opened → form ≡ form_by opened → HaveForm bytes form
has_form bytes opened form are same says e = record {
  opened = opened;
  of_bytes = same;
  says = says;
  form_is = e;
  only = λ other other_same other_says.
      one_form bytes (form_by opened) (form_by other) (read_so bytes opened are same says) (read_so bytes other are other_same other_says) ∙ sym e;
}
