-- Forms of pictures, and the layout of their samples in a caller's memory.
use Rattle.std.specs.Prelude.{◌≡◌, ◌≢◌, ◌<◌, ℕ, zero, suc, ◌+◌, ◌-◌, ◌*◌, ◌/◌, ◌%◌, ◌&&◌, ◌||◌, ◌==◌, nat_lt, nat_le, Bool, true, false, if◌then◌else◌, List, [], ◌++◌, length, take, drop, slice_index, position, Option, None, Some}
use Rattle.ls_frame.specs.declared.frame.Kind.{Kind}
use Rattle.ls_frame.specs.declared.frame.Kind.TheVariants.{Gray, Color}
use Rattle.ls_frame.specs.declared.presets.PresetFault.{PresetFault}
use Rattle.ls_frame.specs.Picture.{Picture, components, sample_count, most_samples, greatest}
use Rattle.ls_frame.specs.Parameters.{Parameters, limit_of, default_parameters, preset_fault}
use Rattle.ls_frame.specs.Tuning.{or_default}
use Rattle.ls_stream.specs.declared.arranged.Arrangement.{Arrangement}
use Rattle.ls_stream.specs.declared.arranged.Arrangement.TheVariants.{Pixels, Planes}
use Rattle.ls_stream.specs.Components.{arranged}
use Rattle.ls_stream.specs.Layout.{codestream}
use Rattle.ls_c.specs.declared.form.JlsrecForm.{JlsrecForm}
use Rattle.ls_c.specs.declared.request.Layout.{Layout}
use Rattle.ls_c.specs.declared.refusal.Refusal.{Refusal}
use Rattle.ls_c.specs.declared.refusal.Refusal.TheVariants as refusal

-- ---- forms

-- the kind of pictures with this number of components, 1 or 3
abbrev pub kind_of : ℕ → Kind
kind_of count = if count == 3 then Color else Gray

-- the picture of a form with these samples
abbrev pub picture : JlsrecForm → List ℕ → Picture
picture form samples = record { kind = kind_of form.components; width = form.width; height = form.height; maxval = form.maxval; samples = samples }

-- a form with default coding parameters
abbrev pub plain_form : ℕ → ℕ → ℕ → ℕ → JlsrecForm
plain_form components width height maxval = record { components = components; width = width; height = height; maxval = maxval; t1 = 0; t2 = 0; t3 = 0; reset = 0 }

abbrev pub no_form : JlsrecForm
no_form = plain_form 0 0 0 0

-- whether a number is 1 to 65535, as sides and maxvals are
abbrev pub is_sixteen_bits : ℕ → Bool
is_sixteen_bits n = nat_lt 0 n && nat_le n greatest

-- ---- coding parameters

-- the coding parameters that a form asks for; 0 means the default for its maxval
unfoldable pub parameters : JlsrecForm → Parameters
parameters form = let defaults = default_parameters form.maxval in record {
  maxval = form.maxval;
  t1 = or_default form.t1 defaults.t1;
  t2 = or_default form.t2 defaults.t2;
  t3 = or_default form.t3 defaults.t3;
  reset = or_default form.reset defaults.reset;
}

-- the number, or 0 if it has more than 16 bits; no parameter may be 0
abbrev pub narrowed : ℕ → ℕ
narrowed number = if nat_le number greatest then number else 0

-- ---- rows

-- a stride in bytes, in samples of this number of bytes; none if it splits a sample
abbrev pub in_samples : ℕ → ℕ → Option ℕ
in_samples size stride = if stride % size == 0 then Some (stride / size) else None

-- samples in the order of pixels, with a stride in samples; below, planes of samples of this number of bytes, with a stride in bytes
abbrev pub by_pixels : ℕ → Layout
by_pixels stride = record { arrangement = Pixels; stride = Some stride }

abbrev pub by_planes : ℕ → ℕ → Layout
by_planes size stride = record { arrangement = Planes; stride = in_samples size stride }

-- The number of samples in a row, of a picture of `count` components of this width: of all components, or of one. Below, the number of rows,
-- in all planes together.
abbrev pub row_of : Arrangement → ℕ → ℕ → ℕ
row_of Pixels count width = width * count
row_of Planes count width = width

abbrev pub height_of : Arrangement → ℕ → ℕ → ℕ
height_of Pixels count height = height
height_of Planes count height = height * count

-- the number of samples from the start of a row to that of the next; a stride of 0 means the number of samples in a row
abbrev pub stride_by : ℕ → Option ℕ → ℕ
stride_by row None = row
stride_by row (Some stride) = if stride == 0 then row else stride

-- the same of a form
abbrev pub row_in : JlsrecForm → Layout → ℕ
row_in form layout = row_of layout.arrangement (components (kind_of form.components)) form.width

abbrev pub height_in : JlsrecForm → Layout → ℕ
height_in form layout = height_of layout.arrangement (components (kind_of form.components)) form.height

abbrev pub stride_in : JlsrecForm → Layout → ℕ
stride_in form layout = stride_by (row_in form layout) layout.stride

-- the rows of these samples: one at the front, and one at each stride after it
abbrev pub rows_of : {A : Type 0} → ℕ → ℕ → ℕ → List A → List A
rows_of {A} row stride zero samples = []
rows_of {A} row stride (suc more) samples = take row samples ++ rows_of row stride more (drop stride samples)

-- the number of samples from the start of the first row to the end of the last
abbrev pub reach_of : ℕ → ℕ → ℕ → ℕ
reach_of row stride height = (height - 1) * stride + row

-- the samples that are in no row are as they were
abbrev pub KeepsGaps : ℕ → ℕ → ℕ → List ℕ → List ℕ → Type 0
KeepsGaps row stride height old new = (k : ℕ) → ((i j : ℕ) → i < height → j < row → k ≢ i * stride + j) → slice_index new k ≡ slice_index old k

-- the rows of a picture of this form
abbrev pub rows_in : JlsrecForm → Layout → List ℕ → List ℕ
rows_in form layout samples = rows_of (row_in form layout) (stride_in form layout) (height_in form layout) samples

-- the picture of a form whose samples are laid out so among these
abbrev pub picture_in : JlsrecForm → Layout → List ℕ → Picture
picture_in form layout samples = picture form (arranged layout.arrangement (components (kind_of form.components)) (rows_in form layout samples))

-- its codestream
abbrev pub coded : JlsrecForm → Layout → List ℕ → List ℕ
coded form layout samples = codestream (picture_in form layout samples) (parameters form)

-- ---- refusals

-- this refusal unless a condition is met, else the refusals that are checked next
abbrev pub unless_met : Bool → Refusal → Option Refusal → Option Refusal
unless_met met refused next = if met then next else Some refused

-- why a form isn't that of a frame: the refusal of the first condition that isn't met
abbrev pub form_refusal : JlsrecForm → Option Refusal
form_refusal form =
    unless_met (form.components == 1 || form.components == 3) refusal.Components
    (unless_met (is_sixteen_bits form.width && is_sixteen_bits form.height) refusal.Side
    (unless_met (nat_le (sample_count (kind_of form.components) form.width form.height) most_samples) refusal.TooManySamples
    (unless_met (is_sixteen_bits form.maxval) refusal.Maxval None)))

abbrev pub preset_refusal : Option PresetFault → Option Refusal → Option Refusal
preset_refusal None next = next
preset_refusal (Some fault) next = Some (refusal.Preset fault)

-- the first refusal, else the refusals that are checked next
abbrev pub or_next : Option Refusal → Option Refusal → Option Refusal
or_next None next = next
or_next (Some refused) next = Some refused

-- a stride that splits a sample is refused, else the refusals that are checked next
abbrev pub stride_refusal : Option ℕ → Option Refusal → Option Refusal
stride_refusal None next = Some refusal.Stride
stride_refusal (Some stride) next = next

-- why `height` rows of `row` samples each, with this stride, aren't among `count` samples; if these are too few, `short` is why
abbrev pub rows_refusal : Refusal → ℕ → Option ℕ → ℕ → ℕ → Option Refusal
rows_refusal short row stride height count =
    stride_refusal stride
    (unless_met (nat_le row (stride_by row stride)) refusal.Stride
    (unless_met (nat_le (reach_of row (stride_by row stride) height) count) short None))

-- why `count` samples of at most `most`, laid out so, can't be those of a picture of this form, whatever their values
abbrev pub request_refusal : ℕ → JlsrecForm → Layout → ℕ → Option Refusal
request_refusal most form layout count =
    or_next (form_refusal form)
    (unless_met (nat_le form.maxval most) refusal.NotEightBits
    (preset_refusal (preset_fault (parameters form))
    (rows_refusal refusal.TooFewSamples (row_in form layout) layout.stride (height_in form layout) count)))

abbrev pub is_none : {A : Type 0} → Option A → Bool
is_none None = true
is_none (Some x) = false

-- why a picture can't be encoded into `room` bytes: a sample over maxval, or a longer codestream
abbrev pub coding_refusal : Picture → Parameters → ℕ → Option Refusal
coding_refusal f p room =
    unless_met (is_none (position (λ sample. nat_lt f.maxval sample) f.samples)) refusal.SampleTooLarge
    (unless_met (nat_le (length (codestream f p)) room) refusal.NoRoom None)

-- why samples can't be encoded into `room` bytes
abbrev pub encode_refusal : ℕ → JlsrecForm → Layout → List ℕ → ℕ → Option Refusal
encode_refusal most form layout samples room =
    or_next (request_refusal most form layout (length samples)) (coding_refusal (picture_in form layout samples) (parameters form) room)

-- ---- the bound

-- a bound on the bytes of a codestream of this form: SOI, the frame header, preset parameters, a scan header for each component and EOI; and for
-- each component LIMIT bits per sample, seven to a byte, and one byte more
abbrev pub most_bytes_of : JlsrecForm → ℕ
most_bytes_of form =
    let count = components (kind_of form.components) in
    29 + 13 * count + count * (limit_of form.maxval * (form.width * form.height) / 7 + 1)

abbrev pub bound_by : Option Refusal → JlsrecForm → ℕ
bound_by None form = most_bytes_of form
bound_by (Some refused) form = 0

abbrev pub bound_of : JlsrecForm → ℕ
bound_of form = bound_by (form_refusal form) form

-- the picture has this kind, size and maxval
pub record IsOfForm (f : Picture) (form : JlsrecForm) : Type 0 where
  pub components : components f.kind ≡ form.components
  pub width : f.width ≡ form.width
  pub height : f.height ≡ form.height
  pub maxval : f.maxval ≡ form.maxval
