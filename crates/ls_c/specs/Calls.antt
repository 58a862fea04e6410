-- What the exported calls promise.
use Rattle.std.specs.Prelude.{◌≡◌, ◌≢◌, ◌⊎◌, ◌↔◌, ℕ, ◌<◌, ◌≤◌, nat_le, List, [], ◌∷◌, ◌++◌, length, take, drop, Option, None, Some, Ok, ◌-◌, ◌*◌}
use Rattle.ls_frame.specs.Picture.{Picture, IsFrame, components}
use Rattle.ls_stream.specs.declared.faults.StreamFault.{StreamFault}
use Rattle.ls_stream.specs.declared.faults.StreamFault.TheVariants.{NoMemory}
use Rattle.ls_stream.specs.Grammar.{Spells, most_bytes}
use Rattle.ls_stream.specs.Faults.{BeginsWithOpening}
use Rattle.ls_stream.specs.View.Outlines.{IsFirstFault}
use Rattle.ls_stream.specs.View.Openings.{Opened, SaysSo}
use Rattle.ls_stream.specs.View.Extents.{extent_at, IsNext, BeginsEndless}
use Rattle.ls_inspect.specs.Ends.{HasNoEnd}
use Rattle.ls_inspect.specs.Strict.{SpellsStrictly, SpellsLoosely}
use Rattle.ls_c.specs.declared.form.JlsrecForm.{JlsrecForm}
use Rattle.ls_c.specs.declared.form.JlsrecFault.{JlsrecFault}
use Rattle.ls_c.specs.declared.request.Layout.{Layout}
use Rattle.ls_c.specs.declared.refusal.Refusal.{Refusal}
use Rattle.ls_c.specs.declared.refusal.Refusal.TheVariants as refusal
use Rattle.ls_c.specs.Forms.{unless_met, no_form, row_in, height_in, stride_in, KeepsGaps, picture_in, coded, rows_refusal, request_refusal, encode_refusal, IsOfForm}
use Rattle.ls_c.specs.Refusals.{number_of, status_by, fault_number, details, details_of, no_details}

-- Samples of at most `most`, laid out so, were encoded into a buffer.
pub record IsEncoding (most : ℕ) (form : JlsrecForm) (layout : Layout) (samples old new : List ℕ) (written status : ℕ) : Type 0 where
  -- the status, unless an allocation failed, which can happen only if everything but the samples' values is right
  pub status_is : (status ≡ 1) ⊎ (status ≡ status_by (encode_refusal most form layout samples (length old)))
  pub memory : status ≡ 1 → request_refusal most form layout (length samples) ≡ None
  -- status 0: the codestream of the picture is at the front, and the rest of the buffer is unchanged
  pub frame : status ≡ 0 → IsFrame (picture_in form layout samples)
  pub spells : status ≡ 0 → Spells (take written new) (picture_in form layout samples)
  pub done : status ≡ 0 → (written ≡ length (coded form layout samples)) × (new ≡ coded form layout samples ++ drop written old)
  -- another status: nothing is written; only if there is no room, `written` is the number of bytes needed
  pub kept : status ≢ 0 → new ≡ old
  pub need : status ≡ 2 → (written ≡ length (coded form layout samples)) × (length old < written)
  pub none : status ≢ 0 → status ≢ 2 → written ≡ 0

-- the form that an opening gives, with the coding parameters in force
abbrev pub form_by : Opened → JlsrecForm
form_by opened = record {
  components = components opened.kind;
  width = opened.width;
  height = opened.height;
  maxval = opened.parameters.maxval;
  t1 = opened.parameters.t1;
  t2 = opened.parameters.t2;
  t3 = opened.parameters.t3;
  reset = opened.parameters.reset;
}

-- The bytes begin with a complete legal opening (all before the data of the first scan), and the form is the one it gives.
pub record HaveForm (bytes : List ℕ) (form : JlsrecForm) : Type 0 where
  pub opened : Opened
  pub of_bytes : opened.bytes ≡ bytes
  pub says : SaysSo opened
  pub form_is : form ≡ form_by opened
  -- there is one form: however the opening is read, it gives this one
  pub only : (other : Opened) → other.bytes ≡ bytes → SaysSo other → form_by other ≡ form

-- the form is that of each frame whose codestream the bytes begin with
abbrev pub SaysForm : List ℕ → JlsrecForm → Type 0
SaysForm bytes form = (front rest : List ℕ) (f : Picture) → bytes ≡ front ++ rest → Spells front f → IsOfForm f form

-- the number of samples of a picture of this form
abbrev pub samples_of : JlsrecForm → ℕ
samples_of form = form.width * form.height * form.components

-- the bytes begin with a complete legal opening, and its picture fits in `room` samples of at most `most`
abbrev pub HaveFitting : ℕ → ℕ → List ℕ → Type 0
HaveFitting most room bytes = (form : JlsrecForm) × HaveForm bytes form × (form.maxval ≤ most) × (samples_of form ≤ room)

-- Samples are unchanged; or all are but the first ones, as many as the form that the bytes give has.
pub data KeepsBeyond (bytes old new : List ℕ) : Type 0 where
  same : new ≡ old → KeepsBeyond bytes old new
  but_its : (form : JlsrecForm) → HaveForm bytes form → drop (samples_of form) new ≡ drop (samples_of form) old → KeepsBeyond bytes old new

-- the refusal of a frame that doesn't fit in `room` samples of at most `most`, if it doesn't
abbrev pub within : ℕ → Picture → ℕ → Option Refusal
within most f room = unless_met (nat_le f.maxval most) refusal.NotEightBits (unless_met (nat_le (length f.samples) room) refusal.NoRoom None)

-- the samples of the picture at the front, and the rest unchanged
abbrev pub laid : List ℕ → List ℕ → List ℕ
laid samples old = samples ++ drop (length samples) old

-- Why the codestream at the front of the bytes isn't decoded into `room` samples of at most `most`, known before its data is read.
pub data IsUnopened (most room : ℕ) (bytes : List ℕ) (form : JlsrecForm) (fault : JlsrecFault) (refused : Refusal) : Type 0 where
  too_deep : refused ≡ refusal.NotEightBits → HaveForm bytes form → most < form.maxval → SaysForm bytes form → fault ≡ no_details
      → IsUnopened most room bytes form fault refused
  too_large : refused ≡ refusal.NoRoom → HaveForm bytes form → form.maxval ≤ most → room < samples_of form → SaysForm bytes form
      → fault ≡ no_details → IsUnopened most room bytes form fault refused
  at_fault : (first : StreamFault) → refused ≡ refusal.Stream first → first ≢ NoMemory → IsFirstFault bytes first
      → ((given : JlsrecForm) → HaveForm bytes given → ⊥) → ((front rest : List ℕ) (f : Picture) → bytes ≡ front ++ rest → Spells front f → ⊥) → fault ≡ details_of first → form ≡ no_form
      → IsUnopened most room bytes form fault refused

-- Bytes were decoded into a buffer of samples of at most `most`.
pub record IsDecoding (most : ℕ) (bytes old new : List ℕ) (form : JlsrecForm) (used : ℕ) (fault : JlsrecFault) (status : ℕ) : Type 0 where
  -- status 0: the first `used` bytes spell a frame, and its samples are at the front
  pub done : status ≡ 0 → (f : Picture) × (used ≤ length bytes) × Spells (take used bytes) f × IsOfForm f form × HaveForm bytes form
      × (new ≡ laid f.samples old) × (length f.samples ≤ length old) × (f.maxval ≤ most)
  -- if the bytes begin with a codestream of a frame, the result is that frame's, unless an allocation failed
  pub complete : (front rest : List ℕ) (f : Picture) → bytes ≡ front ++ rest → Spells front f
      → (status ≡ 1) ⊎ ((status ≡ status_by (within most f (length old))) × IsOfForm f form × (status ≡ 0 → (used ≡ length front) × (new ≡ laid f.samples old)))
  -- status 20 and above: the first fault
  pub faulty : 20 ≤ status → (first : StreamFault) × (status ≡ fault_number first) × (fault ≡ details_of first) × IsFirstFault bytes first
      × (first ≢ NoMemory)
  -- no room, or not 8 bits: the form is given, and it is the one that doesn't fit, whatever the data
  pub no_room : status ≡ 2 → HaveForm bytes form × (form.maxval ≤ most) × (length old < samples_of form)
  pub too_deep : status ≡ 14 → HaveForm bytes form × (most < form.maxval)
  -- a complete legal opening of a picture that doesn't fit is refused so, whatever the data
  pub deep : (given : JlsrecForm) → HaveForm bytes given → most < given.maxval → status ≡ 14
  pub long : (given : JlsrecForm) → HaveForm bytes given → given.maxval ≤ most → length old < samples_of given → status ≡ 2
  -- an allocation is tried only after a complete legal opening, of a picture that fits
  pub memory : status ≡ 1 → HaveFitting most (length old) bytes
  -- there is no other status; and what the caller's memory holds after each
  pub statuses : (status ≡ 0) ⊎ (status ≡ 1) ⊎ (status ≡ 2) ⊎ (status ≡ 14) ⊎ (20 ≤ status)
  pub kept : status ≢ 0 → status < 20 → new ≡ old
  pub beyond : 20 ≤ status → KeepsBeyond bytes old new
  pub unused : status ≢ 0 → used ≡ 0
  pub formless : status ≢ 0 → status ≢ 2 → status ≢ 14 → form ≡ no_form
  pub faultless : status < 20 → fault ≡ no_details

-- why the rows of a picture of this form aren't laid out so in memory for `room` samples
abbrev pub room_refusal : JlsrecForm → Layout → ℕ → Option Refusal
room_refusal form layout room = rows_refusal refusal.NoRoom (row_in form layout) layout.stride (height_in form layout) room

-- Bytes were decoded into a buffer of samples of at most `most`, laid out so.
pub data IsLaidOut (most : ℕ) (bytes : List ℕ) (layout : Layout) (old new : List ℕ) (form : JlsrecForm) (used : ℕ) (fault : JlsrecFault) (status : ℕ) : Type 0 where
  -- A complete legal opening of a picture that fits without gaps, but not if it's laid out so. It is refused so, whatever the data.
  unfit : (refused : Refusal) → room_refusal form layout (length old) ≡ Some refused → status ≡ number_of refused
      → HaveForm bytes form → form.maxval ≤ most → samples_of form ≤ length old → new ≡ old → used ≡ 0 → fault ≡ no_details
      → IsLaidOut most bytes layout old new form used fault status
  -- It is as for decoding in the order of pixels, which leaves `pixels` in the same buffer. After status 0 the samples of the picture are
  -- laid out so, and the others unchanged.
  decoded : (pixels : List ℕ) → IsDecoding most bytes old pixels form used fault status
      → ((given : JlsrecForm) → HaveFitting most (length old) bytes → HaveForm bytes given → room_refusal given layout (length old) ≡ None)
      → length new ≡ length old
      → (status ≡ 0 → pixels ≡ laid (picture_in form layout new).samples old)
      → (status ≡ 0 → KeepsGaps (row_in form layout) (stride_in form layout) (height_in form layout) old new)
      → (status ≢ 0 → new ≡ pixels)
      → IsLaidOut most bytes layout old new form used fault status

-- The form of the codestream at the front of the bytes was read, from its opening alone.
pub record IsReading (bytes : List ℕ) (form : JlsrecForm) (fault : JlsrecFault) (status : ℕ) : Type 0 where
  -- status 0: the bytes begin with a complete legal opening, and the form is the one it gives
  pub done : status ≡ 0 → HaveForm bytes form × (fault ≡ no_details)
  -- a complete legal opening is read, whatever follows it
  pub legal : BeginsWithOpening (take most_bytes bytes) → status ≡ 0
  -- if they begin with a codestream of a frame, the form is that frame's
  pub complete : (front rest : List ℕ) (f : Picture) → bytes ≡ front ++ rest → Spells front f → (status ≡ 0) × IsOfForm f form
  -- another status: the first fault of the bytes
  pub faulty : status ≢ 0 → (first : StreamFault) × (status ≡ fault_number first) × (20 ≤ status) × (fault ≡ details_of first)
      × IsFirstFault bytes first × (form ≡ no_form)

-- The next codestream, found by its markers alone, is the first `extent` of the bytes.
pub record IsExtent (bytes : List ℕ) (extent status : ℕ) : Type 0 where
  pub statuses : (status ≡ 0) ⊎ (status ≡ 1) ⊎ (status ≡ 39)
  pub within : extent ≤ length bytes
  pub next : status ≡ 0 → bytes ≢ [] → IsNext (take extent bytes) (drop extent bytes)
  pub complete : (front rest : List ℕ) (f : Picture) → bytes ≡ front ++ rest → Spells front f → (status ≡ 1) ⊎ ((status ≡ 0) × (extent ≡ length front))
  -- they have the first fault of all bytes
  pub fault : status ≡ 0 → (cause : StreamFault) → IsFirstFault (take extent bytes) cause ↔ IsFirstFault bytes cause
  pub memory : status ≡ 1 → 0 < length bytes
  pub too_large : status ≡ 39 → BeginsEndless bytes
  pub none : status ≢ 0 → extent ≡ 0

-- Codestreams stand one after the other at the front of the bytes, with these sizes, and the rest after them. Each size is what `IsExtent`
-- says at its place, and there the markers lead from SOI to EOI.
abbrev pub AreExtents : List ℕ → List ℕ → List ℕ → Type 0
AreExtents bytes [] rest = bytes ≡ rest
AreExtents bytes (size ∷ sizes) rest = IsExtent bytes size 0 × (extent_at (take size bytes) ≡ Ok []) × AreExtents (drop size bytes) sizes rest

-- Why there is no further size, with the rest of the bytes and room for `left` more sizes: no bytes are left; bytes are left, but no room;
-- or their markers don't lead to EOI.
pub data IsStop (rest : List ℕ) (left : ℕ) (fault : JlsrecFault) (status : ℕ) : Type 0 where
  at_end : status ≡ 0 → rest ≡ [] → fault ≡ no_details → IsStop rest left fault status
  full : status ≡ 2 → rest ≢ [] → left ≡ 0 → fault ≡ no_details → IsStop rest left fault status
  no_end : (first : StreamFault) → status ≡ fault_number first → rest ≢ [] → 0 < left → HasNoEnd rest first → fault ≡ details_of first → IsStop rest left fault status

-- The sizes of the codestreams at the front of the bytes were found by their markers alone.
pub record IsExtents (bytes old new : List ℕ) (found : ℕ) (fault : JlsrecFault) (status : ℕ) : Type 0 where
  pub within : found ≤ length old
  pub rest : List ℕ
  pub sizes : AreExtents bytes (take found new) rest
  pub kept : drop found new ≡ drop found old
  pub stop : IsStop rest (length old - found) fault status
  -- if the rest begins with a codestream of a frame, there was no room for its size
  pub complete : (front more : List ℕ) (f : Picture) → rest ≡ front ++ more → Spells front f → status ≡ 2

-- The codestream at the front of the bytes was decoded, and the data of its scans compared with those that encoding gives.
pub record IsStrictness (bytes : List ℕ) (used : ℕ) (fault : JlsrecFault) (status : ℕ) : Type 0 where
  pub statuses : (status ≡ 0) ⊎ (status ≡ 1) ⊎ (status ≡ 15) ⊎ (20 ≤ status)
  pub within : used ≤ length bytes
  -- status 0: the first `used` bytes are a codestream with exactly these data
  pub strict : status ≡ 0 → (f : Picture) × SpellsStrictly (take used bytes) f
  -- status 15: they are a codestream, and the scan of the fault's component is the first with other data
  pub loose : status ≡ 15 → (f : Picture) × SpellsLoosely (take used bytes) f fault.component
  pub never : status ≡ 15 → (f : Picture) → SpellsStrictly (take used bytes) f → ⊥
  -- if the bytes begin with a codestream of a frame, it is the one that is looked at, unless an allocation failed
  pub complete : (front rest : List ℕ) (f : Picture) → bytes ≡ front ++ rest → Spells front f
      → (status ≡ 1) ⊎ (((status ≡ 0) ⊎ (status ≡ 15)) × (used ≡ length front))
  -- status 20 and above: the first fault
  pub faulty : 20 ≤ status → (first : StreamFault) × (status ≡ fault_number first) × (fault ≡ details_of first) × IsFirstFault bytes first
      × (first ≢ NoMemory)
  -- an allocation is tried only after a complete legal opening
  pub memory : status ≡ 1 → BeginsWithOpening (take most_bytes bytes)
  pub unused : status ≢ 0 → status ≢ 15 → used ≡ 0
  pub faultless : status < 15 → fault ≡ no_details
  pub details : status ≡ 15 → fault ≡ details fault.component 0 0

-- A buffer to which a text was written, cut to fit, with a 0 after it; the rest is unchanged.
abbrev pub printed : List ℕ → List ℕ → List ℕ
printed text [] = []
printed text (first ∷ more) = take (length more) text ++ 0 ∷ drop (length (take (length more) text)) more
