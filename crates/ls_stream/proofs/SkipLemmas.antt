-- Skipping scans, whose data isn't decoded.
use Rattle.std.proofs.Common.{◌≡◌, ℕ, ◌+◌, ◌-◌, ◌≤◌, List, [], ◌∷◌, ◌++◌, length, take, drop, Result, Ok, Err, refl, sym, ap, ◌∙◌, arith, take-append-drop, length-append}
use Rattle.ls_bits.specs.Bits.{AreBytes}
use Rattle.ls_frame.specs.Parameters.{Parameters}
use Rattle.ls_stream.specs.declared.faults.StreamFault.{StreamFault}
use Rattle.ls_stream.specs.declared.segments.read.FrameHeader.{FrameHeader}
use Rattle.ls_stream.specs.Grammar.{most_bytes}
use Rattle.ls_stream.specs.View.Reading.{◌>>=◌, Take, opening_at, next_scan_at, end_at}
use Rattle.ls_stream.specs.View.Outlines.{after_data, data_at, Outline, ids_in, scans_at, rest_of, outline_at, fault_of, of_all, outline_of}
use Rattle.ls_stream.specs.View.Openings.{Opened, IsOutlineFrom}
use Rattle.ls_stream.proofs.StepLemmas.{step_is}
use Rattle.ls_stream.proofs.FrameReadingLemmas.{left_short}

-- ---- the scans

-- converting what was read leaves the same bytes
made_of : {X Y : Type 0} (r : Take X) (f : X × List ℕ → Y) → rest_of (r >>= λ found. Ok (f found, found.1)) ≡ rest_of r
made_of (Ok found) f = refl
made_of (Err fault) f = refl

-- after the header of the next scan
pub rest_more : (id : ℕ) (later bytes rest : List ℕ) → next_scan_at id (after_data bytes) ≡ Ok rest → rest_of (scans_at (id ∷ later) bytes) ≡ rest_of (scans_at later rest)
unfolding scans_at
rest_more id later bytes rest e =
    ap rest_of (step_is (next_scan_at id (after_data bytes)) (λ r. scans_at later r >>= λ found. Ok (data_at bytes ∷ found.0, found.1)) rest e)
    ∙ made_of (scans_at later rest) (λ found. data_at bytes ∷ found.0)

-- if that header can't be read
pub rest_stopped : (id : ℕ) (later bytes : List ℕ) (fault : StreamFault) → next_scan_at id (after_data bytes) ≡ Err fault → rest_of (scans_at (id ∷ later) bytes) ≡ Err fault
unfolding scans_at
rest_stopped id later bytes fault e =
    ap (λ (next : Result (List ℕ) StreamFault). rest_of (next >>= λ r. scans_at later r >>= λ found. Ok (data_at bytes ∷ found.0, found.1))) e

rest_end : (stuffed : List ℕ) (r : Result (List ℕ) StreamFault) → rest_of (r >>= λ rest. Ok (stuffed ∷ [], rest)) ≡ r
rest_end stuffed (Ok rest) = refl
rest_end stuffed (Err fault) = refl

-- after the last one
pub rest_last : (bytes : List ℕ) → rest_of (scans_at [] bytes) ≡ end_at (after_data bytes)
unfolding scans_at
rest_last bytes = rest_end (data_at bytes) (end_at (after_data bytes))

-- ---- all of it

has_rest : {X : Type 0} (r : Take X) (left : List ℕ) → rest_of r ≡ Ok left → (x : X) × (r ≡ Ok (x, left))
has_rest (Ok found) left e = let same : found.1 ≡ left = cc in (found.0, ap (λ rest. Ok (found.0, rest)) same)
has_rest (Err fault) left e = absurd cc

has_fault : {X : Type 0} (r : Take X) (fault : StreamFault) → rest_of r ≡ Err fault → r ≡ Err fault
has_fault (Ok found) fault e = absurd cc
has_fault (Err other) fault e = let same : other ≡ fault = cc in ap (λ (f : StreamFault). Err f) same

abbrev outline : FrameHeader × Parameters × List ℕ → List (List ℕ) → Outline
outline opening scans = record { header = opening.0; parameters = opening.1; scans = scans }

-- the scans after an opening were skipped
pub skipped : (opened : Opened) (header : FrameHeader) (p : Parameters) (rest left : List ℕ) → AreBytes (take most_bytes opened.bytes)
    → opening_at (take most_bytes opened.bytes) ≡ Ok (header, p, rest) → rest_of (scans_at (drop 1 (ids_in header)) rest) ≡ Ok left
    → opened.precision ≡ header.precision → opened.kind ≡ header.kind → opened.width ≡ header.width → opened.height ≡ header.height → opened.parameters ≡ p
    → (length left ≤ length (take most_bytes opened.bytes))
    × ((o : Outline) × (all : List ℕ) × (outline_of opened.bytes ≡ Ok (o, all)) × (length (take most_bytes opened.bytes) - length left + length all ≡ length opened.bytes) × IsOutlineFrom opened o)
unfolding outline_of outline_at
skipped opened header p rest left are opens reads precision kind width height parameters =
    let bytes : List ℕ = opened.bytes in
    let first : List ℕ = take most_bytes bytes in
    let more : List ℕ = drop most_bytes bytes in
    let opening : FrameHeader × Parameters × List ℕ = (header, p, rest) in
    let scans = has_rest (scans_at (drop 1 (ids_in header)) rest) left reads in
    let o : Outline = outline opening scans.0 in
    let read : outline_at first ≡ Ok (o, left) =
    step_is (opening_at first) (λ opened. scans_at (drop 1 (ids_in opened.0)) opened.2 >>= λ found. Ok (outline opened found.0, found.1)) opening opens
    ∙ step_is (scans_at (drop 1 (ids_in header)) rest) (λ found. Ok (outline opening found.0, found.1)) (scans.0, left) scans.1 in
    let few = left_short first left o are read in
    let sizes : length bytes ≡ length first + length more = ap length (sym (take-append-drop most_bytes bytes)) ∙ length-append first more in
    let says : IsOutlineFrom opened o = record { precision = sym precision; kind = sym kind; width = sym width; height = sym height; parameters = sym parameters } in
    (few, (o, left ++ more, ap (of_all bytes) read, omega (arith, few, sizes, length-append left more), says))

-- the opening can't be read
pub not_opened : (bytes first : List ℕ) (fault : StreamFault) → first ≡ take most_bytes bytes → opening_at first ≡ Err fault → outline_of bytes ≡ Err (fault_of bytes fault)
unfolding outline_of outline_at
not_opened bytes first fault same opens =
    ap (λ (r : Result (FrameHeader × Parameters × List ℕ) StreamFault).
    of_all bytes (r >>= λ opened. scans_at (drop 1 (ids_in opened.0)) opened.2 >>= λ found. Ok (outline opened found.0, found.1)))
    (ap opening_at (sym same) ∙ opens)

-- the scans can't be read
pub not_skipped : (bytes : List ℕ) (header : FrameHeader) (p : Parameters) (rest : List ℕ) (fault : StreamFault) → opening_at (take most_bytes bytes) ≡ Ok (header, p, rest)
    → rest_of (scans_at (drop 1 (ids_in header)) rest) ≡ Err fault → outline_of bytes ≡ Err (fault_of bytes fault)
unfolding outline_of outline_at
not_skipped bytes header p rest fault opens reads =
    let opening : FrameHeader × Parameters × List ℕ = (header, p, rest) in
    let none = has_fault (scans_at (drop 1 (ids_in header)) rest) fault reads in
    ap (of_all bytes) (
    step_is (opening_at (take most_bytes bytes)) (λ opened. scans_at (drop 1 (ids_in opened.0)) opened.2 >>= λ found. Ok (outline opened found.0, found.1)) opening opens
    ∙ ap (λ (r : Take (List (List ℕ))). r >>= λ found. Ok (outline opening found.0, found.1)) none
    )
