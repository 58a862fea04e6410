-- Reading to EOI, part by part.
use Rattle.std.proofs.Common.{◌≡◌, ℕ, List, Some, Result, Ok, Err, refl, sym, ap, ◌∙◌}
use Rattle.ls_stream.specs.declared.faults.StreamFault.{StreamFault}
use Rattle.ls_stream.specs.declared.marker.Marker.{Marker}
use Rattle.ls_stream.specs.declared.marker.Marker.TheVariants.{StartOfImage, EndOfImage, StartOfScan, StartOfFrame, PresetParameters, Application, Comment, Other}
use Rattle.ls_stream.specs.Markers.{code_of}
use Rattle.ls_stream.specs.View.Reading.{◌>>=◌, start_at, marker_at, contents_at}
use Rattle.ls_stream.specs.View.Outlines.{after_data}
use Rattle.ls_stream.specs.View.Extents.{Left, after_segment, after_any, segments_at, extent_at}
use Rattle.ls_stream.proofs.PlaceLemmas.{segments_at-next, same_steps}
use Rattle.ls_inspect.specs.declared.markers.Part.{Part}
use Rattle.ls_inspect.specs.declared.markers.Part.TheVariants.{Segment, Scan, End}
use Rattle.ls_inspect.specs.Parts.{part_of, part_by, part_at}

-- where reading goes on after a part
go_on_after : Part → List ℕ → Left
go_on_after Segment rest = segments_at rest
go_on_after Scan rest = segments_at (after_data rest)
go_on_after End rest = Ok rest

abbrev go_on : Part × List ℕ → Left
go_on found = go_on_after found.0 found.1

-- two steps in either grouping
regrouped : {A B C : Type 0} (r : Result A StreamFault) (f : A → Result B StreamFault) (g : B → Result C StreamFault) → ((r >>= f) >>= g) ≡ (r >>= λ x. f x >>= g)
regrouped (Ok x) f g = refl
regrouped (Err fault) f g = refl

segment_goes_on : (bytes : List ℕ) → after_segment segments_at bytes ≡ (part_by (Some Segment) 0 bytes >>= go_on)
unfolding go_on_after
segment_goes_on bytes = sym (regrouped (contents_at bytes) (λ contents. Ok (Segment, contents.1)) go_on)

scan_goes_on : (bytes : List ℕ) → after_segment (λ stuffed. segments_at (after_data stuffed)) bytes ≡ (part_by (Some Scan) 0 bytes >>= go_on)
unfolding go_on_after
scan_goes_on bytes = sym (regrouped (contents_at bytes) (λ contents. Ok (Scan, contents.1)) go_on)

any_goes_on : (m : Marker) (bytes : List ℕ) → after_any segments_at m bytes ≡ (part_by (part_of m) (code_of m) bytes >>= go_on)
unfolding after_any go_on_after
any_goes_on StartOfImage bytes = refl
any_goes_on EndOfImage bytes = refl
any_goes_on StartOfScan bytes = scan_goes_on bytes
any_goes_on StartOfFrame bytes = segment_goes_on bytes
any_goes_on PresetParameters bytes = segment_goes_on bytes
any_goes_on (Application code) bytes = segment_goes_on bytes
any_goes_on Comment bytes = segment_goes_on bytes
any_goes_on (Other code) bytes = refl

segments_at-part : (bytes : List ℕ) → segments_at bytes ≡ (part_at bytes >>= go_on)
unfolding part_at
segments_at-part bytes =
    segments_at-next bytes
    ∙ same_steps (marker_at bytes) (λ next. after_any segments_at next.0 next.1) (λ next. part_by (part_of next.0) (code_of next.0) next.1 >>= go_on) (λ next e. any_goes_on next.0 next.1)
    ∙ sym (regrouped (marker_at bytes) (λ next. part_by (part_of next.0) (code_of next.0) next.1) go_on)

pub segments_at-fault : (bytes : List ℕ) (fault : StreamFault) → part_at bytes ≡ Err fault → segments_at bytes ≡ Err fault
segments_at-fault bytes fault found = segments_at-part bytes ∙ ap (λ r. r >>= go_on) found

pub segments_at-segment : (bytes rest : List ℕ) → part_at bytes ≡ Ok (Segment, rest) → segments_at bytes ≡ segments_at rest
unfolding go_on_after
segments_at-segment bytes rest found = segments_at-part bytes ∙ ap (λ r. r >>= go_on) found

pub segments_at-scan : (bytes rest : List ℕ) → part_at bytes ≡ Ok (Scan, rest) → segments_at bytes ≡ segments_at (after_data rest)
unfolding go_on_after
segments_at-scan bytes rest found = segments_at-part bytes ∙ ap (λ r. r >>= go_on) found

pub segments_at-end : (bytes rest : List ℕ) → part_at bytes ≡ Ok (End, rest) → segments_at bytes ≡ Ok rest
unfolding go_on_after
segments_at-end bytes rest found = segments_at-part bytes ∙ ap (λ r. r >>= go_on) found

pub extent_at-start : (bytes rest : List ℕ) → start_at bytes ≡ Ok rest → extent_at bytes ≡ segments_at rest
unfolding extent_at
extent_at-start bytes rest found = ap (λ r. r >>= segments_at) found

pub extent_at-fault : (bytes : List ℕ) (fault : StreamFault) → start_at bytes ≡ Err fault → extent_at bytes ≡ Err fault
unfolding extent_at
extent_at-fault bytes fault found = ap (λ r. r >>= segments_at) found

pub ruleset extent_lemmas = (extent_at-start, extent_at-fault, segments_at-fault, segments_at-segment, segments_at-scan, segments_at-end)
