-- A comparison step by step, whichever source the recording's frames come from.
use Rattle.std.proofs.Common.{◌≡◌, ◌⊎◌, ℕ, List, Option, Some, None, sym, subst, inl, inr, refl}
use Rattle.ls_frame.specs.Netpbm.{IsImageOf}
use Rattle.ls_frame.specs.Picture.{Picture}
use Rattle.ls_frame.specs.View.Known.{Gave}
use Rattle.ls_stream.specs.declared.faults.StreamFault.{StreamFault}
use Rattle.ls_stream.specs.Grammar.{Spells}
use Rattle.ls_film.specs.declared.codestreams.Unread.TheVariants.{Stream}
use Rattle.ls_film.specs.View.Codestreams.{IsUnread}
use Rattle.ls_archive.specs.declared.verifying.Verdict.{Verdict}
use Rattle.ls_archive.specs.View.Verifying.{Finds, GaveNext, verdict_at, StopsRecording, recording_fault}
use Rattle.ls_archive.specs.View.Comparing.{GivesCoded, HasCompared}
use Rattle.ls_archive.proofs.VerifyLemmas.{stops_coded}

-- where the recording is at its end there is a verdict
some-verdict : (n : ℕ) (image : Option Picture) (verdict : Option Verdict) → verdict ≡ verdict_at n image None → verdict ≡ None → ⊥
some-verdict n (Some f) verdict is none = let clash : ⊥ = cc in absurd clash
some-verdict n None verdict is none = let clash : ⊥ = cc in absurd clash

pub compared : {S : Type 0} (stands : S → Option (List ℕ) → Option (List ℕ) → Type 0) (film film' place read : Option (List ℕ)) (source : S) (n : ℕ)
    (image coded : Option Picture) (verdict : Option Verdict)
    → GaveNext IsImageOf film film' image → GivesCoded stands place read source coded → verdict ≡ verdict_at n image coded → HasCompared stands film film' place read source n verdict
compared stands film film' place read source n image (Some g) verdict gave next is = (
  next.0,
  record {
    image = image;
    coded = Some g;
    film_gave = gave;
    recording_gave = subst (λ f. Gave place next.0 (λ bytes. Spells bytes f)) (sym next.4) next.3.1;
    is = is;
  },
  (λ none. next.1),
  inl next.1,
)
compared stands film film' place read source n image None verdict gave next is = (
  read,
  record { image = image; coded = None; film_gave = gave; recording_gave = next; is = is },
  (λ none. absurd (some-verdict n image verdict is none)),
  inr refl,
)

-- the next codestream can't be decoded
pub stops-ahead : (place read : Option (List ℕ)) (n : ℕ) (fault : StreamFault) → IsUnread (Stream fault) place read → StopsRecording place n (recording_fault n fault)
stops-ahead place read n fault (inl memory) = stops_coded place n fault memory.1 (inl memory.0)
stops-ahead place read n fault (inr breaks) = stops_coded place n fault (λ told. (breaks told).0.some) (inr breaks)

-- a source that ends where its reader is
pub found-here : (film film' recording recording' : Option (List ℕ)) (verdict : Verdict)
    → (place : Option (List ℕ)) × Finds film film' recording place verdict × ((place ≡ recording') ⊎ (place ≡ recording')) → Finds film film' recording recording' verdict
found-here film film' recording recording' verdict (place, finds, inl is) = subst (λ p. Finds film film' recording p verdict) is finds
found-here film film' recording recording' verdict (place, finds, inr is) = subst (λ p. Finds film film' recording p verdict) is finds
