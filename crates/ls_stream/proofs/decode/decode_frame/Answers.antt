use Rattle.std.proofs.Common.{◌≡◌, ◌++◌, ℕ, List, length, Result, Ok, Err, MatchResult, inr, subst, ◌∙◌}
use Rattle.std.proofs.lemmas.Result.{IfErr-weaker}
use Rattle.ls_frame.specs.Picture.{Picture}
use Rattle.ls_stream.specs.declared.decode.Decoded.{Decoded}
use Rattle.ls_stream.specs.declared.faults.StreamFault.{StreamFault}
use Rattle.ls_stream.specs.declared.faults.StreamFault.TheVariants.{NoMemory}
use Rattle.ls_stream.specs.Grammar.{Spells}
use Rattle.ls_stream.specs.View.Outlines.{IsFirstFault}
use Rattle.ls_stream.proofs.decode.decode_frame.Goals as goal

pub returns-in-Err-clause-complete : goal.returns-in-Err-clause-complete
returns-in-Err-clause-complete c front rest f e spelled = absurd (c.in-Err.ensures.none front rest f e spelled)

pub returns-clause-ok : goal.returns-clause-ok
returns-clause-ok c = rw c.in-Ok.ensures.bytes at c.decode_into.ensures.ok

-- a result that is no fault at all
or_memory : (result : Result Decoded StreamFault) (P : Decoded → Type 0) → MatchResult result P (λ fault. ⊥) → MatchResult result P (λ fault. fault ≡ NoMemory)
or_memory (Ok decoded) P found = found
or_memory (Err fault) P found = absurd found

pub returns-clause-complete : goal.returns-clause-complete
returns-clause-complete c front rest f e spelled =
    or_memory c.decode_into.result (λ decoded. (decoded.frame ≡ f) × (decoded.used ≡ length front))
    (c.decode_into.ensures.complete front rest f (c.in-Ok.ensures.bytes ∙ e) spelled)

pub returns-clause-fault : goal.returns-clause-fault
returns-clause-fault c =
    IfErr-weaker c.decode_into.result (λ fault. (front rest : List ℕ) (f : Picture) → c.in-Ok.opening.bytes ≡ front ++ rest → Spells front f → ⊥) _
    (λ fault none. inr (λ front rest f e spelled. none front rest f (c.in-Ok.ensures.bytes ∙ e) spelled)) c.decode_into.ensures.none

pub returns-clause-first : goal.returns-clause-first
returns-clause-first c =
    IfErr-weaker c.decode_into.result (λ fault. IsFirstFault c.in-Ok.opening.bytes fault) _
    (λ fault first. inr (subst (λ bytes. IsFirstFault bytes fault) c.in-Ok.ensures.bytes first)) c.decode_into.ensures.first
