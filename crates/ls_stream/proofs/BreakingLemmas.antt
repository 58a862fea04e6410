-- How bits break where a span is due, in the form of the contracts.
use Rattle.std.proofs.Common.{◌≡◌, ℕ, ◌+◌, ◌-◌, ◌^◌, ◌<◌, min, Bool, true, List, ◌∷◌, Result, Ok, Err, inl, inr, subst}
use Rattle.std.specs.Prelude.{IfErr}
use Rattle.ls_bits.specs.declared.source.CodeFault.{CodeFault}
use Rattle.ls_bits.specs.declared.source.CodeFault.TheVariants.{NotCanonical}
use Rattle.ls_bits.specs.Golomb.{TakesWord, GolombFault}
use Rattle.ls_coding.specs.Runs.{order}
use Rattle.ls_coding.specs.View.Plans.{Planned, NoSample}
use Rattle.ls_stream.specs.View.BitFaults.{BreaksWord, BreaksRun, after_one}

pub err_both : {A E : Type 0} (r : Result A E) (P Q R : E → Type 0) → ((x : E) → P x → Q x → R x) → IfErr r P → IfErr r Q → IfErr r R
err_both (Ok x) P Q R f h k = h
err_both (Err e) P Q R f h k = f e h k

-- ---- a run

pub run_later : (index next left less : ℕ) (bits new : List Bool) (fault : CodeFault) → bits ≡ true ∷ new → next ≡ min (index + 1) 31 → 2 ^ order index < left → less ≡ left - 2 ^ order index
    → BreaksRun next less new fault → BreaksRun index left bits fault
run_later index next left less bits new fault e f more g malformed =
    after_one new e more (subst (λ n. BreaksRun n (left - 2 ^ order index) new fault) f (subst (λ n. BreaksRun next n new fault) g malformed))

-- ---- a sample's word

pub golomb_breaks : (plan planned : Planned) (value_of : ℕ → ℕ) (IsSample : ℕ → Type 0) (k glimit qbpp real : ℕ) (bits : List Bool) (fault : CodeFault)
    → plan ≡ planned → k ≡ plan.k → glimit ≡ plan.glimit → qbpp ≡ real → GolombFault k glimit qbpp bits fault → BreaksWord planned value_of IsSample real bits fault
golomb_breaks plan planned value_of IsSample k glimit qbpp real bits fault is ek eg eq malformed =
    inl (subst (λ (x : Planned). GolombFault x.k x.glimit real bits fault) is
    (subst (λ n. GolombFault plan.k plan.glimit n bits fault) eq (subst (λ n. GolombFault plan.k n qbpp bits fault) eg (subst (λ n. GolombFault n glimit qbpp bits fault) ek malformed))))

pub value_breaks : (plan planned : Planned) (value_of : ℕ → ℕ) (IsSample : ℕ → Type 0) (k glimit qbpp real value : ℕ) (bits rest : List Bool) (fault : CodeFault)
    → plan ≡ planned → k ≡ plan.k → glimit ≡ plan.glimit → qbpp ≡ real → TakesWord k glimit qbpp bits value rest → NoSample IsSample value_of value → fault ≡ NotCanonical
    → BreaksWord planned value_of IsSample real bits fault
value_breaks plan planned value_of IsSample k glimit qbpp real value bits rest fault is ek eg eq took none said =
    inr (
      value,
      rest,
      subst (λ (x : Planned). TakesWord x.k x.glimit real bits value rest) is
          (subst (λ n. TakesWord plan.k plan.glimit n bits value rest) eq (subst (λ n. TakesWord plan.k n qbpp bits value rest) eg (subst (λ n. TakesWord n glimit qbpp bits value rest) ek took))),
      none,
      said,
    )
