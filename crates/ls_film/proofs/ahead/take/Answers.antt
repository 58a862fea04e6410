use Rattle.std.proofs.Common.{◌≡◌, [], ◌∷◌, ◌++◌, rules, arith, refl, sym, subst, inl}
use Rattle.std.proofs.lemmas.List.{map-append}
use Rattle.ls_film.specs.View.Codestreams.{IsTaken}
use Rattle.ls_film.specs.View.Ahead.{AreTaken, codestreams_of}
use Rattle.ls_film.proofs.AheadLemmas.{taken-more, no-more-after-end, no-more-after-fault}
use Rattle.ls_film.proofs.CodestreamLemmas.{had-bytes}
use Rattle.std.proofs.Common.{Err}
use Rattle.ls_stream.specs.declared.faults.StreamFault.TheVariants.{NoMemory}
use Rattle.ls_film.specs.declared.ahead.Fetched.{Fetched}
use Rattle.ls_film.proofs.ahead.take.Goals as goal

pub returns-in-Err-clause-taken : goal.returns-in-Err-clause-taken
returns-in-Err-clause-taken g c = record {
  mid = _;
  taken = c.loop-place.invariant.taken;
  after = c.in-Err.ensures.stops;
}

pub returns-then-is_err-clause-taken : goal.returns-then-is_err-clause-taken
returns-then-is_err-clause-taken g c =
    let read = g.R.Read.remaining c.loop-place.reader in
    let read' = g.R.Read.remaining c.take_codestream.new.reader in
    let is : IsTaken read read' c.in-Ok-Some.bytes.items = rw c.in-Ok-Some.field-0-is at c.in-Ok-Some.ensures.taken in
    let kept : c.push.new.self.items ≡ c.loop-place.jobs.items = search rules in
    record {
      mid = read;
      taken = rw kept c.loop-place.invariant.taken;
      after = inl (refl, had-bytes read read' c.in-Ok-Some.bytes.items is);
    }

pub loop-place-preserved : goal.loop-place-preserved
loop-place-preserved g c =
    let read = g.R.Read.remaining c.loop-place.reader in
    let read' = g.R.Read.remaining c.take_codestream.new.reader in
    let is : IsTaken read read' c.in-Ok-Some.bytes.items = rw c.in-Ok-Some.field-0-is at c.in-Ok-Some.ensures.taken in
    let job : Fetched g.row.T.Denot = record { bytes = c.in-Ok-Some.bytes; made = Err NoMemory } in
    let more = taken-more _ read read' (codestreams_of c.loop-place.jobs.items) job.bytes.items c.loop-place.invariant.taken is in
    let pushed : c.push.new.self.items ≡ c.loop-place.jobs.items ++ job ∷ [] = search rules in
    record {
      taken = rw pushed (subst (AreTaken (g.R.Read.remaining c.args.reader.now) read') (sym (map-append (λ j. j.bytes.items) c.loop-place.jobs.items (job ∷ []))) more);
      len = search rules;
      reads = search rules;
    }

pub returns-in-Ok-None-clause-taken : goal.returns-in-Ok-None-clause-taken
returns-in-Ok-None-clause-taken g c = record {
  mid = _;
  taken = c.loop-place.invariant.taken;
  after = rw c.in-Ok-None.field-0-is at c.in-Ok-None.ensures.end;
}

pub returns-clause-taken : goal.returns-clause-taken
returns-clause-taken g c = record {
  mid = _;
  taken = c.loop-place.invariant.taken;
  after = refl;
}

pub returns-clause-full : goal.returns-clause-full
returns-clause-full g c = λ _. omega (arith, c.loop-place.invariant.len)

pub returns-in-Ok-None-clause-full : goal.returns-in-Ok-None-clause-full
returns-in-Ok-None-clause-full g c = λ more. absurd (no-more-after-end more)

pub returns-in-Err-clause-full : goal.returns-in-Err-clause-full
returns-in-Err-clause-full g c = λ more. absurd (no-more-after-fault c.in-Err.fault more)

pub returns-then-is_err-clause-full : goal.returns-then-is_err-clause-full
returns-then-is_err-clause-full g c = λ more. absurd (no-more-after-fault _ more)
