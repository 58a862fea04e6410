use Rattle.std.proofs.Common.{◌≡◌, ◌+◌, ◌-◌, length, arith, rules}
use Rattle.ls_salvage.proofs.SkipLemmas.{run_length, run_few, read_on, given_passed, held_few, three_held, given_found, given_end}
use Rattle.ls_salvage.proofs.starts.skip_to_start.Goals as goal

pub returns-in-None-clause-skipped : goal.returns-in-None-clause-skipped
returns-in-None-clause-skipped g c =
    let end = rw c.in-None.is at c.in_ok-last.ensures.end in
    given_end c.steps.matched c.steps.count _ _ _ c.steps.invariant.passed end.1

pub steps-preserved : goal.steps-preserved
steps-preserved g c =
    let taken = rw c.in-Some.is at c.in_ok-last.ensures.taken in
    let before = c.steps.invariant in
    let cleared = c.clear.ensures.items in
    let few = run_few c.most_at_once.result c.in-Some.last _ _ _ _ cleared taken in
    let size = run_length c.most_at_once.result c.in-Some.last _ _ _ _ cleared taken in
    let goes_on = c.in-Some-after.ensures.goes_on in
    let read = read_on c.steps.matched c.most_at_once.result c.steps.count c.in-Some.last _ _ _ _ _ cleared before.passed c.most_at_once.ensures.one taken in
    let total : c.steps.count + c.len.result ≡ (c.steps.count + length taken.run) + 1 = omega (arith, c.len.ensures, size) in
    record {
      failures = search rules;
      few = held_few c.steps.matched c.in-Some-after.next c.in-Some.last c.steps.count c.len.result goes_on before.few (omega (arith, c.len.ensures, few.0));
      small = omega (arith, c.steps-test.true, c.len.ensures, few.1, c.most_at_once.ensures.most);
      passed = given_passed c.steps.matched c.in-Some-after.next (c.steps.count + length taken.run) (c.steps.count + c.len.result) _ _ c.in-Some.last read goes_on total;
    }

pub returns-in-None-after-clause-skipped : goal.returns-in-None-after-clause-skipped
returns-in-None-after-clause-skipped g c =
    let taken = rw c.in-Some.is at c.in_ok-last.ensures.taken in
    let before = c.steps.invariant in
    let cleared = c.clear.ensures.items in
    let size = run_length c.most_at_once.result c.in-Some.last _ _ _ _ cleared taken in
    let found = c.in-None-after.ensures.found in
    let held = three_held c.steps.matched c.in-Some.last found in
    let read = read_on c.steps.matched c.most_at_once.result c.steps.count c.in-Some.last _ _ _ _ _ cleared before.passed c.most_at_once.ensures.one taken in
    let skipped : (c.steps.count + c.len.result - 4) + 3 ≡ c.steps.count + length taken.run = omega (arith, c.len.ensures, size, held, before.few) in
    given_found c.steps.matched (c.steps.count + length taken.run) (c.steps.count + c.len.result - 4) _ _ _ c.in-Some.last read found skipped c.in_ok-put_back-in-None-after.ensures.back
