use Rattle.std.proofs.Common.{◌≡◌, Some, ◌∙◌, arith, rules}
use Rattle.std.proofs.lemmas.Result.{err_from_is_err_and}
use Rattle.ls_pieces.specs.Collecting.{next_reply}
use Rattle.ls_recorder.proofs.LaneLemmas.{hands_out, writes-piece, writes-part, writes-first-at}
use Rattle.ls_recorder.proofs.WritingLemmas.{output-is-no-misfit}
use Rattle.ls_recorder.proofs.lane.writing.write_ready.Goals as goal

pub loop-piece-preserved : goal.loop-piece-preserved
loop-piece-preserved g c =
    let reply : next_reply c.loop-piece.arrivals.collector ≡ Some c.in-Some.piece = search rules in
    let out = hands_out c.loop-piece.arrivals.collector c.next.new.self c.in-Some.piece c.next.ensures.lawful reply c.next.ensures.state in
    let before = c.loop-piece.invariant in
    let all = c.in_ok-written.ensures.all in
    record {
      goes_on = λ items start writing. rw all.0 (writes-piece items start _ _ _ _ c.loop-piece.written c.in-Some.piece out all.2 (before.goes_on items start writing));
      small = omega (arith, before.small, out.first, all.1);
      returned = omega (arith, before.returned, out.first, c.give.ensures.gave);
      booked = out.booked ∙ before.booked;
      window = out.window ∙ before.window;
      returns = c.give.ensures.same ∙ before.returns;
      writes = search rules;
    }

pub returns-in_err-written-clause-halts : goal.returns-in_err-written-clause-halts
returns-in_err-written-clause-halts g c =
    let reply : next_reply c.loop-piece.arrivals.collector ≡ Some c.in-Some.piece = search rules in
    let out = hands_out c.loop-piece.arrivals.collector c.next.new.self c.in-Some.piece c.next.ensures.lawful reply c.next.ensures.state in
    let p = err_from_is_err_and c.from_residual.result c.from_residual.ensures.1 in
    let why = c.in_err-written.ensures.stops in
    rw (p.1, p.2, why.1) (λ items start writing. (
      writes-part items start _ _ _ _ c.loop-piece.written why.0 c.in-Some.piece out why.2 why.3 (c.loop-piece.invariant.goes_on items start writing),
      output-is-no-misfit _ _,
    ))

pub returns-in_err-written-clause-first : goal.returns-in_err-written-clause-first
returns-in_err-written-clause-first g c =
    let p = err_from_is_err_and c.from_residual.result c.from_residual.ensures.1 in
    let why = c.in_err-written.ensures.stops in
    let before = c.loop-piece.invariant in
    rw p.1 (λ items start writing. writes-first-at items start _ _ _ c.loop-piece.written _ _ before.returned why.3 (before.goes_on items start writing))
