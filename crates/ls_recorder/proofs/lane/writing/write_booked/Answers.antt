use Rattle.std.proofs.Common.{◌≡◌, ◌<◌, inl, inr, rules, length, sym, ◌∙◌, arith}
use Rattle.std.proofs.lemmas.Result.{err_from_is_err_and}
use Rattle.ls_pieces.specs.Collecting.{booked}
use Rattle.ls_queue.specs.View.Running.{jobs_taken}
use Rattle.ls_recorder.specs.View.Halves.{orders_taken}
use Rattle.ls_recorder.proofs.LaneLemmas.{keeps, writes-kept, writes-fewer, writes-front, wrote-first}
use Rattle.ls_recorder.proofs.WritingLemmas.{orders-many, more-first, wrote-all, halts-refused, memory-is-no-misfit, lost-is-no-misfit}
use Rattle.ls_recorder.proofs.lane.writing.write_booked.Goals as goal

pub returns-then-not-branch-clause-wrote : goal.returns-then-not-branch-clause-wrote
returns-then-not-branch-clause-wrote g c =
    let none = c.in_ok-some_waits.ensures.done (search rules) in
    wrote-all _ _ _ _ _ (c.in_ok-some_waits.ensures.books.waits _ _ _ c.loop.invariant.writing) (omega (arith, none.1))

pub returns-in_err-piece-clause-halts : goal.returns-in_err-piece-clause-halts
returns-in_err-piece-clause-halts g c =
    let writing = c.in_ok-some_waits.ensures.books.waits _ _ _ c.loop.invariant.writing in
    let p = err_from_is_err_and c.from_residual-in_err-piece.result c.from_residual-in_err-piece.ensures.1 in
    elim c.in_err-piece.ensures [
      | inl is ↦ rw (p.1, p.2, is.0) (writes-front _ _ _ _ _ writing, memory-is-no-misfit _)
      | inr is ↦ rw (p.1, p.2, is.0) (writes-fewer _ _ _ _ _ (c.in_ok-some_waits.ensures.some (search rules)) writing, lost-is-no-misfit _)
    ]

pub returns-in_err-accept-clause-halts : goal.returns-in_err-accept-clause-halts
returns-in_err-accept-clause-halts g c =
    let waits = c.in_ok-some_waits.ensures.books in
    let more = c.in_ok-book_until.ensures.books in
    let writing = more.waits _ _ _ (waits.waits _ _ _ c.loop.invariant.writing) in
    let p = err_from_is_err_and c.from_residual-in_err-accept.result c.from_residual-in_err-accept.ensures.1 in
    let some : 0 < length c.book_until.new.collector.slots = omega (arith, c.in_ok-some_waits.ensures.some (search rules), more.more) in
    let counted : booked c.book_until.new.collector ≡ length (orders_taken c.book_until.new.seat) = c.in_ok-book_until.ensures.taken.counted ∙ sym (orders-many c.book_until.new.seat) in
    rw (p.1, p.2) (halts-refused _ _ _ _ _ _ _ writing some counted c.in_err-accept.ensures.halts.1)

pub returns-in_err-written-clause-halts : goal.returns-in_err-written-clause-halts
returns-in_err-written-clause-halts g c =
    let writing = c.in_ok-book_until.ensures.books.waits _ _ _ (c.in_ok-some_waits.ensures.books.waits _ _ _ c.loop.invariant.writing) in
    let kept = keeps c.book_until.new.collector c.accept.new.collector c.in_ok-piece.piece c.in_ok-accept.ensures.accepted.0 c.in_ok-accept.ensures.accepted.1 in
    let p = err_from_is_err_and c.from_residual-in_err-written.result c.from_residual-in_err-written.ensures.1 in
    rw (p.1, p.2) (c.in_err-written.ensures.halts _ _ (writes-kept _ _ _ _ _ _ kept writing))

pub loop-preserved : goal.loop-preserved
loop-preserved g c =
    let inv = c.loop.invariant in
    let waits = c.in_ok-some_waits.ensures.books in
    let more = c.in_ok-book_until.ensures.books in
    let taken = c.in_ok-book_until.ensures.taken in
    let writing = more.waits _ _ _ (waits.waits _ _ _ inv.writing) in
    let kept = keeps c.book_until.new.collector c.accept.new.collector c.in_ok-piece.piece c.in_ok-accept.ensures.accepted.0 c.in_ok-accept.ensures.accepted.1 in
    let same = c.in_ok-written.ensures.same in
    let some : 0 < length (jobs_taken c.book_until.new.seat) = omega (arith, c.in_ok-some_waits.ensures.some (search rules), more.more, taken.counted) in
    record {
      taken = record {
        seat_is = taken.seat_is;
        counted = same.0 ∙ kept.booked ∙ taken.counted;
        few = omega (arith, same.0, kept.booked, taken.few);
        window_is = same.1 ∙ kept.window ∙ taken.window_is;
      };
      writing = c.in_ok-written.ensures.goes_on _ _ (writes-kept _ _ _ _ _ _ kept writing);
      small = c.in_ok-written.ensures.small;
      returned = c.in_ok-written.ensures.returned;
      returns = c.in_ok-written.ensures.returns ∙ inv.returns;
      writes = c.in_ok-written.ensures.failures ∙ inv.writes;
      untouched = λ none. absurd (omega (arith, some, none));
    }

pub returns-then-not-branch-clause-returned : goal.returns-then-not-branch-clause-returned
returns-then-not-branch-clause-returned g c =
    let books = c.in_ok-some_waits.ensures.books in
    wrote-first _ _ _ _ _ _ (c.loop.invariant.returned ∙ sym books.first) (books.waits _ _ _ c.loop.invariant.writing)

pub returns-in_err-some_waits-clause-returned : goal.returns-in_err-some_waits-clause-returned
returns-in_err-some_waits-clause-returned g c =
    more-first _ _ _ _ _ c.some_waits.ensures.more (wrote-first _ _ _ _ _ _ c.loop.invariant.returned c.loop.invariant.writing)

pub returns-in_err-piece-clause-returned : goal.returns-in_err-piece-clause-returned
returns-in_err-piece-clause-returned g c =
    let books = c.in_ok-some_waits.ensures.books in
    wrote-first _ _ _ _ _ _ (c.loop.invariant.returned ∙ sym books.first) (books.waits _ _ _ c.loop.invariant.writing)

pub returns-in_err-book_until-clause-returned : goal.returns-in_err-book_until-clause-returned
returns-in_err-book_until-clause-returned g c =
    let books = c.in_ok-some_waits.ensures.books in
    more-first _ _ _ _ _ c.book_until.ensures.more (wrote-first _ _ _ _ _ _ (c.loop.invariant.returned ∙ sym books.first) (books.waits _ _ _ c.loop.invariant.writing))

pub returns-in_err-accept-clause-returned : goal.returns-in_err-accept-clause-returned
returns-in_err-accept-clause-returned g c =
    let waits = c.in_ok-some_waits.ensures.books in
    let more = c.in_ok-book_until.ensures.books in
    (wrote-first _ _ _ _ _ _ (c.loop.invariant.returned ∙ sym waits.first ∙ sym more.first) (more.waits _ _ _ (waits.waits _ _ _ c.loop.invariant.writing)))

pub returns-in_err-written-clause-returned : goal.returns-in_err-written-clause-returned
returns-in_err-written-clause-returned g c =
    let writing = c.in_ok-book_until.ensures.books.waits _ _ _ (c.in_ok-some_waits.ensures.books.waits _ _ _ c.loop.invariant.writing) in
    let kept = keeps c.book_until.new.collector c.accept.new.collector c.in_ok-piece.piece c.in_ok-accept.ensures.accepted.0 c.in_ok-accept.ensures.accepted.1 in
    c.in_err-written.ensures.first _ _ (writes-kept _ _ _ _ _ _ kept writing)
