use Rattle.std.proofs.Common.{◌≡◌, ◌++◌, ◌∷◌, [], refl, sym, subst, arith, rules}
use Rattle.std.proofs.lemmas.Result.{err_from_is_err_and}
use Rattle.ls_film.specs.Film.{most_frames}
use Rattle.ls_archive.specs.View.Batches.{line_of}
use Rattle.ls_archive.proofs.PlaceLemmas.{HasReadLines, read-none, read-more, read-end, read-stops, read-unheld, read-most}
use Rattle.ls_archive.proofs.places.read_index.Goals as goal

pub loop-number-init : goal.loop-number-init
loop-number-init g c =
    let remaining = g.I.Read.remaining c.args.index.now in
    let none : c.new-wanted.result.items ≡ [] = search rules in
    record { so_far = subst (HasReadLines remaining remaining 0 0) (sym none) (read-none remaining); bounded = omega arith; reads = refl }

pub loop-number-preserved : goal.loop-number-preserved
loop-number-preserved g c =
    let l = line_of c.in-Some.line in
    let is = rw c.in-Some.is at c.in_ok-line.ensures.is in
    let gave = rw c.in-Some.is at c.in_ok-line.ensures.gave in
    let count : c.from-count.result ≡ l.size = c.from-count.ensures in
    let pushed : c.push.new.self.items ≡ c.loop-number.wanted.items ++ record { place = c.loop-number.offset; count = c.from-count.result; sum = l.sum } ∷ [] = search rules in
    record {
      so_far = rw count (read-more (g.I.Read.remaining c.args.index.now) (g.I.Read.remaining c.loop-number.index) (g.I.Read.remaining c.next_line.new.index) c.loop-number.number c.loop-number.offset
          c.loop-number.wanted.items c.push.new.self.items l c.loop-number.invariant.so_far (omega arith) is gave (rw count at pushed));
      bounded = omega (arith, c.loop-number.invariant.bounded, c.from-count.ensures);
      reads = search rules;
    }

pub returns-in_err-line-clause-stops : goal.returns-in_err-line-clause-stops
returns-in_err-line-clause-stops g c =
    let p = err_from_is_err_and c.from_residual.result c.from_residual.ensures.1 in
    rw (p.1, p.2) (read-stops (g.I.Read.remaining c.args.index.now) (g.I.Read.remaining c.loop-number.index) (g.I.Read.remaining c.next_line.new.index) c.loop-number.number c.loop-number.offset
    c.loop-number.wanted.items c.loop-number.invariant.so_far _ c.in_err-line.ensures.stops)

pub returns-in_default-clause-wanted : goal.returns-in_default-clause-wanted
returns-in_default-clause-wanted g c =
    let end = rw c.in_default.is at c.in_ok-line.ensures.end in
    read-end (g.I.Read.remaining c.args.index.now) (g.I.Read.remaining c.loop-number.index) (g.I.Read.remaining c.next_line.new.index) c.loop-number.number c.loop-number.offset
    c.loop-number.wanted.items c.loop-number.invariant.so_far end

pub returns-then-is_err-clause-stops : goal.returns-then-is_err-clause-stops
returns-then-is_err-clause-stops g c =
    let is = rw c.in-Some.is at c.in_ok-line.ensures.is in
    let gave = rw c.in-Some.is at c.in_ok-line.ensures.gave in
    read-unheld (g.I.Read.remaining c.args.index.now) (g.I.Read.remaining c.loop-number.index) (g.I.Read.remaining c.next_line.new.index) c.loop-number.number c.loop-number.offset
    c.loop-number.wanted.items c.loop-number.invariant.so_far (line_of c.in-Some.line) is gave

pub returns-in_err-next_line-clause-stops : goal.returns-in_err-next_line-clause-stops
returns-in_err-next_line-clause-stops g c =
    let p = err_from_is_err_and c.from_residual-in_err-next_line.result c.from_residual-in_err-next_line.ensures.1 in
    let all : c.loop-number.number ≡ most_frames = omega arith in
    rw (p.1, p.2) (read-stops (g.I.Read.remaining c.args.index.now) (g.I.Read.remaining c.loop-number.index) (g.I.Read.remaining c.next_line-2.new.index) most_frames c.loop-number.offset
    c.loop-number.wanted.items (rw all at c.loop-number.invariant.so_far) _ c.in_err-next_line.ensures.stops)

pub returns-in-None-clause-wanted : goal.returns-in-None-clause-wanted
returns-in-None-clause-wanted g c =
    let end = rw c.in-None.is at c.in_ok-next_line.ensures.end in
    read-end (g.I.Read.remaining c.args.index.now) (g.I.Read.remaining c.loop-number.index) (g.I.Read.remaining c.next_line-2.new.index) c.loop-number.number c.loop-number.offset
    c.loop-number.wanted.items c.loop-number.invariant.so_far end

pub returns-in-Some-2-clause-stops : goal.returns-in-Some-2-clause-stops
returns-in-Some-2-clause-stops g c =
    let is = rw c.in-Some-2.is at c.in_ok-next_line.ensures.is in
    let gave = rw c.in-Some-2.is at c.in_ok-next_line.ensures.gave in
    let all : c.loop-number.number ≡ most_frames = omega arith in
    read-most (g.I.Read.remaining c.args.index.now) (g.I.Read.remaining c.loop-number.index) (g.I.Read.remaining c.next_line-2.new.index) most_frames c.loop-number.offset
    c.loop-number.wanted.items (rw all at c.loop-number.invariant.so_far) (line_of c.in-Some-2.field-0) is gave refl
