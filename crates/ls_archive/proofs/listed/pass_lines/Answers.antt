use Rattle.std.proofs.Common.{◌≡◌, sym, subst, ◌+◌, arith, rules}
use Rattle.ls_frame.specs.View.Known.{Gave}
use Rattle.ls_archive.specs.View.Checking.{Line, IsLine}
use Rattle.ls_archive.specs.View.Listed.{HasPassed}
use Rattle.ls_archive.proofs.ListedLemmas.{passed-more}
use Rattle.ls_archive.proofs.listed.pass_lines.Goals as goal

pub loop-number-preserved : goal.loop-number-preserved
loop-number-preserved g c =
    let i = c.loop-number.invariant in
    let l : Line = record { text = c.in-Ok-Some.line.text.items; size = c.in-Ok-Some.line.size; sum = c.in-Ok-Some.line.sum } in
    let is : IsLine c.loop-number.number c.loop-number.offset l = rw c.in-Ok-Some.field-0-is at c.in-Ok-Some.ensures.is in
    let gave : Gave (g.I.Read.remaining c.loop-number.index) (g.I.Read.remaining c.next_line.new.index) (λ read. l.text ≡ read) = rw c.in-Ok-Some.field-0-is at c.in-Ok-Some.ensures.gave in
    let passed = passed-more (g.I.Read.remaining c.args.index.now) (g.I.Read.remaining c.loop-number.index) (g.I.Read.remaining c.next_line.new.index) c.loop-number.number c.loop-number.offset l i.passed is gave in
    record {
      passed = subst (λ size. HasPassed (g.I.Read.remaining c.args.index.now) (g.I.Read.remaining c.next_line.new.index) (c.loop-number.number + 1) (c.loop-number.offset + size)) (sym c.from-offset.ensures) passed;
      bounded = omega (arith, i.bounded, c.from-offset.ensures, is.few);
      reads = search rules;
    }
