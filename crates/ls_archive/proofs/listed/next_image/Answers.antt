use Rattle.std.proofs.Common.{◌≡◌, length, rules}
use Rattle.std.proofs.lemmas.Result.{err_from_is_err_and}
use Rattle.ls_frame.specs.View.Known.{Gave}
use Rattle.ls_archive.specs.View.Checking.{Line, IsLine}
use Rattle.ls_archive.proofs.CheckLemmas.{had-line}
use Rattle.ls_archive.proofs.ListedLemmas.{stops-reading, gives-shown}
use Rattle.ls_archive.proofs.listed.next_image.Goals as goal

pub returns-in-Err-take_bytes-clause-stops : goal.returns-in-Err-take_bytes-clause-stops
returns-in-Err-take_bytes-clause-stops g c =
    let l : Line = record { text = c.in-Ok-Some.line.text.items; size = c.in-Ok-Some.line.size; sum = c.in-Ok-Some.line.sum } in
    let is : IsLine c.args.number c.args.offset l = rw c.in-Ok-Some.field-0-is at c.in-Ok-Some.ensures.is in
    let gave : Gave (g.I.Read.remaining c.args.index.now) (g.I.Read.remaining c.next_line.new.index) (λ read. l.text ≡ read) = rw c.in-Ok-Some.field-0-is at c.in-Ok-Some.ensures.gave in
    rw c.fault_of-in-Err-take_bytes.ensures (stops-reading _ _ _ _ c.args.number c.args.offset l is gave c.in-Err-take_bytes.fault c.in-Err-take_bytes.ensures.stops)

pub returns-in_err-image-clause-stops : goal.returns-in_err-image-clause-stops
returns-in_err-image-clause-stops g c =
    let l : Line = record { text = c.in-Ok-Some.line.text.items; size = c.in-Ok-Some.line.size; sum = c.in-Ok-Some.line.sum } in
    let is : IsLine c.args.number c.args.offset l = rw c.in-Ok-Some.field-0-is at c.in-Ok-Some.ensures.is in
    let gave : Gave (g.I.Read.remaining c.args.index.now) (g.I.Read.remaining c.next_line.new.index) (λ read. l.text ≡ read) = rw c.in-Ok-Some.field-0-is at c.in-Ok-Some.ensures.gave in
    let p = err_from_is_err_and c.from_residual.result c.from_residual.ensures.1 in
    rw (p.1, p.2) (had-line _ _ c.args.number c.args.offset l is gave)

pub returns-in-Ok-2-clause-gives : goal.returns-in-Ok-2-clause-gives
returns-in-Ok-2-clause-gives g c =
    let l : Line = record { text = c.in-Ok-Some.line.text.items; size = c.in-Ok-Some.line.size; sum = c.in-Ok-Some.line.sum } in
    let is : IsLine c.args.number c.args.offset l = rw c.in-Ok-Some.field-0-is at c.in-Ok-Some.ensures.is in
    let gave : Gave (g.I.Read.remaining c.args.index.now) (g.I.Read.remaining c.next_line.new.index) (λ read. l.text ≡ read) = rw c.in-Ok-Some.field-0-is at c.in-Ok-Some.ensures.gave in
    let good = rw c.in-Ok-2.is at c.in_ok-image.ensures.good in
    let size : c.len-size.result ≡ length c.in-Ok.bytes.items = search rules in
    gives-shown _ _ _ _ c.args.number c.args.offset l is gave c.in-Ok.bytes.items c.in-Ok-2.image c.len-size.result c.in-Ok.ensures.taken good.0 good.1.0 good.1.1 good.1.2 size
