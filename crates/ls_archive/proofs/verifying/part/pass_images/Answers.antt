use Rattle.std.proofs.Common.{refl, arith, rules}
use Rattle.ls_archive.proofs.VerifiedPartLemmas.{images-none, images-more, images-end, film_only}
use Rattle.ls_archive.proofs.verifying.part.pass_images.Goals as goal

pub loop-number-init : goal.loop-number-init
loop-number-init g c = record { images = images-none (g.F.Read.remaining c.args.film.now); reads = refl }

pub returns-in-Ok-None-clause-stops : goal.returns-in-Ok-None-clause-stops
returns-in-Ok-None-clause-stops g c =
    let end = rw c.in-Ok-None.field-0-is at c.in-Ok-None.ensures.next in
    images-end (g.F.Read.remaining c.args.film.now) (g.F.Read.remaining c.loop-number.film) (g.F.Read.remaining c.next_image.new.film) c.loop-number.number c.args.count (omega arith)
    c.loop-number.invariant.images end

pub returns-in-Err-clause-stops : goal.returns-in-Err-clause-stops
returns-in-Err-clause-stops g c = (g.F.Read.remaining c.loop-number.film, c.loop-number.number, omega arith, c.loop-number.invariant.images, c.in-Err.ensures.stops)

pub loop-number-preserved : goal.loop-number-preserved
loop-number-preserved g c =
    let next = rw c.in-Ok-Some.field-0-is at c.in-Ok-Some.ensures.next in
    record {
      images = images-more (g.F.Read.remaining c.args.film.now) (g.F.Read.remaining c.loop-number.film) (g.F.Read.remaining c.next_image.new.film) c.loop-number.number _ c.loop-number.invariant.images next;
      reads = search rules;
    }

pub returns-in-Err-clause-blame : goal.returns-in-Err-clause-blame
returns-in-Err-clause-blame g c = film_only (g.F.Read.remaining c.loop-number.film) c.loop-number.number c.in-Err.fault c.in-Err.ensures.stops
