use Rattle.std.proofs.Common.{refl}
use Rattle.ls_film.specs.declared.codestreams.Unread.TheVariants.{Stream, Io}
use Rattle.ls_archive.proofs.VerifyLemmas.{coded-unfailed, coded-number}
use Rattle.ls_archive.proofs.ComparingLemmas.{stops-ahead}
use Rattle.ls_archive.proofs.verifying.next_coded.Goals as goal

pub returns-in-Err-Stream-clause-stops : goal.returns-in-Err-Stream-clause-stops
returns-in-Err-Stream-clause-stops g c = λ place is.
    let read = g.R.Read.remaining c.next.new.reader in
    let given = rw c.in-Err-Stream.field-0-is at (c.in-Err-Stream.ensures.gives place is) in
    rw c.of_recording.ensures
    (stops-ahead place read c.args.number c.in-Err-Stream.fault (g.met.S.Recorded.unread_is (Stream c.in-Err-Stream.fault) place read given.2))

pub returns-in-Err-Stream-clause-io : goal.returns-in-Err-Stream-clause-io
returns-in-Err-Stream-clause-io g c = λ place is.
    rw c.of_recording.ensures (coded-unfailed place (g.R.Read.remaining c.next.new.reader) c.args.number c.in-Err-Stream.fault)

pub returns-in-Err-Io-clause-io : goal.returns-in-Err-Io-clause-io
returns-in-Err-Io-clause-io g c = λ place is.
    let read = g.R.Read.remaining c.next.new.reader in
    let given = rw c.in-Err-Io.field-0-is at (c.in-Err-Io.ensures.gives place is) in
    (refl, g.met.S.Recorded.unread_is Io place read given.2)

pub returns-in-Err-Stream-clause-number : goal.returns-in-Err-Stream-clause-number
returns-in-Err-Stream-clause-number g c = rw c.of_recording.ensures (coded-number c.args.number c.in-Err-Stream.fault)
