use Rattle.std.proofs.Common.{◌≡◌, ◌<◌, ◌^◌, ◌∙◌, length, refl, sym, ap, arith}
use Rattle.ls_film.specs.View.Codestreams.{IsTaken}
use Rattle.ls_film.proofs.CodestreamLemmas.{had-bytes}
use Rattle.ls_frame.specs.View.Devices.{count_after}
use Rattle.ls_salvage.proofs.PartLemmas.{no_refusal, gave_frame, some_taken, breaks, gave_bytes, no_end, no_memory, few, same_io, first_alike}
use Rattle.ls_stream.specs.declared.faults.StreamFault.TheVariants as stream
use Rattle.ls_salvage.proofs.parts.find_next.Goals as goal

pub returns-in-Err-clause-no_end : goal.returns-in-Err-clause-no_end
returns-in-Err-clause-no_end g c = rw c.of.ensures (no_end c.in-Err.fault (g.R.Read.remaining c.args.reader.now) (g.R.Read.remaining c.take_codestream.new.reader) c.in-Err.ensures.untaken)

pub returns-in-Err-clause-memory : goal.returns-in-Err-clause-memory
returns-in-Err-clause-memory g c = rw c.of.ensures (no_memory c.in-Err.fault (g.R.Read.remaining c.args.reader.now) (g.R.Read.remaining c.take_codestream.new.reader) c.in-Err.ensures.untaken)

pub returns-in-Err-decode_frame-clause-memory : goal.returns-in-Err-decode_frame-clause-memory
returns-in-Err-decode_frame-clause-memory g c = λ is.
    let read = g.R.Read.remaining c.args.reader.now in
    let read' = g.R.Read.remaining c.take_codestream.new.reader in
    let taken : IsTaken read read' c.in-Ok-Some.bytes.items = rw c.in-Ok-Some.field-0-is at c.in-Ok-Some.ensures.taken in
    had-bytes read read' c.in-Ok-Some.bytes.items taken

pub returns-in-Err-clause-few : goal.returns-in-Err-clause-few
returns-in-Err-clause-few g c = rw c.of.ensures (few c.in-Err.fault)

pub returns-in-Err-clause-failures : goal.returns-in-Err-clause-failures
returns-in-Err-clause-failures g c =
    rw c.of.ensures (c.in-Err.ensures.failures ∙ ap (λ b. count_after b (g.R.Feed.failed_reads c.args.reader.now)) (same_io c.in-Err.fault))

pub returns-in-Ok-clause-found : goal.returns-in-Ok-clause-found
returns-in-Ok-clause-found g c =
    let taken : IsTaken (g.R.Read.remaining c.args.reader.now) (g.R.Read.remaining c.take_codestream.new.reader) c.in-Ok-Some.bytes.items = rw c.in-Ok-Some.field-0-is at c.in-Ok-Some.ensures.taken in
    let spells = rw c.deref.ensures.value at c.in-Ok.ensures.ok.1 in
    let some = some_taken c.in-Ok-Some.bytes.items c.in-Ok.decoded.used c.in-Ok.decoded.frame spells in
    let small : length c.in-Ok-Some.bytes.items < 2 ^ 63 = omega (arith, c.in-Ok-Some.bytes.ok.0, c.in-Ok-Some.bytes.ok.1, c.in-Ok-Some.bytes.small) in
    let size : length c.in-Ok-Some.bytes.items ≡ c.len.result = omega (arith, c.len.ensures) in
    (spells.frame, omega (arith, some, size), omega (arith, small, size), gave_frame _ _ c.in-Ok-Some.bytes.items c.in-Ok.decoded.used c.len.result c.in-Ok.decoded.frame _ taken.gave taken.complete spells size)

pub returns-in-Err-2-clause-found : goal.returns-in-Err-2-clause-found
returns-in-Err-2-clause-found g c =
    let taken : IsTaken (g.R.Read.remaining c.args.reader.now) (g.R.Read.remaining c.take_codestream.new.reader) c.in-Ok-Some.bytes.items = rw c.in-Ok-Some.field-0-is at c.in-Ok-Some.ensures.taken in
    let none = rw c.deref.ensures.value at c.in-Err-decode_frame.ensures.fault in
    let first = first_alike (c.in-Err-decode_frame.fault ≡ stream.NoMemory) c.deref.result.now c.in-Ok-Some.bytes.items c.in-Err-decode_frame.fault c.deref.ensures.value c.in-Err-decode_frame.ensures.first in
    let other = sym c.is_refusal.ensures ∙ c.if-is_refusal.false in (
      no_refusal c.in-Err-decode_frame.fault other,
      breaks _ _ c.in-Ok-Some.bytes.items c.in-Err-decode_frame.fault _ taken.gave (λ front next. next.some) taken.complete taken.fault none first other,
      gave_bytes _ _ c.in-Ok-Some.bytes.items c.in-Ok-Some.bytes.items _ taken.gave (λ front next. next.some) refl,
    )
