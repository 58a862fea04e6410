use Rattle.std.proofs.Common.{◌≡◌, ◌≤◌, length, take, sym, ◌∙◌, ap, subst, arith}
use Rattle.ls_stream.specs.Grammar.{Spells, most_bytes}
use Rattle.ls_stream.specs.View.Outlines.{outline_at, DecodingStops, IsFirstFault}
use Rattle.ls_stream.specs.View.Decoding.{picture}
use Rattle.ls_frame.specs.Picture.{picture_of, components}
use Rattle.ls_stream.specs.Components.{arranged}
use Rattle.ls_stream.specs.View.Openings.{Opened, opened_form}
use Rattle.ls_stream.proofs.FaultLaws.{stops_are_first_faults}
use Rattle.ls_stream.proofs.MemoryLemmas.{memory_of_first, decoding_needs_none}
use Rattle.ls_stream.proofs.FrameReadingLemmas.{bytes_take, front_spells, IsFoundAt, found_at, same_left}
use Rattle.ls_stream.proofs.OpeningLemmas.{no_front}
use Rattle.ls_stream.proofs.decode.Opening.decode_arranged.Goals as goal

pub returns-in-Ok-clause-ok : goal.returns-in-Ok-clause-ok
returns-in-Ok-clause-ok g c =
    let bytes = c.self.inside.bytes.now in
    let found = c.in-Ok.ensures.ok in
    subst (λ (o : Opened). (c.in-Ok.used ≤ length o.bytes) × Spells (take c.in-Ok.used o.bytes) (picture_of (opened_form o) (arranged c.args.arrangement (components o.kind) (g.S.Sample.numbers c.decode_opened.new.samples)))) c.self.view_is
    (front_spells bytes found.1 found.0 (picture c.self.inside.header c.self.inside.presets.maxval (arranged c.args.arrangement (components c.self.inside.header.kind) (g.S.Sample.numbers c.decode_opened.new.samples))) c.in-Ok.used c.self.invariant.are
    (ap outline_at (sym c.first_bytes-first.ensures) ∙ found.2) found.3 found.4 (found.5 ∙ ap length c.first_bytes-first.ensures))

pub returns-in-Ok-clause-complete : goal.returns-in-Ok-clause-complete
returns-in-Ok-clause-complete g c front rest f e spelled =
    let bytes = c.self.inside.bytes.now in
    let found = c.in-Ok.ensures.ok in
    let there : IsFoundAt bytes front f = found_at bytes front rest f (ap (λ (o : Opened). o.bytes) c.self.view_is ∙ e) spelled in
    let here = ap outline_at c.first_bytes-first.ensures ∙ there.outline_is in
    let left : found.1 ≡ there.left = same_left c.first_bytes-first.result.now found.0 there.o found.1 there.left found.2 here in (
      ap (λ (o : Opened). picture_of (opened_form o) (arranged c.args.arrangement (components o.kind) (g.S.Sample.numbers c.decode_opened.new.samples))) (sym c.self.view_is)
          ∙ c.in-Ok.ensures.only there.o there.left f here there.frame there.says,
      omega (arith, found.5, ap length left, ap length c.first_bytes-first.ensures, there.count),
    )

pub returns-in-Err-clause-complete : goal.returns-in-Err-clause-complete
returns-in-Err-clause-complete g c front rest f e spelled =
    no_front c.self.inside.bytes.now c.first_bytes-first.result.now c.first_bytes-first.ensures c.in-Err.ensures.none front rest f
    (ap (λ (o : Opened). o.bytes) c.self.view_is ∙ e) spelled

pub returns-in-Err-clause-first : goal.returns-in-Err-clause-first
returns-in-Err-clause-first g c =
    let bytes = c.self.inside.bytes.now in
    subst (λ (o : Opened). IsFirstFault o.bytes c.fault_of.result) c.self.view_is (
      c.in-Err.fault,
      c.fault_of.ensures,
      stops_are_first_faults (take most_bytes bytes) c.in-Err.fault (bytes_take most_bytes bytes c.self.invariant.are)
          (subst (λ first. DecodingStops first c.in-Err.fault) c.first_bytes-first.ensures c.in-Err.ensures.stops),
    )

pub returns-in-Err-clause-memory : goal.returns-in-Err-clause-memory
returns-in-Err-clause-memory g c = λ e.
    let none = memory_of_first c.self.inside.bytes.now c.in-Err.fault (sym c.fault_of.ensures ∙ e) in
    decoding_needs_none c.first_bytes-first.result.now (subst (λ fault. DecodingStops c.first_bytes-first.result.now fault) none c.in-Err.ensures.stops)
