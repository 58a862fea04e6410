use Rattle.std.proofs.Common.{◌≡◌, ◌⊎◌, [], ℕ, take, drop, true, false, Ok, sym, ap, subst, ◌∙◌, take-append-drop, IfErr, OnErr, rules}
use Rattle.std.proofs.lemmas.Result.{IfOk-weaker}
use Rattle.ls_stream.specs.Grammar.{Spells}
use Rattle.ls_stream.specs.View.Outlines.{outline_of, IsFirstFault}
use Rattle.ls_archive.specs.View.Checking.{Line, IsGood, IsDamage}
use Rattle.ls_archive.specs.Index.{line}
use Rattle.ls_archive.proofs.CheckLemmas.{spelled_front, has_line}
use Rattle.ls_archive.proofs.LineLemmas.{damage_by}
use Rattle.ls_archive.proofs.ListedLemmas.{unmade_whole, unmade_first}
use Rattle.ls_archive.proofs.checking.looked_at.Goals as goal

pub returns-in_default-clause-damaged : goal.returns-in_default-clause-damaged
returns-in_default-clause-damaged g c = λ good. c.in_default.ensures.none good.frame good.spells

pub returns-in_default-clause-damage : goal.returns-in_default-clause-damage
returns-in_default-clause-damage g c =
    let l : Line = record { text = c.args.line.now.text.items; size = c.args.line.now.size; sum = c.args.line.now.sum } in
    rw c.changed.ensures
    (damage_by c.args.number c.args.offset l c.args.bytes.items (λ has. c.in_default.ensures.no_entry has.entry has.is_entry has.bytes_are) _ (search rules))

pub returns-in-Ok-clause-good : goal.returns-in-Ok-clause-good
returns-in-Ok-clause-good g c =
    let e = c.in-Some.indexed in
    let is = c.in-Some.ensures.entry in
    let bytes = c.args.bytes.items in
    let same : c.bytes.result.now ≡ bytes = c.bytes.ensures.value ∙ is.1 in
    let decoded = c.in-Ok.ensures in
    let used : ℕ = decoded.1 in
    let spells = subst (λ bs. Spells (take used bs) decoded.0) same decoded.2 in
    let split = sym (take-append-drop used bytes) in
    let read : outline_of bytes ≡ Ok (is.0.outline, []) = ap outline_of (sym is.1) ∙ is.0.complete in
    let all = spelled_front c.outlines_follow_the_grammar.ensures.are_read bytes (take used bytes) (drop used bytes) is.0.outline decoded.0 read split spells in
    let has : (c.args.line.now.text.items ≡ line true c.args.number c.args.offset e) ⊎ (c.args.line.now.text.items ≡ line false c.args.number c.args.offset e) = search rules in
    (has_line c.args.number c.args.offset e c.args.line.now.text.items bytes is.0 is.1 has, (decoded.0, all, decoded.3))

pub returns-clause-damaged : goal.returns-clause-damaged
returns-clause-damaged g c =
    let bytes = c.args.bytes.items in
    let same : c.bytes.result.now ≡ bytes = c.bytes.ensures.value ∙ c.in-Some.ensures.entry.1 in
    IfOk-weaker c.undecoded.result _ _
    (λ looked is. subst (λ looked. OnErr looked (IsGood c.args.number c.args.offset c.args.line.now.text.items bytes → ⊥)) (sym is.1)
    (λ good. unmade_whole c.bytes.result.now bytes c.in-Err.fault good.frame same c.in-Err.ensures is.0 good.spells))
    c.undecoded.ensures.found

pub returns-clause-damage : goal.returns-clause-damage
returns-clause-damage g c =
    let e = c.in-Some.indexed in
    let is = c.in-Some.ensures.entry in
    let bytes = c.args.bytes.items in
    let l : Line = record { text = c.args.line.now.text.items; size = c.args.line.now.size; sum = c.args.line.now.sum } in
    let same : c.bytes.result.now ≡ bytes = c.bytes.ensures.value ∙ is.1 in
    let has : (c.args.line.now.text.items ≡ line true c.args.number c.args.offset e) ⊎ (c.args.line.now.text.items ≡ line false c.args.number c.args.offset e) = search rules in
    let line = has_line c.args.number c.args.offset e c.args.line.now.text.items bytes is.0 is.1 has in
    IfOk-weaker c.undecoded.result _ _
    (λ looked ends. subst (λ looked. IfErr looked (IsDamage c.args.number c.args.offset l bytes)) (sym ends.1)
    (line, subst (λ bs. IsFirstFault bs c.in-Err.fault) same (unmade_first c.bytes.result.now c.in-Err.fault c.in-Err.ensures ends.0)))
    c.undecoded.ensures.found
