use Rattle.std.proofs.Common.{◌≡◌, ◌∙◌, ℕ, length, inr, sym, ap, subst, rules, arith}
use Rattle.ls_frame.specs.Picture.{Picture, IsFrame, picture_of, form_of, components}
use Rattle.ls_stream.specs.Components.{arranged}
use Rattle.ls_frame.specs.View.Numbers.{numbers}
use Rattle.ls_c.specs.Forms.{coding_refusal}
use Rattle.ls_c.specs.Refusals.{status_by}
use Rattle.ls_c.proofs.EncodingLemmas.{frame_refusal, over_refusal, room}
use Rattle.ls_c.proofs.coding.encode_joined.Goals as goal

pub from_parts-picture-requires : goal.from_parts-picture-requires
from_parts-picture-requires c = record {
  some_width = c.requires.some_width;
  width = omega arith;
  some_height = c.requires.some_height;
  height = omega arith;
  some_maxval = c.requires.some_maxval;
  maxval = omega arith;
  few = c.requires.few;
  count = c.requires.count;
}

pub returns-clause-spells : goal.returns-clause-spells
returns-clause-spells c =
    let f = picture_of c.args.request.form (arranged c.args.arrangement (components c.args.request.form.kind) (numbers c.args.samples)) in
    let frame : IsFrame f = search rules in
    c.codestreams_spell_their_frames.ensures f c.args.request.presets frame c.requires.legal c.requires.maxval

-- the picture in its arrangement, of a sample that is over maxval
pub returns-in_default-clause-exactly : goal.returns-in_default-clause-exactly
returns-in_default-clause-exactly c =
    let p = c.args.request.presets in
    let room_for : ℕ = length c.args.bytes.now in
    let f : Picture = c.new-picture.result in
    let same = c.new-picture.ensures ∙ ap (λ (x : Picture). picture_of (form_of x) (arranged c.args.arrangement (components x.kind) x.samples)) c.from_parts-picture.ensures in
    let refused = rw c.in_default.is at c.encode_into.ensures.exactly in
    inr (subst (λ (x : Picture). 9 ≡ status_by (coding_refusal x p room_for)) same (sym (ap status_by (over_refusal f p room_for refused.0 refused.1))))

pub returns-clause-exactly : goal.returns-clause-exactly
returns-clause-exactly c =
    let p = c.args.request.presets in
    let bytes = c.args.bytes.now in
    let f : Picture = c.new-picture.result in
    let same = c.new-picture.ensures ∙ ap (λ (x : Picture). picture_of (form_of x) (arranged c.args.arrangement (components x.kind) x.samples)) c.from_parts-picture.ensures in
    let frame = rw c.in-Some.is at c.encode_into.ensures.exactly in
    inr (subst (λ (x : Picture). 0 ≡ status_by (coding_refusal x p (length bytes))) same
    (sym (ap status_by (frame_refusal f p (length bytes) frame ∙ room f p bytes (omega (arith, c.picture_bound-bound.ensures.enough frame, c.if-bound-bytes.false))))))
