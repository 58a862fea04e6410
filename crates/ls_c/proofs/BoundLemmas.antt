-- How long a codestream of a form may be.
use Rattle.std.proofs.Common.{◌≡◌, ℕ, ◌+◌, ◌*◌, ◌/◌, ◌^◌, ◌<◌, ◌≤◌, Bool, true, false, cond, length, refl, sym, ◌∙◌, ap, div-mul-le_self, arith}
use Rattle.std.proofs.lemmas.Nat.{mul-le}
use Rattle.ls_frame.specs.declared.frame.Kind.{Kind}
use Rattle.ls_frame.specs.declared.frame.Kind.TheVariants.{Gray, Color}
use Rattle.ls_frame.specs.Picture.{Picture, IsFrame, components}
use Rattle.ls_frame.specs.Parameters.{Parameters, IsLegal, limit_of}
use Rattle.ls_stream.specs.Layout.{codestream, bound, headers_length, needs_presets}
use Rattle.ls_stream.proofs.LengthLemmas.{within_bound}
use Rattle.ls_c.specs.declared.form.JlsrecForm.{JlsrecForm}
use Rattle.ls_c.specs.Forms.{IsOfForm, kind_of, most_bytes_of}

most_by : (test : Bool) → cond test 15 0 ≤ 15
most_by true = omega arith
most_by false = omega arith

bound_most : (f : Picture) (p : Parameters) → bound f p ≤ 29 + 13 * components f.kind + components f.kind * (limit_of p.maxval * (f.width * f.height) / 7 + 1)
unfolding bound headers_length
bound_most f p = omega (arith, most_by (needs_presets p))

kind_again : (kind : Kind) → kind_of (components kind) ≡ kind
kind_again Gray = refl
kind_again Color = refl

same_bound : (f : Picture) (p : Parameters) (form : JlsrecForm) → p.maxval ≡ f.maxval → IsOfForm f form
    → 29 + 13 * components f.kind + components f.kind * (limit_of p.maxval * (f.width * f.height) / 7 + 1) ≡ most_bytes_of form
same_bound f p form same is =
    let kind : f.kind ≡ kind_of form.components = sym (kind_again f.kind) ∙ ap kind_of is.components in
    let maxval : p.maxval ≡ form.maxval = same ∙ is.maxval in
    rw kind (rw maxval (rw is.width (rw is.height refl)))

pub within_most : (f : Picture) (p : Parameters) (form : JlsrecForm) → IsFrame f → IsLegal p → p.maxval ≡ f.maxval → IsOfForm f form → length (codestream f p) ≤ most_bytes_of form
within_most f p form frame legal same is =
    omega (arith, within_bound f p frame legal same, bound_most f p, same_bound f p form same is)

pub at_most : (form : JlsrecForm) (count limit w h n : ℕ) → count ≡ components (kind_of form.components) → limit ≡ limit_of form.maxval → w ≡ form.width → h ≡ form.height
    → n ≤ most_bytes_of form → n ≤ 29 + 13 * count + count * (limit * (w * h) / 7 + 1)
at_most form count limit w h n e1 e2 e3 e4 within = rw e1 (rw e2 (rw e3 (rw e4 within)))

-- LIMIT bits for each sample, seven to a byte, and a little more
pub most_small : (count limit w h : ℕ) → count ≤ 3 → limit ≤ 64 → w * h * count ≤ 2 ^ 28 → 29 + 13 * count + count * (limit * (w * h) / 7 + 1) < 2 ^ 32
most_small count limit w h three small few =
    let bits = limit * (w * h) in
    let all : count * bits ≡ limit * (w * h * count) = omega arith in
    let most : limit * (w * h * count) ≤ 64 * 2 ^ 28 = mul-le limit (w * h * count) 64 (2 ^ 28) small few in
    let sevenths : count * (bits / 7 * 7) ≤ count * bits = mul-le count (bits / 7 * 7) count bits (omega arith) (div-mul-le_self bits 7) in
    let split : count * (bits / 7 + 1) ≡ count * (bits / 7) + count = omega arith in
    let turned : count * (bits / 7 * 7) ≡ 7 * (count * (bits / 7)) = omega arith in
    omega arith
