-- Two frames are `==` exactly if their pictures are equal. The proof is here since the language accepts the laws of an
-- `impl` of `PartialEq` only from specs/.
use Rattle.std.specs.Prelude.{◌≡◌, true, refl, Decides}
use Rattle.std.specs.Cmp.{IsPartialEquivalence, first_so, second_so, decided, partial_equiv_from_equiv}
use Rattle.std.proofs.Common.{subst}
use Rattle.std.proofs.lemmas.Bool.{eqb-true, eq-eqb}
use lib.Pointwise.{bytes_decides}
use Rattle.ls_frame.specs.declared.frame.Kind.{Kind}
use Rattle.ls_frame.specs.declared.frame.Kind.TheVariants.{Gray, Color}
use Rattle.ls_frame.specs.Picture.{Picture, same_kind, same_picture}

same_kind-is : (k l : Kind) → same_kind k l ≡ true → k ≡ l
same_kind-is Gray Gray h = refl
same_kind-is Gray Color h = cc
same_kind-is Color Gray h = cc
same_kind-is Color Color h = refl

same_kind-own : (k : Kind) → same_kind k k ≡ true
same_kind-own Gray = refl
same_kind-own Color = refl

same_picture-is : (f g : Picture) → same_picture f g ≡ true → f ≡ g
same_picture-is f g h =
    let to_maxval = first_so _ _ h in
    let to_height = first_so _ _ to_maxval in
    let to_width = first_so _ _ to_height in
    let kind = same_kind-is f.kind g.kind (first_so _ _ to_width) in
    let width = eqb-true f.width g.width (second_so _ _ to_width) in
    let height = eqb-true f.height g.height (second_so _ _ to_height) in
    let maxval = eqb-true f.maxval g.maxval (second_so _ _ to_maxval) in
    let samples = (bytes_decides f.samples g.samples).0 (second_so _ _ h) in
    λ i. record { kind = kind i; width = width i; height = height i; maxval = maxval i; samples = samples i }

same_picture-own : (f : Picture) → same_picture f f ≡ true
same_picture-own f =
    rw (same_kind-own f.kind, eq-eqb f.width f.width refl, eq-eqb f.height f.height refl, eq-eqb f.maxval f.maxval refl, (bytes_decides f.samples f.samples).1 refl) refl

pub same_picture-decides : (f g : Picture) → Decides (same_picture f g) (f ≡ g)
same_picture-decides f g = (same_picture-is f g, λ e. subst (λ l. same_picture f l ≡ true) e (same_picture-own f))

pub same_picture-laws : IsPartialEquivalence same_picture
same_picture-laws = partial_equiv_from_equiv (decided same_picture same_picture-decides)
