-- Two orders are `==` exactly if their pictures and parameters are equal. The proof is here because the language takes the law that an `impl` of
-- `PartialEq` owes only from specs/.
use Rattle.std.specs.Prelude.{◌≡◌, true, refl, Decides}
use Rattle.std.specs.Cmp.{IsPartialEquivalence, first_so, second_so, decided, partial_equiv_from_equiv}
use Rattle.std.proofs.Common.{subst}
use Rattle.std.proofs.lemmas.Bool.{eqb-true, eq-eqb}
use Rattle.ls_frame.specs.Parameters.{Parameters}
use Rattle.ls_frame.specs.View.Alike.{same_picture-decides}
use Rattle.ls_stream.specs.Layout.{same_parameters}
use Rattle.ls_pieces.specs.Orders.{Ordered, same_order}

same_parameters-is : (p q : Parameters) → same_parameters p q ≡ true → p ≡ q
same_parameters-is p q h =
    let from_t1 = second_so _ _ h in
    let from_t2 = second_so _ _ from_t1 in
    let from_t3 = second_so _ _ from_t2 in
    let maxval = eqb-true p.maxval q.maxval (first_so _ _ h) in
    let t1 = eqb-true p.t1 q.t1 (first_so _ _ from_t1) in
    let t2 = eqb-true p.t2 q.t2 (first_so _ _ from_t2) in
    let t3 = eqb-true p.t3 q.t3 (first_so _ _ from_t3) in
    let reset = eqb-true p.reset q.reset (second_so _ _ from_t3) in
    λ i. record { maxval = maxval i; t1 = t1 i; t2 = t2 i; t3 = t3 i; reset = reset i }

same_parameters-own : (p : Parameters) → same_parameters p p ≡ true
same_parameters-own p =
    rw (eq-eqb p.maxval p.maxval refl, eq-eqb p.t1 p.t1 refl, eq-eqb p.t2 p.t2 refl, eq-eqb p.t3 p.t3 refl, eq-eqb p.reset p.reset refl) refl

same_order-is : (a b : Ordered) → same_order a b ≡ true → a ≡ b
same_order-is a b h =
    let picture = (same_picture-decides a.0 b.0).0 (first_so _ _ h) in
    let parameters = same_parameters-is a.1 b.1 (second_so _ _ h) in
    λ i. (picture i, parameters i)

same_order-own : (a : Ordered) → same_order a a ≡ true
same_order-own a = rw ((same_picture-decides a.0 a.0).1 refl, same_parameters-own a.1) refl

pub same_order-decides : (a b : Ordered) → Decides (same_order a b) (a ≡ b)
same_order-decides a b = (same_order-is a b, λ e. subst (λ o. same_order a o ≡ true) e (same_order-own a))

pub same_order-laws : IsPartialEquivalence same_order
same_order-laws = partial_equiv_from_equiv (decided same_order same_order-decides)
