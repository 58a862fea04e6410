-- Each call keeps the invariant of a collector; and when a coded frame fits.
use Rattle.std.proofs.Common.{◌≡◌, ℕ, zero, suc, ◌+◌, ◌-◌, ◌<◌, ◌≤◌, ◌^◌, ◌==◌, ◌||◌, not, nat_lt, nat_le, Bool, true, false, List, [], ◌∷◌, ◌++◌, length, set, cond, Option, Some, None, refl, sym, ap, subst, ◌∙◌, arith}
use Rattle.std.specs.List.{slice_get}
use Rattle.std.proofs.lemmas.Bool.{eqb-true, eq-eqb, leb-false, lt-leb, ltb-false}
use Rattle.std.proofs.lemmas.List.{length_push, length-set}
use Rattle.std.proofs.lemmas.Option.{slice_get_within}
use Rattle.circular_buffer.proofs.Places.{slice_get-some}
use Rattle.ls_queue.specs.declared.replies.Job.{Job}
use Rattle.ls_pieces.specs.declared.collector.Slot.{Slot}
use Rattle.ls_pieces.specs.declared.collector.Misfit.{Misfit}
use Rattle.ls_pieces.specs.Orders.{Ordered, same_order}
use Rattle.ls_pieces.specs.View.Alike.{same_order-decides}
use Rattle.ls_pieces.specs.Collecting.{Collection, booked, has_piece, is_of, slot_of, was_accepted, misfit_of, after_accept, job_of, ArePieces, IsCollection}

-- ---- booking

ArePieces-book : (source n : ℕ) (slots : List Slot) (order : Ordered) → ArePieces source n slots → ArePieces source n (slots ++ record { order = order; piece = None } ∷ [])
ArePieces-book source n [] order pieces = (tt, tt)
ArePieces-book source n (slot ∷ slots) order pieces = (pieces.0, ArePieces-book source (suc n) slots order pieces.1)

pub IsCollection-book : (c : Collection) (order : Ordered) → IsCollection c → booked c < 2 ^ 64 - 1 → length c.slots < c.window
    → IsCollection (record { source = c.source; window = c.window; first = c.first; slots = c.slots ++ record { order = order; piece = None } ∷ [] })
IsCollection-book c order collection below room =
    let slot : Slot = record { order = order; piece = None } in
    record {
      some_window = collection.some_window;
      window = collection.window;
      room = omega (arith, length_push c.slots slot, room);
      numbers = omega (arith, length_push c.slots slot, below);
      pieces = ArePieces-book c.source c.first c.slots order collection.pieces;
    }

-- ---- accepting

-- a coded frame fits a slot
pub record FitsIn (c : Collection) (piece : Job Ordered) (slot : Slot) : Type 0 where
  pub source : piece.source ≡ c.source
  pub number : c.first ≤ piece.number
  pub at : slice_get c.slots (piece.number - c.first) ≡ Some slot
  pub order : slot.order ≡ piece.item

passes : (m : Misfit) (b : Bool) (rest : Option Misfit) → cond b (Some m) rest ≡ None → (b ≡ false) × (rest ≡ None)
passes m true rest h = let clash : ⊥ = cc in absurd clash
passes m false rest h = (refl, h)

neither : (a b : Bool) → (a || b) ≡ false → (a ≡ false) × (b ≡ false)
neither false false h = (refl, refl)
neither false true h = let clash : ⊥ = cc in absurd clash
neither true b h = let clash : ⊥ = cc in absurd clash

negated : (a : Bool) → not a ≡ false → a ≡ true
negated true h = refl
negated false h = let clash : ⊥ = cc in absurd clash

pub fits : (c : Collection) (piece : Job Ordered) → misfit_of c piece ≡ None → (slot : Slot) × FitsIn c piece slot
fits c piece h =
    let known = passes _ (not (piece.source == c.source)) _ h in
    let below = passes _ (nat_le (booked c) piece.number) _ known.1 in
    let new = passes _ (was_accepted c piece.number) _ below.1 in
    let same = passes _ (not (is_of (slot_of c piece.number) piece.item)) _ new.1 in
    let late = neither (nat_lt piece.number c.first) (has_piece (slot_of c piece.number)) new.0 in
    let from : c.first ≤ piece.number = ltb-false piece.number c.first late.0 in
    let within : piece.number < booked c = leb-false (booked c) piece.number below.0 in
    let inside : piece.number - c.first < length c.slots = omega (arith, from, within) in
    let there = slice_get-some c.slots (piece.number - c.first) inside in
    let alike : is_of (Some there.0) piece.item ≡ true = subst (λ s. is_of s piece.item ≡ true) there.1 (negated (is_of (slot_of c piece.number) piece.item) same.0) in (
      there.0,
      record {
        source = eqb-true piece.source c.source (negated (piece.source == c.source) known.0);
        number = from;
        at = there.1;
        order = (same_order-decides there.0.order piece.item).0 alike;
      },
    )

-- a coded frame that fits a slot without one has no misfit
pub no_misfit : (c : Collection) (piece : Job Ordered) (slot : Slot) → FitsIn c piece slot → has_piece (Some slot) ≡ false → misfit_of c piece ≡ None
no_misfit c piece slot fit empty =
    let within : piece.number - c.first < length c.slots = slice_get_within c.slots (piece.number - c.first) slot fit.at in
    let source : (piece.source == c.source) ≡ true = eq-eqb piece.source c.source fit.source in
    let below : nat_le (booked c) piece.number ≡ false = lt-leb (booked c) piece.number (omega (arith, within, fit.number)) in
    let late : nat_lt piece.number c.first ≡ false = lt-leb (suc piece.number) c.first (omega (arith, fit.number)) in
    let same : same_order slot.order piece.item ≡ true = (same_order-decides slot.order piece.item).1 fit.order in
    rw (source, below, late, fit.at, empty, same) refl

ArePieces-accept : (source n : ℕ) (slots : List Slot) (place : ℕ) (piece : Job Ordered) → ArePieces source n slots → piece ≡ job_of source (n + place) piece.item
    → ArePieces source n (set slots place (record { order = piece.item; piece = Some piece }))
ArePieces-accept source n [] place piece pieces is = tt
ArePieces-accept source n (slot ∷ slots) zero piece pieces is =
    let here : n + 0 ≡ n = omega arith in
    (subst (λ k. piece ≡ job_of source k piece.item) here is, pieces.1)
ArePieces-accept source n (slot ∷ slots) (suc place) piece pieces is =
    let next : n + suc place ≡ suc n + place = omega arith in
    (pieces.0, ArePieces-accept source (suc n) slots place piece pieces.1 (subst (λ k. piece ≡ job_of source k piece.item) next is))

pub IsCollection-accept : (c : Collection) (piece : Job Ordered) (slot : Slot) → IsCollection c → FitsIn c piece slot → IsCollection (after_accept c piece)
IsCollection-accept c piece slot collection fit =
    let place = piece.number - c.first in
    let kept : Slot = record { order = piece.item; piece = Some piece } in
    let number : piece.number ≡ c.first + (piece.number - c.first) = omega (arith, fit.number) in
    record {
      some_window = collection.some_window;
      window = collection.window;
      room = omega (arith, length-set c.slots (piece.number - c.first) kept, collection.room);
      numbers = omega (arith, length-set c.slots (piece.number - c.first) kept, collection.numbers);
      pieces = ArePieces-accept c.source c.first c.slots (piece.number - c.first) piece collection.pieces
          (λ i. record { source = fit.source i; number = number i; item = piece.item });
    }

-- a coded frame that fits is stored in the slot of its number
pub accepted : (c : Collection) (piece : Job Ordered) (slot : Slot) → IsCollection c → misfit_of c piece ≡ None → slice_get c.slots (piece.number - c.first) ≡ Some slot
    → IsCollection (record { source = c.source; window = c.window; first = c.first; slots = set c.slots (piece.number - c.first) (record { order = slot.order; piece = Some piece }) })
accepted c piece slot collection none at =
    let fit = fits c piece none in
    let same : fit.0 ≡ slot = (let e = sym fit.1.at ∙ at in cc) in
    let order : slot.order ≡ piece.item = ap (λ (s : Slot). s.order) (sym same) ∙ fit.1.order in
    rw order (IsCollection-accept c piece fit.0 collection fit.1)

pub after_accepted : (c : Collection) (piece : Job Ordered) (slot : Slot) → misfit_of c piece ≡ None → slice_get c.slots (piece.number - c.first) ≡ Some slot
    → record { source = c.source; window = c.window; first = c.first; slots = set c.slots (piece.number - c.first) (record { order = slot.order; piece = Some piece }) } ≡ after_accept c piece
after_accepted c piece slot none at =
    let fit = fits c piece none in
    let same : fit.0 ≡ slot = (let e = sym fit.1.at ∙ at in cc) in
    let order : slot.order ≡ piece.item = ap (λ (s : Slot). s.order) (sym same) ∙ fit.1.order in
    rw order refl

-- its slot exists
pub is_there : (c : Collection) (piece : Job Ordered) → misfit_of c piece ≡ None → slice_get c.slots (piece.number - c.first) ≡ None → ⊥
is_there c piece none at =
    let fit = fits c piece none in
    let clash = sym fit.1.at ∙ at in
    cc
