-- Each kind of step keeps the account of the places that go back.
use Rattle.std.proofs.Common.{◌≡◌, ◌≢◌, ℕ, zero, suc, ◌+◌, ◌<◌, ◌≤◌, ⊎_elim, List, [], ◌∷◌, length, set, refl, sym, ap, subst, ◌∙◌, arith}
use Rattle.std.specs.List.{sum_by}
use Rattle.std.specs.Prelude.{⊤}
use Rattle.std.proofs.lemmas.List.Sums.{sum_by-cons, sum_by_push}
use mathlib.Core.Option.{some, some-injective, some-ne-none}
use lib.ListN.{get_elem?}
use Rattle.crossbeam_channel.specs.Fifo.{Pushes, Pops, Forks, Merges, Learns}
use Rattle.ls_queue.proofs.AccountLists.{at_set, each_set, each_added, sum_set, sum_added, two_of, only_one}
use Rattle.ls_recorder.specs.declared.lane.places.backs.Back.{Back}
use Rattle.ls_recorder.specs.declared.lane.places.backs.BackView.{BackView}
use Rattle.ls_recorder.specs.View.Backs.{back_view, both_halves, places_in, Kept}

-- a pass without shares knows nothing
abbrev Idle : ℕ → BackView → Type 0
Idle pass v = v.shares ≡ 0 → (v.sent ≡ 0) × (v.received ≡ 0)

-- A message is sent.
pub sends : (n p : ℕ) (v : BackView) (m : Back) → 0 < v.shares → Pushes Kept n p v m (λ w. w ≡ back_view v.shares (v.sent + places_in m) v.received)
sends n p v m some_share items views room k at =
    let w = back_view v.shares (v.sent + places_in m) v.received in (
      w,
      record {
        shares = (let t = sum_set (λ (u : BackView). u.shares) views p v w at in let old = k.shares in omega arith);
        places = (let s = sum_set (λ (u : BackView). u.sent) views p v w at in let r = sum_set (λ (u : BackView). u.received) views p v w at in
            let i = sum_by_push places_in items m in let old = k.places in omega arith);
        idle = each_set Idle views p w (λ none. absurd (omega arith)) (λ q u other e. k.idle q u e);
      },
      refl,
    )

-- A message is received.
pub receives : (p : ℕ) (v : BackView) → 0 < v.shares → Pops Kept p v (λ m w. w ≡ back_view v.shares v.sent (v.received + places_in m))
receives p v some_share m items views k at =
    let w = back_view v.shares v.sent (v.received + places_in m) in (
      w,
      record {
        shares = (let t = sum_set (λ (u : BackView). u.shares) views p v w at in let old = k.shares in omega arith);
        places = (let s = sum_set (λ (u : BackView). u.sent) views p v w at in let r = sum_set (λ (u : BackView). u.received) views p v w at in
            let i = sum_by-cons places_in m items in let old = k.places in omega arith);
        idle = each_set Idle views p w (λ none. absurd (omega arith)) (λ q u other e. k.idle q u e);
      },
      refl,
    )

-- A pass is made for each half.
pub halves_made : (p : ℕ) (v : BackView) → v ≡ both_halves → Forks Kept p v (back_view 1 v.sent v.received) (back_view 1 0 0)
halves_made p v is items views k at =
    let w = back_view 1 v.sent v.received in
    let r = back_view 1 0 0 in
    let two : v.shares ≡ 2 = ap (λ (u : BackView). u.shares) is in
    record {
      shares = (let t = sum_added (λ (u : BackView). u.shares) views p v w r at in let old = k.shares in omega arith);
      places = (let s = sum_added (λ (u : BackView). u.sent) views p v w r at in let t = sum_added (λ (u : BackView). u.received) views p v w r at in let old = k.places in omega arith);
      idle = each_added Idle views p w r (λ none. absurd (omega arith)) (λ q u other e. k.idle q u e) (λ none. absurd (omega arith));
    }

-- The passes of both halves are joined.
pub halves_joined : (p other : ℕ) (v w : BackView) → 0 < v.shares
    → Merges Kept p v other w (back_view (v.shares + w.shares) (v.sent + w.sent) (v.received + w.received)) (back_view 0 0 0)
halves_joined p other v w some_share items views k at apart at' =
    let both = back_view (v.shares + w.shares) (v.sent + w.sent) (v.received + w.received) in
    let none = back_view 0 0 0 in
    let vs : List BackView = set views p both in
    record {
      shares = (let t = sum_set (λ (u : BackView). u.shares) views p v both at in let t' = sum_set (λ (u : BackView). u.shares) vs other w none at' in let old = k.shares in omega arith);
      places = (let s = sum_set (λ (u : BackView). u.sent) views p v both at in let s' = sum_set (λ (u : BackView). u.sent) vs other w none at' in
          let r = sum_set (λ (u : BackView). u.received) views p v both at in let r' = sum_set (λ (u : BackView). u.received) vs other w none at' in let old = k.places in omega arith);
      idle = each_set Idle vs other none (λ no_share. (refl, refl))
          (λ q u not_other e. each_set Idle views p both (λ no_share. absurd (omega arith)) (λ q' u' other' e'. k.idle q' u' e') q u e);
    }

-- The last pass is read: no more was received than was sent.
pub compares : (p : ℕ) (v : BackView) → v.shares ≡ 2 → Learns Kept p v (λ items. v.received ≤ v.sent)
compares p v all items views k at =
    let idle : (q : ℕ) (u : BackView) → q ≢ p → get_elem? views q ≡ some u → (u.sent ≡ 0) × (u.received ≡ 0)
    = λ q u other e. k.idle q u e (let t = two_of (λ (y : BackView). y.shares) views p q v u other at e in let s = k.shares in omega arith) in
    let sent = only_one (λ (u : BackView). u.sent) views p v at (λ q u other e. (idle q u other e).0) in
    let received = only_one (λ (u : BackView). u.received) views p v at (λ q u other e. (idle q u other e).1) in
    let places = k.places in
    omega arith

idle_first : (p : ℕ) (v : BackView) → get_elem? (both_halves ∷ []) p ≡ some v → Idle p v
idle_first zero v e = λ none. (let s = ap (λ (u : BackView). u.shares) (some-injective both_halves v e) in absurd (omega arith))
idle_first (suc p) v e = absurd (some-ne-none v (sym e))

-- Nothing was sent yet, and there is one pass.
pub begins : Kept [] (both_halves ∷ [])
begins = record { shares = refl; places = refl; idle = idle_first }
