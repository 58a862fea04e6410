-- The account of the channel by which a lane's places go back: what was received and what the channel holds is what was handed back.
use Rattle.std.specs.Prelude.{◌≡◌, ℕ, ◌+◌, List}
use Rattle.std.specs.List.{sum_by}
use mathlib.Core.Option.{some}
use lib.ListN.{get_elem?}
use Rattle.ls_recorder.specs.declared.lane.places.backs.Back.{Back}
use Rattle.ls_recorder.specs.declared.lane.places.backs.Back.TheVariants as back
use Rattle.ls_recorder.specs.declared.lane.places.backs.BackView.{BackView}

abbrev pub back_view : ℕ → ℕ → ℕ → BackView
back_view shares sent received = record { shares = shares; sent = sent; received = received }

-- the first pass, before there is one for each half
abbrev pub both_halves : BackView
both_halves = back_view 2 0 0

-- the number of places that a message hands back
abbrev pub places_in : Back → ℕ
places_in (back.Places places) = places
places_in back.Stopped = 0

-- The rule: the shares are two in all, all places that were handed back were received or are in the channel, and a pass without shares knows nothing.
pub record Kept (items : List Back) (views : List BackView) : Type 0 where
  pub shares : sum_by (λ (v : BackView). v.shares) views ≡ 2
  pub places : sum_by (λ (v : BackView). v.sent) views ≡ sum_by (λ (v : BackView). v.received) views + sum_by places_in items
  pub idle : (pass : ℕ) (v : BackView) → get_elem? views pass ≡ some v → v.shares ≡ 0 → (v.sent ≡ 0) × (v.received ≡ 0)
