-- Putting the coded frames of one source in order: what a collector returns for each call, and its state afterwards.
use Rattle.std.specs.Prelude.{◌≡◌, ℕ, suc, ◌+◌, ◌-◌, ◌<◌, ◌≤◌, ◌^◌, ◌==◌, ◌||◌, not, nat_lt, nat_le, Bool, true, false, if◌then◌else◌, List, [], ◌∷◌, ◌++◌, length, drop, slice_get, slice_set, Option, None, Some, IfSome, Result, Ok, Err}
use Rattle.ls_queue.specs.declared.replies.Job.{Job}
use Rattle.ls_pieces.specs.declared.collector.Slot.{Slot}
use Rattle.ls_pieces.specs.declared.collector.Misfit.{Misfit}
use Rattle.ls_pieces.specs.declared.collector.Misfit.TheVariants.{Stranger, NotBooked, Twice, OtherFrame}
use Rattle.ls_pieces.specs.declared.collector.CollectorFault.{CollectorFault}
use Rattle.ls_pieces.specs.declared.collector.CollectorFault.TheVariants as fault
use Rattle.ls_pieces.specs.Orders.{Ordered, same_order}

-- The state of a collector: the orders of a source that were booked and not yet handed out, at most `window` of them, each with its coded frame if
-- that was accepted. The first has the number `first`, and the others are numbered on from it.
pub record Collection : Type 0 where
  pub source : ℕ
  pub window : ℕ
  pub first : ℕ
  pub slots : List Slot

-- the largest window
abbrev pub most_window : ℕ
most_window = 64

-- why a collector can't have this window, if it can't
abbrev pub window_fault : ℕ → Option CollectorFault
window_fault window = if window == 0 || nat_lt most_window window then Some fault.Window else None

-- a collector with nothing booked
abbrev pub new_collection : ℕ → ℕ → Collection
new_collection source window = record { source = source; window = window; first = 0; slots = [] }

-- the number of orders booked so far, which is the number of the next one
abbrev pub booked : Collection → ℕ
booked c = c.first + length c.slots

abbrev pub is_full : Collection → Bool
is_full c = length c.slots == c.window

-- the number of the booked order, or the order itself if the window is full
abbrev pub book_reply : Collection → Ordered → Result ℕ Ordered
book_reply c order = if is_full c then Err order else Ok (booked c)

abbrev pub after_book : Collection → Ordered → Collection
after_book c order = if is_full c then c else record c { slots = c.slots ++ record { order = order; piece = None } ∷ [] }

-- whether a slot has its coded frame; whether it holds this order
abbrev pub has_piece : Option Slot → Bool
has_piece None = false
has_piece (Some slot) = (elim slot.piece [ None ↦ false | Some piece ↦ true ])

abbrev pub is_of : Option Slot → Ordered → Bool
is_of None order = false
is_of (Some slot) order = same_order slot.order order

-- the slot of an order that is booked and not yet handed out, by its number
abbrev pub slot_of : Collection → ℕ → Option Slot
slot_of c number = slice_get c.slots (number - c.first)

-- whether a coded frame with this number was accepted before; it may have been handed out since
abbrev pub was_accepted : Collection → ℕ → Bool
was_accepted c number = nat_lt number c.first || has_piece (slot_of c number)

-- why a coded frame doesn't fit: the first of these that applies
abbrev pub misfit_of : Collection → Job Ordered → Option Misfit
misfit_of c piece =
    if not (piece.source == c.source) then Some Stranger
    else (if nat_le (booked c) piece.number then Some NotBooked
    else (if was_accepted c piece.number then Some Twice
    else (if not (is_of (slot_of c piece.number) piece.item) then Some OtherFrame
    else None)))

-- a coded frame that fits is stored in the slot of its number
abbrev pub after_accept : Collection → Job Ordered → Collection
after_accept c piece = record c { slots = slice_set c.slots (piece.number - c.first) (record { order = piece.item; piece = Some piece }) }

-- the coded frame of the first order, if it was accepted; `next` hands it out
abbrev pub first_piece : List Slot → Option (Job Ordered)
first_piece [] = None
first_piece (slot ∷ slots) = slot.piece

abbrev pub next_reply : Collection → Option (Job Ordered)
next_reply c = first_piece c.slots

abbrev pub after_reply : Collection → Option (Job Ordered) → Collection
after_reply c None = c
after_reply c (Some piece) = record c { first = c.first + 1; slots = drop 1 c.slots }

abbrev pub after_next : Collection → Collection
after_next c = after_reply c (next_reply c)

-- ---- what is true of every collector

-- the job of an order, by its source and number
abbrev pub job_of : ℕ → ℕ → Ordered → Job Ordered
job_of source number order = record { source = source; number = number; item = order }

-- each coded frame is of its slot's order, and has the source and the number of the slot; slots are numbered from n on
abbrev pub ArePieces : ℕ → ℕ → List Slot → Type 0
ArePieces source n [] = Unit {0}
ArePieces source n (slot ∷ slots) = IfSome slot.piece (λ piece. piece ≡ job_of source n slot.order) × ArePieces source (suc n) slots

pub record IsCollection (c : Collection) : Type 0 where
  pub some_window : 1 ≤ c.window
  pub window : c.window ≤ most_window
  pub room : length c.slots ≤ c.window
  pub numbers : booked c < 2 ^ 64
  pub pieces : ArePieces c.source c.first c.slots
