-- The results of workers, as the passes of boxes know them.
use Rattle.std.specs.Prelude.{◌≡◌, ℕ, List, [], ◌∷◌, ◌++◌, Option, Some, Result, Ok, Err, slice_get, slice_set}
use Rattle.crossbeam_channel.specs.Claims.{Pass, view}
use Rattle.ls_queue.specs.declared.replies.Job.{Job}
use Rattle.ls_pieces.specs.Orders.{Ordered}
use Rattle.ls_pieces.specs.declared.pieces.Uncoded.{Uncoded}
use Rattle.ls_recorder.specs.declared.delivery.answers.BoxView.{BoxView}

-- a worker's result for a job
abbrev pub Reply : Type 0
Reply = Result (Job Ordered) Uncoded

-- the number of its job
abbrev pub number_of : Reply → ℕ
number_of (Ok piece) = piece.number
number_of (Err uncoded) = uncoded.number

abbrev pub box_view : List Reply → List Reply → BoxView
box_view sent received = record { sent = sent; received = received }

-- what the holder of a pass sent, and what it received
abbrev pub sent_by : Pass Reply BoxView → List Reply
sent_by pass = (view pass).sent

abbrev pub received_by : Pass Reply BoxView → List Reply
received_by pass = (view pass).received

-- one more result was sent by the sender of this source, and none by the others
abbrev pub IsSentTo : List (List Reply) → ℕ → Reply → List (List Reply) → Type 0
IsSentTo before source reply after = (own : List Reply) × (slice_get before source ≡ Some own) × (after ≡ slice_set before source (own ++ reply ∷ []))
