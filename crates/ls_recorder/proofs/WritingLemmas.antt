-- The writing half, step by step: orders are taken and booked, a coded frame is accepted or refused, and more orders come after writing stopped.
use Rattle.std.proofs.Common.{◌≡◌, ℕ, zero, suc, ◌+◌, ◌-◌, ◌<◌, ◌≤◌, ◌==◌, ◌||◌, not, nat_lt, nat_le, Bool, true, false, cond, List, [], ◌∷◌, ◌++◌, length, map, take, Option, Some, None, refl, sym, ap, subst, ◌∙◌, arith, append_assoc, append-nil}
use Rattle.std.specs.List.{slice_get}
use Rattle.std.specs.Io.KnownBytes.{Appends}
use Rattle.std.proofs.lemmas.Bool.{leb-false, lt-leb, le-leb, ltb-false}
use Rattle.std.proofs.lemmas.List.{length-append, length-map, map-append, take-append-le}
use Rattle.ls_film.specs.Coding.{file}
use Rattle.ls_queue.specs.declared.replies.Job.{Job}
use Rattle.ls_queue.specs.declared.running.WorkerSeat.{WorkerSeat}
use Rattle.ls_queue.specs.View.Running.{jobs_taken}
use Rattle.ls_pieces.specs.declared.collector.Slot.{Slot}
use Rattle.ls_pieces.specs.declared.collector.Misfit.{Misfit as Cause}
use Rattle.ls_pieces.specs.declared.collector.Misfit.TheVariants.{Stranger, NotBooked, Twice, OtherFrame}
use Rattle.ls_pieces.specs.Orders.{Ordered}
use Rattle.ls_pieces.specs.Collecting.{Collection, booked, has_piece, is_of, slot_of, was_accepted, misfit_of}
use Rattle.ls_recorder.specs.declared.lane.LaneFault.{LaneFault}
use Rattle.ls_recorder.specs.declared.lane.LaneFault.TheVariants as fault
use Rattle.ls_recorder.specs.declared.lane.writing.Halt.{Halt}
use Rattle.ls_recorder.specs.declared.lane.writing.Halt.TheVariants as halt
use Rattle.ls_recorder.specs.View.Lanes.{WroteFront, WroteFewer, WrotePart, WroteFirst, orders_in, IsWriting, StopsWriting}
use Rattle.ls_recorder.specs.View.Halves.{orders_taken, TakesMore, IsAhead, RefusesPiece, HaltsWriting}
use Rattle.ls_recorder.proofs.LaneLemmas.{file-append, take-front, writes-fewer, writes-front}

-- ---- orders that are taken

pub orders-more : (seat seat' : WorkerSeat Ordered) (j : Job Ordered) → jobs_taken seat' ≡ jobs_taken seat ++ j ∷ [] → orders_taken seat' ≡ orders_taken seat ++ j.item ∷ []
orders-more seat seat' j more = ap (map (λ (k : Job Ordered). k.item)) more ∙ map-append (λ (k : Job Ordered). k.item) (jobs_taken seat) (j ∷ [])

pub orders-many : (seat : WorkerSeat Ordered) → length (orders_taken seat) ≡ length (jobs_taken seat)
orders-many seat = length-map (jobs_taken seat) (λ (k : Job Ordered). k.item)

pub takes-none : (seat : WorkerSeat Ordered) → TakesMore seat seat
takes-none seat = record { more = []; taken = sym (append-nil (orders_taken seat)) }

pub takes-one : (seat seat' : WorkerSeat Ordered) (j : Job Ordered) → jobs_taken seat' ≡ jobs_taken seat ++ j ∷ [] → TakesMore seat seat'
takes-one seat seat' j more = record { more = j.item ∷ []; taken = orders-more seat seat' j more }

pub takes-both : (a b c : WorkerSeat Ordered) → TakesMore a b → TakesMore b c → TakesMore a c
takes-both a b c first next = record {
  more = first.more ++ next.more;
  taken = next.taken ∙ ap (λ l. l ++ next.more) first.taken ∙ append_assoc (orders_taken a) first.more next.more;
}

pub takes-longer : (seat seat' : WorkerSeat Ordered) → TakesMore seat seat' → length (jobs_taken seat) ≤ length (jobs_taken seat')
takes-longer seat seat' more = omega (arith, orders-many seat, orders-many seat', ap length more.taken, length-append (orders_taken seat) more.more)

-- all is written
none-left : (slots : List Slot) → length slots ≤ 0 → map (λ (slot : Slot). slot.order) slots ≡ []
none-left [] none = refl
none-left (slot ∷ slots) none = absurd (omega (arith, none))

pub wrote-all : (items : List Ordered) (start now : Option (List ℕ)) (c : Collection) (bytes : ℕ) → IsWriting items start now c bytes → length c.slots ≤ 0 → Appends start now (file items)
wrote-all items start now c bytes writing none =
    let all : items ≡ writing.done = writing.items_are ∙ ap (λ l. writing.done ++ l) (none-left c.slots none) ∙ append-nil writing.done in
    rw all writing.wrote

-- ---- more orders come after writing stopped

later-front : (items more : List Ordered) (start now : Option (List ℕ)) → WroteFront items start now → WroteFront (items ++ more) start now
later-front items more start now wrote = record {
  count = wrote.count;
  front = omega (arith, length-append items more, wrote.front);
  wrote = subst (λ l. Appends start now (file l)) (sym (take-append-le wrote.count items more wrote.front)) wrote.wrote;
}

later-fewer : (items more : List Ordered) (start now : Option (List ℕ)) → WroteFewer items start now → WroteFewer (items ++ more) start now
later-fewer items more start now wrote = record {
  count = wrote.count;
  fewer = omega (arith, length-append items more, wrote.fewer);
  wrote = subst (λ l. Appends start now (file l)) (sym (take-append-le wrote.count items more (omega (arith, wrote.fewer)))) wrote.wrote;
}

later-part : (items more : List Ordered) (start now : Option (List ℕ)) (bytes : ℕ) → WrotePart items start now bytes → WrotePart (items ++ more) start now bytes
later-part items more start now bytes wrote =
    let all : file (items ++ more) ≡ file items ++ file more = file-append items more in record {
      part = omega (arith, ap length all, length-append (file items) (file more), wrote.part);
      wrote = subst (Appends start now) (sym (ap (take bytes) all ∙ take-front bytes (file items) (file more) wrote.part)) wrote.wrote;
    }

later-first : (items more : List Ordered) (start now : Option (List ℕ)) (count : ℕ) → WroteFirst items start now count → WroteFirst (items ++ more) start now count
later-first items more start now count first = record {
  few = omega (arith, length-append items more, first.few);
  rest = first.rest;
  wrote = subst (λ l. Appends start now (file l ++ first.rest)) (sym (take-append-le count items more first.few)) first.wrote;
}

pub more-first : (seat seat' : WorkerSeat Ordered) (start now : Option (List ℕ)) (count : ℕ) → TakesMore seat seat' → WroteFirst (orders_taken seat) start now count
    → WroteFirst (orders_taken seat') start now count
more-first seat seat' start now count more first = subst (λ l. WroteFirst l start now count) (sym more.taken) (later-first (orders_taken seat) more.more start now count first)

-- the collector with more orders, as if it had room for them
abbrev slots-of : List Ordered → List Slot
slots-of more = map (λ (o : Ordered). record { order = o; piece = None }) more

abbrev grown : Collection → List Ordered → Collection
grown c more = record { source = c.source; window = c.window; first = c.first; slots = c.slots ++ slots-of more }

length-slots : (more : List Ordered) → length (slots-of more) ≡ length more
length-slots [] = refl
length-slots (o ∷ more) = ap suc (length-slots more)

orders-of-slots : (more : List Ordered) → map (λ (slot : Slot). slot.order) (slots-of more) ≡ more
orders-of-slots [] = refl
orders-of-slots (o ∷ more) = ap (λ l. o ∷ l) (orders-of-slots more)

later-writing : (items more : List Ordered) (start now : Option (List ℕ)) (c : Collection) (bytes : ℕ) → IsWriting items start now c bytes → IsWriting (items ++ more) start now (grown c more) bytes
later-writing items more start now c bytes writing = record {
  done = writing.done;
  items_are = ap (λ l. l ++ more) writing.items_are ∙ append_assoc writing.done (orders_in c) more
      ∙ ap (λ l. writing.done ++ l) (sym (map-append (λ (slot : Slot). slot.order) c.slots (slots-of more) ∙ ap (λ l. orders_in c ++ l) (orders-of-slots more)));
  wrote = writing.wrote;
  first_is = writing.first_is;
  bytes_are = writing.bytes_are;
}

-- the first of four causes that applies
abbrev first_of : (a b c d : Bool) → Option Cause
first_of a b c d = cond a (Some Stranger) (cond b (Some NotBooked) (cond c (Some Twice) (cond d (Some OtherFrame) None)))

same_first : (a b c d b' c' d' : Bool) (m : Cause) → first_of a b c d ≡ Some m → (m ≡ NotBooked → ⊥) → (b ≡ false → (b' ≡ false) × (c' ≡ c) × (c ≡ false → d' ≡ d)) → first_of a b' c' d' ≡ Some m
same_first true b c d b' c' d' m is other same = is
same_first false true c d b' c' d' m is other same = absurd (other cc)
same_first false false true d b' c' d' m is other same = let s = same refl in rw (s.0, s.1) is
same_first false false false d b' c' d' m is other same = let s = same refl in rw (s.0, s.1, s.2 refl) is

same_or : (a b c : Bool) → (a ≡ false → c ≡ b) → (a || c) ≡ (a || b)
same_or true b c same = refl
same_or false b c same = same refl

get-front : (xs ys : List Slot) (n : ℕ) → n < length xs → slice_get (xs ++ ys) n ≡ slice_get xs n
get-front [] ys n less = absurd (omega arith)
get-front (x ∷ xs) ys zero less = refl
get-front (x ∷ xs) ys (suc n) less = get-front xs ys n (omega (arith, less))

first_false : (a b : Bool) → (a || b) ≡ false → a ≡ false
first_false false b h = refl
first_false true b h = let clash : ⊥ = cc in absurd clash

later-misfit : (c : Collection) (more : List Ordered) (piece : Job Ordered) (m : Cause) → misfit_of c piece ≡ Some m → (m ≡ NotBooked → ⊥) → misfit_of (grown c more) piece ≡ Some m
later-misfit c more piece m is other =
    let c' = grown c more in
    let size : booked c' ≡ booked c + length more = omega (arith, length-append c.slots (slots-of more), length-slots more) in
    let slot : piece.number < booked c → c.first ≤ piece.number → slot_of c' piece.number ≡ slot_of c piece.number =
    (λ less from. get-front c.slots (slots-of more) (piece.number - c.first) (omega (arith, less, from))) in
    let accepted : piece.number < booked c → was_accepted c' piece.number ≡ was_accepted c piece.number =
    (λ less. same_or (nat_lt piece.number c.first) (has_piece (slot_of c piece.number)) (has_piece (slot_of c' piece.number)) (λ early. ap has_piece (slot less (ltb-false piece.number c.first early)))) in
    same_first (not (piece.source == c.source)) (nat_le (booked c) piece.number) (was_accepted c piece.number) (not (is_of (slot_of c piece.number) piece.item))
    (nat_le (booked c') piece.number) (was_accepted c' piece.number) (not (is_of (slot_of c' piece.number) piece.item)) m is other
    (λ below.
    let less : piece.number < booked c = leb-false (booked c) piece.number below in (
      lt-leb (booked c') piece.number (omega (arith, size, less)),
      accepted less,
      (λ new. ap (λ s. not (is_of s piece.item)) (slot less (ltb-false piece.number c.first (first_false (nat_lt piece.number c.first) (has_piece (slot_of c piece.number)) new)))),
    ))

-- ---- the fault that is returned once the remaining orders are taken

-- writing stopped for anything but a coded frame whose order isn't booked
pub later-stops : (items more : List Ordered) (start now : Option (List ℕ)) (f : LaneFault) → StopsWriting items start now f → (f ≡ fault.Misfit NotBooked → ⊥) → StopsWriting (items ++ more) start now f
later-stops items more start now (fault.Input m f) why other = absurd why
later-stops items more start now (fault.Output bytes) why other = later-part items more start now bytes why
later-stops items more start now fault.NoMemory why other = later-front items more start now why
later-stops items more start now (fault.Misfit m) why other = (
  later-fewer items more start now why.0,
  record {
    collection = grown why.1.collection more;
    bytes = why.1.bytes;
    piece = why.1.piece;
    writing = later-writing items more start now why.1.collection why.1.bytes why.1.writing;
    refused = later-misfit why.1.collection more why.1.piece m why.1.refused (λ is. other (ap fault.Misfit is));
  },
)
later-stops items more start now fault.Lost why other = later-fewer items more start now why
later-stops items more start now fault.NotStarted why other = absurd why
later-stops items more start now fault.TooMany why other = omega (arith, length-append items more, why)
later-stops items more start now (fault.Tuning m f) why other = absurd why

not_first : (a b c d : Bool) → first_of a b c d ≡ Some NotBooked → a ≡ false
not_first false b c d is = refl
not_first true b c d is = let clash : ⊥ = cc in absurd clash

-- the order of the coded frame isn't booked at the end either
pub later-ahead : (items more : List Ordered) (start now : Option (List ℕ)) (ahead : ℕ) → IsAhead items start now ahead → length more ≤ ahead
    → StopsWriting (items ++ more) start now (fault.Misfit NotBooked)
later-ahead items more start now ahead is few =
    let c = is.collection in
    let c' = grown c more in
    let size : booked c' ≡ booked c + length more = omega (arith, length-append c.slots (slots-of more), length-slots more) in
    let known = not_first (not (is.piece.source == c.source)) (nat_le (booked c) is.piece.number) (was_accepted c is.piece.number) (not (is_of (slot_of c is.piece.number) is.piece.item)) is.refused in
    let beyond : nat_le (booked c') is.piece.number ≡ true = le-leb (booked c') is.piece.number (omega (arith, size, few, is.number, is.counted)) in (
      later-fewer items more start now (writes-fewer items start now c is.bytes is.some is.writing),
      record {
        collection = c';
        bytes = is.bytes;
        piece = is.piece;
        writing = later-writing items more start now c is.bytes is.writing;
        refused = rw (known, beyond) refl;
      },
    )

-- it is booked by then, but further ahead than the collector has room
pub later-beyond : (items more : List Ordered) (start now : Option (List ℕ)) (ahead : ℕ) → IsAhead items start now ahead → StopsWriting (items ++ more) start now fault.NoMemory
later-beyond items more start now ahead is = later-front items more start now (writes-front items start now is.collection is.bytes is.writing)

-- ---- why writing stops

pub output-is-no-misfit : (bytes : ℕ) (m : Cause) → fault.Output bytes ≡ fault.Misfit m → ⊥
output-is-no-misfit bytes m is = let clash : ⊥ = cc in clash

pub memory-is-no-misfit : (m : Cause) → fault.NoMemory ≡ fault.Misfit m → ⊥
memory-is-no-misfit m is = let clash : ⊥ = cc in clash

pub lost-is-no-misfit : (m : Cause) → fault.Lost ≡ fault.Misfit m → ⊥
lost-is-no-misfit m is = let clash : ⊥ = cc in clash

same-misfit : (a b : Cause) → fault.Misfit a ≡ fault.Misfit b → a ≡ b
same-misfit a b is = cc

-- a coded frame was refused
pub halts-refused : (items : List Ordered) (start now : Option (List ℕ)) (c : Collection) (bytes : ℕ) (piece : Job Ordered) (h : Halt) → IsWriting items start now c bytes → 0 < length c.slots
    → booked c ≡ length items → RefusesPiece c piece h → HaltsWriting items start now h
halts-refused items start now c bytes piece (halt.Fault (fault.Input m f)) writing some counted why = absurd why
halts-refused items start now c bytes piece (halt.Fault (fault.Output k)) writing some counted why = absurd why
halts-refused items start now c bytes piece (halt.Fault fault.NoMemory) writing some counted why = absurd why
halts-refused items start now c bytes piece (halt.Fault (fault.Misfit m)) writing some counted why = (
  (
    writes-fewer items start now c bytes some writing,
    record { collection = c; bytes = bytes; piece = piece; writing = writing; refused = why.0 },
  ),
  (λ is. why.1 (same-misfit m NotBooked is)),
)
halts-refused items start now c bytes piece (halt.Fault fault.Lost) writing some counted why = absurd why
halts-refused items start now c bytes piece (halt.Fault fault.NotStarted) writing some counted why = absurd why
halts-refused items start now c bytes piece (halt.Fault fault.TooMany) writing some counted why = absurd why
halts-refused items start now c bytes piece (halt.Fault (fault.Tuning m f)) writing some counted why = absurd why
halts-refused items start now c bytes piece (halt.NotBooked ahead) writing some counted why = record {
  collection = c;
  bytes = bytes;
  piece = piece;
  writing = writing;
  some = some;
  counted = counted;
  refused = why.0;
  number = why.1 ∙ ap (λ n. n + ahead) counted;
}
