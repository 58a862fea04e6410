-- What a lane put and what it wrote of it, step by step.
use Rattle.std.proofs.Common.{◌≡◌, ℕ, ◌+◌, ◌-◌, ◌<◌, Bool, true, false, cond, List, [], ◌∷◌, ◌++◌, length, map, take, drop, Option, Some, None, IfSome, refl, sym, ap, subst, ◌∙◌, arith, append_assoc, append-nil}
use Rattle.std.specs.Io.KnownBytes.{Appends}
use Rattle.std.proofs.KnownBytes.{Appends-nil, Appends-trans}
use Rattle.std.proofs.Math.Seq.{map-set_same, take-append-add, take-append_seam}
use Rattle.std.proofs.lemmas.List.{length-append, length-set, length-map, length_push, map-append, take-append-le}
use Rattle.std.proofs.lemmas.Bool.{ne_eqb}
use Rattle.std.proofs.lemmas.Option.{get_or_from_slice_get}
use Rattle.ls_film.specs.Coding.{file}
use Rattle.ls_queue.specs.declared.replies.Job.{Job}
use Rattle.ls_pieces.specs.declared.collector.Slot.{Slot}
use Rattle.ls_pieces.specs.Orders.{Ordered, coded}
use Rattle.ls_pieces.specs.Collecting.{Collection, booked, misfit_of, after_accept, is_full, after_book, first_piece, next_reply, after_reply, after_next, job_of, ArePieces, IsCollection}
use Rattle.ls_recorder.specs.View.Lanes.{WroteFront, WroteFewer, WrotePart, WroteFirst, orders_in, IsWriting}
use Rattle.ls_pieces.proofs.CollectorLemmas.{fits}

-- ---- codestreams, one more at a time

pub file-push : (done : List Ordered) (order : Ordered) → file (done ++ order ∷ []) ≡ file done ++ coded order
file-push [] order = append-nil (coded order)
file-push (o ∷ done) order = ap (λ s. coded o ++ s) (file-push done order) ∙ sym (append_assoc (coded o) (file done) (coded order))

pub file-append : (xs ys : List Ordered) → file (xs ++ ys) ≡ file xs ++ file ys
file-append [] ys = refl
file-append (x ∷ xs) ys = ap (λ s. coded x ++ s) (file-append xs ys) ∙ sym (append_assoc (coded x) (file xs) (file ys))

pub take-front : (k : ℕ) (xs ys : List ℕ) → k < length xs → take k (xs ++ ys) ≡ take k xs
take-front k xs ys inside = take-append-le k xs ys (omega arith)

length-orders : (slots : List Slot) → length (map (λ (slot : Slot). slot.order) slots) ≡ length slots
length-orders slots = length-map slots (λ (slot : Slot). slot.order)

-- ---- the collector

first-order : (source n : ℕ) (slots : List Slot) (piece : Job Ordered) → ArePieces source n slots → first_piece slots ≡ Some piece
    → map (λ (slot : Slot). slot.order) slots ≡ piece.item ∷ map (λ (slot : Slot). slot.order) (drop 1 slots)
first-order source n [] piece pieces is = let clash : ⊥ = cc in absurd clash
first-order source n (slot ∷ slots) piece pieces is =
    let job : piece ≡ job_of source n slot.order = subst (λ o. IfSome o (λ p. p ≡ job_of source n slot.order)) is pieces.0 in
    ap (λ (j : Job Ordered). j.item ∷ map (λ (s : Slot). s.order) slots) (sym job)

fewer-slots : (slots : List Slot) (piece : Job Ordered) → first_piece slots ≡ Some piece → length (drop 1 slots) + 1 ≡ length slots
fewer-slots [] piece is = let clash : ⊥ = cc in absurd clash
fewer-slots (slot ∷ slots) piece is = omega arith

-- the first order is handed out with its coded frame
pub record HandsOut (c c' : Collection) (piece : Job Ordered) : Type 0 where
  pub orders : orders_in c ≡ piece.item ∷ orders_in c'
  pub first : c'.first ≡ c.first + 1
  pub booked : booked c' ≡ booked c
  pub window : c'.window ≡ c.window
  pub fewer : length c'.slots < length c.slots

hands_out_so : (c : Collection) (piece : Job Ordered) → IsCollection c → next_reply c ≡ Some piece → HandsOut c (after_reply c (Some piece)) piece
hands_out_so c piece collection is =
    let fewer = fewer-slots c.slots piece is in
    record {
      orders = first-order c.source c.first c.slots piece collection.pieces is;
      first = refl;
      booked = omega (arith, fewer);
      window = refl;
      fewer = omega (arith, fewer);
    }

pub hands_out : (c c' : Collection) (piece : Job Ordered) → IsCollection c → next_reply c ≡ Some piece → c' ≡ after_next c → HandsOut c c' piece
hands_out c c' piece collection is after =
    subst (λ q. HandsOut c q piece) (sym (after ∙ ap (after_reply c) is)) (hands_out_so c piece collection is)

-- accepting a coded frame changes no order
pub record Keeps (c c' : Collection) : Type 0 where
  pub orders : orders_in c' ≡ orders_in c
  pub first : c'.first ≡ c.first
  pub booked : booked c' ≡ booked c
  pub window : c'.window ≡ c.window

keeps_so : (c : Collection) (piece : Job Ordered) → misfit_of c piece ≡ None → Keeps c (after_accept c piece)
keeps_so c piece none =
    let fit = fits c piece none in
    let kept : Slot = record { order = piece.item; piece = Some piece } in
    let at = get_or_from_slice_get c.slots (piece.number - c.first) fit.0 kept fit.1.at in
    let same = sym fit.1.order ∙ ap (λ (s : Slot). s.order) (sym at) in
    record {
      orders = map-set_same (λ (s : Slot). s.order) c.slots (piece.number - c.first) kept kept same;
      first = refl;
      booked = omega (arith, length-set c.slots (piece.number - c.first) kept);
      window = refl;
    }

pub keeps : (c c' : Collection) (piece : Job Ordered) → misfit_of c piece ≡ None → c' ≡ after_accept c piece → Keeps c c'
keeps c c' piece none after = subst (λ q. Keeps c q) (sym after) (keeps_so c piece none)

-- a booked order comes last, if there is room
pub record Books (c c' : Collection) (order : Ordered) : Type 0 where
  pub orders : orders_in c' ≡ orders_in c ++ order ∷ []
  pub first : c'.first ≡ c.first
  pub booked : booked c' ≡ booked c + 1
  pub window : c'.window ≡ c.window

books_so : (c : Collection) (order : Ordered) → (full : Bool) → full ≡ false
    → Books c (cond full c (record { source = c.source; window = c.window; first = c.first; slots = c.slots ++ record { order = order; piece = None } ∷ [] })) order
books_so c order true is = let clash : ⊥ = cc in absurd clash
books_so c order false is =
    let slot : Slot = record { order = order; piece = None } in
    record {
      orders = map-append (λ (s : Slot). s.order) c.slots (slot ∷ []);
      first = refl;
      booked = omega (arith, length_push c.slots slot);
      window = refl;
    }

pub books : (c c' : Collection) (order : Ordered) → length c.slots < c.window → c' ≡ after_book c order → Books c c' order
books c c' order room after = subst (λ q. Books c q order) (sym after) (books_so c order (is_full c) (ne_eqb (length c.slots) c.window (λ e. omega (arith, room, e))))

-- ---- writing

module _ (items : List Ordered) (start : Option (List ℕ)) where
  -- a coded frame was handed out and written
  pub writes-piece : (now now' : Option (List ℕ)) (c c' : Collection) (bytes : ℕ) (piece : Job Ordered) → HandsOut c c' piece → Appends now now' (coded piece.item)
      → IsWriting items start now c bytes → IsWriting items start now' c' (bytes + length (coded piece.item))
  writes-piece now now' c c' bytes piece out wrote writing = record {
    done = writing.done ++ piece.item ∷ [];
    items_are = writing.items_are ∙ ap (λ l. writing.done ++ l) out.orders ∙ sym (append_assoc writing.done (piece.item ∷ []) (orders_in c'));
    wrote = subst (Appends start now') (sym (file-push writing.done piece.item)) (Appends-trans start now now' (file writing.done) (coded piece.item) writing.wrote wrote);
    first_is = omega (arith, out.first, writing.first_is, length_push writing.done piece.item);
    bytes_are = ap (λ k. k + length (coded piece.item)) writing.bytes_are ∙ sym (length-append (file writing.done) (coded piece.item)) ∙ sym (ap length (file-push writing.done piece.item));
  }

  -- a part of a coded frame that was handed out was written
  pub writes-part : (now now' : Option (List ℕ)) (c c' : Collection) (bytes here : ℕ) (piece : Job Ordered) → HandsOut c c' piece → here < length (coded piece.item)
      → Appends now now' (take here (coded piece.item)) → IsWriting items start now c bytes → WrotePart items start now' (bytes + here)
  writes-part now now' c c' bytes here piece out part wrote writing =
      let rest : List ℕ = file (orders_in c') in
      let whole : file items ≡ file writing.done ++ (coded piece.item ++ file (orders_in c')) =
      ap file (writing.items_are ∙ ap (λ l. writing.done ++ l) out.orders) ∙ file-append writing.done (piece.item ∷ orders_in c') in
      let size : length (file items) ≡ length (file writing.done) + (length (coded piece.item) + length (file (orders_in c'))) =
      ap length whole ∙ length-append (file writing.done) (coded piece.item ++ file (orders_in c')) ∙ ap (λ k. length (file writing.done) + k) (length-append (coded piece.item) (file (orders_in c'))) in
      let front : take (bytes + here) (file items) ≡ file writing.done ++ take here (coded piece.item) =
      ap (take (bytes + here)) whole ∙ ap (λ k. take (k + here) (file writing.done ++ (coded piece.item ++ file (orders_in c')))) writing.bytes_are
      ∙ take-append-add (file writing.done) (coded piece.item ++ file (orders_in c')) here ∙ ap (λ l. file writing.done ++ l) (take-front here (coded piece.item) (file (orders_in c')) part) in
      record {
        part = omega (arith, size, part, writing.bytes_are);
        wrote = subst (Appends start now') (sym front) (Appends-trans start now now' (file writing.done) (take here (coded piece.item)) writing.wrote wrote);
      }

  -- a coded frame was accepted
  pub writes-kept : (now : Option (List ℕ)) (c c' : Collection) (bytes : ℕ) → Keeps c c' → IsWriting items start now c bytes → IsWriting items start now c' bytes
  writes-kept now c c' bytes kept writing = record {
    done = writing.done;
    items_are = writing.items_are ∙ ap (λ l. writing.done ++ l) (sym kept.orders);
    wrote = writing.wrote;
    first_is = kept.first ∙ writing.first_is;
    bytes_are = writing.bytes_are;
  }

  size-items : (now : Option (List ℕ)) (c : Collection) (bytes : ℕ) (writing : IsWriting items start now c bytes) → length items ≡ length writing.done + length c.slots
  size-items now c bytes writing =
      ap length writing.items_are ∙ length-append writing.done (orders_in c) ∙ ap (λ k. length writing.done + k) (length-orders c.slots)

  front-items : (now : Option (List ℕ)) (c : Collection) (bytes : ℕ) (writing : IsWriting items start now c bytes) → Appends start now (file (take (length writing.done) items))
  front-items now c bytes writing =
      let front : take (length writing.done) items ≡ writing.done = ap (take (length writing.done)) writing.items_are ∙ take-append_seam writing.done (orders_in c) in
      rw front writing.wrote

  -- if it stops while orders wait, not all of them were written; in any case the first ones were
  pub writes-fewer : (now : Option (List ℕ)) (c : Collection) (bytes : ℕ) → 0 < length c.slots → IsWriting items start now c bytes → WroteFewer items start now
  writes-fewer now c bytes some writing = record {
    count = length writing.done;
    fewer = omega (arith, size-items now c bytes writing, some);
    wrote = front-items now c bytes writing;
  }

  pub writes-front : (now : Option (List ℕ)) (c : Collection) (bytes : ℕ) → IsWriting items start now c bytes → WroteFront items start now
  writes-front now c bytes writing = record {
    count = length writing.done;
    front = omega (arith, size-items now c bytes writing);
    wrote = front-items now c bytes writing;
  }

  -- the first orders are written, and perhaps a part of the next one
  pub writes-first : (now now' : Option (List ℕ)) (c : Collection) (bytes : ℕ) (part : List ℕ) → Appends now now' part → IsWriting items start now c bytes → WroteFirst items start now' c.first
  writes-first now now' c bytes part wrote writing =
      let front : take c.first items ≡ writing.done = ap (λ k. take k items) writing.first_is ∙ ap (take (length writing.done)) writing.items_are ∙ take-append_seam writing.done (orders_in c) in
      record {
        few = omega (arith, size-items now c bytes writing, writing.first_is);
        rest = part;
        wrote = subst (λ l. Appends start now' (file l ++ part)) (sym front) (Appends-trans start now now' (file writing.done) part writing.wrote wrote);
      }

  pub writes-first-at : (now now' : Option (List ℕ)) (c : Collection) (bytes count : ℕ) (part : List ℕ) → count ≡ c.first → Appends now now' part → IsWriting items start now c bytes
      → WroteFirst items start now' count
  writes-first-at now now' c bytes count part is wrote writing = subst (λ k. WroteFirst items start now' k) (sym is) (writes-first now now' c bytes part wrote writing)

  pub wrote-first : (now : Option (List ℕ)) (c : Collection) (bytes count : ℕ) → count ≡ c.first → IsWriting items start now c bytes → WroteFirst items start now count
  wrote-first now c bytes count is writing = subst (λ k. WroteFirst items start now k) (sym is) (writes-first now now c bytes [] (Appends-nil now) writing)
