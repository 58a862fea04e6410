-- The lines of replies, in order.
use Rattle.std.proofs.Common.{◌≡◌, ℕ, ◌+◌, ◌-◌, ◌^◌, ◌<◌, ◌≤◌, min, List, ◌∷◌, ◌++◌, length, take, drop, get_or, Option, sym, ap, subst, ◌∙◌, arith, add-one, length-append}
use Rattle.std.specs.Io.KnownBytes.{Appends}
use Rattle.std.proofs.KnownBytes.{Appends-trans}
use Rattle.std.proofs.Math.Seq.{drop-cons, take-append-add}
use Rattle.std.proofs.lemmas.List.{take-append-drop, take-append-le}
use Rattle.std.proofs.lemmas.List.Concat.{flat_map-append}
use Rattle.ls_queue.specs.declared.steps.Reply.{Reply}
use Rattle.ls_replay.specs.ReplyLines.{reply_line, reply_lines}

lines_at : (replies : List Reply) (i : ℕ) (d : Reply) → i < length replies
    → reply_lines replies ≡ reply_lines (take i replies) ++ (reply_line (get_or replies i d) ++ reply_lines (drop (i + 1) replies))
lines_at replies i d inside =
    ap reply_lines (sym (take-append-drop i replies)) ∙ flat_map-append reply_line (take i replies) (drop i replies)
    ∙ ap (λ rest. reply_lines (take i replies) ++ reply_lines rest) (drop-cons replies i d inside ∙ ap (λ k. get_or replies i d ∷ drop k replies) (sym (add-one i)))

-- a write failed in the line of reply i
lines_broken_off : (old mid new : Option (List ℕ)) (replies : List Reply) (i n w : ℕ) (d : Reply) → i < length replies → w < length (reply_line (get_or replies i d))
    → n ≡ min (length (reply_lines (take i replies))) (2 ^ 64 - 1) → length (reply_lines replies) < 2 ^ 64
    → Appends old mid (reply_lines (take i replies)) → Appends mid new (take w (reply_line (get_or replies i d)))
    → Appends old new (take (min (n + w) (2 ^ 64 - 1)) (reply_lines replies))
lines_broken_off old mid new replies i n w d inside part count small before here =
    let front = reply_lines (take i replies) in
    let line = reply_line (get_or replies i d) in
    let rest = reply_lines (drop (i + 1) replies) in
    let whole : reply_lines replies ≡ front ++ (line ++ rest) = lines_at replies i d inside in
    let size : length (reply_lines replies) ≡ length (reply_lines (take i replies)) + (length (reply_line (get_or replies i d)) + length (reply_lines (drop (i + 1) replies))) =
    ap length whole ∙ length-append front (line ++ rest) ∙ ap (λ k. length front + k) (length-append line rest) in
    let sum : min (n + w) (2 ^ 64 - 1) ≡ length (reply_lines (take i replies)) + w = omega (arith, size, part, count, small) in
    let short : w ≤ length (reply_line (get_or replies i d)) = omega (arith, part) in
    let cut : take (min (n + w) (2 ^ 64 - 1)) (reply_lines replies) ≡ front ++ take w line =
    ap (λ k. take k (reply_lines replies)) sum ∙ ap (take (length front + w)) whole ∙ take-append-add front (line ++ rest) w ∙ ap (λ bytes. front ++ bytes) (take-append-le w line rest short) in
    subst (Appends old new) (sym cut) (Appends-trans old mid new front (take w line) before here)

lines_part : (replies : List Reply) (i n w : ℕ) (d : Reply) → i < length replies → w < length (reply_line (get_or replies i d)) → n ≡ min (length (reply_lines (take i replies))) (2 ^ 64 - 1)
    → min (n + w) (2 ^ 64 - 1) < length (reply_lines replies)
lines_part replies i n w d inside part count =
    let front = reply_lines (take i replies) in
    let line = reply_line (get_or replies i d) in
    let rest = reply_lines (drop (i + 1) replies) in
    let size : length (reply_lines replies) ≡ length (reply_lines (take i replies)) + (length (reply_line (get_or replies i d)) + length (reply_lines (drop (i + 1) replies))) =
    ap length (lines_at replies i d inside) ∙ length-append front (line ++ rest) ∙ ap (λ k. length front + k) (length-append line rest) in
    omega (arith, size, part, count)

-- the same for bytes that are the line
pub piece_broken_off : (old mid new : Option (List ℕ)) (replies : List Reply) (i n w sum : ℕ) (d : Reply) (piece : List ℕ) → i < length replies → piece ≡ reply_line (get_or replies i d) → w < length piece
    → n ≡ min (length (reply_lines (take i replies))) (2 ^ 64 - 1) → sum ≡ min (n + w) (2 ^ 64 - 1)
    → Appends old mid (reply_lines (take i replies)) → Appends mid new (take w piece) → length (reply_lines replies) < 2 ^ 64
    → Appends old new (take sum (reply_lines replies))
piece_broken_off old mid new replies i n w sum d piece inside same part count total before here small =
    subst (λ k. Appends old new (take k (reply_lines replies))) (sym total)
    (lines_broken_off old mid new replies i n w d inside (omega (arith, part, ap length same)) count small before (subst (λ bytes. Appends mid new (take w bytes)) same here))

pub piece_part : (replies : List Reply) (i n w sum : ℕ) (d : Reply) (piece : List ℕ) → i < length replies → piece ≡ reply_line (get_or replies i d) → w < length piece
    → n ≡ min (length (reply_lines (take i replies))) (2 ^ 64 - 1) → sum ≡ min (n + w) (2 ^ 64 - 1) → sum < length (reply_lines replies)
piece_part replies i n w sum d piece inside same part count total =
    let whole = lines_part replies i n w d inside (omega (arith, part, ap length same)) count in
    omega (arith, whole, total)
