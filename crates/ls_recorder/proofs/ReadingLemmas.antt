-- What the reading half of a lane read, frame by frame.
use Rattle.std.proofs.Common.{◌≡◌, ℕ, ◌+◌, List, [], ◌∷◌, ◌++◌, length, Option, refl, sym, ap, ◌∙◌}
use Rattle.std.specs.Prelude.{Ok}
use Rattle.std.specs.List.{AllByRecursion}
use Rattle.std.proofs.lemmas.List.{length_push, length-map, map-append}
use Rattle.ls_frame.specs.declared.tuning.Tuning.{Tuning}
use Rattle.ls_frame.specs.Picture.{Picture, IsFrame}
use Rattle.ls_frame.specs.Parameters.{explicit_parameters}
use Rattle.ls_frame.specs.Tuning.{tuned}
use Rattle.ls_frame.specs.Netpbm.{IsImageOf}
use Rattle.ls_frame.specs.View.Known.{Gave}
use Rattle.ls_film.proofs.FilmLemmas.{GaveFrames-none, GaveFrames-more, all-more}
use Rattle.ls_pieces.specs.Orders.{Ordered}
use Rattle.ls_recorder.specs.View.Lanes.{with_tuning, AreTuned}
use Rattle.ls_recorder.specs.View.Halves.{HasRead}

pub HasRead-none : (tuning : Tuning) (items : List Ordered) (read : Option (List ℕ)) → items ≡ [] → HasRead tuning items read read 0
HasRead-none tuning items read none = record { frames = []; count = refl; gave = GaveFrames-none IsImageOf read; put = (none, _) }

-- one more frame
pub HasRead-more : (tuning : Tuning) (items items' : List Ordered) (read mid new : Option (List ℕ)) (n : ℕ) (order : Ordered) → HasRead tuning items read mid n
    → order.1 ≡ tuned tuning order.0.maxval → explicit_parameters (tuned tuning order.0.maxval) ≡ Ok order.1 → IsFrame order.0 → Gave mid new (λ image. IsImageOf image order.0)
    → items' ≡ items ++ order ∷ [] → HasRead tuning items' read new (n + 1)
HasRead-more tuning items items' read mid new n order run tune given lawful next put =
    let same : order ≡ (order.0, tuned tuning order.0.maxval) = (λ i. (order.0, tune i)) in
    record {
      frames = run.frames ++ order.0 ∷ [];
      count = length_push run.frames order.0 ∙ ap (λ k. k + 1) run.count;
      gave = GaveFrames-more IsImageOf read mid new run.frames order.0 run.gave next;
      put = (
        put ∙ ap (λ l. l ++ order ∷ []) run.put.0 ∙ ap (λ o. with_tuning tuning run.frames ++ o ∷ []) same ∙ sym (map-append (λ (f : Picture). (f, tuned tuning f.maxval)) run.frames (order.0 ∷ [])),
        all-more _ run.frames order.0 run.put.1 (lawful, given ∙ ap Ok tune),
      );
    }

pub lawful-frames : (tuning : Tuning) (frames : List Picture) → AreTuned tuning frames → AllByRecursion IsFrame frames
lawful-frames tuning [] tuned_all = tt
lawful-frames tuning (f ∷ frames) tuned_all = (tuned_all.0.0, lawful-frames tuning frames tuned_all.1)

-- as many orders were put as frames were read
pub count-put : (tuning : Tuning) (items : List Ordered) (read mid : Option (List ℕ)) (n : ℕ) → HasRead tuning items read mid n → length items ≡ n
count-put tuning items read mid n run = ap length run.put.0 ∙ length-map run.frames (λ (f : Picture). (f, tuned tuning f.maxval)) ∙ run.count
