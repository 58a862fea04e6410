use Rattle.std.proofs.Common.{◌≡◌, ◌+◌, ℕ, length, replicate, List, Option, None, IfSome, sym, subst, ◌∙◌, refl, rules}
use Rattle.std.specs.List.{AllByRecursion}
use Rattle.ls_frame.specs.View.Chunks.{left_in}
use Rattle.ls_archive.specs.View.Places.{GaveStanding, AreStanding, AreApart, size_standing}
use Rattle.ls_archive.proofs.PlaceLemmas.{IsBefore, IsAt, none-standing, none-apart, none-before, at-first, step-at, step-standing, step-before, step-apart}
use Rattle.ls_archive.proofs.places.find_places.Goals as goal

pub steps-init : goal.steps-init
steps-init g c =
    let wanted = c.args.wanted.now in
    let recording = left_in g.R.Read.remaining c.args.recording.now in
    let none : c.in_ok-places.places.items ≡ replicate (length wanted) None = search rules in
    record {
      count = search rules;
      at = at-first recording;
      standing = subst (AreStanding recording wanted) (sym none) (none-standing recording wanted);
      before = subst (AllByRecursion (IsBefore 0)) (sym none) (none-before (length wanted) 0);
      apart = subst AreApart (sym none) (none-apart (length wanted));
      reads = refl;
    }

pub steps-preserved : goal.steps-preserved
steps-preserved g c =
    let recording : Option (List ℕ) = left_in g.R.Read.remaining c.args.recording.now in
    let left : Option (List ℕ) = left_in g.R.Read.remaining c.steps.recording in
    let left' : Option (List ℕ) = left_in g.R.Read.remaining c.next_standing.new.reader in
    let wanted = c.args.wanted.now in
    let places = c.steps.places.items in
    let places' = c.pass-place.new.places.items in
    let s = c.in-Ok-Some.standing in
    let kept = c.steps.invariant in
    let gave : GaveStanding left left' s = subst (λ next. IfSome next (GaveStanding left left')) c.in-Ok-Some.field-0-is c.in-Ok-Some.ensures.standing in
    let gives = c.pass-place.ensures.gives in
    let after : c.pass-place.result ≡ c.steps.place + size_standing s = c.pass-place.ensures.after in
    record {
      count = c.pass-place.ensures.as_many ∙ kept.count;
      at = subst (IsAt recording left') (sym after) (step-at recording left left' wanted places places' c.steps.place s kept.at gave);
      standing = step-standing recording left left' wanted places places' c.steps.place s kept.at gave gives kept.standing;
      before = subst (λ place. AllByRecursion (IsBefore place) places') (sym after)
          (step-before recording left left' wanted places places' c.steps.place s gave gives kept.before);
      apart = step-apart recording left left' wanted places places' c.steps.place s gives kept.apart kept.before;
      reads = c.in-Ok-Some.ensures.failures ∙ kept.reads;
    }
