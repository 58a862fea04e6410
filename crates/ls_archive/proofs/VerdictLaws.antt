-- Two lists of frames have exactly one verdict.
use Rattle.std.proofs.Common.{◌≡◌, suc, ◌+◌, inl, inr, List, [], ◌∷◌, ◌++◌, length, refl, sym, ap, ◌∙◌, arith, length-append}
use Rattle.std.proofs.lemmas.Bool.{cases_Bool}
use Rattle.ls_frame.specs.Picture.{Picture, same_picture}
use Rattle.ls_archive.specs.declared.verifying.Verdict.{Verdict}
use Rattle.ls_archive.specs.declared.verifying.Verdict.TheVariants.{Same, Differs, Missing, Extra}
use Rattle.ls_archive.specs.Verify.{Compares, OneVerdict, SomeVerdict, difference_of}
use Rattle.ls_archive.proofs.VerifyLemmas.{same_is, other_is}

-- ---- at most one

head : (f g : Picture) (a b : List Picture) → f ∷ a ≡ g ∷ b → f ≡ g
head f g a b same = cc

tail : (f g : Picture) (a b : List Picture) → f ∷ a ≡ g ∷ b → a ≡ b
tail f g a b same = cc

-- the frames after equal frames are equal
next : (first a b : List Picture) (f g : Picture) → first ++ f ∷ a ≡ first ++ g ∷ b → f ≡ g
next [] a b f g same = head f g a b same
next (x ∷ first) a b f g same = next first a b f g (tail x x _ _ same)

-- of two lists that differ at one place, neither extends the other
not_ended : (first a b left : List Picture) (f g h : Picture) → first ++ f ∷ a ≡ (first ++ g ∷ b) ++ h ∷ left → f ≡ g
not_ended [] a b left f g h same = head f g a (b ++ h ∷ left) same
not_ended (x ∷ first) a b left f g h same = not_ended first a b left f g h (tail x x _ _ same)

-- two lists have one first place where they differ
one_place : (first others a b c d : List Picture) (f g h k : Picture) → first ++ f ∷ a ≡ others ++ h ∷ c → first ++ g ∷ b ≡ others ++ k ∷ d
    → (f ≡ g → ⊥) → (h ≡ k → ⊥) → length first ≡ length others
one_place [] [] a b c d f g h k one two differ differ' = refl
one_place [] (x ∷ others) a b c d f g h k one two differ differ' =
    absurd (differ (head f x a (others ++ h ∷ c) one ∙ sym (head g x b (others ++ k ∷ d) two)))
one_place (x ∷ first) [] a b c d f g h k one two differ differ' =
    absurd (differ' (sym (head x h (first ++ f ∷ a) c one) ∙ head x k (first ++ g ∷ b) d two))
one_place (x ∷ first) (y ∷ others) a b c d f g h k one two differ differ' =
    ap suc (one_place first others a b c d f g h k (tail x y _ _ one) (tail x y _ _ two) differ differ')

-- and there one pair of frames
one_pair : (first others a b c d : List Picture) (f g h k : Picture) → first ++ f ∷ a ≡ others ++ h ∷ c → first ++ g ∷ b ≡ others ++ k ∷ d
    → (f ≡ g → ⊥) → (h ≡ k → ⊥) → (f ≡ h) × (g ≡ k)
one_pair [] [] a b c d f g h k one two differ differ' = (head f h a c one, head g k b d two)
one_pair [] (x ∷ others) a b c d f g h k one two differ differ' =
    absurd (differ (head f x a (others ++ h ∷ c) one ∙ sym (head g x b (others ++ k ∷ d) two)))
one_pair (x ∷ first) [] a b c d f g h k one two differ differ' =
    absurd (differ' (sym (head x h (first ++ f ∷ a) c one) ∙ head x k (first ++ g ∷ b) d two))
one_pair (x ∷ first) (y ∷ others) a b c d f g h k one two differ differ' =
    one_pair first others a b c d f g h k (tail x y _ _ one) (tail x y _ _ two) differ differ'

longer : (frames others left : List Picture) (f : Picture) → frames ≡ others ++ f ∷ left → length frames ≡ length others + (length left + 1)
longer frames others left f are = omega (arith, ap length are, length-append others (f ∷ left))

pub one_verdict : OneVerdict
one_verdict frames others (Same n) (Same m) v w = ap Same (sym v.1 ∙ w.1)
one_verdict frames others (Same n) (Differs m other) v w =
    absurd (w.differ (next w.first w.frames_left w.others_left w.f w.g (sym w.frames_are ∙ sym v.0 ∙ w.others_are)))
one_verdict frames others (Same n) (Missing m) v w = absurd (omega (arith, ap length v.0, longer frames others w.left w.f w.frames_are))
one_verdict frames others (Same n) (Extra m) v w = absurd (omega (arith, ap length v.0, longer others frames w.left w.f w.frames_are))
one_verdict frames others (Differs n what) (Same m) v w =
    absurd (v.differ (next v.first v.frames_left v.others_left v.f v.g (sym v.frames_are ∙ sym w.0 ∙ v.others_are)))
one_verdict frames others (Differs n what) (Differs m other) v w =
    let one = sym v.frames_are ∙ w.frames_are in
    let two = sym v.others_are ∙ w.others_are in
    let place = one_place v.first w.first v.frames_left v.others_left w.frames_left w.others_left v.f v.g w.f w.g one two v.differ w.differ in
    let pair = one_pair v.first w.first v.frames_left v.others_left w.frames_left w.others_left v.f v.g w.f w.g one two v.differ w.differ in
    let same : what ≡ other = v.what_is ∙ ap (λ h. difference_of h v.g) pair.0 ∙ ap (difference_of w.f) pair.1 ∙ sym w.what_is in
    ap (λ k. Differs k what) (sym v.count ∙ place ∙ w.count) ∙ ap (Differs m) same
one_verdict frames others (Differs n what) (Missing m) v w =
    absurd (v.differ (not_ended v.first v.frames_left v.others_left w.left v.f v.g w.f (sym v.frames_are ∙ w.frames_are ∙ ap (λ fs. fs ++ w.f ∷ w.left) v.others_are)))
one_verdict frames others (Differs n what) (Extra m) v w =
    absurd (v.differ (sym (not_ended v.first v.others_left v.frames_left w.left v.g v.f w.f (sym v.others_are ∙ w.frames_are ∙ ap (λ fs. fs ++ w.f ∷ w.left) v.frames_are))))
one_verdict frames others (Missing n) (Same m) v w = absurd (omega (arith, ap length w.0, longer frames others v.left v.f v.frames_are))
one_verdict frames others (Missing n) (Differs m other) v w =
    absurd (w.differ (not_ended w.first w.frames_left w.others_left v.left w.f w.g v.f (sym w.frames_are ∙ v.frames_are ∙ ap (λ fs. fs ++ v.f ∷ v.left) w.others_are)))
one_verdict frames others (Missing n) (Missing m) v w = ap Missing (sym v.count ∙ w.count)
one_verdict frames others (Missing n) (Extra m) v w = absurd (omega (arith, longer frames others v.left v.f v.frames_are, longer others frames w.left w.f w.frames_are))
one_verdict frames others (Extra n) (Same m) v w = absurd (omega (arith, ap length w.0, longer others frames v.left v.f v.frames_are))
one_verdict frames others (Extra n) (Differs m other) v w =
    absurd (w.differ (sym (not_ended w.first w.others_left w.frames_left v.left w.g w.f v.f (sym w.others_are ∙ v.frames_are ∙ ap (λ fs. fs ++ v.f ∷ v.left) w.frames_are))))
one_verdict frames others (Extra n) (Missing m) v w = absurd (omega (arith, longer others frames v.left v.f v.frames_are, longer frames others w.left w.f w.frames_are))
one_verdict frames others (Extra n) (Extra m) v w = ap Extra (sym v.count ∙ w.count)

-- ---- at least one

-- with one equal frame in front of both
in_front : (f g : Picture) (frames others : List Picture) (v : Verdict) → f ≡ g → Compares frames others v → (w : Verdict) × Compares (f ∷ frames) (g ∷ others) w
in_front f g frames others (Same n) same v = (Same (suc n), ((λ i. sym same i ∷ v.0 i), ap suc v.1))
in_front f g frames others (Differs n what) same v = (
  Differs (suc n) what,
  record {
    first = f ∷ v.first;
    f = v.f;
    g = v.g;
    frames_left = v.frames_left;
    others_left = v.others_left;
    count = ap suc v.count;
    frames_are = ap (λ fs. f ∷ fs) v.frames_are;
    others_are = ap (λ h. h ∷ others) (sym same) ∙ ap (λ fs. f ∷ fs) v.others_are;
    differ = v.differ;
    what_is = v.what_is;
  },
)
in_front f g frames others (Missing n) same v = (
  Missing (suc n),
  record { f = v.f; left = v.left; count = ap suc v.count; frames_are = ap (λ h. h ∷ frames) same ∙ ap (λ fs. g ∷ fs) v.frames_are },
)
in_front f g frames others (Extra n) same v = (
  Extra (suc n),
  record { f = v.f; left = v.left; count = ap suc v.count; frames_are = ap (λ h. h ∷ others) (sym same) ∙ ap (λ fs. f ∷ fs) v.frames_are },
)

pub some_verdict : SomeVerdict
some_verdict [] [] = (Same 0, (refl, refl))
some_verdict [] (g ∷ others) = (Extra 0, record { f = g; left = others; count = refl; frames_are = refl })
some_verdict (f ∷ frames) [] = (Missing 0, record { f = f; left = frames; count = refl; frames_are = refl })
some_verdict (f ∷ frames) (g ∷ others) = elim (cases_Bool (same_picture f g)) [
  | inl same ↦ let rest = some_verdict frames others in in_front f g frames others rest.0 (same_is f g same) rest.1
  | inr other ↦ (
    Differs 0 (difference_of f g),
    record {
      first = [];
      f = f;
      g = g;
      frames_left = frames;
      others_left = others;
      count = refl;
      frames_are = refl;
      others_are = refl;
      differ = other_is f g other;
      what_is = refl;
    },
  )
]
