-- What reading the next image means by the grammar.
use Rattle.std.proofs.Common.{◌≡◌, ℕ, List, [], ◌++◌, Option, None, Some, Result, Ok, Err, IfOk, IfErr, IfSome, IfNone, IsTrue, refl, sym, ap, ◌∙◌, append-nil}
use Rattle.ls_frame.specs.declared.netpbm.NetpbmFault.{NetpbmFault}
use Rattle.ls_frame.specs.Picture.{Picture}
use Rattle.ls_frame.specs.Netpbm.{IsImageOf, NoImage}
use Rattle.ls_frame.specs.Faults.{Breaks, IsBroken, blames_bytes}
use Rattle.ls_frame.specs.View.Known.{Tells, Gave, WasAtEnd}
use Rattle.ls_frame.specs.View.Known.{known}
use Rattle.ls_frame.specs.View.Reading.{image_at, GivesImage}
use Rattle.ls_frame.proofs.ImageLaws.{reads_spellings, spellings_are_read, reads_nothing_at_end, faults_break, breaks_are_faults}

-- bytes where reading fails don't begin with an image
pub no_image-from_fault : (bytes : List ℕ) (fault : NetpbmFault) → image_at bytes ≡ Err fault → NoImage bytes
no_image-from_fault bytes fault failed front rest f whole spelled =
    let read : image_at bytes ≡ Ok (Some (f, rest)) = ap image_at whole ∙ spellings_are_read front rest f spelled in
    let clash : ⊥ = cc in clash

pub is_broken : (bytes : List ℕ) (fault : NetpbmFault) → image_at bytes ≡ Err fault → IsBroken bytes fault
is_broken bytes fault failed = record { breaks = faults_break bytes fault failed; no_image = no_image-from_fault bytes fault failed }

pub next-frame : (old new : Option (List ℕ)) (r : Result (Option Picture) NetpbmFault) → GivesImage old new r
    → IfOk r (λ next. IfSome next (λ f. Gave old new (λ image. IsImageOf image f)))
next-frame old new (Err fault) read = tt
next-frame old new (Ok None) read = tt
next-frame old new (Ok (Some f)) read = λ told.
    let found = read told in
    let spelled = reads_spellings (known old) (known new) f found.1 in
    (found.0, spelled.0, spelled.1, spelled.2)

pub next-end : (old new : Option (List ℕ)) (r : Result (Option Picture) NetpbmFault) → GivesImage old new r → IfOk r (λ next. IfNone next (WasAtEnd old new))
next-end old new (Err fault) read = tt
next-end old new (Ok None) read = λ told. let found = read told in (found.0, reads_nothing_at_end (known old) found.1.1, found.1.0)
next-end old new (Ok (Some f)) read = tt

pub next-broken : (old new : Option (List ℕ)) (r : Result (Option Picture) NetpbmFault) → GivesImage old new r
    → IfErr r (λ fault. IsTrue (blames_bytes fault) → Tells old → IsBroken (known old) fault)
next-broken old new (Ok next) read = tt
next-broken old new (Err fault) read = λ blamed told. is_broken (known old) fault (read told blamed)

-- ---- consequences for the grammar alone

-- two results that are equal have equal parts
found_parts : {A B : Type 0} (f g : A) (rest rest' : B) → ◌≡◌ {A = Result (Option (A × B)) NetpbmFault} (Ok (Some (f, rest))) (Ok (Some (g, rest'))) → (f ≡ g) × (rest ≡ rest')
found_parts {A} {B} f g rest rest' same =
    let pair : ◌≡◌ {A = A × B} (f, rest) (g, rest') = cc in
    (ap (λ (p : A × B). p.0) pair, ap (λ (p : A × B). p.1) pair)

-- two images at the front of the same bytes are the same
same_front : (front rest front' rest' : List ℕ) (f g : Picture) → IsImageOf front f → IsImageOf front' g → front ++ rest ≡ front' ++ rest' → (f ≡ g) × (rest ≡ rest')
same_front front rest front' rest' f g spelled spelled' whole =
    let one = spellings_are_read front rest f spelled in
    let other = spellings_are_read front' rest' g spelled' in
    let same : ◌≡◌ {A = Result (Option (Picture × List ℕ)) NetpbmFault} (Ok (Some (f, rest))) (Ok (Some (g, rest'))) = sym one ∙ ap image_at whole ∙ other in
    found_parts f g rest rest' same

pub begins_none : (front rest : List ℕ) (f g : Picture) → IsImageOf front f → IsImageOf (front ++ rest) g → rest ≡ []
begins_none front rest f g spelled spelled' = (same_front front rest (front ++ rest) [] f g spelled spelled' (sym (append-nil (front ++ rest)))).1

pub one_frame : (bytes : List ℕ) (f g : Picture) → IsImageOf bytes f → IsImageOf bytes g → f ≡ g
one_frame bytes f g spelled spelled' = (same_front bytes [] bytes [] f g spelled spelled' refl).0

pub one_way : (bytes : List ℕ) (fault other : NetpbmFault) → Breaks bytes fault → Breaks bytes other → fault ≡ other
one_way bytes fault other broken broken' =
    let one = breaks_are_faults bytes fault broken in
    let two = breaks_are_faults bytes other broken' in
    cc

pub breaks-no_image : (bytes : List ℕ) (fault : NetpbmFault) → Breaks bytes fault → NoImage bytes
breaks-no_image bytes fault broken = no_image-from_fault bytes fault (breaks_are_faults bytes fault broken)

pub breaks-some : (fault : NetpbmFault) → Breaks [] fault → ⊥
unfolding image_at
breaks-some fault broken = let failed = breaks_are_faults [] fault broken in cc
