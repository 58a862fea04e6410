-- Films and their recordings, as they are named in turn.
use Rattle.std.proofs.Common.{◌≡◌, ◌<◌, ◌+◌, ℕ, List, [], ◌∷◌, ◌++◌, length, Option, Some, None, sym, ap, ◌∙◌, append-nil}
use Rattle.std.specs.Prelude.{take, get_or}
use Rattle.std.specs.Borrow.{Bor}
use Rattle.std.proofs.lemmas.List.{map-append, append_assoc, take_more}
use Rattle.std.proofs.lemmas.Grind.{flat_map-append}
use Rattle.ls_command.specs.View.Matched.{texts_in_turn, texts_of}

-- the film that waits for its recording, if one does
abbrev pub waiting : Option (Bor (List ℕ)) → List (List ℕ)
waiting None = []
waiting (Some film) = film.now ∷ []

module _ (first : List ℕ) (files : List (Bor (List ℕ))) (i : ℕ) (d : Bor (List ℕ)) (less : i < length files) where
  -- one file more
  next : (texts : List (List ℕ)) → texts ≡ first ∷ texts_of (take i files) → texts ++ (get_or files i d).now ∷ [] ≡ first ∷ texts_of (take (i + 1) files)
  next texts same =
      let one : List (List ℕ) = (get_or files i d).now ∷ [] in
      let more : texts_of (take (i + 1) files) ≡ texts_of (take i files) ++ one =
      ap texts_of (take_more files i d less) ∙ map-append (λ (text : Bor (List ℕ)). text.now) (take i files) (get_or files i d ∷ []) in
      ap (λ ts. ts ++ one) same ∙ sym (ap (λ ts. first ∷ ts) more)

  -- it is a film, which waits for its recording
  pub next_film : (pairs : List (Bor (List ℕ) × Bor (List ℕ))) → texts_in_turn pairs ++ [] ≡ first ∷ texts_of (take i files)
      → texts_in_turn pairs ++ waiting (Some (get_or files i d)) ≡ first ∷ texts_of (take (i + 1) files)
  next_film pairs same = next (texts_in_turn pairs) (sym (append-nil (texts_in_turn pairs)) ∙ same)

  -- it is the recording of the film that waits
  pub next_pair : (pairs : List (Bor (List ℕ) × Bor (List ℕ))) (film : Bor (List ℕ)) → texts_in_turn pairs ++ waiting (Some film) ≡ first ∷ texts_of (take i files)
      → texts_in_turn (pairs ++ (film, get_or files i d) ∷ []) ++ [] ≡ first ∷ texts_of (take (i + 1) files)
  next_pair pairs film same =
      let own = get_or files i d in
      append-nil (texts_in_turn (pairs ++ (film, own) ∷ []))
      ∙ flat_map-append (λ (pair : Bor (List ℕ) × Bor (List ℕ)). pair.0.now ∷ pair.1.now ∷ []) pairs ((film, own) ∷ [])
      ∙ sym (append_assoc (texts_in_turn pairs) (film.now ∷ []) (own.now ∷ []))
      ∙ next (texts_in_turn pairs ++ film.now ∷ []) same
