-- The statuses of a list, piece by piece.
use Rattle.std.proofs.Common.{◌≡◌, List, [], ◌∷◌, ◌++◌, Option, Some, None, refl, ap, sym, ◌∙◌, append_assoc, ℕ}
use Rattle.sby_task.specs.Values.{statuses_from, piece_status, with_status}
use Rattle.sby_terms.specs.declared.names.Status.{Status}

-- these before the later ones
abbrev pub prepended : List Status → Option (List Status) → Option (List Status)
prepended front None = None
prepended front (Some later) = Some (front ++ later)

once_more : (front now : List Status) (status : Status) (later : Option (List Status)) → now ≡ front ++ status ∷ [] → prepended front (with_status (Some status) later) ≡ prepended now later
once_more front now status None e = refl
once_more front now status (Some later) e = ap Some (sym (ap (λ xs. xs ++ later) e ∙ append_assoc front (status ∷ []) later))

pub status_more : (front now : List Status) (status : Status) (piece : List ℕ) (pieces all : List (List ℕ)) → all ≡ piece ∷ pieces → Some status ≡ piece_status piece → now ≡ front ++ status ∷ []
    → prepended front (statuses_from all) ≡ prepended now (statuses_from pieces)
status_more front now status piece pieces all e s n =
    ap (λ ps. prepended front (statuses_from ps)) e ∙ ap (λ o. prepended front (with_status o (statuses_from pieces))) (sym s) ∙ once_more front now status (statuses_from pieces) n

pub status_none : (front : List Status) (piece : List ℕ) (pieces all : List (List ℕ)) → all ≡ piece ∷ pieces → None ≡ piece_status piece → prepended front (statuses_from all) ≡ None
status_none front piece pieces all e s =
    ap (λ ps. prepended front (statuses_from ps)) e ∙ ap (λ o. prepended front (with_status o (statuses_from pieces))) (sym s)

pub nothing_prepended : (later : Option (List Status)) → prepended [] later ≡ later
nothing_prepended None = refl
nothing_prepended (Some later) = refl
