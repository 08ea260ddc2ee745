-- Ids of clauses of which some were removed.
use Rattle.std.specs.Prelude.{ℕ, ◌+◌, List, [], ◌∷◌, Option, Some, None}
use Rattle.cnf_form.specs.Cnf.{LitOf}
use Rattle.hint_chain.specs.Ids.{id_at}

-- the ids of the clauses that weren't removed, of which the first has this number
abbrev pub kept : List ℕ → ℕ → List (Option (List LitOf)) → List ℕ
kept ids n [] = []
kept ids n (Some c ∷ ss) = id_at ids n ∷ kept ids (n + 1) ss
kept ids n (None ∷ ss) = kept ids (n + 1) ss
