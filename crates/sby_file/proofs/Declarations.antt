-- What a file declares, line by line.
use Rattle.std.proofs.Common.{◌≡◌, ℕ, Bool, true, false, List, ◌∷◌, refl, ap, sym, ◌∙◌}
use Rattle.std.specs.Prelude.{◌||◌, bytes_eq}
use Rattle.std.proofs.lemmas.List.Folds.{list_any-append}
use Rattle.sby_file.specs.Names.{has}
use Rattle.sby_file.specs.Faults.{line_names, declared_names, has_tasks, starts_tasks}
use Rattle.sby_file.specs.declared.walk.Placed.{Placed}

or_moved : (a b c : Bool) → ((a || b) || c) ≡ (a || (b || c))
or_moved true b c = refl
or_moved false b c = refl

pub tasks_more : (all tail : List Placed) (p : Placed) (before now total : Bool) → all ≡ p ∷ tail → now ≡ (before || starts_tasks p.line) → (before || has_tasks all) ≡ total
    → (now || has_tasks tail) ≡ total
tasks_more all tail p before now total e n h = rw (n, or_moved) (rw e at h)

pub names_more : (all tail : List Placed) (p : Placed) (before now : Bool) (name : List ℕ) (total : Bool) → all ≡ p ∷ tail → now ≡ (before || has (line_names p.section p.line) name)
    → (before || has (declared_names all) name) ≡ total → (now || has (declared_names tail) name) ≡ total
names_more all tail p before now name total e n h =
    let split = list_any-append (bytes_eq name) (line_names p.section p.line) (declared_names tail) in
    let here : (now || has (declared_names tail) name) ≡ (before || (has (line_names p.section p.line) name || has (declared_names tail) name)) = rw (n, or_moved) refl in
    let there : (before || has (declared_names (p ∷ tail)) name) ≡ total = rw e at h in
    here ∙ ap (λ b. before || b) (sym split) ∙ there
