-- Engine lines, and the marks on them.
use Rattle.std.proofs.Common.{◌≡◌, ℕ, List, [], ◌∷◌, Option, Some, None, Result, Ok, Err, subst, inl, inr, codes}
use Rattle.std.proofs.lemmas.Bool.{cases_Bool}
use Rattle.std.specs.Prelude.{bytes_eq}
use Rattle.sby_terms.specs.declared.engine.Engine.{Engine}
use Rattle.sby_terms.specs.declared.engine.Engine.TheVariants as engine
use Rattle.sby_task.specs.Values.{number_of}
use Rattle.sby_task.specs.Engines.{engine_name, with_conflicts, sat_of, is_net, net_of, program_of, marked_of, engine_from, engine_of}
use Rattle.sby_task.specs.Marks.{HasMarks, IsMarked, are_marked}
use Rattle.sby_task.specs.declared.engines.EngineName.{EngineName}
use Rattle.sby_task.specs.declared.engines.EngineName.TheVariants.{Sat, Drup, Btor, Inv, Lrat, Proof, ProofBinary, Net, LeftOut, Unknown}
use Rattle.sby_task.proofs.MarkCounts.{marked}
use Rattle.sby_task.proofs.RowsSaid.{ok_same, err_ok}

pub ok_err : {A B : Type 0} (a : A) (b : B) → ◌≡◌ {A = Result A B} (Ok a) (Err b) → ⊥
ok_err a b h = cc

pub err_same : {A B : Type 0} (a b : B) → ◌≡◌ {A = Result A B} (Err a) (Err b) → a ≡ b
err_same a b h = cc

marked_when : (make : List (List ℕ) → Engine) (arguments : List (List ℕ)) (x : Engine) → marked_of make arguments ≡ Ok x → HasMarks arguments × (make arguments ≡ x)
marked_when make [] x h = absurd (err_ok x _ h)
marked_when make (program ∷ arguments) x h = elim (cases_Bool (are_marked (program ∷ arguments))) as (λ _. HasMarks (program ∷ arguments) × (make (program ∷ arguments) ≡ x)) [
  | inl y ↦ (marked (program ∷ arguments) y, ok_same _ x (rw y at h))
  | inr n ↦ absurd (err_ok x _ (rw n at h))
]

program_is : (make : List (List ℕ) → Engine) (arguments : List (List ℕ)) (x : Engine) → program_of make arguments ≡ Ok x → make arguments ≡ x
program_is make [] x h = absurd (err_ok x _ h)
program_is make (program ∷ arguments) x h = ok_same _ x h

conflicts_marked : (o : Option ℕ) (x : Engine) → with_conflicts o ≡ Ok x → IsMarked x
conflicts_marked None x h = absurd (err_ok x _ h)
conflicts_marked (Some n) x h = subst IsMarked (ok_same _ x h) tt

sat_marked : (arguments : List (List ℕ)) (x : Engine) → sat_of arguments ≡ Ok x → IsMarked x
sat_marked [] x h = subst IsMarked (ok_same _ x h) tt
sat_marked (option ∷ value) x h = elim (cases_Bool (bytes_eq option (codes "--conflicts"))) as (λ _. IsMarked x) [
  | inl y ↦ conflicts_marked (number_of 1000000000 value) x (rw y at h)
  | inr n ↦ absurd (err_ok x _ (rw n at h))
]

net_marked : (name : List ℕ) (arguments : List (List ℕ)) (x : Engine) → net_of name arguments ≡ Ok x → IsMarked x
net_marked name arguments x h = elim (cases_Bool (is_net arguments)) as (λ _. IsMarked x) [
  | inl y ↦ subst IsMarked (ok_same _ x (rw y at h)) tt
  | inr n ↦ absurd (err_ok x _ (rw n at h))
]

pub engine_marked : (words : List (List ℕ)) (x : Engine) → engine_of words ≡ Ok x → IsMarked x
engine_marked [] x h = absurd (err_ok x _ h)
engine_marked (name ∷ arguments) x h = by (engine_name name) h
  where
    by : (n : EngineName) → engine_from n name arguments ≡ Ok x → IsMarked x
    by Sat h = sat_marked arguments x h
    by Drup h = subst IsMarked (program_is engine.Drup arguments x h) tt
    by Btor h = subst IsMarked (program_is engine.Btor arguments x h) tt
    by Inv h = subst IsMarked (program_is engine.Inv arguments x h) tt
    by Lrat h = subst IsMarked (program_is engine.Lrat arguments x h) tt
    by Proof h = let p = marked_when engine.Proof arguments x h in subst IsMarked p.1 p.0
    by ProofBinary h = let p = marked_when engine.ProofBinary arguments x h in subst IsMarked p.1 p.0
    by Net h = net_marked name arguments x h
    by LeftOut h = absurd (err_ok x _ h)
    by Unknown h = absurd (err_ok x _ h)
