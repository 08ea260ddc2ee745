-- The lines of a log as those of a search.
use Rattle.std.proofs.Common.{◌≡◌, ℕ, false, List, [], ◌∷◌, ◌++◌, refl, ap}
use Rattle.std.proofs.lemmas.List.Elements.{All-nil, All-cons, All-head, All-tail}
use Rattle.cnf_form.specs.Cnf.{LitOf, FormulaOf, Addition, Deletion}
use Rattle.cdcl_core.specs.Logged.{AreProper, IsProper, clause_of}
use Rattle.cdcl_core.specs.Lines.{LogLine, Adds, Notes, Drops, plain, IsProperLine, AreProperLines, HeldOf}
use Rattle.cdcl_run.specs.Searching.{IsLogged, IsProof}
use Rattle.cdcl_run.specs.Text.{log_line, log_text, proof_text}

pub plain_text : (ls : List LogLine) → log_text ls ≡ proof_text (plain ls)
plain_text [] = refl
plain_text (Adds c id hints ∷ ls) = ap (λ z. log_line (Adds c id hints) ++ z) (plain_text ls)
plain_text (Notes l id hints ∷ ls) = plain_text ls
plain_text (Drops c id ∷ ls) = ap (λ z. log_line (Drops c id) ++ z) (plain_text ls)

pub plain_proper : (vars : ℕ) (ls : List LogLine) → AreProperLines vars ls → AreProper vars (plain ls)
plain_proper vars [] p = All-nil (λ l. IsProper vars (clause_of l))
plain_proper vars (Adds c id hints ∷ ls) p =
    let h : IsProperLine vars (Adds c id hints) = All-head (IsProperLine vars) (Adds c id hints) ls p in
    All-cons (λ l. IsProper vars (clause_of l)) (Addition c) (plain ls) h.0 (plain_proper vars ls (All-tail (IsProperLine vars) (Adds c id hints) ls p))
plain_proper vars (Notes l id hints ∷ ls) p = plain_proper vars ls (All-tail (IsProperLine vars) (Notes l id hints) ls p)
plain_proper vars (Drops c id ∷ ls) p =
    let h : IsProperLine vars (Drops c id) = All-head (IsProperLine vars) (Drops c id) ls p in
    All-cons (λ l. IsProper vars (clause_of l)) (Deletion c) (plain ls) h.0 (plain_proper vars ls (All-tail (IsProperLine vars) (Drops c id) ls p))

pub plain_proof : (f : FormulaOf) (ls : List LogLine) (G : List (List LitOf)) (n : ℕ) (held : HeldOf) → IsLogged false f ls G n held → IsProof f (plain ls) G n
plain_proof f ls G n held p = record { deletions = p.deletions; logged = p.logged; proper = plain_proper f.vars ls p.proper }
