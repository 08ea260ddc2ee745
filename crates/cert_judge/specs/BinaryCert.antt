-- Binary proofs that show that a formula can't be satisfied.
use Rattle.std.specs.Prelude.{◌≡◌, ◌≢◌, ℕ, List, [], ◌∷◌, ◌++◌}
use Rattle.cnf_form.specs.Cnf.{LitOf, FormulaOf, IsAdmitted, Deletes}
use Rattle.proof_stream.specs.Spelling.{IsBinaryProof, ProofLine}
use Rattle.proof_stream.specs.declared.spot.LineKind.{LineKind}
use Rattle.proof_stream.specs.declared.spot.LineKind.TheVariants.{Clause, Deletion}

-- a line leads from the clauses F to H: a clause that isn't empty is admitted and joins them
abbrev pub LineLeads : LineKind → List LitOf → List (List LitOf) → List (List LitOf) → Type 0
LineLeads Clause c F H = (c ≢ []) × IsAdmitted F c × (H ≡ F ++ c ∷ [])
LineLeads Deletion c F H = Deletes F c H

-- lines lead from the clauses F to G, one after the other
abbrev pub LinesLead : List ProofLine → List (List LitOf) → List (List LitOf) → Type 0
LinesLead [] F G = G ≡ F
LinesLead (l ∷ ls) F G = (H : List (List LitOf)) × LineLeads l.kind l.lits F H × LinesLead ls H G

-- the bytes are whole lines that lead from the formula's clauses to some where the empty clause is admitted
abbrev pub IsRefutation : FormulaOf → List ℕ → Type 0
IsRefutation f bytes = (ls : List ProofLine) × (G : List (List LitOf)) × IsBinaryProof f.vars bytes ls × LinesLead ls f.clauses G × IsAdmitted G []
