-- Which bits of a model are read.
use Rattle.std.specs.Prelude.{◌≡◌, ◌⊎◌, ◌↔◌, ℕ, zero, suc, Bool, true, not, eqb, List, [], ◌∷◌, ◌++◌, Some, slice_get, map, Contains}
use Rattle.std.specs.List.{concat, filter, list_any}
use Rattle.model_core.specs.Shape.{ModelOf, NodeOf, RegisterOf, reads}
use Rattle.model_core.specs.declared.model.Statement.{Statement}
use Rattle.model_core.specs.declared.op.Op.TheVariants as op

-- what a register reads for its next row, beside its own row
abbrev pub register_reads : RegisterOf → List ℕ
register_reads r = r.d ++ (r.value ++ r.enable.place ∷ r.reset.place ∷ [])

abbrev pub IsNodeRead : ModelOf → ℕ → Type 0
IsNodeRead m p = (i : ℕ) × (n : NodeOf) × (slice_get m.nodes i ≡ Some n) × (n.op ≡ op.Copy → ⊥) × Contains (reads n) p

abbrev pub IsRegisterRead : ModelOf → ℕ → Type 0
IsRegisterRead m p = (r : RegisterOf) × Contains m.registers r × Contains (register_reads r) p

abbrev pub IsStatementRead : ModelOf → ℕ → Type 0
IsStatementRead m p = (s : Statement) × Contains (m.asserts ++ (m.assumes ++ m.covers)) s × ((p ≡ s.a) ⊎ (p ≡ s.en))

-- a node that isn't a copy reads the bit, or a register, or a statement
abbrev pub IsUsed : ModelOf → ℕ → Type 0
IsUsed m p = IsNodeRead m p ⊎ IsRegisterRead m p ⊎ IsStatementRead m p

-- q is a copy of p
abbrev pub IsCopied : ModelOf → ℕ → ℕ → Type 0
IsCopied m p q = (i j : ℕ) × (n : NodeOf) × (slice_get m.nodes i ≡ Some n) × (n.op ≡ op.Copy) × (slice_get n.a j ≡ Some p) × (slice_get n.y j ≡ Some q)

-- q is a copy of p, or of a copy, and so on, by this many copies
abbrev pub IsCopiedBy : ModelOf → ℕ → ℕ → ℕ → Type 0
IsCopiedBy m zero p q = p ≡ q
IsCopiedBy m (suc k) p q = (r : ℕ) × IsCopied m p r × IsCopiedBy m k r q

-- the bit is used, or what is copied from it
abbrev pub IsRead : ModelOf → ℕ → Type 0
IsRead m p = (k q : ℕ) × IsCopiedBy m k p q × IsUsed m q

-- the inputs that stand in none of the rows
abbrev pub single_inputs : ModelOf → List (List ℕ) → List ℕ
single_inputs m rows = filter (λ p. not (list_any (eqb p) (concat rows))) m.inputs

-- all inputs by rows: these rows, and each other input by itself, in the model's order
abbrev pub input_rows : ModelOf → List (List ℕ) → List (List ℕ)
input_rows m rows = rows ++ map (λ p. p ∷ []) (single_inputs m rows)

-- some bit of the row is read
abbrev pub IsRowRead : ModelOf → List ℕ → Type 0
IsRowRead m row = (p : ℕ) × Contains row p × IsRead m p

-- these are the rows of inputs of which a bit is read, in this order
abbrev pub AreReadInputs : ModelOf → List (List ℕ) → List (List ℕ) → Type 0
AreReadInputs m rows read = (keep : List ℕ → Bool) × (read ≡ filter keep (input_rows m rows)) × ((row : List ℕ) → Contains (input_rows m rows) row → (keep row ≡ true) ↔ IsRowRead m row)
