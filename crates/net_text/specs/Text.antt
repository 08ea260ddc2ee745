-- The text of an encoding's formula, piece by piece.
use Rattle.std.specs.Prelude.{◌≡◌, ℕ, ◌<◌, ◌≤◌, List, [], ◌∷◌, ◌++◌, length, drop, Some, slice_get}
use Rattle.cnf_form.specs.Cnf.{LitOf}
use Rattle.cnf_form.specs.Dimacs.{body_text, clause_text, dimacs_text}
use Rattle.gate_graph.specs.declared.gate.Gate.{Gate}
use Rattle.gate_graph.specs.Folding.{clauses_of}
use Rattle.net_unroll.specs.Encoding.{EncodedOf, formula_of}
use Rattle.net_text.specs.declared.pieces.Front.{Front}
use Rattle.net_text.specs.declared.pieces.Place.{Place}
use Rattle.net_text.specs.declared.pieces.Place.TheVariants.{Head, Clause, Goal, End}

-- the clauses of gates, without the first k of the first gate
abbrev pub gates_text : List (Gate × LitOf) → ℕ → List ℕ
gates_text [] k = []
gates_text (e ∷ es) k = body_text (drop k (clauses_of e.1 e.0)) ++ gates_text es 0

abbrev pub count_of : EncodedOf → ℕ
count_of e = length (formula_of e).clauses

-- the text from a place on
abbrev pub text_from : EncodedOf → Place → List ℕ
text_from e Head = dimacs_text (formula_of e)
text_from e (Clause g k) = gates_text (drop g e.gates) k ++ clause_text e.goals
text_from e (Goal i) = clause_text (drop i e.goals)
text_from e End = []

-- the place is one of the text
abbrev pub IsPlace : EncodedOf → Place → Type 0
IsPlace e Head = Unit {0}
IsPlace e (Clause g k) = (x : Gate × LitOf) × (slice_get e.gates g ≡ Some x) × (k < length (clauses_of x.1 x.0))
IsPlace e (Goal i) = i ≤ length e.goals
IsPlace e End = Unit {0}

-- what is still to come: of the piece at hand, and after it
abbrev pub rest_of : EncodedOf → Front → List ℕ
rest_of e f = drop f.given f.piece.bytes ++ text_from e f.next

pub record IsFront (e : EncodedOf) (f : Front) : Type 0 where
  pub given : f.given ≤ length f.piece.bytes
  pub next : IsPlace e f.next
