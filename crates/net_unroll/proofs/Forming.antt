-- The text of an encoding's formula is one of DIMACS.
use Rattle.std.proofs.Common.{◌≡◌, ℕ, suc, ◌+◌, ◌*◌, ◌<◌, ◌≤◌, ◌++◌, Bool, true, List, [], ◌∷◌, Option, Some, None, refl, ap, arith, length}
use Rattle.std.specs.Prelude.{All}
use Rattle.std.specs.List.{filter, flat_map}
use Rattle.std.proofs.lemmas.List.Elements.{All-append, All-cons, All-contains, All-filter, All-map, All-nil, All-tail, All-weaker}
use Rattle.cnf_form.specs.Cnf.{ClauseWithin, LitOf, LitWithin, Within}
use Rattle.cnf_form.specs.Dimacs.{IsDimacs, dimacs_text}
use Rattle.cnf_form.specs.declared.literal.TheConstants.{MAX_VARS}
use Rattle.cnf_form.proofs.Writing.{dimacs_text_is_IsDimacs}
use Rattle.gate_graph.specs.declared.gate.Gate.{Gate}
use Rattle.gate_graph.specs.Folding.{clauses_of, operands}
use Rattle.gate_graph.specs.Kept.{OthersWithin, clauses_from, lit_of}
use Rattle.bit_net.specs.Net.{IsNet, NetOf, vars}
use Rattle.bit_net.proofs.Lists.{head_in}
use Rattle.net_unroll.specs.Asking.{goal_of}
use Rattle.net_unroll.specs.Clauses.{IsEncoding}
use Rattle.net_unroll.specs.Encoding.{EncodedOf, encoding, encoding_for, finished, formula_of, is_kept, made, made_for, number, renumbered, renumbered_entry, renumbered_gate, vars_for}
use Rattle.net_unroll.specs.Making.{MadeOf}
use Rattle.net_unroll.specs.declared.asking.Asked.{Asked}
use Rattle.net_unroll.specs.declared.asking.Cycles.{Cycles}
use Rattle.net_unroll.proofs.Deciding.{goal_within}
use Rattle.net_unroll.proofs.Enclosing.{clauses_within}
use Rattle.net_unroll.proofs.Finished.{number_up, renumbered_within, truth_kept}
use Rattle.net_unroll.proofs.Means.{IsWell}
use Rattle.net_unroll.proofs.Numbering.{number_few, number_some}
use Rattle.net_unroll.proofs.Solving.{well}
use Rattle.net_unroll.proofs.Stepping.{all_in}
use Rattle.net_unroll.proofs.Tightening.{tight_law}

module _ (long : ℕ) (m : MadeOf) (w : IsWell long m) where
  abbrev keeps : ℕ → Bool
  keeps = is_kept m

  abbrev most : ℕ
  most = number keeps m.core.vars

  numbers : (v : ℕ) → 0 < v → v ≤ m.core.vars → (0 < number keeps v) × (number keeps v ≤ most)
  numbers v lo hi = (number_some keeps v (truth_kept long m w) lo, number_up keeps v m.core.vars hi)

  entries : All (λ (e : Gate × LitOf). OthersWithin most (operands e.0) × LitWithin most e.1) (finished m).gates
  entries =
      All-map (λ (e : Gate × LitOf). OthersWithin most (operands e.0) × LitWithin most e.1) (renumbered_entry keeps) (filter (λ e. keeps e.1.var) m.core.kept)
      (All-filter (λ (e : Gate × LitOf). keeps e.1.var) (λ (e : Gate × LitOf). OthersWithin most (operands (renumbered_gate keeps e.0)) × LitWithin most (renumbered keeps e.1)) m.core.kept
      (all_in (λ (e : Gate × LitOf). OthersWithin most (operands (renumbered_gate keeps e.0)) × LitWithin most (renumbered keeps e.1)) m.core.kept
      (λ e c. (let of = w.kept.all e.0 e.1 c in let (a, b) = of.within in (renumbered_within keeps m.core.vars most e.0 numbers of.operands, numbers e.1.var a b)))))

  goals_in : All (LitWithin most) (finished m).goals
  goals_in = All-map (LitWithin most) (renumbered keeps) m.goals (All-weaker (LitWithin m.core.vars) (λ l. LitWithin most (renumbered keeps l)) (λ l v. numbers l.var v.0 v.1) m.goals w.goals)

  pub well_within : IsEncoding (finished m)
  well_within =
      let few = number_few keeps m.core.vars in
      let some = numbers m.core.vars w.kept.some (omega arith) in
      let a = some.0 in
      let b = w.kept.below in
      record { some = omega arith; limit = omega arith; gates = entries; goals = goals_in }

-- the clauses of gates that are within
gates_in : (n : ℕ) (gs : List (Gate × LitOf)) → All (λ g. OthersWithin n (operands g.0) × LitWithin n g.1) gs → All (ClauseWithin n) (flat_map (λ (e : Gate × LitOf). clauses_of e.1 e.0) gs)
gates_in n [] h = All-nil (ClauseWithin n)
gates_in n (g ∷ gs) h =
    let here = All-contains (λ (g : Gate × LitOf). OthersWithin n (operands g.0) × LitWithin n g.1) (g ∷ gs) g h (head_in g gs) in
    All-append (ClauseWithin n) (clauses_of g.1 g.0) (flat_map (λ (e : Gate × LitOf). clauses_of e.1 e.0) gs) (clauses_within n g.1 g.0 here.1 here.0)
    (gates_in n gs (All-tail (λ (g : Gate × LitOf). OthersWithin n (operands g.0) × LitWithin n g.1) g gs h))

one_in : (n : ℕ) (l : LitOf) → LitWithin n l → ClauseWithin n (l ∷ [])
one_in n l w = All-cons (LitWithin n) l [] w (All-nil (LitWithin n))

-- the clauses of an encoding that asks for something
asking_in : (e : EncodedOf) → IsEncoding e → Within e.vars (clauses_from e.gates ++ e.goals ∷ [])
asking_in e is =
    let some = is.some in
    All-append (ClauseWithin e.vars) (clauses_from e.gates) (e.goals ∷ [])
    (All-cons (ClauseWithin e.vars) (lit_of 1 true ∷ []) (flat_map (λ (g : Gate × LitOf). clauses_of g.1 g.0) e.gates) (one_in e.vars (lit_of 1 true) (omega arith, omega arith)) (gates_in e.vars e.gates is.gates))
    (All-cons (ClauseWithin e.vars) e.goals [] is.goals (All-nil (ClauseWithin e.vars)))

pub formed_law : (n : NetOf) (a : Asked) (c : Cycles) → IsNet n → made n a c ≤ MAX_VARS → IsDimacs (dimacs_text (formula_of (encoding n a c))) (formula_of (encoding n a c))
formed_law n a c net few = let t = (tight_law n a c net few).few in by (goal_of n a) refl few t
  where
    by : (o : Option LitOf) → goal_of n a ≡ o → vars_for n c o ≤ MAX_VARS → length (formula_of (encoding_for n c o)).clauses ≤ 6 * (formula_of (encoding_for n c o)).vars + 2
        → IsDimacs (dimacs_text (formula_of (encoding_for n c o))) (formula_of (encoding_for n c o))
    by None e l t = dimacs_text_is_IsDimacs (formula_of (encoding_for n c None)) (omega arith) (omega arith) (All-cons (ClauseWithin 1) [] [] (All-nil (LitWithin 1)) (All-nil (ClauseWithin 1)))
    by (Some goal) e l t =
        let is = well_within (suc (vars n)) (made_for n goal c) (well n net goal (goal_within n a goal net e) c l) in
        let most = is.limit in
        dimacs_text_is_IsDimacs (formula_of (encoding_for n c (Some goal))) (omega arith) (omega arith) (asking_in (finished (made_for n goal c)) is)
