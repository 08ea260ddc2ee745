use Rattle.std.proofs.Common.{◌∙◌, ◌++◌, ◌∷◌, [], ℕ, List, ap, sym, subst, take}
use Rattle.std.proofs.lemmas.List.{append_assoc}
use Rattle.cnf_form.specs.Cnf.{ClauseWithin, FormulaOf, LitOf}
use Rattle.gate_graph.specs.Folding.{clauses_of}
use Rattle.gate_graph.proofs.Pushing.{take_one_more}
use Rattle.net_unroll.specs.Clauses.{lits_of}
use Rattle.net_unroll.proofs.Enclosing.{clauses_within, element_within}
use Rattle.net_unroll.proofs.clauses.push_clauses.Goals as goal

pub push_clause-requires : goal.push_clause-requires
push_clause-requires c =
    subst (λ (n : ℕ). ClauseWithin n (lits_of c.clause_at.result)) (sym c.loop-place.invariant.vars)
    (element_within (ClauseWithin c.args.formula.now.vars) (clauses_of c.args.lit c.args.gate.now) c.loop-place.place (lits_of c.clause_at.result)
    (clauses_within c.args.formula.now.vars c.args.lit c.args.gate.now c.requires.literal c.requires.operands) c.clause_at.ensures)

pub loop-place-preserved : goal.loop-place-preserved
loop-place-preserved c =
    let before = c.args.formula.now.clauses in
    let all = clauses_of c.args.lit c.args.gate.now in
    let lits = lits_of c.clause_at.result in
    record {
      vars = ap (λ (f : FormulaOf). f.vars) c.in_ok-push_clause.ensures ∙ c.loop-place.invariant.vars;
      clauses = ap (λ (f : FormulaOf). f.clauses) c.in_ok-push_clause.ensures ∙ ap (λ (cs : List (List LitOf)). cs ++ lits ∷ []) c.loop-place.invariant.clauses
          ∙ append_assoc before (take c.loop-place.place all) (lits ∷ []) ∙ ap (λ (cs : List (List LitOf)). before ++ cs) (sym (take_one_more all c.loop-place.place lits c.clause_at.ensures));
    }
