-- The gates of both cycles and of the start, one after the other.
use Rattle.std.proofs.Common.{◌≡◌, ℕ, suc, ◌+◌, ◌*◌, List, [], ◌∷◌, ◌++◌, true, length, sym, ap, ◌∙◌, arith}
use Rattle.std.specs.List.{flat_map}
use Rattle.cnf_form.specs.Cnf.{FormulaOf, LitOf}
use Rattle.gate_graph.specs.declared.gate.Gate.{Gate}
use Rattle.gate_graph.specs.Circuit.{GatesOf}
use Rattle.gate_graph.specs.Folding.{clauses_of, constant}
use Rattle.gate_graph.specs.Kept.{circuit_of, clauses_from, lit_of}
use Rattle.bit_net.specs.Net.{NetOf, gate_var, vars}
use Rattle.bit_net.specs.Reaching.{entries}
use Rattle.frame_gates.proofs.Lists.{length_map}
use Rattle.pair_form.specs.declared.pair.Frame.TheVariants.{First, Second}
use Rattle.net_pair.specs.Laying.{with_gates, with_inputs}
use Rattle.net_pair.specs.Pairing.{before_gates, before_start, both, chain, digits, gate_at, gates_at, start_gates}
use Rattle.net_pair.proofs.Laying.{with_gates_clauses, with_gates_more, with_gates_vars, with_inputs_clauses, with_inputs_vars}

-- the circuit as it begins, with its inputs, with the gates of the first cycle, and of the second
pub record AreStages (n : NetOf) (a b c d : GatesOf) : Type 0 where
  pub begins : a ≡ circuit_of 1 ((constant true ∷ []) ∷ []) []
  pub inputs : b ≡ with_inputs a (length n.states + 2 * n.inputs)
  pub first : c ≡ with_gates b (gates_at n First)
  pub second : d ≡ with_gates c (gates_at n Second)

pub inputs_vars : (n : NetOf) (a b : GatesOf) → a ≡ circuit_of 1 ((constant true ∷ []) ∷ []) [] → b ≡ with_inputs a (length n.states + 2 * n.inputs) → b.formula.vars ≡ before_gates n First
inputs_vars n a b e f =
    let v : a.formula.vars ≡ 1 = ap (λ (g : GatesOf). g.formula.vars) e in
    let w : b.formula.vars ≡ a.formula.vars + (length n.states + 2 * n.inputs) = ap (λ (g : GatesOf). g.formula.vars) f ∙ with_inputs_vars a (length n.states + 2 * n.inputs) in
    omega arith

pub first_vars : (n : NetOf) (b c : GatesOf) → b.formula.vars ≡ before_gates n First → c ≡ with_gates b (gates_at n First) → c.formula.vars ≡ before_gates n Second
first_vars n b c v e =
    let w : c.formula.vars ≡ b.formula.vars + length (gates_at n First) = ap (λ (g : GatesOf). g.formula.vars) e ∙ with_gates_vars b (gates_at n First) in
    let l = length_map (gate_at n First) n.gates in
    omega arith

pub second_vars : (n : NetOf) (c d : GatesOf) → c.formula.vars ≡ before_gates n Second → d ≡ with_gates c (gates_at n Second) → d.formula.vars ≡ before_start n
second_vars n c d v e =
    let w : d.formula.vars ≡ c.formula.vars + length (gates_at n Second) = ap (λ (g : GatesOf). g.formula.vars) e ∙ with_gates_vars c (gates_at n Second) in
    let l = length_map (gate_at n Second) n.gates in
    omega arith

pub stages_vars : (n : NetOf) (a b c d : GatesOf) → AreStages n a b c d → d.formula.vars ≡ before_start n
stages_vars n a b c d s = second_vars n c d (first_vars n b c (inputs_vars n a b s.begins s.inputs) s.first) s.second

of_parts : (f : FormulaOf) (v : ℕ) (F : List (List LitOf)) → f.vars ≡ v → f.clauses ≡ F → f ≡ record { vars = v; clauses = F }
of_parts f v F e h = ap (λ (w : ℕ). let g : FormulaOf = record { vars = w; clauses = f.clauses } in g) e ∙ ap (λ (G : List (List LitOf)). let g : FormulaOf = record { vars = v; clauses = G } in g) h

pub stages_formula : (n : NetOf) (a b c d e : GatesOf) → AreStages n a b c d → e ≡ with_gates d (chain (d.formula.vars + 1) (lit_of 1 true) (digits 0 n.states)) → e.formula ≡ record { vars = vars (both n); clauses = clauses_from (entries (both n)) }
stages_formula n a b c d e s last = of_parts e.formula (vars (both n)) (clauses_from (entries (both n))) many all
  where
    start_is : e ≡ with_gates d (start_gates n)
    start_is = last ∙ ap (λ (v : ℕ). with_gates d (chain v (lit_of 1 true) (digits 0 n.states))) (let v = stages_vars n a b c d s in let z : d.formula.vars + 1 ≡ suc (before_start n) = omega arith in z)

    whole : e ≡ with_gates b (both n).gates
    whole =
        start_is ∙ ap (λ (g : GatesOf). with_gates g (start_gates n)) (s.second ∙ ap (λ (g : GatesOf). with_gates g (gates_at n Second)) s.first)
        ∙ sym (with_gates_more (with_gates b (gates_at n First)) (gates_at n Second) (start_gates n))
        ∙ sym (with_gates_more b (gates_at n First) (gates_at n Second ++ start_gates n))

    begin : b.formula.vars ≡ before_gates n First
    begin = inputs_vars n a b s.begins s.inputs

    many : e.formula.vars ≡ vars (both n)
    many =
        let w : e.formula.vars ≡ b.formula.vars + length (both n).gates = ap (λ (g : GatesOf). g.formula.vars) whole ∙ with_gates_vars b (both n).gates in
        let v = begin in
        omega arith

    first_clauses : b.formula.clauses ≡ (lit_of 1 true ∷ []) ∷ []
    first_clauses = ap (λ (g : GatesOf). g.formula.clauses) s.inputs ∙ with_inputs_clauses a (length n.states + 2 * n.inputs) ∙ ap (λ (g : GatesOf). g.formula.clauses) s.begins

    all : e.formula.clauses ≡ clauses_from (entries (both n))
    all =
        ap (λ (g : GatesOf). g.formula.clauses) whole
        ∙ with_gates_clauses b (both n).gates (gate_var (both n) 0) (let v = begin in omega arith)
        ∙ ap (λ (F : List (List LitOf)). F ++ flat_map (λ (d : Gate × LitOf). clauses_of d.1 d.0) (entries (both n))) first_clauses
