use Rattle.std.proofs.Common.{rules, ◌≡◌, ◌∷◌, map, subst, sym, ap, ◌∙◌}
use Rattle.std.proofs.lemmas.List.Elements.{All-head, All-tail}
use Rattle.cnf_form.specs.Cnf.{FormulaOf, ClauseWithin, Within}
use Rattle.gate_graph.proofs.Pushing.{first_and_rest, length-rest, rest_of}
use Rattle.gate_graph.proofs.clauses.+push_all.Goals as goal

pub push-requires : goal.push-requires
push-requires t c =
    let e : c.first-item.result ∷ rest_of c.args.clauses.now ≡ c.args.clauses.now =
    ap (λ r. r ∷ rest_of c.args.clauses.now) c.first-item.is ∙ first_and_rest c.args.clauses.now c.first-item.result c.in-len1-up.len_at_least in
    All-head (ClauseWithin c.args.formula.now.vars) c.first-item.result.now (map (λ r. r.now) (rest_of c.args.clauses.now))
    (subst (λ rs. Within c.args.formula.now.vars (map (λ r. r.now) rs)) (sym e) c.requires)

pub push_all-requires : goal.push_all-requires
push_all-requires t c =
    let h = length-rest c.args.clauses.now c.first-item.result c.in-len1-up.len_at_least in
    let e : c.first-item.result ∷ rest_of c.args.clauses.now ≡ c.args.clauses.now =
    ap (λ r. r ∷ rest_of c.args.clauses.now) c.first-item.is ∙ first_and_rest c.args.clauses.now c.first-item.result c.in-len1-up.len_at_least in
    let n : c.push.new.self.vars ≡ c.args.formula.now.vars = ap (λ (f : FormulaOf). f.vars) c.in_ok-push.ensures.ok in (
      search rules,
      subst (λ v. Within v (map (λ r. r.now) (rest_of c.args.clauses.now))) (sym n)
          (All-tail (ClauseWithin c.args.formula.now.vars) c.first-item.result.now (map (λ r. r.now) (rest_of c.args.clauses.now))
          (subst (λ rs. Within c.args.formula.now.vars (map (λ r. r.now) rs)) (sym e) c.requires)),
    )
