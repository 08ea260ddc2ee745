-- The certificate for an unsatisfiable formula.
use Rattle.std.proofs.Common.{◌≡◌, ℕ, ◌<◌, ◌^◌, List, [], ◌∷◌, ◌++◌, refl, ap, ◌∙◌, sym, subst, append_assoc, append-nil, arith}
use Rattle.std.specs.Prelude.{codes, map}
use Rattle.cnf_form.specs.Cnf.{LitOf, FormulaOf, Line, Addition, IsAdmitted}
use Rattle.cnf_form.specs.Dimacs.{IsDimacs}
use Rattle.sby_terms.specs.declared.names.Answer.TheVariants.{Unsat}
use Rattle.cert_judge.specs.DrupCert.{IsCert, Leads}
use Rattle.cdcl_run.specs.Searching.{IsProof}
use Rattle.cdcl_run.specs.Text.{proof_text, unsatisfiable_line}
use Rattle.cdcl_core.proofs.Solutions.{logged_drup}
use Rattle.cdcl_run.proofs.Proofs.{line_words, proof_lines, proof_leads, up_to, proof_text_append}

pub unsat_cert : (job : List ℕ) (f : FormulaOf) (ls : List Line) (G : List (List LitOf)) (n : ℕ) (stream : List ℕ) → IsDimacs job f → IsProof f ls G n → IsAdmitted G [] → stream ≡ proof_text (ls ++ Addition [] ∷ []) ++ unsatisfiable_line
    → (cert : List ℕ) × (rest : List ℕ) × (stream ≡ cert ++ 10 ∷ rest) × IsCert job cert Unsat
unsat_cert job f ls G n stream d p a is =
    let w = up_to ls f.clauses G f.vars (logged_drup p.logged) a p.proper in
    let small : f.vars < 2 ^ 64 = (let h = d.limit in omega (arith, h)) in
    let cert = proof_text w.front ++ codes "0" in
    let rest = proof_text w.rest ++ unsatisfiable_line in
    let whole : stream ≡ (proof_text w.front ++ (48 ∷ 10 ∷ proof_text w.rest)) ++ unsatisfiable_line =
    is ∙ ap (λ z. z ++ unsatisfiable_line) (ap proof_text w.are ∙ proof_text_append w.front (Addition [] ∷ w.rest)) in (
      cert,
      rest,
      whole ∙ append_assoc (proof_text w.front) (48 ∷ 10 ∷ proof_text w.rest) unsatisfiable_line ∙ sym (append_assoc (proof_text w.front) (48 ∷ []) (10 ∷ rest)),
      (
        f,
        d,
        (
          map line_words w.front,
          w.present,
          proof_lines f.vars small w.front (codes "0") w.proper,
          subst (λ z. Leads f.vars z f.clauses w.present) (append-nil (map line_words w.front)) (proof_leads f.vars small w.front [] f.clauses w.present w.present w.leads w.proper w.full refl),
          w.admitted,
        ),
      ),
    )
