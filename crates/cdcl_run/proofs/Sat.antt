-- The certificate for a satisfiable formula.
use Rattle.std.proofs.Common.{◌≡◌, ℕ, ◌<◌, ◌^◌, Bool, List, [], ◌∷◌, ◌++◌, length, refl, ap, ◌∙◌, sym, subst, inl, inr, append_assoc, arith}
use Rattle.std.specs.Prelude.{codes, map}
use Rattle.std.proofs.lemmas.List.FromFn.{length-map-range_with_len}
use Rattle.cnf_form.specs.Cnf.{LitOf, FormulaOf, Line, Satisfies}
use Rattle.cnf_form.specs.Dimacs.{IsDimacs}
use Rattle.cdcl_core.specs.Solving.{valued}
use Rattle.cdcl_core.proofs.Solutions.{logged_drup}
use Rattle.sby_terms.specs.declared.names.Answer.TheVariants.{Sat as SatAnswer}
use Rattle.cert_judge.specs.DrupCert.{IsCert, IsIdle, Names, lines, named_by}
use Rattle.cdcl_run.specs.Searching.{IsProof, values_to}
use Rattle.cdcl_run.specs.Text.{AreValueLines, line, literals_from, proof_text, satisfiable_line}
use Rattle.cdcl_run.proofs.Naming.{bare_values, last_words, literals_in, named_value, names, row_words, satisfies_by, value_lines, values_fed}
use Rattle.cdcl_run.proofs.Proofs.{full_of, line_first, line_words, proof_leads, proof_lines}
use Rattle.cdcl_run.proofs.Words.{AreIn}
use Rattle.cdcl_run.proofs.Rows.{length-literals_from}

-- the words of the status line
abbrev pub status : List (List ℕ)
status = codes "s" ∷ codes "SATISFIABLE" ∷ []

pub idle : IsIdle status
idle = inr (refl, λ e. (let k : codes "SATISFIABLE" ≡ codes "UNKNOWN" = cc in let j : ◌≡◌ {A = ℕ} 83 85 = cc in omega (arith, j)))

-- the lines of an answer with values, read back
pub record IsEndRead (vars : ℕ) (values : List Bool) (text : List ℕ) : Type 0 where
  pub bare : List ℕ
  pub last : List (List (List ℕ))
  pub fed : text ≡ bare ++ 10 ∷ []
  pub read : lines (satisfiable_line ++ bare) ≡ status ∷ last
  pub named : Names vars last (literals_from 1 (values_to vars values))

pub end_read : (vars : ℕ) → vars < 2 ^ 64 → (values : List Bool) (text : List ℕ) → AreValueLines (literals_from 1 (values_to vars values)) text → IsEndRead vars values text
end_read vars small values text v =
    let all_values = values_to vars values in
    let each : length all_values ≡ vars = length-map-range_with_len (valued values) 1 vars in
    let n : length (literals_from 1 all_values) ≡ vars = length-literals_from 1 all_values ∙ each in
    let within = literals_in vars 1 all_values (omega arith) (omega (arith, each)) in
    let all = v.all in
    let bare = bare_values v.rows v.last in
    let last = map row_words v.rows ++ last_words v.last ∷ [] in
    let inside = subst (AreIn vars) (sym all) within in
    let status_lines : lines (satisfiable_line ++ bare) ≡ status ∷ lines bare = line_first (codes "s SATISFIABLE") bare (refl, (refl, (refl, (refl, (refl, (refl, (refl, (refl, (refl, (refl, (refl, (refl, (refl, tt))))))))))))) in
    record {
      bare = bare;
      last = last;
      fed = v.text_is ∙ values_fed v.rows v.last;
      read = status_lines ∙ ap (λ z. status ∷ z) (value_lines vars small v.rows v.last inside);
      named = subst (Names vars last) all (names vars small v.rows v.last inside (omega (arith, n, ap length all)));
    }

pub sat_cert : (job : List ℕ) (f : FormulaOf) (ls : List Line) (G : List (List LitOf)) (n : ℕ) (values : List Bool) (text stream : List ℕ) → IsDimacs job f → IsProof f ls G n → Satisfies (valued values) f.clauses
    → AreValueLines (literals_from 1 (values_to f.vars values)) text → stream ≡ proof_text ls ++ (satisfiable_line ++ text) → (cert : List ℕ) × (stream ≡ line cert) × IsCert job cert SatAnswer
sat_cert job f ls G n values text stream d p s v is =
    let small : f.vars < 2 ^ 64 = (let h = d.limit in omega (arith, h)) in
    let e = end_read f.vars small values text v in
    let lits = literals_from 1 (values_to f.vars values) in
    let words = map line_words ls in (
      proof_text ls ++ (satisfiable_line ++ e.bare),
      is ∙ ap (λ z. proof_text ls ++ (satisfiable_line ++ z)) e.fed ∙ ap (λ z. proof_text ls ++ z) (sym (append_assoc satisfiable_line e.bare (10 ∷ []))) ∙ sym (append_assoc (proof_text ls) (satisfiable_line ++ e.bare) (10 ∷ [])),
      (
        f,
        d,
        (
          words ++ status ∷ [],
          e.last,
          G,
          lits,
          proof_lines f.vars small ls (satisfiable_line ++ e.bare) p.proper ∙ ap (λ z. words ++ z) e.read ∙ sym (append_assoc words (status ∷ []) e.last),
          proof_leads f.vars small ls (status ∷ []) f.clauses G G (logged_drup p.logged) p.proper (full_of ls f.clauses G (valued values) (logged_drup p.logged) s) (inl (idle, refl)),
          e.named,
          satisfies_by f.vars f.clauses (named_by lits) (valued values) d.within (named_value f.vars values) s,
        ),
      ),
    )
