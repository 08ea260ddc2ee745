-- The hinted certificates of answers.
use Rattle.std.proofs.Common.{◌≡◌, ℕ, ◌<◌, ◌^◌, Bool, true, List, [], ◌∷◌, ◌++◌, refl, ap, ◌∙◌, sym, subst, inl, append_assoc, append-nil, arith}
use Rattle.std.specs.Prelude.{map}
use Rattle.cnf_form.specs.Cnf.{LitOf, FormulaOf, Satisfies}
use Rattle.cnf_form.specs.Dimacs.{IsDimacs}
use Rattle.cert_judge.specs.DrupCert.{named_by}
use Rattle.sby_terms.specs.declared.names.Answer.TheVariants.{Sat as SatAnswer, Unsat}
use Rattle.cert_judge.specs.LratCert.{IsHintedCert, Leads}
use Rattle.cdcl_core.specs.Lines.{LogLine, Adds, IsProperLine, HeldOf, held_first, IsHintedLine}
use Rattle.cdcl_core.specs.Solving.{valued}
use Rattle.cdcl_run.specs.HintedText.{addition_text, hinted_text}
use Rattle.cdcl_run.specs.Searching.{IsLogged, values_to}
use Rattle.cdcl_run.specs.Text.{AreValueLines, line, literals_from, satisfiable_line, unsatisfiable_line}
use Rattle.cdcl_run.proofs.HintedProofs.{as_held, addition_line, addition_words, admitted_words, bare_addition, bare_read, bounded_all, bounded_first, filled, hinted_leads, hinted_lines, hinted_text_append, hinted_words}
use Rattle.cdcl_run.proofs.Naming.{named_value, satisfies_by}
use Rattle.cdcl_run.proofs.Proofs.{logged_full}
use Rattle.cdcl_run.proofs.Sat.{end_read, idle, status}

pub hinted_unsat_cert : (job : List ℕ) (f : FormulaOf) (ls : List LogLine) (G : List (List LitOf)) (n : ℕ) (held : HeldOf) (id : ℕ) (hints : List ℕ) (stream : List ℕ) → IsDimacs job f → IsLogged true f ls G n held → IsProperLine f.vars (Adds [] id hints)
    → IsHintedLine held (Adds [] id hints) → stream ≡ hinted_text (ls ++ Adds [] id hints ∷ []) ++ unsatisfiable_line → (cert : List ℕ) × (rest : List ℕ) × (stream ≡ cert ++ 10 ∷ rest) × IsHintedCert job cert Unsat
hinted_unsat_cert job f ls G n held id hints stream d p fits by is =
    let small : f.vars < 2 ^ 64 = (let h = d.limit in omega (arith, h)) in
    let w = p.hints refl in
    let first = held_first f.clauses in
    let b = bounded_first f.clauses in
    let c = bounded_all f.vars small first held ls w b in
    let few = fits.1 in
    let end = bare_addition [] id hints in
    let last = addition_words [] id hints in
    let text = addition_text [] id hints in
    let cert = hinted_text ls ++ end in
    let admitted = admitted_words f.vars small held [] id hints c fits.0 few.0 few.1 by in (
      cert,
      unsatisfiable_line,
      is ∙ ap (λ z. z ++ unsatisfiable_line) (hinted_text_append ls (Adds [] id hints ∷ [])) ∙ append_assoc (hinted_text ls) (text ++ []) unsatisfiable_line
          ∙ ap (λ z. hinted_text ls ++ z) (append_assoc text [] unsatisfiable_line ∙ addition_line [] id hints unsatisfiable_line) ∙ sym (append_assoc (hinted_text ls) end (10 ∷ unsatisfiable_line)),
      (
        f,
        d,
        (
          map hinted_words ls,
          last,
          as_held held,
          hinted_lines f.vars small first held ls end w b p.proper ∙ ap (λ z. map hinted_words ls ++ z) (bare_read f.vars small held [] id hints c fits by),
          subst (λ z. Leads f.vars z (as_held first) (as_held held)) (append-nil (map hinted_words ls)) (hinted_leads f.vars small first held ls [] (as_held held) w b p.proper (filled ls (logged_full p.logged)) refl),
          (id, hints, admitted, by),
        ),
      ),
    )

pub hinted_sat_cert : (job : List ℕ) (f : FormulaOf) (ls : List LogLine) (G : List (List LitOf)) (n : ℕ) (held : HeldOf) (values : List Bool) (text stream : List ℕ) → IsDimacs job f → IsLogged true f ls G n held → Satisfies (valued values) f.clauses
    → AreValueLines (literals_from 1 (values_to f.vars values)) text → stream ≡ hinted_text ls ++ (satisfiable_line ++ text) → (cert : List ℕ) × (stream ≡ line cert) × IsHintedCert job cert SatAnswer
hinted_sat_cert job f ls G n held values text stream d p s v is =
    let small : f.vars < 2 ^ 64 = (let h = d.limit in omega (arith, h)) in
    let w = p.hints refl in
    let begun = held_first f.clauses in
    let b = bounded_first f.clauses in
    let e = end_read f.vars small values text v in
    let lits = literals_from 1 (values_to f.vars values) in
    let words = map hinted_words ls in (
      hinted_text ls ++ (satisfiable_line ++ e.bare),
      is ∙ ap (λ z. hinted_text ls ++ (satisfiable_line ++ z)) e.fed ∙ ap (λ z. hinted_text ls ++ z) (sym (append_assoc satisfiable_line e.bare (10 ∷ []))) ∙ sym (append_assoc (hinted_text ls) (satisfiable_line ++ e.bare) (10 ∷ [])),
      (
        f,
        d,
        (
          words ++ status ∷ [],
          e.last,
          as_held held,
          lits,
          hinted_lines f.vars small begun held ls (satisfiable_line ++ e.bare) w b p.proper ∙ ap (λ z. words ++ z) e.read ∙ sym (append_assoc words (status ∷ []) e.last),
          hinted_leads f.vars small begun held ls (status ∷ []) (as_held held) w b p.proper (filled ls (logged_full p.logged)) (inl (idle, refl)),
          e.named,
          satisfies_by f.vars f.clauses (named_by lits) (valued values) d.within (named_value f.vars values) s,
        ),
      ),
    )
