-- The streams of answers, with hints or without.
use Rattle.std.proofs.Common.{◌≡◌, ℕ, ◌<◌, Bool, true, false, List, [], ◌∷◌, ◌++◌, refl, ap, ◌∙◌}
use Rattle.std.specs.Prelude.{IsTrue}
use Rattle.std.proofs.lemmas.List.FromFn.{length-map-range_with_len}
use Rattle.cnf_form.specs.Cnf.{LitOf, FormulaOf, IsAdmitted, Satisfies}
use Rattle.cnf_form.specs.Dimacs.{IsDimacs}
use Rattle.sby_terms.specs.declared.names.Answer.TheVariants.{Sat as SatAnswer, Unsat}
use Rattle.cdcl_core.specs.Lines.{LogLine, Adds, plain, IsProperLine, HeldOf, IsHintedLine}
use Rattle.cdcl_core.specs.Solving.{valued}
use Rattle.cdcl_core.proofs.Solutions.{plain_push}
use Rattle.cdcl_run.specs.Answer.{IsCertBy, IsSatStream, IsUnsatStream}
use Rattle.cdcl_run.specs.Searching.{IsLogged, text_by, values_to}
use Rattle.cdcl_run.specs.Text.{AreValueLines, line, literals_from, proof_text, satisfiable_line, unsatisfiable_line}
use Rattle.cdcl_run.proofs.HintedCerts.{hinted_sat_cert, hinted_unsat_cert}
use Rattle.cdcl_run.proofs.Plain.{plain_proof, plain_text}
use Rattle.cdcl_run.proofs.Sat.{sat_cert}
use Rattle.cdcl_run.proofs.Unsat.{unsat_cert}

module _ (job : List ℕ) (f : FormulaOf) (budget : ℕ) (ls : List LogLine) (G : List (List LitOf)) (n : ℕ) (held : HeldOf) (d : IsDimacs job f) where
  unsat_begins : (hinted : Bool) (id : ℕ) (hints stream : List ℕ) → IsLogged hinted f ls G n held → IsAdmitted G [] → IsProperLine f.vars (Adds [] id hints) → (IsTrue hinted → IsHintedLine held (Adds [] id hints))
      → stream ≡ text_by hinted (ls ++ Adds [] id hints ∷ []) ++ unsatisfiable_line → (cert : List ℕ) × (rest : List ℕ) × (stream ≡ cert ++ 10 ∷ rest) × IsCertBy hinted job cert Unsat
  unsat_begins false id hints stream p a fits by is =
      unsat_cert job f (plain ls) G n stream d (plain_proof f ls G n held p) a (is ∙ ap (λ z. z ++ unsatisfiable_line) (plain_text (ls ++ Adds [] id hints ∷ []) ∙ ap proof_text (plain_push ls (Adds [] id hints))))
  unsat_begins true id hints stream p a fits by is = hinted_unsat_cert job f ls G n held id hints stream d p fits (by refl) is

  sat_is : (hinted : Bool) (values : List Bool) (text stream : List ℕ) → IsLogged hinted f ls G n held → Satisfies (valued values) f.clauses → AreValueLines (literals_from 1 (values_to f.vars values)) text → stream ≡ text_by hinted ls ++ (satisfiable_line ++ text)
      → (cert : List ℕ) × (stream ≡ line cert) × IsCertBy hinted job cert SatAnswer
  sat_is false values text stream p s v is = sat_cert job f (plain ls) G n values text stream d (plain_proof f ls G n held p) s v (is ∙ ap (λ z. z ++ (satisfiable_line ++ text)) (plain_text ls))
  sat_is true values text stream p s v is = hinted_sat_cert job f ls G n held values text stream d p s v is

  pub unsat_stream : (hinted : Bool) (id : ℕ) (hints stream : List ℕ) → IsLogged hinted f ls G n held → n < budget → IsAdmitted G [] → IsProperLine f.vars (Adds [] id hints) → (IsTrue hinted → IsHintedLine held (Adds [] id hints))
      → stream ≡ text_by hinted (ls ++ Adds [] id hints ∷ []) ++ unsatisfiable_line → IsUnsatStream hinted job budget stream
  unsat_stream hinted id hints stream p h a fits by is =
      let c = unsat_begins hinted id hints stream p a fits by is in
      record {
        cert = c.0;
        rest = c.1;
        begins = c.2;
        is_cert = c.3;
        lines = ls;
        count = n;
        searched = record { formula = f; is_formula = d; present = G; held = held; logged = p };
        in_time = h;
        id = id;
        hints = hints;
        admitted = a;
        is_hinted = by;
        is = is;
      }

  pub sat_stream : (hinted : Bool) (values : List Bool) (text stream : List ℕ) → IsLogged hinted f ls G n held → n < budget → Satisfies (valued values) f.clauses → AreValueLines (literals_from 1 (values_to f.vars values)) text → stream ≡ text_by hinted ls ++ (satisfiable_line ++ text)
      → IsSatStream hinted job budget stream
  sat_stream hinted values text stream p h s v is =
      let c = sat_is hinted values text stream p s v is in
      record {
        cert = c.0;
        whole = c.1;
        is_cert = c.2;
        lines = ls;
        count = n;
        searched = record { formula = f; is_formula = d; present = G; held = held; logged = p };
        in_time = h;
        values = values_to f.vars values;
        each = length-map-range_with_len (valued values) 1 f.vars;
        text = text;
        value_lines = v;
        is = is;
      }
