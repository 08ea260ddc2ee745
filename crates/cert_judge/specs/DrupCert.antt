-- Certificates, whole: a stream that shows what a job's formula is, with deletions and values.
use Rattle.std.specs.Prelude.{◌≡◌, ◌≢◌, ◌⊎◌, ℕ, ◌≤◌, true, List, [], ◌∷◌, ◌++◌, length, map, Some, slice_index, codes}
use Rattle.cnf_form.specs.Cnf.{LitOf, FormulaOf, Assignment, Satisfies, IsAdmitted, Deletes}
use Rattle.cnf_form.specs.Dimacs.{IsDimacs}
use Rattle.cert_stream.specs.Text.{Word, lines_of, words_from, literal_of}
use Rattle.cert_judge.specs.Values.{named_from, unnamed}
use Rattle.sby_terms.specs.declared.names.Answer.{Answer}
use Rattle.sby_terms.specs.declared.names.Answer.TheVariants.{Sat, Unsat}

-- the words of a line's text, and the lines of a stream as their words
abbrev pub words : List ℕ → List (List ℕ)
words text = map (λ (w : Word). w.text) (words_from true 0 [] text)

abbrev pub lines : List ℕ → List (List (List ℕ))
lines stream = map words (lines_of stream)

-- a blank line or a comment
abbrev pub IsRemark : List (List ℕ) → Type 0
IsRemark [] = Unit {0}
IsRemark (w ∷ ws) = slice_index w 0 ≡ 99

-- one of these, or a status line other than `s UNKNOWN`
abbrev pub IsIdle : List (List ℕ) → Type 0
IsIdle [] = Unit {0}
IsIdle (w ∷ ws) = (slice_index w 0 ≡ 99) ⊎ ((w ≡ codes "s") × (ws ≢ codes "UNKNOWN" ∷ []))

-- the words write the literals
abbrev pub Writes : ℕ → List (List ℕ) → List LitOf → Type 0
Writes vars [] c = c ≡ []
Writes vars (w ∷ ws) [] = ⊥
Writes vars (w ∷ ws) (l ∷ c) = (literal_of vars w ≡ Some l) × Writes vars ws c

-- the words are at most `vars` literals and 0
abbrev pub IsEnded : ℕ → List (List ℕ) → List LitOf → Type 0
IsEnded vars ws c = (front : List (List ℕ)) × (ws ≡ front ++ codes "0" ∷ []) × Writes vars front c × (length c ≤ vars)

-- The lines lead from the clauses F to G: a clause that isn't empty is admitted and joins them; a deletion begins with the
-- word d.
abbrev pub Leads : ℕ → List (List (List ℕ)) → List (List LitOf) → List (List LitOf) → Type 0
Leads vars [] F G = G ≡ F
Leads vars (ws ∷ ls) F G =
    (IsIdle ws × Leads vars ls F G)
    ⊎ ((c : List LitOf) × IsEnded vars ws c × (c ≢ []) × IsAdmitted F c × Leads vars ls (F ++ c ∷ []) G)
    ⊎ ((c : List LitOf) × (rest : List (List ℕ)) × (H : List (List LitOf)) × (ws ≡ codes "d" ∷ rest) × IsEnded vars rest c × Deletes F c H × Leads vars ls H G)

-- lines of values and remarks name the literals; each value line begins with the word v, and the last ends with 0
abbrev pub Names : ℕ → List (List (List ℕ)) → List LitOf → Type 0
Names vars [] values = ⊥
Names vars (ws ∷ []) values = (rest : List (List ℕ)) × (ws ≡ codes "v" ∷ rest) × IsEnded vars rest values
Names vars (ws ∷ us ∷ ls) values =
    (IsRemark ws × Names vars (us ∷ ls) values)
    ⊎ ((rest : List (List ℕ)) × (a : List LitOf) × (b : List LitOf) × (ws ≡ codes "v" ∷ rest) × Writes vars rest a × (length a ≤ vars) × (values ≡ a ++ b)
    × Names vars (us ∷ ls) b)

-- the values that literals name, one after the other
abbrev pub named_by : List LitOf → Assignment
named_by values = named_from unnamed values

-- Unsat: after the lines of a proof, a last line with the word 0 alone, where the empty clause is admitted. Sat: after them,
-- values that satisfy the formula.
abbrev pub IsCertOf : FormulaOf → List ℕ → Answer → Type 0
IsCertOf f stream Unsat =
    (proof : List (List (List ℕ))) × (G : List (List LitOf)) × (lines stream ≡ proof ++ (codes "0" ∷ []) ∷ []) × Leads f.vars proof f.clauses G × IsAdmitted G []
IsCertOf f stream Sat =
    (proof : List (List (List ℕ))) × (last : List (List (List ℕ))) × (G : List (List LitOf)) × (values : List LitOf)
    × (lines stream ≡ proof ++ last) × Leads f.vars proof f.clauses G × Names f.vars last values × Satisfies (named_by values) f.clauses

-- the stream is a certificate for the answer, of the formula that the bytes of a job's file are
abbrev pub IsCert : List ℕ → List ℕ → Answer → Type 0
IsCert job stream answer = (f : FormulaOf) × IsDimacs job f × IsCertOf f stream answer
