-- Certificates in hinted text, whole: a stream that shows what a job's formula is by clauses that hints admit, with deletions, or by values.
use Rattle.std.specs.Prelude.{◌≡◌, ◌≢◌, ◌⊎◌, ℕ, ◌^◌, ◌≤◌, ◌<◌, List, [], ◌∷◌, ◌++◌, length, All, Some, None, codes}
use Rattle.cnf_form.specs.Cnf.{LitOf, FormulaOf, Satisfies}
use Rattle.cnf_form.specs.Dimacs.{IsDimacs}
use Rattle.cert_stream.specs.Text.{id_of}
use Rattle.lrat_check.specs.Hints.{IsHinted, Live, put}
use Rattle.cert_judge.specs.DrupCert.{IsEnded, IsIdle, Names, lines, named_by}
use Rattle.cert_judge.specs.Lrat.{Held, added, held_first}
use Rattle.sby_terms.specs.declared.names.Answer.{Answer}
use Rattle.sby_terms.specs.declared.names.Answer.TheVariants.{Sat, Unsat}

-- the words write the ids
abbrev pub WriteIds : List (List ℕ) → List ℕ → Type 0
WriteIds [] ids = ids ≡ []
WriteIds (w ∷ ws) [] = ⊥
WriteIds (w ∷ ws) (n ∷ ids) = (id_of w ≡ Some n) × WriteIds ws ids

-- the words are at most 2 ^ 27 ids and 0
abbrev pub AreIds : List (List ℕ) → List ℕ → Type 0
AreIds ws ids = (front : List (List ℕ)) × (ws ≡ front ++ codes "0" ∷ []) × WriteIds front ids × (length ids ≤ 2 ^ 27)

-- the words are the clause's own id, its literals and 0, its hints and 0
abbrev pub IsClauseLine : ℕ → List (List ℕ) → ℕ → List LitOf → List ℕ → Type 0
IsClauseLine vars ws id c hints =
    (own : List ℕ) × (front : List (List ℕ)) × (rest : List (List ℕ)) × (ws ≡ own ∷ front ++ rest) × (id_of own ≡ Some id) × IsEnded vars front c × AreIds rest hints

-- the words are an id, d, the ids of clauses and 0
abbrev pub IsDeletionLine : List (List ℕ) → List ℕ → Type 0
IsDeletionLine ws ids = (own : List ℕ) × (id : ℕ) × (rest : List (List ℕ)) × (ws ≡ own ∷ codes "d" ∷ rest) × (id_of own ≡ Some id) × AreIds rest ids

-- each id is that of a live clause
abbrev pub AreLive : Live → List ℕ → Type 0
AreLive live ids = All (λ id. (c : List LitOf) × (live id ≡ Some c)) ids

-- the clause's id is above all earlier ones, and its hints are live and admit it
abbrev pub IsAdmittedAs : Held → ℕ → List LitOf → List ℕ → Type 0
IsAdmittedAs F id c hints = (F.last < id) × AreLive F.live hints × IsHinted F.live c hints

-- the clauses with these ids are live no more; an id that isn't live deletes nothing
abbrev pub live_without : Live → List ℕ → Live
live_without live [] = live
live_without live (id ∷ ids) = live_without (put live id None) ids

abbrev pub held_without : Held → List ℕ → Held
held_without F ids = record { live = live_without F.live ids; last = F.last }

-- The lines lead from what is held, F, to G: a clause that isn't empty is admitted by its hints, and is live then; an empty one
-- ends a certificate.
abbrev pub Leads : ℕ → List (List (List ℕ)) → Held → Held → Type 0
Leads vars [] F G = G ≡ F
Leads vars (ws ∷ ls) F G =
    (IsIdle ws × Leads vars ls F G)
    ⊎ ((id : ℕ) × (c : List LitOf) × (hints : List ℕ) × IsClauseLine vars ws id c hints × (c ≢ []) × IsAdmittedAs F id c hints × Leads vars ls (added F id c) G)
    ⊎ ((ids : List ℕ) × IsDeletionLine ws ids × Leads vars ls (held_without F ids) G)

-- a line of an empty clause that its hints admit
abbrev pub IsRefutation : ℕ → List (List ℕ) → Held → Type 0
IsRefutation vars ws F = (id : ℕ) × (hints : List ℕ) × IsClauseLine vars ws id [] hints × IsAdmittedAs F id [] hints

-- Unsat: after the lines of a proof, a last line with the empty clause. Sat: after them, values that satisfy the formula. The formula's clauses
-- have the ids from 1.
abbrev pub IsCertOf : FormulaOf → List ℕ → Answer → Type 0
IsCertOf f stream Unsat =
    (proof : List (List (List ℕ))) × (last : List (List ℕ)) × (G : Held) × (lines stream ≡ proof ++ last ∷ []) × Leads f.vars proof (held_first f.clauses) G × IsRefutation f.vars last G
IsCertOf f stream Sat =
    (proof : List (List (List ℕ))) × (last : List (List (List ℕ))) × (G : Held) × (values : List LitOf)
    × (lines stream ≡ proof ++ last) × Leads f.vars proof (held_first f.clauses) G × Names f.vars last values × Satisfies (named_by values) f.clauses

-- the stream is a hinted certificate for the answer, of the formula that the bytes of a job's file are
abbrev pub IsHintedCert : List ℕ → List ℕ → Answer → Type 0
IsHintedCert job stream answer = (f : FormulaOf) × IsDimacs job f × IsCertOf f stream answer
