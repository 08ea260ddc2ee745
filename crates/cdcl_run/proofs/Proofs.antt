-- The lines of a proof, read back.
use Rattle.std.proofs.Common.{◌≡◌, ◌≢◌, ℕ, ◌<◌, ◌^◌, List, [], ◌∷◌, ◌++◌, refl, ap, ◌∙◌, sym, subst, inl, inr, append_assoc}
use Rattle.std.specs.Prelude.{codes, map, Contains}
use Rattle.std.proofs.lemmas.List.Elements.{All-nil, All-cons, All-head, All-tail}
use Rattle.cnf_form.specs.Cnf.{LitOf, Line, Addition, Deletion, Drup, IsAdmitted, Satisfies, Assignment}
use Rattle.cnf_form.specs.Dimacs.{literal_text}
use Rattle.cnf_form.proofs.Members.{Contains-empty}
use Rattle.cnf_form.proofs.Removal.{Deletes-within}
use Rattle.cnf_form.proofs.Rup.{Admitted-true, Satisfies-push}
use Rattle.cert_stream.specs.Text.{NoFeed}
use Rattle.cert_stream.proofs.Apart.{fed_lines}
use Rattle.cert_judge.specs.DrupCert.{Leads, lines, words}
use Rattle.cdcl_core.specs.Logged.{Logged, none, added, deleted, AreProper, IsProper, clause_of}
use Rattle.cdcl_run.specs.Text.{proof_line, proof_text}
use Rattle.cdcl_run.proofs.Words.{IsWord, bare, bare_words, bare_feed, bare_line, ended_texts, in_of, words_then}

-- a line first
pub line_first : (t rest : List ℕ) → NoFeed t → lines (t ++ 10 ∷ rest) ≡ words t ∷ lines rest
line_first t rest h = ap (map words) (fed_lines t rest h)

-- the words of a proof's line
abbrev pub line_words : Line → List (List ℕ)
line_words (Addition c) = map literal_text c ++ codes "0" ∷ []
line_words (Deletion c) = codes "d" ∷ (map literal_text c ++ codes "0" ∷ [])

-- each clause that is added has a literal
abbrev pub AreFull : List Line → Type 0
AreFull [] = Unit {0}
AreFull (Addition c ∷ ls) = (c ≢ []) × AreFull ls
AreFull (Deletion c ∷ ls) = AreFull ls

d_word : IsWord (codes "d")
d_word = record { head = 100; tail = []; are = refl; visible = (refl, refl, tt) }

-- lines that were logged add no empty clause
full_add : (ls : List Line) (c : List LitOf) → AreFull ls → c ≢ [] → AreFull (ls ++ Addition c ∷ [])
full_add [] c h n = (n, tt)
full_add (Addition d ∷ ls) c h n = (h.0, full_add ls c h.1 n)
full_add (Deletion d ∷ ls) c h n = full_add ls c h n

full_delete : (ls : List Line) (c : List LitOf) → AreFull ls → AreFull (ls ++ Deletion c ∷ [])
full_delete [] c h = tt
full_delete (Addition d ∷ ls) c h = (h.0, full_delete ls c h.1)
full_delete (Deletion d ∷ ls) c h = full_delete ls c h

pub logged_full : {F : List (List LitOf)} {ls : List Line} {G : List (List LitOf)} {n d : ℕ} → Logged F ls G n d → AreFull ls
logged_full none = tt
logged_full {F} (added ls G n d c w a new k) = full_add ls c (logged_full w) k.full
logged_full {F} (deleted ls G H n d c w a few) = full_delete ls c (logged_full w)

module _ (vars : ℕ) (small : vars < 2 ^ 64) where
  proof_line_first : (l : Line) (rest : List ℕ) → IsProper vars (clause_of l) → lines (proof_line l ++ rest) ≡ line_words l ∷ lines rest
  proof_line_first (Addition c) rest p =
      let h = in_of vars c p.within in
      ap lines (bare_line vars small c rest) ∙ line_first (bare vars small c) rest (bare_feed vars small c h) ∙ ap (λ z. z ∷ lines rest) (bare_words vars small c h)
  proof_line_first (Deletion c) rest p =
      let h = in_of vars c p.within in
      ap (λ z. lines (100 ∷ 32 ∷ z)) (bare_line vars small c rest) ∙ line_first (100 ∷ 32 ∷ bare vars small c) rest (refl, (refl, bare_feed vars small c h))
      ∙ ap (λ z. z ∷ lines rest) (words_then (codes "d") (bare vars small c) d_word ∙ ap (λ z. codes "d" ∷ z) (bare_words vars small c h))

  pub proof_lines : (ls : List Line) (rest : List ℕ) → AreProper vars ls → lines (proof_text ls ++ rest) ≡ map line_words ls ++ lines rest
  proof_lines [] rest p = refl
  proof_lines (l ∷ ls) rest p =
      let here : IsProper vars (clause_of l) = All-head (λ l. IsProper vars (clause_of l)) l ls p in
      ap lines (append_assoc (proof_line l) (proof_text ls) rest) ∙ proof_line_first l (proof_text ls ++ rest) here
      ∙ ap (λ z. line_words l ∷ z) (proof_lines ls rest (All-tail (λ l. IsProper vars (clause_of l)) l ls p))

  pub proof_leads : (ls : List Line) (tail : List (List (List ℕ))) (F G H : List (List LitOf)) → Drup F ls G → AreProper vars ls → AreFull ls → Leads vars tail G H → Leads vars (map line_words ls ++ tail) F H
  proof_leads [] tail F G H d p n t = subst (λ z. Leads vars tail z H) d t
  proof_leads (Addition c ∷ ls) tail F G H d p n t =
      let here : IsProper vars c = All-head (λ l. IsProper vars (clause_of l)) (Addition c) ls p in
      inr (inl (
        c,
        ended_texts vars small c (in_of vars c here.within) here.short,
        n.0,
        d.0,
        proof_leads ls tail (F ++ c ∷ []) G H d.1 (All-tail (λ l. IsProper vars (clause_of l)) (Addition c) ls p) n.1 t,
      ))
  proof_leads (Deletion c ∷ ls) tail F G H d p n t =
      let here : IsProper vars c = All-head (λ l. IsProper vars (clause_of l)) (Deletion c) ls p in
      inr (inr (
        c,
        map literal_text c ++ codes "0" ∷ [],
        d.0,
        refl,
        ended_texts vars small c (in_of vars c here.within) here.short,
        d.1,
        proof_leads ls tail d.0 G H d.2 (All-tail (λ l. IsProper vars (clause_of l)) (Deletion c) ls p) n t,
      ))

-- Where something satisfies the clauses, no empty clause is added.
pub full_of : (ls : List Line) (F G : List (List LitOf)) (x : Assignment) → Drup F ls G → Satisfies x F → AreFull ls
full_of [] F G x d s = tt
full_of (Addition c ∷ ls) F G x d s =
    let t = Admitted-true x F c d.0 s in
    (λ e. Contains-empty t.0 (subst (λ z. Contains z t.0) e t.1), full_of ls (F ++ c ∷ []) G x d.1 (Satisfies-push x F c s t))
full_of (Deletion c ∷ ls) F G x d s = full_of ls d.0 G x d.2 (λ e h. s e (Deletes-within F d.0 c d.1 e h))

-- A proof up to its first empty clause.
pub record UpTo (F : List (List LitOf)) (vars : ℕ) (ls : List Line) : Type 0 where
  pub front : List Line
  pub rest : List Line
  pub present : List (List LitOf)
  pub are : ls ++ Addition [] ∷ [] ≡ front ++ Addition [] ∷ rest
  pub leads : Drup F front present
  pub admitted : IsAdmitted present []
  pub proper : AreProper vars front
  pub full : AreFull front

pub up_to : (ls : List Line) (F G : List (List LitOf)) (vars : ℕ) → Drup F ls G → IsAdmitted G [] → AreProper vars ls → UpTo F vars ls
up_to [] F G vars d a p = record { front = []; rest = []; present = F; are = refl; leads = refl; admitted = subst (λ z. IsAdmitted z []) d a; proper = p; full = tt }
up_to (Addition [] ∷ ls) F G vars d a p =
    record { front = []; rest = ls ++ Addition [] ∷ []; present = F; are = refl; leads = refl; admitted = d.0; proper = All-nil (λ l. IsProper vars (clause_of l)); full = tt }
up_to (Addition (l ∷ c) ∷ ls) F G vars d a p =
    let w = up_to ls (F ++ (l ∷ c) ∷ []) G vars d.1 a (All-tail (λ l. IsProper vars (clause_of l)) (Addition (l ∷ c)) ls p) in
    record {
      front = Addition (l ∷ c) ∷ w.front;
      rest = w.rest;
      present = w.present;
      are = ap (λ z. Addition (l ∷ c) ∷ z) w.are;
      leads = (d.0, w.leads);
      admitted = w.admitted;
      proper = All-cons (λ l. IsProper vars (clause_of l)) (Addition (l ∷ c)) w.front (All-head (λ l. IsProper vars (clause_of l)) (Addition (l ∷ c)) ls p) w.proper;
      full = (λ e. cc, w.full);
    }
up_to (Deletion c ∷ ls) F G vars d a p =
    let w = up_to ls d.0 G vars d.2 a (All-tail (λ l. IsProper vars (clause_of l)) (Deletion c) ls p) in
    record {
      front = Deletion c ∷ w.front;
      rest = w.rest;
      present = w.present;
      are = ap (λ z. Deletion c ∷ z) w.are;
      leads = (d.0, d.1, w.leads);
      admitted = w.admitted;
      proper = All-cons (λ l. IsProper vars (clause_of l)) (Deletion c) w.front (All-head (λ l. IsProper vars (clause_of l)) (Deletion c) ls p) w.proper;
      full = w.full;
    }

pub proof_text_append : (ls ms : List Line) → proof_text (ls ++ ms) ≡ proof_text ls ++ proof_text ms
proof_text_append [] ms = refl
proof_text_append (l ∷ ls) ms = ap (λ z. proof_line l ++ z) (proof_text_append ls ms) ∙ sym (append_assoc (proof_line l) (proof_text ls) (proof_text ms))
