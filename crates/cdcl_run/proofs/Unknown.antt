-- The fate of a stream that doesn't know.
use Rattle.std.proofs.Common.{◌≡◌, ℕ, ◌+◌, ◌≤◌, ◌<◌, ◌^◌, true, false, List, [], ◌∷◌, ◌++◌, length, refl, sym, ap, ◌∙◌, subst, inl, inr, append_assoc, arith}
use Rattle.std.specs.Prelude.{codes, flat_map, map, Some}
use Rattle.std.proofs.lemmas.List.Elements.{All-head, All-tail}
use Rattle.cnf_form.specs.Cnf.{LitOf, Line, Addition, Deletion, Drup}
use Rattle.cnf_form.specs.Dimacs.{literal_text}
use Rattle.cert_stream.specs.Text.{Word, NoFeed, lines_of, words_from}
use Rattle.cert_stream.specs.Places.{AreDone, IsList}
use Rattle.cert_stream.specs.Telling.{Saying, IsClause, IsDelete}
use Rattle.cert_stream.specs.Stream.{bad, heard_says, line_says, lines_say}
use Rattle.cert_stream.specs.declared.mode.ListKind.TheVariants.{Clause as ClauseList, Deletion as DeletionList}
use Rattle.cert_stream.specs.declared.mode.ParseFaultKind.TheVariants.{BadLine}
use Rattle.cert_stream.proofs.Apart.{fed_lines, list_line}
use Rattle.cert_stream.proofs.Streams.{some_line}
use Rattle.cert_judge.specs.DrupCert.{words, Writes, IsEnded}
use Rattle.cert_judge.specs.Values.{unnamed}
use Rattle.cert_judge.specs.Drup.{SayingsFate}
use Rattle.cert_judge.specs.Fate.{Unknown}
use Rattle.cert_judge.specs.Kinds.{IsFate}
use Rattle.cert_judge.specs.declared.stream.StreamKind.TheVariants.{Drup as DrupKind}
use Rattle.cert_judge.proofs.DrupLines.{texts, line_texts, done_all, ends_at, done_last, writes_read}
use Rattle.cdcl_core.specs.Lines.{plain}
use Rattle.cdcl_core.specs.Logged.{AreProper, IsProper, clause_of}
use Rattle.cdcl_core.proofs.Solutions.{logged_drup}
use Rattle.cdcl_run.specs.Answer.{IsUnknownStream}
use Rattle.cdcl_run.specs.Text.{proof_line, proof_text, unknown_line}
use Rattle.cdcl_run.proofs.Plain.{plain_proper, plain_text}
use Rattle.cdcl_run.proofs.Proofs.{AreFull, logged_full}
use Rattle.cdcl_run.proofs.Words.{IsWord, bare, bare_words, bare_feed, bare_line, ended_texts, in_of, words_then}

-- literals of clauses and deletions say nothing by themselves
none_heard : (lits : List LitOf) → (flat_map (heard_says ClauseList) lits ≡ []) × (flat_map (heard_says DeletionList) lits ≡ [])
none_heard [] = (refl, refl)
none_heard (l ∷ lits) = none_heard lits

module _ (vars : ℕ) (small : vars < 2 ^ 64) (C : List (List LitOf)) where
  abbrev Comes : List (List LitOf) → List Saying → Type 0
  Comes F ss = SayingsFate C F unnamed ss (Some Unknown)

  -- what a clause's line says, and a deletion's, each with a line feed after it
  module _ (at : ℕ) (t : List ℕ) (broken going more : List Saying) where
    abbrev here : List Word
    here = words_from true at [] t

    clause_line : (c : List LitOf) → IsEnded vars (words t) c → (place : ℕ) × (line_says vars true false broken going more here ≡ IsClause c place ∷ more)
    clause_line c (front, e, w, l) =
        let k = ends_at here front (codes "0") (line_texts true at t ∙ e) in
        let d = done_last k.before k.word (subst AreDone k.are (done_all at [] t)) in
        let read = writes_read vars k.before c (subst (λ z. Writes vars z c) (sym k.texts) w) in
        let p = some_first k.before k.word in
        let list : IsList vars ClauseList p.0.place c here = (k.before, k.word, k.are, (d.0, read, l), (k.text, d.1), p.0, p.1, k.are ∙ p.2, refl) in
        (p.0.place, list_line vars true broken going more p.0.place c ClauseList false here list ∙ (let n = none_heard c in ap (λ z. z ++ IsClause c p.0.place ∷ more) n.0))
      where
        some_first : (ws : List Word) (w : Word) → (first : Word) × (others : List Word) × (ws ++ w ∷ [] ≡ first ∷ others)
        some_first [] w = (w, [], refl)
        some_first (v ∷ ws) w = (v, ws ++ w ∷ [], refl)

    abbrev Behind : List Word → List ℕ → List (List ℕ) → Type 0
    Behind ws first rest = (w : Word) × (vs : List Word) × (ws ≡ w ∷ vs) × (w.text ≡ first) × (texts vs ≡ rest) × AreDone vs

    behind : (ws : List Word) (first : List ℕ) (rest : List (List ℕ)) → AreDone ws → texts ws ≡ first ∷ rest → Behind ws first rest
    behind [] first rest d e = cc
    behind (w ∷ ws) first rest d e = (w, ws, refl, (let k : w.text ≡ first = cc in k), (let k : texts ws ≡ rest = cc in k), d.1)

    deletion_line : (rest : List (List ℕ)) (c : List LitOf) → words t ≡ codes "d" ∷ rest → IsEnded vars rest c → line_says vars true false broken going more here ≡ IsDelete c ∷ more
    deletion_line rest c v (front, e, w, l) =
        let b = behind here (codes "d") rest (done_all at [] t) (line_texts true at t ∙ v) in
        let k = ends_at b.1 front (codes "0") (b.4 ∙ e) in
        let d = done_last k.before k.word (subst AreDone k.are b.5) in
        let read = writes_read vars k.before c (subst (λ z. Writes vars z c) (sym k.texts) w) in
        let list : IsList vars DeletionList b.0.place c here = (b.0, k.before, k.word, b.2 ∙ ap (λ z. b.0 ∷ z) k.are, b.3, refl, (d.0, read, l), (k.text, d.1)) in
        list_line vars true broken going more b.0.place c DeletionList false here list ∙ (let n = none_heard c in ap (λ z. z ++ IsDelete c ∷ more) n.1)

  d_word : IsWord (codes "d")
  d_word = record { head = 100; tail = []; are = refl; visible = (refl, refl, tt) }

  -- the last line
  unknown_comes : (at : ℕ) (F : List (List LitOf)) → Comes F (lines_say vars true false at (lines_of unknown_line))
  unknown_comes at F = refl

  -- a line, and what comes after it
  first_line : (at : ℕ) (F : List (List LitOf)) (t s : List ℕ) (u : List ℕ) (ts : List (List ℕ)) → NoFeed t → lines_of s ≡ u ∷ ts
      → Comes F (line_says vars true false (bad BadLine (at + length t)) (lines_say vars true true (at + length t + 1) (u ∷ ts)) (lines_say vars true false (at + length t + 1) (u ∷ ts)) (words_from true at [] t))
      → Comes F (lines_say vars true false at (lines_of (t ++ 10 ∷ s)))
  first_line at F t s u ts feed e h = subst (λ z. Comes F (lines_say vars true false at z)) (sym (fed_lines t s feed ∙ ap (λ z. t ∷ z) e)) h

  lines_come : (at : ℕ) (ls : List Line) (F G : List (List LitOf)) → Drup F ls G → AreProper vars ls → AreFull ls → Comes F (lines_say vars true false at (lines_of (proof_text ls ++ unknown_line)))
  lines_come at [] F G d p n = unknown_comes at F
  lines_come at (Addition c ∷ ls) F G d p n =
      let own : IsProper vars c = All-head (λ l. IsProper vars (clause_of l)) (Addition c) ls p in
      let i = in_of vars c own.within in
      let t = bare vars small c in
      let s = proof_text ls ++ unknown_line in
      let w = some_line s in
      let at2 = at + length t + 1 in
      let rest = lines_come at2 ls (F ++ c ∷ []) G d.1 (All-tail (λ l. IsProper vars (clause_of l)) (Addition c) ls p) n.1 in
      let more = lines_say vars true false at2 (w.0 ∷ w.1) in
      let said = clause_line at t (bad BadLine (at + length t)) (lines_say vars true true at2 (w.0 ∷ w.1)) more c (subst (λ z. IsEnded vars z c) (sym (bare_words vars small c i)) (ended_texts vars small c i own.short)) in
      let k : Comes (F ++ c ∷ []) more = subst (λ z. Comes (F ++ c ∷ []) (lines_say vars true false at2 z)) w.2 rest in
      subst (λ z. Comes F (lines_say vars true false at (lines_of z))) (sym (append_assoc (proof_line (Addition c)) (proof_text ls) unknown_line ∙ bare_line vars small c s))
      (first_line at F t s w.0 w.1 (bare_feed vars small c i) w.2 (subst (Comes F) (sym said.1) (inr (inl (d.0, n.0, k)))))
  lines_come at (Deletion c ∷ ls) F G d p n =
      let own : IsProper vars c = All-head (λ l. IsProper vars (clause_of l)) (Deletion c) ls p in
      let i = in_of vars c own.within in
      let t = 100 ∷ 32 ∷ bare vars small c in
      let s = proof_text ls ++ unknown_line in
      let w = some_line s in
      let at2 = at + length t + 1 in
      let rest = lines_come at2 ls d.0 G d.2 (All-tail (λ l. IsProper vars (clause_of l)) (Deletion c) ls p) n in
      let more = lines_say vars true false at2 (w.0 ∷ w.1) in
      let are = words_then (codes "d") (bare vars small c) d_word ∙ ap (λ z. codes "d" ∷ z) (bare_words vars small c i) in
      let said = deletion_line at t (bad BadLine (at + length t)) (lines_say vars true true at2 (w.0 ∷ w.1)) more (map literal_text c ++ codes "0" ∷ []) c are (ended_texts vars small c i own.short) in
      let k : Comes d.0 more = subst (λ z. Comes d.0 (lines_say vars true false at2 z)) w.2 rest in
      subst (λ z. Comes F (lines_say vars true false at (lines_of z))) (sym (append_assoc (proof_line (Deletion c)) (proof_text ls) unknown_line ∙ ap (λ z. 100 ∷ 32 ∷ z) (bare_line vars small c s)))
      (first_line at F t s w.0 w.1 (refl, (refl, bare_feed vars small c i)) w.2 (subst (Comes F) (sym said) (d.0, d.1, k)))

pub unknown_fate : (job stream : List ℕ) (budget most : ℕ) → IsUnknownStream false job budget stream → length stream ≤ most → IsFate DrupKind job stream most Unknown
unknown_fate job stream budget most w l =
    let s = w.searched in
    let f = s.formula in
    let d = s.is_formula in
    let small : f.vars < 2 ^ 64 = (let h = d.limit in omega (arith, h)) in
    let c = lines_come f.vars small f.clauses 0 (plain w.lines) f.clauses s.present (logged_drup s.logged.logged) (plain_proper f.vars w.lines s.logged.proper) (logged_full s.logged.logged) in
    (f, d, record { within = λ h. inl (subst (λ z. SayingsFate f.clauses f.clauses unnamed (lines_say f.vars true false 0 (lines_of z)) (Some Unknown)) (sym (w.is ∙ ap (λ z. z ++ unknown_line) (plain_text w.lines))) c); beyond = λ b. absurd (omega (arith, b, l)) })
