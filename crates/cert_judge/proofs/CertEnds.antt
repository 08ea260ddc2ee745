-- What follows a certificate with which a stream begins.
use Rattle.std.proofs.Common.{◌≡◌, ℕ, ◌+◌, ◌≤◌, Bool, true, false, eqb, List, [], ◌∷◌, ◌++◌, length, take, drop, get_or, take-append-drop, refl, sym, ap, ◌∙◌, subst, inl, inr, arith, append_assoc}
use Rattle.std.specs.Prelude.{codes, map}
use Rattle.std.proofs.lemmas.Bool.{cases_Bool}
use Rattle.std.proofs.lemmas.List.{drop-append-le, length-append, map-append, take_all, take-append-le}
use Rattle.cnf_form.specs.Cnf.{LitOf, FormulaOf}
use Rattle.cert_stream.specs.Text.{flush, is_blank, lines_of, put_first, words_from}
use Rattle.sby_terms.specs.declared.names.Answer.{Answer}
use Rattle.sby_terms.specs.declared.names.Answer.TheVariants.{Sat, Unsat}
use Rattle.cert_judge.specs.DrupCert as drup
use Rattle.cert_judge.specs.DrupCert.{Names, lines, words}
use Rattle.cert_judge.specs.KindCert.{IsSpace}
use Rattle.cert_judge.specs.LratCert as lrat
use Rattle.cert_judge.proofs.Bounding.{sides}
use Rattle.cert_judge.proofs.DrupLines.{IsNext, texts}

-- the last of a list
pub last_same : {A : Type 0} (a b : List A) (x y : A) → a ++ x ∷ [] ≡ b ++ y ∷ [] → (a ≡ b) × (x ≡ y)
last_same [] [] x y e = (refl, let k : x ≡ y = cc in k)
last_same [] (d ∷ []) x y e = absurd (let k = e in cc)
last_same [] (d ∷ c ∷ b) x y e = absurd (let k = e in cc)
last_same (c ∷ []) [] x y e = absurd (let k = e in cc)
last_same (c ∷ d ∷ a) [] x y e = absurd (let k = e in cc)
last_same (c ∷ a) (d ∷ b) x y e =
    let h : c ≡ d = cc in
    let t : a ++ x ∷ [] ≡ b ++ y ∷ [] = cc in
    let k = last_same a b x y t in
    (ap (λ z. z ∷ a) h ∙ ap (λ z. d ∷ z) k.0, k.1)

-- the last line of bytes that end with the digit 1 ends with a word that does
flushed : (p : List ℕ) (at : ℕ) → texts (flush true at (p ++ 49 ∷ []) ++ []) ≡ (p ++ 49 ∷ []) ∷ []
flushed [] at = refl
flushed (c ∷ p) at = refl

last_word : (at : ℕ) (p t : List ℕ) → (us : List (List ℕ)) × (q : List ℕ) × (texts (words_from true at p (t ++ 49 ∷ [])) ≡ us ++ (q ++ 49 ∷ []) ∷ [])
last_word at p [] = ([], p, flushed p (at + 1))
last_word at p (b ∷ t) =
    elim (cases_Bool (is_blank b)) [
      | inl h ↦
          let k = last_word (at + 1) [] t in
          (texts (flush true at p) ++ k.0, k.1, rw h (map-append _ (flush true at p) (words_from true (at + 1) [] (t ++ 49 ∷ [])) ∙ ap (λ z. texts (flush true at p) ++ z) k.2 ∙ sym (append_assoc (texts (flush true at p)) k.0 ((k.1 ++ 49 ∷ []) ∷ []))))
      | inr h ↦ let k = last_word (at + 1) (p ++ b ∷ []) t in (k.0, k.1, rw h k.2)
    ]

abbrev EndsSo : List (List ℕ) → Type 0
EndsSo all = (ls : List (List ℕ)) × (t : List ℕ) × (all ≡ ls ++ (t ++ 49 ∷ []) ∷ [])

put_ends : (b : ℕ) (ls : List (List ℕ)) (t : List ℕ) (all : List (List ℕ)) → all ≡ ls ++ (t ++ 49 ∷ []) ∷ [] → EndsSo (put_first b all)
put_ends b [] t all e = ([], b ∷ t, ap (put_first b) e)
put_ends b (u ∷ ls) t all e = ((b ∷ u) ∷ ls, t, ap (put_first b) e)

last_line : (s : List ℕ) → EndsSo (lines_of (s ++ 49 ∷ []))
last_line [] = ([], [], refl)
last_line (b ∷ s) =
    let k = last_line s in
    elim (cases_Bool (eqb b 10)) [
      | inl n ↦ rw n ([] ∷ k.0, k.1, ap (λ z. [] ∷ z) k.2)
      | inr n ↦ rw n (put_ends b k.0 k.1 (lines_of (s ++ 49 ∷ [])) k.2)
    ]

one_not_zero : (q : List ℕ) → q ++ 49 ∷ [] ≡ codes "0" → ⊥
one_not_zero [] e = let k : 49 ≡ 48 = ap (λ z. get_or z 0 0) e in omega (arith, k)
one_not_zero (c ∷ []) e = let k : 2 ≡ 1 = ap length e in omega (arith, k)
one_not_zero (c ∷ d ∷ q) e = let k : length (c ∷ d ∷ q ++ 49 ∷ []) ≡ 1 = ap length e in omega (arith, k)

-- the last line of a certificate ends with the word 0
abbrev ZeroLast : List (List (List ℕ)) → Type 0
ZeroLast ls = (init : List (List (List ℕ))) × (u : List (List ℕ)) × (ls ≡ init ++ (u ++ codes "0" ∷ []) ∷ [])

not_one : (s : List ℕ) → ZeroLast (lines (s ++ 49 ∷ [])) → ⊥
not_one s (init, u, e) =
    let k = last_line s in
    let w = last_word 0 [] k.1 in
    let l : lines (s ++ 49 ∷ []) ≡ map words k.0 ++ (w.0 ++ (w.1 ++ 49 ∷ []) ∷ []) ∷ [] =
    ap (map words) k.2 ∙ map-append words k.0 ((k.1 ++ 49 ∷ []) ∷ []) ∙ ap (λ z. map words k.0 ++ z ∷ []) w.2 in
    let q = (last_same init (map words k.0) (u ++ codes "0" ∷ []) (w.0 ++ (w.1 ++ 49 ∷ []) ∷ []) (sym e ∙ l)).1 in
    one_not_zero w.1 (sym (last_same u w.0 (codes "0") (w.1 ++ 49 ∷ []) q).1)

names_zero : (vars : ℕ) (ls : List (List (List ℕ))) (values : List LitOf) → Names vars ls values → ZeroLast ls
names_zero vars [] values n = absurd n
names_zero vars (ws ∷ []) values (rest, e, (front, q, w, l)) = ([], codes "v" ∷ front, ap (λ z. z ∷ []) (e ∙ ap (λ z. codes "v" ∷ z) q))
names_zero vars (ws ∷ us ∷ ls) values (inl (r, n)) = let k = names_zero vars (us ∷ ls) values n in (ws ∷ k.0, k.1, ap (λ z. ws ∷ z) k.2)
names_zero vars (ws ∷ us ∷ ls) values (inr (rest, a, b, e, w, l, q, n)) = let k = names_zero vars (us ∷ ls) b n in (ws ∷ k.0, k.1, ap (λ z. ws ∷ z) k.2)

after_proof : (all proof last : List (List (List ℕ))) → all ≡ proof ++ last → ZeroLast last → ZeroLast all
after_proof all proof last e (init, u, q) = (proof ++ init, u, e ∙ ap (λ z. proof ++ z) q ∙ sym (append_assoc proof init ((u ++ codes "0" ∷ []) ∷ [])))

pub drup_zero : (f : FormulaOf) (a : Answer) (s : List ℕ) → drup.IsCertOf f (s ++ 49 ∷ []) a → ⊥
drup_zero f Unsat s (proof, G, e, l, d) = not_one s (proof, [], e)
drup_zero f Sat s (proof, last, G, values, e, l, n, m) = not_one s (after_proof (lines (s ++ 49 ∷ [])) proof last e (names_zero f.vars last values n))

pub lrat_zero : (f : FormulaOf) (a : Answer) (s : List ℕ) → lrat.IsCertOf f (s ++ 49 ∷ []) a → ⊥
lrat_zero f Unsat s (proof, last, G, e, l, (id, hints, (own, front, rest, q, i, c, (ids, r, w, n)), d)) =
    not_one s (proof, own ∷ front ++ ids, e ∙ ap (λ z. proof ++ z ∷ []) (q ∙ ap (λ z. own ∷ front ++ z) r ∙ ap (λ z. own ∷ z) (sym (append_assoc front ids (codes "0" ∷ [])))))
lrat_zero f Sat s (proof, last, G, values, e, l, n, m) = not_one s (after_proof (lines (s ++ 49 ∷ [])) proof last e (names_zero f.vars last values n))

-- white space or a line feed follows, or the stream ends
abbrev pub Ends : Bool → List ℕ → Type 0
Ends ended [] = ended ≡ true
Ends ended (b ∷ rest) = IsSpace b

-- a certificate with which bytes begin
abbrev pub Parts : (List ℕ → Type 0) → Bool → List ℕ → Type 0
Parts Cert ended s = (cert : List ℕ) × (rest : List ℕ) × (s ≡ cert ++ rest) × Cert cert × Ends ended rest

module _ (Says : Bool → List ℕ → Type 0) (Cert : List ℕ → Type 0) (found : (ended : Bool) (s : List ℕ) → Says ended s → (n : ℕ) × (n ≤ length s) × Cert (take n s) × IsNext (drop n s))
    (more : (s rest : List ℕ) → Says false s → Says false (s ++ rest)) (zero : (s : List ℕ) → Cert (s ++ 49 ∷ []) → ⊥) where
  ends_next : (rest : List ℕ) → IsNext rest → Ends true rest
  ends_next [] h = refl
  ends_next (b ∷ rest) h = h

  space_one : IsSpace 49 → ⊥
  space_one (inl e) = let k = e in cc
  space_one (inr e) = let k = e in cc

  -- where more may follow, something does: else the digit 1 could, and the 0 would not be a word
  more_next : (rest : List ℕ) → IsNext (rest ++ 49 ∷ []) → Ends false rest
  more_next [] h = absurd (space_one h)
  more_next (b ∷ rest) h = h

  pub parts : (ended : Bool) (s : List ℕ) → Says ended s → Parts Cert ended s
  parts true s h = let k = found true s h in (take k.0 s, drop k.0 s, sym (take-append-drop k.0 s), k.2, ends_next (drop k.0 s) k.3)
  parts false s h = by (found false (s ++ 49 ∷ []) (more s (49 ∷ []) h))
    where
      by : (n : ℕ) × (n ≤ length (s ++ 49 ∷ [])) × Cert (take n (s ++ 49 ∷ [])) × IsNext (drop n (s ++ 49 ∷ [])) → Parts Cert false s
      by (n, l, c, i) =
          elim (sides n (length s)) [
            | inl k ↦ (take n s, drop n s, sym (take-append-drop n s), subst Cert (take-append-le n s (49 ∷ []) k) c, more_next (drop n s) (subst IsNext (drop-append-le n s (49 ∷ []) k) i))
            | inr k ↦ absurd (zero s (subst Cert (take_all n (s ++ 49 ∷ []) (let e = length-append s (49 ∷ []) in omega (arith, k, e))) c))
          ]

-- a front that is no shorter than the certificate begins with it
abbrev NextIs : ℕ → List ℕ → Type 0
NextIs b [] = Unit {0}
NextIs b (c ∷ rest) = c ≡ b

prefix_of : (a z cert : List ℕ) (b : ℕ) (rest : List ℕ) → a ++ z ≡ cert ++ b ∷ rest → length cert ≤ length a → (more : List ℕ) × (a ≡ cert ++ more) × NextIs b more
prefix_of [] z [] b rest e l = ([], refl, tt)
prefix_of (c ∷ a) z [] b rest e l = (c ∷ a, refl, let k : c ≡ b = cc in k)
prefix_of [] z (x ∷ cert) b rest e l = absurd (omega (arith, l))
prefix_of (c ∷ a) z (x ∷ cert) b rest e l =
    let h : c ≡ x = cc in
    let t : a ++ z ≡ cert ++ b ∷ rest = cc in
    let k = prefix_of a z cert b rest t (omega (arith, l)) in
    (k.0, ap (λ y. y ∷ a) h ∙ ap (λ y. x ∷ y) k.1, k.2)

next_ends : (b : ℕ) (more : List ℕ) → IsSpace b → NextIs b more → Ends true more
next_ends b [] s n = refl
next_ends b (c ∷ more) s n = subst IsSpace (sym n) s

pub parts_front : (Cert : List ℕ → Type 0) (a z cert : List ℕ) (b : ℕ) (rest : List ℕ) → a ++ z ≡ cert ++ b ∷ rest → length cert ≤ length a → Cert cert → IsSpace b → Parts Cert true a
parts_front Cert a z cert b rest e l c s = let k = prefix_of a z cert b rest e l in (cert, k.0, k.1, c, next_ends b k.0 s k.2)
