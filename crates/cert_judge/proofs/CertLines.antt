-- Lines of a stream that are a certificate, up to a word 0.
use Rattle.std.proofs.Common.{◌≡◌, ◌≢◌, ℕ, ◌≤◌, true, false, cond, ◌&&◌, eqb, List, [], ◌∷◌, ◌++◌, length, take, drop, Some, refl, sym, ap, ◌∙◌, subst, inl, inr, arith}
use Rattle.std.specs.Prelude.{codes, slice_index, map}
use Rattle.std.proofs.lemmas.Bool.{cases_Bool, eqb-true}
use Rattle.std.proofs.lemmas.List.{map-append}
use Rattle.std.proofs.lemmas.Slice.Eq.{bytes_eq-Decides}
use Rattle.cnf_form.specs.Cnf.{LitOf, Assignment, Satisfies}
use Rattle.cert_stream.specs.Text.{Word, literal_of, lines_of}
use Rattle.cert_stream.specs.Stream.{is_unknown}
use Rattle.cert_judge.specs.Values.{named_from}
use Rattle.cert_judge.specs.DrupCert.{words, lines, IsRemark, Writes, Names}
use Rattle.cert_judge.proofs.Valuing.{named_append}
use Rattle.cert_judge.proofs.DrupLines.{IsNext, cut, texts, words_cut}

pub writes_more : (vars : ℕ) (front : List (List ℕ)) (c : List LitOf) (w : List ℕ) (l : LitOf) → Writes vars front c → literal_of vars w ≡ Some l → Writes vars (front ++ w ∷ []) (c ++ l ∷ [])
writes_more vars [] [] w l h e = (e, refl)
writes_more vars [] (m ∷ c) w l h e = cc
writes_more vars (v ∷ front) [] w l h e = absurd h
writes_more vars (v ∷ front) (m ∷ c) w l h e = (h.0, writes_more vars front c w l h.1 e)

pub writes_nothing : (vars : ℕ) (front : List (List ℕ)) → Writes vars front [] → front ≡ []
writes_nothing vars [] h = refl
writes_nothing vars (w ∷ front) h = absurd h

-- a word of one byte
pub one_byte : (text : List ℕ) (k : ℕ) → eqb (slice_index text 0) k ≡ true → eqb (length text) 1 ≡ true → text ≡ k ∷ []
one_byte [] k f l = let e = eqb-true 0 1 l in cc
one_byte (b ∷ []) k f l = let e : b ≡ k = eqb-true b k f in rw e refl
one_byte (b ∷ c ∷ text) k f l = absurd (let e = eqb-true (length (b ∷ c ∷ text)) 1 l in omega (arith, e))

pub unknown_words : (ws : List Word) → texts ws ≡ codes "UNKNOWN" ∷ [] → is_unknown ws ≡ true
unknown_words [] h = cc
unknown_words (w ∷ []) h = (bytes_eq-Decides w.text (codes "UNKNOWN")).1 (let q : w.text ≡ codes "UNKNOWN" = cc in q)
unknown_words (w ∷ v ∷ ws) h = cc

not_unknown : (ws : List Word) → texts ws ≢ codes "UNKNOWN" ∷ [] → is_unknown ws ≡ false
not_unknown [] n = refl
not_unknown (w ∷ []) n =
    elim (cases_Bool (is_unknown (w ∷ []))) [ inl k ↦ absurd (n (ap (λ z. z ∷ []) ((bytes_eq-Decides w.text (codes "UNKNOWN")).0 k))) | inr k ↦ k ]
not_unknown (w ∷ v ∷ ws) n = refl

-- the other words of a status line say nothing
pub status_idle : {S : Type 0} (said : S) (more : List S) (ws : List Word) → texts ws ≢ codes "UNKNOWN" ∷ [] → cond (is_unknown ws && true) (said ∷ more) more ≡ more
status_idle said more ws n = ap (λ b. cond (b && true) (said ∷ more) more) (not_unknown ws n)

-- lines up to one's word 0, which are so
abbrev pub Upto : (List (List (List ℕ)) → Type 0) → List (List ℕ) → Type 0
Upto P ls =
    (before : List (List ℕ)) × (t : List ℕ) × (after : List (List ℕ)) × (front : List (List ℕ)) × (more : List (List ℕ))
    × (ls ≡ before ++ t ∷ after) × (words t ≡ front ++ codes "0" ∷ more) × P (map words before ++ (front ++ codes "0" ∷ []) ∷ [])

pub upto_now : (P : List (List (List ℕ)) → Type 0) (t : List ℕ) (after : List (List ℕ)) (front more : List (List ℕ)) → words t ≡ front ++ codes "0" ∷ more
    → P ((front ++ codes "0" ∷ []) ∷ []) → Upto P (t ∷ after)
upto_now P t after front more e p = ([], t, after, front, more, refl, e, p)

pub upto_later : (P Q : List (List (List ℕ)) → Type 0) (t : List ℕ) (ls : List (List ℕ)) → ((us : List (List (List ℕ))) → Q us → P (words t ∷ us)) → Upto Q ls → Upto P (t ∷ ls)
upto_later P Q t ls step (before, u, after, front, more, e, z, q) = (t ∷ before, u, after, front, more, ap (λ k. t ∷ k) e, z, step (map words before ++ (front ++ codes "0" ∷ []) ∷ []) q)

pub upto_as : (P Q : List (List (List ℕ)) → Type 0) (ls : List (List ℕ)) → ((us : List (List (List ℕ))) → Q us → P us) → Upto Q ls → Upto P ls
upto_as P Q ls to (before, u, after, front, more, e, z, q) = (before, u, after, front, more, e, z, to (map words before ++ (front ++ codes "0" ∷ []) ∷ []) q)

-- the stream up to that word, and what follows
pub upto_cut : (P : List (List (List ℕ)) → Type 0) (s : List ℕ) → Upto P (lines_of s) → (n : ℕ) × (n ≤ length s) × P (lines (take n s)) × IsNext (drop n s)
upto_cut P s (before, t, after, front, more, e, z, p) =
    let k = words_cut true 0 [] t front (codes "0") more z in
    let c = cut s before k.0 k.1 after k.4 (e ∙ ap (λ u. before ++ u ∷ after) k.2) in
    let l : lines (take c.0 s) ≡ map words before ++ (front ++ codes "0" ∷ []) ∷ [] = ap (map words) c.2 ∙ map-append words before (k.0 ∷ []) ∙ ap (λ u. map words before ++ u ∷ []) k.3 in
    (c.0, c.1, subst P (sym l) p, c.3)

-- lines of values that satisfy the clauses C
module _ (vars : ℕ) (C : List (List LitOf)) where
  abbrev pub NameLines : Assignment → List (List (List ℕ)) → Type 0
  NameLines x ls = (values : List LitOf) × Names vars ls values × Satisfies (named_from x values) C

  pub names_more : (x : Assignment) (ws : List (List ℕ)) (ls : List (List (List ℕ))) (rest : List (List ℕ)) (c : List LitOf) → ws ≡ codes "v" ∷ rest → Writes vars rest c → length c ≤ vars
      → NameLines (named_from x c) ls → NameLines x (ws ∷ ls)
  names_more x ws [] rest c e w l (values, n, s) = absurd n
  names_more x ws (u ∷ us) rest c e w l (values, n, s) = (c ++ values, inr (rest, c, values, e, w, l, refl, n), subst (λ y. Satisfies y C) (sym (named_append x c values)) s)

  pub names_remark : (x : Assignment) (ws : List (List ℕ)) (ls : List (List (List ℕ))) → IsRemark ws → NameLines x ls → NameLines x (ws ∷ ls)
  names_remark x ws [] r (values, n, s) = absurd n
  names_remark x ws (u ∷ us) r (values, n, s) = (values, inl (r, n), s)
