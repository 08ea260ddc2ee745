-- The lines of values, read back.
use Rattle.std.proofs.Common.{◌≡◌, ℕ, zero, suc, ◌+◌, ◌-◌, ◌<◌, ◌≤◌, ◌^◌, Bool, true, false, not, cond, eqb, List, [], ◌∷◌, ◌++◌, length, get_or, refl, ap, ◌∙◌, sym, subst, inr, arith, append_assoc, length-append}
use Rattle.std.specs.Prelude.{codes, map, flat_map, Contains}
use Rattle.std.proofs.lemmas.Bool.{eq-eqb}
use Rattle.std.proofs.lemmas.Bool.Decides.{nat_tests}
use Rattle.std.proofs.lemmas.List.FromFn.{get_or-map-range_with_len, length-map-range_with_len}
use Rattle.cnf_form.specs.Cnf.{LitOf, LitWithin, ClauseWithin, Within, Assignment, Satisfies}
use Rattle.cnf_form.specs.Dimacs.{literal_text}
use Rattle.cert_stream.specs.Text.{NoFeed, lines_of, put_first}
use Rattle.cdcl_core.specs.Solving.{valued}
use Rattle.cert_judge.specs.DrupCert.{Names, lines, named_by, words}
use Rattle.cert_judge.specs.Values.{named, named_from, unnamed}
use Rattle.cdcl_run.specs.Searching.{values_to}
use Rattle.cdcl_run.specs.Text.{last_value_line, literals_from, spaced, value_line}
use Rattle.cdcl_run.proofs.Proofs.{line_first}
use Rattle.cdcl_run.proofs.Words.{AreIn, IsWord, ended_texts, in_split, no_feed_append, spaced_ended, spaced_feed, spaced_words, writes_texts}

-- the words of a line of values
abbrev pub row_words : List LitOf → List (List ℕ)
row_words c = codes "v" ∷ map literal_text c

abbrev pub last_words : List LitOf → List (List ℕ)
last_words c = codes "v" ∷ (map literal_text c ++ codes "0" ∷ [])

-- the text without its last line feed
abbrev pub bare_values : List (List LitOf) → List LitOf → List ℕ
bare_values rows last = flat_map value_line rows ++ (codes "v" ++ (spaced last ++ codes " 0"))

pub values_fed : (rows : List (List LitOf)) (last : List LitOf) → flat_map value_line rows ++ last_value_line last ≡ bare_values rows last ++ 10 ∷ []
values_fed rows last =
    ap (λ z. flat_map value_line rows ++ (118 ∷ z)) (sym (append_assoc (spaced last) (codes " 0") (10 ∷ [])))
    ∙ sym (append_assoc (flat_map value_line rows) (codes "v" ++ (spaced last ++ codes " 0")) (10 ∷ []))

v_word : IsWord (codes "v")
v_word = record { head = 118; tail = []; are = refl; visible = (refl, refl, tt) }

pub no_lines : (t : List ℕ) → NoFeed t → lines t ≡ words t ∷ []
no_lines t h = ap (map words) (last_of t h)
  where
    last_of : (t : List ℕ) → NoFeed t → lines_of t ≡ t ∷ []
    last_of [] h = refl
    last_of (b ∷ bs) (h, hs) = rw h (ap (put_first b) (last_of bs hs))

module _ (vars : ℕ) (small : vars < 2 ^ 64) where
  row_line : (c : List LitOf) (rest : List ℕ) → AreIn vars c → lines (value_line c ++ rest) ≡ row_words c ∷ lines rest
  row_line c rest h =
      ap (λ z. lines (118 ∷ z)) (append_assoc (spaced c) (10 ∷ []) rest) ∙ line_first (codes "v" ++ spaced c) rest (refl, spaced_feed vars small c h)
      ∙ ap (λ z. z ∷ lines rest) (spaced_words vars small (codes "v") c v_word h)

  last_line : (c : List LitOf) → AreIn vars c → lines (codes "v" ++ (spaced c ++ codes " 0")) ≡ last_words c ∷ []
  last_line c h =
      no_lines (codes "v" ++ (spaced c ++ codes " 0")) (refl, no_feed_append (spaced c) (codes " 0") (spaced_feed vars small c h) (refl, (refl, tt)))
      ∙ ap (λ z. z ∷ []) (spaced_ended vars small (codes "v") c v_word h)

  pub value_lines : (rows : List (List LitOf)) (last : List LitOf) → AreIn vars (flat_map (λ c. c) rows ++ last) → lines (bare_values rows last) ≡ map row_words rows ++ last_words last ∷ []
  value_lines [] last h = last_line last h
  value_lines (r ∷ rows) last h =
      let k = in_split vars r (flat_map (λ c. c) rows ++ last) (subst (AreIn vars) (append_assoc r (flat_map (λ c. c) rows) last) h) in
      ap lines (append_assoc (value_line r) (flat_map value_line rows) (codes "v" ++ (spaced last ++ codes " 0")))
      ∙ row_line r (bare_values rows last) k.0 ∙ ap (λ z. row_words r ∷ z) (value_lines rows last k.1)

  names_more : (c : List LitOf) (ls : List (List (List ℕ))) (b : List LitOf) → AreIn vars c → length c ≤ vars → Names vars ls b → Names vars (row_words c ∷ ls) (c ++ b)
  names_more c [] b h short n = absurd n
  names_more c (us ∷ ls) b h short n = inr (map literal_text c, c, b, refl, writes_texts vars small c h, short, refl, n)

  pub names : (rows : List (List LitOf)) (last : List LitOf) → AreIn vars (flat_map (λ c. c) rows ++ last) → length (flat_map (λ c. c) rows ++ last) ≤ vars
      → Names vars (map row_words rows ++ last_words last ∷ []) (flat_map (λ c. c) rows ++ last)
  names [] last h short = (map literal_text last ++ codes "0" ∷ [], refl, ended_texts vars small last h short)
  names (r ∷ rows) last h short =
      let e : flat_map (λ c. c) (r ∷ rows) ++ last ≡ r ++ (flat_map (λ c. c) rows ++ last) = append_assoc r (flat_map (λ c. c) rows) last in
      let k = in_split vars r (flat_map (λ c. c) rows ++ last) (subst (AreIn vars) e h) in
      let n : length r + length (flat_map (λ c. c) rows ++ last) ≤ vars = omega (arith, short, ap length e, length-append r (flat_map (λ c. c) rows ++ last)) in
      subst (Names vars (row_words r ∷ (map row_words rows ++ last_words last ∷ []))) (sym e)
      (names_more r (map row_words rows ++ last_words last ∷ []) (flat_map (λ c. c) rows ++ last) k.0 (omega (arith, n)) (names rows last k.1 (omega (arith, n))))

-- the literals of values are of the variables
pub literals_in : (vars v : ℕ) (bs : List Bool) → 0 < v → v + length bs ≤ vars + 1 → AreIn vars (literals_from v bs)
literals_in vars v [] p h = tt
literals_in vars v (b ∷ bs) p h = (p, omega (arith, h), literals_in vars (v + 1) bs (omega arith) (omega (arith, h)))

not_not : (b : Bool) → not (not b) ≡ b
not_not true = refl
not_not false = refl

different : (v k : ℕ) → v < k → eqb v k ≡ false
different v k h = grind (arith, nat_tests)

-- they name the values
before : (x : Assignment) (k v : ℕ) (bs : List Bool) → v < k → named_from x (literals_from k bs) v ≡ x v
before x k v [] h = refl
before x k v (b ∷ bs) h =
    let d : eqb v k ≡ false = different v k h in
    before (named x (record { var = k; negated = not b })) (k + 1) v bs (omega (arith, h)) ∙ (rw d refl)

named_at : (x : Assignment) (k v i : ℕ) (bs : List Bool) → i < length bs → v ≡ k + i → named_from x (literals_from k bs) v ≡ get_or bs i false
named_at x k v i [] h e = absurd (omega (arith, h))
named_at x k v zero (b ∷ bs) h e =
    let d : eqb v k ≡ true = eq-eqb v k (omega (arith, e)) in
    before (named x (record { var = k; negated = not b })) (k + 1) v bs (omega (arith, e)) ∙ (rw d (not_not b))
named_at x k v (suc i) (b ∷ bs) h e = named_at (named x (record { var = k; negated = not b })) (k + 1) v i bs (omega (arith, h)) (omega (arith, e))

pub named_value : (vars : ℕ) (values : List Bool) (v : ℕ) → 0 < v → v ≤ vars → named_by (literals_from 1 (values_to vars values)) v ≡ valued values v
named_value vars values v p h =
    let n = length-map-range_with_len (valued values) 1 vars in
    let i : v ≡ 1 + (v - 1) = omega (arith, p) in
    named_at unnamed 1 v (v - 1) (values_to vars values) (omega (arith, h, n, p)) i ∙ get_or-map-range_with_len (valued values) 1 vars (v - 1) v false (omega (arith, h, p)) (sym i)

-- what satisfies clauses satisfies them by the values of their variables alone
same_lit : (x y : Assignment) (v : ℕ) (s : Bool) → x v ≡ y v → cond s (not (x v)) (x v) ≡ cond s (not (y v)) (y v)
same_lit x y v true e = ap not e
same_lit x y v false e = e

within_at : (vars : ℕ) (F : List (List LitOf)) (c : List LitOf) (l : LitOf) → Within vars F → Contains F c → Contains c l → LitWithin vars l
within_at vars F c l w h k =
    let u : ClauseWithin vars c = subst (ClauseWithin vars) h.2 (w h.0 c h.1) in
    subst (LitWithin vars) k.2 (u k.0 l k.1)

pub satisfies_by : (vars : ℕ) (F : List (List LitOf)) (x y : Assignment) → Within vars F → ((v : ℕ) → 0 < v → v ≤ vars → x v ≡ y v) → Satisfies y F → Satisfies x F
satisfies_by vars F x y w same s c h =
    let t = s c h in
    let i = within_at vars F c t.0 w h t.1 in
    (t.0, t.1, same_lit x y t.0.var t.0.negated (same t.0.var i.0 i.1) ∙ t.2)
