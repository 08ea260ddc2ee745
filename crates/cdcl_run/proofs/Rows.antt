-- The lines of values, as far as they were put.
use Rattle.std.proofs.Common.{◌≡◌, ◌≢◌, ℕ, suc, ◌+◌, ◌-◌, ◌*◌, ◌<◌, ◌≤◌, ◌%◌, Bool, true, false, not, ◌&&◌, eqb, ltb, List, [], ◌∷◌, ◌++◌, length, take, drop, refl, ap, ◌∙◌, sym, subst, inl, inr, arith, append-nil, append_assoc, length-append}
use Rattle.std.specs.Prelude.{codes, flat_map, All}
use Rattle.std.proofs.lemmas.Bool.{cases_Bool, cases_lt}
use Rattle.std.proofs.lemmas.Bool.Decides.{nat_tests}
use Rattle.std.proofs.lemmas.List.{take-append-drop}
use Rattle.std.proofs.lemmas.List.Elements.{All-nil, All-push, All-head, All-tail}
use Rattle.std.proofs.lemmas.List.Concat.{flat_map-append}
use Rattle.std.proofs.lemmas.List.FromFn.{length-map-range_with_len, map-range_with_len_more, take-map-range_with_len}
use Rattle.cnf_form.specs.Cnf.{LitOf}
use Rattle.cnf_form.specs.Dimacs.{literal_text}
use Rattle.cdcl_core.specs.Solving.{valued}
use Rattle.cdcl_run.specs.Output.{Breaks, OutputOf, Puts}
use Rattle.cdcl_run.specs.Searching.{values_to}
use Rattle.cdcl_run.specs.Text.{AreValueLines, break_text, literals_from, spaced, value_line}
use Rattle.cdcl_run.proofs.Putting.{breaks_more, puts_both, puts_breaks}

abbrev pub IsTen : List LitOf → Type 0
IsTen c = length c ≡ 10

abbrev pub row_text : List (List LitOf) → List LitOf → List ℕ
row_text rows last = flat_map value_line rows ++ (codes "v" ++ spaced last)

-- the literals of lines of values of which a text is the beginning
pub record Rows (text : List ℕ) (lits : List LitOf) : Type 0 where
  pub rows : List (List LitOf)
  pub last : List LitOf
  pub all : flat_map (λ c. c) rows ++ last ≡ lits
  pub tens : All IsTen rows
  pub most : length last ≤ 10
  pub some : lits ≢ [] → 0 < length last
  pub is : text ≡ row_text rows last

-- these literals were put
pub record RowsPut (first now : OutputOf) (lits : List LitOf) : Type 0 where
  pub text : List ℕ
  pub rows : Rows text lits
  pub puts : Puts first now text

rows_begin : Rows (codes "v") []
rows_begin = record { rows = []; last = []; all = refl; tens = All-nil IsTen; most = omega arith; some = λ n. absurd (n refl); is = refl }

flat_tens : (rows : List (List LitOf)) → All IsTen rows → length (flat_map (λ c. c) rows) ≡ 10 * length rows
flat_tens [] h = refl
flat_tens (r ∷ rows) h =
    let k = flat_tens rows (All-tail IsTen r rows h) in
    let t : length r ≡ 10 = All-head IsTen r rows h in
    omega (arith, k, t, length-append r (flat_map (λ c. c) rows))

spaced_push : (c : List LitOf) (l : LitOf) → spaced (c ++ l ∷ []) ≡ spaced c ++ (32 ∷ literal_text l)
spaced_push [] l = ap (λ z. 32 ∷ z) (append-nil (literal_text l))
spaced_push (m ∷ c) l = ap (λ z. 32 ∷ (literal_text m ++ z)) (spaced_push c l) ∙ ap (λ z. 32 ∷ z) (sym (append_assoc (literal_text m) (spaced c) (32 ∷ literal_text l)))

push_some : (xs : List LitOf) (l : LitOf) → 0 < length (xs ++ l ∷ [])
push_some xs l = omega (arith, length-append xs (l ∷ []))

-- a literal on the same line
same_text : (rows : List (List LitOf)) (last : List LitOf) (l : LitOf) → row_text rows last ++ (32 ∷ literal_text l) ≡ row_text rows (last ++ l ∷ [])
same_text rows last l =
    append_assoc (flat_map value_line rows) (codes "v" ++ spaced last) (32 ∷ literal_text l)
    ∙ ap (λ z. flat_map value_line rows ++ (118 ∷ z)) (sym (spaced_push last l))

-- a literal on a new line
new_text : (rows : List (List LitOf)) (last : List LitOf) (l : LitOf) → row_text rows last ++ ((10 ∷ codes "v") ++ (32 ∷ literal_text l)) ≡ row_text (rows ++ last ∷ []) (l ∷ [])
new_text rows last l =
    let w = 118 ∷ (32 ∷ literal_text l) in
    let e : (codes "v" ++ spaced last) ++ (10 ∷ w) ≡ value_line last ++ w = ap (λ z. 118 ∷ z) (sym (append_assoc (spaced last) (10 ∷ []) w)) in
    let f : flat_map value_line (rows ++ last ∷ []) ≡ flat_map value_line rows ++ value_line last = flat_map-append value_line rows (last ∷ []) ∙ ap (λ z. flat_map value_line rows ++ z) (append-nil (value_line last)) in
    append_assoc (flat_map value_line rows) (codes "v" ++ spaced last) (10 ∷ w) ∙ ap (λ z. flat_map value_line rows ++ z) e ∙ sym (append_assoc (flat_map value_line rows) (value_line last) w)
    ∙ ap (λ z. z ++ w) (sym f) ∙ ap (λ z. flat_map value_line (rows ++ last ∷ []) ++ (118 ∷ (32 ∷ z))) (sym (append-nil (literal_text l)))

and_cases : (v : ℕ) → ltb 1 v && eqb (v % 10) 1 ≡ false → 1 < v → v % 10 ≡ 1 → ⊥
and_cases v h a b = grind (arith, nat_tests)

module _ (text : List ℕ) (lits : List LitOf) (l : LitOf) (v : ℕ) (is : length lits + 1 ≡ v) (r : Rows text lits) where
  count : 10 * length r.rows + length r.last ≡ length lits
  count = let f = flat_tens r.rows r.tens in omega (arith, f, length-append (flat_map (λ c. c) r.rows) r.last, ap length r.all)

  rows_same : ltb 1 v && eqb (v % 10) 1 ≡ false → Rows (text ++ (32 ∷ literal_text l)) (lits ++ l ∷ [])
  rows_same h = record {
    rows = r.rows;
    last = r.last ++ l ∷ [];
    all = sym (append_assoc (flat_map (λ c. c) r.rows) r.last (l ∷ [])) ∙ ap (λ z. z ++ l ∷ []) r.all;
    tens = r.tens;
    most = elim (cases_lt (length r.last) 10) [
      | inl s ↦ omega (arith, s, length-append r.last (l ∷ []))
      | inr s ↦ absurd (and_cases v h (omega (arith, count, s, is, r.most)) (omega (arith, count, s, is, r.most)))
    ];
    some = λ n. push_some r.last l;
    is = ap (λ z. z ++ (32 ∷ literal_text l)) r.is ∙ same_text r.rows r.last l;
  }

  rows_new : ltb 1 v && eqb (v % 10) 1 ≡ true → Rows (text ++ ((10 ∷ codes "v") ++ (32 ∷ literal_text l))) (lits ++ l ∷ [])
  rows_new h =
      let w : (1 < v) × (v % 10 ≡ 1) = and_both v h in
      let full : length r.last ≡ 10 = (let s = r.some (λ e. let n : length lits ≡ 0 = ap length e in omega (arith, n, is, w.0)) in omega (arith, count, s, is, r.most, w.1)) in
      record {
        rows = r.rows ++ r.last ∷ [];
        last = l ∷ [];
        all = ap (λ z. z ++ l ∷ []) (flat_map-append (λ c. c) r.rows (r.last ∷ []) ∙ ap (λ z. flat_map (λ c. c) r.rows ++ z) (append-nil r.last) ∙ r.all);
        tens = All-push IsTen r.rows r.last r.tens full;
        most = omega arith;
        some = λ n. omega arith;
        is = ap (λ z. z ++ ((10 ∷ codes "v") ++ (32 ∷ literal_text l))) r.is ∙ new_text r.rows r.last l;
      }
    where
      and_both : (v : ℕ) → ltb 1 v && eqb (v % 10) 1 ≡ true → (1 < v) × (v % 10 ≡ 1)
      and_both v h = (grind (arith, nat_tests), grind (arith, nat_tests))

  rows_next : Rows (text ++ (break_text v ++ (32 ∷ literal_text l))) (lits ++ l ∷ [])
  rows_next = elim (cases_Bool (ltb 1 v && eqb (v % 10) 1)) [
    | inl h ↦ subst (λ z. Rows (text ++ z) (lits ++ l ∷ [])) (sym (by_true h)) (rows_new h)
    | inr h ↦ subst (λ z. Rows (text ++ z) (lits ++ l ∷ [])) (sym (by_false h)) (rows_same h)
  ]
    where
      by_true : ltb 1 v && eqb (v % 10) 1 ≡ true → break_text v ++ (32 ∷ literal_text l) ≡ (10 ∷ codes "v") ++ (32 ∷ literal_text l)
      by_true h = rw h refl

      by_false : ltb 1 v && eqb (v % 10) 1 ≡ false → break_text v ++ (32 ∷ literal_text l) ≡ 32 ∷ literal_text l
      by_false h = rw h refl

-- the last line has its 0
rows_end : (text : List ℕ) (lits : List LitOf) → Rows text lits → AreValueLines lits (text ++ (codes " 0" ++ 10 ∷ []))
rows_end text lits r = record {
  rows = r.rows;
  last = r.last;
  all = r.all;
  tens = r.tens;
  most = r.most;
  some = r.some;
  text_is = ap (λ z. z ++ (codes " 0" ++ 10 ∷ [])) r.is ∙ append_assoc (flat_map value_line r.rows) (codes "v" ++ spaced r.last) (codes " 0" ++ 10 ∷ []);
}

-- lines of more literals go on from a text of some
rows_filled : (rest : List LitOf) (text : List ℕ) (lits : List LitOf) → Rows text lits → (tail : List ℕ) × AreValueLines (lits ++ rest) (text ++ tail)
rows_filled [] text lits r = (codes " 0" ++ 10 ∷ [], subst (λ z. AreValueLines z (text ++ (codes " 0" ++ 10 ∷ []))) (sym (append-nil lits)) (rows_end text lits r))
rows_filled (l ∷ rest) text lits r =
    let more = break_text (length lits + 1) ++ (32 ∷ literal_text l) in
    let w = rows_filled rest (text ++ more) (lits ++ l ∷ []) (rows_next text lits l (length lits + 1) refl r) in
    (more ++ w.0, subst (λ z. AreValueLines z (text ++ (more ++ w.0))) (append_assoc lits (l ∷ []) rest) (subst (AreValueLines ((lits ++ l ∷ []) ++ rest)) (append_assoc text more w.0) w.1))

-- all literals have lines
pub some_lines : (lits : List LitOf) → (text : List ℕ) × AreValueLines lits text
some_lines lits = let f = rows_filled lits (codes "v") [] rows_begin in (codes "v" ++ f.0, f.1)

-- the first line was begun
pub rows_put : (a b : OutputOf) → Puts a b (codes "v") → RowsPut a b []
rows_put a b p = record { text = codes "v"; rows = rows_begin; puts = p }

-- a literal more was put
pub rows_more : (a b c : OutputOf) (lits : List LitOf) (l : LitOf) (v : ℕ) → length lits + 1 ≡ v → RowsPut a b lits → Puts b c (break_text v ++ (32 ∷ literal_text l)) → RowsPut a c (lits ++ l ∷ [])
rows_more a b c lits l v is r p =
    let more = break_text v ++ (32 ∷ literal_text l) in
    record { text = r.text ++ more; rows = rows_next r.text lits l v is r.rows; puts = puts_both a b c r.text more r.puts p }

-- all lines were put
pub rows_ended : (a b c : OutputOf) (lits : List LitOf) → RowsPut a b lits → Puts b c (codes " 0" ++ 10 ∷ []) → (text : List ℕ) × AreValueLines lits text × Puts a c text
rows_ended a b c lits r p = (r.text ++ (codes " 0" ++ 10 ∷ []), rows_end r.text lits r.rows, puts_both a b c r.text (codes " 0" ++ 10 ∷ []) r.puts p)

-- a call failed before the lines of all literals were put: in what begins them, ..
pub begin_broken : (a b : OutputOf) (lits : List LitOf) → Breaks a b (codes "v") → (text : List ℕ) × AreValueLines lits text × Breaks a b text
begin_broken a b lits w = let f = rows_filled lits (codes "v") [] rows_begin in (codes "v" ++ f.0, f.1, breaks_more a b (codes "v") f.0 w)

-- .. in a literal, ..
pub next_broken : (a b c : OutputOf) (lits rest all : List LitOf) (l : LitOf) (v : ℕ) → length lits + 1 ≡ v → all ≡ (lits ++ l ∷ []) ++ rest → RowsPut a b lits → Breaks b c (break_text v ++ (32 ∷ literal_text l)) → (text : List ℕ) × AreValueLines all text × Breaks a c text
next_broken a b c lits rest all l v is e r w =
    let more = break_text v ++ (32 ∷ literal_text l) in
    let f = rows_filled rest (r.text ++ more) (lits ++ l ∷ []) (rows_next r.text lits l v is r.rows) in
    ((r.text ++ more) ++ f.0, subst (λ z. AreValueLines z ((r.text ++ more) ++ f.0)) (sym e) f.1, breaks_more a c (r.text ++ more) f.0 (puts_breaks a b c r.text more r.puts w))

-- .. or at the end
pub end_broken : (a b c : OutputOf) (lits : List LitOf) → RowsPut a b lits → Breaks b c (codes " 0" ++ 10 ∷ []) → (text : List ℕ) × AreValueLines lits text × Breaks a c text
end_broken a b c lits r w = (r.text ++ (codes " 0" ++ 10 ∷ []), rows_end r.text lits r.rows, puts_breaks a b c r.text (codes " 0" ++ 10 ∷ []) r.puts w)

-- the literals of one value more
literals_push : (v : ℕ) (bs : List Bool) (b : Bool) → literals_from v (bs ++ b ∷ []) ≡ literals_from v bs ++ record { var = v + length bs; negated = not b } ∷ []
literals_push v [] b = ap (λ z. record { var = z; negated = not b } ∷ []) (let e : v ≡ v + 0 = omega arith in e)
literals_push v (x ∷ bs) b = ap (λ z. record { var = v; negated = not x } ∷ z) (literals_push (v + 1) bs b ∙ ap (λ z. literals_from (v + 1) bs ++ record { var = z; negated = not b } ∷ []) (let e : v + 1 + length bs ≡ v + suc (length bs) = omega arith in e))

pub length-literals_from : (v : ℕ) (bs : List Bool) → length (literals_from v bs) ≡ length bs
length-literals_from v [] = refl
length-literals_from v (b ∷ bs) = ap suc (length-literals_from (v + 1) bs)

-- the values of the variables before one
abbrev pub values_before : List Bool → ℕ → List Bool
values_before values v = values_to (v - 1) values

pub literals_more : (values : List Bool) (v : ℕ) → 1 ≤ v → literals_from 1 (values_before values v) ++ record { var = v; negated = not (valued values v) } ∷ [] ≡ literals_from 1 (values_before values (v + 1))
literals_more values v low =
    let n : length (values_before values v) ≡ v - 1 = length-map-range_with_len (valued values) 1 (v - 1) in
    let here : 1 + length (values_before values v) ≡ v = omega (arith, n, low) in
    let upto : v + 1 - 1 ≡ v - 1 + 1 = omega (arith, low) in
    let more : values_to (v - 1 + 1) values ≡ values_before values v ++ valued values v ∷ [] = map-range_with_len_more (valued values) 1 (v - 1) v (omega (arith, low)) in
    sym (ap (λ z. literals_from 1 (values_to z values)) upto ∙ ap (literals_from 1) more ∙ literals_push 1 (values_before values v) (valued values v)
    ∙ ap (λ z. literals_from 1 (values_before values v) ++ record { var = z; negated = not (valued values v) } ∷ []) here)

pub literals_count : (values : List Bool) (v : ℕ) → 1 ≤ v → length (literals_from 1 (values_before values v)) + 1 ≡ v
literals_count values v low =
    let n : length (values_before values v) ≡ v - 1 = length-map-range_with_len (valued values) 1 (v - 1) in
    omega (arith, n, low, length-literals_from 1 (values_before values v))

-- literals of more values
literals_append : (v : ℕ) (xs ys : List Bool) → (rest : List LitOf) × (literals_from v (xs ++ ys) ≡ literals_from v xs ++ rest)
literals_append v [] ys = (literals_from v ys, refl)
literals_append v (x ∷ xs) ys = let w = literals_append (v + 1) xs ys in (w.0, ap (λ z. record { var = v; negated = not x } ∷ z) w.1)

pub literals_rest : (vars : ℕ) (values : List Bool) (v : ℕ) → 1 ≤ v → v ≤ vars
    → (rest : List LitOf) × (literals_from 1 (values_to vars values) ≡ (literals_from 1 (values_before values v) ++ record { var = v; negated = not (valued values v) } ∷ []) ++ rest)
literals_rest vars values v low room =
    let all = values_to vars values in
    let first : take (v + 1 - 1) all ≡ values_before values (v + 1) = take-map-range_with_len (valued values) 1 vars (v + 1 - 1) (omega (arith, room)) in
    let w = literals_append 1 (values_before values (v + 1)) (drop (v + 1 - 1) all) in
    (w.0, ap (literals_from 1) (sym (take-append-drop (v + 1 - 1) all) ∙ ap (λ z. z ++ drop (v + 1 - 1) all) first) ∙ w.1 ∙ ap (λ z. z ++ w.0) (sym (literals_more values v low)))
