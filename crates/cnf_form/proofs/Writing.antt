-- What is written is DIMACS.
use Rattle.std.proofs.Common.{◌≡◌, ℕ, ◌<◌, ◌≤◌, ◌^◌, Bool, true, false, cond, List, [], ◌∷◌, ◌++◌, length, refl, sym, ◌∙◌, ap, subst, inl, inr, arith, append_assoc, lit<}
use Rattle.std.specs.Prelude.{All, decimal, codes}
use Rattle.std.specs.Str.Parse.{AllDigits}
use Rattle.std.specs.Char.{digit_value}
use Rattle.std.proofs.lemmas.Fmt.{decimal_is_IsNumeral, first_decimal, decimal_digit}
use Rattle.std.proofs.lemmas.List.Elements.{All-nil, All-cons, All-head, All-tail}
use Rattle.std.proofs.lemmas.Bool.{cases_lt}
use Rattle.std.proofs.lemmas.Bool.Decides.{nat_tests}
use Rattle.cnf_form.specs.Cnf.{LitOf, FormulaOf, LitWithin, ClauseWithin, Within}
use Rattle.cnf_form.specs.Dimacs.{IsSpace, IsWordByte, EndsWord, NextWord, stay, feed, IsNumber, IsClause, ended, literal, IsBody, no_clause, clause, IsDimacs, literal_text, clause_text, body_text, dimacs_text}

above_space : (b : ℕ) → 32 < b → IsWordByte b
above_space b h (inl e) = omega arith
above_space b h (inr (inl e)) = omega arith
above_space b h (inr (inr (inl e))) = omega arith
above_space b h (inr (inr (inr e))) = omega arith

digit_above : (c : ℕ) → digit_value c < 10 → 32 < c
digit_above c h = grind (arith, nat_tests)

-- the bytes can be a word
record IsWord (w : List ℕ) : Type 0 where
  some : 0 < length w
  visible : All IsWordByte w

digits_visible : (w : List ℕ) → AllDigits 10 w → All IsWordByte w
digits_visible [] h = All-nil IsWordByte
digits_visible (c ∷ cs) h = All-cons IsWordByte c cs (above_space c (digit_above c h.0)) (digits_visible cs h.1)

decimal_word : (n : ℕ) → n < 2 ^ 64 → IsWord (decimal n)
decimal_word n h = let d = (decimal_is_IsNumeral n h).0 in record { some = d.0; visible = digits_visible (decimal n) d.1 }

signed_word : (negated : Bool) (n : ℕ) → n < 2 ^ 64 → IsWord (cond negated (45 ∷ decimal n) (decimal n))
signed_word false n h = decimal_word n h
signed_word true n h = let w = decimal_word n h in record { some = omega arith; visible = All-cons IsWordByte 45 (decimal n) (above_space 45 (lit< tt)) w.visible }

pub decimal_is_IsNumber : (n : ℕ) → n < 2 ^ 64 → IsNumber (decimal n) n
decimal_is_IsNumber n h =
    let d = decimal_is_IsNumeral n h in
    record {
      digits = d.0;
      value = d.1;
      shortest = elim (cases_lt 0 n) [
        | inl p ↦ inr (λ e. omega (arith, first_decimal n p h, e))
        | inr z ↦ let k : n ≡ 0 = omega arith in inl (ap decimal k ∙ decimal_digit 0 (omega arith))
      ];
    }

space : All IsSpace (32 ∷ [])
space = All-cons IsSpace 32 [] (inr (inl refl)) (All-nil IsSpace)

-- a word after a gap
next : (gap w rest : List ℕ) → All IsSpace gap → IsWord w → EndsWord rest → NextWord (gap ++ (w ++ rest)) w rest
next gap w rest g p e = record { gap = gap; split = refl; blank = g; some = p.some; visible = p.visible; ends = e }

module _ (vars : ℕ) (small : vars < 2 ^ 64) where
  clause_written : (gap : List ℕ) (c : List LitOf) (rest : List ℕ) → All IsSpace gap → ClauseWithin vars c → IsClause (gap ++ (clause_text c ++ rest)) c (10 ∷ rest)
  clause_written gap [] rest g r =
      ended (gap ++ (48 ∷ 10 ∷ rest)) (10 ∷ rest) (next gap (48 ∷ []) (10 ∷ rest) g (record { some = lit< tt; visible = All-cons IsWordByte 48 [] (above_space 48 (lit< tt)) (All-nil IsWordByte) }) (inl refl))
  clause_written gap (l ∷ c) rest g r =
      let here = All-head (LitWithin vars) l c r in
      let l_small : l.var < 2 ^ 64 = omega (arith, here.1) in
      let e : (literal_text l ++ 32 ∷ clause_text c) ++ rest ≡ literal_text l ++ (32 ∷ (clause_text c ++ rest)) = append_assoc (literal_text l) (32 ∷ clause_text c) rest in
      literal (gap ++ ((literal_text l ++ 32 ∷ clause_text c) ++ rest)) (literal_text l) (32 ∷ (clause_text c ++ rest)) (10 ∷ rest) l c
      (subst (λ z. NextWord (gap ++ z) (literal_text l) (32 ∷ (clause_text c ++ rest))) (sym e)
      (next gap (literal_text l) (32 ∷ (clause_text c ++ rest)) g (signed_word l.negated l.var l_small) (inr (inl refl))))
      (decimal l.var, decimal_is_IsNumber l.var l_small, here.0, refl)
      (clause_written (32 ∷ []) c rest space (All-tail (LitWithin vars) l c r))

  body_written : (F : List (List LitOf)) → Within vars F → IsBody false (10 ∷ body_text F) F
  body_written [] r = no_clause false (10 ∷ []) (feed false 10 [] [] refl (stay true []))
  body_written (c ∷ F) r =
      clause false (10 ∷ (clause_text c ++ body_text F)) (clause_text c ++ body_text F) (10 ∷ body_text F) c F
      (feed false 10 (clause_text c ++ body_text F) (clause_text c ++ body_text F) refl (stay true (clause_text c ++ body_text F)))
      (clause_written [] c (body_text F) (All-nil IsSpace) (All-head (ClauseWithin vars) c F r))
      (body_written F (All-tail (ClauseWithin vars) c F r))

header_parts : (v n rest : List ℕ) → (codes "p cnf " ++ (v ++ 32 ∷ (n ++ 10 ∷ []))) ++ rest ≡ codes "p cnf " ++ (v ++ 32 ∷ (n ++ 10 ∷ rest))
header_parts v n rest = ap (λ z. codes "p cnf " ++ z) (append_assoc v (32 ∷ (n ++ 10 ∷ [])) rest ∙ ap (λ z. v ++ 32 ∷ z) (append_assoc n (10 ∷ []) rest))

cnf_word : IsWord (codes "cnf")
cnf_word = record {
  some = lit< tt;
  visible = All-cons IsWordByte 99 (110 ∷ 102 ∷ []) (above_space 99 (lit< tt)) (All-cons IsWordByte 110 (102 ∷ []) (above_space 110 (lit< tt)) (All-cons IsWordByte 102 [] (above_space 102 (lit< tt)) (All-nil IsWordByte)));
}

p_word : IsWord (codes "p")
p_word = record { some = lit< tt; visible = All-cons IsWordByte 112 [] (above_space 112 (lit< tt)) (All-nil IsWordByte) }

written : (f : FormulaOf) → f.vars ≤ 2 ^ 27 → length f.clauses < 2 ^ 64 → Within f.vars f.clauses
    → IsDimacs (codes "p cnf " ++ (decimal f.vars ++ 32 ∷ (decimal (length f.clauses) ++ 10 ∷ body_text f.clauses))) f
written f hv hn r =
    let small : f.vars < 2 ^ 64 = omega arith in
    let after_vars : List ℕ = 32 ∷ (decimal (length f.clauses) ++ 10 ∷ body_text f.clauses) in
    let after_cnf : List ℕ = 32 ∷ (decimal f.vars ++ after_vars) in
    record {
      header = codes "p cnf " ++ (decimal f.vars ++ after_vars);
      after_p = 32 ∷ (codes "cnf" ++ after_cnf);
      after_cnf = after_cnf;
      vars_word = decimal f.vars;
      after_vars = after_vars;
      count_word = decimal (length f.clauses);
      body = 10 ∷ body_text f.clauses;
      lead = stay true _;
      p = next [] (codes "p") (32 ∷ (codes "cnf" ++ after_cnf)) (All-nil IsSpace) p_word (inr (inl refl));
      cnf = next (32 ∷ []) (codes "cnf") after_cnf space cnf_word (inr (inl refl));
      vars_next = next (32 ∷ []) (decimal f.vars) after_vars space (decimal_word f.vars small) (inr (inl refl));
      vars = decimal_is_IsNumber f.vars small;
      limit = hv;
      count_next = next (32 ∷ []) (decimal (length f.clauses)) (10 ∷ body_text f.clauses) space (decimal_word (length f.clauses) hn) (inl refl);
      count = decimal_is_IsNumber (length f.clauses) hn;
      within = r;
      clauses = body_written f.vars small f.clauses r;
    }

pub dimacs_text_is_IsDimacs : (f : FormulaOf) → f.vars ≤ 2 ^ 27 → length f.clauses < 2 ^ 64 → Within f.vars f.clauses → IsDimacs (dimacs_text f) f
dimacs_text_is_IsDimacs f hv hn r = subst (λ z. IsDimacs z f) (sym (header_parts (decimal f.vars) (decimal (length f.clauses)) (body_text f.clauses))) (written f hv hn r)
