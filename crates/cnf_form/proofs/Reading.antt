-- Bytes are at most one formula.
use Rattle.std.proofs.Common.{◌≡◌, ◌≢◌, ℕ, ◌<◌, Bool, true, false, cond, List, [], ◌∷◌, get_or, refl, sym, ◌∙◌, ap, subst, arith}
use Rattle.std.specs.Prelude.{codes}
use Rattle.std.specs.Str.Parse.{IsNumeral, AllDigits, digits_value}
use Rattle.std.specs.Char.{digit_value}
use Rattle.std.proofs.lemmas.Bool.Decides.{nat_tests}
use Rattle.cnf_form.specs.Cnf.{LitOf, FormulaOf}
use Rattle.cnf_form.specs.Dimacs.{IsSpace, NextWord, IsNumber, IsLiteral, IsClause, ended, literal, IsBody, no_clause, clause, IsDimacs}
use Rattle.cnf_form.proofs.Words.{NextWord-one, NextWord-nil, NextWord-after_space, NextWord-at_c, IsTarget, end_is_target, word_is_target, meet}

pub number_one : (w v : List ℕ) (m n : ℕ) → IsNumber w m → IsNumber v n → w ≡ v → m ≡ n
number_one w v m n a b e = sym a.value ∙ ap (digits_value 10) e ∙ b.value

pub minus_no_digits : (d e : List ℕ) (n : ℕ) → IsNumber d n → d ≡ 45 ∷ e → ⊥
minus_no_digits d e n a h =
    let k = subst (IsNumeral 10) h a.digits in
    let k1 = k.1 in
    omega (arith, k1.0)

literal_cases : (w v d e : List ℕ) (s t : Bool) (m n : ℕ) → IsNumber d m → IsNumber e n → w ≡ v → w ≡ cond s (45 ∷ d) d → v ≡ cond t (45 ∷ e) e → (m ≡ n) × (s ≡ t)
literal_cases w v d e true true m n a b f g h = (number_one d e m n a b (cc), refl)
literal_cases w v d e false false m n a b f g h = (number_one d e m n a b (cc), refl)
literal_cases w v d e true false m n a b f g h = absurd (minus_no_digits e d n b (cc))
literal_cases w v d e false true m n a b f g h = absurd (minus_no_digits d e m a (cc))

pub literal_one : (w v : List ℕ) (l m : LitOf) → IsLiteral w l → IsLiteral v m → w ≡ v → l ≡ m
literal_one w v l m a b e =
    let p = literal_cases w v a.0 b.0 l.negated m.negated l.var m.var a.1 b.1 e a.3 b.3 in
    ap (λ (x : ℕ). let k : LitOf = record { var = x; negated = l.negated } in k) p.0 ∙ ap (λ (x : Bool). let k : LitOf = record { var = m.var; negated = x } in k) p.1

pub zero_no_literal : (d : List ℕ) (s : Bool) (n : ℕ) → IsNumber d n → 0 < n → 48 ∷ [] ≡ cond s (45 ∷ d) d → ⊥
zero_no_literal d true n a p e = omega (arith, ap (λ (xs : List ℕ). get_or xs 0 0) e)
zero_no_literal d false n a p e =
    let v : digits_value 10 (48 ∷ []) ≡ n = ap (digits_value 10) e ∙ a.value in
    omega (arith, v)

digit_no_c : (c : ℕ) → digit_value c < 10 → c ≢ 99
digit_no_c c h = grind (arith, nat_tests)

first_digit : (w : List ℕ) → AllDigits 10 w → get_or w 0 0 ≢ 99
first_digit [] h = λ e. omega arith
first_digit (c ∷ cs) h = digit_no_c c h.0

-- a literal does not begin with c
pub literal_no_c : (d w : List ℕ) (s : Bool) → AllDigits 10 d → w ≡ cond s (45 ∷ d) d → get_or w 0 0 ≢ 99
literal_no_c d w true h e = λ f. omega (arith, ap (λ (xs : List ℕ). get_or xs 0 0) e)
literal_no_c d w false h e = subst (λ xs. get_or xs 0 0 ≢ 99) (sym e) (first_digit d h)

clause_one : {bytes r r' : List ℕ} {c c' : List LitOf} → IsClause bytes c r → IsClause bytes c' r' → (c ≡ c') × (r ≡ r')
clause_one (ended z r n) (ended z' r' n') = (refl, (NextWord-one n n').1)
clause_one (ended z r n) (literal z' w mid r' l c n' h k) = absurd (zero_no_literal h.0 l.negated l.var h.1 h.2 ((NextWord-one n n').0 ∙ h.3))
clause_one (literal z' w mid r' l c n' h k) (ended z r n) = absurd (zero_no_literal h.0 l.negated l.var h.1 h.2 ((NextWord-one n n').0 ∙ h.3))
clause_one (literal z w mid r l c n h k) (literal z' w' mid' r' l' c' n' h' k') =
    let o = NextWord-one n n' in
    let e = literal_one w w' l l' h h' o.0 in
    let t = clause_one k (subst (λ y. IsClause y c' r') (sym o.1) k') in
    (ap (λ x. x ∷ c) e ∙ ap (λ x. l' ∷ x) t.0, t.1)

clause_after_space : {b : ℕ} {bytes r : List ℕ} {c : List LitOf} → IsSpace b → IsClause (b ∷ bytes) c r → IsClause bytes c r
clause_after_space h (ended z r n) = ended _ r (NextWord-after_space h n)
clause_after_space h (literal z w mid r l c n k rest) = literal _ w mid r l c (NextWord-after_space h n) k rest

clause_no_comment : {bytes r : List ℕ} {c : List LitOf} (tail : List ℕ) → bytes ≡ 99 ∷ tail → IsClause bytes c r → ⊥
clause_no_comment tail e (ended z r n) = omega (arith, NextWord-at_c n e)
clause_no_comment tail e (literal z w mid r l c n k rest) = let d = k.1 in let digits = d.digits in literal_no_c k.0 w l.negated digits.1 k.3 (NextWord-at_c n e)

clause_is_target : (c : List LitOf) (r : List ℕ) → IsTarget (λ z. IsClause z c r)
clause_is_target c r = record { after_space = λ b bytes h k. clause_after_space h k; no_comment = λ bytes tail e k. clause_no_comment tail e k }

clause_some : {bytes r : List ℕ} {c : List LitOf} → bytes ≡ [] → IsClause bytes c r → ⊥
clause_some e (ended z r n) = NextWord-nil (subst (λ y. NextWord y (48 ∷ []) r) e n)
clause_some e (literal z w mid r l c n k rest) = NextWord-nil (subst (λ y. NextWord y w mid) e n)

body_one : {fresh : Bool} {bytes : List ℕ} {F G : List (List LitOf)} → IsBody fresh bytes F → IsBody fresh bytes G → F ≡ G
body_one (no_clause f z s) (no_clause f' z' s') = refl
body_one (no_clause f z s) (clause f' z' front r c G s' k b) =
    let m = meet (λ y. y ≡ []) (λ y. IsClause y c r) end_is_target (clause_is_target c r) s refl s' k in absurd (clause_some m.1 m.2)
body_one (clause f' z' front r c G s' k b) (no_clause f z s) =
    let m = meet (λ y. y ≡ []) (λ y. IsClause y c r) end_is_target (clause_is_target c r) s refl s' k in absurd (clause_some m.1 m.2)
body_one (clause f z front r c F s k b) (clause f' z' front' r' c' G s' k' b') =
    let m = meet (λ y. IsClause y c r) (λ y. IsClause y c' r') (clause_is_target c r) (clause_is_target c' r') s k s' k' in
    let o = clause_one m.1 m.2 in
    let t : F ≡ G = body_one b (subst (λ y. IsBody false y G) (sym o.1) b') in
    ap (λ x. x ∷ F) o.0 ∙ ap (λ x. c' ∷ x) t

formula_is : (f g : FormulaOf) → f.vars ≡ g.vars → f.clauses ≡ g.clauses → f ≡ g
formula_is f g v c =
    ap (λ (x : ℕ). let k : FormulaOf = record { vars = x; clauses = f.clauses } in k) v ∙ ap (λ (x : List (List LitOf)). let k : FormulaOf = record { vars = g.vars; clauses = x } in k) c

pub IsDimacs-one : (bytes : List ℕ) (f g : FormulaOf) → IsDimacs bytes f → IsDimacs bytes g → f ≡ g
IsDimacs-one bytes f g a b =
    let plain : get_or (codes "p") 0 0 ≢ 99 = λ e. omega (arith, e) in
    let m =
    meet (λ y. NextWord y (codes "p") a.after_p) (λ y. NextWord y (codes "p") b.after_p) (word_is_target (codes "p") a.after_p plain) (word_is_target (codes "p") b.after_p plain) a.lead a.p b.lead b.p in
    let p = (NextWord-one m.1 m.2).1 in
    let cnf = (NextWord-one a.cnf (subst (λ y. NextWord y (codes "cnf") b.after_cnf) (sym p) b.cnf)).1 in
    let v = NextWord-one a.vars_next (subst (λ y. NextWord y b.vars_word b.after_vars) (sym cnf) b.vars_next) in
    let n = NextWord-one a.count_next (subst (λ y. NextWord y b.count_word b.body) (sym v.1) b.count_next) in
    formula_is f g (number_one a.vars_word b.vars_word f.vars g.vars a.vars b.vars v.0) (body_one a.clauses (subst (λ y. IsBody false y g.clauses) (sym n.1) b.clauses))
