-- The line of a clause, word by word.
use Rattle.std.proofs.Common.{◌≡◌, ℕ, Bool, true, false, cond, ◌+◌, ◌<◌, List, [], ◌∷◌, ◌++◌, length, take, drop, get_or, refl, ap, ◌∙◌, sym, append_assoc, append-nil}
use Rattle.std.specs.Prelude.{codes}
use Rattle.std.proofs.lemmas.List.{take_more, take-append-drop}
use Rattle.cnf_form.specs.Cnf.{LitOf}
use Rattle.cnf_form.specs.Dimacs.{literal_text, clause_text}
use Rattle.cdcl_run.specs.Text.{words_text}

-- a sign and a number
pub sign_number : (negated : Bool) (number : List ℕ) → (cond negated (codes "-") []) ++ number ≡ cond negated (45 ∷ number) number
sign_number true number = refl
sign_number false number = refl

words_append : (c : List LitOf) (l : LitOf) → words_text (c ++ l ∷ []) ≡ words_text c ++ (literal_text l ++ 32 ∷ [])
words_append [] l = refl
words_append (m ∷ c) l = ap (λ z. literal_text m ++ 32 ∷ z) (words_append c l) ∙ sym (append_assoc (literal_text m) (32 ∷ words_text c) (literal_text l ++ 32 ∷ []))

words_both : (c d : List LitOf) → words_text (c ++ d) ≡ words_text c ++ words_text d
words_both [] d = refl
words_both (l ∷ c) d = ap (λ z. literal_text l ++ 32 ∷ z) (words_both c d) ∙ sym (append_assoc (literal_text l) (32 ∷ words_text c) (words_text d))

words_clause : (c d : List LitOf) → clause_text (c ++ d) ≡ words_text c ++ clause_text d
words_clause [] d = refl
words_clause (l ∷ c) d = ap (λ z. literal_text l ++ 32 ∷ z) (words_clause c d) ∙ sym (append_assoc (literal_text l) (32 ∷ words_text c) (clause_text d))

pub words_more : (c : List LitOf) (i : ℕ) (l : LitOf) → i < length c → words_text (take i c) ++ (literal_text (get_or c i l) ++ 32 ∷ []) ≡ words_text (take (i + 1) c)
words_more c i l h = sym (ap words_text (take_more c i l h) ∙ words_append (take i c) (get_or c i l))

pub words_end : (c : List LitOf) → words_text c ++ (48 ∷ 10 ∷ []) ≡ clause_text c
words_end c = sym (words_clause c []) ∙ ap clause_text (append-nil c)

-- one literal, the literals after it, and what ends them
pub words_rest : (c : List LitOf) (i : ℕ) (l : LitOf) (end : List ℕ) → i < length c → (words_text (take i c) ++ (literal_text (get_or c i l) ++ 32 ∷ [])) ++ (words_text (drop (i + 1) c) ++ end) ≡ words_text c ++ end
words_rest c i l end h =
    ap (λ z. z ++ (words_text (drop (i + 1) c) ++ end)) (words_more c i l h) ∙ sym (append_assoc (words_text (take (i + 1) c)) (words_text (drop (i + 1) c)) end)
    ∙ ap (λ z. z ++ end) (sym (words_both (take (i + 1) c) (drop (i + 1) c)) ∙ ap words_text (take-append-drop (i + 1) c))

pub same_literal : (l : LitOf) (v : ℕ) (negated : Bool) → l.var ≡ v → l.negated ≡ negated → l ≡ record { var = v; negated = negated }
same_literal l v negated e f = ap (λ z. record { var = z; negated = l.negated }) e ∙ ap (λ z. record { var = v; negated = z }) f
