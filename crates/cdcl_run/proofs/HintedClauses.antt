-- The line of a clause with hints, word by word.
use Rattle.std.proofs.Common.{◌≡◌, ℕ, ◌+◌, ◌<◌, ◌≤◌, List, [], ◌∷◌, ◌++◌, length, take, drop, get_or, refl, ap, ◌∙◌, sym, append_assoc, append-nil}
use Rattle.std.specs.Prelude.{decimal}
use Rattle.std.proofs.lemmas.List.{take_more, take_all, take-append-drop}
use Rattle.cnf_form.specs.Cnf.{LitOf}
use Rattle.cnf_form.specs.Dimacs.{literal_text}
use Rattle.cdcl_run.specs.HintedText.{addition_text, ids_text, literals_text}
use Rattle.cdcl_run.specs.Text.{words_text}

-- ids, each with a space after it
abbrev pub ids_words : List ℕ → List ℕ
ids_words [] = []
ids_words (id ∷ ids) = decimal id ++ 32 ∷ ids_words ids

ids_append : (ids : List ℕ) (id : ℕ) → ids_words (ids ++ id ∷ []) ≡ ids_words ids ++ (decimal id ++ 32 ∷ [])
ids_append [] id = refl
ids_append (m ∷ ids) id = ap (λ z. decimal m ++ 32 ∷ z) (ids_append ids id) ∙ sym (append_assoc (decimal m) (32 ∷ ids_words ids) (decimal id ++ 32 ∷ []))

ids_both : (ids more : List ℕ) → ids_text (ids ++ more) ≡ ids_words ids ++ ids_text more
ids_both [] more = refl
ids_both (id ∷ ids) more = ap (λ z. decimal id ++ 32 ∷ z) (ids_both ids more) ∙ sym (append_assoc (decimal id) (32 ∷ ids_words ids) (ids_text more))

pub ids_more : (ids : List ℕ) (i : ℕ) (d : ℕ) → i < length ids → ids_words (take i ids) ++ (decimal (get_or ids i d) ++ 32 ∷ []) ≡ ids_words (take (i + 1) ids)
ids_more ids i d h = sym (ap ids_words (take_more ids i d h) ∙ ids_append (take i ids) (get_or ids i d))

pub ids_then : (ids : List ℕ) (i : ℕ) (d : ℕ) → i < length ids → (ids_words (take i ids) ++ (decimal (get_or ids i d) ++ 32 ∷ [])) ++ ids_text (drop (i + 1) ids) ≡ ids_text ids
ids_then ids i d h = ap (λ z. z ++ ids_text (drop (i + 1) ids)) (ids_more ids i d h) ∙ sym (ids_both (take (i + 1) ids) (drop (i + 1) ids)) ∙ ap ids_text (take-append-drop (i + 1) ids)

pub ids_end : (ids : List ℕ) (i : ℕ) → length ids ≤ i → ids_words (take i ids) ++ (48 ∷ 10 ∷ []) ≡ ids_text ids
ids_end ids i h = ap (λ z. ids_words z ++ (48 ∷ 10 ∷ [])) (take_all i ids h) ∙ sym (ids_both ids []) ∙ ap ids_text (append-nil ids)

-- literals before 0 and a space
literals_both : (c d : List LitOf) → literals_text (c ++ d) ≡ words_text c ++ literals_text d
literals_both [] d = refl
literals_both (l ∷ c) d = ap (λ z. literal_text l ++ 32 ∷ z) (literals_both c d) ∙ sym (append_assoc (literal_text l) (32 ∷ words_text c) (literals_text d))

pub literals_end : (c : List LitOf) → words_text c ++ (48 ∷ 32 ∷ []) ≡ literals_text c
literals_end c = sym (literals_both c []) ∙ ap literals_text (append-nil c)

-- the parts of a line
pub addition_parts : (c : List LitOf) (id : ℕ) (hints : List ℕ) → (decimal id ++ 32 ∷ []) ++ (literals_text c ++ ids_text hints) ≡ addition_text c id hints
addition_parts c id hints = append_assoc (decimal id) (32 ∷ []) (literals_text c ++ ids_text hints)
