-- Words of a line by their places.
use Rattle.std.proofs.Common.{◌≡◌, ℕ, zero, suc, List, [], ◌∷◌, refl, sym, ap, ◌∙◌}
use Rattle.btor_text.specs.Reading.{cons_word, word_at}

-- a word is the first of those that it is put before, and the others follow it
pub first_word : (ws rest : List (List ℕ)) (w : List ℕ) → ws ≡ cons_word w rest → (w ≡ [] → ws ≡ []) → w ≡ word_at ws zero
first_word ws rest [] e none = sym (ap (λ (us : List (List ℕ)). word_at us zero) (none refl))
first_word ws rest (b ∷ w) e none = sym (ap (λ (us : List (List ℕ)). word_at us zero) e)

pub later_word : (ws rest : List (List ℕ)) (w : List ℕ) (k : ℕ) → ws ≡ cons_word w rest → (w ≡ [] → ws ≡ []) → word_at rest k ≡ word_at ws (suc k)
later_word ws rest [] k e none =
    let gone : rest ≡ [] = sym e ∙ none refl in
    ap (λ (us : List (List ℕ)). word_at us k) gone ∙ sym (ap (λ (us : List (List ℕ)). word_at us (suc k)) (none refl))
later_word ws rest (b ∷ w) k e none = sym (ap (λ (us : List (List ℕ)). word_at us (suc k)) e)
