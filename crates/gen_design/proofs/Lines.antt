-- Lines one after another.
use Rattle.std.proofs.Common.{◌≡◌, ℕ, zero, suc, ◌+◌, List, [], ◌∷◌, ◌++◌, refl, ap, sym, ◌∙◌, arith, append_assoc, add-one}
use Rattle.std.proofs.lemmas.List.{flat_map_more}
use Rattle.std.specs.List.{flat_map, range_with_len}
use Rattle.gen_design.specs.Ring.{text_of}

text_of-append : (xs ys : List (List ℕ)) → text_of (xs ++ ys) ≡ text_of xs ++ text_of ys
text_of-append [] ys = refl
text_of-append (x ∷ xs) ys = ap (λ rest. x ++ 10 ∷ rest) (text_of-append xs ys) ∙ sym (append_assoc x (10 ∷ text_of xs) (text_of ys))

-- a text that goes on by more lines
pub more_lines : (xs ys : List (List ℕ)) (old text next : List ℕ) → text ≡ old ++ text_of xs → next ≡ text ++ text_of ys → next ≡ old ++ text_of (xs ++ ys)
more_lines xs ys old text next so_far added =
    added ∙ ap (λ t. t ++ text_of ys) so_far ∙ append_assoc old (text_of xs) (text_of ys) ∙ ap (λ t. old ++ t) (sym (text_of-append xs ys))

-- the numbers up to one more
numbers_more : (first n last : ℕ) → first + n ≡ last → range_with_len first (n + 1) ≡ range_with_len first n ++ last ∷ []
numbers_more first zero last e = let same : first ≡ last = omega arith in ap (λ k. k ∷ []) same
numbers_more first (suc n) last e =
    ap (λ m. range_with_len first m) (add-one (suc n))
    ∙ ap (λ m. first ∷ range_with_len (first + 1) m) (sym (add-one n))
    ∙ ap (λ rest. first ∷ rest) (numbers_more (first + 1) n last (omega arith))

-- the lines of one number more
pub more_of_each : (lines_of : ℕ → List (List ℕ)) (front : List (List ℕ)) (i : ℕ) (old text next : List ℕ) → text ≡ old ++ text_of (front ++ flat_map lines_of (range_with_len 0 i)) → next ≡ text ++ text_of (lines_of i) → next ≡ old ++ text_of (front ++ flat_map lines_of (range_with_len 0 (i + 1)))
more_of_each lines_of front i old text next so_far added =
    more_lines (front ++ flat_map lines_of (range_with_len 0 i)) (lines_of i) old text next so_far added
    ∙ ap (λ ls. old ++ text_of ls) (flat_map_more lines_of front (range_with_len 0 i) i ∙ ap (λ ks. front ++ flat_map lines_of ks) (sym (numbers_more 0 i i (omega arith))))
