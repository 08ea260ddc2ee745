-- Stems and work folders.
use Rattle.std.proofs.Common.{◌≡◌, ◌∙◌, ◌==◌, ℕ, true, List, [], ◌∷◌, ◌++◌, Option, Some, None, length, get_or, drop, refl, sym, ap, arith, eqb-true, inl, inr}
use Rattle.std.proofs.lemmas.List.{append_assoc, append_cancel_right, length-append}
use Rattle.std.specs.Prelude.{codes, option_map, unwrap_or}
use Rattle.std.specs.Borrow.{Bor}
use Rattle.std.proofs.Math.Seq.{drop-append_seam}
use Rattle.sby_words.specs.Folders.{IsDesignStem, IsFolder, IsStem}

nil : (t : List ℕ) → length t ≡ 0 → t ≡ []
nil [] e = refl
nil (x ∷ xs) e = absurd (omega (arith, e))

-- the ends of equal texts are equal, where they are equally long
same_ends : (a b x y : List ℕ) → length x ≡ length y → a ++ x ≡ b ++ y → x ≡ y
same_ends a b x y long e =
    let short : length a ≡ length b = omega (arith, long, ap length e, length-append a x, length-append b y) in
    sym (drop-append_seam a x) ∙ ap (drop (length a)) e ∙ ap (λ n. drop n (b ++ y)) short ∙ drop-append_seam b y

-- no text ends in both `.il` and `.rtlil`
no_two_ends : (a b : List ℕ) → a ++ codes ".il" ≡ b ++ codes ".rtlil" → ⊥
no_two_ends a b e =
    let same = same_ends a (b ++ codes ".rt") (codes ".il") (codes "lil") refl (e ∙ sym (append_assoc b (codes ".rt") (codes "lil"))) in
    let bad : 46 ≡ 108 = ap (λ t. get_or t 0 0) same in
    absurd (omega (arith, bad))

pub design_stem_is_one : (design s t : List ℕ) → IsDesignStem design s → IsDesignStem design t → s ≡ t
design_stem_is_one design s t (inl a) (inl b) = append_cancel_right s t (codes ".il") (sym a ∙ b)
design_stem_is_one design s t (inl a) (inr (inl b)) = absurd (no_two_ends s t (sym a ∙ b))
design_stem_is_one design s t (inl a) (inr (inr b)) = absurd (b.1 (s, a))
design_stem_is_one design s t (inr (inl a)) (inl b) = absurd (no_two_ends t s (sym b ∙ a))
design_stem_is_one design s t (inr (inl a)) (inr (inl b)) = append_cancel_right s t (codes ".rtlil") (sym a ∙ b)
design_stem_is_one design s t (inr (inl a)) (inr (inr b)) = absurd (b.2 (s, a))
design_stem_is_one design s t (inr (inr a)) (inl b) = absurd (a.1 (t, b))
design_stem_is_one design s t (inr (inr a)) (inr (inl b)) = absurd (a.2 (t, b))
design_stem_is_one design s t (inr (inr a)) (inr (inr b)) = sym a.0 ∙ b.0

pub empty_is_no_stem : (directory : Option (List ℕ)) (design stem folder : List ℕ) → IsDesignStem design stem → (length stem == 0) ≡ true → IsFolder directory design folder → ⊥
empty_is_no_stem directory design stem folder is empty asked =
    let none : length stem ≡ 0 = eqb-true (length stem) 0 empty in
    asked.named (design_stem_is_one design asked.stem stem asked.is_stem is ∙ nil stem none)

pub empty_is_no_folder : (directory : Option (Bor (List ℕ))) (design : List ℕ) (stem chosen : Bor (List ℕ)) (folder : List ℕ) → IsDesignStem design stem.now
    → chosen ≡ unwrap_or directory stem → (length chosen.now == 0) ≡ true → IsFolder (option_map (λ s. s.now) directory) design folder → ⊥
empty_is_no_folder directory design stem chosen folder is which empty asked =
    let none : length chosen.now ≡ 0 = eqb-true (length chosen.now) 0 empty in
    let same : folder ≡ chosen.now = asked.chosen ∙ ap (λ s. unwrap_or (option_map (λ (d : Bor (List ℕ)). d.now) directory) s) (design_stem_is_one design asked.stem stem.now asked.is_stem is)
    ∙ chosen_text directory stem ∙ sym (ap (λ (b : Bor (List ℕ)). b.now) which) in
    asked.placed (same ∙ nil chosen.now none)
  where
    chosen_text : (o : Option (Bor (List ℕ))) (d : Bor (List ℕ)) → unwrap_or (option_map (λ b. b.now) o) d.now ≡ (unwrap_or o d).now
    chosen_text None d = refl
    chosen_text (Some b) d = refl

pub stem_is_one : (file s t : List ℕ) → IsStem file s → IsStem file t → s ≡ t
stem_is_one file s t (inl a) (inl b) = append_cancel_right s t (codes ".sby") (sym a ∙ b)
stem_is_one file s t (inl a) (inr b) = absurd (b.1 (s, a))
stem_is_one file s t (inr a) (inl b) = absurd (a.1 (t, b))
stem_is_one file s t (inr a) (inr b) = sym a.0 ∙ b.0
