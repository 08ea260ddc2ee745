-- The runs of white space and of visible bytes in a text.
use Rattle.std.proofs.Common.{◌≡◌, ℕ, suc, ◌+◌, ◌<◌, ◌≤◌, true, false, List, [], ◌∷◌, ◌++◌, length, take, drop, get_or, refl, ap, sym, ◌∙◌, inl, inr, eqb, arith, IsTrue, append_assoc, length-drop}
use Rattle.std.proofs.lemmas.Bool.{cases_Bool, eqb-true}
use Rattle.std.proofs.lemmas.Bool.Decides.{nat_tests}
use Rattle.sby_file.specs.Text.{is_blank, blanks_before, visible_before, words_of, put_first, front_trimmed, is_bracketed}

-- white space is ASCII
pub blank_is_ascii : (b : ℕ) → is_blank b ≡ true → b < 128
blank_is_ascii b t =
    elim (cases_Bool (eqb b 32)) [
      | inl e ↦ omega (arith, eqb-true b 32 e)
      | inr n ↦ elim (cases_Bool (eqb b 9)) [
        | inl e ↦ omega (arith, eqb-true b 9 e)
        | inr m ↦ omega (arith, eqb-true b 13 (rw (n, m) at t))
      ]
    ]

no_blank : (b : ℕ) (bs : List ℕ) → is_blank b ≡ false → words_of (b ∷ bs) ≡ words_of (drop (blanks_before (b ∷ bs)) (b ∷ bs))
no_blank b bs f = let z : blanks_before (b ∷ bs) ≡ 0 = rw f refl in ap (λ n. words_of (drop n (b ∷ bs))) (sym z)

-- white space at the front says nothing
pub blanks_skipped : (text : List ℕ) → words_of text ≡ words_of (drop (blanks_before text) text)
blanks_skipped [] = refl
blanks_skipped (b ∷ []) = elim (cases_Bool (is_blank b)) [ inl t ↦ rw t refl | inr f ↦ no_blank b [] f ]
blanks_skipped (b ∷ c ∷ bs) = elim (cases_Bool (is_blank b)) [ inl t ↦ rw t (blanks_skipped (c ∷ bs)) | inr f ↦ no_blank b (c ∷ bs) f ]

-- a text that begins with no white space
pub record IsCut (text : List ℕ) : Type 0 where
  pub none : blanks_before text ≡ 0

pub blanks_end : (text : List ℕ) → IsCut (drop (blanks_before text) text)
blanks_end [] = record { none = refl }
blanks_end (a ∷ more) =
    elim (cases_Bool (is_blank a)) [
      | inl t ↦ rw t (blanks_end more)
      | inr f ↦ rw f (record { none = rw f refl })
    ]

first_visible : (b : ℕ) (bs : List ℕ) → IsCut (b ∷ bs) → is_blank b ≡ false
first_visible b bs h =
    elim (cases_Bool (is_blank b)) [
      | inl t ↦ let n = rw t at h.none in absurd (omega (arith, n))
      | inr f ↦ f
    ]

word_split_at : (b : ℕ) (bs : List ℕ) → is_blank b ≡ false
    → words_of (b ∷ bs) ≡ take (visible_before (b ∷ bs)) (b ∷ bs) ∷ words_of (drop (visible_before (b ∷ bs)) (b ∷ bs))
word_split_at b [] v = rw v refl
word_split_at b (c ∷ bs) v =
    elim (cases_Bool (is_blank c)) [
      | inl t ↦ rw (v, t) refl
      | inr f ↦ rw (v, f) (ap (put_first b) (rw f at (word_split_at c bs f)))
    ]

-- the first word of a text, and what is after it
pub word_split : (text word behind : List ℕ) (n : ℕ) → IsCut text → eqb (length text) 0 ≡ false → n ≡ visible_before text → word ≡ take n text → behind ≡ drop n text
    → words_of text ≡ word ∷ words_of (drop (blanks_before behind) behind)
word_split [] word behind n h l e w k = cc
word_split (b ∷ bs) word behind n h l e w k =
    let s = word_split_at b bs (first_visible b bs h) in
    rw (← blanks_skipped behind, k, w, e) s

-- a word takes a byte at least
pub word_is_some : (text behind : List ℕ) (n : ℕ) → IsCut text → eqb (length text) 0 ≡ false → n ≡ visible_before text → n ≤ length text → length behind + n ≡ length text → length behind < length text
word_is_some [] behind n h l e w k = cc
word_is_some (b ∷ bs) behind n h l e w k =
    let v : visible_before (b ∷ bs) ≡ suc (visible_before bs) = rw (first_visible b bs h) refl in
    omega (arith, v, e)

-- the bracket in front is one byte
pub bracket_in_front : (t : List ℕ) → IsTrue (is_bracketed t) → (2 ≤ length t) × (get_or t 0 0 < 128)
bracket_in_front t h = (grind (arith, nat_tests), grind (arith, nat_tests))

-- the words before the first, and each word more
pub words_begin : (text rest : List ℕ) → rest ≡ front_trimmed text → (words_of rest ≡ words_of text) × IsCut rest
words_begin text rest e = (ap words_of e ∙ sym (blanks_skipped text), rw e (blanks_end text))

pub word_more : (old new all : List (List ℕ)) (text word behind rest : List ℕ) (n : ℕ) → old ++ words_of text ≡ all → IsCut text → eqb (length text) 0 ≡ false → n ≡ visible_before text
    → word ≡ take n text → behind ≡ drop n text → rest ≡ front_trimmed behind → new ≡ old ++ word ∷ [] → new ++ words_of rest ≡ all
word_more old new all text word behind rest n h u l e w k r m =
    let s : words_of text ≡ word ∷ words_of rest = word_split text word behind n u l e w k ∙ ap (λ t. word ∷ words_of t) (sym r) in
    rw (m, append_assoc) (rw s at h)

-- less is left after a word
pub word_less : (text behind rest : List ℕ) (n : ℕ) → IsCut text → eqb (length text) 0 ≡ false → n ≡ visible_before text → n ≤ length text → length behind + n ≡ length text
    → rest ≡ front_trimmed behind → length rest < length text
word_less text behind rest n h l e w k r =
    let less = word_is_some text behind n h l e w k in
    rw r (omega (arith, length-drop (blanks_before behind) behind))
