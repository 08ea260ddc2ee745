-- Lines and words by the places at which they end.
use Rattle.std.proofs.Common.{◌≡◌, ◌⊎◌, ℕ, zero, suc, ◌+◌, ◌<◌, ◌≤◌, Bool, true, false, not, List, [], ◌∷◌, length, take, drop, refl, sym, ap, ◌∙◌, inl, inr, arith}
use Rattle.std.specs.List.{position_or_len}
use Rattle.btor_text.specs.Grammar.{is_blank, is_comment, is_feed, lines_of, put_first, uncommented, words_of}
use Rattle.btor_text.specs.Reading.{cons_word}

one_more : (n : ℕ) → 1 + n ≡ suc n
one_more n = omega arith

-- a test passes or not
tested : (b : Bool) → (b ≡ true) ⊎ (b ≡ false)
tested true = inl refl
tested false = inr refl

-- the place of the first that passes, in a list that begins with one that does, or doesn't
at_first : (p : ℕ → Bool) (b : ℕ) (bs : List ℕ) → p b ≡ true → position_or_len p (b ∷ bs) ≡ 0
at_first p b bs e = rw e refl

past_first : (p : ℕ → Bool) (b : ℕ) (bs : List ℕ) → p b ≡ false → position_or_len p (b ∷ bs) ≡ suc (position_or_len p bs)
past_first p b bs e = rw e (one_more (position_or_len p bs))

-- a byte more in the first line
line_grows : (b : ℕ) (ts us : List (List ℕ)) (t : List ℕ) → ts ≡ t ∷ us → put_first b ts ≡ (b ∷ t) ∷ us
line_grows b ts us t e = rw e refl

pub line_cut : (b : ℕ) (bs : List ℕ) → lines_of (b ∷ bs) ≡ take (position_or_len is_feed (b ∷ bs)) (b ∷ bs) ∷ lines_of (drop (suc (position_or_len is_feed (b ∷ bs))) (b ∷ bs))
line_cut b [] =
    elim (tested (is_feed b)) as (λ _. lines_of (b ∷ []) ≡ take (position_or_len is_feed (b ∷ [])) (b ∷ []) ∷ lines_of (drop (suc (position_or_len is_feed (b ∷ []))) (b ∷ []))) [
      | inl e ↦ rw (at_first is_feed b [] e) (rw e refl)
      | inr e ↦ rw (past_first is_feed b [] e) (rw e refl)
    ]
line_cut b (c ∷ bs) =
    let rest = line_cut c bs in
    elim (tested (is_feed b)) as (λ _. lines_of (b ∷ c ∷ bs) ≡ take (position_or_len is_feed (b ∷ c ∷ bs)) (b ∷ c ∷ bs) ∷ lines_of (drop (suc (position_or_len is_feed (b ∷ c ∷ bs))) (b ∷ c ∷ bs))) [
      | inl e ↦ rw (at_first is_feed b (c ∷ bs) e) (rw e refl)
      | inr e ↦
          rw (past_first is_feed b (c ∷ bs) e)
          (rw e (line_grows b (lines_of (c ∷ bs)) (lines_of (drop (suc (position_or_len is_feed (c ∷ bs))) (c ∷ bs))) (take (position_or_len is_feed (c ∷ bs)) (c ∷ bs)) rest))
    ]

pub comment_cut : (text : List ℕ) → uncommented text ≡ take (position_or_len is_comment text) text
comment_cut [] = refl
comment_cut (b ∷ bs) =
    elim (tested (is_comment b)) as (λ _. uncommented (b ∷ bs) ≡ take (position_or_len is_comment (b ∷ bs)) (b ∷ bs)) [
      | inl e ↦ rw (at_first is_comment b bs e) (rw e refl)
      | inr e ↦ rw (past_first is_comment b bs e) (rw e (ap (λ (t : List ℕ). b ∷ t) (comment_cut bs)))
    ]

blank_first : (b : ℕ) (bs : List ℕ) → is_blank b ≡ true → words_of (b ∷ bs) ≡ words_of bs
blank_first b [] e = rw e refl
blank_first b (c ∷ bs) e = rw e refl

-- blanks in front are passed over
pub words_visible : (text : List ℕ) → words_of text ≡ words_of (drop (position_or_len (λ b. not (is_blank b)) text) text)
words_visible [] = refl
words_visible (b ∷ bs) =
    elim (tested (is_blank b)) as (λ _. words_of (b ∷ bs) ≡ words_of (drop (position_or_len (λ c. not (is_blank c)) (b ∷ bs)) (b ∷ bs))) [
      | inl e ↦ let p : not (is_blank b) ≡ false = rw e refl in rw (past_first (λ c. not (is_blank c)) b bs p) (blank_first b bs e ∙ words_visible bs)
      | inr e ↦ let p : not (is_blank b) ≡ true = rw e refl in rw (at_first (λ c. not (is_blank c)) b bs p) refl
    ]

-- a word that ends at a blank or at the end
word_ends : (b : ℕ) (bs : List ℕ) → is_blank b ≡ false → words_of (b ∷ bs) ≡ (b ∷ take (position_or_len is_blank bs) bs) ∷ words_of (drop (position_or_len is_blank bs) bs)
word_ends b [] e = rw e refl
word_ends b (c ∷ bs) e =
    elim (tested (is_blank c)) as (λ _. words_of (b ∷ c ∷ bs) ≡ (b ∷ take (position_or_len is_blank (c ∷ bs)) (c ∷ bs)) ∷ words_of (drop (position_or_len is_blank (c ∷ bs)) (c ∷ bs))) [
      | inl f ↦ rw (at_first is_blank c bs f) (rw (e, f) refl)
      | inr f ↦
          let rest = word_ends c bs f in
          rw (past_first is_blank c bs f) (rw (e, f) (line_grows b (words_of (c ∷ bs)) (words_of (drop (position_or_len is_blank bs) bs)) (c ∷ take (position_or_len is_blank bs) bs) rest))
    ]

-- a list begins with no such byte
abbrev pub Begins : (ℕ → Bool) → List ℕ → Type 0
Begins p [] = Unit {0}
Begins p (b ∷ bs) = p b ≡ false

pub stops_there : (p : ℕ → Bool) (text : List ℕ) → Begins (λ b. not (p b)) (drop (position_or_len p text) text)
stops_there p [] = tt
stops_there p (b ∷ bs) =
    elim (tested (p b)) as (λ _. Begins (λ c. not (p c)) (drop (position_or_len p (b ∷ bs)) (b ∷ bs))) [
      | inl e ↦ let q : not (p b) ≡ false = rw e refl in rw (at_first p b bs e) q
      | inr e ↦ rw (past_first p b bs e) (stops_there p bs)
    ]

not_not : (b : Bool) → not (not b) ≡ b
not_not true = refl
not_not false = refl

-- where no blank stands in front the first word ends at the first blank
pub word_cut : (text : List ℕ) → Begins (λ b. not (not (is_blank b))) text → words_of text ≡ cons_word (take (position_or_len is_blank text) text) (words_of (drop (position_or_len is_blank text) text))
word_cut [] h = refl
word_cut (b ∷ bs) h = let e : is_blank b ≡ false = sym (not_not (is_blank b)) ∙ h in rw (past_first is_blank b bs e) (word_ends b bs e)

pub past_end : (text : List ℕ) (n : ℕ) → length text ≤ n → drop n text ≡ drop (suc n) text
past_end [] zero h = refl
past_end [] (suc n) h = refl
past_end (b ∷ bs) zero h = absurd (omega arith)
past_end (b ∷ bs) (suc n) h = past_end bs n (omega arith)

pub text_cut : (text : List ℕ) → 0 < length text → lines_of text ≡ take (position_or_len is_feed text) text ∷ lines_of (drop (suc (position_or_len is_feed text)) text)
text_cut [] h = absurd (omega arith)
text_cut (b ∷ bs) h = line_cut b bs

-- no word is cut off only where there is none
pub no_word : (text : List ℕ) → Begins (λ b. not (not (is_blank b))) text → take (position_or_len is_blank text) text ≡ [] → words_of text ≡ []
no_word [] h e = refl
no_word (b ∷ bs) h e =
    let visible : is_blank b ≡ false = sym (not_not (is_blank b)) ∙ h in
    let some : b ∷ take (position_or_len is_blank bs) bs ≡ [] = rw (past_first is_blank b bs visible) at e in
    absurd (cc)
