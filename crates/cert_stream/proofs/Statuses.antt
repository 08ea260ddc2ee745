-- The bytes of a comment and of a status line say what their words say, in a parser that reads them so.
use Rattle.std.proofs.Common.{◌≡◌, ℕ, ◌+◌, ◌-◌, Bool, true, false, cond, not, ◌&&◌, eqb, leb, List, [], ◌∷◌, ◌++◌, length, codes, refl, ap, sym, ◌∙◌, inl, inr, subst, arith}
use Rattle.std.proofs.lemmas.Bool.{cases_Bool, eqb-true}
use Rattle.std.specs.Prelude.{bytes_eq}
use Rattle.cert_stream.specs.Text.{Word, words_from, is_blank, NoFeed}
use Rattle.cert_stream.specs.Machine.{spelling}
use Rattle.cert_stream.specs.Stream.{is_unknown}
use Rattle.cert_stream.proofs.Wording.{has_word, words_visible}

abbrev unknown : List ℕ
unknown = codes "UNKNOWN"

-- no such word is UNKNOWN
abbrev Off : List ℕ → Type 0
Off p = (x : List ℕ) → bytes_eq (p ++ x) unknown ≡ false

-- What bytes say, of S, in the line that begins at `place`, after these many bytes of the stream, and whatever else is kept, of K: after a
-- comment's first byte, after s and white space, after letters of UNKNOWN, and after that word.
pub record Spots (S K : Type 0) : Type 0 where
  pub skip : Bool → ℕ → ℕ → K → List ℕ → List S
  pub gap : ℕ → ℕ → K → List ℕ → List S
  pub spelled : ℕ → ℕ → ℕ → K → List ℕ → List S
  pub whole : ℕ → ℕ → K → List ℕ → List S

-- byte by byte
pub record Steps (S K : Type 0) (s : Spots S K) : Type 0 where
  pub skip : (amid : Bool) (place taken : ℕ) (k : K) (b : ℕ) (bs : List ℕ) → eqb b 10 ≡ false → s.skip amid place taken k (b ∷ bs) ≡ s.skip amid place (taken + 1) k bs
  pub gap_blank : (place taken : ℕ) (k : K) (b : ℕ) (bs : List ℕ) → eqb b 10 ≡ false → is_blank b ≡ true → s.gap place taken k (b ∷ bs) ≡ s.gap place (taken + 1) k bs
  pub gap_visible : (place taken : ℕ) (k : K) (b : ℕ) (bs : List ℕ) → eqb b 10 ≡ false → is_blank b ≡ false
      → s.gap place taken k (b ∷ bs) ≡ cond (eqb b 85) (s.spelled 1 place (taken + 1) k bs) (s.skip false place (taken + 1) k bs)
  pub spelled_blank : (n place taken : ℕ) (k : K) (b : ℕ) (bs : List ℕ) → eqb b 10 ≡ false → is_blank b ≡ true
      → s.spelled n place taken k (b ∷ bs) ≡ cond (eqb n 7) (s.whole place (taken + 1) k bs) (s.skip false place (taken + 1) k bs)
  pub spelled_visible : (n place taken : ℕ) (k : K) (b : ℕ) (bs : List ℕ) → eqb b 10 ≡ false → is_blank b ≡ false
      → s.spelled n place taken k (b ∷ bs) ≡ cond (not (leb 7 n) && eqb b (spelling n)) (s.spelled (n + 1) place (taken + 1) k bs) (s.skip false place (taken + 1) k bs)
  pub whole_blank : (place taken : ℕ) (k : K) (b : ℕ) (bs : List ℕ) → eqb b 10 ≡ false → is_blank b ≡ true → s.whole place taken k (b ∷ bs) ≡ s.whole place (taken + 1) k bs
  pub whole_visible : (place taken : ℕ) (k : K) (b : ℕ) (bs : List ℕ) → eqb b 10 ≡ false → is_blank b ≡ false → s.whole place taken k (b ∷ bs) ≡ s.skip false place (taken + 1) k bs

-- and what is said at the end of their line
pub record Tails (S K : Type 0) (s : Spots S K) (said : S) (counted : Bool) (going more : List S) (feed : ℕ) (tail : List ℕ) : Type 0 where
  pub skip : (amid : Bool) (place : ℕ) (k : K) → s.skip amid place feed k tail ≡ cond amid going more
  pub gap : (place : ℕ) (k : K) → s.gap place feed k tail ≡ more
  pub spelled : (n place : ℕ) (k : K) → s.spelled n place feed k tail ≡ cond (eqb n 7 && counted) (said ∷ more) more
  pub whole : (place : ℕ) (k : K) → s.whole place feed k tail ≡ cond counted (said ∷ more) more

module _ (S K : Type 0) (s : Spots S K) (steps : Steps S K s) (said : S) (fed counted : Bool) (going more : List S) (feed : ℕ) (tail : List ℕ) (ends : Tails S K s said counted going more feed tail) where
  abbrev pub says : List Word → List S
  says ws = cond (is_unknown ws && counted) (said ∷ more) more

  pub skip_text : (amid : Bool) (place : ℕ) (t : List ℕ) (taken : ℕ) (k : K) → NoFeed t → taken + length t ≡ feed → s.skip amid place taken k (t ++ tail) ≡ cond amid going more
  skip_text amid place [] taken k h e = let z : taken ≡ feed = omega (arith, e) in ap (λ n. s.skip amid place n k tail) z ∙ ends.skip amid place k
  skip_text amid place (b ∷ bs) taken k (h, hs) e = steps.skip amid place taken k b (bs ++ tail) h ∙ skip_text amid place bs (taken + 1) k hs (omega (arith, e))

  not_alone : (w : Word) (ws : List Word) → bytes_eq w.text unknown ≡ false → says (w ∷ ws) ≡ more
  not_alone w [] e = rw e refl
  not_alone w (v ∷ ws) e = refl

  off_says : (at c : ℕ) (q bs : List ℕ) → Off (c ∷ q) → says (words_from fed at (c ∷ q) bs) ≡ more
  off_says at c q bs o =
      let w = has_word fed at c q bs in
      ap says w.are ∙ not_alone w.word w.others (ap (λ t. bytes_eq t unknown) w.text ∙ o w.more)

  two_words : (u : Word) (ws : List Word) (w : Word) (others : List Word) → ws ≡ w ∷ others → says (u ∷ ws) ≡ more
  two_words u ws w others e = ap (λ z. says (u ∷ z)) e

  -- after UNKNOWN and white space
  whole_text : (place : ℕ) (u : Word) → bytes_eq u.text unknown ≡ true → (t : List ℕ) (taken : ℕ) (k : K) → NoFeed t → taken + length t ≡ feed → s.whole place taken k (t ++ tail) ≡ says (u ∷ words_from fed taken [] t)
  whole_text place u x [] taken k h e =
      let z : taken ≡ feed = omega (arith, e) in
      ap (λ n. s.whole place n k tail) z ∙ ends.whole place k ∙ sym (ap (λ n. cond (n && counted) (said ∷ more) more) x)
  whole_text place u x (b ∷ bs) taken k (h, hs) e =
      elim (cases_Bool (is_blank b)) [
        | inl t ↦ steps.whole_blank place taken k b (bs ++ tail) h t ∙ whole_text place u x bs (taken + 1) k hs (omega (arith, e)) ∙ rw t refl
        | inr g ↦
            let w = has_word fed (taken + 1) b [] bs in
            steps.whole_visible place taken k b (bs ++ tail) h g ∙ skip_text false place bs (taken + 1) k hs (omega (arith, e)) ∙ rw g (sym (two_words u (words_from fed (taken + 1) (b ∷ []) bs) w.word w.others w.are))
      ]

  -- after the first bytes of a word, which are this many of UNKNOWN
  abbrev Spells : ℕ → List ℕ → Type 0
  Spells n p = (place : ℕ) (t : List ℕ) (taken : ℕ) (k : K) → NoFeed t → taken + length t ≡ feed → s.spelled n place taken k (t ++ tail) ≡ says (words_from fed taken p t)

  module _ (n m c d : ℕ) (q : List ℕ) (up : n + 1 ≡ m) (next_is : (b : ℕ) → (not (leb 7 n) && eqb b (spelling n)) ≡ eqb b c) (few : eqb n 7 ≡ false) (short : bytes_eq (d ∷ q) unknown ≡ false)
      (off : (b : ℕ) → eqb b c ≡ false → Off (d ∷ q ++ b ∷ [])) (next : Spells m (d ∷ q ++ c ∷ [])) where
    spells : Spells n (d ∷ q)
    spells place [] taken k h e =
        let z : taken ≡ feed = omega (arith, e) in
        let none : cond (eqb n 7 && counted) (said ∷ more) more ≡ says (words_from fed feed (d ∷ q) []) = rw (few, short) refl in
        subst (λ y. s.spelled n place y k tail ≡ says (words_from fed y (d ∷ q) [])) (sym z) (ends.spelled n place k ∙ none)
    spells place (b ∷ bs) taken k (h, hs) e =
        let z : taken + 1 + length bs ≡ feed = omega (arith, e) in
        elim (cases_Bool (is_blank b)) [
          | inl t ↦
              steps.spelled_blank n place taken k b (bs ++ tail) h t
              ∙ ap (λ y. cond y (s.whole place (taken + 1) k (bs ++ tail)) (s.skip false place (taken + 1) k (bs ++ tail))) few
              ∙ skip_text false place bs (taken + 1) k hs z
              ∙ rw t (sym (not_alone (record { place = taken - length (d ∷ q); text = d ∷ q; done = true }) (words_from fed (taken + 1) [] bs) short))
          | inr g ↦
              steps.spelled_visible n place taken k b (bs ++ tail) h g
              ∙ ap (λ y. cond y (s.spelled (n + 1) place (taken + 1) k (bs ++ tail)) (s.skip false place (taken + 1) k (bs ++ tail))) (next_is b)
              ∙ ap (λ y. cond (eqb b c) (s.spelled y place (taken + 1) k (bs ++ tail)) (s.skip false place (taken + 1) k (bs ++ tail))) up
              ∙ goes place b bs taken k hs z (eqb b c) refl
              ∙ sym (ap says (words_visible fed taken (d ∷ q) b bs g))
        ]
      where
        goes : (place b : ℕ) (bs : List ℕ) (taken : ℕ) (k : K) → NoFeed bs → taken + 1 + length bs ≡ feed → (x : Bool) → eqb b c ≡ x
            → cond x (s.spelled m place (taken + 1) k (bs ++ tail)) (s.skip false place (taken + 1) k (bs ++ tail)) ≡ says (words_from fed (taken + 1) (d ∷ q ++ b ∷ []) bs)
        goes place b bs taken k hs z true y = let i : b ≡ c = eqb-true b c y in next place bs (taken + 1) k hs z ∙ ap (λ x. says (words_from fed (taken + 1) (d ∷ q ++ x ∷ []) bs)) (sym i)
        goes place b bs taken k hs z false y = skip_text false place bs (taken + 1) k hs z ∙ sym (off_says (taken + 1) d (q ++ b ∷ []) bs (off b y))

  seven : Spells 7 (codes "UNKNOWN")
  seven place [] taken k h e =
      let z : taken ≡ feed = omega (arith, e) in subst (λ y. s.spelled 7 place y k tail ≡ says (words_from fed y (codes "UNKNOWN") [])) (sym z) (ends.spelled 7 place k)
  seven place (b ∷ bs) taken k (h, hs) e =
      let z : taken + 1 + length bs ≡ feed = omega (arith, e) in
      elim (cases_Bool (is_blank b)) [
        | inl t ↦ steps.spelled_blank 7 place taken k b (bs ++ tail) h t
            ∙ whole_text place (record { place = taken - length (codes "UNKNOWN"); text = codes "UNKNOWN"; done = true }) refl bs (taken + 1) k hs z ∙ rw t refl
        | inr g ↦ steps.spelled_visible 7 place taken k b (bs ++ tail) h g ∙ skip_text false place bs (taken + 1) k hs z ∙ rw g (sym (off_says (taken + 1) 85 (codes "NKNOWN" ++ b ∷ []) bs (λ x. refl)))
      ]

  six : Spells 6 (codes "UNKNOW")
  six = spells 6 7 78 85 (codes "NKNOW") refl (λ b. refl) refl refl (λ b f x. rw f refl) seven

  five : Spells 5 (codes "UNKNO")
  five = spells 5 6 87 85 (codes "NKNO") refl (λ b. refl) refl refl (λ b f x. rw f refl) six

  four : Spells 4 (codes "UNKN")
  four = spells 4 5 79 85 (codes "NKN") refl (λ b. refl) refl refl (λ b f x. rw f refl) five

  three : Spells 3 (codes "UNK")
  three = spells 3 4 78 85 (codes "NK") refl (λ b. refl) refl refl (λ b f x. rw f refl) four

  two : Spells 2 (codes "UN")
  two = spells 2 3 75 85 (codes "N") refl (λ b. refl) refl refl (λ b f x. rw f refl) three

  one : Spells 1 (codes "U")
  one = spells 1 2 78 85 [] refl (λ b. refl) refl refl (λ b f x. rw f refl) two

  -- after s and white space
  pub gap_text : (place : ℕ) (t : List ℕ) (taken : ℕ) (k : K) → NoFeed t → taken + length t ≡ feed → s.gap place taken k (t ++ tail) ≡ says (words_from fed taken [] t)
  gap_text place [] taken k h e = let z : taken ≡ feed = omega (arith, e) in ap (λ n. s.gap place n k tail) z ∙ ends.gap place k
  gap_text place (b ∷ bs) taken k (h, hs) e =
      let z : taken + 1 + length bs ≡ feed = omega (arith, e) in
      elim (cases_Bool (is_blank b)) [
        | inl t ↦ steps.gap_blank place taken k b (bs ++ tail) h t ∙ gap_text place bs (taken + 1) k hs z ∙ rw t refl
        | inr g ↦ steps.gap_visible place taken k b (bs ++ tail) h g ∙ elim (cases_Bool (eqb b 85)) [
          | inl u ↦
              let i : b ≡ 85 = eqb-true b 85 u in
              rw (g, u) (one place bs (taken + 1) k hs z ∙ ap (λ x. says (words_from fed (taken + 1) (x ∷ []) bs)) (sym i))
          | inr f ↦ rw (g, f) (skip_text false place bs (taken + 1) k hs z ∙ sym (off_says (taken + 1) b [] bs (λ x. rw f refl)))
        ]
      ]
