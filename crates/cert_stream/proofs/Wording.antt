-- The words of a text.
use Rattle.std.proofs.Common.{◌≡◌, ℕ, suc, ◌+◌, ◌-◌, Bool, true, false, cond, eqb, List, [], ◌∷◌, ◌++◌, length, refl, ap, sym, ◌∙◌, inl, inr, arith, append_assoc}
use Rattle.std.proofs.lemmas.Bool.{cases_Bool}
use Rattle.std.proofs.lemmas.Bool.Decides.{nat_tests}
use Rattle.std.proofs.lemmas.List.{append-nil, length-append}
use Rattle.cert_stream.specs.Text.{Word, flush, words_from, is_blank}
use Rattle.cert_stream.specs.Telling.{Saying}
use Rattle.cert_stream.specs.Stream.{bad}
use Rattle.cert_stream.specs.declared.mode.ParseFaultKind.TheVariants.{BadLine}

-- a word that has begun
pub record HasWord (at : ℕ) (p : List ℕ) (ws : List Word) : Type 0 where
  pub word : Word
  pub others : List Word
  pub more : List ℕ
  pub are : ws ≡ word ∷ others
  pub place : word.place ≡ at - length p
  pub text : word.text ≡ p ++ more

pub has_word : (fed : Bool) (at : ℕ) (c : ℕ) (q bs : List ℕ) → HasWord at (c ∷ q) (words_from fed at (c ∷ q) bs)
has_word fed at c q [] = record { word = _; others = []; more = []; are = refl; place = refl; text = sym (append-nil (c ∷ q)) }
has_word fed at c q (b ∷ bs) =
    elim (cases_Bool (is_blank b)) [
      | inl t ↦ rw t (record { word = record { place = at - length (c ∷ q); text = c ∷ q; done = true }; others = words_from fed (at + 1) [] bs; more = []; are = refl; place = refl; text = sym (append-nil (c ∷ q)) })
      | inr f ↦ let h = has_word fed (at + 1) c (q ++ b ∷ []) bs in
          let len : length (q ++ b ∷ []) ≡ length q + 1 = length-append q (b ∷ []) in
          let w : HasWord at (c ∷ q) (words_from fed (at + 1) (c ∷ q ++ b ∷ []) bs) =
          record { word = h.word; others = h.others; more = b ∷ h.more; are = h.are; place = h.place ∙ omega (arith, len); text = h.text ∙ append_assoc (c ∷ q) (b ∷ []) h.more } in
          rw f w
    ]

pub words_blank : (fed : Bool) (at : ℕ) (p : List ℕ) (b : ℕ) (bs : List ℕ) → is_blank b ≡ true → words_from fed at p (b ∷ bs) ≡ flush true at p ++ words_from fed (at + 1) [] bs
words_blank fed at p b bs t = rw t refl

pub words_visible : (fed : Bool) (at : ℕ) (p : List ℕ) (b : ℕ) (bs : List ℕ) → is_blank b ≡ false → words_from fed at p (b ∷ bs) ≡ words_from fed (at + 1) (p ++ b ∷ []) bs
words_visible fed at p b bs t = rw t refl

-- The first word has to be one byte alone, or `bad` is said.
module _ {S : Type 0} (bad : ℕ → List S) where
  -- what is said after a word of one byte, and of a longer word with that first byte: byte number `at` follows it
  abbrev pub after_word : (List Word → List S) → Bool → ℕ → List ℕ → List S
  after_word f fed at [] = f []
  after_word f fed at (c ∷ cs) = cond (is_blank c) (f (words_from fed (at + 1) [] cs)) (bad at)

  abbrev pub word_alone : (List Word → List S) → List Word → List S
  word_alone f [] = []
  word_alone f (w ∷ ws) = cond (eqb (length w.text) 1) (f ws) (bad (w.place + 1))

  not_one : (w : Word) (b c : ℕ) (x : List ℕ) (said : List S) → w.text ≡ b ∷ c ∷ x → cond (eqb (length w.text) 1) said (bad (w.place + 1)) ≡ bad (w.place + 1)
  not_one w b c x said e =
      let l : length w.text ≡ suc (suc (length x)) = ap length e in
      let f : eqb (length w.text) 1 ≡ false = grind (arith, nat_tests, l) in
      rw f refl

  pub word_alone_says : (f : List Word → List S) (fed : Bool) (at b : ℕ) (bs : List ℕ) → word_alone f (words_from fed (at + 1) (b ∷ []) bs) ≡ after_word f fed (at + 1) bs
  word_alone_says f fed at b [] = refl
  word_alone_says f fed at b (c ∷ cs) =
      elim (cases_Bool (is_blank c)) [
        | inl t ↦ rw t refl
        | inr g ↦
            let w = has_word fed (at + 1 + 1) b (c ∷ []) cs in
            let k : w.word.place + 1 ≡ at + 1 = omega (arith, w.place) in
            rw g (ap (word_alone f) w.are ∙ not_one w.word b c w.more (f w.others) w.text ∙ ap bad k)
      ]

abbrev pub after_first : (List Word → List Saying) → Bool → ℕ → List ℕ → List Saying
after_first = after_word (bad BadLine)

abbrev pub first_alone : (List Word → List Saying) → List Word → List Saying
first_alone = word_alone (bad BadLine)

pub alone_says : (f : List Word → List Saying) (fed : Bool) (at b : ℕ) (bs : List ℕ) → first_alone f (words_from fed (at + 1) (b ∷ []) bs) ≡ after_first f fed (at + 1) bs
alone_says = word_alone_says (bad BadLine)
