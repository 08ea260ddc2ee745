-- Bytes one after the other are read as lines.
use Rattle.std.proofs.Common.{◌≡◌, ◌≢◌, ℕ, zero, suc, ◌+◌, ◌-◌, ◌<◌, ◌≤◌, Bool, true, false, cond, ◌&&◌, ◌||◌, eqb, leb, List, [], ◌∷◌, ◌++◌, length, take, Some, None, refl, ap, sym, ◌∙◌, inl, inr, subst, arith, append_assoc}
use Rattle.std.specs.Prelude.{bytes_eq, slice_get}
use Rattle.std.proofs.lemmas.Bool.{cases_Bool, eqb-false, eqb-true, leb-false, leb-true}
use Rattle.std.proofs.lemmas.List.{append-nil}
use Rattle.std.proofs.lemmas.Slice.Eq.{bytes_eq-Decides}
use Rattle.cert_stream.specs.Stream.{is_unknown}
use Rattle.cert_stream.specs.Text.{Word, flush, is_blank, lines_of, put_first, words_from}
use Rattle.cert_stream.proofs.Streams.{some_line}
use Rattle.cert_stream.proofs.Wording.{has_word}
use Rattle.cert_judge.specs.Output.{any_values, blanked, claim_read, has_values, is_alone, is_claim, is_unknown_line, is_values_line, line_read, lines_read, stream_of, word_read}
use Rattle.cert_judge.specs.Spots.{amid_end, amid_given, amid_next, amid_unknown, given, given_at_end, given_by, is_letter, is_values, next_spot, parted, spot_after, values_after, values_at_end, next_values}
use Rattle.cert_judge.specs.declared.spot.AmidSpot.{AmidSpot}
use Rattle.cert_judge.specs.declared.spot.AmidSpot.TheVariants.{Start as LineStart, Held as HeldHead, Within as InLine, Spelled, Whole, Passed}
use Rattle.cert_judge.specs.declared.spot.Spot.{Spot}
use Rattle.cert_judge.specs.declared.spot.Spot.TheVariants.{Start, Held, Within, Amid}

or_false : (x : Bool) → (x || false) ≡ x
or_false true = refl
or_false false = refl

and_false : (x : Bool) → (x && false) ≡ false
and_false true = refl
and_false false = refl

pub and_true : (x : Bool) → (x && true) ≡ x
and_true true = refl
and_true false = refl

-- words with the same texts
abbrev Alike : List Word → List Word → Type 0
Alike [] [] = Unit {0}
Alike [] (v ∷ vs) = ⊥
Alike (w ∷ ws) [] = ⊥
Alike (w ∷ ws) (v ∷ vs) = (w.text ≡ v.text) × Alike ws vs

alike_flush : (d e : Bool) (a b : ℕ) (p : List ℕ) (ws vs : List Word) → Alike ws vs → Alike (flush d a p ++ ws) (flush e b p ++ vs)
alike_flush d e a b [] ws vs h = h
alike_flush d e a b (c ∷ q) ws vs h = (refl, h)

alike_words : (d e : Bool) (a b : ℕ) (p bs : List ℕ) → Alike (words_from d a p bs) (words_from e b p bs)
alike_words d e a b p [] = alike_flush d e a b p [] [] tt
alike_words d e a b p (c ∷ cs) =
    elim (cases_Bool (is_blank c)) [
      | inl t ↦ rw t (alike_flush true true a b p (words_from d (a + 1) [] cs) (words_from e (b + 1) [] cs) (alike_words d e (a + 1) (b + 1) [] cs))
      | inr f ↦ rw f (alike_words d e (a + 1) (b + 1) (p ++ c ∷ []) cs)
    ]

unknown_alike : (ws vs : List Word) → Alike ws vs → is_unknown ws ≡ is_unknown vs
unknown_alike [] [] h = refl
unknown_alike [] (v ∷ vs) h = absurd h
unknown_alike (w ∷ ws) [] h = absurd h
unknown_alike (w ∷ []) (v ∷ []) h = rw h.0 refl
unknown_alike (w ∷ []) (v ∷ u ∷ vs) h = absurd h.1
unknown_alike (w ∷ u ∷ ws) (v ∷ []) h = absurd h.1
unknown_alike (w ∷ u ∷ ws) (v ∷ x ∷ vs) h = refl

pub unknown_anywhere : (d : Bool) (a b : ℕ) (p bs : List ℕ) → is_unknown (words_from d a p bs) ≡ is_unknown (words_from true b p bs)
unknown_anywhere d a b p bs = unknown_alike (words_from d a p bs) (words_from true b p bs) (alike_words d true a b p bs)

-- letters, one after the other
abbrev unknown : List ℕ
unknown = 85 ∷ 78 ∷ 75 ∷ 78 ∷ 79 ∷ 87 ∷ 78 ∷ []

abbrev letter_at : List ℕ → ℕ → ℕ → Bool
letter_at u n b = elim (slice_get u n) [ None ↦ false | Some c ↦ eqb c b ]

letter_more : (u : List ℕ) (n b : ℕ) → letter_at u n b ≡ true → take n u ++ b ∷ [] ≡ take (n + 1) u
letter_more [] n b h = cc
letter_more (c ∷ u) zero b h = ap (λ z. z ∷ []) (sym (eqb-true c b h))
letter_more (c ∷ u) (suc n) b h = let k : suc (n + 1) ≡ suc n + 1 = omega arith in ap (λ z. c ∷ z) (letter_more u n b h) ∙ ap (λ m. take m (c ∷ u)) k

eqb_same : (b : ℕ) → eqb b b ≡ true
eqb_same b = elim (cases_Bool (eqb b b)) [ inl t ↦ t | inr f ↦ absurd (eqb-false b b f refl) ]

letter_off : (u : List ℕ) (n b : ℕ) (x : List ℕ) → letter_at u n b ≡ false → take n u ++ b ∷ x ≢ u
letter_off [] zero b x h e = cc
letter_off [] (suc n) b x h e = cc
letter_off (c ∷ u) zero b x h e = let i : b ≡ c = cc in let k : eqb c b ≡ true = subst (λ z. eqb z b ≡ true) i (eqb_same b) in let q : true ≡ false = sym k ∙ h in cc
letter_off (c ∷ u) (suc n) b x h e = let k : take n u ++ b ∷ x ≡ u = cc in letter_off u n b x h k

take_all : (u : List ℕ) (n : ℕ) → length u ≤ n → take n u ≡ u
take_all [] zero l = refl
take_all [] (suc n) l = refl
take_all (c ∷ u) zero l = absurd (omega (arith, l))
take_all (c ∷ u) (suc n) l = ap (λ z. c ∷ z) (take_all u n (omega (arith, l)))

take_short : (u : List ℕ) (n : ℕ) → n < length u → take n u ≢ u
take_short [] n l e = absurd (omega (arith, l))
take_short (c ∷ u) zero l e = cc
take_short (c ∷ u) (suc n) l e = let k : take n u ≡ u = cc in take_short u n (omega (arith, l)) k

not_unknown : (t : List ℕ) → t ≢ unknown → bytes_eq t unknown ≡ false
not_unknown t n = elim (cases_Bool (bytes_eq t unknown)) [ inl k ↦ absurd (n ((bytes_eq-Decides t unknown).0 k)) | inr f ↦ f ]

-- whether the words of a text, of whose first word these bytes were read, are UNKNOWN alone
abbrev says : List ℕ → List ℕ → Bool
says p t = is_unknown (words_from true 0 p t)

says_at : (at : ℕ) (p t : List ℕ) → is_unknown (words_from true at p t) ≡ says p t
says_at at p t = unknown_anywhere true at 0 p t

other_word : (w : Word) (ws : List Word) → w.text ≢ unknown → is_unknown (w ∷ ws) ≡ false
other_word w [] n = not_unknown w.text n
other_word w (v ∷ ws) n = refl

two_words : (u : Word) (ws : List Word) (w : Word) (others : List Word) → ws ≡ w ∷ others → is_unknown (u ∷ ws) ≡ false
two_words u ws w others e = ap (λ z. is_unknown (u ∷ z)) e

says_off : (at c : ℕ) (q bs : List ℕ) → ((x : List ℕ) → (c ∷ q) ++ x ≢ unknown) → is_unknown (words_from true at (c ∷ q) bs) ≡ false
says_off at c q bs n =
    let w = has_word true at c q bs in
    ap is_unknown w.are ∙ other_word w.word w.others (λ e. n w.more (sym w.text ∙ e))

-- the word UNKNOWN
abbrev whole : Word
whole = record { place = 0; text = unknown; done = true }

-- letters of it, and what comes after them
abbrev letters : ℕ → List ℕ
letters n = take n unknown

letters_end : (n : ℕ) → says (letters n) [] ≡ leb 7 n
letters_end zero = refl
letters_end (suc n) =
    elim (cases_Bool (leb 7 (suc n))) [
      | inl t ↦ ap (λ z. says z []) (take_all unknown (suc n) (leb-true 7 (suc n) t)) ∙ sym t
      | inr f ↦ of (letters (suc n)) (take_short unknown (suc n) (leb-false 7 (suc n) f)) ∙ sym f
    ]
  where
    of : (p : List ℕ) → p ≢ unknown → says p [] ≡ false
    of [] n = refl
    of (c ∷ q) n = not_unknown (c ∷ q) n

-- white space after them
letters_some : (n : ℕ) → eqb n 0 ≡ false → letters n ≢ []
letters_some zero z e = cc
letters_some (suc n) z e = cc

flush_other : (at : ℕ) (p : List ℕ) (ws : List Word) → p ≢ [] → p ≢ unknown → is_unknown (flush true at p ++ ws) ≡ false
flush_other at [] ws s n = absurd (s refl)
flush_other at (c ∷ q) ws s n = other_word (record { place = at - length (c ∷ q); text = c ∷ q; done = true }) ws n

-- whether the rest of a line makes it s UNKNOWN, amid values
abbrev rest_unknown : AmidSpot → List ℕ → Bool
rest_unknown LineStart t = is_unknown_line t
rest_unknown (HeldHead head) t = eqb head 115 && (is_alone t && says [] t)
rest_unknown InLine t = false
rest_unknown (Spelled n) t = says (letters n) t
rest_unknown Whole t = is_unknown (whole ∷ words_from true 0 [] t)
rest_unknown Passed t = false

after_blank : (n at : ℕ) (t : List ℕ) → is_unknown (flush true at (letters n) ++ words_from true (at + 1) [] t) ≡ rest_unknown (parted n) t
after_blank n at t =
    elim (cases_Bool (eqb n 0)) [
      | inl z ↦ subst (λ m. is_unknown (flush true at (letters m) ++ words_from true (at + 1) [] t) ≡ rest_unknown (parted m) t) (sym (eqb-true n 0 z)) (says_at (at + 1) [] t)
      | inr z ↦ elim (cases_Bool (leb 7 n)) [
        | inl l ↦
            rw (z, l) (ap (λ p. is_unknown (flush true at p ++ words_from true (at + 1) [] t)) (take_all unknown n (leb-true 7 n l))
            ∙ unknown_alike (flush true at unknown ++ words_from true (at + 1) [] t) (whole ∷ words_from true 0 [] t) (refl, alike_words true true (at + 1) 0 [] t))
        | inr l ↦ rw (z, l) (flush_other at (letters n) (words_from true (at + 1) [] t) (letters_some n z) (take_short unknown n (leb-false 7 n l)))
      ]
    ]

no_more : (u x y : List ℕ) (b : ℕ) → ((z : List ℕ) → u ++ b ∷ z ≢ unknown) → (u ++ b ∷ x) ++ y ≢ unknown
no_more u x y b n e = n (x ++ y) (sym (append_assoc u (b ∷ x) y) ∙ e)

after_other : (n at b : ℕ) (t : List ℕ) → is_letter n b ≡ false → is_unknown (words_from true at (letters n ++ b ∷ []) t) ≡ false
after_other n at b t h = of (letters n) (λ x. letter_off unknown n b x h)
  where
    of : (p : List ℕ) → ((x : List ℕ) → p ++ b ∷ x ≢ unknown) → is_unknown (words_from true at (p ++ b ∷ []) t) ≡ false
    of [] n = says_off at b [] t (λ x. n x)
    of (c ∷ q) n = says_off at c (q ++ b ∷ []) t (λ x. no_more (c ∷ q) [] x b n)

-- a byte of a line tells, and the line after it
spelled_says : (n b : ℕ) (t : List ℕ) → rest_unknown (amid_next (Spelled n) b) t ≡ says (letters n) (b ∷ t)
spelled_says n b t =
    elim (cases_Bool (is_blank b)) [
      | inl k ↦ rw k (sym (after_blank n 0 t))
      | inr k ↦ elim (cases_Bool (is_letter n b)) [
        | inl l ↦ rw (k, l) (sym (ap (λ p. is_unknown (words_from true 1 p t)) (letter_more unknown n b l) ∙ says_at 1 (letters (n + 1)) t))
        | inr l ↦ rw (k, l) (sym (after_other n 1 b t l))
      ]
    ]

whole_says : (b : ℕ) (t : List ℕ) → rest_unknown (amid_next Whole b) t ≡ is_unknown (whole ∷ words_from true 0 [] (b ∷ t))
whole_says b t =
    elim (cases_Bool (is_blank b)) [
      | inl k ↦ rw k (unknown_alike (whole ∷ words_from true 0 [] t) (whole ∷ words_from true 1 [] t) (refl, alike_words true true 0 1 [] t))
      | inr k ↦ let w = has_word true 1 b [] t in rw k (sym (two_words whole (words_from true 1 (b ∷ []) t) w.word w.others w.are))
    ]

no_claim : (b : ℕ) → is_claim b ≡ false → (eqb b 115 ≡ false) × (eqb b 118 ≡ false)
no_claim b h = of (eqb b 115) (eqb b 118) h
  where
    of : (x y : Bool) → (x || y) ≡ false → (x ≡ false) × (y ≡ false)
    of true y e = cc
    of false y e = (refl, e)

start_says : (b : ℕ) (t : List ℕ) → rest_unknown (amid_next LineStart b) t ≡ is_unknown_line (b ∷ t)
start_says b t =
    elim (cases_Bool (is_blank b)) [
      | inl k ↦ rw k refl
      | inr k ↦ elim (cases_Bool (is_claim b)) [ inl l ↦ rw (k, l) refl | inr l ↦ rw (k, l) (sym (ap (λ z. z && (is_alone t && says [] t)) (no_claim b l).0)) ]
    ]

held_says : (head b : ℕ) (t : List ℕ) → rest_unknown (amid_next (HeldHead head) b) t ≡ (eqb head 115 && (is_blank b && says [] (b ∷ t)))
held_says head b t =
    elim (cases_Bool (eqb head 115)) [
      | inr h ↦ rw h refl
      | inl h ↦ elim (cases_Bool (is_blank b)) [ inl k ↦ rw (h, k) (sym (says_at 1 [] t)) | inr k ↦ rw (h, k) refl ]
    ]

amid_says : (spot : AmidSpot) (b : ℕ) (t : List ℕ) → rest_unknown (amid_next spot b) t ≡ rest_unknown spot (b ∷ t)
amid_says LineStart b t = start_says b t
amid_says (HeldHead head) b t = held_says head b t
amid_says InLine b t = refl
amid_says (Spelled n) b t = spelled_says n b t
amid_says Whole b t = whole_says b t
amid_says Passed b t = refl

end_says : (spot : AmidSpot) → amid_unknown spot ≡ rest_unknown spot []
end_says LineStart = refl
end_says (HeldHead head) = sym (and_false (eqb head 115))
end_says InLine = refl
end_says (Spelled n) = sym (letters_end n)
end_says Whole = refl
end_says Passed = refl

-- the rest of a line, amid values
abbrev amid_text : Bool → AmidSpot → List ℕ → List ℕ
amid_text ended LineStart t = line_read ended true t
amid_text ended (HeldHead head) t = word_read ended true head t
amid_text ended InLine t = t
amid_text ended (Spelled n) t = blanked t
amid_text ended Whole t = blanked t
amid_text ended Passed t = blanked t

-- in a status line
abbrev IsStatus : AmidSpot → Type 0
IsStatus LineStart = ⊥
IsStatus (HeldHead head) = ⊥
IsStatus InLine = ⊥
IsStatus (Spelled n) = Unit {0}
IsStatus Whole = Unit {0}
IsStatus Passed = Unit {0}

spelled_text : (ended : Bool) (spot : AmidSpot) (t : List ℕ) → IsStatus spot → amid_text ended spot t ≡ blanked t
spelled_text ended LineStart t h = absurd h
spelled_text ended (HeldHead head) t h = absurd h
spelled_text ended InLine t h = absurd h
spelled_text ended (Spelled n) t h = refl
spelled_text ended Whole t h = refl
spelled_text ended Passed t h = refl

spelled_status : (n b : ℕ) → IsStatus (amid_next (Spelled n) b)
spelled_status n b =
    elim (cases_Bool (is_blank b)) [
      | inl k ↦ elim (cases_Bool (eqb n 0)) [
        | inl z ↦ rw (k, z) tt
        | inr z ↦ elim (cases_Bool (leb 7 n)) [ inl l ↦ rw (k, z, l) tt | inr l ↦ rw (k, z, l) tt ]
      ]
      | inr k ↦ elim (cases_Bool (is_letter n b)) [ inl l ↦ rw (k, l) tt | inr l ↦ rw (k, l) tt ]
    ]

whole_status : (b : ℕ) → IsStatus (amid_next Whole b)
whole_status b = elim (cases_Bool (is_blank b)) [ inl k ↦ rw k tt | inr k ↦ rw k tt ]

amid_read : (ended : Bool) (spot : AmidSpot) (b : ℕ) (t : List ℕ) → eqb b 10 ≡ false → amid_given spot b ++ amid_text ended (amid_next spot b) t ≡ amid_text ended spot (b ∷ t)
amid_read ended LineStart b t f =
    elim (cases_Bool (is_blank b)) [
      | inl k ↦ rw k refl
      | inr k ↦ elim (cases_Bool (is_claim b)) [ inl l ↦ rw (k, l) refl | inr l ↦ rw (k, l) refl ]
    ]
amid_read ended (HeldHead head) b t f =
    elim (cases_Bool (eqb head 115 && is_blank b)) [ inl k ↦ rw k refl | inr k ↦ rw (k, f) refl ]
amid_read ended InLine b t f = refl
amid_read ended (Spelled n) b t f = ap (λ z. 32 ∷ z) (spelled_text ended (amid_next (Spelled n) b) t (spelled_status n b))
amid_read ended Whole b t f = ap (λ z. 32 ∷ z) (spelled_text ended (amid_next Whole b) t (whole_status b))
amid_read ended Passed b t f = refl

amid_last : (ended : Bool) (spot : AmidSpot) → cond ended (amid_end spot) [] ≡ amid_text ended spot []
amid_last true LineStart = refl
amid_last false LineStart = refl
amid_last true (HeldHead head) = elim (cases_Bool (eqb head 115)) [ inl k ↦ rw k refl | inr k ↦ rw k refl ]
amid_last false (HeldHead head) = elim (cases_Bool (eqb head 115)) [ inl k ↦ rw k refl | inr k ↦ rw k refl ]
amid_last true InLine = refl
amid_last false InLine = refl
amid_last true (Spelled n) = refl
amid_last false (Spelled n) = refl
amid_last true Whole = refl
amid_last false Whole = refl
amid_last true Passed = refl
amid_last false Passed = refl

-- the rest of a line
abbrev text_read : Bool → Spot → List ℕ → List ℕ
text_read ended Start t = line_read ended false t
text_read ended (Held head) t = claim_read ended head t
text_read ended Within t = t
text_read ended (Amid spot) t = amid_text ended spot t

-- its line feed
abbrev feed_of : Spot → List ℕ → ℕ
feed_of Start t = 10
feed_of (Held head) t = 10
feed_of Within t = 10
feed_of (Amid spot) t = cond (rest_unknown spot t) 115 10

-- and whether the next line is amid values
abbrev goes_amid : Spot → List ℕ → Bool
goes_amid Start t = is_values_line t
goes_amid (Held head) t = is_values head && is_alone t
goes_amid Within t = false
goes_amid (Amid spot) t = true

-- the rest of an output
abbrev rest_read : Bool → Spot → List (List ℕ) → List ℕ
rest_read ended spot [] = []
rest_read ended spot (t ∷ []) = text_read ended spot t
rest_read ended spot (t ∷ u ∷ ts) = text_read true spot t ++ feed_of spot t ∷ lines_read ended (goes_amid spot t) (u ∷ ts)

abbrev begin : Bool → Spot
begin amid = cond amid (Amid LineStart) Start

start_read : (ended amid : Bool) (ts : List (List ℕ)) → rest_read ended (begin amid) ts ≡ lines_read ended amid ts
start_read ended amid [] = refl
start_read ended true (t ∷ []) = refl
start_read ended false (t ∷ []) = refl
start_read ended true (t ∷ u ∷ ts) = refl
start_read ended false (t ∷ u ∷ ts) = refl

-- a byte of a line
byte_read : (ended : Bool) (spot : Spot) (b : ℕ) (t : List ℕ) → eqb b 10 ≡ false → given_by spot b ++ text_read ended (next_spot spot b) t ≡ text_read ended spot (b ∷ t)
byte_read ended Start b t f =
    elim (cases_Bool (is_blank b)) [
      | inl k ↦ rw (f, k) refl
      | inr k ↦ elim (cases_Bool (is_claim b)) [ inl l ↦ rw (f, k, l) refl | inr l ↦ rw (f, k, l) refl ]
    ]
byte_read ended (Held head) b t f = elim (cases_Bool (is_values head && is_blank b)) [ inl k ↦ rw (f, k) refl | inr k ↦ rw (f, k) refl ]
byte_read ended Within b t f = rw f refl
byte_read ended (Amid spot) b t f = rw f (amid_read ended spot b t f)

byte_feed : (spot : Spot) (b : ℕ) (t : List ℕ) → eqb b 10 ≡ false → feed_of (next_spot spot b) t ≡ feed_of spot (b ∷ t)
byte_feed Start b t f =
    elim (cases_Bool (is_blank b)) [
      | inl k ↦ rw (f, k) refl
      | inr k ↦ elim (cases_Bool (is_claim b)) [ inl l ↦ rw (f, k, l) refl | inr l ↦ rw (f, k, l) refl ]
    ]
byte_feed (Held head) b t f = elim (cases_Bool (is_values head && is_blank b)) [ inl k ↦ rw (f, k) refl | inr k ↦ rw (f, k) refl ]
byte_feed Within b t f = rw f refl
byte_feed (Amid spot) b t f = rw f (ap (λ z. cond z 115 10) (amid_says spot b t))

byte_amid : (spot : Spot) (b : ℕ) (t : List ℕ) → eqb b 10 ≡ false → goes_amid (next_spot spot b) t ≡ goes_amid spot (b ∷ t)
byte_amid Start b t f =
    elim (cases_Bool (is_blank b)) [
      | inl k ↦ rw (f, k) refl
      | inr k ↦ elim (cases_Bool (is_claim b)) [ inl l ↦ rw (f, k, l) refl | inr l ↦ rw (f, k, l) (sym (ap (λ z. z && is_alone t) (no_claim b l).1)) ]
    ]
byte_amid (Held head) b t f = elim (cases_Bool (is_values head && is_blank b)) [ inl k ↦ rw (f, k) refl | inr k ↦ rw (f, k) refl ]
byte_amid Within b t f = rw f refl
byte_amid (Amid spot) b t f = refl

bytes_read : (ended : Bool) (spot : Spot) (b : ℕ) (ts : List (List ℕ)) (t : List ℕ) → eqb b 10 ≡ false
    → given_by spot b ++ rest_read ended (next_spot spot b) (t ∷ ts) ≡ rest_read ended spot (put_first b (t ∷ ts))
bytes_read ended spot b [] t f = byte_read ended spot b t f
bytes_read ended spot b (u ∷ ts) t f =
    sym (append_assoc (given_by spot b) (text_read true (next_spot spot b) t) (feed_of (next_spot spot b) t ∷ lines_read ended (goes_amid (next_spot spot b) t) (u ∷ ts)))
    ∙ ap (λ z. z ++ feed_of (next_spot spot b) t ∷ lines_read ended (goes_amid (next_spot spot b) t) (u ∷ ts)) (byte_read true spot b t f)
    ∙ ap (λ z. text_read true spot (b ∷ t) ++ z ∷ lines_read ended (goes_amid (next_spot spot b) t) (u ∷ ts)) (byte_feed spot b t f)
    ∙ ap (λ z. text_read true spot (b ∷ t) ++ feed_of spot (b ∷ t) ∷ lines_read ended z (u ∷ ts)) (byte_amid spot b t f)

-- a line feed
feed_step : (ended : Bool) (spot : Spot) (t : List ℕ) (ts : List (List ℕ)) → given_by spot 10 ++ rest_read ended (next_spot spot 10) (t ∷ ts) ≡ rest_read ended spot ([] ∷ t ∷ ts)
feed_step ended Start t ts = ap (λ z. 10 ∷ z) (start_read ended false (t ∷ ts))
feed_step ended (Held head) t ts = ap (λ z. head ∷ 10 ∷ z) (by (is_values head))
  where
    by : (values : Bool) → rest_read ended (begin values) (t ∷ ts) ≡ lines_read ended (values && true) (t ∷ ts)
    by true = start_read ended true (t ∷ ts)
    by false = start_read ended false (t ∷ ts)
feed_step ended Within t ts = ap (λ z. 10 ∷ z) (start_read ended false (t ∷ ts))
feed_step ended (Amid spot) t ts =
    append_assoc (amid_end spot) (cond (amid_unknown spot) 115 10 ∷ []) (rest_read ended (Amid LineStart) (t ∷ ts))
    ∙ ap (λ z. z ++ cond (amid_unknown spot) 115 10 ∷ rest_read ended (Amid LineStart) (t ∷ ts)) (amid_last true spot)
    ∙ ap (λ z. amid_text true spot [] ++ cond z 115 10 ∷ rest_read ended (Amid LineStart) (t ∷ ts)) (end_says spot)
    ∙ ap (λ z. amid_text true spot [] ++ cond (rest_unknown spot []) 115 10 ∷ z) (start_read ended true (t ∷ ts))

step_read : (ended : Bool) (spot : Spot) (b : ℕ) (bs : List ℕ) → given_by spot b ++ rest_read ended (next_spot spot b) (lines_of bs) ≡ rest_read ended spot (lines_of (b ∷ bs))
step_read ended spot b bs =
    let w = some_line bs in
    elim (cases_Bool (eqb b 10)) [
      | inl t ↦ rw (t, w.2) (ap (λ z. given_by spot z ++ rest_read ended (next_spot spot z) (w.0 ∷ w.1)) (eqb-true b 10 t) ∙ feed_step ended spot w.0 w.1)
      | inr f ↦ rw (f, w.2) (bytes_read ended spot b w.1 w.0 f)
    ]

end_read : (ended : Bool) (spot : Spot) → cond ended (given_at_end spot) [] ≡ rest_read ended spot ([] ∷ [])
end_read true Start = refl
end_read false Start = refl
end_read true (Held head) = refl
end_read false (Held head) = refl
end_read true Within = refl
end_read false Within = refl
end_read ended (Amid spot) = amid_last ended spot

all_read : (ended : Bool) (spot : Spot) (bytes : List ℕ) → given spot bytes ++ cond ended (given_at_end (spot_after spot bytes)) [] ≡ rest_read ended spot (lines_of bytes)
all_read ended spot [] = end_read ended spot
all_read ended spot (b ∷ bs) =
    append_assoc (given_by spot b) (given (next_spot spot b) bs) (cond ended (given_at_end (spot_after (next_spot spot b) bs)) [])
    ∙ ap (λ z. given_by spot b ++ z) (all_read ended (next_spot spot b) bs) ∙ step_read ended spot b bs

pub given_is : (bytes : List ℕ) → given Start bytes ≡ stream_of false bytes
given_is bytes = sym (append-nil (given Start bytes)) ∙ all_read false Start bytes ∙ start_read false false (lines_of bytes)

pub given_whole : (bytes : List ℕ) → given Start bytes ++ given_at_end (spot_after Start bytes) ≡ stream_of true bytes
given_whole bytes = all_read true Start bytes ∙ start_read true false (lines_of bytes)

-- the rest of a line is one of values
abbrev text_values : Spot → List ℕ → Bool
text_values Start t = is_values_line t
text_values (Held head) t = is_values head && is_alone t
text_values Within t = false
text_values (Amid spot) t = false

-- amid values there was one before
abbrev more_values : Spot → List (List ℕ) → Bool
more_values Start ts = any_values ts
more_values (Held head) ts = any_values ts
more_values Within ts = any_values ts
more_values (Amid spot) ts = false

abbrev rest_values : Spot → List (List ℕ) → Bool
rest_values spot [] = false
rest_values spot (t ∷ ts) = text_values spot t || more_values spot ts

or_assoc : (x y z : Bool) → ((x || y) || z) ≡ (x || (y || z))
or_assoc true y z = refl
or_assoc false y z = refl

-- a byte tells, and the lines after it
text_none : (b : ℕ) (t : List ℕ) → is_claim b ≡ false → false ≡ (eqb b 118 && is_alone t)
text_none b t l = sym (ap (λ z. z && is_alone t) (no_claim b l).1)

or_any : (x y z : Bool) → x ≡ y → (x || z) ≡ (y || z)
or_any x y z e = ap (λ w. w || z) e

byte_values : (spot : Spot) (b : ℕ) (t : List ℕ) (ts : List (List ℕ)) → eqb b 10 ≡ false
    → (next_values spot false b || rest_values (next_spot spot b) (t ∷ ts)) ≡ rest_values spot ((b ∷ t) ∷ ts)
byte_values Start b t ts f =
    elim (cases_Bool (is_blank b)) [
      | inl k ↦ rw (f, k) refl
      | inr k ↦ elim (cases_Bool (is_claim b)) [ inl l ↦ rw (f, k, l) refl | inr l ↦ rw (f, k, l) (or_any false (eqb b 118 && is_alone t) (any_values ts) (text_none b t l)) ]
    ]
byte_values (Held head) b t ts f =
    elim (cases_Bool (is_values head)) [
      | inr h ↦ rw (f, h) refl
      | inl h ↦ elim (cases_Bool (is_blank b)) [ inl k ↦ rw (f, h, k) refl | inr k ↦ rw (f, h, k) refl ]
    ]
byte_values Within b t ts f = rw f refl
byte_values (Amid spot) b t ts f = refl

after_values : (spot : Spot) (values : Bool) (b : ℕ) → next_values spot values b ≡ (values || next_values spot false b)
after_values Start values b = sym (or_false values)
after_values (Held head) values b = refl
after_values Within values b = sym (or_false values)
after_values (Amid spot) values b = sym (or_false values)

feed_values : (spot : Spot) (t : List ℕ) (ts : List (List ℕ)) → (next_values spot false 10 || rest_values (next_spot spot 10) (t ∷ ts)) ≡ rest_values spot ([] ∷ t ∷ ts)
feed_values Start t ts = refl
feed_values (Held head) t ts = elim (cases_Bool (is_values head)) [ inl h ↦ rw h refl | inr h ↦ rw h refl ]
feed_values Within t ts = refl
feed_values (Amid spot) t ts = refl

step_values : (spot : Spot) (b : ℕ) (bs : List ℕ) → (next_values spot false b || rest_values (next_spot spot b) (lines_of bs)) ≡ rest_values spot (lines_of (b ∷ bs))
step_values spot b bs =
    let w = some_line bs in
    elim (cases_Bool (eqb b 10)) [
      | inl t ↦ rw (t, w.2) (ap (λ z. next_values spot false z || rest_values (next_spot spot z) (w.0 ∷ w.1)) (eqb-true b 10 t) ∙ feed_values spot w.0 w.1)
      | inr f ↦ rw (f, w.2) (byte_values spot b w.0 w.1 f)
    ]

end_values : (spot : Spot) (values : Bool) → values_at_end spot values ≡ (values || rest_values spot ([] ∷ []))
end_values Start values = sym (or_false values)
end_values (Held head) values = ap (λ z. values || z) (sym (or_false (is_values head && true) ∙ and_true (is_values head)))
end_values Within values = sym (or_false values)
end_values (Amid spot) values = sym (or_false values)

all_values : (spot : Spot) (values : Bool) (bytes : List ℕ) → values_at_end (spot_after spot bytes) (values_after spot values bytes) ≡ (values || rest_values spot (lines_of bytes))
all_values spot values [] = end_values spot values
all_values spot values (b ∷ bs) =
    all_values (next_spot spot b) (next_values spot values b) bs
    ∙ ap (λ z. z || rest_values (next_spot spot b) (lines_of bs)) (after_values spot values b)
    ∙ or_assoc values (next_values spot false b) (rest_values (next_spot spot b) (lines_of bs))
    ∙ ap (λ z. values || z) (step_values spot b bs)

start_values : (ts : List (List ℕ)) → rest_values Start ts ≡ any_values ts
start_values [] = refl
start_values (t ∷ ts) = refl

pub values_are : (bytes : List ℕ) → values_at_end (spot_after Start bytes) (values_after Start false bytes) ≡ has_values bytes
values_are bytes = all_values Start false bytes ∙ start_values (lines_of bytes)
