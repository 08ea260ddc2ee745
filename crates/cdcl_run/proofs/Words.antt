-- Texts of literals as words.
use Rattle.std.proofs.Common.{◌≡◌, ℕ, ◌+◌, ◌<◌, ◌≤◌, ◌^◌, Bool, true, false, cond, eqb, leb, List, [], ◌∷◌, ◌++◌, length, get_or, Some, refl, ap, ◌∙◌, sym, subst, arith, append-nil, append_assoc}
use Rattle.std.specs.Prelude.{codes, decimal, map}
use Rattle.std.specs.List.{list_all}
use Rattle.std.specs.Str.Parse.{AllDigits, starts_with_minus}
use Rattle.std.proofs.lemmas.Bool.{le-leb}
use Rattle.std.proofs.lemmas.Bool.Decides.{nat_tests}
use Rattle.std.proofs.lemmas.List.Elements.{All-head, All-tail}
use Rattle.std.proofs.lemmas.Str.Parse.{digit_from_value}
use Rattle.std.proofs.lemmas.Fmt.{decimal_is_IsNumeral, first_decimal}
use Rattle.cnf_form.specs.Cnf.{LitOf, LitWithin, ClauseWithin}
use Rattle.cnf_form.specs.Dimacs.{literal_text, clause_text}
use Rattle.cnf_form.proofs.Numerals.{digits_back}
use Rattle.cert_stream.specs.Text.{NoFeed, is_blank, is_digit, is_number, literal_of, words_from}
use Rattle.cert_judge.specs.DrupCert.{IsEnded, Writes, words}
use Rattle.cert_judge.proofs.DrupLines.{texts, line_texts}
use Rattle.cdcl_run.specs.Text.{spaced}

-- no white space
abbrev pub Visible : List ℕ → Type 0
Visible [] = Unit {0}
Visible (b ∷ bs) = (is_blank b ≡ false) × (eqb b 10 ≡ false) × Visible bs

pub visible_feed : (t : List ℕ) → Visible t → NoFeed t
visible_feed [] v = tt
visible_feed (b ∷ bs) v = (v.1, visible_feed bs v.2)

pub no_feed_append : (s t : List ℕ) → NoFeed s → NoFeed t → NoFeed (s ++ t)
no_feed_append [] t v w = w
no_feed_append (b ∷ bs) t v w = (v.0, no_feed_append bs t v.1 w)

apart : (b c : ℕ) → c < b → eqb b c ≡ false
apart b c h = grind (arith, nat_tests)

digit_visible : (b : ℕ) → 48 ≤ b → (is_blank b ≡ false) × (eqb b 10 ≡ false)
digit_visible b h =
    let x : eqb b 32 ≡ false = apart b 32 (omega arith) in
    let y : eqb b 9 ≡ false = apart b 9 (omega arith) in
    let z : eqb b 13 ≡ false = apart b 13 (omega arith) in
    (rw (x, y, z) refl, apart b 10 (omega arith))

digits_visible : (ds : List ℕ) → AllDigits 10 ds → Visible ds
digits_visible [] h = tt
digits_visible (d ∷ ds) h = let k = digit_from_value d h.0 in let v = digit_visible d k.0 in (v.0, v.1, digits_visible ds h.1)

-- a word of visible bytes
pub record IsWord (w : List ℕ) : Type 0 where
  pub head : ℕ
  pub tail : List ℕ
  pub are : w ≡ head ∷ tail
  pub visible : Visible w

some_word : (w : List ℕ) → 0 < length w → Visible w → IsWord w
some_word [] h v = absurd (omega (arith, h))
some_word (b ∷ bs) h v = record { head = b; tail = bs; are = refl; visible = v }

pub signed_word : (s : Bool) (n : ℕ) → n < 2 ^ 64 → IsWord (cond s (45 ∷ decimal n) (decimal n))
signed_word false n h = let d = (decimal_is_IsNumeral n h).0 in some_word (decimal n) d.0 (digits_visible (decimal n) d.1)
signed_word true n h = let d = (decimal_is_IsNumeral n h).0 in record { head = 45; tail = decimal n; are = refl; visible = (refl, refl, digits_visible (decimal n) d.1) }

pub literal_word : (l : LitOf) → l.var < 2 ^ 64 → IsWord (literal_text l)
literal_word l h = signed_word l.negated l.var h

-- a word up to a space
word_then : (w : List ℕ) (c : ℕ) (q : List ℕ) (at : ℕ) (rest : List ℕ) → Visible w → texts (words_from true at (c ∷ q) (w ++ 32 ∷ rest)) ≡ ((c ∷ q) ++ w) ∷ words rest
word_then [] c q at rest v = ap (λ z. (c ∷ q) ∷ z) (line_texts true (at + 1) rest) ∙ ap (λ z. z ∷ words rest) (sym (append-nil (c ∷ q)))
word_then (b ∷ w) c q at rest v =
    let h : is_blank b ≡ false = v.0 in
    rw h (word_then w c (q ++ b ∷ []) (at + 1) rest v.2 ∙ ap (λ z. z ∷ words rest) (append_assoc (c ∷ q) (b ∷ []) w))

word_last : (w : List ℕ) (c : ℕ) (q : List ℕ) (at : ℕ) → Visible w → texts (words_from true at (c ∷ q) w) ≡ ((c ∷ q) ++ w) ∷ []
word_last [] c q at v = ap (λ z. z ∷ []) (sym (append-nil (c ∷ q)))
word_last (b ∷ w) c q at v =
    let h : is_blank b ≡ false = v.0 in
    rw h (word_last w c (q ++ b ∷ []) (at + 1) v.2 ∙ ap (λ z. z ∷ []) (append_assoc (c ∷ q) (b ∷ []) w))

first_then : (b : ℕ) (w : List ℕ) (rest : List ℕ) → Visible (b ∷ w) → words ((b ∷ w) ++ 32 ∷ rest) ≡ (b ∷ w) ∷ words rest
first_then b w rest v = let h : is_blank b ≡ false = v.0 in rw h (word_then w b [] (0 + 1) rest v.2)

first_last : (b : ℕ) (w : List ℕ) → Visible (b ∷ w) → words (b ∷ w) ≡ (b ∷ w) ∷ []
first_last b w v = let h : is_blank b ≡ false = v.0 in rw h (word_last w b [] (0 + 1) v.2)

-- a word first
pub words_then : (w rest : List ℕ) → IsWord w → words (w ++ 32 ∷ rest) ≡ w ∷ words rest
words_then w rest i = ap (λ z. words (z ++ 32 ∷ rest)) i.are ∙ first_then i.head i.tail rest (subst Visible i.are i.visible) ∙ ap (λ z. z ∷ words rest) (sym i.are)

-- and alone
pub words_alone : (w : List ℕ) → IsWord w → words w ≡ w ∷ []
words_alone w i = ap words i.are ∙ first_last i.head i.tail (subst Visible i.are i.visible) ∙ ap (λ z. z ∷ []) (sym i.are)

-- literals of the variables from 1 to vars
abbrev pub AreIn : ℕ → List LitOf → Type 0
AreIn vars [] = Unit {0}
AreIn vars (l ∷ c) = (0 < l.var) × (l.var ≤ vars) × AreIn vars c

pub in_of : (vars : ℕ) (c : List LitOf) → ClauseWithin vars c → AreIn vars c
in_of vars [] h = tt
in_of vars (l ∷ c) h = let w = All-head (LitWithin vars) l c h in (w.0, w.1, in_of vars c (All-tail (LitWithin vars) l c h))

pub in_split : (vars : ℕ) (c d : List LitOf) → AreIn vars (c ++ d) → AreIn vars c × AreIn vars d
in_split vars [] d h = (tt, h)
in_split vars (l ∷ c) d h = let k = in_split vars c d h.2 in ((h.0, h.1, k.0), k.1)

-- the number's text is a number
pub decimal_number : (n : ℕ) → 0 < n → n < 2 ^ 64 → is_number (decimal n) ≡ true
decimal_number n p h = by (decimal n) (first_decimal n p h) (digits_back (decimal n) (decimal_is_IsNumeral n h).0.1)
  where
    by : (w : List ℕ) → 48 < get_or w 0 0 → list_all is_digit w ≡ true → is_number w ≡ true
    by [] f a = absurd (omega (arith, f))
    by (b ∷ bs) f a = let z : eqb b 48 ≡ false = apart b 48 f in rw (a, z) refl

minus_none : (n : ℕ) → n < 2 ^ 64 → starts_with_minus (decimal n) ≡ false
minus_none n h = by (decimal n) (decimal_is_IsNumeral n h).0.1
  where
    by : (w : List ℕ) → AllDigits 10 w → starts_with_minus w ≡ false
    by [] a = refl
    by (b ∷ bs) a = let k = digit_from_value b a.0 in let z : eqb b 45 ≡ false = apart b 45 (omega (arith, k.0)) in z

-- a literal's text is read as the literal
literal_signed : (vars n : ℕ) (s : Bool) → 0 < n → n ≤ vars → n < 2 ^ 64 → literal_of vars (cond s (45 ∷ decimal n) (decimal n)) ≡ Some (record { var = n; negated = s })
literal_signed vars n true p m h =
    let a = decimal_number n p h in
    let v = (decimal_is_IsNumeral n h).1 in
    let l : leb n vars ≡ true = le-leb n vars m in
    rw (a, v, l) refl
literal_signed vars n false p m h =
    let a = decimal_number n p h in
    let v = (decimal_is_IsNumeral n h).1 in
    let l : leb n vars ≡ true = le-leb n vars m in
    let z = minus_none n h in
    rw (z, a, v, l) refl

pub literal_read : (vars : ℕ) (l : LitOf) → vars < 2 ^ 64 → 0 < l.var → l.var ≤ vars → literal_of vars (literal_text l) ≡ Some l
literal_read vars l h p m = literal_signed vars l.var l.negated p m (omega (arith, h, m))

module _ (vars : ℕ) (small : vars < 2 ^ 64) where
  pub writes_texts : (c : List LitOf) → AreIn vars c → Writes vars (map literal_text c) c
  writes_texts [] h = refl
  writes_texts (l ∷ c) h = (literal_read vars l small h.0 h.1, writes_texts c h.2)

  pub ended_texts : (c : List LitOf) → AreIn vars c → length c ≤ vars → IsEnded vars (map literal_text c ++ codes "0" ∷ []) c
  ended_texts c h short = (map literal_text c, refl, writes_texts c h, short)

  pub lit_word : (l : LitOf) → l.var ≤ vars → IsWord (literal_text l)
  lit_word l h = literal_word l (omega (arith, h, small))

  -- literals with a space after each, and 0
  pub bare : List LitOf → List ℕ
  bare [] = codes "0"
  bare (l ∷ c) = literal_text l ++ 32 ∷ bare c

  pub bare_words : (c : List LitOf) → AreIn vars c → words (bare c) ≡ map literal_text c ++ codes "0" ∷ []
  unfolding bare
  bare_words [] h = refl
  bare_words (l ∷ c) h = words_then (literal_text l) (bare c) (lit_word l h.1) ∙ ap (λ z. literal_text l ∷ z) (bare_words c h.2)

  pub bare_feed : (c : List LitOf) → AreIn vars c → NoFeed (bare c)
  unfolding bare
  bare_feed [] h = (refl, tt)
  bare_feed (l ∷ c) h = let w = lit_word l h.1 in no_feed_append (literal_text l) (32 ∷ bare c) (visible_feed (literal_text l) w.visible) (refl, bare_feed c h.2)

  pub bare_line : (c : List LitOf) (rest : List ℕ) → clause_text c ++ rest ≡ bare c ++ 10 ∷ rest
  unfolding bare
  bare_line [] rest = refl
  bare_line (l ∷ c) rest =
      append_assoc (literal_text l) (32 ∷ clause_text c) rest ∙ ap (λ z. literal_text l ++ 32 ∷ z) (bare_line c rest) ∙ sym (append_assoc (literal_text l) (32 ∷ bare c) (10 ∷ rest))

  -- a word and literals with a space before each
  pub spaced_words : (w : List ℕ) (c : List LitOf) → IsWord w → AreIn vars c → words (w ++ spaced c) ≡ w ∷ map literal_text c
  spaced_words w [] i h = ap words (append-nil w) ∙ words_alone w i
  spaced_words w (l ∷ c) i h = words_then w (literal_text l ++ spaced c) i ∙ ap (λ z. w ∷ z) (spaced_words (literal_text l) c (lit_word l h.1) h.2)

  pub spaced_ended : (w : List ℕ) (c : List LitOf) → IsWord w → AreIn vars c → words (w ++ (spaced c ++ codes " 0")) ≡ w ∷ (map literal_text c ++ codes "0" ∷ [])
  spaced_ended w [] i h = words_then w (48 ∷ []) i
  spaced_ended w (l ∷ c) i h =
      ap (λ z. words (w ++ 32 ∷ z)) (append_assoc (literal_text l) (spaced c) (codes " 0"))
      ∙ words_then w (literal_text l ++ (spaced c ++ codes " 0")) i ∙ ap (λ z. w ∷ z) (spaced_ended (literal_text l) c (lit_word l h.1) h.2)

  pub spaced_feed : (c : List LitOf) → AreIn vars c → NoFeed (spaced c)
  spaced_feed [] h = tt
  spaced_feed (l ∷ c) h = let w = lit_word l h.1 in (refl, no_feed_append (literal_text l) (spaced c) (visible_feed (literal_text l) w.visible) (spaced_feed c h.2))
