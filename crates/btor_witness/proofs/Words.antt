-- Words, byte by byte.
use Rattle.std.proofs.Common.{◌≡◌, ℕ, ◌+◌, ◌-◌, ◌*◌, ◌^◌, ◌<◌, ◌≤◌, min, Bool, true, false, eqb, leb, ◌&&◌, List, [], ◌∷◌, ◌++◌, length, refl, ap, sym, ◌∙◌, subst, inl, inr, arith}
use Rattle.std.specs.Prelude.{codes, fold}
use Rattle.std.specs.List.{list_all}
use Rattle.std.specs.Str.Parse.{digits_value, digits_value_after}
use Rattle.std.specs.Char.{digit_value}
use Rattle.std.proofs.lemmas.Bool.{cases_Bool, eqb-true, leb-true}
use Rattle.std.proofs.lemmas.Str.{digit_value_digit}
use Rattle.std.proofs.lemmas.List.{length-append, append_assoc, append-nil}
use Rattle.btor_witness.specs.Grammar.{IsNumber, IsTagged, is_digit}
use Rattle.btor_witness.specs.Machine.{first_token, grown, with_digit}
use Rattle.btor_witness.specs.declared.word.Tag.{Tag}
use Rattle.btor_witness.specs.declared.word.Tag.TheVariants.{Bad, States, Inputs}
use Rattle.btor_witness.specs.declared.word.Token.{Token}
use Rattle.btor_witness.specs.declared.word.Token.TheVariants.{Number, Begun, Tagged, Dot, S, Sa, Sat, Other}

-- what is read of a word
abbrev pub token_of : List ℕ → Token
token_of [] = Other
token_of (b ∷ word) = fold grown (first_token b) word

abbrev pub byte_of : Tag → ℕ
byte_of Bad = 98
byte_of States = 35
byte_of Inputs = 64

abbrev pub Says : List ℕ → Token → Type 0
Says word (Number n) = IsNumber word n
Says word (Begun tag) = word ≡ byte_of tag ∷ []
Says word (Tagged tag n) = IsTagged (byte_of tag) word n
Says word Dot = word ≡ codes "."
Says word S = word ≡ codes "s"
Says word Sa = word ≡ codes "sa"
Says word Sat = word ≡ codes "sat"
Says word Other = Unit {0}

both_true : (p q : Bool) → (p && q) ≡ true → (p ≡ true) × (q ≡ true)
both_true true true h = (refl, refl)
both_true true false h = cc
both_true false q h = cc

digit_bounds : (b : ℕ) → is_digit b ≡ true → (48 ≤ b) × (b ≤ 57)
digit_bounds b h = let w = both_true (leb 48 b) (leb b 57) h in (leb-true 48 b w.0, leb-true b 57 w.1)

digit_is : (b : ℕ) → is_digit b ≡ true → digit_value b ≡ b - 48
digit_is b h = let e = digit_value_digit b (digit_bounds b h) in let l = digit_bounds b h in omega arith

value_push : (n : ℕ) (word : List ℕ) (b : ℕ) → digits_value_after 10 n (word ++ b ∷ []) ≡ digits_value_after 10 n word * 10 + digit_value b
value_push n [] b = refl
value_push n (c ∷ word) b = value_push (n * 10 + digit_value c) word b

all_push : (word : List ℕ) (b : ℕ) → list_all is_digit word ≡ true → is_digit b ≡ true → list_all is_digit (word ++ b ∷ []) ≡ true
all_push [] b h k = rw k refl
all_push (c ∷ word) b h k = let w = both_true (is_digit c) (list_all is_digit word) h in rw w.0 (all_push word b w.1 k)

least : (v d m : ℕ) → min (v * 10 + d) m ≡ min (min v m * 10 + d) m
least v d m = omega arith

number_push : (word : List ℕ) (n b : ℕ) → IsNumber word n → is_digit b ≡ true → IsNumber (word ++ b ∷ []) (with_digit n b)
number_push word n b h k = record {
  some = let l = length-append word (b ∷ []) in omega arith;
  digits = all_push word b h.digits k;
  value =
      let v = value_push 0 word b in
      let d = digit_is b k in
      let e = least (digits_value 10 word) (b - 48) (2 ^ 64 - 1) in
      ap (λ x. min x (2 ^ 64 - 1)) (v ∙ ap (λ x. digits_value 10 word * 10 + x) d) ∙ e ∙ ap (λ x. min (x * 10 + (b - 48)) (2 ^ 64 - 1)) h.value;
}

number_one : (b : ℕ) → is_digit b ≡ true → IsNumber (b ∷ []) (b - 48)
number_one b h = record {
  some = omega arith;
  digits = rw h refl;
  value = let d = digit_is b h in let l = digit_bounds b h in omega arith;
}

says_push : (word : List ℕ) (t : Token) (b : ℕ) → Says word t → Says (word ++ b ∷ []) (grown t b)
says_push word (Number n) b h = elim (cases_Bool (is_digit b)) [ inl t ↦ rw t (number_push word n b h t) | inr f ↦ rw f tt ]
says_push word (Begun tag) b h = elim (cases_Bool (is_digit b)) [
  | inl t ↦ rw t (b ∷ [], ap (λ (w : List ℕ). w ++ b ∷ []) h, number_one b t)
  | inr f ↦ rw f tt
]
says_push word (Tagged tag n) b (ds, e, h) = elim (cases_Bool (is_digit b)) [
  | inl t ↦ rw t (ds ++ b ∷ [], ap (λ (w : List ℕ). w ++ b ∷ []) e, number_push ds n b h t)
  | inr f ↦ rw f tt
]
says_push word Dot b h = tt
says_push word S b h = elim (cases_Bool (eqb b 97)) [
  | inl t ↦ rw t (ap (λ (w : List ℕ). w ++ b ∷ []) h ∙ ap (λ c. 115 ∷ c ∷ []) (eqb-true b 97 t))
  | inr f ↦ rw f tt
]
says_push word Sa b h = elim (cases_Bool (eqb b 116)) [
  | inl t ↦ rw t (ap (λ (w : List ℕ). w ++ b ∷ []) h ∙ ap (λ c. 115 ∷ 97 ∷ c ∷ []) (eqb-true b 116 t))
  | inr f ↦ rw f tt
]
says_push word Sat b h = tt
says_push word Other b h = tt

says_first : (b : ℕ) → Says (b ∷ []) (first_token b)
says_first b = elim (cases_Bool (is_digit b)) [
  | inl t ↦ rw t (number_one b t)
  | inr f ↦ rw f (elim (cases_Bool (eqb b 98)) [
    | inl t ↦ rw t (ap (λ c. c ∷ []) (eqb-true b 98 t))
    | inr g ↦ rw g (elim (cases_Bool (eqb b 35)) [
      | inl t ↦ rw t (ap (λ c. c ∷ []) (eqb-true b 35 t))
      | inr h ↦ rw h (elim (cases_Bool (eqb b 64)) [
        | inl t ↦ rw t (ap (λ c. c ∷ []) (eqb-true b 64 t))
        | inr i ↦ rw i (elim (cases_Bool (eqb b 46)) [
          | inl t ↦ rw t (ap (λ c. c ∷ []) (eqb-true b 46 t))
          | inr j ↦ rw j (elim (cases_Bool (eqb b 115)) [ inl t ↦ rw t (ap (λ c. c ∷ []) (eqb-true b 115 t)) | inr k ↦ rw k tt ])
        ])
      ])
    ])
  ])
]

says_fold : (word : List ℕ) (t : Token) (more : List ℕ) → Says word t → Says (word ++ more) (fold grown t more)
says_fold word t [] h = subst (λ (w : List ℕ). Says w t) (sym (append-nil word)) h
says_fold word t (b ∷ more) h = subst (λ (w : List ℕ). Says w (fold grown (grown t b) more)) (append_assoc word (b ∷ []) more) (says_fold (word ++ b ∷ []) (grown t b) more (says_push word t b h))

-- what is read of a word is what it says
pub says : (word : List ℕ) → Says word (token_of word)
says [] = tt
says (b ∷ word) = says_fold (b ∷ []) (first_token b) word (says_first b)

-- and all that says something is read
all_head : (b : ℕ) (word : List ℕ) → list_all is_digit (b ∷ word) ≡ true → (is_digit b ≡ true) × (list_all is_digit word ≡ true)
all_head b word h = both_true (is_digit b) (list_all is_digit word) h

number_fold : (n : ℕ) (word : List ℕ) → list_all is_digit word ≡ true → (m : ℕ) × (fold grown (Number n) word ≡ Number m)
number_fold n [] h = (n, refl)
number_fold n (b ∷ word) h = let p = all_head b word h in rw p.0 (number_fold (with_digit n b) word p.1)

tagged_fold : (tag : Tag) (n : ℕ) (word : List ℕ) → list_all is_digit word ≡ true → (m : ℕ) × (fold grown (Tagged tag n) word ≡ Tagged tag m)
tagged_fold tag n [] h = (n, refl)
tagged_fold tag n (b ∷ word) h = let p = all_head b word h in rw p.0 (tagged_fold tag (with_digit n b) word p.1)

number_read : (word : List ℕ) → 0 < length word → list_all is_digit word ≡ true → (m : ℕ) × (token_of word ≡ Number m)
number_read [] l h = absurd (omega arith)
number_read (b ∷ word) l h = let p = all_head b word h in rw p.0 (number_fold (b - 48) word p.1)

first_tag : (tag : Tag) → first_token (byte_of tag) ≡ Begun tag
first_tag Bad = refl
first_tag States = refl
first_tag Inputs = refl

begun_read : (tag : Tag) (digits : List ℕ) → 0 < length digits → list_all is_digit digits ≡ true → (m : ℕ) × (fold grown (Begun tag) digits ≡ Tagged tag m)
begun_read tag [] l h = absurd (omega arith)
begun_read tag (b ∷ digits) l h = let p = all_head b digits h in rw p.0 (tagged_fold tag (b - 48) digits p.1)

tagged_read : (tag : Tag) (digits : List ℕ) → 0 < length digits → list_all is_digit digits ≡ true → (m : ℕ) × (token_of (byte_of tag ∷ digits) ≡ Tagged tag m)
tagged_read tag digits l h = let r = begun_read tag digits l h in (r.0, ap (λ (t : Token). fold grown t digits) (first_tag tag) ∙ r.1)

pub reads_number : (word : List ℕ) (n : ℕ) → IsNumber word n → token_of word ≡ Number n
reads_number word n h =
    let r = number_read word h.some h.digits in
    let s : IsNumber word r.0 = subst (Says word) r.1 (says word) in
    r.1 ∙ ap Number (sym s.value ∙ h.value)

pub reads_tagged : (tag : Tag) (word : List ℕ) (n : ℕ) → IsTagged (byte_of tag) word n → token_of word ≡ Tagged tag n
reads_tagged tag word n (digits, e, h) =
    let r = tagged_read tag digits h.some h.digits in
    let is : token_of word ≡ Tagged tag r.0 = ap token_of e ∙ r.1 in
    let s : IsTagged (byte_of tag) word r.0 = subst (Says word) is (says word) in
    is ∙ ap (Tagged tag) (same s)
  where
    tail : (digits other : List ℕ) → byte_of tag ∷ digits ≡ byte_of tag ∷ other → digits ≡ other
    tail digits other e = cc

    same : {m : ℕ} → IsTagged (byte_of tag) word m → m ≡ n
    same {m} (other, f, k) = let t = tail digits other (sym e ∙ f) in sym k.value ∙ ap (λ (ds : List ℕ). min (digits_value 10 ds) (2 ^ 64 - 1)) (sym t) ∙ h.value
