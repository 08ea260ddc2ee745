-- Lines, word by word.
use Rattle.std.proofs.Common.{◌≡◌, ◌⊎◌, ℕ, zero, ◌+◌, ◌-◌, ◌<◌, ◌≤◌, Bool, true, false, cond, eqb, ◌||◌, List, [], ◌∷◌, ◌++◌, length, reverse, Option, Some, None, refl, ap, sym, ◌∙◌, subst, inl, inr, arith}
use Rattle.std.specs.Prelude.{fold, slice_get}
use Rattle.std.specs.List.{AllByRecursion, AllZip}
use Rattle.std.proofs.lemmas.Bool.{cases_Bool, eqb-true}
use Rattle.std.proofs.lemmas.Bool.Decides.{nat_tests}
use Rattle.std.proofs.lemmas.List.{append_assoc, append-nil, reverse-reverse, length-reverse}
use Rattle.std.proofs.lemmas.Option.{same_Some}
use Rattle.sby_bits.specs.Rows.{Row}
use Rattle.btor_witness.specs.Grammar.{AssignOf, HasWords, IsAssign, IsBadName, IsBit, IsNumber, IsTagged, WitnessLine, SatLine, BadsLine, StatesLine, InputsLine, AssignLine, EndLine, if_any, is_blank, words_after, words_of}
use Rattle.btor_witness.specs.Machine.{ScanOf, begin_bits, bit_of, first_token, grown, is_bad, line_entry, line_left, no_scan, number_of, read_bit, second, token_entry, visible, width_at, with_line}
use Rattle.btor_witness.specs.declared.word.Tag.{Tag}
use Rattle.btor_witness.specs.declared.word.Tag.TheVariants.{Bad, States, Inputs}
use Rattle.btor_witness.specs.declared.word.Token.{Token}
use Rattle.btor_witness.specs.declared.word.Token.TheVariants.{Number, Begun, Tagged, Dot, S, Sa, Sat, Other}
use Rattle.btor_witness.specs.declared.line.Line.{Line}
use Rattle.btor_witness.specs.declared.line.Line.TheVariants as line
use Rattle.btor_witness.specs.declared.line.Entry.{Entry}
use Rattle.btor_witness.specs.declared.line.Entry.TheVariants as entry
use Rattle.btor_witness.proofs.Words.{Says, reads_number, reads_tagged, says, token_of}

-- a visible byte, where what has a number is so wide
abbrev pub sees : List ℕ → ScanOf → ℕ → ScanOf
sees ws s b = visible s (width_at ws (number_of s.line)) b

abbrev pub left : ScanOf → ScanOf
left s = with_line s (line_left s.line)

-- a byte before a line feed
abbrev pub scans : List ℕ → ScanOf → ℕ → ScanOf
scans ws s b = cond (is_blank b) (left s) (sees ws s b)

-- a word, and white space
abbrev pub puts : List ℕ → ScanOf → List ℕ → ScanOf
puts ws s word = left (fold (sees ws) s word)

left_twice_by : (l : Line) → line_left (line_left l) ≡ line_left l
left_twice_by line.Blank = refl
left_twice_by (line.Word t) = refl
left_twice_by (line.Gap t) = refl
left_twice_by (line.Bads k t) = elim (cases_Bool (is_bad t)) [ inl e ↦ rw e refl | inr e ↦ rw e refl ]
left_twice_by (line.BadsGap k) = refl
left_twice_by (line.Bits n more) = elim (cases_Bool (eqb more 0)) [ inl e ↦ rw e refl | inr e ↦ rw e refl ]
left_twice_by (line.BitsGap n) = refl
left_twice_by (line.Symbol n) = refl
left_twice_by (line.SymbolGap n) = refl
left_twice_by line.Other = refl

pub left_twice : (s : ScanOf) → left (left s) ≡ left s
left_twice s = ap (with_line s) (left_twice_by s.line)

-- a line's bytes are its words
fold_push : {A : Type 0} (f : A → ℕ → A) (a : A) (word : List ℕ) (b : ℕ) → fold f a (word ++ b ∷ []) ≡ f (fold f a word) b
fold_push f a [] b = refl
fold_push f a (c ∷ word) b = fold_push f (f a c) word b

any_put : (ws : List ℕ) (s : ScanOf) (word : List ℕ) → left s ≡ s → left (fold (sees ws) s word) ≡ fold (puts ws) s (if_any word)
any_put ws s [] h = h
any_put ws s (b ∷ word) h = refl

any_left : (ws : List ℕ) (s : ScanOf) (word : List ℕ) → left s ≡ s → left (fold (puts ws) s (if_any word)) ≡ fold (puts ws) s (if_any word)
any_left ws s [] h = h
any_left ws s (b ∷ word) h = left_twice (fold (sees ws) s (b ∷ word))

fold_append : {A B : Type 0} (f : A → B → A) (a : A) (xs ys : List B) → fold f a (xs ++ ys) ≡ fold f (fold f a xs) ys
fold_append f a [] ys = refl
fold_append f a (x ∷ xs) ys = fold_append f (f a x) xs ys

scans_blank : (ws : List ℕ) (s : ScanOf) (b : ℕ) → is_blank b ≡ true → scans ws s b ≡ left s
scans_blank ws s b t = rw t refl

scans_visible : (ws : List ℕ) (s : ScanOf) (b : ℕ) → is_blank b ≡ false → scans ws s b ≡ sees ws s b
scans_visible ws s b f = rw f refl

words_blank : (word text : List ℕ) (b : ℕ) → is_blank b ≡ true → words_after word (b ∷ text) ≡ if_any word ++ words_after [] text
words_blank word text b t = rw t refl

words_visible : (word text : List ℕ) (b : ℕ) → is_blank b ≡ false → words_after word (b ∷ text) ≡ words_after (word ++ b ∷ []) text
words_visible word text b f = rw f refl

scan_words : (ws : List ℕ) (s : ScanOf) (word text : List ℕ) → left s ≡ s → left (fold (scans ws) (fold (sees ws) s word) text) ≡ fold (puts ws) s (words_after word text)
scan_words ws s word [] h = any_put ws s word h
scan_words ws s word (b ∷ text) h = elim (cases_Bool (is_blank b)) [
  | inl t ↦
      ap (λ (x : ScanOf). left (fold (scans ws) x text)) (scans_blank ws (fold (sees ws) s word) b t ∙ any_put ws s word h)
      ∙ scan_words ws (fold (puts ws) s (if_any word)) [] text (any_left ws s word h)
      ∙ sym (ap (fold (puts ws) s) (words_blank word text b t) ∙ fold_append (puts ws) s (if_any word) (words_after [] text))
  | inr f ↦
      ap (λ (x : ScanOf). left (fold (scans ws) x text)) (scans_visible ws (fold (sees ws) s word) b f ∙ sym (fold_push (sees ws) s word b))
      ∙ scan_words ws s (word ++ b ∷ []) text h
      ∙ sym (ap (fold (puts ws) s) (words_visible word text b f))
]

pub line_words : (ws text : List ℕ) → left (fold (scans ws) no_scan text) ≡ fold (puts ws) no_scan (words_of text)
line_words ws text = scan_words ws no_scan [] text refl

-- no word is empty
abbrev pub AreWords : List (List ℕ) → Type 0
AreWords words = AllByRecursion (λ w. 0 < length w) words

pub words_after_some : (word text : List ℕ) → AreWords (words_after word text)
words_after_some [] [] = tt
words_after_some (b ∷ word) [] = (omega arith, tt)
words_after_some word (b ∷ text) = elim (cases_Bool (is_blank b)) [
  | inl t ↦ subst AreWords (sym (words_blank word text b t)) (join word (words_after_some [] text))
  | inr f ↦ subst AreWords (sym (words_visible word text b f)) (words_after_some (word ++ b ∷ []) text)
]
  where
    join : (word : List ℕ) → AreWords (words_after [] text) → AreWords (if_any word ++ words_after [] text)
    join [] h = h
    join (c ∷ word) h = (omega arith, h)

-- what a word does to a line
abbrev line_at : List Bool → Line → ScanOf
line_at bits l = record { line = l; bits = bits }

grow_word : (ws : List ℕ) (bits : List Bool) (t : Token) (word : List ℕ) → fold (sees ws) (line_at bits (line.Word t)) word ≡ line_at bits (line.Word (fold grown t word))
grow_word ws bits t [] = refl
grow_word ws bits t (b ∷ word) = grow_word ws bits (grown t b) word

grow_bads : (ws : List ℕ) (bits : List Bool) (k : ℕ) (t : Token) (word : List ℕ) → fold (sees ws) (line_at bits (line.Bads k t)) word ≡ line_at bits (line.Bads k (fold grown t word))
grow_bads ws bits k t [] = refl
grow_bads ws bits k t (b ∷ word) = grow_bads ws bits k (grown t b) word

grow_symbol : (ws : List ℕ) (bits : List Bool) (n : ℕ) (word : List ℕ) → fold (sees ws) (line_at bits (line.Symbol n)) word ≡ line_at bits (line.Symbol n)
grow_symbol ws bits n [] = refl
grow_symbol ws bits n (b ∷ word) = grow_symbol ws bits n word

grow_other : (ws : List ℕ) (bits : List Bool) (word : List ℕ) → fold (sees ws) (line_at bits line.Other) word ≡ line_at bits line.Other
grow_other ws bits [] = refl
grow_other ws bits (b ∷ word) = grow_other ws bits word

pub put_blank : (ws : List ℕ) (bits : List Bool) (word : List ℕ) → 0 < length word → puts ws (line_at bits line.Blank) word ≡ line_at bits (line.Gap (token_of word))
put_blank ws bits [] l = absurd (omega arith)
put_blank ws bits (b ∷ word) l = ap left (grow_word ws bits (first_token b) word)

-- a bad, after bads
abbrev bads_after : ℕ → Token → Line
bads_after k t = cond (is_bad t) (line.BadsGap k) line.Other

pub put_first_bad : (ws : List ℕ) (bits : List Bool) (k : ℕ) (word : List ℕ) → 0 < length word → puts ws (line_at bits (line.Gap (Tagged Bad k))) word ≡ line_at bits (bads_after k (token_of word))
put_first_bad ws bits k [] l = absurd (omega arith)
put_first_bad ws bits k (b ∷ word) l = ap left (grow_bads ws bits k (first_token b) word)

pub put_bad : (ws : List ℕ) (bits : List Bool) (k : ℕ) (word : List ℕ) → 0 < length word → puts ws (line_at bits (line.BadsGap k)) word ≡ line_at bits (bads_after k (token_of word))
put_bad ws bits k [] l = absurd (omega arith)
put_bad ws bits k (b ∷ word) l = ap left (grow_bads ws bits k (first_token b) word)

pub put_symbol : (ws : List ℕ) (bits : List Bool) (n : ℕ) (word : List ℕ) → 0 < length word → puts ws (line_at bits (line.BitsGap n)) word ≡ line_at bits (line.SymbolGap n)
put_symbol ws bits n [] l = absurd (omega arith)
put_symbol ws bits n (b ∷ word) l = ap left (grow_symbol ws bits n word)

pub put_past : (ws : List ℕ) (bits : List Bool) (n : ℕ) (word : List ℕ) → 0 < length word → puts ws (line_at bits (line.SymbolGap n)) word ≡ line_at bits line.Other
put_past ws bits n [] l = absurd (omega arith)
put_past ws bits n (b ∷ word) l = ap left (grow_other ws bits word)

pub put_other : (ws : List ℕ) (bits : List Bool) (word : List ℕ) → puts ws (line_at bits line.Other) word ≡ line_at bits line.Other
put_other ws bits word = ap left (grow_other ws bits word)

-- tokens after which no word may come
abbrev is_alone_tag : Tag → Bool
is_alone_tag Bad = false
is_alone_tag States = true
is_alone_tag Inputs = true

abbrev pub is_alone : Token → Bool
is_alone (Number n) = false
is_alone (Begun tag) = true
is_alone (Tagged tag n) = is_alone_tag tag
is_alone Dot = true
is_alone S = true
is_alone Sa = true
is_alone Sat = true
is_alone Other = true

alone_second : (s : ScanOf) (t : Token) (width : Option ℕ) (b : ℕ) → is_alone t ≡ true → second s t width b ≡ with_line s line.Other
alone_second s (Number n) width b e = cc
alone_second s (Begun tag) width b e = refl
alone_second s (Tagged Bad n) width b e = cc
alone_second s (Tagged States n) width b e = refl
alone_second s (Tagged Inputs n) width b e = refl
alone_second s Dot width b e = refl
alone_second s S width b e = refl
alone_second s Sa width b e = refl
alone_second s Sat width b e = refl
alone_second s Other width b e = refl

pub put_alone : (ws : List ℕ) (bits : List Bool) (t : Token) (word : List ℕ) → 0 < length word → is_alone t ≡ true → puts ws (line_at bits (line.Gap t)) word ≡ line_at bits line.Other
put_alone ws bits t [] l e = absurd (omega arith)
put_alone ws bits t (b ∷ word) l e =
    ap (λ (s : ScanOf). left (fold (sees ws) s word)) (alone_second (line_at bits (line.Gap t)) t (width_at ws (number_of (line.Gap t))) b e) ∙ put_other ws bits word

-- bits
bit_is : (b : ℕ) (x : Bool) → bit_of b ≡ Some x → IsBit b x
bit_is b x e = elim (cases_Bool (eqb b 49)) [
  | inl t ↦ let k : Some true ≡ Some x = rw t at e in subst (IsBit b) (same_Some true x k) (eqb-true b 49 t)
  | inr f ↦ let g : cond (eqb b 48 || eqb b 120) (Some false) None ≡ Some x = rw f at e in zero_bit g
]
  where
    zero_bit : cond (eqb b 48 || eqb b 120) (Some false) None ≡ Some x → IsBit b x
    zero_bit g = elim (cases_Bool (eqb b 48)) [
      | inl t ↦ let k : Some false ≡ Some x = rw t at g in subst (IsBit b) (same_Some false x k) (inl (eqb-true b 48 t))
      | inr f ↦ elim (cases_Bool (eqb b 120)) [
        | inl t ↦ let k : Some false ≡ Some x = rw (f, t) at g in subst (IsBit b) (same_Some false x k) (inr (eqb-true b 120 t))
        | inr h ↦ let k = rw (f, h) at g in cc
      ]
    ]

bit_reads : (b : ℕ) (x : Bool) → IsBit b x → bit_of b ≡ Some x
bit_reads b true e = rw e refl
bit_reads b false (inl e) = rw e refl
bit_reads b false (inr e) = rw e refl

-- bits that are read
abbrev in_bits : ℕ → ℕ → List Bool → ScanOf
in_bits n more bits = record { line = line.Bits n more; bits = bits }

read_all : (ws : List ℕ) (n more : ℕ) (bits : List Bool) (word : List ℕ) (row : List Bool) → AllZip IsBit word row → length word ≤ more
    → fold (sees ws) (in_bits n more bits) word ≡ in_bits n (more - length word) (bits ++ row)
read_all ws n more bits [] [] h l = ap (in_bits n more) (sym (append-nil bits)) ∙ ap (λ (m : ℕ). in_bits n m (bits ++ [])) (omega arith)
read_all ws n more bits [] (x ∷ row) h l = absurd h
read_all ws n more bits (b ∷ word) [] h l = absurd h
read_all ws n more bits (b ∷ word) (x ∷ row) (e, h) l =
    ap (λ (s : ScanOf). fold (sees ws) s word) (one (bit_of b) (bit_reads b x e) (cases_Bool (eqb more 0)))
    ∙ read_all ws n (more - 1) (bits ++ x ∷ []) word row h (omega arith)
    ∙ ap (λ (r : List Bool). in_bits n (more - 1 - length word) r) (append_assoc bits (x ∷ []) row)
    ∙ ap (λ (m : ℕ). in_bits n m (bits ++ x ∷ row)) (omega arith)
  where
    one : (o : Option Bool) → o ≡ Some x → (eqb more 0 ≡ true) ⊎ (eqb more 0 ≡ false) → read_bit (in_bits n more bits) n more o ≡ in_bits n (more - 1) (bits ++ x ∷ [])
    one None e c = cc
    one (Some y) e (inl t) = let z = eqb-true more 0 t in absurd (omega arith)
    one (Some y) e (inr f) = let same : y ≡ x = cc in rw f (ap (λ (v : Bool). in_bits n (more - 1) (bits ++ v ∷ [])) same)

-- what a second word of bits is read as: nothing, or bits that fit
abbrev Bitted : ℕ → ℕ → List Bool → List ℕ → ScanOf → Type 0
Bitted n more bits word s = (s.line ≡ line.Other) ⊎ ((row : List Bool) × AllZip IsBit word row × (length word ≤ more) × (s ≡ in_bits n (more - length word) (bits ++ row)))

other_stays : (ws : List ℕ) (bits : List Bool) (word : List ℕ) (s : ScanOf) → s ≡ line_at bits line.Other → (fold (sees ws) s word).line ≡ line.Other
other_stays ws bits word s e = ap (λ (s : ScanOf). (fold (sees ws) s word).line) e ∙ ap (λ (s : ScanOf). s.line) (grow_other ws bits word)

read_some : (ws : List ℕ) (n more : ℕ) (bits : List Bool) (word : List ℕ) → Bitted n more bits word (fold (sees ws) (in_bits n more bits) word)
read_some ws n more bits [] = inr ([], tt, omega arith, ap (in_bits n more) (sym (append-nil bits)) ∙ ap (λ (m : ℕ). in_bits n m (bits ++ [])) (omega arith))
read_some ws n more bits (b ∷ word) = one (bit_of b) refl (cases_Bool (eqb more 0)) (λ bs. read_some ws n (more - 1) bs word)
  where
    more_of : (x : Bool) → bit_of b ≡ Some x → 0 < more → Bitted n (more - 1) (bits ++ x ∷ []) word (fold (sees ws) (in_bits n (more - 1) (bits ++ x ∷ [])) word)
        → Bitted n more bits (b ∷ word) (fold (sees ws) (in_bits n (more - 1) (bits ++ x ∷ [])) word)
    more_of x e some (inl h) = inl h
    more_of x e some (inr (row, h, l, is)) = inr (
      x ∷ row,
      (bit_is b x e, h),
      omega arith,
      is ∙ ap (λ (r : List Bool). in_bits n (more - 1 - length word) r) (append_assoc bits (x ∷ []) row)
          ∙ ap (λ (m : ℕ). in_bits n m (bits ++ x ∷ row)) (omega arith),
    )

    one : (o : Option Bool) → bit_of b ≡ o → (eqb more 0 ≡ true) ⊎ (eqb more 0 ≡ false) → ((bs : List Bool) → Bitted n (more - 1) bs word (fold (sees ws) (in_bits n (more - 1) bs) word))
        → Bitted n more bits (b ∷ word) (fold (sees ws) (read_bit (in_bits n more bits) n more (bit_of b)) word)
    one None e c again = inl (other_stays ws bits word (read_bit (in_bits n more bits) n more (bit_of b)) (ap (read_bit (in_bits n more bits) n more) e))
    one (Some x) e (inl t) again = inl (other_stays ws bits word (read_bit (in_bits n more bits) n more (bit_of b)) (ap (read_bit (in_bits n more bits) n more) e ∙ rw t refl))
    one (Some x) e (inr f) again =
        let first : read_bit (in_bits n more bits) n more (bit_of b) ≡ in_bits n (more - 1) (bits ++ x ∷ []) = ap (read_bit (in_bits n more bits) n more) e ∙ rw f refl in
        let some : 0 < more = grind (arith, nat_tests) in
        subst (λ (s : ScanOf). Bitted n more bits (b ∷ word) (fold (sees ws) s word)) (sym first) (more_of x e some (again (bits ++ x ∷ [])))

number_some : (ws : List ℕ) (n width : ℕ) (bits : List Bool) (word : List ℕ) → 0 < length word → slice_get ws n ≡ Some width
    → fold (sees ws) (line_at bits (line.Gap (Number n))) word ≡ fold (sees ws) (in_bits n width bits) word
number_some ws n width bits [] l e = absurd (omega arith)
number_some ws n width bits (b ∷ word) l e = ap (λ (o : Option ℕ). fold (sees ws) (begin_bits (line_at bits (line.Gap (Number n))) n o b) word) e ∙ ap (λ (s : ScanOf). fold (sees ws) s word) (same (bit_of b))
  where
    same : (o : Option Bool) → read_bit (line_at bits (line.Gap (Number n))) n width o ≡ read_bit (in_bits n width bits) n width o
    same None = refl
    same (Some x) = elim (cases_Bool (eqb width 0)) [ inl t ↦ rw t refl | inr f ↦ rw f refl ]

number_none : (ws : List ℕ) (n : ℕ) (bits : List Bool) (word : List ℕ) → 0 < length word → slice_get ws n ≡ None → puts ws (line_at bits (line.Gap (Number n))) word ≡ line_at bits line.Other
number_none ws n bits [] l e = absurd (omega arith)
number_none ws n bits (b ∷ word) l e = ap (λ (o : Option ℕ). left (fold (sees ws) (begin_bits (line_at bits (line.Gap (Number n))) n o b) word)) e ∙ put_other ws bits word

bits_long : (word : List ℕ) (row : List Bool) → AllZip IsBit word row → length row ≡ length word
bits_long [] [] h = refl
bits_long [] (x ∷ row) h = absurd h
bits_long (b ∷ word) [] h = absurd h
bits_long (b ∷ word) (x ∷ row) (e, h) = let again = bits_long word row h in omega arith

number_sound : (ws : List ℕ) (n width : ℕ) (word : List ℕ) → 0 < length word → slice_get ws n ≡ Some width
    → ((puts ws (line_at [] (line.Gap (Number n))) word).line ≡ line.Other) ⊎ ((row : List Bool) × AllZip IsBit word row × (length row ≡ width) × (puts ws (line_at [] (line.Gap (Number n))) word ≡ line_at row (line.BitsGap n)))
number_sound ws n width word l e = subst (λ (s : ScanOf). Result s) (sym (number_some ws n width [] word l e)) (by (fold (sees ws) (in_bits n width []) word) (read_some ws n width [] word))
  where
    Result : ScanOf → Type 0
    Result s = ((left s).line ≡ line.Other) ⊎ ((row : List Bool) × AllZip IsBit word row × (length row ≡ width) × (left s ≡ line_at row (line.BitsGap n)))

    by : (s : ScanOf) → Bitted n width [] word s → Result s
    by s (inl h) = inl (ap line_left h)
    by s (inr (row, h, fits, is)) = subst (λ (s : ScanOf). Result s) (sym is) (elim (cases_Bool (eqb (width - length word) 0)) [
      | inl t ↦ inr (row, h, (let z = eqb-true (width - length word) 0 t in let k = bits_long word row h in omega arith), rw t refl)
      | inr f ↦ inl (rw f refl)
    ])

pub number_complete : (ws : List ℕ) (n : ℕ) (word : List ℕ) (row : List Bool) → 0 < length word → AllZip IsBit word row → slice_get ws n ≡ Some (length row) → puts ws (line_at [] (line.Gap (Number n))) word ≡ line_at row (line.BitsGap n)
number_complete ws n word row l h e =
    let same = bits_long word row h in
    let zero : length row - length word ≡ 0 = omega arith in
    ap left (number_some ws n (length row) [] word l e ∙ read_all ws n (length row) [] word row h (omega arith))
    ∙ ap (λ (m : ℕ). left (in_bits n m row)) zero

-- what the words of a line are read as
pub record IsRow (ws : List ℕ) (number bits : List ℕ) (n : ℕ) (row : List Bool) : Type 0 where
  pub is_number : IsNumber number n
  pub is_bits : AllZip IsBit bits row
  pub width : slice_get ws n ≡ Some (length row)

abbrev pub Comes : List ℕ → List (List ℕ) → Line → List Bool → Type 0
Comes ws words line.Blank row = (words ≡ []) × (row ≡ [])
Comes ws words (line.Word t) row = Unit {0}
Comes ws words (line.Gap t) row = (word : List ℕ) × (words ≡ word ∷ []) × Says word t × (row ≡ [])
Comes ws words (line.Bads k t) row = Unit {0}
Comes ws words (line.BadsGap k) row = HasWords words (BadsLine k)
Comes ws words (line.Bits n more) row = Unit {0}
Comes ws words (line.BitsGap n) row = (number : List ℕ) × (bits : List ℕ) × (words ≡ number ∷ bits ∷ []) × IsRow ws number bits n row
Comes ws words (line.Symbol n) row = Unit {0}
Comes ws words (line.SymbolGap n) row = (number : List ℕ) × (bits : List ℕ) × (symbol : List ℕ) × (words ≡ number ∷ bits ∷ symbol ∷ []) × IsRow ws number bits n row
Comes ws words line.Other row = Unit {0}

abbrev pub ComesTo : List ℕ → List (List ℕ) → ScanOf → Type 0
ComesTo ws words s = Comes ws words s.line s.bits

other_comes : (ws : List ℕ) (words : List (List ℕ)) (s : ScanOf) → s.line ≡ line.Other → ComesTo ws words s
other_comes ws words s e = subst (λ (l : Line). Comes ws words l s.bits) (sym e) tt

bads_push : (words : List (List ℕ)) (k : ℕ) (word : List ℕ) → HasWords words (BadsLine k) → IsBadName word → HasWords (words ++ word ∷ []) (BadsLine k)
bads_push words k word (first, others, e, h, all) b = (first, others ++ word ∷ [], ap (λ (ws : List (List ℕ)). ws ++ word ∷ []) e, h, push others all)
  where
    push : (others : List (List ℕ)) → AllByRecursion IsBadName others → AllByRecursion IsBadName (others ++ word ∷ [])
    push [] a = (b, tt)
    push (v ∷ others) (a, all) = (a, push others all)

bad_name : (word : List ℕ) (t : Token) → Says word t → is_bad t ≡ true → IsBadName word
bad_name word (Number n) h e = cc
bad_name word (Begun tag) h e = cc
bad_name word (Tagged Bad n) h e = (n, h)
bad_name word (Tagged States n) h e = cc
bad_name word (Tagged Inputs n) h e = cc
bad_name word Dot h e = cc
bad_name word S h e = cc
bad_name word Sa h e = cc
bad_name word Sat h e = cc
bad_name word Other h e = cc

after_bads : (ws : List ℕ) (words : List (List ℕ)) (row : List Bool) (k : ℕ) (word : List ℕ) → HasWords words (BadsLine k) → ComesTo ws (words ++ word ∷ []) (line_at row (bads_after k (token_of word)))
after_bads ws words row k word h = elim (cases_Bool (is_bad (token_of word))) [
  | inl t ↦ rw t (bads_push words k word h (bad_name word (token_of word) (says word) t))
  | inr f ↦ rw f tt
]

one_word : (words : List (List ℕ)) (first word : List ℕ) → words ≡ first ∷ [] → words ++ word ∷ [] ≡ first ∷ word ∷ []
one_word words first word e = ap (λ (ws : List (List ℕ)). ws ++ word ∷ []) e

second_number : (ws : List ℕ) (words : List (List ℕ)) (n : ℕ) (first word : List ℕ) → 0 < length word → words ≡ first ∷ [] → IsNumber first n → (o : Option ℕ) → slice_get ws n ≡ o
    → ComesTo ws (words ++ word ∷ []) (puts ws (line_at [] (line.Gap (Number n))) word)
second_number ws words n first word l e h None is = subst (λ (s : ScanOf). ComesTo ws (words ++ word ∷ []) s) (sym (number_none ws n [] word l is)) tt
second_number ws words n first word l e h (Some width) is = by (number_sound ws n width word l is)
  where
    by : ((puts ws (line_at [] (line.Gap (Number n))) word).line ≡ line.Other) ⊎ ((row : List Bool) × AllZip IsBit word row × (length row ≡ width) × (puts ws (line_at [] (line.Gap (Number n))) word ≡ line_at row (line.BitsGap n)))
        → ComesTo ws (words ++ word ∷ []) (puts ws (line_at [] (line.Gap (Number n))) word)
    by (inl o) = other_comes ws (words ++ word ∷ []) (puts ws (line_at [] (line.Gap (Number n))) word) o
    by (inr (row, bits, len, to)) = subst (λ (s : ScanOf). ComesTo ws (words ++ word ∷ []) s) (sym to)
        (first, word, one_word words first word e, record { is_number = h; is_bits = bits; width = is ∙ ap Some (sym len) })

second_word : (ws : List ℕ) (words : List (List ℕ)) (t : Token) (first word : List ℕ) → 0 < length word → words ≡ first ∷ [] → Says first t → ComesTo ws (words ++ word ∷ []) (puts ws (line_at [] (line.Gap t)) word)
second_word ws words (Number n) first word l e h = second_number ws words n first word l e h (slice_get ws n) refl
second_word ws words (Tagged Bad k) first word l e h =
    subst (λ (s : ScanOf). ComesTo ws (words ++ word ∷ []) s) (sym (put_first_bad ws [] k word l)) (after_bads ws words [] k word (first, [], e, h, tt))
second_word ws words (Tagged States k) first word l e h = subst (λ (s : ScanOf). ComesTo ws (words ++ word ∷ []) s) (sym (put_alone ws [] (Tagged States k) word l refl)) tt
second_word ws words (Tagged Inputs k) first word l e h = subst (λ (s : ScanOf). ComesTo ws (words ++ word ∷ []) s) (sym (put_alone ws [] (Tagged Inputs k) word l refl)) tt
second_word ws words (Begun tag) first word l e h = subst (λ (s : ScanOf). ComesTo ws (words ++ word ∷ []) s) (sym (put_alone ws [] (Begun tag) word l refl)) tt
second_word ws words Dot first word l e h = subst (λ (s : ScanOf). ComesTo ws (words ++ word ∷ []) s) (sym (put_alone ws [] Dot word l refl)) tt
second_word ws words S first word l e h = subst (λ (s : ScanOf). ComesTo ws (words ++ word ∷ []) s) (sym (put_alone ws [] S word l refl)) tt
second_word ws words Sa first word l e h = subst (λ (s : ScanOf). ComesTo ws (words ++ word ∷ []) s) (sym (put_alone ws [] Sa word l refl)) tt
second_word ws words Sat first word l e h = subst (λ (s : ScanOf). ComesTo ws (words ++ word ∷ []) s) (sym (put_alone ws [] Sat word l refl)) tt
second_word ws words Other first word l e h = subst (λ (s : ScanOf). ComesTo ws (words ++ word ∷ []) s) (sym (put_alone ws [] Other word l refl)) tt

-- between words
abbrev IsBetween : Line → Type 0
IsBetween line.Blank = Unit {0}
IsBetween (line.Word t) = ⊥
IsBetween (line.Gap t) = Unit {0}
IsBetween (line.Bads k t) = ⊥
IsBetween (line.BadsGap k) = Unit {0}
IsBetween (line.Bits n more) = ⊥
IsBetween (line.BitsGap n) = Unit {0}
IsBetween (line.Symbol n) = ⊥
IsBetween (line.SymbolGap n) = Unit {0}
IsBetween line.Other = Unit {0}

left_between : (l : Line) → IsBetween (line_left l)
left_between line.Blank = tt
left_between (line.Word t) = tt
left_between (line.Gap t) = tt
left_between (line.Bads k t) = elim (cases_Bool (is_bad t)) [ inl e ↦ rw e tt | inr e ↦ rw e tt ]
left_between (line.BadsGap k) = tt
left_between (line.Bits n more) = elim (cases_Bool (eqb more 0)) [ inl e ↦ rw e tt | inr e ↦ rw e tt ]
left_between (line.BitsGap n) = tt
left_between (line.Symbol n) = tt
left_between (line.SymbolGap n) = tt
left_between line.Other = tt

word_comes : (ws : List ℕ) (words : List (List ℕ)) (l : Line) (row : List Bool) (word : List ℕ) → 0 < length word → IsBetween l → Comes ws words l row → ComesTo ws (words ++ word ∷ []) (puts ws (line_at row l) word)
word_comes ws words line.Blank row word l i (e, r) = subst (λ (s : ScanOf). ComesTo ws (words ++ word ∷ []) s) (sym (put_blank ws row word l)) (word, ap (λ (w : List (List ℕ)). w ++ word ∷ []) e, says word, r)
word_comes ws words (line.Word t) row word l i h = absurd i
word_comes ws words (line.Gap t) row word l i (first, e, h, r) = subst (λ (bits : List Bool). ComesTo ws (words ++ word ∷ []) (puts ws (line_at bits (line.Gap t)) word)) (sym r) (second_word ws words t first word l e h)
word_comes ws words (line.Bads k t) row word l i h = absurd i
word_comes ws words (line.BadsGap k) row word l i h = subst (λ (s : ScanOf). ComesTo ws (words ++ word ∷ []) s) (sym (put_bad ws row k word l)) (after_bads ws words row k word h)
word_comes ws words (line.Bits n more) row word l i h = absurd i
word_comes ws words (line.BitsGap n) row word l i (number, bits, e, h) =
    subst (λ (s : ScanOf). ComesTo ws (words ++ word ∷ []) s) (sym (put_symbol ws row n word l)) (number, bits, word, ap (λ (w : List (List ℕ)). w ++ word ∷ []) e, h)
word_comes ws words (line.Symbol n) row word l i h = absurd i
word_comes ws words (line.SymbolGap n) row word l i h = subst (λ (s : ScanOf). ComesTo ws (words ++ word ∷ []) s) (sym (put_past ws row n word l)) tt
word_comes ws words line.Other row word l i h = subst (λ (s : ScanOf). ComesTo ws (words ++ word ∷ []) s) (sym (put_other ws row word)) tt

words_come : (ws : List ℕ) (front words : List (List ℕ)) (s : ScanOf) → AreWords words → IsBetween s.line → ComesTo ws front s → ComesTo ws (front ++ words) (fold (puts ws) s words)
words_come ws front [] s a i h = subst (λ (w : List (List ℕ)). ComesTo ws w s) (sym (append-nil front)) h
words_come ws front (word ∷ words) s (l, a) i h =
    subst (λ (w : List (List ℕ)). ComesTo ws w (fold (puts ws) (puts ws s word) words)) (append_assoc front (word ∷ []) words)
    (words_come ws (front ++ word ∷ []) words (puts ws s word) a (left_between (fold (sees ws) s word).line) (word_comes ws front s.line s.bits word l i h))

pub line_comes : (ws text : List ℕ) → ComesTo ws (words_of text) (left (fold (scans ws) no_scan text))
line_comes ws text =
    subst (λ (s : ScanOf). ComesTo ws (words_of text) s) (sym (line_words ws text))
    (words_come ws [] (words_of text) no_scan (words_after_some [] text) tt (refl, refl))

-- which line it is
abbrev pub line_of : Entry → List Bool → WitnessLine
line_of entry.Sat bits = SatLine
line_of (entry.Bads k) bits = BadsLine k
line_of (entry.States t) bits = StatesLine t
line_of (entry.Inputs t) bits = InputsLine t
line_of (entry.Assign n) bits = AssignLine (record { number = n; row = reverse bits })
line_of entry.End bits = EndLine

abbrev pub FitsWidths : List ℕ → WitnessLine → Type 0
FitsWidths ws SatLine = Unit {0}
FitsWidths ws (BadsLine k) = Unit {0}
FitsWidths ws (StatesLine t) = Unit {0}
FitsWidths ws (InputsLine t) = Unit {0}
FitsWidths ws (AssignLine a) = slice_get ws a.number ≡ Some (length a.row)
FitsWidths ws EndLine = Unit {0}

-- what is read of a line
abbrev pub said_by : Option Entry → List Bool → Option WitnessLine
said_by None bits = None
said_by (Some e) bits = Some (line_of e bits)

abbrev pub said : List ℕ → List ℕ → Option WitnessLine
said ws text = let s = left (fold (scans ws) no_scan text) in said_by (line_entry s.line) s.bits

row_line : (ws number bits : List ℕ) (symbol : List (List ℕ)) (n : ℕ) (row : List Bool) (words : List (List ℕ)) → words ≡ number ∷ bits ∷ symbol → length symbol ≤ 1 → IsRow ws number bits n row
    → HasWords words (line_of (entry.Assign n) row) × FitsWidths ws (line_of (entry.Assign n) row)
row_line ws number bits symbol n row words e l h = (
  record {
    number = number;
    bits = bits;
    symbol = symbol;
    are = e;
    at_most = l;
    is_number = h.is_number;
    is_bits = subst (AllZip IsBit bits) (sym (reverse-reverse row)) h.is_bits;
  },
  h.width ∙ ap Some (sym (length-reverse row)),
)

token_line : (ws : List ℕ) (words : List (List ℕ)) (word : List ℕ) (t : Token) (row : List Bool) (k : WitnessLine) → words ≡ word ∷ [] → Says word t → said_by (token_entry t) row ≡ Some k → HasWords words k × FitsWidths ws k
token_line ws words word (Number n) row k e h s = cc
token_line ws words word (Begun tag) row k e h s = cc
token_line ws words word (Tagged Bad n) row k e h s = subst (λ (k : WitnessLine). HasWords words k × FitsWidths ws k) (same_Some (BadsLine n) k s) ((word, [], e, h, tt), tt)
token_line ws words word (Tagged States n) row k e h s = subst (λ (k : WitnessLine). HasWords words k × FitsWidths ws k) (same_Some (StatesLine n) k s) ((word, e, h), tt)
token_line ws words word (Tagged Inputs n) row k e h s = subst (λ (k : WitnessLine). HasWords words k × FitsWidths ws k) (same_Some (InputsLine n) k s) ((word, e, h), tt)
token_line ws words word Dot row k e h s = subst (λ (k : WitnessLine). HasWords words k × FitsWidths ws k) (same_Some EndLine k s) (e ∙ ap (λ (w : List ℕ). w ∷ []) h, tt)
token_line ws words word S row k e h s = cc
token_line ws words word Sa row k e h s = cc
token_line ws words word Sat row k e h s = subst (λ (k : WitnessLine). HasWords words k × FitsWidths ws k) (same_Some SatLine k s) (e ∙ ap (λ (w : List ℕ). w ∷ []) h, tt)
token_line ws words word Other row k e h s = cc

line_sound : (ws : List ℕ) (words : List (List ℕ)) (l : Line) (row : List Bool) (k : WitnessLine) → Comes ws words l row → said_by (line_entry l) row ≡ Some k → HasWords words k × FitsWidths ws k
line_sound ws words line.Blank row k h s = cc
line_sound ws words (line.Word t) row k h s = cc
line_sound ws words (line.Gap t) row k (word, e, h, r) s = token_line ws words word t row k e h s
line_sound ws words (line.Bads j t) row k h s = cc
line_sound ws words (line.BadsGap j) row k h s = subst (λ (k : WitnessLine). HasWords words k × FitsWidths ws k) (same_Some (BadsLine j) k s) (h, tt)
line_sound ws words (line.Bits n more) row k h s = cc
line_sound ws words (line.BitsGap n) row k (number, bits, e, h) s =
    subst (λ (k : WitnessLine). HasWords words k × FitsWidths ws k) (same_Some (line_of (entry.Assign n) row) k s) (row_line ws number bits [] n row words e (omega arith) h)
line_sound ws words (line.Symbol n) row k h s = cc
line_sound ws words (line.SymbolGap n) row k (number, bits, symbol, e, h) s =
    subst (λ (k : WitnessLine). HasWords words k × FitsWidths ws k) (same_Some (line_of (entry.Assign n) row) k s) (row_line ws number bits (symbol ∷ []) n row words e (omega arith) h)
line_sound ws words line.Other row k h s = cc

-- what is read of a line is a line that it is
pub said_is : (ws text : List ℕ) (k : WitnessLine) → said ws text ≡ Some k → HasWords (words_of text) k × FitsWidths ws k
said_is ws text k s = let r = left (fold (scans ws) no_scan text) in line_sound ws (words_of text) r.line r.bits k (line_comes ws text) s

-- and what it is is read
abbrev pub said_words : List ℕ → List (List ℕ) → Option WitnessLine
said_words ws words = let s = fold (puts ws) no_scan words in said_by (line_entry s.line) s.bits

said_by_words : (ws text : List ℕ) → said ws text ≡ said_words ws (words_of text)
said_by_words ws text = ap (λ (s : ScanOf). said_by (line_entry s.line) s.bits) (line_words ws text)

one_read : (ws word : List ℕ) (t : Token) → 0 < length word → token_of word ≡ t → fold (puts ws) no_scan (word ∷ []) ≡ line_at [] (line.Gap t)
one_read ws word t l e = put_blank ws [] word l ∙ ap (λ (t : Token). line_at [] (line.Gap t)) e

tagged_some : (tag : ℕ) (word : List ℕ) (n : ℕ) → IsTagged tag word n → 0 < length word
tagged_some tag word n (ds, e, h) = let l = ap (λ (w : List ℕ). length w) e in omega arith

bads_read : (ws : List ℕ) (k : ℕ) (others : List (List ℕ)) → AllByRecursion IsBadName others → fold (puts ws) (line_at [] (line.BadsGap k)) others ≡ line_at [] (line.BadsGap k)
bads_read ws k [] h = refl
bads_read ws k (word ∷ others) ((n, b), h) =
    ap (λ (s : ScanOf). fold (puts ws) s others) (put_bad ws [] k word (tagged_some 98 word n b) ∙ ap (λ (t : Token). line_at [] (bads_after k t)) (reads_tagged Bad word n b))
    ∙ bads_read ws k others h

bads_said : (ws : List ℕ) (k : ℕ) (word : List ℕ) (others : List (List ℕ)) → IsTagged 98 word k → AllByRecursion IsBadName others → said_words ws (word ∷ others) ≡ Some (BadsLine k)
bads_said ws k word [] b h = ap (λ (s : ScanOf). said_by (line_entry s.line) s.bits) (one_read ws word (Tagged Bad k) (tagged_some 98 word k b) (reads_tagged Bad word k b))
bads_said ws k word (v ∷ others) b ((n, c), h) =
    ap (λ (s : ScanOf). said_by (line_entry (fold (puts ws) (puts ws s v) others).line) (fold (puts ws) (puts ws s v) others).bits)
    (one_read ws word (Tagged Bad k) (tagged_some 98 word k b) (reads_tagged Bad word k b))
    ∙ ap (λ (s : ScanOf). said_by (line_entry (fold (puts ws) s others).line) (fold (puts ws) s others).bits)
    (put_first_bad ws [] k v (tagged_some 98 v n c) ∙ ap (λ (t : Token). line_at [] (bads_after k t)) (reads_tagged Bad v n c))
    ∙ ap (λ (s : ScanOf). said_by (line_entry s.line) s.bits) (bads_read ws k others h)

symbol_read : (ws : List ℕ) (n : ℕ) (row : List Bool) (symbol : List (List ℕ)) → length symbol ≤ 1 → AreWords symbol
    → said_by (line_entry (fold (puts ws) (line_at row (line.BitsGap n)) symbol).line) (fold (puts ws) (line_at row (line.BitsGap n)) symbol).bits ≡ Some (line_of (entry.Assign n) row)
symbol_read ws n row [] l a = refl
symbol_read ws n row (word ∷ []) l (some, a) = ap (λ (s : ScanOf). said_by (line_entry s.line) s.bits) (put_symbol ws row n word some)
symbol_read ws n row (word ∷ v ∷ symbol) l a = absurd (omega arith)

assign_read : (ws : List ℕ) (words : List (List ℕ)) (a : AssignOf) → AreWords words → IsAssign words a → slice_get ws a.number ≡ Some (length a.row) → said_words ws words ≡ Some (AssignLine a)
assign_read ws words a some h fits =
    let bits = h.is_bits in
    let parts = subst AreWords h.are some in
    let width : slice_get ws a.number ≡ Some (length (reverse a.row)) = fits ∙ ap Some (sym (length-reverse a.row)) in
    ap (said_words ws) h.are
    ∙ ap (λ (s : ScanOf). said_by (line_entry (fold (puts ws) (puts ws s h.bits) h.symbol).line) (fold (puts ws) (puts ws s h.bits) h.symbol).bits)
    (one_read ws h.number (Number a.number) parts.0 (reads_number h.number a.number h.is_number))
    ∙ ap (λ (s : ScanOf). said_by (line_entry (fold (puts ws) s h.symbol).line) (fold (puts ws) s h.symbol).bits)
    (number_complete ws a.number h.bits (reverse a.row) parts.1.0 bits width)
    ∙ symbol_read ws a.number (reverse a.row) h.symbol h.at_most parts.1.1
    ∙ ap (λ (r : Row). Some (AssignLine (record { number = a.number; row = r }))) (reverse-reverse a.row)

words_said : (ws : List ℕ) (words : List (List ℕ)) (k : WitnessLine) → AreWords words → HasWords words k → FitsWidths ws k → said_words ws words ≡ Some k
words_said ws words SatLine some h fits = ap (said_words ws) h
words_said ws words (BadsLine k) some (word, others, e, b, h) fits = ap (said_words ws) e ∙ bads_said ws k word others b h
words_said ws words (StatesLine t) some (word, e, h) fits =
    ap (said_words ws) e ∙ ap (λ (s : ScanOf). said_by (line_entry s.line) s.bits) (one_read ws word (Tagged States t) (tagged_some 35 word t h) (reads_tagged States word t h))
words_said ws words (InputsLine t) some (word, e, h) fits =
    ap (said_words ws) e ∙ ap (λ (s : ScanOf). said_by (line_entry s.line) s.bits) (one_read ws word (Tagged Inputs t) (tagged_some 64 word t h) (reads_tagged Inputs word t h))
words_said ws words (AssignLine a) some h fits = assign_read ws words a some h fits
words_said ws words EndLine some h fits = ap (said_words ws) h

pub said_all : (ws text : List ℕ) (k : WitnessLine) → HasWords (words_of text) k → FitsWidths ws k → said ws text ≡ Some k
said_all ws text k h fits = said_by_words ws text ∙ words_said ws (words_of text) k (words_after_some [] text) h fits
