-- What is written is a text of the model.
use Rattle.std.proofs.Common.{◌≡◌, ℕ, zero, suc, ◌+◌, ◌-◌, ◌<◌, ◌≤◌, ◌^◌, Bool, true, false, cond, not, eqb, leb, List, [], ◌∷◌, ◌++◌, length, take, get_or, Some, None, refl, sym, ap, ◌∙◌, inl, subst, arith, lit≤, append_assoc, length-append}
use Rattle.std.specs.Prelude.{◌||◌, ◌&&◌, ◌↔◌, map, decimal}
use Rattle.std.specs.List.{AllZip, AllByRecursion, flat_map, list_all}
use Rattle.std.specs.Str.Parse.{digits_value}
use Rattle.std.proofs.lemmas.Bool.Decides.{nat_tests}
use Rattle.std.proofs.lemmas.Fmt.{decimal_digit}
use Rattle.std.proofs.lemmas.List.{take_more}
use Rattle.std.proofs.lemmas.List.Elements.{recursion_from_All}
use Rattle.sby_terms.specs.Number.{is_digit, is_number, number_upto}
use Rattle.btor_core.specs.declared.line.Unary.{Unary}
use Rattle.btor_core.specs.declared.line.Unary.TheVariants as unary
use Rattle.btor_core.specs.declared.line.Binary.{Binary}
use Rattle.btor_core.specs.declared.line.Binary.TheVariants as binary
use Rattle.btor_core.specs.declared.line.Node.{Node}
use Rattle.btor_core.specs.declared.line.Node.TheVariants as node
use Rattle.btor_core.specs.declared.line.Body.{Body}
use Rattle.btor_core.specs.declared.line.Body.TheVariants as body
use Rattle.btor_core.specs.declared.line.Line.{Line}
use Rattle.btor_core.specs.Shape.{BtorOf}
use Rattle.btor_core.specs.Fits.{IsBtor}
use Rattle.btor_core.proofs.Cuts.{all_cuts}
use Rattle.btor_text.specs.Grammar.{IsNumber, IsPart, IsText, Part, Spells, all_words, binary_name, bits, bits_text, body_bits, body_parts, digit_of, is_blank, key, line_parts, line_words, lines_of, node_parts, number, put_first, put_words, unary_name, uncommented, words_of}
use Rattle.btor_text.specs.Text.{line_text, part_text, spaced, text_of}
use Rattle.btor_text.proofs.Small.{IsSmall, line_small}

-- one bit more stands in front
bits_push : (bs : List Bool) (b : Bool) → bits_text (bs ++ b ∷ []) ≡ digit_of b ∷ bits_text bs
bits_push [] b = refl
bits_push (c ∷ bs) b = ap (λ (t : List ℕ). t ++ digit_of c ∷ []) (bits_push bs b)

pub bits_more : (bs : List Bool) (n : ℕ) → 0 < n → n ≤ length bs → bits_text (take n bs) ≡ digit_of (get_or bs (n - 1) false) ∷ bits_text (take (n - 1) bs)
bits_more bs n some h =
    let at : n ≡ (n - 1) + 1 = omega arith in
    let t : take ((n - 1) + 1) bs ≡ take (n - 1) bs ++ get_or bs (n - 1) false ∷ [] = take_more bs (n - 1) false (omega arith) in
    ap (λ (k : ℕ). bits_text (take k bs)) at ∙ ap (λ (cs : List Bool). bits_text cs) t ∙ bits_push (take (n - 1) bs) (get_or bs (n - 1) false)

-- a byte of a word: no line feed, no blank, no comment's
abbrev is_plain_byte : ℕ → Bool
is_plain_byte b = not (eqb b 10 || (eqb b 59 || is_blank b))

record IsPlainByte (b : ℕ) : Type 0 where
  feed : eqb b 10 ≡ false
  comment : eqb b 59 ≡ false
  blank : is_blank b ≡ false

plain_byte : (b : ℕ) → is_plain_byte b ≡ true → IsPlainByte b
plain_byte b h =
    let s = split3 (eqb b 10) (eqb b 59) (is_blank b) h in
    record { feed = s.0; comment = s.1; blank = s.2 }
  where
    split3 : (x y z : Bool) → not (x || (y || z)) ≡ true → (x ≡ false) × (y ≡ false) × (z ≡ false)
    split3 false false false h = (refl, refl, refl)
    split3 true y z h = absurd (let e : false ≡ true = h in cc)
    split3 false true z h = absurd (let e : false ≡ true = h in cc)
    split3 false false true h = absurd (let e : false ≡ true = h in cc)

both_parts : (a b : Bool) → (a && b) ≡ true → (a ≡ true) × (b ≡ true)
both_parts true b h = (refl, h)
both_parts false b h = absurd (let e : false ≡ true = h in cc)

abbrev is_plain : List ℕ → Bool
is_plain [] = false
is_plain (b ∷ bs) = is_plain_byte b && list_all is_plain_byte bs

-- words with one space between
abbrev joined : List (List ℕ) → List ℕ
joined [] = []
joined (w ∷ []) = w
joined (w ∷ v ∷ ws) = w ++ 32 ∷ joined (v ∷ ws)

spaced_joined : (ws : List (List ℕ)) → spaced ws ≡ joined ws ++ 10 ∷ []
spaced_joined [] = refl
spaced_joined (w ∷ []) = refl
spaced_joined (w ∷ v ∷ ws) = ap (λ (t : List ℕ). w ++ 32 ∷ t) (spaced_joined (v ∷ ws)) ∙ sym (append_assoc w (32 ∷ joined (v ∷ ws)) (10 ∷ []))

-- a line ends at its feed
line_ends : (text rest : List ℕ) → list_all (λ b. not (eqb b 10)) text ≡ true → lines_of (text ++ 10 ∷ rest) ≡ text ∷ lines_of rest
line_ends [] rest h = refl
line_ends (b ∷ text) rest h =
    let p = both_parts (not (eqb b 10)) (list_all (λ (c : ℕ). not (eqb c 10)) text) h in
    let e : eqb b 10 ≡ false = grind (arith, nat_tests) in
    rw (e, line_ends text rest p.1) refl

words_blank : (rest : List ℕ) → words_of (32 ∷ rest) ≡ words_of rest
words_blank [] = refl
words_blank (b ∷ rest) = refl

words_next : (w rest : List ℕ) → is_plain w ≡ true → words_of (w ++ 32 ∷ rest) ≡ w ∷ words_of rest
words_next [] rest h = absurd (let e : false ≡ true = h in cc)
words_next (b ∷ []) rest h = let p = plain_byte b (both_parts (is_plain_byte b) true h).0 in rw p.blank (ap (λ (t : List (List ℕ)). (b ∷ []) ∷ t) (words_blank rest))
words_next (b ∷ c ∷ w) rest h =
    let both = both_parts (is_plain_byte b) (is_plain_byte c && list_all is_plain_byte w) h in
    let p = plain_byte b both.0 in
    let q = plain_byte c (both_parts (is_plain_byte c) (list_all is_plain_byte w) both.1).0 in
    rw (p.blank, q.blank) (ap (λ (t : List (List ℕ)). put_first b t) (words_next (c ∷ w) rest both.1))

words_last : (w : List ℕ) → is_plain w ≡ true → words_of w ≡ w ∷ []
words_last [] h = absurd (let e : false ≡ true = h in cc)
words_last (b ∷ []) h = let p = plain_byte b (both_parts (is_plain_byte b) true h).0 in rw p.blank refl
words_last (b ∷ c ∷ w) h =
    let both = both_parts (is_plain_byte b) (is_plain_byte c && list_all is_plain_byte w) h in
    let p = plain_byte b both.0 in
    let q = plain_byte c (both_parts (is_plain_byte c) (list_all is_plain_byte w) both.1).0 in
    rw (p.blank, q.blank) (ap (λ (t : List (List ℕ)). put_first b t) (words_last (c ∷ w) both.1))

words_joined : (w : List ℕ) (ws : List (List ℕ)) → list_all is_plain (w ∷ ws) ≡ true → words_of (joined (w ∷ ws)) ≡ w ∷ ws
words_joined w [] h = words_last w (both_parts (is_plain w) true h).0
words_joined w (v ∷ ws) h =
    let both = both_parts (is_plain w) (list_all is_plain (v ∷ ws)) h in
    words_next w (joined (v ∷ ws)) both.0 ∙ ap (λ (t : List (List ℕ)). w ∷ t) (words_joined v ws both.1)

-- a line feed ends no word, and no word begins a comment
word_inside : (w : List ℕ) → is_plain w ≡ true → (list_all (λ b. not (eqb b 10)) w ≡ true) × (list_all (λ b. not (eqb b 59)) w ≡ true)
word_inside [] h = absurd (let e : false ≡ true = h in cc)
word_inside (b ∷ w) h = bytes_inside (b ∷ w) h
  where
    bytes_inside : (v : List ℕ) → list_all is_plain_byte v ≡ true → (list_all (λ b. not (eqb b 10)) v ≡ true) × (list_all (λ b. not (eqb b 59)) v ≡ true)
    bytes_inside [] h = (refl, refl)
    bytes_inside (c ∷ v) h =
        let both = both_parts (is_plain_byte c) (list_all is_plain_byte v) h in
        let p = plain_byte c both.0 in
        let rest = bytes_inside v both.1 in
        (rw (p.feed, rest.0) refl, rw (p.comment, rest.1) refl)

all_append : (test : ℕ → Bool) (xs ys : List ℕ) → list_all test xs ≡ true → list_all test ys ≡ true → list_all test (xs ++ ys) ≡ true
all_append test [] ys h g = g
all_append test (x ∷ xs) ys h g = let both = both_parts (test x) (list_all test xs) h in rw (both.0, all_append test xs ys both.1 g) refl

joined_inside : (ws : List (List ℕ)) → list_all is_plain ws ≡ true → (list_all (λ b. not (eqb b 10)) (joined ws) ≡ true) × (list_all (λ b. not (eqb b 59)) (joined ws) ≡ true)
joined_inside [] h = (refl, refl)
joined_inside (w ∷ []) h = word_inside w (both_parts (is_plain w) true h).0
joined_inside (w ∷ v ∷ ws) h =
    let both = both_parts (is_plain w) (list_all is_plain (v ∷ ws)) h in
    let here = word_inside w both.0 in
    let rest = joined_inside (v ∷ ws) both.1 in
    (all_append (λ b. not (eqb b 10)) w (32 ∷ joined (v ∷ ws)) here.0 rest.0, all_append (λ b. not (eqb b 59)) w (32 ∷ joined (v ∷ ws)) here.1 rest.1)

no_comment : (text : List ℕ) → list_all (λ b. not (eqb b 59)) text ≡ true → uncommented text ≡ text
no_comment [] h = refl
no_comment (b ∷ text) h =
    let both = both_parts (not (eqb b 59)) (list_all (λ (c : ℕ). not (eqb c 59)) text) h in
    let e : eqb b 59 ≡ false = grind (arith, nat_tests) in
    rw e (ap (λ (t : List ℕ). b ∷ t) (no_comment text both.1))

-- the words of a line that is words with one space between
pub line_is : (w : List ℕ) (ws : List (List ℕ)) (rest : List ℕ) → list_all is_plain (w ∷ ws) ≡ true → (lines_of (spaced (w ∷ ws) ++ rest) ≡ joined (w ∷ ws) ∷ lines_of rest) × (line_words (joined (w ∷ ws)) ≡ w ∷ ws)
line_is w ws rest h =
    let inside = joined_inside (w ∷ ws) h in
    let split : spaced (w ∷ ws) ++ rest ≡ joined (w ∷ ws) ++ 10 ∷ rest = ap (λ (t : List ℕ). t ++ rest) (spaced_joined (w ∷ ws)) ∙ append_assoc (joined (w ∷ ws)) (10 ∷ []) rest in
    (ap (λ (t : List ℕ). lines_of t) split ∙ line_ends (joined (w ∷ ws)) rest inside.0, ap (λ (t : List ℕ). words_of t) (no_comment (joined (w ∷ ws)) inside.1) ∙ words_joined w ws h)

-- each word of a line that is written is plain, and is what the line asks for there
digit_plain : (c : ℕ) → is_digit c ≡ true → is_plain_byte c ≡ true
digit_plain c h = grind (arith, nat_tests)

digits_plain : (w : List ℕ) → list_all is_digit w ≡ true → list_all is_plain_byte w ≡ true
digits_plain [] h = refl
digits_plain (c ∷ w) h = let both = both_parts (is_digit c) (list_all is_digit w) h in rw (digit_plain c both.0, digits_plain w both.1) refl

number_plain : (w : List ℕ) → is_number w ≡ true → is_plain w ≡ true
number_plain [] h = absurd (let e : false ≡ true = h in cc)
number_plain (c ∷ w) h =
    let both = both_parts (list_all is_digit (c ∷ w)) (not (eqb c 48)) h in
    let digits = both_parts (is_digit c) (list_all is_digit w) both.0 in
    rw (digit_plain c digits.0, digits_plain w digits.1) refl

some_plain : (w : List ℕ) → 0 < length w → list_all is_plain_byte w ≡ true → is_plain w ≡ true
some_plain [] h p = absurd (omega arith)
some_plain (b ∷ w) h p = p

digits_of_bits : (bs : List Bool) → list_all is_plain_byte (bits_text bs) ≡ true
digits_of_bits [] = refl
digits_of_bits (true ∷ bs) = all_append is_plain_byte (bits_text bs) (49 ∷ []) (digits_of_bits bs) refl
digits_of_bits (false ∷ bs) = all_append is_plain_byte (bits_text bs) (48 ∷ []) (digits_of_bits bs) refl

length-bits : (bs : List Bool) → length (bits_text bs) ≡ length bs
length-bits [] = refl
length-bits (b ∷ bs) = length-append (bits_text bs) (digit_of b ∷ []) ∙ (let e = length-bits bs in omega arith)

bits_plain : (bs : List Bool) → 0 < length bs → is_plain (bits_text bs) ≡ true
bits_plain bs h = some_plain (bits_text bs) (let e = length-bits bs in omega arith) (digits_of_bits bs)

unary_plain : (k : Unary) → is_plain (unary_name k) ≡ true
unary_plain unary.Not = refl
unary_plain unary.Neg = refl
unary_plain unary.Redand = refl
unary_plain unary.Redor = refl
unary_plain unary.Redxor = refl

binary_plain : (k : Binary) → is_plain (binary_name k) ≡ true
binary_plain binary.And = refl
binary_plain binary.Or = refl
binary_plain binary.Xor = refl
binary_plain binary.Add = refl
binary_plain binary.Sub = refl
binary_plain binary.Mul = refl
binary_plain binary.Udiv = refl
binary_plain binary.Urem = refl
binary_plain binary.Sdiv = refl
binary_plain binary.Srem = refl
binary_plain binary.Sll = refl
binary_plain binary.Srl = refl
binary_plain binary.Sra = refl
binary_plain binary.Eq = refl
binary_plain binary.Neq = refl
binary_plain binary.Ult = refl
binary_plain binary.Ulte = refl
binary_plain binary.Slt = refl
binary_plain binary.Slte = refl
binary_plain binary.Concat = refl

abbrev IsKey : Part → Type 0
IsKey (key k) = is_plain k ≡ true
IsKey (number n) = Unit {0}
IsKey (bits bs) = Unit {0}

node_keys : (bs : List Bool) (s : ℕ) (n : Node) → AllByRecursion IsKey (node_parts bs s n)
node_keys bs s node.Input = (refl, (tt, tt))
node_keys bs s node.State = (refl, (tt, tt))
node_keys bs s (node.Const start) = (refl, (tt, (tt, tt)))
node_keys bs s node.Zero = (refl, (tt, tt))
node_keys bs s node.One = (refl, (tt, tt))
node_keys bs s node.Ones = (refl, (tt, tt))
node_keys bs s (node.Unary k a) = (unary_plain k, (tt, (tt, tt)))
node_keys bs s (node.Binary k a b) = (binary_plain k, (tt, (tt, (tt, tt))))
node_keys bs s (node.Slice a upper lower) = (refl, (tt, (tt, (tt, (tt, tt)))))
node_keys bs s (node.Uext a by) = (refl, (tt, (tt, (tt, tt))))
node_keys bs s (node.Sext a by) = (refl, (tt, (tt, (tt, tt))))
node_keys bs s (node.Ite t a b) = (refl, (tt, (tt, (tt, (tt, tt)))))

body_keys : (bs : List Bool) (b : Body) → AllByRecursion IsKey (body_parts bs b)
body_keys bs (body.Sort w) = (refl, (refl, (tt, tt)))
body_keys bs (body.Value s w n) = node_keys bs s n
body_keys bs (body.Init s q v) = (refl, (tt, (tt, (tt, tt))))
body_keys bs (body.Next s q v) = (refl, (tt, (tt, (tt, tt))))
body_keys bs (body.Bad n) = (refl, (tt, tt))
body_keys bs (body.Constraint n) = (refl, (tt, tt))

-- what is known of numbers from another crate
abbrev pub Law : Type 0
Law = (most n : ℕ) (word : List ℕ) → most ≤ 18446744073709551615 → (number_upto most word ≡ Some n) ↔ ((word ≡ decimal n) × (1 ≤ n) × (n ≤ most))

some_of : (a b : Bool) (v n : ℕ) → cond (a && b) (Some v) None ≡ Some n → (a ≡ true) × (v ≡ n)
some_of true true v n h = (refl, cc)
some_of true false v n h = absurd (let e : None ≡ Some n = h in cc)
some_of false b v n h = absurd (let e : None ≡ Some n = h in cc)

-- the text of a number is one, and plain
record IsWritten (n : ℕ) : Type 0 where
  number : IsNumber (decimal n) n
  plain : is_plain (decimal n) ≡ true

number_written : Law → (n : ℕ) → n < 2 ^ 32 → IsWritten n
number_written law zero h =
    let e : decimal zero ≡ 48 ∷ [] = decimal_digit zero (omega arith) in
    let P : List ℕ → Type 0 = λ w. IsNumber w zero × (is_plain w ≡ true) in
    let zero_is : IsNumber (48 ∷ []) zero = record { digits = refl; value = refl } in
    let both = subst P (sym e) (zero_is, refl) in
    record { number = both.0; plain = both.1 }
number_written law (suc n) h =
    let e : number_upto 4294967295 (decimal (suc n)) ≡ Some (suc n) = (law 4294967295 (suc n) (decimal (suc n)) (lit≤ tt)).1 (refl, omega arith, omega arith) in
    let p = some_of (is_number (decimal (suc n))) (leb (digits_value 10 (decimal (suc n))) 4294967295) (digits_value 10 (decimal (suc n))) (suc n) e in
    record { number = record { digits = rw p.0 refl; value = (let v = p.1 in omega arith) }; plain = number_plain (decimal (suc n)) p.0 }

part_plain : Law → (p : Part) → IsSmall p → IsKey p → is_plain (part_text p) ≡ true
part_plain law (key k) s h = h
part_plain law (number n) s h = (number_written law n s).plain
part_plain law (bits bs) s h = bits_plain bs s

part_is : Law → (p : Part) → IsSmall p → IsPart (part_text p) p
part_is law (key k) s = refl
part_is law (number n) s = (number_written law n s).number
part_is law (bits bs) s = refl

parts_plain : Law → (ps : List Part) → AllByRecursion IsSmall ps → AllByRecursion IsKey ps → list_all is_plain (map part_text ps) ≡ true
parts_plain law [] s h = refl
parts_plain law (p ∷ ps) s h = rw (part_plain law p s.0 h.0, parts_plain law ps s.1 h.1) refl

parts_are : Law → (ps : List Part) → AllByRecursion IsSmall ps → AllZip IsPart (map part_text ps) ps
parts_are law [] s = tt
parts_are law (p ∷ ps) s = (part_is law p s.0, parts_are law ps s.1)

lines_written : Law → (constants : List Bool) (lines : List Line) → AllByRecursion (λ l. AllByRecursion IsSmall (line_parts constants l)) lines → AllZip (Spells constants) (all_words (lines_of (flat_map (line_text constants) lines))) lines
lines_written law constants [] s = tt
lines_written law constants (l ∷ lines) s =
    let first : List ℕ = decimal l.nid in
    let more : List (List ℕ) = map part_text (body_parts (body_bits constants l.body) l.body) in
    let rest : List ℕ = flat_map (line_text constants) lines in
    let plain : list_all is_plain (first ∷ more) ≡ true = parts_plain law (line_parts constants l) s.0 (tt, body_keys (body_bits constants l.body) l.body) in
    let is = line_is first more rest plain in
    let cut : all_words (lines_of (spaced (first ∷ more) ++ rest)) ≡ (first ∷ more) ∷ all_words (lines_of rest) =
    ap (λ (ts : List (List ℕ)). all_words ts) is.0 ∙ ap (λ (ws : List (List ℕ)). put_words ws (all_words (lines_of rest))) is.1 in
    rw cut (inl (parts_are law (line_parts constants l) s.0), lines_written law constants lines s.1)

pub written : Law → (m : BtorOf) → IsBtor m → IsText (text_of m) m
written law m h =
    lines_written law m.constants m.lines (recursion_from_All (λ (l : Line). AllByRecursion IsSmall (line_parts m.constants l)) m.lines
    (all_cuts (λ (l : Line). AllByRecursion IsSmall (line_parts m.constants l)) [] m.lines (λ b more l e. line_small m b more l h e)))
