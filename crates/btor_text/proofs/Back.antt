-- What words say, read back: without the width and the place of bits, which the model before tells.
use Rattle.std.proofs.Common.{◌≡◌, ℕ, ◌-◌, ◌^◌, Bool, true, false, cond, eqb, List, [], ◌∷◌, ◌++◌, take, drop, Option, Some, None, refl, ap, subst, ◌∙◌, inl, inr}
use Rattle.std.specs.Prelude.{IsTrue, codes, map, min}
use Rattle.std.specs.List.{AllByRecursion, AllZip}
use Rattle.std.proofs.lemmas.List.Folds.{list_all-append}
use Rattle.std.specs.Str.Parse.{digits_value}
use Rattle.btor_core.specs.declared.line.Unary.{Unary}
use Rattle.btor_core.specs.declared.line.Unary.TheVariants as unary
use Rattle.btor_core.specs.declared.line.Binary.{Binary}
use Rattle.btor_core.specs.declared.line.Binary.TheVariants as binary
use Rattle.btor_core.specs.declared.line.Node.{Node}
use Rattle.btor_core.specs.declared.line.Node.TheVariants as node
use Rattle.btor_core.specs.declared.line.Body.{Body}
use Rattle.btor_core.specs.declared.line.Body.TheVariants as body
use Rattle.btor_core.specs.declared.line.Line.{Line}
use Rattle.btor_text.specs.Grammar.{IsNumber, IsPart, Part, Spells, all_words, binary_name, bits, bits_text, body_bits, body_parts, has_symbol, is_blank, key, line_words, node_has_symbol, line_parts, node_bits, node_parts, number, put_first, put_words, uncommented, unary_name, words_of}
use Rattle.btor_text.specs.Reading.{SaidOf, bare, bare_node, bits_back, body_digits, node_digits, said_of, said_with, body_said, five_words, four_words, is_bit, is_bits, is_empty, is_numeral, line_said, number_of, three_words, two_words, value_body, with_four, with_one, with_three, with_two, word_at}

-- no word is empty
abbrev pub AreSome : List (List ℕ) → Type 0
AreSome ws = AllByRecursion (λ w. is_empty w ≡ false) ws

first_some : (b : ℕ) (ws : List (List ℕ)) → AreSome ws → AreSome (put_first b ws)
first_some b [] h = (refl, tt)
first_some b (w ∷ ws) h = (refl, h.1)

chosen_some : (b : Bool) (xs ys : List (List ℕ)) → AreSome xs → AreSome ys → AreSome (cond b xs ys)
chosen_some true xs ys h g = h
chosen_some false xs ys h g = g

pub words_some : (text : List ℕ) → AreSome (words_of text)
words_some [] = tt
words_some (b ∷ []) = chosen_some (is_blank b) [] ((b ∷ []) ∷ []) tt (refl, tt)
words_some (b ∷ c ∷ bytes) =
    let rest = words_some (c ∷ bytes) in
    chosen_some (is_blank b) (words_of (c ∷ bytes)) (cond (is_blank c) ((b ∷ []) ∷ words_of (c ∷ bytes)) (put_first b (words_of (c ∷ bytes)))) rest
    (chosen_some (is_blank c) ((b ∷ []) ∷ words_of (c ∷ bytes)) (put_first b (words_of (c ∷ bytes))) (refl, rest) (first_some b (words_of (c ∷ bytes)) rest))

put_some : (ws : List (List ℕ)) (wss : List (List (List ℕ))) → AreSome ws → AllByRecursion AreSome wss → AllByRecursion AreSome (put_words ws wss)
put_some [] wss h g = g
put_some (w ∷ ws) wss h g = (h, g)

pub all_some : (texts : List (List ℕ)) → AllByRecursion AreSome (all_words texts)
all_some [] = tt
all_some (text ∷ texts) = put_some (line_words text) (all_words texts) (words_some (uncommented text)) (all_some texts)

-- a number is read as it is, and no number's word is empty
number_is : (w : List ℕ) (n : ℕ) → IsNumber w n → number_of w ≡ Some n
number_is w n h = let e : is_numeral w ≡ true = h.digits in ap (λ (b : Bool). cond b (Some (min (digits_value 10 w) (2 ^ 32 - 1))) None) e ∙ ap (λ (k : ℕ). Some k) h.value

number_some : (w : List ℕ) (n : ℕ) → IsNumber w n → is_empty w ≡ false
number_some [] n h = absurd (let e : false ≡ true = h.digits in cc)
number_some (b ∷ w) n h = refl

-- what the words after a line's nid say
abbrev pub body_of : List (List ℕ) → Option Body
body_of ws = body_said (word_at ws 0) (word_at ws 1) (word_at ws 2) (word_at ws 3) (word_at ws 4) (word_at ws 5)

-- words that are parts, one by one
record Two (ws : List (List ℕ)) (p q : Part) : Type 0 where
  x : List ℕ
  y : List ℕ
  all : ws ≡ x ∷ y ∷ []
  first : IsPart x p
  second : IsPart y q

two : (ws : List (List ℕ)) (p q : Part) → AllZip IsPart ws (p ∷ q ∷ []) → Two ws p q
two [] p q h = absurd h
two (x ∷ []) p q h = absurd h.1
two (x ∷ y ∷ []) p q h = record { x = x; y = y; all = refl; first = h.0; second = h.1.0 }
two (x ∷ y ∷ z ∷ ws) p q h = absurd h.1.1

record Three (ws : List (List ℕ)) (p q r : Part) : Type 0 where
  x : List ℕ
  y : List ℕ
  z : List ℕ
  all : ws ≡ x ∷ y ∷ z ∷ []
  first : IsPart x p
  second : IsPart y q
  third : IsPart z r

three : (ws : List (List ℕ)) (p q r : Part) → AllZip IsPart ws (p ∷ q ∷ r ∷ []) → Three ws p q r
three [] p q r h = absurd h
three (x ∷ ws) p q r h = let t = two ws q r h.1 in record { x = x; y = t.x; z = t.y; all = ap (λ (us : List (List ℕ)). x ∷ us) t.all; first = h.0; second = t.first; third = t.second }

record Four (ws : List (List ℕ)) (p q r s : Part) : Type 0 where
  x : List ℕ
  y : List ℕ
  z : List ℕ
  u : List ℕ
  all : ws ≡ x ∷ y ∷ z ∷ u ∷ []
  first : IsPart x p
  second : IsPart y q
  third : IsPart z r
  fourth : IsPart u s

four : (ws : List (List ℕ)) (p q r s : Part) → AllZip IsPart ws (p ∷ q ∷ r ∷ s ∷ []) → Four ws p q r s
four [] p q r s h = absurd h
four (x ∷ ws) p q r s h = let t = three ws q r s h.1 in record { x = x; y = t.x; z = t.y; u = t.z; all = ap (λ (us : List (List ℕ)). x ∷ us) t.all; first = h.0; second = t.first; third = t.second; fourth = t.third }

record Five (ws : List (List ℕ)) (p q r s o : Part) : Type 0 where
  x : List ℕ
  y : List ℕ
  z : List ℕ
  u : List ℕ
  v : List ℕ
  all : ws ≡ x ∷ y ∷ z ∷ u ∷ v ∷ []
  first : IsPart x p
  second : IsPart y q
  third : IsPart z r
  fourth : IsPart u s
  fifth : IsPart v o

five : (ws : List (List ℕ)) (p q r s o : Part) → AllZip IsPart ws (p ∷ q ∷ r ∷ s ∷ o ∷ []) → Five ws p q r s o
five [] p q r s o h = absurd h
five (x ∷ ws) p q r s o h = let t = four ws q r s o h.1 in record { x = x; y = t.x; z = t.y; u = t.z; v = t.u; all = ap (λ (us : List (List ℕ)). x ∷ us) t.all; first = h.0; second = t.first; third = t.second; fourth = t.third; fifth = t.fourth }

two_back : (ws : List (List ℕ)) (k : List ℕ) (a : ℕ) (f : ℕ → Option Body) → ((x : ℕ) → two_words k x ≡ f x) → AllZip IsPart ws (key k ∷ number a ∷ []) → body_of ws ≡ f a
two_back ws k a f is h =
    let t = two ws (key k) (number a) h in
    ap (λ (us : List (List ℕ)). body_of us) t.all ∙ ap (λ (w : List ℕ). with_one (two_words w) (number_of t.y)) t.first ∙ ap (λ (o : Option ℕ). with_one (two_words k) o) (number_is t.y a t.second) ∙ is a

pub three_said : (x y z : List ℕ) → is_empty z ≡ false → body_of (x ∷ y ∷ z ∷ []) ≡ three_words x y z
three_said x y [] e = absurd (cc)
three_said x y (b ∷ z) e = refl

pub four_said : (x y z u : List ℕ) → is_empty z ≡ false → is_empty u ≡ false → body_of (x ∷ y ∷ z ∷ u ∷ []) ≡ with_three (four_words x) (number_of y) (number_of z) (number_of u)
four_said x y [] u e f = absurd (cc)
four_said x y (b ∷ z) [] e f = absurd (cc)
four_said x y (b ∷ z) (c ∷ u) e f = refl

pub five_said : (x y z u v : List ℕ) → is_empty z ≡ false → is_empty u ≡ false → is_empty v ≡ false → body_of (x ∷ y ∷ z ∷ u ∷ v ∷ []) ≡ with_four (five_words x) (number_of y) (number_of z) (number_of u) (number_of v)
five_said x y [] u v e f g = absurd (cc)
five_said x y (b ∷ z) [] v e f g = absurd (cc)
five_said x y (b ∷ z) (c ∷ u) [] e f g = absurd (cc)
five_said x y (b ∷ z) (c ∷ u) (d ∷ v) e f g = refl

four_back : (ws : List (List ℕ)) (k : List ℕ) (a b c : ℕ) (f : ℕ → ℕ → ℕ → Option Body) → ((x y z : ℕ) → four_words k x y z ≡ f x y z) → AllZip IsPart ws (key k ∷ number a ∷ number b ∷ number c ∷ []) → body_of ws ≡ f a b c
four_back ws k a b c f is h =
    let t = four ws (key k) (number a) (number b) (number c) h in
    ap (λ (us : List (List ℕ)). body_of us) t.all ∙ four_said t.x t.y t.z t.u (number_some t.z b t.third) (number_some t.u c t.fourth)
    ∙ ap (λ (w : List ℕ). with_three (four_words w) (number_of t.y) (number_of t.z) (number_of t.u)) t.first
    ∙ rw (number_is t.y a t.second, number_is t.z b t.third, number_is t.u c t.fourth) (is a b c)

unary_back : (ws : List (List ℕ)) (k : List ℕ) (a b : ℕ) (f : ℕ → ℕ → Option Body) → ((x y : List ℕ) → three_words k x y ≡ with_two f (number_of x) (number_of y)) → AllZip IsPart ws (key k ∷ number a ∷ number b ∷ []) → body_of ws ≡ f a b
unary_back ws k a b f is h =
    let t = three ws (key k) (number a) (number b) h in
    ap (λ (us : List (List ℕ)). body_of us) t.all ∙ three_said t.x t.y t.z (number_some t.z b t.third) ∙ ap (λ (w : List ℕ). three_words w t.y t.z) t.first
    ∙ is t.y t.z ∙ rw (number_is t.y a t.second, number_is t.z b t.third) refl

five_back : (ws : List (List ℕ)) (k : List ℕ) (a b c d : ℕ) (f : ℕ → ℕ → ℕ → ℕ → Option Body) → ((x y z u : ℕ) → five_words k x y z u ≡ f x y z u) → AllZip IsPart ws (key k ∷ number a ∷ number b ∷ number c ∷ number d ∷ []) → body_of ws ≡ f a b c d
five_back ws k a b c d f is h =
    let t = five ws (key k) (number a) (number b) (number c) (number d) h in
    ap (λ (us : List (List ℕ)). body_of us) t.all ∙ five_said t.x t.y t.z t.u t.v (number_some t.z b t.third) (number_some t.u c t.fourth) (number_some t.v d t.fifth)
    ∙ ap (λ (w : List ℕ). with_four (five_words w) (number_of t.y) (number_of t.z) (number_of t.u) (number_of t.v)) t.first
    ∙ rw (number_is t.y a t.second, number_is t.z b t.third, number_is t.u c t.fourth, number_is t.v d t.fifth) (is a b c d)

bits_back_push : (ds : List ℕ) (d : ℕ) → bits_back (ds ++ d ∷ []) ≡ eqb d 49 ∷ bits_back ds
bits_back_push [] d = refl
bits_back_push (e ∷ ds) d = ap (λ (bs : List Bool). bs ++ eqb e 49 ∷ []) (bits_back_push ds d)

pub bits_same : (bs : List Bool) → bits_back (bits_text bs) ≡ bs
bits_same [] = refl
bits_same (true ∷ bs) = bits_back_push (bits_text bs) 49 ∙ ap (λ (cs : List Bool). true ∷ cs) (bits_same bs)
bits_same (false ∷ bs) = bits_back_push (bits_text bs) 48 ∙ ap (λ (cs : List Bool). false ∷ cs) (bits_same bs)

text_bits : (bs : List Bool) → is_bits (bits_text bs) ≡ true
text_bits [] = refl
text_bits (true ∷ bs) = list_all-append is_bit (bits_text bs) (49 ∷ []) ∙ rw (text_bits bs) refl
text_bits (false ∷ bs) = list_all-append is_bit (bits_text bs) (48 ∷ []) ∙ rw (text_bits bs) refl

const_back : (ws : List (List ℕ)) (s : ℕ) (bs : List Bool) → AreSome ws → AllZip IsPart ws (key (codes "const") ∷ number s ∷ bits bs ∷ []) → (body_of ws ≡ value_body s (node.Const 0)) × (bits_back (word_at ws 2) ≡ bs)
const_back ws s bs some h =
    let t = three ws (key (codes "const")) (number s) (bits bs) h in
    let there : AreSome (t.x ∷ t.y ∷ t.z ∷ []) = subst (λ (us : List (List ℕ)). AreSome us) t.all some in
    let made : is_bits t.z ≡ true = ap (λ (w : List ℕ). is_bits w) t.third ∙ text_bits bs in (
      ap (λ (us : List (List ℕ)). body_of us) t.all ∙ three_said t.x t.y t.z there.1.1.0 ∙ ap (λ (w : List ℕ). three_words w t.y t.z) t.first ∙ rw (made, number_is t.y s t.second) refl,
      ap (λ (us : List (List ℕ)). bits_back (word_at us 2)) t.all ∙ ap (λ (w : List ℕ). bits_back w) t.third ∙ bits_same bs,
    )

sort_back : (ws : List (List ℕ)) (w : ℕ) → AllZip IsPart ws (key (codes "sort") ∷ key (codes "bitvec") ∷ number w ∷ []) → body_of ws ≡ Some (body.Sort w)
sort_back ws w h =
    let t = three ws (key (codes "sort")) (key (codes "bitvec")) (number w) h in
    ap (λ (us : List (List ℕ)). body_of us) t.all ∙ three_said t.x t.y t.z (number_some t.z w t.third) ∙ ap (λ (v : List ℕ). three_words v t.y t.z) t.first
    ∙ ap (λ (v : List ℕ). three_words (codes "sort") v t.z) t.second ∙ rw (number_is t.z w t.third) refl

unary_read : (ws : List (List ℕ)) (s : ℕ) (k : Unary) (a : ℕ) → AllZip IsPart ws (key (unary_name k) ∷ number s ∷ number a ∷ []) → body_of ws ≡ value_body s (node.Unary k a)
unary_read ws s unary.Not a h = unary_back ws (codes "not") s a (λ x y. value_body x (node.Unary unary.Not y)) (λ x y. refl) h
unary_read ws s unary.Neg a h = unary_back ws (codes "neg") s a (λ x y. value_body x (node.Unary unary.Neg y)) (λ x y. refl) h
unary_read ws s unary.Redand a h = unary_back ws (codes "redand") s a (λ x y. value_body x (node.Unary unary.Redand y)) (λ x y. refl) h
unary_read ws s unary.Redor a h = unary_back ws (codes "redor") s a (λ x y. value_body x (node.Unary unary.Redor y)) (λ x y. refl) h
unary_read ws s unary.Redxor a h = unary_back ws (codes "redxor") s a (λ x y. value_body x (node.Unary unary.Redxor y)) (λ x y. refl) h

binary_read : (ws : List (List ℕ)) (s : ℕ) (k : Binary) (a b : ℕ) → AllZip IsPart ws (key (binary_name k) ∷ number s ∷ number a ∷ number b ∷ []) → body_of ws ≡ value_body s (node.Binary k a b)
binary_read ws s binary.And a b h = four_back ws (codes "and") s a b (λ x y z. value_body x (node.Binary binary.And y z)) (λ x y z. refl) h
binary_read ws s binary.Or a b h = four_back ws (codes "or") s a b (λ x y z. value_body x (node.Binary binary.Or y z)) (λ x y z. refl) h
binary_read ws s binary.Xor a b h = four_back ws (codes "xor") s a b (λ x y z. value_body x (node.Binary binary.Xor y z)) (λ x y z. refl) h
binary_read ws s binary.Add a b h = four_back ws (codes "add") s a b (λ x y z. value_body x (node.Binary binary.Add y z)) (λ x y z. refl) h
binary_read ws s binary.Sub a b h = four_back ws (codes "sub") s a b (λ x y z. value_body x (node.Binary binary.Sub y z)) (λ x y z. refl) h
binary_read ws s binary.Mul a b h = four_back ws (codes "mul") s a b (λ x y z. value_body x (node.Binary binary.Mul y z)) (λ x y z. refl) h
binary_read ws s binary.Udiv a b h = four_back ws (codes "udiv") s a b (λ x y z. value_body x (node.Binary binary.Udiv y z)) (λ x y z. refl) h
binary_read ws s binary.Urem a b h = four_back ws (codes "urem") s a b (λ x y z. value_body x (node.Binary binary.Urem y z)) (λ x y z. refl) h
binary_read ws s binary.Sdiv a b h = four_back ws (codes "sdiv") s a b (λ x y z. value_body x (node.Binary binary.Sdiv y z)) (λ x y z. refl) h
binary_read ws s binary.Srem a b h = four_back ws (codes "srem") s a b (λ x y z. value_body x (node.Binary binary.Srem y z)) (λ x y z. refl) h
binary_read ws s binary.Sll a b h = four_back ws (codes "sll") s a b (λ x y z. value_body x (node.Binary binary.Sll y z)) (λ x y z. refl) h
binary_read ws s binary.Srl a b h = four_back ws (codes "srl") s a b (λ x y z. value_body x (node.Binary binary.Srl y z)) (λ x y z. refl) h
binary_read ws s binary.Sra a b h = four_back ws (codes "sra") s a b (λ x y z. value_body x (node.Binary binary.Sra y z)) (λ x y z. refl) h
binary_read ws s binary.Eq a b h = four_back ws (codes "eq") s a b (λ x y z. value_body x (node.Binary binary.Eq y z)) (λ x y z. refl) h
binary_read ws s binary.Neq a b h = four_back ws (codes "neq") s a b (λ x y z. value_body x (node.Binary binary.Neq y z)) (λ x y z. refl) h
binary_read ws s binary.Ult a b h = four_back ws (codes "ult") s a b (λ x y z. value_body x (node.Binary binary.Ult y z)) (λ x y z. refl) h
binary_read ws s binary.Ulte a b h = four_back ws (codes "ulte") s a b (λ x y z. value_body x (node.Binary binary.Ulte y z)) (λ x y z. refl) h
binary_read ws s binary.Slt a b h = four_back ws (codes "slt") s a b (λ x y z. value_body x (node.Binary binary.Slt y z)) (λ x y z. refl) h
binary_read ws s binary.Slte a b h = four_back ws (codes "slte") s a b (λ x y z. value_body x (node.Binary binary.Slte y z)) (λ x y z. refl) h
binary_read ws s binary.Concat a b h = four_back ws (codes "concat") s a b (λ x y z. value_body x (node.Binary binary.Concat y z)) (λ x y z. refl) h

node_read : (constants : List Bool) (ws : List (List ℕ)) (s w : ℕ) (n : Node) → AreSome ws → AllZip IsPart ws (node_parts (node_bits constants w n) s n) → body_of ws ≡ value_body s (bare_node n)
node_read constants ws s w node.Input some h = two_back ws (codes "input") s (λ x. value_body x node.Input) (λ x. refl) h
node_read constants ws s w node.State some h = two_back ws (codes "state") s (λ x. value_body x node.State) (λ x. refl) h
node_read constants ws s w (node.Const start) some h = (const_back ws s (take w (drop start constants)) some h).0
node_read constants ws s w node.Zero some h = two_back ws (codes "zero") s (λ x. value_body x node.Zero) (λ x. refl) h
node_read constants ws s w node.One some h = two_back ws (codes "one") s (λ x. value_body x node.One) (λ x. refl) h
node_read constants ws s w node.Ones some h = two_back ws (codes "ones") s (λ x. value_body x node.Ones) (λ x. refl) h
node_read constants ws s w (node.Unary k a) some h = unary_read ws s k a h
node_read constants ws s w (node.Binary k a b) some h = binary_read ws s k a b h
node_read constants ws s w (node.Slice a upper lower) some h = five_back ws (codes "slice") s a upper lower (λ x y z u. value_body x (node.Slice y z u)) (λ x y z u. refl) h
node_read constants ws s w (node.Uext a by) some h = four_back ws (codes "uext") s a by (λ x y z. value_body x (node.Uext y z)) (λ x y z. refl) h
node_read constants ws s w (node.Sext a by) some h = four_back ws (codes "sext") s a by (λ x y z. value_body x (node.Sext y z)) (λ x y z. refl) h
node_read constants ws s w (node.Ite t a b) some h = five_back ws (codes "ite") s t a b (λ x y z u. value_body x (node.Ite y z u)) (λ x y z u. refl) h

body_read : (constants : List Bool) (ws : List (List ℕ)) (b : Body) → AreSome ws → AllZip IsPart ws (body_parts (body_bits constants b) b) → body_of ws ≡ Some (bare b)
body_read constants ws (body.Sort w) some h = sort_back ws w h
body_read constants ws (body.Value s w n) some h = node_read constants ws s w n some h
body_read constants ws (body.Init s q v) some h = four_back ws (codes "init") s q v (λ x y z. Some (body.Init x y z)) (λ x y z. refl) h
body_read constants ws (body.Next s q v) some h = four_back ws (codes "next") s q v (λ x y z. Some (body.Next x y z)) (λ x y z. refl) h
body_read constants ws (body.Bad n) some h = two_back ws (codes "bad") n (λ x. Some (body.Bad x)) (λ x. refl) h
body_read constants ws (body.Constraint n) some h = two_back ws (codes "constraint") n (λ x. Some (body.Constraint x)) (λ x. refl) h

node_kept : (constants : List Bool) (ws : List (List ℕ)) (s w : ℕ) (n : Node) → AreSome ws → AllZip IsPart ws (node_parts (node_bits constants w n) s n) → node_digits (bare_node n) (bits_back (word_at ws 2)) ≡ node_bits constants w n
node_kept constants ws s w node.Input some h = refl
node_kept constants ws s w node.State some h = refl
node_kept constants ws s w (node.Const start) some h = (const_back ws s (take w (drop start constants)) some h).1
node_kept constants ws s w node.Zero some h = refl
node_kept constants ws s w node.One some h = refl
node_kept constants ws s w node.Ones some h = refl
node_kept constants ws s w (node.Unary k a) some h = refl
node_kept constants ws s w (node.Binary k a b) some h = refl
node_kept constants ws s w (node.Slice a upper lower) some h = refl
node_kept constants ws s w (node.Uext a by) some h = refl
node_kept constants ws s w (node.Sext a by) some h = refl
node_kept constants ws s w (node.Ite t a b) some h = refl

body_kept : (constants : List Bool) (ws : List (List ℕ)) (b : Body) → AreSome ws → AllZip IsPart ws (body_parts (body_bits constants b) b) → body_digits (bare b) (bits_back (word_at ws 2)) ≡ body_bits constants b
body_kept constants ws (body.Sort w) some h = refl
body_kept constants ws (body.Value s w n) some h = node_kept constants ws s w n some h
body_kept constants ws (body.Init s q v) some h = refl
body_kept constants ws (body.Next s q v) some h = refl
body_kept constants ws (body.Bad n) some h = refl
body_kept constants ws (body.Constraint n) some h = refl

-- a symbol after the words of an input or a state changes nothing
last_some : (ws : List (List ℕ)) (w : List ℕ) → AreSome (ws ++ w ∷ []) → is_empty w ≡ false
last_some [] w h = h.0
last_some (v ∷ ws) w h = last_some ws w h.1

symbol_back : (ws : List (List ℕ)) (symbol k : List ℕ) (s : ℕ) (n : Node) → ((x : List ℕ) → three_words k x symbol ≡ with_one (λ t. value_body t n) (number_of x)) → is_empty symbol ≡ false → AllZip IsPart ws (key k ∷ number s ∷ []) → body_of (ws ++ symbol ∷ []) ≡ value_body s n
symbol_back ws symbol k s n is some h =
    let t = two ws (key k) (number s) h in
    ap (λ (us : List (List ℕ)). body_of (us ++ symbol ∷ [])) t.all ∙ three_said t.x t.y symbol some ∙ ap (λ (w : List ℕ). three_words w t.y symbol) t.first ∙ is t.y ∙ rw (number_is t.y s t.second) refl

node_symbol : (constants : List Bool) (ws : List (List ℕ)) (symbol : List ℕ) (s w : ℕ) (n : Node) → IsTrue (node_has_symbol n) → is_empty symbol ≡ false → AllZip IsPart ws (node_parts (node_bits constants w n) s n) → body_of (ws ++ symbol ∷ []) ≡ value_body s (bare_node n)
node_symbol constants ws symbol s w node.Input t some h = symbol_back ws symbol (codes "input") s node.Input (λ x. refl) some h
node_symbol constants ws symbol s w node.State t some h = symbol_back ws symbol (codes "state") s node.State (λ x. refl) some h
node_symbol constants ws symbol s w node.Zero t some h = absurd (let e : false ≡ true = t in cc)
node_symbol constants ws symbol s w node.One t some h = absurd (let e : false ≡ true = t in cc)
node_symbol constants ws symbol s w node.Ones t some h = absurd (let e : false ≡ true = t in cc)
node_symbol constants ws symbol s w (node.Unary k a) t some h = absurd (let e : false ≡ true = t in cc)
node_symbol constants ws symbol s w (node.Binary k a b) t some h = absurd (let e : false ≡ true = t in cc)
node_symbol constants ws symbol s w (node.Slice a upper lower) t some h = absurd (let e : false ≡ true = t in cc)
node_symbol constants ws symbol s w (node.Uext a by) t some h = absurd (let e : false ≡ true = t in cc)
node_symbol constants ws symbol s w (node.Sext a by) t some h = absurd (let e : false ≡ true = t in cc)
node_symbol constants ws symbol s w (node.Ite q a b) t some h = absurd (let e : false ≡ true = t in cc)
node_symbol constants ws symbol s w (node.Const start) t some h = absurd (let e : false ≡ true = t in cc)

node_none : (n : Node) (w : ℕ) (bs cs : List Bool) → IsTrue (node_has_symbol n) → node_digits (bare_node n) bs ≡ node_bits cs w n
node_none node.Input w bs cs t = refl
node_none node.State w bs cs t = refl
node_none node.Zero w bs cs t = absurd (let e : false ≡ true = t in cc)
node_none node.One w bs cs t = absurd (let e : false ≡ true = t in cc)
node_none node.Ones w bs cs t = absurd (let e : false ≡ true = t in cc)
node_none (node.Unary k a) w bs cs t = absurd (let e : false ≡ true = t in cc)
node_none (node.Binary k a b) w bs cs t = absurd (let e : false ≡ true = t in cc)
node_none (node.Slice a upper lower) w bs cs t = absurd (let e : false ≡ true = t in cc)
node_none (node.Uext a by) w bs cs t = absurd (let e : false ≡ true = t in cc)
node_none (node.Sext a by) w bs cs t = absurd (let e : false ≡ true = t in cc)
node_none (node.Ite q a b) w bs cs t = absurd (let e : false ≡ true = t in cc)
node_none (node.Const start) w bs cs t = absurd (let e : false ≡ true = t in cc)

body_symbol : (constants : List Bool) (ws : List (List ℕ)) (symbol : List ℕ) (b : Body) → IsTrue (has_symbol b) → is_empty symbol ≡ false → AllZip IsPart ws (body_parts (body_bits constants b) b) → body_of (ws ++ symbol ∷ []) ≡ Some (bare b)
body_symbol constants ws symbol (body.Sort w) t some h = absurd (let e : false ≡ true = t in cc)
body_symbol constants ws symbol (body.Value s w n) t some h = node_symbol constants ws symbol s w n t some h
body_symbol constants ws symbol (body.Init s q v) t some h = absurd (let e : false ≡ true = t in cc)
body_symbol constants ws symbol (body.Next s q v) t some h = absurd (let e : false ≡ true = t in cc)
body_symbol constants ws symbol (body.Bad n) t some h = absurd (let e : false ≡ true = t in cc)
body_symbol constants ws symbol (body.Constraint n) t some h = absurd (let e : false ≡ true = t in cc)

body_none : (b : Body) (bs cs : List Bool) → IsTrue (has_symbol b) → body_digits (bare b) bs ≡ body_bits cs b
body_none (body.Sort w) bs cs t = absurd (let e : false ≡ true = t in cc)
body_none (body.Value s w n) bs cs t = node_none n w bs cs t
body_none (body.Init s q v) bs cs t = absurd (let e : false ≡ true = t in cc)
body_none (body.Next s q v) bs cs t = absurd (let e : false ≡ true = t in cc)
body_none (body.Bad n) bs cs t = absurd (let e : false ≡ true = t in cc)
body_none (body.Constraint n) bs cs t = absurd (let e : false ≡ true = t in cc)

with_number : (constants : List Bool) (n : List ℕ) (ws : List (List ℕ)) (l : Line) → IsNumber n l.nid → body_of ws ≡ Some (bare l.body) → body_digits (bare l.body) (bits_back (word_at ws 2)) ≡ body_bits constants l.body → said_of (n ∷ ws) ≡ Some (line_said constants l)
with_number constants n ws l h e d =
    let bs = bits_back (word_at ws 2) in
    ap (λ (o : Option ℕ). said_with bs o (body_of ws)) (number_is n l.nid h) ∙ ap (λ (o : Option Body). said_with bs (Some l.nid) o) e
    ∙ ap (λ (cs : List Bool). said_line l.nid (bare l.body) cs) d
  where
    said_line : ℕ → Body → List Bool → Option SaidOf
    said_line k b cs = Some (record { nid = k; body = b; bits = cs })

pub line_read : (constants : List Bool) (words : List (List ℕ)) (l : Line) → AreSome words → Spells constants words l → said_of words ≡ Some (line_said constants l)
line_read constants words l some (inl h) = plain words some h
  where
    plain : (us : List (List ℕ)) → AreSome us → AllZip IsPart us (line_parts constants l) → said_of us ≡ Some (line_said constants l)
    plain [] s g = absurd g
    plain (n ∷ ws) s g = with_number constants n ws l g.0 (body_read constants ws l.body s.1 g.1) (body_kept constants ws l.body s.1 g.1)
line_read constants words l some (inr h) = ap (λ (us : List (List ℕ)). said_of us) h.3 ∙ named h.1 (subst (λ (us : List (List ℕ)). AreSome us) h.3 some) h.4
  where
    named : (us : List (List ℕ)) → AreSome (us ++ h.2 ∷ []) → AllZip IsPart us (line_parts constants l) → said_of (us ++ h.2 ∷ []) ≡ Some (line_said constants l)
    named [] s g = absurd g
    named (n ∷ ws) s g = with_number constants n (ws ++ h.2 ∷ []) l g.0 (body_symbol constants ws h.2 l.body h.0 (last_some ws h.2 s.1) g.1) (body_none l.body (bits_back (word_at (ws ++ h.2 ∷ []) 2)) constants h.0)

pub lines_read : (constants : List Bool) (wss : List (List (List ℕ))) (lines : List Line) → AllByRecursion AreSome wss → AllZip (Spells constants) wss lines → map said_of wss ≡ map (λ l. Some (line_said constants l)) lines
lines_read constants [] [] some h = refl
lines_read constants [] (l ∷ lines) some h = absurd h
lines_read constants (ws ∷ wss) [] some h = absurd h
lines_read constants (ws ∷ wss) (l ∷ lines) some h = let a = line_read constants ws l some.0 h.0 in let b = lines_read constants wss lines some.1 h.1 in cc
