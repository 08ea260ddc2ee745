-- Words that are read as a line are that line's.
use Rattle.std.proofs.Common.{◌≡◌, ◌⊎◌, ℕ, ◌-◌, ◌^◌, Bool, true, false, cond, eqb, List, [], ◌∷◌, ◌++◌, Option, Some, None, refl, sym, ap, subst, ◌∙◌, inl, inr}
use Rattle.std.specs.Prelude.{IsTrue, codes, bytes_eq, min, ◌||◌, ◌&&◌, ◌↔◌}
use Rattle.std.specs.List.{AllZip, list_all}
use Rattle.std.specs.Str.Parse.{digits_value}
use Rattle.std.proofs.lemmas.Bool.{eqb-true}
use Rattle.std.proofs.lemmas.Slice.Eq.{bytes_eq-Decides}
use Rattle.btor_core.specs.declared.line.Unary.{Unary}
use Rattle.btor_core.specs.declared.line.Unary.TheVariants as unary
use Rattle.btor_core.specs.declared.line.Binary.{Binary}
use Rattle.btor_core.specs.declared.line.Binary.TheVariants as binary
use Rattle.btor_core.specs.declared.line.Node.{Node}
use Rattle.btor_core.specs.declared.line.Node.TheVariants as node
use Rattle.btor_core.specs.declared.line.Body.{Body}
use Rattle.btor_core.specs.declared.line.Body.TheVariants as body
use Rattle.btor_core.specs.declared.line.Line.{Line}
use Rattle.btor_text.specs.Grammar.{IsNumber, IsPart, Part, Spells, binary_name, bits_text, body_bits, body_parts, digit_of, has_symbol, words_of, node_has_symbol, node_parts, unary_name}
use Rattle.btor_text.specs.Reading.{SaidOf, bare, bare_node, binary_of, bits_back, body_digits, body_said, comparison_of, five_words, four_words, is_bit, is_bits, is_empty, is_numeral, line_said, number_of, said_of, said_with, three_words, two_words, unary_of, unary_words, binary_words, value_body, with_four, with_one, with_three, with_two, word_at}
use Rattle.btor_text.proofs.Back.{AreSome, body_of, five_said, four_said, line_read, three_said, words_some}

chosen : {A : Type 0} (b : Bool) (x y z : A) → cond b x y ≡ z → ((b ≡ true) × (x ≡ z)) ⊎ ((b ≡ false) × (y ≡ z))
chosen true x y z h = inl (refl, h)
chosen false x y z h = inr (refl, h)

test : {A : Type 0} (b : Bool) (o rest : Option A) (P : Type 0) (y : A) → cond b o rest ≡ Some y → (b ≡ true → o ≡ Some y → P) → (rest ≡ Some y → P) → P
test b o rest P y e f g = elim (chosen b o rest (Some y) e) as (λ _. P) [
  | inl p ↦ f p.0 p.1
  | inr p ↦ g p.1
]

pick : {A : Type 0} (k name : List ℕ) (o rest : Option A) (P : Type 0) (y : A) → cond (bytes_eq k name) o rest ≡ Some y → (k ≡ name → o ≡ Some y → P) → (rest ≡ Some y → P) → P
pick k name o rest P y e f g = test (bytes_eq k name) o rest P y e (λ t. f ((bytes_eq-Decides k name).0 t)) g

given : {A : Type 0} (x : A) (P : A → Type 0) (y : A) → Some x ≡ Some y → P x → P y
given x P y e p = let s : x ≡ y = cc in subst P s p

none : {A : Type 0} (P : Type 0) (y : A) → None ≡ Some y → P
none P y e = absurd (cc)

number_to : (w : List ℕ) (n : ℕ) → number_of w ≡ Some n → IsNumber w n
number_to w n h = go (is_numeral w) refl h
  where
    go : (b : Bool) → is_numeral w ≡ b → cond b (Some (min (digits_value 10 w) (2 ^ 32 - 1))) None ≡ Some n → IsNumber w n
    go true e g = let v : min (digits_value 10 w) (2 ^ 32 - 1) ≡ n = cc in record { digits = e; value = v }
    go false e g = none (IsNumber w n) n g

-- what is made of numbers is made where the words are numbers
module _ {A : Type 0} (P : Type 0) (y : A) where
  ones : (f : ℕ → Option A) (w : List ℕ) → with_one f (number_of w) ≡ Some y → ((n : ℕ) → IsNumber w n → f n ≡ Some y → P) → P
  ones f w e g = go (number_of w) refl e
    where
      go : (o : Option ℕ) → number_of w ≡ o → with_one f o ≡ Some y → P
      go None p h = none P y h
      go (Some n) p h = g n (number_to w n p) h

  twos : (f : ℕ → ℕ → Option A) (w v : List ℕ) → with_two f (number_of w) (number_of v) ≡ Some y → ((n : ℕ) → IsNumber w n → (m : ℕ) → IsNumber v m → f n m ≡ Some y → P) → P
  twos f w v e g = go (number_of w) refl e
    where
      go : (o : Option ℕ) → number_of w ≡ o → with_two f o (number_of v) ≡ Some y → P
      go None p h = none P y h
      go (Some n) p h = ones (f n) v h (g n (number_to w n p))

  threes : (f : ℕ → ℕ → ℕ → Option A) (w v u : List ℕ) → with_three f (number_of w) (number_of v) (number_of u) ≡ Some y → ((n : ℕ) → IsNumber w n → (m : ℕ) → IsNumber v m → (i : ℕ) → IsNumber u i → f n m i ≡ Some y → P) → P
  threes f w v u e g = go (number_of w) refl e
    where
      go : (o : Option ℕ) → number_of w ≡ o → with_three f o (number_of v) (number_of u) ≡ Some y → P
      go None p h = none P y h
      go (Some n) p h = twos (f n) v u h (g n (number_to w n p))

  fours : (f : ℕ → ℕ → ℕ → ℕ → Option A) (w v u t : List ℕ) → with_four f (number_of w) (number_of v) (number_of u) (number_of t) ≡ Some y → ((n : ℕ) → IsNumber w n → (m : ℕ) → IsNumber v m → (i : ℕ) → IsNumber u i → (j : ℕ) → IsNumber t j → f n m i j ≡ Some y → P) → P
  fours f w v u t e g = go (number_of w) refl e
    where
      go : (o : Option ℕ) → number_of w ≡ o → with_four f o (number_of v) (number_of u) (number_of t) ≡ Some y → P
      go None p h = none P y h
      go (Some n) p h = threes (f n) v u t h (g n (number_to w n p))

unary_named : (k : List ℕ) (y : Unary) → unary_of k ≡ Some y → k ≡ unary_name y
unary_named k y e =
    let P : Unary → Type 0 = λ z. k ≡ unary_name z in
    pick k (codes "not") _ _ (P y) y e (λ q s. given unary.Not P y s q) (λ e0. pick k (codes "neg") _ _ (P y) y e0 (λ q s. given unary.Neg P y s q) (λ e1. pick k (codes "redand") _ _ (P y) y e1 (λ q s. given unary.Redand P y s q) (λ e2.
    pick k (codes "redor") _ _ (P y) y e2 (λ q s. given unary.Redor P y s q) (λ e3. pick k (codes "redxor") _ _ (P y) y e3 (λ q s. given unary.Redxor P y s q) (λ e4. none (P y) y e4)))))

comparison_named : (k : List ℕ) (y : Binary) → comparison_of k ≡ Some y → k ≡ binary_name y
comparison_named k y e =
    let P : Binary → Type 0 = λ z. k ≡ binary_name z in
    pick k (codes "eq") _ _ (P y) y e (λ q s. given binary.Eq P y s q) (λ e0. pick k (codes "neq") _ _ (P y) y e0 (λ q s. given binary.Neq P y s q) (λ e1. pick k (codes "ult") _ _ (P y) y e1 (λ q s. given binary.Ult P y s q) (λ e2.
    pick k (codes "ulte") _ _ (P y) y e2 (λ q s. given binary.Ulte P y s q) (λ e3. pick k (codes "slt") _ _ (P y) y e3 (λ q s. given binary.Slt P y s q) (λ e4. pick k (codes "slte") _ _ (P y) y e4 (λ q s. given binary.Slte P y s q) (λ e5.
    pick k (codes "concat") _ _ (P y) y e5 (λ q s. given binary.Concat P y s q) (λ e6. none (P y) y e6)))))))

binary_named : (k : List ℕ) (y : Binary) → binary_of k ≡ Some y → k ≡ binary_name y
binary_named k y e =
    let P : Binary → Type 0 = λ z. k ≡ binary_name z in
    pick k (codes "and") _ _ (P y) y e (λ q s. given binary.And P y s q) (λ e0. pick k (codes "or") _ _ (P y) y e0 (λ q s. given binary.Or P y s q) (λ e1. pick k (codes "xor") _ _ (P y) y e1 (λ q s. given binary.Xor P y s q) (λ e2.
    pick k (codes "add") _ _ (P y) y e2 (λ q s. given binary.Add P y s q) (λ e3. pick k (codes "sub") _ _ (P y) y e3 (λ q s. given binary.Sub P y s q) (λ e4. pick k (codes "mul") _ _ (P y) y e4 (λ q s. given binary.Mul P y s q) (λ e5.
    pick k (codes "udiv") _ _ (P y) y e5 (λ q s. given binary.Udiv P y s q) (λ e6. pick k (codes "urem") _ _ (P y) y e6 (λ q s. given binary.Urem P y s q) (λ e7. pick k (codes "sdiv") _ _ (P y) y e7 (λ q s. given binary.Sdiv P y s q) (λ e8.
    pick k (codes "srem") _ _ (P y) y e8 (λ q s. given binary.Srem P y s q) (λ e9. pick k (codes "sll") _ _ (P y) y e9 (λ q s. given binary.Sll P y s q) (λ e10. pick k (codes "srl") _ _ (P y) y e10 (λ q s. given binary.Srl P y s q) (λ e11.
    pick k (codes "sra") _ _ (P y) y e11 (λ q s. given binary.Sra P y s q) (λ e12. comparison_named k y e12)))))))))))))

-- digits of bits are the text of their bits
text_push : (bs : List Bool) (b : Bool) → bits_text (bs ++ b ∷ []) ≡ digit_of b ∷ bits_text bs
text_push [] b = refl
text_push (c ∷ bs) b = ap (λ (t : List ℕ). t ++ digit_of c ∷ []) (text_push bs b)

digit_same : (d : ℕ) → is_bit d ≡ true → digit_of (eqb d 49) ≡ d
digit_same d h = go (eqb d 49) refl h
  where
    go : (b : Bool) → eqb d 49 ≡ b → eqb d 48 || b ≡ true → digit_of b ≡ d
    go true e g = sym (eqb-true d 49 e)
    go false e g = sym (eqb-true d 48 (or_false (eqb d 48) g))
      where
        or_false : (a : Bool) → a || false ≡ true → a ≡ true
        or_false true i = refl
        or_false false i = i

both : (a b : Bool) → a && b ≡ true → (a ≡ true) × (b ≡ true)
both true b h = (refl, h)
both false b h = absurd (let e : false ≡ true = h in cc)

bits_word : (w : List ℕ) → is_bits w ≡ true → w ≡ bits_text (bits_back w)
bits_word [] h = refl
bits_word (d ∷ ds) h =
    let p = both (is_bit d) (list_all is_bit ds) h in
    sym (text_push (bits_back ds) (eqb d 49) ∙ ap (λ (x : ℕ). x ∷ bits_text (bits_back ds)) (digit_same d p.0) ∙ ap (λ (t : List ℕ). d ∷ t) (sym (bits_word ds p.1)))

-- the words after a line's nid are those of a body, or these and a symbol
abbrev IsForm : List (List ℕ) → Body → Type 0
IsForm ws y = AllZip IsPart ws (body_parts (body_digits y (bits_back (word_at ws 2))) y)
    ⊎ (IsTrue (has_symbol y) × (front : List (List ℕ)) × (symbol : List ℕ) × (ws ≡ front ++ symbol ∷ []) × AllZip IsPart front (body_parts (body_digits y (bits_back (word_at ws 2))) y))

two_to : (k a : List ℕ) (n : ℕ) → IsNumber a n → (y : Body) → two_words k n ≡ Some y → IsForm (k ∷ a ∷ []) y
two_to k a n h y e =
    let P : Body → Type 0 = λ z. IsForm (k ∷ a ∷ []) z in
    pick k (codes "bad") _ _ (P y) y e (λ q s. given (body.Bad n) P y s (inl (q, (h, tt)))) (λ e0.
    pick k (codes "constraint") _ _ (P y) y e0 (λ q s. given (body.Constraint n) P y s (inl (q, (h, tt)))) (λ e1.
    pick k (codes "input") _ _ (P y) y e1 (λ q s. given (body.Value n 0 node.Input) P y s (inl (q, (h, tt)))) (λ e2.
    pick k (codes "state") _ _ (P y) y e2 (λ q s. given (body.Value n 0 node.State) P y s (inl (q, (h, tt)))) (λ e3.
    pick k (codes "zero") _ _ (P y) y e3 (λ q s. given (body.Value n 0 node.Zero) P y s (inl (q, (h, tt)))) (λ e4.
    pick k (codes "one") _ _ (P y) y e4 (λ q s. given (body.Value n 0 node.One) P y s (inl (q, (h, tt)))) (λ e5.
    pick k (codes "ones") _ _ (P y) y e5 (λ q s. given (body.Value n 0 node.Ones) P y s (inl (q, (h, tt)))) (λ e6.
    none (P y) y e6)))))))

unary_to : (k a b : List ℕ) (o : Option Unary) → unary_of k ≡ o → (y : Body) → unary_words o a b ≡ Some y → IsForm (k ∷ a ∷ b ∷ []) y
unary_to k a b None p y e = none (IsForm (k ∷ a ∷ b ∷ []) y) y e
unary_to k a b (Some u) p y e =
    let P : Body → Type 0 = λ z. IsForm (k ∷ a ∷ b ∷ []) z in
    twos (P y) y (λ s x. value_body s (node.Unary u x)) a b e (λ n i m j t. given (body.Value n 0 (node.Unary u m)) P y t (inl (unary_named k u p, (i, (j, tt)))))

three_to : (k a b : List ℕ) (y : Body) → three_words k a b ≡ Some y → IsForm (k ∷ a ∷ b ∷ []) y
three_to k a b y e =
    let P : Body → Type 0 = λ z. IsForm (k ∷ a ∷ b ∷ []) z in
    pick k (codes "sort") _ _ (P y) y e (λ q s. pick a (codes "bitvec") _ _ (P y) y s (λ r t. ones (P y) y (λ w. Some (body.Sort w)) b t (λ n i u. given (body.Sort n) P y u (inl (q, (r, (i, tt)))))) (none (P y) y)) (λ e0.
    pick k (codes "const") _ _ (P y) y e0 (λ q s. test (is_bits b) _ _ (P y) y s (λ r t. ones (P y) y (λ w. value_body w (node.Const 0)) a t (λ n i u. given (body.Value n 0 (node.Const 0)) P y u (inl (q, (i, (bits_word b r, tt)))))) (none (P y) y)) (λ e1.
    pick k (codes "input") _ _ (P y) y e1 (λ q s. ones (P y) y (λ w. value_body w node.Input) a s (λ n i u. given (body.Value n 0 node.Input) P y u (inr (refl, k ∷ a ∷ [], b, refl, (q, (i, tt)))))) (λ e2.
    pick k (codes "state") _ _ (P y) y e2 (λ q s. ones (P y) y (λ w. value_body w node.State) a s (λ n i u. given (body.Value n 0 node.State) P y u (inr (refl, k ∷ a ∷ [], b, refl, (q, (i, tt)))))) (λ e3.
    unary_to k a b (unary_of k) refl y e3))))

binary_to : (k a b c : List ℕ) (n m i : ℕ) → IsNumber a n → IsNumber b m → IsNumber c i → (o : Option Binary) → binary_of k ≡ o → (y : Body) → binary_words o n m i ≡ Some y → IsForm (k ∷ a ∷ b ∷ c ∷ []) y
binary_to k a b c n m i h g f None p y e = none (IsForm (k ∷ a ∷ b ∷ c ∷ []) y) y e
binary_to k a b c n m i h g f (Some u) p y e = given (body.Value n 0 (node.Binary u m i)) (λ z. IsForm (k ∷ a ∷ b ∷ c ∷ []) z) y e (inl (binary_named k u p, (h, (g, (f, tt)))))

four_to : (k a b c : List ℕ) (n : ℕ) → IsNumber a n → (m : ℕ) → IsNumber b m → (i : ℕ) → IsNumber c i → (y : Body) → four_words k n m i ≡ Some y → IsForm (k ∷ a ∷ b ∷ c ∷ []) y
four_to k a b c n h m g i f y e =
    let P : Body → Type 0 = λ z. IsForm (k ∷ a ∷ b ∷ c ∷ []) z in
    pick k (codes "init") _ _ (P y) y e (λ q s. given (body.Init n m i) P y s (inl (q, (h, (g, (f, tt)))))) (λ e0.
    pick k (codes "next") _ _ (P y) y e0 (λ q s. given (body.Next n m i) P y s (inl (q, (h, (g, (f, tt)))))) (λ e1.
    pick k (codes "uext") _ _ (P y) y e1 (λ q s. given (body.Value n 0 (node.Uext m i)) P y s (inl (q, (h, (g, (f, tt)))))) (λ e2.
    pick k (codes "sext") _ _ (P y) y e2 (λ q s. given (body.Value n 0 (node.Sext m i)) P y s (inl (q, (h, (g, (f, tt)))))) (λ e3.
    binary_to k a b c n m i h g f (binary_of k) refl y e3))))

five_to : (k a b c d : List ℕ) (n : ℕ) → IsNumber a n → (m : ℕ) → IsNumber b m → (i : ℕ) → IsNumber c i → (j : ℕ) → IsNumber d j → (y : Body) → five_words k n m i j ≡ Some y → IsForm (k ∷ a ∷ b ∷ c ∷ d ∷ []) y
five_to k a b c d n h m g i f j x y e =
    let P : Body → Type 0 = λ z. IsForm (k ∷ a ∷ b ∷ c ∷ d ∷ []) z in
    pick k (codes "slice") _ _ (P y) y e (λ q s. given (body.Value n 0 (node.Slice m i j)) P y s (inl (q, (h, (g, (f, (x, tt))))))) (λ e0.
    pick k (codes "ite") _ _ (P y) y e0 (λ q s. given (body.Value n 0 (node.Ite m i j)) P y s (inl (q, (h, (g, (f, (x, tt))))))) (λ e1.
    none (P y) y e1))

many : (k a b c d x : List ℕ) (ws : List (List ℕ)) → is_empty b ≡ false → is_empty c ≡ false → is_empty d ≡ false → is_empty x ≡ false → None ≡ body_of (k ∷ a ∷ b ∷ c ∷ d ∷ x ∷ ws)
many k a [] c d x ws e f g h = absurd (cc)
many k a (b0 ∷ b) [] d x ws e f g h = absurd (cc)
many k a (b0 ∷ b) (c0 ∷ c) [] x ws e f g h = absurd (cc)
many k a (b0 ∷ b) (c0 ∷ c) (d0 ∷ d) [] ws e f g h = absurd (cc)
many k a (b0 ∷ b) (c0 ∷ c) (d0 ∷ d) (x0 ∷ x) ws e f g h = refl

body_to : (ws : List (List ℕ)) → AreSome ws → (y : Body) → body_of ws ≡ Some y → IsForm ws y
body_to [] some y e = none (IsForm [] y) y e
body_to (k ∷ []) some y e = none (IsForm (k ∷ []) y) y e
body_to (k ∷ a ∷ []) some y e = ones (IsForm (k ∷ a ∷ []) y) y (two_words k) a e (λ n i t. two_to k a n i y t)
body_to (k ∷ a ∷ b ∷ []) some y e = three_to k a b y (sym (three_said k a b some.1.1.0) ∙ e)
body_to (k ∷ a ∷ b ∷ c ∷ []) some y e = threes (IsForm (k ∷ a ∷ b ∷ c ∷ []) y) y (four_words k) a b c (sym (four_said k a b c some.1.1.0 some.1.1.1.0) ∙ e) (λ n h m g i f t. four_to k a b c n h m g i f y t)
body_to (k ∷ a ∷ b ∷ c ∷ d ∷ []) some y e = fours (IsForm (k ∷ a ∷ b ∷ c ∷ d ∷ []) y) y (five_words k) a b c d (sym (five_said k a b c d some.1.1.0 some.1.1.1.0 some.1.1.1.1.0) ∙ e) (λ n h m g i f j x t. five_to k a b c d n h m g i f j x y t)
body_to (k ∷ a ∷ b ∷ c ∷ d ∷ x ∷ ws) some y e = none (IsForm (k ∷ a ∷ b ∷ c ∷ d ∷ x ∷ ws) y) y (many k a b c d x ws some.1.1.0 some.1.1.1.0 some.1.1.1.1.0 some.1.1.1.1.1.0 ∙ e)

-- widths and places of bits stand in no word
node_bare : (bs : List Bool) (s : ℕ) (n : Node) → node_parts bs s (bare_node n) ≡ node_parts bs s n
node_bare bs s node.Input = refl
node_bare bs s node.State = refl
node_bare bs s (node.Const start) = refl
node_bare bs s node.Zero = refl
node_bare bs s node.One = refl
node_bare bs s node.Ones = refl
node_bare bs s (node.Unary k a) = refl
node_bare bs s (node.Binary k a b) = refl
node_bare bs s (node.Slice a upper lower) = refl
node_bare bs s (node.Uext a by) = refl
node_bare bs s (node.Sext a by) = refl
node_bare bs s (node.Ite t a b) = refl

body_bare : (bs : List Bool) (b : Body) → body_parts bs (bare b) ≡ body_parts bs b
body_bare bs (body.Sort w) = refl
body_bare bs (body.Value s w n) = node_bare bs s n
body_bare bs (body.Init s q v) = refl
body_bare bs (body.Next s q v) = refl
body_bare bs (body.Bad n) = refl
body_bare bs (body.Constraint n) = refl

symbol_bare_node : (n : Node) → node_has_symbol (bare_node n) ≡ node_has_symbol n
symbol_bare_node node.Input = refl
symbol_bare_node node.State = refl
symbol_bare_node (node.Const start) = refl
symbol_bare_node node.Zero = refl
symbol_bare_node node.One = refl
symbol_bare_node node.Ones = refl
symbol_bare_node (node.Unary k a) = refl
symbol_bare_node (node.Binary k a b) = refl
symbol_bare_node (node.Slice a upper lower) = refl
symbol_bare_node (node.Uext a by) = refl
symbol_bare_node (node.Sext a by) = refl
symbol_bare_node (node.Ite t a b) = refl

symbol_bare : (b : Body) → has_symbol (bare b) ≡ has_symbol b
symbol_bare (body.Sort w) = refl
symbol_bare (body.Value s w n) = symbol_bare_node n
symbol_bare (body.Init s q v) = refl
symbol_bare (body.Next s q v) = refl
symbol_bare (body.Bad n) = refl
symbol_bare (body.Constraint n) = refl

record IsSaid (n : List ℕ) (ws : List (List ℕ)) (x : SaidOf) : Type 0 where
  number : number_of n ≡ Some x.nid
  body : body_of ws ≡ Some x.body
  bits : body_digits x.body (bits_back (word_at ws 2)) ≡ x.bits

said_is : (n : List ℕ) (ws : List (List ℕ)) (x : SaidOf) → said_of (n ∷ ws) ≡ Some x → IsSaid n ws x
said_is n ws x e = go (number_of n) (body_of ws) refl refl e
  where
    bs : List Bool
    bs = bits_back (word_at ws 2)

    go : (o : Option ℕ) (b : Option Body) → number_of n ≡ o → body_of ws ≡ b → said_with (bits_back (word_at ws 2)) o b ≡ Some x → IsSaid n ws x
    go None b p q h = none (IsSaid n ws x) x h
    go (Some k) None p q h = none (IsSaid n ws x) x h
    go (Some k) (Some b) p q h = given (record { nid = k; body = b; bits = body_digits b (bits_back (word_at ws 2)) }) (λ z. IsSaid n ws z) x h (record { number = p; body = q; bits = refl })

spelt : (constants : List Bool) (n : List ℕ) (ws : List (List ℕ)) (l : Line) → IsNumber n l.nid → body_digits (bare l.body) (bits_back (word_at ws 2)) ≡ body_bits constants l.body → IsForm ws (bare l.body) → Spells constants (n ∷ ws) l
spelt constants n ws l i d (inl h) = inl (i, subst (λ (ps : List Part). AllZip IsPart ws ps) (ap (λ (bs : List Bool). body_parts bs (bare l.body)) d ∙ body_bare (body_bits constants l.body) l.body) h)
spelt constants n ws l i d (inr h) = inr (
  sym (symbol_bare l.body) ∙ h.0,
  n ∷ h.1,
  h.2,
  ap (λ (us : List (List ℕ)). n ∷ us) h.3,
  (i, subst (λ (ps : List Part). AllZip IsPart h.1 ps) (ap (λ (bs : List Bool). body_parts bs (bare l.body)) d ∙ body_bare (body_bits constants l.body) l.body) h.4),
)

line_spelt : (constants : List Bool) (words : List (List ℕ)) (l : Line) → AreSome words → said_of words ≡ Some (line_said constants l) → Spells constants words l
line_spelt constants [] l some e = none (Spells constants [] l) (line_said constants l) e
line_spelt constants (n ∷ ws) l some e =
    let s = said_is n ws (line_said constants l) e in
    spelt constants n ws l (number_to n l.nid s.number) s.bits (body_to ws some.1 (bare l.body) s.body)

-- words are those of a line exactly where they say what it says
pub line_exact : (constants : List Bool) (words : List (List ℕ)) (l : Line) → AreSome words → (said_of words ≡ Some (line_said constants l)) ↔ Spells constants words l
line_exact constants words l some = (line_spelt constants words l some, line_read constants words l some)

same_words : (ws : List (List ℕ)) (n k a b c d m : List ℕ) → n ≡ word_at ws 0 → k ≡ word_at ws 1 → a ≡ word_at ws 2 → b ≡ word_at ws 3 → c ≡ word_at ws 4 → d ≡ word_at ws 5 → m ≡ word_at ws 6
    → said_with (bits_back b) (number_of n) (body_said k a b c d m) ≡ said_of ws
same_words ws n k a b c d m e0 e1 e2 e3 e4 e5 e6 = rw (e0, e1, e2, e3, e4, e5, e6) refl

pub words_exact : (text : List ℕ) (o : Option SaidOf) (n k a b c d m : List ℕ) → n ≡ word_at (words_of text) 0 → k ≡ word_at (words_of text) 1 → a ≡ word_at (words_of text) 2 → b ≡ word_at (words_of text) 3 → c ≡ word_at (words_of text) 4 → d ≡ word_at (words_of text) 5 → m ≡ word_at (words_of text) 6
    → o ≡ said_with (bits_back b) (number_of n) (body_said k a b c d m)
    → (constants : List Bool) (l : Line) → (o ≡ Some (line_said constants l)) ↔ Spells constants (words_of text) l
words_exact text o n k a b c d m e0 e1 e2 e3 e4 e5 e6 is constants l =
    let ws = words_of text in
    let same : o ≡ said_of ws = is ∙ same_words ws n k a b c d m e0 e1 e2 e3 e4 e5 e6 in
    let exact = line_exact constants ws l (words_some text) in
    ((λ h. exact.0 (sym same ∙ h)), (λ h. same ∙ exact.1 h))
