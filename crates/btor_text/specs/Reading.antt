-- What a reader makes of words.
use Rattle.sby_terms.specs.Number.{is_number}
use Rattle.std.specs.Prelude.{ℕ, zero, suc, Bool, true, false, cond, eqb, ◌||◌, List, [], ◌∷◌, ◌++◌, Option, Some, None, min, ◌^◌, ◌-◌, codes, bytes_eq}
use Rattle.std.specs.List.{list_all}
use Rattle.std.specs.Str.Parse.{digits_value}
use Rattle.btor_core.specs.declared.line.Unary.{Unary}
use Rattle.btor_core.specs.declared.line.Unary.TheVariants as unary
use Rattle.btor_core.specs.declared.line.Binary.{Binary}
use Rattle.btor_core.specs.declared.line.Binary.TheVariants as binary
use Rattle.btor_core.specs.declared.line.Node.{Node}
use Rattle.btor_core.specs.declared.line.Node.TheVariants as node
use Rattle.btor_core.specs.declared.line.Body.{Body}
use Rattle.btor_core.specs.declared.line.Body.TheVariants as body
use Rattle.btor_core.specs.declared.line.Line.{Line}
use Rattle.btor_text.specs.Grammar.{body_bits}

-- a word before others, if there is one
abbrev pub cons_word : List ℕ → List (List ℕ) → List (List ℕ)
cons_word [] ws = ws
cons_word (b ∷ w) ws = (b ∷ w) ∷ ws

-- whether a word is a number: digits without a leading 0, or 0 itself
abbrev pub is_numeral : List ℕ → Bool
is_numeral w = is_number w || bytes_eq w (codes "0")

-- the number that a word writes; the greatest of 32 bits for all past it
abbrev pub number_of : List ℕ → Option ℕ
number_of w = cond (is_numeral w) (Some (min (digits_value 10 w) (2 ^ 32 - 1))) None

-- the word at a place, empty past the last
abbrev pub word_at : List (List ℕ) → ℕ → List ℕ
word_at [] k = []
word_at (w ∷ ws) zero = w
word_at (w ∷ ws) (suc k) = word_at ws k

abbrev pub is_empty : List ℕ → Bool
is_empty [] = true
is_empty (b ∷ bs) = false

-- whether a word's bytes are the digits of bits
abbrev pub is_bit : ℕ → Bool
is_bit b = eqb b 48 || eqb b 49

abbrev pub is_bits : List ℕ → Bool
is_bits w = list_all is_bit w

-- what is made of numbers, where each is one
abbrev pub with_one : {A : Type 0} → (ℕ → Option A) → Option ℕ → Option A
with_one f None = None
with_one f (Some n) = f n

abbrev pub with_two : {A : Type 0} → (ℕ → ℕ → Option A) → Option ℕ → Option ℕ → Option A
with_two f None b = None
with_two f (Some n) b = with_one (f n) b

abbrev pub with_three : {A : Type 0} → (ℕ → ℕ → ℕ → Option A) → Option ℕ → Option ℕ → Option ℕ → Option A
with_three f None b c = None
with_three f (Some n) b c = with_two (f n) b c

abbrev pub with_four : {A : Type 0} → (ℕ → ℕ → ℕ → ℕ → Option A) → Option ℕ → Option ℕ → Option ℕ → Option ℕ → Option A
with_four f None b c d = None
with_four f (Some n) b c d = with_three (f n) b c d

-- the operator of this name
abbrev pub unary_of : List ℕ → Option Unary
unary_of w =
    cond (bytes_eq w (codes "not")) (Some unary.Not) (cond (bytes_eq w (codes "neg")) (Some unary.Neg) (cond (bytes_eq w (codes "redand")) (Some unary.Redand)
    (cond (bytes_eq w (codes "redor")) (Some unary.Redor) (cond (bytes_eq w (codes "redxor")) (Some unary.Redxor) None))))

abbrev pub comparison_of : List ℕ → Option Binary
comparison_of w =
    cond (bytes_eq w (codes "eq")) (Some binary.Eq) (cond (bytes_eq w (codes "neq")) (Some binary.Neq)
    (cond (bytes_eq w (codes "ult")) (Some binary.Ult) (cond (bytes_eq w (codes "ulte")) (Some binary.Ulte) (cond (bytes_eq w (codes "slt")) (Some binary.Slt)
    (cond (bytes_eq w (codes "slte")) (Some binary.Slte) (cond (bytes_eq w (codes "concat")) (Some binary.Concat) None))))))

abbrev pub binary_of : List ℕ → Option Binary
binary_of w =
    cond (bytes_eq w (codes "and")) (Some binary.And) (cond (bytes_eq w (codes "or")) (Some binary.Or) (cond (bytes_eq w (codes "xor")) (Some binary.Xor)
    (cond (bytes_eq w (codes "add")) (Some binary.Add) (cond (bytes_eq w (codes "sub")) (Some binary.Sub) (cond (bytes_eq w (codes "mul")) (Some binary.Mul)
    (cond (bytes_eq w (codes "udiv")) (Some binary.Udiv) (cond (bytes_eq w (codes "urem")) (Some binary.Urem) (cond (bytes_eq w (codes "sdiv")) (Some binary.Sdiv)
    (cond (bytes_eq w (codes "srem")) (Some binary.Srem) (cond (bytes_eq w (codes "sll")) (Some binary.Sll) (cond (bytes_eq w (codes "srl")) (Some binary.Srl)
    (cond (bytes_eq w (codes "sra")) (Some binary.Sra) (comparison_of w)))))))))))))

-- a value whose width and place of bits aren't known yet
abbrev pub value_body : ℕ → Node → Option Body
value_body s n = Some (body.Value s 0 n)

-- what a line says by the words after its nid: a key and one number, ..
abbrev pub two_words : List ℕ → ℕ → Option Body
two_words k a =
    cond (bytes_eq k (codes "bad")) (Some (body.Bad a)) (cond (bytes_eq k (codes "constraint")) (Some (body.Constraint a))
    (cond (bytes_eq k (codes "input")) (value_body a node.Input) (cond (bytes_eq k (codes "state")) (value_body a node.State)
    (cond (bytes_eq k (codes "zero")) (value_body a node.Zero) (cond (bytes_eq k (codes "one")) (value_body a node.One)
    (cond (bytes_eq k (codes "ones")) (value_body a node.Ones) None))))))

abbrev pub sort_words : List ℕ → List ℕ → Option Body
sort_words a b = cond (bytes_eq a (codes "bitvec")) (with_one (λ w. Some (body.Sort w)) (number_of b)) None

abbrev pub const_words : List ℕ → List ℕ → Option Body
const_words a b = cond (is_bits b) (with_one (λ s. value_body s (node.Const 0)) (number_of a)) None

abbrev pub open_words : List ℕ → Node → Option Body
open_words a n = with_one (λ s. value_body s n) (number_of a)

abbrev pub unary_words : Option Unary → List ℕ → List ℕ → Option Body
unary_words None a b = None
unary_words (Some k) a b = with_two (λ s x. value_body s (node.Unary k x)) (number_of a) (number_of b)

abbrev pub three_words : List ℕ → List ℕ → List ℕ → Option Body
three_words k a b =
    cond (bytes_eq k (codes "sort")) (sort_words a b) (cond (bytes_eq k (codes "const")) (const_words a b)
    (cond (bytes_eq k (codes "input")) (open_words a node.Input)
    (cond (bytes_eq k (codes "state")) (open_words a node.State) (unary_words (unary_of k) a b))))

abbrev pub binary_words : Option Binary → ℕ → ℕ → ℕ → Option Body
binary_words None a b c = None
binary_words (Some k) a b c = value_body a (node.Binary k b c)

abbrev pub four_words : List ℕ → ℕ → ℕ → ℕ → Option Body
four_words k a b c =
    cond (bytes_eq k (codes "init")) (Some (body.Init a b c)) (cond (bytes_eq k (codes "next")) (Some (body.Next a b c))
    (cond (bytes_eq k (codes "uext")) (value_body a (node.Uext b c)) (cond (bytes_eq k (codes "sext")) (value_body a (node.Sext b c)) (binary_words (binary_of k) a b c))))

abbrev pub five_words : List ℕ → ℕ → ℕ → ℕ → ℕ → Option Body
five_words k a b c d =
    cond (bytes_eq k (codes "slice")) (value_body a (node.Slice b c d)) (cond (bytes_eq k (codes "ite")) (value_body a (node.Ite b c d)) None)

-- what a line says by the words after its nid, of which the last may be empty
abbrev pub body_said : List ℕ → List ℕ → List ℕ → List ℕ → List ℕ → List ℕ → Option Body
body_said k a b c d more =
    cond (is_empty b) (with_one (two_words k) (number_of a)) (cond (is_empty c) (three_words k a b)
    (cond (is_empty d) (with_three (four_words k) (number_of a) (number_of b) (number_of c))
    (cond (is_empty more) (with_four (five_words k) (number_of a) (number_of b) (number_of c) (number_of d)) None)))

-- what a line says by its words alone: its nid, its body without a width and a place of bits, which the model before tells, and a constant's bits
pub record SaidOf : Type 0 where
  pub nid : ℕ
  pub body : Body
  pub bits : List Bool

abbrev pub bare_node : Node → Node
bare_node node.Input = node.Input
bare_node node.State = node.State
bare_node (node.Const start) = node.Const 0
bare_node node.Zero = node.Zero
bare_node node.One = node.One
bare_node node.Ones = node.Ones
bare_node (node.Unary k a) = node.Unary k a
bare_node (node.Binary k a b) = node.Binary k a b
bare_node (node.Slice a upper lower) = node.Slice a upper lower
bare_node (node.Uext a by) = node.Uext a by
bare_node (node.Sext a by) = node.Sext a by
bare_node (node.Ite t a b) = node.Ite t a b

abbrev pub bare : Body → Body
bare (body.Sort w) = body.Sort w
bare (body.Value s w n) = body.Value s 0 (bare_node n)
bare (body.Init s q v) = body.Init s q v
bare (body.Next s q v) = body.Next s q v
bare (body.Bad n) = body.Bad n
bare (body.Constraint n) = body.Constraint n

abbrev pub line_said : List Bool → Line → SaidOf
line_said constants l = record { nid = l.nid; body = bare l.body; bits = body_bits constants l.body }

-- the bits of digits, the highest first
abbrev pub bits_back : List ℕ → List Bool
bits_back [] = []
bits_back (d ∷ ds) = bits_back ds ++ eqb d 49 ∷ []

-- the digits' bits where the line is a constant's, none of another
abbrev pub node_digits : Node → List Bool → List Bool
node_digits node.Input bs = []
node_digits node.State bs = []
node_digits (node.Const start) bs = bs
node_digits node.Zero bs = []
node_digits node.One bs = []
node_digits node.Ones bs = []
node_digits (node.Unary k a) bs = []
node_digits (node.Binary k a b) bs = []
node_digits (node.Slice a upper lower) bs = []
node_digits (node.Uext a by) bs = []
node_digits (node.Sext a by) bs = []
node_digits (node.Ite t a b) bs = []

abbrev pub body_digits : Body → List Bool → List Bool
body_digits (body.Sort w) bs = []
body_digits (body.Value s w n) bs = node_digits n bs
body_digits (body.Init s q v) bs = []
body_digits (body.Next s q v) bs = []
body_digits (body.Bad n) bs = []
body_digits (body.Constraint n) bs = []

abbrev pub said_with : List Bool → Option ℕ → Option Body → Option SaidOf
said_with bs None b = None
said_with bs (Some k) None = None
said_with bs (Some k) (Some b) = Some (record { nid = k; body = b; bits = body_digits b bs })

-- what a line's words say, where they are those of some line
abbrev pub said_of : List (List ℕ) → Option SaidOf
said_of ws = said_with (bits_back (word_at ws 3)) (number_of (word_at ws 0)) (body_said (word_at ws 1) (word_at ws 2) (word_at ws 3) (word_at ws 4) (word_at ws 5) (word_at ws 6))
