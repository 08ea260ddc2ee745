-- The text of BTOR2: lines, the words of each, and which line of a model they are.
use Rattle.std.specs.Prelude.{◌≡◌, ◌⊎◌, ℕ, Bool, true, false, cond, ◌||◌, eqb, IsTrue, List, [], ◌∷◌, ◌++◌, take, drop, min, ◌^◌, ◌-◌, codes, bytes_eq}
use Rattle.std.specs.List.{AllZip}
use Rattle.std.specs.Str.Parse.{digits_value}
use Rattle.sby_terms.specs.Number.{is_number}
use Rattle.btor_core.specs.declared.line.Unary.{Unary}
use Rattle.btor_core.specs.declared.line.Unary.TheVariants as unary
use Rattle.btor_core.specs.declared.line.Binary.{Binary}
use Rattle.btor_core.specs.declared.line.Binary.TheVariants as binary
use Rattle.btor_core.specs.declared.line.Node.{Node}
use Rattle.btor_core.specs.declared.line.Node.TheVariants as node
use Rattle.btor_core.specs.declared.line.Body.{Body}
use Rattle.btor_core.specs.declared.line.Body.TheVariants as body
use Rattle.btor_core.specs.declared.line.Line.{Line}
use Rattle.btor_core.specs.Shape.{BtorOf}

-- white space within a line: space, tab, carriage return
abbrev pub is_blank : ℕ → Bool
is_blank b = eqb b 32 || (eqb b 9 || eqb b 13)

abbrev pub is_feed : ℕ → Bool
is_feed b = eqb b 10

-- a `;` begins a comment
abbrev pub is_comment : ℕ → Bool
is_comment b = eqb b 59

abbrev pub put_first : ℕ → List (List ℕ) → List (List ℕ)
put_first b [] = (b ∷ []) ∷ []
put_first b (t ∷ ts) = (b ∷ t) ∷ ts

-- the lines of a text: each ends with a line feed or with the end of the text
abbrev pub lines_of : List ℕ → List (List ℕ)
lines_of [] = []
lines_of (b ∷ bytes) = cond (is_feed b) ([] ∷ lines_of bytes) (put_first b (lines_of bytes))

-- the longest runs of visible bytes
abbrev pub words_of : List ℕ → List (List ℕ)
words_of [] = []
words_of (b ∷ []) = cond (is_blank b) [] ((b ∷ []) ∷ [])
words_of (b ∷ c ∷ bytes) = cond (is_blank b) (words_of (c ∷ bytes)) (cond (is_blank c) ((b ∷ []) ∷ words_of (c ∷ bytes)) (put_first b (words_of (c ∷ bytes))))

-- a line without its comment, which runs from `;` to the line's end
abbrev pub uncommented : List ℕ → List ℕ
uncommented [] = []
uncommented (b ∷ bytes) = cond (is_comment b) [] (b ∷ uncommented bytes)

abbrev pub line_words : List ℕ → List (List ℕ)
line_words text = words_of (uncommented text)

-- what a word of a line has to be: a word of the format, a number, or bits
pub data Part : Type 0 where
  key : List ℕ → Part
  number : ℕ → Part
  bits : List Bool → Part

-- the names of operators
abbrev pub unary_name : Unary → List ℕ
unary_name unary.Not = codes "not"
unary_name unary.Neg = codes "neg"
unary_name unary.Redand = codes "redand"
unary_name unary.Redor = codes "redor"
unary_name unary.Redxor = codes "redxor"

abbrev pub binary_name : Binary → List ℕ
binary_name binary.And = codes "and"
binary_name binary.Or = codes "or"
binary_name binary.Xor = codes "xor"
binary_name binary.Add = codes "add"
binary_name binary.Sub = codes "sub"
binary_name binary.Mul = codes "mul"
binary_name binary.Udiv = codes "udiv"
binary_name binary.Urem = codes "urem"
binary_name binary.Sdiv = codes "sdiv"
binary_name binary.Srem = codes "srem"
binary_name binary.Sll = codes "sll"
binary_name binary.Srl = codes "srl"
binary_name binary.Sra = codes "sra"
binary_name binary.Eq = codes "eq"
binary_name binary.Neq = codes "neq"
binary_name binary.Ult = codes "ult"
binary_name binary.Ulte = codes "ulte"
binary_name binary.Slt = codes "slt"
binary_name binary.Slte = codes "slte"
binary_name binary.Concat = codes "concat"

-- the words of a value's line after its nid, a constant having these bits: one line for each node
abbrev pub node_parts : List Bool → ℕ → Node → List Part
node_parts bs s node.Input = key (codes "input") ∷ number s ∷ []
node_parts bs s node.State = key (codes "state") ∷ number s ∷ []
node_parts bs s (node.Const start) = key (codes "const") ∷ number s ∷ bits bs ∷ []
node_parts bs s node.Zero = key (codes "zero") ∷ number s ∷ []
node_parts bs s node.One = key (codes "one") ∷ number s ∷ []
node_parts bs s node.Ones = key (codes "ones") ∷ number s ∷ []
node_parts bs s (node.Unary k a) = key (unary_name k) ∷ number s ∷ number a ∷ []
node_parts bs s (node.Binary k a b) = key (binary_name k) ∷ number s ∷ number a ∷ number b ∷ []
node_parts bs s (node.Slice a upper lower) = key (codes "slice") ∷ number s ∷ number a ∷ number upper ∷ number lower ∷ []
node_parts bs s (node.Uext a by) = key (codes "uext") ∷ number s ∷ number a ∷ number by ∷ []
node_parts bs s (node.Sext a by) = key (codes "sext") ∷ number s ∷ number a ∷ number by ∷ []
node_parts bs s (node.Ite t a b) = key (codes "ite") ∷ number s ∷ number t ∷ number a ∷ number b ∷ []

abbrev pub body_parts : List Bool → Body → List Part
body_parts bs (body.Sort w) = key (codes "sort") ∷ key (codes "bitvec") ∷ number w ∷ []
body_parts bs (body.Value s w n) = node_parts bs s n
body_parts bs (body.Init s q v) = key (codes "init") ∷ number s ∷ number q ∷ number v ∷ []
body_parts bs (body.Next s q v) = key (codes "next") ∷ number s ∷ number q ∷ number v ∷ []
body_parts bs (body.Bad n) = key (codes "bad") ∷ number n ∷ []
body_parts bs (body.Constraint n) = key (codes "constraint") ∷ number n ∷ []

-- the bits of a constant's line; none of another
abbrev pub node_bits : List Bool → ℕ → Node → List Bool
node_bits constants w node.Input = []
node_bits constants w node.State = []
node_bits constants w (node.Const start) = take w (drop start constants)
node_bits constants w node.Zero = []
node_bits constants w node.One = []
node_bits constants w node.Ones = []
node_bits constants w (node.Unary k a) = []
node_bits constants w (node.Binary k a b) = []
node_bits constants w (node.Slice a upper lower) = []
node_bits constants w (node.Uext a by) = []
node_bits constants w (node.Sext a by) = []
node_bits constants w (node.Ite s a b) = []

abbrev pub body_bits : List Bool → Body → List Bool
body_bits constants (body.Sort w) = []
body_bits constants (body.Value s w n) = node_bits constants w n
body_bits constants (body.Init s q v) = []
body_bits constants (body.Next s q v) = []
body_bits constants (body.Bad n) = []
body_bits constants (body.Constraint n) = []

abbrev pub line_parts : List Bool → Line → List Part
line_parts constants l = number l.nid ∷ body_parts (body_bits constants l.body) l.body

-- a decimal number: digits without a leading 0, or 0 itself; the greatest number of 32 bits stands for all past it, as no line has it
pub record IsNumber (word : List ℕ) (n : ℕ) : Type 0 where
  pub digits : IsTrue (is_number word || bytes_eq word (codes "0"))
  pub value : min (digits_value 10 word) (2 ^ 32 - 1) ≡ n

-- a digit for each bit
abbrev pub digit_of : Bool → ℕ
digit_of true = 49
digit_of false = 48

-- the bits' digits, the highest first
abbrev pub bits_text : List Bool → List ℕ
bits_text [] = []
bits_text (b ∷ bs) = bits_text bs ++ digit_of b ∷ []

abbrev pub IsPart : List ℕ → Part → Type 0
IsPart word (key k) = word ≡ k
IsPart word (number n) = IsNumber word n
IsPart word (bits bs) = word ≡ bits_text bs

-- whether a line may have a symbol after its words
abbrev pub node_has_symbol : Node → Bool
node_has_symbol node.Input = true
node_has_symbol node.State = true
node_has_symbol (node.Const start) = false
node_has_symbol node.Zero = false
node_has_symbol node.One = false
node_has_symbol node.Ones = false
node_has_symbol (node.Unary k a) = false
node_has_symbol (node.Binary k a b) = false
node_has_symbol (node.Slice a upper lower) = false
node_has_symbol (node.Uext a by) = false
node_has_symbol (node.Sext a by) = false
node_has_symbol (node.Ite s a b) = false

abbrev pub has_symbol : Body → Bool
has_symbol (body.Sort w) = false
has_symbol (body.Value s w n) = node_has_symbol n
has_symbol (body.Init s q v) = false
has_symbol (body.Next s q v) = false
has_symbol (body.Bad n) = false
has_symbol (body.Constraint n) = false

-- the words are those of the line, or these and a symbol
abbrev pub Spells : List Bool → List (List ℕ) → Line → Type 0
Spells constants words l = AllZip IsPart words (line_parts constants l)
    ⊎ (IsTrue (has_symbol l.body) × (front : List (List ℕ)) × (symbol : List ℕ) × (words ≡ front ++ symbol ∷ []) × AllZip IsPart front (line_parts constants l))

-- the words of each line that has some
abbrev pub put_words : List (List ℕ) → List (List (List ℕ)) → List (List (List ℕ))
put_words [] lines = lines
put_words (w ∷ ws) lines = (w ∷ ws) ∷ lines

abbrev pub all_words : List (List ℕ) → List (List (List ℕ))
all_words [] = []
all_words (text ∷ texts) = put_words (line_words text) (all_words texts)

-- the lines that have words are the model's, one by one
abbrev pub AreLines : List (List ℕ) → BtorOf → Type 0
AreLines texts m = AllZip (Spells m.constants) (all_words texts) m.lines

-- the bytes are a text of the model
abbrev pub IsText : List ℕ → BtorOf → Type 0
IsText bytes m = AreLines (lines_of bytes) m
