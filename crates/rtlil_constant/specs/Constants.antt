-- Numbers and constants as written. The digits of a constant stand from the highest to the lowest, each `0 1 x z m` or `-`.
use Rattle.std.specs.Prelude.{ℕ, zero, suc, ◌+◌, ◌-◌, ◌*◌, ◌/◌, ◌%◌, ◌^◌, Bool, true, false, cond, ◌&&◌, ◌||◌, ◌==◌, nat_lt, nat_le, List, [], ◌∷◌, ◌++◌, replicate, length, take, slice_index, Option, Some, None}
use Rattle.std.specs.List.{list_all}
use Rattle.std.specs.Char.{is_ascii_digit}
use Rattle.rtlil_lex.specs.Tokens.{is_quote, is_backslash}

abbrev pub Word : Type 0
Word = List ℕ

-- the number that decimal digits write after those of n
abbrev pub number_from : ℕ → List ℕ → Option ℕ
number_from n [] = Some n
number_from n (c ∷ cs) = cond (is_ascii_digit c) (number_from (n * 10 + (c - 48)) cs) None

-- at least one decimal digit, and nothing else
abbrev pub number_of : Word → Option ℕ
number_of [] = None
number_of (c ∷ cs) = number_from 0 (c ∷ cs)

abbrev pub is_minus : ℕ → Bool
is_minus c = c == 45

-- without the minus before it
abbrev pub unsigned : Word → Word
unsigned [] = []
unsigned (c ∷ cs) = cond (is_minus c) cs (c ∷ cs)

-- x, z and -, which have no value
abbrev pub is_open : ℕ → Bool
is_open c = c == 120 || (c == 122 || c == 45)

abbrev pub is_marker : ℕ → Bool
is_marker c = c == 109

abbrev pub is_digit : ℕ → Bool
is_digit c = c == 48 || (c == 49 || (is_open c || is_marker c))

-- how many of the digits are x, z or -
abbrev pub open_digits : List ℕ → ℕ
open_digits [] = 0
open_digits (c ∷ digits) = cond (is_open c) (1 + open_digits digits) (open_digits digits)

-- the lowest k bits of n
abbrev pub binary : ℕ → ℕ → List ℕ
binary zero n = []
binary (suc k) n = (48 + n / 2 ^ k % 2) ∷ binary k n

-- a decimal has 32 bits, in two's complement, from -2 ^ 31 to 2 ^ 31 - 1
abbrev pub decimal_digits : Option ℕ → Option (List ℕ)
decimal_digits None = None
decimal_digits (Some n) = cond (nat_lt n (2 ^ 31)) (Some (binary 32 n)) None

abbrev pub negative_digits : Option ℕ → Option (List ℕ)
negative_digits None = None
negative_digits (Some n) = cond (nat_le n (2 ^ 31)) (Some (binary 32 (2 ^ 32 - n))) None

abbrev pub is_octal : ℕ → Bool
is_octal c = nat_le 48 c && nat_le c 55

-- whether three octal digits come
abbrev pub is_octal_escape : List ℕ → Bool
is_octal_escape [] = false
is_octal_escape (a ∷ []) = false
is_octal_escape (a ∷ b ∷ []) = false
is_octal_escape (a ∷ b ∷ c ∷ bytes) = is_octal a && (is_octal b && is_octal c)

abbrev pub octal_number : List ℕ → ℕ
octal_number bytes = (slice_index bytes 0 - 48) * 64 + (slice_index bytes 1 - 48) * 8 + (slice_index bytes 2 - 48)

-- what a character after a backslash stands for: n a line feed, t a tab, any other itself
abbrev pub character : ℕ → ℕ
character c = cond (c == 110) 10 (cond (c == 116) 9 c)

-- What these bytes after a backslash stand for, and how many of them do. A backslash with nothing after it stands for itself.
abbrev pub escaped : List ℕ → ℕ
escaped [] = 92
escaped (c ∷ bytes) = cond (is_octal_escape (c ∷ bytes)) (octal_number (c ∷ bytes)) (character c)

abbrev pub escape_length : List ℕ → ℕ
escape_length [] = 0
escape_length (c ∷ bytes) = cond (is_octal_escape (c ∷ bytes)) 3 1

-- the bytes of a string's text, of which the first few were taken by an escape before them
abbrev pub unescaped : ℕ → List ℕ → List ℕ
unescaped taken [] = []
unescaped (suc taken) (b ∷ bytes) = unescaped taken bytes
unescaped zero (b ∷ bytes) = cond (is_backslash b) (escaped bytes ∷ unescaped (escape_length bytes) bytes) (b ∷ unescaped 0 bytes)

-- eight bits for each byte
abbrev pub string_digits : List ℕ → List ℕ
string_digits [] = []
string_digits (b ∷ bytes) = binary 8 b ++ string_digits bytes

-- all but the last byte
abbrev pub front : List ℕ → List ℕ
front bytes = take (length bytes - 1) bytes

-- what stands above digits that are fewer than the width: the leftmost where it is x, z or -, else 0
abbrev pub fill : List ℕ → ℕ
fill [] = 48
fill (c ∷ digits) = cond (is_open c) c 48

-- what may stand above them
abbrev pub is_fill : ℕ → Bool
is_fill c = c == 48 || is_open c

abbrev pub extended : ℕ → List ℕ → List ℕ
extended n digits = replicate (n - length digits) (fill digits) ++ digits

-- `s` before the digits changes nothing
abbrev pub unmarked : List ℕ → List ℕ
unmarked [] = []
unmarked (c ∷ digits) = cond (c == 115) digits (c ∷ digits)

-- at least `least` digits, and no more than the width
abbrev pub sized_digits : ℕ → Option ℕ → List ℕ → Option (List ℕ)
sized_digits least None digits = None
sized_digits least (Some n) digits = cond (nat_le least (length digits) && (nat_le (length digits) n && list_all is_digit digits)) (Some (extended n digits)) None

abbrev pub behind : ℕ → Option (List ℕ × List ℕ) → Option (List ℕ × List ℕ)
behind b None = None
behind b (Some (before, after)) = Some (b ∷ before, after)

-- what stands before the first byte c, and what stands after it
abbrev pub cut : ℕ → List ℕ → Option (List ℕ × List ℕ)
cut c [] = None
cut c (b ∷ bytes) = cond (b == c) (Some ([], bytes)) (behind b (cut c bytes))

-- `width'digits` where there is a quote, else a decimal
abbrev pub plain_digits : ℕ → Word → Option (List ℕ × List ℕ) → Option (List ℕ)
plain_digits least word None = decimal_digits (number_of word)
plain_digits least word (Some (width, digits)) = sized_digits least (number_of width) (unmarked digits)

-- a constant's digits: a string, a decimal below 0, or another constant, which has at least `least` digits written
abbrev pub constant_of : ℕ → Word → Option (List ℕ)
constant_of least [] = None
constant_of least (b ∷ bytes) =
    cond (is_quote b) (Some (string_digits (unescaped 0 (front bytes))))
    (cond (is_minus b) (negative_digits (number_of bytes)) (plain_digits least (b ∷ bytes) (cut 39 (b ∷ bytes))))

abbrev pub is_constant : Option (List ℕ) → Bool
is_constant None = false
is_constant (Some digits) = true

-- what stands between `[` and `]`
abbrev pub bracketed : Word → Option (List ℕ)
bracketed [] = None
bracketed (b ∷ bytes) = cond (b == 91 && (nat_le 1 (length bytes) && slice_index bytes (length bytes - 1) == 93)) (Some (front bytes)) None

abbrev pub one_index : Option ℕ → Option (ℕ × ℕ)
one_index None = None
one_index (Some n) = Some (n, n)

abbrev pub two_indices : Option ℕ → Option ℕ → Option (ℕ × ℕ)
two_indices None low = None
two_indices (Some n) None = None
two_indices (Some n) (Some m) = Some (n, m)

abbrev pub indices : List ℕ → Option (List ℕ × List ℕ) → Option (ℕ × ℕ)
indices inside None = one_index (number_of inside)
indices inside (Some (high, low)) = two_indices (number_of high) (number_of low)

abbrev pub indices_in : Option (List ℕ) → Option (ℕ × ℕ)
indices_in None = None
indices_in (Some inside) = indices inside (cut 58 inside)

-- `[n]` or `[n:m]`: the highest and the lowest index
abbrev pub slice_of : Word → Option (ℕ × ℕ)
slice_of word = indices_in (bracketed word)
