-- Numbers of a binary proof: groups of seven bits, the low group first; the top bit of a byte says that a group follows.
use Rattle.std.specs.Prelude.{ℕ, ◌+◌, ◌-◌, ◌*◌, Bool, true, false, cond, ◌&&◌, ◌||◌, leb, List, [], ◌∷◌, ◌++◌, length}
use Rattle.cert_stream.specs.declared.mode.ParseFaultKind.{ParseFaultKind}
use Rattle.cert_stream.specs.declared.mode.ParseFaultKind.TheVariants.{BadLiteral, LineTooLong}

-- a number's bytes, the place of the first of them in the file, and whether its last group is there
pub record NumberOf : Type 0 where
  pub place : ℕ
  pub groups : List ℕ
  pub done : Bool

abbrev pub number : ℕ → List ℕ → Bool → NumberOf
number place groups done = record { place = place; groups = groups; done = done }

-- the number that a file ends in
abbrev pub cut_number : ℕ → List ℕ → List NumberOf
cut_number place [] = []
cut_number place (b ∷ p) = number place (b ∷ p) false ∷ []

-- The numbers of bytes, after the groups so far of one that begins at `place`.
abbrev pub numbers_from : ℕ → List ℕ → List ℕ → List NumberOf
numbers_from place p [] = cut_number place p
numbers_from place p (b ∷ bs) = cond (leb 128 b) (numbers_from place (p ++ b ∷ []) bs) (number place (p ++ b ∷ []) true ∷ numbers_from (place + length p + 1) [] bs)

-- a group's seven bits
abbrev pub seven : ℕ → ℕ
seven b = cond (leb 128 b) (b - 128) b

-- a literal: twice its variable, from 1 to `vars`, and 1 more if it is negated
abbrev pub is_literal : ℕ → ℕ → Bool
is_literal vars n = leb 2 n && leb n (2 * vars + 1)

-- what groups make so far, and the weight of the next, goes on to a literal of at most five groups
abbrev pub may_go_on : ℕ → ℕ → ℕ → Bool
may_go_on vars n weight = leb weight 268435456 && (is_literal vars n || (leb n 1 && leb (n + weight) (2 * vars + 1)))

-- what groups are: the beginning of a literal, with its value so far and the weight of the next group; a literal; or neither
pub data GroupsRead : Type 0 where
  Goes : ℕ → ℕ → GroupsRead
  Whole : ℕ → GroupsRead
  Unfit : ParseFaultKind → GroupsRead

-- in a full line no literal may begin
abbrev pub if_room : Bool → GroupsRead → GroupsRead
if_room full read = cond full (Unfit LineTooLong) read

abbrev pub with_group : ℕ → ℕ → ℕ → ℕ
with_group value weight b = value + seven b * weight

-- one group more
abbrev pub group_next : ℕ → Bool → ℕ → ℕ → ℕ → GroupsRead
group_next vars full value weight b =
    cond (leb 128 b)
    (cond (may_go_on vars (with_group value weight b) (128 * weight)) (if_room full (Goes (with_group value weight b) (128 * weight))) (Unfit BadLiteral))
    (cond (is_literal vars (with_group value weight b)) (if_room full (Whole (with_group value weight b))) (Unfit BadLiteral))

-- all groups, one after the other
abbrev pub groups_read : ℕ → Bool → ℕ → ℕ → List ℕ → GroupsRead
groups_read vars full value weight [] = Goes value weight
groups_read vars full value weight (b ∷ bs) =
    elim (group_next vars full value weight b) [ Goes v w ↦ groups_read vars full v w bs | Whole n ↦ Whole n | Unfit kind ↦ Unfit kind ]
