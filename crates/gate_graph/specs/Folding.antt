-- What each gate says, its clauses, and which calls make one.
use Rattle.std.specs.Prelude.{◌≡◌, ◌==◌, nat_lt, Bool, true, false, not, ◌&&◌, ◌||◌, if◌then◌else◌, ◌⊎◌, List, [], ◌∷◌}
use Rattle.cnf_form.specs.Cnf.{LitOf, Assignment, lit_in, negate, index_of}
use Rattle.gate_graph.specs.declared.gate.Gate.{Gate}
use Rattle.gate_graph.specs.declared.gate.Gate.TheVariants.{And, Xor, Mux, Maj}
use Rattle.gate_graph.specs.declared.gate.Asked.{Asked}
use Rattle.gate_graph.specs.declared.gate.Asked.TheVariants.{Is, Make}

-- one of the two is true, and not both
abbrev pub xor : Bool → Bool → Bool
xor a b = if a then not b else b

-- two of the three are true
abbrev pub majority : Bool → Bool → Bool → Bool
majority a b c = if a then b || c else b && c

-- in their order
abbrev pub operands : Gate → List LitOf
operands (And a b) = a ∷ b ∷ []
operands (Xor a b) = a ∷ b ∷ []
operands (Mux s a b) = s ∷ a ∷ b ∷ []
operands (Maj a b c) = a ∷ b ∷ c ∷ []

-- the value of a gate
abbrev pub bit : Gate → Assignment → Bool
bit (And a b) x = lit_in x a && lit_in x b
bit (Xor a b) x = xor (lit_in x a) (lit_in x b)
bit (Mux s a b) x = if lit_in x s then lit_in x b else lit_in x a
bit (Maj a b c) x = majority (lit_in x a) (lit_in x b) (lit_in x c)

-- the clauses that say so of the literal y
abbrev pub clauses_of : LitOf → Gate → List (List LitOf)
clauses_of y (And a b) = (negate y ∷ a ∷ []) ∷ (negate y ∷ b ∷ []) ∷ (y ∷ negate a ∷ negate b ∷ []) ∷ []
clauses_of y (Xor a b) = (negate y ∷ a ∷ b ∷ []) ∷ (negate y ∷ negate a ∷ negate b ∷ []) ∷ (y ∷ a ∷ negate b ∷ []) ∷ (y ∷ negate a ∷ b ∷ []) ∷ []
clauses_of y (Mux s a b) = (negate y ∷ s ∷ a ∷ []) ∷ (y ∷ s ∷ negate a ∷ []) ∷ (negate y ∷ negate s ∷ b ∷ []) ∷ (y ∷ negate s ∷ negate b ∷ []) ∷ []
clauses_of y (Maj a b c) = (negate y ∷ a ∷ b ∷ []) ∷ (negate y ∷ a ∷ c ∷ []) ∷ (negate y ∷ b ∷ c ∷ []) ∷ (y ∷ negate a ∷ negate b ∷ []) ∷ (y ∷ negate a ∷ negate c ∷ []) ∷ (y ∷ negate b ∷ negate c ∷ []) ∷ []

-- the constants: variable 1 is true
abbrev pub constant : Bool → LitOf
constant value = record { var = 1; negated = not value }

-- one literal
abbrev pub same : LitOf → LitOf → Bool
same a b = index_of a == index_of b

-- one variable, with other signs
abbrev pub opposite : LitOf → LitOf → Bool
opposite a b = same a (negate b)

abbrev pub is_true : LitOf → Bool
is_true a = same a (constant true)

abbrev pub is_false : LitOf → Bool
is_false a = same a (constant false)

-- by variables, then by signs
abbrev pub below : LitOf → LitOf → Bool
below a b = nat_lt (index_of a) (index_of b)

-- the literal without its sign
abbrev pub plain : LitOf → LitOf
plain l = record { var = l.var; negated = false }

abbrev pub turned : Asked → Asked
turned (Is l) = Is (negate l)
turned (Make g s) = Make g (not s)

-- of operands in rising order
abbrev pub ordered_and : LitOf → LitOf → Asked
ordered_and a b =
    if is_false a then Is a
    else if is_true a then Is b
    else if same a b then Is a
    else if opposite a b then Is (constant false)
    else Make (And a b) false

abbrev pub fold_and : LitOf → LitOf → Asked
fold_and a b = if below b a then ordered_and b a else ordered_and a b

-- of operands in rising order; the signs go into the answer
abbrev pub ordered_xor : LitOf → LitOf → Asked
ordered_xor a b =
    if is_false a then Is b
    else if is_true a then Is (negate b)
    else if same a b then Is (constant false)
    else if opposite a b then Is (constant true)
    else Make (Xor (plain a) (plain b)) (xor a.negated b.negated)

abbrev pub fold_xor : LitOf → LitOf → Asked
fold_xor a b = if below b a then ordered_xor b a else ordered_xor a b

-- at most one operand is negated
abbrev pub key_maj : LitOf → LitOf → LitOf → Asked
key_maj a b c = if majority a.negated b.negated c.negated then Make (Maj (negate a) (negate b) (negate c)) true else Make (Maj a b c) false

-- in rising order
abbrev pub sort_maj : LitOf → LitOf → LitOf → Asked
sort_maj a b c =
    if below a b then (if below b c then key_maj a b c else if below a c then key_maj a c b else key_maj c a b)
    else if below a c then key_maj b a c
    else if below b c then key_maj b c a
    else key_maj c b a

abbrev pub fold_maj : LitOf → LitOf → LitOf → Asked
fold_maj a b c =
    if same a b then Is a
    else if same a c then Is a
    else if same b c then Is b
    else if opposite a b then Is c
    else if opposite a c then Is b
    else if opposite b c then Is a
    else if is_false a then fold_and b c
    else if is_true a then turned (fold_and (negate b) (negate c))
    else if is_false b then fold_and a c
    else if is_true b then turned (fold_and (negate a) (negate c))
    else if is_false c then fold_and a b
    else if is_true c then turned (fold_and (negate a) (negate b))
    else sort_maj a b c

-- neither the choosing literal nor the first choice is negated
abbrev pub key_mux : LitOf → LitOf → LitOf → Asked
key_mux s a b = if a.negated then Make (Mux s (negate a) (negate b)) true else Make (Mux s a b) false

abbrev pub fold_mux : LitOf → LitOf → LitOf → Asked
fold_mux s a b =
    if is_true s then Is b
    else if is_false s then Is a
    else if same a b then Is a
    else if opposite a b then fold_xor s a
    else if is_false a then fold_and s b
    else if same a s then fold_and s b
    else if is_true a then turned (fold_and s (negate b))
    else if opposite a s then turned (fold_and s (negate b))
    else if is_false b then fold_and (negate s) a
    else if opposite b s then fold_and (negate s) a
    else if is_true b then turned (fold_and (negate s) (negate a))
    else if same b s then turned (fold_and (negate s) (negate a))
    else if s.negated then key_mux (negate s) b a
    else key_mux s a b

-- what a call for a gate returns
abbrev pub asked : Gate → Asked
asked (And a b) = fold_and a b
asked (Xor a b) = fold_xor a b
asked (Mux s a b) = fold_mux s a b
asked (Maj a b c) = fold_maj a b c

-- its value
abbrev pub asked_bit : Asked → Assignment → Bool
asked_bit (Is l) x = lit_in x l
asked_bit (Make g s) x = xor s (bit g x)

-- no gate is made
abbrev pub IsThere : Asked → Type 0
IsThere k = (l : LitOf) × (k ≡ Is l)

-- no gate of three operands is made
abbrev pub IsSmall : Asked → Type 0
IsSmall (Is l) = Unit {0}
IsSmall (Make (And a b) s) = Unit {0}
IsSmall (Make (Xor a b) s) = Unit {0}
IsSmall (Make (Mux c a b) s) = ⊥
IsSmall (Make (Maj a b c) s) = ⊥

-- one of the operands is a constant, or they are of one variable
abbrev pub AreSimple : LitOf → LitOf → Type 0
AreSimple a b = (a.var ≡ 1) ⊎ (b.var ≡ 1) ⊎ (a.var ≡ b.var)
