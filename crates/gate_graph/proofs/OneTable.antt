-- One lemma for every kind of gate: a table of lines that a count over all rows of bits finds right.
use Rattle.gate_graph.specs.declared.gate.Gate.{Gate}
use Rattle.gate_graph.specs.declared.gate.Gate.TheVariants.{And, Xor, Mux, Maj}
use Rattle.gate_graph.specs.Folding.{bit, majority, operands, clauses_of, xor}
use Rattle.gate_graph.specs.Kept.{OthersWithin, lit_of}
use Rattle.std.proofs.Common.{◌≡◌, ◌⊎◌, ℕ, zero, suc, Bool, true, false, cond, not, ◌&&◌, ◌||◌, List, [], ◌∷◌, map, length, refl, ◌∙◌, ap, inl, inr}
use Rattle.cnf_form.specs.Cnf.{LitOf, Assignment, lit_in, negate}
use Rattle.gate_graph.proofs.Rows.{Row, AllFalse, AreRows, Covers, IsTable, clause_of}

-- what a line asks of an operand
pub data Digit : Type 0 where
  Off : Digit
  On : Digit
  Any : Digit

-- a line of the table of a kind: the value, where the operands are so
pub record Line : Type 0 where
  pub value : Bool
  pub digits : List Digit

-- the literals that are all false exactly there
abbrev pub others : List Digit → List LitOf → List LitOf
others [] ls = []
others (d ∷ ds) [] = []
others (Off ∷ ds) (l ∷ ls) = l ∷ others ds ls
others (On ∷ ds) (l ∷ ls) = negate l ∷ others ds ls
others (Any ∷ ds) (l ∷ ls) = others ds ls

abbrev pub rows_of : List LitOf → List Line → List Row
rows_of ls ts = map (λ (t : Line). let r : Row = record { value = t.value; others = others t.digits ls } in r) ts

-- whether the operands are so
abbrev pub fits : List Digit → List Bool → Bool
fits [] bs = true
fits (d ∷ ds) [] = true
fits (Off ∷ ds) (b ∷ bs) = not b && fits ds bs
fits (On ∷ ds) (b ∷ bs) = b && fits ds bs
fits (Any ∷ ds) (b ∷ bs) = fits ds bs

-- each line that speaks is right
abbrev pub right : (List Bool → Bool) → List Line → List Bool → Bool
right f [] bs = true
right f (t ∷ ts) bs = (not (fits t.digits bs) || (f bs && t.value) || (not (f bs) && not t.value)) && right f ts bs

-- some line speaks
abbrev pub speaks : List Line → List Bool → Bool
speaks [] bs = false
speaks (t ∷ ts) bs = fits t.digits bs || speaks ts bs

-- the test passes for every row of k bits
abbrev pub every : ℕ → (List Bool → Bool) → Bool
every zero p = p []
every (suc k) p = every k (λ bs. p (false ∷ bs)) && every k (λ bs. p (true ∷ bs))

and_left : (a b : Bool) → (a && b) ≡ true → a ≡ true
and_left true b e = refl
and_left false b e = cc

and_right : (a b : Bool) → (a && b) ≡ true → b ≡ true
and_right true b e = e
and_right false b e = cc

every-at : (bs : List Bool) (p : List Bool → Bool) → every (length bs) p ≡ true → p bs ≡ true
every-at [] p e = e
every-at (false ∷ bs) p e = every-at bs (λ cs. p (false ∷ cs)) (and_left (every (length bs) (λ cs. p (false ∷ cs))) (every (length bs) (λ cs. p (true ∷ cs))) e)
every-at (true ∷ bs) p e = every-at bs (λ cs. p (true ∷ cs)) (and_right (every (length bs) (λ cs. p (false ∷ cs))) (every (length bs) (λ cs. p (true ∷ cs))) e)

abbrev pub bits : Assignment → List LitOf → List Bool
bits x ls = map (lit_in x) ls

pub lit_negated : (x : Assignment) (l : LitOf) → lit_in x (negate l) ≡ not (lit_in x l)
lit_negated x l = flip l.negated (x l.var)
  where
    flip : (n b : Bool) → cond (not n) (not b) b ≡ not (cond n (not b) b)
    flip true true = refl
    flip true false = refl
    flip false true = refl
    flip false false = refl

off : (b c : Bool) → b ≡ false → c ≡ true → (not b && c) ≡ true
off b c e f = rw (e, f) refl

off_back : (b c : Bool) → (not b && c) ≡ true → (b ≡ false) × (c ≡ true)
off_back true c e = cc
off_back false c e = (refl, e)

on : (b n c : Bool) → n ≡ not b → n ≡ false → c ≡ true → (b && c) ≡ true
on true n c g e f = f
on false n c g e f = cc

on_back : (b n c : Bool) → n ≡ not b → (b && c) ≡ true → (n ≡ false) × (c ≡ true)
on_back true n c g e = (g, e)
on_back false n c g e = cc

-- the literals are all false exactly where the operands are so
fit : (x : Assignment) (ds : List Digit) (ls : List LitOf) → AllFalse x (others ds ls) → fits ds (bits x ls) ≡ true
fit x [] ls f = refl
fit x (Off ∷ ds) [] f = refl
fit x (On ∷ ds) [] f = refl
fit x (Any ∷ ds) [] f = refl
fit x (Off ∷ ds) (l ∷ ls) f = off (lit_in x l) (fits ds (bits x ls)) f.0 (fit x ds ls f.1)
fit x (On ∷ ds) (l ∷ ls) f = on (lit_in x l) (lit_in x (negate l)) (fits ds (bits x ls)) (lit_negated x l) f.0 (fit x ds ls f.1)
fit x (Any ∷ ds) (l ∷ ls) f = fit x ds ls f

unfit : (x : Assignment) (ds : List Digit) (ls : List LitOf) → fits ds (bits x ls) ≡ true → AllFalse x (others ds ls)
unfit x [] ls e = tt
unfit x (Off ∷ ds) [] e = tt
unfit x (On ∷ ds) [] e = tt
unfit x (Any ∷ ds) [] e = tt
unfit x (Off ∷ ds) (l ∷ ls) e = let p = off_back (lit_in x l) (fits ds (bits x ls)) e in (p.0, unfit x ds ls p.1)
unfit x (On ∷ ds) (l ∷ ls) e = let p = on_back (lit_in x l) (lit_in x (negate l)) (fits ds (bits x ls)) (lit_negated x l) e in (p.0, unfit x ds ls p.1)
unfit x (Any ∷ ds) (l ∷ ls) e = unfit x ds ls e

within_others : (n : ℕ) (ds : List Digit) (ls : List LitOf) → OthersWithin n ls → OthersWithin n (others ds ls)
within_others n [] ls w = tt
within_others n (Off ∷ ds) [] w = tt
within_others n (On ∷ ds) [] w = tt
within_others n (Any ∷ ds) [] w = tt
within_others n (Off ∷ ds) (l ∷ ls) w = (w.0, within_others n ds ls w.1)
within_others n (On ∷ ds) (l ∷ ls) w = (w.0, within_others n ds ls w.1)
within_others n (Any ∷ ds) (l ∷ ls) w = within_others n ds ls w.1

agree : (g v h : Bool) → g ≡ true → (not g || (h && v) || (not h && not v)) ≡ true → h ≡ v
agree true true true g e = refl
agree true false false g e = refl
agree true true false g e = cc
agree true false true g e = cc
agree false v h g e = cc

module _ (n : ℕ) (f : List Bool → Bool) (ls : List LitOf) (w : OthersWithin n ls) where
  sound : (ts : List Line) → ((x : Assignment) → right f ts (bits x ls) ≡ true) → AreRows n (λ x. f (bits x ls)) (rows_of ls ts)
  sound [] e = tt
  sound (t ∷ ts) e = (
    within_others n t.digits ls w,
    λ x a. agree (fits t.digits (bits x ls)) t.value (f (bits x ls)) (fit x t.digits ls a)
        (and_left (not (fits t.digits (bits x ls)) || (f (bits x ls) && t.value) || (not (f (bits x ls)) && not t.value)) (right f ts (bits x ls)) (e x)),
    sound ts (λ x. and_right (not (fits t.digits (bits x ls)) || (f (bits x ls) && t.value) || (not (f (bits x ls)) && not t.value)) (right f ts (bits x ls)) (e x)),
  )

  or_cases : (a b : Bool) → (a || b) ≡ true → (a ≡ true) ⊎ (b ≡ true)
  or_cases true b e = inl refl
  or_cases false b e = inr e

  covers : (x : Assignment) (ts : List Line) → speaks ts (bits x ls) ≡ true → Covers x (rows_of ls ts)
  covers x [] e = cc
  covers x (t ∷ ts) e = elim (or_cases (fits t.digits (bits x ls)) (speaks ts (bits x ls)) e) [
    | inl a ↦ inl (unfit x t.digits ls a)
    | inr b ↦ inr (covers x ts b)
  ]

  length-bits : (x : Assignment) (ks : List LitOf) → length (bits x ks) ≡ length ks
  length-bits x [] = refl
  length-bits x (k ∷ ks) = ap suc (length-bits x ks)

  -- the lemma
  pub table : (ts : List Line) → every (length ls) (right f ts) ≡ true → every (length ls) (speaks ts) ≡ true → IsTable n (λ x. f (bits x ls)) (rows_of ls ts)
  table ts r s = record {
    sound = sound ts (λ x. every-at (bits x ls) (right f ts) (ap (λ (k : ℕ). every k (right f ts)) (length-bits x ls) ∙ r));
    covers = λ x. covers x ts (every-at (bits x ls) (speaks ts) (ap (λ (k : ℕ). every k (speaks ts)) (length-bits x ls) ∙ s));
  }

-- the tables of the kinds

-- the function of each kind, of its operands in order
abbrev pub function_of : Gate → List Bool → Bool
function_of (And _ _) (a ∷ b ∷ []) = a && b
function_of (Xor _ _) (a ∷ b ∷ []) = xor a b
function_of (Mux _ _ _) (s ∷ a ∷ b ∷ []) = cond s b a
function_of (Maj _ _ _) (a ∷ b ∷ c ∷ []) = majority a b c
function_of _ _ = false

abbrev line : Bool → List Digit → Line
line v ds = record { value = v; digits = ds }

abbrev pub lines : Gate → List Line
lines (And _ _) = line false (Off ∷ Any ∷ []) ∷ line false (Any ∷ Off ∷ []) ∷ line true (On ∷ On ∷ []) ∷ []
lines (Xor _ _) = line false (Off ∷ Off ∷ []) ∷ line false (On ∷ On ∷ []) ∷ line true (Off ∷ On ∷ []) ∷ line true (On ∷ Off ∷ []) ∷ []
lines (Mux _ _ _) = line false (Off ∷ Off ∷ Any ∷ []) ∷ line true (Off ∷ On ∷ Any ∷ []) ∷ line false (On ∷ Any ∷ Off ∷ []) ∷ line true (On ∷ Any ∷ On ∷ []) ∷ []
lines (Maj _ _ _) = line false (Off ∷ Off ∷ Any ∷ []) ∷ line false (Off ∷ Any ∷ Off ∷ []) ∷ line false (Any ∷ Off ∷ Off ∷ []) ∷ line true (On ∷ On ∷ Any ∷ []) ∷ line true (On ∷ Any ∷ On ∷ []) ∷ line true (Any ∷ On ∷ On ∷ []) ∷ []

pub gate_table : (n : ℕ) (g : Gate) → OthersWithin n (operands g) → IsTable n (bit g) (rows_of (operands g) (lines g))
gate_table n (And a b) w = table n (function_of (And a b)) (operands (And a b)) w (lines (And a b)) refl refl
gate_table n (Xor a b) w = table n (function_of (Xor a b)) (operands (Xor a b)) w (lines (Xor a b)) refl refl
gate_table n (Mux s a b) w = table n (function_of (Mux s a b)) (operands (Mux s a b)) w (lines (Mux s a b)) refl refl
gate_table n (Maj a b c) w = table n (function_of (Maj a b c)) (operands (Maj a b c)) w (lines (Maj a b c)) refl refl

pub gate_clauses : (v : ℕ) (g : Gate) → clauses_of (lit_of v true) g ≡ map (clause_of v) (rows_of (operands g) (lines g))
gate_clauses v (And a b) = refl
gate_clauses v (Xor a b) = refl
gate_clauses v (Mux s a b) = refl
gate_clauses v (Maj a b c) = refl
