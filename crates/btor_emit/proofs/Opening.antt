-- A row of all inputs and states as their values.
use Rattle.std.proofs.Common.{◌≡◌, ℕ, ◌<◌, ◌≤◌, Bool, true, false, cond, eqb, List, [], ◌∷◌, ◌++◌, take, drop, refl, sym, ap, ◌∙◌, arith, length, length-append, append_assoc}
use Rattle.std.specs.Prelude.{All, sum_by}
use Rattle.std.specs.List.{flat_map}
use Rattle.std.proofs.lemmas.List.{length-drop, length-take-le, take-append-drop}
use Rattle.std.proofs.lemmas.List.Sums.{sum_by-cons}
use Rattle.std.proofs.lemmas.List.Elements.{All-append, All-cons, All-head, All-nil, All-tail}
use Rattle.std.proofs.lemmas.Bool.Decides.{nat_tests}
use Rattle.sby_bits.specs.Rows.{Row}
use Rattle.btor_core.specs.Fits.{IsBtor}
use Rattle.btor_core.specs.Meaning.{Holds, LineHolds, BodyHolds, NodeHolds, Values}
use Rattle.btor_core.specs.Shape.{BtorOf, open_nodes_of, open_words, open_words_of}
use Rattle.btor_core.specs.declared.line.Body.{Body}
use Rattle.btor_core.specs.declared.line.Body.TheVariants as body
use Rattle.btor_core.specs.declared.line.Line.{Line}
use Rattle.btor_core.specs.declared.line.Node.{Node}
use Rattle.btor_core.specs.declared.line.Node.TheVariants as node
use Rattle.btor_core.specs.declared.line.Word.{Word}
use Rattle.btor_core.proofs.Choosing.{choices_have_values}
use Rattle.btor_core.proofs.Cuts.{all_at, all_cuts}
use Rattle.btor_emit.specs.Emission.{open_row}

-- the values of words that have these rows, one after the other
pub chosen : List Word → Row → Values
chosen [] row k = []
chosen (a ∷ ws) row k = cond (eqb a.nid k) (take a.width row) (chosen ws (drop a.width row) k)

-- numbers rise
abbrev pub Rising : List Word → Type 0
Rising [] = Unit {0}
Rising (a ∷ ws) = All (λ b. a.nid < b.nid) ws × Rising ws

chosen_here : (a : Word) (ws : List Word) (row : Row) → chosen (a ∷ ws) row a.nid ≡ take a.width row
unfolding chosen
chosen_here a ws row = let e : eqb a.nid a.nid ≡ true = grind (arith, nat_tests) in rw e refl

chosen_there : (a b : Word) (ws : List Word) (row : Row) → a.nid < b.nid → chosen (a ∷ ws) row b.nid ≡ chosen ws (drop a.width row) b.nid
unfolding chosen
chosen_there a b ws row h = let e : eqb a.nid b.nid ≡ false = grind (arith, nat_tests) in rw e refl

-- rows of words by values that are the same there
same_rows : (f g : Word → Row) (ws : List Word) → All (λ a. f a ≡ g a) ws → flat_map f ws ≡ flat_map g ws
same_rows f g [] h = refl
same_rows f g (a ∷ ws) h =
    let head : f a ≡ g a = All-head (λ (b : Word). f b ≡ g b) a ws h in
    let tail : flat_map f ws ≡ flat_map g ws = same_rows f g ws (All-tail (λ (b : Word). f b ≡ g b) a ws h) in
    cc

all_map : (P Q : Word → Type 0) (ws : List Word) → ((a : Word) → P a → Q a) → All P ws → All Q ws
all_map P Q [] f h = All-nil Q
all_map P Q (a ∷ ws) f h = All-cons Q a ws (f a (All-head P a ws h)) (all_map P Q ws f (All-tail P a ws h))

both_all : (P Q R : Word → Type 0) (ws : List Word) → ((a : Word) → P a → Q a → R a) → All P ws → All Q ws → All R ws
both_all P Q R [] f h g = All-nil R
both_all P Q R (a ∷ ws) f h g = All-cons R a ws (f a (All-head P a ws h) (All-head Q a ws g)) (both_all P Q R ws f (All-tail P a ws h) (All-tail Q a ws g))

pub chosen_wide : (ws : List Word) (row : Row) → Rising ws → length row ≡ sum_by (λ a. a.width) ws → All (λ a. length (chosen ws row a.nid) ≡ a.width) ws
chosen_wide [] row r e = All-nil (λ (a : Word). length (chosen [] row a.nid) ≡ a.width)
chosen_wide (a ∷ ws) row r e =
    let total = sum_by-cons (λ (b : Word). b.width) a ws in
    let inside : a.width ≤ length row = omega arith in
    let here : length (chosen (a ∷ ws) row a.nid) ≡ a.width = ap (λ (x : Row). length x) (chosen_here a ws row) ∙ length-take-le a.width row inside in
    let rest : length (drop a.width row) ≡ sum_by (λ (b : Word). b.width) ws = let d = length-drop a.width row in omega arith in
    let step : (b : Word) → a.nid < b.nid → length (chosen ws (drop a.width row) b.nid) ≡ b.width → length (chosen (a ∷ ws) row b.nid) ≡ b.width = λ b h k. ap (λ (x : Row). length x) (chosen_there a b ws row h) ∙ k in
    All-cons (λ (b : Word). length (chosen (a ∷ ws) row b.nid) ≡ b.width) a ws here
    (both_all (λ (b : Word). a.nid < b.nid) (λ (b : Word). length (chosen ws (drop a.width row) b.nid) ≡ b.width) (λ (b : Word). length (chosen (a ∷ ws) row b.nid) ≡ b.width) ws step r.0 (chosen_wide ws (drop a.width row) r.1 rest))

pub chosen_row : (ws : List Word) (row : Row) → Rising ws → length row ≡ sum_by (λ a. a.width) ws → flat_map (λ a. chosen ws row a.nid) ws ≡ row
chosen_row [] [] r e = refl
chosen_row [] (x ∷ row) r e = absurd (omega arith)
chosen_row (a ∷ ws) row r e =
    let total = sum_by-cons (λ (b : Word). b.width) a ws in
    let inside : a.width ≤ length row = omega arith in
    let rest : length (drop a.width row) ≡ sum_by (λ (b : Word). b.width) ws = let d = length-drop a.width row in omega arith in
    let there : flat_map (λ (b : Word). chosen (a ∷ ws) row b.nid) ws ≡ flat_map (λ (b : Word). chosen ws (drop a.width row) b.nid) ws =
    same_rows (λ (b : Word). chosen (a ∷ ws) row b.nid) (λ (b : Word). chosen ws (drop a.width row) b.nid) ws
    (all_map (λ (b : Word). a.nid < b.nid) (λ (b : Word). chosen (a ∷ ws) row b.nid ≡ chosen ws (drop a.width row) b.nid) ws (λ b h. chosen_there a b ws row h) r.0) in
    ap (λ (x : Row). x ++ flat_map (λ (b : Word). chosen (a ∷ ws) row b.nid) ws) (chosen_here a ws row)
    ∙ ap (λ (x : Row). take a.width row ++ x) (there ∙ chosen_row ws (drop a.width row) r.1 rest) ∙ take-append-drop a.width row

-- each word of a line has the line's number
module _ (P : ℕ → Type 0) where
  of_node : (k w : ℕ) (n : Node) → P k → All (λ a. P a.nid) (open_nodes_of k w n)
  of_node k w node.Input h = All-cons (λ (a : Word). P a.nid) (record { nid = k; width = w }) [] h (All-nil (λ (a : Word). P a.nid))
  of_node k w node.State h = All-cons (λ (a : Word). P a.nid) (record { nid = k; width = w }) [] h (All-nil (λ (a : Word). P a.nid))
  of_node k w (node.Const start) h = All-nil (λ (a : Word). P a.nid)
  of_node k w node.Zero h = All-nil (λ (a : Word). P a.nid)
  of_node k w node.One h = All-nil (λ (a : Word). P a.nid)
  of_node k w node.Ones h = All-nil (λ (a : Word). P a.nid)
  of_node k w (node.Unary o a) h = All-nil (λ (a : Word). P a.nid)
  of_node k w (node.Binary o a b) h = All-nil (λ (a : Word). P a.nid)
  of_node k w (node.Slice a upper lower) h = All-nil (λ (a : Word). P a.nid)
  of_node k w (node.Uext a by) h = All-nil (λ (a : Word). P a.nid)
  of_node k w (node.Sext a by) h = All-nil (λ (a : Word). P a.nid)
  of_node k w (node.Ite s a b) h = All-nil (λ (a : Word). P a.nid)

  of_body : (k : ℕ) (b : Body) → P k → All (λ a. P a.nid) (open_words_of k b)
  of_body k (body.Sort w) h = All-nil (λ (a : Word). P a.nid)
  of_body k (body.Value s w n) h = of_node k w n h
  of_body k (body.Init s q v) h = All-nil (λ (a : Word). P a.nid)
  of_body k (body.Next s q v) h = All-nil (λ (a : Word). P a.nid)
  of_body k (body.Bad n) h = All-nil (λ (a : Word). P a.nid)
  of_body k (body.Constraint n) h = All-nil (λ (a : Word). P a.nid)

  of_lines : (ls : List Line) → All (λ l. P l.nid) ls → All (λ a. P a.nid) (open_words ls)
  of_lines [] h = All-nil (λ (a : Word). P a.nid)
  of_lines (l ∷ ls) h = All-append (λ (a : Word). P a.nid) (open_words_of l.nid l.body) (open_words ls) (of_body l.nid l.body (All-head (λ (x : Line). P x.nid) l ls h)) (of_lines ls (All-tail (λ (x : Line). P x.nid) l ls h))

-- a line has one such word at most
rising_node : (k w : ℕ) (n : Node) (more : List Word) → All (λ a. k < a.nid) more → Rising more → Rising (open_nodes_of k w n ++ more)
rising_node k w node.Input more h r = (h, r)
rising_node k w node.State more h r = (h, r)
rising_node k w (node.Const start) more h r = r
rising_node k w node.Zero more h r = r
rising_node k w node.One more h r = r
rising_node k w node.Ones more h r = r
rising_node k w (node.Unary o a) more h r = r
rising_node k w (node.Binary o a b) more h r = r
rising_node k w (node.Slice a upper lower) more h r = r
rising_node k w (node.Uext a by) more h r = r
rising_node k w (node.Sext a by) more h r = r
rising_node k w (node.Ite s a b) more h r = r

rising_body : (k : ℕ) (b : Body) (more : List Word) → All (λ a. k < a.nid) more → Rising more → Rising (open_words_of k b ++ more)
rising_body k (body.Sort w) more h r = r
rising_body k (body.Value s w n) more h r = rising_node k w n more h r
rising_body k (body.Init s q v) more h r = r
rising_body k (body.Next s q v) more h r = r
rising_body k (body.Bad n) more h r = r
rising_body k (body.Constraint n) more h r = r

rising_from : (m : BtorOf) → IsBtor m → (before rest : List Line) → m.lines ≡ before ++ rest → Rising (open_words rest)
rising_from m is before [] e = tt
rising_from m is before (l ∷ rest) e =
    let cut : m.lines ≡ (before ++ l ∷ []) ++ rest = e ∙ sym (append_assoc before (l ∷ []) rest) in
    let later : All (λ (x : Line). l.nid < x.nid) rest =
    all_cuts (λ (x : Line). l.nid < x.nid) before rest (λ b r x f.
    let whole : m.lines ≡ (before ++ l ∷ b) ++ x ∷ r = e ∙ ap (λ (ls : List Line). before ++ l ∷ ls) f ∙ sym (append_assoc before (l ∷ b) (x ∷ r)) in
    all_at (λ (k : Line). k.nid < x.nid) (before ++ l ∷ b) before b l refl (is.each (before ++ l ∷ b) r x whole).rises) in
    rising_body l.nid l.body (open_words rest) (of_lines (λ k. l.nid < k) rest later) (rising_from m is (before ++ l ∷ []) rest cut)

pub rising : (m : BtorOf) → IsBtor m → Rising (open_words m.lines)
rising m is = rising_from m is [] m.lines refl

-- values of the lines with this row of all inputs and states
pub record HasRow (m : BtorOf) (row : Row) (vs : Values) : Type 0 where
  pub holds : Holds m vs
  pub row_is : open_row m vs ≡ row

pub values_with : (m : BtorOf) (row : Row) → IsBtor m → length row ≡ sum_by (λ a. a.width) (open_words m.lines) → (vs : Values) × HasRow m row vs
values_with m row is e =
    let ws : List Word = open_words m.lines in
    let r : Rising ws = rising m is in
    let got = choices_have_values m (chosen ws row) is (chosen_wide ws row r e) in (
      got.0,
      record { holds = got.1; row_is = same_rows (λ (a : Word). got.0 a.nid) (λ (a : Word). chosen ws row a.nid) ws got.2 ∙ chosen_row ws row r e },
    )

-- inputs and states have rows of their width
module _ (cs : List Bool) (vs : Values) where
  abbrev Wide : Word → Type 0
  Wide a = length (vs a.nid) ≡ a.width

  node_wide : (k w : ℕ) (n : Node) → NodeHolds cs vs w (vs k) n → All Wide (open_nodes_of k w n)
  node_wide k w node.Input h = All-cons Wide (record { nid = k; width = w }) [] h (All-nil Wide)
  node_wide k w node.State h = All-cons Wide (record { nid = k; width = w }) [] h (All-nil Wide)
  node_wide k w (node.Const start) h = All-nil Wide
  node_wide k w node.Zero h = All-nil Wide
  node_wide k w node.One h = All-nil Wide
  node_wide k w node.Ones h = All-nil Wide
  node_wide k w (node.Unary o a) h = All-nil Wide
  node_wide k w (node.Binary o a b) h = All-nil Wide
  node_wide k w (node.Slice a upper lower) h = All-nil Wide
  node_wide k w (node.Uext a by) h = All-nil Wide
  node_wide k w (node.Sext a by) h = All-nil Wide
  node_wide k w (node.Ite s a b) h = All-nil Wide

  body_wide : (k : ℕ) (b : Body) → BodyHolds cs vs k b → All Wide (open_words_of k b)
  body_wide k (body.Sort w) h = All-nil Wide
  body_wide k (body.Value s w n) h = node_wide k w n h
  body_wide k (body.Init s q v) h = All-nil Wide
  body_wide k (body.Next s q v) h = All-nil Wide
  body_wide k (body.Bad n) h = All-nil Wide
  body_wide k (body.Constraint n) h = All-nil Wide

  lines_wide : (ls : List Line) → All (LineHolds cs vs) ls → All Wide (open_words ls)
  lines_wide [] h = All-nil Wide
  lines_wide (l ∷ ls) h = All-append Wide (open_words_of l.nid l.body) (open_words ls) (body_wide l.nid l.body (All-head (LineHolds cs vs) l ls h)) (lines_wide ls (All-tail (LineHolds cs vs) l ls h))

flat_long : (f : Word → Row) (ws : List Word) → All (λ a. length (f a) ≡ a.width) ws → length (flat_map f ws) ≡ sum_by (λ a. a.width) ws
flat_long f [] h = refl
flat_long f (a ∷ ws) h =
    let total = sum_by-cons (λ (b : Word). b.width) a ws in
    let head : length (f a) ≡ a.width = All-head (λ (b : Word). length (f b) ≡ b.width) a ws h in
    let tail = flat_long f ws (All-tail (λ (b : Word). length (f b) ≡ b.width) a ws h) in
    let e = length-append (f a) (flat_map f ws) in
    omega arith

pub open_long : (m : BtorOf) (vs : Values) → Holds m vs → length (open_row m vs) ≡ sum_by (λ a. a.width) (open_words m.lines)
open_long m vs h = flat_long (λ (a : Word). vs a.nid) (open_words m.lines) (lines_wide m.constants vs m.lines h)
