-- The rows of lines: their widths, and what they depend on.
use Rattle.std.proofs.Common.{◌≡◌, ℕ, suc, ◌+◌, ◌≤◌, Bool, true, false, cond, not, take, drop, List, [], ◌∷◌, ◌++◌, refl, sym, ap, ◌∙◌, inl, inr, subst, arith, length, length-append, length-take, length-drop, append_assoc}
use Rattle.std.specs.Prelude.{All, ◌&&◌, ◌||◌, ◌*◌, ◌^◌, pos, negsuc, ◌+ℤ◌, ◌-ℤ◌, ◌*ℤ◌}
use Rattle.std.specs.Int.{int_div_euclid}
use Rattle.std.proofs.lemmas.Grind.{flat_map-append}
use Rattle.std.proofs.lemmas.List.{append-nil, length-map}
use Rattle.sby_bits.specs.Rows.{Row, num, top_bit, value}
use Rattle.sby_bits.specs.Words.{filled_number, quotient, remainder, some_bit}
use Rattle.sby_bits.proofs.Numbers.{length-fit}
use Rattle.cell_table.specs.Cells.{bitwise, either_one}
use Rattle.btor_core.specs.declared.line.Unary.{Unary}
use Rattle.btor_core.specs.declared.line.Unary.TheVariants as unary
use Rattle.btor_core.specs.declared.line.Binary.{Binary}
use Rattle.btor_core.specs.declared.line.Binary.TheVariants as binary
use Rattle.btor_core.specs.declared.line.Node.{Node}
use Rattle.btor_core.specs.declared.line.Node.TheVariants as node
use Rattle.btor_core.specs.declared.line.Body.{Body}
use Rattle.btor_core.specs.declared.line.Body.TheVariants as body
use Rattle.btor_core.specs.declared.line.Line.{Line}
use Rattle.btor_core.specs.declared.line.Word.{Word}
use Rattle.btor_core.specs.Shape.{BtorOf, open_nodes_of, open_words, open_words_of, value_width, width_at}
use Rattle.btor_core.specs.Fits.{BinaryFits, HasValue, IsBtor, NodeFits, UnaryFits, ValueFits}
use Rattle.btor_core.specs.Meaning.{Holds, LineHolds, NodeHolds, Values, binary_row, unary_row}
use Rattle.btor_core.specs.Choices.{Agree}
use Rattle.btor_core.proofs.Cuts.{all_at, all_back, all_front}
use Rattle.btor_core.proofs.Reading.{at_push}

length-bitwise : (f : Bool → Bool → Bool) (r s : Row) → length s ≡ length r → length (bitwise f r s) ≡ length r
length-bitwise f [] s e = refl
length-bitwise f (a ∷ r) [] e = absurd (omega arith)
length-bitwise f (a ∷ r) (b ∷ s) e = ap suc (length-bitwise f r s (omega arith))

length-part : {A : Type 0} (xs : List A) (n from : ℕ) → from + n ≤ length xs → length (take n (drop from xs)) ≡ n
length-part xs n from h = let d = length-drop from xs in let t = length-take n (drop from xs) in omega arith

unary_width : (k : Unary) (w : ℕ) (a : Row) → UnaryFits k w (length a) → length (unary_row k w a) ≡ w
unary_width unary.Not w a h = length-map a not ∙ sym h
unary_width unary.Neg w a h = length-fit w (pos 0 -ℤ pos (num a))
unary_width unary.Redand w a h = sym h
unary_width unary.Redor w a h = sym h
unary_width unary.Redxor w a h = sym h

binary_width : (k : Binary) (w : ℕ) (a b : Row) → BinaryFits k w (length a) (length b) → length (binary_row k w a b) ≡ w
binary_width binary.And w a b h = length-bitwise ◌&&◌ a b h.1 ∙ sym h.0
binary_width binary.Or w a b h = length-bitwise ◌||◌ a b h.1 ∙ sym h.0
binary_width binary.Xor w a b h = length-bitwise either_one a b h.1 ∙ sym h.0
binary_width binary.Add w a b h = length-fit w (pos (num a) +ℤ pos (num b))
binary_width binary.Sub w a b h = length-fit w (pos (num a) -ℤ pos (num b))
binary_width binary.Mul w a b h = length-fit w (pos (num a) *ℤ pos (num b))
binary_width binary.Udiv w a b h = length-fit w (quotient (value false a) (value false b))
binary_width binary.Urem w a b h = length-fit w (remainder (value false a) (value false b))
binary_width binary.Sdiv w a b h = length-fit w (quotient (value true a) (value true b))
binary_width binary.Srem w a b h = length-fit w (remainder (value true a) (value true b))
binary_width binary.Sll w a b h = length-fit w (pos (num a * 2 ^ num b))
binary_width binary.Srl w a b h = length-fit w (int_div_euclid (filled_number a false) (pos (2 ^ num b)))
binary_width binary.Sra w a b h = length-fit w (int_div_euclid (filled_number a (top_bit a)) (pos (2 ^ num b)))
binary_width binary.Eq w a b h = sym h.0
binary_width binary.Neq w a b h = sym h.0
binary_width binary.Ult w a b h = sym h.0
binary_width binary.Ulte w a b h = sym h.0
binary_width binary.Slt w a b h = sym h.0
binary_width binary.Slte w a b h = sym h.0
binary_width binary.Concat w a b h = let e = length-append b a in omega arith

node_width : (constants : List Bool) (before : List Line) (vs : Values) (w : ℕ) (r : Row) (n : Node) → ((k : ℕ) → HasValue before k → length (vs k) ≡ width_at before k)
    → NodeFits constants before w n → NodeHolds constants vs w r n → length r ≡ w
node_width constants before vs w r node.Input widths f h = h
node_width constants before vs w r node.State widths f h = h
node_width constants before vs w r (node.Const start) widths f h = rw h (length-part constants w start f.1)
node_width constants before vs w r node.Zero widths f h = rw h (length-fit w (pos 0))
node_width constants before vs w r node.One widths f h = rw h (length-fit w (pos 1))
node_width constants before vs w r node.Ones widths f h = rw h (length-fit w (negsuc 0))
node_width constants before vs w r (node.Unary k a) widths f h = rw h (unary_width k w (vs a) (rw (widths a f.0) f.1))
node_width constants before vs w r (node.Binary k a b) widths f h = rw h (binary_width k w (vs a) (vs b) (rw (widths a f.0, widths b f.1) f.2))
node_width constants before vs w r (node.Slice a upper lower) widths f h = rw h (let e = widths a f.0 in let fits = f.1 in length-part (vs a) w lower (omega arith))
node_width constants before vs w r (node.Uext a by) widths f h = rw h (length-fit w (value false (vs a)))
node_width constants before vs w r (node.Sext a by) widths f h = rw h (length-fit w (value true (vs a)))
node_width constants before vs w r (node.Ite s a b) widths f h =
    let wide_a : length (vs a) ≡ w = widths a f.1 ∙ f.3.1 in
    let wide_b : length (vs b) ≡ w = widths b f.2 ∙ f.3.2 in
    rw h (elim (some_bit (vs s)) as (λ t. length (cond t (vs a) (vs b)) ≡ w) [ true ↦ wide_a | false ↦ wide_b ])

-- a row that a node has by some values it has by others that are the same where lines before have a value
pub node_local : (constants : List Bool) (before : List Line) (vs us : Values) (w : ℕ) (r : Row) (n : Node) → ((k : ℕ) → HasValue before k → us k ≡ vs k) → NodeFits constants before w n → NodeHolds constants vs w r n → NodeHolds constants us w r n
node_local constants before vs us w r node.Input same f h = h
node_local constants before vs us w r node.State same f h = h
node_local constants before vs us w r (node.Const start) same f h = h
node_local constants before vs us w r node.Zero same f h = h
node_local constants before vs us w r node.One same f h = h
node_local constants before vs us w r node.Ones same f h = h
node_local constants before vs us w r (node.Unary k a) same f h = rw (same a f.0) h
node_local constants before vs us w r (node.Binary k a b) same f h = rw (same a f.0, same b f.1) h
node_local constants before vs us w r (node.Slice a upper lower) same f h = rw (same a f.0) h
node_local constants before vs us w r (node.Uext a by) same f h = rw (same a f.0) h
node_local constants before vs us w r (node.Sext a by) same f h = rw (same a f.0) h
node_local constants before vs us w r (node.Ite s a b) same f h = rw (same s f.0, same a f.1, same b f.2) h

-- what holds of each line with a value, where it holds of those before it, holds of all
module _ (m : BtorOf) (Q : ℕ → ℕ → Type 0) where
  abbrev pub HoldsOf : List Line → Type 0
  HoldsOf before = (k : ℕ) → HasValue before k → Q k (width_at before k)

  abbrev pub Steps : Type 0
  Steps = (before more : List Line) (k s w : ℕ) (n : Node) → m.lines ≡ before ++ record { nid = k; body = body.Value s w n } ∷ more → ValueFits m.constants before s w n → HoldsOf before → Q k w

  at_line : Steps → IsBtor m → (before more : List Line) (k : ℕ) (b : Body) → m.lines ≡ before ++ record { nid = k; body = b } ∷ more → HoldsOf before → 1 ≤ value_width b → Q k (value_width b)
  at_line step fits before more k (body.Sort w) e h some = absurd (omega arith)
  at_line step fits before more k (body.Value s w n) e h some = step before more k s w n e (fits.each before more (record { nid = k; body = body.Value s w n }) e).body h
  at_line step fits before more k (body.Init s q v) e h some = absurd (omega arith)
  at_line step fits before more k (body.Next s q v) e h some = absurd (omega arith)
  at_line step fits before more k (body.Bad n) e h some = absurd (omega arith)
  at_line step fits before more k (body.Constraint n) e h some = absurd (omega arith)

  one_more : Steps → IsBtor m → (before more : List Line) (l : Line) → m.lines ≡ before ++ l ∷ more → HoldsOf before → HoldsOf (before ++ l ∷ [])
  one_more step fits before more l e h k some =
      elim (at_push value_width before l k some) as (λ _. Q k (width_at (before ++ l ∷ []) k)) [
        | inl p ↦ subst (λ (w : ℕ). Q k w) (sym p.1) (h k p.0)
        | inr p ↦
            let wide : 1 ≤ value_width l.body = subst (λ (w : ℕ). 1 ≤ w) p.1 some in
            let here : Q l.nid (value_width l.body) = at_line step fits before more l.nid l.body e h wide in
            subst (λ (w : ℕ). Q k w) (sym p.1) (subst (λ (j : ℕ). Q j (value_width l.body)) (sym p.0) here)
      ]

  from_here : Steps → IsBtor m → (before rest : List Line) → m.lines ≡ before ++ rest → HoldsOf before → HoldsOf (before ++ rest)
  from_here step fits before [] e h = rw (append-nil before) h
  from_here step fits before (l ∷ rest) e h =
      let cut : m.lines ≡ (before ++ l ∷ []) ++ rest = e ∙ sym (append_assoc before (l ∷ []) rest) in
      let all : HoldsOf ((before ++ l ∷ []) ++ rest) = from_here step fits (before ++ l ∷ []) rest cut (one_more step fits before rest l e h) in
      subst (λ (ls : List Line). HoldsOf ls) (append_assoc before (l ∷ []) rest) all

  pub each_value : Steps → IsBtor m → (k : ℕ) → HasValue m.lines k → Q k (width_at m.lines k)
  each_value step fits = from_here step fits [] m.lines refl (λ k none. absurd (omega arith))

-- each value has its line's width
pub widths_are : (m : BtorOf) (vs : Values) → IsBtor m → Holds m vs → (k : ℕ) → HasValue m.lines k → length (vs k) ≡ width_at m.lines k
widths_are m vs fits holds =
    each_value m (λ k w. length (vs k) ≡ w) (λ before more k s w n e f h.
    node_width m.constants before vs w (vs k) n h f.node (all_at (LineHolds m.constants vs) m.lines before more (record { nid = k; body = body.Value s w n }) e holds)) fits

-- of two rows of one node, by the same values before it, that are the same where the node is open, both are the same
node_once : (constants : List Bool) (vs us : Values) (k w : ℕ) (n : Node) → Agree (open_nodes_of k w n) vs us → NodeHolds constants vs w (vs k) n → NodeHolds constants vs w (us k) n → us k ≡ vs k
node_once constants vs us k w node.Input agree h g = agree 0 (record { nid = k; width = w }) (omega arith)
node_once constants vs us k w node.State agree h g = agree 0 (record { nid = k; width = w }) (omega arith)
node_once constants vs us k w (node.Const start) agree h g = g ∙ sym h
node_once constants vs us k w node.Zero agree h g = g ∙ sym h
node_once constants vs us k w node.One agree h g = g ∙ sym h
node_once constants vs us k w node.Ones agree h g = g ∙ sym h
node_once constants vs us k w (node.Unary o a) agree h g = g ∙ sym h
node_once constants vs us k w (node.Binary o a b) agree h g = g ∙ sym h
node_once constants vs us k w (node.Slice a upper lower) agree h g = g ∙ sym h
node_once constants vs us k w (node.Uext a by) agree h g = g ∙ sym h
node_once constants vs us k w (node.Sext a by) agree h g = g ∙ sym h
node_once constants vs us k w (node.Ite s a b) agree h g = g ∙ sym h

-- what holds of all open words holds of those of a line
pub open_at : (P : Word → Type 0) (lines before more : List Line) (l : Line) → lines ≡ before ++ l ∷ more → All P (open_words lines) → All P (open_words_of l.nid l.body)
open_at P lines before more l e h =
    let cut : open_words lines ≡ open_words before ++ (open_words_of l.nid l.body ++ open_words more) = ap (λ (ls : List Line). open_words ls) e ∙ flat_map-append (λ (x : Line). open_words_of x.nid x.body) before (l ∷ more) in
    all_front P (open_words_of l.nid l.body) (open_words more) (all_back P (open_words before) (open_words_of l.nid l.body ++ open_words more) (subst (λ (ws : List Word). All P ws) cut h))

-- one choice has one value for each line
pub values_are_one : (m : BtorOf) (vs us : Values) → IsBtor m → Holds m vs → Holds m us → Agree (open_words m.lines) vs us → (k : ℕ) → HasValue m.lines k → us k ≡ vs k
values_are_one m vs us fits holds others agree =
    each_value m (λ k w. us k ≡ vs k) (λ before more k s w n e f h.
    let l : Line = record { nid = k; body = body.Value s w n } in
    let back : (j : ℕ) → HasValue before j → vs j ≡ us j = λ j some. sym (h j some) in
    let other : NodeHolds m.constants vs w (us k) n = node_local m.constants before us vs w (us k) n back f.node (all_at (LineHolds m.constants us) m.lines before more l e others) in
    node_once m.constants vs us k w n (open_at (λ (a : Word). us a.nid ≡ vs a.nid) m.lines before more l e agree) (all_at (LineHolds m.constants vs) m.lines before more l e holds) other) fits
