-- The places of a model.
use Rattle.std.proofs.Common.{◌≡◌, ℕ, zero, suc, ◌<◌, ◌≤◌, List, [], ◌∷◌, ◌++◌, Some, refl, subst, inl, inr, arith, take}
use Rattle.std.specs.Prelude.{slice_get, Contains, All}
use Rattle.cell_table.specs.declared.kind.Unary.{Unary}
use Rattle.cell_table.specs.declared.kind.Unary.TheVariants.{Not, Pos, Neg}
use Rattle.cell_table.specs.declared.kind.Binary.{Binary}
use Rattle.cell_table.specs.declared.kind.Binary.TheVariants.{And, Or, Xor, Xnor, Add, Sub, Mul}
use Rattle.model_core.specs.Shape.{NodeOf, ModelOf, IsDistinct, given, reads, sources, states}
use Rattle.model_core.specs.Served.{HasWidths, IsModel, unary_limit, binary_limit}
use Rattle.model_core.specs.declared.op.Op.{Op}
use Rattle.model_core.specs.declared.op.Op.TheVariants as op
use Rattle.std.proofs.lemmas.List.Elements.{Contains-append_cases, Contains-append_left, Contains-append_right}
use Rattle.frame_gates.proofs.Lists.{all_contained, all_of, distinct_apart, distinct_left, distinct_right, flat_contained, flat_front, flat_split}

unary_small : (k : Unary) → unary_limit k ≤ 4096
unary_small Not = omega arith
unary_small Pos = omega arith
unary_small Neg = omega arith

binary_small : (k : Binary) → binary_limit k ≤ 4096
binary_small And = omega arith
binary_small Or = omega arith
binary_small Xor = omega arith
binary_small Xnor = omega arith
binary_small Add = omega arith
binary_small Sub = omega arith
binary_small Mul = omega arith

-- an output has at most 8192 bits
pub output_small : (k : Op) (a b s y : ℕ) → HasWidths k a b s y → y ≤ 8192
output_small op.Copy a b s y h = let e = h.1 in let l = h.0.1 in omega arith
output_small (op.Unary k signed) a b s y h = let l = h.1.1 in let u = unary_small k in omega arith
output_small (op.Binary k signed) a b s y h = let l = h.2.1 in let u = binary_small k in omega arith
output_small (op.Reduce k) a b s y h = let l = h.1.1 in omega arith
output_small (op.Logic k) a b s y h = let l = h.2.1 in omega arith
output_small (op.Compare k signed) a b s y h = let l = h.2.1 in omega arith
output_small (op.ShiftLeft signed) a b s y h = let l = h.2.1 in omega arith
output_small (op.ShiftRight signed) a b s y h = let l = h.2.1 in omega arith
output_small (op.ShiftSign signed) a b s y h = let l = h.2.1 in omega arith
output_small (op.ShiftAny signed by_signed) a b s y h = let l = h.2.1 in omega arith
output_small (op.Divide k signed) a b s y h = let l = h.2.1 in omega arith
output_small op.Mux a b s y h = let e = h.3 in let l = h.0.1 in omega arith
output_small op.Pmux a b s y h = let e = h.4 in let l = h.0.1 in omega arith
output_small op.Bmux a b s y h = let l = h.2.1 in omega arith
output_small (op.Slice offset) a b s y h = let l = h.1.1 in omega arith
output_small op.Concat a b s y h = let l = h.2.1 in omega arith

given_front : (nodes : List NodeOf) (i p : ℕ) → Contains (given (take i nodes)) p → Contains (given nodes) p
given_front [] zero p c = c
given_front [] (suc i) p c = c
given_front (n ∷ nodes) zero p c = absurd (let l = c.1 in omega arith)
given_front (n ∷ nodes) (suc i) p c = elim (Contains-append_cases n.y (given (take i nodes)) p c) as (λ _. Contains (n.y ++ given nodes) p) [
  | inl a ↦ Contains-append_left n.y (given nodes) p a
  | inr a ↦ Contains-append_right n.y (given nodes) p (given_front nodes i p a)
]

pub state_source : (m : ModelOf) (p : ℕ) → Contains (states m) p → Contains (sources m) p
state_source m p c = Contains-append_right (m.zero ∷ suc m.zero ∷ []) (states m ++ m.inputs) p (Contains-append_left (states m) m.inputs p c)

pub input_source : (m : ModelOf) (p : ℕ) → Contains m.inputs p → Contains (sources m) p
input_source m p c = Contains-append_right (m.zero ∷ suc m.zero ∷ []) (states m ++ m.inputs) p (Contains-append_right (states m) m.inputs p c)

pub zero_source : (m : ModelOf) → Contains (sources m) m.zero
zero_source m = (0, (omega arith), refl)

pub one_source : (m : ModelOf) → Contains (sources m) (suc m.zero)
one_source m = (1, (omega arith), refl)

module _ (m : ModelOf) (is : IsModel m) where
  pub source_below : (p : ℕ) → Contains (sources m) p → p < m.size
  source_below p c = all_contained (λ (q : ℕ). q < m.size) (sources m ++ given m.nodes) p is.below (Contains-append_left (sources m) (given m.nodes) p c)

  pub states_below : All (λ p. p < m.size) (states m)
  states_below = all_of (λ (p : ℕ). p < m.size) (states m) (λ p c. source_below p (state_source m p c))

  pub inputs_below : All (λ p. p < m.size) m.inputs
  inputs_below = all_of (λ (p : ℕ). p < m.size) m.inputs (λ p c. source_below p (input_source m p c))

  before_below : (i p : ℕ) → Contains (sources m ++ given (take i m.nodes)) p → p < m.size
  before_below i p c = elim (Contains-append_cases (sources m) (given (take i m.nodes)) p c) as (λ _. p < m.size) [
    | inl a ↦ source_below p a
    | inr a ↦ all_contained (λ (q : ℕ). q < m.size) (sources m ++ given m.nodes) p is.below (Contains-append_right (sources m) (given m.nodes) p (given_front m.nodes i p a))
  ]

  module _ (i : ℕ) (n : NodeOf) (at : slice_get m.nodes i ≡ Some n) where
    pub a_below : All (λ p. p < m.size) n.a
    a_below = all_of (λ (p : ℕ). p < m.size) n.a (λ p c. before_below i p (is.order i n at p (Contains-append_left n.a (n.b ++ n.s) p c)))

    pub b_below : All (λ p. p < m.size) n.b
    b_below = all_of (λ (p : ℕ). p < m.size) n.b (λ p c. before_below i p (is.order i n at p (Contains-append_right n.a (n.b ++ n.s) p (Contains-append_left n.b n.s p c))))

    pub s_below : All (λ p. p < m.size) n.s
    s_below = all_of (λ (p : ℕ). p < m.size) n.s (λ p c. before_below i p (is.order i n at p (Contains-append_right n.a (n.b ++ n.s) p (Contains-append_right n.b n.s p c))))

    pub y_below : All (λ p. p < m.size) n.y
    y_below = all_of (λ (p : ℕ). p < m.size) n.y (λ p c.
        all_contained (λ (q : ℕ). q < m.size) (sources m ++ given m.nodes) p is.below
        (Contains-append_right (sources m) (given m.nodes) p (flat_contained (λ (k : NodeOf). k.y) m.nodes i n p at c)))

    split : (rest : List ℕ) × (given m.nodes ≡ given (take i m.nodes) ++ (n.y ++ rest))
    split = flat_split (λ (k : NodeOf). k.y) m.nodes i n at

    tail_distinct : IsDistinct (given (take i m.nodes) ++ (n.y ++ split.0))
    tail_distinct = subst IsDistinct split.1 (distinct_right (sources m) (given m.nodes) is.once)

    pub y_distinct : IsDistinct n.y
    y_distinct = distinct_left n.y split.0 (distinct_right (given (take i m.nodes)) (n.y ++ split.0) tail_distinct)

    -- a source is no output, nor is what an earlier node gives
    pub source_apart : (p : ℕ) → Contains (sources m) p → Contains n.y p → ⊥
    source_apart p c y = distinct_apart (sources m) (given m.nodes) p is.once c (flat_contained (λ (k : NodeOf). k.y) m.nodes i n p at y)

    pub earlier_apart : (p : ℕ) → Contains (given (take i m.nodes)) p → Contains n.y p → ⊥
    earlier_apart p c y = distinct_apart (given (take i m.nodes)) (n.y ++ split.0) p tail_distinct c (Contains-append_left n.y split.0 p y)

    pub before_apart : (j p : ℕ) → j ≤ i → Contains (sources m ++ given (take j m.nodes)) p → Contains n.y p → ⊥
    before_apart j p h c y = elim (Contains-append_cases (sources m) (given (take j m.nodes)) p c) as (λ _. ⊥) [
      | inl a ↦ source_apart p a y
      | inr a ↦ earlier_apart p (flat_front (λ (k : NodeOf). k.y) m.nodes j i p h a) y
    ]

    pub read_apart : (p : ℕ) → Contains (reads n) p → Contains n.y p → ⊥
    read_apart p c y = before_apart i p (omega arith) (is.order i n at p c) y

  -- the sources are apart
  open_distinct : IsDistinct (states m ++ m.inputs)
  open_distinct = distinct_right (m.zero ∷ suc m.zero ∷ []) (states m ++ m.inputs) (distinct_left (sources m) (given m.nodes) is.once)

  pub states_distinct : IsDistinct (states m)
  states_distinct = distinct_left (states m) m.inputs open_distinct

  pub inputs_distinct : IsDistinct m.inputs
  inputs_distinct = distinct_right (states m) m.inputs open_distinct

  pub state_apart : (p : ℕ) → Contains (states m) p → Contains m.inputs p → ⊥
  state_apart p a b = distinct_apart (states m) m.inputs p open_distinct a b

  constant_apart : (p : ℕ) → Contains (m.zero ∷ suc m.zero ∷ []) p → Contains (states m ++ m.inputs) p → ⊥
  constant_apart p a b = distinct_apart (m.zero ∷ suc m.zero ∷ []) (states m ++ m.inputs) p (distinct_left (sources m) (given m.nodes) is.once) a b

  pub zero_apart : Contains (states m ++ m.inputs) m.zero → ⊥
  zero_apart c = constant_apart m.zero (0, (omega arith), refl) c

  pub one_apart : Contains (states m ++ m.inputs) (suc m.zero) → ⊥
  one_apart c = constant_apart (suc m.zero) (1, (omega arith), refl) c
