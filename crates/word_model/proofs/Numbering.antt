-- State bits by numbers: their places cell by cell, and no more than there are.
use Rattle.std.proofs.Common.{◌≡◌, ◌⊎◌, inl, inr, ℕ, ◌+◌, ◌≤◌, List, [], ◌∷◌, ◌++◌, Some, append_assoc, length, map, take, cond, ap, ◌∙◌, sym, arith, length-append}
use Rattle.std.specs.List.{enumerate_from, flat_map, range_with_len}
use Rattle.std.specs.Prelude.{slice_get}
use Rattle.std.proofs.lemmas.Grind.{flat_map-append}
use Rattle.std.proofs.lemmas.List.{append-nil, length-map, map-append}
use Rattle.std.proofs.lemmas.List.Concat.{flat_map-cons}
use Rattle.design_core.specs.Asked.{output_of}
use Rattle.design_core.specs.Shape.{CellOf, DesignOf}
use Rattle.design_core.proofs.Lists.{one_at}
use Rattle.design_core.specs.Table.{role_of}
use Rattle.design_core.specs.declared.table.Role.{Role}
use Rattle.design_core.specs.declared.table.Role.TheVariants.{Combinational, Register, AsyncResetRegister, Constant, Initial, Source, Statement, Unsupported}
use Rattle.design_meaning.specs.Meaning.{IsCell}
use Rattle.design_meaning.specs.States.{Kept, Signal, StateBit, state_bits, state_of, state_of_role}
use Rattle.word_model.proofs.Growing.{cells-next}
use Rattle.word_model.proofs.Meant.{kepts, signals}
use Rattle.word_model.specs.Layout.{kept_places, signal_places, state_place}
use Rattle.word_model.specs.Numbers.{group_bits, has, numbered_bits, numbered_places, state_in_group}
use Rattle.word_model.specs.declared.numbers.Group.{Group}
use Rattle.word_model.specs.declared.numbers.Group.TheVariants.{Registers, Constants, Initials}

one-group : (r : Role) (bits : List StateBit) → length (cond (has Registers r) bits []) + (length (cond (has Constants r) bits []) + length (cond (has Initials r) bits [])) ≤ length bits
one-group Combinational bits = omega arith
one-group Register bits = omega arith
one-group AsyncResetRegister bits = omega arith
one-group Constant bits = omega arith
one-group Initial bits = omega arith
one-group Source bits = omega arith
one-group Statement bits = omega arith
one-group Unsupported bits = omega arith

long : {X Y : Type 0} (f : X → List Y) (x : X) (xs : List X) → length (flat_map f (x ∷ xs)) ≡ length (f x) + length (flat_map f xs)
long f x xs = ap length (flat_map-cons f x xs) ∙ length-append (f x) (flat_map f xs)

groups-few : (es : List (ℕ × CellOf)) → length (flat_map (state_in_group Registers) es) + (length (flat_map (state_in_group Constants) es) + length (flat_map (state_in_group Initials) es)) ≤ length (flat_map state_of es)
groups-few [] = omega arith
groups-few ((i, c) ∷ es) =
    let r = long (state_in_group Registers) (i, c) es in
    let k = long (state_in_group Constants) (i, c) es in
    let b = long (state_in_group Initials) (i, c) es in
    let all = long state_of (i, c) es in
    let here = one-group (role_of c.kind) (state_of (i, c)) in
    let rest = groups-few es in
    omega (arith, r, k, b, all, here, rest)

-- there are no more numbers than state bits
pub numbers-few : (d : DesignOf) → length (numbered_places d) ≤ length (state_bits d)
numbers-few d =
    let all = length-map (numbered_bits d) (state_place d) in
    let one = length-append (group_bits d Registers) (group_bits d Constants ++ group_bits d Initials) in
    let two = length-append (group_bits d Constants) (group_bits d Initials) in
    let few = groups-few (enumerate_from 0 d.cells) in
    omega (arith, all, one, two, few)

-- one cell more
pub group-next : (d : DesignOf) (g : Group) (k : ℕ) (x : CellOf) (old numbers : List ℕ) → slice_get d.cells k ≡ Some x
    → numbers ≡ old ++ map (state_place d) (flat_map (state_in_group g) (enumerate_from 0 (take k d.cells)))
    → numbers ++ map (state_place d) (state_in_group g (k, x)) ≡ old ++ map (state_place d) (flat_map (state_in_group g) (enumerate_from 0 (take (k + 1) d.cells)))
group-next d g k x old numbers at e =
    let before = flat_map (state_in_group g) (enumerate_from 0 (take k d.cells)) in
    let own = state_in_group g (k, x) in
    let grown : before ++ own ≡ flat_map (state_in_group g) (enumerate_from 0 (take (k + 1) d.cells)) =
    ap (λ (l : List StateBit). before ++ l) (sym (append-nil own))
    ∙ (sym (flat_map-append (state_in_group g) (enumerate_from 0 (take k d.cells)) ((k, x) ∷ [])) ∙ ap (λ (l : List (ℕ × CellOf)). flat_map (state_in_group g) l) (sym (cells-next d.cells k x at))) in
    ap (λ (l : List ℕ). l ++ map (state_place d) own) e
    ∙ (append_assoc old (map (state_place d) before) (map (state_place d) own) ∙ ap (λ (l : List ℕ). old ++ l) (sym (map-append (state_place d) before own) ∙ ap (λ (l : List StateBit). map (state_place d) l) grown))

module _ (d : DesignOf) (i : ℕ) (x : CellOf) where
  abbrev pub states : Role → List ℕ
  states r = map (state_place d) (state_of_role r (map (λ b. Signal b) (output_of x)) (map (λ k. Kept i k) (range_with_len 0 (length (output_of x)))))

  -- the places of the state bits of a cell, by its role: its output's, those of the stored row, or none
  pub signal-states : (r : Role) → role_of x.kind ≡ r → (r ≡ Register) ⊎ ((r ≡ Constant) ⊎ (r ≡ Initial)) → map (state_place d) (state_of (i, x)) ≡ signal_places d (output_of x)
  signal-states r e (inl f) = ap states (e ∙ f) ∙ sym (signals d (output_of x))
  signal-states r e (inr (inl f)) = ap states (e ∙ f) ∙ sym (signals d (output_of x))
  signal-states r e (inr (inr f)) = ap states (e ∙ f) ∙ sym (signals d (output_of x))

  pub kept-states : role_of x.kind ≡ AsyncResetRegister → map (state_place d) (state_of (i, x)) ≡ kept_places d i (length (output_of x))
  kept-states e = ap states e ∙ sym (kepts d i (range_with_len 0 (length (output_of x))))

  pub no-states : (r : Role) → role_of x.kind ≡ r → (r ≡ Combinational) ⊎ ((r ≡ Source) ⊎ ((r ≡ Statement) ⊎ (r ≡ Unsupported))) → map (state_place d) (state_of (i, x)) ≡ []
  no-states r e (inl f) = ap states (e ∙ f)
  no-states r e (inr (inl f)) = ap states (e ∙ f)
  no-states r e (inr (inr (inl f))) = ap states (e ∙ f)
  no-states r e (inr (inr (inr f))) = ap states (e ∙ f)

  -- what is so for one cell at the place is so for each
  pub states-each : IsCell d i x → (row : List ℕ) → row ≡ map (state_place d) (state_of (i, x)) → (y : CellOf) → IsCell d i y → row ≡ map (state_place d) (state_of (i, y))
  states-each at row e y there = e ∙ ap (λ (z : CellOf). map (state_place d) (state_of (i, z))) (one_at d.cells i x y at there)
