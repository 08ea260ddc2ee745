-- The wires' bits in the rows of a model.
use Rattle.std.proofs.Common.{◌≡◌, ◌<◌, ℕ, zero, suc, false, List, [], ◌∷◌, get_or, length, sym, take, refl, arith}
use Rattle.sby_bits.specs.Rows.{Row}
use Rattle.design_meaning.specs.Runs.{shown_of}
use Rattle.judge.specs.Rows.{cycles_in}

bit_of_front : (row : Row) (wires place : ℕ) → place < length (take wires row) → get_or (take wires row) place false ≡ get_or row place false
bit_of_front row zero place lt = absurd (omega (arith, lt))
bit_of_front [] (suc wires) place lt = absurd (omega (arith, lt))
bit_of_front (bit ∷ row) (suc wires) zero lt = refl
bit_of_front (bit ∷ row) (suc wires) (suc place) lt = bit_of_front row wires place (omega arith)

front_within : (row : Row) (wires place : ℕ) → place < length (take wires row) → place < length row
front_within row zero place lt = absurd (omega (arith, lt))
front_within [] (suc wires) place lt = absurd (omega (arith, lt))
front_within (bit ∷ row) (suc wires) zero lt = omega arith
front_within (bit ∷ row) (suc wires) (suc place) lt = let h = front_within row wires place (omega arith) in omega arith

-- a bit of the wires' row stands at its place in the model's
module _ (wires free kept : ℕ) where
  pub wire_within : (rows : List Row) (number place : ℕ) → number < length (cycles_in wires free kept rows) → place < length (get_or (shown_of (cycles_in wires free kept rows)) number [])
      → place < length (get_or rows number [])
  wire_within [] number place few lt = absurd (omega (arith, few))
  wire_within (row ∷ rows) zero place few lt = front_within row wires place lt
  wire_within (row ∷ rows) (suc number) place few lt = wire_within rows number place (omega arith) lt

  pub wire_is : (rows : List Row) (number place : ℕ) → number < length (cycles_in wires free kept rows) → place < length (get_or (shown_of (cycles_in wires free kept rows)) number [])
      → get_or (get_or rows number []) place false ≡ get_or (get_or (shown_of (cycles_in wires free kept rows)) number []) place false
  wire_is [] number place few lt = absurd (omega (arith, few))
  wire_is (row ∷ rows) zero place few lt = sym (bit_of_front row wires place lt)
  wire_is (row ∷ rows) (suc number) place few lt = wire_is rows number place (omega arith) lt
