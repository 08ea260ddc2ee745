-- A register of one bit that takes one of four inputs where another one is 1.
use Rattle.std.proofs.Common.{◌≡◌, ℕ, zero, suc, ◌+◌, ◌<◌, ◌≤◌, true, false, List, [], ◌∷◌, Option, Some, None, arith, length, refl}
use Rattle.std.specs.Prelude.{Contains, slice_get}
use Rattle.std.proofs.lemmas.List.Elements.{All-cons, All-nil}
use Rattle.model_core.specs.Served.{IsModel, IsNode}
use Rattle.model_core.specs.Shape.{AreBelow, IsRegister, IsStatement, ModelOf, RegisterOf}
use Rattle.model_core.specs.declared.model.Statement.{Statement}
use Rattle.model_core.proofs.Lists.{contained_at, nothing_at, place_of_contained}
use Rattle.place_rows.specs.Rows.{AreRowsOf}

abbrev register : RegisterOf
register = record { q = 2 ∷ []; d = 3 ∷ []; value = 0 ∷ []; enable = record { place = 6; level = true }; reset = record { place = 0; level = true }; reset_first = false }

abbrev assertion : Statement
assertion = record { a = 0; en = 2 }

abbrev pub four_inputs : ModelOf
four_inputs = record { size = 7; zero = 0; nodes = []; registers = register ∷ []; starts = Some false ∷ []; inputs = 3 ∷ 4 ∷ 5 ∷ 6 ∷ []; asserts = assertion ∷ []; assumes = []; covers = [] }

abbrev places : List ℕ
places = 0 ∷ 1 ∷ 2 ∷ 3 ∷ 4 ∷ 5 ∷ 6 ∷ []

at_own : (i p : ℕ) → slice_get places i ≡ Some p → p ≡ i
at_own zero p e = cc
at_own (suc zero) p e = cc
at_own (suc (suc zero)) p e = cc
at_own (suc (suc (suc zero))) p e = cc
at_own (suc (suc (suc (suc zero)))) p e = cc
at_own (suc (suc (suc (suc (suc zero))))) p e = cc
at_own (suc (suc (suc (suc (suc (suc zero)))))) p e = cc
at_own (suc (suc (suc (suc (suc (suc (suc i))))))) p e = absurd cc

pub four_inputs_is : IsModel four_inputs
four_inputs_is = record {
  limit = omega arith;
  nodes = All-nil IsNode;
  registers = All-cons (IsRegister 7) register [] registered (All-nil (IsRegister 7));
  starts = refl;
  asserts = All-cons (IsStatement 7) assertion [] (omega arith, omega arith) (All-nil (IsStatement 7));
  assumes = All-nil (IsStatement 7);
  covers = All-nil (IsStatement 7);
  below = below 0 (1 ∷ 2 ∷ 3 ∷ 4 ∷ 5 ∷ 6 ∷ []) (omega arith) (below 1 (2 ∷ 3 ∷ 4 ∷ 5 ∷ 6 ∷ []) (omega arith) (below 2 (3 ∷ 4 ∷ 5 ∷ 6 ∷ []) (omega arith)
      (below 3 (4 ∷ 5 ∷ 6 ∷ []) (omega arith) (below 4 (5 ∷ 6 ∷ []) (omega arith) (below 5 (6 ∷ []) (omega arith) (below 6 [] (omega arith) none))))));
  all = all;
  once = λ i j p e f. let a = at_own i p e in let b = at_own j p f in omega arith;
  order = λ i n e p c. absurd cc;
}
  where
    below : (p : ℕ) (ps : List ℕ) → p < 7 → AreBelow 7 ps → AreBelow 7 (p ∷ ps)
    below p ps l h = All-cons (λ (q : ℕ). q < 7) p ps l h

    none : AreBelow 7 []
    none = All-nil (λ (q : ℕ). q < 7)

    registered : IsRegister 7 register
    registered = record { some = omega arith; narrow = omega arith; d = refl; value = refl; d_below = below 3 [] (omega arith) none; value_below = below 0 [] (omega arith) none; enable = omega arith; reset = omega arith }

    all : (p : ℕ) → p < 7 → Contains places p
    all zero l = contained_at places 0 0 refl
    all (suc zero) l = contained_at places 1 1 refl
    all (suc (suc zero)) l = contained_at places 2 2 refl
    all (suc (suc (suc zero))) l = contained_at places 3 3 refl
    all (suc (suc (suc (suc zero)))) l = contained_at places 4 4 refl
    all (suc (suc (suc (suc (suc zero))))) l = contained_at places 5 5 refl
    all (suc (suc (suc (suc (suc (suc zero)))))) l = contained_at places 6 6 refl
    all (suc (suc (suc (suc (suc (suc (suc p))))))) l = absurd (omega (arith, l))

-- three of the inputs as a row, from the last to the first
abbrev row : List ℕ
row = 5 ∷ 4 ∷ 3 ∷ []

row_at : (i p : ℕ) → slice_get row i ≡ Some p → (p < 6) × (3 ≤ p) × (p + i ≡ 5)
row_at zero p e = let n : 5 ≡ p = cc in (omega arith, omega arith, omega arith)
row_at (suc zero) p e = let n : 4 ≡ p = cc in (omega arith, omega arith, omega arith)
row_at (suc (suc zero)) p e = let n : 3 ≡ p = cc in (omega arith, omega arith, omega arith)
row_at (suc (suc (suc i))) p e = absurd cc

pub row_of_inputs : AreRowsOf (3 ∷ 4 ∷ 5 ∷ 6 ∷ []) (row ∷ [])
row_of_inputs = record {
  inside = λ p c. let at = place_of_contained row p c in by at.0 p at.1;
  once = λ i j p e f. let a = (row_at i p e).2 in let b = (row_at j p f).2 in omega arith;
  wide = All-cons (λ (r : List ℕ). (1 ≤ length r) × (length r ≤ 4096)) row [] (omega arith, omega arith) (All-nil (λ (r : List ℕ). (1 ≤ length r) × (length r ≤ 4096)));
}
  where
    by : (i p : ℕ) → slice_get row i ≡ Some p → Contains (3 ∷ 4 ∷ 5 ∷ 6 ∷ []) p
    by zero p e = contained_at (3 ∷ 4 ∷ 5 ∷ 6 ∷ []) p 2 e
    by (suc zero) p e = contained_at (3 ∷ 4 ∷ 5 ∷ 6 ∷ []) p 1 e
    by (suc (suc zero)) p e = contained_at (3 ∷ 4 ∷ 5 ∷ 6 ∷ []) p 0 e
    by (suc (suc (suc i))) p e = absurd cc

-- no rows at all
pub no_rows : (all : List ℕ) → AreRowsOf all []
no_rows all = record {
  inside = λ p c. let at = place_of_contained (let ps : List ℕ = [] in ps) p c in absurd (nothing_at at.0 p at.1);
  once = λ i j p e f. absurd (nothing_at i p e);
  wide = All-nil (λ (r : List ℕ). (1 ≤ length r) × (length r ≤ 4096));
}
