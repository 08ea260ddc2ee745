-- The counter is a model.
use Rattle.std.proofs.Common.{◌≡◌, ℕ, zero, suc, ◌<◌, List, [], ◌∷◌, ◌++◌, Some, None, refl, ap, sym, ◌∙◌, subst, arith, false, take, get_or}
use Rattle.std.specs.Prelude.{slice_get, Contains, All}
use Rattle.std.proofs.lemmas.Option.{slice_get-get_or}
use Rattle.model_core.specs.Served.{IsModel, IsNode}
use Rattle.model_core.specs.Shape.{IsRegister, IsStatement, NodeOf, given, reads, sources}
use Rattle.cell_table.specs.declared.kind.Binary.TheVariants.{Add}
use Rattle.cell_table.specs.declared.kind.Reduce.TheVariants.{And}
use Rattle.model_core.specs.declared.op.Op.TheVariants as op
use Rattle.model_core.proofs.Lists.{contained_at, place_of_contained}
use Rattle.model_play.specs.Counter.{counter}

at_index : (i p : ℕ) → slice_get (0 ∷ 1 ∷ 2 ∷ 3 ∷ 4 ∷ 5 ∷ 6 ∷ 7 ∷ 8 ∷ []) i ≡ Some p → i ≡ p
at_index zero p e = cc
at_index (suc zero) p e = cc
at_index (suc (suc zero)) p e = cc
at_index (suc (suc (suc zero))) p e = cc
at_index (suc (suc (suc (suc zero)))) p e = cc
at_index (suc (suc (suc (suc (suc zero))))) p e = cc
at_index (suc (suc (suc (suc (suc (suc zero)))))) p e = cc
at_index (suc (suc (suc (suc (suc (suc (suc zero))))))) p e = cc
at_index (suc (suc (suc (suc (suc (suc (suc (suc zero)))))))) p e = cc
at_index (suc (suc (suc (suc (suc (suc (suc (suc (suc i))))))))) p e = absurd (let z : None ≡ Some p = e in cc)

index_at : (p : ℕ) → p < 9 → slice_get (0 ∷ 1 ∷ 2 ∷ 3 ∷ 4 ∷ 5 ∷ 6 ∷ 7 ∷ 8 ∷ []) p ≡ Some p
index_at zero h = refl
index_at (suc zero) h = refl
index_at (suc (suc zero)) h = refl
index_at (suc (suc (suc zero))) h = refl
index_at (suc (suc (suc (suc zero)))) h = refl
index_at (suc (suc (suc (suc (suc zero))))) h = refl
index_at (suc (suc (suc (suc (suc (suc zero)))))) h = refl
index_at (suc (suc (suc (suc (suc (suc (suc zero))))))) h = refl
index_at (suc (suc (suc (suc (suc (suc (suc (suc zero)))))))) h = refl
index_at (suc (suc (suc (suc (suc (suc (suc (suc (suc i))))))))) h = absurd (omega arith)

two_three : (p : ℕ) (ps : List ℕ) → slice_get ps 2 ≡ Some 2 → slice_get ps 3 ≡ Some 3 → Contains (2 ∷ 3 ∷ []) p → Contains ps p
two_three p ps a b h = let at = place_of_contained (2 ∷ 3 ∷ []) p h in by at.0 at.1
  where
    by : (k : ℕ) → slice_get (2 ∷ 3 ∷ []) k ≡ Some p → Contains ps p
    by zero e = let z : 2 ≡ p = cc in contained_at ps p 2 (a ∙ ap Some z)
    by (suc zero) e = let z : 3 ≡ p = cc in contained_at ps p 3 (b ∙ ap Some z)
    by (suc (suc k)) e = absurd (let z : None ≡ Some p = e in cc)

abbrev first : NodeOf
first = record { op = op.Binary Add false; a = 2 ∷ 3 ∷ []; b = 1 ∷ []; s = []; y = 6 ∷ 7 ∷ [] }

abbrev second : NodeOf
second = record { op = op.Reduce And; a = 2 ∷ 3 ∷ []; b = []; s = []; y = 8 ∷ [] }

read_first : (p : ℕ) → Contains (2 ∷ 3 ∷ 1 ∷ []) p → Contains (0 ∷ 1 ∷ 2 ∷ 3 ∷ 4 ∷ 5 ∷ []) p
read_first p h = let at = place_of_contained (2 ∷ 3 ∷ 1 ∷ []) p h in by at.0 at.1
  where
    by : (k : ℕ) → slice_get (2 ∷ 3 ∷ 1 ∷ []) k ≡ Some p → Contains (0 ∷ 1 ∷ 2 ∷ 3 ∷ 4 ∷ 5 ∷ []) p
    by zero e = contained_at (0 ∷ 1 ∷ 2 ∷ 3 ∷ 4 ∷ 5 ∷ []) p 2 e
    by (suc zero) e = contained_at (0 ∷ 1 ∷ 2 ∷ 3 ∷ 4 ∷ 5 ∷ []) p 3 e
    by (suc (suc zero)) e = contained_at (0 ∷ 1 ∷ 2 ∷ 3 ∷ 4 ∷ 5 ∷ []) p 1 e
    by (suc (suc (suc k))) e = absurd (let z : None ≡ Some p = e in cc)

pub counter_is : IsModel counter
counter_is = record {
  limit = omega arith;
  nodes = nodes;
  registers = registers;
  starts = refl;
  asserts = λ k d h. by k d h;
  assumes = λ k d h. absurd (omega arith);
  covers = λ k d h. covers k d h;
  below = λ k d h. let z = at_index k (get_or (0 ∷ 1 ∷ 2 ∷ 3 ∷ 4 ∷ 5 ∷ 6 ∷ 7 ∷ 8 ∷ []) k d) (slice_get-get_or (0 ∷ 1 ∷ 2 ∷ 3 ∷ 4 ∷ 5 ∷ 6 ∷ 7 ∷ 8 ∷ []) k d h) in omega (arith, z, h);
  all = λ p h. contained_at (0 ∷ 1 ∷ 2 ∷ 3 ∷ 4 ∷ 5 ∷ 6 ∷ 7 ∷ 8 ∷ []) p p (index_at p h);
  once = λ i j p a b. at_index i p a ∙ sym (at_index j p b);
  order = order;
}
  where
    nodes : All IsNode counter.nodes
    nodes zero d h = ((omega arith, omega arith), (omega arith, omega arith), (omega arith, omega arith), refl)
    nodes (suc zero) d h = ((omega arith, omega arith), (omega arith, omega arith), refl, refl)
    nodes (suc (suc k)) d h = absurd (omega arith)

    small : (a b : ℕ) → a < 9 → b < 9 → All (λ p. p < 9) (a ∷ b ∷ [])
    small a b ha hb zero d h = ha
    small a b ha hb (suc zero) d h = hb
    small a b ha hb (suc (suc k)) d h = absurd (omega arith)

    registers : All (IsRegister 9) counter.registers
    registers zero d h = record {
      some = omega arith;
      narrow = omega arith;
      d = refl;
      value = refl;
      d_below = small 6 7 (omega arith) (omega arith);
      value_below = small 0 0 (omega arith) (omega arith);
      enable = omega arith;
      reset = omega arith;
    }
    registers (suc k) d h = absurd (omega arith)

    by : All (IsStatement 9) counter.asserts
    by zero d h = (omega arith, omega arith)
    by (suc k) d h = absurd (omega arith)

    covers : All (IsStatement 9) counter.covers
    covers zero d h = (omega arith, omega arith)
    covers (suc k) d h = absurd (omega arith)

    order : (i : ℕ) (n : NodeOf) → slice_get counter.nodes i ≡ Some n → (p : ℕ) → Contains (reads n) p → Contains (sources counter ++ given (take i counter.nodes)) p
    order zero n e p h = let z : first ≡ n = cc in read_first p (subst (λ (k : NodeOf). Contains (reads k) p) (sym z) h)
    order (suc zero) n e p h = let z : second ≡ n = cc in two_three p (0 ∷ 1 ∷ 2 ∷ 3 ∷ 4 ∷ 5 ∷ 6 ∷ 7 ∷ []) refl refl (subst (λ (k : NodeOf). Contains (reads k) p) (sym z) h)
    order (suc (suc k)) n e p h = absurd (let z : None ≡ Some n = e in cc)
