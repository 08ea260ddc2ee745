-- Places and statements of lists that are the model's.
use Rattle.std.proofs.Common.{◌≡◌, ℕ, ◌<◌, List, Some, sym, subst, arith, length}
use Rattle.std.specs.Prelude.{slice_get, All}
use Rattle.cnf_form.specs.Cnf.{LitOf}
use Rattle.model_core.specs.Shape.{IsStatement}
use Rattle.model_core.specs.declared.model.Statement.{Statement}
use Rattle.model_core.proofs.Lists.{all_at}

pub places_below : (size : ℕ) (table : List LitOf) (places ps : List ℕ) → places ≡ ps → All (λ p. p < size) ps → length table ≡ size → All (λ p. p < length table) places
places_below size table places ps e a n k d l =
    let b = subst (All (λ (p : ℕ). p < size)) (sym e) a in
    let q = b k d l in
    omega arith

pub statements_below : (size : ℕ) (table : List LitOf) (xs ys : List Statement) → xs ≡ ys → length table ≡ size → All (IsStatement size) ys → All (IsStatement (length table)) xs
statements_below size table xs ys e n a = subst (λ (k : ℕ). All (IsStatement k) xs) (sym n) (subst (All (IsStatement size)) (sym e) a)

pub statement_below : (size : ℕ) (table : List LitOf) (xs ys : List Statement) (k : ℕ) (z : Statement) → xs ≡ ys → length table ≡ size → All (IsStatement size) ys → slice_get xs k ≡ Some z → IsStatement (length table) z
statement_below size table xs ys k z e n a at = all_at (IsStatement (length table)) xs k z (statements_below size table xs ys e n a) at
