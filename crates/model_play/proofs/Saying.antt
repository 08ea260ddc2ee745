-- Statements that fail, and those that don't.
use Rattle.std.proofs.Common.{◌≡◌, ℕ, Bool, true, false, ◌&&◌, ◌||◌, ◌<◌, ◌≤◌, ◌↔◌, not, List, Some, refl, sym, ◌∙◌, subst, ap, arith, length, get_or}
use Rattle.std.specs.Prelude.{slice_get, IsTrue}
use Rattle.std.proofs.lemmas.Bool.{true≢false}
use Rattle.std.proofs.lemmas.Option.{get_or_from_slice_get, slice_get_within}
use Rattle.sby_bits.specs.Rows.{Row}
use Rattle.model_core.specs.Meaning.{Assumed}
use Rattle.model_core.specs.Shape.{ModelOf}
use Rattle.model_core.specs.declared.model.Statement.{Statement}
use Rattle.model_play.specs.Playing.{cycle_of}

holds : (x y : Bool) → (x && not y) ≡ false → IsTrue (not x || y)
holds true true e = refl
holds true false e = absurd (true≢false e)
holds false y e = refl

broken : (x y : Bool) → (x && not y) ≡ true → IsTrue (not x || y) → ⊥
broken true true e h = true≢false (sym e)
broken true false e h = true≢false (sym h)
broken false y e h = true≢false (sym e)

abbrev pub IsFailing : Row → Statement → Bool → Type 0
IsFailing row s b = (cycle_of row s.en && not (cycle_of row s.a)) ≡ b

pub fail_at : (items table : Row) (xs : List Statement) (i : ℕ) (d s : Statement) (r b : Bool) → table ≡ items → slice_get xs i ≡ Some s
    → r ≡ (cycle_of table (get_or xs i d).en && not (cycle_of table (get_or xs i d).a)) → r ≡ b → IsFailing items s b
fail_at items table xs i d s r b e at h g =
    subst (λ (z : Statement). IsFailing items z b) (get_or_from_slice_get xs i s d at) (subst (λ (t : Row). IsFailing t (get_or xs i d) b) e (sym h ∙ g))

pub assumed_not : (m : ModelOf) (row : Row) (xs : List Statement) (i : ℕ) (s : Statement) → xs ≡ m.assumes → slice_get xs i ≡ Some s → IsFailing row s true → IsTrue false ↔ Assumed m (cycle_of row)
assumed_not m row xs i s e at h = (
  (λ f. absurd (true≢false (sym f))),
  (λ a. absurd (broken (cycle_of row s.en) (cycle_of row s.a) h (a i s (ap (λ (ys : List Statement). slice_get ys i) (sym e) ∙ at)))),
)

pub assumed_all : (m : ModelOf) (row : Row) (xs : List Statement) (n : ℕ) → xs ≡ m.assumes → length xs ≤ n → ((k : ℕ) (s : Statement) → k < n → slice_get xs k ≡ Some s → IsFailing row s false)
    → IsTrue true ↔ Assumed m (cycle_of row)
assumed_all m row xs n e l h = (
  (λ t i s at. let here = ap (λ (ys : List Statement). slice_get ys i) e ∙ at in let w = slice_get_within xs i s here in holds (cycle_of row s.en) (cycle_of row s.a) (h i s (omega arith) here)),
  (λ a. refl),
)
