-- The first answer that is Sat, and the answers up to it.
use Rattle.std.proofs.Common.{◌≡◌, ℕ, zero, suc, ◌+◌, ◌≤◌, List, [], ◌∷◌, refl, ap, sym, ◌∙◌, length, take, arith}
use Rattle.std.specs.Prelude.{Option, Some, None, slice_get}
use Rattle.sby_terms.specs.declared.names.Answer.{Answer}
use Rattle.sby_terms.specs.declared.names.Answer.TheVariants.{Sat, Unsat}
use Rattle.sby_lines.specs.Lines.{upto_sat}
use Rattle.sby_lines.specs.Told.{IsFirstSat}

none_same : (answers : List (Option Answer)) → ((k : ℕ) → slice_get answers k ≡ Some (Some Sat) → ⊥) → upto_sat answers ≡ answers
none_same [] none = refl
none_same (None ∷ answers) none = ap (λ xs. None ∷ xs) (none_same answers (λ k at. none (suc k) at))
none_same (Some Unsat ∷ answers) none = ap (λ xs. Some Unsat ∷ xs) (none_same answers (λ k at. none (suc k) at))
none_same (Some Sat ∷ answers) none = absurd (none 0 refl)

-- without a Sat, all
pub upto_none : (answers : List (Option Answer)) → ((k : ℕ) → slice_get answers k ≡ Some (Some Sat) → ⊥) → answers ≡ upto_sat answers
upto_none answers none = sym (none_same answers none)

upto_suc : (answers : List (Option Answer)) (place : ℕ) → IsFirstSat answers place → take (suc place) answers ≡ upto_sat answers
upto_suc [] place is = let no = is.0 in cc
upto_suc (None ∷ answers) zero is = let no = is.0 in cc
upto_suc (Some Unsat ∷ answers) zero is = let no = is.0 in cc
upto_suc (Some Sat ∷ answers) zero is = refl
upto_suc (None ∷ answers) (suc place) is = ap (λ xs. None ∷ xs) (upto_suc answers place (is.0, λ k lt at. is.1 (suc k) (omega (arith, lt)) at))
upto_suc (Some Unsat ∷ answers) (suc place) is = ap (λ xs. Some Unsat ∷ xs) (upto_suc answers place (is.0, λ k lt at. is.1 (suc k) (omega (arith, lt)) at))
upto_suc (Some Sat ∷ answers) (suc place) is = absurd (is.1 0 (omega arith) refl)

-- with one, as many as its place tells, and one
pub upto_first : (answers : List (Option Answer)) (place : ℕ) → IsFirstSat answers place → take (place + 1) answers ≡ upto_sat answers
upto_first answers place is = let next : place + 1 ≡ suc place = omega arith in ap (λ n. take n answers) next ∙ upto_suc answers place is

-- no more than all
pub upto_fewer : (answers : List (Option Answer)) → length (upto_sat answers) ≤ length answers
upto_fewer [] = omega arith
upto_fewer (None ∷ answers) = let t = upto_fewer answers in omega (arith, t)
upto_fewer (Some Unsat ∷ answers) = let t = upto_fewer answers in omega (arith, t)
upto_fewer (Some Sat ∷ answers) = omega arith
