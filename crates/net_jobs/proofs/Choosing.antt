-- The choices that an assignment tells, place by place.
use Rattle.std.proofs.Common.{◌≡◌, ℕ, zero, suc, ◌+◌, ◌<◌, Bool, List, [], ◌∷◌, Option, Some, None, refl, sym, ap, ◌∙◌, subst, arith, length, map}
use Rattle.std.specs.Prelude.{slice_get}
use Rattle.sby_bits.specs.Rows.{Row}
use Rattle.cnf_form.specs.Cnf.{Assignment}
use Rattle.model_core.specs.Choices.{AreChoicesFor, without_digit}
use Rattle.model_core.specs.Meaning.{Cycle, row_at}
use Rattle.model_core.specs.Served.{IsModel}
use Rattle.model_core.specs.Shape.{ModelOf, states}
use Rattle.bit_net.specs.Net.{NetOf, input_var, state_var}
use Rattle.bit_net.specs.Reaching.{numbers}
use Rattle.model_core.proofs.Lists.{all_from}
use Rattle.frame_gates.proofs.Lists.{length_map, map_at, one_at}
use Rattle.frame_net.specs.NetOf.{IsNetOf}
use Rattle.frame_net.proofs.Rows.{length-numbers, numbers-at}
use Rattle.std.proofs.lemmas.Option.{slice_get_within}
use Rattle.net_unroll.specs.Encoding.{EncodedOf}
use Rattle.net_unroll.specs.Promises.{cycles_told, told_by}
use Rattle.net_unroll.specs.declared.asking.Cycles.{Cycles}
use Rattle.net_jobs.specs.Jobs.{decoded, start_bits}

pub start_long : (ps : List ℕ) (digits : List (Option Bool)) (k : ℕ) (f : ℕ → Bool) → length digits ≡ length ps → length (start_bits digits k f) ≡ length (without_digit ps digits)
start_long [] [] k f e = refl
start_long [] (d ∷ digits) k f e = absurd (omega arith)
start_long (p ∷ ps) [] k f e = absurd (omega arith)
start_long (p ∷ ps) (Some d ∷ digits) k f e = start_long ps digits (suc k) f (omega arith)
start_long (p ∷ ps) (None ∷ digits) k f e = ap suc (start_long ps digits (suc k) f (omega arith))

pub start_at : (c : Cycle) (ps : List ℕ) (digits : List (Option Bool)) (k : ℕ) (f : ℕ → Bool) → row_at c (without_digit ps digits) ≡ start_bits digits k f → (j p : ℕ) → slice_get ps j ≡ Some p → slice_get digits j ≡ Some None → c p ≡ f (k + j)
start_at c [] digits k f e j p at d = absurd (let z : None ≡ Some p = at in cc)
start_at c (q ∷ ps) [] k f e j p at d = absurd (let z : None ≡ Some None = d in cc)
start_at c (q ∷ ps) (Some b ∷ digits) k f e zero p at d = absurd (let z : Some (Some b) ≡ Some None = d in cc)
start_at c (q ∷ ps) (Some b ∷ digits) k f e (suc j) p at d = start_at c ps digits (suc k) f e j p at d ∙ ap f (let z : suc k + j ≡ k + suc j = omega arith in z)
start_at c (q ∷ ps) (None ∷ digits) k f e zero p at d =
    let z : Some q ≡ Some p = at in
    let w : q ≡ p = cc in
    let h : c q ≡ f k = cc in
    ap c (sym w) ∙ h ∙ ap f (let y : k ≡ k + 0 = omega arith in y)
start_at c (q ∷ ps) (None ∷ digits) k f e (suc j) p at d =
    let rest : row_at c (without_digit ps digits) ≡ start_bits digits (suc k) f = cc in
    start_at c ps digits (suc k) f rest j p at d ∙ ap f (let z : suc k + j ≡ k + suc j = omega arith in z)

module _ (m : ModelOf) (n : NetOf) (c : Cycles) (e : EncodedOf) (x : Assignment) where
  pub many_rows : length (decoded m n c e x).inputs ≡ cycles_told c e x
  many_rows = length_map (λ t. map (λ k. told_by x e.free t (input_var n k)) (numbers 0 n.inputs)) (numbers 0 (cycles_told c e x)) ∙ length-numbers 0 (cycles_told c e x)

  pub row_told : (t : ℕ) → t < cycles_told c e x → slice_get (decoded m n c e x).inputs t ≡ Some (map (λ k. told_by x e.free t (input_var n k)) (numbers 0 n.inputs))
  row_told t l =
      map_at (λ s. map (λ k. told_by x e.free s (input_var n k)) (numbers 0 n.inputs)) (numbers 0 (cycles_told c e x)) t t
      (numbers-at 0 (cycles_told c e x) t l ∙ ap Some (let z : 0 + t ≡ t = omega arith in z))

  pub choices_fit : IsModel m → IsNetOf m n → AreChoicesFor m (decoded m n c e x)
  choices_fit is of = record {
    starts = start_long (states m) m.starts 0 (λ k. told_by x e.free 0 (state_var k)) is.starts;
    inputs = all_from (λ row. length row ≡ length m.inputs) (decoded m n c e x).inputs (λ t row at.
        (let l = slice_get_within (decoded m n c e x).inputs t row at in
        let many = many_rows in
        let same = one_at (decoded m n c e x).inputs t row (map (λ k. told_by x e.free t (input_var n k)) (numbers 0 n.inputs)) at (row_told t (omega arith)) in
        ap length same ∙ length_map (λ k. told_by x e.free t (input_var n k)) (numbers 0 n.inputs) ∙ length-numbers 0 n.inputs ∙ of.inputs));
  }

  pub input_told : (cs : Cycle) (t : ℕ) → row_at cs m.inputs ≡ map (λ k. told_by x e.free t (input_var n k)) (numbers 0 n.inputs) → (k p : ℕ) → k < n.inputs → slice_get m.inputs k ≡ Some p → cs p ≡ told_by x e.free t (input_var n k)
  input_told cs t row k p l at =
      one_at (map (λ j. told_by x e.free t (input_var n j)) (numbers 0 n.inputs)) k (cs p) (told_by x e.free t (input_var n k))
      (subst (λ (r : Row). slice_get r k ≡ Some (cs p)) row (map_at cs m.inputs k p at))
      (map_at (λ j. told_by x e.free t (input_var n j)) (numbers 0 n.inputs) k k (numbers-at 0 n.inputs k l ∙ ap Some (let z : 0 + k ≡ k = omega arith in z)))
