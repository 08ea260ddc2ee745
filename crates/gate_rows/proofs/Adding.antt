-- A sum, place by place.
use Rattle.std.proofs.Common.{◌≡◌, ℕ, zero, suc, ◌+◌, ◌*◌, ◌^◌, ◌%◌, ◌<◌, ◌≤◌, Bool, true, false, cond, not, List, [], ◌∷◌, ◌++◌, length, take, length-append, get_or, refl, sym, ◌∙◌, ap, subst, arith}
use Rattle.std.specs.Prelude.{All, map, pos}
use Rattle.std.proofs.lemmas.List.{length-map}
use Rattle.std.proofs.lemmas.List.Elements.{All-nil, All-push, All-weaker}
use Rattle.std.proofs.lemmas.List.{get_or-map}
use Rattle.std.proofs.Math.Nat.{pow-suc, mod-eq_of_lt, add-mul-mod_self_left}
use Rattle.std.proofs.Math.Numerals.{add-one}
use Rattle.cnf_form.specs.Cnf.{LitOf, Assignment, Satisfies, LitWithin, lit_in}
use Rattle.gate_graph.specs.Circuit.{GatesOf, Continues, MakesGate, xor}
use Rattle.gate_graph.specs.Folding.{majority}
use Rattle.gate_graph.specs.Laws.{keeps, Continues-refl, Continues-trans}
use Rattle.sby_bits.specs.Rows.{Row, num, fit, low_bits, residue}
use Rattle.sby_bits.proofs.Numbers.{num-take, num-lt}
use Rattle.sby_bits.proofs.RowLaws.{row_again}
use Rattle.sby_bits.proofs.Moves.{num-append}
use Rattle.gate_rows.specs.Literals.{row_of}
use Rattle.gate_rows.specs.Sums.{IsSum, MakesAdder, at}
use Rattle.gate_rows.proofs.Building.{Builds-none, Builds-trans, All-later, length-row, read}

-- one place: the bits and the carry are the sum bit, and twice the carry out
adder_at : (a b : ℕ) → b ≡ a * 2 → (p q r : Bool) → cond (xor (xor p q) r) a 0 + cond (majority p q r) b 0 ≡ cond p a 0 + cond q a 0 + cond r a 0
adder_at a b h true true true = omega arith
adder_at a b h true true false = omega arith
adder_at a b h true false true = omega arith
adder_at a b h true false false = omega arith
adder_at a b h false true true = omega arith
adder_at a b h false true false = omega arith
adder_at a b h false false true = omega arith
adder_at a b h false false false = omega arith

pub full_adder : (i : ℕ) (p q r : Bool) → at i (xor (xor p q) r) + at (i + 1) (majority p q r) ≡ at i p + at i q + at i r
full_adder i p q r = adder_at (2 ^ i) (2 ^ (i + 1)) (ap (λ (k : ℕ). 2 ^ k) (add-one i) ∙ pow-suc 2 i) p q r

one_bit : (i : ℕ) (b : Bool) → 2 ^ i * num (b ∷ []) ≡ at i b
one_bit i true = omega arith
one_bit i false = omega arith

pub map_push : {X Y : Type 0} (f : X → Y) (xs : List X) (y : X) → map f (xs ++ y ∷ []) ≡ map f xs ++ f y ∷ []
map_push f [] y = refl
map_push f (x ∷ xs) y = ap (λ (r : List _). f x ∷ r) (map_push f xs y)

-- one bit more at the end
pub num-push : (r : Row) (b : Bool) → num (r ++ b ∷ []) ≡ num r + at (length r) b
num-push r b = num-append r (b ∷ []) ∙ ap (λ (n : ℕ). num r + n) (one_bit (length r) b)

-- the number of a row of length y, and what is over
pub fit_sum : (r : Row) (y n k : ℕ) → length r ≡ y → num r + 2 ^ y * k ≡ n → r ≡ fit y (pos n)
fit_sum r y n k e h =
    let small : num r < 2 ^ y = subst (λ (m : ℕ). num r < 2 ^ m) e (num-lt r) in
    let whole : n % 2 ^ y ≡ num r = sym (ap (λ (m : ℕ). m % 2 ^ y) h) ∙ add-mul-mod_self_left (num r) (2 ^ y) k ∙ mod-eq_of_lt small in
    let again : fit y (pos (num r)) ≡ r = subst (λ (m : ℕ). fit m (pos (num r)) ≡ r) e (row_again r) in
    sym (ap (low_bits y) (whole ∙ sym (mod-eq_of_lt small)) ∙ again)

-- at the start
pub IsSum-none : (g : GatesOf) (a b : List LitOf) (carry : LitOf) → LitWithin g.formula.vars carry → IsSum g g a b carry 0 [] carry
IsSum-none g a b carry w = record {
  builds = Builds-none g 0;
  as_many = refl;
  within = All-nil (LitWithin g.formula.vars);
  over_within = w;
  sum = λ x s. refl;
}

-- one place more
pub IsSum-next : (f g h : GatesOf) (a b : List LitOf) (carry : LitOf) (i : ℕ) (row : List LitOf) (over p q s o : LitOf) → IsSum f g a b carry i row over →
    i < length a → length a ≡ length b → p ≡ get_or a i p → q ≡ get_or b i q →
    MakesAdder g h p q over s o → IsSum f h a b carry (i + 1) (row ++ s ∷ []) o
IsSum-next f g h a b carry i row over p q s o z lt same ep eq w =
    let gh = w.builds.continues.vars in
    record {
      builds = Builds-trans f g h (3 * i) 3 (3 * (i + 1)) z.builds w.builds (omega arith);
      as_many = let e = z.as_many in length-append row (s ∷ []) ∙ ap (λ (n : ℕ). n + 1) e;
      within = All-push (LitWithin h.formula.vars) row s (All-later g.formula.vars h.formula.vars row gh z.within) w.within;
      over_within = w.carry_within;
      sum = λ x t.
          let old = z.sum x (keeps g h w.builds.continues x t) in
          let one = full_adder i (lit_in x p) (lit_in x q) (lit_in x over) in
          let na = length-row x a in
          let nb = length-row x b in
          let nr : length (row_of x row) ≡ i = length-row x row ∙ z.as_many in
          let ta : num (take (i + 1) (row_of x a)) ≡ num (take i (row_of x a)) + at i (lit_in x p) = num-take (row_of x a) i (omega arith) ∙ ap (λ (c : Bool). num (take i (row_of x a)) + at i c) (read x a i p lt ep) in
          let tb : num (take (i + 1) (row_of x b)) ≡ num (take i (row_of x b)) + at i (lit_in x q) = num-take (row_of x b) i (omega arith) ∙ ap (λ (c : Bool). num (take i (row_of x b)) + at i c) (read x b i q (omega arith) eq) in
          let pushed : num (row_of x (row ++ s ∷ [])) ≡ num (row_of x row) + at i (xor (xor (lit_in x p) (lit_in x q)) (lit_in x over)) =
          ap num (map_push (lit_in x) row s) ∙ num-push (row_of x row) (lit_in x s) ∙ ap (λ (n : ℕ). num (row_of x row) + at n (lit_in x s)) nr ∙ ap (λ (c : Bool). num (row_of x row) + at i c) (w.sum x t) in
          let carried : at (i + 1) (lit_in x o) ≡ at (i + 1) (majority (lit_in x p) (lit_in x q) (lit_in x over)) = ap (at (i + 1)) (w.carry x t) in
          joined (num (row_of x (row ++ s ∷ []))) (at (i + 1) (lit_in x o)) (num (take (i + 1) (row_of x a))) (num (take (i + 1) (row_of x b)))
          (num (row_of x row)) (at i (lit_in x over)) (num (take i (row_of x a))) (num (take i (row_of x b))) (at 0 (lit_in x carry))
          (at i (xor (xor (lit_in x p) (lit_in x q)) (lit_in x over))) (at (i + 1) (majority (lit_in x p) (lit_in x q) (lit_in x over))) (at i (lit_in x p)) (at i (lit_in x q))
          old one ta tb pushed carried;
    }
  where
    joined : (r c a b rr cc aa bb z s m p q : ℕ) → rr + cc ≡ aa + bb + z → s + m ≡ p + q + cc → a ≡ aa + p → b ≡ bb + q → r ≡ rr + s → c ≡ m → r + c ≡ a + b + z
    joined r c a b rr cc aa bb z s m p q h1 h2 h3 h4 h5 h6 = omega arith
