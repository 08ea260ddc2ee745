-- A sum of three rows as two, place by place.
use Rattle.std.proofs.Common.{◌≡◌, ℕ, zero, suc, ◌+◌, ◌*◌, ◌^◌, ◌%◌, ◌<◌, ◌≤◌, Bool, true, false, cond, not, List, [], ◌∷◌, ◌++◌, length, take, length-append, get_or, refl, sym, ◌∙◌, ap, subst, arith}
use Rattle.std.specs.Prelude.{All, map, pos}
use Rattle.std.proofs.lemmas.List.{length-map}
use Rattle.std.proofs.lemmas.List.Elements.{All-nil, All-push, All-weaker}
use Rattle.std.proofs.lemmas.List.{get_or-map}
use Rattle.std.proofs.Math.Nat.{pow-suc, mod-eq_of_lt, add-mul-mod_self_left}
use Rattle.std.proofs.Math.Numerals.{add-one}
use Rattle.cnf_form.specs.Cnf.{LitOf, Assignment, Satisfies, LitWithin, lit_in}
use Rattle.gate_graph.specs.Circuit.{GatesOf, Continues, MakesGate, xor}
use Rattle.gate_graph.specs.Folding.{majority}
use Rattle.gate_graph.specs.Laws.{keeps, Continues-refl, Continues-trans}
use Rattle.sby_bits.specs.Rows.{Row, num, fit, low_bits, residue}
use Rattle.sby_bits.proofs.Numbers.{num-take, num-lt}
use Rattle.sby_bits.proofs.RowLaws.{row_again}
use Rattle.sby_bits.proofs.Moves.{num-append}
use Rattle.gate_rows.proofs.Adding.{full_adder, num-push, map_push}
use Rattle.gate_rows.proofs.Building.{Builds-none, Builds-trans, All-later, later, length-row, read}
use Rattle.gate_rows.specs.Literals.{row_of}
use Rattle.gate_rows.specs.Sums.{IsSave, MakesAdder, at}

pub IsSave-none : (g : GatesOf) (a b c : List LitOf) (over : LitOf) → LitWithin g.formula.vars over → ((x : Assignment) → Satisfies x g.formula.clauses → lit_in x over ≡ false) → IsSave g g a b c 0 [] [] over
IsSave-none g a b c over w m = record {
  builds = Builds-none g 0;
  as_many = refl;
  as_many_carries = refl;
  within = All-nil (LitWithin g.formula.vars);
  carries_within = All-nil (LitWithin g.formula.vars);
  over_within = w;
  sum = λ x s. let e : at 0 (lit_in x over) ≡ 0 = ap (at 0) (m x s) in omega arith;
}

-- one place more
pub IsSave-next : (f g h : GatesOf) (a b c : List LitOf) (i : ℕ) (row carries : List LitOf) (over p q r s o : LitOf) → IsSave f g a b c i row carries over →
    i < length a → length a ≡ length b → length a ≡ length c → p ≡ get_or a i p → q ≡ get_or b i q → r ≡ get_or c i r →
    MakesAdder g h p q r s o → IsSave f h a b c (i + 1) (row ++ s ∷ []) (carries ++ over ∷ []) o
IsSave-next f g h a b c i row carries over p q r s o z lt same samec ep eq er w =
    let gh = w.builds.continues.vars in
    record {
      builds = Builds-trans f g h (3 * i) 3 (3 * (i + 1)) z.builds w.builds (omega arith);
      as_many = let e = z.as_many in length-append row (s ∷ []) ∙ ap (λ (n : ℕ). n + 1) e;
      within = All-push (LitWithin h.formula.vars) row s (All-later g.formula.vars h.formula.vars row gh z.within) w.within;
      as_many_carries = let e = z.as_many_carries in length-append carries (over ∷ []) ∙ ap (λ (n : ℕ). n + 1) e;
      carries_within = All-push (LitWithin h.formula.vars) carries over (All-later g.formula.vars h.formula.vars carries gh z.carries_within) (later g.formula.vars h.formula.vars over gh z.over_within);
      over_within = w.carry_within;
      sum = λ x t.
          let old = z.sum x (keeps g h w.builds.continues x t) in
          let one = full_adder i (lit_in x p) (lit_in x q) (lit_in x r) in
          let na = length-row x a in
          let nb = length-row x b in
          let nc = length-row x c in
          let nk : length (row_of x carries) ≡ i = length-row x carries ∙ z.as_many_carries in
          let nr : length (row_of x row) ≡ i = length-row x row ∙ z.as_many in
          let ta : num (take (i + 1) (row_of x a)) ≡ num (take i (row_of x a)) + at i (lit_in x p) = num-take (row_of x a) i (omega arith) ∙ ap (λ (e : Bool). num (take i (row_of x a)) + at i e) (read x a i p lt ep) in
          let tb : num (take (i + 1) (row_of x b)) ≡ num (take i (row_of x b)) + at i (lit_in x q) = num-take (row_of x b) i (omega arith) ∙ ap (λ (e : Bool). num (take i (row_of x b)) + at i e) (read x b i q (omega arith) eq) in
          let tc : num (take (i + 1) (row_of x c)) ≡ num (take i (row_of x c)) + at i (lit_in x r) = num-take (row_of x c) i (omega arith) ∙ ap (λ (e : Bool). num (take i (row_of x c)) + at i e) (read x c i r (omega arith) er) in
          let kept : num (row_of x (carries ++ over ∷ [])) ≡ num (row_of x carries) + at i (lit_in x over) =
          ap num (map_push (lit_in x) carries over) ∙ num-push (row_of x carries) (lit_in x over) ∙ ap (λ (n : ℕ). num (row_of x carries) + at n (lit_in x over)) nk in
          let pushed : num (row_of x (row ++ s ∷ [])) ≡ num (row_of x row) + at i (xor (xor (lit_in x p) (lit_in x q)) (lit_in x r)) =
          ap num (map_push (lit_in x) row s) ∙ num-push (row_of x row) (lit_in x s) ∙ ap (λ (n : ℕ). num (row_of x row) + at n (lit_in x s)) nr ∙ ap (λ (e : Bool). num (row_of x row) + at i e) (w.sum x t) in
          let carried : at (i + 1) (lit_in x o) ≡ at (i + 1) (majority (lit_in x p) (lit_in x q) (lit_in x r)) = ap (at (i + 1)) (w.carry x t) in
          joined (num (row_of x (row ++ s ∷ []))) (num (row_of x (carries ++ over ∷ []))) (at (i + 1) (lit_in x o)) (num (take (i + 1) (row_of x a))) (num (take (i + 1) (row_of x b))) (num (take (i + 1) (row_of x c)))
          (num (row_of x row)) (num (row_of x carries)) (at i (lit_in x over)) (num (take i (row_of x a))) (num (take i (row_of x b))) (num (take i (row_of x c)))
          (at i (xor (xor (lit_in x p) (lit_in x q)) (lit_in x r))) (at (i + 1) (majority (lit_in x p) (lit_in x q) (lit_in x r))) (at i (lit_in x p)) (at i (lit_in x q)) (at i (lit_in x r))
          old one ta tb tc pushed kept carried;
    }
  where
    joined : (r k o a b c rr kk oo aa bb cc s m p q t : ℕ) → rr + kk + oo ≡ aa + bb + cc → s + m ≡ p + q + t → a ≡ aa + p → b ≡ bb + q → c ≡ cc + t → r ≡ rr + s → k ≡ kk + oo → o ≡ m → r + k + o ≡ a + b + c
    joined r k o a b c rr kk oo aa bb cc s m p q t h1 h2 h3 h4 h5 h6 h7 h8 = omega arith
