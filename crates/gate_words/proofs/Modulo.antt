-- Whole numbers that are the same modulo a power of two.
use Rattle.std.proofs.Common.{◌≡◌, ℕ, zero, suc, ◌+◌, ◌*◌, ◌^◌, ◌≤◌, Bool, true, false, cond, not, ◌&&◌, ◌||◌, map, List, length, take, refl, sym, ◌∙◌, ap, subst, arith}
use Rattle.std.specs.Prelude.{ℤ, pos, negsuc, ◌+ℤ◌, ◌-ℤ◌, ◌*ℤ◌}
use Rattle.std.proofs.lemmas.Int.{ints}
use Rattle.std.proofs.lemmas.List.{take_all, length-map, get_or-map}
use Rattle.cnf_form.specs.Cnf.{LitOf, Assignment, lit_in}
use Rattle.gate_graph.specs.Circuit.{GatesOf, Means, Continues}
use Rattle.gate_graph.specs.Laws.{keeps}
use Rattle.gate_rows.specs.Literals.{row_of, MeansRow}
use Rattle.gate_rows.specs.Sums.{at, IsSum}
use Rattle.gate_rows.proofs.Building.{length-row, length-bitwise, fit_long}
use Rattle.cell_rows.proofs.Cuts.{Near-pos, Near-sub, difference_cut, product_cut, row_near, sum_cut}
use Rattle.cell_table.specs.Cells.{binary_fn, either_one, same_bit}
use Rattle.cell_table.specs.declared.kind.Binary.{Binary}
use Rattle.cell_table.specs.declared.kind.Binary.TheVariants.{And, Or, Xor, Xnor, Add, Sub, Mul}
use Rattle.gate_words.specs.Words.{made, made_gates, binary_gates}
use Rattle.std.proofs.lemmas.Nat.{mul-le}
use Rattle.sby_bits.specs.Rows.{Row, num, fit}
use Rattle.sby_bits.proofs.Numbers.{num-turned, length-fit, fit-at, complement-at, row_is}

up_none : (n d r c : ℕ) → r + d * c ≡ n → pos n +ℤ pos (d * 0) ≡ pos (r + d * c)
up_none n d r c e = let z : d * 0 ≡ 0 = omega arith in rw z (omega (arith, ints))

carry_is : (y : ℕ) (b : Bool) → cond b (2 ^ y) 0 ≡ 2 ^ y * cond b 1 0
carry_is y true = omega arith
carry_is y false = omega arith

sum_numbers : (r o a b z m n d : ℕ) → r + o ≡ a + b + z → z ≡ 0 → a ≡ m → b ≡ n → o ≡ d → r + d ≡ m + n
sum_numbers r o a b z m n d h e f g i = omega arith

difference_numbers : (r o a b z m n t p d : ℕ) → r + o ≡ a + b + z → z ≡ 1 → a ≡ m → b ≡ t → n + t + 1 ≡ p → o ≡ d → r + d + n ≡ m + p
difference_numbers r o a b z m n t p d h e f g i j = omega arith

-- the adder's row
pub sum_means : (f g : GatesOf) (a b r : List LitOf) (none over : LitOf) → length a ≡ length b → Means f none (λ _. false) → IsSum f g a b none (length a) r over →
    MeansRow g (λ x. fit (length a) (pos (num (row_of x a)) +ℤ pos (num (row_of x b)))) r
sum_means f g a b r none over e z w = record {
  as_many = λ x. w.as_many ∙ sym (length-fit (length a) (pos (num (row_of x a)) +ℤ pos (num (row_of x b))));
  within = w.within;
  means = λ x s.
      let old = keeps f g w.builds.continues x s in
      row_near (row_of x r) (length a) (pos (num (row_of x a) + num (row_of x b))) (length-row x r ∙ w.as_many)
      (record {
        up = 0;
        over = cond (lit_in x over) 1 0;
        same = up_none (num (row_of x a) + num (row_of x b)) (2 ^ length a) (num (row_of x r)) (cond (lit_in x over) 1 0)
            (sum_numbers (num (row_of x r)) (at (length a) (lit_in x over)) (num (take (length a) (row_of x a))) (num (take (length a) (row_of x b))) (at 0 (lit_in x none)) (num (row_of x a)) (num (row_of x b)) (2 ^ length a * cond (lit_in x over) 1 0)
            (w.sum x s) (ap (at 0) (z x old)) (ap num (take_all (length a) (row_of x a) (let n = length-row x a in omega arith))) (ap num (take_all (length a) (row_of x b) (let n = length-row x b in omega arith))) (carry_is (length a) (lit_in x over)));
      });
}

pub difference_means : (f g : GatesOf) (a b t r : List LitOf) (one over : LitOf) → length a ≡ length b → Means f one (λ _. true) → MeansRow f (λ x. map not (row_of x b)) t → IsSum f g a t one (length a) r over →
    MeansRow g (λ x. fit (length a) (pos (num (row_of x a)) -ℤ pos (num (row_of x b)))) r
difference_means f g a b t r one over e z m w = record {
  as_many = λ x. w.as_many ∙ sym (length-fit (length a) (pos (num (row_of x a)) -ℤ pos (num (row_of x b))));
  within = w.within;
  means = λ x s.
      let old = keeps f g w.builds.continues x s in
      let long : length (row_of x b) ≡ length a = length-row x b ∙ sym e in
      let whole : num (row_of x b) + num (map not (row_of x b)) + 1 ≡ 2 ^ length a = subst (λ (n : ℕ). num (row_of x b) + num (map not (row_of x b)) + 1 ≡ 2 ^ n) long (num-turned (row_of x b)) in
      let t_long : length (row_of x t) ≡ length a = length-row x t ∙ m.as_many x ∙ length-map (row_of x b) not ∙ long in
      row_near (row_of x r) (length a) (pos (num (row_of x a)) -ℤ pos (num (row_of x b))) (length-row x r ∙ w.as_many)
      (Near-sub (2 ^ length a) (pos (num (row_of x a))) (pos (num (row_of x b))) (num (row_of x a)) (num (row_of x b)) (num (row_of x r)) (cond (lit_in x over) 1 0) (Near-pos (2 ^ length a) (num (row_of x a))) (Near-pos (2 ^ length a) (num (row_of x b)))
      (difference_numbers (num (row_of x r)) (at (length a) (lit_in x over)) (num (take (length a) (row_of x a))) (num (take (length a) (row_of x t))) (at 0 (lit_in x one)) (num (row_of x a)) (num (row_of x b)) (num (map not (row_of x b))) (2 ^ length a) (2 ^ length a * cond (lit_in x over) 1 0)
      (w.sum x s) (ap (at 0) (z x old)) (ap num (take_all (length a) (row_of x a) (let n = length-row x a in omega arith)))
      (ap num (take_all (length a) (row_of x t) (omega arith) ∙ m.means x old)) whole (carry_is (length a) (lit_in x over))));
}

pub turned_many : (g : GatesOf) (b t : List LitOf) → MeansRow g (λ x. map not (row_of x b)) t → length t ≡ length b
turned_many g b t m = let x : Assignment = λ _. false in m.as_many x ∙ length-map (row_of x b) not ∙ length-row x b

-- the operation on the operands at width y is that on the operands
pub made_is : (k : Binary) (y : ℕ) (a b : ℤ) → made k y (fit y a) (fit y b) ≡ binary_fn k y a b
made_is And y a b = refl
made_is Or y a b = refl
made_is Xor y a b = refl
made_is Xnor y a b = refl
made_is Add y a b = sum_cut y a b
made_is Sub y a b = difference_cut y a b
made_is Mul y a b = product_cut y a b

pub length-binary : (k : Binary) (y : ℕ) (a b : ℤ) → length (binary_fn k y a b) ≡ y
length-binary And y a b = length-bitwise ◌&&◌ (fit y a) (fit y b) (length-fit y a ∙ sym (length-fit y b)) ∙ length-fit y a
length-binary Or y a b = length-bitwise ◌||◌ (fit y a) (fit y b) (length-fit y a ∙ sym (length-fit y b)) ∙ length-fit y a
length-binary Xor y a b = length-bitwise either_one (fit y a) (fit y b) (length-fit y a ∙ sym (length-fit y b)) ∙ length-fit y a
length-binary Xnor y a b = length-bitwise same_bit (fit y a) (fit y b) (length-fit y a ∙ sym (length-fit y b)) ∙ length-fit y a
length-binary Add y a b = length-fit y (a +ℤ b)
length-binary Sub y a b = length-fit y (a -ℤ b)
length-binary Mul y a b = length-fit y (a *ℤ b)

pub length-made : (k : Binary) (y : ℕ) (a b : Row) → length a ≡ y → length b ≡ y → length (made k y a b) ≡ y
length-made And y a b p q = length-bitwise ◌&&◌ a b (p ∙ sym q) ∙ p
length-made Or y a b p q = length-bitwise ◌||◌ a b (p ∙ sym q) ∙ p
length-made Xor y a b p q = length-bitwise either_one a b (p ∙ sym q) ∙ p
length-made Xnor y a b p q = length-bitwise same_bit a b (p ∙ sym q) ∙ p
length-made Add y a b p q = length-fit y (pos (num a) +ℤ pos (num b))
length-made Sub y a b p q = length-fit y (pos (num a) -ℤ pos (num b))
length-made Mul y a b p q = length-fit y (pos (num a * num b))

-- the gates of a row within those of the cell
pub made_few : (k : Binary) (y w : ℕ) → y ≤ w → made_gates k y ≤ binary_gates k w
made_few And y w h = omega arith
made_few Or y w h = omega arith
made_few Xor y w h = omega arith
made_few Xnor y w h = omega arith
made_few Add y w h = omega arith
made_few Sub y w h = omega arith
made_few Mul y w h = let p : y * y ≤ w * w = mul-le y y w w h h in let q : w ≤ w * w = square_more w in omega arith
  where
    square_more : (w : ℕ) → w ≤ w * w
    square_more zero = omega arith
    square_more (suc w) = omega arith

pub binary_means : (g h : GatesOf) (k : Binary) (y : ℕ) (F G : Assignment → ℤ) (a b r : List LitOf) → Continues g h → MeansRow g (λ x. fit y (F x)) a → MeansRow g (λ x. fit y (G x)) b →
    MeansRow h (λ x. made k (length a) (row_of x a) (row_of x b)) r → MeansRow h (λ x. binary_fn k y (F x) (G x)) r
binary_means g h k y F G a b r c m n t =
    let la : length a ≡ y = fit_long g y F a m in
    let lb : length b ≡ y = fit_long g y G b n in
    record {
      as_many = λ x. t.as_many x ∙ ap (λ (i : ℕ). length (made k i (row_of x a) (row_of x b))) la ∙ length-made k y (row_of x a) (row_of x b) (length-row x a ∙ la) (length-row x b ∙ lb) ∙ sym (length-binary k y (F x) (G x));
      within = t.within;
      means = λ x s.
          let old = keeps g h c x s in
          t.means x s ∙ ap (λ (i : ℕ). made k i (row_of x a) (row_of x b)) la ∙ ap (λ (q : Row). made k y q (row_of x b)) (m.means x old) ∙ ap (made k y (fit y (F x))) (n.means x old) ∙ made_is k y (F x) (G x);
    }

not_bits : (y : ℕ) (z : ℤ) → map not (fit y z) ≡ fit y (negsuc 0 -ℤ z)
not_bits y z = row_is (map not (fit y z)) y (negsuc 0 -ℤ z) (length-map (fit y z) not ∙ length-fit y z)
    (λ k h. get_or-map not (fit y z) k false false (let n = length-fit y z in omega arith) ∙ ap not (fit-at y z k h) ∙ sym (complement-at z k))

pub not_means : (g : GatesOf) (y : ℕ) (F : Assignment → ℤ) (a r : List LitOf) → MeansRow g (λ x. fit y (F x)) a → MeansRow g (λ x. map not (row_of x a)) r → MeansRow g (λ x. fit y (negsuc 0 -ℤ F x)) r
not_means g y F a r m t = record {
  as_many = λ x. t.as_many x ∙ length-map (row_of x a) not ∙ length-row x a ∙ fit_long g y F a m ∙ sym (length-fit y (negsuc 0 -ℤ F x));
  within = t.within;
  means = λ x s. t.means x s ∙ ap (map not) (m.means x s) ∙ not_bits y (F x);
}

pub opposite_means : (g h : GatesOf) (y : ℕ) (F : Assignment → ℤ) (z a r : List LitOf) → Continues g h → MeansRow g (λ x. fit y (pos 0)) z → MeansRow g (λ x. fit y (F x)) a →
    MeansRow h (λ x. fit (length z) (pos (num (row_of x z)) -ℤ pos (num (row_of x a)))) r → MeansRow h (λ x. fit y (pos 0 -ℤ F x)) r
opposite_means g h y F z a r c m n t =
    let lz : length z ≡ y = fit_long g y (λ x. pos 0) z m in
    record {
      as_many = λ x. t.as_many x ∙ length-fit (length z) (pos (num (row_of x z)) -ℤ pos (num (row_of x a))) ∙ lz ∙ sym (length-fit y (pos 0 -ℤ F x));
      within = t.within;
      means = λ x s.
          let old = keeps g h c x s in
          t.means x s ∙ ap (λ (i : ℕ). fit i (pos (num (row_of x z)) -ℤ pos (num (row_of x a)))) lz
          ∙ ap (λ (q : Row). fit y (pos (num q) -ℤ pos (num (row_of x a)))) (m.means x old) ∙ ap (λ (q : Row). fit y (pos (num (fit y (pos 0))) -ℤ pos (num q))) (n.means x old)
          ∙ difference_cut y (pos 0) (F x);
    }
