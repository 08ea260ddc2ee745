-- What a chain of gates over a row gives.
use Rattle.std.proofs.Common.{◌≡◌, ℕ, suc, ◌+◌, ◌*◌, ◌^◌, ◌%◌, ◌<◌, ◌≤◌, Bool, true, false, cond, not, eqb, ◌&&◌, ◌||◌, ltb, leb, List, [], ◌∷◌, ◌++◌, length, length-append, take, refl, sym, ◌∙◌, ap, subst, inl, inr, add_comm, arith}
use Rattle.std.proofs.lemmas.Bool.Decides.{nat_tests}
use Rattle.std.proofs.Math.Nat.{pow-suc}
use Rattle.std.specs.List.{count_by}
use Rattle.std.specs.Prelude.{ℤ, pos, All, int_lt}
use Rattle.cnf_form.specs.Cnf.{LitOf, Assignment, LitWithin, lit_in, negate}
use Rattle.gate_graph.specs.Circuit.{GatesOf, Continues, Means}
use Rattle.gate_graph.specs.Laws.{keeps}
use Rattle.gate_graph.proofs.OneTable.{lit_negated}
use Rattle.sby_bits.specs.Rows.{Row, num, snum, top_bit, fit, value}
use Rattle.sby_bits.specs.Words.{some_bit, every_bit, odd_bits}
use Rattle.sby_bits.proofs.Numbers.{num-lt, length-fit}
use Rattle.cell_table.specs.Cells.{either_one, bitwise, bit_row, is_compared}
use Rattle.cell_table.specs.declared.kind.Compare.{Compare}
use Rattle.sby_bits.proofs.RowLaws.{signed_again, row_again, extended_longer}
use Rattle.std.proofs.lemmas.List.Sums.{sum_by-cons}
use Rattle.std.proofs.lemmas.List.{take_all, get_or_append_left, get_or-append-add}
use Rattle.std.proofs.lemmas.List.Elements.{All-nil, All-push}
use Rattle.gate_words.specs.Words.{IsTurned}
use Rattle.gate_rows.specs.Sums.{IsAtLeast}
use Rattle.gate_rows.proofs.Adding.{num-push, map_push}
use Rattle.sby_bits.proofs.Orders.{snum-lt}
use Rattle.gate_rows.specs.Literals.{row_of, MeansBit, MeansRow, Builds, IsFull}
use Rattle.gate_rows.specs.Sums.{chained}
use Rattle.gate_rows.proofs.Building.{later, length-row, length-bitwise, fit_long}

or_true : (r : Row) → chained ◌||◌ true r ≡ true
or_true [] = refl
or_true (b ∷ r) = or_true r

pub some_more : (n : ℕ) → not (eqb n 0) ≡ not (eqb (0 + 2 * n) 0)
some_more n = grind (arith, nat_tests)

pub some_here : (n : ℕ) → true ≡ not (eqb (1 + 2 * n) 0)
some_here n = grind (arith, nat_tests)

pub some_is : (r : Row) → chained ◌||◌ false r ≡ some_bit r
some_is [] = refl
some_is (true ∷ r) = or_true r ∙ some_here (num r)
some_is (false ∷ r) = some_is r ∙ some_more (num r)

and_false : (r : Row) → chained ◌&&◌ false r ≡ false
and_false [] = refl
and_false (b ∷ r) = and_false r

every_more : (n p q : ℕ) → q ≡ p * 2 → eqb (n + 1) p ≡ eqb (1 + 2 * n + 1) q
every_more n p q e = grind (arith, nat_tests)

every_not : (n p q : ℕ) → q ≡ p * 2 → n < p → false ≡ eqb (0 + 2 * n + 1) q
every_not n p q e h = grind (arith, nat_tests)

pub every_is : (r : Row) → chained ◌&&◌ true r ≡ every_bit r
every_is [] = refl
every_is (true ∷ r) = every_is r ∙ every_more (num r) (2 ^ length r) (2 ^ suc (length r)) (pow-suc 2 (length r))
every_is (false ∷ r) = and_false r ∙ every_not (num r) (2 ^ length r) (2 ^ suc (length r)) (pow-suc 2 (length r)) (num-lt r)

odd_more : (s : Bool) (n : ℕ) → eqb ((cond (either_one s true) 1 0 + n) % 2) 1 ≡ eqb ((cond s 1 0 + (n + 1)) % 2) 1
odd_more true n = ap (λ (m : ℕ). eqb m 1) (omega arith)
odd_more false n = ap (λ (m : ℕ). eqb m 1) (omega arith)

same_odd : (s : Bool) → either_one s false ≡ s
same_odd true = refl
same_odd false = refl

count_more : (r : Row) → count_by (λ b. b) (true ∷ r) ≡ count_by (λ b. b) r + 1
count_more r = sum_by-cons (λ (b : Bool). cond b 1 0) true r ∙ add_comm 1 (count_by (λ b. b) r)

odd_start : (s : Bool) → s ≡ eqb ((cond s 1 0 + 0) % 2) 1
odd_start true = refl
odd_start false = refl

pub odd_from : (s : Bool) (r : Row) → chained either_one s r ≡ eqb ((cond s 1 0 + count_by (λ b. b) r) % 2) 1
odd_from s [] = odd_start s
odd_from s (true ∷ r) = odd_from (either_one s true) r ∙ odd_more s (count_by (λ b. b) r) ∙ ap (λ (m : ℕ). eqb ((cond s 1 0 + m) % 2) 1) (sym (count_more r))
odd_from s (false ∷ r) = odd_from (either_one s false) r ∙ ap (λ (b : Bool). eqb ((cond b 1 0 + count_by (λ b'. b') r) % 2) 1) (same_odd s)

pub odd_is : (r : Row) → chained either_one false r ≡ odd_bits r
odd_is r = odd_from false r ∙ ap (λ (m : ℕ). eqb (m % 2) 1) (omega arith)

pub flag_row : (y : ℕ) (b : Bool) → fit y (pos (num (b ∷ []) * 2 ^ 0)) ≡ bit_row y b
flag_row y true = refl
flag_row y false = refl

same_bits : (n m : ℕ) → not (not (eqb (0 + 2 * n) 0)) ≡ not (not (eqb n 0))
same_bits n m = grind (arith, nat_tests)

both_set : (n r s : ℕ) → not (not (eqb n 0)) ≡ eqb r s → not (not (eqb (0 + 2 * n) 0)) ≡ eqb (1 + 2 * r) (1 + 2 * s)
both_set n r s e = same_bits n 0 ∙ e ∙ grind (arith, nat_tests)

none_set : (n r s : ℕ) → not (not (eqb n 0)) ≡ eqb r s → not (not (eqb (0 + 2 * n) 0)) ≡ eqb (0 + 2 * r) (0 + 2 * s)
none_set n r s e = same_bits n 0 ∙ e ∙ grind (arith, nat_tests)

one_set : (n r s : ℕ) → not (not (eqb (1 + 2 * n) 0)) ≡ eqb (1 + 2 * r) (0 + 2 * s)
one_set n r s = grind (arith, nat_tests)

other_set : (n r s : ℕ) → not (not (eqb (1 + 2 * n) 0)) ≡ eqb (0 + 2 * r) (1 + 2 * s)
other_set n r s = grind (arith, nat_tests)

-- no bit differs
pub same_is : (r s : Row) → length r ≡ length s → not (some_bit (bitwise either_one r s)) ≡ eqb (num r) (num s)
same_is [] [] e = refl
same_is (a ∷ r) [] e = absurd (omega arith)
same_is [] (b ∷ s) e = absurd (omega arith)
same_is (true ∷ r) (true ∷ s) e = both_set (num (bitwise either_one r s)) (num r) (num s) (same_is r s (omega arith))
same_is (false ∷ r) (false ∷ s) e = none_set (num (bitwise either_one r s)) (num r) (num s) (same_is r s (omega arith))
same_is (true ∷ r) (false ∷ s) e = one_set (num (bitwise either_one r s)) (num r) (num s)
same_is (false ∷ r) (true ∷ s) e = other_set (num (bitwise either_one r s)) (num r) (num s)

-- a bit of gates that have grown
pub Bit-same : (g : GatesOf) (F G : Assignment → Bool) (l : LitOf) → MeansBit g F l → ((x : Assignment) → F x ≡ G x) → MeansBit g G l
Bit-same g F G l m e = record { within = m.within; means = λ x s. m.means x s ∙ e x }

pub Bit-negated : (g : GatesOf) (F : Assignment → Bool) (l : LitOf) → MeansBit g F l → MeansBit g (λ x. not (F x)) (negate l)
Bit-negated g F l m = record { within = let a = m.within in (a.0, a.1); means = λ x s. lit_negated x l ∙ ap not (m.means x s) }

pub Bit-later : (f g : GatesOf) (F : Assignment → Bool) (l : LitOf) → Continues f g → MeansBit f F l → MeansBit g F l
Bit-later f g F l k m = record { within = later f.formula.vars g.formula.vars l k.vars m.within; means = λ x s. m.means x (keeps f g k x s) }

pub chain_bit : (g h : GatesOf) (f : Bool → Bool → Bool) (z : LitOf) (a : List LitOf) (l : LitOf) (s : Bool) (F : Row → Bool) → Continues g h → Means g z (λ _. s) →
    MeansBit h (λ x. chained f (lit_in x z) (row_of x a)) l → ((r : Row) → chained f s r ≡ F r) → MeansBit h (λ x. F (row_of x a)) l
chain_bit g h f z a l s F k zm m e = record {
  within = m.within;
  means = λ x t. m.means x t ∙ ap (λ (b : Bool). chained f b (row_of x a)) (zm x (keeps g h k x t)) ∙ e (row_of x a);
}

pub flag_means : (g : GatesOf) (y : ℕ) (F : Assignment → Bool) (l : LitOf) (word : List LitOf) → MeansBit g F l → MeansRow g (λ x. bit_row y (lit_in x l)) word → MeansRow g (λ x. bit_row y (F x)) word
flag_means g y F l word m r = record {
  as_many = λ x. r.as_many x ∙ length-fit y (pos (cond (lit_in x l) 1 0)) ∙ sym (length-fit y (pos (cond (F x) 1 0)));
  within = r.within;
  means = λ x t. r.means x t ∙ ap (bit_row y) (m.means x t);
}

pub differ_long : (g : GatesOf) (a b d : List LitOf) → length a ≡ length b → MeansRow g (λ x. bitwise either_one (row_of x a) (row_of x b)) d → length d ≡ length a
differ_long g a b d e r =
    let x : Assignment = λ _. false in
    r.as_many x ∙ length-bitwise either_one (row_of x a) (row_of x b) (length-row x a ∙ e ∙ sym (length-row x b)) ∙ length-row x a

pub same_means : (g h : GatesOf) (a b d : List LitOf) (l : LitOf) → length a ≡ length b → Continues g h → MeansRow g (λ x. bitwise either_one (row_of x a) (row_of x b)) d → MeansBit h (λ x. some_bit (row_of x d)) l →
    MeansBit h (λ x. eqb (num (row_of x a)) (num (row_of x b))) (negate l)
same_means g h a b d l e k r m = record {
  within = let w = m.within in (w.0, w.1);
  means = λ x s. lit_negated x l ∙ ap not (m.means x s ∙ ap some_bit (r.means x (keeps g h k x s))) ∙ same_is (row_of x a) (row_of x b) (length-row x a ∙ e ∙ sym (length-row x b));
}

pub both_bits : (f g h : GatesOf) (op : Bool → Bool → Bool) (F G : Assignment → Bool) (a b l : LitOf) → Continues f h → Continues g h → MeansBit f F a → MeansBit g G b → MeansBit h (λ x. op (lit_in x a) (lit_in x b)) l → MeansBit h (λ x. op (F x) (G x)) l
both_bits f g h op F G a b l j k p q m = record {
  within = m.within;
  means = λ x s. m.means x s ∙ ap (λ (c : Bool). op c (lit_in x b)) (p.means x (keeps f h j x s)) ∙ ap (op (F x)) (q.means x (keeps g h k x s));
}

pub builds_more : (f g : GatesOf) (m n : ℕ) → Builds f g m → m ≤ n → Builds f g n
builds_more f g m n p l = record { continues = p.continues; inputs = p.inputs; most = let a = p.most in omega arith }

pub full_more : (f g : GatesOf) (m n : ℕ) → IsFull f g m → m ≤ n → IsFull f g n
full_more f g m n p l = record { full = p.full; past = let a = p.past in omega arith }

pub Bit_negated : (g : GatesOf) (F : Assignment → Bool) (l m : LitOf) → MeansBit g F l → m ≡ negate l → MeansBit g (λ x. not (F x)) m
Bit_negated g F l m p e = rw e (record { within = let a = p.within in (a.0, a.1); means = λ x s. lit_negated x l ∙ ap not (p.means x s) })

again : (signed : Bool) (r : Row) → fit (length r) (value signed r) ≡ r
again true r = signed_again r
again false r = row_again r

again_long : (n : ℕ) (signed : Bool) (r : Row) → length r ≡ n → fit n (value signed r) ≡ r
again_long n signed r e = subst (λ (m : ℕ). fit m (value signed r) ≡ r) e (again signed r)

pub equal_means : (g : GatesOf) (signed : Bool) (a b : List LitOf) (l : LitOf) → length a ≡ length b → MeansBit g (λ x. eqb (num (row_of x a)) (num (row_of x b))) l →
    MeansBit g (λ x. eqb (num (fit (length a) (value signed (row_of x a)))) (num (fit (length a) (value signed (row_of x b))))) l
equal_means g signed a b l e m = record {
  within = m.within;
  means = λ x s. m.means x s ∙ ap (λ (r : Row). eqb (num r) (num (row_of x b))) (sym (again_long (length a) signed (row_of x a) (length-row x a)))
      ∙ ap (λ (r : Row). eqb (num (fit (length a) (value signed (row_of x a)))) (num r)) (sym (again_long (length a) signed (row_of x b) (length-row x b ∙ sym e)));
}

pub compare_means : (g h : GatesOf) (k : Compare) (w : ℕ) (signed : Bool) (a b c d : List LitOf) (l : LitOf) → Continues g h → length a ≤ w → length b ≤ w →
    MeansRow g (λ x. fit w (value signed (row_of x a))) c → MeansRow g (λ x. fit w (value signed (row_of x b))) d →
    MeansBit h (λ x. is_compared k (length c) (value signed (row_of x c)) (value signed (row_of x d))) l → MeansBit h (λ x. is_compared k w (value signed (row_of x a)) (value signed (row_of x b))) l
compare_means g h k w signed a b c d l j p q r t m = record {
  within = m.within;
  means = λ x s.
      let old = keeps g h j x s in
      let na = length-row x a in
      let nb = length-row x b in
      m.means x s ∙ ap (λ (n : ℕ). is_compared k n (value signed (row_of x c)) (value signed (row_of x d))) (fit_long g w (λ y. value signed (row_of y a)) c r)
      ∙ ap (λ (z : ℤ). is_compared k w z (value signed (row_of x d))) (ap (value signed) (r.means x old) ∙ extended_longer (row_of x a) signed w (omega arith))
      ∙ ap (is_compared k w (value signed (row_of x a))) (ap (value signed) (t.means x old) ∙ extended_longer (row_of x b) signed w (omega arith));
}

-- signed numbers by rows whose last bit is turned
below_turned : (m n p : ℕ) (s t : Bool) → m < p → n < p → not (leb (n + cond (not t) p 0) (m + cond (not s) p 0)) ≡ cond s (cond t (ltb (m + cond s p 0) (n + cond t p 0)) true) (cond t false (ltb (m + cond s p 0) (n + cond t p 0)))
below_turned m n p true true h k = grind (arith, nat_tests)
below_turned m n p true false h k = grind (arith, nat_tests)
below_turned m n p false true h k = grind (arith, nat_tests)
below_turned m n p false false h k = grind (arith, nat_tests)

top_of : (r : Row) (b : Bool) → top_bit (r ++ b ∷ []) ≡ b
top_of [] b = refl
top_of (a ∷ []) b = refl
top_of (a ∷ c ∷ r) b = top_of (c ∷ r) b

pub less_turned : (f g : Row) (s t : Bool) → length f ≡ length g → not (leb (num (g ++ not t ∷ [])) (num (f ++ not s ∷ []))) ≡ int_lt (snum (f ++ s ∷ [])) (snum (g ++ t ∷ []))
less_turned f g s t e =
    let p : ℕ = 2 ^ length g in
    let nf : (b : Bool) → num (f ++ b ∷ []) ≡ num f + cond b (2 ^ length g) 0 = λ b. num-push f b ∙ ap (λ (n : ℕ). num f + cond b (2 ^ n) 0) e in
    let ng : (b : Bool) → num (g ++ b ∷ []) ≡ num g + cond b (2 ^ length g) 0 = λ b. num-push g b in
    let lf : num f < 2 ^ length g = subst (λ (n : ℕ). num f < 2 ^ n) e (num-lt f) in
    let long : length (f ++ s ∷ []) ≡ length (g ++ t ∷ []) = length-append f (s ∷ []) ∙ ap (λ (n : ℕ). n + 1) e ∙ sym (length-append g (t ∷ [])) in
    ap (λ (n : ℕ). not (leb n (num (f ++ not s ∷ [])))) (ng (not t)) ∙ ap (λ (n : ℕ). not (leb (num g + cond (not t) (2 ^ length g) 0) n)) (nf (not s))
    ∙ below_turned (num f) (num g) (2 ^ length g) s t lf (num-lt g)
    ∙ sym (snum-lt (f ++ s ∷ []) (g ++ t ∷ []) long
    ∙ ap (λ (b : Bool). cond b (cond (top_bit (g ++ t ∷ [])) (ltb (num (f ++ s ∷ [])) (num (g ++ t ∷ []))) true) (cond (top_bit (g ++ t ∷ [])) false (ltb (num (f ++ s ∷ [])) (num (g ++ t ∷ []))))) (top_of f s)
    ∙ ap (λ (b : Bool). cond s (cond b (ltb (num (f ++ s ∷ [])) (num (g ++ t ∷ []))) true) (cond b false (ltb (num (f ++ s ∷ [])) (num (g ++ t ∷ []))))) (top_of g t)
    ∙ ap (λ (n : ℕ). cond s (cond t (ltb n (num (g ++ t ∷ []))) true) (cond t false (ltb n (num (g ++ t ∷ []))))) (nf s)
    ∙ ap (λ (n : ℕ). cond s (cond t (ltb (num f + cond s (2 ^ length g) 0) n) true) (cond t false (ltb (num f + cond s (2 ^ length g) 0) n))) (ng t))

turned_row : (x : Assignment) (f : List LitOf) (l : LitOf) → row_of x (f ++ negate l ∷ []) ≡ row_of x f ++ not (lit_in x l) ∷ []
turned_row x f l = map_push (lit_in x) f (negate l) ∙ ap (λ (b : Bool). row_of x f ++ b ∷ []) (lit_negated x l)

-- the test on the turned rows is that of the numbers in two's complement
pub turned_less : (x : Assignment) (a b c d : List LitOf) → length a ≡ length b → IsTurned a c → IsTurned b d → not (leb (num (row_of x d)) (num (row_of x c))) ≡ int_lt (snum (row_of x a)) (snum (row_of x b))
turned_less x a b c d e (inl (p, q)) (inl (r, s)) = rw (p, q, r, s) refl
turned_less x a b c d e (inl (p, q)) (inr (g, m, r, s)) = absurd (let n = length-append g (m ∷ []) in let i = ap length p in let j = ap length r in omega arith)
turned_less x a b c d e (inr (f, l, p, q)) (inl (r, s)) = absurd (let n = length-append f (l ∷ []) in let i = ap length p in let j = ap length r in omega arith)
turned_less x a b c d e (inr (f, l, p, q)) (inr (g, m, r, s)) =
    let long : length f ≡ length g = let i = ap length p in let j = ap length r in let n = length-append f (l ∷ []) in let o = length-append g (m ∷ []) in omega arith in
    rw (p, q, r, s) (rw (turned_row x f l, turned_row x g m, map_push (lit_in x) f l, map_push (lit_in x) g m)
    (less_turned (row_of x f) (row_of x g) (lit_in x l) (lit_in x m) (length-row x f ∙ long ∙ sym (length-row x g))))

pub turned_within : (n : ℕ) (a c : List LitOf) → IsTurned a c → All (LitWithin n) a → All (LitWithin n) c
turned_within n a c (inl (p, q)) w = rw q (All-nil (LitWithin n))
turned_within n a c (inr (f, l, p, q)) w =
    let all = rw p at w in
    let long = length-append f (l ∷ []) in
    let last : LitWithin n l = subst (LitWithin n) (get_or-append-add f (l ∷ []) 0 l) (all (length f + 0) l (omega arith)) in
    rw q (All-push (LitWithin n) f (negate l) (λ k d h. subst (LitWithin n) (get_or_append_left f (l ∷ []) d k h) (all k d (omega arith))) (last.0, last.1))

pub turned_long : (a c : List LitOf) → IsTurned a c → length c ≡ length a
turned_long a c (inl (p, q)) = rw (p, q) refl
turned_long a c (inr (f, l, p, q)) = rw (p, q) (length-append f (negate l ∷ []) ∙ sym (length-append f (l ∷ [])))

pub less_means : (f g : GatesOf) (a b : List LitOf) (l : LitOf) → length a ≡ length b → IsAtLeast f g a b (length a) l → MeansBit g (λ x. not (leb (num (row_of x b)) (num (row_of x a)))) (negate l)
less_means f g a b l e m = record {
  within = let w = m.within in (w.0, w.1);
  means = λ x s. lit_negated x l ∙ ap not (m.means x s
      ∙ ap (λ (r : Row). leb (num r) (num (take (length a) (row_of x a)))) (take_all (length a) (row_of x b) (let n = length-row x b in omega arith))
      ∙ ap (λ (r : Row). leb (num (row_of x b)) (num r)) (take_all (length a) (row_of x a) (let n = length-row x a in omega arith)));
}

pub not_least : (m n : ℕ) → not (leb n m) ≡ int_lt (pos m) (pos n)
not_least m n = grind (arith, nat_tests)
