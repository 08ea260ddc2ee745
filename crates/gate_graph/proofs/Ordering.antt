-- The order of the operands of and and xor is free, and simple operands make no gate.
use Rattle.std.proofs.Common.{◌≡◌, ◌⊎◌, ℕ, ◌+◌, ◌*◌, ◌<◌, Bool, true, false, cond, nat_lt, ◌==◌, refl, sym, inl, inr, arith}
use Rattle.cnf_form.specs.Cnf.{LitOf, LitWithin, index_of, negate}
use Rattle.cnf_form.proofs.Literals.{index_of-injective}
use Rattle.gate_graph.specs.declared.gate.Gate.TheVariants.{And, Xor, Mux, Maj}
use Rattle.gate_graph.specs.declared.gate.Asked.{Asked}
use Rattle.gate_graph.specs.declared.gate.Asked.TheVariants.{Is, Make}
use Rattle.gate_graph.specs.Folding.{AreSimple, IsSmall, IsThere, below, fold_and, fold_maj, fold_mux, fold_xor, is_false, is_true, opposite, ordered_and, ordered_xor, same, turned}

-- a test of order comes out one way, and the numbers are so
order_cases : (m n : ℕ) → ((m < n) × (nat_lt m n ≡ true) × (nat_lt n m ≡ false)) ⊎ ((n < m) × (nat_lt m n ≡ false) × (nat_lt n m ≡ true)) ⊎ ((m ≡ n) × (nat_lt m n ≡ false))
order_cases m n = grind arith

swapped : (f : LitOf → LitOf → Asked) (a b : LitOf) → cond (below b a) (f b a) (f a b) ≡ cond (below a b) (f a b) (f b a)
swapped f a b = elim (order_cases (index_of a) (index_of b)) [
  | inl (h, e, g) ↦ rw (e, g) refl
  | inr (inl (h, e, g)) ↦ rw (e, g) refl
  | inr (inr (h, e)) ↦ let s = index_of-injective a b h in rw s refl
]

pub order_and : (a b : LitOf) → fold_and a b ≡ fold_and b a
order_and a b = swapped ordered_and a b

pub order_xor : (a b : LitOf) → fold_xor a b ≡ fold_xor b a
order_xor a b = swapped ordered_xor a b

-- four tests that each settle it
there_by : (p q r s : Bool) (u v w z k : Asked) → IsThere u → IsThere v → IsThere w → IsThere z → (p ≡ true) ⊎ (q ≡ true) ⊎ (r ≡ true) ⊎ (s ≡ true) → IsThere (cond p u (cond q v (cond r w (cond s z k))))
there_by true q r s u v w z k a b c d t = a
there_by false true r s u v w z k a b c d t = b
there_by false false true s u v w z k a b c d t = c
there_by false false false true u v w z k a b c d t = d
there_by false false false false u v w z k a b c d (inl e) = cc
there_by false false false false u v w z k a b c d (inr (inl e)) = cc
there_by false false false false u v w z k a b c d (inr (inr (inl e))) = cc
there_by false false false false u v w z k a b c d (inr (inr (inr e))) = cc

-- some test of the first four passes
abbrev Passes : LitOf → LitOf → Type 0
Passes a b = (is_false a ≡ true) ⊎ (is_true a ≡ true) ⊎ (same a b ≡ true) ⊎ (opposite a b ≡ true)

first_is : (a b : LitOf) (v : ℕ) (n : Bool) → a ≡ (let l : LitOf = record { var = v; negated = n } in l) → v ≡ 1 → Passes a b
first_is a b v true e h = rw (e, h) (inl refl)
first_is a b v false e h = rw (e, h) (inr (inl refl))

one_variable : (v w : ℕ) (m n : Bool) → v ≡ w → Passes (record { var = v; negated = m }) (record { var = w; negated = n })
one_variable v w true true h = rw h (inr (inr (inl (grind arith))))
one_variable v w true false h = rw h (inr (inr (inr (grind arith))))
one_variable v w false true h = rw h (inr (inr (inr (grind arith))))
one_variable v w false false h = rw h (inr (inr (inl (grind arith))))

-- a literal that is not above one of variable 1 is of that variable too
least : (a b : LitOf) → 0 < a.var → b.var ≡ 1 → (index_of a < index_of b) ⊎ (index_of a ≡ index_of b) → a.var ≡ 1
least a b h e c = by a.negated b.negated c
  where
    by : (m n : Bool) → (2 * a.var + cond m 1 0 < 2 * b.var + cond n 1 0) ⊎ (2 * a.var + cond m 1 0 ≡ 2 * b.var + cond n 1 0) → a.var ≡ 1
    by true true (inl t) = omega arith
    by true true (inr t) = omega arith
    by true false (inl t) = omega arith
    by true false (inr t) = omega arith
    by false true (inl t) = omega arith
    by false true (inr t) = omega arith
    by false false (inl t) = omega arith
    by false false (inr t) = omega arith

passes : (n : ℕ) (a b : LitOf) → LitWithin n a → AreSimple a b → (index_of a < index_of b) ⊎ (index_of a ≡ index_of b) → Passes a b
passes n a b p (inl e) o = first_is a b a.var a.negated refl e
passes n a b p (inr (inl e)) o = first_is a b a.var a.negated refl (least a b p.0 e o)
passes n a b p (inr (inr e)) o = one_variable a.var b.var a.negated b.negated e

module _ (n : ℕ) where
  and_there : (a b : LitOf) → LitWithin n a → AreSimple a b → (index_of a < index_of b) ⊎ (index_of a ≡ index_of b) → IsThere (ordered_and a b)
  and_there a b p s o = there_by (is_false a) (is_true a) (same a b) (opposite a b) _ _ _ _ _ (_, refl) (_, refl) (_, refl) (_, refl) (passes n a b p s o)

  xor_there : (a b : LitOf) → LitWithin n a → AreSimple a b → (index_of a < index_of b) ⊎ (index_of a ≡ index_of b) → IsThere (ordered_xor a b)
  xor_there a b p s o = there_by (is_false a) (is_true a) (same a b) (opposite a b) _ _ _ _ _ (_, refl) (_, refl) (_, refl) (_, refl) (passes n a b p s o)

  turned_simple : (a b : LitOf) → AreSimple a b → AreSimple b a
  turned_simple a b (inl e) = inr (inl e)
  turned_simple a b (inr (inl e)) = inl e
  turned_simple a b (inr (inr e)) = inr (inr (sym e))

  either : (c : Bool) (k : Asked) → IsThere k → IsThere (cond c k k)
  either true k t = t
  either false k t = t

  by_order : (f : LitOf → LitOf → Asked) → ((a b : LitOf) → LitWithin n a → AreSimple a b → (index_of a < index_of b) ⊎ (index_of a ≡ index_of b) → IsThere (f a b)) →
      (a b : LitOf) → LitWithin n a → LitWithin n b → AreSimple a b → IsThere (cond (below b a) (f b a) (f a b))
  by_order f there a b p q s = elim (order_cases (index_of a) (index_of b)) [
    | inl (h, e, g) ↦ rw g (there a b p s (inl h))
    | inr (inl (h, e, g)) ↦ rw g (there b a q (turned_simple a b s) (inl h))
    | inr (inr (h, e)) ↦ let i = index_of-injective a b h in rw i (either (below b b) (f b b) (there b b q (inr (inr refl)) (inr refl)))
  ]

  pub simple_there : (a b : LitOf) → LitWithin n a → LitWithin n b → AreSimple a b → IsThere (fold_and a b) × IsThere (fold_xor a b)
  simple_there a b p q s = (by_order ordered_and and_there a b p q s, by_order ordered_xor xor_there a b p q s)

-- what stands first, or what comes after it where the test fails
there_or : (p : Bool) (l : LitOf) (k : Asked) → (p ≡ false → IsThere k) → IsThere (cond p (Is l) k)
there_or true l k f = (l, refl)
there_or false l k f = f refl

small_or : (p : Bool) (u k : Asked) → IsSmall u → (p ≡ false → IsSmall k) → IsSmall (cond p u k)
small_or true u k a f = a
small_or false u k a f = f refl

both_ways : (p : Bool) → p ≡ true → p ≡ false → ⊥
both_ways p t f = cc

constant_is : (a : LitOf) → a.var ≡ 1 → (is_false a ≡ true) ⊎ (is_true a ≡ true)
constant_is a h = by a.var a.negated h
  where
    by : (v : ℕ) (n : Bool) → v ≡ 1 → (let l : LitOf = record { var = v; negated = n } in (is_false l ≡ true) ⊎ (is_true l ≡ true))
    by v true h = rw h (inl refl)
    by v false h = rw h (inr refl)

no_constant : (a : LitOf) → a.var ≡ 1 → is_false a ≡ false → is_true a ≡ false → ⊥
no_constant a h f t = elim (constant_is a h) [ inl e ↦ both_ways (is_false a) e f | inr e ↦ both_ways (is_true a) e t ]

related : (a b : LitOf) → a.var ≡ b.var → (same a b ≡ true) ⊎ (opposite a b ≡ true)
related a b h = by a.var b.var a.negated b.negated h
  where
    by : (v w : ℕ) (m n : Bool) → v ≡ w → (let k : LitOf = record { var = v; negated = m } in let l : LitOf = record { var = w; negated = n } in (same k l ≡ true) ⊎ (opposite k l ≡ true))
    by v w true true h = rw h (inl (grind arith))
    by v w true false h = rw h (inr (grind arith))
    by v w false true h = rw h (inr (grind arith))
    by v w false false h = rw h (inl (grind arith))

unrelated : (a b : LitOf) → a.var ≡ b.var → same a b ≡ false → opposite a b ≡ false → ⊥
unrelated a b h s o = elim (related a b h) [ inl e ↦ both_ways (same a b) e s | inr e ↦ both_ways (opposite a b) e o ]

same-refl : (a b : LitOf) → a ≡ b → same a b ≡ true
same-refl a b e = rw e (by (index_of b))
  where
    by : (n : ℕ) → (n == n) ≡ true
    by n = grind arith

pub mux_there : (s a b : LitOf) → (s.var ≡ 1) ⊎ (a ≡ b) → IsThere (fold_mux s a b)
mux_there s a b h = there_or (is_true s) b _ (λ t. there_or (is_false s) a _ (λ f. there_or (same a b) a _ (λ e. absurd (elim h [
  | inl i ↦ no_constant s i f t
  | inr i ↦ both_ways (same a b) (same-refl a b i) e
]))))

pub maj_there : (a b c : LitOf) → (a.var ≡ b.var) ⊎ (a.var ≡ c.var) ⊎ (b.var ≡ c.var) → IsThere (fold_maj a b c)
maj_there a b c h =
    there_or (same a b) a _ (λ p. there_or (same a c) a _ (λ q. there_or (same b c) b _ (λ r.
    there_or (opposite a b) c _ (λ u. there_or (opposite a c) b _ (λ v. there_or (opposite b c) a _ (λ w. absurd (elim h [
      | inl i ↦ unrelated a b i p u
      | inr (inl i) ↦ unrelated a c i q v
      | inr (inr i) ↦ unrelated b c i r w
    ])))))))

small_and : (a b : LitOf) → IsSmall (fold_and a b)
small_and a b = small_or (below b a) _ _ (ordered b a) (λ _. ordered a b)
  where
    ordered : (a b : LitOf) → IsSmall (ordered_and a b)
    ordered a b = small_or (is_false a) _ _ tt (λ _. small_or (is_true a) _ _ tt (λ _. small_or (same a b) _ _ tt (λ _. small_or (opposite a b) _ _ tt (λ _. tt))))

small_xor : (a b : LitOf) → IsSmall (fold_xor a b)
small_xor a b = small_or (below b a) _ _ (ordered b a) (λ _. ordered a b)
  where
    ordered : (a b : LitOf) → IsSmall (ordered_xor a b)
    ordered a b = small_or (is_false a) _ _ tt (λ _. small_or (is_true a) _ _ tt (λ _. small_or (same a b) _ _ tt (λ _. small_or (opposite a b) _ _ tt (λ _. tt))))

small_turned : (k : Asked) → IsSmall k → IsSmall (turned k)
small_turned (Is l) h = tt
small_turned (Make (And a b) s) h = tt
small_turned (Make (Xor a b) s) h = tt
small_turned (Make (Mux c a b) s) h = h
small_turned (Make (Maj a b c) s) h = h

small_nand : (a b : LitOf) → IsSmall (turned (fold_and a b))
small_nand a b = small_turned (fold_and a b) (small_and a b)

pub mux_small : (s a b : LitOf) → AreSimple a b → IsSmall (fold_mux s a b)
mux_small s a b h =
    small_or (is_true s) _ _ tt (λ _. small_or (is_false s) _ _ tt (λ _. small_or (same a b) _ _ tt (λ p. small_or (opposite a b) _ _ (small_xor s a) (λ o.
    small_or (is_false a) _ _ (small_and s b) (λ f. small_or (same a s) _ _ (small_and s b) (λ _.
    small_or (is_true a) _ _ (small_nand s (negate b)) (λ t. small_or (opposite a s) _ _ (small_nand s (negate b)) (λ _.
    small_or (is_false b) _ _ (small_and (negate s) a) (λ g. small_or (opposite b s) _ _ (small_and (negate s) a) (λ _.
    small_or (is_true b) _ _ (small_nand (negate s) (negate a)) (λ u. absurd (elim h [
      | inl i ↦ no_constant a i f t
      | inr (inl i) ↦ no_constant b i g u
      | inr (inr i) ↦ unrelated a b i p o
    ]))))))))))))

pub maj_small : (a b c : LitOf) → (a.var ≡ 1) ⊎ (b.var ≡ 1) ⊎ (c.var ≡ 1) → IsSmall (fold_maj a b c)
maj_small a b c h =
    small_or (same a b) _ _ tt (λ _. small_or (same a c) _ _ tt (λ _. small_or (same b c) _ _ tt (λ _.
    small_or (opposite a b) _ _ tt (λ _. small_or (opposite a c) _ _ tt (λ _. small_or (opposite b c) _ _ tt (λ _.
    small_or (is_false a) _ _ (small_and b c) (λ f. small_or (is_true a) _ _ (small_nand (negate b) (negate c)) (λ t.
    small_or (is_false b) _ _ (small_and a c) (λ g. small_or (is_true b) _ _ (small_nand (negate a) (negate c)) (λ u.
    small_or (is_false c) _ _ (small_and a b) (λ i. small_or (is_true c) _ _ (small_nand (negate a) (negate b)) (λ v. absurd (elim h [
      | inl e ↦ no_constant a e f t
      | inr (inl e) ↦ no_constant b e g u
      | inr (inr e) ↦ no_constant c e i v
    ])))))))))))))
