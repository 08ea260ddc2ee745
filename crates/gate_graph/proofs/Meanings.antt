-- What a call for a gate returns has the gate's value.
use Rattle.std.proofs.Common.{◌≡◌, Bool, true, false, cond, not, ◌&&◌, refl, sym, ◌∙◌, ap, subst}
use Rattle.cnf_form.specs.Cnf.{LitOf, Assignment, lit_in, negate}
use Rattle.cnf_form.proofs.Literals.{same_by_eq}
use Rattle.gate_graph.specs.declared.gate.Gate.{Gate}
use Rattle.gate_graph.specs.declared.gate.Gate.TheVariants.{And, Xor, Mux, Maj}
use Rattle.gate_graph.specs.declared.gate.Asked.{Asked}
use Rattle.gate_graph.specs.declared.gate.Asked.TheVariants.{Is, Make}
use Rattle.gate_graph.specs.Folding.{xor, majority, bit, same, opposite, is_true, is_false, below, constant, turned, ordered_and, ordered_xor, fold_and, fold_xor, key_maj, sort_maj, fold_maj, key_mux, fold_mux, asked, asked_bit}
use Rattle.gate_graph.proofs.OneTable.{lit_negated}
use Rattle.gate_graph.proofs.Leaves.{and_1, and_2, and_5, and_6, and_8, xor_1, xor_2, xor_5, xor_6, xor_7, xor_8, maj_1, maj_2, maj_3, maj_4, maj_5, maj_6, maj_7, maj_8, maj_9, maj_10, maj_11, maj_12, maj_acb, maj_cab, maj_bac, maj_bca, maj_cba, maj_not, mux_1, mux_2, mux_3, mux_4, mux_5, mux_6, mux_7, mux_8, mux_9, mux_10, mux_11, mux_12, mux_13, mux_not}

module _ (x : Assignment) (one : x 1 ≡ true) where
  -- a choice that is right on both sides
  by_if : (c : Bool) (u v : Asked) (w : Bool) → (c ≡ true → asked_bit u x ≡ w) → (c ≡ false → asked_bit v x ≡ w) → asked_bit (cond c u v) x ≡ w
  by_if true u v w f g = f refl
  by_if false u v w f g = g refl

  in_true : (a : LitOf) → is_true a ≡ true → lit_in x a ≡ true
  in_true a e = subst (λ (l : LitOf). lit_in x l ≡ true) (sym (same_by_eq a (constant true) e)) one

  in_false : (a : LitOf) → is_false a ≡ true → lit_in x a ≡ false
  in_false a e = subst (λ (l : LitOf). lit_in x l ≡ false) (sym (same_by_eq a (constant false) e)) (ap not one)

  in_same : (a b : LitOf) → same a b ≡ true → lit_in x a ≡ lit_in x b
  in_same a b e = ap (lit_in x) (same_by_eq a b e)

  in_opposite : (a b : LitOf) → opposite a b ≡ true → lit_in x a ≡ not (lit_in x b)
  in_opposite a b e = ap (lit_in x) (same_by_eq a (negate b) e) ∙ lit_negated x b

  ordered_and_means : (a b : LitOf) → asked_bit (ordered_and a b) x ≡ (lit_in x a && lit_in x b)
  ordered_and_means a b =
      let p = lit_in x a in
      let q = lit_in x b in
      by_if (is_false a) _ _ _ (λ e. and_1 p q (in_false a e)) (λ _.
      by_if (is_true a) _ _ _ (λ e. and_2 p q (in_true a e)) (λ _.
      by_if (same a b) _ _ _ (λ e. and_5 p q (in_same a b e)) (λ _.
      by_if (opposite a b) _ _ _ (λ e. and_6 (x 1) p q one (in_opposite a b e)) (λ _. refl))))

  and_means : (a b : LitOf) → asked_bit (fold_and a b) x ≡ (lit_in x a && lit_in x b)
  and_means a b = by_if (below b a) _ _ _ (λ _. ordered_and_means b a ∙ and_8 (lit_in x a) (lit_in x b)) (λ _. ordered_and_means a b)

  ordered_xor_means : (a b : LitOf) → asked_bit (ordered_xor a b) x ≡ xor (lit_in x a) (lit_in x b)
  ordered_xor_means a b =
      let p = lit_in x a in
      let q = lit_in x b in
      by_if (is_false a) _ _ _ (λ e. xor_1 p q (in_false a e)) (λ _.
      by_if (is_true a) _ _ _ (λ e. xor_2 p q (lit_in x (negate b)) (lit_negated x b) (in_true a e)) (λ _.
      by_if (same a b) _ _ _ (λ e. xor_5 (x 1) p q one (in_same a b e)) (λ _.
      by_if (opposite a b) _ _ _ (λ e. xor_6 (x 1) p q one (in_opposite a b e)) (λ _. xor_7 a.negated b.negated (x a.var) (x b.var)))))

  xor_means : (a b : LitOf) → asked_bit (fold_xor a b) x ≡ xor (lit_in x a) (lit_in x b)
  xor_means a b = by_if (below b a) _ _ _ (λ _. ordered_xor_means b a ∙ xor_8 (lit_in x a) (lit_in x b)) (λ _. ordered_xor_means a b)

  turned_means : (k : Asked) → asked_bit (turned k) x ≡ not (asked_bit k x)
  turned_means (Is l) = lit_negated x l
  turned_means (Make g s) = flip s (bit g x)
    where
      flip : (s b : Bool) → xor (not s) b ≡ not (xor s b)
      flip true true = refl
      flip true false = refl
      flip false true = refl
      flip false false = refl

  or_means : (a b : LitOf) → asked_bit (turned (fold_and (negate a) (negate b))) x ≡ not (not (lit_in x a) && not (lit_in x b))
  or_means a b = turned_means (fold_and (negate a) (negate b)) ∙ ap not (and_means (negate a) (negate b) ∙ ap (λ (c : Bool). c && lit_in x (negate b)) (lit_negated x a) ∙ ap (λ (c : Bool). not (lit_in x a) && c) (lit_negated x b))

  key_means : (a b c : LitOf) → asked_bit (key_maj a b c) x ≡ majority (lit_in x a) (lit_in x b) (lit_in x c)
  key_means a b c =
      by_if (majority a.negated b.negated c.negated) (Make (Maj (negate a) (negate b) (negate c)) true) (Make (Maj a b c) false) _
      (λ _. ap not (ap (λ (d : Bool). majority d (lit_in x (negate b)) (lit_in x (negate c))) (lit_negated x a) ∙ ap (λ (d : Bool). majority (not (lit_in x a)) d (lit_in x (negate c))) (lit_negated x b)
      ∙ ap (majority (not (lit_in x a)) (not (lit_in x b))) (lit_negated x c)) ∙ maj_not (lit_in x a) (lit_in x b) (lit_in x c)) (λ _. refl)

  sort_means : (a b c : LitOf) → asked_bit (sort_maj a b c) x ≡ majority (lit_in x a) (lit_in x b) (lit_in x c)
  sort_means a b c =
      let p = lit_in x a in
      let q = lit_in x b in
      let r = lit_in x c in
      by_if (below a b) _ _ _ (λ _. by_if (below b c) _ _ _ (λ _. key_means a b c) (λ _. by_if (below a c) _ _ _ (λ _. key_means a c b ∙ maj_acb p q r) (λ _. key_means c a b ∙ maj_cab p q r)))
      (λ _. by_if (below a c) _ _ _ (λ _. key_means b a c ∙ maj_bac p q r) (λ _. by_if (below b c) _ _ _ (λ _. key_means b c a ∙ maj_bca p q r) (λ _. key_means c b a ∙ maj_cba p q r)))

  maj_means : (a b c : LitOf) → asked_bit (fold_maj a b c) x ≡ majority (lit_in x a) (lit_in x b) (lit_in x c)
  maj_means a b c =
      let p = lit_in x a in
      let q = lit_in x b in
      let r = lit_in x c in
      by_if (same a b) _ _ _ (λ e. maj_1 p q r (in_same a b e)) (λ _.
      by_if (same a c) _ _ _ (λ e. maj_2 p q r (in_same a c e)) (λ _.
      by_if (same b c) _ _ _ (λ e. maj_3 p q r (in_same b c e)) (λ _.
      by_if (opposite a b) _ _ _ (λ e. maj_4 p q r (in_opposite a b e)) (λ _.
      by_if (opposite a c) _ _ _ (λ e. maj_5 p q r (in_opposite a c e)) (λ _.
      by_if (opposite b c) _ _ _ (λ e. maj_6 p q r (in_opposite b c e)) (λ _.
      by_if (is_false a) _ _ _ (λ e. and_means b c ∙ maj_7 p q r (in_false a e)) (λ _.
      by_if (is_true a) _ _ _ (λ e. or_means b c ∙ maj_8 p q r (in_true a e)) (λ _.
      by_if (is_false b) _ _ _ (λ e. and_means a c ∙ maj_9 p q r (in_false b e)) (λ _.
      by_if (is_true b) _ _ _ (λ e. or_means a c ∙ maj_10 p q r (in_true b e)) (λ _.
      by_if (is_false c) _ _ _ (λ e. and_means a b ∙ maj_11 p q r (in_false c e)) (λ _.
      by_if (is_true c) _ _ _ (λ e. or_means a b ∙ maj_12 p q r (in_true c e)) (λ _. sort_means a b c))))))))))))

  nand_means : (a b : LitOf) → asked_bit (turned (fold_and a (negate b))) x ≡ not (lit_in x a && not (lit_in x b))
  nand_means a b = turned_means (fold_and a (negate b)) ∙ ap not (and_means a (negate b) ∙ ap (λ (c : Bool). lit_in x a && c) (lit_negated x b))

  but_means : (a b : LitOf) → asked_bit (fold_and (negate a) b) x ≡ (not (lit_in x a) && lit_in x b)
  but_means a b = and_means (negate a) b ∙ ap (λ (c : Bool). c && lit_in x b) (lit_negated x a)

  choice_means : (s a b : LitOf) → asked_bit (key_mux s a b) x ≡ cond (lit_in x s) (lit_in x b) (lit_in x a)
  choice_means s a b =
      by_if a.negated (Make (Mux s (negate a) (negate b)) true) (Make (Mux s a b) false) _
      (λ _. ap not (ap (λ (d : Bool). cond (lit_in x s) d (lit_in x (negate a))) (lit_negated x b) ∙ ap (cond (lit_in x s) (not (lit_in x b))) (lit_negated x a))
      ∙ mux_not (lit_in x s) (lit_in x a) (lit_in x b)) (λ _. refl)

  mux_means : (s a b : LitOf) → asked_bit (fold_mux s a b) x ≡ cond (lit_in x s) (lit_in x b) (lit_in x a)
  mux_means s a b =
      let r = lit_in x s in
      let p = lit_in x a in
      let q = lit_in x b in
      by_if (is_true s) _ _ _ (λ e. mux_1 r p q (in_true s e)) (λ _.
      by_if (is_false s) _ _ _ (λ e. mux_2 r p q (in_false s e)) (λ _.
      by_if (same a b) _ _ _ (λ e. mux_3 r p q (in_same a b e)) (λ _.
      by_if (opposite a b) _ _ _ (λ e. xor_means s a ∙ mux_4 r p q (in_opposite a b e)) (λ _.
      by_if (is_false a) _ _ _ (λ e. and_means s b ∙ mux_5 r p q (in_false a e)) (λ _.
      by_if (same a s) _ _ _ (λ e. and_means s b ∙ mux_6 r p q (in_same a s e)) (λ _.
      by_if (is_true a) _ _ _ (λ e. nand_means s b ∙ mux_7 r p q (in_true a e)) (λ _.
      by_if (opposite a s) _ _ _ (λ e. nand_means s b ∙ mux_8 r p q (in_opposite a s e)) (λ _.
      by_if (is_false b) _ _ _ (λ e. but_means s a ∙ mux_9 r p q (in_false b e)) (λ _.
      by_if (opposite b s) _ _ _ (λ e. but_means s a ∙ mux_10 r p q (in_opposite b s e)) (λ _.
      by_if (is_true b) _ _ _ (λ e. or_means s a ∙ mux_11 r p q (in_true b e)) (λ _.
      by_if (same b s) _ _ _ (λ e. or_means s a ∙ mux_12 r p q (in_same b s e)) (λ _.
      by_if s.negated _ _ _ (λ _. choice_means (negate s) b a ∙ ap (λ (c : Bool). cond c p q) (lit_negated x s) ∙ mux_13 r p q) (λ _. choice_means s a b)))))))))))))

  pub asked_means : (g : Gate) → asked_bit (asked g) x ≡ bit g x
  asked_means (And a b) = and_means a b
  asked_means (Xor a b) = xor_means a b
  asked_means (Mux s a b) = mux_means s a b
  asked_means (Maj a b c) = maj_means a b c
