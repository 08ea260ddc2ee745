-- What is asked for is over the same variables.
use Rattle.std.proofs.Common.{ℕ, ◌≤◌, Bool, true, false, cond, arith}
use Rattle.cnf_form.specs.Cnf.{LitOf, LitWithin, negate}
use Rattle.gate_graph.specs.declared.gate.Gate.{Gate}
use Rattle.gate_graph.specs.declared.gate.Gate.TheVariants.{And, Xor, Mux, Maj}
use Rattle.gate_graph.specs.declared.gate.Asked.{Asked}
use Rattle.gate_graph.specs.declared.gate.Asked.TheVariants.{Is, Make}
use Rattle.gate_graph.specs.Folding.{operands, ordered_and, ordered_xor, fold_and, fold_xor, fold_maj, fold_mux, key_maj, key_mux, sort_maj, turned, asked, same, opposite, is_true, is_false, below, plain, xor, majority}
use Rattle.gate_graph.specs.Kept.{OthersWithin}
use Rattle.gate_graph.proofs.Making.{AskedWithin}

record In (n : ℕ) (k : Asked) : Type 0 where
  inside : AskedWithin n k

module _ (n : ℕ) (some : 1 ≤ n) where
  choose : (c : Bool) (u v : Asked) → In n u → In n v → In n (cond c u v)
  choose true u v p q = p
  choose false u v p q = q

  is : (l : LitOf) → LitWithin n l → In n (Is l)
  is l p = record { inside = p }

  make : (g : Gate) (t : Bool) → OthersWithin n (operands g) → In n (Make g t)
  make g t w = record { inside = w }

  first : (t : Bool) → LitWithin n (record { var = 1; negated = t })
  first t = (omega arith, omega arith)

  turned_in : (k : Asked) → In n k → In n (turned k)
  turned_in (Is l) p = record { inside = p.inside }
  turned_in (Make g t) p = record { inside = p.inside }

  ordered_and_in : (a b : LitOf) → LitWithin n a → LitWithin n b → In n (ordered_and a b)
  ordered_and_in a b p q = choose (is_false a) _ _ (is _ p) (choose (is_true a) _ _ (is _ q) (choose (same a b) _ _ (is _ p) (choose (opposite a b) _ _ (is _ (first true)) (make (And a b) false (p, (q, tt))))))

  and_in : (a b : LitOf) → LitWithin n a → LitWithin n b → In n (fold_and a b)
  and_in a b p q = choose (below b a) _ _ (ordered_and_in b a q p) (ordered_and_in a b p q)

  ordered_xor_in : (a b : LitOf) → LitWithin n a → LitWithin n b → In n (ordered_xor a b)
  ordered_xor_in a b p q = choose (is_false a) _ _ (is _ q) (choose (is_true a) _ _ (is (negate b) q) (choose (same a b) _ _ (is _ (first true)) (choose (opposite a b) _ _ (is _ (first false)) (make (Xor (plain a) (plain b)) (xor a.negated b.negated) (p, (q, tt))))))

  xor_in : (a b : LitOf) → LitWithin n a → LitWithin n b → In n (fold_xor a b)
  xor_in a b p q = choose (below b a) _ _ (ordered_xor_in b a q p) (ordered_xor_in a b p q)

  or_in : (a b : LitOf) → LitWithin n a → LitWithin n b → In n (turned (fold_and (negate a) (negate b)))
  or_in a b p q = turned_in (fold_and (negate a) (negate b)) (and_in (negate a) (negate b) p q)

  key_in : (a b c : LitOf) → LitWithin n a → LitWithin n b → LitWithin n c → In n (key_maj a b c)
  key_in a b c p q r = choose (majority a.negated b.negated c.negated) _ _ (make (Maj (negate a) (negate b) (negate c)) true (p, (q, (r, tt)))) (make (Maj a b c) false (p, (q, (r, tt))))

  sort_in : (a b c : LitOf) → LitWithin n a → LitWithin n b → LitWithin n c → In n (sort_maj a b c)
  sort_in a b c p q r = choose (below a b) _ _ (choose (below b c) _ _ (key_in a b c p q r) (choose (below a c) _ _ (key_in a c b p r q) (key_in c a b r p q))) (choose (below a c) _ _ (key_in b a c q p r) (choose (below b c) _ _ (key_in b c a q r p) (key_in c b a r q p)))

  maj_in : (a b c : LitOf) → LitWithin n a → LitWithin n b → LitWithin n c → In n (fold_maj a b c)
  maj_in a b c p q r = choose (same a b) _ _ (is _ p) (choose (same a c) _ _ (is _ p) (choose (same b c) _ _ (is _ q) (choose (opposite a b) _ _ (is _ r) (choose (opposite a c) _ _ (is _ q) (choose (opposite b c) _ _ (is _ p) (choose (is_false a) _ _ (and_in b c q r) (choose (is_true a) _ _ (or_in b c q r) (choose (is_false b) _ _ (and_in a c p r) (choose (is_true b) _ _ (or_in a c p r) (choose (is_false c) _ _ (and_in a b p q) (choose (is_true c) _ _ (or_in a b p q) (sort_in a b c p q r))))))))))))

  choice_in : (s a b : LitOf) → LitWithin n s → LitWithin n a → LitWithin n b → In n (key_mux s a b)
  choice_in s a b p q r = choose a.negated _ _ (make (Mux s (negate a) (negate b)) true (p, (q, (r, tt)))) (make (Mux s a b) false (p, (q, (r, tt))))

  mux_in : (s a b : LitOf) → LitWithin n s → LitWithin n a → LitWithin n b → In n (fold_mux s a b)
  mux_in s a b p q r = choose (is_true s) _ _ (is _ r) (choose (is_false s) _ _ (is _ q) (choose (same a b) _ _ (is _ q) (choose (opposite a b) _ _ (xor_in s a p q) (choose (is_false a) _ _ (and_in s b p r) (choose (same a s) _ _ (and_in s b p r) (choose (is_true a) _ _ (turned_in (fold_and s (negate b)) (and_in s (negate b) p r)) (choose (opposite a s) _ _ (turned_in (fold_and s (negate b)) (and_in s (negate b) p r)) (choose (is_false b) _ _ (and_in (negate s) a p q) (choose (opposite b s) _ _ (and_in (negate s) a p q) (choose (is_true b) _ _ (or_in s a p q) (choose (same b s) _ _ (or_in s a p q) (choose (s.negated) _ _ (choice_in (negate s) b a p r q) (choice_in s a b p q r)))))))))))))

  pub asked_within : (g : Gate) → OthersWithin n (operands g) → AskedWithin n (asked g)
  asked_within (And a b) w = (and_in a b w.0 w.1.0).inside
  asked_within (Xor a b) w = (xor_in a b w.0 w.1.0).inside
  asked_within (Mux s a b) w = (mux_in s a b w.0 w.1.0 w.1.1.0).inside
  asked_within (Maj a b c) w = (maj_in a b c w.0 w.1.0 w.1.1.0).inside
