-- Gates that are made are folded.
use Rattle.std.proofs.Common.{◌≡◌, ◌⊎◌, nat_lt, ℕ, zero, suc, ◌+◌, ◌-◌, ◌*◌, ◌<◌, ◌≤◌, Bool, true, false, not, cond, List, [], ◌∷◌, Option, Some, None, refl, sym, ap, ◌∙◌, subst, inl, inr, arith}
use Rattle.std.specs.Prelude.{◌≢◌, All, Contains}
use Rattle.std.proofs.lemmas.Bool.{cases_lt}
use Rattle.std.proofs.lemmas.List.Elements.{Contains-push_cases}
use Rattle.cnf_form.specs.Cnf.{LitOf, LitWithin, index_of, negate}
use Rattle.cnf_form.specs.declared.literal.TheConstants.{MAX_VARS}
use Rattle.cnf_form.proofs.Literals.{apart_by_eq, same_by_eq}
use Rattle.gate_graph.specs.declared.gate.Gate.{Gate}
use Rattle.gate_graph.specs.declared.gate.Gate.TheVariants.{And, Xor, Mux, Maj}
use Rattle.gate_graph.specs.declared.gate.Asked.{Asked}
use Rattle.gate_graph.specs.declared.gate.Asked.TheVariants.{Is, Make}
use Rattle.gate_graph.specs.Folding.{asked, below, constant, fold_and, fold_maj, fold_mux, fold_xor, is_false, is_true, key_maj, key_mux, majority, operands, opposite, ordered_and, ordered_xor, plain, same, sort_maj, turned, xor}
use Rattle.gate_graph.specs.Kept.{OthersWithin, lit_of}
use Rattle.bit_net.proofs.Lists.{not_both}
use Rattle.net_unroll.specs.Making.{CoreOf, MadeOf, both, found, made_gate, over, over_gate, run, settled, step}
use Rattle.net_unroll.specs.Program.{Step}
use Rattle.net_unroll.specs.Program.Step.{Input, Constant, Copy, Move, Assume, Pass, End}
use Rattle.net_unroll.specs.Promises.{IsFolded}
use Rattle.net_unroll.proofs.Means.{IsPlaced, IsWell, open_vars, settles_both, step_well}
use Rattle.net_unroll.proofs.Stepping.{both_grows, operands_within, over_within, run_grows}

-- where a call makes a gate, this is folded
abbrev MakesFolded : Asked → Type 0
MakesFolded (Is l) = Unit {0}
MakesFolded (Make k s) = IsFolded k

record Folds (k : Asked) : Type 0 where
  inside : MakesFolded k

-- variables of literals for which the tests fail
strict : (m n : ℕ) → m ≤ n → m ≢ n → m < n
strict m n h d = elim (cases_lt m n) as (λ _. m < n) [ inl l ↦ l | inr r ↦ absurd (d (omega arith)) ]

no_constant : (a : LitOf) → 0 < a.var → is_false a ≡ false → is_true a ≡ false → 1 < a.var
no_constant a p f t = by a.var a.negated p f t
  where
    by : (v : ℕ) (n : Bool) → 0 < v → is_false (record { var = v; negated = n }) ≡ false → is_true (record { var = v; negated = n }) ≡ false → 1 < v
    by zero n p f t = absurd (omega arith)
    by (suc zero) true p f t = absurd (let z : true ≡ false = f in cc)
    by (suc zero) false p f t = absurd (let z : true ≡ false = t in cc)
    by (suc (suc v)) n p f t = omega arith

lit_same : (a b : LitOf) → a.var ≡ b.var → a.negated ≡ b.negated → a ≡ b
lit_same a b e f = ap (λ (v : ℕ). let l : LitOf = record { var = v; negated = a.negated } in l) e ∙ ap (λ (n : Bool). let l : LitOf = record { var = b.var; negated = n } in l) f

signs : (m n : Bool) → (m ≡ n) ⊎ (m ≡ not n)
signs true true = inl refl
signs true false = inr refl
signs false true = inr refl
signs false false = inl refl

unrelated : (a b : LitOf) → same a b ≡ false → opposite a b ≡ false → a.var ≢ b.var
unrelated a b s o e = elim (signs a.negated b.negated) as (λ _. ⊥) [
  | inl f ↦ apart_by_eq a b s (lit_same a b e f)
  | inr f ↦ apart_by_eq a (negate b) o (lit_same a (negate b) e f)
]

lt_is : (m n : ℕ) → nat_lt m n ≡ true → m < n
lt_is m n h = grind arith

lt_not : (m n : ℕ) → nat_lt m n ≡ false → n ≤ m
lt_not m n h = grind arith

up : (a b : LitOf) → below a b ≡ true → a.var ≤ b.var
up a b h = by a.negated b.negated (lt_is (index_of a) (index_of b) h)
  where
    by : (m n : Bool) → 2 * a.var + cond m 1 0 < 2 * b.var + cond n 1 0 → a.var ≤ b.var
    by true true l = omega arith
    by true false l = omega arith
    by false true l = omega arith
    by false false l = omega arith

down : (a b : LitOf) → below a b ≡ false → b.var ≤ a.var
down a b h = by a.negated b.negated (lt_not (index_of a) (index_of b) h)
  where
    by : (m n : Bool) → 2 * b.var + cond n 1 0 ≤ 2 * a.var + cond m 1 0 → b.var ≤ a.var
    by true true l = omega arith
    by true false l = omega arith
    by false true l = omega arith
    by false false l = omega arith

less : (a b : LitOf) → a.var ≢ b.var → below a b ≡ true → a.var < b.var
less a b d h = strict a.var b.var (up a b h) d

more : (a b : LitOf) → a.var ≢ b.var → below a b ≡ false → b.var < a.var
more a b d h = strict b.var a.var (down a b h) (λ e. d (sym e))

-- a choice folds where both its outcomes do
choose : (c : Bool) (u v : Asked) → (c ≡ true → Folds u) → (c ≡ false → Folds v) → Folds (cond c u v)
choose true u v p q = p refl
choose false u v p q = q refl

is : (l : LitOf) → Folds (Is l)
is l = record { inside = tt }

turned_folds : (k : Asked) → Folds k → Folds (turned k)
turned_folds (Is l) p = record { inside = tt }
turned_folds (Make g s) p = record { inside = p.inside }

ordered_and_folds : (a b : LitOf) → 0 < a.var → a.var ≤ b.var → Folds (ordered_and a b)
ordered_and_folds a b p h =
    choose (is_false a) _ _ (λ _. is a) (λ f. choose (is_true a) _ _ (λ _. is b) (λ t. choose (same a b) _ _ (λ _. is a) (λ s. choose (opposite a b) _ _ (λ _. is (constant false)) (λ o.
    record { inside = (no_constant a p f t, strict a.var b.var h (unrelated a b s o)) }))))

and_folds : (a b : LitOf) → 0 < a.var → 0 < b.var → Folds (fold_and a b)
and_folds a b p q = choose (below b a) _ _ (λ e. ordered_and_folds b a q (up b a e)) (λ e. ordered_and_folds a b p (down b a e))

ordered_xor_folds : (a b : LitOf) → 0 < a.var → a.var ≤ b.var → Folds (ordered_xor a b)
ordered_xor_folds a b p h =
    choose (is_false a) _ _ (λ _. is b) (λ f. choose (is_true a) _ _ (λ _. is (negate b)) (λ t. choose (same a b) _ _ (λ _. is (constant false)) (λ s. choose (opposite a b) _ _ (λ _. is (constant true)) (λ o.
    record { inside = (no_constant a p f t, strict a.var b.var h (unrelated a b s o), refl, refl) }))))

xor_folds : (a b : LitOf) → 0 < a.var → 0 < b.var → Folds (fold_xor a b)
xor_folds a b p q = choose (below b a) _ _ (λ e. ordered_xor_folds b a q (up b a e)) (λ e. ordered_xor_folds a b p (down b a e))

nand_folds : (a b : LitOf) → 0 < a.var → 0 < b.var → Folds (turned (fold_and a b))
nand_folds a b p q = turned_folds (fold_and a b) (and_folds a b p q)

fewer : (m n o : Bool) → majority m n o ≡ true → majority (not m) (not n) (not o) ≡ false
fewer true true o h = refl
fewer true false true h = refl
fewer true false false h = absurd (let z : false ≡ true = h in cc)
fewer false true true h = refl
fewer false true false h = absurd (let z : false ≡ true = h in cc)
fewer false false o h = absurd (let z : false ≡ true = h in cc)

key_maj_folds : (a b c : LitOf) → 1 < a.var → a.var < b.var → b.var < c.var → Folds (key_maj a b c)
key_maj_folds a b c p q r =
    choose (majority a.negated b.negated c.negated) _ _ (λ e. record { inside = (p, q, r, fewer a.negated b.negated c.negated e) }) (λ e. record { inside = (p, q, r, e) })

sort_folds : (a b c : LitOf) → 1 < a.var → 1 < b.var → 1 < c.var → a.var ≢ b.var → a.var ≢ c.var → b.var ≢ c.var → Folds (sort_maj a b c)
sort_folds a b c p q r ab ac bc =
    choose (below a b) _ _
    (λ e. choose (below b c) _ _ (λ f. key_maj_folds a b c p (less a b ab e) (less b c bc f))
    (λ f. choose (below a c) _ _ (λ g. key_maj_folds a c b p (less a c ac g) (more b c bc f)) (λ g. key_maj_folds c a b r (more a c ac g) (less a b ab e))))
    (λ e. choose (below a c) _ _ (λ f. key_maj_folds b a c q (more a b ab e) (less a c ac f))
    (λ f. choose (below b c) _ _ (λ g. key_maj_folds b c a q (less b c bc g) (more a c ac f)) (λ g. key_maj_folds c b a r (more b c bc g) (more a b ab e))))

maj_folds : (a b c : LitOf) → 0 < a.var → 0 < b.var → 0 < c.var → Folds (fold_maj a b c)
maj_folds a b c p q r =
    choose (same a b) _ _ (λ _. is a) (λ s. choose (same a c) _ _ (λ _. is a) (λ t. choose (same b c) _ _ (λ _. is b) (λ u.
    choose (opposite a b) _ _ (λ _. is c) (λ x. choose (opposite a c) _ _ (λ _. is b) (λ y. choose (opposite b c) _ _ (λ _. is a) (λ z.
    choose (is_false a) _ _ (λ _. and_folds b c q r) (λ fa. choose (is_true a) _ _ (λ _. nand_folds (negate b) (negate c) q r) (λ ta.
    choose (is_false b) _ _ (λ _. and_folds a c p r) (λ fb. choose (is_true b) _ _ (λ _. nand_folds (negate a) (negate c) p r) (λ tb.
    choose (is_false c) _ _ (λ _. and_folds a b p q) (λ fc. choose (is_true c) _ _ (λ _. nand_folds (negate a) (negate b) p q) (λ tc.
    sort_folds a b c (no_constant a p fa ta) (no_constant b q fb tb) (no_constant c r fc tc) (unrelated a b s x) (unrelated a c t y) (unrelated b c u z)))))))))))))

key_mux_folds : (s a b : LitOf) → 1 < s.var → 1 < a.var → 1 < b.var → s.var ≢ a.var → s.var ≢ b.var → a.var ≢ b.var → s.negated ≡ false → Folds (key_mux s a b)
key_mux_folds s a b p q r sa sb ab e =
    choose a.negated _ _ (λ n. record { inside = (p, q, r, sa, sb, ab, e, ap not n) }) (λ n. record { inside = (p, q, r, sa, sb, ab, e, n) })

mux_folds : (s a b : LitOf) → 0 < s.var → 0 < a.var → 0 < b.var → Folds (fold_mux s a b)
mux_folds s a b p q r =
    choose (is_true s) _ _ (λ _. is b) (λ ts. choose (is_false s) _ _ (λ _. is a) (λ fs.
    choose (same a b) _ _ (λ _. is a) (λ t. choose (opposite a b) _ _ (λ _. xor_folds s a p q) (λ u.
    choose (is_false a) _ _ (λ _. and_folds s b p r) (λ fa. choose (same a s) _ _ (λ _. and_folds s b p r) (λ v.
    choose (is_true a) _ _ (λ _. nand_folds s (negate b) p r) (λ ta. choose (opposite a s) _ _ (λ _. nand_folds s (negate b) p r) (λ w.
    choose (is_false b) _ _ (λ _. and_folds (negate s) a p q) (λ fb. choose (opposite b s) _ _ (λ _. and_folds (negate s) a p q) (λ x.
    choose (is_true b) _ _ (λ _. nand_folds (negate s) (negate a) p q) (λ tb. choose (same b s) _ _ (λ _. nand_folds (negate s) (negate a) p q) (λ y.
    let one = no_constant s p fs ts in
    let two = no_constant a q fa ta in
    let three = no_constant b r fb tb in
    let ab = unrelated a b t u in
    let sa : s.var ≢ a.var = λ e. unrelated a s v w (sym e) in
    let sb : s.var ≢ b.var = λ e. unrelated b s y x (sym e) in
    choose s.negated _ _ (λ n. key_mux_folds (negate s) b a one three two sb sa (λ e. ab (sym e)) (ap not n)) (λ n. key_mux_folds s a b one two three sa sb ab n)))))))))))))

asked_folds : (n : ℕ) (g : Gate) → OthersWithin n (operands g) → Folds (asked g)
asked_folds n (And a b) w = and_folds a b w.0.0 w.1.0.0
asked_folds n (Xor a b) w = xor_folds a b w.0.0 w.1.0.0
asked_folds n (Mux s a b) w = mux_folds s a b w.0.0 w.1.0.0 w.1.1.0.0
asked_folds n (Maj a b c) w = maj_folds a b c w.0.0 w.1.0.0 w.1.1.0.0

-- a call for a folded gate passes every test and makes it
differ : (a b : LitOf) → a.var ≢ b.var → same a b ≡ false
differ a b d = not_both (same a b) (λ h. d (ap (λ (l : LitOf). l.var) (same_by_eq a b h)))

not_constant : (a : LitOf) → 1 < a.var → (is_false a ≡ false) × (is_true a ≡ false)
not_constant a h = (differ a (constant false) (λ e. omega arith), differ a (constant true) (λ e. omega arith))

not_below : (a b : LitOf) → b.var < a.var → below a b ≡ false
not_below a b h = not_both (below a b) (λ e. let l = up a b e in omega arith)

is_below : (a b : LitOf) → a.var < b.var → below a b ≡ true
is_below a b h = by (below a b) refl
  where
    by : (c : Bool) → below a b ≡ c → c ≡ true
    by true e = refl
    by false e = absurd (let l = down a b e in omega arith)

skip : (c : Bool) (u v k : Asked) → c ≡ false → v ≡ k → cond c u v ≡ k
skip c u v k e h = ap (λ (b : Bool). cond b u v) e ∙ h

take : (c : Bool) (u v k : Asked) → c ≡ true → u ≡ k → cond c u v ≡ k
take c u v k e h = ap (λ (b : Bool). cond b u v) e ∙ h

plain_same : (a : LitOf) → a.negated ≡ false → plain a ≡ a
plain_same a e = ap (λ (n : Bool). let l : LitOf = record { var = a.var; negated = n } in l) (sym e)

and_made : (a b : LitOf) → 1 < a.var → a.var < b.var → fold_and a b ≡ Make (And a b) false
and_made a b p q =
    let (f, t) = not_constant a p in
    let d : a.var ≢ b.var = λ e. omega arith in
    skip (below b a) _ _ _ (not_below b a q) (skip (is_false a) _ _ _ f (skip (is_true a) _ _ _ t (skip (same a b) _ _ _ (differ a b d) (skip (opposite a b) _ _ _ (differ a (negate b) d) refl))))

xor_made : (a b : LitOf) → 1 < a.var → a.var < b.var → a.negated ≡ false → b.negated ≡ false → fold_xor a b ≡ Make (Xor a b) false
xor_made a b p q m n =
    let (f, t) = not_constant a p in
    let d : a.var ≢ b.var = λ e. omega arith in
    skip (below b a) _ _ _ (not_below b a q) (skip (is_false a) _ _ _ f (skip (is_true a) _ _ _ t (skip (same a b) _ _ _ (differ a b d) (skip (opposite a b) _ _ _ (differ a (negate b) d)
    (ap (λ (l : LitOf). Make (Xor l (plain b)) (xor a.negated b.negated)) (plain_same a m)
    ∙ ap (λ (l : LitOf). Make (Xor a l) (xor a.negated b.negated)) (plain_same b n)
    ∙ ap (Make (Xor a b)) (ap (λ (c : Bool). xor c b.negated) m ∙ n))))))

mux_made : (s a b : LitOf) → IsFolded (Mux s a b) → fold_mux s a b ≡ Make (Mux s a b) false
mux_made s a b (p, q, r, sa, sb, ab, m, n) =
    let (fs, ts) = not_constant s p in
    let (fa, ta) = not_constant a q in
    let (fb, tb) = not_constant b r in
    let da : a.var ≢ s.var = λ e. sa (sym e) in
    let db : b.var ≢ s.var = λ e. sb (sym e) in
    skip (is_true s) _ _ _ ts (skip (is_false s) _ _ _ fs (skip (same a b) _ _ _ (differ a b ab) (skip (opposite a b) _ _ _ (differ a (negate b) ab)
    (skip (is_false a) _ _ _ fa (skip (same a s) _ _ _ (differ a s da) (skip (is_true a) _ _ _ ta (skip (opposite a s) _ _ _ (differ a (negate s) da)
    (skip (is_false b) _ _ _ fb (skip (opposite b s) _ _ _ (differ b (negate s) db) (skip (is_true b) _ _ _ tb (skip (same b s) _ _ _ (differ b s db)
    (skip s.negated _ _ _ m (skip a.negated _ _ _ n refl)))))))))))))

maj_made : (a b c : LitOf) → IsFolded (Maj a b c) → fold_maj a b c ≡ Make (Maj a b c) false
maj_made a b c (p, q, r, m) =
    let (fa, ta) = not_constant a p in
    let (fb, tb) = not_constant b (omega arith) in
    let (fc, tc) = not_constant c (omega arith) in
    let ab : a.var ≢ b.var = λ e. omega arith in
    let ac : a.var ≢ c.var = λ e. omega arith in
    let bc : b.var ≢ c.var = λ e. omega arith in
    skip (same a b) _ _ _ (differ a b ab) (skip (same a c) _ _ _ (differ a c ac) (skip (same b c) _ _ _ (differ b c bc)
    (skip (opposite a b) _ _ _ (differ a (negate b) ab) (skip (opposite a c) _ _ _ (differ a (negate c) ac) (skip (opposite b c) _ _ _ (differ b (negate c) bc)
    (skip (is_false a) _ _ _ fa (skip (is_true a) _ _ _ ta (skip (is_false b) _ _ _ fb (skip (is_true b) _ _ _ tb (skip (is_false c) _ _ _ fc (skip (is_true c) _ _ _ tc
    (take (below a b) _ _ _ (is_below a b q) (take (below b c) _ _ _ (is_below b c r) (skip (majority a.negated b.negated c.negated) _ _ _ m refl))))))))))))))

pub folded_made : (k : Gate) → IsFolded k → asked k ≡ Make k false
folded_made (And a b) f = and_made a b f.0 f.1
folded_made (Xor a b) f = xor_made a b f.0 f.1 f.2 f.3
folded_made (Mux s a b) f = mux_made s a b f
folded_made (Maj a b c) f = maj_made a b c f

pub made_folded : (n : ℕ) (k : Gate) → OthersWithin n (operands k) → asked k ≡ Make k false → IsFolded k
made_folded n k w e = (subst Folds e (asked_folds n k w)).inside

-- what is kept is folded
abbrev pub AreFolded : List (Gate × LitOf) → Type 0
AreFolded es = (d : Gate × LitOf) → Contains es d → IsFolded d.0

settled_folded : (n : ℕ) (c : CoreOf) (g : Gate) → OthersWithin n (operands g) → AreFolded c.kept → AreFolded (settled c (asked g)).0.kept
settled_folded n c g w all = by (asked g) (asked_folds n g w)
  where
    made : (k : Gate) (s : Bool) (o : Option LitOf) → IsFolded k → AreFolded (made_gate c k s o).0.kept
    made k s (Some l) f = all
    made k s None f = λ d h. elim (Contains-push_cases c.kept (k, lit_of (suc c.vars) true) d h) as (λ _. IsFolded d.0) [
      | inl i ↦ all d i
      | inr e ↦ subst (λ (x : Gate × LitOf). IsFolded x.0) e f
    ]

    by : (a : Asked) → Folds a → AreFolded (settled c a).0.kept
    by (Is l) f = all
    by (Make k s) f = made k s (found c.kept k) f.inside

both_folded : (n : ℕ) (c : CoreOf) (a b : LitOf) → LitWithin n a → LitWithin n b → AreFolded c.kept → AreFolded (both c a b).0.kept
unfolding both
both_folded n c a b u v all = settled_folded n c (And a b) (u, (v, tt)) all

step_folded : (long : ℕ) (m : MadeOf) (s : Step) → IsWell long m → IsPlaced long s → (step m s).core.vars ≤ MAX_VARS → AreFolded m.core.kept → AreFolded (step m s).core.kept
step_folded long m (Input t v) w p few all = all
step_folded long m (Constant v b) w p few all = all
step_folded long m (Copy v g) w p few all =
    settled_folded m.core.vars m.core (over_gate m.table g) (operands_within m.core.vars m.table g w.table (subst (λ (k : ℕ). OthersWithin (k - 1) (operands g)) (sym w.size) p.1)) all
step_folded long m (Move ms) w p few all = all
step_folded long m (Assume l) w p few all =
    both_folded m.core.vars m.core m.assumed (over m.table l) w.assumed (over_within m.core.vars m.table l w.table (let e = w.size in omega arith)) all
step_folded long m (Pass l) w p few all =
    let o = over_within m.core.vars m.table l w.table (let e = w.size in omega arith) in
    both_folded m.core.vars m.core m.ok (negate (over m.table l)) w.ok (o.0, o.1) all
step_folded long m (End l) w p few all =
    let q = both m.core m.ok (over m.table l) in
    let up : m.core.vars ≤ (both m.core m.ok (over m.table l)).0.vars = both_grows m.core m.ok (over m.table l) in
    let more : (both m.core m.ok (over m.table l)).0.vars ≤ (both q.0 m.assumed q.1).0.vars = both_grows q.0 m.assumed q.1 in
    let o = over_within m.core.vars m.table l w.table (let e = w.size in omega arith) in
    let s = settles_both (open_vars m.free) m.core m.ok (over m.table l) w.kept w.ok o (omega arith) in
    let (lo, hi) = w.assumed in
    both_folded q.0.vars q.0 m.assumed q.1 (lo, omega arith) s.within (both_folded m.core.vars m.core m.ok (over m.table l) w.ok o all)

pub run_folded : (long : ℕ) (m : MadeOf) (steps : List Step) → IsWell long m → All (IsPlaced long) steps → (run m steps).core.vars ≤ MAX_VARS → AreFolded m.core.kept → AreFolded (run m steps).core.kept
run_folded long m [] w p few all = all
run_folded long m (s ∷ steps) w p few all =
    let grows = run_grows (step m s) steps in
    let here = p 0 s (omega arith) in
    let next = step_well long m s w here (omega arith) in
    run_folded long (step m s) steps next.well (λ i d l. p (suc i) d (omega arith)) few (step_folded long m s w here (omega arith) all)
