-- What steps make means what the steps say.
use Rattle.std.proofs.Common.{◌≡◌, ◌⊎◌, ℕ, suc, ◌+◌, ◌-◌, ◌<◌, ◌≤◌, Bool, true, false, not, ◌&&◌, cond, List, [], ◌∷◌, ◌++◌, Option, Some, None, refl, sym, ap, ◌∙◌, subst, inl, inr, arith, length, set, get_or, map, eqb}
use Rattle.std.specs.Prelude.{All, Contains, slice_index_or}
use Rattle.std.specs.List.{flat_map}
use Rattle.std.proofs.lemmas.Bool.{cases_eq, eq-eqb, eqb-true}
use Rattle.std.proofs.lemmas.List.{get_or-set_other, get_or-set_same, length-set, map-append}
use Rattle.std.proofs.lemmas.List.Elements.{All-append, All-cons, All-nil, All-set, Contains-append_left, Contains-push}
use Rattle.cnf_form.specs.Cnf.{Assignment, LitOf, LitWithin, Satisfies, lit_in, negate}
use Rattle.cnf_form.specs.declared.literal.TheConstants.{MAX_VARS}
use Rattle.gate_graph.specs.declared.gate.Gate.{Gate}
use Rattle.gate_graph.specs.declared.gate.Gate.TheVariants.{And, Xor, Mux, Maj}
use Rattle.gate_graph.specs.declared.gate.Asked.{Asked}
use Rattle.gate_graph.specs.declared.gate.Asked.TheVariants.{Is, Make}
use Rattle.gate_graph.specs.Folding.{asked, asked_bit, bit, clauses_of, constant, majority, operands, xor}
use Rattle.gate_graph.specs.Kept.{IsKept, OthersWithin, clauses_from, lit_of, signed}
use Rattle.gate_graph.proofs.Keeping.{IsKept-input}
use Rattle.gate_graph.proofs.Making.{AskedWithin, IsKept-gate}
use Rattle.gate_graph.proofs.Meanings.{asked_means}
use Rattle.gate_graph.proofs.OneTable.{lit_negated}
use Rattle.gate_graph.proofs.Reaching.{asked_within}
use Rattle.bit_net.proofs.Lists.{IsRisingFrom, cases_in, head_in, map_in, none_in, not_both, tail_in}
use Rattle.bit_net.proofs.Needing.{in_flat_map}
use Rattle.net_unroll.specs.Making.{CoreOf, MadeOf, both, found, made_gate, moved, over, over_gate, run, settled, step}
use Rattle.net_unroll.specs.Program.{Step}
use Rattle.net_unroll.specs.Program.Step.{Input, Constant, Copy, Move, Assume, Pass, End}
use Rattle.net_unroll.specs.declared.encoded.Free.{Free}
use Rattle.net_unroll.proofs.Settling.{found_some, found_there}
use Rattle.net_unroll.proofs.Stepping.{both_grows, lits_up, moved_size, moved_within, operands_within, over_within, run_grows, settled_grows}

-- values by variables of a net, and what is told of cycles
pub record SaidOf : Type 0 where
  pub values : ℕ → Bool
  pub assumed : Bool
  pub ok : Bool
  pub goals : List Bool

abbrev pub put : (ℕ → Bool) → ℕ → Bool → ℕ → Bool
put f v b u = cond (eqb u v) b (f u)

abbrev pub moved_bits : (ℕ → Bool) → List (ℕ × LitOf) → (ℕ → Bool) → ℕ → Bool
moved_bits old [] f = f
moved_bits old (m ∷ ms) f = moved_bits old ms (put f m.0 (lit_in old m.1))

-- what a step says, where inputs have the bits i
abbrev pub said : (ℕ → ℕ → Bool) → SaidOf → Step → SaidOf
said i s (Input t v) = record s { values = put s.values v (i t v) }
said i s (Constant v b) = record s { values = put s.values v b }
said i s (Copy v g) = record s { values = put s.values v (bit g s.values) }
said i s (Move ms) = record s { values = moved_bits s.values ms s.values }
said i s (Assume l) = record s { assumed = s.assumed && lit_in s.values l }
said i s (Pass l) = record s { ok = s.ok && not (lit_in s.values l) }
said i s (End l) = record s { goals = s.goals ++ (s.assumed && (s.ok && lit_in s.values l)) ∷ [] }

abbrev pub said_all : (ℕ → ℕ → Bool) → SaidOf → List Step → SaidOf
said_all i s [] = s
said_all i s (p ∷ steps) = said_all i (said i s p) steps

-- the step is of a table of this length
abbrev pub IsPlaced : ℕ → Step → Type 0
IsPlaced long (Input t v) = v < long
IsPlaced long (Constant v b) = v < long
IsPlaced long (Copy v g) = (v < long) × OthersWithin (long - 1) (operands g)
IsPlaced long (Move ms) = All (λ (m : ℕ × LitOf). (m.0 < long) × (m.1.var < long)) ms
IsPlaced long (Assume l) = l.var < long
IsPlaced long (Pass l) = l.var < long
IsPlaced long (End l) = l.var < long

abbrev pub open_vars : List Free → List ℕ
open_vars fs = map (λ (f : Free). f.var) fs

abbrev pub gate_vars : List (Gate × LitOf) → List ℕ
gate_vars es = map (λ (e : Gate × LitOf). e.1.var) es

pub rising_push : (low : ℕ) (xs : List ℕ) (n : ℕ) → IsRisingFrom low xs → low ≤ n → ((v : ℕ) → Contains xs v → v < n) → IsRisingFrom low (xs ++ n ∷ [])
rising_push low [] n r l h = (l, tt)
rising_push low (x ∷ xs) n r l h = (r.0, rising_push (suc x) xs n r.1 (let a = h x (head_in x xs) in omega arith) (λ v c. h v (tail_in x v xs c)))

-- gates that say what they are, over a table of this length
pub record IsWell (long : ℕ) (m : MadeOf) : Type 0 where
  pub kept : IsKept m.core.vars MAX_VARS (open_vars m.free) m.core.kept
  pub order : IsRisingFrom 2 (gate_vars m.core.kept)
  pub opens : IsRisingFrom 2 (open_vars m.free)
  pub size : length m.table ≡ long
  pub table : All (LitWithin m.core.vars) m.table
  pub assumed : LitWithin m.core.vars m.assumed
  pub ok : LitWithin m.core.vars m.ok
  pub goals : All (LitWithin m.core.vars) m.goals

-- the literals have the values
pub record Reads (y : Assignment) (m : MadeOf) (s : SaidOf) : Type 0 where
  pub table : (v : ℕ) → v < length m.table → lit_in y (slice_index_or m.table v (constant true)) ≡ s.values v
  pub assumed : lit_in y m.assumed ≡ s.assumed
  pub ok : lit_in y m.ok ≡ s.ok
  pub goals : map (lit_in y) m.goals ≡ s.goals

-- clauses of gates among others
pub flat_in : {A B : Type 0} (f : A → List B) (xs : List A) (y : B) → Contains (flat_map f xs) y → (x : A) × Contains xs x × Contains (f x) y
flat_in f [] y c = absurd (none_in y c)
flat_in f (x ∷ xs) y c = elim (append_cases (f x) (flat_map f xs) y c) as (λ _. (z : _) × Contains (x ∷ xs) z × Contains (f z) y) [
  | inl h ↦ (x, head_in x xs, h)
  | inr h ↦ let (z, i, j) = flat_in f xs y h in (z, tail_in x z xs i, j)
]
  where
    append_cases : {B : Type 0} (us ws : List B) (b : B) → Contains (us ++ ws) b → Contains us b ⊎ Contains ws b
    append_cases [] ws b c = inr c
    append_cases (a ∷ us) ws b c = elim (cases_in a (us ++ ws) b c) as (λ _. Contains (a ∷ us) b ⊎ Contains ws b) [
      | inl e ↦ inl (subst (Contains (a ∷ us)) e (head_in a us))
      | inr r ↦ elim (append_cases us ws b r) as (λ _. Contains (a ∷ us) b ⊎ Contains ws b) [ inl h ↦ inl (tail_in a b us h) | inr h ↦ inr h ]
    ]

pub sat_part : (y : Assignment) (a b : List (Gate × LitOf)) → ((e : Gate × LitOf) → Contains a e → Contains b e) → Satisfies y (clauses_from b) → Satisfies y (clauses_from a)
sat_part y a b part s c h = elim (cases_in (lit_of 1 true ∷ []) (flat_map (λ (e : Gate × LitOf). clauses_of e.1 e.0) a) c h) as (λ _. (l : LitOf) × Contains c l × (lit_in y l ≡ true)) [
  | inl e ↦ s c (subst (Contains (clauses_from b)) e (head_in (lit_of 1 true ∷ []) (flat_map (λ (e : Gate × LitOf). clauses_of e.1 e.0) b)))
  | inr r ↦
      let (e, i, j) = flat_in (λ (e : Gate × LitOf). clauses_of e.1 e.0) a c r in
      s c (tail_in (lit_of 1 true ∷ []) c (flat_map (λ (e : Gate × LitOf). clauses_of e.1 e.0) b) (in_flat_map (λ (e : Gate × LitOf). clauses_of e.1 e.0) b e c (part e i) j))
]

-- what a call for a gate leads to
pub record IsSettled (is : List ℕ) (c d : CoreOf) (g : Gate) (l : LitOf) : Type 0 where
  pub kept : IsKept d.vars MAX_VARS is d.kept
  pub within : LitWithin d.vars l
  pub means : (y : Assignment) → Satisfies y (clauses_from d.kept) → lit_in y l ≡ bit g y
  pub part : (e : Gate × LitOf) → Contains c.kept e → Contains d.kept e
  pub order : IsRisingFrom 2 (gate_vars c.kept) → IsRisingFrom 2 (gate_vars d.kept)

signed_value : (x : Assignment) (s : Bool) (l : LitOf) → lit_in x (signed s l) ≡ xor s (lit_in x l)
signed_value x true l = lit_negated x l
signed_value x false l = refl

signed_within : (n : ℕ) (s : Bool) (l : LitOf) → LitWithin n l → LitWithin n (signed s l)
signed_within n true l w = w
signed_within n false l w = w

pub settles : (is : List ℕ) (c : CoreOf) (g : Gate) → IsKept c.vars MAX_VARS is c.kept → OthersWithin c.vars (operands g) → (settled c (asked g)).0.vars ≤ MAX_VARS → IsSettled is c (settled c (asked g)).0 g (settled c (asked g)).1
settles is c g p w = by (asked g) (asked_within c.vars p.some g w) (λ x one. asked_means x one g)
  where
    made : (k : Gate) (s : Bool) (o : Option LitOf) → found c.kept k ≡ o → OthersWithin c.vars (operands k) → ((x : Assignment) → x 1 ≡ true → xor s (bit k x) ≡ bit g x) →
        (made_gate c k s o).0.vars ≤ MAX_VARS → IsSettled is c (made_gate c k s o).0 g (made_gate c k s o).1
    made k s (Some l) e u v few =
        let there = found_some c.kept k l e in
        let o = p.all k l there in
        record {
          kept = p;
          within = signed_within c.vars s l o.within;
          means = λ y sat. signed_value y s l ∙ ap (xor s) (o.means y sat) ∙ v y (p.truth y sat);
          part = λ d i. i;
          order = λ r. r;
        }
    made k s None e u v few =
        let new = IsKept-gate c.vars MAX_VARS is c.kept k p (omega arith) u (λ l h. found_there c.kept k l h e) in
        let z : c.vars + 1 ≡ suc c.vars = omega arith in
        let all : IsKept (suc c.vars) MAX_VARS is (c.kept ++ (k, lit_of (suc c.vars) true) ∷ []) = subst (λ (n : ℕ). IsKept n MAX_VARS is (c.kept ++ (k, lit_of n true) ∷ [])) z new in
        let o = all.all k (lit_of (suc c.vars) true) (Contains-push c.kept (k, lit_of (suc c.vars) true)) in
        record {
          kept = all;
          within = signed_within (suc c.vars) s (lit_of (suc c.vars) true) o.within;
          means = λ y sat. signed_value y s (lit_of (suc c.vars) true) ∙ ap (xor s) (o.means y sat) ∙ v y (all.truth y sat);
          part = λ d i. Contains-append_left c.kept ((k, lit_of (suc c.vars) true) ∷ []) d i;
          order = λ r. subst (IsRisingFrom 2) (sym (map-append (λ (d : Gate × LitOf). d.1.var) c.kept ((k, lit_of (suc c.vars) true) ∷ [])))
              (rising_push 2 (gate_vars c.kept) (suc c.vars) r (let a = p.some in omega arith) (λ v i.
              (let (d, j, z) = map_in (λ (d : Gate × LitOf). d.1.var) c.kept v i in
              let a = (p.all d.0 d.1 j).within in
              let b = a.1 in omega arith)));
        }

    by : (a : Asked) → AskedWithin c.vars a → ((x : Assignment) → x 1 ≡ true → asked_bit a x ≡ bit g x) → (settled c a).0.vars ≤ MAX_VARS → IsSettled is c (settled c a).0 g (settled c a).1
    by (Is l) u v few = record { kept = p; within = u; means = λ y s. v y (p.truth y s); part = λ d i. i; order = λ r. r }
    by (Make k s) u v few = made k s (found c.kept k) refl u v few

pub settles_both : (is : List ℕ) (c : CoreOf) (a b : LitOf) → IsKept c.vars MAX_VARS is c.kept → LitWithin c.vars a → LitWithin c.vars b → (both c a b).0.vars ≤ MAX_VARS → IsSettled is c (both c a b).0 (And a b) (both c a b).1
unfolding both
settles_both is c a b p u v few = settles is c (And a b) p (u, (v, tt)) few

-- literals and gates over a table
pub over_reads : (y : Assignment) (table : List LitOf) (f : ℕ → Bool) (l : LitOf) → lit_in y (slice_index_or table l.var (constant true)) ≡ f l.var → lit_in y (over table l) ≡ lit_in f l
over_reads y table f l e = by l.negated
  where
    by : (b : Bool) → lit_in y (signed b (slice_index_or table l.var (constant true))) ≡ cond b (not (f l.var)) (f l.var)
    by true = lit_negated y (slice_index_or table l.var (constant true)) ∙ ap not e
    by false = e

pub gate_reads : (y : Assignment) (table : List LitOf) (f : ℕ → Bool) (n : ℕ) (g : Gate) → ((v : ℕ) → v < suc n → lit_in y (slice_index_or table v (constant true)) ≡ f v) → OthersWithin n (operands g) → bit (over_gate table g) y ≡ bit g f
gate_reads y table f n g h = by g
  where
    one : (l : LitOf) → LitWithin n l → lit_in y (over table l) ≡ lit_in f l
    one l (lo, hi) = over_reads y table f l (h l.var (omega arith))

    by : (g : Gate) → OthersWithin n (operands g) → bit (over_gate table g) y ≡ bit g f
    by (And a b) w =
        ap (λ (c : Bool). c && lit_in y (over table b)) (one a w.0) ∙ ap (λ (c : Bool). lit_in f a && c) (one b w.1.0)
    by (Xor a b) w =
        ap (λ (c : Bool). xor c (lit_in y (over table b))) (one a w.0) ∙ ap (λ (c : Bool). xor (lit_in f a) c) (one b w.1.0)
    by (Mux s a b) w =
        ap (λ (c : Bool). cond c (lit_in y (over table b)) (lit_in y (over table a))) (one s w.0)
        ∙ ap (λ (c : Bool). cond (lit_in f s) c (lit_in y (over table a))) (one b w.1.1.0)
        ∙ ap (λ (c : Bool). cond (lit_in f s) (lit_in f b) c) (one a w.1.0)
    by (Maj a b c) w =
        ap (λ (d : Bool). majority d (lit_in y (over table b)) (lit_in y (over table c))) (one a w.0)
        ∙ ap (λ (d : Bool). majority (lit_in f a) d (lit_in y (over table c))) (one b w.1.0)
        ∙ ap (λ (d : Bool). majority (lit_in f a) (lit_in f b) d) (one c w.1.1.0)

pub put_here : (f : ℕ → Bool) (v : ℕ) (b : Bool) → put f v b v ≡ b
put_here f v b = ap (λ (c : Bool). cond c b (f v)) (eq-eqb v v refl)

pub put_there : (f : ℕ → Bool) (v : ℕ) (b : Bool) (u : ℕ) → (u ≡ v → ⊥) → put f v b u ≡ f u
put_there f v b u n = ap (λ (c : Bool). cond c b (f u)) (not_both (eqb u v) (λ e. n (eqb-true u v e)))

-- one place of the table
set_reads : (y : Assignment) (table : List LitOf) (f : ℕ → Bool) (v : ℕ) (l : LitOf) (b : Bool) → lit_in y l ≡ b → ((u : ℕ) → u < length table → lit_in y (slice_index_or table u (constant true)) ≡ f u) →
    (u : ℕ) → u < length (set table v l) → lit_in y (slice_index_or (set table v l) u (constant true)) ≡ put f v b u
set_reads y table f v l b e h u i =
    let n = length-set table v l in
    elim (cases_eq u v) as (λ _. lit_in y (slice_index_or (set table v l) u (constant true)) ≡ put f v b u) [
      | inl q ↦
          subst (λ (w : ℕ). lit_in y (slice_index_or (set table v l) w (constant true)) ≡ put f v b w) (sym q)
          (ap (lit_in y) (get_or-set_same table v l (constant true) (omega arith)) ∙ e ∙ sym (put_here f v b))
      | inr q ↦ ap (lit_in y) (get_or-set_other table v u l (constant true) q) ∙ h u (omega arith) ∙ sym (put_there f v b u q)
    ]

moved_reads : (y : Assignment) (old table : List LitOf) (f g : ℕ → Bool) (ms : List (ℕ × LitOf)) → ((u : ℕ) → u < length old → lit_in y (slice_index_or old u (constant true)) ≡ f u) →
    ((u : ℕ) → u < length table → lit_in y (slice_index_or table u (constant true)) ≡ g u) → All (λ (m : ℕ × LitOf). (m.0 < length old) × (m.1.var < length old)) ms →
    (u : ℕ) → u < length (moved old ms table) → lit_in y (slice_index_or (moved old ms table) u (constant true)) ≡ moved_bits f ms g u
moved_reads y old table f g [] h k w = k
moved_reads y old table f g (m ∷ ms) h k w =
    moved_reads y old (set table m.0 (over old m.1)) f (put g m.0 (lit_in f m.1)) ms h
    (set_reads y table g m.0 (over old m.1) (lit_in f m.1) (over_reads y old f m.1 (h m.1.var (let (a, b) = w 0 m (omega arith) in b))) k) (λ i d l. w (suc i) d (omega arith))

-- a step, on gates that say what they are
pub record Stepped (long : ℕ) (m n : MadeOf) : Type 0 where
  pub well : IsWell long n
  pub part : (e : Gate × LitOf) → Contains m.core.kept e → Contains n.core.kept e
  pub free : (f : Free) → Contains m.free f → Contains n.free f

up_lit : (a b : ℕ) (l : LitOf) → a ≤ b → LitWithin a l → LitWithin b l
up_lit a b l h (lo, hi) = (lo, omega arith)

pub step_well : (long : ℕ) (m : MadeOf) (s : Step) → IsWell long m → IsPlaced long s → (step m s).core.vars ≤ MAX_VARS → Stepped long m (step m s)
step_well long m (Input t v) w p few =
    let z : m.core.vars + 1 ≡ suc m.core.vars = omega arith in
    let f : Free = record { cycle = t; place = v; var = suc m.core.vars } in
    let all : IsKept (suc m.core.vars) MAX_VARS (open_vars m.free ++ suc m.core.vars ∷ []) m.core.kept =
    subst (λ (n : ℕ). IsKept n MAX_VARS (open_vars m.free ++ n ∷ []) m.core.kept) z (IsKept-input m.core.vars MAX_VARS (open_vars m.free) m.core.kept w.kept (omega arith)) in
    record {
      well = record {
        kept = subst (λ (vs : List ℕ). IsKept (suc m.core.vars) MAX_VARS vs m.core.kept) (sym (map-append (λ (g : Free). g.var) m.free (f ∷ []))) all;
        order = w.order;
        opens = subst (IsRisingFrom 2) (sym (map-append (λ (g : Free). g.var) m.free (f ∷ [])))
            (rising_push 2 (open_vars m.free) (suc m.core.vars) w.opens (let a = w.kept.some in omega arith) (λ u d. (let a = w.kept.gates.inputs_within u d in let b = a.1 in omega arith)));
        size = length-set m.table v (lit_of (suc m.core.vars) true) ∙ w.size;
        table = All-set (LitWithin (suc m.core.vars)) m.table v (lit_of (suc m.core.vars) true) (omega arith, omega arith) (lits_up m.core.vars (suc m.core.vars) m.table (omega arith) w.table);
        assumed = up_lit m.core.vars (suc m.core.vars) m.assumed (omega arith) w.assumed;
        ok = up_lit m.core.vars (suc m.core.vars) m.ok (omega arith) w.ok;
        goals = lits_up m.core.vars (suc m.core.vars) m.goals (omega arith) w.goals;
      };
      part = λ e c. c;
      free = λ g c. Contains-append_left m.free (f ∷ []) g c;
    }
step_well long m (Constant v b) w p few = record {
  well = record {
    kept = w.kept;
    order = w.order;
    opens = w.opens;
    size = length-set m.table v (constant b) ∙ w.size;
    table = All-set (LitWithin m.core.vars) m.table v (constant b) (omega arith, let s = w.kept.some in omega arith) w.table;
    assumed = w.assumed;
    ok = w.ok;
    goals = w.goals;
  };
  part = λ e c. c;
  free = λ g c. c;
}
step_well long m (Copy v g) w p few =
    let r = settled m.core (asked (over_gate m.table g)) in
    let up : m.core.vars ≤ (settled m.core (asked (over_gate m.table g))).0.vars = settled_grows m.core (asked (over_gate m.table g)) in
    let o = operands_within m.core.vars m.table g w.table (subst (λ (k : ℕ). OthersWithin (k - 1) (operands g)) (sym w.size) p.1) in
    let s = settles (open_vars m.free) m.core (over_gate m.table g) w.kept o few in
    record {
      well = record {
        kept = s.kept;
        order = s.order w.order;
        opens = w.opens;
        size = length-set m.table v r.1 ∙ w.size;
        table = All-set (LitWithin r.0.vars) m.table v r.1 s.within (lits_up m.core.vars r.0.vars m.table up w.table);
        assumed = up_lit m.core.vars r.0.vars m.assumed up w.assumed;
        ok = up_lit m.core.vars r.0.vars m.ok up w.ok;
        goals = lits_up m.core.vars r.0.vars m.goals up w.goals;
      };
      part = s.part;
      free = λ f c. c;
    }
step_well long m (Move ms) w p few = record {
  well = record {
    kept = w.kept;
    order = w.order;
    opens = w.opens;
    size = moved_size m.table m.table ms ∙ w.size;
    table = moved_within m.core.vars m.table m.table ms w.table w.table (λ i d l. let (a, b) = p i d l in subst (λ (k : ℕ). (get_or ms i d).1.var < k) (sym w.size) b);
    assumed = w.assumed;
    ok = w.ok;
    goals = w.goals;
  };
  part = λ e c. c;
  free = λ g c. c;
}
step_well long m (Assume l) w p few =
    let r = both m.core m.assumed (over m.table l) in
    let up : m.core.vars ≤ (both m.core m.assumed (over m.table l)).0.vars = both_grows m.core m.assumed (over m.table l) in
    let s = settles_both (open_vars m.free) m.core m.assumed (over m.table l) w.kept w.assumed (over_within m.core.vars m.table l w.table (let e = w.size in omega arith)) few in
    record {
      well = record {
        kept = s.kept;
        order = s.order w.order;
        opens = w.opens;
        size = w.size;
        table = lits_up m.core.vars r.0.vars m.table up w.table;
        assumed = s.within;
        ok = up_lit m.core.vars r.0.vars m.ok up w.ok;
        goals = lits_up m.core.vars r.0.vars m.goals up w.goals;
      };
      part = s.part;
      free = λ f c. c;
    }
step_well long m (Pass l) w p few =
    let r = both m.core m.ok (negate (over m.table l)) in
    let up : m.core.vars ≤ (both m.core m.ok (negate (over m.table l))).0.vars = both_grows m.core m.ok (negate (over m.table l)) in
    let o = over_within m.core.vars m.table l w.table (let e = w.size in omega arith) in
    let s = settles_both (open_vars m.free) m.core m.ok (negate (over m.table l)) w.kept w.ok (o.0, o.1) few in
    record {
      well = record {
        kept = s.kept;
        order = s.order w.order;
        opens = w.opens;
        size = w.size;
        table = lits_up m.core.vars r.0.vars m.table up w.table;
        assumed = up_lit m.core.vars r.0.vars m.assumed up w.assumed;
        ok = s.within;
        goals = lits_up m.core.vars r.0.vars m.goals up w.goals;
      };
      part = s.part;
      free = λ f c. c;
    }
step_well long m (End l) w p few =
    let q = both m.core m.ok (over m.table l) in
    let r = both q.0 m.assumed q.1 in
    let up : m.core.vars ≤ (both m.core m.ok (over m.table l)).0.vars = both_grows m.core m.ok (over m.table l) in
    let more : (both m.core m.ok (over m.table l)).0.vars ≤ (both q.0 m.assumed q.1).0.vars = both_grows q.0 m.assumed q.1 in
    let up2 : m.core.vars ≤ (both q.0 m.assumed q.1).0.vars = omega arith in
    let o = over_within m.core.vars m.table l w.table (let e = w.size in omega arith) in
    let s = settles_both (open_vars m.free) m.core m.ok (over m.table l) w.kept w.ok o (omega arith) in
    let z = settles_both (open_vars m.free) q.0 m.assumed q.1 s.kept (up_lit m.core.vars q.0.vars m.assumed up w.assumed) s.within few in
    record {
      well = record {
        kept = z.kept;
        order = z.order (s.order w.order);
        opens = w.opens;
        size = w.size;
        table = lits_up m.core.vars r.0.vars m.table up2 w.table;
        assumed = up_lit m.core.vars r.0.vars m.assumed up2 w.assumed;
        ok = up_lit m.core.vars r.0.vars m.ok up2 w.ok;
        goals = All-append (LitWithin r.0.vars) m.goals (r.1 ∷ []) (lits_up m.core.vars r.0.vars m.goals up2 w.goals) (All-cons (LitWithin r.0.vars) r.1 [] z.within (All-nil (LitWithin r.0.vars)));
      };
      part = λ e c. z.part e (s.part e c);
      free = λ f c. c;
    }

-- and what is said
pub step_reads : (long : ℕ) (m : MadeOf) (s : Step) (i : ℕ → ℕ → Bool) (y : Assignment) (x : SaidOf) → IsWell long m → IsPlaced long s → (step m s).core.vars ≤ MAX_VARS → Satisfies y (clauses_from (step m s).core.kept) →
    ((f : Free) → Contains (step m s).free f → y f.var ≡ i f.cycle f.place) → Reads y m x → Reads y (step m s) (said i x s)
step_reads long m (Input t v) i y x w p few sat fits r = record {
  table = set_reads y m.table x.values v (lit_of (suc m.core.vars) true) (i t v)
      (fits (record { cycle = t; place = v; var = suc m.core.vars }) (Contains-push m.free (record { cycle = t; place = v; var = suc m.core.vars }))) r.table;
  assumed = r.assumed;
  ok = r.ok;
  goals = r.goals;
}
step_reads long m (Constant v b) i y x w p few sat fits r = record {
  table = set_reads y m.table x.values v (constant b) b (by b) r.table;
  assumed = r.assumed;
  ok = r.ok;
  goals = r.goals;
}
  where
    by : (b : Bool) → lit_in y (constant b) ≡ b
    by true = w.kept.truth y sat
    by false = ap not (w.kept.truth y sat)
step_reads long m (Copy v g) i y x w p few sat fits r =
    let few_vars = p.1 in
    let size = w.size in
    let o = operands_within m.core.vars m.table g w.table (subst (λ (k : ℕ). OthersWithin (k - 1) (operands g)) (sym w.size) p.1) in
    let s = settles (open_vars m.free) m.core (over_gate m.table g) w.kept o few in
    record {
      table = set_reads y m.table x.values v (settled m.core (asked (over_gate m.table g))).1 (bit g x.values)
          (s.means y sat ∙ gate_reads y m.table x.values (long - 1) g (λ u l. r.table u (let h = p.0 in omega arith)) p.1) r.table;
      assumed = r.assumed;
      ok = r.ok;
      goals = r.goals;
    }
step_reads long m (Move ms) i y x w p few sat fits r = record {
  table = moved_reads y m.table m.table x.values x.values ms r.table r.table (subst (λ (k : ℕ). All (λ (n : ℕ × LitOf). (n.0 < k) × (n.1.var < k)) ms) (sym w.size) p);
  assumed = r.assumed;
  ok = r.ok;
  goals = r.goals;
}
step_reads long m (Assume l) i y x w p few sat fits r =
    let s = settles_both (open_vars m.free) m.core m.assumed (over m.table l) w.kept w.assumed (over_within m.core.vars m.table l w.table (let e = w.size in omega arith)) few in
    record {
      table = r.table;
      assumed = s.means y sat ∙ ap (λ (c : Bool). c && lit_in y (over m.table l)) r.assumed
          ∙ ap (λ (c : Bool). x.assumed && c) (over_reads y m.table x.values l (r.table l.var (let e = w.size in omega arith)));
      ok = r.ok;
      goals = r.goals;
    }
step_reads long m (Pass l) i y x w p few sat fits r =
    let o = over_within m.core.vars m.table l w.table (let e = w.size in omega arith) in
    let s = settles_both (open_vars m.free) m.core m.ok (negate (over m.table l)) w.kept w.ok (o.0, o.1) few in
    record {
      table = r.table;
      assumed = r.assumed;
      ok = s.means y sat ∙ ap (λ (c : Bool). c && lit_in y (negate (over m.table l))) r.ok
          ∙ ap (λ (c : Bool). x.ok && c) (lit_negated y (over m.table l) ∙ ap not (over_reads y m.table x.values l (r.table l.var (let e = w.size in omega arith))));
      goals = r.goals;
    }
step_reads long m (End l) i y x w p few sat fits r =
    let q = both m.core m.ok (over m.table l) in
    let up : m.core.vars ≤ (both m.core m.ok (over m.table l)).0.vars = both_grows m.core m.ok (over m.table l) in
    let more : (both m.core m.ok (over m.table l)).0.vars ≤ (both q.0 m.assumed q.1).0.vars = both_grows q.0 m.assumed q.1 in
    let o = over_within m.core.vars m.table l w.table (let e = w.size in omega arith) in
    let s = settles_both (open_vars m.free) m.core m.ok (over m.table l) w.kept w.ok o (omega arith) in
    let z = settles_both (open_vars m.free) q.0 m.assumed q.1 s.kept (up_lit m.core.vars q.0.vars m.assumed up w.assumed) s.within few in
    let first = sat_part y q.0.kept (both q.0 m.assumed q.1).0.kept z.part sat in
    let inner : lit_in y q.1 ≡ (x.ok && lit_in x.values l) =
    s.means y first ∙ ap (λ (c : Bool). c && lit_in y (over m.table l)) r.ok
    ∙ ap (λ (c : Bool). x.ok && c) (over_reads y m.table x.values l (r.table l.var (let e = w.size in omega arith))) in
    let outer : lit_in y (both q.0 m.assumed q.1).1 ≡ (x.assumed && (x.ok && lit_in x.values l)) =
    z.means y sat ∙ ap (λ (c : Bool). c && lit_in y q.1) r.assumed ∙ ap (λ (c : Bool). x.assumed && c) inner in
    record {
      table = r.table;
      assumed = r.assumed;
      ok = r.ok;
      goals = map-append (lit_in y) m.goals ((both q.0 m.assumed q.1).1 ∷ []) ∙ ap (λ (bs : List Bool). bs ++ lit_in y (both q.0 m.assumed q.1).1 ∷ []) r.goals
          ∙ ap (λ (b : Bool). x.goals ++ b ∷ []) outer;
    }

-- steps, one after the other
pub run_well : (long : ℕ) (m : MadeOf) (steps : List Step) → IsWell long m → All (IsPlaced long) steps → (run m steps).core.vars ≤ MAX_VARS → Stepped long m (run m steps)
run_well long m [] w p few = record { well = w; part = λ e c. c; free = λ f c. c }
run_well long m (s ∷ steps) w p few =
    let grows = run_grows (step m s) steps in
    let a = step_well long m s w (p 0 s (omega arith)) (omega arith) in
    let b = run_well long (step m s) steps a.well (λ i d l. p (suc i) d (omega arith)) few in
    record { well = b.well; part = λ e c. b.part e (a.part e c); free = λ f c. b.free f (a.free f c) }

pub run_reads : (long : ℕ) (m : MadeOf) (steps : List Step) (i : ℕ → ℕ → Bool) (y : Assignment) (x : SaidOf) → IsWell long m → All (IsPlaced long) steps → (run m steps).core.vars ≤ MAX_VARS →
    Satisfies y (clauses_from (run m steps).core.kept) → ((f : Free) → Contains (run m steps).free f → y f.var ≡ i f.cycle f.place) → Reads y m x → Reads y (run m steps) (said_all i x steps)
run_reads long m [] i y x w p few sat fits r = r
run_reads long m (s ∷ steps) i y x w p few sat fits r =
    let grows = run_grows (step m s) steps in
    let here = p 0 s (omega arith) in
    let a = step_well long m s w here (omega arith) in
    let b = run_well long (step m s) steps a.well (λ j d l. p (suc j) d (omega arith)) few in
    run_reads long (step m s) steps i y (said i x s) a.well (λ j d l. p (suc j) d (omega arith)) few sat fits
    (step_reads long m s i y x w here (omega arith) (sat_part y (step m s).core.kept (run (step m s) steps).core.kept b.part sat) (λ f c. fits f (b.free f c)) r)
