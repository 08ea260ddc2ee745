-- Steps, one after the other.
use Rattle.std.proofs.Common.{◌≡◌, ℕ, zero, suc, ◌+◌, ◌-◌, ◌<◌, ◌≤◌, Bool, true, false, List, [], ◌∷◌, ◌++◌, Option, Some, None, refl, sym, ap, ◌∙◌, subst, arith, take, drop, get_or, length, set, map, take-append-drop}
use Rattle.std.specs.Prelude.{All, Contains, cond}
use Rattle.std.specs.List.{flat_map}
use Rattle.std.proofs.lemmas.List.{get_or_default, length-map, take_more, length-set}
use Rattle.std.proofs.Math.ListN.{get_or-map}
use Rattle.std.proofs.lemmas.List.Elements.{All-append, All-cons, All-nil, All-set, All-weaker}
use Rattle.std.proofs.lemmas.Grind.{flat_map-append}
use Rattle.std.proofs.lemmas.List.{append-nil}
use Rattle.cnf_form.specs.Cnf.{LitOf, LitWithin, negate}
use Rattle.cnf_form.specs.declared.literal.TheConstants.{MAX_VARS}
use Rattle.gate_graph.specs.declared.gate.Gate.{Gate}
use Rattle.gate_graph.specs.declared.gate.Gate.TheVariants.{And, Xor, Mux, Maj}
use Rattle.gate_graph.specs.declared.gate.Asked.{Asked}
use Rattle.gate_graph.specs.declared.gate.Asked.TheVariants.{Is, Make}
use Rattle.gate_graph.specs.Circuit.{GatesOf}
use Rattle.gate_graph.specs.Folding.{asked, constant, operands}
use Rattle.gate_graph.specs.Kept.{OthersWithin, signed}
use Rattle.net_unroll.specs.Making.{CoreOf, IsMaking, MadeOf, both, found, made_gate, moved, over, over_gate, run, settled, step}
use Rattle.bit_net.specs.Net.{IsNet, NetOf, gate_var, node_at, vars}
use Rattle.bit_net.specs.declared.node.Node.{Node}
use Rattle.bit_net.specs.declared.node.Node.TheVariants as node
use Rattle.std.proofs.lemmas.Bool.{lt-ltb}
use Rattle.bit_net.specs.Reaching.{early_before, is_at, level, levels, next_of, nexts, numbers}
use Rattle.bit_net.proofs.Lists.{filter_in, numbers_end, numbers_in}
use Rattle.bit_net.proofs.Needing.{levels_end}
use Rattle.bit_net.proofs.Extending.{not_less}
use Rattle.bit_net.proofs.Searching.{node_gate, node_state}
use Rattle.net_unroll.specs.Program.{Step, move_of, moves, needed}
use Rattle.net_unroll.specs.declared.asking.Cycles.{Cycles}
use Rattle.net_unroll.specs.Program.Step.{Input, Constant, Copy, Move, Assume, Pass, End}
use Rattle.net_unroll.specs.declared.encoded.Free.{Free}
use Rattle.net_unroll.specs.declared.making.Making.{Making}

pub run_more : (m : MadeOf) (a b : List Step) → run m (a ++ b) ≡ run (run m a) b
run_more m [] b = refl
run_more m (s ∷ a) b = run_more (step m s) a b

pub settled_grows : (c : CoreOf) (a : Asked) → c.vars ≤ (settled c a).0.vars
settled_grows c (Is l) = omega arith
settled_grows c (Make k s) = by (found c.kept k)
  where
    by : (o : Option LitOf) → c.vars ≤ (made_gate c k s o).0.vars
    by None = omega arith
    by (Some l) = omega arith

pub both_grows : (c : CoreOf) (a b : LitOf) → c.vars ≤ (both c a b).0.vars
unfolding both
both_grows c a b = settled_grows c (asked (And a b))

step_grows : (m : MadeOf) (s : Step) → m.core.vars ≤ (step m s).core.vars
step_grows m (Input t v) = omega arith
step_grows m (Constant v b) = omega arith
step_grows m (Copy v g) = settled_grows m.core (asked (over_gate m.table g))
step_grows m (Move ms) = omega arith
step_grows m (Assume l) = both_grows m.core m.assumed (over m.table l)
step_grows m (Pass l) = both_grows m.core m.ok (negate (over m.table l))
step_grows m (End l) =
    let r = both m.core m.ok (over m.table l) in
    let p : m.core.vars ≤ (both m.core m.ok (over m.table l)).0.vars = both_grows m.core m.ok (over m.table l) in
    let q : (both m.core m.ok (over m.table l)).0.vars ≤ (both r.0 m.assumed r.1).0.vars = both_grows r.0 m.assumed r.1 in
    omega arith

pub run_grows : (m : MadeOf) (steps : List Step) → m.core.vars ≤ (run m steps).core.vars
run_grows m [] = omega arith
run_grows m (s ∷ steps) = let p = step_grows m s in let q = run_grows (step m s) steps in omega arith

-- what has passed the limit has passed it after more steps
pub past_more : (m : MadeOf) (a b : List Step) → MAX_VARS < (run m a).core.vars → MAX_VARS < (run m (a ++ b)).core.vars
past_more m a b h = subst (λ (k : MadeOf). MAX_VARS < k.core.vars) (sym (run_more m a b)) (let g = run_grows (run m a) b in omega arith)

-- one element more of a list that gives steps
pub flat_more : {A : Type 0} (f : A → List Step) (xs : List A) (i : ℕ) (x : A) (m : MadeOf) → i < length xs → x ≡ get_or xs i x → run m (flat_map f (take (i + 1) xs)) ≡ run (run m (flat_map f (take i xs))) (f x)
flat_more f xs i x m l at =
    ap (λ ys. run m (flat_map f ys)) (take_more xs i x l ∙ ap (λ y. take i xs ++ y ∷ []) (sym at))
    ∙ ap (run m) (flat_map-append f (take i xs) (x ∷ []) ∙ ap (λ ss. flat_map f (take i xs) ++ ss) (append-nil (f x)))
    ∙ run_more m (flat_map f (take i xs)) (f x)

pub flat_past : {A : Type 0} (f : A → List Step) (xs : List A) (i : ℕ) (x : A) (m : MadeOf) → i < length xs → x ≡ get_or xs i x → MAX_VARS < (run (run m (flat_map f (take i xs))) (f x)).core.vars → MAX_VARS < (run m (flat_map f xs)).core.vars
flat_past f xs i x m l at h =
    subst (λ ys. MAX_VARS < (run m (flat_map f ys)).core.vars) (take-append-drop (i + 1) xs)
    (subst (λ ss. MAX_VARS < (run m ss).core.vars) (sym (flat_map-append f (take (i + 1) xs) (drop (i + 1) xs)))
    (past_more m (flat_map f (take (i + 1) xs)) (flat_map f (drop (i + 1) xs)) (subst (λ (k : MadeOf). MAX_VARS < k.core.vars) (sym (flat_more f xs i x m l at)) h)))

-- what is made stays well formed
pub lits_up : (n m : ℕ) (ls : List LitOf) → n ≤ m → All (LitWithin n) ls → All (LitWithin m) ls
lits_up n m ls h w = All-weaker (LitWithin n) (LitWithin m) (λ l (a, b). (a, omega arith)) ls w

pub frees_up : (n m : ℕ) (fs : List Free) → n ≤ m → All (λ f. (0 < f.var) × (f.var ≤ n)) fs → All (λ f. (0 < f.var) × (f.var ≤ m)) fs
frees_up n m fs h w = All-weaker (λ f. (0 < f.var) × (f.var ≤ n)) (λ f. (0 < f.var) × (f.var ≤ m)) (λ f (a, b). (a, omega arith)) fs w

pub raise : (long : ℕ) (m : Making) (g : GatesOf) → IsMaking long m → m.gates.formula.vars ≤ g.formula.vars → g.most ≡ m.gates.most → IsMaking long (record m { gates = g })
raise long m g w up most = record {
  most = most ∙ w.most;
  size = w.size;
  table = lits_up m.gates.formula.vars g.formula.vars m.table.items up w.table;
  assumed = (w.assumed.0, (let a = w.assumed.1 in omega arith));
  ok = (w.ok.0, (let a = w.ok.1 in omega arith));
  goals = lits_up m.gates.formula.vars g.formula.vars m.goals.items up w.goals;
  free = frees_up m.gates.formula.vars g.formula.vars m.free.items up w.free;
}

-- literals of a table
signed_within : (n : ℕ) (s : Bool) (m : LitOf) → LitWithin n m → LitWithin n (signed s m)
signed_within n true m w = w
signed_within n false m w = w

pub over_within : (n : ℕ) (table : List LitOf) (l : LitOf) → All (LitWithin n) table → l.var < length table → LitWithin n (over table l)
over_within n table l w h = signed_within n l.negated (get_or table l.var (constant true)) (w l.var (constant true) h)

pub operands_within : (n : ℕ) (table : List LitOf) (k : Gate) → All (LitWithin n) table → OthersWithin (length table - 1) (operands k) → OthersWithin n (operands (over_gate table k))
operands_within n table k w h = by k h
  where
    one : (l : LitOf) → LitWithin (length table - 1) l → LitWithin n (over table l)
    one l (a, b) = over_within n table l w (omega arith)

    by : (k : Gate) → OthersWithin (length table - 1) (operands k) → OthersWithin n (operands (over_gate table k))
    by (And a b) u = (one a u.0, (one b u.1.0, tt))
    by (Xor a b) u = (one a u.0, (one b u.1.0, tt))
    by (Mux s a b) u = (one s u.0, (one a u.1.0, (one b u.1.1.0, tt)))
    by (Maj a b c) u = (one a u.0, (one b u.1.0, (one c u.1.1.0, tt)))

-- moves
pub moved_push : (old table : List LitOf) (ms : List (ℕ × LitOf)) (m : ℕ × LitOf) → moved old (ms ++ m ∷ []) table ≡ set (moved old ms table) m.0 (over old m.1)
moved_push old table [] m = refl
moved_push old table (k ∷ ms) m = moved_push old (set table k.0 (over old k.1)) ms m

pub moved_size : (old table : List LitOf) (ms : List (ℕ × LitOf)) → length (moved old ms table) ≡ length table
moved_size old table [] = refl
moved_size old table (k ∷ ms) = moved_size old (set table k.0 (over old k.1)) ms ∙ length-set table k.0 (over old k.1)

pub moved_within : (n : ℕ) (old table : List LitOf) (ms : List (ℕ × LitOf)) → All (LitWithin n) old → All (LitWithin n) table → All (λ m. m.1.var < length old) ms → All (LitWithin n) (moved old ms table)
moved_within n old table [] w v h = v
moved_within n old table (k ∷ ms) w v h = moved_within n old (set table k.0 (over old k.1)) ms w (All-set (LitWithin n) table k.0 (over old k.1) (over_within n old k.1 w (h 0 k (omega arith))) v) (λ i d l. h (suc i) d (omega arith))

pub write_step : (old table : List LitOf) (ms : List (ℕ × LitOf)) (lits : List LitOf) (i : ℕ) (m : ℕ × LitOf) (l : LitOf) → i < length ms → m ≡ get_or ms i m → lits ≡ map (λ (k : ℕ × LitOf). over old k.1) ms → l ≡ get_or lits i l →
    table ≡ moved old (take i ms) old → set table m.0 l ≡ moved old (take (i + 1) ms) old
write_step old table ms lits i m l h at is here before =
    ap (λ (t : List LitOf). set t m.0 l) before
    ∙ ap (set (moved old (take i ms) old) m.0) value
    ∙ sym (moved_push old old (take i ms) m)
    ∙ ap (λ (ks : List (ℕ × LitOf)). moved old ks old) (sym (take_more ms i m h ∙ ap (λ (k : ℕ × LitOf). take i ms ++ k ∷ []) (sym at)))
  where
    size : i < length lits
    size = let a = ap length is in let b = length-map ms (λ (k : ℕ × LitOf). over old k.1) in omega arith

    value : l ≡ over old m.1
    value = here ∙ get_or_default lits i l (over old m.1) size ∙ ap (λ (ls : List LitOf). get_or ls i (over old m.1)) is ∙ get_or-map (λ (k : ℕ × LitOf). over old k.1) ms i m ∙ ap (λ (k : ℕ × LitOf). over old k.1) (sym at)

-- what a net's gates read
pub node_operands : (n : NetOf) (v : ℕ) (g : Gate) → IsNet n → v ≤ vars n → node_at n v ≡ node.Gate g → OthersWithin (vars n) (operands g)
node_operands n v g net hi h = let (k, at, var) = node_gate n v g h in up (gate_var n k - 1) (vars n) (operands g) (omega arith) (net.gates k g at)
  where
    up : (a b : ℕ) (ls : List LitOf) → a ≤ b → OthersWithin a ls → OthersWithin b ls
    up a b [] h w = tt
    up a b (l ∷ ls) h w = let (c, d) = w.0 in ((c, omega arith), up a b ls h w.1)

-- what a net's states take
pub move_within : (n : NetOf) (v : ℕ) → IsNet n → 1 < v → v ≤ vars n → All (λ (m : ℕ × LitOf). (m.0 < vars n + 1) × (m.1.var < vars n + 1)) (move_of v (node_at n v))
move_within n v net lo hi = by (node_at n v) refl
  where
    by : (m : Node) → node_at n v ≡ m → All (λ (m : ℕ × LitOf). (m.0 < vars n + 1) × (m.1.var < vars n + 1)) (move_of v m)
    by (node.State s) e =
        let (k, at, var) = node_state n v s lo e in
        let (a, b) = net.next k s at in
        All-cons (λ (m : ℕ × LitOf). (m.0 < vars n + 1) × (m.1.var < vars n + 1)) (v, s.next) [] (omega arith, omega arith) (All-nil (λ (m : ℕ × LitOf). (m.0 < vars n + 1) × (m.1.var < vars n + 1)))
    by node.Input e = All-nil (λ (m : ℕ × LitOf). (m.0 < vars n + 1) × (m.1.var < vars n + 1))
    by (node.Gate g) e = All-nil (λ (m : ℕ × LitOf). (m.0 < vars n + 1) × (m.1.var < vars n + 1))

pub moves_within : (n : NetOf) (vs : List ℕ) → IsNet n → All (λ v. (1 < v) × (v ≤ vars n)) vs → All (λ (m : ℕ × LitOf). (m.0 < vars n + 1) × (m.1.var < vars n + 1)) (moves n vs)
moves_within n [] net w = All-nil (λ (m : ℕ × LitOf). (m.0 < vars n + 1) × (m.1.var < vars n + 1))
moves_within n (v ∷ vs) net w =
    let (lo, hi) = w 0 v (omega arith) in
    All-append (λ (m : ℕ × LitOf). (m.0 < vars n + 1) × (m.1.var < vars n + 1)) (move_of v (node_at n v)) (moves n vs) (move_within n v net lo hi) (moves_within n vs net (λ i d l. w (suc i) d (omega arith)))

pub moves_places : (n : NetOf) (vs : List ℕ) → IsNet n → All (λ v. (1 < v) × (v ≤ vars n)) vs → All (λ (m : ℕ × LitOf). m.0 < vars n + 1) (moves n vs)
moves_places n vs net w = All-weaker (λ (m : ℕ × LitOf). (m.0 < vars n + 1) × (m.1.var < vars n + 1)) (λ (m : ℕ × LitOf). m.0 < vars n + 1) (λ m (a, b). a) (moves n vs) (moves_within n vs net w)

pub moves_lits : (n : NetOf) (vs : List ℕ) → IsNet n → All (λ v. (1 < v) × (v ≤ vars n)) vs → All (λ (m : ℕ × LitOf). m.1.var < vars n + 1) (moves n vs)
moves_lits n vs net w = All-weaker (λ (m : ℕ × LitOf). (m.0 < vars n + 1) × (m.1.var < vars n + 1)) (λ (m : ℕ × LitOf). m.1.var < vars n + 1) (λ m (a, b). b) (moves n vs) (moves_within n vs net w)

-- a loop over variables that give steps
pub loop_step : (f : ℕ → List Step) (xs : List ℕ) (i : ℕ) (old mid new : MadeOf) (steps : List Step) → i < length xs → mid ≡ run old (flat_map f (take i xs)) → steps ≡ f (get_or xs i 0) → new ≡ run mid steps →
    new ≡ run old (flat_map f (take (i + 1) xs))
loop_step f xs i old mid new steps l before same e =
    e ∙ ap (run mid) same ∙ ap (λ (m : MadeOf). run m (f (get_or xs i 0))) before
    ∙ sym (flat_more f xs i (get_or xs i 0) old l (get_or_default xs i 0 (get_or xs i 0) l))

pub loop_past : (f : ℕ → List Step) (xs : List ℕ) (i : ℕ) (old mid : MadeOf) (steps : List Step) → i < length xs → mid ≡ run old (flat_map f (take i xs)) → steps ≡ f (get_or xs i 0) → MAX_VARS < (run mid steps).core.vars →
    MAX_VARS < (run old (flat_map f xs)).core.vars
loop_past f xs i old mid steps l before same h =
    flat_past f xs i (get_or xs i 0) old l (get_or_default xs i 0 (get_or xs i 0) l)
    (subst (λ (m : MadeOf). MAX_VARS < (run m (f (get_or xs i 0))).core.vars) before (subst (λ (ss : List Step). MAX_VARS < (run mid ss).core.vars) same h))

-- steps, one step, and steps
pub past_after : (m : MadeOf) (a : List Step) (s : Step) (w : List Step) → MAX_VARS < (run (run m a) (s ∷ [])).core.vars → MAX_VARS < (run m (a ++ (s ∷ w))).core.vars
past_after m a s w h = subst (λ (k : MadeOf). MAX_VARS < k.core.vars) (sym (run_more m a (s ∷ w))) (let g = run_grows (step (run m a) s) w in omega arith)

pub three : (old mid late new : MadeOf) (a : List Step) (s : Step) (w : List Step) → mid ≡ run old a → late ≡ run mid (s ∷ []) → new ≡ run late w → new ≡ run old (a ++ (s ∷ w))
three old mid late new a s w p q r = r ∙ ap (λ (k : MadeOf). run k w) (q ∙ ap (λ (k : MadeOf). run k (s ∷ [])) p) ∙ sym (run_more old a (s ∷ w))

pub past_two : (old mid : MadeOf) (a : List Step) (s : Step) (w : List Step) → mid ≡ run old a → MAX_VARS < (run mid (s ∷ [])).core.vars → MAX_VARS < (run old (a ++ (s ∷ w))).core.vars
past_two old mid a s w p h = past_after old a s w (subst (λ (k : MadeOf). MAX_VARS < (run k (s ∷ [])).core.vars) p h)

pub past_three : (old mid late : MadeOf) (a : List Step) (s : Step) (w : List Step) → mid ≡ run old a → late ≡ run mid (s ∷ []) → MAX_VARS < (run late w).core.vars → MAX_VARS < (run old (a ++ (s ∷ w))).core.vars
past_three old mid late a s w p q h = subst (λ (k : MadeOf). MAX_VARS < k.core.vars) (three old mid late (run late w) a s w p q refl) h

-- what states take is within a net
next_within : (n : NetOf) (v : ℕ) → IsNet n → 1 < v → All (LitWithin (vars n)) (next_of (node_at n v))
next_within n v net lo = by (node_at n v) refl
  where
    by : (m : Node) → node_at n v ≡ m → All (LitWithin (vars n)) (next_of m)
    by (node.State s) e = let (k, at, var) = node_state n v s lo e in All-cons (LitWithin (vars n)) s.next [] (net.next k s at) (All-nil (LitWithin (vars n)))
    by node.Input e = All-nil (LitWithin (vars n))
    by (node.Gate g) e = All-nil (LitWithin (vars n))

pub nexts_within : (n : NetOf) (vs : List ℕ) → IsNet n → All (λ v. (1 < v) × (v ≤ vars n)) vs → All (LitWithin (vars n)) (nexts n vs)
nexts_within n [] net w = All-nil (LitWithin (vars n))
nexts_within n (v ∷ vs) net w = All-append (LitWithin (vars n)) (next_of (node_at n v)) (nexts n vs) (next_within n v net (w 0 v (omega arith)).0) (nexts_within n vs net (λ i d l. w (suc i) d (omega arith)))

-- levels have a net's variables
pub all_in : {A : Type 0} (P : A → Type 0) (xs : List A) → ((x : A) → Contains xs x → P x) → All P xs
all_in P xs h k d l = h (get_or xs k d) (k, l, get_or_default xs k (get_or xs k d) d l)

pub levels_within : (n : NetOf) (now before : List LitOf) (many : ℕ) → All (λ v. (1 < v) × (v ≤ vars n)) (levels n now before many)
levels_within n now before zero = All-nil (λ v. (1 < v) × (v ≤ vars n))
levels_within n now before (suc d) =
    subst (All (λ v. (1 < v) × (v ≤ vars n))) (sym (levels_end n now before d))
    (All-append (λ v. (1 < v) × (v ≤ vars n)) (levels n now before d) (level n now before d) (levels_within n now before d)
    (all_in (λ v. (1 < v) × (v ≤ vars n)) (level n now before d) (λ v c. (let (i, h) = filter_in (is_at n now before d) (numbers 2 (length n.states + n.inputs + length n.gates)) v c in
    let (lo, hi) = numbers_in 2 (length n.states + n.inputs + length n.gates) v i in (omega arith, omega arith)))))

pub first_level : (n : NetOf) (goals : List LitOf) → levels n goals [] 1 ≡ early_before n goals
first_level n goals = append-nil (level n goals [] 0)

-- numbers in two parts
pub numbers_split : (first i j : ℕ) → numbers first (i + j) ≡ numbers first i ++ numbers (first + i) j
numbers_split first zero j = ap (numbers first) (let e : 0 + j ≡ j = omega arith in e) ∙ ap (λ (k : ℕ). numbers k j) (let e : first ≡ first + 0 = omega arith in e)
numbers_split first (suc i) j =
    ap (numbers first) (let e : suc i + j ≡ suc (i + j) = omega arith in e)
    ∙ ap (λ (xs : List ℕ). first ∷ xs) (numbers_split (suc first) i j)
    ∙ ap (λ (k : ℕ). first ∷ (numbers (suc first) i ++ numbers k j)) (let e : suc first + i ≡ first + suc i = omega arith in e)

-- cycles one after the other
pub cycles_more : (f : ℕ → List Step) (t : ℕ) (old mid new : MadeOf) → mid ≡ run old (flat_map f (numbers 0 t)) → new ≡ run mid (f t) → new ≡ run old (flat_map f (numbers 0 (t + 1)))
cycles_more f t old mid new p q =
    q ∙ ap (λ (k : MadeOf). run k (f t)) p ∙ sym (run_more old (flat_map f (numbers 0 t)) (f t))
    ∙ ap (run old) (ap (λ ss. flat_map f (numbers 0 t) ++ ss) (sym (append-nil (f t))) ∙ sym (flat_map-append f (numbers 0 t) (t ∷ [])))
    ∙ ap (λ vs. run old (flat_map f vs)) (ap (λ (k : ℕ). numbers 0 t ++ k ∷ []) (let e : t ≡ 0 + t = omega arith in e) ∙ sym (numbers_end 0 t) ∙ ap (numbers 0) (let e : suc t ≡ t + 1 = omega arith in e))

pub cycles_past : (f : ℕ → List Step) (t count : ℕ) (old mid : MadeOf) → t < count → mid ≡ run old (flat_map f (numbers 0 t)) → MAX_VARS < (run mid (f t)).core.vars → MAX_VARS < (run old (flat_map f (numbers 0 count))).core.vars
cycles_past f t count old mid l p h =
    subst (λ vs. MAX_VARS < (run old (flat_map f vs)).core.vars) (sym (ap (numbers 0) (let e : count ≡ (t + 1) + (count - (t + 1)) = omega arith in e) ∙ numbers_split 0 (t + 1) (count - (t + 1))))
    (subst (λ ss. MAX_VARS < (run old ss).core.vars) (sym (flat_map-append f (numbers 0 (t + 1)) (numbers (0 + (t + 1)) (count - (t + 1)))))
    (past_more old (flat_map f (numbers 0 (t + 1))) (flat_map f (numbers (0 + (t + 1)) (count - (t + 1)))) (subst (λ (k : MadeOf). MAX_VARS < k.core.vars) (cycles_more f t old mid (run mid (f t)) p refl) h)))

-- what a cycle needs
pub needed_early : (n : NetOf) (goal : LitOf) (c : Cycles) (t : ℕ) → t < c.first → needed n goal c t ≡ levels n (n.assumed ∷ []) (nexts n (early_before n (goal ∷ n.assumed ∷ []))) (c.count - t)
needed_early n goal c t l = ap (λ (b : Bool). cond b (levels n (n.assumed ∷ []) (nexts n (early_before n (goal ∷ n.assumed ∷ []))) (c.count - t)) (levels n (goal ∷ n.assumed ∷ []) [] (c.count - t))) (lt-ltb t c.first l)

pub needed_late : (n : NetOf) (goal : LitOf) (c : Cycles) (t : ℕ) → c.first ≤ t → needed n goal c t ≡ levels n (goal ∷ n.assumed ∷ []) [] (c.count - t)
needed_late n goal c t l = ap (λ (b : Bool). cond b (levels n (n.assumed ∷ []) (nexts n (early_before n (goal ∷ n.assumed ∷ []))) (c.count - t)) (levels n (goal ∷ n.assumed ∷ []) [] (c.count - t))) (not_less t c.first l)
