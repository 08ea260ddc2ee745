-- A word is built bit by bit.
use Rattle.std.proofs.Common.{◌≡◌, ◌⊎◌, ℕ, zero, suc, ◌+◌, ◌-◌, ◌<◌, ◌≤◌, Bool, true, false, cond, not, ◌&&◌, List, [], ◌∷◌, ◌++◌, length, take, length-append, get_or, refl, sym, ◌∙◌, ap, subst, inl, inr, arith}
use Rattle.std.specs.Prelude.{All, Result, Ok, Err, IfOk}
use Rattle.std.proofs.lemmas.Bool.{cases_lt}
use Rattle.std.proofs.lemmas.List.{ext_get_or, get_or-map, get_or_past, length-map, get_or_append_left, take_more, take_all, append-nil}
use Rattle.std.proofs.lemmas.List.Elements.{All-nil, All-push, All-weaker}
use Rattle.std.proofs.Math.ListN.{get_or-map as mapped}
use Rattle.cnf_form.specs.Cnf.{LitOf, Assignment, Satisfies, LitWithin, lit_in, negate}
use Rattle.cell_table.specs.Cells.{bitwise}
use Rattle.gate_graph.specs.Circuit.{GatesOf, MakesGate, Means, Continues, xor}
use Rattle.gate_graph.specs.Laws.{keeps, Continues-refl, Continues-trans}
use Rattle.gate_graph.specs.Kept.{out_of_memory, IsFull as IsFullNow}
use Rattle.gate_graph.specs.declared.gates.GateFault.{GateFault}
use Rattle.gate_graph.specs.declared.gates.GateFault.TheVariants.{TooMany, Memory}
use Rattle.gate_graph.proofs.OneTable.{lit_negated}
use Rattle.std.specs.Prelude.{ℤ}
use Rattle.sby_bits.specs.Rows.{Row, top_bit, fit}
use Rattle.sby_bits.proofs.Numbers.{top_bit-at, length-fit}
use Rattle.gate_rows.specs.Literals.{row_of, MeansRow, MeansBit, Builds, IsFull}
use Rattle.gate_rows.specs.Sums.{IsBuilt, IsChained, chained}

-- what is built
pub Builds-none : (g : GatesOf) (n : ℕ) → Builds g g n
Builds-none g n = record { continues = Continues-refl g; inputs = refl; most = omega arith }

pub Builds-trans : (f g h : GatesOf) (m n k : ℕ) → Builds f g m → Builds g h n → m + n ≤ k → Builds f h k
Builds-trans f g h m n k p q l = record {
  continues = Continues-trans f g h p.continues q.continues;
  inputs = q.inputs ∙ p.inputs;
  most = let a = p.most in let b = q.most in omega arith;
}

pub Builds-more : (f g : GatesOf) (m n : ℕ) → Builds f g m → m ≤ n → Builds f g n
Builds-more f g m n p l = record { continues = p.continues; inputs = p.inputs; most = let a = p.most in omega arith }

pub Builds-gate : (g h : GatesOf) (value : Assignment → Bool) (l : LitOf) → MakesGate g h value l → Builds g h 1
Builds-gate g h value l m = record { continues = m.continues; inputs = m.inputs; most = m.most }

-- a gate that is made or refused
pub gate_builds : (g h : GatesOf) (v : Assignment → Bool) (r : Result LitOf GateFault) → IfOk r (MakesGate g h v) → (r ≡ Err TooMany → h ≡ g) → (r ≡ Err Memory → h ≡ out_of_memory g) → Builds g h 1
gate_builds g h v (Ok l) m p q = Builds-gate g h v l m
gate_builds g h v (Err TooMany) m p q = rw (p refl) (Builds-none g 1)
gate_builds g h v (Err Memory) m p q = rw (q refl) (record { continues = record { vars = omega arith; clauses = ([], sym (append-nil g.formula.clauses)); inputs = ([], sym (append-nil g.inputs)); kept = ([], sym (append-nil g.kept)); limit = refl }; inputs = refl; most = omega arith })

pub gate_full : (g h : GatesOf) → IsFullNow g → h ≡ g → IsFull g h 1
gate_full g h f e = rw e (record { full = f.full; past = let a = f.full in omega arith })

-- a call that is refused after gates that were built
pub full_on : {T : Type 0} (f g h : GatesOf) (m n k : ℕ) (r : Result T GateFault) → Builds f g m → (r ≡ Err TooMany → IsFull g h n) → m + n ≤ k → r ≡ Err TooMany → IsFull f h k
full_on f g h m n k r p q l e = let z = q e in record { full = z.full; past = let a = p.most in let b = z.past in let c = p.continues.limit in omega arith }

pub MakesGate-negated : (g h : GatesOf) (v w : Assignment → Bool) (l : LitOf) → MakesGate g h v l → ((x : Assignment) → not (v x) ≡ w x) → MakesGate g h w (negate l)
MakesGate-negated g h v w l m e = record {
  continues = m.continues;
  inputs = m.inputs;
  most = m.most;
  within = let a = m.within in (a.0, a.1);
  means = λ x s. lit_negated x l ∙ ap not (m.means x s) ∙ e x;
}

pub MakesGate-same : (g h : GatesOf) (v w : Assignment → Bool) (l : LitOf) → MakesGate g h v l → ((x : Assignment) → v x ≡ w x) → MakesGate g h w l
MakesGate-same g h v w l m e = record { continues = m.continues; inputs = m.inputs; most = m.most; within = m.within; means = λ x s. m.means x s ∙ e x }

-- a literal of a word, with what fills it up
pub within_or : (n : ℕ) (word : List LitOf) (j : ℕ) (fill : LitOf) → All (LitWithin n) word → LitWithin n fill → LitWithin n (get_or word j fill)
within_or n word j fill w f = elim (cases_lt j (length word)) as (λ _. LitWithin n (get_or word j fill)) [
  | inl h ↦ w j fill h
  | inr h ↦ subst (LitWithin n) (sym (get_or_past word j fill h)) f
]

pub lit_or-in : (x : Assignment) (word : List LitOf) (j : ℕ) (fill : LitOf) → lit_in x (get_or word j fill) ≡ get_or (row_of x word) j (lit_in x fill)
lit_or-in x word j fill = sym (mapped (lit_in x) word j fill)

pub last-in : (x : Assignment) (word : List LitOf) (k : ℕ) (d : LitOf) → k ≡ length word - 1 → 1 ≤ length word → lit_in x (get_or word k d) ≡ top_bit (row_of x word)
last-in x word k d e h =
    let n : length (row_of x word) ≡ length word = length-map word (lit_in x) in
    sym (get_or-map (lit_in x) word k d false (omega arith)) ∙ ap (λ (i : ℕ). get_or (row_of x word) i false) (omega arith) ∙ sym (top_bit-at (row_of x word))

pub All-later : (m n : ℕ) (word : List LitOf) → m ≤ n → All (LitWithin m) word → All (LitWithin n) word
All-later m n word h w = All-weaker (LitWithin m) (LitWithin n) (λ l p. (p.0, omega arith)) word w

-- a word, bit by bit
pub Built-none : (g : GatesOf) (bits : Assignment → ℕ → Bool) → IsBuilt g g bits 0 []
Built-none g bits = record {
  builds = Builds-none g 0;
  as_many = refl;
  within = All-nil (LitWithin g.formula.vars);
  means = λ x s j h. absurd (omega arith);
}

below_or_last : (k t : ℕ) → k < t + 1 → (k < t) ⊎ (k ≡ t)
below_or_last k t h = elim (cases_lt k t) as (λ _. (k < t) ⊎ (k ≡ t)) [ inl p ↦ inl p | inr q ↦ inr (omega arith) ]

pushed_old : (x : Assignment) (word : List LitOf) (l : LitOf) (j : ℕ) → j < length word → get_or (row_of x (word ++ l ∷ [])) j false ≡ get_or (row_of x word) j false
pushed_old x word l j h =
    let n : length (word ++ l ∷ []) ≡ length word + 1 = length-append word (l ∷ []) in
    get_or-map (lit_in x) (word ++ l ∷ []) j l false (omega arith) ∙ ap (lit_in x) (get_or_append_left word (l ∷ []) l j h)
    ∙ sym (get_or-map (lit_in x) word j l false h)

pushed_new : (x : Assignment) (word : List LitOf) (l : LitOf) → get_or (row_of x (word ++ l ∷ [])) (length word) false ≡ lit_in x l
pushed_new x [] l = refl
pushed_new x (m ∷ word) l = pushed_new x word l

pub Built-push : (f g h : GatesOf) (bits : Assignment → ℕ → Bool) (k : ℕ) (word : List LitOf) (l : LitOf) → IsBuilt f g bits k word → Builds g h 1 →
    LitWithin h.formula.vars l → ((x : Assignment) → Satisfies x h.formula.clauses → lit_in x l ≡ bits x k) → IsBuilt f h bits (k + 1) (word ++ l ∷ [])
Built-push f g h bits k word l p q w m = record {
  builds = Builds-trans f g h k 1 (k + 1) p.builds q (omega arith);
  as_many = let e = p.as_many in length-append word (l ∷ []) ∙ ap (λ (n : ℕ). n + 1) e;
  within = All-push (LitWithin h.formula.vars) word l (All-later g.formula.vars h.formula.vars word q.continues.vars p.within) w;
  means = λ x s j lt. elim (below_or_last j k lt) as (λ _. get_or (row_of x (word ++ l ∷ [])) j false ≡ bits x j) [
    | inl i ↦ pushed_old x word l j (let e = p.as_many in omega arith) ∙ p.means x (keeps g h q.continues x s) j i
    | inr i ↦
        let e : j ≡ length word = i ∙ sym p.as_many in
        subst (λ (n : ℕ). get_or (row_of x (word ++ l ∷ [])) n false ≡ bits x n) (sym i)
        (subst (λ (n : ℕ). get_or (row_of x (word ++ l ∷ [])) n false ≡ bits x k) p.as_many (pushed_new x word l ∙ m x s))
  ];
}

pub Built-row : (f g : GatesOf) (bits : Assignment → ℕ → Bool) (y : ℕ) (word : List LitOf) (row : Assignment → Row) → IsBuilt f g bits y word →
    ((x : Assignment) → length (row x) ≡ y) → ((x : Assignment) (j : ℕ) → j < y → bits x j ≡ get_or (row x) j false) → MeansRow g row word
Built-row f g bits y word row p n e = record {
  as_many = λ x. p.as_many ∙ sym (n x);
  within = p.within;
  means = λ x s.
      let a : length (row_of x word) ≡ length word = length-map word (lit_in x) in
      let b = n x in
      let c = p.as_many in
      ext_get_or false (row_of x word) (row x) (omega arith) (λ j h. let l : j < y = omega arith in p.means x s j l ∙ e x j l);
}

-- a read of a word, at gates that have grown
pub later_or : (m n : ℕ) (word : List LitOf) (j : ℕ) (fill r : LitOf) → m ≤ n → All (LitWithin m) word → LitWithin m fill → r ≡ get_or word j fill → LitWithin n r
later_or m n word j fill r h w f e = let p = within_or m word j fill w f in rw e (p.0, omega arith)

-- a literal that is there keeps within
pub later : (m n : ℕ) (l : LitOf) → m ≤ n → LitWithin m l → LitWithin n l
later m n l h w = (w.0, omega arith)

-- a literal that is read
pub within_at : (m n : ℕ) (a : List LitOf) (i : ℕ) (p : LitOf) → m ≤ n → All (LitWithin m) a → i < length a → p ≡ get_or a i p → LitWithin n p
within_at m n a i p h w lt e = later m n p h (subst (LitWithin m) (sym e) (w i p lt))

pub read : (x : Assignment) (a : List LitOf) (i : ℕ) (p : LitOf) → i < length a → p ≡ get_or a i p → get_or (row_of x a) i false ≡ lit_in x p
read x a i p h e = get_or-map (lit_in x) a i p false h ∙ ap (lit_in x) (sym e)

pub length-row : (x : Assignment) (a : List LitOf) → length (row_of x a) ≡ length a
length-row x a = length-map a (lit_in x)

-- bit by bit
pub bitwise-at : (f : Bool → Bool → Bool) (r s : Row) (j : ℕ) → j < length r → j < length s → get_or (bitwise f r s) j false ≡ f (get_or r j false) (get_or s j false)
bitwise-at f [] s j h g = absurd (omega arith)
bitwise-at f (a ∷ r) [] j h g = absurd (omega arith)
bitwise-at f (a ∷ r) (b ∷ s) zero h g = refl
bitwise-at f (a ∷ r) (b ∷ s) (suc j) h g = bitwise-at f r s j (omega arith) (omega arith)

pub length-bitwise : (f : Bool → Bool → Bool) (r s : Row) → length r ≡ length s → length (bitwise f r s) ≡ length r
length-bitwise f [] s e = refl
length-bitwise f (a ∷ r) [] e = absurd (omega arith)
length-bitwise f (a ∷ r) (b ∷ s) e = ap suc (length-bitwise f r s (omega arith))

-- one bit more of a chain
chained-push : (f : Bool → Bool → Bool) (s : Bool) (r : Row) (b : Bool) → chained f s (r ++ b ∷ []) ≡ f (chained f s r) b
chained-push f s [] b = refl
chained-push f s (c ∷ r) b = chained-push f (f s c) r b

pub Chained-none : (g : GatesOf) (f : Assignment → Bool → Bool → Bool) (start : LitOf) (a : List LitOf) → LitWithin g.formula.vars start → IsChained g g f start a 0 start
Chained-none g f start a w = record { builds = Builds-none g 0; within = w; means = λ x s. refl }

pub Chained-next : (e g h : GatesOf) (f : Assignment → Bool → Bool → Bool) (start : LitOf) (a : List LitOf) (k : ℕ) (l p m : LitOf) → IsChained e g f start a k l →
    k < length a → p ≡ get_or a k p → MakesGate g h (λ x. f x (lit_in x l) (lit_in x p)) m → IsChained e h f start a (k + 1) m
Chained-next e g h f start a k l p m z lt ep w = record {
  builds = Builds-trans e g h k 1 (k + 1) z.builds (Builds-gate g h _ m w) (omega arith);
  within = w.within;
  means = λ x t.
      let old = z.means x (keeps g h w.continues x t) in
      let n = length-row x a in
      let more : take (k + 1) (row_of x a) ≡ take k (row_of x a) ++ lit_in x p ∷ [] = take_more (row_of x a) k false (omega arith) ∙ ap (λ (b : Bool). take k (row_of x a) ++ b ∷ []) (read x a k p lt ep) in
      w.means x t ∙ ap (λ (b : Bool). f x b (lit_in x p)) old ∙ sym (chained-push (f x) (lit_in x start) (take k (row_of x a)) (lit_in x p))
      ∙ ap (chained (f x) (lit_in x start)) (sym more);
}

pub Chained-all : (e g : GatesOf) (f : Assignment → Bool → Bool → Bool) (start : LitOf) (a : List LitOf) (k : ℕ) (l : LitOf) → IsChained e g f start a k l → length a ≤ k → MeansBit g (λ x. chained (f x) (lit_in x start) (row_of x a)) l
Chained-all e g f start a k l z n = record {
  within = z.within;
  means = λ x t. z.means x t ∙ ap (chained (f x) (lit_in x start)) (take_all k (row_of x a) (let m = length-row x a in omega arith));
}

-- rows of one meaning
pub Row-same : (g : GatesOf) (F G : Assignment → Row) (word : List LitOf) → MeansRow g F word → ((x : Assignment) → length (F x) ≡ length (G x)) → ((x : Assignment) → Satisfies x g.formula.clauses → F x ≡ G x) → MeansRow g G word
Row-same g F G word m n e = record { as_many = λ x. m.as_many x ∙ n x; within = m.within; means = λ x s. m.means x s ∙ e x s }

-- a row of gates that were there
pub Row-later : (f g : GatesOf) (F : Assignment → Row) (word : List LitOf) → Continues f g → MeansRow f F word → MeansRow g F word
Row-later f g F word k m = record { as_many = m.as_many; within = All-later f.formula.vars g.formula.vars word k.vars m.within; means = λ x s. m.means x (keeps f g k x s) }

pub fit_long : (g : GatesOf) (y : ℕ) (F : Assignment → ℤ) (word : List LitOf) → MeansRow g (λ x. fit y (F x)) word → length word ≡ y
fit_long g y F word m = let x : Assignment = λ _. false in m.as_many x ∙ length-fit y (F x)
