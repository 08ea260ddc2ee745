-- A model whose parts are added one after the other.
use Rattle.std.proofs.Common.{◌≡◌, ℕ, zero, suc, ◌+◌, ◌<◌, ◌≤◌, ◌^◌, Bool, true, false, cond, ◌||◌, List, [], ◌∷◌, ◌++◌, Option, Some, length, map, take, drop, refl, sym, ap, subst, ◌∙◌, arith, append_assoc, length-append, length-drop}
use Rattle.std.specs.Prelude.{Contains, slice_get}
use Rattle.std.specs.List.{filter, flat_map}
use Rattle.std.proofs.lemmas.Grind.{flat_map-append}
use Rattle.std.proofs.lemmas.List.{append-nil, length-take-le, map-append}
use Rattle.std.proofs.lemmas.Option.{slice_get_within}
use Rattle.std.proofs.lemmas.List.Elements.{filter-append}
use Rattle.cell_table.specs.declared.kind.Unary.{Unary}
use Rattle.cell_table.specs.declared.kind.Unary.TheVariants.{Not, Pos, Neg}
use Rattle.cell_table.specs.declared.kind.Binary.{Binary}
use Rattle.cell_table.specs.declared.kind.Binary.TheVariants.{And, Or, Xor, Xnor, Add, Sub, Mul}
use Rattle.cell_table.specs.declared.kind.Compare.{Compare}
use Rattle.cell_table.specs.declared.kind.Compare.TheVariants.{Eq, Ne, Eqx, Nex, Lt, Le, Gt, Ge}
use Rattle.model_core.specs.Served.{HasWidths, binary_limit, compare_limit, unary_limit}
use Rattle.model_core.specs.Shape.{ModelOf, NodeOf, RegisterOf, states}
use Rattle.model_core.proofs.Lists.{drop_at}
use Rattle.model_core.specs.declared.model.Control.{Control}
use Rattle.model_core.specs.declared.op.Op.{Op}
use Rattle.model_core.specs.declared.op.Op.TheVariants as op
use Rattle.model_cone.specs.Slice.{has_kept, kept_at, kept_registers, narrowed}
use Rattle.model_cone.proofs.Narrowing.{kept-more, kept-nothing, kept-taken}

pub take-next : {A : Type 0} (xs : List A) (i : ℕ) (x : A) → slice_get xs i ≡ Some x → take (i + 1) xs ≡ take i xs ++ x ∷ []
take-next xs i x e = let n : i + 1 ≡ suc i = omega arith in rw n (by xs i x e)
  where
    by : {A : Type 0} (xs : List A) (i : ℕ) (x : A) → slice_get xs i ≡ Some x → take (suc i) xs ≡ take i xs ++ x ∷ []
    by [] i x e = absurd cc
    by (y ∷ xs) zero x e = cc
    by {A = A} (y ∷ xs) (suc i) x e = ap (λ (zs : List A). y ∷ zs) (by xs i x e)

-- the nodes of one element more
pub nodes-grow : {A : Type 0} (F : List A → List NodeOf) → ((ys zs : List A) → F (ys ++ zs) ≡ F ys ++ F zs) → (xs : List A) (i : ℕ) (x : A) → slice_get xs i ≡ Some x → (old mid new : ModelOf)
    → mid ≡ record old { nodes = old.nodes ++ F (take i xs) } → new ≡ record mid { nodes = mid.nodes ++ F (x ∷ []) } → new ≡ record old { nodes = old.nodes ++ F (take (i + 1) xs) }
nodes-grow F split xs i x e old mid new em en =
    let more : F (take (i + 1) xs) ≡ F (take i xs) ++ F (x ∷ []) = rw (take-next xs i x e) (split (take i xs) (x ∷ [])) in
    let all : (old.nodes ++ F (take i xs)) ++ F (x ∷ []) ≡ old.nodes ++ F (take (i + 1) xs) = append_assoc old.nodes (F (take i xs)) (F (x ∷ [])) ∙ ap (λ (ns : List NodeOf). old.nodes ++ ns) (sym more) in
    en ∙ ap (λ (m : ModelOf). record m { nodes = m.nodes ++ F (x ∷ []) }) em ∙ ap (λ (ns : List NodeOf). record old { nodes = ns }) all

pub mapped-split : {A B : Type 0} (f : A → B) (test : A → Bool) (ys zs : List A) → map f (filter test (ys ++ zs)) ≡ map f (filter test ys) ++ map f (filter test zs)
mapped-split f test ys zs = rw (filter-append test ys zs) (map-append f (filter test ys) (filter test zs))

-- a node's rows have at most 4096 places
unary-small : (k : Unary) (n : ℕ) → n ≤ unary_limit k → n < 2 ^ 32
unary-small Not n h = omega arith
unary-small Pos n h = omega arith
unary-small Neg n h = omega arith

binary-small : (k : Binary) (n : ℕ) → n ≤ binary_limit k → n < 2 ^ 32
binary-small And n h = omega arith
binary-small Or n h = omega arith
binary-small Xor n h = omega arith
binary-small Xnor n h = omega arith
binary-small Add n h = omega arith
binary-small Sub n h = omega arith
binary-small Mul n h = omega arith

compare-small : (k : Compare) (n : ℕ) → n ≤ compare_limit k → n < 2 ^ 32
compare-small Eq n h = omega arith
compare-small Ne n h = omega arith
compare-small Eqx n h = omega arith
compare-small Nex n h = omega arith
compare-small Lt n h = omega arith
compare-small Le n h = omega arith
compare-small Gt n h = omega arith
compare-small Ge n h = omega arith

pub op-small : (o : Op) (a b s y : ℕ) → HasWidths o a b s y → (a < 2 ^ 32) × (b < 2 ^ 32) × (s < 2 ^ 32) × (y < 2 ^ 32)
op-small op.Copy a b s y h = let w = h.0 in (omega arith, omega arith, omega arith, omega arith)
op-small (op.Unary k signed) a b s y h = (unary-small k a h.0.1, omega arith, omega arith, unary-small k y h.1.1)
op-small (op.Binary k signed) a b s y h = (binary-small k a h.0.1, binary-small k b h.1.1, omega arith, binary-small k y h.2.1)
op-small (op.Reduce k) a b s y h = (omega arith, omega arith, omega arith, omega arith)
op-small (op.Logic k) a b s y h = (omega arith, omega arith, omega arith, omega arith)
op-small (op.Compare k signed) a b s y h = (compare-small k a h.0.1, compare-small k b h.1.1, omega arith, omega arith)
op-small (op.ShiftLeft signed) a b s y h = (omega arith, omega arith, omega arith, omega arith)
op-small (op.ShiftRight signed) a b s y h = (omega arith, omega arith, omega arith, omega arith)
op-small (op.ShiftSign signed) a b s y h = (omega arith, omega arith, omega arith, omega arith)
op-small (op.ShiftAny signed by) a b s y h = (omega arith, omega arith, omega arith, omega arith)
op-small (op.Divide k signed) a b s y h = (omega arith, omega arith, omega arith, omega arith)
op-small op.Mux a b s y h = (omega arith, omega arith, omega arith, omega arith)
op-small op.Pmux a b s y h = (omega arith, omega arith, omega arith, omega arith)
op-small op.Bmux a b s y h = (omega arith, omega arith, omega arith, omega arith)
op-small (op.Slice offset) a b s y h = (omega arith, omega arith, omega arith, omega arith)
op-small op.Concat a b s y h = (omega arith, omega arith, omega arith, omega arith)

pub kept-none : (keep : ℕ → Bool) (ps : List ℕ) → has_kept keep ps ≡ false → (p : ℕ) → Contains ps p → keep p ≡ false
kept-none keep [] h p c = absurd (let l = c.1 in omega arith)
kept-none keep (q ∷ ps) h p (zero, l, e) = subst (λ (z : ℕ). keep z ≡ false) e (by (keep q) h)
  where
    by : (b : Bool) → (b || has_kept keep ps) ≡ false → b ≡ false
    by true g = absurd (let z : true ≡ false = g in cc)
    by false g = refl
kept-none keep (q ∷ ps) h p (suc k, l, e) = kept-none keep ps (by (keep q) h) p (k, omega arith, e)
  where
    by : (b : Bool) → (b || has_kept keep ps) ≡ false → has_kept keep ps ≡ false
    by true g = absurd (let z : true ≡ false = g in cc)
    by false g = g

pub kept-some : (keep : ℕ → Bool) (ps : List ℕ) (p : ℕ) → Contains ps p → keep p ≡ true → has_kept keep ps ≡ true
kept-some keep ps p c k = by (has_kept keep ps) refl
  where
    by : (b : Bool) → has_kept keep ps ≡ b → b ≡ true
    by true e = refl
    by false e = absurd (let z = kept-none keep ps e p c in let w : true ≡ false = cc in cc)

-- of one element more
pub kept-grow : {A : Type 0} (keep : ℕ → Bool) (ps : List ℕ) (xs : List A) (i p : ℕ) (x : A) → slice_get ps i ≡ Some p → slice_get xs i ≡ Some x
    → kept_at keep (take (i + 1) ps) xs ≡ kept_at keep (take i ps) xs ++ cond (keep p) (x ∷ []) []
kept-grow {A = A} keep ps xs i p x e f =
    let w = slice_get_within ps i p e in
    let n : length (take i ps) ≡ i = length-take-le i ps (omega arith) in
    let v = slice_get_within xs i x f in
    ap (λ (qs : List ℕ). kept_at keep qs xs) (take-next ps i p e)
    ∙ kept-more keep (take i ps) (p ∷ []) xs (omega arith)
    ∙ ap (λ (ys : List A). kept_at keep (take i ps) xs ++ kept_at keep (p ∷ []) ys) (ap (λ (k : ℕ). drop k xs) n ∙ drop_at xs i x f)

-- the state bits of one register more
pub states-next : (rs : List RegisterOf) (i : ℕ) (r : RegisterOf) → slice_get rs i ≡ Some r → flat_map (λ (k : RegisterOf). k.q) (take (i + 1) rs) ≡ flat_map (λ (k : RegisterOf). k.q) (take i rs) ++ r.q
states-next rs i r e = rw (take-next rs i r e) (flat_map-append (λ (k : RegisterOf). k.q) (take i rs) (r ∷ []) ∙ ap (λ (ps : List ℕ). flat_map (λ (k : RegisterOf). k.q) (take i rs) ++ ps) (append-nil r.q))

pub states-before : (rs : List RegisterOf) (i : ℕ) (r : RegisterOf) → slice_get rs i ≡ Some r → length (flat_map (λ (k : RegisterOf). k.q) (take i rs) ++ r.q) ≤ length (flat_map (λ (k : RegisterOf). k.q) rs)
states-before [] i r e = absurd cc
states-before (k ∷ rs) zero r e =
    let same : k ≡ r = cc in
    let n = length-append k.q (flat_map (λ (k : RegisterOf). k.q) rs) in
    let s : length k.q ≡ length r.q = ap (λ (z : RegisterOf). length z.q) same in
    omega arith
states-before (k ∷ rs) (suc i) r e =
    let rest = states-before rs i r e in
    let a = length-append k.q (flat_map (λ (k : RegisterOf). k.q) rs) in
    let b = length-append (k.q ++ flat_map (λ (k : RegisterOf). k.q) (take i rs)) r.q in
    let d = length-append k.q (flat_map (λ (k : RegisterOf). k.q) (take i rs)) in
    let f = length-append (flat_map (λ (k : RegisterOf). k.q) (take i rs)) r.q in
    omega arith

-- what is left of the digits has those of the next register
pub left-room : (m : ModelOf) (i : ℕ) (r : RegisterOf) → slice_get m.registers i ≡ Some r → length m.starts ≡ length (states m) → (left : List (Option Bool))
    → left ≡ drop (length (flat_map (λ (k : RegisterOf). k.q) (take i m.registers))) m.starts → length r.q ≤ length left
left-room m i r e size left el =
    let ps = flat_map (λ (k : RegisterOf). k.q) (take i m.registers) in
    let w = states-before m.registers i r e in
    let n = length-append ps r.q in
    let d = length-drop (length ps) m.starts in
    let s : length left ≡ length (drop (length ps) m.starts) = ap (λ (ds : List (Option Bool)). length ds) el in
    omega arith

-- a register of which no bit is kept
pub nothing-added : (keep : ℕ → Bool) (old : ModelOf) (r : RegisterOf) (digits : List (Option Bool)) → has_kept keep r.q ≡ false
    → old ≡ record old { registers = old.registers ++ kept_registers keep (r ∷ []); starts = old.starts ++ kept_at keep r.q digits }
nothing-added keep old r digits h =
    let none = kept-nothing keep r.q digits (kept-none keep r.q h) in
    sym (rw (h, none, append-nil old.registers, append-nil old.starts) refl)

-- a register of the bits that are kept
pub register-added : (keep : ℕ → Bool) (old new : ModelOf) (r : RegisterOf) (digits : List (Option Bool)) → has_kept keep r.q ≡ true → (q d v : List ℕ) (x y : Control) (f : Bool) (s : List (Option Bool))
    → q ≡ filter keep r.q → d ≡ kept_at keep r.q r.d → v ≡ kept_at keep r.q r.value → x ≡ r.enable → y ≡ r.reset → f ≡ r.reset_first → s ≡ kept_at keep r.q digits
    → new ≡ record old { registers = old.registers ++ record { q = q; d = d; value = v; enable = x; reset = y; reset_first = f } ∷ []; starts = old.starts ++ s }
    → new ≡ record old { registers = old.registers ++ kept_registers keep (r ∷ []); starts = old.starts ++ kept_at keep r.q digits }
register-added keep old new r digits h q d v x y f s eq ed ev ex ey ef es en = en ∙ rw (eq, ed, ev, ex, ey, ef, es, h) refl

pub registers-grow : (keep : ℕ → Bool) (m : ModelOf) (i : ℕ) (r : RegisterOf) → slice_get m.registers i ≡ Some r → length m.starts ≡ length (states m) → (left digits : List (Option Bool)) (old mid new : ModelOf)
    → left ≡ drop (length (flat_map (λ (k : RegisterOf). k.q) (take i m.registers))) m.starts → digits ≡ take (length r.q) left
    → mid ≡ record old { registers = old.registers ++ kept_registers keep (take i m.registers); starts = old.starts ++ kept_at keep (flat_map (λ (k : RegisterOf). k.q) (take i m.registers)) m.starts }
    → new ≡ record mid { registers = mid.registers ++ kept_registers keep (r ∷ []); starts = mid.starts ++ kept_at keep r.q digits }
    → new ≡ record old { registers = old.registers ++ kept_registers keep (take (i + 1) m.registers); starts = old.starts ++ kept_at keep (flat_map (λ (k : RegisterOf). k.q) (take (i + 1) m.registers)) m.starts }
registers-grow keep m i r e size left digits old mid new el ed em en =
    let ps = flat_map (λ (k : RegisterOf). k.q) (take i m.registers) in
    let w = states-before m.registers i r e in
    let n = length-append ps r.q in
    let registers : (old.registers ++ kept_registers keep (take i m.registers)) ++ kept_registers keep (r ∷ []) ≡ old.registers ++ kept_registers keep (take (i + 1) m.registers) =
    append_assoc old.registers _ _
    ∙ ap (λ (rs : List RegisterOf). old.registers ++ rs)
    (sym (ap (kept_registers keep) (take-next m.registers i r e) ∙ mapped-split (narrowed keep) (λ (k : RegisterOf). has_kept keep k.q) (take i m.registers) (r ∷ []))) in
    let here : kept_at keep r.q digits ≡ kept_at keep r.q (drop (length ps) m.starts) = ap (λ (ds : List (Option Bool)). kept_at keep r.q ds) (ed ∙ ap (take (length r.q)) el) ∙ kept-taken keep r.q (drop (length ps) m.starts) in
    let starts : (old.starts ++ kept_at keep ps m.starts) ++ kept_at keep r.q digits ≡ old.starts ++ kept_at keep (flat_map (λ (k : RegisterOf). k.q) (take (i + 1) m.registers)) m.starts =
    append_assoc old.starts _ _
    ∙ ap (λ (ds : List (Option Bool)). old.starts ++ ds)
    (ap (λ (ds : List (Option Bool)). kept_at keep ps m.starts ++ ds) here
    ∙ sym (ap (λ (qs : List ℕ). kept_at keep qs m.starts) (states-next m.registers i r e) ∙ kept-more keep ps r.q m.starts (omega arith))) in
    en
    ∙ ap (λ (k : ModelOf). record k { registers = k.registers ++ kept_registers keep (r ∷ []); starts = k.starts ++ kept_at keep r.q digits }) em
    ∙ by registers starts
  where
    by : {rs rs' : List RegisterOf} {ds ds' : List (Option Bool)} → rs ≡ rs' → ds ≡ ds' → record old { registers = rs; starts = ds } ≡ record old { registers = rs'; starts = ds' }
    by e f = rw (e, f) refl
