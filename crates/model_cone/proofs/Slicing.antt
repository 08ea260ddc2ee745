-- A slice is a model.
use Rattle.std.proofs.Common.{◌≡◌, inl, inr, ℕ, zero, suc, ◌+◌, ◌<◌, ◌≤◌, Bool, true, false, not, cond, List, [], ◌∷◌, ◌++◌, Some, length, map, take, replicate, refl, sym, ap, subst, ◌∙◌, arith, append_assoc}
use Rattle.std.specs.Prelude.{All, Contains, slice_get}
use Rattle.std.specs.List.{filter, flat_map}
use Rattle.std.proofs.lemmas.Grind.{flat_map-append}
use Rattle.std.proofs.lemmas.List.{append-nil, length-replicate, length-map, take-append-le, take-map}
use Rattle.std.proofs.lemmas.List.Elements.{filter-append, filter_passes, All-append, All-contains, All-map, Contains-append_cases, Contains-append_left, Contains-append_right}
use Rattle.std.proofs.lemmas.List.Filters.{length-filter_both}
use Rattle.std.proofs.lemmas.Option.{slice_get_within}
use Rattle.model_core.specs.Served.{HasWidths, IsModel, IsNode, IsWidth}
use Rattle.model_core.specs.Shape.{IsRegister, ModelOf, NodeOf, RegisterOf, given, reads, sources, states}
use Rattle.model_core.specs.declared.op.Op.{Op}
use Rattle.model_core.specs.declared.op.Op.TheVariants as op
use Rattle.model_core.proofs.Lists.{all_at, all_from, app_cases, app_left, contained_at}
use Rattle.cell_table.specs.declared.kind.Unary.{Unary}
use Rattle.cell_table.specs.declared.kind.Unary.TheVariants.{Not, Pos, Neg}
use Rattle.cell_table.specs.declared.kind.Binary.{Binary}
use Rattle.cell_table.specs.declared.kind.Binary.TheVariants.{And, Or, Xor, Xnor, Add, Sub, Mul}
use Rattle.model_core.specs.Served.{IsWithin, binary_limit, unary_limit}
use Rattle.model_cone.specs.Slice.{has_kept, kept_at, kept_registers, narrowed, sliced, sliced_node, zeroes}
use Rattle.model_cone.proofs.Counting.{contains-count, count, count-append, count-contains, count-distinct, count-filter, distinct-count}
use Rattle.model_cone.proofs.Closing.{kept-place}
use Rattle.model_cone.proofs.Digits.{filter-from}
use Rattle.model_cone.proofs.Growing.{kept-none, mapped-split}
use Rattle.model_cone.proofs.Narrowing.{kept-all, kept-length}
use Rattle.model_cone.proofs.Reading.{register-is}

-- the output of a node has from 1 to 4096 bits
unary-width : (k : Unary) (n : ℕ) → IsWithin (unary_limit k) n → IsWidth n
unary-width Not n h = (h.0, omega arith)
unary-width Pos n h = (h.0, omega arith)
unary-width Neg n h = (h.0, omega arith)

binary-width : (k : Binary) (n : ℕ) → IsWithin (binary_limit k) n → IsWidth n
binary-width And n h = (h.0, omega arith)
binary-width Or n h = (h.0, omega arith)
binary-width Xor n h = (h.0, omega arith)
binary-width Xnor n h = (h.0, omega arith)
binary-width Add n h = (h.0, omega arith)
binary-width Sub n h = (h.0, omega arith)
binary-width Mul n h = (h.0, omega arith)

op-width : (o : Op) (a b s y : ℕ) → HasWidths o a b s y → IsWidth y
op-width op.Copy a b s y h = (omega arith, omega arith)
op-width (op.Unary k signed) a b s y h = unary-width k y h.1
op-width (op.Binary k signed) a b s y h = binary-width k y h.2
op-width (op.Reduce k) a b s y h = h.1
op-width (op.Logic k) a b s y h = h.2
op-width (op.Compare k signed) a b s y h = h.2
op-width (op.ShiftLeft signed) a b s y h = (omega arith, omega arith)
op-width (op.ShiftRight signed) a b s y h = (omega arith, omega arith)
op-width (op.ShiftSign signed) a b s y h = (omega arith, omega arith)
op-width (op.ShiftAny signed by) a b s y h = (omega arith, omega arith)
op-width (op.Divide k signed) a b s y h = (omega arith, omega arith)
op-width op.Mux a b s y h = (omega arith, omega arith)
op-width op.Pmux a b s y h = (omega arith, omega arith)
op-width op.Bmux a b s y h = h.2
op-width (op.Slice offset) a b s y h = h.1
op-width op.Concat a b s y h = h.2

-- nodes that give 0
zeroes-node : (z : ℕ) (ps : List ℕ) → IsWidth (length ps) → IsNode (zeroes z ps)
zeroes-node z ps w =
    let e = length-replicate (length ps) z in
    (subst IsWidth (sym e) w, sym e, refl, refl)

replicated : (n z p : ℕ) → Contains (replicate n z) p → p ≡ z
replicated zero z p c = absurd (let l = c.1 in omega arith)
replicated (suc n) z p (zero, l, e) = sym e
replicated (suc n) z p (suc k, l, e) = replicated n z p (k, omega arith, e)

zeroes-reads : (z : ℕ) (ps : List ℕ) (p : ℕ) → Contains (reads (zeroes z ps)) p → p ≡ z
zeroes-reads z ps p c = replicated (length ps) z p (subst (λ (qs : List ℕ). Contains qs p) (append-nil (replicate (length ps) z)) c)

-- what passes a test
pub filter-contains : (test : ℕ → Bool) (xs : List ℕ) (p : ℕ) → Contains xs p → test p ≡ true → Contains (filter test xs) p
filter-contains test xs p c k =
    count-contains p (filter test xs)
    (let n = contains-count p xs c in let s = count-filter p test xs in let o = none xs in omega arith)
  where
    none : (xs : List ℕ) → count p (filter (λ q. not (test q)) xs) ≡ 0
    none xs = by xs (count p (filter (λ q. not (test q)) xs)) refl
      where
        passes : (xs : List ℕ) (q : ℕ) → Contains (filter (λ q. not (test q)) xs) q → not (test q) ≡ true
        passes xs q d = All-contains (λ q. not (test q) ≡ true) (filter (λ q. not (test q)) xs) q (filter_passes (λ q. not (test q)) xs) d

        by : (xs : List ℕ) (n : ℕ) → count p (filter (λ q. not (test q)) xs) ≡ n → n ≡ 0
        by xs zero e = refl
        by xs (suc n) e = absurd (let f = passes xs p (count-contains p _ (omega arith)) in let g : not true ≡ true = subst (λ (b : Bool). not b ≡ true) k f in cc)

filter-none : (test : ℕ → Bool) (xs : List ℕ) → ((p : ℕ) → Contains xs p → test p ≡ false) → filter test xs ≡ []
filter-none test [] h = refl
filter-none test (x ∷ xs) h =
    let here : test x ≡ false = h x (0, omega arith, refl) in
    rw here (filter-none test xs (λ p c. h p (suc c.0, (let l = c.1 in omega arith), c.2)))

pub kept-states : (keep : ℕ → Bool) (rs : List RegisterOf) → flat_map (λ (r : RegisterOf). r.q) (kept_registers keep rs) ≡ filter keep (flat_map (λ (r : RegisterOf). r.q) rs)
kept-states keep [] = refl
kept-states keep (r ∷ rs) = by (has_kept keep r.q) refl (kept-states keep rs) ∙ sym (filter-append keep r.q (flat_map (λ (r : RegisterOf). r.q) rs))
  where
    by : (b : Bool) → has_kept keep r.q ≡ b → flat_map (λ (r : RegisterOf). r.q) (kept_registers keep rs) ≡ filter keep (flat_map (λ (r : RegisterOf). r.q) rs)
        → flat_map (λ (r : RegisterOf). r.q) (map (narrowed keep) (cond b (r ∷ filter (λ (r : RegisterOf). has_kept keep r.q) rs) (filter (λ (r : RegisterOf). has_kept keep r.q) rs))) ≡ filter keep r.q ++ filter keep (flat_map (λ (r : RegisterOf). r.q) rs)
    by true e h = ap (λ (ps : List ℕ). filter keep r.q ++ ps) h
    by false e h = rw (filter-none keep r.q (kept-none keep r.q e)) h

pub slice-states : (keep : ℕ → Bool) (m : ModelOf) → states (sliced keep m) ≡ filter keep (states m)
slice-states keep m = kept-states keep m.registers

-- a register of the bits that are kept
narrowed-is : (keep : ℕ → Bool) (size : ℕ) (r : RegisterOf) → IsRegister size r → has_kept keep r.q ≡ true → IsRegister size (narrowed keep r)
narrowed-is keep size r is h = record {
  some = (let k = kept-place keep r.q h in let c = filter-contains keep r.q k.0 k.1 k.2 in let l = c.1 in omega arith);
  narrow = (let e = length-filter_both keep (λ p. not (keep p)) (λ p. refl) r.q in let n = is.narrow in omega arith);
  d = kept-length keep r.q r.d is.d;
  value = kept-length keep r.q r.value is.value;
  d_below = kept-all (λ p. p < size) keep r.q r.d is.d_below;
  value_below = kept-all (λ p. p < size) keep r.q r.value is.value_below;
  enable = is.enable;
  reset = is.reset;
}

-- what the nodes of a slice give
sliced-y : (keep : ℕ → Bool) (z : ℕ) (n : NodeOf) → (sliced_node keep z n).y ≡ n.y
sliced-y keep z n = by (has_kept keep n.y)
  where
    by : (b : Bool) → (cond b n (zeroes z n.y)).y ≡ n.y
    by true = refl
    by false = refl

pub sliced-given : (keep : ℕ → Bool) (z : ℕ) (ns : List NodeOf) → given (map (sliced_node keep z) ns) ≡ given ns
sliced-given keep z [] = refl
sliced-given keep z (n ∷ ns) = rw (sliced-y keep z n) (ap (λ (ps : List ℕ). n.y ++ ps) (sliced-given keep z ns))

zero-inputs : (z : ℕ) (ps : List ℕ) → given (map (λ p. zeroes z (p ∷ [])) ps) ≡ ps
zero-inputs z [] = refl
zero-inputs z (p ∷ ps) = ap (λ (qs : List ℕ). p ∷ qs) (zero-inputs z ps)

pub mapped : {A B : Type 0} (f : A → B) (xs : List A) (i : ℕ) (y : B) → slice_get (map f xs) i ≡ Some y → (x : A) × (slice_get xs i ≡ Some x) × (f x ≡ y)
mapped f [] i y e = absurd cc
mapped f (x ∷ xs) zero y e = (x, refl, cc)
mapped f (x ∷ xs) (suc i) y e = mapped f xs i y e

pub mapped-at : {A B : Type 0} (f : A → B) (xs : List A) (i : ℕ) (x : A) → slice_get xs i ≡ Some x → slice_get (map f xs) i ≡ Some (f x)
mapped-at f [] i x e = absurd cc
mapped-at f (y ∷ xs) zero x e = let same : y ≡ x = cc in ap (λ (z : _). Some (f z)) same
mapped-at f (y ∷ xs) (suc i) x e = mapped-at f xs i x e

module _ (m : ModelOf) (is : IsModel m) (keep : ℕ → Bool)
    (constants : (keep m.zero ≡ true) × (keep (suc m.zero) ≡ true))
    (closed : (i : ℕ) (n : NodeOf) (p : ℕ) → slice_get m.nodes i ≡ Some n → has_kept keep n.y ≡ true → Contains (reads n) p → keep p ≡ true) where
  abbrev out : ℕ → Bool
  out = λ p. not (keep p)

  abbrev left-nodes : List NodeOf
  left-nodes = map (λ p. zeroes m.zero (p ∷ [])) (filter out (states m ++ m.inputs))

  abbrev slice-every : List ℕ
  slice-every = sources (sliced keep m) ++ given (sliced keep m).nodes

  slice-given : given (sliced keep m).nodes ≡ given m.nodes ++ filter out (states m ++ m.inputs)
  slice-given =
      flat_map-append (λ (n : NodeOf). n.y) (map (sliced_node keep m.zero) m.nodes) left-nodes
      ∙ by (sliced-given keep m.zero m.nodes) (zero-inputs m.zero (filter out (states m ++ m.inputs)))
    where
      by : {a b c d : List ℕ} → a ≡ b → c ≡ d → a ++ c ≡ b ++ d
      by e f = rw (e, f) refl

  slice-open : states (sliced keep m) ++ filter keep m.inputs ≡ filter keep (states m ++ m.inputs)
  slice-open = ap (λ (ps : List ℕ). ps ++ filter keep m.inputs) (slice-states keep m) ∙ sym (filter-append keep (states m) m.inputs)

  -- each place stands as often in the slice as in the model
  every-count : (p : ℕ) → count p slice-every ≡ count p (sources m ++ given m.nodes)
  every-count p =
      let a = count-append p (sources (sliced keep m)) (given (sliced keep m).nodes) in
      let b : count p (sources (sliced keep m)) ≡ count p (m.zero ∷ suc m.zero ∷ []) + count p (filter keep (states m ++ m.inputs)) =
      ap (λ (ps : List ℕ). count p ((m.zero ∷ suc m.zero ∷ []) ++ ps)) slice-open ∙ count-append p (m.zero ∷ suc m.zero ∷ []) (filter keep (states m ++ m.inputs)) in
      let d : count p (given (sliced keep m).nodes) ≡ count p (given m.nodes) + count p (filter out (states m ++ m.inputs)) =
      ap (count p) slice-given ∙ count-append p (given m.nodes) (filter out (states m ++ m.inputs)) in
      let f = count-filter p keep (states m ++ m.inputs) in
      let h = count-append p (sources m) (given m.nodes) in
      let i : count p (sources m) ≡ count p (m.zero ∷ suc m.zero ∷ []) + count p (states m ++ m.inputs) = count-append p (m.zero ∷ suc m.zero ∷ []) (states m ++ m.inputs) in
      omega arith

  from-slice : (p : ℕ) → Contains slice-every p → Contains (sources m ++ given m.nodes) p
  from-slice p c = let n = contains-count p slice-every c in let e = every-count p in count-contains p (sources m ++ given m.nodes) (omega arith)

  to-slice : (p : ℕ) → Contains (sources m ++ given m.nodes) p → Contains slice-every p
  to-slice p c = let n = contains-count p (sources m ++ given m.nodes) c in let e = every-count p in count-contains p slice-every (omega arith)

  -- the parts
  node-is : (n : NodeOf) → IsNode n → IsNode (sliced_node keep m.zero n)
  node-is n h = by (has_kept keep n.y)
    where
      by : (b : Bool) → IsNode (cond b n (zeroes m.zero n.y))
      by true = h
      by false = zeroes-node m.zero n.y (op-width n.op _ _ _ _ h)

  nodes-are : All IsNode (sliced keep m).nodes
  nodes-are =
      All-append IsNode (map (sliced_node keep m.zero) m.nodes) left-nodes
      (All-map IsNode (sliced_node keep m.zero) m.nodes (all_from (λ n. IsNode (sliced_node keep m.zero n)) m.nodes (λ k n e. node-is n (all_at IsNode m.nodes k n is.nodes e))))
      (All-map IsNode (λ p. zeroes m.zero (p ∷ [])) (filter out (states m ++ m.inputs))
      (all_from (λ p. IsNode (zeroes m.zero (p ∷ []))) (filter out (states m ++ m.inputs)) (λ k p e. zeroes-node m.zero (p ∷ []) (omega arith, omega arith))))

  registers-are : All (IsRegister m.size) (kept_registers keep m.registers)
  registers-are =
      All-map (IsRegister m.size) (narrowed keep) (filter (λ (r : RegisterOf). has_kept keep r.q) m.registers)
      (all_from (λ (r : RegisterOf). IsRegister m.size (narrowed keep r)) (filter (λ (r : RegisterOf). has_kept keep r.q) m.registers)
      (λ k r e. let x = filter-from (λ (r : RegisterOf). has_kept keep r.q) m.registers k r e in narrowed-is keep m.size r (register-is m is x.0 r x.1) x.2))

  -- what is kept of the state bits and the inputs, and of the sources
  pub kept-open : (p : ℕ) → Contains (states m ++ m.inputs) p → keep p ≡ true → Contains (states (sliced keep m) ++ filter keep m.inputs) p
  kept-open p a k = subst (λ (ps : List ℕ). Contains ps p) (sym slice-open) (filter-contains keep (states m ++ m.inputs) p a k)

  kept-source : (p : ℕ) → Contains (sources m) p → keep p ≡ true → Contains (sources (sliced keep m)) p
  kept-source p c k =
      elim (Contains-append_cases (m.zero ∷ suc m.zero ∷ []) (states m ++ m.inputs) p c) as (λ _. Contains (sources (sliced keep m)) p) [
        | inl a ↦ Contains-append_left (m.zero ∷ suc m.zero ∷ []) (states (sliced keep m) ++ filter keep m.inputs) p a
        | inr a ↦ Contains-append_right (m.zero ∷ suc m.zero ∷ []) (states (sliced keep m) ++ filter keep m.inputs) p (kept-open p a k)
      ]

  -- a node that is kept stands where it stood
  pub slice-node : (i : ℕ) (n : NodeOf) → slice_get m.nodes i ≡ Some n → has_kept keep n.y ≡ true → slice_get (sliced keep m).nodes i ≡ Some n
  slice-node i n e h = app_left (map (sliced_node keep m.zero) m.nodes) left-nodes i n (by m.nodes i e)
    where
      by : (ns : List NodeOf) (i : ℕ) → slice_get ns i ≡ Some n → slice_get (map (sliced_node keep m.zero) ns) i ≡ Some n
      by [] i e = absurd cc
      by (k ∷ ns) zero e =
          let same : k ≡ n = cc in
          subst (λ (z : NodeOf). Some (sliced_node keep m.zero z) ≡ Some n) (sym same) (rw h refl)
      by (k ∷ ns) (suc i) e = by ns i e

  zero-known : (i p : ℕ) → p ≡ m.zero → Contains (sources (sliced keep m) ++ given (take i (sliced keep m).nodes)) p
  zero-known i p e = subst (λ (q : ℕ). Contains (sources (sliced keep m) ++ given (take i (sliced keep m).nodes)) q) (sym e) (0, omega arith, refl)

  left-reads : (k : ℕ) (n : NodeOf) (p : ℕ) → slice_get left-nodes k ≡ Some n → Contains (reads n) p → p ≡ m.zero
  left-reads k n p e c =
      let x = mapped (λ (p : ℕ). zeroes m.zero (p ∷ [])) (filter out (states m ++ m.inputs)) k n e in
      zeroes-reads m.zero (x.0 ∷ []) p (subst (λ (z : NodeOf). Contains (reads z) p) (sym x.2) c)

  given-before : (i : ℕ) → i ≤ length m.nodes → given (take i (sliced keep m).nodes) ≡ given (take i m.nodes)
  given-before i l =
      let n = length-map m.nodes (sliced_node keep m.zero) in
      let w : i ≤ length (map (sliced_node keep m.zero) m.nodes) = omega arith in
      ap given (take-append-le i (map (sliced_node keep m.zero) m.nodes) left-nodes w ∙ take-map (sliced_node keep m.zero) i m.nodes) ∙ sliced-given keep m.zero (take i m.nodes)

  in-order : (i : ℕ) (n : NodeOf) → slice_get (sliced keep m).nodes i ≡ Some n → (p : ℕ) → Contains (reads n) p → Contains (sources (sliced keep m) ++ given (take i (sliced keep m).nodes)) p
  in-order i n e p c =
      elim (app_cases (map (sliced_node keep m.zero) m.nodes) left-nodes i n e) as (λ _. Contains (sources (sliced keep m) ++ given (take i (sliced keep m).nodes)) p) [
        | inl a ↦ let x = mapped (sliced_node keep m.zero) m.nodes i n a in by x.0 x.1 (has_kept keep x.0.y) refl (subst (λ (z : NodeOf). Contains (reads z) p) (sym x.2) c)
        | inr a ↦ zero-known i p (left-reads a.0 n p a.2 c)
      ]
    where
      by : (k : NodeOf) → slice_get m.nodes i ≡ Some k → (b : Bool) → has_kept keep k.y ≡ b → Contains (reads (cond (has_kept keep k.y) k (zeroes m.zero k.y))) p
          → Contains (sources (sliced keep m) ++ given (take i (sliced keep m).nodes)) p
      by k at true h d =
          let r : Contains (reads k) p = subst (λ (b : Bool). Contains (reads (cond b k (zeroes m.zero k.y))) p) h d in
          let w = slice_get_within m.nodes i k at in
          elim (Contains-append_cases (sources m) (given (take i m.nodes)) p (is.order i k at p r)) as (λ _. Contains (sources (sliced keep m) ++ given (take i (sliced keep m).nodes)) p) [
            | inl f ↦ Contains-append_left (sources (sliced keep m)) (given (take i (sliced keep m).nodes)) p (kept-source p f (closed i k p at h r))
            | inr f ↦ Contains-append_right (sources (sliced keep m)) (given (take i (sliced keep m).nodes)) p
                (subst (λ (ps : List ℕ). Contains ps p) (sym (given-before i (omega arith))) f)
          ]
      by k at false h d = zero-known i p (zeroes-reads m.zero k.y p (subst (λ (b : Bool). Contains (reads (cond b k (zeroes m.zero k.y))) p) h d))

  pub slice-is : IsModel (sliced keep m)
  slice-is = record {
    limit = is.limit;
    nodes = nodes-are;
    registers = registers-are;
    starts = kept-length keep (states m) m.starts is.starts ∙ sym (ap (λ (ps : List ℕ). length ps) (slice-states keep m));
    asserts = is.asserts;
    assumes = is.assumes;
    covers = is.covers;
    below = all_from (λ p. p < m.size) slice-every (λ k p e. All-contains (λ p. p < m.size) (sources m ++ given m.nodes) p is.below (from-slice p (contained_at slice-every p k e)));
    all = λ p l. to-slice p (is.all p l);
    once = count-distinct slice-every (λ p. let e = every-count p in let w = distinct-count (sources m ++ given m.nodes) is.once p in omega arith);
    order = λ i n e p c. in-order i n e p c;
  }

-- the nodes of the places that are left
abbrev zeros : (ℕ → Bool) → ℕ → List ℕ → List NodeOf
zeros keep z ps = map (λ p. zeroes z (p ∷ [])) (filter (λ p. not (keep p)) ps)

-- the slice by its parts, as they are added
pub slice-made : (keep : ℕ → Bool) (m d0 d1 d2 d3 d4 d5 d6 : ModelOf)
    → d0 ≡ record { size = m.size; zero = m.zero; nodes = []; registers = []; starts = []; inputs = []; asserts = []; assumes = []; covers = [] }
    → d1 ≡ record d0 { nodes = d0.nodes ++ map (sliced_node keep m.zero) m.nodes }
    → d2 ≡ record d1 { nodes = d1.nodes ++ map (λ p. zeroes m.zero (p ∷ [])) (filter (λ p. not (keep p)) (states m)) }
    → d3 ≡ record d2 { nodes = d2.nodes ++ map (λ p. zeroes m.zero (p ∷ [])) (filter (λ p. not (keep p)) m.inputs) }
    → d4 ≡ record d3 { registers = d3.registers ++ kept_registers keep m.registers; starts = d3.starts ++ kept_at keep (states m) m.starts }
    → d5 ≡ record d4 { inputs = d4.inputs ++ filter keep m.inputs }
    → d6 ≡ record d5 { asserts = d5.asserts ++ m.asserts; assumes = d5.assumes ++ m.assumes; covers = d5.covers ++ m.covers }
    → d6 ≡ sliced keep m
slice-made keep m d0 d1 d2 d3 d4 d5 d6 e0 e1 e2 e3 e4 e5 e6 =
    e6
    ∙ ap (λ (d : ModelOf). record d { asserts = d.asserts ++ m.asserts; assumes = d.assumes ++ m.assumes; covers = d.covers ++ m.covers })
    (e5
    ∙ ap (λ (d : ModelOf). record d { inputs = d.inputs ++ filter keep m.inputs })
    (e4
    ∙ ap (λ (d : ModelOf). record d { registers = d.registers ++ kept_registers keep m.registers; starts = d.starts ++ kept_at keep (states m) m.starts })
    (e3
    ∙ ap (λ (d : ModelOf). record d { nodes = d.nodes ++ zeros keep m.zero m.inputs })
    (e2
    ∙ ap (λ (d : ModelOf). record d { nodes = d.nodes ++ zeros keep m.zero (states m) })
    (e1 ∙ ap (λ (d : ModelOf). record d { nodes = d.nodes ++ map (sliced_node keep m.zero) m.nodes }) e0)))))
    ∙ ap (λ (ns : List NodeOf). record (sliced keep m) { nodes = ns })
    (append_assoc (map (sliced_node keep m.zero) m.nodes) (zeros keep m.zero (states m)) (zeros keep m.zero m.inputs)
    ∙ ap (λ (ns : List NodeOf). map (sliced_node keep m.zero) m.nodes ++ ns) (sym (mapped-split (λ p. zeroes m.zero (p ∷ [])) (λ p. not (keep p)) (states m) m.inputs)))
