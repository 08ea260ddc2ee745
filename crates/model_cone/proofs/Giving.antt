-- Each place has one giver.
use Rattle.std.proofs.Common.{◌≡◌, ◌⊎◌, inl, inr, ℕ, zero, suc, ◌+◌, ◌<◌, ◌≤◌, List, [], ◌∷◌, ◌++◌, Some, length, take, refl, sym, ap, ◌∙◌, arith, length-append}
use Rattle.std.specs.Prelude.{Contains, slice_get}
use Rattle.std.specs.List.{flat_map}
use Rattle.std.proofs.lemmas.Bool.{cases_lt}
use Rattle.std.proofs.lemmas.Option.{slice_get_within}
use Rattle.model_core.specs.Served.{IsModel}
use Rattle.model_core.specs.Shape.{ModelOf, NodeOf, RegisterOf, given, sources, states}
use Rattle.model_core.proofs.Lists.{app_left, app_right, place_of_contained}

-- where the element of a part stands among all parts
pub part-place : {A : Type 0} (f : A → List ℕ) (xs : List A) (i : ℕ) (x : A) (k p : ℕ) → slice_get xs i ≡ Some x → slice_get (f x) k ≡ Some p
    → slice_get (flat_map f xs) (length (flat_map f (take i xs)) + k) ≡ Some p
part-place f [] i x k p e h = absurd cc
part-place f (y ∷ xs) zero x k p e h =
    let same : y ≡ x = cc in
    app_left (f y) (flat_map f xs) (0 + k) p (let z : 0 + k ≡ k = omega arith in rw (z, same) h)
part-place f (y ∷ xs) (suc i) x k p e h =
    let rest = part-place f xs i x k p e h in
    let n : length (f y ++ flat_map f (take i xs)) + k ≡ length (f y) + (length (flat_map f (take i xs)) + k) = omega (arith, length-append (f y) (flat_map f (take i xs))) in
    app_right (f y) (flat_map f xs) (length (flat_map f (take i xs)) + k) (length (f y ++ flat_map f (take i xs)) + k) n ∙ rest

-- parts of distinct elements are apart
pub parts-apart : {A : Type 0} (f : A → List ℕ) (xs : List A) → ((i j p : ℕ) → slice_get (flat_map f xs) i ≡ Some p → slice_get (flat_map f xs) j ≡ Some p → i ≡ j)
    → (i j : ℕ) (x y : A) (p : ℕ) → slice_get xs i ≡ Some x → slice_get xs j ≡ Some y → Contains (f x) p → Contains (f y) p → i ≡ j
parts-apart f xs once i j x y p ex ey hx hy =
    let a = place_of_contained (f x) p hx in
    let b = place_of_contained (f y) p hy in
    let same = once (length (flat_map f (take i xs)) + a.0) (length (flat_map f (take j xs)) + b.0) p (part-place f xs i x a.0 p ex a.1) (part-place f xs j y b.0 p ey b.1) in
    by (cases_lt i j) (cases_lt j i) (λ l. before i j x a.0 b.0 p l ex a.1 same) (λ l. before j i y b.0 a.0 p l ey b.1 (sym same))
  where
    -- an earlier part ends before a later one begins
    ends : {A : Type 0} (f : A → List ℕ) (xs : List A) (i j : ℕ) (x : A) (k p : ℕ) → i < j → slice_get xs i ≡ Some x → slice_get (f x) k ≡ Some p
        → length (flat_map f (take i xs)) + k < length (flat_map f (take j xs))
    ends f [] i j x k p l e h = absurd cc
    ends f (y ∷ xs) i zero x k p l e h = absurd (omega arith)
    ends f (y ∷ xs) zero (suc j) x k p l e h =
        let same : y ≡ x = cc in
        let w = slice_get_within (f x) k p h in
        let n = length-append (f y) (flat_map f (take j xs)) in
        let q : length (f y) ≡ length (f x) = ap (λ z. length (f z)) same in
        omega arith
    ends f (y ∷ xs) (suc i) (suc j) x k p l e h =
        let r = ends f xs i j x k p (omega arith) e h in
        omega (arith, length-append (f y) (flat_map f (take i xs)), length-append (f y) (flat_map f (take j xs)))

    before : (i j : ℕ) (x : _) (k l p : ℕ) → i < j → slice_get xs i ≡ Some x → slice_get (f x) k ≡ Some p → length (flat_map f (take i xs)) + k ≡ length (flat_map f (take j xs)) + l → ⊥
    before i j x k l p less e h same = let r = ends f xs i j x k p less e h in omega arith

    by : (i < j) ⊎ (j ≤ i) → (j < i) ⊎ (i ≤ j) → (i < j → ⊥) → (j < i → ⊥) → i ≡ j
    by (inl l) q first second = absurd (first l)
    by (inr l) (inl g) first second = absurd (second g)
    by (inr l) (inr g) first second = omega arith

module _ (m : ModelOf) (is : IsModel m) where
  state-at : (k p : ℕ) → slice_get (states m) k ≡ Some p → slice_get (sources m ++ given m.nodes) (suc (suc k)) ≡ Some p
  state-at k p e = app_left (states m ++ m.inputs) (given m.nodes) k p (app_left (states m) m.inputs k p e)

  given-at : (k p : ℕ) → slice_get (given m.nodes) k ≡ Some p → slice_get (sources m ++ given m.nodes) (length (sources m) + k) ≡ Some p
  given-at k p e = app_right (sources m) (given m.nodes) k (length (sources m) + k) refl ∙ e

  pub one-node : (i j : ℕ) (x y : NodeOf) (p : ℕ) → slice_get m.nodes i ≡ Some x → slice_get m.nodes j ≡ Some y → Contains x.y p → Contains y.y p → i ≡ j
  one-node = parts-apart (λ (n : NodeOf). n.y) m.nodes
      (λ i j p a b. let e : length (sources m) + i ≡ length (sources m) + j = is.once _ _ p (given-at i p a) (given-at j p b) in omega arith)

  pub one-register : (i j : ℕ) (x y : RegisterOf) (p : ℕ) → slice_get m.registers i ≡ Some x → slice_get m.registers j ≡ Some y → Contains x.q p → Contains y.q p → i ≡ j
  one-register = parts-apart (λ (r : RegisterOf). r.q) m.registers
      (λ i j p a b. let e : suc (suc i) ≡ suc (suc j) = is.once _ _ p (state-at i p a) (state-at j p b) in omega arith)

  -- no state bit stands twice in a register
  pub one-bit : (i : ℕ) (r : RegisterOf) (k l p : ℕ) → slice_get m.registers i ≡ Some r → slice_get r.q k ≡ Some p → slice_get r.q l ≡ Some p → k ≡ l
  one-bit i r k l p e a b =
      let n : ℕ = length (flat_map (λ (z : RegisterOf). z.q) (take i m.registers)) in
      let x : slice_get (states m) (n + k) ≡ Some p = part-place (λ (z : RegisterOf). z.q) m.registers i r k p e a in
      let y : slice_get (states m) (n + l) ≡ Some p = part-place (λ (z : RegisterOf). z.q) m.registers i r l p e b in
      let same : suc (suc (n + k)) ≡ suc (suc (n + l)) = is.once _ _ p (state-at (n + k) p x) (state-at (n + l) p y) in
      omega arith

  -- no state bit is given by a node
  pub not-both : (i j : ℕ) (n : NodeOf) (r : RegisterOf) (p : ℕ) → slice_get m.nodes i ≡ Some n → slice_get m.registers j ≡ Some r → Contains n.y p → Contains r.q p → ⊥
  not-both i j n r p en er hn hr =
      let a = place_of_contained n.y p hn in
      let b = place_of_contained r.q p hr in
      let u : ℕ = length (given (take i m.nodes)) + a.0 in
      let v : ℕ = length (flat_map (λ (k : RegisterOf). k.q) (take j m.registers)) + b.0 in
      let x : slice_get (given m.nodes) u ≡ Some p = part-place (λ (k : NodeOf). k.y) m.nodes i n a.0 p en a.1 in
      let y : slice_get (states m) v ≡ Some p = part-place (λ (k : RegisterOf). k.q) m.registers j r b.0 p er b.1 in
      let w : v < length (states m) = slice_get_within (states m) v p y in
      let l = length-append (states m) m.inputs in
      let k : length (sources m) ≡ suc (suc (length (states m ++ m.inputs))) = refl in
      let same : length (sources m) + u ≡ suc (suc v) = is.once (length (sources m) + u) (suc (suc v)) p (given-at u p x) (state-at v p y) in
      omega arith
