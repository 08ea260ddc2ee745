-- Cycles that are written: a row at some places, then what each node gives.
use Rattle.std.proofs.Common.{◌≡◌, ℕ, zero, suc, ◌+◌, ◌≤◌, Bool, true, false, cond, List, [], ◌∷◌, ◌++◌, Some, refl, sym, ap, ◌∙◌, subst, arith, length, take, drop}
use Rattle.std.specs.Prelude.{eqb, slice_get, Contains}
use Rattle.std.proofs.Common.{append_assoc}
use Rattle.std.proofs.lemmas.Option.{slice_get_within}
use Rattle.sby_bits.specs.Rows.{Row}
use Rattle.model_core.specs.Shape.{IsDistinct, ModelOf, NodeOf, given, sources}
use Rattle.model_core.specs.Meaning.{Cycle, row_at, row_of_node}
use Rattle.model_core.specs.Served.{IsModel}
use Rattle.model_core.proofs.Lists.{app_left, app_right, at_place, contained_at, contains_left, drop_at, flat_more, flat_rest, place_of_contained}

-- the row's bits at these places, the rest as it was
pub written : Cycle → List ℕ → Row → Cycle
written c [] row p = c p
written c (q ∷ ps) [] p = c p
written c (q ∷ ps) (x ∷ row) p = cond (eqb p q) x (written c ps row p)

written_here : (c : Cycle) (q : ℕ) (ps : List ℕ) (x : Bool) (row : Row) → written c (q ∷ ps) (x ∷ row) q ≡ x
unfolding written
written_here c q ps x row = grind arith

written_there : (c : Cycle) (q : ℕ) (ps : List ℕ) (x : Bool) (row : Row) (p : ℕ) → (p ≡ q → ⊥) → written c (q ∷ ps) (x ∷ row) p ≡ written c ps row p
unfolding written
written_there c q ps x row p n = by (eqb p q) refl
  where
    by : (t : Bool) → eqb p q ≡ t → cond t x (written c ps row p) ≡ written c ps row p
    by true e = absurd (n (grind (arith, e)))
    by false e = refl

pub written_other : (c : Cycle) (ps : List ℕ) (row : Row) (p : ℕ) → (Contains ps p → ⊥) → written c ps row p ≡ c p
unfolding written
written_other c [] row p n = refl
written_other c (q ∷ ps) [] p n = refl
written_other c (q ∷ ps) (x ∷ row) p n =
    written_there c q ps x row p (λ e. n (contained_at (q ∷ ps) p 0 (ap Some (sym e))))
    ∙ written_other c ps row p (λ h. let at = place_of_contained ps p h in n (contained_at (q ∷ ps) p (suc at.0) at.1))

-- rows at places
pub row_same : (c e : Cycle) (ps : List ℕ) → ((p : ℕ) → Contains ps p → c p ≡ e p) → row_at c ps ≡ row_at e ps
row_same c e [] h = refl
row_same c e (q ∷ ps) h =
    let head : c q ≡ e q = h q (contained_at (q ∷ ps) q 0 refl) in
    let tail = row_same c e ps (λ p i. let at = place_of_contained ps p i in h p (contained_at (q ∷ ps) p (suc at.0) at.1)) in
    cc

pub bit_same : (c e : Cycle) (ps : List ℕ) (p : ℕ) → row_at c ps ≡ row_at e ps → Contains ps p → c p ≡ e p
bit_same c e ps p h i = let at = place_of_contained ps p i in by ps at.0 h at.1
  where
    by : (ps : List ℕ) (k : ℕ) → row_at c ps ≡ row_at e ps → slice_get ps k ≡ Some p → c p ≡ e p
    by [] k h g = cc
    by (q ∷ ps) zero h g = let z : q ≡ p = cc in let head : c q ≡ e q = cc in cc
    by (q ∷ ps) (suc k) h g = let tail : row_at c ps ≡ row_at e ps = cc in by ps k tail g

pub row_append : (c : Cycle) (ps qs : List ℕ) → row_at c (ps ++ qs) ≡ row_at c ps ++ row_at c qs
row_append c [] qs = refl
row_append c (p ∷ ps) qs = ap (λ (row : Row). c p ∷ row) (row_append c ps qs)

-- what is written is read
pub written_row : (c : Cycle) (ps : List ℕ) (row : Row) → IsDistinct ps → length row ≡ length ps → row_at (written c ps row) ps ≡ row
written_row c [] [] d l = refl
written_row c [] (x ∷ row) d l = absurd (omega arith)
written_row c (q ∷ ps) [] d l = absurd (omega arith)
written_row c (q ∷ ps) (x ∷ row) d l =
    let apart : Contains ps q → ⊥ = λ h. let at = place_of_contained ps q h in let z : 0 ≡ suc at.0 = d 0 (suc at.0) q refl at.1 in absurd (omega arith) in
    let tail = written_row c ps row (λ i j p a b. let z : suc i ≡ suc j = d (suc i) (suc j) p a b in omega arith) (omega arith) in
    let here = written_here c q ps x row in
    let rest = row_same (written c (q ∷ ps) (x ∷ row)) (written c ps row) ps (λ p h. written_there c q ps x row p (λ e. apart (subst (λ (z : ℕ). Contains ps z) e h))) in
    cc

-- the nodes' rows are written one after the other
pub after : Cycle → List NodeOf → Cycle
after c [] p = c p
after c (n ∷ nodes) p = after (written c n.y (row_of_node c n)) nodes p

pub after_none : (c : Cycle) (p : ℕ) → after c [] p ≡ c p
unfolding after
after_none c p = refl

pub after_one : (c : Cycle) (nodes : List NodeOf) (i : ℕ) (n : NodeOf) → slice_get nodes i ≡ Some n
    → (p : ℕ) → after c (take (suc i) nodes) p ≡ written (after c (take i nodes)) n.y (row_of_node (after c (take i nodes)) n) p
unfolding after
after_one c [] i n e p = cc
after_one c (m ∷ nodes) zero n e p = let z : m ≡ n = cc in ap (λ (k : NodeOf). written c k.y (row_of_node c k) p) z
after_one c (m ∷ nodes) (suc i) n e p = after_one (written c m.y (row_of_node c m)) nodes i n e p

module _ (m : ModelOf) (is : IsModel m) where
  -- the places that have a value before node i is reached
  abbrev pub known : ℕ → List ℕ
  known i = sources m ++ given (take i m.nodes)

  abbrev pub every : List ℕ
  every = sources m ++ given m.nodes

  pub known_more : (i : ℕ) (n : NodeOf) → slice_get m.nodes i ≡ Some n → known (suc i) ≡ known i ++ n.y
  known_more i n e = ap (λ (ps : List ℕ). sources m ++ ps) (flat_more (λ (k : NodeOf). k.y) m.nodes i n e) ∙ sym (append_assoc (sources m) (given (take i m.nodes)) n.y)

  known_rest : (i : ℕ) (n : NodeOf) → slice_get m.nodes i ≡ Some n → every ≡ known i ++ (n.y ++ given (drop (suc i) m.nodes))
  known_rest i n e =
      ap (λ (ps : List ℕ). sources m ++ ps) (flat_rest (λ (k : NodeOf). k.y) m.nodes i ∙ ap (λ (ks : List NodeOf). given (take i m.nodes) ++ given ks) (drop_at m.nodes i n e))
      ∙ sym (append_assoc (sources m) (given (take i m.nodes)) (n.y ++ given (drop (suc i) m.nodes)))

  given_place : (i : ℕ) (n : NodeOf) (k p : ℕ) → slice_get m.nodes i ≡ Some n → slice_get n.y k ≡ Some p → slice_get every (length (known i) + k) ≡ Some p
  given_place i n k p e g =
      ap (λ (ps : List ℕ). slice_get ps (length (known i) + k)) (known_rest i n e)
      ∙ app_right (known i) (n.y ++ given (drop (suc i) m.nodes)) k (length (known i) + k) refl
      ∙ app_left n.y (given (drop (suc i) m.nodes)) k p g

  -- no node writes what is known
  pub fresh : (i : ℕ) (n : NodeOf) (p : ℕ) → slice_get m.nodes i ≡ Some n → Contains (known i) p → Contains n.y p → ⊥
  fresh i n p e h g =
      let a = place_of_contained (known i) p h in
      let b = place_of_contained n.y p g in
      let first = ap (λ (ps : List ℕ). slice_get ps a.0) (known_rest i n e) ∙ app_left (known i) (n.y ++ given (drop (suc i) m.nodes)) a.0 p a.1 in
      let second = given_place i n b.0 p e b.1 in
      let same = is.once a.0 (length (known i) + b.0) p first second in
      let l = slice_get_within (known i) a.0 p a.1 in
      omega arith

  pub output_distinct : (i : ℕ) (n : NodeOf) → slice_get m.nodes i ≡ Some n → IsDistinct n.y
  output_distinct i n e j k p a b =
      let same = is.once (length (known i) + j) (length (known i) + k) p (given_place i n j p e a) (given_place i n k p e b) in
      omega arith

  pub known_at_end : known (length m.nodes) ≡ every
  known_at_end = ap (λ (ns : List NodeOf). sources m ++ given ns) (whole m.nodes)
    where
      whole : (ns : List NodeOf) → take (length ns) ns ≡ ns
      whole [] = refl
      whole (n ∷ ns) = ap (λ (ks : List NodeOf). n ∷ ks) (whole ns)

  -- what is known stays
  pub stays : (c : Cycle) (i d j p : ℕ) → j ≡ i + d → j ≤ length m.nodes → Contains (known i) p → Contains (known j) p × (after c (take j m.nodes) p ≡ after c (take i m.nodes) p)
  stays c i zero j p e l h = let z : i ≡ j = omega arith in subst (λ (k : ℕ). Contains (known k) p × (after c (take k m.nodes) p ≡ after c (take i m.nodes) p)) z (h, refl)
  stays c i (suc d) zero p e l h = absurd (omega arith)
  stays c i (suc d) (suc j) p e l h =
      let r = stays c i d j p (omega arith) (omega arith) h in
      let n = at_place m.nodes j (omega arith) in (
        subst (λ (ps : List ℕ). Contains ps p) (sym (known_more j n.0 n.1)) (contains_left (known j) n.0.y p r.0),
        after_one c m.nodes j n.0 n.1 p ∙ written_other (after c (take j m.nodes)) n.0.y (row_of_node (after c (take j m.nodes)) n.0) p (λ g. fresh j n.0 p n.1 r.0 g) ∙ r.1,
      )
