-- The search, level by level.
use Rattle.std.proofs.Common.{◌≡◌, ◌⊎◌, ℕ, zero, suc, ◌+◌, ◌<◌, ◌≤◌, Bool, true, false, not, ◌||◌, List, [], ◌∷◌, ◌++◌, Some, length, map, get_or, refl, sym, ap, ◌∙◌, subst, inl, inr, arith, eqb, take, drop}
use Rattle.std.specs.Prelude.{Contains, All, slice_get, slice_index, count_by, replicate}
use Rattle.std.specs.List.{IsDistinct}
use Rattle.std.specs.List.Sorted.{IsPermutation, IsSorted, IsStrictlyIncreasing}
use Rattle.std.specs.Ordering.{nat_cmp}
use Rattle.std.proofs.lemmas.Bool.{cases_Bool, cases_lt, eq-eqb}
use Rattle.std.proofs.lemmas.List.{append_assoc, length-append, take-append-drop, take-append-le, take_all, take-take, get_or-append-add}
use Rattle.std.proofs.Math.ListN.{get_or-append}
use Rattle.std.proofs.Math.Seq.{get_or-append_seam}
use Rattle.std.proofs.lemmas.List.Elements.{All-cons, All-contains, All-get_or, All-nil, All-push, All-weaker, Contains-append_right, Contains-append_cases}
use Rattle.std.proofs.lemmas.List.Sorted.{All-permutation, Contains-permutation, IsNonDecreasingBy-from_sort, IsPermutation-append_right, IsPermutation-sym, length_permutation}
use Rattle.std.proofs.lemmas.Map.Keys.{apart_from_distinct, IsDistinct-from_apart, IsDistinct-IsPermutation, IsDistinct-tail, IsStrictlyIncreasing-from_distinct}
use Rattle.cnf_form.specs.Cnf.{LitOf}
use Rattle.gate_graph.specs.declared.gate.Gate.{Gate}
use Rattle.gate_graph.specs.Folding.{operands}
use Rattle.bit_net.specs.Net.{IsNet, NetOf, gate_var, state_var, vars}
use Rattle.bit_net.specs.Reaching.{entries, is_at, is_one_of, level, levels, nearer, numbers, reached, spread, taken}
use Rattle.bit_net.specs.Search.{AtLevel, Descends, IsClosedTo, IsSearch, Takes, Visits, begun, marked}
use Rattle.bit_net.proofs.Lists.{IsRisingFrom, and_both, both_and, filter_in, filter_rises, in_filter, in_map, in_numbers, in_one_of, map_in, none_in, not_true, numbers_in, numbers_rise, one_of_in, or_cases, or_left, or_right, rising_same, true_not}
use Rattle.bit_net.proofs.Spreading.{in_taken, net_least, spread_has, taken_in}
use Rattle.bit_net.proofs.Reached.{at_gate}
use Rattle.bit_net.proofs.Needing.{levels_end, near_state}
use Rattle.bit_net.proofs.Searching.{grown, same_numbers}

-- lists that are sorted, and of which no two elements are the same
distinct_drop : (n : ℕ) (xs : List ℕ) → IsDistinct eqb xs → IsDistinct eqb (drop n xs)
distinct_drop zero xs d = d
distinct_drop (suc n) [] d = d
distinct_drop (suc n) (x ∷ xs) d = distinct_drop n xs (IsDistinct-tail eqb x xs d)

distinct_apart : (xs ys : List ℕ) (v : ℕ) → IsDistinct eqb (xs ++ ys) → Contains xs v → Contains ys v → ⊥
distinct_apart xs ys v d (i, l, e) (j, m, f) =
    let size = length-append xs ys in
    let no = apart_from_distinct eqb (xs ++ ys) i (length xs + j) v d (omega arith) (omega arith) in
    let here : get_or (xs ++ ys) i v ≡ v = get_or-append xs ys v i l ∙ e in
    let there : get_or (xs ++ ys) (length xs + j) v ≡ v = get_or-append-add xs ys j v ∙ f in
    let yes = eq-eqb (get_or (xs ++ ys) i v) (get_or (xs ++ ys) (length xs + j) v) (here ∙ sym there) in
    let z : true ≡ false = sym yes ∙ no in cc

rising_of : (low : ℕ) (xs : List ℕ) → IsStrictlyIncreasing xs → (0 < length xs → low ≤ get_or xs 0 0) → IsRisingFrom low xs
rising_of low [] s h = tt
rising_of low (x ∷ xs) s h = (h (omega arith), rising_of (suc x) xs (λ k l. subst (λ (j : ℕ). slice_index xs k < slice_index (x ∷ xs) j) (let e : suc k + 1 ≡ suc (k + 1) = omega arith in e) (s (suc k) (omega arith))) (λ l. s 0 (omega arith)))

pub search_moved : (seen : List Bool) (xs ys : List ℕ) → IsPermutation xs ys → IsSearch seen xs → IsSearch seen ys
search_moved seen xs ys p s = record {
  count = length_permutation xs ys p ∙ s.count;
  within = All-permutation (λ v. (1 < v) × (v < length seen)) xs ys p s.within;
  marks = λ v h. Contains-permutation xs ys v p (s.marks v h);
  all = λ v c. s.all v (Contains-permutation ys xs v (IsPermutation-sym xs ys p) c);
  distinct = IsDistinct-IsPermutation eqb (λ x y. same_numbers.symm x y) xs ys p s.distinct;
}

-- a list of which the front stays and the rest moves
pub moved_whole : (begin : ℕ) (xs ys : List ℕ) → take begin ys ≡ take begin xs → IsPermutation (drop begin xs) (drop begin ys) → IsPermutation xs ys
moved_whole begin xs ys e p =
    subst (λ (zs : List ℕ). IsPermutation zs ys) (take-append-drop begin xs)
    (subst (IsPermutation (take begin xs ++ drop begin xs)) (ap (λ (zs : List ℕ). zs ++ drop begin ys) (sym e) ∙ take-append-drop begin ys) (IsPermutation-append_right (take begin xs) (drop begin xs) (drop begin ys) p))

begun_spread : (n : NetOf) (now before : List LitOf) (d v : ℕ) → reached n now before d v ≡ spread (entries n) (begun n now before d) v
begun_spread n now before zero v = refl
begun_spread n now before (suc d) v = refl

near_begun : (n : NetOf) (now before : List LitOf) (d v : ℕ) → nearer n now before d v ≡ true → reached n now before d v ≡ true
near_begun n now before zero v h = absurd (let z : false ≡ true = h in cc)
near_begun n now before (suc d) v h = spread_has (entries n) (begun n now before (suc d)) v (or_left (reached n now before d v) (taken 0 n.states (reached n now before d) v || is_one_of before v) h)

-- what one level does
pub record IsRaised (n : NetOf) (before : List LitOf) (seen : List Bool) (old down moved new : List ℕ) (begin : ℕ) : Type 0 where
  pub descends : Descends n old down
  pub search : IsSearch seen down
  pub size : length seen ≡ vars n + 1
  pub front : take begin moved ≡ take begin down
  pub perm : IsPermutation (drop begin down) (drop begin moved)
  pub sorted : IsSorted nat_cmp (drop begin moved)
  pub taken : List ℕ
  pub takes : Takes n (drop begin (take (length down) moved)) moved taken
  pub visits : Visits (map (λ (l : LitOf). l.var) before) taken new

module _ (n : NetOf) (net : IsNet n) (now before : List LitOf) (d : ℕ) (seen : List Bool) (old down moved new : List ℕ) (begin : ℕ) (at : AtLevel n now before old begin d) (r : IsRaised n before seen old down moved new begin) where
  lo_in : (v : ℕ) → Contains down v → (1 < v) × (v < length seen)
  lo_in v c = All-contains (λ u. (1 < u) × (u < length seen)) down v r.search.within c

  from_old : (v : ℕ) → Contains old v → Contains down v
  from_old v c = let (more, e) = r.descends.front in grown old down more v e c

  down_reached : (v : ℕ) → Contains down v → reached n now before d v ≡ true
  down_reached v c = r.descends.least (reached n now before d) (λ k g o here h i lo. at_gate n now before d k g o net here h i)
      (λ w i. (let (lo, hi) = lo_in w (from_old w i) in begun_spread n now before d w ∙ spread_has (entries n) (begun n now before d) w ((at.begun w lo).0 i))) v c

  closed : (k : ℕ) (g : Gate) (o : LitOf) → slice_get n.gates k ≡ Some g → Contains down (gate_var n k) → Contains (operands g) o → 1 < o.var → Contains down o.var
  closed k g o here i c lo = r.descends.closed k g o here (subst (λ (xs : List ℕ). Contains xs (gate_var n k)) (sym (take_all (length down) down (omega arith))) i) c lo

  reached_down : (v : ℕ) → 1 < v → reached n now before d v ≡ true → Contains down v
  reached_down v lo h = net_least n (λ w. 1 < w → Contains down w) (begun n now before d) (λ k g o here p c l. closed k g o here (p (omega arith)) c l)
      (λ w b l. from_old w ((at.begun w l).1 b)) v (sym (begun_spread n now before d v) ∙ h) lo

  whole : IsPermutation down moved
  whole = moved_whole begin down moved r.front r.perm

  to_moved : (v : ℕ) → Contains down v → Contains moved v
  to_moved v c = Contains-permutation down moved v whole c

  from_moved : (v : ℕ) → Contains moved v → Contains down v
  from_moved v c = Contains-permutation moved down v (IsPermutation-sym down moved whole) c

  as_long : length moved ≡ length down
  as_long = length_permutation down moved whole

  moved_search : IsSearch seen moved
  moved_search = search_moved seen down moved whole r.search

  firsts : take begin moved ≡ take begin old
  firsts = let (more, e) = r.descends.front in r.front ∙ ap (take begin) e ∙ take-append-le begin old more at.inside

  front_near : (v : ℕ) → Contains (take begin moved) v → nearer n now before d v ≡ true
  front_near v c = ((at.nearer v).0 (subst (λ (xs : List ℕ). Contains xs v) firsts c)).1

  near_front : (v : ℕ) → 1 < v → nearer n now before d v ≡ true → Contains (take begin moved) v
  near_front v lo h = subst (λ (xs : List ℕ). Contains xs v) (sym firsts) ((at.nearer v).1 (lo, h))

  parts : (v : ℕ) → Contains moved v → Contains (take begin moved) v ⊎ Contains (drop begin moved) v
  parts v c = Contains-append_cases (take begin moved) (drop begin moved) v (subst (λ (xs : List ℕ). Contains xs v) (sym (take-append-drop begin moved)) c)

  in_rest : (v : ℕ) → Contains (drop begin moved) v → Contains moved v
  in_rest v c = subst (λ (xs : List ℕ). Contains xs v) (take-append-drop begin moved) (Contains-append_right (take begin moved) (drop begin moved) v c)

  rest_far : (v : ℕ) → Contains (drop begin moved) v → nearer n now before d v ≡ false
  rest_far v c = elim (cases_Bool (nearer n now before d v)) as (λ _. nearer n now before d v ≡ false) [
    | inl h ↦ absurd (distinct_apart (take begin moved) (drop begin moved) v (subst (IsDistinct eqb) (sym (take-append-drop begin moved)) moved_search.distinct)
        (near_front v (lo_in v (from_moved v (in_rest v c))).0 h) c)
    | inr h ↦ h
  ]

  rest_is : drop begin moved ≡ level n now before d
  rest_is = rising_same 0 2 (drop begin moved) (level n now before d) (rising_of 0 (drop begin moved)
      (IsStrictlyIncreasing-from_distinct (drop begin moved) (IsNonDecreasingBy-from_sort (λ x. x) (drop begin moved) r.sorted) (distinct_drop begin moved moved_search.distinct)) (λ l. omega arith))
      (filter_rises (is_at n now before d) 2 (numbers 2 (length n.states + n.inputs + length n.gates)) (numbers_rise 2 (length n.states + n.inputs + length n.gates))) there back
    where
      there : (v : ℕ) → Contains (drop begin moved) v → Contains (level n now before d) v
      there v c =
          let i = from_moved v (in_rest v c) in
          let (lo, hi) = lo_in v i in
          let s = r.size in
          in_filter (is_at n now before d) (numbers 2 (length n.states + n.inputs + length n.gates)) v (in_numbers 2 (length n.states + n.inputs + length n.gates) v (omega arith) (omega arith))
          (and_both (reached n now before d v) (not (nearer n now before d v)) (down_reached v i) (not_true (nearer n now before d v) (rest_far v c)))

      back : (v : ℕ) → Contains (level n now before d) v → Contains (drop begin moved) v
      back v c =
          let (i, h) = filter_in (is_at n now before d) (numbers 2 (length n.states + n.inputs + length n.gates)) v c in
          let (p, q) = both_and (reached n now before d v) (not (nearer n now before d v)) h in
          let (lo, hi) = numbers_in 2 (length n.states + n.inputs + length n.gates) v i in
          elim (parts v (to_moved v (reached_down v (omega arith) p))) as (λ _. Contains (drop begin moved) v) [
            | inl a ↦ absurd (true_not (nearer n now before d v) q (front_near v a))
            | inr a ↦ a
          ]

  -- what was found in front stays there
  more_is : (more : List ℕ) × (new ≡ moved ++ more)
  more_is =
      let (f, e) = r.takes.front in
      let (g, h) = r.visits.front in
      (f ++ g, h ∙ ap (λ (z : List ℕ). z ++ g) e ∙ append_assoc moved f g)

  to_new : (v : ℕ) → Contains moved v → Contains new v
  to_new v c = let (more, e) = more_is in grown moved new more v e c

  taken_new : (v : ℕ) → Contains r.taken v → Contains new v
  taken_new v c = let (more, e) = r.visits.front in grown r.taken new more v e c

  firsts_new : take (length down) new ≡ moved
  firsts_new =
      let (more, e) = more_is in
      let s = as_long in
      ap (take (length down)) e ∙ take-append-le (length down) moved more (omega arith) ∙ take_all (length down) moved (omega arith)

  rest_of_moved : drop begin (take (length down) moved) ≡ drop begin moved
  rest_of_moved = let s = as_long in ap (drop begin) (take_all (length down) moved (omega arith))

  done : take (length down) new ≡ levels n now before (suc d)
  done =
      firsts_new ∙ sym (take-append-drop begin moved)
      ∙ ap (λ (xs : List ℕ). xs ++ drop begin moved) (firsts ∙ at.done)
      ∙ ap (λ (xs : List ℕ). levels n now before d ++ xs) rest_is
      ∙ sym (levels_end n now before d)

  new_begun : (v : ℕ) → 1 < v → Contains new v → begun n now before (suc d) v ≡ true
  new_begun v lo c = elim (r.visits.only v c) as (λ _. begun n now before (suc d) v ≡ true) [
    | inl i ↦ elim (r.takes.only v i) as (λ _. begun n now before (suc d) v ≡ true) [
      | inl j ↦ or_left (reached n now before d v) (taken 0 n.states (reached n now before d) v || is_one_of before v) (down_reached v (from_moved v j))
      | inr j ↦
          let inside = subst (λ (xs : List ℕ). Contains xs (state_var j.0)) rest_of_moved j.3 in
          let h = down_reached (state_var j.0) (from_moved (state_var j.0) (in_rest (state_var j.0) inside)) in
          let t = in_taken 0 n.states (reached n now before d) j.0 j.1 j.2 (subst (λ (i : ℕ). reached n now before d (state_var i) ≡ true) (let e : j.0 ≡ 0 + j.0 = omega arith in e) h) in
          or_right (reached n now before d v) (taken 0 n.states (reached n now before d) v || is_one_of before v)
          (or_left (taken 0 n.states (reached n now before d) v) (is_one_of before v) (subst (λ (w : ℕ). taken 0 n.states (reached n now before d) w ≡ true) j.4 t))
    ]
    | inr i ↦
        let (l, j, e) = map_in (λ (l : LitOf). l.var) before v i in
        or_right (reached n now before d v) (taken 0 n.states (reached n now before d) v || is_one_of before v)
        (or_right (taken 0 n.states (reached n now before d) v) (is_one_of before v) (subst (λ (w : ℕ). is_one_of before w ≡ true) e (in_one_of before l j)))
  ]

  begun_new : (v : ℕ) → 1 < v → begun n now before (suc d) v ≡ true → Contains new v
  begun_new v lo h = elim (or_cases (reached n now before d v) (taken 0 n.states (reached n now before d) v || is_one_of before v) h) as (λ _. Contains new v) [
    | inl a ↦ to_new v (to_moved v (reached_down v lo a))
    | inr a ↦ elim (or_cases (taken 0 n.states (reached n now before d) v) (is_one_of before v) a) as (λ _. Contains new v) [
      | inl t ↦
          let (i, s, here, p, e) = taken_in 0 n.states (reached n now before d) v t in
          let q : reached n now before d (state_var i) ≡ true = subst (λ (j : ℕ). reached n now before d (state_var j) ≡ true) (let z : 0 + i ≡ i = omega arith in z) p in
          let state = to_moved (state_var i) (reached_down (state_var i) (omega arith) q) in
          elim (parts (state_var i) state) as (λ _. Contains new v) [
            | inl x ↦ to_new v (to_moved v (reached_down v lo (subst (λ (w : ℕ). reached n now before d w ≡ true) e (near_state n now before d i s here (front_near (state_var i) x)))))
            | inr x ↦ taken_new v (subst (Contains r.taken) e (r.takes.has i s here (subst (λ (xs : List ℕ). Contains xs (state_var i)) (sym rest_of_moved) x) (omega arith)))
          ]
      | inr t ↦
          let (l, c, e) = one_of_in before v t in
          subst (Contains new) e (r.visits.has l.var (in_map (λ (k : LitOf). k.var) before l c) (omega arith))
    ]
  ]

  raised : AtLevel n now before new (length down) (suc d)
  raised = record {
    inside = (let (more, e) = more_is in let s = as_long in let t = ap length e in let u = length-append moved more in omega arith);
    done = done;
    closed = λ k g o here i c lo. to_new o.var (to_moved o.var (closed k g o here (from_moved (gate_var n k) (subst (λ (xs : List ℕ). Contains xs (gate_var n k)) firsts_new i)) c lo));
    nearer = λ v. (
      (λ c. (let i = from_moved v (subst (λ (xs : List ℕ). Contains xs v) firsts_new c) in ((lo_in v i).0, down_reached v i))),
      (λ (lo, h). subst (λ (xs : List ℕ). Contains xs v) (sym firsts_new) (to_moved v (reached_down v lo h))),
    );
    begun = λ v lo. (new_begun v lo, begun_new v lo);
  }

pub level_up : (n : NetOf) (now before : List LitOf) (d : ℕ) (seen : List Bool) (old down moved new : List ℕ) (begin : ℕ) → IsNet n → AtLevel n now before old begin d → IsRaised n before seen old down moved new begin →
    AtLevel n now before new (length down) (suc d)
level_up n now before d seen old down moved new begin net at r = raised n net now before d seen old down moved new begin at r

pub level_end : (n : NetOf) (before : List LitOf) (seen : List Bool) (old down moved new : List ℕ) (begin : ℕ) → begin ≤ length old → IsRaised n before seen old down moved new begin →
    (begin ≤ length down) × (length down ≤ length new) × IsClosedTo n new (length down)
level_end n before seen old down moved new begin l r =
    let (more, e) = r.descends.front in
    let (f, g) = r.takes.front in
    let (h, i) = r.visits.front in
    let whole = moved_whole begin down moved r.front r.perm in
    let long = length_permutation down moved whole in
    let is : new ≡ moved ++ (f ++ h) = i ∙ ap (λ (z : List ℕ). z ++ h) g ∙ append_assoc moved f h in
    let a = ap length e in
    let b = length-append old more in
    let c = ap length is in
    let d = length-append moved (f ++ h) in
    let firsts : take (length down) new ≡ moved = ap (take (length down)) is ∙ take-append-le (length down) moved (f ++ h) (omega arith) ∙ take_all (length down) moved (omega arith) in (
      omega arith,
      omega arith,
      λ k j o here x y lo.
          (let z = Contains-permutation moved down (gate_var n k) (IsPermutation-sym down moved whole) (subst (λ (xs : List ℕ). Contains xs (gate_var n k)) firsts x) in
          grown moved new (f ++ h) o.var is (Contains-permutation down moved o.var whole (r.descends.closed k j o here (subst (λ (xs : List ℕ). Contains xs (gate_var n k)) (sym (take_all (length down) down (omega arith))) z) y lo))),
    )

-- before the first level
none_marked : (size v : ℕ) → marked (replicate size false) v ≡ true → ⊥
none_marked zero v h = let z : false ≡ true = h in cc
none_marked (suc size) zero h = let z : false ≡ true = h in cc
none_marked (suc size) (suc v) h = none_marked size v h

no_marks : (size : ℕ) → 0 ≡ count_by (λ (b : Bool). b) (replicate size false)
no_marks zero = refl
no_marks (suc size) = no_marks size

pub search_begins : (size : ℕ) → IsSearch (replicate size false) []
search_begins size = record {
  count = no_marks size;
  within = All-nil (λ v. (1 < v) × (v < length (replicate size false)));
  marks = λ v h. absurd (none_marked size v h);
  all = λ v c. absurd (none_in v c);
  distinct = IsDistinct-from_apart eqb [] (λ i j d l m. absurd (omega arith));
}

pub level_begins : (n : NetOf) (now before : List LitOf) (found : List ℕ) → Visits (map (λ (l : LitOf). l.var) now) [] found → AtLevel n now before found 0 0
level_begins n now before found p = record {
  inside = omega arith;
  done = refl;
  closed = λ k g o here i c lo. absurd (none_in (gate_var n k) i);
  nearer = λ v. ((λ c. absurd (none_in v c)), (λ (lo, h). absurd (let z : false ≡ true = h in cc)));
  begun = λ v lo. (
    (λ c. elim (p.only v c) as (λ _. is_one_of now v ≡ true) [
      | inl i ↦ absurd (none_in v i)
      | inr i ↦ let (l, j, e) = map_in (λ (l : LitOf). l.var) now v i in subst (λ (w : ℕ). is_one_of now w ≡ true) e (in_one_of now l j)
    ]),
    (λ h. (let (l, c, e) = one_of_in now v h in subst (Contains found) e (p.has l.var (in_map (λ (k : LitOf). k.var) now l c) (omega arith)))),
  );
}

-- the first numbers of levels
pub record ArePrefixes (n : NetOf) (now before : List LitOf) (found ends : List ℕ) (end : ℕ) : Type 0 where
  pub some : 0 < length ends
  pub within : All (λ e. e ≤ end) ends
  pub level : (d : ℕ) → suc d ≡ length ends → AtLevel n now before found end d
  pub each : (many : ℕ) → many < length ends → take (slice_index ends many) found ≡ levels n now before many

pub prefixes_begin : (n : NetOf) (now before : List LitOf) (found : List ℕ) → Visits (map (λ (l : LitOf). l.var) now) [] found → ArePrefixes n now before found (0 ∷ []) 0
prefixes_begin n now before found p = record {
  some = omega arith;
  within = All-cons (λ e. e ≤ 0) 0 [] (omega arith) (All-nil (λ e. e ≤ 0));
  level = λ d e. subst (λ (i : ℕ). AtLevel n now before found 0 i) (let z : 0 ≡ d = omega arith in z) (level_begins n now before found p);
  each = λ many l. first many l;
}
  where
    first : (many : ℕ) → many < 1 → take (slice_index (0 ∷ []) many) found ≡ levels n now before many
    first zero l = refl
    first (suc many) l = absurd (omega arith)

take_fewer : (e b : ℕ) (xs ys : List ℕ) → e ≤ b → take b xs ≡ take b ys → take e xs ≡ take e ys
take_fewer e b xs ys l h = sym (take-take e b xs l) ∙ ap (take e) h ∙ take-take e b ys l

pub prefixes_more : (n : NetOf) (now before : List LitOf) (old new ends : List ℕ) (end next : ℕ) → ArePrefixes n now before old ends end → end ≤ next → take end new ≡ take end old →
    ((d : ℕ) → AtLevel n now before old end d → AtLevel n now before new next (suc d)) → ArePrefixes n now before new (ends ++ next ∷ []) next
prefixes_more n now before old new ends end next p up front step = record {
  some = (let z = length-append ends (next ∷ []) in omega arith);
  within = All-push (λ e. e ≤ next) ends next (All-weaker (λ e. e ≤ end) (λ e. e ≤ next) (λ e h. omega arith) ends p.within) (omega arith);
  level = λ d e. level d (let z = length-append ends (next ∷ []) in omega arith);
  each = λ many l. (elim (cases_lt many (length ends)) as (λ _. take (slice_index (ends ++ next ∷ []) many) new ≡ levels n now before many) [
    | inl m ↦
        ap (λ (e : ℕ). take e new) (get_or-append ends (next ∷ []) 0 many m)
        ∙ take_fewer (slice_index ends many) end new old (All-get_or (λ e. e ≤ end) ends many 0 m p.within) front
        ∙ p.each many m
    | inr m ↦
        let z = length-append ends (next ∷ []) in
        let e : length ends ≡ many = omega arith in
        ap (λ (i : ℕ). take (slice_index (ends ++ next ∷ []) i) new) (sym e) ∙ ap (λ (i : ℕ). take i new) (get_or-append_seam ends next [] 0) ∙ last ∙ ap (levels n now before) e
  ]);
}
  where
    level : (d : ℕ) → d ≡ length ends → AtLevel n now before new next d
    level zero e = absurd (let s = p.some in omega arith)
    level (suc d) e = step d (p.level d e)

    last : take next new ≡ levels n now before (length ends)
    last = (level (length ends) refl).done
