-- The rows of inputs that are read.
use Rattle.std.proofs.Common.{◌≡◌, inl, inr, ℕ, zero, suc, ◌+◌, ◌<◌, ◌≤◌, Bool, true, false, List, [], ◌∷◌, ◌++◌, Some, None, length, get_or, map, take, cond, refl, sym, ap, subst, ◌∙◌, arith, append_assoc, eqb-true, ne_eqb}
use Rattle.std.specs.Prelude.{◌↔◌, All, Contains, eqb, not, ◌||◌, slice_get, slice_index_or}
use Rattle.std.specs.List.{concat, filter, list_any}
use Rattle.std.proofs.lemmas.List.Elements.{All-append, All-contains, All-filter, All-map, filter-append}
use Rattle.std.proofs.lemmas.List.Folds.{concat-append}
use Rattle.std.proofs.lemmas.Map.Keys.{IsDistinct-from_apart}
use Rattle.std.proofs.lemmas.Map.Made.{length-le_from_is_member}
use Rattle.std.proofs.lemmas.Map.Views.{Contains-from_any, list_any-from_Contains}
use Rattle.std.proofs.lemmas.Option.{slice_get-get_or}
use Rattle.std.proofs.lemmas.Cmp.{nat_eq_equiv}
use Rattle.std.specs.List.{IsDistinct as NoKeyTwice}
use Rattle.btor_emit.specs.Marks.{IsMarked, Marks, has_mark}
use Rattle.btor_emit.specs.Reads.{AreReadInputs, IsRead, input_rows, single_inputs}
use Rattle.btor_emit.proofs.Kept.{Apart, apart_from, apart_join, apart_kept, apart_to, contains_later, joined_from, joined_kept, joined_long, joined_singles, joined_there, kept_from, kept_passes, kept_there, rows_kept}
use Rattle.btor_emit.proofs.Covering.{take_at}
use Rattle.model_core.specs.Served.{IsModel}
use Rattle.model_core.specs.Shape.{AreBelow, IsDistinct, ModelOf, given, sources, states}
use Rattle.model_core.proofs.Frames.{open_source, source_below}
use Rattle.model_core.proofs.Lists.{all_from, app_left, app_right, contained_at, contains_either, contains_left, contains_right, place_of_contained}
use Rattle.place_rows.specs.Rows.{AreRowsOf}

pub inputs_distinct : (m : ModelOf) → IsModel m → IsDistinct m.inputs
inputs_distinct m is i j p a b =
    let at : (k : ℕ) → slice_get m.inputs k ≡ Some p → slice_get (sources m ++ given m.nodes) (suc (suc (length (states m) + k))) ≡ Some p = λ k h. app_left (states m ++ m.inputs) (given m.nodes) (length (states m) + k) p (app_right (states m) m.inputs k (length (states m) + k) refl ∙ h) in
    let same = is.once (suc (suc (length (states m) + i))) (suc (suc (length (states m) + j))) p (at i a) (at j b) in
    omega arith

pub inputs_below : (m : ModelOf) → IsModel m → AreBelow m.size m.inputs
inputs_below m is = all_from (λ (p : ℕ). p < m.size) m.inputs (λ k p at. source_below m is p (open_source m is p (contains_right (states m) m.inputs p (contained_at m.inputs p k at))))

pub input_below : (m : ModelOf) → IsModel m → (p : ℕ) → Contains m.inputs p → p < m.size
input_below m is p c = All-contains (λ (q : ℕ). q < m.size) m.inputs p (inputs_below m is) c

-- whether a number is one of a list's
pub any_from : (p : ℕ) (qs : List ℕ) → list_any (eqb p) qs ≡ true → Contains qs p
any_from p qs h = Contains-from_any (λ x y e. eqb-true x y e) p qs h

pub any_there : (p : ℕ) (qs : List ℕ) → Contains qs p → list_any (eqb p) qs ≡ true
any_there p qs c = list_any-from_Contains nat_eq_equiv p qs c

all_different : (xs : List ℕ) → IsDistinct xs → NoKeyTwice eqb xs
all_different xs d = IsDistinct-from_apart eqb xs (λ i j e l h. ne_eqb (get_or xs i e) (get_or xs j e) (λ same.
    let n = d i j (get_or xs i e) (slice_get-get_or xs i e (omega arith)) (slice_get-get_or xs j e h ∙ ap Some (sym same)) in
    absurd (omega arith)))

-- a place of a row that is marked
mark_from : (marks : List Bool) (row : List ℕ) → has_mark marks row ≡ true → (p : ℕ) × Contains row p × IsMarked marks p
mark_from marks [] h = absurd (cc)
mark_from marks (q ∷ row) h = by (slice_index_or marks q false) refl (λ e. mark_from marks row e)
  where
    by : (b : Bool) → slice_index_or marks q false ≡ b → (has_mark marks row ≡ true → (p : ℕ) × Contains row p × IsMarked marks p) → (p : ℕ) × Contains (q ∷ row) p × IsMarked marks p
    by true e rest = (q, contained_at (q ∷ row) q 0 refl, e)
    by false e rest = let x = rest (let z : has_mark marks row ≡ true = rw e at h in z) in (x.0, contains_later q row x.0 x.1, x.2)

mark_there : (marks : List Bool) (row : List ℕ) (p : ℕ) → Contains row p → IsMarked marks p → has_mark marks row ≡ true
mark_there marks row p c e = let at = place_of_contained row p c in by row at.0 at.1
  where
    by : (qs : List ℕ) (k : ℕ) → slice_get qs k ≡ Some p → has_mark marks qs ≡ true
    by [] k h = absurd (let n : None ≡ Some p = h in cc)
    by (q ∷ qs) zero h = let same : q ≡ p = cc in let f : slice_index_or marks q false ≡ true = ap (λ (z : ℕ). slice_index_or marks z false) same ∙ e in rw f refl
    by (q ∷ qs) (suc k) h = first (slice_index_or marks q false) (has_mark marks qs) (by qs k h)
      where
        first : (a b : Bool) → b ≡ true → (a || b) ≡ true
        first true b e = refl
        first false b e = e

-- what is kept of one element more
pub kept_step : {A : Type 0} (keep : A → Bool) (b : Bool) (xs : List A) (i : ℕ) (x : A) (start before now : List A) → slice_get xs i ≡ Some x → b ≡ keep x → before ≡ start ++ filter keep (take i xs) → now ≡ before ++ filter (λ r. b) (x ∷ []) → now ≡ start ++ filter keep (take (i + 1) xs)
kept_step {A = A} keep b xs i x start before now at k e f =
    let z : suc i ≡ i + 1 = omega arith in
    f ∙ ap (λ (ys : List A). ys ++ filter (λ r. b) (x ∷ [])) e ∙ append_assoc start (filter keep (take i xs)) (filter (λ r. b) (x ∷ []))
    ∙ ap (λ (c : Bool). start ++ (filter keep (take i xs) ++ cond c (x ∷ []) [])) k
    ∙ ap (λ (ys : List A). start ++ ys) (sym (ap (λ (n : ℕ). filter keep (take n xs)) (sym z) ∙ ap (filter keep) (take_at xs i x at) ∙ filter-append keep (take i xs) (x ∷ [])))

-- rows of one place each, of those that are marked and stand in no other row
abbrev pub singles : List Bool → List Bool → List ℕ → List (List ℕ)
singles marks taken ps = filter (has_mark marks) (map (λ p. p ∷ []) (filter (λ p. not (slice_index_or taken p false)) ps))

-- marks of the places of a list
same_test : (a b : Bool) → (a ≡ true → b ≡ true) → (b ≡ true → a ≡ true) → a ≡ b
same_test true b f g = sym (f refl)
same_test false true f g = g refl
same_test false false f g = refl

pub marks_are : (old new : List Bool) (qs : List ℕ) → ((p : ℕ) → IsMarked old p → ⊥) → Marks old new (Contains qs) → (p : ℕ) → slice_index_or new p false ≡ list_any (eqb p) qs
marks_are old new qs none marks p =
    same_test (slice_index_or new p false) (list_any (eqb p) qs)
    (λ h. elim ((marks.each p).0 h) as (λ _. list_any (eqb p) qs ≡ true) [
      | inl o ↦ absurd (none p o)
      | inr c ↦ any_there p qs c
    ]) (λ h. (marks.each p).1 (inr (any_from p qs h)))

filter_same : (f g : ℕ → Bool) (ps : List ℕ) → ((p : ℕ) → f p ≡ g p) → filter f ps ≡ filter g ps
filter_same f g [] h = refl
filter_same f g (p ∷ ps) h = ap (λ (b : Bool). cond b (p ∷ filter f ps) (filter f ps)) (h p) ∙ ap (λ (qs : List ℕ). cond (g p) (p ∷ qs) qs) (filter_same f g ps h)

module _ (m : ModelOf) (is : IsModel m) (rows : List (List ℕ)) (ok : AreRowsOf m.inputs rows) where
  all_joined : concat (input_rows m rows) ≡ concat rows ++ single_inputs m rows
  all_joined = concat-append rows (map (λ p. p ∷ []) (single_inputs m rows)) ∙ ap (λ (ps : List ℕ). concat rows ++ ps) (joined_singles (single_inputs m rows))

  all_apart : Apart (concat (input_rows m rows))
  all_apart = subst Apart (sym all_joined) (apart_join (concat rows) (single_inputs m rows) (apart_from (concat rows) ok.once) (apart_kept _ m.inputs (apart_from m.inputs (inputs_distinct m is))) (λ p c d.
      let none : not (list_any (eqb p) (concat rows)) ≡ true = kept_passes (λ q. not (list_any (eqb q) (concat rows))) m.inputs p d in
      let some = any_there p (concat rows) c in
      absurd (let z : not true ≡ true = subst (λ (b : Bool). not b ≡ true) some none in cc)))

  all_inside : (p : ℕ) → Contains (concat (input_rows m rows)) p → Contains m.inputs p
  all_inside p c =
      elim (contains_either (concat rows) (single_inputs m rows) p (subst (λ (ps : List ℕ). Contains ps p) all_joined c)) as (λ _. Contains m.inputs p) [
        | inl h ↦ ok.inside p h
        | inr h ↦ kept_from (λ q. not (list_any (eqb q) (concat rows))) m.inputs p h
      ]

  all_there : (p : ℕ) → Contains m.inputs p → Contains (concat (input_rows m rows)) p
  all_there p c = subst (λ (ps : List ℕ). Contains ps p) (sym all_joined) (by (list_any (eqb p) (concat rows)) refl)
    where
      by : (b : Bool) → list_any (eqb p) (concat rows) ≡ b → Contains (concat rows ++ single_inputs m rows) p
      by true e = contains_left (concat rows) (single_inputs m rows) p (any_from p (concat rows) e)
      by false e = let at = place_of_contained m.inputs p c in contains_right (concat rows) (single_inputs m rows) p (kept_there (λ q. not (list_any (eqb q) (concat rows))) m.inputs at.0 p at.1 (ap not e))

  pub rows_below : AreBelow m.size (concat rows)
  rows_below = all_from (λ (p : ℕ). p < m.size) (concat rows) (λ k p at. input_below m is p (ok.inside p (contained_at (concat rows) p k at)))

  abbrev Wide : List ℕ → Type 0
  Wide row = (1 ≤ length row) × (length row ≤ 4096)

  all_wide : All Wide (input_rows m rows)
  all_wide = All-append Wide rows (map (λ p. p ∷ []) (single_inputs m rows)) ok.wide (All-map Wide (λ (p : ℕ). p ∷ []) (single_inputs m rows) (all_from (λ (p : ℕ). Wide (p ∷ [])) (single_inputs m rows) (λ k p at. (omega arith, omega arith))))

  module _ (read : List (List ℕ)) (is_read : AreReadInputs m rows read) where
    read_is : read ≡ filter is_read.0 (input_rows m rows)
    read_is = is_read.1

    -- the rows that are read are rows of inputs
    pub read_rows_of : AreRowsOf m.inputs read
    read_rows_of = record {
      inside = λ p c. all_inside p (joined_kept is_read.0 (input_rows m rows) p (subst (λ (rs : List (List ℕ)). Contains (concat rs) p) read_is c));
      once = subst (λ (rs : List (List ℕ)). IsDistinct (concat rs)) (sym read_is) (apart_to _ (rows_kept is_read.0 (input_rows m rows) all_apart));
      wide = subst (All Wide) (sym read_is) (All-filter is_read.0 Wide (input_rows m rows) all_wide);
    }

    -- and each input that is read stands in them
    pub read_input : (p : ℕ) → Contains m.inputs p → IsRead m p → Contains (concat read) p
    read_input p c r =
        let x = joined_from (input_rows m rows) p (all_there p c) in
        let at = place_of_contained (input_rows m rows) x.0 x.1 in
        joined_there read x.0 p (subst (λ (rs : List (List ℕ)). Contains rs x.0) (sym read_is) (kept_there is_read.0 (input_rows m rows) at.0 x.0 at.1 ((is_read.2 x.0 x.1).1 (p, x.2, r)))) x.2

    -- there are no more of them than inputs
    pub read_few : length read ≤ length m.inputs
    read_few =
        let some = joined_long read read_rows_of.wide in
        let most = length-le_from_is_member nat_eq_equiv (concat read) m.inputs (all_different (concat read) read_rows_of.once) (λ p h. any_there p m.inputs (read_rows_of.inside p (any_from p (concat read) h))) in
        omega arith

  -- the rows of which a place is marked, where those are marked that are read
  pub marked_rows : (marks taken : List Bool) (first read : List (List ℕ)) → ((p : ℕ) → p < m.size → IsMarked marks p ↔ IsRead m p) → ((p : ℕ) → slice_index_or taken p false ≡ list_any (eqb p) (concat rows))
      → first ≡ [] ++ filter (has_mark marks) rows → read ≡ first ++ singles marks taken m.inputs → AreReadInputs m rows read
  marked_rows marks taken first read known is_taken e f = (
    has_mark marks,
    f ∙ ap (λ (rs : List (List ℕ)). rs ++ singles marks taken m.inputs) e
        ∙ ap (λ (ps : List ℕ). filter (has_mark marks) rows ++ filter (has_mark marks) (map (λ p. p ∷ []) ps)) (filter_same (λ p. not (slice_index_or taken p false)) (λ p. not (list_any (eqb p) (concat rows))) m.inputs (λ p. ap not (is_taken p)))
        ∙ sym (filter-append (has_mark marks) rows (map (λ p. p ∷ []) (single_inputs m rows))),
    λ row c.
        let below : (p : ℕ) → Contains row p → p < m.size = λ p d. input_below m is p (all_inside p (joined_there (input_rows m rows) row p c d)) in (
          (λ h. let x = mark_from marks row h in (x.0, x.1, (known x.0 (below x.0 x.1)).0 x.2)),
          (λ h. mark_there marks row h.0 h.1 ((known h.0 (below h.0 h.1)).1 h.2)),
        ),
  )
