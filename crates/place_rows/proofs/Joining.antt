-- Rows that stand one after the other.
use Rattle.std.proofs.Common.{◌≡◌, ℕ, zero, suc, ◌+◌, ◌-◌, ◌<◌, ◌≤◌, List, [], ◌∷◌, ◌++◌, Some, length, take, drop, refl, sym, ap, subst, ◌∙◌, arith, length-append, length-drop}
use Rattle.std.specs.Prelude.{slice_get, slice_index_or, slice_range}
use Rattle.std.specs.List.{concat}
use Rattle.std.proofs.lemmas.List.{drop-append-le, drop-drop, get_or_default, length-take-le, take-append-drop, take-append-le, take_all}
use Rattle.place_rows.specs.Rows.{AreEnds, rows_from, start_of}

-- as many rows as ends
pub length-rows : (first : ℕ) (ends places : List ℕ) → length (rows_from first ends places) ≡ length ends
length-rows first [] places = refl
length-rows first (end ∷ ends) places = ap suc (length-rows end ends (drop (end - first) places))

ends_rise : (first last : ℕ) (ends : List ℕ) → AreEnds first last ends → first ≤ last
ends_rise first last [] h = omega arith
ends_rise first last (end ∷ ends) h = let r = ends_rise end last ends h.1 in let s = h.0 in omega arith

-- all rows together are the list
pub rows_joined : (first last : ℕ) (ends places : List ℕ) → AreEnds first last ends → first + length places ≡ last → concat (rows_from first ends places) ≡ places
rows_joined first last [] [] h e = refl
rows_joined first last [] (p ∷ places) h e = absurd (omega arith)
rows_joined first last (end ∷ ends) places h e =
    let rise = ends_rise end last ends h.1 in
    let low = h.0 in
    let d = length-drop (end - first) places in
    ap (λ (ps : List ℕ). take (end - first) places ++ ps) (rows_joined end last ends (drop (end - first) places) h.1 (omega arith)) ∙ take-append-drop (end - first) places

-- one row more
pub ends_more : (first last end : ℕ) (ends : List ℕ) → AreEnds first last ends → last ≤ end → AreEnds first end (ends ++ end ∷ [])
ends_more first last end [] h l = (omega arith, refl)
ends_more first last end (e ∷ ends) h l = (h.0, ends_more e last end ends h.1 l)

pub rows_more : (first last end : ℕ) (ends places row : List ℕ) → AreEnds first last ends → first + length places ≡ last → last + length row ≡ end → rows_from first (ends ++ end ∷ []) (places ++ row) ≡ rows_from first ends places ++ row ∷ []
rows_more first last end [] [] row h e f = ap (λ (ps : List ℕ). ps ∷ []) (take_all (end - first) row (omega arith))
rows_more first last end [] (p ∷ places) row h e f = absurd (omega arith)
rows_more first last end (x ∷ ends) places row h e f =
    let rise = ends_rise x last ends h.1 in
    let low = h.0 in
    let d = length-drop (x - first) places in
    ap (λ (ps : List ℕ). ps ∷ rows_from x (ends ++ end ∷ []) (drop (x - first) (places ++ row))) (take-append-le (x - first) places row (omega arith))
    ∙ ap (λ (ps : List ℕ). take (x - first) places ∷ rows_from x (ends ++ end ∷ []) ps) (drop-append-le (x - first) places row (omega arith))
    ∙ ap (λ (rs : List (List ℕ)). take (x - first) places ∷ rs) (rows_more x last end ends (drop (x - first) places) row h.1 (omega arith) f)

-- a row by its place
row_there : (first last : ℕ) (ends places : List ℕ) (k : ℕ) → AreEnds first last ends → first + length places ≡ last → k < length ends
    → (first ≤ slice_index_or (first ∷ ends) k 0) × (slice_index_or (first ∷ ends) k 0 ≤ slice_index_or ends k 0) × (slice_index_or ends k 0 ≤ last)
    × (slice_get (rows_from first ends places) k ≡ Some (take (slice_index_or ends k 0 - slice_index_or (first ∷ ends) k 0) (drop (slice_index_or (first ∷ ends) k 0 - first) places)))
row_there first last [] places k h e l = absurd (omega arith)
row_there first last (x ∷ ends) places zero h e l =
    let rise = ends_rise x last ends h.1 in
    (omega arith, h.0, rise, (let z : first - first ≡ 0 = omega arith in ap (λ (n : ℕ). Some (take (x - first) (drop n places))) (sym z)))
row_there first last (x ∷ ends) places (suc k) h e l =
    let rise = ends_rise x last ends h.1 in
    let low = h.0 in
    let d = length-drop (x - first) places in
    let r = row_there x last ends (drop (x - first) places) k h.1 (omega arith) (omega arith) in
    let s : ℕ = slice_index_or (x ∷ ends) k 0 in
    let a = r.0 in
    let z : x - first + (s - x) ≡ s - first = omega arith in
    (omega arith, r.1, r.2, r.3 ∙ ap (λ (ps : List ℕ). Some (take (slice_index_or ends k 0 - s) ps)) (drop-drop (s - x) (x - first) places ∙ ap (λ (n : ℕ). drop n places) z))

-- a row that is read
pub record IsRow (rows : List (List ℕ)) (ends places : List ℕ) (k first end : ℕ) : Type 0 where
  pub low : first ≤ end
  pub high : end ≤ length places
  pub row : slice_get rows k ≡ Some (slice_range places first end)
  pub wide : (row : List ℕ) → slice_get rows k ≡ Some row → end - first ≡ length row

range_long : (places : List ℕ) (first end : ℕ) → end ≤ length places → length (slice_range places first end) ≡ end - first
range_long places first end h = length-take-le (end - first) (drop first places) (let d = length-drop first places in omega arith)

module _ (rows : List (List ℕ)) (ends places : List ℕ) (view : rows_from 0 ends places ≡ rows) (is : AreEnds 0 (length places) ends) where
  pub same_length : length ends ≡ length rows
  same_length = sym (length-rows 0 ends places) ∙ ap (λ (rs : List (List ℕ)). length rs) view

  pub row_read : (k first end : ℕ) → k < length rows → first ≡ start_of ends k → end ≡ slice_index_or ends k end → IsRow rows ends places k first end
  row_read k first end h e f =
      let few = same_length in
      let r = row_there 0 (length places) ends places k is (omega arith) (omega arith) in
      let end_is : end ≡ slice_index_or ends k 0 = f ∙ get_or_default ends k end 0 (omega arith) in
      let low = r.1 in
      let high = r.2 in
      let z : start_of ends k - 0 ≡ start_of ends k = omega arith in
      let row : slice_get rows k ≡ Some (slice_range places first end) =
      ap (λ (rs : List (List ℕ)). slice_get rs k) (sym view) ∙ r.3 ∙ ap (λ (n : ℕ). Some (take (slice_index_or ends k 0 - start_of ends k) (drop n places))) z ∙ ap (λ (n : ℕ). Some (slice_range places n (slice_index_or ends k 0))) (sym e) ∙ ap (λ (n : ℕ). Some (slice_range places first n)) (sym end_is) in
      record {
        low = omega arith;
        high = omega arith;
        row = row;
        wide = λ ps at. let same : slice_range places first end ≡ ps = (let both = sym row ∙ at in cc) in sym (range_long places first end (omega arith)) ∙ ap (λ (qs : List ℕ). length qs) same;
      }

  -- and one that is added
  pub row_added : (row : List ℕ) (end : ℕ) → end ≡ length places + length row → AreEnds 0 (length (places ++ row)) (ends ++ end ∷ []) × (rows_from 0 (ends ++ end ∷ []) (places ++ row) ≡ rows ++ row ∷ [])
  row_added row end e =
      let long : length (places ++ row) ≡ end = length-append places row ∙ sym e in (
        subst (λ (n : ℕ). AreEnds 0 n (ends ++ end ∷ [])) (sym long) (ends_more 0 (length places) end ends is (omega arith)),
        rows_more 0 (length places) end ends places row is (omega arith) (sym e) ∙ ap (λ (rs : List (List ℕ)). rs ++ row ∷ []) view,
      )

  pub all_places : places ≡ concat rows
  all_places = sym (rows_joined 0 (length places) ends places is (omega arith)) ∙ ap concat view
