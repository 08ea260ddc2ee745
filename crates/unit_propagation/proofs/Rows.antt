-- Watch lists by literal.
use Rattle.std.proofs.Common.{◌≡◌, ◌≢◌, ℕ, ◌<◌, ◌≤◌, ◌+◌, ◌-◌, ◌*◌, List, [], ◌∷◌, ◌++◌, length, map, replicate, get_or, set, sym, ◌∙◌, ap, subst, inl, inr, arith, zero, suc}
use Rattle.std.proofs.lemmas.List.{get_or-set_same, get_or-set_other, get_or-map, map-set, map-append, length-map, length-set, length-append, length-replicate, set-get_or, set-append_left, get_or_past, get_or_append_left, get_or-append_right, get_or-replicate, append_assoc}
use Rattle.std.proofs.lemmas.Bool.{cases_lt}
use Rattle.std.specs.Prelude.{All, Contains}
use Rattle.std.proofs.lemmas.List.Elements.{All-contains, All-head, All-tail}
use Rattle.cnf_form.proofs.Members.{Contains-empty}
use Rattle.std.specs.declared.vec.Vec.{Vec}
use Rattle.std.specs.declared.alloc.Global.{Global}
use Rattle.cnf_form.specs.Cnf.{LitOf, index_of}
use Rattle.cnf_form.proofs.Literals.{index_of-injective}
use Rattle.unit_propagation.specs.declared.watch.Watch.{Watch}
use Rattle.unit_propagation.specs.Watch.{rows_of, row, AreWatches, WatchFits}
use Rattle.unit_propagation.proofs.Trails.{index_room}

pub row_set_same : (rows : List (List Watch)) (l : LitOf) (xs : List Watch) → index_of l < length rows → row (set rows (index_of l) xs) l ≡ xs
row_set_same rows l xs h = get_or-set_same rows (index_of l) xs [] h

pub row_set_other : (rows : List (List Watch)) (l u : LitOf) (xs : List Watch) → u ≢ l → row (set rows (index_of l) xs) u ≡ row rows u
row_set_other rows l u xs d = get_or-set_other rows (index_of l) (index_of u) xs [] (λ e. d (index_of-injective u l e))

-- the entries of the lists that are there
abbrev items_of : List (Vec Watch Global) → List (List Watch)
items_of lists = map (λ (v : Vec Watch Global). v.items) lists

-- the empty lists of the literals after them
abbrev empties : ℕ → List (List Watch)
empties n = replicate n []

abbrev behind : ℕ → ℕ → List (List Watch)
behind vars count = empties (2 * vars + 2 - count)

length-empties : (n : ℕ) → length (empties n) ≡ n
length-empties n = let none : List Watch = [] in length-replicate n none

no_entries : (n i : ℕ) → get_or (empties n) i [] ≡ []
no_entries n i =
    elim (cases_lt i n) [
      | inl h ↦ get_or-replicate n i [] [] h
      | inr h ↦ get_or_past (empties n) i [] (omega (arith, length-empties n, h))
    ]

length-items : (lists : List (Vec Watch Global)) → length (items_of lists) ≡ length lists
length-items lists = length-map lists (λ (v : Vec Watch Global). v.items)

all_rows : (vars : ℕ) (lists : List (Vec Watch Global)) → length (rows_of vars lists) ≡ length lists + (2 * vars + 2 - length lists)
all_rows vars lists =
    let e = length-append (items_of lists) (behind vars (length lists)) in
    let m = length-items lists in
    let r = length-empties (2 * vars + 2 - length lists) in
    omega (arith, e, m, r)

pub length-rows : (vars : ℕ) (lists : List (Vec Watch Global)) → length lists ≤ 2 * vars + 2 → length (rows_of vars lists) ≡ 2 * vars + 2
length-rows vars lists h = omega (arith, all_rows vars lists, h)

pub rows_of-set : (vars : ℕ) (lists : List (Vec Watch Global)) (i : ℕ) (v : Vec Watch Global) (xs : List Watch) → i < length lists → v.items ≡ xs → rows_of vars (set lists i v) ≡ set (rows_of vars lists) i xs
rows_of-set vars lists i v xs h e =
    ap (λ n. items_of (set lists i v) ++ behind vars n) (length-set lists i v)
    ∙ ap (λ z. z ++ behind vars (length lists)) (map-set (λ (w : Vec Watch Global). w.items) lists i v ∙ ap (set (items_of lists) i) e)
    ∙ sym (set-append_left (items_of lists) (behind vars (length lists)) i xs (omega (arith, length-items lists, h)))

pub row_read : (vars : ℕ) (lists : List (Vec Watch Global)) (l : LitOf) (v : Vec Watch Global) → index_of l < length lists → v ≡ get_or lists (index_of l) v → row (rows_of vars lists) l ≡ v.items
row_read vars lists l v h e =
    get_or_append_left (items_of lists) (behind vars (length lists)) [] (index_of l) (omega (arith, length-items lists, h))
    ∙ get_or-map (λ (w : Vec Watch Global). w.items) lists (index_of l) v [] h ∙ ap (λ (w : Vec Watch Global). w.items) (sym e)

-- what a write and a read of one list mean, at the place that the code computed
module _ (vars : ℕ) (lists : List (Vec Watch Global)) (i : ℕ) (l : LitOf) (at : i ≡ index_of l) where
  pub row_written : (w : Vec Watch Global) (xs : List Watch) → i < length lists → w.items ≡ xs → rows_of vars (set lists i w) ≡ set (rows_of vars lists) (index_of l) xs
  row_written w xs h e = rw at (rows_of-set vars lists (index_of l) w xs (subst (λ k. k < length lists) at h) e)

  pub row_was : (v : Vec Watch Global) → i < length lists → v ≡ get_or lists i v → row (rows_of vars lists) l ≡ v.items
  row_was v h e = row_read vars lists l v (subst (λ k. k < length lists) at h) (e ∙ ap (λ k. get_or lists k v) at)

  pub row_kept : (v w : Vec Watch Global) → i < length lists → v ≡ get_or lists i v → w.items ≡ v.items → rows_of vars (set lists i w) ≡ rows_of vars lists
  row_kept v w h e f = row_written w (row (rows_of vars lists) l) h (f ∙ sym (row_was v h e)) ∙ set-get_or (rows_of vars lists) (index_of l) []

  -- a list that isn't there is empty
  pub row_missing : length lists ≤ i → row (rows_of vars lists) l ≡ []
  row_missing h =
      get_or-append_right (items_of lists) (behind vars (length lists)) (length lists) (index_of l) [] (length-items lists) (subst (λ k. length lists ≤ k) at h)
      ∙ no_entries (2 * vars + 2 - length lists) (index_of l - length lists)

  -- nothing written to it leaves all as it is
  pub row_stays : (xs : List Watch) → length lists ≤ i → xs ≡ [] → rows_of vars lists ≡ set (rows_of vars lists) (index_of l) xs
  row_stays xs h e = sym (ap (set (rows_of vars lists) (index_of l)) (e ∙ sym (row_missing h)) ∙ set-get_or (rows_of vars lists) (index_of l) [])

-- one more list, which is empty
pub rows_grown : (vars : ℕ) (lists : List (Vec Watch Global)) (v : Vec Watch Global) → length lists < 2 * vars + 2 → v.items ≡ [] → rows_of vars (lists ++ v ∷ []) ≡ rows_of vars lists
rows_grown vars lists v h e =
    let n = length lists in
    let rest = 2 * vars + 2 - (n + 1) in
    let size : length (lists ++ v ∷ []) ≡ n + 1 = length-append lists (v ∷ []) in
    let less : suc rest ≡ 2 * vars + 2 - n = omega (arith, h) in
    ap (λ k. items_of (lists ++ v ∷ []) ++ behind vars k) size
    ∙ ap (λ z. z ++ empties rest) (map-append (λ (w : Vec Watch Global). w.items) lists (v ∷ []))
    ∙ append_assoc (items_of lists) (v.items ∷ []) (empties rest)
    ∙ ap (λ z. items_of lists ++ z ∷ empties rest) e
    ∙ ap (λ k. items_of lists ++ empties k) less

pub rows_empty : (vars : ℕ) (l : LitOf) → row (rows_of vars []) l ≡ []
rows_empty vars l = no_entries (2 * vars + 2 - 0) (index_of l)

-- the list of a literal within bounds
pub row_room : (vars : ℕ) (lists : List (Vec Watch Global)) (l : LitOf) → l.var ≤ vars → index_of l < length (rows_of vars lists)
row_room vars lists l h = omega (arith, index_room l vars h, all_rows vars lists)

-- an entry of a list of lists that fit
pub row_fits : (vars count : ℕ) (lists : List (Vec Watch Global)) (i : ℕ) (w : Watch) → All (AreWatches vars count) lists → Contains (get_or (rows_of vars lists) i []) w → WatchFits vars count w
row_fits vars count lists i w a h = fits lists (2 * vars + 2 - length lists) i a h
  where
    fits : (vs : List (Vec Watch Global)) (rest i : ℕ) → All (AreWatches vars count) vs → Contains (get_or (items_of vs ++ empties rest) i []) w → WatchFits vars count w
    fits [] rest i a h = absurd (Contains-empty w (subst (λ z. Contains z w) (no_entries rest i) h))
    fits (v ∷ vs) rest zero a h = All-contains (WatchFits vars count) v.items w (All-head (AreWatches vars count) v vs a) h
    fits (v ∷ vs) rest (suc i) a h = fits vs rest i (All-tail (AreWatches vars count) v vs a) h
