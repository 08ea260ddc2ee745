-- Rows of a slice at the places of the whole model.
use Rattle.std.proofs.Common.{◌≡◌, ℕ, zero, suc, ◌+◌, ◌*◌, Bool, true, false, List, [], ◌∷◌, ◌++◌, Option, Some, None, length, map, take, drop, refl, sym, ap, ◌∙◌, arith, append_assoc, length-append}
use Rattle.std.specs.Prelude.{slice_get}
use Rattle.std.specs.List.{flat_map}
use Rattle.std.proofs.lemmas.List.{drop_at, map-append, take_at}
use Rattle.sby_bits.specs.Rows.{Row}
use Rattle.model_core.specs.Choices.{without_digit}
use Rattle.model_core.proofs.Lists.{flat_more}
use Rattle.model_play.specs.Packed.{rows_of}
use Rattle.task_net.specs.Spreading.{spread_bits}

drop-next : {A : Type 0} (xs : List A) (i : ℕ) (x : A) → slice_get xs i ≡ Some x → drop i xs ≡ x ∷ drop (i + 1) xs
drop-next {A = A} xs i x e = let n : i + 1 ≡ suc i = omega arith in rw n (by xs i x e)
  where
    by : {A : Type 0} (xs : List A) (i : ℕ) (x : A) → slice_get xs i ≡ Some x → drop i xs ≡ x ∷ drop (suc i) xs
    by [] i x e = absurd cc
    by {A = A} (y ∷ xs) zero x e = let same : y ≡ x = cc in ap (λ (z : A). z ∷ xs) same
    by (y ∷ xs) (suc i) x e = by xs i x e

without-next : (p : ℕ) (ps : List ℕ) (d : Option Bool) (ds : List (Option Bool)) → without_digit (p ∷ ps) (d ∷ ds) ≡ without_digit (p ∷ []) (d ∷ []) ++ without_digit ps ds
without-next p ps None ds = refl
without-next p ps (Some x) ds = refl

-- one open state bit more
pub starts-next : (keep : ℕ → Bool) (ps : List ℕ) (ds : List (Option Bool)) (k p : ℕ) (d : Option Bool) (old new total : List Bool) → slice_get ps k ≡ Some p → slice_get ds k ≡ Some d
    → old ++ map keep (without_digit (drop k ps) (drop k ds)) ≡ total → new ≡ old ++ map keep (without_digit (p ∷ []) (d ∷ []))
    → new ++ map keep (without_digit (drop (k + 1) ps) (drop (k + 1) ds)) ≡ total
starts-next keep ps ds k p d old new total ep ed before here =
    let rest : List ℕ = without_digit (drop (k + 1) ps) (drop (k + 1) ds) in
    let split : without_digit (drop k ps) (drop k ds) ≡ without_digit (p ∷ []) (d ∷ []) ++ rest = rw (drop-next ps k p ep, drop-next ds k d ed) (without-next p (drop (k + 1) ps) d (drop (k + 1) ds)) in
    ap (λ (bs : List Bool). bs ++ map keep rest) here
    ∙ append_assoc old (map keep (without_digit (p ∷ []) (d ∷ []))) (map keep rest)
    ∙ ap (λ (bs : List Bool). old ++ bs) (sym (ap (map keep) split ∙ map-append keep (without_digit (p ∷ []) (d ∷ [])) rest))
    ∙ before

pub rows-next : (f : Row → Row) (rows : List Row) (i : ℕ) (row : Row) (old new : Row) → slice_get rows i ≡ Some row → old ≡ flat_map f (take i rows) → new ≡ old ++ f row → new ≡ flat_map f (take (i + 1) rows)
rows-next f rows i row old new e before here =
    let n : i + 1 ≡ suc i = omega arith in
    here ∙ ap (λ (bs : Row). bs ++ f row) before ∙ sym (ap (λ (k : ℕ). flat_map f (take k rows)) n ∙ flat_more f rows i row e)

pub spread-length : (kept : List Bool) (row : Row) → length (spread_bits kept row) ≡ length kept
spread-length [] row = refl
spread-length (false ∷ kept) row = ap suc (spread-length kept row)
spread-length (true ∷ kept) [] = ap suc (spread-length kept [])
spread-length (true ∷ kept) (b ∷ row) = ap suc (spread-length kept row)

pub rows-length : (kept : List Bool) (rows : List Row) → length (flat_map (spread_bits kept) rows) ≡ length rows * length kept
rows-length kept [] = grind arith
rows-length kept (row ∷ rows) =
    let a = length-append (spread_bits kept row) (flat_map (spread_bits kept) rows) in
    let b = spread-length kept row in
    let c = rows-length kept rows in
    by (length rows) (length kept) _ _ _ a b c
  where
    by : (n w x y z : ℕ) → z ≡ x + y → x ≡ w → y ≡ n * w → z ≡ suc n * w
    by n w x y z e f g = grind arith

pub rows-back : (kept : List Bool) (w : ℕ) (rows : List Row) → length kept ≡ w → rows_of w (length rows) (flat_map (spread_bits kept) rows) ≡ map (spread_bits kept) rows
rows-back kept w [] e = refl
rows-back kept w (row ∷ rows) e =
    let l : length (spread_bits kept row) ≡ w = spread-length kept row ∙ e in
    rw (take_at (spread_bits kept row) (flat_map (spread_bits kept) rows) w l, drop_at (spread_bits kept row) (flat_map (spread_bits kept) rows) w l)
    (ap (λ (rs : List Row). spread_bits kept row ∷ rs) (rows-back kept w rows e))
