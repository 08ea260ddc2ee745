-- Names that references stand for, and their places.
use Rattle.std.proofs.Common.{◌≡◌, ℕ, suc, Bool, false, not, List, [], ◌∷◌, ◌++◌, map, length, bytes_eq, Decides, sym, ap, refl, ◌∙◌}
use Rattle.std.specs.Prelude.{position}
use Rattle.std.specs.Borrow.{Bor}
use Rattle.std.specs.List.{list_any, prefix_len}
use Rattle.std.proofs.lemmas.Slice.Eq.{bytes_eq-Decides}
use Rattle.std.proofs.lemmas.Bool.Decides.{same_from_decides}
use Rattle.indexmap.specs.IndexSet.{insert_key}

pub bytes_eq_comm : (xs ys : List ℕ) → bytes_eq xs ys ≡ bytes_eq ys xs
bytes_eq_comm xs ys =
    let d = bytes_eq-Decides ys xs in
    let e : Decides (bytes_eq ys xs) (xs ≡ ys) = (λ h. sym (d.0 h), λ h. d.1 (sym h)) in
    same_from_decides (bytes_eq xs ys) (bytes_eq ys xs) (bytes_eq-Decides xs ys) e

-- a test of what each item shows is a test of the items
module _ {K X : Type 0} (f : K → X) (p : X → Bool) (q : K → Bool) (same : (k : K) → q k ≡ p (f k)) where
  pub any_by : (ks : List K) → list_any q ks ≡ list_any p (map f ks)
  any_by [] = refl
  any_by (k ∷ ks) = rw (same k, any_by ks) refl

  prefix_by : (ks : List K) → prefix_len (λ k. not (q k)) ks ≡ prefix_len (λ x. not (p x)) (map f ks)
  prefix_by [] = refl
  prefix_by (k ∷ ks) = rw (same k, prefix_by ks) refl

  length_by : (ks : List K) → length (map f ks) ≡ length ks
  length_by [] = refl
  length_by (k ∷ ks) = ap suc (length_by ks)

  pub position_by : (ks : List K) → position q ks ≡ position p (map f ks)
  position_by ks = rw (prefix_by ks, length_by ks) refl

map_push : {K X : Type 0} (f : K → X) (ks : List K) (k : K) → map f (ks ++ k ∷ []) ≡ map f ks ++ f k ∷ []
map_push f [] k = refl
map_push f (j ∷ ks) k = ap (λ (xs : List _). f j ∷ xs) (map_push f ks k)

abbrev pub eq_names : Bor (List ℕ) → Bor (List ℕ) → Bool
eq_names a b = bytes_eq a.now b.now

-- a new name goes last
pub push_name : (ks : List (Bor (List ℕ))) (k : Bor (List ℕ)) → list_any (λ n. bytes_eq n k.now) (map (λ n. n.now) ks) ≡ false
    → map (λ n. n.now) (insert_key eq_names ks k) ≡ map (λ n. n.now) ks ++ k.now ∷ []
push_name ks k h =
    let absent : list_any (eq_names k) ks ≡ false = any_by (λ (n : Bor (List ℕ)). n.now) (λ n. bytes_eq n k.now) (eq_names k) (λ n. bytes_eq_comm k.now n.now) ks ∙ h in
    rw absent (map_push (λ (n : Bor (List ℕ)). n.now) ks k)
