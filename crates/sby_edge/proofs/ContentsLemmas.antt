-- The contents of a map of texts, read as a store.
use Rattle.std.proofs.Common.{◌≡◌, ℕ, List, [], ◌∷◌, map, Bool, true, false, cond, refl, ap, ◌∙◌, sym, Option, Some, string_bytes}
use Rattle.std.proofs.Math.Path.{fun_ext}
use Rattle.std.specs.Prelude.{option_map}
use Rattle.std.specs.Ordering.{nat_cmp}
use Rattle.std.proofs.lemmas.Cmp.{nat_list_cmp_total}
use Rattle.std.specs.Cmp.Lexicographic.{slice_cmp}
use Rattle.std.specs.BTreeMap.{BTreeMap, get_by_text, is_at}
use Rattle.std.specs.FinMap as finite
use Rattle.std.specs.Map.{lookup, update}
use Rattle.std.specs.Str.{bytes_eq}
use Rattle.std.specs.declared.string.String.{String}
use Rattle.std.specs.declared.vec.Vec.{Vec}
use Rattle.sby_edge.specs.Files.{put_at}
use Rattle.sby_edge.specs.Memory.{contents_of, store_of}

mapped_cond : {X : Type 0} (items : X → List ℕ) (b : Bool) (v : X) (o : Option X) → option_map items (cond b (Some v) o) ≡ cond b (Some (items v)) (option_map items o)
mapped_cond items b v o = elim b as (λ d. option_map items (cond d (Some v) o) ≡ cond d (Some (items v)) (option_map items o)) [ true ↦ refl | false ↦ refl ]

-- a look-up among the entries as they are seen
find-seen : {X Y : Type 0} (path : List ℕ) (es : List (String X × Vec ℕ Y))
    → finite.find (slice_cmp nat_cmp) path (map (λ e. (string_bytes e.0, e.1.items)) es) ≡ option_map (λ v. v.items) (lookup (is_at (λ k. slice_cmp nat_cmp path (string_bytes k))) es)
find-seen path [] = refl
find-seen path (e ∷ es) =
    ap (cond (is_at (λ k. slice_cmp nat_cmp path (string_bytes k)) e.0) (Some e.1.items)) (find-seen path es)
    ∙ sym (mapped_cond (λ v. v.items) (is_at (λ k. slice_cmp nat_cmp path (string_bytes k)) e.0) e.1 (lookup (is_at (λ k. slice_cmp nat_cmp path (string_bytes k))) es))

-- the store has at a path what the map has at that text
pub store_of-at : {X Y : Type 0} (m : BTreeMap (String X) (Vec ℕ Y)) (path : List ℕ) → store_of (contents_of m) path ≡ option_map (λ v. v.items) (get_by_text m path)
store_of-at m path = finite.get-from_entries nat_list_cmp_total _ path ∙ find-seen path m.entries

-- a map that was updated at one text is the store with that content put
pub store_of-put : {X Y : Type 0} (m n : BTreeMap (String X) (Vec ℕ Y)) (key path bytes : List ℕ) (v : Vec ℕ Y) → key ≡ path → v.items ≡ bytes
    → ((q : List ℕ) → get_by_text n q ≡ update bytes_eq (get_by_text m) key (Some v) q) → store_of (contents_of n) ≡ put_at path bytes (store_of (contents_of m))
store_of-put m n key path bytes v at is updates =
    rw (← at, ← is) (fun_ext (λ q. store_of-at n q ∙ ap (option_map (λ w. w.items)) (updates q) ∙ mapped_cond (λ w. w.items) (bytes_eq key q) v (get_by_text m q)
    ∙ ap (cond (bytes_eq key q) (Some v.items)) (sym (store_of-at m q))))
