-- What joined notes know.
use Rattle.std.proofs.Common.{◌≡◌, ◌⊎◌, inl, inr, ℕ, zero, suc, ◌+◌, ◌<◌, All, List, [], ◌∷◌, ◌++◌, length, map, Option, Some, None, refl, sym, ap, subst, ◌∙◌, arith}
use Rattle.std.proofs.lemmas.List.{get_or-append-add, get_or_append_left, length-append}
use Rattle.std.specs.Prelude.{slice_index_or}
use Rattle.race_cells.specs.Notes.{NoteOf, Agree, first_of, joined, known_at}
use Rattle.lane_run.specs.Keeping.{Remember}

first_left : {T : Type 0} (o p : Option T) (f : T) → o ≡ Some f → first_of o p ≡ Some f
first_left (Some g) p f h = h
first_left None p f h = absurd cc

-- where both know, they know the same
first_right : {T : Type 0} (o p : Option T) (f : T) → ((a b : T) → o ≡ Some a → p ≡ Some b → a ≡ b) → p ≡ Some f → first_of o p ≡ Some f
first_right (Some g) p f agree h = ap Some (agree g f refl h)
first_right None p f agree h = h

knows_left : {T : Type 0} (ns ms : List (NoteOf T)) (place : ℕ) (f : T) → known_at ns place ≡ Some f → known_at (joined ns ms) place ≡ Some f
knows_left [] ms place f h = absurd cc
knows_left (n ∷ ns) [] place f h = h
knows_left (n ∷ ns) (m ∷ ms) zero f h = first_left n.known m.known f h
knows_left (n ∷ ns) (m ∷ ms) (suc place) f h = knows_left ns ms place f h

knows_right : {T : Type 0} (ns ms : List (NoteOf T)) (place : ℕ) (f : T) → map (λ n. n.cell) ms ≡ map (λ n. n.cell) ns → Agree ns ms
    → known_at ms place ≡ Some f → known_at (joined ns ms) place ≡ Some f
knows_right [] [] place f same agree h = h
knows_right [] (m ∷ ms) place f same agree h = absurd cc
knows_right (n ∷ ns) [] place f same agree h = absurd cc
knows_right (n ∷ ns) (m ∷ ms) zero f same agree h = first_right n.known m.known f (agree 0) h
knows_right {T} (n ∷ ns) (m ∷ ms) (suc place) f same agree h = knows_right ns ms place f (rest same) (λ p a b x y. agree (suc p) a b x y) h
  where
    rest : map (λ n. n.cell) (m ∷ ms) ≡ map (λ n. n.cell) (n ∷ ns) → map (λ n. n.cell) ms ≡ map (λ n. n.cell) ns
    rest h = cc

pub join_left : {T : Type 0} (ns ms now : List (NoteOf T)) → now ≡ joined ns ms → map (λ n. n.cell) now ≡ map (λ n. n.cell) ns → Remember ns now
join_left {T} ns ms now is cells = record {
  cells = cells;
  knows = λ place f h. ap (λ (l : List (NoteOf T)). known_at l place) is ∙ knows_left ns ms place f h;
}

pub join_right : {T : Type 0} (ns ms now : List (NoteOf T)) → now ≡ joined ns ms → map (λ n. n.cell) now ≡ map (λ n. n.cell) ns
    → map (λ n. n.cell) ms ≡ map (λ n. n.cell) ns → Agree ns ms → Remember ms now
join_right {T} ns ms now is cells same agree = record {
  cells = cells ∙ sym same;
  knows = λ place f h. ap (λ (l : List (NoteOf T)). known_at l place) is ∙ knows_right ns ms place f same agree h;
}

pub remember_both : {T : Type 0} (a b c : List (NoteOf T)) → Remember a b → Remember b c → Remember a c
remember_both a b c h k = record { cells = k.cells ∙ h.cells; knows = λ place f x. k.knows place f (h.knows place f x) }

-- one more, after those of which something weaker holds
pub all_more : {X : Type 0} (P Q : X → Type 0) (xs : List X) (x : X) → ((y : X) → P y → Q y) → All P xs → Q x → All Q (xs ++ x ∷ [])
all_more P Q [] x f h q zero d lt = q
all_more P Q [] x f h q (suc k) d lt = absurd (omega (lt, arith))
all_more P Q (y ∷ xs) x f h q zero d lt = f y (h zero d (omega arith))
all_more P Q (y ∷ xs) x f h q (suc k) d lt = all_more P Q xs x f (λ j e l. h (suc j) e (omega (l, arith))) q k d (omega (lt, arith))

pub nothing_left : {X : Type 0} (l : List X) → length l ≡ 0 → l ≡ []
nothing_left [] h = refl
nothing_left (x ∷ xs) h = absurd (omega arith)

pub map_more : {X Y : Type 0} (f : X → Y) (xs : List X) (x : X) → map f xs ++ f x ∷ [] ≡ map f (xs ++ x ∷ [])
map_more f [] x = refl
map_more f (y ∷ xs) x = ap (λ rest. f y ∷ rest) (map_more f xs x)

-- numbered from 0 in their order, one more too
pub places_more : {X : Type 0} (f : X → ℕ) (xs : List X) (x : X) → ((i : ℕ) (d : X) → i < length xs → f (slice_index_or xs i d) ≡ i) → f x ≡ length xs
    → (i : ℕ) (d : X) → i < length (xs ++ x ∷ []) → f (slice_index_or (xs ++ x ∷ []) i d) ≡ i
places_more {X} f xs x h is i d lt = elim (split i (omega (lt, length-append xs (x ∷ []), arith))) [
  | inl less ↦ ap f (get_or_append_left xs (x ∷ []) d i less) ∙ h i d less
  | inr same ↦ subst (λ (k : ℕ). f (slice_index_or (xs ++ x ∷ []) k d) ≡ k) (sym same)
      (subst (λ (k : ℕ). f (slice_index_or (xs ++ x ∷ []) k d) ≡ length xs) (omega arith) (ap f (get_or-append-add xs (x ∷ []) 0 d) ∙ is))
]
  where
    split : (k : ℕ) → k < length xs + 1 → (k < length xs) ⊎ (k ≡ length xs)
    split k lt = grind (arith, lt)

pub map_length : {X Y : Type 0} (f : X → Y) (xs : List X) → length (map f xs) ≡ length xs
map_length f [] = refl
map_length f (x ∷ xs) = ap suc (map_length f xs)

-- what holds of all holds of one between
pub all_there : {X : Type 0} (P : X → Type 0) (xs : List X) (y : X) (zs : List X) → All P (xs ++ y ∷ zs) → P y
all_there P [] y zs h = h 0 y (omega arith)
all_there P (x ∷ xs) y zs h = all_there P xs y zs (λ k d lt. h (suc k) d (omega (lt, arith)))
