-- States cover all state bits.
use Rattle.std.proofs.Common.{◌≡◌, ℕ, zero, suc, ◌+◌, ◌≤◌, List, [], ◌∷◌, ◌++◌, Some, None, length, take, drop, refl, sym, ap, ◌∙◌, arith, length-append}
use Rattle.std.specs.Prelude.{slice_get}
use Rattle.std.specs.List.{flat_map}
use Rattle.std.proofs.Math.Seq.{take-length}
use Rattle.std.proofs.lemmas.List.{drop-drop}
use Rattle.std.proofs.lemmas.List.Sums.{sum_by-append, sum_by-cons}
use Rattle.sby_bits.specs.Rows.{Row}
use Rattle.cell_table.specs.Cells.{slice_fn}
use Rattle.model_core.proofs.Lists.{at_place, drop_at, flat_more, flat_rest}
use Rattle.model_core.specs.Shape.{RegisterOf}
use Rattle.btor_emit.specs.States.{bits_of}
use Rattle.btor_emit.specs.declared.shape.State.{State}

take_sum_to : {A : Type 0} (a b n : ℕ) (xs : List A) → n ≡ a + b → take n xs ≡ take a xs ++ take b (drop a xs)
take_sum_to zero b n xs e = ap (λ (k : ℕ). take k xs) (omega arith)
take_sum_to (suc a) zero zero [] e = absurd (omega arith)
take_sum_to (suc a) (suc b) zero [] e = absurd (omega arith)
take_sum_to (suc a) zero (suc n) [] e = refl
take_sum_to (suc a) (suc b) (suc n) [] e = refl
take_sum_to (suc a) b zero (x ∷ xs) e = absurd (omega arith)
take_sum_to {A = A} (suc a) b (suc n) (x ∷ xs) e = ap (λ (ys : List A). x ∷ ys) (take_sum_to a b n xs (omega arith))

pub take_sum : {A : Type 0} (a b : ℕ) (xs : List A) → take (a + b) xs ≡ take a xs ++ take b (drop a xs)
take_sum a b xs = take_sum_to a b (a + b) xs refl

pub take_at : {A : Type 0} (xs : List A) (k : ℕ) (x : A) → slice_get xs k ≡ Some x → take (suc k) xs ≡ take k xs ++ x ∷ []
take_at [] k x h = absurd (let c : None ≡ Some x = h in cc)
take_at {A = A} (y ∷ xs) zero x h = let e : y ≡ x = cc in ap (λ (z : A). z ∷ []) e
take_at {A = A} (y ∷ xs) (suc k) x h = ap (λ (ys : List A). y ∷ ys) (take_at xs k x h)

module _ (ss : List State) (joined : (k : ℕ) (s : State) → slice_get ss k ≡ Some s → s.first ≡ bits_of (take k ss)) where
  pub bits_step : (k : ℕ) (s : State) → slice_get ss k ≡ Some s → bits_of (take (suc k) ss) ≡ bits_of (take k ss) + s.word.width
  bits_step k s at = ap bits_of (take_at ss k s at) ∙ sum_by-append (λ (u : State). u.word.width) (take k ss) (s ∷ []) ∙ (let e = sum_by-cons (λ (u : State). u.word.width) s [] in omega arith)

  cover : (f : State → Row) (x : Row) → ((k : ℕ) (s : State) → slice_get ss k ≡ Some s → f s ≡ slice_fn s.word.width s.first x) → (k : ℕ) → k ≤ length ss → flat_map f (take k ss) ≡ take (bits_of (take k ss)) x
  cover f x part zero l = refl
  cover f x part (suc k) l =
      let s = at_place ss k (omega arith) in
      let before = cover f x part k (omega arith) in
      let here : f s.0 ≡ take s.0.word.width (drop (bits_of (take k ss)) x) = part k s.0 s.1 ∙ ap (λ (n : ℕ). take s.0.word.width (drop n x)) (joined k s.0 s.1) in
      flat_more f ss k s.0 s.1 ∙ ap (λ (r : Row). r ++ f s.0) before ∙ ap (λ (r : Row). take (bits_of (take k ss)) x ++ r) here
      ∙ sym (take_sum (bits_of (take k ss)) s.0.word.width x) ∙ ap (λ (n : ℕ). take n x) (sym (bits_step k s.0 s.1))

  -- parts of a row, state by state, are the row
  pub cover_all : (f : State → Row) (x : Row) → ((k : ℕ) (s : State) → slice_get ss k ≡ Some s → f s ≡ slice_fn s.word.width s.first x) → bits_of ss ≡ length x → flat_map f ss ≡ x
  cover_all f x part whole =
      ap (flat_map f) (sym (take-length ss)) ∙ cover f x part (length ss) (omega arith) ∙ ap (λ (us : List State). take (bits_of us) x) (take-length ss) ∙ ap (λ (n : ℕ). take n x) whole ∙ take-length x

  -- rows that have the same parts are the same
  pub same_parts_same : (x y : Row) → bits_of ss ≡ length x → bits_of ss ≡ length y → ((k : ℕ) (s : State) → slice_get ss k ≡ Some s → slice_fn s.word.width s.first x ≡ slice_fn s.word.width s.first y) → x ≡ y
  same_parts_same x y lx ly part = sym (cover_all (λ (s : State). slice_fn s.word.width s.first x) x (λ k s at. refl) lx) ∙ cover_all (λ (s : State). slice_fn s.word.width s.first x) y part ly

-- a part of a part
take_drop_take : {A : Type 0} (w o n : ℕ) (xs : List A) → o + w ≤ n → take w (drop o (take n xs)) ≡ take w (drop o xs)
take_drop_take zero o n xs l = refl
take_drop_take (suc w) o zero xs l = absurd (omega arith)
take_drop_take (suc w) zero (suc n) [] l = refl
take_drop_take {A = A} (suc w) zero (suc n) (x ∷ xs) l = ap (λ (ys : List A). x ∷ ys) (take_drop_take w 0 n xs (omega arith))
take_drop_take (suc w) (suc o) (suc n) [] l = refl
take_drop_take (suc w) (suc o) (suc n) (x ∷ xs) l = take_drop_take (suc w) o n xs (omega arith)

pub slice_slice : (w o n first at : ℕ) (x : Row) → o + w ≤ n → first + o ≡ at → slice_fn w o (slice_fn n first x) ≡ slice_fn w at x
slice_slice w o n first at x l e = take_drop_take w o n (drop first x) l ∙ ap (λ (r : Row). take w r) (drop-drop o first x) ∙ ap (λ (k : ℕ). take w (drop k x)) e

-- the part of a list of rows that is one of them
take_front : (a b : Row) → take (length a) (a ++ b) ≡ a
take_front [] b = refl
take_front (x ∷ a) b = ap (λ (r : Row). x ∷ r) (take_front a b)

drop_front : (a b : Row) → drop (length a) (a ++ b) ≡ b
drop_front [] b = refl
drop_front (x ∷ a) b = drop_front a b

pub flat_part : (f : RegisterOf → Row) (rs : List RegisterOf) (i : ℕ) (r : RegisterOf) → slice_get rs i ≡ Some r → slice_fn (length (f r)) (length (flat_map f (take i rs))) (flat_map f rs) ≡ f r
flat_part f rs i r at =
    let whole : flat_map f rs ≡ flat_map f (take i rs) ++ (f r ++ flat_map f (drop (suc i) rs)) = flat_rest f rs i ∙ ap (λ (us : List RegisterOf). flat_map f (take i rs) ++ flat_map f us) (drop_at rs i r at) in
    ap (λ (x : Row). slice_fn (length (f r)) (length (flat_map f (take i rs))) x) whole ∙ ap (λ (x : Row). take (length (f r)) x) (drop_front (flat_map f (take i rs)) (f r ++ flat_map f (drop (suc i) rs))) ∙ take_front (f r) (flat_map f (drop (suc i) rs))

pub flat_long : (f : RegisterOf → Row) (rs : List RegisterOf) → ((i : ℕ) (r : RegisterOf) → slice_get rs i ≡ Some r → length (f r) ≡ length r.q) → length (flat_map f rs) ≡ length (flat_map (λ r. r.q) rs)
flat_long f [] h = refl
flat_long f (r ∷ rs) h =
    let head : length (f r) ≡ length r.q = h 0 r refl in
    let tail = flat_long f rs (λ i. h (suc i)) in
    length-append (f r) (flat_map f rs) ∙ (let e = length-append r.q (flat_map (λ (u : RegisterOf). u.q) rs) in omega arith)
