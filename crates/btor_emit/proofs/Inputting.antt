-- Inputs, one after the other.
use Rattle.std.proofs.Common.{◌≡◌, ◌⊎◌, inl, inr, ℕ, zero, suc, ◌+◌, ◌<◌, List, [], ◌∷◌, ◌++◌, Some, None, length, drop, take, refl, sym, ap, subst, ◌∙◌, arith, append_assoc, length-append}
use Rattle.std.specs.Prelude.{All, Contains, slice_get}
use Rattle.std.specs.List.{concat}
use Rattle.std.proofs.lemmas.List.{append-nil, take-append-drop}
use Rattle.std.proofs.lemmas.List.Elements.{All-contains}
use Rattle.std.proofs.lemmas.List.Folds.{concat-append}
use Rattle.std.proofs.lemmas.Option.{slice_get_within}
use Rattle.btor_core.specs.Fits.{IsBtor}
use Rattle.btor_core.specs.Shape.{BtorOf, inits, open_words}
use Rattle.btor_core.specs.declared.line.Node.TheVariants as node
use Rattle.btor_core.specs.declared.line.Word.{Word}
use Rattle.btor_core.proofs.Growing.{grows_on, grows_same, keeps_on, keeps_same}
use Rattle.btor_emit.specs.Emitting.{AreInputs, IsInputWord, IsOpened}
use Rattle.btor_emit.specs.Stretching.{IsSeated}
use Rattle.btor_emit.specs.Table.{AreSeats, Table}
use Rattle.btor_emit.proofs.Covering.{take_at}
use Rattle.btor_emit.proofs.Giving.{seated_else, seated_seat, seated_seats}
use Rattle.btor_emit.proofs.Kept.{apart_from, apart_parts, apart_to, joined_there}
use Rattle.btor_emit.proofs.Leaves.{seats_grow, state_width_stays, word_grows}
use Rattle.model_core.specs.Shape.{IsDistinct}
use Rattle.model_core.proofs.Lists.{all_from, app_left, app_right, at_place, contained_at, contains_left, contains_right, drop_at, push-either}

only : {A : Type 0} (x y : A) (k : ℕ) → slice_get (x ∷ []) k ≡ Some y → (k ≡ 0) × (x ≡ y)
only x y zero h = (refl, cc)
only {A = A} x y (suc k) h = absurd (let n : None ≡ Some y = h in cc)

pub inputs_none : (m : BtorOf) (t : Table) → IsBtor m → AreSeats m t → AreInputs m m t t []
inputs_none m t btor seats = record {
  ws = [];
  btor = btor;
  grows = grows_same m;
  lists = keeps_same m;
  opened = sym (append-nil (open_words m.lines));
  long = refl;
  each = λ k row a at there. absurd (let n : None ≡ Some row = at in cc);
  size = refl;
  seats = seats;
  else = λ p n. refl;
  few = omega arith;
}

pub input_one : (m0 m1 : BtorOf) (t0 t1 : Table) (a : Word) (row : List ℕ) → IsDistinct row → AreSeats m0 t0 → IsOpened m0 m1 a (length row) node.Input [] → IsSeated t0 t1 row a → AreInputs m0 m1 t0 t1 (row ∷ [])
input_one m0 m1 t0 t1 a row distinct seats o seated = record {
  ws = a ∷ [];
  btor = o.btor;
  grows = o.grows;
  lists = record { inits = o.inits ∙ append-nil (inits m0.lines); nexts = o.nexts; constraints = o.constraints; bads = o.bads };
  opened = o.opened;
  long = refl;
  each = λ k r b at there.
      let x = only row r k at in
      let y = only a b k there in
      subst (λ (w : Word). IsInputWord m1 t1 r w) y.1 (subst (λ (ps : List ℕ). IsInputWord m1 t1 ps a) x.1 here);
  size = seated.size;
  seats = seated_seats t0 t1 row a seated m1 (seats_grow m0 m1 t0 o.btor o.grows seats) o.word (sym o.size);
  else = λ q n. seated_else t0 t1 row a seated q (λ c. n (subst (λ (ps : List ℕ). Contains ps q) (sym (append-nil row)) c));
  few = (let f = o.few in omega arith);
}
  where
    here : IsInputWord m1 t1 row a
    here = record { word = o.word; width = o.size; line = o.kind; bits = λ j p at. seated_seat t0 t1 row a seated distinct j p at }

pub inputs_more : (m0 m1 m2 : BtorOf) (t0 t1 t2 : Table) (rows : List (List ℕ)) (row : List ℕ) → ((p : ℕ) → Contains (concat rows) p → Contains row p → ⊥) → AreInputs m0 m1 t0 t1 rows → AreInputs m1 m2 t1 t2 (row ∷ []) → AreInputs m0 m2 t0 t2 (rows ++ row ∷ [])
inputs_more m0 m1 m2 t0 t1 t2 rows row fresh old new = record {
  ws = old.ws ++ new.ws;
  btor = new.btor;
  grows = grows_on m0 m1 m2 old.grows new.grows;
  lists = keeps_on m0 m1 m2 old.lists new.lists;
  opened = new.opened ∙ ap (λ (ws : List Word). ws ++ new.ws) old.opened ∙ append_assoc (open_words m0.lines) old.ws new.ws;
  long = length-append old.ws new.ws ∙ (let a = old.long in let b = new.long in let c = length-append rows (row ∷ []) in omega arith);
  each = λ k r a at there. by k r a (push-either rows row r k at) there;
  size = new.size ∙ old.size;
  seats = new.seats;
  else = λ q n. new.else q (λ c. n (subst (λ (ps : List ℕ). Contains ps q) (sym joined) (contains_right (concat rows) (concat (row ∷ [])) q c))) ∙ old.else q (λ c. n (subst (λ (ps : List ℕ). Contains ps q) (sym joined) (contains_left (concat rows) (concat (row ∷ [])) q c)));
  few = (let a = old.few in let b = new.few in let c = length-append rows (row ∷ []) in omega arith);
}
  where
    joined : concat (rows ++ row ∷ []) ≡ concat rows ++ concat (row ∷ [])
    joined = concat-append rows (row ∷ [])

    by : (k : ℕ) (r : List ℕ) (a : Word) → (slice_get rows k ≡ Some r) ⊎ ((k ≡ length rows) × (r ≡ row)) → slice_get (old.ws ++ new.ws) k ≡ Some a → IsInputWord m2 t2 r a
    by k r a (inl h) there =
        let l = slice_get_within rows k r h in
        let b = at_place old.ws k (let z = old.long in omega arith) in
        let f : Some b.0 ≡ Some a = sym (app_left old.ws new.ws k b.0 b.1) ∙ there in
        let same : b.0 ≡ a = cc in
        let x = old.each k r a h (subst (λ (w : Word). slice_get old.ws k ≡ Some w) same b.1) in
        record {
          word = word_grows m1 m2 a new.btor new.grows x.word;
          width = x.width;
          line = state_width_stays m1 m2 a new.grows x.word ∙ x.line;
          bits = λ j p at. new.else p (λ c. fresh p (joined_there rows r p (contained_at rows r k h) (contained_at r p j at)) (subst (λ (ps : List ℕ). Contains ps p) (append-nil row) c)) ∙ x.bits j p at;
        }
    by k r a (inr h) there =
        let z : k ≡ length old.ws + 0 = (let y = old.long in let w = h.0 in omega arith) in
        let here : slice_get new.ws 0 ≡ Some a = sym (app_right old.ws new.ws 0 k z) ∙ there in
        new.each 0 r a (ap Some (sym h.1)) here

pub row_inside : (n : ℕ) (rows : List (List ℕ)) (i : ℕ) (row : List ℕ) → All (λ p. p < n) (concat rows) → slice_get rows i ≡ Some row → All (λ p. p < n) row
row_inside n rows i row inside at = all_from (λ (p : ℕ). p < n) row (λ k p here. All-contains (λ (q : ℕ). q < n) (concat rows) p inside (joined_there rows row p (contained_at rows row i at) (contained_at row p k here)))

-- a row of rows in which no place stands twice
module _ (rows : List (List ℕ)) (distinct : IsDistinct (concat rows)) (i : ℕ) (row : List ℕ) (at : slice_get rows i ≡ Some row) where
  front : take (i + 1) rows ≡ take i rows ++ row ∷ []
  front = let z : suc i ≡ i + 1 = omega arith in ap (λ (n : ℕ). take n rows) (sym z) ∙ take_at rows i row at

  split : concat rows ≡ concat (take i rows) ++ (row ++ concat (drop (suc i) rows))
  split = ap concat (sym (take-append-drop i rows) ∙ ap (λ (rs : List (List ℕ)). take i rows ++ rs) (drop_at rows i row at)) ∙ concat-append (take i rows) (row ∷ drop (suc i) rows)

  pub row_distinct : IsDistinct row
  row_distinct =
      let a = apart_parts (concat (take i rows)) (row ++ concat (drop (suc i) rows)) (apart_from _ (subst IsDistinct split distinct)) in
      apart_to row (apart_parts row (concat (drop (suc i) rows)) a.1).0

  row_fresh : (p : ℕ) → Contains (concat (take i rows)) p → Contains row p → ⊥
  row_fresh p c d =
      let a = apart_parts (concat (take i rows)) (row ++ concat (drop (suc i) rows)) (apart_from _ (subst IsDistinct split distinct)) in
      a.2 p c (contains_left row (concat (drop (suc i) rows)) p d)

  -- an input more
  pub inputs_step : (m0 m1 m2 : BtorOf) (t0 t1 t2 : Table) → AreInputs m0 m1 t0 t1 (take i rows) → AreInputs m1 m2 t1 t2 (row ∷ []) → AreInputs m0 m2 t0 t2 (take (i + 1) rows)
  inputs_step m0 m1 m2 t0 t1 t2 old new = subst (λ (rs : List (List ℕ)). AreInputs m0 m2 t0 t2 rs) (sym front) (inputs_more m0 m1 m2 t0 t1 t2 (take i rows) row row_fresh old new)
