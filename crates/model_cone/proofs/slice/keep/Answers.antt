use Rattle.std.proofs.Common.{◌≡◌, ◌∙◌, ◌<◌, ◌+◌, ℕ, Bool, true, false, cond, List, [], ◌∷◌, ◌++◌, Some, length, get_or, take, sym, ap, arith}
use Rattle.std.specs.Prelude.{slice_get}
use Rattle.std.proofs.lemmas.List.{append-nil}
use Rattle.std.proofs.lemmas.Option.{slice_get-get_or}
use Rattle.model_core.proofs.Lists.{at_place}
use Rattle.model_cone.specs.Slice.{kept_at, kept_by}
use Rattle.model_cone.proofs.Growing.{kept-grow}
use Rattle.model_cone.proofs.slice.keep.Goals as goal
use Rattle.model_cone.proofs.slice.keep.Goals.{then-marks-places+in_ok-push, else-marks-places}

one-more : {A : Type 0} (keep : ℕ → Bool) (ps : List ℕ) (xs : List A) (i p : ℕ) (x : A) → slice_get ps i ≡ Some p → i < length xs → x ≡ get_or xs i x → keep p ≡ true → (old new : List A)
    → old ≡ kept_at keep (take i ps) xs → new ≡ old ++ x ∷ [] → new ≡ kept_at keep (take (i + 1) ps) xs
one-more {A = A} keep ps xs i p x at l ex k old new eo en =
    let read : slice_get xs i ≡ Some x = slice_get-get_or xs i x l ∙ ap Some (sym ex) in
    en ∙ ap (λ (ys : List A). ys ++ x ∷ []) eo ∙ sym (kept-grow keep ps xs i p x at read ∙ ap (λ (b : Bool). kept_at keep (take i ps) xs ++ cond b (x ∷ []) []) k)

no-more : {A : Type 0} (keep : ℕ → Bool) (ps : List ℕ) (xs : List A) (i p : ℕ) → slice_get ps i ≡ Some p → i < length xs → keep p ≡ false → (old : List A)
    → old ≡ kept_at keep (take i ps) xs → old ≡ kept_at keep (take (i + 1) ps) xs
no-more keep ps xs i p at l k old eo =
    let x = at_place xs i l in
    eo ∙ sym (kept-grow keep ps xs i p x.0 at x.1 ∙ ap (λ (b : Bool). kept_at keep (take i ps) xs ++ cond b (x.0 ∷ []) []) k ∙ append-nil (kept_at keep (take i ps) xs))

pub loop-k-preserved : goal.loop-k-preserved
loop-k-preserved g c =
    let keep = kept_by c.args.marks.now in
    let ps = c.args.places.now in
    let xs = c.args.row.now in
    let i = c.loop-k.k in
    let l : i < length ps = omega arith in
    let same = c.requires.row in
    let w : i < length xs = omega arith in
    let at = slice_get-get_or ps i 0 l in
    elim c.if-marks-places.branch [
      | then-marks-places+in_ok-push w2 ↦ rw w2.kept-is (one-more keep ps xs i (get_or ps i 0) w2.index-row-k.result at w w2.index-row-k.is w2.if-marks-places.true c.loop-k.kept.items w2.push.new.self.items c.loop-k.invariant w2.in_ok-push.ensures.items)
      | else-marks-places w2 ↦ rw w2.kept-is (no-more keep ps xs i (get_or ps i 0) at w w2.if-marks-places.false c.loop-k.kept.items c.loop-k.invariant)
    ]
