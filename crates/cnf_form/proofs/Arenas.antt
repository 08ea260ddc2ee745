-- What a push and a removal leave of the clauses in an arena.
use Rattle.std.proofs.Common.{◌≡◌, ℕ, ◌≤◌, ◌<◌, List, [], ◌∷◌, ◌++◌, length, map, get_or, drop, refl, sym, ◌∙◌, ap, subst, arith, length-append, zero, suc}
use Rattle.std.specs.Prelude.{All, Contains, slice_range, slice_get, Some, remove}
use Rattle.std.proofs.lemmas.Slice.{between_is, between_to_end}
use Rattle.std.proofs.lemmas.List.{take-append-le, drop_at, map-append, get_or-map}
use Rattle.std.proofs.lemmas.Option.{slice_get-get_or}
use Rattle.std.proofs.lemmas.List.Elements.{All-push, All-head, All-tail, All-cons, Contains-get_or}
use Rattle.std.proofs.Math.ListN.{length-map}
use Rattle.cnf_form.specs.declared.formula.Span.{Span}
use Rattle.cnf_form.specs.Cnf.{LitOf, FormulaOf, ClauseWithin, Within}
use Rattle.cnf_form.specs.Arena.{clauses_at, SpanWithin, IsArena}

range_more : (lits more : List LitOf) (i j : ℕ) → j ≤ length lits → slice_range (lits ++ more) i j ≡ slice_range lits i j
range_more lits more i j h = between_is (lits ++ more) i j ∙ ap (drop i) (take-append-le j lits more h) ∙ sym (between_is lits i j)

range_new : (lits more : List LitOf) → slice_range (lits ++ more) (length lits) (length (lits ++ more)) ≡ more
range_new lits more = between_to_end (lits ++ more) (length lits) (length (lits ++ more)) (omega arith) ∙ drop_at lits more (length lits) refl

-- more literals change no clause
pub clauses_at-more : (lits more : List LitOf) (spans : List Span) → All (SpanWithin (length lits)) spans → clauses_at (lits ++ more) spans ≡ clauses_at lits spans
clauses_at-more lits more [] h = refl
clauses_at-more lits more (s ∷ ss) h =
    let head = All-head (SpanWithin (length lits)) s ss h in
    let e = range_more lits more s.start s.end head.1 in
    let f = clauses_at-more lits more ss (All-tail (SpanWithin (length lits)) s ss h) in
    cc

pub map-remove : {X Y : Type 0} (f : X → Y) (xs : List X) (k : ℕ) → map f (remove xs k) ≡ remove (map f xs) k
map-remove f [] zero = refl
map-remove f [] (suc k) = refl
map-remove f (x ∷ xs) zero = refl
map-remove f (x ∷ xs) (suc k) = ap (λ ys. f x ∷ ys) (map-remove f xs k)

pub All-remove : {X : Type 0} (P : X → Type 0) (xs : List X) (k : ℕ) → All P xs → All P (remove xs k)
All-remove P [] zero h = h
All-remove P [] (suc k) h = h
All-remove P (x ∷ xs) zero h = All-tail P x xs h
All-remove P (x ∷ xs) (suc k) h = All-cons P x (remove xs k) (All-head P x xs h) (All-remove P xs k (All-tail P x xs h))

module _ (lits : List LitOf) (spans : List Span) (k : ℕ) (d : Span) (F : List (List LitOf)) (view : clauses_at lits spans ≡ F) (h : k < length F) where
  read : (e : List LitOf) → get_or F k e ≡ slice_range lits (get_or spans k d).start (get_or spans k d).end
  read e =
      let room : k < length spans = omega (arith, ap length view, simp length-map at (ap length view)) in
      subst (λ G. get_or G k e ≡ slice_range lits (get_or spans k d).start (get_or spans k d).end) view (get_or-map (λ s. slice_range lits s.start s.end) spans k d e room)

  pub clause_read : slice_get F k ≡ Some (slice_range lits (get_or spans k d).start (get_or spans k d).end)
  clause_read = slice_get-get_or F k [] h ∙ ap (λ c. Some c) (read [])

  pub clause_contained : Contains F (slice_range lits (get_or spans k d).start (get_or spans k d).end)
  clause_contained = subst (Contains F) (read []) (Contains-get_or F k [] h)

-- after a push that failed, and after one that did not
module _ (vars : ℕ) (lits more : List LitOf) (spans : List Span) (a : IsArena vars lits spans) where
  pub arena-more : IsArena vars (lits ++ more) spans
  arena-more =
      let p = a.places in
      record {
        limit = a.limit;
        places = record { each = λ k d h. let w = p.each k d h in (w.0, omega (arith, length-append lits more)) };
        within = subst (Within vars) (sym (clauses_at-more lits more spans p.each)) a.within;
      }

  pub clauses_at-same : clauses_at (lits ++ more) spans ≡ clauses_at lits spans
  clauses_at-same = let p = a.places in clauses_at-more lits more spans p.each

  pub clauses_at-push : (s : Span) → s.start ≡ length lits → s.end ≡ length (lits ++ more) → clauses_at (lits ++ more) (spans ++ s ∷ []) ≡ clauses_at lits spans ++ more ∷ []
  clauses_at-push s e f =
      let g : slice_range (lits ++ more) s.start s.end ≡ more = rw (e, f) (range_new lits more) in
      map-append (λ (t : Span). slice_range (lits ++ more) t.start t.end) spans (s ∷ []) ∙ ap (λ c. clauses_at (lits ++ more) spans ++ c ∷ []) g ∙ ap (λ F. F ++ more ∷ []) clauses_at-same

  pub arena-push : (s : Span) → s.start ≡ length lits → s.end ≡ length (lits ++ more) → ClauseWithin vars more → IsArena vars (lits ++ more) (spans ++ s ∷ [])
  arena-push s e f h =
      let m = arena-more in
      let p = m.places in
      record {
        limit = a.limit;
        places = record { each = All-push (SpanWithin (length (lits ++ more))) spans s p.each (omega (arith, length-append lits more), omega arith) };
        within = subst (Within vars) (sym (clauses_at-push s e f)) (All-push (ClauseWithin vars) (clauses_at lits spans) more a.within h);
      }

  -- the same, of the fields as they are then
  pub after_failure : (lits' : List LitOf) (spans' : List Span) → lits' ≡ lits ++ more → spans' ≡ spans → IsArena vars lits' spans' × (clauses_at lits' spans' ≡ clauses_at lits spans)
  after_failure lits' spans' e f = rw (e, f) (arena-more, clauses_at-same)

  pub after_push : (lits' : List LitOf) (spans' : List Span) (s : Span) → lits' ≡ lits ++ more → spans' ≡ spans ++ s ∷ [] → s.start ≡ length lits → s.end ≡ length lits' → ClauseWithin vars more
      → IsArena vars lits' spans' × (clauses_at lits' spans' ≡ clauses_at lits spans ++ more ∷ [])
  after_push lits' spans' s e f g h w =
      let h' : s.end ≡ length (lits ++ more) = h ∙ ap length e in
      rw (e, f) (arena-push s g h' w, clauses_at-push s g h')

module _ (vars : ℕ) (lits : List LitOf) (spans : List Span) (a : IsArena vars lits spans) (k : ℕ) where
  pub clauses_at-remove : clauses_at lits (remove spans k) ≡ remove (clauses_at lits spans) k
  clauses_at-remove = map-remove (λ (t : Span). slice_range lits t.start t.end) spans k

  pub arena-remove : IsArena vars lits (remove spans k)
  arena-remove =
      let p = a.places in
      record {
        limit = a.limit;
        places = record { each = All-remove (SpanWithin (length lits)) spans k p.each };
        within = subst (Within vars) (sym clauses_at-remove) (All-remove (ClauseWithin vars) (clauses_at lits spans) k a.within);
      }

-- a formula seen through its parts
pub formula_from : (f : FormulaOf) (v : ℕ) (F G : List (List LitOf)) → (let g : FormulaOf = record { vars = v; clauses = F } in g) ≡ f → G ≡ F → (let g : FormulaOf = record { vars = v; clauses = G } in g) ≡ f
formula_from f v F G e h = subst (λ H. (let g : FormulaOf = record { vars = v; clauses = H } in g) ≡ f) (sym h) e

pub formula_changed : (f : FormulaOf) (v : ℕ) (F G : List (List LitOf)) (edit : List (List LitOf) → List (List LitOf)) → (let g : FormulaOf = record { vars = v; clauses = F } in g) ≡ f → G ≡ edit F → (let g : FormulaOf = record { vars = v; clauses = G } in g) ≡ record { vars = f.vars; clauses = edit f.clauses }
formula_changed f v F G edit e h = subst (λ (k : FormulaOf). (let g : FormulaOf = record { vars = v; clauses = G } in g) ≡ record { vars = k.vars; clauses = edit k.clauses }) e (ap (λ K. let g : FormulaOf = record { vars = v; clauses = K } in g) h)
