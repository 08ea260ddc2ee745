-- What statements say.
use Rattle.std.proofs.Common.{◌≡◌, ◌⊎◌, ℕ, zero, suc, Bool, true, false, not, ◌&&◌, ◌||◌, List, [], ◌∷◌, ◌++◌, Some, None, refl, sym, ap, ◌∙◌, subst, inl, inr, take}
use Rattle.std.specs.Prelude.{slice_get, cond}
use Rattle.std.specs.List.{list_all}
use Rattle.cnf_form.specs.Cnf.{LitOf, Assignment, LitWithin, lit_in, negate}
use Rattle.gate_graph.specs.Circuit.{GatesOf, Continues, MakesGate, Means}
use Rattle.gate_graph.specs.Laws.{keeps}
use Rattle.gate_graph.proofs.OneTable.{lit_negated}
use Rattle.gate_rows.specs.Literals.{MeansBit}
use Rattle.model_core.specs.Shape.{ModelOf}
use Rattle.model_core.specs.Meaning.{Cycle, Assumed, Broken, Reached}
use Rattle.model_core.specs.declared.model.Statement.{Statement}
use Rattle.frame_gates.specs.Frames.{Tells, cycle_of}
use Rattle.frame_gates.specs.Rows.{holds}
use Rattle.frame_gates.proofs.Lists.{one_at, take_step}

pub holds_means : (g h : GatesOf) (all fails neg l : LitOf) (F : Assignment → Bool) → MeansBit g F fails → ((x : Assignment) → lit_in x neg ≡ not (lit_in x fails)) →
    MakesGate g h (λ x. lit_in x all && lit_in x neg) l → MeansBit h (λ x. lit_in x all && not (F x)) l
holds_means g h all fails neg l F f n m = record {
  within = m.within;
  means = λ x s. m.means x s ∙ ap (λ (b : Bool). lit_in x all && b) (n x ∙ ap not (f.means x (keeps g h m.continues x s)));
}

and_true : (b : Bool) → (b && true) ≡ b
and_true true = refl
and_true false = refl

and_assoc : (a b c : Bool) → (a && (b && c)) ≡ ((a && b) && c)
and_assoc true b c = refl
and_assoc false b c = refl

pub all_push : {A : Type 0} (f : A → Bool) (xs : List A) (x : A) → list_all f (xs ++ x ∷ []) ≡ (list_all f xs && f x)
all_push f [] x = and_true (f x)
all_push f (y ∷ xs) x = ap (λ (b : Bool). f y && b) (all_push f xs x) ∙ and_assoc (f y) (list_all f xs) (f x)

pub all_more : (g h : GatesOf) (table : List LitOf) (statements : List Statement) (i : ℕ) (s : Statement) (old new : LitOf) → slice_get statements i ≡ Some s → Continues g h →
    MeansBit g (λ x. list_all (holds (cycle_of table x)) (take i statements)) old → MeansBit h (λ x. lit_in x old && holds (cycle_of table x) s) new →
    MeansBit h (λ x. list_all (holds (cycle_of table x)) (take (suc i) statements)) new
all_more g h table statements i s old new at k p q = record {
  within = q.within;
  means = λ x t. q.means x t ∙ ap (λ (b : Bool). b && holds (cycle_of table x) s) (p.means x (keeps g h k x t)) ∙ sym (all_push (holds (cycle_of table x)) (take i statements) s)
      ∙ ap (list_all (holds (cycle_of table x))) (sym (take_step statements i s at));
}

pub all_none : (g : GatesOf) (table : List LitOf) (l : LitOf) → LitWithin g.formula.vars l → Means g l (λ _. true) → MeansBit g (λ x. list_all (holds (cycle_of table x)) []) l
all_none g table l w m = record { within = w; means = λ x s. m x s }

-- lists of statements that all hold
both : (a b : Bool) → (a && b) ≡ true → (a ≡ true) × (b ≡ true)
both true true e = (refl, refl)
both true false e = cc
both false b e = cc

all_hold : (c : Cycle) (xs : List Statement) → list_all (holds c) xs ≡ true → (i : ℕ) (s : Statement) → slice_get xs i ≡ Some s → holds c s ≡ true
all_hold c [] e i s h = absurd (let z : None ≡ Some s = h in cc)
all_hold c (y ∷ xs) e zero s h = let same : y ≡ s = cc in subst (λ (z : Statement). holds c z ≡ true) same (both (holds c y) (list_all (holds c) xs) e).0
all_hold c (y ∷ xs) e (suc i) s h = all_hold c xs (both (holds c y) (list_all (holds c) xs) e).1 i s h

hold_all : (c : Cycle) (xs : List Statement) → ((i : ℕ) (s : Statement) → slice_get xs i ≡ Some s → holds c s ≡ true) → list_all (holds c) xs ≡ true
hold_all c [] h = refl
hold_all c (y ∷ xs) h = let a = h 0 y refl in let b = hold_all c xs (λ i. h (suc i)) in rw (a, b) refl

some_fails : (c : Cycle) (xs : List Statement) → list_all (holds c) xs ≡ false → (i : ℕ) × (s : Statement) × (slice_get xs i ≡ Some s) × (holds c s ≡ false)
some_fails c [] e = cc
some_fails c (y ∷ xs) e = by c y xs (some_fails c xs) (holds c y) refl e
  where
    by : (c : Cycle) (y : Statement) (xs : List Statement) → (list_all (holds c) xs ≡ false → (i : ℕ) × (s : Statement) × (slice_get xs i ≡ Some s) × (holds c s ≡ false)) →
        (b : Bool) → holds c y ≡ b → (b && list_all (holds c) xs) ≡ false → (i : ℕ) × (s : Statement) × (slice_get (y ∷ xs) i ≡ Some s) × (holds c s ≡ false)
    by c y xs again false p e = (0, y, refl, p)
    by c y xs again true p e = let r = again e in (suc r.0, r.1, r.2, r.3)

-- what one statement says
assumed_holds : (en a : Bool) → (not en || a) ≡ true → not (en && not a) ≡ true
assumed_holds true true h = refl
assumed_holds true false h = cc
assumed_holds false true h = refl
assumed_holds false false h = refl

holds_assumed : (en a : Bool) → not (en && not a) ≡ true → (not en || a) ≡ true
holds_assumed true true e = refl
holds_assumed true false e = cc
holds_assumed false true e = refl
holds_assumed false false e = refl

broken_fails : (en a : Bool) → en ≡ true → a ≡ false → not (en && not a) ≡ false
broken_fails en a p q = rw (p, q) refl

fails_broken : (en a : Bool) → not (en && not a) ≡ false → (en ≡ true) × (a ≡ false)
fails_broken true true e = cc
fails_broken true false e = (refl, refl)
fails_broken false a e = cc

pub tells_assumed : (m : ModelOf) (g : GatesOf) (table : List LitOf) (l : LitOf) → MeansBit g (λ x. list_all (holds (cycle_of table x)) m.assumes) l → Tells g (λ x. Assumed m (cycle_of table x)) l
tells_assumed m g table l b = record {
  within = b.within;
  means = λ x s. (
    (λ e i z at. holds_assumed (cycle_of table x z.en) (cycle_of table x z.a) (all_hold (cycle_of table x) m.assumes (sym (b.means x s) ∙ e) i z at)),
    (λ a. b.means x s ∙ hold_all (cycle_of table x) m.assumes (λ i z at. assumed_holds (cycle_of table x z.en) (cycle_of table x z.a) (a i z at))),
  );
}

not_true : (b : Bool) → not b ≡ true → b ≡ false
not_true true e = cc
not_true false e = refl

true_or : (b : Bool) → (b ≡ true) ⊎ (b ≡ false)
true_or true = inl refl
true_or false = inr refl

pub tells_broken : (m : ModelOf) (g : GatesOf) (table : List LitOf) (u l : LitOf) → l ≡ negate u → MeansBit g (λ x. list_all (holds (cycle_of table x)) m.asserts) u →
    Tells g (λ x. (k : ℕ) × Broken m (cycle_of table x) k) l
tells_broken m g table u l n b =
    let w = b.within in
    let neg : (x : Assignment) → lit_in x l ≡ not (lit_in x u) = λ x. ap (lit_in x) n ∙ lit_negated x u in
    record {
      within = subst (LitWithin g.formula.vars) (sym n) (w.0, w.1);
      means = λ x s. (
        (λ e.
            let f = some_fails (cycle_of table x) m.asserts (sym (b.means x s) ∙ not_true (lit_in x u) (sym (neg x) ∙ e)) in
            let p = fails_broken (cycle_of table x f.1.en) (cycle_of table x f.1.a) f.3 in
            (f.0, (f.1, f.2, p.0, p.1))),
        (λ k.
            let z = k.1.0 in
            let off : lit_in x u ≡ false = elim (true_or (lit_in x u)) as (λ _. lit_in x u ≡ false) [
              | inl t ↦
                  let h = all_hold (cycle_of table x) m.asserts (sym (b.means x s) ∙ t) k.0 k.1.0 k.1.1 in
                  let f = broken_fails (cycle_of table x k.1.0.en) (cycle_of table x k.1.0.a) k.1.2 k.1.3 in
                  cc
              | inr f ↦ f
            ] in
            neg x ∙ ap not off),
      );
    }

reach_both : (en a : Bool) → (en && a) ≡ true → (en ≡ true) × (a ≡ true)
reach_both en a e = both en a e

pub tells_reached : (m : ModelOf) (g : GatesOf) (table : List LitOf) (k : ℕ) (z : Statement) (l : LitOf) → slice_get m.covers k ≡ Some z →
    MeansBit g (λ x. cycle_of table x z.en && cond true (cycle_of table x z.a) (not (cycle_of table x z.a))) l → Tells g (λ x. Reached m (cycle_of table x) k) l
tells_reached m g table k z l at b = record {
  within = b.within;
  means = λ x s. (
    (λ e. let p = both (cycle_of table x z.en) (cycle_of table x z.a) (sym (b.means x s) ∙ e) in (z, at, p.0, p.1)),
    (λ r.
        let same : r.0 ≡ z = one_at m.covers k r.0 z r.1 at in
        let en : cycle_of table x z.en ≡ true = subst (λ (y : Statement). cycle_of table x y.en ≡ true) same r.2 in
        let a : cycle_of table x z.a ≡ true = subst (λ (y : Statement). cycle_of table x y.a ≡ true) same r.3 in
        b.means x s ∙ rw (en, a) refl),
  );
}
