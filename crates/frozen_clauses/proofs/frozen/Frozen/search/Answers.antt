use Rattle.std.proofs.Common.{rules, ◌≡◌, ◌∙◌, ◌⊎◌, ℕ, length, subst, sym, ap, true, List, Bool}
use Rattle.std.specs.Prelude.{Contains, IfNone, Option, Some, None}
use Rattle.std.proofs.lemmas.List.{take_at, length-map}
use Rattle.std.proofs.lemmas.Option.{IfSome_then}
use Rattle.cnf_form.specs.Cnf.{LitOf}
use Rattle.unit_propagation.specs.Marks.{is_marked}
use Rattle.unit_propagation.specs.Propagator.{slot_at, clauses_of}
use Rattle.frozen_clauses.specs.declared.entry.Entry.{Entry}
use Rattle.frozen_clauses.specs.Frozen.{FrozenOf}
use Rattle.frozen_clauses.specs.Inside.{slot_of, slots_of, rows_of, row, EntryFits, IsCovered, IsFrozen}
use Rattle.frozen_clauses.proofs.Filing.{covered_is_subset, subset_is_covered, frozen_unmarked}
use Rattle.frozen_clauses.proofs.frozen.Frozen.search.Goals as goal

IfNone_then : (r : Option ℕ) {P Q : Type 0} → IfNone r P → (P → Q) → IfNone r Q
IfNone_then None h f = f h
IfNone_then (Some x) h f = h

pub find-found-requires-clause-entries : goal.find-found-requires-clause-entries
find-found-requires-clause-entries c = λ l e h.
    let f = c.self.inside in
    let n : length c.deref-3.result.now ≡ length f.marks.items = search rules in
    let m : length (slots_of f.clauses.items) ≡ length c.deref-2.result.now = length-map f.clauses.items slot_of ∙ sym (ap length c.deref-2.ensures.value) in
    let fits = c.self.invariant.entries l e (subst (λ z. Contains (row (rows_of z) l) e) c.deref.ensures.value h) in
    subst (λ j. EntryFits (length c.deref-2.result.now) j e) (sym n) (subst (λ j. EntryFits j (length f.marks.items) e) m fits)

pub invariant_of-self : goal.invariant_of-self
invariant_of-self c =
    let f = c.self.inside in
    let x = c.args.clause.now in
    let n : length c.mark.new.marks ≡ f.marks.len = search rules in
    let n' : length c.unmark.new.marks ≡ f.marks.len = search rules in
    let n'' : length c.unmark.new.marks ≡ length f.marks.items = search rules in
    let is : c.deref_mut-2.result.now ≡ c.mark.new.marks = c.deref_mut-2.ensures.value ∙ take_at c.mark.new.marks _ _ n in
    subst (IsFrozen f.vars (slots_of f.clauses.items) (rows_of f.lists.items)) (sym (take_at c.unmark.new.marks _ _ n'))
    (frozen_unmarked f.vars _ _ f.marks.items c.self.invariant x c.mark.new.marks c.mark.ensures.on (λ l h. subst (λ z. (is_marked z l ≡ true) ⊎ Contains x l) c.deref_mut.ensures.value (c.mark.ensures.only l h)) c.unmark.new.marks n''
    (λ l h. let o = c.unmark.ensures l h in (subst (λ z. is_marked z l ≡ true) is o.0, o.1)))

pub returns-clause-none : goal.returns-clause-none
returns-clause-none c =
    let f = c.self.inside in
    let x = c.args.clause.now in
    let n : length c.mark.new.marks ≡ f.marks.len = search rules in
    let is : c.deref-3.result.now ≡ c.mark.new.marks = c.deref-3.ensures.value ∙ take_at c.mark.new.marks _ _ n in
    IfNone_then c.find-found.result c.find-found.ensures.none (λ none b h sub.
    let marked : List Bool = c.mark.new.marks in
    let apart : (l : LitOf) (e : Entry) → Contains x l → Contains (row (rows_of f.lists.items) l) e → is_marked marked e.second ≡ true → is_marked marked e.third ≡ true → IsCovered marked (slots_of f.clauses.items) e.clause → ⊥ =
    λ l e i j s t k. none l e i (subst (λ z. Contains (row (rows_of z) l) e) (sym c.deref.ensures.value) j) (subst (λ z. is_marked z e.second ≡ true) (sym is) s) (subst (λ z. is_marked z e.third ≡ true) (sym is) t)
    (subst (λ z. IsCovered z (slots_of c.deref-2.result.now) e.clause) (sym is) (subst (λ z. IsCovered marked (slots_of z) e.clause) (sym c.deref-2.ensures.value) k)) in
    subset_is_covered f.vars _ _ f.marks.items c.self.invariant x marked c.mark.ensures.on (λ l i. subst (λ z. (is_marked z l ≡ true) ⊎ Contains x l) c.deref_mut.ensures.value (c.mark.ensures.only l i)) apart b
    (subst (λ (z : FrozenOf). Contains (clauses_of z.slots) b) (sym c.self.view_is) h) sub)

pub returns-clause-some : goal.returns-clause-some
returns-clause-some c =
    let f = c.self.inside in
    let x = c.args.clause.now in
    let n : length c.mark.new.marks ≡ f.marks.len = search rules in
    let is : c.deref-3.result.now ≡ c.mark.new.marks = c.deref-3.ensures.value ∙ take_at c.mark.new.marks _ _ n in
    IfSome_then c.find-found.result c.find-found.ensures.some (λ k h.
    let covered : IsCovered c.mark.new.marks (slots_of f.clauses.items) k = subst (λ z. IsCovered z (slots_of f.clauses.items) k) is (subst (λ z. IsCovered c.deref-3.result.now (slots_of z) k) c.deref-2.ensures.value h) in
    let s = covered_is_subset f.vars _ _ f.marks.items c.self.invariant x c.mark.new.marks c.mark.ensures.on (λ l i. subst (λ z. (is_marked z l ≡ true) ⊎ Contains x l) c.deref_mut.ensures.value (c.mark.ensures.only l i)) k covered in
    (s.0, subst (λ (z : FrozenOf). slot_at z.slots k ≡ Some s.0) c.self.view_is s.1, s.2))
