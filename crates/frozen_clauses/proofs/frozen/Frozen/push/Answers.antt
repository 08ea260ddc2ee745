use Rattle.std.proofs.Common.{rules, ◌≡◌, ◌%◌, ◌++◌, ◌∷◌, ◌∙◌, [], length, get_or, set, take, subst, sym, ap, arith}
use Rattle.std.specs.Prelude.{Some, Contains}
use Rattle.std.proofs.lemmas.List.{take_at, length-map, map_push}
use Rattle.cnf_form.specs.Cnf.{ClauseWithin}
use Rattle.cnf_form.proofs.Members.{Contains-read}
use Rattle.frozen_clauses.specs.declared.entry.Entry.{Entry}
use Rattle.frozen_clauses.specs.Frozen.{FrozenOf}
use Rattle.frozen_clauses.specs.Inside.{slot_of, slots_of, rows_of, IsFrozen}
use Rattle.frozen_clauses.proofs.Filing.{rows_same, rows_more, frozen_more}
use Rattle.frozen_clauses.proofs.frozen.Frozen.push.Goals as goal

pub invariant_of-self-then-is_err : goal.invariant_of-self-then-is_err
invariant_of-self-then-is_err c =
    let f = c.self.inside in
    let pushed : c.push.new.self.items ≡ f.clauses.items ++ Some c.in_ok-copy.copy ∷ [] = search rules in
    let at : length f.clauses.items ≡ c.len-number.result = search rules in
    let same : c.truncate.new.self.items ≡ f.clauses.items = c.truncate.ensures.items ∙ ap (take c.len-number.result) pushed ∙ take_at f.clauses.items _ c.len-number.result at in
    let read : c.index_mut.result.now ≡ get_or f.lists.items (c.index.result % 16381) c.index_mut.result.now = search rules in
    let kept : c.push-2.new.self.items ≡ c.index_mut.result.now.items = search rules in
    let count : length f.lists.items ≡ 16381 = omega (arith, c.self.invariant.lists, length-map f.lists.items (λ v. v.items)) in
    subst (λ s. IsFrozen f.vars (slots_of s) (rows_of (set f.lists.items (c.index.result % 16381) c.push-2.new.self)) f.marks.items) (sym same)
    (subst (λ r. IsFrozen f.vars (slots_of f.clauses.items) r f.marks.items) (sym (rows_same f.lists.items c.index.result c.index_mut.result.now c.push-2.new.self count read kept)) c.self.invariant)

pub invariant_of-self-else-is_err : goal.invariant_of-self-else-is_err
invariant_of-self-else-is_err c =
    let f = c.self.inside in
    let x = c.args.clause.now in
    let pushed : c.push.new.self.items ≡ f.clauses.items ++ Some c.in_ok-copy.copy ∷ [] = search rules in
    let copied : c.in_ok-copy.copy.items ≡ x = search rules in
    let read : c.index_mut.result.now ≡ get_or f.lists.items (c.index.result % 16381) c.index_mut.result.now = search rules in
    let e : Entry = record { clause = c.len-number.result; second = c.index-clause-place.result; third = c.index-clause-place-2.result } in
    let entered : c.push-2.new.self.items ≡ c.index_mut.result.now.items ++ e ∷ [] = search rules in
    let slots : slots_of c.push.new.self.items ≡ slots_of f.clauses.items ++ Some x ∷ [] = ap slots_of pushed ∙ map_push slot_of f.clauses.items _ ∙ ap (λ z. slots_of f.clauses.items ++ Some z ∷ []) copied in
    let count : length f.lists.items ≡ 16381 = omega (arith, c.self.invariant.lists, length-map f.lists.items (λ v. v.items)) in
    let long : length (slots_of f.clauses.items) ≡ length f.clauses.items = length-map f.clauses.items slot_of in
    let within : ClauseWithin f.vars x = subst (λ (z : FrozenOf). ClauseWithin z.vars x) (sym c.self.view_is) c.requires.within in
    let on : Contains x c.index-clause-place-3.result = Contains-read x _ _ (omega arith) c.index-clause-place-3.is in
    let second : Contains x e.second = Contains-read x _ _ (omega arith) c.index-clause-place.is in
    let third : Contains x e.third = Contains-read x _ _ (omega arith) c.index-clause-place-2.is in
    subst (λ s. IsFrozen f.vars s (rows_of (set f.lists.items (c.index.result % 16381) c.push-2.new.self)) f.marks.items) (sym slots)
    (subst (λ r. IsFrozen f.vars (slots_of f.clauses.items ++ Some x ∷ []) r f.marks.items) (sym (rows_more f.lists.items c.index.result c.index_mut.result.now c.push-2.new.self count read c.index-clause-place-3.result e c.index.ensures entered))
    (frozen_more f.vars _ _ _ c.self.invariant x c.index-clause-place-3.result e (omega (arith, long, c.len.ensures, c.if-len.false)) within c.requires.full on (omega (arith, long, c.len-number.ensures)) second third))
