use Rattle.std.proofs.Common.{◌≡◌, ℕ, false, sym, subst, rules}
use Rattle.std.specs.Prelude.{Option, Some, None, IfNone}
use Rattle.std.proofs.lemmas.Bool.{both_ways}
use Rattle.drup_check.specs.Marks.{Weighs}
use Rattle.drup_check.proofs.Weights.{same_places, weighs_of}
use Rattle.drup_check.proofs.Present.{filed_kept, not_present}
use Rattle.drup_check.proofs.lookup.find_clause.Goals as goal

pub find-found-requires-clause-weighs : goal.find-found-requires-clause-weighs
find-found-requires-clause-weighs c =
    let m = c.mark_all-weight.ensures in
    subst (Weighs c.args.salt c.args.clause.now) (sym m.weight) (weighs_of c.args.salt c.mark_all-weight.new.marks c.args.clause.now m.shows)

if_none : (r : Option ℕ) (P Q : Type 0) → (P → Q) → IfNone r P → IfNone r Q
if_none None P Q f h = f h
if_none (Some k) P Q f h = tt

pub returns-then-not-has_places-clause-none : goal.returns-then-not-has_places-clause-none
returns-then-not-has_places-clause-none c = λ filed d h s.
    let free = c.requires.free in
    let no : c.has_places.result ≡ false = search rules in
    both_ways _ no (c.has_places.ensures.1 (same_places c.args.marks.now c.args.clause.now d s (free.places d h)))

pub returns-clause-none : goal.returns-clause-none
returns-clause-none c =
    let m = c.mark_all-weight.ensures in
    let t = c.args.copies.now in
    if_none c.find-found.result _ _
    (λ none. not_present c.args.core.now c.args.salt t c.mark_all-weight.new.marks c.args.clause.now c.mark_all-weight.result m.weight m.shows none)
    c.find-found.ensures.none

pub returns-clause-filed : goal.returns-clause-filed
returns-clause-filed c = filed_kept c.args.core.now c.args.salt c.args.copies.now c.find-found.new.copies c.find-found.ensures.keeps
