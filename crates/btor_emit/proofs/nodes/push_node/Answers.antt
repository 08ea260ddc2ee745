use Rattle.std.proofs.Common.{◌-◌, ◌++◌, length, take, drop, subst, refl, List, ℕ}
use Rattle.std.specs.Prelude.{Contains}
use Rattle.btor_emit.proofs.Giving.{given}
use Rattle.btor_emit.proofs.Moving.{concat_done, copy_done, in_slice, slice_done}
use Rattle.btor_emit.proofs.nodes.push_node.Goals as goal
use Rattle.model_core.proofs.Lists.{contains_left, contains_right}
use Rattle.std.proofs.lemmas.List.{take-append-drop}

front_in : (n : ℕ) (ys : List ℕ) (p : ℕ) → Contains (take n ys) p → Contains ys p
front_in n ys p h = subst (λ (ps : List ℕ). Contains ps p) (take-append-drop n ys) (contains_left (take n ys) (drop n ys) p h)

back_in : (n : ℕ) (ys : List ℕ) (p : ℕ) → Contains (drop n ys) p → Contains ys p
back_in n ys p h = subst (λ (ps : List ℕ). Contains ps p) (take-append-drop n ys) (contains_right (take n ys) (drop n ys) p h)

pub alias-requires-clause-apart : goal.alias-requires-clause-apart
alias-requires-clause-apart c = λ p g h. c.requires.apart p g (contains_left c.args.a.now (c.args.b.now ++ c.args.s.now) p h)

pub alias-requires-in-Slice-clause-apart : goal.alias-requires-in-Slice-clause-apart
alias-requires-in-Slice-clause-apart c =
    λ p g h. c.requires.apart p g (contains_left c.args.a.now (c.args.b.now ++ c.args.s.now) p (in_slice (length c.args.y.now) (length c.args.a.now - c.in-Slice.offset) c.in-Slice.offset c.args.a.now p h))

pub alias-requires-in-Concat-clause-apart : goal.alias-requires-in-Concat-clause-apart
alias-requires-in-Concat-clause-apart c =
    λ p g h.
    let y = c.args.y.now in
    let n = length c.args.a.now in
    c.requires.apart p (front_in n y p (subst (λ (ps : List ℕ). Contains ps p) c.split_at.ensures.front g)) (contains_left c.args.a.now (c.args.b.now ++ c.args.s.now) p h)

pub alias-requires-in-Concat-2-clause-apart : goal.alias-requires-in-Concat-2-clause-apart
alias-requires-in-Concat-2-clause-apart c =
    λ p g h.
    let y = c.args.y.now in
    let n = length c.args.a.now in
    c.requires.apart p (back_in n y p (subst (λ (ps : List ℕ). Contains ps p) c.split_at.ensures.back g)) (contains_right c.args.a.now (c.args.b.now ++ c.args.s.now) p (contains_left c.args.b.now c.args.s.now p h))

pub returns-in-Copy : goal.returns-in-Copy
returns-in-Copy c = copy_done c.args.draft.now c.args.table.now c.alias.new.table c.args.op c.args.a.now c.args.b.now c.args.s.now c.args.y.now _ c.requires.btor c.requires.seats c.requires.a c.requires.b c.requires.widths c.requires.distinct c.requires.apart c.in-Copy.is c.alias.ensures

pub returns-in-Slice : goal.returns-in-Slice
returns-in-Slice c =
    slice_done c.args.draft.now c.args.table.now c.alias-in-Slice.new.table c.args.op c.args.a.now c.args.b.now c.args.s.now c.args.y.now _ c.requires.btor c.requires.seats c.requires.a c.requires.b c.requires.widths c.requires.distinct c.requires.apart c.in-Slice.offset _ c.in-Slice.is refl c.alias-in-Slice.ensures

pub returns-in-Concat : goal.returns-in-Concat
returns-in-Concat c =
    concat_done c.args.draft.now c.args.table.now c.alias-in-Concat.new.table c.args.op c.args.a.now c.args.b.now c.args.s.now c.args.y.now _ c.requires.btor c.requires.seats c.requires.a c.requires.b c.requires.widths c.requires.distinct c.requires.apart c.alias-in-Concat-2.new.table _ _ c.in-Concat.is c.split_at.ensures.front
    c.split_at.ensures.back c.alias-in-Concat.ensures c.alias-in-Concat-2.ensures

pub returns-in_ok-word-in_default : goal.returns-in_ok-word-in_default
returns-in_ok-word-in_default c = given c.args.draft.now c.word_of.new.draft c.args.table.now c.word_of.new.table c.give.new.table c.in_ok-word-in_default.word c.args.y.now _ _ c.requires.distinct c.in_ok-word-in_default.ensures.row c.give.ensures
