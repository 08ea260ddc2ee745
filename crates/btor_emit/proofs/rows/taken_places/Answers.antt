use Rattle.std.proofs.Common.{◌∙◌, ◌≡◌, ◌++◌, ℕ, Bool, List, false, ap, arith, drop, length, subst, take}
use Rattle.std.specs.Prelude.{Contains, slice_index_or}
use Rattle.std.specs.List.{concat}
use Rattle.std.proofs.lemmas.List.{take_at}
use Rattle.btor_emit.specs.Marks.{IsMarked, Marks}
use Rattle.btor_emit.proofs.Marking.{no_mark}
use Rattle.btor_emit.proofs.Rowing.{marks_are}
use Rattle.btor_emit.proofs.rows.taken_places.Goals as goal

pub returns-clause-each : goal.returns-clause-each
returns-clause-each c = λ p.
    let new = c.mark_all.new.marks in
    let items = c.in_ok-taken.taken.items in
    let whole : take c.in_ok-taken.taken.len (new ++ drop (length new) items) ≡ new = take_at new (drop (length new) items) c.in_ok-taken.taken.len (let s = c.mark_all.ensures.size in let l = c.as_mut_slice-table.ensures.len in omega arith) in
    let none : (q : ℕ) → IsMarked c.as_mut_slice-table.result.now q → ⊥ = λ q h. no_mark c.size.result q (subst (λ (xs : List Bool). IsMarked xs q) (c.as_mut_slice-table.ensures.value ∙ c.in_ok-taken.ensures.items_if_clones_equal (λ y e. e)) h) in
    let marks : Marks c.as_mut_slice-table.result.now new (Contains (concat c.args.rows.now)) = subst (λ (ps : List ℕ). Marks c.as_mut_slice-table.result.now new (Contains ps)) c.places.ensures c.mark_all.ensures in
    ap (λ (xs : List Bool). slice_index_or xs p false) whole ∙ marks_are c.as_mut_slice-table.result.now new (concat c.args.rows.now) none marks p
