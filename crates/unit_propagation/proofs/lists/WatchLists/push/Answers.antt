use Rattle.std.proofs.Common.{◌≡◌, ◌<◌, ◌++◌, ◌∷◌, [], length, ap, sym, subst, ◌∙◌, rules}
use Rattle.std.specs.Prelude.{slice_set}
use Rattle.std.proofs.lemmas.Result.{err_from_is_err_and}
use Rattle.cnf_form.specs.Cnf.{index_of}
use Rattle.unit_propagation.specs.Watch.{rows_of, row}
use Rattle.unit_propagation.specs.declared.watch.Watch.{Watch}
use Rattle.unit_propagation.proofs.Rows.{row_written, row_was, row_kept}
use Rattle.unit_propagation.proofs.lists.WatchLists.push.Goals.{then-place-len+in_ok-reach, else-place-len}
use Rattle.unit_propagation.proofs.lists.WatchLists.push.Goals as goal

pub returns-in_err-push-clause-err : goal.returns-in_err-push-clause-err
returns-in_err-push-clause-err c =
    let old = c.args.self.now in
    let s = c.if-place-len.self in
    let same : rows_of s.vars s.lists.items ≡ rows_of old.vars old.lists.items = elim c.if-place-len.branch [
      | then-place-len+in_ok-reach w ↦ search rules
      | else-place-len w ↦ search rules
    ] in
    let at : c.index-place.result < length s.lists.items = elim c.if-place-len.branch [
      | then-place-len+in_ok-reach w ↦ search rules
      | else-place-len w ↦ search rules
    ] in
    let q = err_from_is_err_and c.from_residual-in_err-push.result c.from_residual-in_err-push.ensures.1 in
    let kept = row_kept s.vars s.lists.items c.index-place.result c.args.l c.index-place.ensures c.index_mut.result.now c.push.new.self at c.index_mut.ensures.value c.in_err-push.ensures.items in
    rw q.1 (kept ∙ same)

pub returns-clause-ok : goal.returns-clause-ok
returns-clause-ok c =
    let old = c.args.self.now in
    let s = c.if-place-len.self in
    let same : rows_of s.vars s.lists.items ≡ rows_of old.vars old.lists.items = elim c.if-place-len.branch [
      | then-place-len+in_ok-reach w ↦ search rules
      | else-place-len w ↦ search rules
    ] in
    let at : c.index-place.result < length s.lists.items = elim c.if-place-len.branch [
      | then-place-len+in_ok-reach w ↦ search rules
      | else-place-len w ↦ search rules
    ] in
    let w : Watch = record { clause = c.args.clause; blocker = c.args.blocker } in
    let was = row_was s.vars s.lists.items c.index-place.result c.args.l c.index-place.ensures c.index_mut.result.now at c.index_mut.ensures.value in
    let written = row_written s.vars s.lists.items c.index-place.result c.args.l c.index-place.ensures c.push.new.self _ at (c.in_ok-push.ensures.items ∙ ap (λ z. z ++ w ∷ []) (sym was)) in
    subst (λ z. rows_of s.vars (slice_set s.lists.items c.index-place.result c.push.new.self) ≡ slice_set z (index_of c.args.l) (row z c.args.l ++ w ∷ [])) same written
