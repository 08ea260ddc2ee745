use Rattle.std.proofs.Common.{◌≡◌, subst, sym, get_or, true, arith}
use Rattle.std.specs.Prelude.{Contains}
use Rattle.std.proofs.lemmas.List.Elements.{Contains-get_or}
use Rattle.cnf_form.specs.Cnf.{LitOf}
use Rattle.unit_propagation.specs.Marks.{is_marked}
use Rattle.frozen_clauses.specs.declared.entry.Entry.{Entry}
use Rattle.frozen_clauses.specs.Inside.{slots_of, rows_of, row, IsCovered}
use Rattle.frozen_clauses.proofs.Filing.{row_is, one_more}
use Rattle.frozen_clauses.proofs.subset.find.Goals as goal

pub find_in_list-requires-clause-entries : goal.find_in_list-requires-clause-entries
find_in_list-requires-clause-entries c = λ k d room.
    let here : row (rows_of c.args.lists.now) c.l-item.result ≡ c.as_slice.result.now = row_is _ _ c.index.result c.index-lists-index.result _ c.requires.lists c.index.ensures c.index-lists-index.is c.as_slice.ensures.value in
    let e = get_or c.as_slice.result.now k d in
    c.requires.entries c.l-item.result e (subst (λ z. Contains z e) (sym here) (Contains-get_or _ k d room))

pub loop-l-preserved : goal.loop-l-preserved
loop-l-preserved c =
    let rows = rows_of c.args.lists.now in
    let m = c.args.marks.now in
    let P : LitOf → Type 0 = λ l. (e : Entry) → Contains (row rows l) e → is_marked m e.second ≡ true → is_marked m e.third ≡ true → IsCovered m (slots_of c.args.clauses.now) e.clause → ⊥ in
    let here : row rows c.l-item.result ≡ c.as_slice.result.now = row_is _ _ c.index.result c.index-lists-index.result _ c.requires.lists c.index.ensures c.index-lists-index.is c.as_slice.ensures.value in
    one_more P c.args.lits.now c.loop-l.l-index c.l-item.result c.loop-l-test.true c.l-item.is c.loop-l.invariant (λ e h. c.in_default.ensures.none e (subst (λ z. Contains z e) here h))

pub returns-clause-none : goal.returns-clause-none
returns-clause-none c = λ l e i h. c.loop-l.invariant i.0 l (omega (arith, i.1, c.loop-l-test.false)) e (subst (λ z. Contains (row (rows_of c.args.lists.now) z) e) (sym i.2) h)
