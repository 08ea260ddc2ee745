use Rattle.std.proofs.Common.{◌≡◌, ◌<◌, ◌++◌, ◌∷◌, [], false, List, length, get_or, refl, sym, ap, ◌∙◌, arith}
use Rattle.std.proofs.lemmas.Option.{get_or_from_slice_get}
use Rattle.clause_source.specs.Given.{lits_of}
use Rattle.cnf_form.specs.Cnf.{FormulaOf, LitOf}
use Rattle.cnf_form.proofs.Members.{take_one_more}
use Rattle.drup_check.specs.Checking.{CheckerOf}
use Rattle.drup_check.proofs.Present.{checker_of}
use Rattle.drup_check.proofs.Checker.new.Goals as goal

pub next-requires : goal.next-requires
next-requires g c = (c.loop-number.number, c.loop-number.invariant.place, omega arith)

pub loop-number-preserved : goal.loop-number-preserved
loop-number-preserved g c =
    let f : FormulaOf = g.S.ClauseSource.formula c.args.source.now in
    let x : List LitOf = lits_of c.next.result in
    let i = c.loop-number.number in
    let room : i < length f.clauses = omega arith in
    let is : x ≡ get_or f.clauses i x = sym (get_or_from_slice_get f.clauses i x x (c.next.ensures.clause i c.loop-number.invariant.place room)) in
    record {
      kept =
          c.in_ok-keep_given.ensures ∙ ap (λ (y : CheckerOf). let z : CheckerOf = record y { clauses = y.clauses ++ x ∷ [] } in z) c.loop-number.invariant.kept
          ∙ checker_of f.vars f.vars _ _ false false refl (sym (take_one_more f.clauses i x room is));
      place = c.next.ensures.place i c.loop-number.invariant.place room;
    }
