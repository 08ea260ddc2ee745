use Rattle.std.proofs.Common.{length, subst, sym, ◌∙◌, ap, arith, refl, inl, inr}
use Rattle.std.proofs.lemmas.Bool.{both_ways}
use Rattle.cnf_form.specs.Cnf.{FormulaOf}
use Rattle.cnf_form.specs.Dimacs.{IsNumber}
use Rattle.cnf_form.specs.declared.reader.BodyEnd.TheVariants.{Bad}
use Rattle.cnf_form.specs.Reading.{EndsWithin}
use Rattle.cnf_form.proofs.Bodies.{ends_as, ends_cut, ends_whole, dimacs_from}
use Rattle.cnf_form.proofs.reader.read_dimacs.Goals as goal

pub returns-in-Cut-clause-fault : goal.returns-in-Cut-clause-fault
returns-in-Cut-clause-fault c =
    let n = c.in-Ok.ensures.count in
    let e = ap (λ (k : FormulaOf). k.vars) c.new-formula.ensures in
    (c.in-Ok.header.vars, n.0, c.in-Ok.header.body.now, c.in-Ok.ensures.header n.0 n.1, inl (ends_cut _ c.in-Ok.header.vars c.in-Ok.header.body.now _ c.in_ok-end.end c.in_ok-end.ensures.body e c.in-Cut.is), refl)

pub returns-in-Bad-clause-fault : goal.returns-in-Bad-clause-fault
returns-in-Bad-clause-fault c =
    let n = c.in-Ok.ensures.count in
    let e = ap (λ (k : FormulaOf). k.vars) c.new-formula.ensures in
    let k = c.in-Ok.ensures.ok in
    let w : EndsWithin c.in-Ok.header.body.now (Bad c.in-Bad.at) = subst (EndsWithin c.in-Ok.header.body.now) c.in-Bad.is c.in_ok-end.ensures.within in (
      c.in-Ok.header.vars,
      n.0,
      c.in-Ok.header.body.now,
      c.in-Bad.at.now,
      c.in-Ok.ensures.header n.0 n.1,
      ends_as _ c.in-Ok.header.vars c.in-Ok.header.body.now _ c.in_ok-end.end c.in_ok-end.ensures.body e (Bad c.in-Bad.at) c.in-Bad.is,
      omega (arith, w, k.1),
    )

pub returns-then-not-exact-clause-fault : goal.returns-then-not-exact-clause-fault
returns-then-not-exact-clause-fault c =
    let n = c.in-Ok.ensures.count in
    let e = ap (λ (k : FormulaOf). k.vars) c.new-formula.ensures in (
      c.in-Ok.header.vars,
      n.0,
      c.in-Ok.header.body.now,
      c.in-Ok.ensures.header n.0 n.1,
      inr (_, ends_whole _ c.in-Ok.header.vars c.in-Ok.header.body.now _ c.in_ok-end.end c.in_ok-end.ensures.body e c.in-Whole.is, λ same. both_ways _ c.if-not-exact.true (c.in_ok-exact.ensures.1 (subst (IsNumber c.in-Ok.header.count.now) (sym same ∙ (ap length (sym c.clauses.ensures.clauses) ∙ sym c.len.ensures)) n.1))),
      refl,
    )

pub returns-clause-formula : goal.returns-clause-formula
returns-clause-formula c =
    let e = ap (λ (k : FormulaOf). k.vars) c.new-formula.ensures in
    let count : IsNumber c.in-Ok.header.count.now (length c.read_body.new.formula.clauses) = subst (IsNumber c.in-Ok.header.count.now) (c.len.ensures ∙ ap length c.clauses.ensures.clauses) (c.in_ok-exact.ensures.0 c.if-not-exact.false) in
    dimacs_from c.args.bytes.now c.in-Ok.header.vars c.in-Ok.header.body.now c.read_body.new.formula (c.read_body.ensures.vars ∙ e) (c.in-Ok.ensures.header _ count) (ends_whole _ c.in-Ok.header.vars c.in-Ok.header.body.now _ c.in_ok-end.end c.in_ok-end.ensures.body e c.in-Whole.is)
