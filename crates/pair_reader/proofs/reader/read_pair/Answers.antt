use Rattle.std.proofs.Common.{◌≡◌, List, ℕ, subst}
use Rattle.std.proofs.lemmas.Bool.{both_ways}
use Rattle.std.proofs.lemmas.Result.{IfOk-at_ok}
use Rattle.std.proofs.lemmas.Option.{MatchOption-at_none, MatchOption-at_some}
use Rattle.cnf_form.specs.Cnf.{FormulaOf}
use Rattle.cnf_form.specs.Dimacs.{IsDimacs}
use Rattle.pair_form.specs.Pair.{IsPair, PairOf}
use Rattle.pair_form.specs.Text.{pair_text}
use Rattle.pair_reader.proofs.reader.read_pair.Goals as goal

-- the formula of a text is that of its pair
formula_is : (bytes : List ℕ) (f : FormulaOf) (p : PairOf) → ((p : PairOf) → IsPair p → IsDimacs (pair_text p) p.formula) → ((bytes : List ℕ) (f g : FormulaOf) → IsDimacs bytes f → IsDimacs bytes g → f ≡ g)
    → IsDimacs bytes f → IsPair p → pair_text p ≡ bytes → p.formula ≡ f
formula_is bytes f p text one d is e = one bytes p.formula f (subst (λ (t : List ℕ). IsDimacs t p.formula) e (text p is)) d

pub returns-else-is_text-clause-fault : goal.returns-else-is_text-clause-fault
returns-else-is_text-clause-fault c =
    let d : IsDimacs c.args.bytes.now c.in-Ok.formula = IfOk-at_ok (IsDimacs c.args.bytes.now) c.in-Ok.is c.in_ok-formula.ensures.formula in (
      c.in-Ok.formula,
      d,
      λ p is e. absurd
          (let same = formula_is c.args.bytes.now c.in-Ok.formula p c.texts_are_dimacs.ensures c.dimacs_is_unambiguous.ensures d is e in
          let text = MatchOption-at_some ⊥ (λ (q : PairOf). pair_text q ≡ c.args.bytes.now) c.in-Some.pair c.in-Some.is (c.in_ok-pair.ensures p is same e) in
          both_ways _ c.if-is_text.false (c.is_text.ensures.1 text)),
    )

pub returns-in-None-clause-fault : goal.returns-in-None-clause-fault
returns-in-None-clause-fault c =
    let d : IsDimacs c.args.bytes.now c.in-Ok.formula = IfOk-at_ok (IsDimacs c.args.bytes.now) c.in-Ok.is c.in_ok-formula.ensures.formula in (
      c.in-Ok.formula,
      d,
      λ p is e. (let same = formula_is c.args.bytes.now c.in-Ok.formula p c.texts_are_dimacs.ensures c.dimacs_is_unambiguous.ensures d is e in
          MatchOption-at_none ⊥ (λ (q : PairOf). pair_text q ≡ c.args.bytes.now) c.in-None.is (c.in_ok-pair.ensures p is same e)),
    )
