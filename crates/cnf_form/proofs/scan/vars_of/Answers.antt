use Rattle.std.proofs.Common.{◌≡◌, ◌≤◌, ℕ, List, Option, Some, None, sym, arith}
use Rattle.std.specs.Prelude.{IfSome, IfNone}
use Rattle.sby_terms.specs.Number.{number_upto}
use Rattle.cnf_form.specs.Dimacs.{IsNumber}
use Rattle.cnf_form.proofs.Numerals.{upto_some, vars_none}
use Rattle.cnf_form.proofs.scan.vars_of.Goals as goal
use Rattle.std.proofs.Common.{◌≢◌, get_or, ◌^◌}

some_is : (o : Option ℕ) (w : List ℕ) → o ≡ number_upto (2 ^ 27) w → IfSome o (λ n. IsNumber w n × (n ≤ 2 ^ 27))
some_is (Some n) w e = let s = upto_some (2 ^ 27) n w (omega arith) (sym e) in (s.0, s.2)
some_is None w e = tt

none_is : (o : Option ℕ) (w : List ℕ) → get_or w 0 0 ≢ 48 → o ≡ number_upto (2 ^ 27) w → IfNone o ((n : ℕ) → IsNumber w n → n ≤ 2 ^ 27 → ⊥)
none_is (Some n) w z e = tt
none_is None w z e = λ n a l. vars_none (2 ^ 27) n w z (sym e) a l

pub returns-clause-some : goal.returns-clause-some
returns-clause-some c = some_is c.number_upto.result c.args.word.now c.number_upto.ensures

pub returns-clause-none : goal.returns-clause-none
returns-clause-none c = none_is c.number_upto.result c.args.word.now c.if-word-eq48.false c.number_upto.ensures
