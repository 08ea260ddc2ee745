use Rattle.std.proofs.Common.{◌≡◌, ◌↔◌, ℕ, ◌≤◌, sym, subst, ◌∙◌, arith}
use Rattle.std.specs.Prelude.{IsTrue, Some, decimal}
use Rattle.std.proofs.lemmas.Bool.{eqb-true}
use Rattle.sby_terms.specs.Address.{IsAddress}
use Rattle.sby_terms.proofs.Addresses.{no_address, no_host, some_host}
use Rattle.sby_terms.proofs.address.is_address.Goals as goal

pub returns-in_default : goal.returns-in_default
returns-in_default c = (λ t. absurd (let k = t in cc), λ a. absurd (no_address c.args.word.now c.in_default.ensures a))

pub returns-then-at-eq0 : goal.returns-then-at-eq0
returns-then-at-eq0 c =
    let e = c.in-Some.ensures in
    (λ t. absurd (let k = t in cc), λ a. absurd (no_host c.args.word.now c.in-Some.at c.if-at-eq0.true (eqb-true _ 58 e.1) e.0.after a))

pub returns : goal.returns
returns c =
    let word = c.args.word.now in
    let at = c.in-Some.at in
    let e = c.in-Some.ensures in
    let rest = c.split_at.result.1.now in
    let law : (n : ℕ) → (c.number_upto.result ≡ Some n) ↔ ((rest ≡ decimal n) × (1 ≤ n) × (n ≤ 65535)) =
    λ n. let law = c.numbers_are_decimal.ensures 65535 n rest (omega arith) in (λ is. law.0 (sym c.number_upto.ensures ∙ is), λ w. c.number_upto.ensures ∙ law.1 w) in
    subst (λ b. IsTrue b ↔ IsAddress word) (sym c.is_some.ensures)
    (some_host word at c.number_upto.result c.if-at-eq0.false e.0.high (eqb-true _ 58 e.1) e.0.after
    (subst (λ r. (n : ℕ) → (c.number_upto.result ≡ Some n) ↔ ((r ≡ decimal n) × (1 ≤ n) × (n ≤ 65535))) c.split_at.ensures.back law))
