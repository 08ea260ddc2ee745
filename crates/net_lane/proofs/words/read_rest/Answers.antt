use Rattle.std.proofs.Common.{◌≡◌, ℕ, ◌∙◌, ap, sym, rules, string_bytes, arith}
use Rattle.std.specs.Prelude.{codes, Option, Some, None}
use Rattle.sby_terms.specs.Number.{number_upto}
use Rattle.net_lane.proofs.Asks.{three, asks_within, asks_not}
use Rattle.net_lane.proofs.words.read_rest.Goals as goal

pub returns-in-Some-clause-some : goal.returns-in-Some-clause-some
returns-in-Some-clause-some c =
    let xs = c.args.rest.now in
    let a = c.address-item-then-rest-lt4.result in
    let b = c.option-item.result in
    let d = c.number-item.result in
    let law = c.numbers_are_decimal.ensures 1000000000 c.in-Some.conflicts (string_bytes d) (omega arith) in
    let option : string_bytes b ≡ codes "--conflicts" = search rules in
    let w = law.0 (search rules) in
    (asks_within string_bytes xs a b d c.in-Some.conflicts (three xs a b d c.in-len3.len_at_least c.in-len3.len_below c.address-item-then-rest-lt4.is c.option-item.is c.number-item.is) option w.0 ∙ (search rules), w.1, w.2)

pub returns-in-None-clause-none : goal.returns-in-None-clause-none
returns-in-None-clause-none c =
    let xs = c.args.rest.now in
    let a = c.address-item-then-rest-lt4.result in
    let b = c.option-item.result in
    let d = c.number-item.result in
    asks_not string_bytes xs a b d (three xs a b d c.in-len3.len_at_least c.in-len3.len_below c.address-item-then-rest-lt4.is c.option-item.is c.number-item.is)
    (λ n e low high. let law = c.numbers_are_decimal.ensures 1000000000 n (string_bytes d) (omega arith) in
    let v = c.as_bytes.ensures in
    let k : ◌≡◌ {A = Option ℕ} None (Some n) = sym c.in-None.is ∙ c.number_upto.ensures ∙ ap (number_upto 1000000000) v.value ∙ law.1 (e, low, high) in cc)
