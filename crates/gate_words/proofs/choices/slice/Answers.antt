use Rattle.std.proofs.Common.{◌≡◌, ◌∙◌, ℕ, ◌+◌, ◌-◌, take, drop, ap, arith}
use Rattle.gate_words.proofs.Choosing.{slice_row}
use Rattle.gate_words.proofs.choices.slice.Goals as goal

pub returns-clause-row : goal.returns-clause-row
returns-clause-row c = λ x.
    let n : c.args.offset + c.args.y - c.args.offset ≡ c.args.y = omega arith in
    slice_row x c.args.offset c.args.y c.args.a.now c.in_ok-word.word.items (c.in_ok-word.ensures ∙ ap (λ (n : ℕ). take n (drop c.args.offset c.args.a.now)) n)
