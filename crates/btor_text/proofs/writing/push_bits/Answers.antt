use Rattle.std.proofs.Common.{◌≡◌, ◌∙◌, ◌++◌, ◌∷◌, ◌-◌, ℕ, Bool, false, List, [], ap, sym, take, get_or, append_assoc, arith}
use Rattle.std.specs.Prelude.{string_bytes}
use Rattle.btor_text.specs.Grammar.{bits_text, digit_of}
use Rattle.btor_text.proofs.Written.{bits_more}
use Rattle.btor_text.proofs.writing.push_bits.Goals as goal

pub loop-place-preserved : goal.loop-place-preserved
loop-place-preserved c =
    let n = c.loop-place.place in
    let bs = c.args.bits.now in
    let old = string_bytes c.loop-place.text in
    let b : Bool = get_or bs (n - 1) false in
    let more : bits_text (take n bs) ≡ digit_of b ∷ bits_text (take (n - 1) bs) = bits_more bs n (omega arith) (omega arith) in
    let e = c.in_ok-push_digit.ensures in
    (omega arith, ap (λ (t : List ℕ). t ++ bits_text (take (n - 1) bs)) e ∙ append_assoc old (digit_of b ∷ []) (bits_text (take (n - 1) bs)) ∙ ap (λ (t : List ℕ). old ++ t) (sym more) ∙ c.loop-place.invariant.1)
