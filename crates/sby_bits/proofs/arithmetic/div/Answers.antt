use Rattle.std.proofs.Common.{◌≡◌, ◌∙◌, ◌^◌, ap, length, ℕ, rules}
use Rattle.std.proofs.lemmas.Int.{to_z-of_z}
use Rattle.std.specs.Int.{w128}
use Rattle.std.specs.Prelude.{pos, FitsSigned}
use Rattle.sby_bits.specs.Rows.{fit, residue, value}
use Rattle.sby_bits.specs.Words.{quotient}
use Rattle.sby_bits.proofs.Residues.{fit-residue}
use Rattle.sby_bits.proofs.arithmetic.div.Goals as goal
use Rattle.sby_bits.proofs.arithmetic.div.Goals.{then-signed, else-signed}

pub returns : goal.returns
returns c =
    let same : c.if-signed.quotient ≡ residue (quotient (value c.args.signed c.args.a.now) (value c.args.signed c.args.b.now)) (2 ^ 128) =
    elim c.if-signed.branch [
      | then-signed w ↦
          let a_fits : FitsSigned w128 w.signed_number.result = search rules in
          let b_fits : FitsSigned w128 w.signed_number-then-signed.result = search rules in
          let passed = simp to_z-of_z at w.signed_quotient-quotient.ensures in
          rw (w.quotient-is, w.if-signed.true, ← w.signed_number.ensures, ← w.signed_number-then-signed.ensures) passed
      | else-signed w ↦ rw (w.quotient-is, w.if-signed.false, ← w.number.ensures, ← w.number-else-signed.ensures) w.unsigned_quotient-quotient.ensures
    ] in
    c.write.ensures ∙ ap (λ (n : ℕ). fit (length c.args.y.now) (pos n)) same
    ∙ fit-residue (length c.args.y.now) 128 (quotient (value c.args.signed c.args.a.now) (value c.args.signed c.args.b.now)) c.requires.y_in
