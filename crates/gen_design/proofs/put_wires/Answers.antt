use Rattle.std.proofs.Common.{◌≡◌, ◌==◌, ◌∙◌, Bool, true, false, ap, sym, lit<}
use Rattle.std.specs.Prelude.{codes, if◌then◌else◌}
use Rattle.std.specs.Fmt.{decimal}
use Rattle.std.proofs.lemmas.Fmt.{decimal_digit}
use Rattle.std.proofs.lemmas.Result.{on_ok_weaker}
use Rattle.gen_design.proofs.put_wires.Goals as goal
use mir.Val.{bool_byte}

digit : (b : Bool) → decimal (bool_byte b) ≡ (if b then codes "1" else codes "0")
digit true = decimal_digit 1 (lit< tt)
digit false = decimal_digit 0 (lit< tt)

pub returns : goal.returns
returns c = on_ok_weaker c.write.result (λ e. rw (sym (ap decimal c.from-start.ensures ∙ digit (c.args.i == 0))) e) c.write.ensures.bytes
