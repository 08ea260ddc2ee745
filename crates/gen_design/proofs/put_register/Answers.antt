use Rattle.std.proofs.Common.{sym}
use Rattle.std.proofs.lemmas.Result.{on_ok_weaker}
use Rattle.gen_design.proofs.put_register.Goals as goal

pub returns : goal.returns
returns c = on_ok_weaker c.write.result (λ e. rw (sym c.register_before-before.ensures) e) c.write.ensures.bytes
