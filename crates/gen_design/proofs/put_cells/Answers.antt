use Rattle.std.proofs.Common.{◌++◌, string_bytes}
use Rattle.std.proofs.lemmas.Result.{on_ok_weaker}
use Rattle.gen_design.specs.Ring.{register, both, not_both, assertion}
use Rattle.gen_design.proofs.Lines.{more_lines}
use Rattle.gen_design.proofs.put_cells.Goals as goal

pub returns : goal.returns
returns c =
    let n = c.args.n in
    let i = c.args.i in
    let old = string_bytes c.args.text.now in
    on_ok_weaker c.put_assertion.result
    (more_lines (register n i ++ both n i) (not_both i ++ assertion i) old (string_bytes c.put_both.new.text) (string_bytes c.put_assertion.new.text)
    (more_lines (register n i) (both n i) old (string_bytes c.put_register.new.text) (string_bytes c.put_both.new.text) c.in_ok-put_register.ensures c.in_ok-put_both.ensures))
    c.put_assertion.ensures
