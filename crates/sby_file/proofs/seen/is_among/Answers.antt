use Rattle.std.proofs.Common.{◌∙◌, string_bytes}
use Rattle.sby_file.proofs.NameLemmas.{any_turned}
use Rattle.sby_file.proofs.seen.is_among.Goals as goal

pub returns : goal.returns
returns c = c.contains.ensures.value ∙ any_turned string_bytes (string_bytes c.args.name.now) c.args.tasks.now
