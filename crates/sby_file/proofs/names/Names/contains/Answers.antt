use Rattle.std.proofs.Common.{sym, ◌∙◌, ap, string_bytes}
use Rattle.std.specs.Prelude.{bytes_eq}
use Rattle.sby_file.proofs.NameLemmas.{list_any-map}
use Rattle.sby_file.specs.Names.{has}
use Rattle.sby_file.proofs.names.Names.contains.Goals as goal

pub returns : goal.returns
returns c =
    c.contains.ensures ∙ sym (list_any-map (bytes_eq c.args.name.now) string_bytes c.self.inside.set.keys) ∙ ap (λ names. has names c.args.name.now) c.self.view_is
