use Rattle.std.proofs.Common.{true, cond, sym, ◌∙◌, ap, string_bytes, map}
use Rattle.std.specs.List.{list_any}
use Rattle.std.specs.String.{string_eq}
use Rattle.std.specs.Prelude.{[], ◌∷◌, ◌++◌, bytes_eq}
use Rattle.std.proofs.lemmas.Map.Text.{hash_set_updates_text}
use Rattle.sby_file.specs.Names.{has}
use Rattle.sby_file.proofs.NameLemmas.{or_inserted, list_any-map, kept_or_added}
use Rattle.sby_file.proofs.names.Names.insert.Goals as goal

pub returns-clause-names : goal.returns-clause-names
returns-clause-names c =
    let ks = c.self.inside.set.keys in
    let k = c.args.name in
    let test = sym (list_any-map (bytes_eq (string_bytes k)) string_bytes ks) in
    ap (map string_bytes) c.in_ok-insert.ensures.keys
    ∙ kept_or_added string_bytes (list_any (string_eq k) ks) ks k
    ∙ ap (λ b. cond b (map string_bytes ks) (map string_bytes ks ++ string_bytes k ∷ [])) test
    ∙ ap (λ names. cond (has names (string_bytes k)) names (names ++ string_bytes k ∷ [])) c.self.view_is

pub returns-clause-has : goal.returns-clause-has
returns-clause-has c = λ other.
    let now = hash_set_updates_text (string_bytes c.args.name) c.self.inside.set c.insert.new.self true c.in_ok-insert.ensures.updates other in
    let before = sym (list_any-map (bytes_eq other) string_bytes c.self.inside.set.keys) ∙ ap (λ names. has names other) c.self.view_is in
    list_any-map (bytes_eq other) string_bytes c.insert.new.self.keys ∙ now ∙ ap (cond (bytes_eq (string_bytes c.args.name) other) true) before ∙ or_inserted (string_bytes c.args.name) other (has c.args.self.now other)
