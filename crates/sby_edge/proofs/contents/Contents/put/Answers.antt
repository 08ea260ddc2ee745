use Rattle.std.specs.Prelude.{refl, string_bytes}
use Rattle.std.proofs.lemmas.Map.Text.{btree_map_updates_text}
use Rattle.sby_edge.proofs.ContentsLemmas.{store_of-put}
use Rattle.sby_edge.proofs.contents.Contents.put.Goals as goal

pub returns-clause-ok : goal.returns-clause-ok
returns-clause-ok c =
    rw (← c.self.view_is) (store_of-put c.self.inside.by_path c.insert.new.self (string_bytes c.in_ok-key.key) _ _ c.args.content c.in_ok-key.ensures.ok refl
    (btree_map_updates_text (string_bytes c.in_ok-key.key) c.self.inside.by_path c.insert.new.self _ c.in_ok-insert.ensures.updates))
