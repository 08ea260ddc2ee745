use Rattle.std.proofs.Common.{◌∙◌, ap, sym}
use Rattle.std.specs.Prelude.{option_map}
use Rattle.sby_edge.proofs.ContentsLemmas.{store_of-at}
use Rattle.sby_edge.proofs.contents.Contents.get.Goals as goal

pub returns-in-Some : goal.returns-in-Some
returns-in-Some c =
    rw (← c.self.view_is, c.deref.ensures.value) (ap (option_map (λ v. v.items)) c.in-Some.ensures.value ∙ sym (store_of-at c.self.inside.by_path c.args.path.now))

pub returns-in-None : goal.returns-in-None
returns-in-None c =
    rw (← c.self.view_is) (ap (option_map (λ v. v.items)) c.in-None.ensures.value ∙ sym (store_of-at c.self.inside.by_path c.args.path.now))
