use Rattle.std.proofs.Common.{◌≡◌, ◌∷◌, map, string_bytes, rules}
use Rattle.net_lane.specs.declared.words.NetWords.{NetWords}
use Rattle.net_lane.proofs.Asks.{asks_some}
use Rattle.net_lane.proofs.words.read_words.Goals as goal

pub returns-in-Some-clause-some : goal.returns-in-Some-clause-some
returns-in-Some-clause-some c =
    let e : map string_bytes c.args.words.now ≡ c.as_str.result.now ∷ map string_bytes c.in-Some.rest.now = search rules in
    asks_some c.read_engine.result (λ (w : NetWords). w.address.now) (λ (w : NetWords). w.conflicts) _ _ _ e c.read_engine.ensures.some
