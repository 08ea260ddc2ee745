use Rattle.std.proofs.Common.{rules, subst}
use Rattle.std.proofs.lemmas.Nat.{be_bytes_8}
use Rattle.net_request.specs.Reading.{IsWord}
use Rattle.net_request.proofs.Fronts.{number_is}
use Rattle.net_request.proofs.reading.read_number.Goals as goal

pub returns-clause-number : goal.returns-clause-number
returns-clause-number g c =
    let w = subst (IsWord (g.L.Link.left c.args.link.now) (g.L.Link.left c.read_word.new.link)) c.in-Some.is c.in_ok-word.ensures.word in
    (number_is _ _ c.in-Some.word _ w.0 (be_bytes_8 c.in-Some.word c.from_be_bytes-number.result w.1 w.2 c.from_be_bytes-number.ensures), search rules, search rules)
