use Rattle.std.proofs.Common.{rules, ◌≢◌, []}
use Rattle.btor_text.specs.Form.{saying}
use Rattle.btor_text.specs.Grammar.{words_of}
use Rattle.btor_text.proofs.Back.{words_some}
use Rattle.btor_text.proofs.Outcome.{goes_on, refused, words_say}
use Rattle.btor_text.proofs.reading.Reader.read.Goals as goal

pub returns-in-Some-refusal-clause-fault : goal.returns-in-Some-refusal-clause-fault
returns-in-Some-refusal-clause-fault c =
    let words = words_of c.args.text.now in
    let some : words ≢ [] = search rules in
    let said = c.in-Some.said in
    let say = words_say words said c.in-Some.ensures.bare c.in-Some.ensures.spelt in
    refused c.args.self.now.model words (saying said) c.in-Some-refusal.kind (words_some c.args.text.now) some say c.in-Some-refusal.ensures.some

pub returns-clause-read : goal.returns-clause-read
returns-clause-read c =
    let words = words_of c.args.text.now in
    let said = c.in-Some.said in
    let say = words_say words said c.in-Some.ensures.bare c.in-Some.ensures.spelt in
    goes_on c.args.self.now.model c.push.new.self.model words (saying said) say (search rules) c.in_ok-push.ensures.model
