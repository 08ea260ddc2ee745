use Rattle.std.proofs.Common.{rules}
use Rattle.std.proofs.lemmas.List.Sorted.{answers_always}
use Rattle.btor_text.proofs.Finding.{found_err, found_ok}
use Rattle.btor_text.proofs.find.place_of.Goals as goal

-- the closure gives a line's nid, and the slice is the model's lines
pub returns-in-Ok-clause-some : goal.returns-in-Ok-clause-some
returns-in-Ok-clause-some c =
    let facts = c.in-Ok.ensures in
    let by_nid = facts.position (λ l. l.nid) (answers_always _ _ _ (λ f a r g called. search rules)) in
    let inside = rw c.lines.ensures at facts.bound in
    (inside, λ d. found_ok c.args.model.now c.promise.ensures c.args.nid c.in-Ok.place (rw c.lines.ensures at by_nid) inside d)

pub returns-in-Err-clause-none : goal.returns-in-Err-clause-none
returns-in-Err-clause-none c =
    let facts = c.in-Err.ensures in
    let by_nid = facts.position (λ l. l.nid) (answers_always _ _ _ (λ f a r g called. search rules)) in
    found_err c.args.model.now c.promise.ensures c.args.nid c.in-Err.field-0 (rw c.lines.ensures at by_nid) (rw c.lines.ensures at facts.bound)
