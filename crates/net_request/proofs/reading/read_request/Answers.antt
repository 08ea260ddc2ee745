use Rattle.std.proofs.Common.{subst, option_map}
use Rattle.net_request.specs.Reading.{AreBytes, IsNumber}
use Rattle.net_request.proofs.Fronts.{first_took, unframed_budget, unframed_job}
use Rattle.net_request.proofs.reading.read_request.Goals as goal

pub returns-in-Ok-None-read_number-clause-bad_frame : goal.returns-in-Ok-None-read_number-clause-bad_frame
returns-in-Ok-None-read_number-clause-bad_frame g c e =
    let f = subst (IsNumber (g.L.Link.left c.args.link.now) (g.L.Link.left c.read_number.new.link) 5999455829303111946 5999455829303111946) c.in-Ok-Some.field-0-is c.in-Ok-Some.ensures.number in
    let b = subst (IsNumber (g.L.Link.left c.read_number.new.link) (g.L.Link.left c.read_number-2.new.link) 1 1000000000) c.in-Ok-None-read_number.field-0-is c.in-Ok-None-read_number.ensures.number in
    unframed_budget _ _ (g.L.Link.left c.read_number-2.new.link) (first_took _ _ _ f) b

pub returns-in-Ok-None-read_bytes-clause-bad_frame :
    goal.returns-in-Ok-None-read_bytes-clause-bad_frame
returns-in-Ok-None-read_bytes-clause-bad_frame g c e =
    let f = subst (IsNumber (g.L.Link.left c.args.link.now) (g.L.Link.left c.read_number.new.link) 5999455829303111946 5999455829303111946) c.in-Ok-Some.field-0-is c.in-Ok-Some.ensures.number in
    let b = subst (IsNumber (g.L.Link.left c.read_number.new.link) (g.L.Link.left c.read_number-2.new.link) 1 1000000000) c.in-Ok-Some-read_number.field-0-is c.in-Ok-Some-read_number.ensures.number in
    let n = subst (IsNumber (g.L.Link.left c.read_number-2.new.link) (g.L.Link.left c.read_number-3.new.link) 0 4294967296) c.in-Ok-Some-read_number-2.field-0-is c.in-Ok-Some-read_number-2.ensures.number in
    let few = subst (λ o. AreBytes (g.L.Link.left c.read_number-3.new.link) (g.L.Link.left c.read_bytes.new.link) c.in-Ok-Some-read_number-2.count (option_map (λ v. v.items) o)) c.in-Ok-None-read_bytes.field-0-is c.in-Ok-None-read_bytes.ensures.bytes in
    unframed_job _ _ _ _ (g.L.Link.left c.read_bytes.new.link) _ _ (first_took _ _ _ f) b.0 n.0 n.2 few
