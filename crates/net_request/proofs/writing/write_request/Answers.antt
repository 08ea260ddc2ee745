use Rattle.net_request.proofs.Sends.{request_grew}
use Rattle.net_request.proofs.writing.write_request.Goals as goal

pub returns-clause-written : goal.returns-clause-written
returns-clause-written g c is =
    request_grew _ _ c.write_all.result (g.L.Link.written c.args.link.now) (g.L.Link.written c.offer.new.link) (g.L.Link.written c.offer-2.new.link) (g.L.Link.written c.offer-3.new.link) (g.L.Link.written c.write_all.new.link) c.args.budget c.args.count c.to_be_bytes.result
    c.to_be_bytes-2.result (g.S.Source.rest c.args.job.now) c.in_ok-offer.ensures.written c.in_ok-offer-2.ensures.written c.to_be_bytes.ensures c.in_ok-offer-3.ensures.written c.to_be_bytes-2.ensures is c.write_all.ensures.written
