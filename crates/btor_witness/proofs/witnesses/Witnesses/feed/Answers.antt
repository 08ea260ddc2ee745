use Rattle.btor_witness.proofs.Exact.{piece_kept, piece_seen}
use Rattle.btor_witness.proofs.witnesses.Witnesses.feed.Goals as goal

pub returns-clause-exact : goal.returns-clause-exact
returns-clause-exact c = λ shape most bytes h. piece_seen shape most c.args.self.now bytes c.args.piece.now c.take_piece.new.self c.so_far.result h c.in-Ok.ensures.ok c.so_far.ensures

pub returns-clause-found : goal.returns-clause-found
returns-clause-found c = λ shape most bytes x h i. piece_kept shape most c.args.self.now bytes c.args.piece.now c.take_piece.new.self x h c.in-Ok.ensures.ok i
