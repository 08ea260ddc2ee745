use Rattle.cert_judge.proofs.Bounding.{somewhere_by}
use Rattle.btor_witness.specs.Machine.{after, ended, fresh, so_far}
use Rattle.witness_judge.proofs.Existing.{come_somewhere}
use Rattle.witness_judge.specs.Choosing.{shape_of}
use Rattle.witness_judge.specs.Fate.{BytesFate}
use Rattle.witness_judge.proofs.laws.some_fate.Goals as goal

pub returns : goal.returns
returns c = λ a model asked bytes most no.
    somewhere_by (BytesFate a) most
    (come_somewhere a model asked
    (λ bytes. (so_far (after (fresh (shape_of a) 0) bytes), c.bytes_are_read.ensures.seen (shape_of a) 0 bytes))
    (λ bytes. (ended (after (fresh (shape_of a) 0) bytes), c.bytes_are_read.ensures.fate (shape_of a) 0 bytes)))
    bytes no
