use Rattle.std.proofs.Common.{◌≡◌, ◌⊎◌, ◌<◌, ◌≤◌, [], true}
use Rattle.net_answer.specs.Piped.{Goes, stage_of}
use Rattle.net_answer.proofs.reader.AnswerReader.read.Given as goal

abbrev pub invariant-loop : goal.invariant-loop
invariant-loop g l =
    Goes (g.L.Link.left l.initial.self.link) (g.L.Link.left l.self.link) (stage_of l.initial.self.is_over l.initial.self.head l.initial.self.got l.initial.self.left) (stage_of l.self.is_over l.self.head l.self.got l.self.left) []
    × (g.L.Link.faults l.self.link ≡ g.L.Link.faults l.initial.self.link)
    × (g.L.Link.written l.self.link ≡ g.L.Link.written l.initial.self.link)
    × ((l.self.is_over ≡ true) ⊎ ((0 < l.self.left) ⊎ (l.counter ≤ l.self.got)))
