use Rattle.std.proofs.Common.{◌≡◌, Bool, eqb, not}
use Rattle.cdcl_run.specs.Output.{Breaks, OutputOf, Puts}
use Rattle.cdcl_run.specs.Searching.{line_by}
use Rattle.cdcl_run.specs.declared.log.ProofLog.{ProofLog}
use Rattle.cdcl_run.proofs.Chains.{Searched, answered}
use Rattle.cdcl_run.proofs.log.solve_to.Given as given
use Rattle.cdcl_run.proofs.log.solve_to.Goals as goal

abbrev hinted : given.Over → Bool
hinted g = not (eqb g.row.HINTED 0)

abbrev State : given.Over → Type 0
State g = ProofLog g.row.S.Denot g.row.HINTED

abbrev out : (g : given.Over) → State g → OutputOf
out g a = record { taken = g.S.Sink.taken a.sink.now; faults = g.S.Sink.faults a.sink.now; gathered = a.piece.now }

whole : (g : given.Over) (c : goal.After-solve g) → Searched (hinted g) (λ (a : State g). a.sink.ghost_name) (λ (a : State g). a.piece.ghost_name) (out g) c.args.formula.now c.args.budget c.args.log.now c.solve.new.log c.solve.result
whole g c =
    answered (hinted g) (λ (a : State g). a.sink.ghost_name) (λ (a : State g). a.piece.ghost_name) (out g)
    (λ a l b. (b.sink.ghost_name ≡ a.sink.ghost_name) × (b.piece.ghost_name ≡ a.piece.ghost_name) × Puts (out g a) (out g b) (line_by (hinted g) l))
    (λ a l b. (b.sink.ghost_name ≡ a.sink.ghost_name) × (b.piece.ghost_name ≡ a.piece.ghost_name) × Breaks (out g a) (out g b) (line_by (hinted g) l))
    (λ a b l w. record { same_sink = w.0; same_piece = w.1; puts = w.2 }) (λ a b l w. record { same_sink = w.0; same_piece = w.1; breaks = w.2 })
    c.args.formula.now c.args.budget c.args.log.now c.solve.new.log c.solve.result c.solve.ensures.solved c.solve.ensures.memory

pub returns-clause-searches : goal.returns-clause-searches
returns-clause-searches g c = (whole g c).searches

pub returns-clause-stops : goal.returns-clause-stops
returns-clause-stops g c = (whole g c).stops

pub returns-clause-same_sink : goal.returns-clause-same_sink
returns-clause-same_sink g c = (whole g c).same_sink

pub returns-clause-same_piece : goal.returns-clause-same_piece
returns-clause-same_piece g c = (whole g c).same_piece
