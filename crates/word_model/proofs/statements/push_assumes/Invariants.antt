use Rattle.std.proofs.Common.{◌≡◌, ◌++◌, map, take}
use Rattle.std.specs.List.{filter}
use Rattle.design_core.specs.Shape.{CellOf}
use Rattle.design_meaning.specs.Meaning.{is_assume}
use Rattle.word_model.specs.Built.{statement_of}
use Rattle.word_model.proofs.statements.push_assumes.Given as goal

abbrev pub invariant-loop-place : goal.invariant-loop-place
invariant-loop-place l = l.draft ≡ record l.fn.draft { assumes = l.fn.draft.assumes ++ map (statement_of l.design) (filter (λ (c : CellOf). is_assume c.kind) (take l.place l.design.cells)) }
