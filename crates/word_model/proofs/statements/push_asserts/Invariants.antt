use Rattle.std.proofs.Common.{◌≡◌, ◌++◌, map, take}
use Rattle.std.specs.List.{filter}
use Rattle.design_core.specs.Shape.{CellOf}
use Rattle.design_meaning.specs.Meaning.{is_assert}
use Rattle.word_model.specs.Built.{statement_of}
use Rattle.word_model.proofs.statements.push_asserts.Given as goal

abbrev pub invariant-loop-place : goal.invariant-loop-place
invariant-loop-place l = l.draft ≡ record l.fn.draft { asserts = l.fn.draft.asserts ++ map (statement_of l.design) (filter (λ (c : CellOf). is_assert c.kind) (take l.place l.design.cells)) }
