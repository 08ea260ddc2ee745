use Rattle.std.proofs.Common.{◌≡◌, ◌++◌, map, take}
use Rattle.design_core.specs.Places.{place_of}
use Rattle.word_model.proofs.statements.push_inputs.Given as goal

abbrev pub invariant-loop-index : goal.invariant-loop-index
invariant-loop-index l = l.draft ≡ record l.fn.draft { inputs = l.fn.draft.inputs ++ map (place_of l.design) (take l.index l.list) }
