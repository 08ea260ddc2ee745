use Rattle.std.proofs.Common.{◌≡◌, ◌++◌, take}
use Rattle.model_cone.proofs.slice.push_statements.Given as goal

abbrev pub invariant-loop-statement : goal.invariant-loop-statement
invariant-loop-statement l = l.draft ≡ record l.fn.draft { asserts = l.fn.draft.asserts ++ take l.statement-index l.model.asserts }

abbrev pub invariant-loop-statement-2 : goal.invariant-loop-statement-2
invariant-loop-statement-2 l = l.draft ≡ record l.fn.draft { asserts = l.fn.draft.asserts ++ l.model.asserts; assumes = l.fn.draft.assumes ++ take l.statement-index l.model.assumes }

abbrev pub invariant-loop-statement-3 : goal.invariant-loop-statement-3
invariant-loop-statement-3 l = l.draft ≡ record l.fn.draft {
  asserts = l.fn.draft.asserts ++ l.model.asserts;
  assumes = l.fn.draft.assumes ++ l.model.assumes;
  covers = l.fn.draft.covers ++ take l.statement-index l.model.covers;
}
