use Rattle.std.proofs.Common.{◌∙◌, ◌≡◌, ◌++◌, [], ℕ, Bool, List, ap, length, subst, sym}
use Rattle.std.specs.List.{concat, filter}
use Rattle.btor_emit.specs.Marks.{has_mark}
use Rattle.btor_emit.proofs.Rowing.{inputs_below, marked_rows, rows_below, singles}
use Rattle.btor_emit.proofs.rows.read_rows.Goals as goal
use Rattle.model_core.specs.Shape.{AreBelow}

pub taken_places-requires : goal.taken_places-requires
taken_places-requires c = rows_below c.args.model.now c.size-size.ensures.model c.args.rows.now c.requires

pub push_rows-requires : goal.push_rows-requires
push_rows-requires c =
    let size : length c.deref.result.now ≡ c.args.model.now.size = ap (λ (ms : List Bool). length ms) c.deref.ensures.value ∙ c.in_ok-marks.ensures.size in
    subst (λ (n : ℕ). AreBelow n (concat c.args.rows.now)) (sym size) (rows_below c.args.model.now c.size-size.ensures.model c.args.rows.now c.requires)

pub push_singles-requires-clause-marks : goal.push_singles-requires-clause-marks
push_singles-requires-clause-marks c =
    let size : length c.deref-2.result.now ≡ c.args.model.now.size = ap (λ (ms : List Bool). length ms) c.deref-2.ensures.value ∙ c.in_ok-marks.ensures.size in
    subst (λ (n : ℕ). AreBelow n c.inputs.result.now) (sym size) (subst (AreBelow c.args.model.now.size) (sym c.inputs.ensures) (inputs_below c.args.model.now c.size-size.ensures.model))

pub push_singles-requires-clause-taken : goal.push_singles-requires-clause-taken
push_singles-requires-clause-taken c =
    let size : length c.deref-3.result.now ≡ c.args.model.now.size = ap (λ (ms : List Bool). length ms) c.deref-3.ensures.value ∙ c.in_ok-taken.ensures.size in
    subst (λ (n : ℕ). AreBelow n c.inputs.result.now) (sym size) (subst (AreBelow c.args.model.now.size) (sym c.inputs.ensures) (inputs_below c.args.model.now c.size-size.ensures.model))

pub returns : goal.returns
returns c =
    let m = c.args.model.now in
    let marks = c.in_ok-marks.marks.items in
    let taken = c.in_ok-taken.taken.items in
    let first : c.push_rows.new.read ≡ [] ++ filter (has_mark marks) c.args.rows.now = c.in_ok-push_rows.ensures ∙ ap (λ (ms : List Bool). c.new-read.result ++ filter (has_mark ms) c.args.rows.now) c.deref.ensures.value ∙ ap (λ (rs : List (List ℕ)). rs ++ filter (has_mark marks) c.args.rows.now) c.new-read.ensures in
    let last : c.push_singles.new.read ≡ c.push_rows.new.read ++ singles marks taken m.inputs =
    c.in_ok-push_singles.ensures ∙ ap (λ (ms : List Bool). c.push_rows.new.read ++ singles ms c.deref-3.result.now c.inputs.result.now) c.deref-2.ensures.value ∙ ap (λ (ms : List Bool). c.push_rows.new.read ++ singles marks ms c.inputs.result.now) c.deref-3.ensures.value
    ∙ ap (λ (ps : List ℕ). c.push_rows.new.read ++ singles marks taken ps) c.inputs.ensures in
    marked_rows m c.size-size.ensures.model c.args.rows.now c.requires marks taken c.push_rows.new.read c.push_singles.new.read c.in_ok-marks.ensures.read c.in_ok-taken.ensures.each first last
