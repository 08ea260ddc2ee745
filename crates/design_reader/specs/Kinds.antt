-- The types of cells by their names.
use Rattle.std.specs.Prelude.{ℕ, Bool, cond, ◌&&◌, ◌||◌, ◌-◌, nat_le, List, [], ◌∷◌, length, take, drop, codes, bytes_eq, unwrap_or}
use Rattle.std.specs.Map.{lookup}
use Rattle.cell_table.specs.declared.kind.Kind.{Kind}
use Rattle.cell_table.specs.declared.kind.Kind.TheVariants.{Unary, Binary, Reduce, Logic, Compare, ShiftLeft, ShiftRight, ShiftSign, ShiftAny, Divide, Mux, Pmux, Bmux, Slice, Concat, Ff, Dff, Dffe, Sdff, Sdffe, Sdffce, Adff, Adffe, Statement, Any, InitState, LeftOut, Unknown}
use Rattle.cell_table.specs.declared.kind.Unary.TheVariants as unary
use Rattle.cell_table.specs.declared.kind.Binary.TheVariants as binary
use Rattle.cell_table.specs.declared.kind.Reduce.TheVariants as reduce
use Rattle.cell_table.specs.declared.kind.Logic.TheVariants as logic
use Rattle.cell_table.specs.declared.kind.Compare.TheVariants as compare
use Rattle.cell_table.specs.declared.kind.Divide.TheVariants as divide
use Rattle.cell_table.specs.declared.kind.Statement.TheVariants as statement
use Rattle.cell_table.specs.declared.kind.Any.TheVariants as any
use Rattle.cell_table.specs.declared.kind.LeftOut.TheVariants as leftout

-- the types that the table of cells names, and those that are left out by name
abbrev pub named_kinds : List (List ℕ × Kind)
named_kinds =
    (codes "$not", Unary unary.Not)
    ∷ (codes "$pos", Unary unary.Pos)
    ∷ (codes "$neg", Unary unary.Neg)
    ∷ (codes "$and", Binary binary.And)
    ∷ (codes "$or", Binary binary.Or)
    ∷ (codes "$xor", Binary binary.Xor)
    ∷ (codes "$xnor", Binary binary.Xnor)
    ∷ (codes "$add", Binary binary.Add)
    ∷ (codes "$sub", Binary binary.Sub)
    ∷ (codes "$mul", Binary binary.Mul)
    ∷ (codes "$reduce_and", Reduce reduce.And)
    ∷ (codes "$reduce_or", Reduce reduce.Or)
    ∷ (codes "$reduce_xor", Reduce reduce.Xor)
    ∷ (codes "$reduce_xnor", Reduce reduce.Xnor)
    ∷ (codes "$reduce_bool", Reduce reduce.Bool)
    ∷ (codes "$logic_not", Reduce reduce.Not)
    ∷ (codes "$logic_and", Logic logic.And)
    ∷ (codes "$logic_or", Logic logic.Or)
    ∷ (codes "$eq", Compare compare.Eq)
    ∷ (codes "$ne", Compare compare.Ne)
    ∷ (codes "$eqx", Compare compare.Eqx)
    ∷ (codes "$nex", Compare compare.Nex)
    ∷ (codes "$lt", Compare compare.Lt)
    ∷ (codes "$le", Compare compare.Le)
    ∷ (codes "$gt", Compare compare.Gt)
    ∷ (codes "$ge", Compare compare.Ge)
    ∷ (codes "$shl", ShiftLeft)
    ∷ (codes "$sshl", ShiftLeft)
    ∷ (codes "$shr", ShiftRight)
    ∷ (codes "$sshr", ShiftSign)
    ∷ (codes "$shift", ShiftAny)
    ∷ (codes "$shiftx", ShiftAny)
    ∷ (codes "$div", Divide divide.Div)
    ∷ (codes "$mod", Divide divide.Mod)
    ∷ (codes "$mux", Mux)
    ∷ (codes "$pmux", Pmux)
    ∷ (codes "$bmux", Bmux)
    ∷ (codes "$slice", Slice)
    ∷ (codes "$concat", Concat)
    ∷ (codes "$ff", Ff)
    ∷ (codes "$dff", Dff)
    ∷ (codes "$dffe", Dffe)
    ∷ (codes "$sdff", Sdff)
    ∷ (codes "$sdffe", Sdffe)
    ∷ (codes "$sdffce", Sdffce)
    ∷ (codes "$assert", Statement statement.Assert)
    ∷ (codes "$assume", Statement statement.Assume)
    ∷ (codes "$cover", Statement statement.Cover)
    ∷ (codes "$anyconst", Any any.Const)
    ∷ (codes "$anyseq", Any any.Seq)
    ∷ (codes "$initstate", InitState)
    ∷ (codes "$dlatch", LeftOut leftout.Dlatch)
    ∷ (codes "$adlatch", LeftOut leftout.Adlatch)
    ∷ (codes "$dlatchsr", LeftOut leftout.Dlatchsr)
    ∷ (codes "$sr", LeftOut leftout.Sr)
    ∷ (codes "$lut", LeftOut leftout.Lut)
    ∷ (codes "$alu", LeftOut leftout.Alu)
    ∷ (codes "$macc", LeftOut leftout.Macc)
    ∷ (codes "$fsm", LeftOut leftout.Fsm)
    ∷ (codes "$tribuf", LeftOut leftout.Tribuf)
    ∷ (codes "$demux", LeftOut leftout.Demux)
    ∷ (codes "$bwmux", LeftOut leftout.Bwmux)
    ∷ (codes "$bweqx", LeftOut leftout.Bweqx)
    ∷ (codes "$divfloor", LeftOut leftout.Divfloor)
    ∷ (codes "$modfloor", LeftOut leftout.Modfloor)
    ∷ (codes "$live", LeftOut leftout.Live)
    ∷ (codes "$fair", LeftOut leftout.Fair)
    ∷ (codes "$allconst", LeftOut leftout.Allconst)
    ∷ (codes "$allseq", LeftOut leftout.Allseq)
    ∷ (codes "$check", LeftOut leftout.Check)
    ∷ (codes "$adff", Adff)
    ∷ (codes "$adffe", Adffe)
    ∷ []

abbrev pub starts : List ℕ → List ℕ → Bool
starts front name = bytes_eq (take (length front) name) front

-- left out by its form: `$mem..`, or a gate `$_.._`
abbrev pub kind_by_form : List ℕ → Kind
kind_by_form name =
    cond (starts (codes "$mem") name) (LeftOut leftout.Memory)
    (cond (starts (codes "$_") name && (nat_le 3 (length name) && bytes_eq (drop (length name - 1) name) (codes "_"))) (LeftOut leftout.Gate) Unknown)

-- the types whose cells are read and ignored
abbrev pub is_ignored : List ℕ → Bool
is_ignored name = bytes_eq name (codes "$scopeinfo") || bytes_eq name (codes "$print")

-- the kind of a type
abbrev pub kind_of : List ℕ → Kind
kind_of name = unwrap_or (lookup (λ n. bytes_eq n name) named_kinds) (kind_by_form name)
