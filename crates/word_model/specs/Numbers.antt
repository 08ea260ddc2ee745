-- The state bits of a design by numbers.
use Rattle.std.specs.Prelude.{ℕ, Bool, true, false, cond, List, [], ◌++◌, map}
use Rattle.std.specs.List.{enumerate_from, flat_map}
use Rattle.design_core.specs.Shape.{CellOf, DesignOf}
use Rattle.design_core.specs.Table.{role_of}
use Rattle.design_core.specs.declared.table.Role.{Role}
use Rattle.design_core.specs.declared.table.Role.TheVariants.{Combinational, Register as RegisterRole, AsyncResetRegister, Constant as ConstantRole, Initial as InitialRole, Source, Statement, Unsupported}
use Rattle.design_meaning.specs.States.{StateBit, state_of}
use Rattle.word_model.specs.Layout.{state_place}
use Rattle.word_model.specs.declared.numbers.Group.{Group}
use Rattle.word_model.specs.declared.numbers.Group.TheVariants.{Registers, Constants, Initials}

-- cells of which the state bits are numbered one after the other: registers, with and without a stored row; `$anyconst`; `$initstate`
abbrev pub has : Group → Role → Bool
has Registers Combinational = false
has Registers RegisterRole = true
has Registers AsyncResetRegister = true
has Registers ConstantRole = false
has Registers InitialRole = false
has Registers Source = false
has Registers Statement = false
has Registers Unsupported = false
has Constants Combinational = false
has Constants RegisterRole = false
has Constants AsyncResetRegister = false
has Constants ConstantRole = true
has Constants InitialRole = false
has Constants Source = false
has Constants Statement = false
has Constants Unsupported = false
has Initials Combinational = false
has Initials RegisterRole = false
has Initials AsyncResetRegister = false
has Initials ConstantRole = false
has Initials InitialRole = true
has Initials Source = false
has Initials Statement = false
has Initials Unsupported = false

-- the state bits of a cell, if it is of the group
abbrev pub state_in_group : Group → ℕ × CellOf → List StateBit
state_in_group g (i, c) = cond (has g (role_of c.kind)) (state_of (i, c)) []

-- those of all cells of the group, in file order, lowest first
abbrev pub group_bits : DesignOf → Group → List StateBit
group_bits d g = flat_map (state_in_group g) (enumerate_from 0 d.cells)

-- All state bits by their numbers, which count from 1: those of registers, then those of `$anyconst`, then those of `$initstate`.
abbrev pub numbered_bits : DesignOf → List StateBit
numbered_bits d = group_bits d Registers ++ (group_bits d Constants ++ group_bits d Initials)

-- the places in the model of a group's state bits, and of all by their numbers
abbrev pub group_places : DesignOf → Group → List ℕ
group_places d g = map (state_place d) (group_bits d g)

abbrev pub numbered_places : DesignOf → List ℕ
numbered_places d = map (state_place d) (numbered_bits d)
