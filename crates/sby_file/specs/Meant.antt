-- What a file declares, as the code keeps it.
use Rattle.sby_file.specs.Names.{has}
use Rattle.sby_file.specs.Faults as faults
use Rattle.sby_file.specs.declared.declaration.Declared.{Declared}

abbrev pub meant : Declared → faults.Declared
meant d = record { has_tasks = d.has_tasks; is_known = has d.names }
