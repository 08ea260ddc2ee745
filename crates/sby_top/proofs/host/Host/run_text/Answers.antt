use Rattle.std.proofs.Common.{[], ◌∷◌, inl, inr, refl}
use Rattle.std.specs.Prelude.{option_map}
use Rattle.sby_lines.specs.declared.early.Early.TheVariants.{Memory, Sby}
use Rattle.sby_words.specs.Folders.{task_folder}
use Rattle.sby_top.specs.Turns.{Refused}
use Rattle.sby_top.proofs.host.Host.run_text.Goals as goal

pub returns-in-Ok-Err-clause-ran : goal.returns-in-Ok-Err-clause-ran
returns-in-Ok-Err-clause-ran g c = (
  Refused (task_folder c.args.stem.now (option_map (λ s. s.now) c.args.directory) []) (Sby c.in-Ok-Err.fault) ∷ [],
  inl (c.in-Ok-Err.fault, (rw c.in-Ok-Err.field-0-is at c.in-Ok-Err.ensures.fault), refl),
  c.run_fault.ensures.ran,
)

pub returns-in-Err-clause-ran : goal.returns-in-Err-clause-ran
returns-in-Err-clause-ran g c = (
  Refused (task_folder c.args.stem.now (option_map (λ s. s.now) c.args.directory) []) Memory ∷ [],
  inr (inl refl),
  c.run_fault-in-Err.ensures.ran,
)
