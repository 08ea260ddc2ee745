use Rattle.std.proofs.Common.{inl}
use Rattle.std.specs.Prelude.{Some, string_bytes}
use Rattle.sby_words.specs.Requests.{AskNames}
use Rattle.sby_top.proofs.host.Host.do_asked.Goals as goal

pub returns-in-Ok-Some-Names-clause-did : goal.returns-in-Ok-Some-Names-clause-did
returns-in-Ok-Some-Names-clause-did g c = inl (Some (AskNames (string_bytes c.in-Ok-Some-Names.file)), (rw (c.in-Ok-Some-Names.field-0-is, c.in-Ok-Some-Names.field-0-0-is) at c.in-Ok-Some-Names.ensures), rw (← c.as_str.ensures.value) c.run_names.ensures.told)
