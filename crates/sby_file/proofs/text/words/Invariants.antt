use Rattle.std.proofs.Common.{◌≡◌, ◌++◌, length, map, string_bytes}
use Rattle.sby_file.specs.Text.{words_of}
use Rattle.sby_file.proofs.Runs.{IsCut}
use denote.Text.{Utf8}
use denote.Shadow.{shadow}
use Rattle.sby_file.proofs.text.words.Given as goal

abbrev pub invariant-loop-rest : goal.invariant-loop-rest
invariant-loop-rest l = shadow (Utf8 l.rest) × (map string_bytes l.words.items ++ words_of l.rest ≡ words_of l.text) × IsCut l.rest

abbrev pub decreases-loop-rest : goal.decreases-loop-rest
decreases-loop-rest l = length l.rest
