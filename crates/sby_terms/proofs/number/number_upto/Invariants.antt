use Rattle.std.proofs.Common.{◌≡◌, ◌≤◌, take, true}
use Rattle.std.specs.List.{list_all}
use Rattle.std.specs.Str.Parse.{digits_value}
use Rattle.sby_terms.specs.Number.{is_digit}
use Rattle.sby_terms.proofs.number.number_upto.Given as goal

abbrev pub invariant-loop-b : goal.invariant-loop-b
invariant-loop-b l = record {
  value : l.value ≡ digits_value 10 (take l.b-index l.digits);
  digits : list_all is_digit (take l.b-index l.digits) ≡ true;
  limit : l.value ≤ l.most;
}
