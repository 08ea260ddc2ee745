use Rattle.std.proofs.Common.{◌≡◌, ◌↔◌}
use Rattle.std.specs.Prelude.{true}
use Rattle.sby_terms.specs.Address.{IsAddress, is_address}
use Rattle.sby_terms.proofs.AddressWords.{told, tells}
use Rattle.sby_terms.proofs.address.addresses_are_told.Goals as goal

pub returns : goal.returns
returns c = λ word. (told word, tells word)
