-- A proof file says what its lines say.
use Rattle.std.proofs.Common.{◌≡◌, ℕ, Bool, List, sym, ◌∙◌}
use Rattle.cert_stream.specs.Telling.{Saying}
use Rattle.proof_stream.specs.File.{fresh, spoken}
use Rattle.proof_stream.specs.Lines.{FileSays}
use Rattle.proof_stream.specs.declared.spot.Form.{Form}
use Rattle.proof_stream.specs.declared.spot.Form.TheVariants.{Text, Binary}
use Rattle.proof_stream.proofs.Texts.{text_spoken, text_spoken_once}
use Rattle.proof_stream.proofs.Binaries.{binary_spoken}

pub file_spoken : (form : Form) (vars : ℕ) (ended : Bool) (bytes : List ℕ) → FileSays form vars ended bytes (spoken ended (fresh form vars) bytes)
file_spoken Text vars ended bytes = text_spoken vars ended bytes
file_spoken Binary vars ended bytes = binary_spoken vars ended bytes

pub file_once : (form : Form) (vars : ℕ) (ended : Bool) (bytes : List ℕ) (ss : List Saying) → FileSays form vars ended bytes ss → ss ≡ spoken ended (fresh form vars) bytes
file_once Text vars ended bytes ss h = text_spoken_once vars ended bytes ss h
file_once Binary vars ended bytes ss h = h ∙ sym (binary_spoken vars ended bytes)
