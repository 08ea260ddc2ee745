-- A reading is one of a file.
use Rattle.proof_stream.specs.File.{FileOf, InText, InBinary}
use Rattle.proof_stream.specs.declared.file.Reading.{Reading}
use Rattle.proof_stream.specs.declared.file.Reading.TheVariants.{Text, Binary}

abbrev pub file_of : Reading → FileOf
file_of (Text t) = InText t
file_of (Binary w) = InBinary w
