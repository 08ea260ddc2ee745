-- What a line says as the reader has it.
use Rattle.std.specs.Prelude.{Option, Some, None}
use Rattle.btor_text.specs.declared.form.Said.{Said}
use Rattle.btor_text.specs.Reading.{SaidOf, bits_back, body_digits}

-- the digits' bits are a constant's
abbrev pub saying : Said → SaidOf
saying x = record { nid = x.nid; body = x.body; bits = body_digits x.body (bits_back x.digits.now) }

abbrev pub seen : Option Said → Option SaidOf
seen None = None
seen (Some x) = Some (saying x)
