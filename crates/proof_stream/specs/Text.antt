-- What each byte of a proof file in text does to the little that is kept of the bytes before it.
use Rattle.std.specs.Prelude.{ℕ, Bool, true, cond, ◌&&◌, ◌||◌, eqb, List, [], Option, Some, None}
use Rattle.cert_stream.specs.Machine.{DrupOf, fault_of, turn}
use Rattle.cert_stream.specs.Telling.{Saying, fresh, told_by}
use Rattle.cert_stream.specs.Text.{is_blank}
use Rattle.cert_stream.specs.declared.mode.ParseFault.{ParseFault}
use Rattle.cert_stream.specs.declared.mode.ParseFaultKind.TheVariants.{BadLine}

-- what is kept: what a stream keeps, whether the line has no visible byte so far, and the fault at a line of a kind that streams alone have
pub record TextOf : Type 0 where
  pub parser : DrupOf
  pub starts : Bool
  pub refused : Option ParseFault

-- s and v, which begin such a line
abbrev pub is_claim : ℕ → Bool
is_claim b = eqb b 115 || eqb b 118

-- whether the line has no visible byte after this one
abbrev pub next_starts : Bool → ℕ → Bool
next_starts starts b = eqb b 10 || (starts && is_blank b)

abbrev pub text_fresh : ℕ → TextOf
text_fresh vars = record { parser = fresh vars; starts = true; refused = None }

-- the line is refused at its first visible byte
abbrev pub text_refused : TextOf → TextOf
text_refused t = record t { refused = Some (record { kind = BadLine; byte = t.parser.taken }) }

-- another byte is read as a stream's
abbrev pub text_read : TextOf → ℕ → TextOf
text_read t b = record { parser = (turn t.parser b).to; starts = next_starts t.starts b; refused = None }

abbrev pub text_next_by : Option ParseFault → TextOf → ℕ → TextOf
text_next_by None t b = cond (t.starts && is_claim b) (text_refused t) (text_read t b)
text_next_by (Some f) t b = t

-- what a byte makes of it, and what it says
abbrev pub text_next : TextOf → ℕ → TextOf
text_next t b = text_next_by t.refused t b

abbrev pub text_says_by : Option ParseFault → TextOf → ℕ → List Saying
text_says_by None t b = cond (t.starts && is_claim b) [] (told_by (turn t.parser b).to (turn t.parser b).event)
text_says_by (Some f) t b = []

abbrev pub text_says : TextOf → ℕ → List Saying
text_says t b = text_says_by t.refused t b

abbrev pub fault_or : Option ParseFault → Option ParseFault → Option ParseFault
fault_or None other = other
fault_or (Some f) other = Some f

-- where no file goes on
abbrev pub text_fault : TextOf → Option ParseFault
text_fault t = fault_or (fault_of t.parser.mode) t.refused
