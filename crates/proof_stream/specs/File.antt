-- What the bytes of a proof file say, and what is kept of them.
use Rattle.std.specs.Prelude.{◌≡◌, ℕ, Bool, cond, List, [], ◌∷◌, ◌++◌, Option}
use Rattle.cert_stream.specs.Telling.{Saying, fault_said}
use Rattle.cert_stream.specs.declared.mode.ParseFault.{ParseFault}
use Rattle.proof_stream.specs.Text.{TextOf, text_fault, text_fresh, text_next, text_says}
use Rattle.proof_stream.specs.Binary.{BinaryOf, binary_fresh, binary_told, binary_turn, spot_end, spot_fault}
use Rattle.proof_stream.specs.declared.spot.Form.{Form}
use Rattle.proof_stream.specs.declared.spot.Form.TheVariants.{Text as TextForm, Binary as BinaryForm}

-- a file in text, or a binary one
pub data FileOf : Type 0 where
  InText : TextOf → FileOf
  InBinary : BinaryOf → FileOf

-- before the first byte
abbrev pub fresh : Form → ℕ → FileOf
fresh TextForm vars = InText (text_fresh vars)
fresh BinaryForm vars = InBinary (binary_fresh vars)

-- what a byte makes of it, and what it says
abbrev pub next : FileOf → ℕ → FileOf
next (InText t) b = InText (text_next t b)
next (InBinary w) b = InBinary (binary_turn w b).to

abbrev pub says : FileOf → ℕ → List Saying
says (InText t) b = text_says t b
says (InBinary w) b = binary_told (binary_turn w b).to (binary_turn w b).event

-- what is kept after bytes
abbrev pub after : FileOf → List ℕ → FileOf
after r [] = r
after r (b ∷ bs) = after (next r b) bs

-- what they say
abbrev pub said : FileOf → List ℕ → List Saying
said r [] = []
said r (b ∷ bs) = says r b ++ said (next r b) bs

abbrev pub vars_of : FileOf → ℕ
vars_of (InText t) = t.parser.vars
vars_of (InBinary w) = w.vars

-- how many bytes were taken, where there is no fault
abbrev pub taken_of : FileOf → ℕ
taken_of (InText t) = t.parser.taken
taken_of (InBinary w) = w.taken

-- where no file goes on
abbrev pub fault : FileOf → Option ParseFault
fault (InText t) = text_fault t
fault (InBinary w) = spot_fault w.spot

-- What the file's end says, and the fault there. In text the end ends the last line as a line feed does; an unfinished line is a fault after
-- the last byte.
abbrev pub end_says : FileOf → List Saying
end_says (InText t) = said (InText t) (10 ∷ [])
end_says (InBinary w) = []

abbrev pub end_fault : FileOf → Option ParseFault
end_fault (InText t) = fault (after (InText t) (10 ∷ []))
end_fault (InBinary w) = spot_end w.taken w.spot

-- what the bytes say, and the fault if there is one: where the file ends with them, or where more may follow
abbrev pub spoken : Bool → FileOf → List ℕ → List Saying
spoken ended r bytes =
    said r bytes ++ cond ended (end_says (after r bytes) ++ fault_said (end_fault (after r bytes))) (fault_said (fault (after r bytes)))

-- the bytes so far: nothing else is kept of them
abbrev pub StandsFor : Form → ℕ → FileOf → List ℕ → Type 0
StandsFor form vars r bytes = r ≡ after (fresh form vars) bytes
