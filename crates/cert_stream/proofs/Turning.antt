-- What one byte does, by what it is.
use Rattle.std.proofs.Common.{◌≡◌, ℕ, true, false, eqb, leb, List, [], ◌∷◌, length, Some, Result, refl}
use Rattle.cnf_form.specs.Cnf.{LitOf}
use Rattle.cert_stream.specs.Text.{is_blank}
use Rattle.cert_stream.specs.Machine.{DrupOf, Turn, turn, counted, ended, heard, end_word, visible, visible_part, visible_first, quiet, fails}
use Rattle.cert_stream.proofs.Choosing.{by_part, literal_digit, literal_first}
use Rattle.cert_stream.specs.Telling.{told_by}
use Rattle.cert_stream.specs.Scan.{first_next, part_next}
use Rattle.cert_stream.specs.Stream.{ended_says, heard_says}
use Rattle.cert_stream.specs.declared.mode.ListKind.{ListKind}
use Rattle.cert_stream.specs.declared.mode.ListKind.TheVariants.{Clause, Deletion, Values}
use Rattle.cert_stream.specs.declared.mode.ParseFaultKind.{ParseFaultKind}
use Rattle.cert_stream.specs.declared.mode.Part.{Part}
use Rattle.cert_stream.specs.declared.mode.Part.TheVariants.{Gap, Minus, Zero, Digits}
use Rattle.cert_stream.specs.declared.mode.Mode.{Mode}
use Rattle.cert_stream.specs.declared.mode.Mode.TheVariants.{InList, Closed}

abbrev pub parser : ℕ → ℕ → ℕ → Mode → List LitOf → DrupOf
parser vars taken place mode lits = record { vars = vars; taken = taken; place = place; mode = mode; lits = lits }

-- one byte, by what it is
pub turn_blank : (w : DrupOf) (b : ℕ) → eqb b 10 ≡ false → is_blank b ≡ true → turn w b ≡ counted w.taken (end_word w w.mode)
turn_blank w b f t = rw (f, t) refl

pub turn_visible : (w : DrupOf) (b : ℕ) → eqb b 10 ≡ false → is_blank b ≡ false → turn w b ≡ counted w.taken (visible w w.mode b)
turn_visible w b f t = rw (f, t) refl

-- how a list goes on after a part of a word
abbrev pub by_next : DrupOf → ListKind → Result Part ParseFaultKind → Turn
by_next w kind next = by_part (λ part. quiet w (InList kind part)) (fails w) next

pub first_is : (w : DrupOf) (kind : ListKind) (b : ℕ) → visible_first w kind b ≡ by_next w kind (first_next w.vars (leb w.vars (length w.lits)) b)
first_is w kind b = literal_first w.vars (λ part. quiet w (InList kind part)) (fails w) (leb w.vars (length w.lits)) b

pub part_is : (w : DrupOf) (kind : ListKind) (part : Part) (b : ℕ) → visible_part w kind part b ≡ by_next w kind (part_next w.vars (leb w.vars (length w.lits)) part b)
part_is w kind Gap b = first_is w kind b
part_is w kind Minus b = literal_digit w.vars (λ part. quiet w (InList kind part)) (fails w) true 0 b
part_is w kind Zero b = refl
part_is w kind (Digits l) b = literal_digit w.vars (λ part. quiet w (InList kind part)) (fails w) l.negated l.var b

-- what is said then
pub told_ended : (kind : ListKind) (vars taken place : ℕ) (lits : List LitOf) → told_by (parser vars taken place Closed lits) (Some (ended kind)) ≡ ended_says kind place lits ∷ []
told_ended Clause vars taken place lits = refl
told_ended Deletion vars taken place lits = refl
told_ended Values vars taken place lits = refl

pub told_heard : (kind : ListKind) (l : LitOf) (w : DrupOf) → told_by w (heard kind l) ≡ heard_says kind l
told_heard Clause l w = refl
told_heard Deletion l w = refl
told_heard Values l w = refl
