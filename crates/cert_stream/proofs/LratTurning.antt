-- What one byte does, by what it is.
use Rattle.std.proofs.Common.{◌≡◌, ℕ, Bool, true, false, eqb, leb, List, [], length, Result, refl}
use Rattle.cnf_form.specs.Cnf.{LitOf}
use Rattle.cert_stream.specs.Text.{is_blank}
use Rattle.cert_stream.specs.Machine.{with_digit}
use Rattle.cert_stream.specs.Scan.{first_next as lit_first_next, part_next as lit_part_next}
use Rattle.cert_stream.specs.declared.mode.ParseFaultKind.{ParseFaultKind}
use Rattle.cert_stream.specs.declared.mode.Part.{Part}
use Rattle.cert_stream.specs.declared.mode.Part.TheVariants.{Gap, Minus, Zero, Digits}
use Rattle.cert_stream.specs.LratMachine.{LratOf, Turn, begins_id, counted, end_word, fails, hint, id_digit, id_first, id_goes_on, id_part, own_digit, quiet, turn, visible, visible_first, visible_part, most_hints}
use Rattle.cert_stream.proofs.Choosing.{by_part, by_digit, by_first, literal_digit, literal_first}
use Rattle.cert_stream.specs.LratScan.{digit_next, first_next, own_next, part_next}
use Rattle.cert_stream.specs.declared.lrat.mode.Hint.{Hint}
use Rattle.cert_stream.specs.declared.lrat.mode.LitList.{LitList}
use Rattle.cert_stream.specs.declared.lrat.mode.IdList.{IdList}
use Rattle.cert_stream.specs.declared.lrat.mode.IdPart.{IdPart}
use Rattle.cert_stream.specs.declared.lrat.mode.IdPart.TheVariants.{Gap as IdGap, Minus as IdMinus, Zero as IdZero, Digits as IdDigits}
use Rattle.cert_stream.specs.declared.lrat.mode.Mode.{Mode}
use Rattle.cert_stream.specs.declared.lrat.mode.Mode.TheVariants.{InLits, InIds, InId}

-- what is kept of a line: its own id, its literals and its hints so far
pub record Kept : Type 0 where
  pub id : ℕ
  pub lits : List LitOf
  pub hints : List Hint

abbrev pub kept : ℕ → List LitOf → List Hint → Kept
kept id lits hints = record { id = id; lits = lits; hints = hints }

abbrev pub nothing : Kept
nothing = kept 0 [] []

abbrev pub parser : ℕ → ℕ → ℕ → Mode → Kept → LratOf
parser vars taken place mode line = record { vars = vars; taken = taken; place = place; mode = mode; id = line.id; lits = line.lits; hints = line.hints }

-- one byte, by what it is
pub turn_blank : (w : LratOf) (b : ℕ) → eqb b 10 ≡ false → is_blank b ≡ true → turn w b ≡ counted w.taken (end_word w w.mode)
turn_blank w b f t = rw (f, t) refl

pub turn_visible : (w : LratOf) (b : ℕ) → eqb b 10 ≡ false → is_blank b ≡ false → turn w b ≡ counted w.taken (visible w w.mode b)
turn_visible w b f t = rw (f, t) refl

-- how a list of literals goes on after a part of a word
abbrev pub by_lit : LratOf → LitList → Result Part ParseFaultKind → Turn
by_lit w kind next = by_part (λ part. quiet w (InLits kind part)) (fails w) next

pub first_is : (w : LratOf) (kind : LitList) (b : ℕ) → visible_first w kind b ≡ by_lit w kind (lit_first_next w.vars (leb w.vars (length w.lits)) b)
first_is w kind b = literal_first w.vars (λ part. quiet w (InLits kind part)) (fails w) (leb w.vars (length w.lits)) b

pub part_is : (w : LratOf) (kind : LitList) (part : Part) (b : ℕ) → visible_part w kind part b ≡ by_lit w kind (lit_part_next w.vars (leb w.vars (length w.lits)) part b)
part_is w kind Gap b = first_is w kind b
part_is w kind Minus b = literal_digit w.vars (λ part. quiet w (InLits kind part)) (fails w) true 0 b
part_is w kind Zero b = refl
part_is w kind (Digits l) b = literal_digit w.vars (λ part. quiet w (InLits kind part)) (fails w) l.negated l.var b

-- how a list of ids does
abbrev pub by_id : LratOf → IdList → Result IdPart ParseFaultKind → Turn
by_id w kind next = by_part (λ part. quiet w (InIds kind part)) (fails w) next

id_digit_is : (w : LratOf) (kind : IdList) (negated : Bool) (place n b : ℕ) → id_digit w kind negated place n b ≡ by_id w kind (digit_next negated place n b)
id_digit_is w kind negated place n b = by_digit (λ part. quiet w (InIds kind part)) (fails w) (id_goes_on n b) (IdDigits (hint (with_digit n b) negated place))

id_first_is : (w : LratOf) (kind : IdList) (b : ℕ) → id_first w kind b ≡ by_id w kind (first_next kind (leb most_hints (length w.hints)) w.taken b)
id_first_is w kind b =
    by_first (λ part. quiet w (InIds kind part)) (fails w) (eqb b 48) (begins_id kind b) (leb most_hints (length w.hints)) (eqb b 45) IdZero (IdMinus w.taken)
    (id_digit w kind false w.taken 0 b) (digit_next false w.taken 0 b) (id_digit_is w kind false w.taken 0 b)

pub id_part_is : (w : LratOf) (kind : IdList) (part : IdPart) (b : ℕ) → id_part w kind part b ≡ by_id w kind (part_next kind (leb most_hints (length w.hints)) w.taken part b)
id_part_is w kind IdGap b = id_first_is w kind b
id_part_is w kind (IdMinus place) b = id_digit_is w kind true place 0 b
id_part_is w kind IdZero b = refl
id_part_is w kind (IdDigits h) b = id_digit_is w kind h.negated h.place h.id b

-- and a line's own id
abbrev pub by_own : LratOf → Result ℕ ParseFaultKind → Turn
by_own w next = by_part (λ n. quiet w (InId n)) (fails w) next

pub own_is : (w : LratOf) (n b : ℕ) → own_digit w n b ≡ by_own w (own_next n b)
own_is w n b = by_digit (λ i. quiet w (InId i)) (fails w) (id_goes_on n b) (with_digit n b)
