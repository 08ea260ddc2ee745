-- Why a line of a stream is at fault.
use Rattle.std.specs.Prelude.{◌≡◌, ◌⊎◌, ℕ, ◌+◌, ◌≤◌, Bool, true, false, not, ◌&&◌, ◌||◌, eqb, leb, List, [], ◌∷◌, ◌++◌, length, slice_index, codes}
use Rattle.cnf_form.specs.Cnf.{LitOf}
use Rattle.cert_stream.specs.Text.{Word, NoFeed, is_digit, lines_of, words_from}
use Rattle.cert_stream.specs.Words.{IsMisfit}
use Rattle.cert_stream.specs.Stream.{lines_say, sayings}
use Rattle.cert_stream.specs.Places.{AreLines, Write}
use Rattle.cert_stream.specs.declared.mode.ListKind.{ListKind}
use Rattle.cert_stream.specs.declared.mode.ListKind.TheVariants.{Clause, Deletion, Values}
use Rattle.cert_stream.specs.declared.mode.ParseFault.{ParseFault}
use Rattle.cert_stream.specs.declared.mode.ParseFaultKind.{ParseFaultKind}
use Rattle.cert_stream.specs.declared.mode.ParseFaultKind.TheVariants.{BadLine, BadLiteral}

abbrev pub IsAt : ParseFault → ParseFaultKind → ℕ → Type 0
IsAt f kind byte = (f.kind ≡ kind) × (f.byte ≡ byte)

-- a line may begin with the byte; amid values only a comment's and that of values may
abbrev pub starts_line : Bool → ℕ → Bool
starts_line amid b = eqb b 99 || (eqb b 118 || (not amid && (eqb b 115 || (eqb b 100 || (eqb b 45 || is_digit b)))))

-- and has to be a word alone
abbrev pub is_alone : Bool → ℕ → Bool
is_alone amid b = eqb b 118 || (not amid && (eqb b 115 || eqb b 100))

-- a line's words, and among them those of its list
abbrev pub IsListOf : ListKind → List Word → List Word → Type 0
IsListOf Clause words ws = (words ≡ ws) × (first : Word) × (others : List Word) × (words ≡ first ∷ others) × ((eqb (slice_index first.text 0) 45 || is_digit (slice_index first.text 0)) ≡ true)
IsListOf Deletion words ws = (first : Word) × (words ≡ first ∷ ws) × (first.text ≡ codes "d")
IsListOf Values words ws = (first : Word) × (words ≡ first ∷ ws) × (first.text ≡ codes "v")

-- The fault of a line with these words, whose line feed, if it has one, is byte number `feed`. BadLine: at the first byte of a line that
-- is of no kind; at the second byte of s, d or v; at a word after a list's 0; at the line feed of a clause or deletion without its 0.
-- BadLiteral: where no word of a list begins any more, or after a minus alone; a literal too many begins there where the line is full.
pub data Reason (vars : ℕ) (amid fed : Bool) (feed : ℕ) (words : List Word) (f : ParseFault) : Type 0 where
  OtherLine : (first : Word) (others : List Word) → words ≡ first ∷ others → starts_line amid (slice_index first.text 0) ≡ false → IsAt f BadLine first.place → Reason vars amid fed feed words f
  NotAlone : (first : Word) (others : List Word) → words ≡ first ∷ others → is_alone amid (slice_index first.text 0) ≡ true → 2 ≤ length first.text → IsAt f BadLine (first.place + 1) → Reason vars amid fed feed words f
  AfterZero : (kind : ListKind) (ws : List Word) (lits : List LitOf) (zero w : Word) (more : List Word) → IsListOf kind words (ws ++ zero ∷ w ∷ more) → Write vars ws lits → zero.text ≡ codes "0"
      → IsAt f BadLine w.place → Reason vars amid fed feed words f
  NoZero : (kind : ListKind) (ws : List Word) (lits : List LitOf) → fed ≡ true → (kind ≡ Clause) ⊎ (kind ≡ Deletion) → IsListOf kind words ws → Write vars ws lits
      → IsAt f BadLine feed → Reason vars amid fed feed words f
  BadWord : (kind : ListKind) (ws : List Word) (lits : List LitOf) (w : Word) (more : List Word) (k : ParseFaultKind) (n : ℕ) → IsListOf kind words (ws ++ w ∷ more) → Write vars ws lits
      → IsMisfit vars (leb vars (length lits)) w.text k n → IsAt f k (w.place + n) → Reason vars amid fed feed words f
  MinusAlone : (kind : ListKind) (ws : List Word) (lits : List LitOf) (w : Word) (more : List Word) → IsListOf kind words (ws ++ w ∷ more) → Write vars ws lits
      → w.text ≡ codes "-" → w.done ≡ true → IsAt f BadLiteral (w.place + length w.text) → Reason vars amid fed feed words f

-- after whole lines without a fault, which leave the stream amid values or not, a line has a reason to be at fault
pub record HasReason (vars : ℕ) (ended : Bool) (bytes : List ℕ) (f : ParseFault) : Type 0 where
  pub front : List ℕ
  pub line : List ℕ
  pub rest : List ℕ
  pub amid : Bool
  pub fed : Bool
  pub whole : bytes ≡ front ++ (line ++ rest)
  pub lines : AreLines front
  pub no_feed : NoFeed line
  pub tail : ((fed ≡ true) × (more : List ℕ) × (rest ≡ 10 ∷ more)) ⊎ ((fed ≡ false) × (rest ≡ []))
  pub apart : sayings vars ended bytes ≡ sayings vars false front ++ lines_say vars ended amid (length front) (lines_of (line ++ rest))
  pub reason : Reason vars amid fed (length front + length line) (words_from fed (length front) [] line) f
