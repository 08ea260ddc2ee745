-- What each step of the lexer leaves of the bytes.
use Rattle.std.specs.Prelude.{ℕ, Bool, true, false, cond, IsFalse, List, [], ◌∷◌, Option, Some, None}
use Rattle.rtlil_lex.specs.Tokens.{is_space, is_break, begins_name, is_quote, is_backslash, ends_at}
use Rattle.rtlil_lex.specs.declared.scan.UpTo.{UpTo}
use Rattle.rtlil_lex.specs.declared.scan.UpTo.TheVariants.{Space, Break}

abbrev pub run_ends : UpTo → ℕ → Bool
run_ends Space = is_space
run_ends Break = is_break

-- from the first byte on that ends the run
abbrev pub after_run_of : (ℕ → Bool) → List ℕ → List ℕ
after_run_of ends [] = []
after_run_of ends (b ∷ bytes) = cond (ends b) (b ∷ bytes) (after_run_of ends bytes)

-- after the closing quote; escaped: the byte before was a backslash that takes this one with it
abbrev pub after_quote_from : Bool → List ℕ → Option (List ℕ)
after_quote_from escaped [] = None
after_quote_from true (b ∷ bytes) = after_quote_from false bytes
after_quote_from false (b ∷ bytes) = cond (is_quote b) (Some bytes) (after_quote_from (is_backslash b) bytes)

abbrev pub after_quote_of : List ℕ → Option (List ℕ)
after_quote_of bytes = after_quote_from false bytes

-- only where a string may end there
abbrev pub ended : Option (List ℕ) → Option (List ℕ)
ended None = None
ended (Some rest) = cond (ends_at is_break rest) (Some rest) None

-- after the token that the bytes begin with
abbrev pub after_token_of : List ℕ → Option (List ℕ)
after_token_of [] = None
after_token_of (b ∷ bytes) = cond (begins_name b) (Some (after_run_of is_space bytes)) (cond (is_quote b) (ended (after_quote_of bytes)) (Some (after_run_of is_break bytes)))

-- neither white space nor a comment comes
abbrev pub Stops : List ℕ → Type 0
Stops [] = Unit {0}
Stops (b ∷ bytes) = IsFalse (is_break b)
