-- The literals of a stream have variables from 1 to `vars`.
use Rattle.std.proofs.Common.{◌≡◌, ℕ, ◌+◌, Bool, true, false, cond, ◌&&◌, ◌||◌, eqb, leb, List, [], ◌∷◌, ◌++◌, length, Some, arith}
use Rattle.std.specs.Prelude.{slice_index}
use Rattle.std.proofs.lemmas.List.Elements.{All-push}
use Rattle.cnf_form.specs.Cnf.{LitOf, LitWithin, ClauseWithin}
use Rattle.cert_stream.specs.Text.{Word, is_digit, lines_of, literal_of, words_from}
use Rattle.cert_stream.specs.Scan.{Scanned, Reads, Misfit, scan}
use Rattle.cert_stream.specs.Words.{IsRead}
use Rattle.cert_stream.specs.Telling.{Saying, IsUnknown}
use Rattle.cert_stream.specs.Stream.{bad, ended_says, heard_says, after_says, list_says, is_unknown, status_says, alone, plain_says, line_says, lines_say, sayings, AreWithin}
use Rattle.cert_stream.specs.declared.mode.ListKind.{ListKind}
use Rattle.cert_stream.specs.declared.mode.ListKind.TheVariants.{Clause, Deletion, Values}
use Rattle.cert_stream.specs.declared.mode.ParseFaultKind.TheVariants.{BadLine}
use Rattle.cert_stream.specs.declared.mode.Part.{Part}
use Rattle.cert_stream.specs.declared.mode.Part.TheVariants.{Gap, Minus, Zero, Digits}
use Rattle.cert_stream.proofs.Digits.{number_above, has_digits}
use Rattle.cert_stream.proofs.Reading.{word_read}
use Rattle.cert_stream.proofs.Tails.{word_says}

pub literal_within : (vars : ℕ) (text : List ℕ) (l : LitOf) → literal_of vars text ≡ Some l → LitWithin vars l
literal_within vars text l h =
    let d = has_digits vars text l h in
    let a = number_above d.digits d.number in
    (omega (arith, a, d.var), omega (arith, d.within, d.var))

module _ (vars : ℕ) where
  no_literal : ClauseWithin vars []
  no_literal k d h = absurd (omega arith)

  either : (b : Bool) (xs ys : List Saying) → AreWithin vars xs → AreWithin vars ys → AreWithin vars (cond b xs ys)
  either true xs ys h k = h
  either false xs ys h k = k

  after_within : (more : List Saying) → AreWithin vars more → (ws : List Word) → AreWithin vars (after_says more ws)
  after_within more m [] = m
  after_within more m (w ∷ ws) = (no_literal, tt)

  module _ (kind : ListKind) (counted : Bool) (unended more : List Saying) (place : ℕ) (u : AreWithin vars unended) (m : AreWithin vars more) where
    ended_within : (lits : List LitOf) (ws : List Word) → ClauseWithin vars lits → (kind' : ListKind) → AreWithin vars (ended_says kind' place lits ∷ after_says more ws)
    ended_within lits ws h Clause = (h, after_within more m ws)
    ended_within lits ws h Deletion = (h, after_within more m ws)
    ended_within lits ws h Values = (no_literal, after_within more m ws)

    heard_within : (l : LitOf) (ss : List Saying) → LitWithin vars l → AreWithin vars ss → (kind' : ListKind) → AreWithin vars (heard_says kind' l ++ ss)
    heard_within l ss h k Clause = k
    heard_within l ss h k Deletion = k
    heard_within l ss h k Values = (All-push (LitWithin vars) [] l no_literal h, k)

    word_within : (lits : List LitOf) (w : Word) (ws : List Word) (s : Scanned Part) → IsRead vars (leb vars (length lits)) w.text s → ClauseWithin vars lits
        → ((ls : List LitOf) → ClauseWithin vars ls → AreWithin vars (list_says vars kind counted unended more place ls ws))
        → AreWithin vars (word_says vars kind counted unended more place lits s w ws)
    word_within lits w ws (Misfit k n) r h again = (no_literal, tt)
    word_within lits w ws (Reads Gap) r h again = again lits h
    word_within lits w ws (Reads Minus) r h again = either w.done _ [] (no_literal, tt) tt
    word_within lits w ws (Reads Zero) r h again = either (w.done || counted) _ [] (ended_within lits ws h kind) tt
    word_within lits w ws (Reads (Digits l)) (n, r) h again =
        let i = literal_within vars w.text l r in
        either w.done _ [] (heard_within l (list_says vars kind counted unended more place (lits ++ l ∷ []) ws) i (again (lits ++ l ∷ []) (All-push (LitWithin vars) lits l h i)) kind) tt

    list_within : (ws : List Word) (lits : List LitOf) → ClauseWithin vars lits → AreWithin vars (list_says vars kind counted unended more place lits ws)
    list_within [] lits h = u
    list_within (w ∷ ws) lits h = word_within lits w ws (scan vars (leb vars (length lits)) Gap w.text) (word_read vars (leb vars (length lits)) w.text) h (λ ls k. list_within ws ls k)

  module _ (counted : Bool) (broken going more : List Saying) (x : AreWithin vars broken) (g : AreWithin vars going) (m : AreWithin vars more) where
    alone_within : (w : Word) (ss : List Saying) → AreWithin vars ss → AreWithin vars (alone w ss)
    alone_within w ss h = either (eqb (length w.text) 1) ss (bad BadLine (w.place + 1)) h (no_literal, tt)

    plain_within : (b : ℕ) (w : Word) (ws : List Word) → AreWithin vars (plain_says vars counted broken more b w ws)
    plain_within b w ws =
        either (eqb b 115) _ _ (alone_within w (status_says counted more ws) (either (is_unknown ws && counted) (IsUnknown ∷ more) more (no_literal, m) m))
        (either (eqb b 100) _ _ (alone_within w (list_says vars Deletion counted broken more w.place [] ws) (list_within Deletion counted broken more w.place x m ws [] no_literal))
        (either (eqb b 45 || is_digit b) _ _ (list_within Clause counted broken more w.place x m (w ∷ ws) [] no_literal) (no_literal, tt)))

    line_within : (amid : Bool) (ws : List Word) → AreWithin vars (line_says vars counted amid broken going more ws)
    line_within amid [] = either amid going more g m
    line_within amid (w ∷ ws) =
        either (eqb (slice_index w.text 0) 99) _ _ (either amid going more g m)
        (either (eqb (slice_index w.text 0) 118) _ _ (alone_within w (list_says vars Values counted going more w.place [] ws) (list_within Values counted going more w.place g m ws [] no_literal))
        (either amid _ _ (no_literal, tt) (plain_within (slice_index w.text 0) w ws)))

  lines_within : (ended : Bool) (ts : List (List ℕ)) (amid : Bool) (at : ℕ) → AreWithin vars (lines_say vars ended amid at ts)
  lines_within ended [] amid at = tt
  lines_within ended (t ∷ []) amid at = line_within ended [] [] [] tt tt tt amid (words_from false at [] t)
  lines_within ended (t ∷ u ∷ ts) amid at =
      line_within true (bad BadLine (at + length t)) (lines_say vars ended true (at + length t + 1) (u ∷ ts)) (lines_say vars ended false (at + length t + 1) (u ∷ ts)) (no_literal, tt)
      (lines_within ended (u ∷ ts) true (at + length t + 1)) (lines_within ended (u ∷ ts) false (at + length t + 1)) amid (words_from true at [] t)

  pub all_within : (ended : Bool) (bytes : List ℕ) → AreWithin vars (sayings vars ended bytes)
  all_within ended bytes = lines_within ended (lines_of bytes) false 0
