-- A fault stays.
use Rattle.std.proofs.Common.{◌≡◌, ℕ, ◌&&◌, List, [], ◌∷◌, Some, None, refl, ap, inl, inr}
use Rattle.std.specs.Prelude.{Option}
use Rattle.std.proofs.lemmas.Bool.{cases_Bool}
use Rattle.cert_stream.specs.Machine.{DrupOf, fault_of, turn}
use Rattle.cert_stream.specs.declared.mode.Mode.{Mode}
use Rattle.cert_stream.specs.declared.mode.Mode.TheVariants.{Start, Skip, Head, StatusHead, StatusGap, Spelled, Whole, InList, Closed, Bad, Lost}
use Rattle.cert_stream.specs.declared.mode.ParseFault.{ParseFault}
use Rattle.cert_stream.proofs.Faults.{bad_next}
use Rattle.proof_stream.specs.Text.{fault_or, is_claim, text_fault, text_next}
use Rattle.proof_stream.specs.Binary.{BinaryOf, binary_turn, spot_fault}
use Rattle.proof_stream.specs.File.{FileOf, InText, InBinary, after, fault, next}
use Rattle.proof_stream.specs.declared.spot.Spot.{Spot}
use Rattle.proof_stream.specs.declared.spot.Spot.TheVariants.{Between, Gap, InNumber, Bad as BadSpot}
use Rattle.proof_stream.proofs.Passing.{text}

module _ (f : ParseFault) where
  pub mode_bad : (m : Mode) → fault_of m ≡ Some f → m ≡ Bad f
  mode_bad (Start a) e = absurd (let k = e in cc)
  mode_bad (Skip a) e = absurd (let k = e in cc)
  mode_bad (Head a) e = absurd (let k = e in cc)
  mode_bad StatusHead e = absurd (let k = e in cc)
  mode_bad StatusGap e = absurd (let k = e in cc)
  mode_bad (Spelled a) e = absurd (let k = e in cc)
  mode_bad Whole e = absurd (let k = e in cc)
  mode_bad (InList a b) e = absurd (let k = e in cc)
  mode_bad Closed e = absurd (let k = e in cc)
  mode_bad (Bad g) e = let k : g ≡ f = cc in ap Bad k
  mode_bad Lost e = absurd (let k = e in cc)

  pub spot_bad : (s : Spot) → spot_fault s ≡ Some f → s ≡ BadSpot f
  spot_bad Between e = absurd (let k = e in cc)
  spot_bad (Gap a) e = absurd (let k = e in cc)
  spot_bad (InNumber a b) e = absurd (let k = e in cc)
  spot_bad (BadSpot g) e = let k : g ≡ f = cc in ap BadSpot k

  -- a fault of the stream, with whatever was refused after it
  parser_first : (m : Mode) (o : Option ParseFault) → m ≡ Bad f → fault_or (fault_of m) o ≡ Some f
  parser_first m o e = rw e refl

  text_stays : (w : DrupOf) (s : _) (r : Option ParseFault) (b : ℕ) → text_fault (text w s r) ≡ Some f → text_fault (text_next (text w s r) b) ≡ Some f
  text_stays w s (Some g) b e = e
  text_stays w s None b e =
      let m : w.mode ≡ Bad f = mode_bad w.mode (or_none (fault_of w.mode) e) in
      elim (cases_Bool (s && is_claim b)) [
        | inl t ↦ rw t (parser_first w.mode (Some _) m)
        | inr n ↦ rw n (parser_first (turn w b).to.mode None (bad_next f w b m))
      ]
    where
      or_none : (o : Option ParseFault) → fault_or o None ≡ Some f → o ≡ Some f
      or_none None e = e
      or_none (Some g) e = e

  binary_stays : (w : BinaryOf) (b : ℕ) → spot_fault w.spot ≡ Some f → spot_fault (binary_turn w b).to.spot ≡ Some f
  binary_stays w b e = let k : w.spot ≡ BadSpot f = spot_bad w.spot e in rw k refl

  pub next_stays : (r : FileOf) (b : ℕ) → fault r ≡ Some f → fault (next r b) ≡ Some f
  next_stays (InText t) b e = text_stays t.parser t.starts t.refused b e
  next_stays (InBinary w) b e = binary_stays w b e

  stays : (r : FileOf) (bytes : List ℕ) → fault r ≡ Some f → fault (after r bytes) ≡ Some f
  stays r [] e = e
  stays r (b ∷ bs) e = stays (next r b) bs (next_stays r b e)

pub fault_stays : (r : FileOf) (bytes : List ℕ) (f : ParseFault) → fault r ≡ Some f → fault (after r bytes) ≡ Some f
fault_stays r bytes f e = stays f r bytes e
