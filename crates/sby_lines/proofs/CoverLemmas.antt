-- The lines of cover statements, one after the other.
use Rattle.std.proofs.Common.{◌≡◌, ℕ, ◌+◌, List, ◌++◌, subst, drop}
use Rattle.std.specs.Prelude.{Option, Some, Ok, Err, slice_get}
use Rattle.sby_terms.specs.declared.names.Answer.{Answer}
use Rattle.sby_lines.specs.Lines.{HasCoverLines, HasStatementLines}
use Rattle.sby_lines.specs.Telling.{Tells}
use Rattle.sby_lines.specs.Told.{CameTo, Request}
use Rattle.sby_lines.specs.declared.tell.Stop.{Stop}
use Rattle.sby_lines.proofs.PlaceLemmas.{drop_at}
use Rattle.sby_lines.proofs.TellLemmas.{ToldBefore, told_more, told_stopped}

-- those before a place were told
abbrev pub CoverBefore : Request → CameTo → List (Option Answer) → Option (List ℕ) → Option (List ℕ) → ℕ → ℕ → ℕ → List (List ℕ) → Type 0
CoverBefore request c answers b m f g place all = (rest : List (List ℕ)) × HasCoverLines request c place (drop place answers) rest × ToldBefore b m f g rest all

module _ (request : Request) (c : CameTo) (answers : List (Option Answer)) (place : ℕ) (answer : Option Answer) (at : slice_get answers place ≡ Some answer) where
  abbrev Next : List (List ℕ) → Type 0
  Next lines = (first : List (List ℕ)) × (rest : List (List ℕ)) × HasStatementLines request c place answer first × HasCoverLines request c (place + 1) (drop (place + 1) answers) rest × (lines ≡ first ++ rest)

  cover_next : (lines : List (List ℕ)) → HasCoverLines request c place (drop place answers) lines → Next lines
  cover_next lines has = subst (λ xs. HasCoverLines request c place xs lines) (drop_at answers place answer at) has

  pub cover_more : {e : Option ℕ} (b m n : Option (List ℕ)) (f g h : ℕ) (all : List (List ℕ)) → CoverBefore request c answers b m f g place all
      → ((lines : List (List ℕ)) → HasStatementLines request c place answer lines → Tells {T = Unit {0}} m n g h e lines (Ok tt)) → CoverBefore request c answers b n f h (place + 1) all
  cover_more {e} b m n f g h all before tells =
      let k = cover_next before.0 before.1 in (k.1, k.3, told_more {e = e} b m n f g h k.0 k.1 before.0 all k.4 before.2 (tells k.0 k.2))

  pub cover_stopped : {e : Option ℕ} (b m n : Option (List ℕ)) (f g h : ℕ) (all : List (List ℕ)) (s : Stop) → CoverBefore request c answers b m f g place all
      → ((lines : List (List ℕ)) → HasStatementLines request c place answer lines → Tells {T = Unit {0}} m n g h e lines (Err s)) → Tells {T = Unit {0}} b n f h e all (Err s)
  cover_stopped {e} b m n f g h all s before tells =
      let k = cover_next before.0 before.1 in told_stopped {T = Unit {0}} {U = Unit {0}} {e = e} b m n f g h k.0 k.1 before.0 all s k.4 before.2 (tells k.0 k.2)
