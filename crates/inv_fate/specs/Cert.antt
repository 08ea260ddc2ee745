-- A certificate of an invariant, whole.
use Rattle.std.specs.Prelude.{List, [], Contains}
use Rattle.cnf_form.specs.Cnf.{LitOf, IsAdmitted, Drup, Line}
use Rattle.pair_form.specs.Pair.{PairOf}
use Rattle.inv_stream.specs.declared.mode.Part.{Part}
use Rattle.inv_stream.specs.declared.mode.Part.TheVariants.{Start, Step, Safe}
use Rattle.inv_fate.specs.Fate.{AreAdmitted, IsOverBits, opened, owed}

-- lines of a proof lead from where the part goes to clauses that admit what it owes
abbrev pub Shows : PairOf → Part → List (List LitOf) → Type 0
Shows p part I = (lines : List Line) × (G : List (List LitOf)) × Drup (opened p part I) lines G × AreAdmitted G (owed p part I)

-- The clauses I, over state bits that have literals, are inductive, by three proofs: that they hold at a start, that they go on, and that under
-- them nothing is broken.
pub record IsCertOf (p : PairOf) (I : List (List LitOf)) : Type 0 where
  pub bits : (c : List LitOf) → Contains I c → IsOverBits p c
  pub start : Shows p Start I
  pub step : Shows p Step I
  pub safe : (lines : List Line) × (G : List (List LitOf)) × Drup (opened p Safe I) lines G × IsAdmitted G []
