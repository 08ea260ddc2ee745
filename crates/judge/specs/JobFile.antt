-- The text of a job's file.
use Rattle.std.specs.Prelude.{ℕ, List}
use Rattle.cnf_form.specs.Dimacs.{dimacs_text}
use Rattle.net_unroll.specs.Encoding.{formula_of}
use Rattle.pair_form.specs.Text.{pair_text}
use Rattle.judge.specs.declared.job_file.Content.{Content}
use Rattle.judge.specs.declared.job_file.Content.TheVariants as content
use Rattle.judge.specs.declared.job_file.TextOf.{TextOf}
use Rattle.judge.specs.declared.job_file.TextOf.TheVariants as text

-- a formula in DIMACS, or a pair
abbrev pub text_of : Content → List ℕ
text_of (content.Formula e) = dimacs_text (formula_of e)
text_of (content.Pair p) = pair_text p

-- what is still to come of it
abbrev pub rest_of : TextOf → List ℕ
rest_of (text.Formula t) = t
rest_of (text.Pair t) = t
