-- An invariant of a problem's pair shows that no run breaks an assertion.
use Rattle.std.proofs.Common.{◌≡◌, ◌<◌, ◌≤◌, ℕ, List, inl, inr, refl, subst}
use Rattle.cert_judge.specs.Fate as fate
use Rattle.cnf_form.specs.Cnf.{LitOf}
use Rattle.design_meaning.specs.Claims.{NeverBreak}
use Rattle.inv_fate.specs.Fate.{InvFate, InvFateOf, Found, Unknown, Bad}
use Rattle.inv_judge.proofs.Pieces.{over_found}
use Rattle.inv_judge.specs.declared.outcome.InvOutcome.TheVariants as outcome
use Rattle.job_terms.proofs.Nothing.{unsolvable}
use Rattle.job_terms.specs.Jobs.{Solvable as SolvableOf}
use Rattle.model_cone.proofs.Closing.{constants-kept, node-closed}
use Rattle.model_cone.proofs.Slicing.{slice-is}
use Rattle.model_cone.specs.Slice.{sliced}
use Rattle.model_cone.specs.declared.asked.Asked.TheVariants as ask
use Rattle.net_pair.proofs.Seeing.{pair_is}
use Rattle.net_pair.specs.Numbers.{HaveStates}
use Rattle.pair_form.specs.Pair.{IsInvariant}
use Rattle.pair_model.proofs.Ruling.{no_break}
use Rattle.sby_terms.specs.declared.names.Answer.TheVariants.{Sat, Unsat}
use Rattle.sby_terms.specs.declared.names.JobName.{JobName}
use Rattle.sby_terms.specs.declared.names.JobName.TheVariants.{Inv}
use Rattle.task_net.proofs.Solving.{solvable-to}
use Rattle.task_net.specs.Net.{IsTaskNet}
use Rattle.task_net.specs.Net.IsTaskNet.{AsksNone, AsksSome}
use Rattle.word_model.specs.Numbers.{numbered_places}
use Rattle.judge.proofs.Carrying.{solvable-from}
use Rattle.judge.proofs.Encodes.{net_of_job}
use Rattle.judge.specs.Invariant.{fate_in}
use Rattle.judge.specs.Jobs.{Solvable, span_of}
use Rattle.judge.specs.Problem.{AskedOf, IsJob, IsJobFile, IsProblem, pair_in}

module _ (p : AskedOf) (h : IsProblem p) (w : IsJob p Inv) where
  asserts : IsTaskNet p.model ask.Asserts p.net
  asserts = net_of_job p.design p.model h.design h.model h.is_model p.problem.mode (span_of p.problem) p.net h.net w.0 Inv w.1

  -- no run of the model breaks an assertion
  unbroken : (I : List (List LitOf)) → IsInvariant (pair_in p) I → SolvableOf p.model Inv (span_of p.problem) → ⊥
  unbroken I invariant s = by asserts
    where
      by : IsTaskNet p.model ask.Asserts p.net → ⊥
      by (AsksNone none is) = unsolvable p.model Inv (span_of p.problem) none s
      by (AsksSome keep cone is) =
          let iss = slice-is p.model h.is_model keep (constants-kept p.model ask.Asserts keep cone) (node-closed p.model ask.Asserts keep cone) in
          let (n, cs, a, shows) = solvable-to p.model h.is_model keep iss Inv (span_of p.problem) cone s in
          let have = subst (λ (held : List ℕ). HaveStates held (numbered_places p.design) p.bits) is.states h.bits in
          let pair = pair_is (sliced keep p.model) p.net.net iss is.net is.is (numbered_places p.design) p.bits have (h.fits Inv w) in
          no_break (sliced keep p.model) (numbered_places p.design) (pair_in p) I pair invariant n cs a shows.run.window.some shows

  pub never_broken : (I : List (List LitOf)) → IsInvariant (pair_in p) I → NeverBreak p.design
  never_broken I invariant n m vs a some few shows = unbroken I invariant (solvable-from p.design p.model h.model h.design Inv (span_of p.problem) (m, vs, a, shows))

  pub found_unsolved : (stream : List ℕ) (most : ℕ) (x : InvFate) → InvFateOf (pair_in p) stream most x → x ≡ Found → Solvable p.design Inv (span_of p.problem) → ⊥
  found_unsolved stream most x is found solved =
      let (I, invariant) = over_found (pair_in p) stream most outcome.Found (subst (InvFateOf (pair_in p) stream most) found is) refl in
      unbroken I invariant (solvable-from p.design p.model h.model h.design Inv (span_of p.problem) solved)

-- a job that has a file, and is Inv, is one of the problem
pub job_in_file : (p : AskedOf) (job : JobName) (file : List ℕ) → IsJobFile p job file → job ≡ Inv → IsJob p Inv
job_in_file p job file (inl w) is = absurd (w.1.1.0.1 is)
job_in_file p job file (inr w) is = subst (IsJob p) is w.0

-- no stream of an invariant is found to say Sat, and only one that is found says Unsat
pub never_sat : (x : InvFate) → fate_in x ≡ fate.Found Sat → ⊥
never_sat Found is = let z : fate.Found Unsat ≡ fate.Found Sat = is in cc
never_sat Unknown is = let z : fate.Unknown ≡ fate.Found Sat = is in cc
never_sat (Bad kind at) is = let z : fate.Bad kind at ≡ fate.Found Sat = is in cc

pub only_found : (x : InvFate) → fate_in x ≡ fate.Found Unsat → x ≡ Found
only_found Found is = refl
only_found Unknown is = absurd (let z : fate.Unknown ≡ fate.Found Unsat = is in cc)
only_found (Bad kind at) is = absurd (let z : fate.Bad kind at ≡ fate.Found Unsat = is in cc)
