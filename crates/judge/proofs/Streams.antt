-- What is true of streams of every kind.
use Rattle.std.proofs.Common.{◌≡◌, ◌<◌, ◌≤◌, ℕ, Bool, List, length, inl, inr, refl, ap, ◌∙◌, subst, sym}
use Rattle.cert_judge.proofs.KindFates.{found_refuted, found_satisfied, one_whole as one_certificate, somewhere_at_end}
use Rattle.cert_judge.specs.Fate.{Fate, Found}
use Rattle.cert_judge.specs.Kinds.{stream_values}
use Rattle.cert_judge.specs.declared.stream.Kind.{Kind}
use Rattle.cert_judge.specs.declared.stream.Kind.TheVariants.{Certificate, Witness, Invariant}
use Rattle.cnf_form.specs.Cnf.{FormulaOf, Satisfies}
use Rattle.cnf_form.specs.Dimacs.{IsDimacs}
use Rattle.design_meaning.specs.Claims.{ReachRun, Shows}
use Rattle.design_meaning.specs.Runs.{CycleOf, valuations}
use Rattle.model_core.specs.Served.{IsModel}
use Rattle.sby_terms.specs.Span.{first_of, last_of}
use Rattle.sby_terms.specs.declared.names.Answer.TheVariants.{Sat, Unsat}
use Rattle.sby_terms.specs.declared.names.JobName.{JobName}
use Rattle.sby_terms.specs.declared.names.JobName.TheVariants.{Base, Step, Inv, Cover}
use Rattle.witness_judge.proofs.One.{one_whole as one_witness}
use Rattle.witness_judge.specs.Choosing.{AskedOf as WitnessAskedOf, IsAsked}
use Rattle.witness_judge.specs.Fate.{IsWitnessFate}
use Rattle.witness_judge.specs.declared.sought.Sought.{Sought}
use Rattle.judge.proofs.Encodes.{encodes}
use Rattle.judge.proofs.Inductive.{found_unsolved, job_in_file, never_sat, only_found}
use Rattle.judge.proofs.Proved.{one_proved, some_proved}
use Rattle.judge.proofs.Truth.{base-shown, base-slice, cover-shown, cover-within, one_stream_run}
use Rattle.judge.proofs.Witnesses.{base_among, base_chosen, base_sought, cover_chosen, cover_sought, one_witness_run, shown_solvable}
use Rattle.judge.specs.Fates.{IsFate, IsStreamsRun, Serves}
use Rattle.judge.specs.Jobs.{Solvable, span_of}
use Rattle.judge.specs.Problem.{AskedOf, IsJobFile, IsProblem, pair_in}
use Rattle.judge.specs.Invariant.{fate_in}
use Rattle.judge.specs.Witness.{IsShown, witness_asked}

-- a stream as a witness has a fate
abbrev pub SomeWitness : Type 0
SomeWitness = (a : WitnessAskedOf) → IsModel a.model → IsAsked a → (bytes : List ℕ) (most : ℕ) → ((x : Fate) → IsWitnessFate a bytes most x → ⊥) → ⊥

module _ (p : AskedOf) (h : IsProblem p) where
  pub base_run : (i : ℕ) (kind : Kind) (ended : Bool) (bytes : List ℕ) (most : ℕ) (run : List CycleOf) → IsStreamsRun p (Base i) kind ended bytes most run → (a : ℕ) × Shows p.design (length run) (valuations p.design run) a
  base_run i (Certificate kind) ended bytes most run s = base-shown p h s.0 (stream_values kind s.0.formula.vars ended bytes most) run s.2 i s.1
  base_run i Invariant ended bytes most run s = absurd s
  base_run i Witness ended bytes most run (x, has, c) = base_chosen p h x run i c

  pub base_cycles : (i : ℕ) (kind : Kind) (ended : Bool) (bytes : List ℕ) (most : ℕ) (run : List CycleOf) → IsStreamsRun p (Base i) kind ended bytes most run
      → (first_of (span_of p.problem) i < length run) × (length run ≤ last_of (span_of p.problem) i)
  base_cycles i (Certificate kind) ended bytes most run s = base-slice p h s.0 (stream_values kind s.0.formula.vars ended bytes most) run s.2 i s.1
  base_cycles i Invariant ended bytes most run s = absurd s
  base_cycles i Witness ended bytes most run (x, has, c) = base_among p h x run i c

  pub cover_run : (k : ℕ) (kind : Kind) (ended : Bool) (bytes : List ℕ) (most : ℕ) (run : List CycleOf) → IsStreamsRun p (Cover k) kind ended bytes most run
      → ReachRun p.design (length run) (valuations p.design run) k × (length run ≤ (span_of p.problem).depth)
  cover_run k (Certificate kind) ended bytes most run s = (
    cover-shown p h s.0 (stream_values kind s.0.formula.vars ended bytes most) run s.2 k s.1,
    cover-within p h s.0 (stream_values kind s.0.formula.vars ended bytes most) run s.2 k s.1,
  )
  cover_run k Invariant ended bytes most run s = absurd s
  cover_run k Witness ended bytes most run (x, has, c) = (cover_chosen p h x run k c, c.within)

  pub one_run : (job : JobName) (kind : Kind) (ended : Bool) (bytes : List ℕ) (most : ℕ) (run other : List CycleOf) → IsStreamsRun p job kind ended bytes most run → IsStreamsRun p job kind ended bytes most other → run ≡ other
  one_run job (Certificate kind) ended bytes most run other a b = one_stream_run p job kind ended bytes most run other h a b
  one_run job Invariant ended bytes most run other a b = absurd a
  one_run job Witness ended bytes most run other a b = one_witness_run p h job ended bytes most run other a b

  pub found_sat : (job : JobName) (kind : Kind) (file stream : List ℕ) (most : ℕ) → IsJobFile p job file → IsFate p job kind file stream most (Found Sat) → Solvable p.design job (span_of p.problem)
  found_sat job (Certificate kind) file stream most (inl (f, (e, is, same), text, dimacs)) fate =
      let x = found_satisfied kind file stream most f dimacs fate.1 in
      (encodes p h job e is).speaks.0 (x.0, subst (λ (g : FormulaOf). Satisfies x.0 g.clauses) same x.1)
  found_sat job (Certificate kind) file stream most (inr own) fate = absurd (subst (Serves (Certificate kind)) own.1 fate.0)
  found_sat job Invariant file stream most own fate = absurd (never_sat fate.1.0 (sym fate.1.2))
  found_sat job Witness file stream most own fate = (shown_solvable p h job stream most Sat fate).1

  pub found_unsat : (job : JobName) (kind : Kind) (file stream : List ℕ) (most : ℕ) → IsJobFile p job file → IsFate p job kind file stream most (Found Unsat) → Solvable p.design job (span_of p.problem) → ⊥
  found_unsat job (Certificate kind) file stream most (inl (f, (e, is, same), text, dimacs)) fate solved =
      let x = (encodes p h job e is).speaks.1 solved in
      found_refuted kind file stream most f dimacs fate.1 x.0 (subst (λ (g : FormulaOf). Satisfies x.0 g.clauses) (sym same) x.1)
  found_unsat job (Certificate kind) file stream most (inr own) fate solved = absurd (subst (Serves (Certificate kind)) own.1 fate.0)
  found_unsat job Invariant file stream most own fate solved =
      found_unsolved p h (job_in_file p job file own fate.0) stream most fate.1.0 fate.1.1 (only_found fate.1.0 (sym fate.1.2)) (subst (λ (j : JobName). Solvable p.design j (span_of p.problem)) fate.0 solved)
  found_unsat job Witness file stream most own fate solved = absurd (let e = (shown_solvable p h job stream most Unsat fate).0 in cc)

  -- what is asked of a witness
  pub asked_fits : (s : Sought) → IsAsked (witness_asked p s)
  asked_fits s = record { stretches = h.shape.stretches; rows = h.shape.rows }

  one_shown : (job : JobName) (stream : List ℕ) (most : ℕ) (x y : Fate) → IsShown p job stream most x → IsShown p job stream most y → x ≡ y
  one_shown (Base i) stream most x y a b = one_witness (witness_asked p (base_sought p i)) h.is_model stream most x y a b
  one_shown Step stream most x y a b = absurd a
  one_shown Inv stream most x y a b = absurd a
  one_shown (Cover k) stream most x y a b = one_witness (witness_asked p (cover_sought p k)) h.is_model stream most x y a b

  -- a stream has one fate
  pub one_whole : (job : JobName) (kind : Kind) (file stream : List ℕ) (most : ℕ) (x y : Fate) → IsFate p job kind file stream most x → IsFate p job kind file stream most y → x ≡ y
  one_whole job (Certificate kind) file stream most x y a b = one_certificate kind file stream most x y a.1 b.1
  one_whole job Invariant file stream most x y a b = a.1.2 ∙ ap fate_in (one_proved (pair_in p) stream most a.1.0 b.1.0 a.1.1 b.1.1) ∙ sym b.1.2
  one_whole job Witness file stream most x y a b = one_shown job stream most x y a b

  some_shown : SomeWitness → (job : JobName) (stream : List ℕ) (most : ℕ) → Serves Witness job → ((x : Fate) → IsShown p job stream most x → ⊥) → ⊥
  some_shown some (Base i) stream most serves never = some (witness_asked p (base_sought p i)) h.is_model (asked_fits (base_sought p i)) stream most never
  some_shown some Step stream most serves never = serves
  some_shown some Inv stream most serves never = serves
  some_shown some (Cover k) stream most serves never = some (witness_asked p (cover_sought p k)) h.is_model (asked_fits (cover_sought p k)) stream most never

  -- and it has one
  pub some_whole : SomeWitness → (job : JobName) (kind : Kind) (file stream : List ℕ) (most : ℕ) (f : FormulaOf) → IsDimacs file f → Serves kind job → ((x : Fate) → IsFate p job kind file stream most x → ⊥) → ⊥
  some_whole some job (Certificate kind) file stream most f dimacs serves never = somewhere_at_end kind f most stream (λ x fate. never x (serves, (f, dimacs, fate)))
  some_whole some (Base i) Invariant file stream most f dimacs serves never = serves
  some_whole some Step Invariant file stream most f dimacs serves never = serves
  some_whole some Inv Invariant file stream most f dimacs serves never = some_proved (pair_in p) stream most (λ x is. never (fate_in x) (refl, (x, is, refl)))
  some_whole some (Cover k) Invariant file stream most f dimacs serves never = serves
  some_whole some job Witness file stream most f dimacs serves never = some_shown some job stream most serves never
