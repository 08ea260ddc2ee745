-- What is promised of a job of a task's net.
use Rattle.std.proofs.Common.{◌≡◌, ◌∙◌, ℕ, ◌<◌, ◌≤◌, zero, suc, Bool, false, List, [], ◌∷◌, Contains, refl, sym, ap, subst, map, length, arith}
use Rattle.std.specs.Prelude.{◌↔◌}
use Rattle.std.proofs.lemmas.List.{length-map}
use Rattle.std.proofs.lemmas.List.Elements.{All-cons, All-nil, All-weaker}
use Rattle.cnf_form.specs.Cnf.{Assignment, FormulaOf, LitOf, Satisfies}
use Rattle.cnf_form.specs.declared.literal.TheConstants.{MAX_VARS}
use Rattle.sby_terms.specs.declared.names.JobName.{JobName}
use Rattle.sby_terms.specs.declared.names.JobName.TheVariants.{Base, Step, Inv, Cover}
use Rattle.sby_terms.specs.declared.span.Span.{Span}
use Rattle.model_core.specs.Choices.{AreChoicesFor, open_states}
use Rattle.model_core.specs.Served.{IsModel, IsNode}
use Rattle.model_core.specs.Shape.{AreBelow, IsDistinct, IsRegister, IsStatement, ModelOf}
use Rattle.model_core.proofs.Lists.{contained_at}
use Rattle.bit_net.proofs.Lists.{head_in, none_in}
use Rattle.model_cone.specs.Cone.{IsCone, IsInCone}
use Rattle.model_cone.specs.Slice.{sliced}
use Rattle.model_cone.proofs.Closing.{constants-kept, node-closed}
use Rattle.model_cone.proofs.Slicing.{slice-is}
use Rattle.job_terms.specs.Encoding.{CanBeSatisfied, EncodedOf, IsOrigin, Origin, decoded, empty_job}
use Rattle.job_terms.specs.Encoding.Origin.{First, Input}
use Rattle.job_terms.specs.Jobs.{AsksNothing, IsJob, Solvable}
use Rattle.job_terms.proofs.Nothing.{empty_solvable}
use Rattle.net_jobs.specs.Jobs.{job_made}
use Rattle.net_jobs.specs.Reading.{IsEncoded, encoded_of}
use Rattle.net_jobs.proofs.Encoded.{encoded}
use Rattle.net_jobs.proofs.Telling.{made_so}
use Rattle.task_net.specs.Asking.{asked_of, place_of}
use Rattle.task_net.specs.Net.{HasNone, IsEncodedJob, IsNetBy, IsTaskNet, TaskNetOf, no_model, task_encoded}
use Rattle.task_net.specs.Net.IsTaskNet.{AsksNone, AsksSome}
use Rattle.task_net.specs.Spreading.{spread_choices}
use Rattle.task_net.proofs.Fitting.{spread-fits}
use Rattle.task_net.proofs.Origins.{decoded-of, origins-too}
use Rattle.task_net.proofs.Playing.{choices-fit, decoded-too, spread-decoded}
use Rattle.task_net.proofs.Solving.{asks-of-slice, solvable-from, solvable-to}

-- a model of the two constants
pub no-model-is : IsModel no_model
no-model-is = record {
  limit = omega arith;
  nodes = All-nil IsNode;
  registers = All-nil (IsRegister 2);
  starts = refl;
  asserts = All-nil (IsStatement 2);
  assumes = All-nil (IsStatement 2);
  covers = All-nil (IsStatement 2);
  below = two-below;
  all = two-all;
  once = two-once;
  order = λ i n e p c. absurd cc;
}
  where
    two-below : AreBelow 2 (0 ∷ 1 ∷ [])
    two-below = All-cons (λ p. p < 2) 0 (1 ∷ []) (omega arith) (All-cons (λ p. p < 2) 1 [] (omega arith) (All-nil (λ p. p < 2)))

    two-all : (p : ℕ) → p < 2 → Contains (0 ∷ 1 ∷ []) p
    two-all zero l = contained_at (0 ∷ 1 ∷ []) 0 0 refl
    two-all (suc zero) l = contained_at (0 ∷ 1 ∷ []) 1 1 refl
    two-all (suc (suc p)) l = absurd (omega (arith, l))

    two-once : IsDistinct (0 ∷ 1 ∷ [])
    two-once zero zero p e f = refl
    two-once zero (suc zero) p e f = absurd (let a : 0 ≡ p = cc in let b : 1 ≡ p = cc in omega (arith, a, b))
    two-once (suc zero) zero p e f = absurd (let a : 1 ≡ p = cc in let b : 0 ≡ p = cc in omega (arith, a, b))
    two-once (suc zero) (suc zero) p e f = refl
    two-once zero (suc (suc j)) p e f = absurd cc
    two-once (suc zero) (suc (suc j)) p e f = absurd cc
    two-once (suc (suc i)) j p e f = absurd cc

pub no-asks : (job : JobName) → AsksNothing no_model job
no-asks (Base i) = refl
no-asks Step = refl
no-asks Inv = refl
no-asks (Cover k) = refl

no-satisfied : (e : EncodedOf) → e.formula ≡ empty_job → (x : Assignment) → Satisfies x e.formula.clauses → ⊥
no-satisfied e is x s = let (l, c, t) = subst (λ (f : FormulaOf). Satisfies x f.clauses) is s [] (head_in (let c : List LitOf = [] in c) []) in none_in l c

asks-none : (m : ModelOf) (job : JobName) → HasNone m (asked_of job) → AsksNothing m job
asks-none m (Base i) h = h
asks-none m Step h = h
asks-none m Inv h = h
asks-none m (Cover k) h = h

no-origin : (job : JobName) (span : Span) (o : Origin) → IsOrigin no_model job span o → ⊥
no-origin (Base i) span (First p) h = none_in p h
no-origin Step span (First p) h = none_in p h
no-origin Inv span (First p) h = none_in p h
no-origin (Cover k) span (First p) h = none_in p h
no-origin job span (Input t p) h = none_in p h.1

module _ (m : ModelOf) (is : IsModel m) (t : TaskNetOf) (job : JobName) (span : Span) (isjob : IsJob m job span) (few : job_made t.net job span ≤ MAX_VARS) where
  abbrev inner : EncodedOf
  inner = encoded_of t.net job span

  abbrev whole : EncodedOf
  whole = task_encoded t job span

  -- where nothing is asked
  module _ (none : HasNone m (asked_of job)) (by : IsNetBy m (λ p. false) no_model t) where
    asks : AsksNothing m job
    asks = asks-none m job none

    e : IsEncoded no_model job span inner
    e = encoded no_model t.net job span no-model-is by.net by.is few (made_so m job span isjob)

    formula-is : inner.formula ≡ empty_job
    formula-is = e.empty (no-asks job)

    never : (x : Assignment) → Satisfies x inner.formula.clauses → ⊥
    never = no-satisfied inner formula-is

    none-choices : (x : Assignment) → AreChoicesFor m (decoded whole x)
    none-choices x =
        subst (AreChoicesFor m) (sym (spread-decoded t.starts t.inputs inner.decoding x))
        (spread-fits m t.starts t.inputs (decoded inner x) (ap (λ (bs : List Bool). length bs) by.starts ∙ length-map (open_states m) (λ p. false))
        (ap (λ (bs : List Bool). length bs) by.inputs ∙ length-map m.inputs (λ p. false)))

    pub none-encoded : IsEncodedJob m job span whole
    none-encoded = let o = e.origins in record {
      speaks = subst (λ (f : FormulaOf). CanBeSatisfied f ↔ Solvable m job span) (sym formula-is) (empty_solvable m job span asks);
      vars = e.vars;
      propagates = record { rule = e.propagates.rule };
      origins = record {
        has = record {
          distinct = o.distinct;
          within = o.within;
          origins = o.origins;
          each = o.each;
          apart = o.apart;
          free = All-weaker (IsOrigin no_model job span) (IsOrigin m job span) (λ o h. absurd (no-origin job span o h)) o.origins o.free;
          values = λ base x s. absurd (never x s);
          rest = λ base x s. absurd (never x s);
        };
        cone = All-weaker (IsOrigin no_model job span) (λ o. IsInCone m (asked_of job) (place_of o)) (λ o h. absurd (no-origin job span o h)) o.origins o.free;
      };
      empty = λ asks. formula-is;
      choices = λ base x. none-choices x;
      decodes = λ base x s. absurd (never x s);
    }

  -- the slice to what is asked
  module _ (keep : ℕ → Bool) (cone : IsCone m (asked_of job) keep) (by : IsNetBy m keep (sliced keep m) t) where
    iss : IsModel (sliced keep m)
    iss = slice-is m is keep (constants-kept m (asked_of job) keep cone) (node-closed m (asked_of job) keep cone)

    f : IsEncoded (sliced keep m) job span inner
    f = encoded (sliced keep m) t.net job span iss by.net by.is few (made_so m job span isjob)

    spread-is : (x : Assignment) → decoded whole x ≡ spread_choices (map keep (open_states m)) (map keep m.inputs) (decoded inner x)
    spread-is = decoded-of m is keep iss job span cone t.starts t.inputs by.starts by.inputs inner

    pub some-encoded : IsEncodedJob m job span whole
    some-encoded = record {
      speaks = (λ s. solvable-from m is keep iss job span cone (f.speaks.0 s), λ s. f.speaks.1 (solvable-to m is keep iss job span cone s));
      vars = f.vars;
      propagates = record { rule = f.propagates.rule };
      origins = origins-too m is keep iss job span cone t.starts t.inputs by.starts by.inputs inner f.choices f.origins;
      empty = λ asks. f.empty (asks-of-slice keep m job asks);
      choices = λ base x. choices-fit m is keep iss job cone (decoded inner x) (decoded whole x) (spread-is x) (f.choices base x);
      decodes = λ base x s. decoded-too m is keep iss job cone (decoded inner x) (decoded whole x) (spread-is x) (f.choices base x) span (f.decodes base x s);
    }

pub task-encoded : (m : ModelOf) (t : TaskNetOf) (job : JobName) (span : Span) → IsModel m → IsTaskNet m (asked_of job) t → IsJob m job span → job_made t.net job span ≤ MAX_VARS
    → IsEncodedJob m job span (task_encoded t job span)
task-encoded m t job span is (AsksNone none by) j few = none-encoded m is t job span j few none by
task-encoded m t job span is (AsksSome keep cone by) j few = some-encoded m is t job span j few keep cone by
