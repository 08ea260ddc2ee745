-- Where a job of a task is refused it asks something, and its frames can pass the bound by the model's cost.
use Rattle.std.proofs.Common.{◌≡◌, ◌∙◌, ℕ, zero, suc, ◌+◌, ◌*◌, ◌^◌, ◌<◌, ◌≤◌, Bool, List, [], ◌∷◌, None, length, refl, ap, subst, arith}
use Rattle.std.specs.Prelude.{option_map, slice_get}
use Rattle.std.proofs.Math.Nat.{mul-le-mul_left}
use Rattle.cnf_form.specs.Cnf.{LitOf, negate}
use Rattle.sby_terms.specs.Span.{IsSpan}
use Rattle.sby_terms.specs.declared.names.JobName.{JobName}
use Rattle.sby_terms.specs.declared.names.JobName.TheVariants.{Base, Step, Inv, Cover}
use Rattle.sby_terms.specs.declared.span.Span.{Span}
use Rattle.model_core.specs.Served.{IsModel}
use Rattle.model_core.specs.Shape.{ModelOf}
use Rattle.model_cone.specs.declared.asked.Asked.{Asked}
use Rattle.model_cone.specs.Slice.{sliced}
use Rattle.bit_net.specs.Net.{NetOf, vars}
use Rattle.frame_net.specs.NetOf.{IsNetOf, net_cost}
use Rattle.job_terms.specs.Jobs.{AsksNothing, frames}
use Rattle.job_terms.proofs.Nothing.{frames_some}
use Rattle.net_unroll.specs.Asking.{goal_of}
use Rattle.net_unroll.specs.Counting.{most_made}
use Rattle.net_unroll.specs.Encoding.{vars_for}
use Rattle.net_unroll.proofs.Counting.{few_made}
use Rattle.net_jobs.specs.Jobs.{asked_of as net_asked, cycles_of, job_made}
use Rattle.task_net.specs.Asking.{asked_of}
use Rattle.task_net.specs.Net.{HasNone, IsTaskNet, IsTooMany, TaskNetOf, no_model}
use Rattle.task_net.specs.Net.IsTaskNet.{AsksNone, AsksSome}
use Rattle.task_net.specs.Net.IsTooMany.{Large, Long}
use Rattle.task_net.proofs.Costing.{slice-less}
use Rattle.task_net.proofs.Encoded.{no-asks}

none-asked : (m : ModelOf) (job : JobName) → AsksNothing m job → HasNone m (asked_of job)
none-asked m (Base i) h = h
none-asked m Step h = h
none-asked m Inv h = h
none-asked m (Cover k) h = h

-- over no statement one variable is made
none-made : (m : ModelOf) (n : NetOf) (job : JobName) (span : Span) → IsNetOf m n → AsksNothing m job → job_made n job span ≡ 1
none-made m n job span of none = ap (vars_for n (cycles_of job span)) (asks job none)
  where
    asks : (job : JobName) → AsksNothing m job → goal_of n (net_asked job) ≡ None
    asks (Base i) h = ap (option_map negate) (of.asserted.1 h)
    asks Step h = ap (option_map negate) (of.asserted.1 h)
    asks Inv h = ap (option_map negate) (of.asserted.1 h)
    asks (Cover k) h = past n.covers k (of.covers ∙ ap length h)
      where
        past : (xs : List LitOf) (j : ℕ) → length xs ≡ 0 → slice_get xs j ≡ None
        past [] j q = refl
        past (x ∷ xs) j q = absurd (omega arith)

slice-asks : (m : ModelOf) (keep : ℕ → Bool) (job : JobName) → AsksNothing m job → AsksNothing (sliced keep m) job
slice-asks m keep (Base i) h = h
slice-asks m keep Step h = h
slice-asks m keep Inv h = h
slice-asks m keep (Cover k) h = h

-- a job that is refused asks something
pub refused-asks : (m : ModelOf) (job : JobName) (span : Span) → IsTooMany m job span → AsksNothing m job → ⊥
refused-asks m job span (Large h) none = h.asks (none-asked m job none)
refused-asks m job span (Long t (AsksNone has by) past) none = let e = none-made no_model t.net job span by.is (no-asks job) in omega (arith, e, past)
refused-asks m job span (Long t (AsksSome keep cone by) past) none = let e = none-made (sliced keep m) t.net job span by.is (slice-asks m keep job none) in omega (arith, e, past)

-- the net of a task takes no more than that of its model
pub task-few : (m : ModelOf) → IsModel m → (asked : Asked) (t : TaskNetOf) → IsTaskNet m asked t → vars t.net ≤ net_cost m
task-few m is asked t (AsksNone none by) = let f = by.few in let c : net_cost no_model ≡ 1 = refl in omega (arith, f, c)
task-few m is asked t (AsksSome keep cone by) = let f = by.few in let l = slice-less m keep in omega (arith, f, l)

counted : (job : JobName) (span : Span) → (cycles_of job span).count ≡ frames job span
counted (Base i) span = refl
counted Step span = refl
counted Inv span = refl
counted (Cover k) span = refl

more-frames : (f s r most : ℕ) → 0 < f → 1 + s + r + 5 ≤ most → 1 + s + f * (r + 4) ≤ f * most
more-frames zero s r most some within = absurd (omega arith)
more-frames (suc f) s r most some within = let l = mul-le-mul_left (suc f) within in let w = spread s r f in omega (arith, l, w)
  where
    spread : (s r f : ℕ) → 1 + s + suc f * (r + 4) ≤ suc f * (1 + s + r + 5)
    spread s r f = omega arith

one-frame : (f most : ℕ) → 0 < f → most ≤ f * most
one-frame zero most some = absurd (omega arith)
one-frame (suc f) most some = omega arith

-- frames that can pass the bound pass it by a cost that each is within
pub past-frames : (m : ModelOf) → IsModel m → (job : JobName) (span : Span) → IsSpan span → (most : ℕ) → net_cost m + 5 ≤ most → IsTooMany m job span → 2 ^ 27 < frames job span * most
past-frames m is job span some most within (Large h) =
    let l = slice-less m h.keep in
    let one = one-frame (frames job span) most (frames_some job span some) in
    let past = h.past in
    omega (arith, l, one, past, within)
past-frames m is job span some most within (Long t net past) =
    let few = task-few m is (asked_of job) t net in
    let made : job_made t.net job span ≤ most_made t.net (frames job span) = subst (λ (n : ℕ). job_made t.net job span ≤ most_made t.net n) (counted job span) (few_made t.net (net_asked job) (cycles_of job span)) in
    let all = more-frames (frames job span) (length t.net.states) (t.net.inputs + length t.net.gates) most (frames_some job span some) (omega (arith, few, within)) in
    omega (arith, made, all, past)
