-- The jobs of a model, asked of its net.
use Rattle.std.specs.Prelude.{slice_get, ◌⊎◌, ◌≡◌, ℕ, suc, ◌+◌, ◌<◌, Bool, true, false, List, [], ◌∷◌, map, Option, Some, None}
use Rattle.cnf_form.specs.Cnf.{Assignment}
use Rattle.sby_bits.specs.Rows.{Row}
use Rattle.sby_terms.specs.Span.{first_of, last_of, slices_of}
use Rattle.sby_terms.specs.declared.names.JobName.{JobName}
use Rattle.sby_terms.specs.declared.names.JobName.TheVariants.{Base, Step, Inv, Cover}
use Rattle.sby_terms.specs.declared.span.Span.{Span}
use Rattle.model_core.specs.Choices.{ChoicesOf}
use Rattle.model_core.specs.Shape.{ModelOf, states}
use Rattle.bit_net.specs.Net.{NetOf, input_var, state_var}
use Rattle.bit_net.specs.Reaching.{numbers}
use Rattle.net_unroll.specs.Encoding.{EncodedOf, encoding, made}
use Rattle.net_unroll.specs.Promises.{cycles_told, told_by}
use Rattle.net_unroll.specs.declared.asking.Asked.{Asked}
use Rattle.net_unroll.specs.declared.asking.Asked.TheVariants as ask
use Rattle.net_unroll.specs.declared.asking.Cycles.{Cycles}

-- Base, Step and Inv ask that an assertion is broken, a cover job that its statement is reached
abbrev pub asked_of : JobName → Asked
asked_of (Base i) = ask.Asserts
asked_of Step = ask.Asserts
asked_of Inv = ask.Asserts
asked_of (Cover k) = ask.Cover k

-- a slice is one of the span's; Inv isn't made of cycles that are told one after the other
abbrev pub IsOfSpan : JobName → Span → Type 0
IsOfSpan (Base i) span = i < slices_of span
IsOfSpan Step span = Unit {0}
IsOfSpan Inv span = ⊥
IsOfSpan (Cover k) span = Unit {0}

-- Base(i): from a start, in a cycle of slice i. Step: from any state, in the last of depth + 1 cycles. Cover(k): from a start, in any cycle.
-- Of Inv, which isn't asked so, the first two cycles stand here.
abbrev pub cycles_of : JobName → Span → Cycles
cycles_of (Base i) span = record { start = true; first = first_of span i; end = first_of span i; count = last_of span i }
cycles_of Step span = record { start = false; first = 0; end = span.depth; count = span.depth + 1 }
cycles_of Inv span = record { start = true; first = 0; end = 0; count = 2 }
cycles_of (Cover k) span = record { start = true; first = 0; end = 0; count = span.depth }

abbrev pub job_encoding : NetOf → JobName → Span → EncodedOf
job_encoding n job span = encoding n (asked_of job) (cycles_of job span)

-- how many variables are made for a job
abbrev pub job_made : NetOf → JobName → Span → ℕ
job_made n job span = made n (asked_of job) (cycles_of job span)

-- the bits of the states that have no start digit, from state k on
abbrev pub start_bits : List (Option Bool) → ℕ → (ℕ → Bool) → Row
start_bits [] k f = []
start_bits (Some d ∷ digits) k f = start_bits digits (suc k) f
start_bits (None ∷ digits) k f = f k ∷ start_bits digits (suc k) f

-- The choices for a run that an assignment tells: the bit of each open state and input, and 0 where it has no free variable; a row of inputs
-- for each cycle up to the first whose goal is true.
abbrev pub decoded : ModelOf → NetOf → Cycles → EncodedOf → Assignment → ChoicesOf
decoded m n c e x = record {
  starts = start_bits m.starts 0 (λ k. told_by x e.free 0 (state_var k));
  inputs = map (λ t. map (λ k. told_by x e.free t (input_var n k)) (numbers 0 n.inputs)) (numbers 0 (cycles_told c e x));
}

-- A bit of a net's cycle stands for a place of the model: that of an input, or in the first cycle that of a state bit, if it has no start
-- digit or need not be a start.
abbrev pub StandsFor : ModelOf → NetOf → Bool → ℕ → ℕ → ℕ → Type 0
StandsFor m n start t v p = ((k : ℕ) × (slice_get m.inputs k ≡ Some p) × (v ≡ input_var n k))
    ⊎ ((k : ℕ) × (slice_get (states m) k ≡ Some p) × (v ≡ state_var k) × (t ≡ 0) × (start ≡ true → slice_get m.starts k ≡ Some None))
