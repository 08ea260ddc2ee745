-- What a proof file is judged as.
use Rattle.std.proofs.Common.{◌≡◌, inl, inr, ℕ, ◌+◌, false, List, [], Option, Some, None, refl, sym, subst, ◌∙◌, take_all, arith}
use Rattle.std.specs.Option.{MatchOption, is_some}
use Rattle.std.specs.Prelude.{IfNone}
use Rattle.sby_edge.specs.Child.{BayOf, ProofFrom}
use Rattle.sby_edge.specs.declared.outside.Got.{Got}
use Rattle.sby_edge.specs.declared.outside.Got.TheVariants.{All, Long}
use Rattle.sby_terms.specs.declared.names.JobName.{JobName}
use Rattle.race_core.specs.declared.event.Judged.{Judged}
use Rattle.race_core.specs.declared.event.Judged.TheVariants.{More, Found, Unknown, Bad, Failed, Unjudged}
use Rattle.race_core.specs.declared.part.Reader.{Reader}
use Rattle.race_core.specs.declared.part.Reader.TheVariants as reader
use Rattle.race_core.specs.declared.part.Reason.{Reason}
use Rattle.lane_run.specs.Judging.{Says, Within}
use Rattle.lane_run.specs.Reading.{FiledAs, IsProof, NotByFile, Proves, got_bytes}
use Rattle.lane_run.specs.Sides.{Asks, JudgedFile}

-- what was entered of a proof file that was judged whole
pub proves_filed : {T : Type 0} (proves : List ℕ → Judged T → Type 0) (proof : List ℕ) (p : Judged T) (part : Reader T)
    → FiledAs p part → Says proves proof p → (p ≡ More → ⊥) → Proves proves proof part
proves_filed pr proof p part (inr is) h whole = subst (λ r. Proves pr proof r) (sym is) tt
proves_filed pr proof More part (inl is) h whole = absurd (whole refl)
proves_filed pr proof (Found f) part (inl (says, is)) h whole = subst (λ r. Proves pr proof r) (sym is) (refl, h)
proves_filed pr proof Unknown part (inl (says, is)) h whole = subst (λ r. Proves pr proof r) (sym is) (refl, h)
proves_filed pr proof (Bad number at) part (inl (says, is)) h whole = subst (λ r. Proves pr proof r) (sym is) (refl, h)
proves_filed pr proof Failed part (inl is) h whole = absurd h
proves_filed pr proof Unjudged part (inl (says, is)) h whole = absurd (says refl)

-- what was got is the proof of the script
pub proof_got : (bay : Option BayOf) (job : JobName) (most : ℕ) (got : Got) → ProofFrom bay job most got → IsProof bay job most (got_bytes got)
proof_got None job most got h = tt
proof_got (Some bay) job most (All bytes) h = h.0 ∙ sym (take_all (most + 1) (bay.scripts job).proof (omega (h.1, arith)))
proof_got (Some bay) job most (Long bytes) h = h.0

-- where it couldn't be got, nothing is by it
pub failed_unfiled : {T : Type 0} (part : Reader T) → FiledAs Failed part → NotByFile part
failed_unfiled part (inl is) = subst (λ r. NotByFile r) (sym is.1) tt
failed_unfiled part (inr is) = subst (λ r. NotByFile r) (sym is) tt

-- what is said by a later moment of the judge is said by an earlier one
pub says_within : {T : Type 0} (proves proves' : List ℕ → Judged T → Type 0) (bytes : List ℕ) (p : Judged T) → Within proves' proves → Says proves' bytes p → Says proves bytes p
says_within pr pr' bytes More within h = within bytes More h
says_within pr pr' bytes (Found f) within h = within bytes (Found f) h
says_within pr pr' bytes Unknown within h = within bytes Unknown h
says_within pr pr' bytes (Bad number at) within h = within bytes (Bad number at) h
says_within pr pr' bytes Failed within h = h
says_within pr pr' bytes Unjudged within h = tt

-- what holds where nothing is there
pub where_none : {X : Type 0} (o : Option X) (P : Type 0) (Q : X → Type 0) → is_some o ≡ false → MatchOption o P Q → P
where_none None P Q is h = h
where_none (Some x) P Q is h = absurd cc

pub if_none : {X : Type 0} (o : Option X) (P : Type 0) → is_some o ≡ false → IfNone o P → P
if_none None P is h = h
if_none (Some x) P is h = absurd cc

-- the state of a reader that asked for the proof file, by the file that was got
pub file_asked : {T : Type 0} (proves : List ℕ → Judged T → Type 0) (bay : Option BayOf) (job : JobName) (most : ℕ) (proof : List ℕ) (filed filed' : ℕ) (part : Reader T) (why : Option (Reason T))
    → IsProof bay job most proof → filed ≡ 0 → JudgedFile proves proof filed filed' part why → Asks proves bay job most why reader.Asking part filed'
file_asked pr bay job most proof filed filed' part why got none (inl (proved, many)) = (proof, omega (arith, none, many), inr (refl, proved, inl got))
file_asked pr bay job most proof filed filed' part why got none (inr (inl (asking, killed), many)) = ([], many ∙ none, inl (asking, refl, λ _. killed))
file_asked {T} pr bay job most proof filed filed' part why got none (inr (inr short, many)) =
    ([], many ∙ none, inr (refl, subst (λ (r : Reader T). Proves pr [] r) (sym short) tt, inr (refl, subst (λ (r : Reader T). NotByFile r) (sym short) tt)))
