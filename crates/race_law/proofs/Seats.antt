-- What one event does to what is kept of a lane's job.
use Rattle.std.proofs.Common.{◌≡◌, ◌⊎◌, ℕ, zero, suc, ◌+◌, ◌≤◌, Option, Some, None, refl, sym, ap, ◌∙◌, inl, inr}
use Rattle.race_core.specs.Parts.{by_of, judged, after_read, after_file, RightReader}
use Rattle.race_core.specs.Ends.{IsKilled}
use Rattle.race_law.specs.World.{Script, OfScript, ReadGives, FileGives, IsScript, plain, first_judged}
use Rattle.race_law.specs.Invariant.{FromScript}
use Rattle.race_core.specs.declared.event.Judged.{Judged}
use Rattle.race_core.specs.declared.event.Judged.TheVariants as progress
use Rattle.race_core.specs.declared.part.By.TheVariants as by
use Rattle.race_core.specs.declared.part.Reader.{Reader}
use Rattle.race_core.specs.declared.part.Reader.TheVariants as reader
use Rattle.race_core.specs.declared.part.Keeper.{Keeper}

plain-at : {T : Type 0} (s : Script T) (p : Judged T) → s.at s.size ≡ p → plain s ≡ first_judged p (first_judged (s.ended s.size) s.file)
plain-at {T} s p e = ap (λ (x : Judged T). first_judged x (first_judged (s.ended s.size) s.file)) e

plain-ended : {T : Type 0} (s : Script T) (p : Judged T) → s.at s.size ≡ progress.More → s.ended s.size ≡ p → plain s ≡ first_judged p s.file
plain-ended {T} s p e f = plain-at s progress.More e ∙ ap (λ (x : Judged T). first_judged x s.file) f

-- what stands at a count of bytes stands at the whole
stands : {T : Type 0} (P : T → Type 0) (s : Script T) → IsScript P s → (n : ℕ) → n ≤ s.size → (s.at n ≡ progress.More) ⊎ (s.at s.size ≡ s.at n)
stands P s h n le = h.steady n s.size le

unknown-more : {T : Type 0} (p : Judged T) → p ≡ progress.Unknown → p ≡ progress.More → ⊥
unknown-more p d e = cc

bad-more : {T : Type 0} (p : Judged T) (number at : ℕ) → p ≡ progress.Bad number at → p ≡ progress.More → ⊥
bad-more p number at d e = cc

found-more : {T : Type 0} (f : T) → progress.Found f ≡ progress.More → ⊥
found-more f e = cc

size-more : {T : Type 0} (P : T → Type 0) (s : Script T) (taken : ℕ) → taken ≡ s.size → s.at taken ≡ progress.More → s.at s.size ≡ progress.More
size-more P s taken e more = ap (λ (n : ℕ). s.at n) (sym e) ∙ more

-- a read of bytes
read-bytes : {T : Type 0} (P : T → Type 0) (s : Script T) → IsScript P s → (taken : ℕ) (k : Keeper T) (n : ℕ) (p : Judged T)
    → ReadGives s taken k (suc n) p → FromScript P (Some s) (taken + suc n) (IsKilled k) (judged by.Bytes p)
read-bytes P s h taken k n progress.More g = sym g.0
read-bytes P s h taken k n (progress.Found f) g =
    (h.at_for (taken + suc n) f (sym g.0), elim (stands P s h (taken + suc n) g.1) [ inl m ↦ absurd (found-more f (g.0 ∙ m)) | inr e ↦ inl (plain-at s (progress.Found f) (e ∙ sym g.0)) ])
read-bytes P s h taken k n progress.Unknown g =
    elim (stands P s h (taken + suc n) g.1) [ inl m ↦ absurd (unknown-more (s.at (taken + suc n)) (sym g.0) m) | inr e ↦ inl (plain-at s progress.Unknown (e ∙ sym g.0)) ]
read-bytes P s h taken k n (progress.Bad number at) g =
    elim (stands P s h (taken + suc n) g.1) [ inl m ↦ absurd (bad-more (s.at (taken + suc n)) number at (sym g.0) m) | inr e ↦ inl (plain-at s (progress.Bad number at) (e ∙ sym g.0)) ]
read-bytes P s h taken k n progress.Failed g = tt
read-bytes P s h taken k n progress.Unjudged g = tt

-- a read of 0 bytes, where nothing stands so far
read-close : {T : Type 0} (P : T → Type 0) (s : Script T) → IsScript P s → (taken : ℕ) (k : Keeper T) (p : Judged T) → s.at taken ≡ progress.More
    → ReadGives s taken k zero p → FromScript P (Some s) (taken + 0) (IsKilled k) (judged by.Close p)
read-close P s h taken k progress.More more g =
    elim g.1 [ inl e ↦ inl (size-more P s taken e more, ap (λ (n : ℕ). s.ended n) (sym e) ∙ sym g.0) | inr killed ↦ inr killed ]
read-close P s h taken k (progress.Found f) more g = (
  h.ended_for taken f (sym g.0),
  elim g.1 [
    | inl e ↦ inl (plain-ended s (progress.Found f) (size-more P s taken e more) (ap (λ (n : ℕ). s.ended n) (sym e) ∙ sym g.0))
    | inr killed ↦ inr killed
  ],
)
read-close P s h taken k progress.Unknown more g =
    elim g.1 [
      | inl e ↦ inl (plain-ended s progress.Unknown (size-more P s taken e more) (ap (λ (n : ℕ). s.ended n) (sym e) ∙ sym g.0))
      | inr killed ↦ inr (killed, refl)
    ]
read-close P s h taken k (progress.Bad number at) more g =
    elim g.1 [
      | inl e ↦ inl (plain-ended s (progress.Bad number at) (size-more P s taken e more) (ap (λ (n : ℕ). s.ended n) (sym e) ∙ sym g.0))
      | inr killed ↦ inr killed
    ]
read-close P s h taken k progress.Failed more g = tt
read-close P s h taken k progress.Unjudged more g = tt

-- a read of a reader that goes on
read-on : {T : Type 0} (P : T → Type 0) (script : Option (Script T)) → ((s : Script T) → script ≡ Some s → IsScript P s) → (taken : ℕ) (k : Keeper T) (n : ℕ) (p : Judged T)
    → OfScript script (λ s. s.at taken ≡ progress.More)
    → OfScript script (λ s. ReadGives s taken k n p) → FromScript P script (taken + n) (IsKilled k) (judged (by_of n) p)
read-on P None h taken k n p more g = absurd g
read-on P (Some s) h taken k zero p more g = read-close P s (h s refl) taken k p more g
read-on P (Some s) h taken k (suc n) p more g = read-bytes P s (h s refl) taken k n p g

-- before the first byte nothing stands
begins : {T : Type 0} (P : T → Type 0) (script : Option (Script T)) → ((s : Script T) → script ≡ Some s → IsScript P s) → (taken : ℕ) (k : Keeper T) (n : ℕ) (p : Judged T)
    → taken ≡ 0 → OfScript script (λ s. ReadGives s taken k n p) → OfScript script (λ s. s.at taken ≡ progress.More)
begins P None h taken k n p e g = absurd g
begins P (Some s) h taken k n p e g = ap (λ (m : ℕ). s.at m) e ∙ (h s refl).first

pub read-step : {T : Type 0} (P : T → Type 0) (script : Option (Script T)) → ((s : Script T) → script ≡ Some s → IsScript P s) → (taken : ℕ) (k : Keeper T) (n : ℕ) (p : Judged T) (r : Reader T)
    → FromScript P script taken (IsKilled k) r → OfScript script (λ s. ReadGives s taken k n p) → RightReader (after_read n p r)
    → FromScript P script (taken + n) (IsKilled k) (after_read n p r)
read-step P script h taken k n p reader.Fresh f g right = read-on P script h taken k n p (begins P script h taken k n p f g) g
read-step P script h taken k n p reader.Reading f g right = read-on P script h taken k n p f g
read-step P script h taken k n p r f g right = absurd right

file-on : {T : Type 0} (P : T → Type 0) (s : Script T) → IsScript P s → (taken : ℕ) (k : Keeper T) (p : Judged T)
    → ((s.at s.size ≡ progress.More) × (s.ended s.size ≡ progress.More)) ⊎ IsKilled k → FileGives s taken k p → RightReader (judged by.File p)
    → FromScript P (Some s) taken (IsKilled k) (judged by.File p)
file-on P s h taken k progress.More o g right = absurd right
file-on P s h taken k (progress.Found f) o g right =
    (h.file_for f (sym g.0), elim o [ inl m ↦ inl (plain-ended s progress.More m.0 m.1 ∙ sym g.0) | inr killed ↦ absurd (g.2 killed) ])
file-on P s h taken k progress.Unknown o g right = elim o [ inl m ↦ inl (plain-ended s progress.More m.0 m.1 ∙ sym g.0) | inr killed ↦ absurd (g.2 killed) ]
file-on P s h taken k (progress.Bad number at) o g right = elim o [ inl m ↦ inl (plain-ended s progress.More m.0 m.1 ∙ sym g.0) | inr killed ↦ absurd (g.2 killed) ]
file-on P s h taken k progress.Failed o g right = tt
file-on P s h taken k progress.Unjudged o g right = tt

pub file-step : {T : Type 0} (P : T → Type 0) (script : Option (Script T)) → ((s : Script T) → script ≡ Some s → IsScript P s) → (taken : ℕ) (k : Keeper T) (p : Judged T) (r : Reader T)
    → FromScript P script taken (IsKilled k) r → OfScript script (λ s. FileGives s taken k p) → RightReader (after_file p r)
    → FromScript P script taken (IsKilled k) (after_file p r)
file-step P None h taken k p r f g right = absurd g
file-step P (Some s) h taken k p reader.Asking f g right = file-on P s (h s refl) taken k p f g right
file-step P (Some s) h taken k p r f g right = absurd right

-- the kill may come, and nothing else changes
kill-script : {T : Type 0} (script : Option (Script T)) (A B : Script T → Type 0) → ((s : Script T) → A s → B s) → OfScript script A → OfScript script B
kill-script None A B h o = absurd o
kill-script (Some s) A B h o = h s o

pub kill-step : {T : Type 0} (P : T → Type 0) (script : Option (Script T)) (taken : ℕ) (K L : Type 0) → (K → L) → (r : Reader T) → FromScript P script taken K r → FromScript P script taken L r
kill-step P script taken K L h reader.Fresh f = f
kill-step P script taken K L h reader.Reading f = f
kill-step P script taken K L h reader.Asking f = kill-script script _ _ (λ s o. elim o [ inl m ↦ inl m | inr k ↦ inr (h k) ]) f
kill-step P script taken K L h (reader.Holding x b) f = kill-script script _ _ (λ s o. (o.0, elim o.1 [ inl m ↦ inl m | inr k ↦ inr (h k) ])) f
kill-step P script taken K L h (reader.Found x b won) f = kill-script script _ _ (λ s o. (o.0, elim o.1 [ inl m ↦ inl m | inr k ↦ inr (h k) ])) f
kill-step P script taken K L h (reader.Unknown b) f = kill-script script _ _ (λ s o. elim o [ inl m ↦ inl m | inr k ↦ inr (h k.0, k.1) ]) f
kill-step P script taken K L h (reader.Bad number at b) f = kill-script script _ _ (λ s o. elim o [ inl m ↦ inl m | inr k ↦ inr (h k) ]) f
kill-step P script taken K L h r f = tt
