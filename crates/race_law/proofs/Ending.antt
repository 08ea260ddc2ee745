-- The ends of a quiet run have the outcome of Plain's ends.
use Rattle.race_core.specs.Carrying.{Looked}
use Rattle.std.proofs.Common.{◌≡◌, ◌⊎◌, ℕ, ◌<◌, Bool, true, List, [], ◌∷◌, Option, Some, None, refl, sym, ap, ◌∙◌, subst, inl, inr, arith}
use Rattle.race_core.specs.Parts.{Terms}
use Rattle.race_core.specs.Ends.{HasReason, Yields, HasEnd, Leaves, EndIs}
use Rattle.race_law.specs.World.{Script, OfScript, plain}
use Rattle.race_law.specs.Invariant.{FromScript, ReasonOk, KeeperOk, LooksOk}
use Rattle.race_core.specs.declared.event.Judged.TheVariants as progress
use Rattle.race_core.specs.declared.event.LaneEvent.{LaneEvent}
use Rattle.race_core.specs.declared.event.LaneEvent.TheVariants as event
use Rattle.race_core.specs.declared.end.JobEnd.{JobEnd}
use Rattle.race_core.specs.declared.end.JobEnd.TheVariants as end
use Rattle.race_core.specs.declared.part.By.{By}
use Rattle.race_core.specs.declared.part.Reader.{Reader}
use Rattle.race_core.specs.declared.part.Reader.TheVariants as reader
use Rattle.race_core.specs.declared.part.Keeper.{Keeper}
use Rattle.race_core.specs.declared.part.Keeper.TheVariants as keeper
use Rattle.race_core.specs.declared.part.Reason.TheVariants as reason

-- the variants told apart
kind : {T : Type 0} → JobEnd T → ℕ
kind (end.Found f) = 0
kind end.Unknown = 1
kind (end.Bad number at) = 2
kind end.ReadFailed = 3
kind e = 4

apart : (m n : ℕ) → m < n → m ≡ n → ⊥
apart m n lt e = omega arith

found-same : {T : Type 0} (f g : T) → end.Found f ≡ end.Found g → f ≡ g
found-same f g e = cc

-- an own finding is the script's, or came after the kill
pub end-found : {T : Type 0} (P : T → Type 0) (script : Option (Script T)) (taken : ℕ) (K : Type 0) (r : Reader T) (f : T) → FromScript P script taken K r → HasEnd r (end.Found f)
    → OfScript script (λ s. P f × ((plain s ≡ progress.Found f) ⊎ K))
unfolding kind
end-found P script taken K (reader.Holding g b) f o h = absurd h
end-found P script taken K (reader.Found g b won) f o h = subst (λ x. OfScript script (λ s. P x × ((plain s ≡ progress.Found x) ⊎ K))) (sym (found-same f g h)) o
end-found P script taken K (reader.Unknown b) f o h = absurd (apart 0 1 (omega arith) (ap (λ x. kind x) h))
end-found P script taken K (reader.Bad number at b) f o h = absurd (apart 0 2 (omega arith) (ap (λ x. kind x) h))
end-found P script taken K reader.Failed f o h = absurd (apart 0 3 (omega arith) (ap (λ x. kind x) h))
end-found P script taken K r f o h = absurd h

-- an unknown is the script's, or came at the close after the kill
pub end-unknown : {T : Type 0} (P : T → Type 0) (script : Option (Script T)) (taken : ℕ) (K : Type 0) (r : Reader T) → FromScript P script taken K r → HasEnd r end.Unknown
    → OfScript script (λ s. (plain s ≡ progress.Unknown) ⊎ (K × Yields r))
unfolding kind
end-unknown P script taken K (reader.Unknown b) o h = o
end-unknown P script taken K (reader.Holding g b) o h = absurd h
end-unknown P script taken K (reader.Found g b won) o h = absurd (apart 0 1 (omega arith) (sym (ap (λ x. kind x) h)))
end-unknown P script taken K (reader.Bad number at b) o h = absurd (apart 1 2 (omega arith) (ap (λ x. kind x) h))
end-unknown P script taken K reader.Failed o h = absurd (apart 1 3 (omega arith) (ap (λ x. kind x) h))
end-unknown P script taken K r o h = absurd h

bad-same : {T : Type 0} (n a m b : ℕ) (e : JobEnd T) → e ≡ end.Bad n a → e ≡ end.Bad m b → (n ≡ m) × (a ≡ b)
bad-same n a m b e h k = (cc, cc)

-- a bad certificate is the script's, or came after the kill
pub end-bad : {T : Type 0} (P : T → Type 0) (script : Option (Script T)) (taken : ℕ) (K : Type 0) (r : Reader T) (n a : ℕ) → FromScript P script taken K r → HasEnd r (end.Bad n a)
    → OfScript script (λ s. (plain s ≡ progress.Bad n a) ⊎ K)
unfolding kind
end-bad P script taken K (reader.Bad m x b) n a o h = let same = bad-same n a m x (end.Bad n a) refl h in subst (λ (i : ℕ). OfScript script (λ s. (plain s ≡ progress.Bad i a) ⊎ K)) (sym same.0)
    (subst (λ (j : ℕ). OfScript script (λ s. (plain s ≡ progress.Bad m j) ⊎ K)) (sym same.1) o)
end-bad P script taken K (reader.Holding g b) n a o h = absurd h
end-bad P script taken K (reader.Found g b won) n a o h = absurd (apart 0 2 (omega arith) (sym (ap (λ x. kind x) h)))
end-bad P script taken K (reader.Unknown b) n a o h = absurd (apart 1 2 (omega arith) (sym (ap (λ x. kind x) h)))
end-bad P script taken K reader.Failed n a o h = absurd (apart 2 3 (omega arith) (ap (λ x. kind x) h))
end-bad P script taken K r n a o h = absurd h

-- the end of a reader that settled its finding is that finding
leaves-not : {T : Type 0} (f : T) (b : By) (won : Bool) (k : Keeper T) → Leaves (reader.Found f b won) k → ⊥
leaves-not f b won k h = elim h [ inl s ↦ s | inr o ↦ elim o [ inl y ↦ y.0 | inr u ↦ u.0 ] ]

pub found-end : {T : Type 0} (a : Terms T) (known : T → Type 0) (f : T) (b : By) (won : Bool) (k : Keeper T) (e : JobEnd T) → EndIs a known (reader.Found f b won) k e → e ≡ end.Found f
unfolding kind
found-end a known f b won k (end.Found g) h = h
found-end a known f b won k end.Unknown h = absurd (apart 0 1 (omega arith) (sym (ap (λ x. kind x) h.0)))
found-end a known f b won k (end.Bad number at) h = absurd (apart 0 2 (omega arith) (sym (ap (λ x. kind x) h.0)))
found-end a known f b won k end.ReadFailed h = absurd (apart 0 3 (omega arith) (sym (ap (λ x. kind x) h)))
found-end a known f b won k (end.Stopped t) h = absurd (leaves-not f b won k h.0)
found-end a known f b won k (end.CalledOff g) h = absurd (leaves-not f b won k h.0)
found-end a known f b won k (end.Skipped g) h = absurd h.0
found-end a known f b won k end.HoldFailed h = absurd (leaves-not f b won k h.0)
found-end a known f b won k end.StartFailed h = absurd h.0
found-end a known f b won k end.Memory h = absurd (leaves-not f b won k h.0)
found-end a known f b won k end.NotServed h = absurd h

-- what a look of the list showed stands in the cell
pub looked-cell : {T : Type 0} (cells : ℕ → Option T) (es : List (LaneEvent T)) (c : ℕ) (f : T) → LooksOk cells es → Looked c f es → cells c ≡ Some f
looked-cell cells [] c f o h = absurd h
looked-cell {T} cells (event.Look d (Some g) ∷ es) c f o h = elim h [ inl x ↦ ap (λ (n : ℕ). cells n) (sym x.0) ∙ o.0 ∙ x.1 | inr x ↦ looked-cell cells es c f o.1 x ]
looked-cell {T} cells (event.Look d None ∷ es) c f o h = elim h [ inl x ↦ absurd (none-some f x.1) | inr x ↦ looked-cell cells es c f o x ]
  where
    none-some : {S : Type 0} (g : S) → None ≡ Some g → ⊥
    none-some g e = cc
looked-cell cells (e ∷ es) c f o h = looked-cell cells es c f o h

-- a keeper's reason that is a finding is known
pub skip-known : {T : Type 0} (needless : T → Bool) (cells : ℕ → Option T) (Q : Type 0) (k : Keeper T) (f : T) → KeeperOk needless cells Q k → HasReason k (reason.Skip f) → (needless f ≡ true) × ((c : ℕ) × (cells c ≡ Some f))
skip-known needless cells Q (keeper.Due w) f o h = subst (λ x. ReasonOk needless cells Q x) h o
skip-known needless cells Q (keeper.Killed w) f o h = subst (λ x. ReasonOk needless cells Q x) h o
skip-known needless cells Q k f o h = absurd h

pub needless-known : {T : Type 0} (needless : T → Bool) (cells : ℕ → Option T) (Q : Type 0) (k : Keeper T) (f : T) → KeeperOk needless cells Q k → HasReason k (reason.Needless f) → (needless f ≡ true) × ((c : ℕ) × (cells c ≡ Some f))
needless-known needless cells Q (keeper.Due w) f o h = subst (λ x. ReasonOk needless cells Q x) h o
needless-known needless cells Q (keeper.Killed w) f o h = subst (λ x. ReasonOk needless cells Q x) h o
needless-known needless cells Q k f o h = absurd h
