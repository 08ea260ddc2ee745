-- What a lane's list says of its place.
use Rattle.std.proofs.Common.{◌≡◌, ℕ, ◌+◌, ◌≤◌, Bool, false, List, Option, None, Some, IfNone, IfSome, refl, sym, ap, subst, ◌∙◌, arith}
use Rattle.jobs_pool.specs.Places.{PoolOf}
use Rattle.race_core.specs.Parts.{place_after}
use Rattle.race_core.specs.declared.event.LaneEvent.{LaneEvent}
use Rattle.race_core.specs.declared.event.LaneEvent.TheVariants as event
use Rattle.race_core.specs.declared.part.Place.{Place}
use Rattle.lane_berth.specs.Berths.{BerthOf}
use Rattle.lane_run.specs.Keeping.{HasChildStart, IsChildStart}
use Rattle.lane_run.specs.Placed.{placed_after}
use Rattle.lane_run.specs.Starting.{TellsStart}

-- an entry is made under an allowance
pub placed_some : {T : Type 0} (pool : Option PoolOf) (e : LaneEvent T) (p p' : Place) → IfNone pool ⊥ → p' ≡ place_after e p → p' ≡ placed_after pool e p
placed_some None e p p' some is = absurd some
placed_some (Some pool) e p p' some is = is

-- and none without
pub placed_none : {T : Type 0} (pool : Option PoolOf) (e : LaneEvent T) (p : Place) → IfSome pool (λ _. ⊥) → p ≡ placed_after pool e p
placed_none None e p none = refl
placed_none (Some pool) e p none = absurd none

-- a start that is entered is told, and none is entered without an allowance
pub told_some : {T : Type 0} (pool : Option PoolOf) (e : LaneEvent T) (es : List (LaneEvent T)) → (IsChildStart e → HasChildStart es) → IfSome pool (λ _. IsChildStart e → HasChildStart es)
told_some None e es told = tt
told_some (Some pool) e es told = told

pub told_none : {T : Type 0} (pool : Option PoolOf) (e : LaneEvent T) (es : List (LaneEvent T)) → IfSome pool (λ _. ⊥) → IfSome pool (λ _. IsChildStart e → HasChildStart es)
told_none None e es none = tt
told_none (Some pool) e es none = absurd none

-- and it stays told
pub told_after : {T : Type 0} (pool pool' : Option PoolOf) (es es' : List (LaneEvent T)) → pool' ≡ pool → IfSome pool' (λ _. IsChildStart {T = T} event.Start → HasChildStart es)
    → (HasChildStart es → HasChildStart es') → TellsStart pool es'
told_after None pool' es es' same told stays = tt
told_after {T} (Some pool) pool' es es' same told stays =
    stays (subst (λ (p : Option PoolOf). IfSome p (λ _. IsChildStart {T = T} event.Start → HasChildStart es)) same told tt)

abbrev berth : {L : Type 0} → L → Option PoolOf → Bool → Bool → BerthOf L
berth bay pool holds stands = record { bay = bay; pool = pool; holds = holds; stands = stands }

-- a lane that took a place and gave it back has changed its bay alone
pub given_back : {L : Type 0} (b₀ b₁ b₂ : BerthOf L) → b₀.holds ≡ false → b₁ ≡ record b₀ { holds = b₁.holds } → b₂ ≡ record b₁ { bay = b₂.bay; holds = false } → b₂ ≡ record b₀ { bay = b₂.bay }
given_back {L} b₀ b₁ b₂ away took gave =
    gave ∙ (ap (λ (p : Option PoolOf). berth b₂.bay p false b₁.stands) (ap (λ (b : BerthOf L). b.pool) took)
    ∙ (ap (λ (s : Bool). berth b₂.bay b₀.pool false s) (ap (λ (b : BerthOf L). b.stands) took)
    ∙ ap (λ (h : Bool). berth b₂.bay b₀.pool h b₀.stands) (sym away)))

-- so has one that gave it back without a child
pub given_up : {L : Type 0} (b₀ b₁ b₂ : BerthOf L) → b₀.holds ≡ false → b₁ ≡ record b₀ { holds = b₁.holds } → b₂ ≡ record b₁ { holds = false } → b₂ ≡ record b₀ { bay = b₂.bay }
given_up {L} b₀ b₁ b₂ away took gave =
    given_back b₀ b₁ b₂ away took (gave ∙ ap (λ (x : L). berth x b₁.pool false b₁.stands) (sym (ap (λ (b : BerthOf L). b.bay) gave)))

-- and one that took none
pub left_alone : {L : Type 0} (b₀ b₁ : BerthOf L) → b₀.holds ≡ false → b₁ ≡ record b₀ { holds = b₁.holds } → b₁.holds ≡ false → b₁ ≡ record b₀ { bay = b₁.bay }
left_alone {L} b₀ b₁ away took still =
    took ∙ (ap (λ (h : Bool). berth b₀.bay b₀.pool h b₀.stands) (still ∙ sym away) ∙ ap (λ (x : L). berth x b₀.pool b₀.holds b₀.stands) (sym (ap (λ (b : BerthOf L). b.bay) took)))

-- one change of what is held after another
pub holds_alone : {L : Type 0} (b₀ b₁ b₂ : BerthOf L) → b₁ ≡ record b₀ { holds = b₁.holds } → b₂ ≡ record b₁ { holds = b₂.holds } → b₂ ≡ record b₀ { holds = b₂.holds }
holds_alone {L} b₀ b₁ b₂ one two = two ∙ ap (λ (b : BerthOf L). berth b.bay b.pool b₂.holds b.stands) one

-- one change of the bay after another
pub bay_alone : {L : Type 0} (b₀ b₁ b₂ : BerthOf L) → b₁ ≡ record b₀ { bay = b₁.bay } → b₂ ≡ record b₁ { bay = b₂.bay } → b₂ ≡ record b₀ { bay = b₂.bay }
bay_alone {L} b₀ b₁ b₂ one two = two ∙ ap (λ (b : BerthOf L). berth b₂.bay b.pool b.holds b.stands) one

-- of room for four entries, two are left
pub none_room : {X : Type 0} (why : Option X) (r s : ℕ) → IfNone why (4 ≤ r) → r ≤ s + 2 → IfNone why (2 ≤ s)
none_room None r s four two = omega (four, two, arith)
none_room (Some x) r s four two = tt
