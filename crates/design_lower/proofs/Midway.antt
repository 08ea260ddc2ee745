-- A design while it is lowered, one cell after the other.
use Rattle.std.proofs.Common.{◌≡◌, ◌⊎◌, ◌↔◌, inl, inr, ℕ, zero, suc, ◌+◌, ◌-◌, ◌<◌, ◌≤◌, ◌^◌, Bool, true, false, List, [], ◌∷◌, ◌++◌, length, drop, set, Some, Contains, refl, ap, sym, subst, ◌∙◌, arith, append_assoc}
use Rattle.std.specs.Prelude.{slice_get}
use Rattle.std.proofs.lemmas.Bool.{cases_lt}
use Rattle.std.proofs.lemmas.List.{drop_all}
use Rattle.design_core.specs.Asked.{number_at}
use Rattle.design_core.specs.Shape.{WireOf, CellOf, DesignOf, IsWire}
use Rattle.design_core.specs.Table.{role_of}
use Rattle.design_core.specs.declared.names.ParameterName.TheVariants.{Width}
use Rattle.design_core.specs.declared.table.Role.TheVariants.{Combinational, Register, AsyncResetRegister}
use Rattle.design_core.proofs.Designs.{slice_get-append}
use Rattle.design_meaning.specs.Meaning.{IsCell, IsStart}
use Rattle.digraph.proofs.Lists.{get-at, get-below}
use Rattle.design_lower.specs.Lowering.{FitsReset, HasDigit, IsKeptWire, IsLowered, LowersOne, LowersSome, kept_name, names, register, shown, with_lowered}
use Rattle.design_lower.specs.Progress.{IsMidway, IsNames, has, midway}
use Rattle.design_lower.proofs.Alike.{IsWired}
use Rattle.design_lower.proofs.Beginning.{other-from, other-to}
use Rattle.design_lower.proofs.Lists.{get-behind, get-either}
use Rattle.design_lower.proofs.Made.{no-register}
use Rattle.design_lower.proofs.Naming.{names-kept, names-new, new-name, same-number}
use Rattle.design_lower.proofs.Running.{one-wired}

append-nil : {X : Type 0} (xs : List X) → xs ++ [] ≡ xs
append-nil [] = refl
append-nil {X = X} (x ∷ xs) = ap (λ (l : List X). x ∷ l) (append-nil xs)

pub drop-at : {X : Type 0} (xs : List X) (i : ℕ) (x : X) → slice_get xs i ≡ Some x → drop i xs ≡ x ∷ drop (i + 1) xs
drop-at [] i x h = cc
drop-at {X = X} (y ∷ xs) zero x h = let same : y ≡ x = cc in ap (λ (z : X). z ∷ xs) same
drop-at {X = X} (y ∷ xs) (suc i) x h = let e : (suc i) + 1 ≡ suc (i + 1) = omega arith in drop-at xs i x h ∙ ap (λ (n : ℕ). x ∷ drop n (y ∷ xs)) (sym e)

get-drop : {X : Type 0} (xs : List X) (i k : ℕ) → slice_get (drop i xs) k ≡ slice_get xs (i + k)
get-drop [] zero k = refl
get-drop [] (suc i) k = refl
get-drop (x ∷ xs) zero k = let e : k ≡ 0 + k = omega arith in ap (λ (n : ℕ). slice_get (x ∷ xs) n) e
get-drop (x ∷ xs) (suc i) k = let e : suc (i + k) ≡ (suc i) + k = omega arith in get-drop xs i k ∙ ap (λ (n : ℕ). slice_get (x ∷ xs) n) e

set-behind : {X : Type 0} (xs : List X) (y z : X) (ys : List X) (i : ℕ) → length xs ≡ i → set (xs ++ (y ∷ ys)) i z ≡ xs ++ (z ∷ ys)
set-behind [] y z ys zero h = refl
set-behind [] y z ys (suc i) h = absurd (omega arith)
set-behind (x ∷ xs) y z ys zero h = absurd (omega arith)
set-behind {X = X} (x ∷ xs) y z ys (suc i) h = ap (λ (l : List X). x ∷ l) (set-behind xs y z ys i (omega (arith, h)))

push-front : {X : Type 0} (xs : List X) (y : X) (ys : List X) → xs ++ (y ∷ ys) ≡ (xs ++ y ∷ []) ++ ys
push-front [] y ys = refl
push-front {X = X} (x ∷ xs) y ys = ap (λ (l : List X). x ∷ l) (push-front xs y ys)

length-push : {X : Type 0} (xs : List X) (y : X) (i : ℕ) → length xs ≡ i → length (xs ++ y ∷ []) ≡ i + 1
length-push [] y i h = omega (arith, h)
length-push (x ∷ xs) y zero h = absurd (omega arith)
length-push (x ∷ xs) y (suc i) h = let r = length-push xs y i (omega (arith, h)) in omega (arith, r)

steps-push : (n : ℕ) (d m e : DesignOf) → LowersSome n d m → LowersOne m e → LowersSome (suc n) d e
steps-push zero d m e same one = (e, subst (λ (x : DesignOf). LowersOne x e) (sym same) one, refl)
steps-push (suc n) d m e steps one = (steps.0, steps.1, steps-push n steps.0 m e steps.2 one)

pub steps-wired : (n : ℕ) (d e : DesignOf) → IsWired d → LowersSome n d e → IsWired e
steps-wired zero d e wired same = subst (λ (x : DesignOf). IsWired x) same wired
steps-wired (suc n) d e wired steps = steps-wired n steps.0 e (one-wired d steps.0 wired steps.1) steps.2

pub midway-start : (d : DesignOf) → IsMidway d 0 d.wires [] [] 0
midway-start d =
    let same : d ≡ midway d 0 d.wires [] [] = ap (λ (l : List CellOf). record d { cells = l }) (sym (append-nil d.cells)) in
    record {
      count = 0;
      steps = same;
      through = refl;
      low = λ k c h f. absurd cc;
      starts = λ j k x le lt. (λ h. subst (λ (y : DesignOf). IsStart y j k x) (sym same) h, λ h. subst (λ (y : DesignOf). IsStart y j k x) same h);
      old = λ n h. subst (λ (y : DesignOf). Contains (names y) n) same h;
      used = λ k lt. absurd (omega (arith, lt));
      new = λ n h. inl (subst (λ (y : DesignOf). Contains (names y) n) (sym same) h);
    }

module _ (d : DesignOf) (i : ℕ) (ws : List WireOf) (cs ch : List CellOf) (number : ℕ) (mid : IsMidway d i ws cs ch number) where
  -- a cell that isn't through yet stands in its place
  pub midway-there : (j : ℕ) (c : CellOf) → i ≤ j → IsCell d j c → IsCell (midway d i ws cs ch) j c
  midway-there j c le at =
      let e : j ≡ length cs + (j - i) = omega (arith, mid.through) in
      let f : i + (j - i) ≡ j = omega arith in
      let here : slice_get (drop i d.cells) (j - i) ≡ Some c = get-drop d.cells i (j - i) ∙ (ap (λ (n : ℕ). slice_get d.cells n) f ∙ at) in
      ap (λ (n : ℕ). slice_get (cs ++ (drop i d.cells ++ ch)) n) e ∙ (get-behind cs (drop i d.cells ++ ch) (j - i) ∙ slice_get-append (drop i d.cells) ch (j - i) c here)

  through-low : (k : ℕ) (c : CellOf) → k < i → IsCell (midway d i ws cs ch) k c → FitsReset c → ⊥
  through-low k c lt at f = elim (get-either cs (drop i d.cells ++ ch) k c at) as (λ _. ⊥) [
    | inl front ↦ mid.low k c (slice_get-append cs ch k c front) f
    | inr rest ↦ let e = rest.1 in absurd (omega (arith, lt, e, mid.through))
  ]

  -- a cell that stays
  pub midway-skip : (c : CellOf) → IsCell d i c → (FitsReset c → ⊥) → IsMidway d (i + 1) ws (cs ++ c ∷ []) ch number
  midway-skip c at unfit =
      let cells : cs ++ (drop i d.cells ++ ch) ≡ (cs ++ c ∷ []) ++ (drop (i + 1) d.cells ++ ch) =
      ap (λ (l : List CellOf). cs ++ (l ++ ch)) (drop-at d.cells i c at) ∙ push-front cs c (drop (i + 1) d.cells ++ ch) in
      let same : midway d i ws cs ch ≡ midway d (i + 1) ws (cs ++ c ∷ []) ch = ap (λ (l : List CellOf). record d { wires = ws; cells = l }) cells in
      record {
        count = mid.count;
        steps = subst (λ (y : DesignOf). LowersSome mid.count d y) same mid.steps;
        through = length-push cs c i mid.through;
        low = λ k x h f. elim (get-either (cs ++ c ∷ []) ch k x h) as (λ _. ⊥) [
          | inl front ↦ elim (get-either cs (c ∷ []) k x front) as (λ _. ⊥) [
            | inl old ↦ mid.low k x (slice_get-append cs ch k x old) f
            | inr new ↦ unfit (subst (λ (y : CellOf). FitsReset y) (only new.0 x c new.2) f)
          ]
          | inr rest ↦ mid.low (length cs + rest.0) x (get-behind cs ch rest.0 ∙ rest.2) f
        ];
        starts = λ j k x le lt.
            let s = mid.starts j k x (omega (arith, le)) lt in
            (λ h. s.0 (subst (λ (y : DesignOf). IsStart y j k x) (sym same) h), λ h. subst (λ (y : DesignOf). IsStart y j k x) same (s.1 h));
        old = λ n h. subst (λ (y : DesignOf). Contains (names y) n) same (mid.old n h);
        used = λ k lt. subst (λ (y : DesignOf). Contains (names y) (kept_name k)) same (mid.used k lt);
        new = λ n h. mid.new n (subst (λ (y : DesignOf). Contains (names y) n) (sym same) h);
      }
    where
      only : (k : ℕ) (x y : CellOf) → slice_get (y ∷ []) k ≡ Some x → x ≡ y
      only zero x y e = cc
      only (suc k) x y e = absurd cc

  -- a cell that is lowered
  module _ (wired : IsWired d) (c : CellOf) (at : IsCell d i c) (fits : FitsReset c) (wire : WireOf) (list : List (List ℕ)) (known : IsNames d list) (n : ℕ) where
    m-wired : IsWired (midway d i ws cs ch)
    m-wired = steps-wired mid.count d (midway d i ws cs ch) wired mid.steps

    here : IsCell (midway d i ws cs ch) i c
    here = midway-there i c (omega arith) at

    pub midway-kept : number ≤ n → n < 2 ^ 32 → ((k : ℕ) → number ≤ k → k < n → has list (kept_name k) ≡ true) → wire.name ≡ kept_name n → has list (kept_name n) ≡ false
        → IsWire wire → wire.width ≡ number_at c.parameters Width → wire.input ≡ false → ((k : ℕ) (x : Bool) → HasDigit wire k x ↔ IsStart d i k x) → IsKeptWire (midway d i ws cs ch) i c wire
    midway-kept from few taken name free well width input digits = record {
      number = n;
      name = name;
      unused = λ h. elim (mid.new (kept_name n) h) as (λ _. ⊥) [
        | inl old ↦ let yes = (known (kept_name n)).1 old in let clash : true ≡ false = sym yes ∙ free in absurd cc
        | inr used ↦ let lt = used.1 in let same = same-number n used.0 (omega arith) (omega (arith, lt)) used.2 in absurd (omega (arith, lt, same))
      ];
      least = λ k lt. elim (cases_lt k number) as (λ _. Contains (names (midway d i ws cs ch)) (kept_name k)) [
        | inl less ↦ mid.used k less
        | inr most ↦ mid.old (kept_name k) ((known (kept_name k)).0 (taken k most lt))
      ];
      wire = well;
      width = width;
      input = input;
      digits = λ k x.
          let s = mid.starts i k x (omega arith) (get-below d.cells i c at) in
          let t = digits k x in
          (λ h. s.1 (t.0 h), λ h. t.1 (s.0 h));
    }

    module _ (kept : IsKeptWire (midway d i ws cs ch) i c wire) (name : wire.name ≡ kept_name n) (from : number ≤ n)
        (taken : (k : ℕ) → number ≤ k → k < n → has list (kept_name k) ≡ true) where
      lowered-same : with_lowered (midway d i ws cs ch) i c wire ≡ midway d (i + 1) (ws ++ wire ∷ []) (cs ++ register (length ws) c ∷ []) (ch ++ shown (length ws) c ∷ [])
      lowered-same =
          let r : CellOf = register (length ws) c in
          let more : List CellOf = shown (length ws) c ∷ [] in
          let cells : set (cs ++ (drop i d.cells ++ ch)) i r ++ more ≡ (cs ++ r ∷ []) ++ (drop (i + 1) d.cells ++ (ch ++ more)) =
          ap (λ (l : List CellOf). set (cs ++ (l ++ ch)) i (register (length ws) c) ++ shown (length ws) c ∷ []) (drop-at d.cells i c at)
          ∙ (ap (λ (l : List CellOf). l ++ shown (length ws) c ∷ []) (set-behind cs c r (drop (i + 1) d.cells ++ ch) i mid.through)
          ∙ (append_assoc cs (r ∷ (drop (i + 1) d.cells ++ ch)) more
          ∙ (ap (λ (l : List CellOf). cs ++ (register (length ws) c ∷ l)) (append_assoc (drop (i + 1) d.cells) ch more)
          ∙ push-front cs r (drop (i + 1) d.cells ++ (ch ++ more))))) in
          ap (λ (l : List CellOf). record d { wires = ws ++ wire ∷ []; cells = l }) cells

      one : LowersOne (midway d i ws cs ch) (midway d (i + 1) (ws ++ wire ∷ []) (cs ++ register (length ws) c ∷ []) (ch ++ shown (length ws) c ∷ []))
      one = record {
        place = i;
        cell = c;
        there = here;
        fits = fits;
        first = λ k x lt there f. through-low k x lt there f;
        wire = wire;
        kept = kept;
        lowered = sym lowered-same;
      }

      new-low : (k : ℕ) (x : CellOf) → slice_get ((cs ++ register (length ws) c ∷ []) ++ (ch ++ shown (length ws) c ∷ [])) k ≡ Some x → FitsReset x → ⊥
      new-low k x h f = elim (get-either (cs ++ register (length ws) c ∷ []) (ch ++ shown (length ws) c ∷ []) k x h) as (λ _. ⊥) [
        | inl front ↦ elim (get-either cs (register (length ws) c ∷ []) k x front) as (λ _. ⊥) [
          | inl old ↦ mid.low k x (slice_get-append cs ch k x old) f
          | inr new ↦
              let same : x ≡ register (length ws) c = only new.0 x (register (length ws) c) new.2 in
              let role : AsyncResetRegister ≡ Register = sym f.role ∙ (ap (λ (y : CellOf). role_of y.kind) same ∙ no-register (midway d i ws cs ch) m-wired i c here fits wire) in
              absurd cc
        ]
        | inr rest ↦ elim (get-either ch (shown (length ws) c ∷ []) rest.0 x rest.2) as (λ _. ⊥) [
          | inl old ↦ mid.low (length cs + rest.0) x (get-behind cs ch rest.0 ∙ old) f
          | inr new ↦
              let same : x ≡ shown (length ws) c = only new.0 x (shown (length ws) c) new.2 in
              let role : AsyncResetRegister ≡ Combinational = sym f.role ∙ ap (λ (y : CellOf). role_of y.kind) same in
              absurd cc
        ]
      ]
        where
          only : (j : ℕ) (y z : CellOf) → slice_get (z ∷ []) j ≡ Some y → y ≡ z
          only zero y z e = cc
          only (suc j) y z e = absurd cc

      pub midway-lower : IsMidway d (i + 1) (ws ++ wire ∷ []) (cs ++ register (length ws) c ∷ []) (ch ++ shown (length ws) c ∷ []) (n + 1)
      midway-lower =
          let e = midway d (i + 1) (ws ++ wire ∷ []) (cs ++ register (length ws) c ∷ []) (ch ++ shown (length ws) c ∷ []) in
          let m = midway d i ws cs ch in
          record {
            count = suc mid.count;
            steps = steps-push mid.count d (midway d i ws cs ch) (midway d (i + 1) (ws ++ wire ∷ []) (cs ++ register (length ws) c ∷ []) (ch ++ shown (length ws) c ∷ [])) mid.steps one;
            through = length-push cs (register (length ws) c) i mid.through;
            low = new-low;
            starts = λ j k x le lt.
                let z = get-at d.cells j lt in
                let there = midway-there j z.0 (omega (arith, le)) z.1 in
                let other : j ≡ i → ⊥ = λ f. absurd (omega (arith, le, f)) in
                let s = mid.starts j k x (omega (arith, le)) lt in (
                  λ h. s.0 (other-from m m-wired i c here fits wire kept j z.0 there other k x (subst (λ (y : DesignOf). IsStart y j k x) (sym lowered-same) h)),
                  λ h. subst (λ (y : DesignOf). IsStart y j k x) lowered-same (other-to m m-wired i c here fits wire kept j z.0 there other k x (s.1 h)),
                );
            old = λ l h. subst (λ (y : DesignOf). Contains (names y) l) lowered-same (names-kept m i c here fits wire l (mid.old l h));
            used = λ k lt. subst (λ (y : DesignOf). Contains (names y) (kept_name k)) lowered-same (elim (cases_lt k number) as (λ _. Contains (names (with_lowered (midway d i ws cs ch) i c wire)) (kept_name k)) [
              | inl less ↦ names-kept m i c here fits wire (kept_name k) (mid.used k less)
              | inr most ↦ elim (cases_lt k n) as (λ _. Contains (names (with_lowered (midway d i ws cs ch) i c wire)) (kept_name k)) [
                | inl less ↦ names-kept m i c here fits wire (kept_name k) (mid.old (kept_name k) ((known (kept_name k)).0 (taken k most less)))
                | inr last ↦
                    let same : n ≡ k = omega (arith, lt, last) in
                    let is : wire.name ≡ kept_name k = name ∙ ap kept_name same in
                    subst (λ (l : List ℕ). Contains (names (with_lowered (midway d i ws cs ch) i c wire)) l) is (new-name m i c here fits wire)
              ]
            ]);
            new = λ l h. elim (names-new m i c here fits wire l (subst (λ (y : DesignOf). Contains (names y) l) (sym lowered-same) h)) as (λ _. Contains (names d) l ⊎ ((k : ℕ) × (k < n + 1) × (l ≡ kept_name k))) [
              | inl older ↦ elim (mid.new l older) as (λ _. Contains (names d) l ⊎ ((k : ℕ) × (k < n + 1) × (l ≡ kept_name k))) [
                | inl oldest ↦ inl oldest
                | inr used ↦ let lt = used.1 in inr (used.0, omega (arith, lt, from), used.2)
              ]
              | inr this ↦ inr (n, omega arith, this ∙ name)
            ];
          }

-- all cells are through
pub midway-end : (d : DesignOf) (ws : List WireOf) (cs ch : List CellOf) (number : ℕ) → IsMidway d (length d.cells) ws cs ch number → IsLowered d (record d { wires = ws; cells = cs ++ ch })
midway-end d ws cs ch number mid =
    let same : midway d (length d.cells) ws cs ch ≡ record d { wires = ws; cells = cs ++ ch } =
    ap (λ (l : List CellOf). record d { wires = ws; cells = cs ++ (l ++ ch) }) (drop_all (length d.cells) d.cells (omega arith)) in
    record {
      count = mid.count;
      steps = subst (λ (y : DesignOf). LowersSome mid.count d y) same mid.steps;
      low = λ k c at f. mid.low k c at f;
    }
