-- What states have next, state by state.
use Rattle.std.proofs.Common.{◌≡◌, inl, inr, ℕ, suc, ◌+◌, ◌*◌, ◌-◌, ◌<◌, ◌≤◌, ◌≢◌, List, [], ◌∷◌, ◌++◌, Some, None, length, refl, sym, ap, subst, ◌∙◌, arith, append_assoc, length-append}
use Rattle.std.specs.Prelude.{slice_get}
use Rattle.std.proofs.lemmas.Bool.{cases_lt}
use Rattle.std.proofs.lemmas.List.{append-nil}
use Rattle.std.proofs.lemmas.List.Elements.{All-append}
use Rattle.std.proofs.lemmas.Option.{slice_get_within}
use Rattle.sby_bits.specs.Rows.{Row}
use Rattle.cell_table.specs.Cells.{slice_fn}
use Rattle.btor_core.specs.Fits.{IsBtor, IsUntied, MayGoOn}
use Rattle.btor_core.specs.Growth.{with_body}
use Rattle.btor_core.specs.Meaning.{Holds, Values}
use Rattle.btor_core.specs.Shape.{BtorOf, TieOf, bads, constraints, inits, nexts, open_words, state_at}
use Rattle.btor_core.specs.declared.line.Body.{Body}
use Rattle.btor_core.specs.declared.line.Body.TheVariants as body
use Rattle.btor_core.specs.declared.line.Word.{Word}
use Rattle.btor_core.proofs.Choosing.{front_holds}
use Rattle.btor_core.proofs.Fitting.{state_stays}
use Rattle.btor_core.proofs.Growing.{bads_body, constraints_body, grows_body, grows_on, grows_same, inits_body, nexts_body, open_body}
use Rattle.btor_words.specs.Emitting.{Emits}
use Rattle.btor_emit.specs.Nexts.{AreParts, HasNext, IsPartOf, MayHaveParts, OnlyTies}
use Rattle.btor_emit.specs.declared.shape.State.{State}
use Rattle.model_core.proofs.Lists.{all_from, at_place, push-either}

-- the state may have the value next
pub may_go_on : (m0 m1 : BtorOf) (part state : Word) (f : Values → Row) → Emits m0 m1 part state.width 2 f → 1 ≤ state.width → state_at m0.lines state.nid ≡ state.width → IsUntied (nexts m0.lines) state.nid → MayGoOn m1.lines state part
may_go_on m0 m1 part state f e some is untied = record {
  some = some;
  state = state_stays m0 m1 e.adds.grows state.nid state.width is some;
  value = e.word.width ∙ e.size;
  first = subst (λ (ts : List TieOf). IsUntied ts state.nid) (sym e.adds.lists.nexts) untied;
}

next_there : (m0 m1 : BtorOf) (part state : Word) (s : ℕ) (f : Values → Row) → Emits m0 m1 part state.width 2 f → IsBtor (with_body m1 (body.Next s state.nid part.nid)) → HasNext m0 (with_body m1 (body.Next s state.nid part.nid)) state f
next_there m0 m1 part state s f e btor =
    let b : Body = body.Next s state.nid part.nid in
    let g = grows_body m1 b in
    let m2 : BtorOf = with_body m1 b in
    let a = e.adds in
    record {
      value = part.nid;
      ties = record {
        btor = btor;
        grows = grows_on m0 m1 m2 a.grows g;
        opened = open_body m1 b ∙ append-nil (open_words m1.lines) ∙ a.opened;
        inits = inits_body m1 b ∙ append-nil (inits m1.lines) ∙ a.lists.inits;
        nexts = nexts_body m1 b ∙ ap (λ (ts : List TieOf). ts ++ record { state = state.nid; value = part.nid } ∷ []) a.lists.nexts;
        constraints = constraints_body m1 b ∙ append-nil (constraints m1.lines) ∙ a.lists.constraints;
        bads = bads_body m1 b ∙ append-nil (bads m1.lines) ∙ a.lists.bads;
        few = (let h = a.few in let k = length-append m1.lines (record { nid = suc (length m1.lines); body = b } ∷ []) in omega arith);
      };
      holds = λ vs h. a.holds vs (front_holds m1 m2 a.btor g vs h);
    }

pub next_by : (m0 m1 m2 : BtorOf) (part state : Word) (s : ℕ) (f : Values → Row) → Emits m0 m1 part state.width 2 f → m2 ≡ with_body m1 (body.Next s state.nid part.nid) → IsBtor m2 → HasNext m0 m2 state f
next_by m0 m1 m2 part state s f e is btor = subst (λ (m : BtorOf). HasNext m0 m state f) (sym is) (next_there m0 m1 part state s f e (subst IsBtor is btor))

-- one state after the other
pub record PartsTo (old new : BtorOf) (ss : List State) (from to : ℕ) (row : Word) (first end : ℕ) : Type 0 where
  pub ties : List TieOf
  pub only : OnlyTies old new (3 * length ties) ties
  pub long : from + length ties ≡ to
  pub inside : to ≤ length ss
  pub each : (k j : ℕ) (s : State) (t : TieOf) → from + j ≡ k → slice_get ss k ≡ Some s → slice_get ties j ≡ Some t → IsPartOf new first (λ vs. vs row.nid) s t
  pub before : (k : ℕ) (s : State) → from ≤ k → k < to → slice_get ss k ≡ Some s → s.first < end

pub parts_none : (m : BtorOf) (ss : List State) (from : ℕ) (row : Word) (first end : ℕ) → IsBtor m → from ≤ length ss → PartsTo m m ss from from row first end
parts_none m ss from row first end btor inside = record {
  ties = [];
  only = record { btor = btor; grows = grows_same m; opened = refl; inits = refl; nexts = sym (append-nil (nexts m.lines)); constraints = refl; bads = refl; few = omega arith };
  long = omega arith;
  inside = inside;
  each = λ k j s t e a b. absurd (let c : None ≡ Some t = b in cc);
  before = λ k s l h at. absurd (omega arith);
}

module _ (m0 m1 m2 : BtorOf) (ss : List State) (from to : ℕ) (row : Word) (first end : ℕ) (s : State) (old : PartsTo m0 m1 ss from to row first end) (at : slice_get ss to ≡ Some s) where
  -- the next state isn't in a tie yet
  pub untied_yet : MayHaveParts m0 ss from row first end → IsUntied (nexts m1.lines) s.word.nid
  untied_yet may =
      subst (λ (ts : List TieOf). IsUntied ts s.word.nid) (sym old.only.nexts)
      (All-append (λ (t : TieOf). t.state ≢ s.word.nid) (nexts m0.lines) old.ties (may.untied to s (let l = old.long in omega arith) at)
      (all_from (λ (t : TieOf). t.state ≢ s.word.nid) old.ties (λ j t there q.
      let b = slice_get_within old.ties j t there in
      let l = old.long in
      let c = slice_get_within ss to s at in
      let u = at_place ss (from + j) (omega arith) in
      let same : u.0.word.nid ≡ s.word.nid = sym (old.each (from + j) j u.0 t refl u.1 there).state ∙ q in
      let e = may.apart (from + j) to u.0 s u.1 at same in
      absurd (omega arith))))

  pub parts_more : HasNext m1 m2 s.word (λ vs. slice_fn s.word.width (s.first - first) (vs row.nid)) → s.first < end → PartsTo m0 m2 ss from (to + 1) row first end
  parts_more new below =
      let o = old.only in
      let n = new.ties in
      let tie : TieOf = record { state = s.word.nid; value = new.value } in
      let back : (vs : Values) → Holds m2 vs → Holds m1 vs = λ vs h. front_holds m1 m2 o.btor n.grows vs h in
      let one = length-append old.ties (tie ∷ []) in
      record {
        ties = old.ties ++ tie ∷ [];
        only = record {
          btor = n.btor;
          grows = grows_on m0 m1 m2 o.grows n.grows;
          opened = n.opened ∙ o.opened;
          inits = n.inits ∙ o.inits;
          nexts = n.nexts ∙ ap (λ (ts : List TieOf). ts ++ tie ∷ []) o.nexts ∙ append_assoc (nexts m0.lines) old.ties (tie ∷ []);
          constraints = n.constraints ∙ o.constraints;
          bads = n.bads ∙ o.bads;
          few = (let f = o.few in let g = n.few in omega arith);
        };
        long = (let l = old.long in omega arith);
        inside = (let l = slice_get_within ss to s at in omega arith);
        each = λ k j u t e a there.
            elim (push-either old.ties tie t j there) as (λ _. IsPartOf m2 first (λ vs. vs row.nid) u t) [
              | inl b ↦ let p = old.each k j u t e a b in record { state = p.state; value = λ vs h. p.value vs (back vs h) }
              | inr b ↦
                  let l = old.long in
                  let z = b.0 in
                  let here : k ≡ to = omega arith in
                  let x : Some u ≡ Some s = sym a ∙ ap (λ (w : ℕ). slice_get ss w) here ∙ at in
                  let same : s ≡ u = cc in
                  subst (λ (w : State). IsPartOf m2 first (λ vs. vs row.nid) w t) same (record {
                    state = ap (λ (w : TieOf). w.state) b.1;
                    value = λ vs h. ap (λ (w : TieOf). vs w.value) b.1 ∙ new.holds vs h;
                  })
            ];
        before = λ k u l h a.
            elim (cases_lt k to) as (λ _. u.first < end) [
              | inl under ↦ old.before k u l under a
              | inr over ↦
                  let here : k ≡ to = omega arith in
                  let x : Some u ≡ Some s = sym a ∙ ap (λ (w : ℕ). slice_get ss w) here ∙ at in
                  let same : s ≡ u = cc in
                  subst (λ (w : State). w.first < end) same below
            ];
      }

pub parts_all : (m0 m1 : BtorOf) (ss : List State) (from to : ℕ) (row : Word) (first end : ℕ) → PartsTo m0 m1 ss from to row first end → ((s : State) → slice_get ss to ≡ Some s → end ≤ s.first) → AreParts m0 m1 ss from to row first end
parts_all m0 m1 ss from to row first end p past = record { ties = p.ties; only = p.only; long = p.long; inside = p.inside; each = p.each; before = p.before; past = past }
