use Rattle.std.proofs.Common.{◌≡◌, ◌<◌, ◌++◌, ◌∷◌, [], ℕ, List, Err, ap, subst, ◌∙◌}
use Rattle.cnf_form.specs.Cnf.{LitOf}
use Rattle.cnf_form.specs.declared.literal.TheConstants.{MAX_VARS}
use Rattle.gate_graph.specs.declared.gates.GateFault.{GateFault}
use Rattle.net_unroll.specs.Making.{made_of, run}
use Rattle.net_unroll.specs.Program.{values, watch}
use Rattle.net_unroll.specs.Program.Step.{Assume}
use Rattle.net_unroll.proofs.Stepping.{past_more, past_three, past_two, three}
use Rattle.net_unroll.proofs.cycles.add_cycle.Goals as goal

pub returns-in-Err-clause-too_many : goal.returns-in-Err-clause-too_many
returns-in-Err-clause-too_many c h =
    let f : c.in-Err.fault ≡ GateFault.TooMany = cc in
    subst (λ (vs : List ℕ). MAX_VARS < (run (made_of c.args.made.now) (values c.args.net.now c.args.cycles c.args.t vs ++ (Assume c.args.net.now.assumed ∷ watch c.args.goal c.args.cycles c.args.t))).core.vars) c.requires.needed
    (past_more (made_of c.args.made.now) (values c.args.net.now c.args.cycles c.args.t c.args.places.now) (Assume c.args.net.now.assumed ∷ watch c.args.goal c.args.cycles c.args.t) (c.in-Err.ensures.too_many (ap Err f)))

pub returns-in-Err-assume-clause-too_many : goal.returns-in-Err-assume-clause-too_many
returns-in-Err-assume-clause-too_many c h =
    let f : c.in-Err-assume.fault ≡ GateFault.TooMany = cc in
    subst (λ (vs : List ℕ). MAX_VARS < (run (made_of c.args.made.now) (values c.args.net.now c.args.cycles c.args.t vs ++ (Assume c.args.net.now.assumed ∷ watch c.args.goal c.args.cycles c.args.t))).core.vars) c.requires.needed
    (past_two (made_of c.args.made.now) (made_of c.add_values.new.made) (values c.args.net.now c.args.cycles c.args.t c.args.places.now) (Assume c.args.net.now.assumed) (watch c.args.goal c.args.cycles c.args.t) c.in-Ok.ensures.made
    (subst (λ (l : LitOf). MAX_VARS < (run (made_of c.add_values.new.made) (Assume l ∷ [])).core.vars) c.assumed.ensures (c.in-Err-assume.ensures.too_many (ap Err f))))

pub returns-in-Err-watch-clause-too_many : goal.returns-in-Err-watch-clause-too_many
returns-in-Err-watch-clause-too_many c h =
    let f : c.in-Err-watch.fault ≡ GateFault.TooMany = cc in
    subst (λ (vs : List ℕ). MAX_VARS < (run (made_of c.args.made.now) (values c.args.net.now c.args.cycles c.args.t vs ++ (Assume c.args.net.now.assumed ∷ watch c.args.goal c.args.cycles c.args.t))).core.vars) c.requires.needed
    (past_three (made_of c.args.made.now) (made_of c.add_values.new.made) (made_of c.assume.new.made) (values c.args.net.now c.args.cycles c.args.t c.args.places.now) (Assume c.args.net.now.assumed) (watch c.args.goal c.args.cycles c.args.t) c.in-Ok.ensures.made
    (subst (λ (l : LitOf). made_of c.assume.new.made ≡ run (made_of c.add_values.new.made) (Assume l ∷ [])) c.assumed.ensures c.in-Ok-assume.ensures.made) (c.in-Err-watch.ensures.too_many (ap Err f)))

pub returns-clause-made : goal.returns-clause-made
returns-clause-made c =
    three (made_of c.args.made.now) (made_of c.add_values.new.made) (made_of c.assume.new.made) (made_of c.watch.new.made) (values c.args.net.now c.args.cycles c.args.t c.args.places.now) (Assume c.args.net.now.assumed) (watch c.args.goal c.args.cycles c.args.t) c.in-Ok.ensures.made
    (subst (λ (l : LitOf). made_of c.assume.new.made ≡ run (made_of c.add_values.new.made) (Assume l ∷ [])) c.assumed.ensures c.in-Ok-assume.ensures.made) c.in-Ok-watch.ensures.made
    ∙ ap (λ (vs : List ℕ). run (made_of c.args.made.now) (values c.args.net.now c.args.cycles c.args.t vs ++ (Assume c.args.net.now.assumed ∷ watch c.args.goal c.args.cycles c.args.t))) c.requires.needed
