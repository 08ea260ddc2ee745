use Rattle.std.proofs.Common.{◌∙◌, ap, sym}
use Rattle.sby_top.specs.Served.{is_btor}
use Rattle.sby_top.proofs.PutLemmas.{btor_within, none_more}
use Rattle.sby_top.proofs.put.some_btor.Goals as goal

pub returns-then-is_btor : goal.returns-then-is_btor
returns-then-is_btor c = sym (btor_within c.args.engines.now c.loop-engine.engine-index _ c.loop-engine-test.true (ap is_btor (sym c.engine-item.is) ∙ (sym c.is_btor.ensures ∙ c.if-is_btor.true)))

pub loop-engine-preserved : goal.loop-engine-preserved
loop-engine-preserved c = none_more c.args.engines.now c.loop-engine.engine-index _ c.loop-engine-test.true (ap is_btor (sym c.engine-item.is) ∙ (sym c.is_btor.ensures ∙ c.if-is_btor.false)) c.loop-engine.invariant
