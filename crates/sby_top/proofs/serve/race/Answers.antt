use Rattle.sby_top.proofs.serve.race.Goals as goal

pub race_serving-came-requires-after_bounds : goal.race_serving-came-requires-after_bounds
race_serving-came-requires-after_bounds g c κs within = let q = c.requires in (q.0, q.1, q.2, q.3.serving)

pub returns-clause-raced : goal.returns-clause-raced
returns-clause-raced g c = λ pool told scripts ready. record {
  served = ready.served;
  came = c.race_serving-came.ensures pool told scripts ready.serving;
  room = ready.room;
}
