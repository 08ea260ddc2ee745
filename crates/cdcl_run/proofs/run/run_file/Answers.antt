use Rattle.std.proofs.Common.{refl, inl}
use Rattle.cdcl_run.proofs.run.run_file.Goals as goal

pub returns-in-None : goal.returns-in-None
returns-in-None g c = record {
  did = (
    refl,
    inl (record {
      none = c.in-None.ensures.none;
      exit_is = c.refuse.ensures.exit;
      line = c.refuse.ensures.line (g.F.Files.told c.args.files.now) (g.F.Files.faults c.args.files.now);
      file_faults = refl;
    }),
  );
}
