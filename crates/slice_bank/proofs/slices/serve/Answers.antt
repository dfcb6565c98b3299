use Rattle.slice_bank.proofs.slices.serve.Goals as goal

pub returns-clause-by_some : goal.returns-clause-by_some
returns-clause-by_some c = record {
  slice = c.args.slice.now;
  replays = c.replays.ensures;
  left = c.handle.new.self;
  served = record { table = c.handle.ensures.table; outcome = c.handle.ensures.outcome };
}
