use Rattle.std.proofs.Common.{inl, arith}
use Rattle.audit.proofs.machine_fault.MachineFault.log.Goals as goal

pub returns-clause-whole : goal.returns-clause-whole
returns-clause-whole c =
    inl (record {
      unit = c.in-Some.unit.now;
      is_core = omega (arith, c.core.ensures);
      replays = c.replays.ensures.replays;
      log_is = c.log.ensures.records;
    })
