-- The texts of the faults: the number and name, and the parameter that is out of its range.
use Rattle.std.specs.Prelude.{ℕ, List, ◌++◌, codes}
use Rattle.mem_op.specs.Names.{name_text}
use Rattle.mem_op.specs.declared.fault_name.FaultName.TheVariants as named
use Rattle.lease_rule.specs.declared.fault.BadConfig.{BadConfig}
use Rattle.lease_rule.specs.declared.fault.BadConfig.TheVariants.{Slices, Lease, Period, CacheLines, SliceLines, Inbox, Turns}

abbrev pub fault_text : BadConfig → List ℕ
fault_text Slices = name_text named.BadConfig ++ codes " slices"
fault_text Lease = name_text named.BadConfig ++ codes " lease"
fault_text Period = name_text named.BadConfig ++ codes " period"
fault_text CacheLines = name_text named.BadConfig ++ codes " cache_lines"
fault_text SliceLines = name_text named.BadConfig ++ codes " slice_lines"
fault_text Inbox = name_text named.BadConfig ++ codes " inbox"
fault_text Turns = name_text named.BadConfig ++ codes " turns"
