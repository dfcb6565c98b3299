-- What contracts see of a port without locks.
use Rattle.std.specs.Prelude.{List}
use Rattle.lease_rule.specs.ConfigParts.{ConfigParts}
use Rattle.manager_slice.specs.Parts.{SliceParts}

pub record PortParts : Type 0 where
  pub config : ConfigParts
  pub slices : List SliceParts
