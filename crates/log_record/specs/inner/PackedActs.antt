-- An act whose source is packed shows the act.
use Rattle.std.specs.Prelude.{◌≡◌, refl}
use Rattle.log_record.specs.declared.act.Act.{Act}
use Rattle.log_record.specs.declared.act.Act.TheVariants as act
use Rattle.log_record.specs.declared.act.Packed.{Packed}
use Rattle.log_record.specs.declared.act.Packed.TheVariants as packed

abbrev pub act_of : Packed → Act
act_of (packed.Load source) = act.Load source
act_of packed.Store = act.Store
act_of (packed.Swap source read) = act.Swap source read

abbrev pub packed_of : Act → Packed
packed_of (act.Load source) = packed.Load source
packed_of act.Store = packed.Store
packed_of (act.Swap source read) = packed.Swap source read

-- nothing is lost
pub packed_of-act_of : (a : Packed) → packed_of (act_of a) ≡ a
packed_of-act_of (packed.Load source) = refl
packed_of-act_of packed.Store = refl
packed_of-act_of (packed.Swap source read) = refl
