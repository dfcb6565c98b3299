-- The table of a litmus test's runs.
use Rattle.std.proofs.Common.{◌≡◌, ◌∙◌, ℕ, Bool, true, false, Option}
use Rattle.std.proofs.lemmas.List.{length-map}
use Rattle.lease_rule.specs.ConfigParts.{ConfigParts}
use Rattle.litmus.specs.Collecting.{total}
use Rattle.litmus.specs.Parts.{LitmusParts}
use Rattle.litmus.specs.declared.collecting.Collected.{Collected}
use Rattle.commands.specs.Tabling.{IsTableBy}

-- its counts add up to the runs
pub counted : (threads : Bool) (t : LitmusParts) (g : ConfigParts) (runs seed : ℕ) (stress : Option ℕ) (collected : Collected) → IsTableBy threads t g runs seed stress collected
    → total collected.table.rows ≡ runs
counted true t g runs seed stress collected is = is.rows.all ∙ length-map is.ends _ ∙ is.count
counted false t g runs seed stress collected is = is.rows.all ∙ length-map is.ends _ ∙ is.count
