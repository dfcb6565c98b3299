-- What the columns look at: the entries of a core's transcript with what they need of its past, and those of a slice's history. A Busy
-- makes no entry in either.
use Rattle.std.specs.Prelude.{ℕ, ◌+◌, ◌%◌, false, ◌||◌, ◌==◌, List, [], ◌∷◌, map, slice_get}
use Rattle.std.specs.Option.{option_map_or}
use Rattle.log_record.specs.declared.act.Act.{Act}
use Rattle.log_record.specs.declared.act.Act.TheVariants as act
use Rattle.log_record.specs.declared.record.Record.{Record}
use Rattle.manager_slice.specs.Messages.{is_request}
use Rattle.manager_slice.specs.Parts.{SliceParts}
use Rattle.core_unit.specs.Parts.{UnitParts}
use Rattle.core_unit.specs.declared.entry.CoreEntry.{CoreEntry}
use Rattle.core_unit.specs.declared.entry.CoreEntry.TheVariants.{Performed, Got}
use Rattle.statistics.specs.declared.sight.Past.{Past}
use Rattle.statistics.specs.declared.sight.Sight.{Sight}
use Rattle.statistics.specs.declared.sight.Sight.TheVariants as sight

-- what the columns need of the past of a core that has made no entry
abbrev pub no_past : Past
no_past = record { done = 0; came = false }

-- the past after one entry more: the reply to a request brings a line, and the reply to a give-back doesn't
abbrev pub past_after : Past → CoreEntry → Past
past_after past Performed = record { done = past.done + 1; came = false }
past_after past (Got m r) = record { done = past.done; came = is_request m || past.came }
past_after past other = past

-- the act of the operation at a place of a log, which has a record for each operation (`LogsAreCounted`)
abbrev pub act_at : List Record → ℕ → Act
act_at log place = option_map_or (λ r. r.act) (slice_get log place) act.Store

-- what is seen of an entry that comes after this past
abbrev pub sight_of : ℕ → List Record → Past → CoreEntry → Sight
sight_of period log past Performed = sight.Operation (act_at log past.done) past.came ((past.done + 1) % period == 0)
sight_of period log past e = sight.Core e

-- what is seen of these entries
abbrev pub sights_after : ℕ → List Record → Past → List CoreEntry → List Sight
sights_after period log past [] = []
sights_after period log past (e ∷ es) = sight_of period log past e ∷ sights_after period log (past_after past e) es

abbrev pub core_sights : UnitParts → List Sight
core_sights u = sights_after u.config.period u.log no_past u.transcript

abbrev pub slice_sights : SliceParts → List Sight
slice_sights s = map (λ e. sight.Slice e) s.history
