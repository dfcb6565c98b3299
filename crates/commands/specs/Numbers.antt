-- What a run leaves in the folder: its logs, and then its numbers.
use Rattle.std.specs.Prelude.{◌⊎◌, ℕ, List, Option, map, take}
use Rattle.std.specs.Borrow.{Bor}
use Rattle.log_record.specs.declared.format.Format.{Format}
use Rattle.log_record.specs.declared.record.Record.{Record}
use Rattle.manager_slice.specs.Parts.{SliceParts}
use Rattle.core_unit.specs.Parts.{UnitParts}
use Rattle.statistics.specs.Numbers.{core_counts, slice_counts}
use Rattle.statistics.specs.TableText.{statistics_text}
use Rattle.host_files.specs.Files.{Files}
use Rattle.commands.specs.Logs.{ArePut, ArePutAsFar}
use Rattle.commands.specs.Outputs.{FailsPutAt, IsNameOf, PutsAt}
use Rattle.command_line.specs.RunFiles.{IsLogName}

-- the text of the numbers of the first `cores` units and the first `slices` slices
abbrev pub numbers_of : ℕ → ℕ → List UnitParts → List SliceParts → List ℕ
numbers_of cores slices us ss = statistics_text (map core_counts (take cores us)) (map slice_counts (take slices ss))

-- a name under which a run may put a file: that of a log, or of its numbers
abbrev pub IsLeftName : List ℕ → Option (Bor (List ℕ)) → List ℕ → Type 0
IsLeftName out statistics name = IsLogName out name ⊎ IsNameOf statistics name

-- the logs of all cores were put, and then this holds of the folder before and after
abbrev pub AreLeftThen : Format → Files → Files → List ℕ → ℕ → (ℕ → List Record) → (Files → Files → Type 0) → Type 0
AreLeftThen format old new out cores made Then = (mid : Files) × ArePut format old mid out cores made × Then mid new

-- The logs were put, and then the numbers whose text this is, up to the first put that failed, or to where memory ran out.
abbrev pub AreLeftAsFar : Format → Files → Files → List ℕ → ℕ → (ℕ → List Record) → Option (Bor (List ℕ)) → List ℕ → Type 0
AreLeftAsFar format old new out cores made statistics text =
    ArePutAsFar format old new out cores made
    ⊎ AreLeftThen format old new out cores made (λ mid after. PutsAt mid after statistics text ⊎ FailsPutAt mid after statistics)
