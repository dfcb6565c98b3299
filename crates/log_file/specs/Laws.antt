-- Laws of the definitions.
use Rattle.std.specs.Prelude.{◌≡◌, ◌≢◌, ◌<◌, ◌^◌, ℕ, List, ◌++◌, length, Ok}
use Rattle.log_record.specs.declared.format.Format.{Format}
use Rattle.log_record.specs.declared.record.Record.{Record}
use Rattle.log_file.specs.declared.fault.FormatFault.{FormatFault}
use Rattle.log_file.specs.declared.fault.FormatFault.TheVariants.{Truncated}
use Rattle.log_file.specs.Answering.{Answering, HasAnswered}
use Rattle.log_file.specs.Feeding.{IsOpen}
use Rattle.log_file.specs.Log.{Spells, HasNoFault, IsFirstFault, spelling}

-- bytes that spell a log have no fault
abbrev pub SpelledHasNoFault : Type 0
SpelledHasNoFault =
    (core cores : ℕ) (bytes : List ℕ) (records : List Record) → Spells core cores bytes records → HasNoFault core cores bytes

-- bytes without a fault spell a log, and one log only
abbrev pub FaultlessSpellsOne : Type 0
FaultlessSpellsOne =
    (core cores : ℕ) (bytes : List ℕ) → HasNoFault core cores bytes
    → (records : List Record) × (Spells core cores bytes records)
    × ((others : List Record) → Spells core cores bytes others → others ≡ records)

-- no spelling begins another, even in the other format, and each spelling is that of one log in one format
abbrev pub NoSpellingBeginsAnother : Type 0
NoSpellingBeginsAnother =
    (f g : Format) (a b c d : ℕ) (rs qs : List Record) (x y : List ℕ)
    → spelling f a b rs ++ x ≡ spelling g c d qs ++ y → (f ≡ g) × (a ≡ c) × (b ≡ d) × (rs ≡ qs)

-- a first fault other than Truncated stays the first, however the bytes go on
abbrev pub FaultStays : Type 0
FaultStays =
    (core cores : ℕ) (bytes more : List ℕ) (k : ℕ) (f : FormatFault)
    → IsFirstFault core cores bytes k f → f ≢ Truncated → IsFirstFault core cores (bytes ++ more) k f

-- no fault but Truncated holds of bytes that a reader of records took without a fault, and these are fewer than 2^27
abbrev pub NoFaultPassedOver : Type 0
NoFaultPassedOver =
    (s : Answering) (bytes : List ℕ) (records : List Record) → HasAnswered s bytes records
    → IsOpen s.core s.cores (Ok bytes) × (length bytes < 2 ^ 27)
