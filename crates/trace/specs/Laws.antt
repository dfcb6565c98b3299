-- Laws of the texts of traces.
use Rattle.std.specs.Prelude.{◌≡◌, ◌≢◌, ℕ, List}
use Rattle.mem_op.specs.Consistency.{Operation}
use Rattle.trace.specs.declared.fault.TraceFault.{TraceFault}
use Rattle.trace.specs.declared.fault.TraceFault.TheVariants.{OutOfMemory}
use Rattle.trace.specs.Texts.{SpellsTrace, IsFault}

-- bytes are the text of one trace at most
abbrev pub SpellsOne : Type 0
SpellsOne = (bytes : List ℕ) (p q : List (List Operation)) → SpellsTrace bytes p → SpellsTrace bytes q → p ≡ q

-- the text of a trace has no fault: reading it gives the trace
abbrev pub SpelledIsRead : Type 0
SpelledIsRead = (bytes : List ℕ) (cores : List (List Operation)) (fault : TraceFault) → SpellsTrace bytes cores → IsFault bytes fault → fault ≡ OutOfMemory

-- bytes have one fault at most, lack of memory aside
abbrev pub AtMostOneFault : Type 0
AtMostOneFault =
    (bytes : List ℕ) (f g : TraceFault) → IsFault bytes f → IsFault bytes g → f ≢ OutOfMemory → g ≢ OutOfMemory → f ≡ g
