-- What a reader of all lines has found. Private contracts cite these.
use Rattle.std.specs.Prelude.{ℕ, List}
use Rattle.core_program.specs.Sections.{section_lists}
use Rattle.litmus.specs.Tests.{IsFault}
use Rattle.litmus.specs.Parts.{LitmusParts}
use Rattle.litmus.specs.declared.litmus_fault.LitmusFault.{LitmusFault}
use Rattle.litmus.specs.declared.litmus_fault.LitmusFault.TheVariants.{BadLitmusLine, BadLine, TooLong, SkipPastEnd, OutOfMemory}
use Rattle.litmus.specs.declared.parsing.Parts.{Parts}
use Rattle.litmus.specs.inner.Ending.{word_lists}

-- the test that its lines say
abbrev pub parts_of : Parts → LitmusParts
parts_of parts = record {
  name = parts.name.items;
  format = parts.format;
  programs = section_lists parts.sections.items;
  shown = parts.shown.items;
  forbidden = word_lists parts.forbidden.items;
}

-- a fault that isn't a jump past the end of its program
abbrev pub IsLineFault : List ℕ → LitmusFault → Type 0
IsLineFault bytes (SkipPastEnd k) = ⊥
IsLineFault bytes (BadLitmusLine k) = IsFault bytes (BadLitmusLine k)
IsLineFault bytes (BadLine k) = IsFault bytes (BadLine k)
IsLineFault bytes (TooLong k) = IsFault bytes (TooLong k)
IsLineFault bytes OutOfMemory = IsFault bytes OutOfMemory
