-- Why there is no text.
use Rattle.std.specs.Prelude.{⊤, ℕ, List}
use Rattle.log_file.specs.declared.device_fault.ReadFault.{ReadFault}
use Rattle.log_file.specs.declared.device_fault.ReadFault.TheVariants.{OutOfMemory, Read}

-- the file of this name can't be read, or memory ran out
abbrev pub IsNoText : (List ℕ → Type 0) → List ℕ → ReadFault → Type 0
IsNoText unread name Read = unread name
IsNoText unread name OutOfMemory = ⊤
