-- Reading a line from left to right, as functions on its bytes. Private contracts cite these; the public ones
-- speak of the texts alone.
use Rattle.std.specs.Prelude.{ℕ, min, if◌then◌else◌, List, Option, Some, None, is_some, option_map, codes}
use Rattle.decimal_text.specs.Reading.{◌>>=◌, after}
use Rattle.line_stamps.specs.declared.message.RecallKind.{RecallKind}
use Rattle.line_stamps.specs.declared.message.RecallKind.TheVariants.{WriteBack, Flush}
use Rattle.simulation.specs.declared.command.Command.{Command}
use Rattle.simulation.specs.declared.command.Command.TheVariants.{Turn, Serve, Take, Recall, Evict, Spill, Bump, Round, Op, Finish}
use Rattle.text_lines.specs.Fields.{field_below, last_below, named}

-- a core or an address with a space after it
abbrev pub core_at : ℕ → List ℕ → Option (ℕ × List ℕ)
core_at cores bytes = field_below (min cores 64) bytes

abbrev pub addr_at : List ℕ → Option (ℕ × List ℕ)
addr_at bytes = field_below 65536 bytes

-- a way to give a line back, and the bytes after it
abbrev pub kind_front : RecallKind → List ℕ → RecallKind × List ℕ
kind_front kind rest = (kind, rest)

-- how a line is recalled, with a space after it
unfoldable pub kind_at : List ℕ → Option (RecallKind × List ℕ)
kind_at bytes =
    if is_some (after (codes "wb ") bytes)
    then option_map (kind_front WriteBack) (after (codes "wb ") bytes)
    else option_map (kind_front Flush) (after (codes "flush ") bytes)

-- a core, an address or a stamp that is all there is
abbrev pub last_core : ℕ → List ℕ → Option ℕ
last_core cores bytes = last_below (min cores 64) bytes

abbrev pub last_addr : List ℕ → Option ℕ
last_addr bytes = last_below 65536 bytes

abbrev pub last_stamp : List ℕ → Option ℕ
last_stamp bytes = last_below 281474976710657 bytes

-- the command whose fields these are, after its name
abbrev pub of_core : (ℕ → Command) → ℕ → List ℕ → Option Command
of_core command cores bytes = last_core cores bytes >>= λ core. Some (command core)

unfoldable pub recall_of : ℕ → List ℕ → Option Command
recall_of cores bytes =
    core_at cores bytes >>= λ owner. addr_at owner.1 >>= λ addr. kind_at addr.1 >>= λ kind. last_stamp kind.1 >>= λ rts.
    Some (Recall (record { rts = rts; addr = addr.0; owner = owner.0; kind = kind.0 }))

unfoldable pub evict_of : ℕ → List ℕ → Option Command
evict_of cores bytes = core_at cores bytes >>= λ core. last_addr core.1 >>= λ addr. Some (Evict core.0 addr)

-- the command whose line this is
unfoldable pub command_of : ℕ → List ℕ → Option Command
command_of cores line =
    named (codes "turn ") (of_core (λ core. Turn core) cores) line
    (named (codes "serve ") (of_core (λ core. Serve core) cores) line
    (named (codes "take ") (of_core (λ core. Take core) cores) line
    (named (codes "recall ") (recall_of cores) line
    (named (codes "evict ") (evict_of cores) line
    (named (codes "spill ") (λ fields. last_addr fields >>= λ addr. Some (Spill addr)) line
    (named (codes "bump ") (of_core (λ core. Bump core) cores) line
    (named (codes "round ") (of_core (λ core. Round core) cores) line
    (named (codes "op ") (of_core (λ core. Op core) cores) line
    (named (codes "finish ") (of_core (λ core. Finish core) cores) line None)))))))))
