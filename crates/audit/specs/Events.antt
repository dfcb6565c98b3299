-- One order of all entries is a run of the core machine.
use Rattle.std.specs.Prelude.{◌≡◌, ℕ, true, false, List, [], ◌∷◌, ◌++◌, length, map, Some, None, slice_get}
use Rattle.line_stamps.specs.declared.line.Line.{Line}
use Rattle.line_stamps.specs.declared.message.Message.{Message}
use Rattle.line_stamps.specs.declared.message.Message.TheVariants.{WbRep, FlushRep}
use Rattle.line_stamps.specs.declared.message.RecallKind.TheVariants.{WriteBack}
use Rattle.line_stamps.specs.declared.message.Reply.{Reply}
use Rattle.lease_rule.specs.ConfigParts.{ConfigParts}
use Rattle.core_program.specs.declared.instruction.Instruction.{Instruction}
use Rattle.manager_slice.specs.Changes.{slice_of}
use Rattle.manager_slice.specs.Messages.{is_request}
use Rattle.manager_slice.specs.Parts.{SliceParts}
use Rattle.manager_slice.specs.Replay as slice
use Rattle.core_unit.specs.Core.{Core}
use Rattle.core_unit.specs.Kept as kept
use Rattle.core_unit.specs.Parts.{UnitParts, core_of, replayed}
use Rattle.core_unit.specs.declared.entry.CoreEntry.TheVariants.{Performed, Dropped, Gave, Bumped}
use Rattle.core_machine.specs.Machine.{World, Run, opening}
use Rattle.core_machine.specs.declared.event.Event.{Event}
use Rattle.core_machine.specs.declared.event.Event.TheVariants.{Turn, Serve, Take, Recall as Recalls, Evict, Spill, Increment}
use Rattle.audit.specs.Lists.{transcripts, histories}
use Rattle.audit.specs.Merges.{Move, alone, evicts, passes, IsMerge}
use Rattle.audit.specs.Runs.{IsRun}

-- the events of a step of an order
pub data AreEvents : Move → List Event → Type 0 where
  performs : (c : ℕ) → AreEvents (alone c Performed) (Turn c ∷ [])
  drops : (c a : ℕ) → AreEvents (alone c (Dropped a)) (Evict c a ∷ [])
  flushes : (c a : ℕ) (l : Line) → AreEvents (alone c (Gave (FlushRep a l))) (Evict c a ∷ [])
  -- the entry doesn't have the recall's `rts`
  writes_back : (c a asked : ℕ) (l : Line) → AreEvents (alone c (Gave (WbRep a l))) (Recalls c (record { rts = asked; addr = a; owner = c; kind = WriteBack }) ∷ [])
  bumps : (c : ℕ) → AreEvents (alone c Bumped) (Increment c ∷ [])
  spills : (s a : ℕ) → AreEvents (evicts s a) (Spill a ∷ [])
  requests : (c s : ℕ) (m : Message) (r : Reply) → is_request m ≡ true → AreEvents (passes c s m r) (Turn c ∷ Serve c ∷ Take c ∷ [])
  gives_back : (c s : ℕ) (m : Message) (r : Reply) → is_request m ≡ false → AreEvents (passes c s m r) (Serve c ∷ Take c ∷ [])

-- the events of an order, step by step
pub data AreReadOff : List Move → List Event → Type 0 where
  none : AreReadOff [] []
  more : (m : Move) (ms : List Move) (es fs : List Event) → AreEvents m es → AreReadOff ms fs → AreReadOff (m ∷ ms) (es ++ fs)

-- events that are read off the order lead the core machine from w to v
pub record IsRunOf (g : ConfigParts) (w : World) (order : List Move) (v : World) : Type 0 where
  pub events : List Event
  pub read_off : AreReadOff order events
  pub run : Run g w events v

-- units and slices of one machine, each with a state that is the replay of its own list
pub record AreOneMachine (g : ConfigParts) (us : List UnitParts) (ss : List SliceParts) : Type 0 where
  pub count : length ss ≡ g.slices
  pub core : (c : ℕ) (u : UnitParts) → slice_get us c ≡ Some u → u.core ≡ c
  pub config : (c : ℕ) (u : UnitParts) → slice_get us c ≡ Some u → u.config ≡ g
  pub unit : (c : ℕ) (u : UnitParts) → slice_get us c ≡ Some u → kept.Replays u
  pub slice_config : (n : ℕ) (s : SliceParts) → slice_get ss n ≡ Some s → s.config ≡ g
  pub slice : (n : ℕ) (s : SliceParts) → slice_get ss n ≡ Some s → slice.Replays s

-- these cores, and these slices without their order of service
abbrev pub world_of : List Core → List SliceParts → World
world_of cores ss = record { cores = cores; slices = map (λ s. slice_of s.state) ss }

-- A merge of the whole lists leads from the start of the programs to the states of the units and slices. A request in hand makes
-- no entry, so it is in no merge.
abbrev pub MergesAreRuns : Type 0
MergesAreRuns =
    (g : ConfigParts) (us : List UnitParts) (ss : List SliceParts) (order : List Move) →
    AreOneMachine g us ss → IsMerge (transcripts us) (histories ss) order →
    IsRunOf g (opening (map (λ u. u.program) us) g.slices) order (world_of (map replayed us) ss)

-- after a whole run of the programs each hand is empty, and a merge leads to just the states that its units have
abbrev pub WholeRunsAreRuns : Type 0
WholeRunsAreRuns =
    (programs : List (List Instruction)) (g : ConfigParts) (us : List UnitParts) (ss : List SliceParts) (order : List Move) →
    IsRun programs g us ss → IsMerge (transcripts us) (histories ss) order →
    IsRunOf g (opening programs g.slices) order (world_of (map (λ u. core_of u None) us) ss)
