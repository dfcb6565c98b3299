-- Rounds of drawn cores, and commands that are drawn between them.
use Rattle.std.specs.Prelude.{◌≡◌, ℕ, zero, suc, ◌+◌, ◌%◌, ◌<◌, ◌≤◌, nat_eq, nat_lt, Bool, not, if◌then◌else◌, List, [], ◌∷◌, ◌++◌, Option, None, Some, option_and_then, length, replicate, get_or, slice_get, slice_set}
use Rattle.std.specs.List.{filter}
use Rattle.std.specs.Option.{option_map}
use Rattle.rand_core.specs.Pcg32Seed.{pcg32_seed}
use Rattle.rand_pcg.specs.Lcg.{Lcg}
use Rattle.rand_pcg.specs.Pcg.{pcg32_of_seed}
use Rattle.line_stamps.specs.declared.message.RecallKind.{RecallKind}
use Rattle.line_stamps.specs.declared.message.RecallKind.TheVariants.{WriteBack, Flush}
use Rattle.core_unit.specs.Core.{next_of, op_addr}
use Rattle.simulation.specs.declared.command.Command.{Command}
use Rattle.simulation.specs.declared.command.Command.TheVariants as command
use Rattle.core_machine.specs.Machine.{World}
use Rattle.core_machine.specs.Parts.{CoreParts, world}
use Rattle.tardis_core.specs.Picks.{IsPick, one_word_on, word}
use Rattle.tardis_core.specs.Rounds.{IsRefusedRound, IsRound}
use Rattle.core_machine.specs.Works.{has_next, log_at}
use Rattle.tardis_core.specs.declared.rounds.fault.RoundCause.TheVariants as cause
use Rattle.simulation.specs.Commands.{CommandLeads, IsOfCore, IsRefusedCommand}
use Rattle.simulation.specs.declared.fault.SimulationFault.{SimulationFault}
use Rattle.simulation.specs.declared.fault.SimulationFault.TheVariants.{Core, OutOfMemory}

-- ---- which core is drawn

-- the cores below c that haven't ended, in ascending order
abbrev pub left_below : World → ℕ → List ℕ
left_below w zero = []
left_below w (suc c) = left_below w c ++ (if has_next w c then c ∷ [] else [])

-- all that haven't ended; there are 64 at most
unfoldable pub cores_left : World → List ℕ
cores_left w = left_below w 64

-- the other cores
abbrev pub is_other : ℕ → ℕ → Bool
is_other core other = not (nat_eq other core)

abbrev pub without : ℕ → List ℕ → List ℕ
without core cores = filter (is_other core) cores

-- ---- which command is drawn

-- the address of the next operation of core c
abbrev pub next_address : World → ℕ → Option ℕ
next_address w c = option_and_then (λ u. option_map op_addr (next_of u)) (slice_get w.cores c)

-- a recall to core c of the line of address a
abbrev pub recall_at : RecallKind → ℕ → ℕ → Command
recall_at kind c a = command.Recall (record { rts = 0; addr = a; owner = c; kind = kind })

-- the commands of core c and of address a that may be drawn
abbrev pub commands_at : ℕ → ℕ → List Command
commands_at c a = command.Evict c a ∷ command.Spill a ∷ command.Bump c ∷ recall_at WriteBack c a ∷ recall_at Flush c a ∷ []

-- the generator's next three words draw a core, another, whose next operation tells the address, and one of the commands
pub record IsDrawnCommand (g : Lcg) (w : World) (x : Command) : Type 0 where
  pub core : ℕ
  pub drawn : IsPick g (cores_left w) core
  pub other : ℕ
  pub other_drawn : IsPick (one_word_on g) (cores_left w) other
  pub address : ℕ
  pub address_is : next_address w other ≡ Some address
  pub command_is : slice_get (commands_at core address) (word (one_word_on (one_word_on g)) % 5) ≡ Some x

abbrev pub after_command : Lcg → Lcg
after_command g = one_word_on (one_word_on (one_word_on g))

-- a drawn command leads from p to q; nothing is done where none is drawn
abbrev pub Disturbs : Option Lcg → CoreParts → CoreParts → Type 0
Disturbs None p q = q ≡ p
Disturbs (Some g) p q = (x : Command) × IsDrawnCommand g (world p) x × CommandLeads p x q

-- it led from p to q, where it is refused
abbrev pub IsUndisturbed : Option Lcg → CoreParts → CoreParts → SimulationFault → Type 0
IsUndisturbed None p q fault = ⊥
IsUndisturbed (Some g) p q fault = (x : Command) × IsDrawnCommand g (world p) x × IsRefusedCommand p x q fault

-- ---- the rounds that are drawn

-- how far the draws have come: the generator, that of the commands between rounds, and for each core how many rounds were drawn since
-- its last operation
pub record Draws : Type 0 where
  pub generator : Lcg
  pub stress : Option Lcg
  pub waits : List ℕ

abbrev pub generator_of : ℕ → Lcg
generator_of seed = pcg32_of_seed (pcg32_seed 16 seed)

-- the draws of a seed, and of one for commands, if there is one
abbrev pub draws_of : ℕ → Option ℕ → Draws
draws_of seed stress = record { generator = generator_of seed; stress = option_map generator_of stress; waits = replicate 64 0 }

-- how many rounds were drawn for core c since its last operation, after one that led from p to q
abbrev pub waited : List ℕ → ℕ → CoreParts → CoreParts → ℕ
waited waits c p q = if nat_lt (length (log_at (world p) c)) (length (log_at (world q) c)) then 0 else get_or waits c 0 + 1

-- the draws after a round of core c
abbrev pub after_round : Draws → ℕ → CoreParts → CoreParts → Draws
after_round d c p q = record { generator = one_word_on d.generator; stress = option_map after_command d.stress; waits = slice_set d.waits c (waited d.waits c p q) }

-- core c is drawn, and its round leads from p to q
pub record IsDrawnRound (d : Draws) (p : CoreParts) (c : ℕ) (q : CoreParts) : Type 0 where
  pub drawn : IsPick d.generator (cores_left (world p)) c
  pub round : IsRound c p q

-- the draws lead from p to q; no core has waited for 1,000 rounds
pub data Leads (d : Draws) (p : CoreParts) : Draws → CoreParts → Type 0 where
  no_round : Leads d p d p
  one_more : (e : Draws) (q : CoreParts) (c : ℕ) (r t : CoreParts) → Leads d p e q → Disturbs e.stress q r → IsDrawnRound e r c t →
      waited e.waits c r t < 1000 → Leads d p (after_round e c r t) t

-- some draws of the seeds lead from p to q, where all cores have ended
pub record IsDrawnOut (seed : ℕ) (stress : Option ℕ) (p q : CoreParts) : Type 0 where
  pub draws : Draws
  pub leads : Leads (draws_of seed stress) p draws q
  pub none_left : cores_left (world q) ≡ []

-- The draws of the seeds lead from p to a state in which a core is drawn whose round is refused, or is its 1,000th without an operation,
-- or in which the drawn command is refused; or memory runs out before the first.
pub data IsDrawFault (seed : ℕ) (stress : Option ℕ) (p q : CoreParts) (fault : SimulationFault) : Type 0 where
  stopped : (draws : Draws) (between : CoreParts) (c : ℕ) (r : CoreParts) → Leads (draws_of seed stress) p draws between →
      Disturbs draws.stress between r → IsPick draws.generator (cores_left (world r)) c → IsOfCore (IsRefusedRound c r q) fault →
      IsDrawFault seed stress p q fault
  gave_up : (draws : Draws) (between : CoreParts) (c : ℕ) (r : CoreParts) → Leads (draws_of seed stress) p draws between →
      Disturbs draws.stress between r → IsDrawnRound draws r c q → 1000 ≤ waited draws.waits c r q →
      fault ≡ Core (record { core = c; fault = cause.GaveUp }) → IsDrawFault seed stress p q fault
  undisturbed : (draws : Draws) (between : CoreParts) → Leads (draws_of seed stress) p draws between →
      IsUndisturbed draws.stress between q fault → IsDrawFault seed stress p q fault
  no_memory : q ≡ p → fault ≡ OutOfMemory → IsDrawFault seed stress p q fault
