-- The judge says Yes to the logs that a run leaves.
use Rattle.std.proofs.Common.{◌≡◌, ◌≤◌, ℕ, zero, suc, ◌+◌, List, [], ◌∷◌, ◌++◌, length, map, inl, inr, refl, sym, ap, subst, ◌∙◌, arith, eq-eqb}
use Rattle.std.specs.Prelude.{Option, None, Some, if◌then◌else◌, nat_eq, slice_get}
use Rattle.std.specs.Option.{option_map, option_map_or}
use Rattle.std.proofs.lemmas.List.{length-append}
use Rattle.std.proofs.lemmas.Option.{slice_get-map}
use Rattle.lease_rule.specs.ConfigParts.{ConfigParts}
use Rattle.log_record.specs.declared.record.Record.{Record}
use Rattle.log_record.specs.Entries.{entries}
use Rattle.log_file.specs.Devices.{Tells}
use Rattle.log_file.specs.Log.{Spells, SpellsIn}
use Rattle.log_record.specs.declared.format.Format.{Format}
use Rattle.log_file.specs.Sets.{SpellFrom}
use Rattle.core_program.specs.declared.instruction.Instruction.{Instruction}
use Rattle.core_program.specs.SetParts.{SetParts}
use Rattle.manager_slice.specs.Parts.{SliceParts}
use Rattle.core_unit.specs.Core.{Core}
use Rattle.core_unit.specs.Parts.{UnitParts, core_of}
use Rattle.core_machine.specs.Machine.{World, Run}
use Rattle.core_machine.specs.Opening.{opening_parts}
use Rattle.core_machine.specs.Parts.{CoreParts, world}
use Rattle.core_machine.specs.Works.{log_at, logs_below}
use Rattle.core_machine.proofs.Opened.{found_in_push, opening_world}
use Rattle.audit.specs.Events.{world_of}
use Rattle.audit.specs.Runs.{IsRun, kept_log}
use Rattle.machine_laws.specs.Laws.{GetYesBy}
use Rattle.machine_laws.proofs.Below.{ended_below_get_yes, whole_below_get_yes}
use Rattle.simulation.specs.Events.{simulated_events}
use Rattle.simulation.specs.Simulating.{IsSimulated}
use Rattle.simulation.specs.declared.command.Command.{Command}
use Rattle.simulation.proofs.Ended.{simulated_ended}
use Rattle.simulation.proofs.SimulatedRuns.{simulated_run}
use Rattle.command_line.specs.RunFiles.{IsLogName}
use Rattle.command_line.specs.declared.request.Run.{Run as AskedRun}
use Rattle.command_line.specs.declared.request.Sim.{Sim as AskedSim}
use Rattle.litmus.proofs.JudgedOutcome.{spell_push}
use Rattle.host_files.specs.Files.{KeepsFiles}
use Rattle.commands.specs.Leaving.{AreLogTexts, LeavesYes}
use Rattle.commands.specs.Logs.{TellsFirst, log_name}
use Rattle.commands.specs.Programs.{AreProgramsIn}
use Rattle.commands.specs.Programmed.{config_of, log_format}

-- ---- texts

-- the texts of the logs of the first n cores
record TextsBelow (told : List ℕ → Option (List ℕ)) (out : List ℕ) (cores : ℕ) (w : World) (n : ℕ) : Type 0 where
  texts : List (List ℕ)
  spell : SpellFrom 0 cores texts (logs_below w n)
  count : length texts ≡ n
  told_each : AreLogTexts told out texts

one_more_told : (told : List ℕ → Option (List ℕ)) (out : List ℕ) (texts : List (List ℕ)) (text : List ℕ) (n : ℕ) → length texts ≡ n → AreLogTexts told out texts
    → Tells (told (log_name out n)) text → AreLogTexts told out (texts ++ text ∷ [])
one_more_told told out texts text n count each tells c t at = elim (found_in_push texts text c t at) [
  | inl old ↦ each c t old
  | inr new ↦ subst (λ (x : List ℕ). Tells (told (log_name out c)) x) (sym new.1) (subst (λ m. Tells (told (log_name out m)) text) (sym (new.0 ∙ count)) tells)
]

texts_below : (format : Format) (told : List ℕ → Option (List ℕ)) (out : List ℕ) (cores : ℕ) (w : World) (n : ℕ) → TellsFirst format told out cores (log_at w) n → TextsBelow told out cores w n
texts_below format told out cores w zero first = record { texts = []; spell = tt; count = refl; told_each = λ c text at. absurd cc }
texts_below format told out cores w (suc n) first =
    let before = texts_below format told out cores w n (λ c below. first c (omega arith)) in
    let (text, tells, spells) = first n (omega arith) in
    let at : n ≡ 0 + n = omega arith in
    record {
      texts = before.texts ++ text ∷ [];
      spell = spell_push 0 cores n before.texts (logs_below w n) text (log_at w n) before.spell before.count (subst (λ (c : ℕ). Spells c cores text (log_at w n)) at (format, spells));
      count = omega (arith, length-append before.texts (text ∷ []), before.count);
      told_each = one_more_told told out before.texts text n before.count before.told_each tells;
    }

-- logs that get Yes against the programs are left
leaves : (told told' : List ℕ → Option (List ℕ)) (name out : List ℕ) (set : SetParts) (w : World) → AreProgramsIn told name set
    → TellsFirst (log_format set.format) told' out (length set.programs) (log_at w) (length set.programs) → GetYesBy set.programs (logs_below w (length set.programs)) → LeavesYes told told' name out
leaves told told' name out set w read first gets_yes =
    let below = texts_below (log_format set.format) told' out (length set.programs) w (length set.programs) first in
    let spell = subst (λ n. SpellFrom 0 n below.texts (logs_below w (length set.programs))) (sym below.count) below.spell in
    (set, read, below.texts, below.count, below.told_each, length (entries (logs_below w (length set.programs))), (logs_below w (length set.programs), spell, sym gets_yes))

-- what is put after the logs leaves them as they are told, as it goes to none of them
pub spared : (format : Format) (told told' : List ℕ → Option (List ℕ)) (out : List ℕ) (cores : ℕ) (made : ℕ → List Record) (IsPut : List ℕ → Type 0) → cores ≤ 64
    → ((name : List ℕ) → IsLogName out name → ¬ (IsPut name)) → KeepsFiles told told' IsPut → TellsFirst format told out cores made cores
    → TellsFirst format told' out cores made cores
spared format told told' out cores made IsPut few apart keeps first c below =
    let (text, tells, spells) = first c below in
    let same = keeps (log_name out c) (apart (log_name out c) (c, omega arith, refl)) in
    (text, subst (λ (t : Option (List ℕ)). Tells t text) (sym same) tells, spells)

-- ---- a simulation

pub at_most_64 : (told : List ℕ → Option (List ℕ)) (name : List ℕ) (set : SetParts) → AreProgramsIn told name set → length set.programs ≤ 64
at_most_64 told name set (text, tells, spells) = spells.0.few

pub sim_leaves : (told told' : List ℕ → Option (List ℕ)) (asked : AskedSim) (set : SetParts) (commands : List Command) (q : CoreParts) → AreProgramsIn told asked.programs.now set
    → IsSimulated commands asked.seed asked.stress (opening_parts set.programs (config_of asked.limits)) q
    → TellsFirst (log_format set.format) told' asked.out.now (length set.programs) (log_at (world q)) (length set.programs) → LeavesYes told told' asked.programs.now asked.out.now
sim_leaves told told' asked set commands q read did first =
    let g = config_of asked.limits in
    let start = opening_parts set.programs g in
    let run = simulated_run commands asked.seed asked.stress start q did in
    let led = subst (λ (w : World). Run g w (simulated_events commands asked.seed asked.stress start q did) (world q)) (opening_world set.programs g) run.run in
    leaves told told' asked.programs.now asked.out.now set (world q) read first
    (ended_below_get_yes set.programs g (world q) (at_most_64 told asked.programs.now set read) (simulated_events commands asked.seed asked.stress start q did, led)
    (simulated_ended commands asked.seed asked.stress start q did))

-- ---- a run in threads

-- the log that is kept is that of the unit
kept_is : (programs : List (List Instruction)) (g : ConfigParts) (us : List UnitParts) (ss : List SliceParts) → IsRun programs g us ss → (c : ℕ) → kept_log us c ≡ log_at (world_of (map (λ u. core_of u None) us) ss) c
kept_is programs g us ss run c = rw (slice_get-map (λ (u : UnitParts). core_of u None) us c) (go (slice_get us c) refl)
  where
    go : (o : Option UnitParts) → slice_get us c ≡ o → option_map_or (λ (u : UnitParts). if nat_eq u.core c then u.log else []) o []
        ≡ option_map_or (λ (u : Core). u.log) (option_map (λ (u : UnitParts). core_of u None) o) []
    go None at = refl
    go (Some u) at = ap (λ b. if b then u.log else []) (eq-eqb u.core c (run.units c u at).core)

pub run_leaves : (told told' : List ℕ → Option (List ℕ)) (asked : AskedRun) (set : SetParts) (us : List UnitParts) (ss : List SliceParts) → AreProgramsIn told asked.programs.now set
    → IsRun set.programs (config_of asked.limits) us ss → TellsFirst (log_format set.format) told' asked.out.now (length set.programs) (kept_log us) (length set.programs)
    → LeavesYes told told' asked.programs.now asked.out.now
run_leaves told told' asked set us ss read run first =
    let g = config_of asked.limits in
    leaves told told' asked.programs.now asked.out.now set (world_of (map (λ u. core_of u None) us) ss) read
    (λ c below. subst (λ (log : List Record). (text : List ℕ) × Tells (told' (log_name asked.out.now c)) text × SpellsIn (log_format set.format) c (length set.programs) text log) (kept_is set.programs g us ss run c) (first c below))
    (whole_below_get_yes set.programs g us ss run)
