-- Where an audit has a fault, the lists aren't those of a run.
use Rattle.std.proofs.Common.{◌≡◌, ◌+◌, ◌<◌, ℕ, List, Option, None, Some, length, ap, sym, subst, ◌∙◌, inl, inr, arith}
use Rattle.std.specs.Prelude.{slice_get, Result, Ok, Err, MatchResult}
use Rattle.std.proofs.lemmas.Bool.{cases_lt}
use Rattle.std.proofs.lemmas.List.{take_all}
use Rattle.std.proofs.lemmas.Option.{slice_get_within}
use Rattle.manager_slice.specs.declared.managed.HistoryEntry.{HistoryEntry}
use Rattle.manager_slice.specs.Parts.{SliceParts}
use Rattle.lease_rule.specs.ConfigParts.{ConfigParts}
use Rattle.core_program.specs.declared.instruction.Instruction.{Instruction}
use Rattle.core_program.specs.Conforming.{program_fault}
use Rattle.core_program.proofs.Faults.{conforms-fault}
use Rattle.core_unit.specs.Laws.{IsFront, performed_by}
use Rattle.core_unit.specs.Parts.{UnitParts}
use Rattle.core_unit.specs.declared.entry.CoreEntry.{CoreEntry}
use Rattle.audit.specs.declared.fault.AuditFault.{AuditFault}
use Rattle.audit.specs.declared.machine_fault.Cause.{Cause}
use Rattle.audit.specs.Lists.{transcript_of, history_of, transcripts, histories}
use Rattle.audit.specs.Merges.{HasMerge, InFronts, IsAuditFault}
use Rattle.audit.specs.Pairs.{Agrees}
use Rattle.audit.specs.Runs.{AllEnded, AllNumbered, IsRun, IsRunFault, IsShort, NoneReportsBelow, Reports}

module _ (ts : List (List CoreEntry)) (hs : List (List HistoryEntry)) where
  -- whole lists that have a merge are merged fronts
  in_whole : HasMerge ts hs → (c k : ℕ) → k < length (transcript_of ts c) → InFronts ts hs c k
  in_whole m c k within = record {
    p = λ d. length (transcript_of ts d);
    q = λ s. length (history_of hs s);
    order = m.order;
    merges = record {
      moves = m.merges.moves;
      cores = λ d. m.merges.cores d ∙ sym (take_all (length (transcript_of ts d)) (transcript_of ts d) (omega arith));
      slices = λ s. m.merges.slices s ∙ sym (take_all (length (history_of hs s)) (history_of hs s) (omega arith));
    };
    within = within;
  }

  pub no_run : (core slice place : ℕ) → IsAuditFault ts hs core slice place → Agrees ts hs → HasMerge ts hs → ⊥
  no_run core slice place (inl first) agree m =
      first.differs.1 (ap (λ xs. slice_get xs place) (agree core slice first.is_core first.is_slice))
  no_run core slice place (inr (also, first)) agree m =
      first.out (in_whole m core first.at (slice_get_within (transcript_of ts core) first.at _ first.got))

-- of units and slices that are those of a run but for their lists, an audit says whether they are, and why not
pub run_or_why : {T : Type 0} (programs : List (List Instruction)) (g : ConfigParts) (us : List UnitParts) (ss : List SliceParts) → length us ≡ length programs → length ss ≡ g.slices
    → AllEnded programs g us → AllNumbered g ss → (r : Result T AuditFault)
    → MatchResult r (λ x. Agrees (transcripts us) (histories ss) × HasMerge (transcripts us) (histories ss)) (λ f. IsAuditFault (transcripts us) (histories ss) f.core f.slice f.place)
    → MatchResult r (λ x. IsRun programs g us ss) (λ f. IsRunFault programs g us ss f)
run_or_why programs g us ss cores count ended numbered (Ok x) h = record { cores = cores; count = count; units = ended; slices = numbered; agree = h.0; merge = h.1 }
run_or_why programs g us ss cores count ended numbered (Err f) h = inr (record { cores = cores; count = count; units = ended; slices = numbered }, h)

-- what tells why they aren't tells that they aren't
pub no_whole_run : (programs : List (List Instruction)) (g : ConfigParts) (us : List UnitParts) (ss : List SliceParts) (fault : AuditFault) → IsRunFault programs g us ss fault → IsRun programs g us ss → ⊥
no_whole_run programs g us ss fault (inl other) run = other.0 (record { cores = run.cores; count = run.count; units = run.units; slices = run.slices })
no_whole_run programs g us ss fault (inr found) run = no_run (transcripts us) (histories ss) fault.core fault.slice fault.place found.1 run.agree run.merge

-- a unit whose program has ended hasn't stopped short
pub not_short : (programs : List (List Instruction)) (core : ℕ) (u : UnitParts) → IsFront u → u.state.position ≡ length u.program → IsShort programs core u → ⊥
not_short programs core u front ended h =
    let none : program_fault u.program (performed_by u) ≡ None = conforms-fault u.program (performed_by u) (front.whole ended) in
    let some : program_fault u.program (performed_by u) ≡ Some (length u.log) = h.proper in
    cc

-- no core so far has a fault to report, nor has the next
pub none_more : (programs : List (List Instruction)) (us : List UnitParts) (faults : List (Option Cause)) (n : ℕ) → NoneReportsBelow programs us faults n
    → ((found : Cause) → Reports programs us faults n found → ⊥) → NoneReportsBelow programs us faults (n + 1)
none_more programs us faults n below here d found less reports = elim (cases_lt d n) [
  | inl earlier ↦ below d found earlier reports
  | inr later ↦ here found (subst (λ k. Reports programs us faults k found) (let same : d ≡ n = omega arith in same) reports)
]
