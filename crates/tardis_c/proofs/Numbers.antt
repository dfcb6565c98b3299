-- Operations in numbers.
use Rattle.std.proofs.Common.{rules, ◌≡◌, ℕ, suc, ◌+◌, ◌<◌, ◌≤◌, ◌^◌, List, [], ◌∷◌, length, map, refl, sym, ap, subst, arith}
use Rattle.std.specs.Prelude.{All, IsTrue, true, false, if◌then◌else◌, ◌==◌}
use Rattle.std.specs.List.{AllByRecursion}
use Rattle.std.proofs.lemmas.List.{length-map}
use Rattle.std.proofs.lemmas.List.Elements.{All-cons, All-head, All-nil, All-tail}
use Rattle.mem_op.specs.Limits.{operation_limit}
use Rattle.mem_op.specs.declared.id.Source.TheVariants.{Init, Store as From}
use Rattle.log_record.specs.declared.act.Act.{Act}
use Rattle.log_record.specs.declared.act.Act.TheVariants.{Load, Store, Swap}
use Rattle.log_record.specs.declared.format.Format.TheVariants.{Two}
use Rattle.log_record.specs.declared.record.Record.{Record}
use Rattle.log_record.specs.Line.{ActFits, FitsIn, SourceFits, has_act}
use Rattle.merge_judge.specs.Records.{AreOfLog, GivenLog, logs_from, records_of}
use Rattle.tardis_c.specs.Faults.{AreOperations}
use Rattle.tardis_c.specs.Operations.{IsOperation, act_of, logs_of, record_of, source_of}
use Rattle.tardis_c.specs.declared.tardis_operation.TardisOperation.{TardisOperation}

-- ---- the source of an operation

initial_is : (op : TardisOperation) → op.source_core ≡ 255 → source_of op ≡ Init
initial_is op is = ap (λ c. if c == 255 then Init else From (record { core = op.source_core; index = op.source_index })) is

store_is : (op : TardisOperation) → (op.source_core ≡ 255 → ⊥) → source_of op ≡ From (record { core = op.source_core; index = op.source_index })
store_is op other = search rules

pub initial_fits : (op : TardisOperation) → op.source_core ≡ 255 → SourceFits (source_of op)
initial_fits op is = subst SourceFits (sym (initial_is op is)) tt

pub store_fits : (op : TardisOperation) → (op.source_core ≡ 255 → ⊥) → op.source_core < 64 → op.source_index < operation_limit → SourceFits (source_of op)
store_fits op other core index = subst SourceFits (sym (store_is op other)) (core, index)

pub core_of_store : (op : TardisOperation) → (op.source_core ≡ 255 → ⊥) → SourceFits (source_of op) → op.source_core < 64
core_of_store op other fits = (subst SourceFits (store_is op other) fits).0

pub index_of_store : (op : TardisOperation) → (op.source_core ≡ 255 → ⊥) → SourceFits (source_of op) → op.source_index < operation_limit
index_of_store op other fits = (subst SourceFits (store_is op other) fits).1

-- ---- what it did

abbrev act_by : TardisOperation → ℕ → Act
act_by op kind = if kind == 0 then Load (source_of op) else if kind == 1 then Store else Swap (source_of op) op.read

load_is : (op : TardisOperation) → op.kind ≡ 0 → act_of op ≡ Load (source_of op)
load_is op is = ap (act_by op) is

done_is : (op : TardisOperation) → op.kind ≡ 1 → act_of op ≡ Store
done_is op is = ap (act_by op) is

swap_is : (op : TardisOperation) → (op.kind ≡ 0 → ⊥) → (op.kind ≡ 1 → ⊥) → act_of op ≡ Swap (source_of op) op.read
swap_is op no_load no_store = search rules

pub load_source : (op : TardisOperation) → op.kind ≡ 0 → ActFits (act_of op) → SourceFits (source_of op)
load_source op is fits = subst ActFits (load_is op is) fits

pub swap_source : (op : TardisOperation) → (op.kind ≡ 0 → ⊥) → (op.kind ≡ 1 → ⊥) → ActFits (act_of op) → SourceFits (source_of op)
swap_source op no_load no_store fits = (subst ActFits (swap_is op no_load no_store) fits).0

-- ---- whether it is one

is_op : (op : TardisOperation) (act : Act) → act_of op ≡ act → IsTrue (has_act Two act) → ActFits act → op.value < 2 ^ 64 → op.rank < 4294967296 → op.addr < 65536 → op.ts ≤ 281474976710656 → op.kind ≤ 2 → IsOperation op
is_op op act is has fits value rank addr ts kind = (
  kind,
  record {
    has = subst (λ a. IsTrue (has_act Two a)) (sym is) has;
    numbers = record { value = value; ts = ts; rank = rank; addr = addr; act = subst ActFits (sym is) fits };
  },
)

pub is_load : (op : TardisOperation) → op.kind ≡ 0 → SourceFits (source_of op) → op.value < 2 ^ 64 → op.rank < 4294967296 → op.addr < 65536 → op.ts ≤ 281474976710656 → IsOperation op
is_load op kind fits value rank addr ts = is_op op (Load (source_of op)) (load_is op kind) refl fits value rank addr ts (omega (arith, kind))

pub is_store : (op : TardisOperation) → op.kind ≡ 1 → op.value < 2 ^ 64 → op.rank < 4294967296 → op.addr < 65536 → op.ts ≤ 281474976710656 → IsOperation op
is_store op kind value rank addr ts = is_op op Store (done_is op kind) refl tt value rank addr ts (omega (arith, kind))

pub is_swap : (op : TardisOperation) → op.kind ≡ 2 → SourceFits (source_of op) → op.value < 2 ^ 64 → op.read < 2 ^ 64 → op.rank < 4294967296 → op.addr < 65536 → op.ts ≤ 281474976710656 → IsOperation op
is_swap op kind fits value read rank addr ts = is_op op (Swap (source_of op) op.read) (ap (act_by op) kind) refl (fits, read) value rank addr ts (omega (arith, kind))

pub source_of_load : (op : TardisOperation) → op.kind ≡ 0 → IsOperation op → SourceFits (source_of op)
source_of_load op kind is = load_source op kind is.1.numbers.act

pub source_of_swap : (op : TardisOperation) → op.kind ≡ 2 → IsOperation op → SourceFits (source_of op)
source_of_swap op kind is = swap_source op (λ h. omega (arith, kind, h)) (λ h. omega (arith, kind, h)) is.1.numbers.act

pub late_is_none : (op : TardisOperation) → 281474976710656 < op.ts → IsOperation op → false ≡ true
late_is_none op late is = absurd (let ts = is.1.numbers.ts in omega (arith, late, ts))

pub far_is_none : (op : TardisOperation) → 65535 < op.addr → IsOperation op → false ≡ true
far_is_none op far is = absurd (let addr = is.1.numbers.addr in omega (arith, far, addr))

pub other_is_none : (op : TardisOperation) → 2 < op.kind → IsOperation op → false ≡ true
other_is_none op other is = absurd (omega (arith, other, is.0))

-- ---- those of all cores

fit_all : (ops : List TardisOperation) → All IsOperation ops → AllByRecursion (FitsIn Two) (map record_of ops)
fit_all [] all = tt
fit_all (op ∷ ops) all = ((All-head IsOperation op ops all).1, fit_all ops (All-tail IsOperation op ops all))

of_log : (ops : List TardisOperation) → AreOperations IsOperation ops → AreOfLog (map record_of ops)
of_log ops are = record { few = omega (arith, length-map ops record_of, are.0); fit = fit_all ops are.1 }

-- the logs of their sources
pub sources_good : (core cores : ℕ) (parts : List (List TardisOperation)) → All (AreOperations IsOperation) parts → All (λ (log : GivenLog). AreOfLog log.records) (logs_from core cores (logs_of parts))
sources_good core cores [] all = All-nil (λ (log : GivenLog). AreOfLog log.records)
sources_good core cores (part ∷ parts) all =
    All-cons (λ (log : GivenLog). AreOfLog log.records) _ (logs_from (core + 1) cores (logs_of parts)) (of_log part (All-head (AreOperations IsOperation) part parts all)) (sources_good (core + 1) cores parts (All-tail (AreOperations IsOperation) part parts all))

pub sources_are : (core cores : ℕ) (logs : List (List Record)) → records_of (logs_from core cores logs) ≡ logs
sources_are core cores [] = refl
sources_are core cores (log ∷ logs) = ap (λ (ls : List (List Record)). log ∷ ls) (sources_are (core + 1) cores logs)

pub sources_many : (core cores : ℕ) (logs : List (List Record)) → length (logs_from core cores logs) ≡ length logs
sources_many core cores [] = refl
sources_many core cores (log ∷ logs) = ap suc (sources_many (core + 1) cores logs)
