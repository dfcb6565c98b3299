-- What the code keeps of a record is the record, if its numbers are in range.
use Rattle.std.proofs.Common.{◌≡◌, ℕ, ◌<◌, ◌^◌, Bool, true, false, cond, List, Option, Some, None, option_map, refl, sym, ap, subst, ◌∙◌, arith, Decides}
use Rattle.std.specs.Prelude.{nat_lt, option_and_then}
use Rattle.std.proofs.lemmas.Bool.{false≢true}
use Rattle.std.proofs.lemmas.Bool.Decides.{Decides-and, Decides-ltb, nat_tests}
use Rattle.mem_op.specs.Limits.{operation_limit}
use Rattle.mem_op.specs.declared.id.Source.{Source}
use Rattle.mem_op.specs.declared.id.Source.TheVariants as source
use Rattle.decimal_text.specs.Numbers.{as_u64}
use Rattle.decimal_text.specs.Reading.{◌>>=◌}
use Rattle.decimal_text.proofs.Reading.{some_is}
use Rattle.log_record.specs.declared.format.Format.{Format}
use Rattle.log_record.specs.declared.act.Act.{Act}
use Rattle.log_record.specs.declared.act.Act.TheVariants as act
use Rattle.log_record.specs.declared.record.Record.{Record}
use Rattle.log_record.specs.Line.{record_text, IsRecordShape, Fits, ActFits, SourceFits}
use Rattle.log_record.specs.inner.Kept.{source_kept, act_kept, numbers_fit, record_kept}
use Rattle.log_record.specs.inner.Reading.{record_of}
use Rattle.log_record.proofs.Records.{record_takes, record_again}

-- what is kept of a value is the value, and nothing is kept only of one that isn't in range
abbrev pub IsKept : {A : Type 0} → (A → Type 0) → A → Option A → Type 0
IsKept InRange x None = InRange x → ⊥
IsKept InRange x (Some y) = (x ≡ y) × InRange x

kept_if : {A : Type 0} (InRange : A → Type 0) (x : A) (b : Bool) → Decides b (InRange x) → IsKept InRange x (cond b (Some x) None)
kept_if InRange x true d = (refl, d.0 refl)
kept_if InRange x false d = λ fits. false≢true (d.1 fits)

source_is : (s : Source) → IsKept SourceFits s (source_kept s)
unfolding source_kept
source_is source.Init = (refl, tt)
source_is (source.Store id) =
    kept_if SourceFits (source.Store id) _ (Decides-and (nat_lt id.core 64) (nat_lt id.index operation_limit) (Decides-ltb id.core 64) (Decides-ltb id.index operation_limit))

load_is : (s : Source) (kept : Option Source) → IsKept SourceFits s kept → IsKept ActFits (act.Load s) (option_map (λ t. act.Load t) kept)
load_is s None h = h
load_is s (Some t) h = (ap (λ (x : Source). act.Load x) h.0, h.1)

swap_is : (s : Source) (n : ℕ) (kept : Option Source) (word : Option ℕ) → IsKept SourceFits s kept → IsKept (λ (m : ℕ). m < 2 ^ 64) n word
    → IsKept ActFits (act.Swap s n) (option_and_then (λ t. option_map (λ m. act.Swap t m) word) kept)
swap_is s n None word h k = λ fits. h fits.0
swap_is s n (Some t) None h k = λ fits. k fits.1
swap_is s n (Some t) (Some m) h k = (ap (λ (x : Source). act.Swap x n) h.0 ∙ ap (λ (x : ℕ). act.Swap t x) k.0, (h.1, k.1))

act_is : (a : Act) → IsKept ActFits a (act_kept a)
unfolding act_kept
act_is act.Store = (refl, tt)
act_is (act.Load s) = load_is s (source_kept s) (source_is s)
act_is (act.Swap s read) = swap_is s read (source_kept s) (as_u64 read) (source_is s) (kept_if (λ (m : ℕ). m < 2 ^ 64) read (nat_lt read (2 ^ 64)) (Decides-ltb read (2 ^ 64)))

numbers_tell : (r : Record) → ActFits r.act → Decides (numbers_fit r) (Fits r)
numbers_tell r fits = (λ e. grind (arith, nat_tests), λ all. grind (arith, nat_tests))

abbrev with_act : Record → Act → Record
with_act r a = record { value = r.value; ts = r.ts; rank = r.rank; addr = r.addr; act = a }

record_is : (r : Record) → IsKept Fits r (record_kept r)
unfolding record_kept
record_is r = go (act_kept r.act) (act_is r.act)
  where
    go : (kept : Option Act) → IsKept ActFits r.act kept → IsKept Fits r (kept >>= λ a. cond (numbers_fit r) (Some (with_act r a)) None)
    go None h = λ fits. h fits.act
    go (Some a) h =
        subst (λ (b : Act). IsKept Fits r (cond (numbers_fit r) (Some (with_act r b)) None)) h.0
        (kept_if Fits r (numbers_fit r) (numbers_tell r h.1))

-- nothing was read
pub none_is_bad : (line : List ℕ) → None ≡ option_map record_kept (record_of line) → (format : Format) → IsRecordShape format line → ⊥
none_is_bad line e format shape =
    let there : record_of line ≡ Some shape.0 = ap record_of shape.1 ∙ record_again shape.0 in
    let joined : None ≡ Some (record_kept shape.0) = e ∙ ap (option_map record_kept) there in
    cc

-- what was read is some record's
pub some_is_kept : (line : List ℕ) (kept : Option Record) → Some kept ≡ option_map record_kept (record_of line)
    → (r : Record) × (line ≡ record_text r) × IsKept Fits r kept
some_is_kept line kept e = go (record_of line) refl e
  where
    go : (o : Option Record) → record_of line ≡ o → Some kept ≡ option_map record_kept o → (r : Record) × (line ≡ record_text r) × IsKept Fits r kept
    go None is e = absurd cc
    go (Some r) is e = (r, record_takes line r is, subst (IsKept Fits r) (sym (some_is kept (record_kept r) e)) (record_is r))

pub found : (line : List ℕ) (r : Record) → Some (Some r) ≡ option_map record_kept (record_of line) → (line ≡ record_text r) × Fits r
found line r e = let s = some_is_kept line (Some r) e in (s.1 ∙ ap record_text s.2.0, subst Fits s.2.0 s.2.1)
