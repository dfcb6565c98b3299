-- Pass 3: a swap that hits is a store of both passes, so it reads its line's home and comes last; and what a log tells of a swap is right.
use Rattle.std.proofs.Common.{◌≡◌, length, ℕ, refl}
use Rattle.mem_op.specs.declared.id.Op.{Op}
use Rattle.mem_op.specs.declared.id.Op.TheVariants.{Swap}
use Rattle.lease_rule.specs.ConfigParts.{ConfigParts}
use Rattle.log_record.specs.declared.record.Record.{Record}
use Rattle.private_cache.specs.Table.{Hit}
use Rattle.core_unit.specs.Core.{record_of, after_hit}
use Rattle.core_machine.specs.Machine.{World, with_core}
use Rattle.machine_laws.specs.Views.{Did}
use Rattle.machine_laws.specs.Versions.{Earlier}
use Rattle.machine_laws.specs.Settled.{Settled, home, settled, view}
use Rattle.machine_laws.specs.Swaps.{SwapHits, HasSwaps}
use Rattle.machine_laws.specs.Laws.{logs_of}
use Rattle.machine_laws.proofs.Versions.{store_after}
use Rattle.machine_laws.proofs.Operations.{hit_stores}
use Rattle.machine_laws.proofs.Hits.{hit_operation, hit_is_hit}
use Rattle.machine_laws.proofs.Keeping.{Keeps}
use Rattle.machine_laws.proofs.Rules.{reads_right}
use Rattle.machine_laws.proofs.Judged.{are_logs}

swap_stores : (g : ConfigParts) (w : World) → Keeps g w → (c a word : ℕ) (hit : Hit) → SwapHits w c a word hit →
    ((hit.value ≡ (home (settled g w) a).value) × (hit.source ≡ (home (settled g w) a).source))
    × ((d j : ℕ) (p : Record) → Did (view (settled g w)) d j p → p.addr ≡ a → Earlier d j p c (length ((view (settled g w)).log c)) (record_of (Swap a word) hit))
swap_stores g w k c a word hit s =
    let x : Op = Swap a word in
    let before : Settled = settled g w in
    let after : Settled = settled g (with_core w c (after_hit g s.core x hit)) in
    let z = hit_stores before after c a (record_of x hit) (hit_operation g w c s.core x hit s.there s.free) (hit_is_hit g w c s.core x hit s.there s.free s.hits) refl k.owners in
    let read = z.1.read hit.source hit.value refl in
    ((read.1, read.0), λ d j p did e. store_after (view before) (view after) c (record_of x hit) z.0 z.1 k.stamps k.versions d j p e did)

pub has_swaps : (g : ConfigParts) (w : World) → Keeps g w → HasSwaps w (view (settled g w)) (logs_of w)
has_swaps g w k = record {
  reads = λ c a word hit s. (swap_stores g w k c a word hit s).0;
  last = λ c a word hit s. (swap_stores g w k c a word hit s).1;
  right = λ e source read there f. reads_right (view (settled g w)) (logs_of w) (are_logs g w) k.versions e source read there (rw f refl);
}
