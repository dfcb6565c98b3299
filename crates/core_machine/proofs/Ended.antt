-- A core whose program has ended stays so.
use Rattle.std.proofs.Common.{◌≡◌, ℕ, zero, suc, Bool, false, List, [], ◌∷◌, ap, ◌∙◌}
use Rattle.std.specs.Prelude.{Some, is_some, slice_get, slice_set}
use Rattle.std.specs.Option.{option_map_or}
use Rattle.lease_rule.specs.ConfigParts.{ConfigParts}
use Rattle.core_unit.specs.Core.{Core, next_of}
use Rattle.core_unit.specs.declared.outcome.Outcome.{Outcome}
use Rattle.core_machine.specs.Machine.{World, CoreLeads, turn_hits, turn_drops, turn_gives, turn_asks, turn_ends, takes, takes_nothing, takes_busy, recall_gives, evict_drops, evict_gives, increments, Leads, by_core, serves, spills, no_effect, Run, start, next}
use Rattle.core_machine.specs.Works.{has_next}
use Rattle.core_machine.specs.declared.event.Event.{Event}

-- an event of a core
core_ended : (g : ConfigParts) (c : ℕ) (u : Core) (e : Event) (o : Outcome) (v : Core) → CoreLeads g c u e o v → is_some (next_of u) ≡ false → is_some (next_of v) ≡ false
core_ended g c u e o v (turn_hits op hit h n t) ended = absurd (let some = ap is_some n in cc)
core_ended g c u e o v (turn_drops op b l h n t p held) ended = ended
core_ended g c u e o v (turn_gives op b modified l h n t p held) ended = ended
core_ended g c u e o v (turn_asks op h n t p) ended = ended
core_ended g c u e o v (turn_ends h n) ended = ended
core_ended g c u e o v (takes m x held h k f p is) ended = ended
core_ended g c u e o v (takes_nothing m h k r) ended = ended
core_ended g c u e o v (takes_busy m x h k r) ended = ended
core_ended g c u e o v (recall_gives x modified l h held) ended = ended
core_ended g c u e o v (evict_drops b l h held) ended = ended
core_ended g c u e o v (evict_gives b modified l h held) ended = ended
core_ended g c u e o v (increments h) ended = ended

abbrev has_next_at : List Core → ℕ → Bool
has_next_at us c = option_map_or (λ u. is_some (next_of u)) (slice_get us c) false

-- a core is replaced by one that has ended where it has
replaced_ended : (us : List Core) (i c : ℕ) (u v : Core) → slice_get us i ≡ Some u → (is_some (next_of u) ≡ false → is_some (next_of v) ≡ false)
    → has_next_at us c ≡ false → has_next_at (slice_set us i v) c ≡ false
replaced_ended [] i c u v at stays ended = ended
replaced_ended (x ∷ us) zero zero u v at stays ended = let is : x ≡ u = cc in stays (ap (λ y. is_some (next_of y)) (let back : u ≡ x = cc in back) ∙ ended)
replaced_ended (x ∷ us) zero (suc c) u v at stays ended = ended
replaced_ended (x ∷ us) (suc i) zero u v at stays ended = ended
replaced_ended (x ∷ us) (suc i) (suc c) u v at stays ended = replaced_ended us i c u v at stays ended

-- any event
pub event_ended : (g : ConfigParts) (w : World) (e : Event) (o : Outcome) (t : World) → Leads g w e o t → (c : ℕ) → has_next w c ≡ false → has_next t c ≡ false
event_ended g w e o t (by_core i x y u v at leads) c ended = replaced_ended w.cores i c u v at (core_ended g i u x y v leads) ended
event_ended g w e o t (serves i u m x entries s r at h k there handled) c ended = replaced_ended w.cores i c u (record u { kept = Some x }) at (λ same. same) ended
event_ended g w e o t (spills a s r there evicted) c ended = ended
event_ended g w e o t (no_effect x barred) c ended = ended

pub run_ended : (g : ConfigParts) (w : World) (es : List Event) (t : World) → Run g w es t → (c : ℕ) → has_next w c ≡ false → has_next t c ≡ false
run_ended g w es t start c ended = ended
run_ended g w es t (next before e o between s run leads) c ended = event_ended g between e o s leads c (run_ended g w before between run c ended)
