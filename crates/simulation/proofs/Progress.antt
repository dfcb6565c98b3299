-- No event puts a core back: the instructions that are left to it never grow, and an operation leaves fewer.
use Rattle.std.proofs.Common.{◌≡◌, ℕ, zero, suc, ◌+◌, ◌-◌, ◌≤◌, true, List, [], ◌∷◌, length, refl, ap, arith}
use Rattle.std.specs.Prelude.{Option, Some, None, is_some, slice_get, slice_set}
use Rattle.std.specs.Option.{option_map_or}
use Rattle.std.proofs.lemmas.List.{length-append}
use Rattle.lease_rule.specs.ConfigParts.{ConfigParts}
use Rattle.core_unit.specs.Core.{Core, next_of, record_of, answer_of}
use Rattle.core_unit.specs.declared.outcome.Outcome.{Outcome}
use Rattle.core_machine.specs.Machine.{World, CoreLeads, Leads, turn_hits, turn_drops, turn_gives, turn_asks, turn_ends, takes, takes_nothing, takes_busy, recall_gives, evict_drops, evict_gives, increments, by_core, serves, spills, no_effect}
use Rattle.core_machine.specs.Parts.{CoreParts, world}
use Rattle.tardis_core.specs.Rounds.{IsRound, Part, Stage, begins, makes, passes}
use Rattle.core_machine.specs.Works.{left_at, log_at}
use Rattle.core_machine.specs.declared.event.Event.{Event}
use Rattle.tardis_core.proofs.Works.{answered_on}

-- ---- one core

abbrev left : Core → ℕ
left u = length u.program - u.state.position

-- the operations that it has performed, and the instructions that are left
abbrev both : Core → ℕ
both u = length u.log + left u

record Falls (u v : Core) : Type 0 where
  left : left v ≤ left u
  both : both v ≤ both u

falls_as : (u v : Core) → v.program ≡ u.program → v.state ≡ u.state → v.log ≡ u.log → Falls u v
falls_as u v p s l = record { left = rw (p, s) (omega arith); both = rw (p, s, l) (omega arith) }

core_falls : (g : ConfigParts) (c : ℕ) (u : Core) (e : Event) (o : Outcome) (v : Core) → CoreLeads g c u e o v → Falls u v
core_falls g c u e o v (turn_hits op hit h n t) =
    let waits : is_some (next_of u) ≡ true = ap is_some n in
    let on = answered_on u.program (answer_of op hit) u.state waits in
    let more = length-append u.log (record_of op hit ∷ []) in
    record { left = omega (arith, on); both = omega (arith, on, more) }
core_falls g c u e o v (turn_drops op b l h n t p held) = falls_as u v refl refl refl
core_falls g c u e o v (turn_gives op b modified l h n t p held) = falls_as u v refl refl refl
core_falls g c u e o v (turn_asks op h n t p) = falls_as u v refl refl refl
core_falls g c u e o v (turn_ends h n) = falls_as u v refl refl refl
core_falls g c u e o v (takes m x held h k f p is) = falls_as u v refl refl refl
core_falls g c u e o v (takes_nothing m h k r) = falls_as u v refl refl refl
core_falls g c u e o v (takes_busy m x h k r) = falls_as u v refl refl refl
core_falls g c u e o v (recall_gives x modified l h held) = falls_as u v refl refl refl
core_falls g c u e o v (evict_drops b l h held) = falls_as u v refl refl refl
core_falls g c u e o v (evict_gives b modified l h held) = falls_as u v refl refl refl
core_falls g c u e o v (increments h) = falls_as u v refl refl refl

-- ---- all cores

-- where one core's number falls, none grows
set_falls : (f : Core → ℕ) (xs : List Core) (i d : ℕ) (u v : Core) → slice_get xs i ≡ Some u → f v ≤ f u
    → option_map_or f (slice_get (slice_set xs i v) d) 0 ≤ option_map_or f (slice_get xs d) 0
set_falls f [] i d u v e less = omega arith
set_falls f (x ∷ xs) zero zero u v e less = let is : x ≡ u = cc in rw is less
set_falls f (x ∷ xs) zero (suc d) u v e less = omega arith
set_falls f (x ∷ xs) (suc i) zero u v e less = omega arith
set_falls f (x ∷ xs) (suc i) (suc d) u v e less = set_falls f xs i d u v e less

abbrev both_at : World → ℕ → ℕ
both_at w d = option_map_or both (slice_get w.cores d) 0

both_at_is : (w : World) (d : ℕ) → both_at w d ≡ length (log_at w d) + left_at w d
both_at_is w d = go (slice_get w.cores d)
  where
    go : (o : Option Core) → option_map_or both o 0 ≡ length (option_map_or (λ u. u.log) o []) + option_map_or left o 0
    go None = refl
    go (Some u) = refl

-- what an event, and what a round, does to core d
pub record FallsAt (d : ℕ) (w t : World) : Type 0 where
  pub left : left_at t d ≤ left_at w d
  pub both : length (log_at t d) + left_at t d ≤ length (log_at w d) + left_at w d

by_set : (w t : World) (i : ℕ) (u v : Core) → slice_get w.cores i ≡ Some u → t.cores ≡ slice_set w.cores i v → Falls u v → (d : ℕ) → FallsAt d w t
by_set w t i u v at is falls d =
    let less : both_at t d ≤ both_at w d = rw is (set_falls both w.cores i d u v at falls.both) in
    record { left = rw is (set_falls left w.cores i d u v at falls.left); both = omega (arith, less, both_at_is w d, both_at_is t d) }

pub leads_falls : (g : ConfigParts) (w : World) (e : Event) (o : Outcome) (t : World) → Leads g w e o t → (d : ℕ) → FallsAt d w t
leads_falls g w e o t (by_core i x y u v at leads) d = by_set w t i u v at refl (core_falls g i u x y v leads) d
leads_falls g w e o t (serves i u m x entries s r at h k there handled) d = by_set w t i u (record u { kept = Some x }) at refl (falls_as u (record u { kept = Some x }) refl refl refl) d
leads_falls g w e o t (spills a s r there evicted) d = record { left = omega arith; both = omega arith }
leads_falls g w e o t (no_effect x barred) d = record { left = omega arith; both = omega arith }

part_falls : (c : ℕ) (from : Stage) (p : CoreParts) (events : List Event) (q : CoreParts) (to : Stage) → Part c from p events q to
    → (d : ℕ) → FallsAt d (world p) (world q)
part_falls c from p events q to begins d = record { left = omega arith; both = omega arith }
part_falls c from p events q to (makes so_far between stage e o t part is_due made) d =
    let first = part_falls c from p so_far between stage part d in
    let last = leads_falls between.config (world between) e o (world q) made.leads d in
    record { left = omega (arith, first.left, last.left); both = omega (arith, first.both, last.both) }
part_falls c from p events q to (passes es r stage part is_due) d = part_falls c from p events q stage part d

pub round_falls : (c : ℕ) (p q : CoreParts) → IsRound c p q → (d : ℕ) → FallsAt d (world p) (world q)
round_falls c p q round d = part_falls c _ p round.events q _ round.part d
