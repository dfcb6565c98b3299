-- Whether operations of a core are left: only its own turn can end its program, and no event takes it back from the end.
use Rattle.std.proofs.Common.{◌≡◌, ◌≢◌, ◌⊎◌, ℕ, zero, suc, Bool, true, false, List, [], ◌∷◌, refl, sym, ap, ◌∙◌, inl, inr}
use Rattle.std.specs.Prelude.{Some, is_some, slice_get, slice_set}
use Rattle.std.specs.Option.{option_map_or}
use Rattle.lease_rule.specs.ConfigParts.{ConfigParts}
use Rattle.core_unit.specs.Core.{Core, next_of}
use Rattle.core_unit.specs.declared.outcome.Outcome.{Outcome}
use Rattle.core_machine.specs.Machine.{World, CoreLeads, Leads, turn_hits, turn_drops, turn_gives, turn_asks, turn_ends, takes, takes_nothing, takes_busy, recall_gives, evict_drops, evict_gives, increments, by_core, serves, spills, no_effect}
use Rattle.core_machine.specs.Parts.{CoreParts, world}
use Rattle.tardis_core.specs.Rounds.{IsRound, Part, Stage, ToTurn, ToServe, ToTake, ToRecall, OwnerToServe, OwnerToTake, Over, begins, makes, passes, due, turn_due, serve_due, take_due}
use Rattle.core_machine.specs.Works.{has_next}
use Rattle.tardis_core.specs.Hands.{hand_at}
use Rattle.core_machine.specs.declared.event.Event.{Event}
use Rattle.core_machine.specs.declared.event.Event.TheVariants as event
use Rattle.tardis_core.specs.declared.rounds.hand.Hand.{Hand}
use Rattle.tardis_core.specs.declared.rounds.hand.Hand.TheVariants as hand
use Rattle.core_machine.proofs.Placed.{stays_in_set}

-- ---- one core

abbrev leads_on : Core → Bool
leads_on u = is_some (next_of u)

core_next : (g : ConfigParts) (c : ℕ) (u : Core) (e : Event) (o : Outcome) (v : Core) → CoreLeads g c u e o v
    → ((e ≡ event.Turn c) × (leads_on u ≡ true)) ⊎ (leads_on v ≡ leads_on u)
core_next g c u e o v (turn_hits op hit h n t) = inl (refl, ap is_some n)
core_next g c u e o v (turn_drops op b l h n t p held) = inr refl
core_next g c u e o v (turn_gives op b modified l h n t p held) = inr refl
core_next g c u e o v (turn_asks op h n t p) = inr refl
core_next g c u e o v (turn_ends h n) = inr refl
core_next g c u e o v (takes m x held h k f p is) = inr refl
core_next g c u e o v (takes_nothing m h k r) = inr refl
core_next g c u e o v (takes_busy m x h k r) = inr refl
core_next g c u e o v (recall_gives x modified l h held) = inr refl
core_next g c u e o v (evict_drops b l h held) = inr refl
core_next g c u e o v (evict_gives b modified l h held) = inr refl
core_next g c u e o v (increments h) = inr refl

-- ---- all cores

-- a core that is replaced is the only one that differs
other_in_set : {X A : Type 0} (f : X → A) (none : A) (xs : List X) (i d : ℕ) (v : X) → d ≢ i
    → option_map_or f (slice_get (slice_set xs i v) d) none ≡ option_map_or f (slice_get xs d) none
other_in_set f none [] i d v other = refl
other_in_set f none (x ∷ xs) zero zero v other = absurd (other refl)
other_in_set f none (x ∷ xs) zero (suc d) v other = refl
other_in_set f none (x ∷ xs) (suc i) zero v other = refl
other_in_set f none (x ∷ xs) (suc i) (suc d) v other = other_in_set f none xs i d v (λ same. other (ap suc same))

-- where a core goes on, it went on before, if all cores that can have ended did
stays_behind : (xs : List Core) (i d : ℕ) (u v : Core) → slice_get xs i ≡ Some u → leads_on u ≡ true
    → option_map_or leads_on (slice_get (slice_set xs i v) d) false ≡ true → option_map_or leads_on (slice_get xs d) false ≡ true
stays_behind [] i d u v e went on = on
stays_behind (x ∷ xs) zero zero u v e went on = let is : x ≡ u = cc in ap leads_on is ∙ went
stays_behind (x ∷ xs) zero (suc d) u v e went on = on
stays_behind (x ∷ xs) (suc i) zero u v e went on = on
stays_behind (x ∷ xs) (suc i) (suc d) u v e went on = stays_behind xs i d u v e went on

-- what an event, and what a round of core c, does to core d
pub record NextAt (c d : ℕ) (w t : World) : Type 0 where
  pub went_on : has_next t d ≡ true → has_next w d ≡ true
  pub same : d ≢ c → has_next t d ≡ has_next w d

as_before : (c d : ℕ) (w t : World) → has_next t d ≡ has_next w d → NextAt c d w t
as_before c d w t is = record { went_on = λ on. sym is ∙ on; same = λ _. is }

by_set : (c d : ℕ) (w t : World) (i : ℕ) (e : Event) (u v : Core) → slice_get w.cores i ≡ Some u → t.cores ≡ slice_set w.cores i v
    → (e ≡ event.Turn i → c ≡ i) → ((e ≡ event.Turn i) × (leads_on u ≡ true)) ⊎ (leads_on v ≡ leads_on u) → NextAt c d w t
by_set c d w t i e u v at is whose (inl (turn, went)) =
    let own = whose turn in
    rw is record {
      went_on = λ on. stays_behind w.cores i d u v at went on;
      same = λ other. other_in_set leads_on false w.cores i d v (λ same. other (same ∙ sym own));
    }
by_set c d w t i e u v at is whose (inr same) = as_before c d w t (rw is (stays_in_set leads_on false w.cores i d u v at same))

leads_next : (c d : ℕ) (g : ConfigParts) (w : World) (e : Event) (o : Outcome) (t : World) → ((i : ℕ) → e ≡ event.Turn i → c ≡ i)
    → Leads g w e o t → NextAt c d w t
leads_next c d g w e o t whose (by_core i x y u v at leads) = by_set c d w t i e u v at refl (whose i) (core_next g i u x y v leads)
leads_next c d g w e o t whose (serves i u m x entries s r at h k there handled) =
    as_before c d w t (stays_in_set leads_on false w.cores i d u (record u { kept = Some x }) at refl)
leads_next c d g w e o t whose (spills a s r there evicted) = as_before c d w t refl
leads_next c d g w e o t whose (no_effect x barred) = as_before c d w t refl

-- ---- a round

-- the only turn of a round of core c is its own
turn_is_own : (c : ℕ) (h : Hand) (i : ℕ) → turn_due c h ≡ Some (event.Turn i) → c ≡ i
turn_is_own c hand.Empty i is = cc
turn_is_own c hand.Absent i is = absurd (cc)
turn_is_own c hand.Asking i is = absurd (cc)
turn_is_own c hand.Answered i is = absurd (cc)

serve_is_none : (c : ℕ) (h : Hand) (i : ℕ) → serve_due c h ≡ Some (event.Turn i) → c ≡ i
serve_is_none c hand.Asking i is = absurd (cc)
serve_is_none c hand.Empty i is = absurd (cc)
serve_is_none c hand.Absent i is = absurd (cc)
serve_is_none c hand.Answered i is = absurd (cc)

take_is_none : (c : ℕ) (h : Hand) (i : ℕ) → take_due c h ≡ Some (event.Turn i) → c ≡ i
take_is_none c hand.Answered i is = absurd (cc)
take_is_none c hand.Empty i is = absurd (cc)
take_is_none c hand.Absent i is = absurd (cc)
take_is_none c hand.Asking i is = absurd (cc)

due_is_own : (c : ℕ) (w : World) (stage : Stage) (i : ℕ) → due c w stage ≡ Some (event.Turn i) → c ≡ i
due_is_own c w ToTurn i is = turn_is_own c (hand_at w c) i is
due_is_own c w ToServe i is = serve_is_none c (hand_at w c) i is
due_is_own c w ToTake i is = take_is_none c (hand_at w c) i is
due_is_own c w (ToRecall x) i is = absurd (cc)
due_is_own c w (OwnerToServe owner) i is = absurd (cc)
due_is_own c w (OwnerToTake owner) i is = absurd (cc)
due_is_own c w Over i is = absurd (cc)

part_next : (c d : ℕ) (from : Stage) (p : CoreParts) (events : List Event) (q : CoreParts) (to : Stage) → Part c from p events q to
    → NextAt c d (world p) (world q)
part_next c d from p events q to begins = as_before c d (world p) (world p) refl
part_next c d from p events q to (makes so_far between stage e o t part is_due made) =
    let first = part_next c d from p so_far between stage part in
    let whose : (i : ℕ) → e ≡ event.Turn i → c ≡ i = λ i is. due_is_own c (world between) stage i (is_due ∙ ap (λ x. Some x) is) in
    let last = leads_next c d between.config (world between) e o (world q) whose made.leads in
    record { went_on = λ on. first.went_on (last.went_on on); same = λ other. last.same other ∙ first.same other }
part_next c d from p events q to (passes es r stage part is_due) = part_next c d from p events q stage part

pub round_next : (c d : ℕ) (p q : CoreParts) → IsRound c p q → NextAt c d (world p) (world q)
round_next c d p q round = part_next c d _ p round.events q _ round.part
