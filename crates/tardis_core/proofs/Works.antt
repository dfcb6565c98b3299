-- What an event says of the operations of a core.
use Rattle.std.proofs.Common.{◌≡◌, ℕ, zero, suc, ◌-◌, ◌<◌, ◌≤◌, Bool, true, false, List, [], ◌∷◌, ◌++◌, length, refl, sym, ap, subst, ◌∙◌, arith}
use Rattle.std.specs.Prelude.{Option, Some, None, is_some, option_and_then, slice_get, slice_set, if◌then◌else◌}
use Rattle.std.specs.Option.{option_map_or}
use Rattle.std.proofs.lemmas.Option.{slice_get_within}
use Rattle.lease_rule.specs.ConfigParts.{ConfigParts}
use Rattle.log_record.specs.declared.record.Record.{Record}
use Rattle.core_program.specs.declared.instruction.Instruction.{Instruction}
use Rattle.core_program.specs.Running.{issued, after, next_op, rest_within, at_rest, answered}
use Rattle.core_program.specs.State.{State}
use Rattle.core_program.proofs.Rests.{leads_on}
use Rattle.core_unit.specs.Core.{Core, next_of, answer_of, record_of}
use Rattle.core_unit.specs.declared.outcome.Outcome.{Outcome}
use Rattle.core_unit.specs.declared.outcome.Outcome.TheVariants as outcome
use Rattle.core_machine.specs.Machine.{World, CoreLeads, Leads, turn_hits, turn_drops, turn_gives, turn_asks, turn_ends, takes, takes_nothing, takes_busy, recall_gives, evict_drops, evict_gives, increments, by_core, serves, spills, no_effect, with_core}
use Rattle.core_machine.specs.Works.{left_at}
use Rattle.core_machine.proofs.Placed.{stays_in_set, set_here}
use Rattle.tardis_core.specs.Hands.{hand_of, HasPerformed, SameWork}
use Rattle.core_machine.specs.declared.event.Event.{Event}
use Rattle.core_machine.specs.declared.event.Event.TheVariants as event
use Rattle.tardis_core.specs.declared.rounds.hand.Hand.TheVariants as hand

abbrev pub is_performed : Outcome → Bool
is_performed (outcome.Performed id) = true
is_performed o = false

abbrev pub is_turn : Event → Bool
is_turn (event.Turn c) = true
is_turn e = false

-- ---- events by which nothing is performed

-- what a core's operations are read from
pub record Work : Type 0 where
  pub program : List Instruction
  pub state : State
  pub log : List Record

abbrev pub work_of : Core → Work
work_of u = record { program = u.program; state = u.state; log = u.log }

core_same : (g : ConfigParts) (c : ℕ) (u : Core) (e : Event) (o : Outcome) (v : Core) → CoreLeads g c u e o v → is_performed o ≡ false → work_of v ≡ work_of u
core_same g c u e o v (turn_hits op hit h n t) not = absurd (cc)
core_same g c u e o v (turn_drops op b l h n t p held) not = refl
core_same g c u e o v (turn_gives op b modified l h n t p held) not = refl
core_same g c u e o v (turn_asks op h n t p) not = refl
core_same g c u e o v (turn_ends h n) not = refl
core_same g c u e o v (takes m x held h k f p is) not = refl
core_same g c u e o v (takes_nothing m h k r) not = refl
core_same g c u e o v (takes_busy m x h k r) not = refl
core_same g c u e o v (recall_gives x modified l h held) not = refl
core_same g c u e o v (evict_drops b l h held) not = refl
core_same g c u e o v (evict_gives b modified l h held) not = refl
core_same g c u e o v (increments h) not = refl

pub same_work : (c : ℕ) (w : World) → SameWork c w w
same_work c w = record { next = refl; log = refl; left = refl }

-- a core is replaced by one that is as far
set_same : (w : World) (i : ℕ) (u v : Core) → slice_get w.cores i ≡ Some u → work_of v ≡ work_of u → (c : ℕ) (t : World) → t.cores ≡ slice_set w.cores i v → SameWork c w t
set_same w i u v at same c t is = rw is record {
  next = stays_in_set (λ x. is_some (next_of x)) false w.cores i c u v at (ap (λ (x : Work). is_some (next_op x.program x.state)) same);
  log = stays_in_set (λ x. x.log) [] w.cores i c u v at (ap (λ (x : Work). x.log) same);
  left = stays_in_set (λ x. length x.program - x.state.position) 0 w.cores i c u v at (ap (λ (x : Work). length x.program - x.state.position) same);
}

pub leads_same : (g : ConfigParts) (w : World) (e : Event) (o : Outcome) (t : World) → Leads g w e o t → is_performed o ≡ false → (c : ℕ) → SameWork c w t
leads_same g w e o t (by_core i x y u v at leads) not c = set_same w i u v at (core_same g i u x y v leads not) c (with_core w i v) refl
leads_same g w e o t (serves i u m x entries s r at h k there handled) not c = set_same w i u (record u { kept = Some x }) at refl c t refl
leads_same g w e o t (spills a s r there evicted) not c = record { next = refl; log = refl; left = refl }
leads_same g w e o t (no_effect x barred) not c = same_work c w

-- no event but a turn performs
core_quiet : (g : ConfigParts) (c : ℕ) (u : Core) (e : Event) (o : Outcome) (v : Core) → CoreLeads g c u e o v → is_turn e ≡ false → is_performed o ≡ false
core_quiet g c u e o v (turn_hits op hit h n t) not = absurd (cc)
core_quiet g c u e o v (turn_drops op b l h n t p held) not = refl
core_quiet g c u e o v (turn_gives op b modified l h n t p held) not = refl
core_quiet g c u e o v (turn_asks op h n t p) not = refl
core_quiet g c u e o v (turn_ends h n) not = refl
core_quiet g c u e o v (takes m x held h k f p is) not = refl
core_quiet g c u e o v (takes_nothing m h k r) not = refl
core_quiet g c u e o v (takes_busy m x h k r) not = refl
core_quiet g c u e o v (recall_gives x modified l h held) not = refl
core_quiet g c u e o v (evict_drops b l h held) not = refl
core_quiet g c u e o v (evict_gives b modified l h held) not = refl
core_quiet g c u e o v (increments h) not = refl

pub leads_quiet : (g : ConfigParts) (w : World) (e : Event) (o : Outcome) (t : World) → Leads g w e o t → is_turn e ≡ false → is_performed o ≡ false
leads_quiet g w e o t (by_core i x y u v at leads) not = core_quiet g i u x y v leads not
leads_quiet g w e o t (serves i u m x entries s r at h k there handled) not = refl
leads_quiet g w e o t (spills a s r there evicted) not = refl
leads_quiet g w e o t (no_effect x barred) not = refl

-- ---- the turn that performs

-- a core that moves on doesn't move back
rest_on : (n : ℕ) (p : List Instruction) (s : State) → s.position ≤ (rest_within n p s).position
rest_on zero p s = omega arith
rest_on (suc n) p s = go (λ i. rest_on n p (after i 0 s)) (slice_get p s.position)
  where
    by : (i : Instruction) (b : Bool) → (after i 0 s).position ≤ (rest_within n p (after i 0 s)).position → s.position ≤ (if b then s else rest_within n p (after i 0 s)).position
    by i true on = omega arith
    by i false on = omega (arith, leads_on i 0 s, on)

    go : ((i : Instruction) → (after i 0 s).position ≤ (rest_within n p (after i 0 s)).position) → (o : Option Instruction)
        → s.position ≤ (option_map_or (λ i. if is_some (issued i s) then s else rest_within n p (after i 0 s)) o s).position
    go on None = omega arith
    go on (Some i) = by i (is_some (issued i s)) (on i)

-- an operation takes a core further
pub answered_on : (p : List Instruction) (x : ℕ) (s : State) → is_some (next_op p s) ≡ true → length p - (answered p x s).position < length p - s.position
answered_on p x s waits = go (slice_get p s.position) refl waits
  where
    go : (o : Option Instruction) → slice_get p s.position ≡ o → is_some (option_and_then (λ i. issued i s) o) ≡ true
        → length p - (option_map_or (λ i. at_rest p (after i x s)) o s).position < length p - s.position
    go None e w = absurd (cc)
    go (Some i) e w = omega (arith, slice_get_within p s.position i e, leads_on i x s, rest_on (length p) p (after i x s))

-- what a turn that performs makes of its core
pub record PerformedAt (u v : Core) : Type 0 where
  pub next : is_some (next_of u) ≡ true
  pub made : Record
  pub log : v.log ≡ u.log ++ made ∷ []
  pub left : length v.program - v.state.position < length u.program - u.state.position
  pub hand : hand_of v.hand v.kept ≡ hand.Empty

core_performs : (g : ConfigParts) (i : ℕ) (u : Core) (e : Event) (o : Outcome) (v : Core) → CoreLeads g i u e o v → is_performed o ≡ true → (c : ℕ) → e ≡ event.Turn c
    → (c ≡ i) × PerformedAt u v
core_performs g i u e o v (turn_hits op hit h n t) did c is =
    let waits : is_some (next_of u) ≡ true = ap is_some n in (
      cc,
      record {
        next = waits;
        made = record_of op hit;
        log = refl;
        left = answered_on u.program (answer_of op hit) u.state waits;
        hand = ap (λ m. hand_of m u.kept) h;
      },
    )
core_performs g i u e o v (turn_drops op b l h n t p held) did c is = absurd (cc)
core_performs g i u e o v (turn_gives op b modified l h n t p held) did c is = absurd (cc)
core_performs g i u e o v (turn_asks op h n t p) did c is = absurd (cc)
core_performs g i u e o v (turn_ends h n) did c is = absurd (cc)
core_performs g i u e o v (takes m x held h k f p there) did c is = absurd (cc)
core_performs g i u e o v (takes_nothing m h k r) did c is = absurd (cc)
core_performs g i u e o v (takes_busy m x h k r) did c is = absurd (cc)
core_performs g i u e o v (recall_gives x modified l h held) did c is = absurd (cc)
core_performs g i u e o v (evict_drops b l h held) did c is = absurd (cc)
core_performs g i u e o v (evict_gives b modified l h held) did c is = absurd (cc)
core_performs g i u e o v (increments h) did c is = absurd (cc)

set_performed : (w : World) (i : ℕ) (u v : Core) → slice_get w.cores i ≡ Some u → PerformedAt u v → HasPerformed i w (with_core w i v)
set_performed w i u v at did =
    let behind = set_here w.cores i u v at in
    let left_behind : left_at (with_core w i v) i ≡ length v.program - v.state.position =
    ap (λ (o : Option Core). option_map_or (λ (x : Core). length x.program - x.state.position) o 0) behind in
    let left_before : left_at w i ≡ length u.program - u.state.position =
    ap (λ (o : Option Core). option_map_or (λ (x : Core). length x.program - x.state.position) o 0) at in
    record {
      had_next = ap (λ (o : Option Core). option_map_or (λ (x : Core). is_some (next_of x)) o false) at ∙ did.next;
      made = did.made;
      log = ap (λ (o : Option Core). option_map_or (λ (x : Core). x.log) o []) behind ∙ did.log
          ∙ sym (ap (λ (o : Option Core). option_map_or (λ (x : Core). x.log) o [] ++ did.made ∷ []) at);
      left = omega (arith, left_behind, left_before, did.left);
      hand = ap (λ (o : Option Core). option_map_or (λ (x : Core). hand_of x.hand x.kept) o hand.Absent) behind ∙ did.hand;
    }

pub leads_performs : (g : ConfigParts) (w : World) (e : Event) (o : Outcome) (t : World) → Leads g w e o t → is_performed o ≡ true → (c : ℕ) → e ≡ event.Turn c → HasPerformed c w t
leads_performs g w e o t (by_core i x y u v at leads) did c is =
    let p = core_performs g i u x y v leads did c is in
    subst (λ (j : ℕ). HasPerformed j w (with_core w i v)) (sym p.0) (set_performed w i u v at p.1)
leads_performs g w e o t (serves i u m x entries s r at h k there handled) did c is = absurd (cc)
leads_performs g w e o t (spills a s r there evicted) did c is = absurd (cc)
leads_performs g w e o t (no_effect x barred) did c is = absurd (cc)
