-- Rounds, put together from their stages.
use Rattle.std.proofs.Common.{◌≡◌, ◌≢◌, ℕ, Bool, true, false, List, [], ◌∷◌, ◌++◌, append_assoc, append-nil, refl, sym, ap, subst, ◌∙◌}
use Rattle.std.specs.Prelude.{Some, None}
use Rattle.core_unit.specs.declared.outcome.Outcome.{Outcome}
use Rattle.core_unit.specs.declared.outcome.Outcome.TheVariants as outcome
use Rattle.line_stamps.specs.declared.message.Recall.{Recall}
use Rattle.core_machine.specs.Machine.{World, core_event}
use Rattle.core_machine.specs.Parts.{CoreParts, world}
use Rattle.tardis_core.specs.Rounds.{EventLeadsTelling, told_by, Stage, ToTurn, ToServe, ToTake, ToRecall, OwnerToServe, OwnerToTake, Over, turn_due, serve_due, take_due, due, stage_of, stage_of_recall, stage_after, stage_without, Part, begins, makes, passes, IsPart, IsCauseOf, IsStopped}
use Rattle.core_machine.specs.Steps.{step_outcome}
use Rattle.tardis_core.specs.Hands.{hand_at, SameWork, HasPerformed}
use Rattle.core_machine.specs.declared.event.Event.{Event}
use Rattle.core_machine.specs.declared.event.Event.TheVariants as event
use Rattle.tardis_core.specs.declared.rounds.fault.RoundFault.{RoundFault}
use Rattle.tardis_core.specs.declared.rounds.hand.Hand.{Hand}
use Rattle.tardis_core.specs.declared.rounds.hand.Hand.TheVariants as hand
use Rattle.tardis_core.specs.declared.rounds.stages.Told.{Told}
use Rattle.tardis_core.specs.declared.rounds.stages.Told.TheVariants as told
use Rattle.tardis_core.proofs.Works.{is_performed, is_turn, same_work, leads_same, leads_quiet, leads_performs}

-- ---- one stage

pub part_passes : (c : ℕ) (from : Stage) (p : CoreParts) → due c (world p) from ≡ None → IsPart c from p p (stage_without from)
part_passes c from p nothing = record { events = []; part = passes [] p from begins nothing }

pub part_makes : (c : ℕ) (from : Stage) (p : CoreParts) (e : Event) (told : Told) (q : CoreParts) → due c (world p) from ≡ Some e → (made : EventLeadsTelling p e told q)
    → IsPart c from p q (stage_after from made.outcome)
part_makes c from p e told q is made = record { events = e ∷ []; part = makes [] p from e made.outcome q begins is made.makes }

-- the event of core i is refused
pub stopped_at : (c : ℕ) (from : Stage) (p q : CoreParts) (e : Event) (i : ℕ) (fault : RoundFault) → due c (world p) from ≡ Some e → core_event e ≡ Some i
    → (q ≡ p) × (fault.core ≡ i) × IsCauseOf (step_outcome p e) fault.fault → IsStopped c from p q fault
stopped_at c from p q e i fault is own refused = record {
  stage = from;
  so_far = subst (λ (t : CoreParts). IsPart c from p t from) (sym refused.0) (record { events = []; part = begins });
  event = e;
  is_due = ap (λ (t : CoreParts). due c (world t) from) refused.0 ∙ is;
  core = own ∙ ap (λ x. Some x) (sym refused.1);
  cause = subst (λ (t : CoreParts). IsCauseOf (step_outcome t e) fault.fault) (sym refused.0) refused.2;
}

-- ---- one after the other

joined : (c : ℕ) (a : Stage) (p : CoreParts) (b : Stage) (q : CoreParts) (es : List Event) → Part c a p es q b → (fs : List Event) (t : CoreParts) (d : Stage)
    → Part c b q fs t d → Part c a p (es ++ fs) t d
joined c a p b q es x fs t d begins = subst (λ (all : List Event). Part c a p all q b) (sym (append-nil es)) x
joined c a p b q es x fs t d (makes gs r stage e o s y is made) =
    subst (λ (all : List Event). Part c a p all s (stage_after stage o)) (append_assoc es gs (e ∷ []))
    (makes (es ++ gs) r stage e o s (joined c a p b q es x gs r stage y) is made)
joined c a p b q es x fs t d (passes gs r stage y nothing) = passes (es ++ gs) r stage (joined c a p b q es x gs r stage y) nothing

pub then_part : (c : ℕ) (a b d : Stage) (p q t : CoreParts) → IsPart c a p q b → IsPart c b q t d → IsPart c a p t d
then_part c a b d p q t x y = record { events = x.events ++ y.events; part = joined c a p b q x.events x.part y.events t d y.part }

pub then_stopped : (c : ℕ) (a b : Stage) (p q t : CoreParts) (fault : RoundFault) → IsPart c a p q b → IsStopped c b q t fault → IsStopped c a p t fault
then_stopped c a b p q t fault x y = record {
  stage = y.stage;
  so_far = then_part c a b y.stage p q t x y.so_far;
  event = y.event;
  is_due = y.is_due;
  core = y.core;
  cause = y.cause;
}

-- with an empty hand nothing is due but a turn
pub over_when_empty : (c : ℕ) (p : CoreParts) → hand_at (world p) c ≡ hand.Empty → IsPart c ToServe p p Over
over_when_empty c p empty =
    then_part c ToServe ToTake Over p p p
    (part_passes c ToServe p (ap (serve_due c) empty)) (part_passes c ToTake p (ap (take_due c) empty))

-- ---- what is due at a hand

pub no_turn : (c : ℕ) (h : Hand) → h ≢ hand.Empty → turn_due c h ≡ None
no_turn c hand.Absent not = refl
no_turn c hand.Empty not = absurd (not refl)
no_turn c hand.Asking not = refl
no_turn c hand.Answered not = refl

pub no_serve : (c : ℕ) (h : Hand) → h ≢ hand.Asking → serve_due c h ≡ None
no_serve c hand.Absent not = refl
no_serve c hand.Empty not = refl
no_serve c hand.Asking not = absurd (not refl)
no_serve c hand.Answered not = refl

pub no_take : (c : ℕ) (h : Hand) → h ≢ hand.Answered → take_due c h ≡ None
no_take c hand.Absent not = refl
no_take c hand.Empty not = refl
no_take c hand.Asking not = refl
no_take c hand.Answered not = absurd (not refl)

-- ---- what was performed

-- the stages of events that aren't turns
abbrev pub is_later : Stage → Bool
is_later ToTurn = false
is_later stage = true

due_quiet : (c : ℕ) (w : World) (stage : Stage) (e : Event) → is_later stage ≡ true → due c w stage ≡ Some e → is_turn e ≡ false
due_quiet c w ToTurn e later is = absurd (cc)
due_quiet c w ToServe e later is = by_hand (hand_at w c) is
  where
    by_hand : (h : Hand) → serve_due c h ≡ Some e → is_turn e ≡ false
    by_hand hand.Absent is = absurd (cc)
    by_hand hand.Empty is = absurd (cc)
    by_hand hand.Asking is = let s : event.Serve c ≡ e = cc in ap is_turn (sym s)
    by_hand hand.Answered is = absurd (cc)
due_quiet c w ToTake e later is = by_hand (hand_at w c) is
  where
    by_hand : (h : Hand) → take_due c h ≡ Some e → is_turn e ≡ false
    by_hand hand.Absent is = absurd (cc)
    by_hand hand.Empty is = absurd (cc)
    by_hand hand.Asking is = absurd (cc)
    by_hand hand.Answered is = let s : event.Take c ≡ e = cc in ap is_turn (sym s)
due_quiet c w (ToRecall x) e later is = let s : event.Recall x.owner x ≡ e = cc in ap is_turn (sym s)
due_quiet c w (OwnerToServe owner) e later is = let s : event.Serve owner ≡ e = cc in ap is_turn (sym s)
due_quiet c w (OwnerToTake owner) e later is = let s : event.Take owner ≡ e = cc in ap is_turn (sym s)
due_quiet c w Over e later is = absurd (cc)

later_after : (stage : Stage) (o : Outcome) → is_later (stage_after stage o) ≡ true
later_after ToTurn o = refl
later_after ToServe o = refl
later_after ToTake o = by_told (told_by o)
  where
    by_told : (t : Told) → is_later (stage_of t) ≡ true
    by_told told.Performed = refl
    by_told (told.Busy x) = refl
    by_told told.Gave = refl
    by_told told.Other = refl
later_after (ToRecall x) o = by_told (told_by o)
  where
    by_told : (t : Told) → is_later (stage_of_recall x.owner t) ≡ true
    by_told told.Performed = refl
    by_told (told.Busy y) = refl
    by_told told.Gave = refl
    by_told told.Other = refl
later_after (OwnerToServe owner) o = refl
later_after (OwnerToTake owner) o = refl
later_after Over o = refl

later_without : (stage : Stage) → is_later (stage_without stage) ≡ true
later_without ToTurn = refl
later_without ToServe = refl
later_without ToTake = refl
later_without (ToRecall x) = refl
later_without (OwnerToServe owner) = refl
later_without (OwnerToTake owner) = refl
later_without Over = refl

pub then_same : (c : ℕ) (w x y : World) → SameWork c w x → SameWork c x y → SameWork c w y
then_same c w x y a b = record { next = b.next ∙ a.next; log = b.log ∙ a.log; left = b.left ∙ a.left }

part_later : (c : ℕ) (from : Stage) (p : CoreParts) (es : List Event) (q : CoreParts) (to : Stage) → is_later from ≡ true → Part c from p es q to
    → (is_later to ≡ true) × SameWork c (world p) (world q)
part_later c from p es q to later begins = (later, same_work c (world p))
part_later c from p es q to later (makes fs r stage e o t x is made) =
    let so_far = part_later c from p fs r stage later x in (
      later_after stage o,
      then_same c (world p) (world r) (world t) so_far.1
          (leads_same r.config (world r) e o (world t) made.leads
          (leads_quiet r.config (world r) e o (world t) made.leads (due_quiet c (world r) stage e so_far.0 is)) c),
    )
part_later c from p es q to later (passes fs r stage x nothing) = let so_far = part_later c from p fs r stage later x in (later_without stage, so_far.1)

-- the later part of a round performs nothing
pub part_same : (c : ℕ) (p q : CoreParts) → IsPart c ToServe p q Over → SameWork c (world p) (world q)
part_same c p q x = let both = part_later c ToServe p x.events q Over refl x.part in both.1

performed_told : (o : Outcome) → told_by o ≡ told.Performed → is_performed o ≡ true
performed_told (outcome.Performed id) is = refl
performed_told (outcome.Dropped a) is = absurd (cc)
performed_told (outcome.Sent m) is = absurd (cc)
performed_told outcome.Ended is = absurd (cc)
performed_told outcome.Took is = absurd (cc)
performed_told (outcome.Busy x) is = absurd (cc)
performed_told (outcome.Gave m) is = absurd (cc)
performed_told outcome.Bumped is = absurd (cc)
performed_told (outcome.Served x) is = absurd (cc)
performed_told outcome.Spilled is = absurd (cc)
performed_told outcome.NoEffect is = absurd (cc)

not_performed : (o : Outcome) → told_by o ≢ told.Performed → is_performed o ≡ false
not_performed (outcome.Performed id) not = absurd (not refl)
not_performed (outcome.Dropped a) not = refl
not_performed (outcome.Sent m) not = refl
not_performed outcome.Ended not = refl
not_performed outcome.Took not = refl
not_performed (outcome.Busy x) not = refl
not_performed (outcome.Gave m) not = refl
not_performed outcome.Bumped not = refl
not_performed (outcome.Served x) not = refl
not_performed outcome.Spilled not = refl
not_performed outcome.NoEffect not = refl

pub turn_performs : (c : ℕ) (p q : CoreParts) → EventLeadsTelling p (event.Turn c) told.Performed q → HasPerformed c (world p) (world q)
turn_performs c p q made =
    leads_performs p.config (world p) (event.Turn c) made.outcome (world q) made.makes.leads (performed_told made.outcome (sym made.tells)) c refl

pub turn_performs_not : (c : ℕ) (p q : CoreParts) (t : Told) → EventLeadsTelling p (event.Turn c) t q → t ≢ told.Performed → SameWork c (world p) (world q)
turn_performs_not c p q t made not =
    leads_same p.config (world p) (event.Turn c) made.outcome (world q) made.makes.leads (not_performed made.outcome (λ is. not (made.tells ∙ is))) c

-- ---- a recall at its owner

pub recalled : (c : ℕ) (x : Recall) (p q : CoreParts) → EventLeadsTelling p (event.Recall x.owner x) told.Gave q → IsPart c (ToRecall x) p q (OwnerToServe x.owner)
recalled c x p q made =
    subst (λ (t : Told). IsPart c (ToRecall x) p q (stage_of_recall x.owner t)) (sym made.tells)
    (part_makes c (ToRecall x) p (event.Recall x.owner x) told.Gave q refl made)

pub not_recalled : (c : ℕ) (x : Recall) (p q : CoreParts) (t : Told) → t ≢ told.Gave → EventLeadsTelling p (event.Recall x.owner x) t q → IsPart c (ToRecall x) p q Over
not_recalled c x p q told.Gave not made = absurd (not refl)
not_recalled c x p q told.Performed not made =
    subst (λ (t : Told). IsPart c (ToRecall x) p q (stage_of_recall x.owner t)) (sym made.tells)
    (part_makes c (ToRecall x) p (event.Recall x.owner x) told.Performed q refl made)
not_recalled c x p q (told.Busy y) not made =
    subst (λ (t : Told). IsPart c (ToRecall x) p q (stage_of_recall x.owner t)) (sym made.tells)
    (part_makes c (ToRecall x) p (event.Recall x.owner x) (told.Busy y) q refl made)
not_recalled c x p q told.Other not made =
    subst (λ (t : Told). IsPart c (ToRecall x) p q (stage_of_recall x.owner t)) (sym made.tells)
    (part_makes c (ToRecall x) p (event.Recall x.owner x) told.Other q refl made)

-- ---- a reply that isn't Busy

pub over_unless_busy : (c : ℕ) (p q : CoreParts) (t : Told) → ((x : Recall) → t ≢ told.Busy x) → IsPart c ToTake p q (stage_of t) → IsPart c ToTake p q Over
over_unless_busy c p q told.Performed not part = part
over_unless_busy c p q (told.Busy x) not part = absurd (not x refl)
over_unless_busy c p q told.Gave not part = part
over_unless_busy c p q told.Other not part = part
