-- What each core of the machine has in hand and has performed, as seen by those who make its events.
use Rattle.std.specs.Prelude.{◌≡◌, ℕ, ◌<◌, Bool, true, false, [], ◌∷◌, ◌++◌, Option, Some, None, slice_get}
use Rattle.std.specs.Option.{option_map_or}
use Rattle.line_stamps.specs.declared.message.Message.{Message}
use Rattle.line_stamps.specs.declared.message.Reply.{Reply}
use Rattle.log_record.specs.declared.record.Record.{Record}
use Rattle.core_machine.specs.Machine.{World}
use Rattle.core_machine.specs.Works.{has_next, log_at, left_at}
use Rattle.tardis_core.specs.declared.rounds.hand.Hand.{Hand}
use Rattle.tardis_core.specs.declared.rounds.hand.Hand.TheVariants as hand

-- ---- what core c has in hand

abbrev pub hand_of : Option Message → Option Reply → Hand
hand_of None kept = hand.Empty
hand_of (Some m) None = hand.Asking
hand_of (Some m) (Some x) = hand.Answered

abbrev pub hand_at : World → ℕ → Hand
hand_at w c = option_map_or (λ u. hand_of u.hand u.kept) (slice_get w.cores c) hand.Absent

-- ---- its operations

-- from w to t core c performed one operation, and then it has no message in hand
pub record HasPerformed (c : ℕ) (w t : World) : Type 0 where
  pub had_next : has_next w c ≡ true
  pub made : Record
  pub log : log_at t c ≡ log_at w c ++ made ∷ []
  pub left : left_at t c < left_at w c
  pub hand : hand_at t c ≡ hand.Empty

-- from w to t it performed none
pub record SameWork (c : ℕ) (w t : World) : Type 0 where
  pub next : has_next t c ≡ has_next w c
  pub log : log_at t c ≡ log_at w c
  pub left : left_at t c ≡ left_at w c

-- whether it performed one
abbrev pub Worked : ℕ → Bool → World → World → Type 0
Worked c false w t = SameWork c w t
Worked c true w t = HasPerformed c w t
