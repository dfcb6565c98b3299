-- The laws of the numbers.
use Rattle.std.proofs.Common.{◌≡◌, ℕ, ◌+◌, cond, Bool, true, false, List, [], ◌∷◌, length, count_by, refl, sym, ap, ◌∙◌, length-append, arith}
use Rattle.std.specs.Prelude.{◌&&◌, ◌==◌, Option, Some, None, if◌then◌else◌}
use Rattle.std.proofs.lemmas.List.Sums.{sum_by-cons}
use Rattle.line_stamps.specs.Messages.{addr_of}
use Rattle.line_stamps.specs.declared.message.Message.{Message}
use Rattle.line_stamps.specs.declared.message.Reply.{Reply}
use Rattle.lease_rule.specs.ConfigParts.{ConfigParts}
use Rattle.log_record.specs.declared.act.Act.TheVariants as act
use Rattle.log_record.specs.declared.record.Record.{Record}
use Rattle.manager_slice.specs.declared.managed.HistoryEntry.{HistoryEntry}
use Rattle.manager_slice.specs.declared.managed.HistoryEntry.TheVariants.{Evicted, Served}
use Rattle.core_unit.specs.Core.{new_core, record_of}
use Rattle.core_unit.specs.Core as unit
use Rattle.core_unit.specs.Kept.{Replays}
use Rattle.core_unit.specs.Parts.{UnitParts}
use Rattle.core_unit.specs.Replay.{CoreLeads, CoreStep, performs, drops, gives, gets, is_taken, bumps}
use Rattle.core_unit.specs.declared.entry.CoreEntry.{CoreEntry}
use Rattle.core_unit.specs.declared.entry.CoreEntry.TheVariants.{Performed, Dropped, Gave, Got, Bumped}
use Rattle.audit.specs.Lists.{history_of, picks, put, transcript_of}
use Rattle.audit.specs.Pairs.{got_at, served_at, slice_of}
use Rattle.statistics.specs.Columns.{counts}
use Rattle.statistics.specs.Laws.{LogsAreCounted, SumsAgree, count_of, is_got_from, is_served_to}
use Rattle.statistics.specs.Sights.{core_sights, no_past, past_after, sight_of, sights_after}
use Rattle.statistics.specs.declared.column.Column.TheVariants.{Operations, Loads, Stores, Swaps}
use Rattle.statistics.specs.declared.sight.Past.{Past}
use Rattle.statistics.specs.declared.sight.Sight.{Sight}
use Rattle.statistics.specs.declared.sight.Sight.TheVariants.{Operation, Core, Slice}

-- ---- operations

-- a core makes a record for each of its operations
step_logged : (period : ℕ) (log : List Record) (past : Past) (g : ConfigParts) (c : ℕ) (u : unit.Core) (e : CoreEntry) (v : unit.Core)
    → CoreStep g c u e v → length v.log ≡ length u.log + cond (counts Operations (sight_of period log past e)) 1 0
step_logged period log past g c u e v (performs x hit free next hits) = omega (arith, length-append u.log (record_of x hit ∷ []))
step_logged period log past g c u e v (drops a l free at) = omega arith
step_logged period log past g c u e v (gives kind a modified l asked free at) = omega arith
step_logged period log past g c u e v (gets x reply held free next misses place kind fills) = omega arith
step_logged period log past g c u e v (is_taken kind a l same) = omega arith
step_logged period log past g c u e v (bumps free) = omega arith

leads_logged : (period : ℕ) (log : List Record) (past : Past) (g : ConfigParts) (c : ℕ) (u : unit.Core) (es : List CoreEntry) (v : unit.Core)
    → CoreLeads g c u es v → length v.log ≡ length u.log + count_by (counts Operations) (sights_after period log past es)
leads_logged period log past g c u [] v h = let same = ap (λ (x : unit.Core). length x.log) h in omega (arith, same)
leads_logged period log past g c u (e ∷ es) v h =
    let next = past_after past e in
    let all = sum_by-cons (λ x. cond (counts Operations x) 1 0) (sight_of period log past e) (sights_after period log next es) in
    omega (arith, step_logged period log past g c u e h.0 h.1, all, leads_logged period log next g c h.0 es v h.2)

-- each has one act
one_kind : (s : Sight) → cond (counts Loads s) 1 0 + cond (counts Stores s) 1 0 + cond (counts Swaps s) 1 0 ≡ cond (counts Operations s) 1 0
one_kind (Operation (act.Load source) came due) = refl
one_kind (Operation act.Store came due) = refl
one_kind (Operation (act.Swap source word) came due) = refl
one_kind (Core e) = refl
one_kind (Slice e) = refl

kinds : (ss : List Sight) → count_by (counts Loads) ss + count_by (counts Stores) ss + count_by (counts Swaps) ss ≡ count_by (counts Operations) ss
kinds [] = refl
kinds (s ∷ ss) =
    let loads = sum_by-cons (λ x. cond (counts Loads x) 1 0) s ss in
    let stores = sum_by-cons (λ x. cond (counts Stores x) 1 0) s ss in
    let swaps = sum_by-cons (λ x. cond (counts Swaps x) 1 0) s ss in
    let all = sum_by-cons (λ x. cond (counts Operations x) 1 0) s ss in
    omega (arith, loads, stores, swaps, all, kinds ss, one_kind s)

operations : (p : UnitParts) → Replays p → count_of Operations p ≡ length p.log
operations p replays =
    let all : length p.log ≡ 0 + count_of Operations p = leads_logged p.config.period p.log no_past p.config p.core (new_core p.program) p.transcript _ replays.replay in
    omega (arith, all)

pub logs_are_counted : LogsAreCounted
logs_are_counted p replays = record { operations = operations p replays; acts = kinds (core_sights p) ∙ operations p replays }

-- ---- replies and messages

abbrev pub passes : {B : Type 0} → (B → Bool) → Option B → Bool
passes p None = false
passes p (Some y) = p y

pushed : {B : Type 0} (p : B → Bool) (o : Option B) (ys : List B) → cond (passes p o) 1 0 + count_by p ys ≡ count_by p (put o ys)
pushed p None ys = omega arith
pushed p (Some y) ys = sym (sum_by-cons (λ z. cond (p z) 1 0) y ys)

-- what is counted is what is picked
counted : {A B : Type 0} (f : A → Option B) (p : B → Bool) (q : A → Bool) → ((x : A) → q x ≡ passes p (f x)) → (xs : List A) → count_by q xs ≡ count_by p (picks f xs)
counted f p q same [] = refl
counted f p q same (x ∷ xs) =
    sum_by-cons (λ y. cond (q y) 1 0) x xs
    ∙ (ap (λ b. cond b 1 0 + count_by q xs) (same x) ∙ (ap (λ n. cond (passes p (f x)) 1 0 + n) (counted f p q same xs) ∙ pushed p (f x) (picks f xs)))

-- of a message and its reply
abbrev pub is_such : (Message → Bool) → (Reply → Bool) → Message × Reply → Bool
is_such asked answered pair = asked pair.0 && answered pair.1

chosen : (b : Bool) (asked : Message → Bool) (answered : Reply → Bool) (m : Message) (r : Reply)
    → (b && (asked m && answered r)) ≡ passes (is_such asked answered) (if b then Some (m, r) else None)
chosen true asked answered m r = refl
chosen false asked answered m r = refl

same_got : (n s : ℕ) (asked : Message → Bool) (answered : Reply → Bool) (e : CoreEntry) → is_got_from n s asked answered e ≡ passes (is_such asked answered) (got_at n s e)
same_got n s asked answered Performed = refl
same_got n s asked answered (Dropped a) = refl
same_got n s asked answered (Gave m) = refl
same_got n s asked answered (Got m r) = chosen (slice_of n (addr_of m) == s) asked answered m r
same_got n s asked answered Bumped = refl

same_served : (c : ℕ) (asked : Message → Bool) (answered : Reply → Bool) (e : HistoryEntry) → is_served_to c asked answered e ≡ passes (is_such asked answered) (served_at c e)
same_served c asked answered (Evicted a) = refl
same_served c asked answered (Served d m r) = chosen (d == c) asked answered m r

pub sums_agree : SumsAgree
sums_agree ts hs agrees c s core slice asked answered =
    counted (got_at (length hs) s) (is_such asked answered) (is_got_from (length hs) s asked answered) (same_got (length hs) s asked answered) (transcript_of ts c)
    ∙ (ap (count_by (is_such asked answered)) (sym (agrees c s core slice))
    ∙ sym (counted (served_at c) (is_such asked answered) (is_served_to c asked answered) (same_served c asked answered) (history_of hs s)))
