-- What a call of a core unit comes to.
use Rattle.std.specs.Prelude.{Bool, true, false, ◌≡◌, ◌<◌, ◌≤◌, ◌⊎◌, ℕ, List, if◌then◌else◌, nat_lt, [], ◌∷◌, ◌++◌, length, Option, Some, None, Result, Ok, Err, MatchResult}
use Rattle.std.specs.Option.{option_or}
use Rattle.mem_op.specs.declared.id.Op.{Op}
use Rattle.line_stamps.specs.declared.fault.StampFault.{StampFault}
use Rattle.line_stamps.specs.declared.line.Line.{Line}
use Rattle.line_stamps.specs.declared.message.Message.{Message}
use Rattle.line_stamps.specs.declared.message.Message.TheVariants.{FlushRep}
use Rattle.line_stamps.specs.declared.message.Recall.{Recall}
use Rattle.line_stamps.specs.declared.message.Reply.{Reply}
use Rattle.line_stamps.specs.declared.message.Reply.TheVariants as reply
use Rattle.private_cache.specs.Answers.{past_limit, hit_fault, give_fault, give_back}
use Rattle.private_cache.specs.Steps.{line_at, used, without, after_recall, has_room, fill_line, least_recently_used}
use Rattle.private_cache.specs.Table.{Hit, recalled}
use Rattle.private_cache.specs.declared.held.Held.{Held}
use Rattle.private_cache.specs.declared.held.Held.TheVariants.{Shared, Exclusive}
use Rattle.line_stamps.specs.Messages.{addr_of}
use Rattle.manager_slice.specs.Limits.{entry_limit}
use Rattle.manager_slice.specs.Messages.{is_request}
use Rattle.core_unit.specs.Core.{next_of, op_addr, next_id, tries, next_request, after_hit, has_bumped, fits}
use Rattle.core_unit.specs.Parts.{UnitParts, core_of}
use Rattle.core_unit.specs.declared.entry.CoreEntry.{CoreEntry}
use Rattle.core_unit.specs.declared.entry.CoreEntry.TheVariants as entry
use Rattle.core_unit.specs.declared.fault.UnitFault.{UnitFault}
use Rattle.core_unit.specs.declared.fault.UnitFault.TheVariants.{BadReply, TranscriptFull, Stamp, OutOfMemory}
use Rattle.core_unit.specs.declared.outcome.Outcome.{Outcome}
use Rattle.core_unit.specs.declared.outcome.Outcome.TheVariants.{Performed, Dropped, Sent, Ended, Took, Busy, Gave, Bumped, NoEffect}

pub data UnitOutcome : Type 0 where
  -- a refusal that is due
  Refuses : UnitFault → UnitOutcome
  -- an outcome that makes no entry and isn't refused for lack of memory, and the unit after it
  Answers : Outcome → UnitParts → UnitOutcome
  -- an outcome that makes an entry, and the unit after it
  Steps : Outcome → UnitParts → UnitOutcome

-- the call, with this result, led from p to q as the outcome says; a step may be refused only for lack of memory
abbrev pub OutcomeLeads : UnitOutcome → Result Outcome UnitFault → UnitParts → UnitParts → Type 0
OutcomeLeads (Refuses fault) r p q = (r ≡ Err fault) × (q ≡ p)
OutcomeLeads (Answers o t) r p q = (r ≡ Ok o) × (q ≡ t)
OutcomeLeads (Steps o t) r p q =
    MatchResult r (λ x. (x ≡ o) × (q ≡ t)) (λ fault. (fault ≡ OutOfMemory) × (q ≡ p))

-- one more entry is refused with this fault
abbrev pub IsLackOfRoom : List CoreEntry → UnitFault → Type 0
IsLackOfRoom transcript fault =
    ((fault ≡ TranscriptFull) × (entry_limit ≤ length transcript)) ⊎ ((fault ≡ OutOfMemory) × (length transcript < entry_limit))

abbrev pub unless_faulty : Option StampFault → UnitOutcome → UnitOutcome
unless_faulty None outcome = outcome
unless_faulty (Some fault) outcome = Refuses (Stamp fault)

-- p makes this entry and is q after it, unless the transcript is full or a stamp or rank is above its limit
abbrev pub recorded : UnitParts → CoreEntry → Option StampFault → Outcome → UnitParts → UnitOutcome
recorded p e fault o q =
    if nat_lt (length p.transcript) entry_limit
    then unless_faulty fault (Steps o (record q { transcript = p.transcript ++ e ∷ [] }))
    else Refuses TranscriptFull

-- ---- an eviction

-- the line of address a goes; `tells` is the outcome if it is given back
abbrev pub eviction : UnitParts → (Message → Outcome) → ℕ → Option Held → UnitOutcome
eviction p tells a None = Answers NoEffect p
eviction p tells a (Some (Shared l)) =
    recorded p (entry.Dropped a) None (Dropped a) (record p { cache = without p.cache a })
eviction p tells a (Some (Exclusive modified l)) =
    recorded p (entry.Gave (FlushRep a l)) None (tells (FlushRep a l)) (record p { cache = without p.cache a; hand = Some (FlushRep a l) })

-- ---- a turn

-- the unit after an operation that has hit
abbrev pub performed : UnitParts → Op → Hit → UnitParts
performed p x hit =
    let u = after_hit p.config (core_of p None) x hit in
    record p { state = u.state; pts = u.pts; r = u.r; cache = used p.cache (op_addr x) hit.held; log = u.log }

-- the cache's fault comes before that of the self-increment
abbrev pub perform_fault : UnitParts → Op → Hit → Option StampFault
perform_fault p x hit = option_or (hit_fault (Some hit)) (past_limit (performed p x hit).pts 0)

-- a miss asks for its line if there is room for it; else the least recently used line has to go first
abbrev pub miss_outcome : UnitParts → Op → Bool → Option ℕ → UnitOutcome
miss_outcome p x true oldest =
    let m = next_request (core_of p None) x in
    Answers (Sent m) (record p { hand = Some m })
miss_outcome p x false None = Answers NoEffect p
miss_outcome p x false (Some victim) = eviction p (λ m. Sent m) victim (line_at p.cache victim)

abbrev pub op_outcome : UnitParts → Op → Option Hit → UnitOutcome
op_outcome p x (Some hit) =
    recorded p entry.Performed (perform_fault p x hit) (Performed (next_id p.core (core_of p None))) (performed p x hit)
op_outcome p x None = miss_outcome p x (has_room p.cache (op_addr x)) (least_recently_used p.cache)

abbrev pub next_outcome : UnitParts → Option Op → UnitOutcome
next_outcome p None = Answers Ended p
next_outcome p (Some x) = op_outcome p x (tries p.core (core_of p None) x)

-- a message in hand bars every call but the taking of a reply
abbrev pub unless_barred : UnitParts → Option Message → UnitOutcome → UnitOutcome
unless_barred p None outcome = outcome
unless_barred p (Some m) outcome = Answers NoEffect p

abbrev pub turn_outcome : UnitParts → UnitOutcome
turn_outcome p = unless_barred p p.hand (next_outcome p (next_of (core_of p None)))

-- ---- a reply to the message in hand

abbrev pub without_hand : UnitParts → UnitParts
without_hand p = record p { hand = None }

-- the reply makes this the line, or is refused because it doesn't fit
abbrev pub fill_outcome : UnitParts → Message → Reply → Option Held → UnitOutcome
fill_outcome p m x None = Refuses BadReply
fill_outcome p m x (Some held) =
    recorded p (entry.Got m x) None Took (record (without_hand p) { cache = used p.cache (addr_of m) held })

abbrev pub reply_outcome : UnitParts → Message → Reply → UnitOutcome
reply_outcome p m (reply.Busy recall) = if is_request m then Answers (Busy recall) (without_hand p) else Refuses BadReply
reply_outcome p m reply.Taken = if is_request m then Refuses BadReply else recorded p (entry.Got m reply.Taken) None Took (without_hand p)
reply_outcome p m x = if fits m x then fill_outcome p m x (fill_line p.cache (addr_of m) x) else Refuses BadReply

abbrev pub hand_outcome : UnitParts → Reply → Option Message → UnitOutcome
hand_outcome p x None = Refuses BadReply
hand_outcome p x (Some m) = reply_outcome p m x

abbrev pub take_outcome : UnitParts → Reply → UnitOutcome
take_outcome p x = hand_outcome p x p.hand

-- ---- a recall, an eviction and a self-increment

-- the core gives this line back, or has none to give back
abbrev pub give_outcome : UnitParts → Recall → Option Line → UnitOutcome
give_outcome p recall None = Answers NoEffect p
give_outcome p recall (Some l) =
    let m = give_back recall.kind recall.addr l in
    recorded p (entry.Gave m) (give_fault (Some l)) (Gave m)
    (record p { cache = after_recall p.cache recall (Some l); hand = Some m })

abbrev pub recall_outcome : UnitParts → Recall → UnitOutcome
recall_outcome p recall =
    unless_barred p p.hand (give_outcome p recall (recalled recall p.config.lease (line_at p.cache recall.addr)))

abbrev pub evict_outcome : UnitParts → ℕ → UnitOutcome
evict_outcome p a = unless_barred p p.hand (eviction p (λ m. Gave m) a (line_at p.cache a))

abbrev pub increment_outcome : UnitParts → UnitOutcome
increment_outcome p =
    let u = has_bumped (core_of p None) in
    unless_barred p p.hand (recorded p entry.Bumped (past_limit u.pts 0) Bumped (record p { pts = u.pts; r = u.r }))
