-- A line that goes back, from its eviction to the taking of the reply.
use Rattle.std.proofs.Common.{◌≡◌, ◌∙◌, ℕ, zero, suc, ◌-◌, ◌<◌, Bool, true, false, cond, refl, ap, subst, arith}
use Rattle.std.specs.Prelude.{if◌then◌else◌, nat_lt, [], ◌∷◌, ◌++◌, length, Option, Some, None, Ok, is_some}
use Rattle.std.specs.Cmp.{nat_cmp_total}
use Rattle.std.specs.FinMap as map
use Rattle.std.specs.FinMap.{empty_of_len, get-empty, len-remove}
use Rattle.std.specs.Ordering.{nat_cmp}
use Rattle.line_stamps.specs.declared.line.Line.{Line}
use Rattle.line_stamps.specs.declared.message.Message.{Message}
use Rattle.line_stamps.specs.declared.message.Message.TheVariants.{FlushRep}
use Rattle.line_stamps.specs.declared.message.Reply.{Reply}
use Rattle.line_stamps.specs.declared.message.Reply.TheVariants.{ShRep, ExRep, RenewRep, UpgradeRep, Taken, Busy}
use Rattle.manager_slice.specs.Limits.{entry_limit}
use Rattle.private_cache.specs.CacheParts.{CacheParts}
use Rattle.private_cache.specs.Steps.{is_exclusive, line_at, without}
use Rattle.private_cache.specs.declared.held.Held.{Held}
use Rattle.private_cache.specs.declared.held.Held.TheVariants.{Shared, Exclusive}
use Rattle.core_unit.specs.Outcomes.{OutcomeLeads, Refuses, Steps, eviction, evict_outcome, hand_outcome, reply_outcome, unless_barred, without_hand}
use Rattle.core_unit.specs.Parts.{UnitParts}
use Rattle.core_unit.specs.declared.entry.CoreEntry.TheVariants as entry
use Rattle.core_unit.specs.declared.fault.UnitFault.TheVariants.{TranscriptFull}
use Rattle.core_unit.specs.declared.outcome.Outcome.TheVariants.{Dropped, Gave, Took}
use Rattle.machine.specs.inner.Giving.{HasTaken}

-- the Exclusive line of address a is gone from p, and q has its FLUSH_REP in hand
record Flushes (p : UnitParts) (a : ℕ) (q : UnitParts) : Type 0 where
  pub line : Line
  pub exclusive : is_exclusive (line_at p.cache a) ≡ true
  pub cache : q.cache ≡ without p.cache a
  pub hand : q.hand ≡ Some (FlushRep a line)

-- an eviction that gives a message
flushes : (p q : UnitParts) (a : ℕ) (m : Message) → OutcomeLeads (evict_outcome p a) (Ok (Gave m)) p q → Flushes p a q
flushes p q a m met = by_hand p.hand met
  where
    with_room : (l : Line) (room : Bool) → is_exclusive (line_at p.cache a) ≡ true → OutcomeLeads (if room then Steps (Gave (FlushRep a l))
        (record p { cache = without p.cache a; hand = Some (FlushRep a l); transcript = p.transcript ++ entry.Gave (FlushRep a l) ∷ [] })
        else Refuses TranscriptFull) (Ok (Gave m)) p q → Flushes p a q
    with_room l true is both =
        record { line = l; exclusive = is; cache = ap (λ u. u.cache) both.1; hand = ap (λ u. u.hand) both.1 }
    with_room l false is both = let refused = both.0 in absurd (cc)

    dropped : (room : Bool) → OutcomeLeads (if room then Steps (Dropped a)
        (record p { cache = without p.cache a; transcript = p.transcript ++ entry.Dropped a ∷ [] })
        else Refuses TranscriptFull) (Ok (Gave m)) p q → ⊥
    dropped true both = let told = both.0 in cc
    dropped false both = let refused = both.0 in cc

    at_line : (held : Option Held) → line_at p.cache a ≡ held → OutcomeLeads (eviction p (λ m. Gave m) a held) (Ok (Gave m)) p q → Flushes p a q
    at_line None is both = let told = both.0 in absurd (cc)
    at_line (Some (Shared l)) is both = absurd (dropped (nat_lt (length p.transcript) entry_limit) both)
    at_line (Some (Exclusive modified l)) is both = with_room l (nat_lt (length p.transcript) entry_limit) (ap is_exclusive is) both

    by_hand : (hand : Option Message) → OutcomeLeads (unless_barred p hand (eviction p (λ m. Gave m) a (line_at p.cache a))) (Ok (Gave m)) p q → Flushes p a q
    by_hand None both = at_line (line_at p.cache a) refl both
    by_hand (Some given) both = let told = both.0 in absurd (cc)

-- nothing is in hand any more, and the lines are those that were there
record LetsGo (p q : UnitParts) : Type 0 where
  pub hand : q.hand ≡ None
  pub cache : q.cache ≡ p.cache

-- the reply to a FLUSH_REP was taken
lets_go : (p q : UnitParts) (a : ℕ) (l : Line) (reply : Reply) → p.hand ≡ Some (FlushRep a l) → HasTaken p reply q → LetsGo p q
lets_go p q a l reply given taken = by_reply reply (subst (λ h. OutcomeLeads (hand_outcome p reply h) (Ok taken.outcome) p q) given taken.takes)
  where
    with_room : (room : Bool) → OutcomeLeads (if room then Steps Took
        (record (without_hand p) { transcript = p.transcript ++ entry.Got (FlushRep a l) Taken ∷ [] })
        else Refuses TranscriptFull) (Ok taken.outcome) p q → LetsGo p q
    with_room true both = record { hand = ap (λ u. u.hand) both.1; cache = ap (λ u. u.cache) both.1 }
    with_room false both = let refused = both.0 in absurd (cc)

    by_reply : (x : Reply) → OutcomeLeads (reply_outcome p (FlushRep a l) x) (Ok taken.outcome) p q → LetsGo p q
    by_reply (ShRep line) both = let refused = both.0 in absurd (cc)
    by_reply (ExRep line) both = let refused = both.0 in absurd (cc)
    by_reply (RenewRep rts) both = let refused = both.0 in absurd (cc)
    by_reply (UpgradeRep rts) both = let refused = both.0 in absurd (cc)
    by_reply Taken both = with_room (nat_lt (length p.transcript) entry_limit) both
    by_reply (Busy recall) both = let refused = both.0 in absurd (cc)

-- without an Exclusive line there are fewer
fewer : (c : CacheParts) (a : ℕ) → is_exclusive (line_at c a) ≡ true → map.len (without c a).lines < map.len c.lines
fewer c a exclusive = with_len (map.len c.lines) refl
  where
    is_there : (held : Option Held) → is_exclusive held ≡ true → is_some held ≡ true
    is_there None is = absurd (cc)
    is_there (Some held) is = refl

    with_len : (n : ℕ) → map.len c.lines ≡ n → map.len (without c a).lines < map.len c.lines
    with_len zero none =
        let empty = subst (λ m. is_exclusive (map.get m a) ≡ true) (empty_of_len c.lines none) exclusive in
        let gone : false ≡ true = subst (λ h. is_exclusive h ≡ true) (get-empty nat_cmp a) empty in
        absurd (cc)
    with_len (suc n) some =
        let left : map.len (without c a).lines ≡ map.len c.lines - 1 =
        len-remove nat_cmp_total c.lines a ∙ ap (λ b. cond b (map.len c.lines - 1) (map.len c.lines)) (is_there (line_at c a) exclusive) in
        omega arith

-- a line that went back, and whose reply was taken, is one less
pub falls : (p given q : UnitParts) (a : ℕ) (m : Message) (reply : Reply) → OutcomeLeads (evict_outcome p a) (Ok (Gave m)) p given
    → HasTaken given reply q → map.len q.cache.lines < map.len p.cache.lines
falls p given q a m reply met taken =
    let gone = flushes p given a m met in
    let same = (lets_go given q a gone.line reply gone.hand taken).cache ∙ gone.cache in
    rw same (fewer p.cache a gone.exclusive)
