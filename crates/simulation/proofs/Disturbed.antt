-- A command that is drawn leaves each core the instructions that are left to it.
use Rattle.std.proofs.Common.{◌≡◌, ◌≤◌, ℕ, zero, suc, Bool, true, false, if◌then◌else◌, List, [], ◌∷◌, ◌++◌, refl, sym, ap, subst, ◌∙◌, arith}
use Rattle.std.specs.Prelude.{Option, Some, None, is_some, option_and_then, slice_get}
use Rattle.std.specs.List.{AllByRecursion}
use Rattle.std.specs.Option.{option_map, option_map_or}
use Rattle.rand_pcg.specs.Lcg.{Lcg}
use Rattle.lease_rule.specs.ConfigParts.{ConfigParts}
use Rattle.mem_op.specs.declared.id.Op.{Op}
use Rattle.core_unit.specs.Core.{Core, next_of, op_addr}
use Rattle.core_unit.specs.declared.outcome.Outcome.{Outcome}
use Rattle.simulation.specs.declared.command.Command.{Command}
use Rattle.simulation.specs.declared.command.Command.TheVariants as command
use Rattle.core_machine.specs.Machine.{World, CoreLeads, Leads, turn_hits, turn_drops, turn_gives, turn_asks, turn_ends, takes, takes_nothing, takes_busy, recall_gives, evict_drops, evict_gives, increments, by_core, serves, spills, no_effect}
use Rattle.core_machine.specs.Parts.{CoreParts, world}
use Rattle.core_machine.specs.Works.{has_next, left_at}
use Rattle.core_machine.specs.declared.event.Event.{Event}
use Rattle.core_machine.specs.declared.event.Event.TheVariants as event
use Rattle.core_machine.proofs.Placed.{stays_in_set}
use Rattle.simulation.specs.Commands.{CommandLeads, EventLeadsAnyhow}
use Rattle.simulation.specs.Drawing.{Disturbs, IsDrawnCommand, commands_at, cores_left, left_below, next_address}
use Rattle.simulation.proofs.Draws.{patience, patience_kept}
use Rattle.simulation.proofs.Left.{same_below}
use Rattle.simulation.proofs.Progress.{leads_falls}

-- what holds of all holds of one of them
one_of_all : {X : Type 0} (P : X → Type 0) (xs : List X) (n : ℕ) (x : X) → AllByRecursion P xs → slice_get xs n ≡ Some x → P x
one_of_all P [] n x all at = absurd cc
one_of_all P (y ∷ ys) zero x all at = let is : y ≡ x = cc in subst P is all.0
one_of_all P (y ∷ ys) (suc n) x all at = one_of_all P ys n x all.1 at

-- ---- the cores that are listed have an operation left

all_append : {X : Type 0} (P : X → Type 0) (xs ys : List X) → AllByRecursion P xs → AllByRecursion P ys → AllByRecursion P (xs ++ ys)
all_append P [] ys all more = more
all_append P (x ∷ xs) ys all more = (all.0, all_append P xs ys all.1 more)

all_next : (w : World) (n : ℕ) → AllByRecursion (λ c. has_next w c ≡ true) (left_below w n)
all_next w zero = tt
all_next w (suc n) = all_append (λ c. has_next w c ≡ true) (left_below w n) (if has_next w n then n ∷ [] else []) (all_next w n) (last (has_next w n) refl)
  where
    last : (b : Bool) → has_next w n ≡ b → AllByRecursion (λ c. has_next w c ≡ true) (if b then n ∷ [] else [])
    last true is = (is, tt)
    last false is = tt

no_address : (o : Option Core) → option_and_then (λ u. option_map op_addr (next_of u)) o ≡ None → option_map_or (λ u. is_some (next_of u)) o false ≡ false
no_address None none = refl
no_address (Some u) none = go (next_of u) none
  where
    go : (o : Option Op) → option_map op_addr o ≡ None → is_some o ≡ false
    go None none = refl
    go (Some op) none = absurd cc

pub listed_has_address : (w : World) (n c : ℕ) → slice_get (cores_left w) n ≡ Some c → next_address w c ≡ None → ⊥
unfolding cores_left
listed_has_address w n c at none =
    let on = one_of_all (λ d. has_next w d ≡ true) (left_below w 64) n c (all_next w 64) at in
    let both : true ≡ false = sym on ∙ no_address (slice_get w.cores c) none in
    cc

-- ---- what a command leaves

-- the commands that may be drawn
abbrev IsDrawable : Command → Type 0
IsDrawable (command.Recall x) = Unit {0}
IsDrawable (command.Evict c a) = Unit {0}
IsDrawable (command.Spill a) = Unit {0}
IsDrawable (command.Bump c) = Unit {0}
IsDrawable x = ⊥

drawable : (g : Lcg) (w : World) (x : Command) → IsDrawnCommand g w x → IsDrawable x
drawable g w x drawn = one_of_all IsDrawable (commands_at drawn.core drawn.address) _ x (tt, (tt, (tt, (tt, (tt, tt))))) drawn.command_is

abbrev leads_on : Core → Bool
leads_on u = is_some (next_of u)

-- it isn't a turn
abbrev IsNoTurn : Event → Type 0
IsNoTurn e = (i : ℕ) → e ≡ event.Turn i → ⊥

core_same : (g : ConfigParts) (c : ℕ) (u : Core) (e : Event) (o : Outcome) (v : Core) → CoreLeads g c u e o v → IsNoTurn e → leads_on v ≡ leads_on u
core_same g c u e o v (turn_hits op hit h n t) spare = absurd (spare c refl)
core_same g c u e o v (turn_drops op b l h n t p held) spare = refl
core_same g c u e o v (turn_gives op b modified l h n t p held) spare = refl
core_same g c u e o v (turn_asks op h n t p) spare = refl
core_same g c u e o v (turn_ends h n) spare = refl
core_same g c u e o v (takes m x held h k f p is) spare = refl
core_same g c u e o v (takes_nothing m h k r) spare = refl
core_same g c u e o v (takes_busy m x h k r) spare = refl
core_same g c u e o v (recall_gives x modified l h held) spare = refl
core_same g c u e o v (evict_drops b l h held) spare = refl
core_same g c u e o v (evict_gives b modified l h held) spare = refl
core_same g c u e o v (increments h) spare = refl

leads_same : (d : ℕ) (g : ConfigParts) (w : World) (e : Event) (o : Outcome) (t : World) → Leads g w e o t → IsNoTurn e → has_next t d ≡ has_next w d
leads_same d g w e o t (by_core i x y u v at leads) spare = stays_in_set leads_on false w.cores i d u v at (core_same g i u x y v leads spare)
leads_same d g w e o t (serves i u m x entries s r at h k there handled) spare = stays_in_set leads_on false w.cores i d u (record u { kept = Some x }) at refl
leads_same d g w e o t (spills a s r there evicted) spare = refl
leads_same d g w e o t (no_effect x barred) spare = refl

-- what a drawn command leaves core d
record LeavesAt (d : ℕ) (w t : World) : Type 0 where
  next : has_next t d ≡ has_next w d
  left : left_at t d ≤ left_at w d

event_leaves : (p q : CoreParts) (e : Event) → EventLeadsAnyhow p e q → IsNoTurn e → (d : ℕ) → LeavesAt d (world p) (world q)
event_leaves p q e (o, made) spare d = record {
  next = leads_same d p.config (world p) e o (world q) made.leads spare;
  left = (leads_falls p.config (world p) e o (world q) made.leads d).left;
}

command_leaves : (p q : CoreParts) (x : Command) → IsDrawable x → CommandLeads p x q → (d : ℕ) → LeavesAt d (world p) (world q)
command_leaves p q (command.Recall x) is did d = event_leaves p q (event.Recall x.owner x) did (λ i e. cc) d
command_leaves p q (command.Evict c a) is did d = event_leaves p q (event.Evict c a) did (λ i e. cc) d
command_leaves p q (command.Spill a) is did d = event_leaves p q (event.Spill a) did (λ i e. cc) d
command_leaves p q (command.Bump c) is did d = event_leaves p q (event.Increment c) did (λ i e. cc) d
command_leaves p q x is did d = absurd is

-- the cores that haven't ended are the same
pub disturbed_left : (g : Option Lcg) (p q : CoreParts) → Disturbs g p q → cores_left (world q) ≡ cores_left (world p)
unfolding cores_left
disturbed_left None p q same = ap (λ (t : CoreParts). left_below (world t) 64) same
disturbed_left (Some g) p q (x, drawn, did) =
    same_below (world p) (world q) 64 (λ d. (command_leaves p q x (drawable g (world p) x drawn) did d).next)

-- and they have no more patience
pub disturbed_patience : (g : Option Lcg) (p q : CoreParts) (waits : List ℕ) → Disturbs g p q → patience q waits ≤ patience p waits
disturbed_patience None p q waits same = rw same (omega arith)
disturbed_patience (Some g) p q waits (x, drawn, did) =
    patience_kept p q waits (λ d. (command_leaves p q x (drawable g (world p) x drawn) did d).left)
