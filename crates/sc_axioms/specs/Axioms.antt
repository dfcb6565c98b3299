-- Sequential consistency by the field's axioms, as herd's sc.cat has them: a trace is allowed if it has a candidate execution in which program order
-- (po), reads-from (rf), coherence order (co) and from-read (fr) together have no cycle.
use Rattle.std.specs.Prelude.{◌≡◌, ◌≢◌, ℕ, nat_lt, Bool, true, false, not, ◌==◌, ◌&&◌, ◌||◌, IsTrue, List, Some, is_some}
use Rattle.std.specs.Option.{option_map_or}
use Rattle.mem_op.specs.declared.id.OpId.{OpId}
use Rattle.mem_op.specs.declared.id.Source.{Source}
use Rattle.mem_op.specs.declared.id.Source.TheVariants.{Init, Store}
use Rattle.mem_op.specs.Consistency.{Operation, operation_at, is_same_id, is_store_to, word_left}
use Rattle.flat_replay.specs.Accesses.{address_of, word_read}

-- which write each read reads from, or the initial 0, and which write comes before which
pub record Candidate : Type 0 where
  pub reads_from : OpId → Source
  pub comes_before : OpId → OpId → Bool

-- both write one address
abbrev pub are_writes : Operation → Operation → Bool
are_writes y z = is_store_to (address_of y) y && is_store_to (address_of y) z

-- the operations of both ids are there and pass the test
abbrev pub both : List (List Operation) → (Operation → Operation → Bool) → OpId → OpId → Bool
both cores test a b = option_map_or (λ y. option_map_or (test y) (operation_at cores b) false) (operation_at cores a) false

-- this write is the source; this write comes after the source, and after the initial 0
abbrev pub is_source : Source → OpId → Bool
is_source Init w = false
is_source (Store s) w = is_same_id s w

abbrev pub is_after : Candidate → Source → OpId → Bool
is_after e Init w = true
is_after e (Store s) w = e.comes_before s w

abbrev pub po : List (List Operation) → OpId → OpId → Bool
po cores a b = both cores (λ y z. true) a b && (a.core == b.core) && nat_lt a.index b.index

abbrev pub rf : List (List Operation) → Candidate → OpId → OpId → Bool
rf cores e w r = both cores (λ y z. is_some (word_read z)) w r && is_source (e.reads_from r) w

abbrev pub co : List (List Operation) → Candidate → OpId → OpId → Bool
co cores e a b = both cores are_writes a b && e.comes_before a b

-- from a read to each other write of its address that comes after its source
abbrev pub fr : List (List Operation) → Candidate → OpId → OpId → Bool
fr cores e r w = both cores (λ y z. is_some (word_read y) && is_store_to (address_of y) z) r w && not (is_same_id r w) && is_after e (e.reads_from r) w

abbrev pub arrow : List (List Operation) → Candidate → OpId → OpId → Bool
arrow cores e a b = po cores a b || rf cores e a b || co cores e a b || fr cores e a b

-- the source has this word for this address: the initial 0, or a write of it
abbrev pub Gives : List (List Operation) → ℕ → ℕ → Source → Type 0
Gives cores addr word Init = word ≡ 0
Gives cores addr word (Store w) = (y : Operation) × (operation_at cores w ≡ Some y) × IsTrue (is_store_to addr y) × (word_left y ≡ word)

-- rf: each read has a source of its address and word. co: a strict order, in which of two writes of one address one comes first. A swap's source comes
-- before the swap, and no other write of the address stands between the two.
pub record IsWellFormed (cores : List (List Operation)) (e : Candidate) : Type 0 where
  pub sources : (r : OpId) (y : Operation) (word : ℕ) → operation_at cores r ≡ Some y → word_read y ≡ Some word → Gives cores (address_of y) word (e.reads_from r)
  pub irreflexive : (a : OpId) → e.comes_before a a ≡ false
  pub transitive : (a b c : OpId) → IsTrue (e.comes_before a b) → IsTrue (e.comes_before b c) → IsTrue (e.comes_before a c)
  pub total : (a b : OpId) → a ≢ b → IsTrue (both cores are_writes a b) → IsTrue (e.comes_before a b || e.comes_before b a)
  pub swaps : (s : OpId) → IsTrue (both cores (λ y z. is_some (word_read y) && are_writes y z) s s) → IsTrue (is_after e (e.reads_from s) s)
  pub between : (s w : OpId) → IsTrue (fr cores e s w) → IsTrue (co cores e w s) → ⊥

-- a path of arrows
pub data Leads (arrow : OpId → OpId → Bool) : OpId → OpId → Type 0 where
  one : {a b : OpId} → IsTrue (arrow a b) → Leads arrow a b
  more : {a b c : OpId} → IsTrue (arrow a b) → Leads arrow b c → Leads arrow a c

abbrev pub IsAcyclic : (OpId → OpId → Bool) → Type 0
IsAcyclic arrow = (id : OpId) → Leads arrow id id → ⊥

abbrev pub IsAllowed : List (List Operation) → Type 0
IsAllowed cores = (e : Candidate) × IsWellFormed cores e × IsAcyclic (arrow cores e)

-- Worked out by hand, on herd's texts.
--
-- SB, store buffering: 0.0 stores 1 at x and 0.1 loads 0 from y; 1.0 stores 1 at y and 1.1 loads 0 from x. No write stores 0, so both loads read from the
-- initial 0. Each address has one write, so this is the one candidate. Each write comes after the initial 0: fr leads from 0.1 to 1.0 and from 1.1 to
-- 0.0. So 0.0 po 0.1 fr 1.0 po 1.1 fr 0.0 is a cycle: forbidden. If 1.1 loads 1 instead, it reads from 0.0, and the arrows 0.0 po 0.1 fr 1.0 po 1.1 and
-- 0.0 rf 1.1 have no cycle: allowed.
--
-- MP, message passing: 0.0 stores 1 at x and 0.1 stores 1 at y; 1.0 loads 1 from y and 1.1 loads 0 from x. 1.0 reads from 0.1, the one write of a 1 at y,
-- and 1.1 from the initial 0. So 0.0 po 0.1 rf 1.0 po 1.1 fr 0.0 is a cycle: forbidden. If 1.1 loads 1, it reads from 0.0, and no arrow leads from core 1
-- to core 0: allowed.
--
-- Two swaps of x, 0.0 from 0 to 1 and 1.0 from 1 to 2: 0.0 rf 1.0, and 0.0 comes before 1.0 in co, so that each reads from the write just before its own:
-- allowed. If both read the initial 0, fr leads from each to the other, whichever comes first in co: forbidden.
