-- Stores that are kept by their words.
use Rattle.std.specs.Prelude.{ℕ, Option}
use Rattle.std.specs.declared.cmp.Ordering.{Ordering}
use Rattle.std.specs.Ordering.{nat_cmp, ordering_then}
use Rattle.std.specs.BTreeMap.{get}
use Rattle.mem_op.specs.Parts.{IdParts}
use Rattle.trace_replay.specs.declared.stores_by_word.StoresByWord.{StoresByWord}

-- the order of keys: by address, and then by word
abbrev pub place_cmp : ℕ × ℕ → ℕ × ℕ → Ordering
place_cmp x y = ordering_then (nat_cmp x.0 y.0) (nat_cmp x.1 y.1)

-- the store of this word to this address that is kept
abbrev pub kept_store : StoresByWord → ℕ → ℕ → Option IdParts
kept_store kept addr word = get place_cmp kept.stores (addr, word)
