-- The parts of a private cache.
use Rattle.std.specs.Prelude.{ℕ, List, refl}
use Rattle.std.specs.Coded.{Coded, code_by, coded×, coded_list, coded_ℕ}
use Rattle.std.specs.Ordering.{nat_cmp}
use Rattle.std.specs.FinMap as map
use Rattle.std.specs.FinMap.{FinMap}
use Rattle.private_cache.specs.declared.held.Held.{Held}
use Rattle.private_cache.specs.contracts.held.Held as held

-- the lines by their addresses
abbrev pub Lines : Type 0
Lines = FinMap nat_cmp Held

-- the lines, their addresses from the most to the least recently used, and how many lines there may be
pub record CacheParts : Type 0 where
  pub lines : Lines
  pub order : List ℕ
  pub capacity : ℕ

abbrev pub lines_code : Coded Lines
lines_code = map.code coded_ℕ held.the_row.coded

-- a code by which a proof tells two caches apart
abbrev pub cache_code : Coded CacheParts
cache_code =
    code_by (Lines × (List ℕ × ℕ)) (coded× lines_code (coded× (coded_list coded_ℕ) coded_ℕ))
    (λ c. (c.lines, (c.order, c.capacity))) (λ p. record { lines = p.0; order = p.1.0; capacity = p.1.1 }) (λ _. refl)
