-- The ranges of a configuration's numbers.
use Rattle.std.specs.Prelude.{ℕ, Bool, ◌&&◌, not, nat_le, Option, ◌∷◌, [], find}
use Rattle.lease_rule.specs.ConfigParts.{ConfigParts}
use Rattle.lease_rule.specs.declared.fault.BadConfig.{BadConfig}
use Rattle.lease_rule.specs.declared.fault.BadConfig.TheVariants.{Slices, Lease, Period, CacheLines, SliceLines, Inbox, Turns}

-- whether a number is from 1 to the greatest
abbrev pub is_within : ℕ → ℕ → Bool
is_within greatest n = nat_le 1 n && nat_le n greatest

abbrev pub is_in_range : ConfigParts → BadConfig → Bool
is_in_range c Slices = is_within 16 c.slices
is_in_range c Lease = is_within 1000 c.lease
is_in_range c Period = is_within 1000000 c.period
is_in_range c CacheLines = is_within 4096 c.cache_lines
is_in_range c SliceLines = is_within 65536 c.slice_lines
is_in_range c Inbox = is_within 1024 c.inbox
is_in_range c Turns = is_within 10000000 c.turns

-- the first number that is out of its range
abbrev pub first_bad : ConfigParts → Option BadConfig
first_bad c =
    find (λ number. not (is_in_range c number)) (Slices ∷ Lease ∷ Period ∷ CacheLines ∷ SliceLines ∷ Inbox ∷ Turns ∷ [])
