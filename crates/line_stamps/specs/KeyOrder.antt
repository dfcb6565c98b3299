-- The order of keys: by stamp, then rank, then core, then index.
use Rattle.std.specs.declared.cmp.Ordering.{Ordering}
use Rattle.std.specs.Ordering.{nat_cmp, on, then_cmp}
use Rattle.line_stamps.specs.KeyParts.{KeyParts}

abbrev pub key_cmp : KeyParts → KeyParts → Ordering
key_cmp =
    then_cmp (on (λ k. k.ts) nat_cmp)
    (then_cmp (on (λ k. k.rank) nat_cmp)
    (then_cmp (on (λ k. k.core) nat_cmp) (on (λ k. k.index) nat_cmp)))
