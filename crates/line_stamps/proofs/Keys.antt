-- The order of keys is total, and keys that tie are one.
use Rattle.std.specs.Prelude.{◌≡◌, refl}
use Rattle.std.specs.declared.cmp.Ordering.{Ordering}
use Rattle.std.specs.declared.cmp.Ordering.TheVariants.{Less, Equal, Greater}
use Rattle.std.specs.Cmp.{IsTotalOrder}
use Rattle.std.specs.Ordering.{nat_cmp, ordering_then}
use Rattle.std.proofs.lemmas.Cmp.{nat_cmp_total, on_total, then_total}
use Rattle.std.proofs.lemmas.Map.Lookups.{exact_unsigned}
use Rattle.line_stamps.specs.KeyParts.{KeyParts}
use Rattle.line_stamps.specs.KeyOrder.{key_cmp}

pub key_total : IsTotalOrder key_cmp
key_total =
    then_total (on_total (λ k. k.ts) nat_cmp_total)
    (then_total (on_total (λ k. k.rank) nat_cmp_total)
    (then_total (on_total (λ k. k.core) nat_cmp_total) (on_total (λ k. k.index) nat_cmp_total)))

pub both_equal : (r s : Ordering) → ordering_then r s ≡ Equal → (r ≡ Equal) × (s ≡ Equal)
both_equal Less s h = cc
both_equal Equal s h = (refl, h)
both_equal Greater s h = cc

pub tied_keys : (a b : KeyParts) → key_cmp a b ≡ Equal → a ≡ b
tied_keys a b h =
    let by_ts = both_equal (nat_cmp a.ts b.ts) _ h in
    let by_rank = both_equal (nat_cmp a.rank b.rank) _ by_ts.1 in
    let by_core = both_equal (nat_cmp a.core b.core) (nat_cmp a.index b.index) by_rank.1 in
    let ts : a.ts ≡ b.ts = exact_unsigned _ _ by_ts.0 in
    let rank : a.rank ≡ b.rank = exact_unsigned _ _ by_rank.0 in
    let core : a.core ≡ b.core = exact_unsigned _ _ by_core.0 in
    let index : a.index ≡ b.index = exact_unsigned _ _ by_core.1 in
    λ i. record { ts = ts i; rank = rank i; core = core i; index = index i }
