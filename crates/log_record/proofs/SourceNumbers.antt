-- The number of a store tells it.
use Rattle.std.specs.Prelude.{◌≡◌, suc, ◌+◌, ◌*◌, ◌/◌, ◌%◌, ◌<◌}
use Rattle.std.proofs.Common.{◌∙◌, ap, arith}
use Rattle.std.proofs.lemmas.Nat.{div-mul-add, mod-mul-add}
use Rattle.mem_op.specs.Limits.{operation_limit}
use Rattle.mem_op.specs.declared.id.OpId.{OpId}
use Rattle.mem_op.specs.declared.id.Source.TheVariants.{Store}
use Rattle.log_record.specs.SourceNumbers.{numbered, store_number}

pub store_told : (id : OpId) → id.index < operation_limit → numbered (store_number id) ≡ Store id
store_told id small =
    let core : (id.core * operation_limit + id.index) / operation_limit ≡ id.core = div-mul-add id.core operation_limit id.index small in
    let index : (id.core * operation_limit + id.index) % operation_limit ≡ id.index = mod-mul-add id.core operation_limit id.index small in
    let one_more : store_number id ≡ suc (id.core * operation_limit + id.index) = omega arith in
    ap numbered one_more ∙ (λ j. Store (record { core = core j; index = index j }))
