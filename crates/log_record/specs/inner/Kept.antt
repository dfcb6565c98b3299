-- What the code keeps of what it reads: a value whose numbers are in range; of a header or an end line, each number
-- that fits in 64 bits.
use Rattle.std.specs.Prelude.{ℕ, ◌^◌, ◌&&◌, Bool, nat_le, nat_lt, if◌then◌else◌, Option, Some, None, option_and_then, option_map}
use Rattle.decimal_text.specs.Numbers.{as_u64}
use Rattle.decimal_text.specs.Reading.{◌>>=◌}
use Rattle.mem_op.specs.Limits.{operation_limit}
use Rattle.mem_op.specs.declared.id.Source.{Source}
use Rattle.mem_op.specs.declared.id.Source.TheVariants as source
use Rattle.log_record.specs.declared.act.Act.{Act}
use Rattle.log_record.specs.declared.act.Act.TheVariants as act
use Rattle.log_record.specs.declared.record.Record.{Record}
use Rattle.log_record.specs.declared.format.Format.{Format}
use Rattle.log_record.specs.declared.header.Header.{Header}
use Rattle.log_record.specs.declared.end.End.{End}

unfoldable pub source_kept : Source → Option Source
source_kept source.Init = Some source.Init
source_kept (source.Store id) = if nat_lt id.core 64 && nat_lt id.index operation_limit then Some (source.Store id) else None

unfoldable pub act_kept : Act → Option Act
act_kept act.Store = Some act.Store
act_kept (act.Load s) = option_map (λ kept. act.Load kept) (source_kept s)
act_kept (act.Swap s read) = option_and_then (λ kept. option_map (λ word. act.Swap kept word) (as_u64 read)) (source_kept s)

-- the numbers beside the act are in range
abbrev pub numbers_fit : Record → Bool
numbers_fit r = nat_lt r.value (2 ^ 64) && (nat_le r.ts 281474976710656 && (nat_lt r.rank 4294967296 && nat_lt r.addr 65536))

unfoldable pub record_kept : Record → Option Record
record_kept r =
    act_kept r.act >>= λ a. if numbers_fit r then Some (record { value = r.value; ts = r.ts; rank = r.rank; addr = r.addr; act = a }) else None

abbrev pub header_parts : Format × (ℕ × ℕ) → Header
header_parts x = record { format = x.0; core = as_u64 x.1.0; cores = as_u64 x.1.1 }

abbrev pub end_parts : ℕ → End
end_parts n = record { count = as_u64 n }
