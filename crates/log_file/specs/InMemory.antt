-- What contracts read from the devices in memory.
use Rattle.std.specs.Prelude.{ℕ, ◌+◌, min, List, Option, Some, None, slice_get}
use Rattle.std.specs.Option.{option_map, option_map_or}
use Rattle.log_file.specs.declared.mem_source.MemSource.{MemSource}
use Rattle.log_file.specs.declared.mem_sink.MemSink.{MemSink}
use Rattle.log_file.specs.declared.slice_source.SliceSource.{SliceSource}
use Rattle.log_file.specs.declared.step.Step.{Step}
use Rattle.log_file.specs.declared.step.Step.TheVariants.{Move, Fail}

-- the limit of a step, which is one less than the most bytes that its call moves; none if the call fails
abbrev pub limit_by : Step → Option ℕ
limit_by (Move limit) = Some limit
limit_by Fail = None

-- the limit of the first step; if no step is left, it is the largest `usize`, so that a call moves all it can
abbrev pub limit_of : List Step → Option ℕ
limit_of steps = option_map_or limit_by (slice_get steps 0) (Some 18446744073709551615)

-- how many bytes a call moves by the first step if there are this many to move; none if the call fails
abbrev pub moved_of : List Step → ℕ → Option ℕ
moved_of steps many = option_map (λ limit. min many (limit + 1)) (limit_of steps)

-- the bytes that haven't been read yet
abbrev pub bytes_left : MemSource → List ℕ
bytes_left source = source.bytes.now

-- what the reads from here on do
abbrev pub reads_to_come : MemSource → List Step
reads_to_come source = source.steps.now

abbrev pub failed_reads : MemSource → ℕ
failed_reads source = source.failures

-- the bytes of a slice that haven't been read yet
abbrev pub rest_of : SliceSource → List ℕ
rest_of source = source.bytes.now

abbrev pub bytes_taken : MemSink → List ℕ
bytes_taken sink = sink.taken.items

-- what the writes from here on do
abbrev pub writes_to_come : MemSink → List Step
writes_to_come sink = sink.steps.now

abbrev pub failed_writes : MemSink → ℕ
failed_writes sink = sink.failures
