-- What contracts read from a std device in its wrapper.
use Rattle.std.specs.Prelude.{ℕ}
use Rattle.log_file.specs.declared.byte_source.FromRead.{FromRead}
use Rattle.log_file.specs.declared.byte_sink.FromWrite.{FromWrite}

abbrev pub reader_of : {R : Type 0} → FromRead R → R
reader_of source = source.reader

abbrev pub failed_reads : {R : Type 0} → FromRead R → ℕ
failed_reads source = source.failures

abbrev pub writer_of : {W : Type 0} → FromWrite W → W
writer_of sink = sink.writer

abbrev pub failed_writes : {W : Type 0} → FromWrite W → ℕ
failed_writes sink = sink.failures
