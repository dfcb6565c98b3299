-- The logs that are written anew are those that were read.
use Rattle.std.proofs.Common.{◌≡◌, subst, ℕ, List, vec_len}
use Rattle.std.specs.Borrow.{Bor}
use Rattle.std.specs.Global.{Vec}
use Rattle.command_line.specs.declared.request.Upgrade.{Upgrade}
use Rattle.log_record.specs.Entries.{record_lists}
use Rattle.log_record.specs.declared.format.Format.TheVariants.{Two}
use Rattle.log_record.specs.declared.record.Record.{Record}
use Rattle.host_files.specs.Files.{Files}
use Rattle.commands.specs.LogFiles.{Spelled}
use Rattle.commands.specs.Logs.{ArePut, TellsFirst}
use Rattle.commands.specs.Upgrading.{LeavesAnew, log_in}

pub anew : (old mid new : Files) (asked : Upgrade) (names : List (Bor (List ℕ))) (read written : List (Vec Record)) (n : ℕ) → names ≡ asked.files.items → written ≡ read
    → n ≡ vec_len asked.files → Spelled old.told names (λ logs. logs ≡ record_lists read)
    → ArePut Two mid new asked.out.now n (log_in (record_lists written)) → LeavesAnew old new asked
anew old mid new asked names read written n same items many (texts, tell, (logs, spell, is)) put =
    subst (λ (given : List (Bor (List ℕ))). Spelled old.told given (λ ls. TellsFirst Two new.told asked.out.now (vec_len asked.files) (log_in ls) (vec_len asked.files))) same
    (texts, tell, (logs, spell, rw (is, ← items, ← many) put.0.logs))
