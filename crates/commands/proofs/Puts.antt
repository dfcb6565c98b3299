-- A refutation and its picture that are put, one after the other.
use Rattle.std.proofs.Common.{◌≡◌, ◌∙◌, ℕ, List, Bor, Option, None, Some, inl, inr}
use Rattle.host_files.specs.Files.{Files, KeepsFiles}
use Rattle.commands.specs.Outputs.{HoldsAt, IsNameOf, PutsAt}
use Rattle.command_line.specs.declared.request.Search.{Search}
use Rattle.commands.specs.Searching.{IsOutputName}

-- the file holds the bytes that were put
pub put_holds : (old new : Files) (given : Option (Bor (List ℕ))) (bytes text : List ℕ) → bytes ≡ text → PutsAt old new given bytes → HoldsAt new.told given (λ put. put ≡ text)
put_holds old new None bytes text same puts = tt
put_holds old new (Some name) bytes text same puts = (bytes, puts.told, same)

pub keeps_first : (old between : Files) (asked : Search) → KeepsFiles old.told between.told (IsNameOf asked.refutation) → KeepsFiles old.told between.told (IsOutputName asked)
keeps_first old between asked keeps name none = keeps name (λ is. none (inr (inl is)))

pub keeps_both : (old between new : Files) (asked : Search) → KeepsFiles old.told between.told (IsNameOf asked.refutation)
    → KeepsFiles between.told new.told (IsNameOf asked.picture) → KeepsFiles old.told new.told (IsOutputName asked)
keeps_both old between new asked first second name none = second name (λ is. none (inr (inr is))) ∙ first name (λ is. none (inr (inl is)))

-- an order alone
pub keeps_order : (old new : Files) (asked : Search) → KeepsFiles old.told new.told (IsNameOf asked.order) → KeepsFiles old.told new.told (IsOutputName asked)
keeps_order old new asked keeps name none = keeps name (λ is. none (inl is))
