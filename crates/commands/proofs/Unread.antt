-- What is put takes the place of no file that is read.
use Rattle.std.proofs.Common.{arith, ◌∷◌, ℕ, suc, List, [], Option, None, Some, Bor, inl, inr, sym}
use Rattle.std.specs.Prelude.{Contains}
use Rattle.std.proofs.lemmas.List.Elements.{Contains-append_left}
use Rattle.commands.specs.Outputs.{IsNameOf}
use Rattle.command_line.specs.Files.{IsApart, files_put, files_read, names_given}
use Rattle.command_line.specs.declared.request.Request.{Request}
use Rattle.command_line.specs.declared.request.Request.TheVariants as request
use Rattle.commands.specs.Promises.{IsPutName}

-- a name that was given is among those that were
pub first : (given : Option (Bor (List ℕ))) (more : List (Option (Bor (List ℕ)))) (name : List ℕ) → IsNameOf given name → Contains (names_given (given ∷ more)) name
first None more name is = absurd is
first (Some given) more name is = (0, omega arith, sym is)

pub later : (given : Option (Bor (List ℕ))) (more : List (Option (Bor (List ℕ)))) (name : List ℕ) → Contains (names_given more) name
    → Contains (names_given (given ∷ more)) name
later None more name has = has
later (Some given) more name has = let (k, below, same) = has in (suc k, omega arith, same)

pub put_unread : (asked : Request) → IsApart asked → (name : List ℕ) → IsPutName asked name → ¬ (Contains (files_read asked) name)
put_unread (request.Explain asked) apart name is = apart.kept name (first asked.picture [] name is)
put_unread (request.Litmus asked) apart name is = apart.kept name (first asked.statistics [] name is)
put_unread (request.Upgrade asked) apart name is = λ has. apart.logs name is (Contains-append_left (files_read (request.Upgrade asked)) [] name has)
put_unread (request.Sim asked) apart name (inl (inl log)) = λ has. apart.logs name log (Contains-append_left (files_read (request.Sim asked)) (files_put (request.Sim asked)) name has)
put_unread (request.Sim asked) apart name (inl (inr is)) = apart.kept name (first asked.statistics (asked.events ∷ []) name is)
put_unread (request.Sim asked) apart name (inr is) = apart.kept name (later asked.statistics (asked.events ∷ []) name (first asked.events [] name is))
put_unread (request.Run asked) apart name (inl log) = λ has. apart.logs name log (Contains-append_left (files_read (request.Run asked)) (files_put (request.Run asked)) name has)
put_unread (request.Run asked) apart name (inr is) = apart.kept name (first asked.statistics [] name is)
put_unread (request.Search asked) apart name (inl is) = apart.kept name (first asked.order (asked.refutation ∷ asked.picture ∷ []) name is)
put_unread (request.Search asked) apart name (inr (inl is)) =
    apart.kept name (later asked.order (asked.refutation ∷ asked.picture ∷ []) name (first asked.refutation (asked.picture ∷ []) name is))
put_unread (request.Search asked) apart name (inr (inr is)) =
    apart.kept name (later asked.order (asked.refutation ∷ asked.picture ∷ []) name (later asked.refutation (asked.picture ∷ []) name (first asked.picture [] name is)))
put_unread other apart name is = absurd is
