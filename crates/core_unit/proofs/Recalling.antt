-- What a core unit keeps through a recall.
use Rattle.std.proofs.Common.{◌≡◌, ◌<◌, [], ◌∷◌, ◌++◌, length, refl}
use Rattle.manager_slice.specs.Limits.{entry_limit}
use Rattle.std.specs.Prelude.{Option, Some, None}
use Rattle.line_stamps.specs.declared.message.Message.{Message}
use Rattle.line_stamps.specs.declared.message.Recall.{Recall}
use Rattle.private_cache.specs.Answers.{give_back, recall_answer}
use Rattle.private_cache.specs.CacheParts.{CacheParts}
use Rattle.private_cache.specs.Steps.{after_recall, line_at}
use Rattle.private_cache.specs.Table.{given, recalled}
use Rattle.private_cache.specs.declared.held.Held.{Held}
use Rattle.private_cache.specs.declared.held.Held.TheVariants.{Shared, Exclusive}
use Rattle.core_unit.specs.Kept.{IsKept}
use Rattle.core_unit.specs.Parts.{UnitParts}
use Rattle.core_unit.specs.declared.entry.CoreEntry.TheVariants as entry
use Rattle.core_unit.proofs.Keeping.{kept_given}

-- the line of a recall goes back by this message
pub kept_recall : (p : UnitParts) (k : IsKept p) → length p.transcript < entry_limit → p.hand ≡ None → (recall : Recall) (m : Message) (cache : CacheParts)
    → let back = recalled recall p.config.lease (line_at p.cache recall.addr) in
    Some m ≡ recall_answer recall back → cache ≡ after_recall p.cache recall back
    → IsKept (record p { cache = cache; hand = Some m; transcript = p.transcript ++ entry.Gave m ∷ [] })
kept_recall p k room free recall m cache = by_held (line_at p.cache recall.addr) refl
  where
    by_held : (held : Option Held) → line_at p.cache recall.addr ≡ held
        → let back = recalled recall p.config.lease held in
        Some m ≡ recall_answer recall back → cache ≡ after_recall p.cache recall back
        → IsKept (record p { cache = cache; hand = Some m; transcript = p.transcript ++ entry.Gave m ∷ [] })
    by_held None there answer after = absurd (cc)
    by_held (Some (Shared l)) there answer after = absurd (cc)
    by_held (Some (Exclusive modified l)) there answer after =
        let same : m ≡ give_back recall.kind recall.addr (given recall.kind l recall.rts p.config.lease) = cc in
        rw (same, after) (kept_given p k room free recall modified l there)
