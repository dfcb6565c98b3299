use Rattle.std.proofs.Common.{◌<◌, length, sym, ◌∙◌}
use Rattle.manager_slice.specs.Limits.{entry_limit}
use Rattle.private_cache.specs.Steps.{line_at}
use Rattle.core_unit.specs.Parts.{UnitParts}
use Rattle.core_unit.proofs.Gone.{not_both, nothing_lent, was_owned, was_shared, was_nothing}
use Rattle.core_unit.proofs.Keeping.{kept_dropped, kept_flushed}
use Rattle.core_unit.proofs.unit.CoreUnit.evict_line.Goals.{in-GiveBack, in-Dropped, in-Nothing}
use Rattle.core_unit.proofs.unit.CoreUnit.evict_line.Goals as goal

pub invariant_of-self-2 : goal.invariant_of-self-2
invariant_of-self-2 c =
    let was : UnitParts = record { core = c.self.inside.core; program = c.self.inside.program; config = c.self.inside.config; state = c.self.inside.state; pts = c.self.inside.pts; r = c.self.inside.r; cache = c.self.inside.cache; hand = c.self.inside.hand; transcript = c.self.inside.transcript.entries; log = c.self.inside.log.items } in
    let room : length was.transcript < entry_limit = c.in_ok-make_room.ensures.fits in
    let free = rw (← c.self.view_is) at c.requires in
    let a = c.args.addr in
    let held = line_at was.cache a in
    elim c.match-evict.branch [
      | in-GiveBack w ↦
          let gone = was_owned a held w.in-GiveBack.message (sym w.in-GiveBack.is ∙ c.evict.ensures.answer) in
          rw (w.self-inside-is, w.push.ensures, c.in_ok-make_room.ensures.entries, c.evict.ensures.after, gone.flushed)
          (kept_flushed was c.self.invariant room free a gone.modified gone.line gone.there)
      | in-Dropped w ↦
          let gone = was_shared a held (sym w.in-Dropped.is ∙ c.evict.ensures.answer) in
          rw (w.self-inside-is, w.push-in-Dropped.ensures, c.in_ok-make_room.ensures.entries, c.evict.ensures.after)
          (kept_dropped was c.self.invariant room free a gone.line gone.there)
      | in-Nothing w ↦
          let none = was_nothing a held (sym w.in-Nothing.is ∙ c.evict.ensures.answer) in
          let lent = nothing_lent c.line.result (c.line.ensures ∙ none) in
          let gone = rw lent at c.is_none.ensures in
          absurd (not_both c.is_none.result gone c.if-is_none.false)
    ]
